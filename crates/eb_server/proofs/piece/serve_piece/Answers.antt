use Rattle.std.proofs.Common.{ap, sym, subst, List, ℕ}
use Rattle.std.specs.Prelude.{Err}
use Rattle.eb_io.specs.Writing.{Took, WroteFront}
use Rattle.eb_server.specs.declared.ending.Ending.{Ending}
use Rattle.eb_server.specs.Piece.{ServesPiece}
use Rattle.eb_server.proofs.PieceLemmas.{told_end, stopped_after, failed_by}
use Rattle.eb_server.proofs.piece.serve_piece.Goals as goal

pub returns-then-is_err-clause-served : goal.returns-then-is_err-clause-served
returns-then-is_err-clause-served g c =
    let wrote : WroteFront (g.K.Sink.writing c.args.sink.now) (g.K.Sink.writing c.put_all.new.sink) c.run_piece.new.replies.items =
    subst (λ (l : List ℕ). WroteFront (g.K.Sink.writing c.args.sink.now) (g.K.Sink.writing c.put_all.new.sink) l) c.deref.ensures.value
    (failed_by _ _ c.deref.result.now c.put_all.result c.if-is_err.ensures.value c.put_all.ensures.wrote.all) in (
      c.run_piece.new.replies.items,
      wrote,
      c.finish.new.self.errors,
      c.finish.result,
      stopped_after (g.M.Master.identity c.args.master.now).number (g.M.Master.identity c.run_piece.new.master).number c.args.session.now c.run_piece.new.session c.finish.new.self
          (g.M.Master.cycles c.args.master.now) (g.M.Master.cycles c.run_piece.new.master) (g.M.Master.cycles c.finish.new.master) c.args.piece.now c.run_piece.new.replies.items c.finish.result
          (ap (λ q. q.number) c.in-Ok.ensures.identity) c.in-Ok.ensures.slave c.in-Ok.ensures.ran c.finish.ensures.finished,
    )

pub returns-in-Ok-put_all-clause-served : goal.returns-in-Ok-put_all-clause-served
returns-in-Ok-put_all-clause-served g c =
    let took : Took (g.K.Sink.writing c.args.sink.now) (g.K.Sink.writing c.put_all-in-Err.new.sink) c.run_piece.new.replies.items =
    subst (λ (l : List ℕ). Took (g.K.Sink.writing c.args.sink.now) (g.K.Sink.writing c.put_all-in-Err.new.sink) l) c.deref-in-Err.ensures.value c.in-Ok-put_all.ensures.wrote.all in
    subst (λ (e : Ending). ServesPiece (g.M.Master.identity c.args.master.now).number c.args.session.now (g.M.Master.cycles c.args.master.now) (g.K.Sink.writing c.args.sink.now) c.args.piece.now
    c.run_piece.new.session (g.M.Master.cycles c.run_piece.new.master) (g.K.Sink.writing c.put_all-in-Err.new.sink) (Err e)) (sym c.ending_of.ensures.value)
    (told_end (g.M.Master.identity c.args.master.now).number c.args.session.now c.run_piece.new.session (g.M.Master.cycles c.args.master.now) (g.M.Master.cycles c.run_piece.new.master)
    (g.K.Sink.writing c.args.sink.now) (g.K.Sink.writing c.put_all-in-Err.new.sink) c.args.piece.now c.run_piece.new.replies.items c.in-Err.end c.in-Err.ensures.ran took)

pub returns-in-Err-put_all-clause-served : goal.returns-in-Err-put_all-clause-served
returns-in-Err-put_all-clause-served g c =
    let wrote : WroteFront (g.K.Sink.writing c.args.sink.now) (g.K.Sink.writing c.put_all-in-Err.new.sink) c.run_piece.new.replies.items =
    subst (λ (l : List ℕ). WroteFront (g.K.Sink.writing c.args.sink.now) (g.K.Sink.writing c.put_all-in-Err.new.sink) l) c.deref-in-Err.ensures.value c.in-Err-put_all.ensures.wrote.all in
    (c.run_piece.new.replies.items, wrote, c.run_piece.new.session.errors, c.in-Err.end, c.in-Err.ensures.ran.1)

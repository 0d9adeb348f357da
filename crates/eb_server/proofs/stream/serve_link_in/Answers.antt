use Rattle.std.proofs.Common.{◌≡◌, ℕ, ◌+◌, ◌-◌, ◌≤◌, ◌^◌, List, length, take, sym, ap, ◌∙◌, subst, arith, length-take}
use Rattle.std.specs.Prelude.{Err}
use Rattle.eb_io.specs.Reading.{Reading}
use Rattle.eb_io.specs.Writing.{Writing}
use Rattle.eb_server.specs.declared.ending.Ending.{Ending}
use Rattle.eb_server.specs.declared.ending.Ending.TheVariants as ending
use Rattle.eb_server.specs.Serving.{Served, ending_of}
use Rattle.eb_server.specs.Piece.{GoesOn, ServesPiece}
use Rattle.eb_server.proofs.ServingLemmas.{ServesTo, serves_none, serves_more, serves_stopped, serves_end, serves_failed, serves_most}
use Rattle.eb_server.proofs.stream.serve_link_in.Goals as goal

pub reading-init : goal.reading-init
reading-init g c = record {
  within = omega arith;
  pending = omega (arith, ap (λ s. length s.progress.pending) c.requires.fresh);
  fits = omega arith;
  serves = serves_none (g.M.Master.identity c.args.master.now).number (g.M.Master.cycles c.args.master.now) (g.L.Source.reading c.args.link.now) (g.L.Sink.writing c.args.link.now) c.args.session.now c.requires.fresh c.requires.none_open;
  identity = λ i. g.M.Master.identity c.args.master.now;
}

pub reading-preserved : goal.reading-preserved
reading-preserved g c =
    let still : g.L.Sink.beside_writes c.serve_piece.new.sink ≡ g.L.Sink.beside_writes c.read_front.new.link → g.L.Source.reading c.serve_piece.new.sink ≡ g.L.Source.reading c.read_front.new.link = λ e. sym (g.met.L.Link.tells_reads c.serve_piece.new.sink) ∙ e ∙ g.met.L.Link.tells_reads c.read_front.new.link in
    let piece : List ℕ = take c.in-Some.count c.read_front.new.room in
    let i = c.reading.invariant in
    let some = c.in-Some.ensures.reads in
    let within : c.in-Some.count ≤ 2 ^ 40 - c.reading.read = omega (arith, some.1, c.read_front.auto.room, length-take c.min-count.result c.reading.room, c.min-count.ensures) in
    let size : length piece ≡ c.in-Some.count = omega (arith, length-take c.in-Some.count c.read_front.new.room, some.1) in
    record {
      within = omega (arith, within, c.reading-test.true, i.within);
      pending = c.in-Ok.ensures.pending;
      fits = omega (arith, i.fits, c.in-Ok.ensures.room);
      serves = subst (λ (q : Reading). ServesTo (g.M.Master.identity c.args.master.now).number c.args.session.now.slave (g.M.Master.cycles c.args.master.now) (g.M.Master.cycles c.serve_piece.new.master) (g.L.Source.reading c.args.link.now) q (g.L.Sink.writing c.args.link.now) (g.L.Sink.writing c.serve_piece.new.sink) (c.reading.read + c.in-Some.count) c.serve_piece.new.session) (sym (still c.in-Ok.ensures.beside))
          (serves_more (g.M.Master.identity c.args.master.now).number c.args.session.now.slave (g.M.Master.cycles c.args.master.now) (g.M.Master.cycles c.reading.master)
          (g.L.Source.reading c.args.link.now) (g.L.Source.reading c.reading.link) (g.L.Sink.writing c.args.link.now) (g.L.Sink.writing c.reading.link) c.reading.read c.reading.session c.reading.invariant.serves
          (g.M.Master.identity c.reading.master).number c.in-Some.count (g.M.Master.cycles c.serve_piece.new.master) (g.L.Source.reading c.read_front.new.link) (g.L.Sink.writing c.serve_piece.new.sink) c.serve_piece.new.session piece
          (ap (λ q. q.number) i.identity) size some.2 (subst (λ (q : Writing). GoesOn (g.M.Master.identity c.reading.master).number c.reading.session (g.M.Master.cycles c.reading.master) q piece c.serve_piece.new.session (g.M.Master.cycles c.serve_piece.new.master) (g.L.Sink.writing c.serve_piece.new.sink)) c.in-Some.ensures.writing c.in-Ok.ensures.served) c.in-Ok.ensures.slave);
      identity = c.in-Ok.ensures.identity ∙ i.identity;
    }

pub returns-in-Err-clause-served : goal.returns-in-Err-clause-served
returns-in-Err-clause-served g c =
    let still : g.L.Sink.beside_writes c.serve_piece.new.sink ≡ g.L.Sink.beside_writes c.read_front.new.link → g.L.Source.reading c.serve_piece.new.sink ≡ g.L.Source.reading c.read_front.new.link = λ e. sym (g.met.L.Link.tells_reads c.serve_piece.new.sink) ∙ e ∙ g.met.L.Link.tells_reads c.read_front.new.link in
    let piece : List ℕ = take c.in-Some.count c.read_front.new.room in
    let some = c.in-Some.ensures.reads in
    let fits : c.reading.read + length piece ≤ 2 ^ 40 =
    omega (arith, length-take c.in-Some.count c.read_front.new.room, some.1, c.read_front.auto.room, length-take c.min-count.result c.reading.room, c.min-count.ensures, c.reading-test.true) in
    subst (λ (q : Reading). Served (g.M.Master.identity c.args.master.now).number c.args.session.now.slave (g.M.Master.cycles c.args.master.now) (g.M.Master.cycles c.serve_piece.new.master) (g.L.Source.reading c.args.link.now) q (g.L.Sink.writing c.args.link.now) (g.L.Sink.writing c.serve_piece.new.sink) c.in-Err.ending) (sym (still c.in-Err.ensures.beside))
    (serves_stopped (g.M.Master.identity c.args.master.now).number c.args.session.now.slave (g.M.Master.cycles c.args.master.now) (g.M.Master.cycles c.reading.master)
    (g.L.Source.reading c.args.link.now) (g.L.Source.reading c.reading.link) (g.L.Sink.writing c.args.link.now) (g.L.Sink.writing c.reading.link) c.reading.read c.reading.session c.reading.invariant.serves
    (g.M.Master.identity c.reading.master).number (g.M.Master.cycles c.serve_piece.new.master) (g.L.Source.reading c.read_front.new.link) (g.L.Sink.writing c.serve_piece.new.sink) c.serve_piece.new.session piece c.in-Err.ending
    (ap (λ q. q.number) c.reading.invariant.identity) some.2 fits (subst (λ (q : Writing). ServesPiece (g.M.Master.identity c.reading.master).number c.reading.session (g.M.Master.cycles c.reading.master) q piece c.serve_piece.new.session (g.M.Master.cycles c.serve_piece.new.master) (g.L.Sink.writing c.serve_piece.new.sink) (Err c.in-Err.ending)) c.in-Some.ensures.writing c.in-Err.ensures.served))

pub returns-in-End-clause-served : goal.returns-in-End-clause-served
returns-in-End-clause-served g c =
    subst (λ (e : Ending). Served (g.M.Master.identity c.args.master.now).number c.args.session.now.slave (g.M.Master.cycles c.args.master.now) (g.M.Master.cycles c.finish.new.master)
    (g.L.Source.reading c.args.link.now) (g.L.Source.reading c.read_front.new.link) (g.L.Sink.writing c.args.link.now) (g.L.Sink.writing c.read_front.new.link) e) (sym c.ending_of.ensures.value)
    (subst (λ (q : Writing). Served (g.M.Master.identity c.args.master.now).number c.args.session.now.slave (g.M.Master.cycles c.args.master.now) (g.M.Master.cycles c.finish.new.master) (g.L.Source.reading c.args.link.now) (g.L.Source.reading c.read_front.new.link) (g.L.Sink.writing c.args.link.now) q (ending_of c.finish.result)) (sym c.in-End.ensures.writing)
    (serves_end (g.M.Master.identity c.args.master.now).number c.args.session.now.slave (g.M.Master.cycles c.args.master.now) (g.M.Master.cycles c.reading.master)
    (g.L.Source.reading c.args.link.now) (g.L.Source.reading c.reading.link) (g.L.Sink.writing c.args.link.now) (g.L.Sink.writing c.reading.link) c.reading.read c.reading.session c.reading.invariant.serves
    (g.M.Master.identity c.reading.master).number (g.M.Master.cycles c.finish.new.master) (g.L.Source.reading c.read_front.new.link) c.finish.new.self c.finish.result
    (ap (λ q. q.number) c.reading.invariant.identity) c.in-End.ensures.reads.0 c.in-End.ensures.reads.1 (omega (arith, c.reading-test.true)) c.finish.ensures.finished))

pub returns-in-Failed-clause-served : goal.returns-in-Failed-clause-served
returns-in-Failed-clause-served g c =
    subst (λ (q : Writing). Served (g.M.Master.identity c.args.master.now).number c.args.session.now.slave (g.M.Master.cycles c.args.master.now) (g.M.Master.cycles c.finish-in-Failed.new.master) (g.L.Source.reading c.args.link.now) (g.L.Source.reading c.read_front.new.link) (g.L.Sink.writing c.args.link.now) q ending.ReadFault) (sym c.in-Failed.ensures.writing)
    (serves_failed (g.M.Master.identity c.args.master.now).number c.args.session.now.slave (g.M.Master.cycles c.args.master.now) (g.M.Master.cycles c.reading.master)
    (g.L.Source.reading c.args.link.now) (g.L.Source.reading c.reading.link) (g.L.Sink.writing c.args.link.now) (g.L.Sink.writing c.reading.link) c.reading.read c.reading.session c.reading.invariant.serves
    (g.M.Master.identity c.reading.master).number (g.M.Master.cycles c.finish-in-Failed.new.master) (g.L.Source.reading c.read_front.new.link) c.finish-in-Failed.new.self c.finish-in-Failed.result
    (ap (λ q. q.number) c.reading.invariant.identity) c.in-Failed.ensures.reads (omega (arith, c.reading-test.true)) c.finish-in-Failed.ensures.finished)

pub returns-clause-served : goal.returns-clause-served
returns-clause-served g c =
    serves_most (g.M.Master.identity c.args.master.now).number c.args.session.now.slave (g.M.Master.cycles c.args.master.now) (g.M.Master.cycles c.reading.master)
    (g.L.Source.reading c.args.link.now) (g.L.Source.reading c.reading.link) (g.L.Sink.writing c.args.link.now) (g.L.Sink.writing c.reading.link) c.reading.read c.reading.session c.reading.invariant.serves
    (g.M.Master.identity c.reading.master).number (g.M.Master.cycles c.finish-2.new.master) c.finish-2.new.self c.finish-2.result
    (ap (λ q. q.number) c.reading.invariant.identity) (omega (arith, c.reading-test.false, c.reading.invariant.within)) c.finish-2.ensures.finished

use Rattle.std.proofs.Common.{◌≡◌, ℕ, ◌+◌, ◌-◌, ◌≤◌, ◌^◌, List, length, take, sym, ap, ◌∙◌, subst, arith, length-take}
use Rattle.eb_server.specs.declared.ending.Ending.{Ending}
use Rattle.eb_server.specs.Serving.{Served}
use Rattle.eb_server.proofs.ServingLemmas.{serves_none, serves_more, serves_stopped, serves_end, serves_failed, serves_most}
use Rattle.eb_server.proofs.serving.serve_in.Goals as goal

pub reading-init : goal.reading-init
reading-init g c = record {
  within = omega arith;
  pending = omega (arith, ap (λ s. length s.progress.pending) c.requires.fresh);
  fits = omega arith;
  serves = serves_none (g.M.Master.identity c.args.master.now).number (g.M.Master.cycles c.args.master.now) (g.S.Source.reading c.args.source.now) (g.K.Sink.writing c.args.sink.now) c.args.session.now c.requires.fresh c.requires.none_open;
  identity = λ i. g.M.Master.identity c.args.master.now;
  beside_reads = λ i. g.S.Source.beside_reads c.args.source.now;
  beside_writes = λ i. g.K.Sink.beside_writes c.args.sink.now;
}

pub reading-preserved : goal.reading-preserved
reading-preserved g c =
    let piece : List ℕ = take c.in-Some.count c.read.new.room in
    let i = c.reading.invariant in
    let some = c.in-Some.ensures.reads in
    let within : c.in-Some.count ≤ 2 ^ 40 - c.reading.read = omega (arith, some.1, c.read.auto.room, length-take c.min-count.result c.reading.room, c.min-count.ensures) in
    let size : length piece ≡ c.in-Some.count = omega (arith, length-take c.in-Some.count c.read.new.room, some.1) in
    record {
      within = omega (arith, within, c.reading-test.true, i.within);
      pending = c.in-Ok.ensures.pending;
      fits = omega (arith, i.fits, c.in-Ok.ensures.room);
      serves = serves_more (g.M.Master.identity c.args.master.now).number c.args.session.now.slave (g.M.Master.cycles c.args.master.now) (g.M.Master.cycles c.reading.master)
          (g.S.Source.reading c.args.source.now) (g.S.Source.reading c.reading.source) (g.K.Sink.writing c.args.sink.now) (g.K.Sink.writing c.reading.sink) c.reading.read c.reading.session c.reading.invariant.serves
          (g.M.Master.identity c.reading.master).number c.in-Some.count (g.M.Master.cycles c.serve_piece.new.master) (g.S.Source.reading c.read.new.self) (g.K.Sink.writing c.serve_piece.new.sink) c.serve_piece.new.session piece
          (ap (λ q. q.number) i.identity) size some.2 c.in-Ok.ensures.served c.in-Ok.ensures.slave;
      identity = c.in-Ok.ensures.identity ∙ i.identity;
      beside_reads = c.in-Some.ensures.beside ∙ i.beside_reads;
      beside_writes = c.in-Ok.ensures.beside ∙ i.beside_writes;
    }

pub returns-in-Err-clause-served : goal.returns-in-Err-clause-served
returns-in-Err-clause-served g c =
    let piece : List ℕ = take c.in-Some.count c.read.new.room in
    let some = c.in-Some.ensures.reads in
    let fits : c.reading.read + length piece ≤ 2 ^ 40 =
    omega (arith, length-take c.in-Some.count c.read.new.room, some.1, c.read.auto.room, length-take c.min-count.result c.reading.room, c.min-count.ensures, c.reading-test.true) in
    serves_stopped (g.M.Master.identity c.args.master.now).number c.args.session.now.slave (g.M.Master.cycles c.args.master.now) (g.M.Master.cycles c.reading.master)
    (g.S.Source.reading c.args.source.now) (g.S.Source.reading c.reading.source) (g.K.Sink.writing c.args.sink.now) (g.K.Sink.writing c.reading.sink) c.reading.read c.reading.session c.reading.invariant.serves
    (g.M.Master.identity c.reading.master).number (g.M.Master.cycles c.serve_piece.new.master) (g.S.Source.reading c.read.new.self) (g.K.Sink.writing c.serve_piece.new.sink) c.serve_piece.new.session piece c.in-Err.ending
    (ap (λ q. q.number) c.reading.invariant.identity) some.2 fits c.in-Err.ensures.served

pub returns-in-End-clause-served : goal.returns-in-End-clause-served
returns-in-End-clause-served g c =
    subst (λ (e : Ending). Served (g.M.Master.identity c.args.master.now).number c.args.session.now.slave (g.M.Master.cycles c.args.master.now) (g.M.Master.cycles c.finish.new.master)
    (g.S.Source.reading c.args.source.now) (g.S.Source.reading c.read.new.self) (g.K.Sink.writing c.args.sink.now) (g.K.Sink.writing c.reading.sink) e) (sym c.ending_of.ensures.value)
    (serves_end (g.M.Master.identity c.args.master.now).number c.args.session.now.slave (g.M.Master.cycles c.args.master.now) (g.M.Master.cycles c.reading.master)
    (g.S.Source.reading c.args.source.now) (g.S.Source.reading c.reading.source) (g.K.Sink.writing c.args.sink.now) (g.K.Sink.writing c.reading.sink) c.reading.read c.reading.session c.reading.invariant.serves
    (g.M.Master.identity c.reading.master).number (g.M.Master.cycles c.finish.new.master) (g.S.Source.reading c.read.new.self) c.finish.new.self c.finish.result
    (ap (λ q. q.number) c.reading.invariant.identity) c.in-End.ensures.reads.0 c.in-End.ensures.reads.1 (omega (arith, c.reading-test.true)) c.finish.ensures.finished)

pub returns-in-Failed-clause-served : goal.returns-in-Failed-clause-served
returns-in-Failed-clause-served g c =
    serves_failed (g.M.Master.identity c.args.master.now).number c.args.session.now.slave (g.M.Master.cycles c.args.master.now) (g.M.Master.cycles c.reading.master)
    (g.S.Source.reading c.args.source.now) (g.S.Source.reading c.reading.source) (g.K.Sink.writing c.args.sink.now) (g.K.Sink.writing c.reading.sink) c.reading.read c.reading.session c.reading.invariant.serves
    (g.M.Master.identity c.reading.master).number (g.M.Master.cycles c.finish-in-Failed.new.master) (g.S.Source.reading c.read.new.self) c.finish-in-Failed.new.self c.finish-in-Failed.result
    (ap (λ q. q.number) c.reading.invariant.identity) c.in-Failed.ensures.reads (omega (arith, c.reading-test.true)) c.finish-in-Failed.ensures.finished

pub returns-clause-served : goal.returns-clause-served
returns-clause-served g c =
    serves_most (g.M.Master.identity c.args.master.now).number c.args.session.now.slave (g.M.Master.cycles c.args.master.now) (g.M.Master.cycles c.reading.master)
    (g.S.Source.reading c.args.source.now) (g.S.Source.reading c.reading.source) (g.K.Sink.writing c.args.sink.now) (g.K.Sink.writing c.reading.sink) c.reading.read c.reading.session c.reading.invariant.serves
    (g.M.Master.identity c.reading.master).number (g.M.Master.cycles c.finish-2.new.master) c.finish-2.new.self c.finish-2.result
    (ap (λ q. q.number) c.reading.invariant.identity) (omega (arith, c.reading-test.false, c.reading.invariant.within)) c.finish-2.ensures.finished

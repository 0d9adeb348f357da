use Rattle.std.proofs.Common.{refl, ◌∙◌}
use Rattle.std.proofs.lemmas.List.{take_rest}
use Rattle.eb_io.proofs.WritingLemmas.{went_none, went_piece}
use Rattle.eb_host.proofs.link.send_all.Goals as goal

pub loop-rest-init : goal.loop-rest-init
loop-rest-init g c = record { went = went_none g.L.Sink.writing g.L.Sink.beside_writes c.args.link.now c.args.octets.now; other_end = refl }

pub loop-rest-preserved : goal.loop-rest-preserved
loop-rest-preserved g c = record {
  went = rw take_rest (went_piece g.L.Sink.writing g.L.Sink.beside_writes _ _ _ _ _ c.in-Some.count c.loop-rest.invariant.went c.in-Some.ensures.writes.2 c.in-Some.ensures.beside);
  other_end = c.in-Some.ensures.other_end ∙ c.loop-rest.invariant.other_end;
}

use Rattle.std.proofs.Common.{◌≡◌, [], map, Ok, ◌∙◌, subst}
use Rattle.soc_desc.specs.Geometry.{placed_after, item_place}
use Rattle.soc_desc.proofs.Each.{if_found}
use Rattle.soc_desc.proofs.Placing.{bus_is_placed}
use Rattle.soc_desc.proofs.geometry.bus_placed.Goals as goal

pub returns-clause-sound : goal.returns-clause-sound
returns-clause-sound c =
    let bus = c.args.bus.now in
    let same = c.deref.ensures.value ∙ c.in_ok-spans.ensures in
    if_found (λ u. tt) c.spans_placed.result (placed_after bus.last [] c.deref.result.now) c.spans_placed.ensures
    (λ u found. bus_is_placed c.args.path.now bus.last bus.sdb (map item_place bus.items) (subst (λ spans. placed_after bus.last [] spans ≡ Ok tt) same found))

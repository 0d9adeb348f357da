use Rattle.std.proofs.Common.{◌≡◌, ◌+◌, ◌∷◌, drop, sym, ap, ◌∙◌, subst, map, Ok, ◌&&◌}
use Rattle.std.proofs.lemmas.List.{drop_more}
use Rattle.std.proofs.lemmas.Result.{err_from_is_err_and}
use Rattle.soc_desc.specs.Checks.{Fails}
use Rattle.soc_desc.specs.Geometry.{all_placed, all_behind, buses_from, item_place}
use Rattle.soc_desc.proofs.Inner.{goes_on, ends}
use Rattle.soc_desc.proofs.geometry.+geometry.Goals as goal

pub inner_placed-returns-in_err-item_placed-clause-found : goal.inner_placed-returns-in_err-item_placed-clause-found
inner_placed-returns-in_err-item_placed-clause-found t c =
    let p = err_from_is_err_and c.from_residual-in_err-item_placed.result c.from_residual-in_err-item_placed.ensures.1 in
    let one = c.index-items-i.result in
    let i = c.loop-i.i in
    let items = c.args.items.now in
    let here : drop i items ≡ one ∷ drop (i + 1) items = drop_more items i one c.loop-i-test.true ∙ ap (λ v. v ∷ drop (i + 1) items) (sym c.index-items-i.is) in
    let fails = subst (λ q. Fails c.in_err-item_placed.field-0.0 (all_placed ((item_place one).buses q))) c.in_ok-inner.ensures.step c.in_err-item_placed.ensures.found in
    rw (p.1, p.2) (ends c.args.path.now i items one (all_placed (buses_from c.args.path.now 0 (map item_place items))) c.in_err-item_placed.field-0.0 here fails c.loop-i.invariant.found)

pub inner_placed-loop-i-preserved : goal.inner_placed-loop-i-preserved
inner_placed-loop-i-preserved t c =
    let one = c.index-items-i.result in
    let i = c.loop-i.i in
    let items = c.args.items.now in
    let here : drop i items ≡ one ∷ drop (i + 1) items = drop_more items i one c.loop-i-test.true ∙ ap (λ v. v ∷ drop (i + 1) items) (sym c.index-items-i.is) in
    let placed = subst (λ q. all_placed ((item_place one).buses q) ≡ Ok tt) c.in_ok-inner.ensures.step c.in_ok-item_placed.ensures.found in
    let behind : all_behind (map item_place (drop i items)) ≡ all_behind (map item_place (drop (i + 1) items)) =
    ap (λ xs. all_behind (map item_place xs)) here ∙ ap (λ b. b && all_behind (map item_place (drop (i + 1) items))) c.in_ok-item_placed.ensures.sound in
    record {
      found = goes_on c.args.path.now i items one (all_placed (buses_from c.args.path.now 0 (map item_place items))) here placed c.loop-i.invariant.found;
      sound = sym behind ∙ c.loop-i.invariant.sound;
    }

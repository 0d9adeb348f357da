use Rattle.std.proofs.Common.{◌≡◌, ◌≤◌, suc, ◌-◌, ◌+◌, ◌<◌, ◌∷◌, ◌++◌, [], true, length, drop, map, Ok, sym, subst, ap, ◌∙◌, arith, length-append}
use Rattle.std.proofs.lemmas.List.{drop_more}
use Rattle.serde_json.specs.View.{view, items_view}
use Rattle.soc_desc.specs.Checks.{each_from}
use Rattle.soc_desc.specs.Shape.{bus, item}
use Rattle.soc_desc.specs.Accepted.{all_of, greatest, is_32, item_fields, item_levels}
use Rattle.soc_desc.proofs.Each.{goes_on, with_front}
use Rattle.soc_desc.proofs.Rules.{fields_push, levels_push}
use Rattle.soc_desc.proofs.shape.+bus.Goals as goal

pub bus-returns-clause-found : goal.bus-returns-clause-found
unfolding bus
bus-returns-clause-found t c =
    let k : c.args.levels ≡ suc (c.args.levels - 1) = omega arith in
    rw k c.bus_of.ensures.found

pub items-loop-i-preserved : goal.items-loop-i-preserved
items-loop-i-preserved t c =
    let l = c.loop-i in
    let x = c.in_ok-one.one in
    let e : c.push.new.self.items ≡ l.items.items ++ x ∷ [] = c.in_ok-push.ensures.items in
    let v = c.index.result.now in
    let vs = c.args.values.now.items in
    let below : l.i < length vs = omega arith in
    let here : drop l.i vs ≡ v ∷ drop (l.i + 1) vs = drop_more vs l.i v below ∙ ap (λ u. u ∷ drop (l.i + 1) vs) (sym c.index.ensures) in
    let check = item (bus c.args.levels) in
    let path = c.args.path.now in
    let total = each_from check path 0 (items_view vs) in
    let found = subst (λ q. check q (view v) ≡ Ok x) c.in_ok-inner.ensures.step c.in_ok-one.ensures.found in
    let front = goes_on check path l.items.items l.i vs v x total here found l.invariant.found in
    record {
      fields = subst (λ xs. all_of (map (item_fields is_32) xs) ≡ true) (sym e) (fields_push l.items.items x l.invariant.fields c.in_ok-one.ensures.fields);
      levels = subst (λ xs. greatest (map item_levels xs) ≤ c.args.levels) (sym e) (levels_push l.items.items x c.args.levels l.invariant.levels c.in_ok-one.ensures.levels);
      count = omega (arith, ap length e, length-append l.items.items (x ∷ []));
      found = subst (λ xs. with_front xs (each_from check path (l.i + 1) (items_view (drop (l.i + 1) vs))) ≡ total) (sym e) front;
    }

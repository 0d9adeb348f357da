use Rattle.std.proofs.Common.{◌≡◌, map, ap, sym, ◌∙◌, arith}
use Rattle.soc_desc.specs.declared.totals.Totals.{Totals}
use Rattle.soc_desc.specs.declared.description.ItemDescription.TheViews.{out-BusDescription}
use Rattle.soc_desc.specs.declared.description.ItemDescription.TheFolds.{fold_out-BusDescription}
use Rattle.soc_desc.specs.Totals.{of, plus, capped, sum_of, item_totals, bus_totals, item_layer, bus_layer}
use Rattle.soc_desc.proofs.totals.+totals.Goals as goal

capped_plus : (a t : Totals) → capped (plus a (capped t)) ≡ capped (plus a t)
capped_plus a t = grind arith

pub bus_totals-returns : goal.bus_totals-returns
bus_totals-returns t c =
    let bus = c.args.bus.now in
    let whole : bus_totals bus ≡ plus (of 0 1 0) (sum_of (map item_totals (out-BusDescription bus).items)) = fold_out-BusDescription Totals Totals item_layer bus_layer bus in
    let items : c.items_totals.result ≡ capped (sum_of (map item_totals (out-BusDescription bus).items)) =
    c.items_totals.ensures ∙ ap (λ is. capped (sum_of (map item_totals is))) c.as_slice.ensures in
    c.plus.ensures ∙ ap (λ t. capped (plus (of 0 1 0) t)) items ∙ capped_plus (of 0 1 0) (sum_of (map item_totals (out-BusDescription bus).items)) ∙ sym (ap capped whole)

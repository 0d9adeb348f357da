use Rattle.std.proofs.Common.{◌≡◌, ℕ, ◌+◌, ◌-◌, ◌*◌, ◌<◌, ◌++◌, ap, ◌∙◌, arith}
use Rattle.eb_base.specs.declared.width.Width.TheVariants.{W32}
use Rattle.eb_base.specs.Field.{octets_of}
use Rattle.eb_load.specs.Draws.{next, drawn, state_after}
use Rattle.eb_load.specs.Stream.{values_from}
use Rattle.eb_load.proofs.DrawLemmas.{octets_of_all, one_value, after_value}
use Rattle.eb_load.proofs.record.put_values.Goals as goal

pub loop-preserved : goal.loop-preserved
loop-preserved c =
    let n = c.args.count in
    let i = c.loop.counter in
    let x = c.loop.draws in
    let lt : i < n = omega arith in
    let more = c.put_number.new.out in
    let is : more ≡ c.loop.out ++ octets_of W32 (drawn x * 65536 + drawn (next x)) = cc in
    let state : c.draw-low.new.self ≡ next (next x) = cc in
    record {
      items = ap (λ (s : ℕ). more ++ octets_of_all (values_from (n - (i + 1)) s)) state ∙ one_value c.loop.out more x n i lt is ∙ c.loop.invariant.items;
      len = omega arith;
      draws = ap (λ (s : ℕ). state_after (2 * (n - (i + 1))) s) state ∙ after_value x n i lt ∙ c.loop.invariant.draws;
    }

use Rattle.std.proofs.Common.{◌≡◌, ◌+◌, [], ◌∷◌, ◌++◌, length, sym, ap, ◌∙◌, subst, arith, length-append}
use Rattle.std.specs.Prelude.{All}
use Rattle.eb_session.proofs.ListLemmas.{All-more}
use Rattle.eb_ports.specs.Ends.{no_ends}
use Rattle.eb_serve.proofs.lanes.take_ends.Goals as goal

pub loop-preserved : goal.loop-preserved
loop-preserved c =
    let one = c.in_ok-new.field-0 in
    let ends = c.loop.ends.items in
    let items : c.push_reserved.new.self.items ≡ ends ++ one ∷ [] = c.push_reserved.ensures.items in
    let pushed : length c.push_reserved.new.self.items ≡ length ends + 1 = ap length items ∙ length-append ends (one ∷ []) in (
      omega (arith, pushed, c.loop.invariant.0),
      omega (arith, c.push_reserved.ensures.capacity, c.loop.invariant.1),
      subst (λ xs. All (λ e. e ≡ no_ends c.args.connections) xs) (sym items) (All-more (λ e. e ≡ no_ends c.args.connections) ends one c.loop.invariant.2 c.in_ok-new.ensures.none),
    )

use Rattle.std.proofs.Common.{◌≡◌, ◌≢◌, None, Some, sym, ◌∙◌, subst, bit_and, arith}
use Rattle.soc_bus.specs.View.{states}
use Rattle.soc_bus.proofs.Nobody.{held_seen, none_waiting}
use Rattle.soc_bus.proofs.grant.may_grant.Goals as goal

pub returns-then-look-gt0 : goal.returns-then-look-gt0
returns-then-look-gt0 g c = record {
  none = λ e m set wants.
      subst (λ h. bit_and h set ≢ 0) (held_seen (states c.args.cycles.now) c.args.look c.requires.look) (c.any_free.ensures.none e m set wants);
}

pub returns-else-look-gt0 : goal.returns-else-look-gt0
returns-else-look-gt0 g c = record {
  none = λ e m set wants.
      let zero : c.args.look.waiting ≡ 0 = grind (arith, e) in
      let never : None ≡ Some set = sym (none_waiting (states c.args.cycles.now) c.args.look c.requires.look zero m) ∙ wants in
      absurd (cc);
}

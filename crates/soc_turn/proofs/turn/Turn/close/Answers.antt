use Rattle.std.proofs.Common.{rules, ◌≡◌, ◌∷◌, All, [], ◌++◌, map, sym, ap, ◌∙◌, subst, arith, Some}
use mathlib.Core.Option.{some-injective}
use Rattle.soc_turn.specs.declared.knows.Knows.TheVariants.{Idle}
use Rattle.soc_journal.specs.Ledger.{Follows}
use Rattle.soc_turn.specs.Turns.{gathered}
use Rattle.soc_turn.specs.Views.{seen_pair}
use Rattle.soc_turn.proofs.StepLemmas.{joins, closes}
use Rattle.soc_turn.proofs.CloseLemmas.{all_follow, all_last, all_front, regroup, all_gone, counted}
use Rattle.soc_turn.proofs.turn.Turn.close.Goals as goal

pub join_seat-requires : goal.join_seat-requires
join_seat-requires g c = let gone = c.loop-pass.invariant.2.0 in let at = c.loop-pass.invariant.2.1 in let p = c.in-Some.pass in
    let cut : c.loop-pass.passes.items ≡ c.pop.new.self.items ++ p ∷ [] = search rules in
    let turn : p.turn ≡ c.args.self = all_last (λ q. q.turn ≡ c.args.self) c.pop.new.self.items p (subst (λ l. All (λ q. q.turn ≡ c.args.self) l) cut c.loop-pass.invariant.1) in
    let its : c.into_place.result.me ≡ (Idle p.number p.last, []) = c.into_place.ensures.me in (
      search rules,
      c.into_place.ensures.table ∙ (turn ∙ sym c.into_table-table.ensures.table),
      ap (λ m. m.1) its,
      search rules,
      joins g.T.Ledgered.history g.T.Ledgered.stake g.T.Ledgered.charter c.loop-pass.place.id c.into_place.result.id c.args.root.made p.number c.args.root.origin p.last (map seen_pair gone) c.loop-pass.place.me.0 c.into_place.result.me.0
          (ap (λ m. m.0) at) (ap (λ m. m.0) its),
    )

pub loop-pass-preserved : goal.loop-pass-preserved
loop-pass-preserved g c = let gone = c.loop-pass.invariant.2.0 in let at = c.loop-pass.invariant.2.1 in let p = c.in-Some.pass in
    let cut : c.loop-pass.passes.items ≡ c.pop.new.self.items ++ p ∷ [] = search rules in
    let its : c.into_place.result.me ≡ (Idle p.number p.last, []) = c.into_place.ensures.me in
    let both : c.join_seat.new.seat.me ≡ (gathered c.loop-pass.place.me.0 c.into_place.result.me.0, c.loop-pass.place.me.1) = c.join_seat.ensures.2 in
    let whole : c.args.passes.items ≡ c.pop.new.self.items ++ p ∷ gone = regroup c.args.passes.items c.loop-pass.passes.items c.pop.new.self.items gone p c.loop-pass.invariant.2.2 cut in (
      search rules,
      all_front (λ q. q.turn ≡ c.args.self) c.pop.new.self.items (p ∷ []) (subst (λ l. All (λ q. q.turn ≡ c.args.self) l) cut c.loop-pass.invariant.1),
      (p ∷ gone, both ∙ (λ i. (gathered (at i).0 (its i).0, (at i).1)), whole),
    )

pub unwrap-value-requires : goal.unwrap-value-requires
unwrap-value-requires g c =
    let gone = c.loop-pass.invariant.2.0 in let at = c.loop-pass.invariant.2.1 in let none_left : c.loop-pass.passes.items ≡ [] = search rules in
    let whole : c.args.passes.items ≡ gone = all_gone c.args.passes.items c.loop-pass.passes.items gone c.loop-pass.invariant.2.2 none_left in
    let t = closes g.T.Ledgered.history g.T.Ledgered.stake g.T.Ledgered.charter _ _ c.loop-pass.place.id c.args.root.made c.args.root.origin (map seen_pair gone) c.loop-pass.place.me.0 (ap (λ m. m.0) at)
    (counted c.args.passes.items gone c.args.root.made whole c.requires.all) c.close_with-closed.ensures.values.2 in
    let r : c.take.result ≡ Some t.0 = some-injective c.take.result (Some t.0) (sym c.take.ensures.value ∙ t.1) in
    search (rules, r)

pub returns-clause-charter : goal.returns-clause-charter
returns-clause-charter g c =
    let gone = c.loop-pass.invariant.2.0 in let at = c.loop-pass.invariant.2.1 in let none_left : c.loop-pass.passes.items ≡ [] = search rules in
    let whole : c.args.passes.items ≡ gone = all_gone c.args.passes.items c.loop-pass.passes.items gone c.loop-pass.invariant.2.2 none_left in
    let t = closes g.T.Ledgered.history g.T.Ledgered.stake g.T.Ledgered.charter _ _ c.loop-pass.place.id c.args.root.made c.args.root.origin (map seen_pair gone) c.loop-pass.place.me.0 (ap (λ m. m.0) at)
    (counted c.args.passes.items gone c.args.root.made whole c.requires.all) c.close_with-closed.ensures.values.2 in
    let r : c.take.result ≡ Some t.0 = some-injective c.take.result (Some t.0) (sym c.take.ensures.value ∙ t.1) in
    let value : t.0 ≡ c.unwrap-value.result = search (rules, r) in ap g.T.Ledgered.charter (sym value) ∙ (t.2 c.args.root.made (omega arith)).3

pub returns-clause-rest : goal.returns-clause-rest
returns-clause-rest g c =
    let gone = c.loop-pass.invariant.2.0 in let at = c.loop-pass.invariant.2.1 in let none_left : c.loop-pass.passes.items ≡ [] = search rules in
    let whole : c.args.passes.items ≡ gone = all_gone c.args.passes.items c.loop-pass.passes.items gone c.loop-pass.invariant.2.2 none_left in
    let t = closes g.T.Ledgered.history g.T.Ledgered.stake g.T.Ledgered.charter _ _ c.loop-pass.place.id c.args.root.made c.args.root.origin (map seen_pair gone) c.loop-pass.place.me.0 (ap (λ m. m.0) at)
    (counted c.args.passes.items gone c.args.root.made whole c.requires.all) c.close_with-closed.ensures.values.2 in
    let r : c.take.result ≡ Some t.0 = some-injective c.take.result (Some t.0) (sym c.take.ensures.value ∙ t.1) in
    let value : t.0 ≡ c.unwrap-value.result = search (rules, r) in
    λ n h. subst (λ y. Follows g.T.Ledgered.history g.T.Ledgered.stake g.T.Ledgered.charter n c.args.root.origin y) value (t.2 n h)

pub returns-clause-passes : goal.returns-clause-passes
returns-clause-passes g c =
    let gone = c.loop-pass.invariant.2.0 in let at = c.loop-pass.invariant.2.1 in let none_left : c.loop-pass.passes.items ≡ [] = search rules in
    let whole : c.args.passes.items ≡ gone = all_gone c.args.passes.items c.loop-pass.passes.items gone c.loop-pass.invariant.2.2 none_left in
    let t = closes g.T.Ledgered.history g.T.Ledgered.stake g.T.Ledgered.charter _ _ c.loop-pass.place.id c.args.root.made c.args.root.origin (map seen_pair gone) c.loop-pass.place.me.0 (ap (λ m. m.0) at)
    (counted c.args.passes.items gone c.args.root.made whole c.requires.all) c.close_with-closed.ensures.values.2 in
    let r : c.take.result ≡ Some t.0 = some-injective c.take.result (Some t.0) (sym c.take.ensures.value ∙ t.1) in
    let value : t.0 ≡ c.unwrap-value.result = search (rules, r) in
    let turned : gone ≡ c.args.passes.items = sym whole in
    coe 0 1 (i. All (λ p. Follows g.T.Ledgered.history g.T.Ledgered.stake g.T.Ledgered.charter p.number p.last (value i)) (turned i)) (all_follow g.T.Ledgered.history g.T.Ledgered.stake g.T.Ledgered.charter t.0 gone t.3)

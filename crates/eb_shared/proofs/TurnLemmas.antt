-- What a turn of a master makes of its pass.
use Rattle.std.proofs.Common.{◌≡◌, ◌≢◌, ℕ, ◌==◌, ◌<◌, List, [], ◌∷◌, ◌++◌, Bool, true, false, Option, Some, None, refl, ap, sym, ◌∙◌, subst}
use Rattle.soc_desc.specs.declared.description.Description.{Description}
use Rattle.wb_signals.specs.History.{Pair, Entry, own}
use Rattle.wb_signals.specs.Request.{Request}
use Rattle.wb_signals.specs.Cycles.{paired, made_with}
use Rattle.wb_signals.specs.declared.answer.Answer.{Answer}
use Rattle.soc_journal.specs.Growth.{Extends}
use Rattle.soc_journal.specs.Ledger.{Follows}
use Rattle.soc_journal.proofs.GrowthLemmas.{own-append, own-mine, Extends-self, Extends-on, Extends-by}
use Rattle.soc_turn.specs.Views.{PassView}
use Rattle.soc_core.specs.Core.{Stake, stake}
use Rattle.soc_bus.specs.View.{BusState}
use Rattle.soc_bus.specs.Ledger.{Charter, history_of, stake_in, charter_of, AddsOwn}
use Rattle.eb_shared.specs.declared.steps.Reached.{Reached}
use Rattle.eb_shared.specs.declared.steps.Reached.TheVariants.{Goes, Taken, Refused}
use Rattle.eb_shared.specs.Shared.{no_stake, cycle_stake, made_by, stake_by, journal_after, CameTo, IsSameMaster}

-- what one may find when it takes the bus
abbrev Finds : ℕ → BusState → BusState → Type 0
Finds m x y = Follows history_of stake_in charter_of m x y

pub found_description : (m : ℕ) (x y : BusState) → Finds m x y → y.description ≡ x.description
found_description m x y found = ap (λ (c : Charter). c.description) found.3

-- a turn: the bus is found, changed and put back
pub turned : (p q : PassView BusState) (x y : BusState) → q.turn ≡ p.turn → q.number ≡ p.number → q.last ≡ y → Finds p.number p.last x → AddsOwn p.number x y → IsSameMaster p q
turned p q x y turn number last found adds = record {
  turn = turn;
  number = number;
  description = ap (λ (b : BusState). b.description) last ∙ ap (λ (c : Charter). c.description) adds.2 ∙ found_description p.number p.last x found;
  grows = subst (λ (b : BusState). Extends p.last.core.journal b.core.journal) (sym last) (Extends-on p.last.core.journal x.core.journal y.core.journal found.0 (Extends-by p.number x.core.journal y.core.journal adds.0));
}

pub same_self : (p : PassView BusState) → IsSameMaster p p
same_self p = record { turn = refl; number = refl; description = refl; grows = Extends-self p.last.core.journal }

pub same_on : (p q r : PassView BusState) → IsSameMaster p q → IsSameMaster q r → IsSameMaster p r
same_on p q r first next = record {
  turn = next.turn ∙ first.turn;
  number = next.number ∙ first.number;
  description = next.description ∙ first.description;
  grows = Extends-on p.last.core.journal q.last.core.journal r.last.core.journal first.grows next.grows;
}

-- the own part of a journal after a cycle of one's own
pub own_ended : (m : ℕ) (cut : Bool) (journal : List Entry) (ps : List Pair) → own m (made_with m cut journal ps) ≡ made_with m cut (own m journal) ps
own_ended m cut journal [] = refl
own_ended m cut journal (p ∷ ps) =
    let e : Entry = record { master = m; cut = cut; pairs = p ∷ ps } in
    own-append m journal (e ∷ []) ∙ ap (λ (l : List Entry). own m journal ++ l) (own-mine m (e ∷ []) (refl, tt))

pub own_after : (m : ℕ) (journal : List Entry) (ps : List Pair) (last : Bool) → own m (journal_after m journal ps last) ≡ journal_after m (own m journal) ps last
own_after m journal ps true = own_ended m false journal ps
own_after m journal ps false = refl

pub ended_made : (p q : PassView BusState) (x y : BusState) (cut : Bool) → q.number ≡ p.number → q.last ≡ y → Finds p.number p.last x
    → y.core.journal ≡ made_with p.number cut x.core.journal (stake x.core p.number).opened → made_by q ≡ made_with p.number cut (made_by p) (stake_by p).opened
ended_made p q x y cut number last found journal =
    (λ i. own (number i) (last i).core.journal) ∙ ap (own p.number) journal ∙ own_ended p.number cut x.core.journal (stake x.core p.number).opened
    ∙ (λ i. made_with p.number cut (found.1 i) (found.2 i).opened)

-- what a turn of a record came to, by its master's pass
pub came_by : (r : Reached) (p q : PassView BusState) (x y : BusState) (set : ℕ) (ops : List Request) (last : Bool) (pairs : List Pair) (refused : Stake) (xs : List Answer)
    → q.number ≡ p.number → q.last ≡ y → Finds p.number p.last x
    → CameTo r p.number set ops last pairs x.core.journal refused (stake y.core p.number) y.core.journal xs
    → CameTo r p.number set ops last pairs (made_by p) refused (stake_by q) (made_by q) xs
came_by (Goes stage) p q x y set ops last pairs refused xs number at found came =
    ((λ i. stake (at i).core (number i)) ∙ came.0, (λ i. own (number i) (at i).core.journal) ∙ ap (own p.number) came.1 ∙ found.1)
came_by Taken p q x y set ops last pairs refused xs number at found came = (
  came.0,
  (λ i. stake (at i).core (number i)) ∙ came.1,
  (λ i. own (number i) (at i).core.journal) ∙ ap (own p.number) came.2 ∙ own_after p.number x.core.journal (pairs ++ paired ops xs) last
      ∙ (λ i. journal_after p.number (found.1 i) (pairs ++ paired ops xs) last),
)
came_by Refused p q x y set ops last pairs refused xs number at found came =
    ((λ i. stake (at i).core (number i)) ∙ came.0, (λ i. own (number i) (at i).core.journal) ∙ ap (own p.number) came.1 ∙ found.1)

-- the first turn of a cycle
pub first_came : (r : Reached) (p q : PassView BusState) (x y : BusState) (m set : ℕ) (ops : List Request) (last : Bool) (xs : List Answer)
    → m ≡ p.number → q.number ≡ p.number → q.last ≡ y → Finds p.number p.last x
    → CameTo r m set ops last [] x.core.journal no_stake (stake y.core m) y.core.journal xs
    → CameTo r p.number set ops last [] (made_by p) no_stake (stake_by q) (made_by q) xs
first_came r p q x y m set ops last xs is number at found came =
    came_by r p q x y set ops last [] no_stake xs number at found
    (subst (λ (k : ℕ). CameTo r k set ops last [] x.core.journal no_stake (stake y.core k) y.core.journal xs) is came)

-- a later one
pub next_came : (r : Reached) (p q : PassView BusState) (x y : BusState) (m set : ℕ) (ops : List Request) (last : Bool) (xs : List Answer)
    → m ≡ p.number → q.number ≡ p.number → q.last ≡ y → Finds p.number p.last x
    → CameTo r m set ops last (stake x.core m).opened x.core.journal (cycle_stake set (stake x.core m).opened []) (stake y.core m) y.core.journal xs
    → CameTo r p.number set ops last (stake_by p).opened (made_by p) (cycle_stake set (stake_by p).opened []) (stake_by q) (made_by q) xs
next_came r p q x y m set ops last xs is number at found came =
    came_by r p q x y set ops last (stake_by p).opened (cycle_stake set (stake_by p).opened []) xs number at found
    (subst (λ (s : Stake). CameTo r p.number set ops last s.opened x.core.journal (cycle_stake set s.opened []) (stake y.core p.number) y.core.journal xs) found.2
    (subst (λ (k : ℕ). CameTo r k set ops last (stake x.core k).opened x.core.journal (cycle_stake set (stake x.core k).opened []) (stake y.core k) y.core.journal xs) is came))

-- What the turns of a record come to.
use Rattle.std.proofs.Common.{◌≡◌, ◌≢◌, ℕ, ◌<◌, List, [], ◌∷◌, ◌++◌, length, Bool, true, false, not, Option, Some, None, refl, ap, sym, ◌∙◌, subst, append-nil}
use Rattle.soc_desc.specs.declared.description.Description.{Description}
use Rattle.wb_signals.specs.History.{Pair, Entry}
use Rattle.wb_signals.specs.Request.{Request}
use Rattle.wb_signals.specs.Cycles.{MasterCycles, paired, opened_after, made_with, pairs_added, cycle_ended}
use Rattle.wb_signals.specs.declared.answer.Answer.{Answer}
use Rattle.soc_turn.specs.Views.{PassView}
use Rattle.soc_core.specs.Built.{fabric_of, set_of_cycle}
use Rattle.soc_core.specs.Core.{Stake}
use Rattle.soc_bus.specs.Local.{all_slaves}
use Rattle.soc_bus.specs.View.{BusState}
use Rattle.soc_bus.proofs.LocalLemmas.{paired_some}
use Rattle.eb_shared.specs.declared.steps.Stage.{Stage}
use Rattle.eb_shared.specs.declared.steps.Stage.TheVariants.{Raised, Loaded}
use Rattle.eb_shared.specs.declared.steps.Reached.{Reached}
use Rattle.eb_shared.specs.declared.steps.Reached.TheVariants.{Goes, Taken}
use Rattle.eb_shared.specs.Shared.{no_stake, cycle_stake, stake_on, stake_after, journal_after, CameTo, made_by, stake_by, cycles_by, IsSameMaster, IsBetween, HasRecorded, IsRefused}
use Rattle.eb_shared.proofs.TurnLemmas.{same_self}

-- the cycles of a master after a record, by its last operation
added : (m : ℕ) (made : List Entry) (opened pairs : List Pair) (last : Bool)
    → record { made = journal_after m made (opened ++ pairs) last; opened = opened_after (opened ++ pairs) last } ≡ pairs_added m (record { made = made; opened = opened }) pairs last
added m made opened pairs true = refl
added m made opened pairs false = refl

opened_is : (set : ℕ) (ps : List Pair) (last : Bool) → (stake_after set ps last).opened ≡ opened_after ps last
opened_is set ps true = refl
opened_is set ps false = refl

-- ---- a record that was collected

module _ (p q r : PassView BusState) (set : ℕ) (pairs : List Pair) (ops : List Request) (xs : List Answer) (last : Bool)
    (to : IsSameMaster p q) (on : IsSameMaster q r) (some : ops ≢ []) (count : length xs ≡ length ops)
    (had : pairs ≡ (stake_by p).opened) (has : (stake_by q).opened ≡ pairs) (made : made_by q ≡ made_by p)
    (stake : stake_by r ≡ stake_after set ((stake_by q).opened ++ paired ops xs) last)
    (after : made_by r ≡ journal_after q.number (made_by q) ((stake_by q).opened ++ paired ops xs) last) where
  whole : (stake_by q).opened ++ paired ops xs ≡ (stake_by p).opened ++ paired ops xs
  whole = ap (λ (ps : List Pair). ps ++ paired ops xs) (has ∙ had)

  some_pairs : (stake_by p).opened ++ paired ops xs ≢ []
  some_pairs = paired_some (stake_by p).opened ops xs some count

  stake_now : stake_by r ≡ stake_after set ((stake_by p).opened ++ paired ops xs) last
  stake_now = stake ∙ ap (λ (ps : List Pair). stake_after set ps last) whole

  opened_now : (stake_by r).opened ≡ opened_after ((stake_by p).opened ++ paired ops xs) last
  opened_now = ap (λ (s : Stake). s.opened) stake_now ∙ opened_is set ((stake_by p).opened ++ paired ops xs) last

  made_now : made_by r ≡ journal_after p.number (made_by p) ((stake_by p).opened ++ paired ops xs) last
  made_now = after ∙ (λ i. journal_after (to.number i) (made i) (whole i) last)

  pub recorded : HasRecorded p r ops xs last
  recorded = record {
    count = count;
    cycles = (λ i. record { made = made_now i; opened = opened_now i }) ∙ added p.number (made_by p) (stake_by p).opened (paired ops xs) last;
  }

  pub between_after : p.number < p.last.description.masters → (last ≡ false → set ≡ all_slaves (fabric_of p.last.description)) → IsBetween (not last) set r
  between_after within all = by last stake_now all
    where
      now_in : r.number < r.last.description.masters
      now_in = coe 1 0 (i. (on.number ∙ to.number) i < ((on.description ∙ to.description) i).masters) within

      by : (b : Bool) → stake_by r ≡ stake_after set ((stake_by p).opened ++ paired ops xs) b → (b ≡ false → set ≡ all_slaves (fabric_of p.last.description)) → IsBetween (not b) set r
      by true is all = record {
        within = now_in;
        rest = λ _. is;
        goes_on = λ never. absurd (let no : false ≡ true = never in cc);
        some = λ never. absurd (let no : false ≡ true = never in cc);
        all = λ never. absurd (let no : false ≡ true = never in cc);
      }
      by false is all = let opened : (stake_by r).opened ≡ (stake_by p).opened ++ paired ops xs = ap (λ (s : Stake). s.opened) is in record {
        within = now_in;
        rest = λ never. absurd (let no : true ≡ false = never in cc);
        goes_on = λ _. is ∙ ap (λ (ps : List Pair). cycle_stake set ps []) (sym opened);
        some = λ _ none. some_pairs (sym opened ∙ none);
        all = λ _. all refl ∙ ap (λ (d : Description). all_slaves (fabric_of d)) (sym (on.description ∙ to.description));
      }

-- ---- a master that has no cycle, or whose open cycle goes on

pub rests_at : (p q : PassView BusState) (set : ℕ) → IsSameMaster p q → p.number < p.last.description.masters → stake_by q ≡ no_stake → IsBetween false set q
rests_at p q set to within none = record {
  within = coe 1 0 (i. to.number i < (to.description i).masters) within;
  rest = λ _. none;
  goes_on = λ never. absurd (let no : false ≡ true = never in cc);
  some = λ never. absurd (let no : false ≡ true = never in cc);
  all = λ never. absurd (let no : false ≡ true = never in cc);
}

pub goes_on_at : (p q : PassView BusState) (set : ℕ) → IsSameMaster p q → IsBetween true set p → stake_by q ≡ stake_by p → IsBetween true set q
goes_on_at p q set to was same = record {
  within = coe 1 0 (i. to.number i < (to.description i).masters) was.within;
  rest = λ never. absurd (let no : true ≡ false = never in cc);
  goes_on = λ _. same ∙ was.goes_on refl ∙ ap (λ (s : Stake). cycle_stake set s.opened []) (sym same);
  some = λ _ none. was.some refl (sym (ap (λ (s : Stake). s.opened) same) ∙ none);
  all = λ _. was.all refl ∙ ap (λ (d : Description). all_slaves (fabric_of d)) (sym to.description);
}

-- ---- a cycle that was ended without more operations

pub cut_told : (p q : PassView BusState) (cut : Bool) → stake_by q ≡ no_stake → made_by q ≡ made_with p.number cut (made_by p) (stake_by p).opened → cycles_by q ≡ cycle_ended p.number cut (cycles_by p)
cut_told p q cut stake made = λ i. record { made = made i; opened = (stake i).opened }

pub last_recorded : (p q : PassView BusState) (xs : List Answer) → xs ≡ [] → stake_by q ≡ no_stake → made_by q ≡ made_with p.number false (made_by p) (stake_by p).opened → HasRecorded p q [] xs true
last_recorded p q xs none stake made = record {
  count = ap length none;
  cycles = λ i. record { made = (made ∙ ap (λ (ps : List Pair). made_with p.number false (made_by p) ps) (sym (append-nil (stake_by p).opened))) i; opened = (stake i).opened };
}

-- ---- the opening record of a cycle

on_opened : (s : Stage) (set : ℕ) (pairs : List Pair) (ops : List Request) → (stake_on s set pairs ops).opened ≡ pairs
on_opened Raised set pairs ops = refl
on_opened Loaded set pairs ops = refl

module _ (p : PassView BusState) (set : ℕ) (ops : List Request) (last : Bool) (some : ops ≢ []) (none : stake_by p ≡ no_stake)
    (within : p.number < p.last.description.masters) (all : last ≡ false → set ≡ all_slaves (fabric_of p.last.description)) where
  none_opened : (stake_by p).opened ≡ []
  none_opened = ap (λ (s : Stake). s.opened) none

  -- its answers were taken in the first turn
  pub between_at_once : (reached : Reached) (r : PassView BusState) (xs : List Answer) → reached ≡ Taken → IsSameMaster p r
      → CameTo reached p.number set ops last [] (made_by p) no_stake (stake_by r) (made_by r) xs → IsBetween (not last) set r
  between_at_once reached r xs is same came =
      let t : CameTo Taken p.number set ops last [] (made_by p) no_stake (stake_by r) (made_by r) xs =
      subst (λ (h : Reached). CameTo h p.number set ops last [] (made_by p) no_stake (stake_by r) (made_by r) xs) is came in
      between_after p p r set [] ops xs last (same_self p) same some t.0 (sym none_opened) none_opened refl
      (t.1 ∙ ap (λ (ps : List Pair). stake_after set (ps ++ paired ops xs) last) (sym none_opened))
      (t.2 ∙ ap (λ (ps : List Pair). journal_after p.number (made_by p) (ps ++ paired ops xs) last) (sym none_opened))
      within all

  -- they were taken in a later one
  pub between_later : (reached : Reached) (stage : Stage) (q r : PassView BusState) (ys xs : List Answer) → reached ≡ Goes stage → IsSameMaster p q
      → CameTo reached p.number set ops last [] (made_by p) no_stake (stake_by q) (made_by q) ys → IsSameMaster q r → length xs ≡ length ops
      → stake_by r ≡ stake_after set ((stake_by q).opened ++ paired ops xs) last → made_by r ≡ journal_after q.number (made_by q) ((stake_by q).opened ++ paired ops xs) last
      → IsBetween (not last) set r
  between_later reached stage q r ys xs is to came on count stake made =
      let t : CameTo (Goes stage) p.number set ops last [] (made_by p) no_stake (stake_by q) (made_by q) ys =
      subst (λ (h : Reached). CameTo h p.number set ops last [] (made_by p) no_stake (stake_by q) (made_by q) ys) is came in
      between_after p q r set [] ops xs last to on some count (sym none_opened) (ap (λ (s : Stake). s.opened) t.0 ∙ on_opened stage set [] ops) t.1 stake made
      within all

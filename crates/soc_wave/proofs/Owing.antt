-- What the rows so far show of the answers that a port is owed.
use Rattle.std.proofs.Common.{◌≡◌, ◌≢◌, ℕ, zero, suc, ◌+◌, ◌<◌, ◌≤◌, ◌==◌, ◌&&◌, ◌||◌, not, Bool, true, false, if◌then◌else◌, List, [], ◌∷◌, ◌++◌, length, map, refl, sym, ap, ◌∙◌, subst, arith, append_assoc, length-append}
use Rattle.std.specs.Prelude.{nat_le}
use Rattle.std.specs.List.{list_any}
use Rattle.std.proofs.lemmas.Bool.{eqb-true}
use Rattle.wb_signals.specs.Request.{Request}
use Rattle.soc_core.specs.Fabric.{Fabric}
use Rattle.wb_signals.specs.declared.port_row.PortRow.{PortRow}
use Rattle.soc_wave.specs.Rows.{has_answer}
use Rattle.soc_wave.specs.Requests.{Passed, put_if, one_if, passed_in, answers_in, answer_clock, queue_of, from_clock, waiting_in, waiting_count, goes_elsewhere, waits_there, stalled_by}
use Rattle.wb_signals.specs.Slave.{Owed, sooner, left, is_stalled}
use Rattle.soc_core.specs.Sound.{AreRising}
use Rattle.soc_wave.proofs.Lists.{passed-snoc, passed_now, from_clock-append, any-append, length-snoc}

-- the next tick gives an answer
abbrev pub is_due : List Owed → Bool
is_due [] = false
is_due (o ∷ os) = o.due == 0

-- Each request was answered in a clock below t.
abbrev pub AllPast : Fabric → ℕ → List Passed → Type 0
AllPast f t [] = Unit {0}
AllPast f t (p ∷ ps) = (answer_clock f p < t) × AllPast f t ps

-- The requests are those that are owed an answer, t being the next clock.
abbrev pub Matches : Fabric → ℕ → List Passed → List Owed → Type 0
Matches f t [] [] = Unit {0}
Matches f t [] (o ∷ os) = ⊥
Matches f t (p ∷ ps) [] = ⊥
Matches f t (p ∷ ps) (o ∷ os) = (queue_of f p.request ≡ o.place) × (answer_clock f p ≡ t + o.due) × Matches f t ps os

pub record Shows (f : Fabric) (ps : List PortRow) (owed : List Owed) : Type 0 where
  pub done : List Passed
  pub waiting : List Passed
  pub whole : passed_in ps ≡ done ++ waiting
  pub past : AllPast f (length ps) done
  pub match : Matches f (length ps) waiting owed
  pub answered : answers_in ps ≡ length done

-- ---- an answer stands exactly where it is due

abbrev pub is_now : Fabric → ℕ → Passed → Bool
is_now f t r = answer_clock f r == t

not_equal : (a b : ℕ) → a ≢ b → (a == b) ≡ false
not_equal a b other = grind arith

same_test : (a t d : ℕ) → a ≡ t + d → (a == t) ≡ (d == 0)
same_test a t zero is = let e : a ≡ t = omega (arith, is) in grind (arith, e)
same_test a t (suc d) is =
    let e : a ≢ t = omega (arith, is) in
    not_equal a t e ∙ sym (not_equal (suc d) 0 (omega arith))

none_past : (f : Fabric) (t : ℕ) (ps : List Passed) → AllPast f t ps → list_any (is_now f t) ps ≡ false
none_past f t [] past = refl
none_past f t (p ∷ ps) past =
    let other : answer_clock f p ≢ t = omega (arith, past.0) in
    ap (λ b. b || list_any (is_now f t) ps) (not_equal (answer_clock f p) t other) ∙ none_past f t ps past.1

none_later : (f : Fabric) (t n : ℕ) (ps : List Passed) (os : List Owed) → Matches f t ps os → AreRising (suc n) os → list_any (is_now f t) ps ≡ false
none_later f t n [] [] match rising = refl
none_later f t n [] (o ∷ os) match rising = absurd match
none_later f t n (p ∷ ps) [] match rising = absurd match
none_later f t n (p ∷ ps) (o ∷ os) match rising =
    let other : answer_clock f p ≢ t = omega (arith, match.1, rising.0) in
    ap (λ b. b || list_any (is_now f t) ps) (not_equal (answer_clock f p) t other) ∙ none_later f t o.due ps os match.2 rising.1

or_false : (b : Bool) → (b || false) ≡ b
or_false true = refl
or_false false = refl

due_now : (f : Fabric) (t : ℕ) (ps : List Passed) (os : List Owed) → Matches f t ps os → AreRising 0 os → list_any (is_now f t) ps ≡ is_due os
due_now f t [] [] match rising = refl
due_now f t [] (o ∷ os) match rising = absurd match
due_now f t (p ∷ ps) [] match rising = absurd match
due_now f t (p ∷ ps) (o ∷ os) match rising =
    ap (λ b. b || list_any (is_now f t) ps) (same_test (answer_clock f p) t o.due match.1)
    ∙ ap (λ b. (o.due == 0) || b) (none_later f t o.due ps os match.2 rising.1)
    ∙ or_false (o.due == 0)

pub answer_due : (f : Fabric) (ps : List PortRow) (os : List Owed) → Shows f ps os → AreRising 0 os → list_any (is_now f (length ps)) (passed_in ps) ≡ is_due os
answer_due f ps os s rising =
    ap (λ l. list_any (is_now f (length ps)) l) s.whole
    ∙ any-append (is_now f (length ps)) s.done s.waiting
    ∙ ap (λ b. b || list_any (is_now f (length ps)) s.waiting) (none_past f (length ps) s.done s.past)
    ∙ due_now f (length ps) s.waiting os s.match rising

-- ---- how many are unanswered, and which

matches-length : (f : Fabric) (t : ℕ) (ps : List Passed) (os : List Owed) → Matches f t ps os → length ps ≡ length os
matches-length f t [] [] match = refl
matches-length f t [] (o ∷ os) match = absurd match
matches-length f t (p ∷ ps) [] match = absurd match
matches-length f t (p ∷ ps) (o ∷ os) match = ap (λ (n : ℕ). suc n) (matches-length f t ps os match.2)

pub count_owed : (f : Fabric) (ps : List PortRow) (os : List Owed) → Shows f ps os → waiting_count ps ≡ length os
count_owed f ps os s =
    let all : length (passed_in ps) ≡ length (s.done ++ s.waiting) = ap (λ l. length l) s.whole in
    let two = length-append s.done s.waiting in
    let out = matches-length f (length ps) s.waiting os s.match in
    omega (arith, all, two, out, s.answered)

le_yes : (a b : ℕ) → a ≤ b → nat_le a b ≡ true
le_yes a b h = grind (arith, h)

le_no : (a b : ℕ) → b < a → nat_le a b ≡ false
le_no a b h = grind (arith, h)

from-past : (f : Fabric) (t : ℕ) (ps : List Passed) → AllPast f t ps → from_clock f t ps ≡ []
from-past f t [] past = refl
from-past f t (p ∷ ps) past =
    ap (λ b. put_if b p (from_clock f t ps)) (le_no t (answer_clock f p) past.0) ∙ from-past f t ps past.1

from-matches : (f : Fabric) (t : ℕ) (ps : List Passed) (os : List Owed) → Matches f t ps os → from_clock f t ps ≡ ps
from-matches f t [] [] match = refl
from-matches f t [] (o ∷ os) match = absurd match
from-matches f t (p ∷ ps) [] match = absurd match
from-matches f t (p ∷ ps) (o ∷ os) match =
    let le : t ≤ answer_clock f p = omega (arith, match.1) in
    ap (λ b. put_if b p (from_clock f t ps)) (le_yes t (answer_clock f p) le) ∙ ap (λ l. p ∷ l) (from-matches f t ps os match.2)

pub unanswered_waiting : (f : Fabric) (ps : List PortRow) (os : List Owed) (s : Shows f ps os) → waiting_in f ps ≡ s.waiting
unanswered_waiting f ps os s =
    ap (λ l. from_clock f (length ps) l) s.whole
    ∙ from_clock-append f (length ps) s.done s.waiting
    ∙ ap (λ l. l ++ from_clock f (length ps) s.waiting) (from-past f (length ps) s.done s.past)
    ∙ from-matches f (length ps) s.waiting os s.match

-- ---- what stalls

elsewhere-matches : (f : Fabric) (t place : ℕ) (ps : List Passed) (os : List Owed) → Matches f t ps os → list_any (goes_elsewhere f place) ps ≡ list_any (λ o. not (o.place == place)) os
elsewhere-matches f t place [] [] match = refl
elsewhere-matches f t place [] (o ∷ os) match = absurd match
elsewhere-matches f t place (p ∷ ps) [] match = absurd match
elsewhere-matches f t place (p ∷ ps) (o ∷ os) match =
    ap (λ (n : ℕ). not (n == place) || list_any (goes_elsewhere f place) ps) match.0
    ∙ ap (λ b. not (o.place == place) || b) (elsewhere-matches f t place ps os match.2)

waits-matches : (f : Fabric) (t place : ℕ) (ps : List Passed) (os : List Owed) → Matches f t ps os → list_any (waits_there f t place) ps ≡ list_any (λ o. (o.place == place) && not (o.due == 0)) os
waits-matches f t place [] [] match = refl
waits-matches f t place [] (o ∷ os) match = absurd match
waits-matches f t place (p ∷ ps) [] match = absurd match
waits-matches f t place (p ∷ ps) (o ∷ os) match =
    ap (λ (n : ℕ). ((n == place) && not (answer_clock f p == t)) || list_any (waits_there f t place) ps) match.0
    ∙ ap (λ b. ((o.place == place) && not b) || list_any (waits_there f t place) ps) (same_test (answer_clock f p) t o.due match.1)
    ∙ ap (λ b. ((o.place == place) && not (o.due == 0)) || b) (waits-matches f t place ps os match.2)

-- Where none goes elsewhere, those that wait wait there.
stall_split : (a b c d h : Bool) → ((not a || b) || (h && ((a && d) || c))) ≡ ((not a || b) || (h && (d || c)))
stall_split true b c d h = refl
stall_split false b c d h = refl

or_true : (b : Bool) → (b || true) ≡ true
or_true true = refl
or_true false = refl

or_swap : (a d b c e : Bool) → (b || c) ≡ (b || e) → ((a || b) || (d || c)) ≡ ((a || b) || (d || e))
or_swap true d b c e is = refl
or_swap false true b c e is = or_true b ∙ sym (or_true b)
or_swap false false b c e is = is

same_stalls : (h : Bool) (place : ℕ) (os : List Owed)
    → (list_any (λ o. not (o.place == place)) os || (h && list_any (λ o. (o.place == place) && not (o.due == 0)) os))
    ≡ (list_any (λ o. not (o.place == place)) os || (h && list_any (λ o. not (o.due == 0)) os))
same_stalls h place [] = refl
same_stalls false place (o ∷ os) = refl
same_stalls true place (o ∷ os) =
    stall_split (o.place == place) (list_any (λ o. not (o.place == place)) os) (list_any (λ o. (o.place == place) && not (o.due == 0)) os) (not (o.due == 0)) true
    ∙ or_swap (not (o.place == place)) (not (o.due == 0)) _ _ _ (same_stalls true place os)

pub stalled_owed : (f : Fabric) (r : Request) (ps : List PortRow) (os : List Owed) → Shows f ps os → stalled_by f (length ps) (queue_of f r) (waiting_in f ps) ≡ is_stalled f.wiring os r
stalled_owed f r ps os s =
    let place : ℕ = queue_of f r in
    ap (λ l. stalled_by f (length ps) place l) (unanswered_waiting f ps os s)
    ∙ ap (λ b. b || (f.wiring.stalls place && list_any (waits_there f (length ps) place) s.waiting)) (elsewhere-matches f (length ps) place s.waiting os s.match)
    ∙ ap (λ b. list_any (λ o. not (o.place == place)) os || (f.wiring.stalls place && b)) (waits-matches f (length ps) place s.waiting os s.match)
    ∙ same_stalls (f.wiring.stalls place) place os

-- ---- the next row

matches-append : (f : Fabric) (t : ℕ) (ps qs : List Passed) (os us : List Owed) → Matches f t ps os → Matches f t qs us → Matches f t (ps ++ qs) (os ++ us)
matches-append f t [] qs [] us match more = more
matches-append f t [] qs (o ∷ os) us match more = absurd match
matches-append f t (p ∷ ps) qs [] us match more = absurd match
matches-append f t (p ∷ ps) qs (o ∷ os) us match more = (match.0, match.1, matches-append f t ps qs os us match.2 more)

sooner-matches : (f : Fabric) (t n : ℕ) (ps : List Passed) (os : List Owed) → Matches f t ps os → AreRising (suc n) os → Matches f (suc t) ps (map sooner os)
sooner-matches f t n [] [] match rising = tt
sooner-matches f t n [] (o ∷ os) match rising = absurd match
sooner-matches f t n (p ∷ ps) [] match rising = absurd match
sooner-matches f t n (p ∷ ps) (o ∷ os) match rising =
    (match.0, omega (arith, match.1, rising.0), sooner-matches f t o.due ps os match.2 rising.1)

past-later : (f : Fabric) (t : ℕ) (ps : List Passed) → AllPast f t ps → AllPast f (suc t) ps
past-later f t [] past = tt
past-later f t (p ∷ ps) past = (omega (arith, past.0), past-later f t ps past.1)

past-append : (f : Fabric) (t : ℕ) (ps qs : List Passed) → AllPast f t ps → AllPast f t qs → AllPast f t (ps ++ qs)
past-append f t [] qs past more = more
past-append f t (p ∷ ps) qs past more = (past.0, past-append f t ps qs past.1 more)

one_more : (b : Bool) (n k : ℕ) → one_if b (n + k) ≡ one_if b n + k
one_more true n k = omega arith
one_more false n k = refl

answers-snoc : (ps : List PortRow) (p : PortRow) → answers_in (ps ++ p ∷ []) ≡ answers_in ps + one_if (has_answer p) 0
answers-snoc [] p = omega arith
answers-snoc (q ∷ ps) p = ap (λ (n : ℕ). one_if (has_answer q) n) (answers-snoc ps p) ∙ one_more (has_answer q) (answers_in ps) (one_if (has_answer p) 0)

-- Where an answer stands that is due, the first request is answered; what is left is sooner due.
shows_after : (f : Fabric) (ps : List PortRow) (p : PortRow) (o : List Owed) (new : List Owed) (done waiting : List Passed) (b : Bool)
    → passed_in ps ≡ done ++ waiting → AllPast f (length ps) done → answers_in ps ≡ length done → has_answer p ≡ b
    → Matches f (suc (length ps)) (passed_now (length ps) p) new
    → (done_now left_now : List Passed) → done ++ waiting ≡ done_now ++ left_now → AllPast f (suc (length ps)) done_now
    → length done_now ≡ length done + one_if b 0 → Matches f (suc (length ps)) left_now o
    → Shows f (ps ++ p ∷ []) (o ++ new)
shows_after f ps p o new done waiting b whole past answered is match_new done_now left_now parts past_now count match =
    let e : suc (length ps) ≡ length (ps ++ p ∷ []) = sym (length-snoc ps p) in
    record {
      done = done_now;
      waiting = left_now ++ passed_now (length ps) p;
      whole = passed-snoc ps p ∙ ap (λ l. l ++ passed_now (length ps) p) (whole ∙ parts) ∙ append_assoc done_now left_now (passed_now (length ps) p);
      past = subst (λ (n : ℕ). AllPast f n done_now) e past_now;
      match = subst (λ (n : ℕ). Matches f n (left_now ++ passed_now (length ps) p) (o ++ new)) e (matches-append f (suc (length ps)) left_now (passed_now (length ps) p) o new match match_new);
      answered = answers-snoc ps p ∙ ap (λ b. answers_in ps + one_if b 0) is ∙ ap (λ (n : ℕ). n + one_if b 0) answered ∙ sym count;
    }

abbrev left_by : Bool → Owed → List Owed → List Owed
left_by b o os = if b then map sooner os else map sooner (o ∷ os)

shows_by : (f : Fabric) (ps : List PortRow) (p : PortRow) (q : Passed) (qs : List Passed) (o : Owed) (os new : List Owed) (done : List Passed) (b : Bool)
    → (o.due == 0) ≡ b
    → passed_in ps ≡ done ++ q ∷ qs → AllPast f (length ps) done → answers_in ps ≡ length done → Matches f (length ps) (q ∷ qs) (o ∷ os)
    → AreRising 0 (o ∷ os) → has_answer p ≡ b → Matches f (suc (length ps)) (passed_now (length ps) p) new → Shows f (ps ++ p ∷ []) (left_by b o os ++ new)
shows_by f ps p q qs o os new done true zero_due whole past answered match rising is match_new =
    let zero_is : o.due ≡ 0 = eqb-true o.due 0 zero_due in
    let last : answer_clock f q < suc (length ps) = omega (arith, match.1, zero_is) in
    shows_after f ps p (map sooner os) new done (q ∷ qs) true whole past answered is match_new (done ++ q ∷ []) qs
    (sym (append_assoc done (q ∷ []) qs))
    (past-append f (suc (length ps)) done (q ∷ []) (past-later f (length ps) done past) (last, tt))
    (length-snoc done q ∙ omega arith)
    (sooner-matches f (length ps) o.due qs os match.2 rising.1)
shows_by f ps p q qs o os new done false not_due whole past answered match rising is match_new =
    let later : 1 ≤ o.due = grind (arith, not_due) in
    shows_after f ps p (map sooner (o ∷ os)) new done (q ∷ qs) false whole past answered is match_new done (q ∷ qs)
    refl
    (past-later f (length ps) done past)
    (omega arith)
    (sooner-matches f (length ps) 0 (q ∷ qs) (o ∷ os) match (later, rising.1))

shows_cases : (f : Fabric) (ps : List PortRow) (p : PortRow) (waiting : List Passed) (os new : List Owed) (done : List Passed)
    → passed_in ps ≡ done ++ waiting → AllPast f (length ps) done → answers_in ps ≡ length done → Matches f (length ps) waiting os
    → AreRising 0 os → has_answer p ≡ is_due os → Matches f (suc (length ps)) (passed_now (length ps) p) new → Shows f (ps ++ p ∷ []) (left os ++ new)
shows_cases f ps p [] [] new done whole past answered match rising is match_new =
    shows_after f ps p [] new done [] false whole past answered is match_new done [] refl (past-later f (length ps) done past) (omega arith) tt
shows_cases f ps p [] (o ∷ os) new done whole past answered match rising is match_new = absurd match
shows_cases f ps p (q ∷ qs) [] new done whole past answered match rising is match_new = absurd match
shows_cases f ps p (q ∷ qs) (o ∷ os) new done whole past answered match rising is match_new =
    shows_by f ps p q qs o os new done (o.due == 0) refl whole past answered match rising is match_new

-- A row that gives the answer that is due, and passes a request whose answer is then owed.
pub shows-next : (f : Fabric) (ps : List PortRow) (p : PortRow) (os new : List Owed) → Shows f ps os → AreRising 0 os → has_answer p ≡ is_due os
    → Matches f (suc (length ps)) (passed_now (length ps) p) new → Shows f (ps ++ p ∷ []) (left os ++ new)
shows-next f ps p os new s rising is match_new = shows_cases f ps p s.waiting os new s.done s.whole s.past s.answered s.match rising is match_new

-- before the first row
pub shows-none : (f : Fabric) → Shows f [] []
shows-none f = record { done = []; waiting = []; whole = refl; past = tt; match = tt; answered = refl }

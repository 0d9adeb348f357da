-- A row of a port, as a tick shows it, after the rows so far.
use Rattle.std.proofs.Common.{◌≡◌, ◌≢◌, ℕ, suc, ◌+◌, ◌<◌, ◌≤◌, ◌==◌, ◌&&◌, ◌||◌, not, Bool, true, false, if◌then◌else◌, List, [], ◌∷◌, ◌++◌, length, map, drop, refl, sym, ap, ◌∙◌, subst, arith}
use Rattle.std.specs.Prelude.{nat_lt, is_some, Option, Some, None, option_to_list}
use Rattle.wb_signals.specs.Request.{Request}
use Rattle.wb_signals.specs.Content.{Content}
use Rattle.wb_signals.specs.declared.answer.Answer.{Answer}
use Rattle.wb_signals.specs.declared.answer.Answer.TheVariants.{Ack, Err, Rty}
use Rattle.soc_core.specs.Fabric.{Fabric}
use Rattle.wb_signals.specs.Slave.{Owed, given, sooner, left, owed_for, owed_after, is_stalled}
use Rattle.soc_core.specs.Sound.{AreRising}
use Rattle.wb_signals.specs.declared.port_row.PortRow.{PortRow}
use Rattle.wb_signals.specs.Rows.{request_in}
use Rattle.soc_wave.specs.Rows.{has_passed, is_held_up, has_answer}
use Rattle.soc_wave.specs.Requests.{Passed, put_if}
use Rattle.soc_core.specs.Core.{head_of, unless_stalled}
use Rattle.soc_wave.specs.Legal.{HasPlainFields, IsAnswered, IsWithinDepth, IsStalledAsDue, IsKept}
use Rattle.soc_wave.specs.Shown.{signals, we_of, adr_of, dat_of, sel_of, stall_of, ack_of, err_of, rty_of, answer_word}
use Rattle.soc_wave.proofs.Lists.{append-nil, passed_now}
use Rattle.soc_wave.proofs.Owing.{Shows, is_due, Matches, answer_due, count_owed, stalled_owed, shows-next}

abbrev is_true : Bool → Type 0
is_true true = Unit {0}
is_true false = ⊥

pub true_false : true ≡ false → ⊥
true_false e = subst is_true e tt

pub false_true : false ≡ true → ⊥
false_true e = subst is_true (sym e) tt

-- ---- the answer that is given

has_given : (a : Option Answer) → (ack_of a || (err_of a || rty_of a)) ≡ is_some a
has_given None = refl
has_given (Some (Ack word)) = refl
has_given (Some Err) = refl
has_given (Some Rty) = refl

given_if : (b : Bool) (a : Answer) → is_some (if b then Some a else None) ≡ b
given_if true a = refl
given_if false a = refl

is_given : (os : List Owed) → is_some (given os) ≡ is_due os
is_given [] = refl
is_given (o ∷ os) = given_if (o.due == 0) o.answer

pub answer_given : (f : Fabric) (cyc : Bool) (os : List Owed) (op : Option Request) → has_answer (signals f cyc os op) ≡ is_due os
answer_given f cyc os op = has_given (given os) ∙ is_given os

ack_first : (a : Option Answer) → ack_of a ≡ true → (err_of a ≡ false) × (rty_of a ≡ false)
ack_first None is = absurd (false_true is)
ack_first (Some (Ack word)) is = (refl, refl)
ack_first (Some Err) is = absurd (false_true is)
ack_first (Some Rty) is = absurd (false_true is)

err_first : (a : Option Answer) → err_of a ≡ true → rty_of a ≡ false
err_first None is = absurd (false_true is)
err_first (Some (Ack word)) is = absurd (false_true is)
err_first (Some Err) is = refl
err_first (Some Rty) is = absurd (false_true is)

no_word : (a : Option Answer) → ack_of a ≡ false → answer_word a ≡ 0
no_word None is = refl
no_word (Some (Ack word)) is = absurd (true_false is)
no_word (Some Err) is = refl
no_word (Some Rty) is = refl

-- ---- the fields

some_none : (op : Option Request) → is_some op ≡ false → op ≡ None
some_none None is = refl
some_none (Some r) is = absurd (true_false is)

pub plain_fields : (f : Fabric) (cyc : Bool) (os : List Owed) (op : Option Request) → (is_some op ≡ true → cyc ≡ true) → HasPlainFields (signals f cyc os op)
plain_fields f cyc os op busy = record {
  strobe = busy;
  write = λ is. ap we_of (some_none op is);
  adr = λ is. ap adr_of (some_none op is);
  dat = λ is. ap dat_of (some_none op is);
  sel = λ is. ap sel_of (some_none op is);
  stall = λ is. ap (λ o. stall_of f os o) (some_none op is);
  read = no_word (given os);
}

-- ---- answers

pub is_answered : (f : Fabric) (ps : List PortRow) (cyc : Bool) (os : List Owed) (op : Option Request) → Shows f ps os → AreRising 0 os → IsAnswered f ps (signals f cyc os op)
is_answered f ps cyc os op shows rising = record {
  due = answer_given f cyc os op ∙ sym (answer_due f ps os shows rising);
  ack_alone = ack_first (given os);
  err_alone = err_first (given os);
}

-- ---- the depth

pub within_depth : (f : Fabric) (ps : List PortRow) (cyc : Bool) (os : List Owed) (op : Option Request) → Shows f ps os
    → (is_some op ≡ true → length os < f.depth) → (length os ≢ 0 → cyc ≡ true) → IsWithinDepth f ps (signals f cyc os op)
within_depth f ps cyc os op shows below busy = record {
  below = λ is. subst (λ (n : ℕ). n < f.depth) (sym (count_owed f ps os shows)) (below is);
  stands = λ some. busy (λ none. some (count_owed f ps os shows ∙ none));
}

-- ---- STALL

pub is_stalled_as_due : (f : Fabric) (ps : List PortRow) (cyc : Bool) (os : List Owed) (op : Option Request) → Shows f ps os → IsStalledAsDue f ps (signals f cyc os op)
is_stalled_as_due f ps cyc os None shows = refl
is_stalled_as_due f ps cyc os (Some r) shows = sym (stalled_owed f r ps os shows)

-- ---- a stalled request

-- A request that was stalled is the next one, and fewer are unanswered than the depth.
pub record Waits (f : Fabric) (old : PortRow) (os : List Owed) (op : Option Request) : Type 0 where
  pub next : is_held_up old ≡ true → op ≡ Some (request_in old)
  pub below : is_held_up old ≡ true → length os < f.depth

-- what a port drives, where fewer are unanswered than the depth or not
abbrev pub driven_if : Bool → Option Request → Option Request
driven_if b op = if b then op else None

abbrev is_there : Option Request → Bool
is_there None = false
is_there (Some r) = true

pub no_request : (r : Request) → ◌≡◌ {A = Option Request} None (Some r) → ⊥
no_request r e = false_true (ap is_there e)

is_driven : (b : Bool) (next op : Option Request) (r : Request) → op ≡ driven_if b next → op ≡ Some r → (b ≡ true) × (next ≡ Some r)
is_driven true next op r is some = (refl, sym is ∙ some)
is_driven false next op r is some = absurd (no_request r (sym is ∙ some))

lt_yes : (a b : ℕ) → a < b → nat_lt a b ≡ true
lt_yes a b h = grind (arith, h)

pub yes_lt : (a b : ℕ) → nat_lt a b ≡ true → a < b
yes_lt a b h = grind (arith, h)

abbrev request_or : Request → Option Request → Request
request_or d None = d
request_or d (Some r) = r

some_is : (r s : Request) → ◌≡◌ {A = Option Request} (Some r) (Some s) → r ≡ s
some_is r s e = ap (request_or r) e

kept_by : (f : Fabric) (old : PortRow) (cyc : Bool) (os : List Owed) (op : Option Request) → (is_some op ≡ true → cyc ≡ true) → op ≡ Some (request_in old)
    → ((signals f cyc os op).cyc ≡ true) × ((signals f cyc os op).stb ≡ true) × (request_in (signals f cyc os op) ≡ request_in old)
kept_by f old cyc os None busy is = absurd (no_request (request_in old) is)
kept_by f old cyc os (Some r) busy is = (busy refl, refl, some_is r (request_in old) is)

pub is_kept : (f : Fabric) (old : PortRow) (cyc : Bool) (os : List Owed) (next op : Option Request) → op ≡ driven_if (nat_lt (length os) f.depth) next
    → Waits f old os next → (is_some op ≡ true → cyc ≡ true) → IsKept old (signals f cyc os op)
is_kept f old cyc os next op is waits busy held =
    let below = lt_yes (length os) f.depth (waits.below held) in
    kept_by f old cyc os op busy (is ∙ ap (λ b. driven_if b next) below ∙ waits.next held)

-- ---- what is owed after the row

and_false : (b : Bool) → (b && false) ≡ false
and_false true = refl
and_false false = refl

abbrev passed_by : ℕ → Request → Bool → List Passed
passed_by t r b = put_if b (record { clock = t; request = r }) []

abbrev owed_new : Fabric → List Content → Bool → Request → List Owed
owed_new f contents true r = []
owed_new f contents false r = owed_for f.wiring contents r ∷ []

owed_by : (f : Fabric) (contents : List Content) (os : List Owed) (r : Request) (b c : Bool) → c ≡ b
    → owed_after f.wiring contents os (if c then None else Some r) ≡ left os ++ owed_new f contents b r
owed_by f contents os r true true is = sym (append-nil (left os))
owed_by f contents os r true false is = absurd (false_true is)
owed_by f contents os r false true is = absurd (true_false is)
owed_by f contents os r false false is = refl

new_matches : (f : Fabric) (contents : List Content) (t : ℕ) (b : Bool) (r : Request) → Matches f (suc t) (passed_by t r (not b)) (owed_new f contents b r)
new_matches f contents t true r = tt
new_matches f contents t false r = (refl, omega arith, tt)

shows_stalled : (f : Fabric) (contents : List Content) (ps : List PortRow) (cyc : Bool) (os : List Owed) (r : Request) (b : Bool) → is_stalled f.wiring os r ≡ b
    → Shows f ps os → AreRising 0 os → cyc ≡ true
    → Shows f (ps ++ signals f cyc os (Some r) ∷ []) (owed_after f.wiring contents os (if is_stalled f.wiring os r then None else Some r))
shows_stalled f contents ps cyc os r b is shows rising busy =
    let passes_is : has_passed (signals f cyc os (Some r)) ≡ not b = ap (λ c. c && not (is_stalled f.wiring os r)) busy ∙ ap (λ c. not c) is in
    let now : passed_now (length ps) (signals f cyc os (Some r)) ≡ passed_by (length ps) r (not b) = ap (passed_by (length ps) r) passes_is in
    let owed_is : owed_after f.wiring contents os (if is_stalled f.wiring os r then None else Some r) ≡ left os ++ owed_new f contents b r = owed_by f contents os r b (is_stalled f.wiring os r) is in
    let all = shows-next f ps (signals f cyc os (Some r)) os (owed_new f contents b r) shows rising (answer_given f cyc os (Some r))
    (subst (λ l. Matches f (suc (length ps)) l (owed_new f contents b r)) (sym now) (new_matches f contents (length ps) b r)) in
    subst (λ l. Shows f (ps ++ signals f cyc os (Some r) ∷ []) l) (sym owed_is) all

pub shows_tick : (f : Fabric) (contents : List Content) (ps : List PortRow) (cyc : Bool) (os : List Owed) (op : Option Request)
    → Shows f ps os → AreRising 0 os → (is_some op ≡ true → cyc ≡ true)
    → Shows f (ps ++ signals f cyc os op ∷ []) (owed_after f.wiring contents os (unless_stalled f.wiring os op))
shows_tick f contents ps cyc os None shows rising busy =
    let none : passed_now (length ps) (signals f cyc os None) ≡ [] = ap (λ b. put_if b (record { clock = length ps; request = request_in (signals f cyc os None) }) []) (and_false cyc) in
    let all = shows-next f ps (signals f cyc os None) os [] shows rising (answer_given f cyc os None) (subst (λ l. Matches f (suc (length ps)) l []) (sym none) tt) in
    subst (λ l. Shows f (ps ++ signals f cyc os None ∷ []) l) (append-nil (left os)) all
shows_tick f contents ps cyc os (Some r) shows rising busy =
    shows_stalled f contents ps cyc os r (is_stalled f.wiring os r) refl shows rising (busy refl)

-- ---- what waits after the row

length-map : {A B : Type 0} (g : A → B) (xs : List A) → length (map g xs) ≡ length xs
length-map g [] = refl
length-map g (x ∷ xs) = ap (λ (n : ℕ). suc n) (length-map g xs)

no_longer_by : (b : Bool) (o : Owed) (os : List Owed) → length (if b then map sooner os else map sooner (o ∷ os)) ≤ length (o ∷ os)
no_longer_by true o os = omega (arith, length-map sooner os)
no_longer_by false o os = omega (arith, length-map sooner os)

no_longer : (os : List Owed) → length (left os) ≤ length os
no_longer [] = omega arith
no_longer (o ∷ os) = no_longer_by (o.due == 0) o os

and_true : (a b : Bool) → (a && b) ≡ true → (a ≡ true) × (b ≡ true)
and_true true b is = (refl, is)
and_true false b is = absurd (false_true is)

abbrev held_row : Fabric → Bool → List Owed → Request → Bool → PortRow
held_row f cyc os r b = record { cyc = cyc; stb = true; we = r.write; adr = r.adr; dat = r.dat; sel = r.sel; stall = b; ack = ack_of (given os); err = err_of (given os); rty = rty_of (given os); read = answer_word (given os) }

waits_by : (f : Fabric) (contents : List Content) (cyc : Bool) (os : List Owed) (loaded : List Request) (sent : ℕ) (r : Request) (b : Bool)
    → (nat_lt (length os) f.depth ≡ true) × (head_of (drop sent loaded) ≡ Some r)
    → Waits f (held_row f cyc os r b) (owed_after f.wiring contents os (if b then None else Some r))
    (head_of (drop (sent + length (option_to_list (if b then None else Some r))) loaded))
waits_by f contents cyc os loaded sent r true offered =
    let same : sent ≡ sent + 0 = omega arith in
    record {
      next = λ held. subst (λ (n : ℕ). head_of (drop n loaded) ≡ Some r) same offered.1;
      below = λ held. omega (arith, no_longer os, yes_lt (length os) f.depth offered.0);
    }
waits_by f contents cyc os loaded sent r false offered = record {
  next = λ held. absurd (false_true (sym (and_false cyc) ∙ held));
  below = λ held. absurd (false_true (sym (and_false cyc) ∙ held));
}

pub waits_tick : (f : Fabric) (contents : List Content) (cyc : Bool) (os : List Owed) (loaded : List Request) (sent : ℕ) (op : Option Request)
    → op ≡ driven_if (nat_lt (length os) f.depth) (head_of (drop sent loaded))
    → Waits f (signals f cyc os op) (owed_after f.wiring contents os (unless_stalled f.wiring os op))
    (head_of (drop (sent + length (option_to_list (unless_stalled f.wiring os op))) loaded))
waits_tick f contents cyc os loaded sent None is = record {
  next = λ held. absurd (false_true (sym (and_false cyc) ∙ held));
  below = λ held. absurd (false_true (sym (and_false cyc) ∙ held));
}
waits_tick f contents cyc os loaded sent (Some r) is = waits_by f contents cyc os loaded sent r (is_stalled f.wiring os r) (is_driven (nat_lt (length os) f.depth) (head_of (drop sent loaded)) (Some r) r is refl)

-- What is done before a tick, master after master.
use Rattle.std.proofs.Common.{◌≡◌, ◌≢◌, ℕ, zero, suc, ◌+◌, ◌<◌, ◌≤◌, ◌&&◌, Bool, true, false, List, [], ◌∷◌, ◌++◌, length, take, drop, refl, sym, ap, ◌∙◌, subst, arith, append_assoc, get_or-set_other}
use Rattle.std.specs.Prelude.{nat_le, slice_index_or, slice_set}
use Rattle.std.proofs.lemmas.List.{length-set, drop_more}
use Rattle.std.proofs.Math.Seq.{drop-length}
use Rattle.soc_core.specs.Fabric.{Fabric}
use Rattle.soc_core.specs.Core.{Phase, Idle, Wants, Holds, Leaves, CorePort, Core, port, resting_port, unloaded, with_load, with_taken, taken}
use Rattle.soc_script.specs.Script.{ScriptLine}
use Rattle.soc_script_wave.specs.Runner.{is_loaded, is_through, after_taken, settled_if, settled, lines_left, load_if, begun_by, begun_if, advanced, prepared, prepared_from, left_from, is_over, is_nil, is_released}
use Rattle.soc_wave.proofs.Lists.{append-nil}
use Rattle.soc_sim.specs.Steps.{MayPrepare, MayAllPrepare}

-- ---- a master changes no other port

set_other : (core : Core) (m n : ℕ) (p : CorePort) → n ≢ m → slice_index_or (slice_set core.ports m p) n resting_port ≡ port core n
set_other core m n p other = get_or-set_other core.ports m n p resting_port other

after_other : (m n : ℕ) (b : Bool) (todo : List ScriptLine) (core : Core) → n ≢ m → port (after_taken m b todo core) n ≡ port core n
after_other m n true todo core other = set_other core m n (unloaded Leaves []) other
after_other m n false [] core other = set_other core m n (unloaded Leaves []) other
after_other m n false (l ∷ todo) core other = refl

settled_other_if : (m n : ℕ) (b : Bool) (l : ScriptLine) (todo : List ScriptLine) (core : Core) → n ≢ m → port (settled_if b m l todo core) n ≡ port core n
settled_other_if m n true l todo core other = after_other m n l.last todo (taken core m) other ∙ set_other core m n (with_taken (port core m)) other
settled_other_if m n false l todo core other = refl

settled_other : (m n : ℕ) (todo : List ScriptLine) (core : Core) → n ≢ m → port (settled m todo core) n ≡ port core n
settled_other m n [] core other = refl
settled_other m n (l ∷ todo) core other = settled_other_if m n (is_through (port core m)) l todo core other

load_other : (m n : ℕ) (b : Bool) (l : ScriptLine) (core : Core) → n ≢ m → port (load_if b m l core) n ≡ port core n
load_other m n true l core other = refl
load_other m n false l core other = set_other core m n (with_load l.ops (port core m)) other

begun_other : (f : Fabric) (m n : ℕ) (phase : Phase) (l : ScriptLine) (core : Core) → n ≢ m → port (begun_by f phase m l core) n ≡ port core n
begun_other f m n Idle l core other = set_other core m n _ other
begun_other f m n (Wants set) l core other = refl
begun_other f m n (Holds set) l core other = load_other m n (is_loaded (port core m).loaded) l core other
begun_other f m n Leaves l core other = refl

begun_other_if : (f : Fabric) (m n : ℕ) (b : Bool) (l : ScriptLine) (core : Core) → n ≢ m → port (begun_if f b m l core) n ≡ port core n
begun_other_if f m n true l core other = begun_other f m n (port core m).phase l core other
begun_other_if f m n false l core other = refl

advanced_other : (f : Fabric) (t m n : ℕ) (todo : List ScriptLine) (core : Core) → n ≢ m → port (advanced f t m todo core) n ≡ port core n
advanced_other f t m n [] core other = refl
advanced_other f t m n (l ∷ todo) core other = begun_other_if f m n (nat_le l.clock t) l core other

prepared_other : (f : Fabric) (t m n : ℕ) (todo : List ScriptLine) (core : Core) → n ≢ m → port (prepared f t m todo core) n ≡ port core n
prepared_other f t m n todo core other =
    advanced_other f t m n (lines_left (port core m) todo) (settled m todo core) other ∙ settled_other m n todo core other

left_again : (m : ℕ) (todos : List (List ScriptLine)) (old new : Core) → ((j : ℕ) → m ≤ j → port new j ≡ port old j) → left_from m todos new ≡ left_from m todos old
left_again m [] old new same = refl
left_again m (todo ∷ todos) old new same =
    ap (λ p. lines_left p todo ∷ left_from (suc m) todos new) (same m (omega arith))
    ∙ ap (λ ls. lines_left (port old m) todo ∷ ls) (left_again (suc m) todos old new (λ j le. same j (omega (arith, le))))

-- ---- lists

take-set : (m : ℕ) (xs : List (List ScriptLine)) (x : List ScriptLine) → m < length xs → take (suc m) (slice_set xs m x) ≡ take m xs ++ x ∷ []
take-set m [] x lt = absurd (omega (arith, lt))
take-set zero (y ∷ xs) x lt = refl
take-set (suc m) (y ∷ xs) x lt = ap (λ ls. y ∷ ls) (take-set m xs x (omega (arith, lt)))

drop-set : (m : ℕ) (xs : List (List ScriptLine)) (x : List ScriptLine) → drop (suc m) (slice_set xs m x) ≡ drop (suc m) xs
drop-set m [] x = refl
drop-set zero (y ∷ xs) x = refl
drop-set (suc m) (y ∷ xs) x = drop-set m xs x

take_whole : (xs : List (List ScriptLine)) (n : ℕ) → n ≡ length xs → take n xs ≡ xs
take_whole [] n is = let e : n ≡ 0 = is in ap (λ (k : ℕ). take {A = List ScriptLine} k []) e
take_whole (x ∷ xs) zero is = absurd (omega (arith, is))
take_whole (x ∷ xs) (suc n) is = ap (λ ls. x ∷ ls) (take_whole xs n (omega (arith, is)))

-- ---- the masters below m are prepared, and the others lead to the same

pub record PreparesRest (f : Fabric) (t : ℕ) (todos : List (List ScriptLine)) (core : Core) (m : ℕ) (todos_now : List (List ScriptLine)) (now : Core) : Type 0 where
  pub prepares : prepared_from f t m (drop m todos_now) now ≡ prepared_from f t 0 todos core
  pub leaves : take m todos_now ++ left_from m (drop m todos_now) now ≡ left_from 0 todos core
  pub may : MayAllPrepare f t m (drop m todos_now) now
  pub count : length todos_now ≡ length todos

pub prepares_first : (f : Fabric) (t : ℕ) (todos : List (List ScriptLine)) (core : Core) → MayAllPrepare f t 0 todos core → PreparesRest f t todos core 0 todos core
prepares_first f t todos core may = record { prepares = refl; leaves = refl; may = may; count = refl }

module _ (f : Fabric) (t : ℕ) (todos : List (List ScriptLine)) (core : Core) (m : ℕ) (todos_now : List (List ScriptLine)) (now : Core) (r : PreparesRest f t todos core m todos_now now) where
  module _ (lt : m < length todos) where
    abbrev todo : List ScriptLine
    todo = slice_index_or todos_now m []

    below : m < length todos_now
    below = omega (arith, lt, r.count)

    here : drop m todos_now ≡ todo ∷ drop (suc m) todos_now
    here = let e : m + 1 ≡ suc m = omega arith in drop_more todos_now m [] below ∙ ap (λ (n : ℕ). todo ∷ drop n todos_now) e

    pub may_next : MayPrepare f m todo now
    may_next = (subst (λ ls. MayAllPrepare f t m ls now) here r.may).0

    pub prepares_next : PreparesRest f t todos core (suc m) (slice_set todos_now m (lines_left (port now m) todo)) (prepared f t m todo now)
    prepares_next =
        let left : List ScriptLine = lines_left (port now m) todo in
        let next : Core = prepared f t m todo now in
        let rest = drop-set m todos_now left in
        let same = left_again (suc m) (drop (suc m) todos_now) now next (λ j le. prepared_other f t m j todo now (λ e. omega (arith, e, le))) in
        record {
          prepares = ap (λ ls. prepared_from f t (suc m) ls next) rest ∙ sym (ap (λ ls. prepared_from f t m ls now) here) ∙ r.prepares;
          leaves =
              ap (λ ls. ls ++ left_from (suc m) (drop (suc m) (slice_set todos_now m left)) next) (take-set m todos_now left below)
              ∙ ap (λ ls. (take m todos_now ++ left ∷ []) ++ left_from (suc m) ls next) rest
              ∙ ap (λ ls. (take m todos_now ++ left ∷ []) ++ ls) same
              ∙ append_assoc (take m todos_now) (left ∷ []) (left_from (suc m) (drop (suc m) todos_now) now)
              ∙ ap (λ ls. take m todos_now ++ left_from m ls now) (sym here)
              ∙ r.leaves;
          may = subst (λ ls. MayAllPrepare f t (suc m) ls next) (sym rest) (subst (λ ls. MayAllPrepare f t m ls now) here r.may).1;
          count = length-set todos_now m left ∙ r.count;
        }

  module _ (end : m ≡ length todos) where
    none : drop m todos_now ≡ []
    none = let e : m ≡ length todos_now = omega (arith, end, r.count) in ap (λ (n : ℕ). drop n todos_now) e ∙ drop-length todos_now

    pub prepared_all : now ≡ prepared_from f t 0 todos core
    prepared_all = ap (λ ls. prepared_from f t m ls now) (sym none) ∙ r.prepares

    pub left_all : todos_now ≡ left_from 0 todos core
    left_all =
        sym (append-nil todos_now) ∙ ap (λ ls. ls ++ []) (sym (take_whole todos_now m (omega (arith, end, r.count))))
        ∙ ap (λ ls. take m todos_now ++ left_from m ls now) (sym none) ∙ r.leaves

pub prepares_step : (f : Fabric) (t : ℕ) (todos : List (List ScriptLine)) (core : Core) (m : ℕ) (todos_now : List (List ScriptLine)) (now : Core) → PreparesRest f t todos core m todos_now now → m < length todos
    → (todos_then : List (List ScriptLine)) (then_core : Core) → todos_then ≡ slice_set todos_now m (lines_left (port now m) (slice_index_or todos_now m [])) → then_core ≡ prepared f t m (slice_index_or todos_now m []) now
    → PreparesRest f t todos core (suc m) todos_then then_core
prepares_step f t todos core m todos_now now r lt todos_then then_core left_is core_is =
    subst (λ ls. PreparesRest f t todos core (suc m) ls then_core) (sym left_is)
    (subst (λ c. PreparesRest f t todos core (suc m) (slice_set todos_now m (lines_left (port now m) (slice_index_or todos_now m []))) c) (sym core_is) (prepares_next f t todos core m todos_now now r lt))

-- ---- whether all is over

pub over_next : (m : ℕ) (todos : List (List ScriptLine)) (core : Core) → m < length todos → (is_nil (slice_index_or todos m []) && is_released (port core m).phase) ≡ true → is_over m (drop m todos) core ≡ is_over (suc m) (drop (suc m) todos) core
over_next m todos core lt is =
    let e : m + 1 ≡ suc m = omega arith in
    let here : drop m todos ≡ slice_index_or todos m [] ∷ drop (suc m) todos = drop_more todos m [] lt ∙ ap (λ (n : ℕ). slice_index_or todos m [] ∷ drop n todos) e in
    ap (λ ls. is_over m ls core) here ∙ ap (λ b. b && is_over (suc m) (drop (suc m) todos) core) is

pub over_not : (m : ℕ) (todos : List (List ScriptLine)) (core : Core) → m < length todos → (is_nil (slice_index_or todos m []) && is_released (port core m).phase) ≡ false → is_over m (drop m todos) core ≡ false
over_not m todos core lt is =
    let e : m + 1 ≡ suc m = omega arith in
    let here : drop m todos ≡ slice_index_or todos m [] ∷ drop (suc m) todos = drop_more todos m [] lt ∙ ap (λ (n : ℕ). slice_index_or todos m [] ∷ drop n todos) e in
    ap (λ ls. is_over m ls core) here ∙ ap (λ b. b && is_over (suc m) (drop (suc m) todos) core) is

pub over_end : (m : ℕ) (todos : List (List ScriptLine)) (core : Core) → m ≡ length todos → is_over m (drop m todos) core ≡ true
over_end m todos core is = ap (λ (n : ℕ). is_over m (drop n todos) core) is ∙ ap (λ ls. is_over m ls core) (drop-length todos)

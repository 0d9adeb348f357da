-- A script's run ends.
use Rattle.std.proofs.Common.{◌≡◌, ◌≢◌, ◌⊎◌, ℕ, zero, suc, ◌+◌, ◌-◌, ◌<◌, ◌≤◌, ◌==◌, Bool, true, false, if◌then◌else◌, List, eqb-true, refl, sym, ap, ◌∙◌, subst, arith, inl, inr}
use Rattle.std.specs.Prelude.{nat_lt, bit_and, Option, Some}
use Rattle.std.specs.Int.{bit_at}
use Rattle.std.specs.Int.Bits.{and_zero_l}
use Rattle.std.proofs.lemmas.Bool.{cases_eq}
use Rattle.soc_core.specs.Fabric.{Fabric}
use Rattle.wb_crossbar.specs.Grant.{Turn, port_at, IsGranted, IsFree, IsGrant}
use Rattle.soc_core.specs.Core.{Phase, Idle, Wants, Holds, Leaves, CorePort, pending, phase_after, wants, turn, ticks_left}
use Rattle.soc_core.specs.Sound.{StandsIn}
use Rattle.soc_script.specs.Script.{ScriptLine}
use Rattle.soc_script_wave.specs.Work.{work, after_first, holding_work, work_as, port_work}
use Rattle.soc_script_wave.specs.Runner.{is_loaded}
use Rattle.soc_wave.proofs.PortRows.{true_false}
use Rattle.soc_script_wave.proofs.OwnRuns.{WillFall}

-- ---- a tick at one port

-- what a tick leaves of a port
pub record PortMoves (f : Fabric) (p q : CorePort) (b : Bool) : Type 0 where
  pub phase : q.phase ≡ phase_after b p.phase
  pub loaded : q.loaded ≡ p.loaded
  pub ticks : ticks_left f q ≤ ticks_left f p - 1

phase_work : (f : Fabric) (p : CorePort) (todo : List ScriptLine) (phase : Phase) → p.phase ≡ phase → port_work f p todo ≡ work_as f phase p todo
phase_work f p todo phase is = ap (λ ph. work_as f ph p todo) is

holding_less : (f : Fabric) (p q : CorePort) (todo : List ScriptLine) (b : Bool) → ticks_left f q ≤ ticks_left f p → holding_work f b q todo ≤ holding_work f b p todo
holding_less f p q todo true le = omega (arith, le)
holding_less f p q todo false le = omega arith

moved : (f : Fabric) (p q : CorePort) (todo : List ScriptLine) (b : Bool) (phase next : Phase) → PortMoves f p q b → p.phase ≡ phase → phase_after b phase ≡ next
    → (port_work f p todo ≡ work_as f phase p todo) × (port_work f q todo ≡ work_as f next q todo)
moved f p q todo b phase next moves is after =
    (phase_work f p todo phase is, phase_work f q todo next (moves.phase ∙ ap (λ ph. phase_after b ph) is ∙ after))

-- a tick raises no work
pub tick_less : (f : Fabric) (p q : CorePort) (todo : List ScriptLine) (b : Bool) (phase : Phase) → PortMoves f p q b → p.phase ≡ phase → StandsIn f phase p → port_work f q todo ≤ port_work f p todo
tick_less f p q todo b Idle moves is stands = let w = moved f p q todo b Idle Idle moves is refl in omega (arith, w.0, w.1)
tick_less f p q todo false (Wants set) moves is stands = let w = moved f p q todo false (Wants set) (Wants set) moves is refl in omega (arith, w.0, w.1)
tick_less f p q todo true (Wants set) moves is stands =
    let w = moved f p q todo true (Wants set) (Holds set) moves is refl in
    let none : holding_work f (is_loaded q.loaded) q todo ≡ work f todo - 2 = ap (λ ops. holding_work f (is_loaded ops) q todo) (moves.loaded ∙ stands.1) in
    omega (arith, w.0, w.1, none)
tick_less f p q todo b (Holds set) moves is stands =
    let w = moved f p q todo b (Holds set) (Holds set) moves is refl in
    let same : holding_work f (is_loaded q.loaded) q todo ≡ holding_work f (is_loaded p.loaded) q todo = ap (λ ops. holding_work f (is_loaded ops) q todo) moves.loaded in
    let le = holding_less f p q todo (is_loaded p.loaded) (omega (arith, moves.ticks)) in
    omega (arith, w.0, w.1, same, le)
tick_less f p q todo b Leaves moves is stands = let w = moved f p q todo b Leaves Idle moves is refl in omega (arith, w.0, w.1)

-- it lowers that of a port that was released, or that has an answer to come
pub tick_falls : (f : Fabric) (p q : CorePort) (todo : List ScriptLine) (b : Bool) → PortMoves f p q b → (ticks_left f p ≡ 0 → pending p ≡ 0) → WillFall p → port_work f q todo < port_work f p todo
tick_falls f p q todo b moves none (inl leaves) = let w = moved f p q todo b Leaves Idle moves leaves refl in omega (arith, w.0, w.1)
tick_falls f p q todo b moves none (inr holds) =
    let w = moved f p q todo b (Holds holds.0) (Holds holds.0) moves holds.1 refl in
    let old : holding_work f (is_loaded p.loaded) p todo ≡ work f (after_first todo) + 1 + ticks_left f p = ap (λ b. holding_work f b p todo) holds.2 in
    let new : holding_work f (is_loaded q.loaded) q todo ≡ work f (after_first todo) + 1 + ticks_left f q = ap (λ ops. holding_work f (is_loaded ops) q todo) moves.loaded ∙ ap (λ b. holding_work f b q todo) holds.2 in
    let some : ticks_left f p ≢ 0 = λ z. holds.3 (none z) in
    omega (arith, w.0, w.1, old, new, some, moves.ticks)

-- and that of a port that is granted
pub tick_grants : (f : Fabric) (p q : CorePort) (todo : List ScriptLine) (b : Bool) (set : ℕ) → PortMoves f p q b → p.phase ≡ Wants set → StandsIn f (Wants set) p → b ≡ true → 2 ≤ work f todo → port_work f q todo < port_work f p todo
tick_grants f p q todo b set moves is stands granted some =
    let w = moved f p q todo b (Wants set) (Holds set) moves is (ap (λ c. phase_after c (Wants set)) granted) in
    let none : holding_work f (is_loaded q.loaded) q todo ≡ work f todo - 2 = ap (λ ops. holding_work f (is_loaded ops) q todo) (moves.loaded ∙ stands.1) in
    omega (arith, w.0, w.1, none, some)

-- ---- some port is granted, where one waits and none holds

pub some_true : (n : ℕ) → n ≡ 1 → (n == 1) ≡ true
some_true n is = grind (arith, is)

abbrev at_by : Bool → Turn → ℕ → ℕ
at_by b turn i = if b then turn.first + i else turn.first + i - turn.ports

lt_no : (a b : ℕ) → b ≤ a → nat_lt a b ≡ false
lt_no a b le = grind (arith, le)

lt_yes : (a b : ℕ) → a < b → nat_lt a b ≡ true
lt_yes a b lt = grind (arith, lt)

looked_by : (turn : Turn) (m : ℕ) → m < turn.ports → turn.first < turn.ports → (b : Bool) → nat_lt m turn.first ≡ b → (i : ℕ) × (i < turn.ports) × (port_at turn i ≡ m)
looked_by turn m lt first true below =
    let less : m < turn.first = grind (arith, below) in
    let over : nat_lt (turn.first + (m + turn.ports - turn.first)) turn.ports ≡ false = lt_no (turn.first + (m + turn.ports - turn.first)) turn.ports (omega (arith, less, first)) in
    (m + turn.ports - turn.first, omega (arith, less, first), ap (λ b. at_by b turn (m + turn.ports - turn.first)) over ∙ omega (arith, less, first))
looked_by turn m lt first false above =
    let more : turn.first ≤ m = grind (arith, above) in
    let under : nat_lt (turn.first + (m - turn.first)) turn.ports ≡ true = lt_yes (turn.first + (m - turn.first)) turn.ports (omega (arith, more, lt)) in
    (m - turn.first, omega (arith, more, lt), ap (λ b. at_by b turn (m - turn.first)) under ∙ omega (arith, more))

-- the number of looks before a port
pub looked_before : (turn : Turn) (m : ℕ) → m < turn.ports → turn.first < turn.ports → (i : ℕ) × (i < turn.ports) × (port_at turn i ≡ m)
looked_before turn m lt first = looked_by turn m lt first (nat_lt m turn.first) refl

none_by : (grant n m : ℕ) → (bit_at grant n == 1) ≡ false → ((k : ℕ) → k < n → IsGranted grant k → ⊥) → m < suc n → IsGranted grant m → (m ≡ n) ⊎ (m ≢ n) → ⊥
none_by grant n m here none lt granted (inl same) = true_false (sym (some_true (bit_at grant n) (subst (λ (k : ℕ). IsGranted grant k) same granted)) ∙ here)
none_by grant n m here none lt granted (inr other) = none m (omega (arith, lt, other)) granted

search_by : (grant n : ℕ) (b : Bool) → (bit_at grant n == 1) ≡ b → ((m : ℕ) × (m < n) × IsGranted grant m) ⊎ ((m : ℕ) → m < n → IsGranted grant m → ⊥)
    → ((m : ℕ) × (m < suc n) × IsGranted grant m) ⊎ ((m : ℕ) → m < suc n → IsGranted grant m → ⊥)
search_by grant n true here rest = inl (n, omega arith, eqb-true (bit_at grant n) 1 here)
search_by grant n false here (inl found) = inl (found.0, omega (arith, found.1), found.2)
search_by grant n false here (inr none) = inr (λ m lt granted. none_by grant n m here none lt granted (cases_eq m n))

-- each port below n isn't granted, or one is
search_granted : (grant n : ℕ) → ((m : ℕ) × (m < n) × IsGranted grant m) ⊎ ((m : ℕ) → m < n → IsGranted grant m → ⊥)
search_granted grant zero = inr (λ m lt granted. omega (arith, lt))
search_granted grant (suc n) = search_by grant n (bit_at grant n == 1) refl (search_granted grant n)

zero_and : (set : ℕ) → bit_and 0 set ≡ 0
zero_and set = and_zero_l set

within_by : (b : Bool) (t : Turn) (i : ℕ) → t.first < t.ports → i < t.ports → nat_lt (t.first + i) t.ports ≡ b → at_by b t i < t.ports
within_by true t i first lt is = grind (arith, is)
within_by false t i first lt is = let ge : t.ports ≤ t.first + i = grind (arith, is) in omega (arith, ge, first, lt)

none_granted : (t : Turn) (grant : ℕ) → ((j : ℕ) → j < t.ports → IsGranted grant j → ⊥) → t.first < t.ports → (i : ℕ) → i < t.ports → IsGranted grant (port_at t i) → ⊥
none_granted t grant none first i lt granted = none (port_at t i) (within_by (nat_lt (t.first + i) t.ports) t i first lt refl) granted

some_by : (t : Turn) (asks : ℕ → Option ℕ) (grant m set : ℕ) → t.first < t.ports → m < t.ports → asks m ≡ Some set → IsGrant t asks 0 grant
    → (((j : ℕ) × (j < t.ports) × IsGranted grant j) ⊎ ((j : ℕ) → j < t.ports → IsGranted grant j → ⊥)) → (j : ℕ) × (j < t.ports) × IsGranted grant j
some_by t asks grant m set first lt wants is (inl found) = found
some_by t asks grant m set first lt wants is (inr none) =
    let look = looked_before t m lt first in
    let mine : asks (port_at t look.0) ≡ Some set = ap asks look.2 ∙ wants in
    let free : IsFree t asks 0 grant look.0 set = record { unheld = zero_and set; apart = λ j other below granted asked. absurd (none_granted t grant none first j (omega (arith, below, look.1)) granted) } in
    let granted = ((is.decided look.0 look.1).waiting set mine).1 free in
    absurd (none m lt (subst (λ (k : ℕ). IsGranted grant k) look.2 granted))

pub some_granted : (t : Turn) (asks : ℕ → Option ℕ) (grant m set : ℕ) → t.first < t.ports → m < t.ports → asks m ≡ Some set → IsGrant t asks 0 grant
    → (j : ℕ) × (j < t.ports) × IsGranted grant j
some_granted t asks grant m set first lt wants is = some_by t asks grant m set first lt wants is (search_granted grant t.ports)

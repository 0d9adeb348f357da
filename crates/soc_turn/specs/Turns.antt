-- The rule of the table, and what each step tells.
use Rattle.std.specs.Prelude.{◌≡◌, ◌≢◌, ◌⊎◌, ℕ, ◌+◌, ◌-◌, ◌%◌, ◌^◌, ◌<◌, ◌≤◌, List, [], ◌∷◌, length, Option, Some}
use mathlib.Core.Option.{some}
use lib.ListN.{get_elem?}
use Rattle.atomic_table.specs.Table.{State, Me, Step}
use Rattle.wb_signals.specs.History.{Entry}
use Rattle.soc_turn.specs.declared.knows.Knows.{Knows}
use Rattle.soc_turn.specs.declared.knows.Knows.TheVariants.{Spent, Rooted, Idle, Waiting, Holding}
use Rattle.soc_journal.specs.Ledger.{Follows}

module _ {T : Type 0} where
  -- how many tickets a seat may still draw or give
  abbrev pub free : Knows T → ℕ
  free Spent = 0
  free (Rooted x made back) = 16 - made + length back
  free (Idle n x) = 1
  free (Waiting n x k) = 0
  free (Holding n x k y) = 0

  abbrev pub total : List (Knows T) → ℕ
  total [] = 0
  total (v ∷ vs) = free v + total vs

  abbrev pub IsHolding : Knows T → Type 0
  IsHolding (Holding n x k y) = Unit {0}
  IsHolding _ = ⊥

  abbrev pub rooted : T → Knows T
  rooted x = Rooted x 0 []

  -- the root after one pass more, and that pass
  abbrev pub gave : Knows T → Knows T
  gave (Rooted x made back) = Rooted x (made + 1) back
  gave v = v

  abbrev pub pass_given : Knows T → Knows T
  pass_given (Rooted x made back) = Idle made x
  pass_given v = Spent

  -- the root with a pass that came back
  abbrev pub gathered : Knows T → Knows T → Knows T
  gathered (Rooted x made back) (Idle n y) = Rooted x made ((n, y) ∷ back)
  gathered v w = v

  abbrev pub AtHome : State (Option T) (Knows T) → T → Type 0
  AtHome s x = get_elem? s.homes 0 ≡ some (some (Some x))

  -- the seat with the ticket served has taken the value
  abbrev pub IsOut : State (Option T) (Knows T) → ℕ → Type 0
  IsOut s j = (v : Knows T) × (get_elem? s.views j ≡ some v) × IsHolding v

  abbrev pub drew : Step (Option T) → Me (Option T) (Knows T) → ℕ → Me (Option T) (Knows T) → Type 0
  drew st m found m' = (n : ℕ) (x : T) → m ≡ (Idle n x, []) → (k : ℕ) × (found ≡ k % 2 ^ 64) × (m' ≡ (Waiting n x k, []))

  abbrev pub published : Step (Option T) → Me (Option T) (Knows T) → ℕ → Me (Option T) (Knows T) → Type 0
  published st m found m' = (n : ℕ) (x : T) (k : ℕ) (y z : T) → m ≡ (Holding n x k y, (0, Some z) ∷ []) → m' ≡ (Idle n z, [])

module _ {T S C : Type 0} (history : T → List Entry) (stake : T → ℕ → S) (charter : T → C) where
  -- the passes that came back to the seat j
  abbrev pub AllBack : (ℕ → ℕ) → T → ℕ → ℕ → List (ℕ × T) → Type 0
  AllBack seat x made j [] = Unit {0}
  AllBack seat x made j (p ∷ ps) = (seat p.0 ≡ j) × Follows history stake charter p.0 p.1 x × (p.0 < made) × AllBack seat x made j ps

  -- the value is x, the tickets from served to next are out, and the seat j has this view
  abbrev pub Fits : (ℕ → ℕ) → (ℕ → ℕ) → ℕ → ℕ → T → ℕ → Knows T → Type 0
  Fits seat queue served next x j Spent = Unit {0}
  Fits seat queue served next x j (Rooted o made back) = ((n : ℕ) → made ≤ n → (seat n ≡ j) × Follows history stake charter n o x) × AllBack seat x made j back × (made ≤ 16)
  Fits seat queue served next x j (Idle n y) = (seat n ≡ j) × Follows history stake charter n y x
  Fits seat queue served next x j (Waiting n y k) = ((seat n ≡ j) × Follows history stake charter n y x) × (queue k ≡ j) × (served ≤ k) × (k < next)
  Fits seat queue served next x j (Holding n y k z) = ((seat n ≡ j) × Follows history stake charter n y x) × (queue k ≡ j) × (k ≡ served) × (k < next) × (z ≡ x)

  pub record Ruled (s : State (Option T) (Knows T)) : Type 0 where
    pub served : ℕ
    pub next : ℕ
    pub value : T
    pub seat : ℕ → ℕ
    pub queue : ℕ → ℕ
    pub words_are : s.words ≡ next % 2 ^ 64 ∷ served % 2 ^ 64 ∷ []
    pub order : served ≤ next
    pub budget : next + total s.views ≡ served + 16
    pub deep : length s.homes ≡ 1
    pub place : AtHome s value ⊎ IsOut s (queue served)
    pub each : (j : ℕ) (v : Knows T) → get_elem? s.views j ≡ some v → Fits seat queue served next value j v

  abbrev pub looked : Step (Option T) → Me (Option T) (Knows T) → ℕ → Me (Option T) (Knows T) → Type 0
  looked st m found m' = (n : ℕ) (x : T) (k : ℕ) → m ≡ (Waiting n x k, [])
      → (found ≡ k % 2 ^ 64 → (y : T) × Follows history stake charter n x y × (m' ≡ (Holding n x k y, (0, Some y) ∷ [])))
      × (found ≢ k % 2 ^ 64 → m' ≡ m)

  -- what each pass that came back may rely on
  abbrev pub AllFollow : T → List (ℕ × T) → Type 0
  AllFollow x [] = Unit {0}
  AllFollow x (p ∷ ps) = Follows history stake charter p.0 p.1 x × AllFollow x ps

-- The arbitration that the rows show is that of the core.
use Rattle.std.proofs.Common.{◌≡◌, ℕ, zero, suc, ◌+◌, ◌<◌, ◌==◌, Bool, true, false, if◌then◌else◌, List, [], ◌∷◌, length, refl, ap, ◌∙◌, arith, inl, inr}
use Rattle.std.specs.Prelude.{◌⊎◌, slice_index_or, bit_or, Some}
use Rattle.std.specs.Int.{bit_at}
use Rattle.soc_core.specs.Core.{Phase, Idle, Wants, Holds, Leaves, CorePort, resting_port, phase_after, granted_from, wants_of, held_by, held}
use Rattle.soc_core.specs.Sound.{is_busy_phase}
use Rattle.wb_signals.specs.Wave.{WaveRowState}
use Rattle.soc_wave.specs.Rows.{port_in}
use Rattle.soc_wave.specs.Arbitration.{Course, Off, Waiting, Holding, PortCourse, no_course, with_cyc, with_cycs, awaited_set, set_held, course_at, all_held, hold_if, hold_from, holding_from}
use Rattle.soc_wave.specs.Shown.{holder_from}

-- ---- a port

-- What the rows show of a port's cycle: nothing of one that was raised since the last tick, and of one that was released
-- since then nothing is known.
abbrev pub Stands : Phase → Course → Type 0
Stands Idle c = c ≡ Off
Stands (Wants set) c = (c ≡ Off) ⊎ (c ≡ Waiting set)
Stands (Holds set) c = c ≡ Holding set
Stands Leaves c = Unit {0}

abbrev pub AllStand : List CorePort → List PortCourse → Type 0
AllStand [] [] = Unit {0}
AllStand [] (c ∷ courses) = ⊥
AllStand (p ∷ ports) [] = ⊥
AllStand (p ∷ ports) (c ∷ courses) = Stands p.phase c.course × AllStand ports courses

-- The set that is named for the next rise is the one that was raised.
abbrev pub IsNamed : (ℕ → ℕ) → Phase → PortCourse → Type 0
IsNamed set_of phase c = c.course ≡ Off → (set : ℕ) → phase ≡ Wants set → set_of c.risen ≡ set

-- on the ports from the one with number m on
abbrev pub AllNamed : (ℕ → ℕ → ℕ) → ℕ → List CorePort → List PortCourse → Type 0
AllNamed named m ports [] = Unit {0}
AllNamed named m [] (c ∷ courses) = Unit {0}
AllNamed named m (p ∷ ports) (c ∷ courses) = IsNamed (named m) p.phase c × AllNamed named (suc m) ports courses

-- a port's cycle in the row of a tick, before the grants
abbrev pub course_of : Phase → Course
course_of Idle = Off
course_of (Wants set) = Waiting set
course_of (Holds set) = Holding set
course_of Leaves = Off

-- and after them
abbrev pub courses_of : ℕ → ℕ → List CorePort → List Course
courses_of grant m [] = []
courses_of grant m (p ∷ ports) = course_of (phase_after (bit_at grant m == 1) p.phase) ∷ courses_of grant (suc m) ports

abbrev risen_to : (ℕ → ℕ) → Course → ℕ → Course
risen_to set_of x n = (with_cyc set_of true (record { course = x; risen = n })).course

waiting_by : (set_of : ℕ → ℕ) (set : ℕ) (c : PortCourse) → IsNamed set_of (Wants set) c → (c.course ≡ Off) ⊎ (c.course ≡ Waiting set) → risen_to set_of c.course c.risen ≡ Waiting set
waiting_by set_of set c named (inl off) = ap (λ x. risen_to set_of x c.risen) off ∙ ap (λ (n : ℕ). Waiting n) (named off set refl)
waiting_by set_of set c named (inr waits) = ap (λ x. risen_to set_of x c.risen) waits

same_cyc : (set_of : ℕ → ℕ) (phase : Phase) (c : PortCourse) (b : Bool) → Stands phase c.course → IsNamed set_of phase c
    → (with_cyc set_of (is_busy_phase (phase_after b phase)) c).course ≡ course_of phase
same_cyc set_of Idle c b stands named = refl
same_cyc set_of (Wants set) c true stands named = waiting_by set_of set c named stands
same_cyc set_of (Wants set) c false stands named = waiting_by set_of set c named stands
same_cyc set_of (Holds set) c b stands named = ap (λ x. risen_to set_of x c.risen) stands
same_cyc set_of Leaves c b stands named = refl

same_hold : (b : Bool) (phase : Phase) → hold_if b (course_of phase) ≡ course_of (phase_after b phase)
same_hold b Idle = refl
same_hold true (Wants set) = refl
same_hold false (Wants set) = refl
same_hold b (Holds set) = refl
same_hold b Leaves = refl

stands_again : (phase : Phase) (c : Course) → c ≡ course_of phase → Stands phase c
stands_again Idle c is = is
stands_again (Wants set) c is = inr is
stands_again (Holds set) c is = is
stands_again Leaves c is = tt

same_awaited : (phase : Phase) → awaited_set (course_of phase) ≡ wants_of phase
same_awaited Idle = refl
same_awaited (Wants set) = refl
same_awaited (Holds set) = refl
same_awaited Leaves = refl

same_held : (phase : Phase) → set_held (course_of phase) ≡ held_by phase
same_held Idle = refl
same_held (Wants set) = refl
same_held (Holds set) = refl
same_held Leaves = refl

-- ---- the ports of a row

-- The CYC of each port, from the one with number m on, stands as its phase says after the grants.
abbrev pub CycsStand : WaveRowState → ℕ → ℕ → List CorePort → Type 0
CycsStand row grant m [] = Unit {0}
CycsStand row grant m (p ∷ ports) = ((port_in m row).cyc ≡ is_busy_phase (phase_after (bit_at grant m == 1) p.phase)) × CycsStand row grant (suc m) ports

-- before the grants
abbrev pub AreCourses : List CorePort → List PortCourse → Type 0
AreCourses [] [] = Unit {0}
AreCourses [] (c ∷ courses) = ⊥
AreCourses (p ∷ ports) [] = ⊥
AreCourses (p ∷ ports) (c ∷ courses) = (c.course ≡ course_of p.phase) × AreCourses ports courses

pub cycs_stand : (named : ℕ → ℕ → ℕ) (row : WaveRowState) (grant m : ℕ) (ports : List CorePort) (courses : List PortCourse) → AllStand ports courses → AllNamed named m ports courses
    → CycsStand row grant m ports → AreCourses ports (with_cycs named row m courses)
cycs_stand named row grant m [] [] stand sets cycs = tt
cycs_stand named row grant m [] (c ∷ courses) stand sets cycs = absurd stand
cycs_stand named row grant m (p ∷ ports) [] stand sets cycs = absurd stand
cycs_stand named row grant m (p ∷ ports) (c ∷ courses) stand sets cycs = (
  ap (λ b. (with_cyc (named m) b c).course) cycs.0 ∙ same_cyc (named m) p.phase c (bit_at grant m == 1) stand.0 sets.0,
  cycs_stand named row grant (suc m) ports courses stand.1 sets.1 cycs.1,
)

pub stand_on : (grant m : ℕ) (ports : List CorePort) (courses : List PortCourse) → AreCourses ports courses → AllStand (granted_from grant m ports) (hold_from grant m courses)
stand_on grant m [] [] are = tt
stand_on grant m [] (c ∷ courses) are = absurd are
stand_on grant m (p ∷ ports) [] are = absurd are
stand_on grant m (p ∷ ports) (c ∷ courses) are = (
  stands_again (phase_after (bit_at grant m == 1) p.phase) (hold_if (bit_at grant m == 1) c.course)
      (ap (λ x. hold_if (bit_at grant m == 1) x) are.0 ∙ same_hold (bit_at grant m == 1) p.phase),
  stand_on grant (suc m) ports courses are.1,
)

-- said of each port by its number
pub all_named : (named : ℕ → ℕ → ℕ) (k : ℕ) (ports : List CorePort) (courses : List PortCourse)
    → ((m i : ℕ) → m ≡ k + i → i < length ports → IsNamed (named m) (slice_index_or ports i resting_port).phase (slice_index_or courses i no_course)) → AllNamed named k ports courses
all_named named k ports [] each = tt
all_named named k [] (c ∷ courses) each = tt
all_named named k (p ∷ ports) (c ∷ courses) each = (
  each k 0 (omega arith) (omega arith),
  all_named named (suc k) ports courses (λ m i is lt. each m (suc i) (omega (arith, is)) (omega (arith, lt))),
)

pub same_wants : (m : ℕ) (ports : List CorePort) (courses : List PortCourse) → AreCourses ports courses → awaited_set (course_at courses m) ≡ wants_of (slice_index_or ports m resting_port).phase
same_wants m [] [] are = refl
same_wants m [] (c ∷ courses) are = absurd are
same_wants m (p ∷ ports) [] are = absurd are
same_wants zero (p ∷ ports) (c ∷ courses) are = ap awaited_set are.0 ∙ same_awaited p.phase
same_wants (suc m) (p ∷ ports) (c ∷ courses) are = same_wants m ports courses are.1

pub same_all_held : (ports : List CorePort) (courses : List PortCourse) → AreCourses ports courses → all_held courses ≡ held ports
same_all_held [] [] are = refl
same_all_held [] (c ∷ courses) are = absurd are
same_all_held (p ∷ ports) [] are = absurd are
same_all_held (p ∷ ports) (c ∷ courses) are =
    ap (λ (n : ℕ). bit_or n (all_held courses)) (ap set_held are.0 ∙ same_held p.phase) ∙ ap (λ (n : ℕ). bit_or (held_by p.phase) n) (same_all_held ports courses are.1)

pub same_holding : (grant k : ℕ) (ports : List CorePort) (courses : List PortCourse) (slave : ℕ) → AreCourses ports courses
    → holding_from k (hold_from grant k courses) slave ≡ holder_from k (granted_from grant k ports) slave
same_holding grant k [] [] slave are = refl
same_holding grant k [] (c ∷ courses) slave are = absurd are
same_holding grant k (p ∷ ports) [] slave are = absurd are
same_holding grant k (p ∷ ports) (c ∷ courses) slave are =
    let set_is : set_held (hold_if (bit_at grant k == 1) c.course) ≡ held_by (phase_after (bit_at grant k == 1) p.phase) =
    ap (λ x. set_held (hold_if (bit_at grant k == 1) x)) are.0 ∙ ap set_held (same_hold (bit_at grant k == 1) p.phase) ∙ same_held (phase_after (bit_at grant k == 1) p.phase) in
    ap (λ (n : ℕ). if bit_at n slave == 1 then Some k else holding_from (suc k) (hold_from grant (suc k) courses) slave) set_is
    ∙ ap (λ o. if bit_at (held_by (phase_after (bit_at grant k == 1) p.phase)) slave == 1 then Some k else o) (same_holding grant (suc k) ports courses slave are.1)

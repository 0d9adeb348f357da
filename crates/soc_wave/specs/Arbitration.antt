-- How the arbiter goes on in a wave.
use Rattle.std.specs.Prelude.{◌≡◌, ℕ, zero, suc, ◌==◌, ◌<◌, Bool, true, false, if◌then◌else◌, List, [], ◌∷◌, slice_index_or, bit_or, Option, Some, None}
use Rattle.std.specs.Int.{bit_at}
use Rattle.soc_core.specs.Fabric.{Fabric}
use Rattle.wb_crossbar.specs.Grant.{Turn, IsGrant, IsNext}
use Rattle.wb_signals.specs.Wave.{WaveRowState}
use Rattle.soc_wave.specs.Rows.{port_in, holder_in}

-- A port's cycle: none, one that waits for its set, or one that holds it.
pub data Course : Type 0 where
  Off : Course
  Waiting : ℕ → Course
  Holding : ℕ → Course

-- a port's cycle, and how often CYC has risen on the port
pub record PortCourse : Type 0 where
  pub course : Course
  pub risen : ℕ

-- the ports, and which of them is looked at first
pub record Arbitration : Type 0 where
  pub ports : List PortCourse
  pub first : ℕ

abbrev pub no_course : PortCourse
no_course = record { course = Off; risen = 0 }

abbrev pub no_courses : ℕ → List PortCourse
no_courses zero = []
no_courses (suc n) = no_course ∷ no_courses n

-- before the first clock
abbrev pub no_arbitration : Fabric → Arbitration
no_arbitration f = record { ports = no_courses f.ports; first = 0 }

-- What CYC, as it stands in a clock, makes of a port's cycle: where it rises, a cycle begins to wait for the set that is
-- named for it; where it doesn't stand there is none.
abbrev pub with_course : (ℕ → ℕ) → Course → ℕ → PortCourse
with_course set_of Off n = record { course = Waiting (set_of n); risen = suc n }
with_course set_of (Waiting set) n = record { course = Waiting set; risen = n }
with_course set_of (Holding set) n = record { course = Holding set; risen = n }

abbrev pub with_cyc : (ℕ → ℕ) → Bool → PortCourse → PortCourse
with_cyc set_of true c = with_course set_of c.course c.risen
with_cyc set_of false c = record { course = Off; risen = c.risen }

-- the ports from the one with number m on, `named` being the set of each rise on each port
abbrev pub with_cycs : (ℕ → ℕ → ℕ) → WaveRowState → ℕ → List PortCourse → List PortCourse
with_cycs named row m [] = []
with_cycs named row m (c ∷ courses) = with_cyc (named m) (port_in m row).cyc c ∷ with_cycs named row (suc m) courses

-- ---- the grant of a clock

abbrev pub awaited_set : Course → Option ℕ
awaited_set Off = None
awaited_set (Waiting set) = Some set
awaited_set (Holding set) = None

abbrev pub set_held : Course → ℕ
set_held Off = 0
set_held (Waiting set) = 0
set_held (Holding set) = set

abbrev pub course_at : List PortCourse → ℕ → Course
course_at courses m = (slice_index_or courses m no_course).course

abbrev pub all_held : List PortCourse → ℕ
all_held [] = 0
all_held (c ∷ courses) = bit_or (set_held c.course) (all_held courses)

-- The ports that are granted in a clock, bit m for port m, and which port is looked at first in the next.
pub record Granting : Type 0 where
  pub ports : ℕ
  pub first : ℕ

-- a port that is granted holds its set
abbrev pub hold_if : Bool → Course → Course
hold_if granted Off = Off
hold_if granted (Waiting set) = if granted then Holding set else Waiting set
hold_if granted (Holding set) = Holding set

abbrev pub hold_from : ℕ → ℕ → List PortCourse → List PortCourse
hold_from grant m [] = []
hold_from grant m (c ∷ courses) = record { course = hold_if (bit_at grant m == 1) c.course; risen = c.risen } ∷ hold_from grant (suc m) courses

-- what a clock makes of the arbitration
abbrev pub arbitrated : (ℕ → ℕ → ℕ) → Granting → WaveRowState → Arbitration → Arbitration
arbitrated named g row a = record { ports = hold_from g.ports 0 (with_cycs named row 0 a.ports); first = g.first }

-- The port that holds a top slave, from the one with number m on.
abbrev pub holding_from : ℕ → List PortCourse → ℕ → Option ℕ
holding_from m [] slave = None
holding_from m (c ∷ courses) slave = if bit_at (set_held c.course) slave == 1 then Some m else holding_from (suc m) courses slave

abbrev pub turn_in : Fabric → Arbitration → Turn
turn_in f a = record { ports = f.ports; first = a.first }

-- In this clock, after the arbitration so far, the grant is that of the rule, with all CYC as they stand, and the holder
-- line shows who holds what after it.
pub record IsArbitrated (f : Fabric) (named : ℕ → ℕ → ℕ) (a : Arbitration) (g : Granting) (row : WaveRowState) : Type 0 where
  pub grant : IsGrant (turn_in f a) (λ m. awaited_set (course_at (with_cycs named row 0 a.ports) m)) (all_held (with_cycs named row 0 a.ports)) g.ports
  pub next : IsNext (turn_in f a) g.ports g.first
  pub shown : (slave : ℕ) → slave < f.slaves → holder_in slave row ≡ holding_from 0 (arbitrated named g row a).ports slave

-- So in each clock, with these grants.
abbrev pub AreArbitrated : Fabric → (ℕ → ℕ → ℕ) → Arbitration → List Granting → List WaveRowState → Type 0
AreArbitrated f named a [] [] = Unit {0}
AreArbitrated f named a [] (row ∷ rows) = ⊥
AreArbitrated f named a (g ∷ grants) [] = ⊥
AreArbitrated f named a (g ∷ grants) (row ∷ rows) = IsArbitrated f named a g row × AreArbitrated f named (arbitrated named g row a) grants rows

-- The arbitration after these rows.
abbrev pub arbitration_from : (ℕ → ℕ → ℕ) → Arbitration → List Granting → List WaveRowState → Arbitration
arbitration_from named a [] rows = a
arbitration_from named a (g ∷ grants) [] = a
arbitration_from named a (g ∷ grants) (row ∷ rows) = arbitration_from named (arbitrated named g row a) grants rows

abbrev pub arbitration : Fabric → (ℕ → ℕ → ℕ) → List Granting → List WaveRowState → Arbitration
arbitration f named grants rows = arbitration_from named (no_arbitration f) grants rows

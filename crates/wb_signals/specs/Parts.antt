-- The children of a bus, with what they hold and owe.
use Rattle.std.specs.Prelude.{◌≡◌, ℕ, zero, suc, ◌+◌, ◌-◌, ◌%◌, ◌^◌, ◌==◌, ◌&&◌, nat_lt, true, false, if◌then◌else◌, List, [], ◌∷◌, ◌++◌, length, slice_index_or, Option, Some, None}
use Rattle.eb_base.specs.declared.width.Width.{Width}
use Rattle.eb_base.specs.declared.width.Width.TheVariants.{W32}
use Rattle.eb_base.specs.Width.{octets}
use Rattle.wb_signals.specs.Request.{Request}
use Rattle.wb_signals.specs.Content.{Content, Nothing}
use Rattle.wb_signals.specs.Bus.{Child, covers, inside, leaf}
use Rattle.wb_signals.specs.Slave.{Owed, Slave, IsShaped, ticked}
use Rattle.wb_signals.specs.declared.answer.Answer.TheVariants.{Err}

-- A child of a bus at the addresses from first to last, at one moment.
pub record Part : Type 0 where
  pub first : ℕ
  pub last : ℕ
  pub slave : Slave

abbrev pub child_of : Part → Child
child_of part = record { first = part.first; last = part.last; wiring = part.slave.wiring }

-- The child that an address goes to, by its number; the number of children where none has it.
abbrev pub child_at : List Child → ℕ → ℕ
child_at [] adr = 0
child_at (child ∷ children) adr = if covers child adr then 0 else child_at children adr + 1

-- The child that a place of the bus belongs to; the number of children for the miss of the bus.
abbrev pub child_with : List Child → ℕ → ℕ
child_with [] place = 0
child_with (child ∷ children) place =
    if nat_lt place child.wiring.places
    then 0
    else child_with children (place - child.wiring.places) + 1

-- What the places of a bus hold: those of its children, then the miss.
abbrev pub contents_in : List Part → List Content
contents_in [] = Nothing ∷ []
contents_in (part ∷ parts) = part.slave.contents ++ contents_in parts

-- An answer that a child owes, by the place in the bus.
abbrev pub farther_owed : ℕ → Owed → Owed
farther_owed n o = record { place = n + o.place; answer = o.answer; due = o.due }

-- the number of places before those of child k
abbrev pub places_before : ℕ → List Part → ℕ
places_before k [] = 0
places_before zero (part ∷ parts) = 0
places_before (suc k) (part ∷ parts) = part.slave.wiring.places + places_before k parts

-- what the miss of a bus owes for an operation that passed in the clock before
abbrev pub miss_owed : List Part → Owed
miss_owed parts = record { place = places_before (length parts) parts; answer = Err; due = 0 }

-- the part that stands where there is none
abbrev pub no_part : Part
no_part = record { first = 0; last = 0; slave = record { wiring = leaf W32 0 0 false; contents = []; owed = [] } }

abbrev pub part_at : List Part → ℕ → Part
part_at parts k = slice_index_or parts k no_part

abbrev pub inside_given : Part → Option Request → Option Request
inside_given part None = None
inside_given part (Some r) = Some (inside (child_of part) r)

-- the part after a tick that passes this operation of the bus to it, or none
abbrev pub part_ticked : Part → Option Request → Part
part_ticked part op = record { first = part.first; last = part.last; slave = ticked part.slave (inside_given part op) }

-- A child fits its bus: its numbers fit one another, and it takes what comes at its addresses.
pub record FitsIn (width : Width) (part : Part) : Type 0 where
  pub shaped : IsShaped part.slave
  pub takes : (r : Request) → covers (child_of part) r.adr ≡ true → (r.adr % octets width == 0) && nat_lt r.sel (2 ^ octets width) ≡ true
      → part.slave.wiring.accepts (inside (child_of part) r) ≡ true

abbrev pub AllFitIn : Width → List Part → Type 0
AllFitIn width [] = Unit {0}
AllFitIn width (part ∷ parts) = FitsIn width part × AllFitIn width parts

-- No child owes anything.
abbrev pub AllQuiet : List Part → Type 0
AllQuiet [] = Unit {0}
AllQuiet (part ∷ parts) = (part.slave.owed ≡ []) × AllQuiet parts

-- A connection of a door in memory.
use Rattle.std.specs.Prelude.{◌≡◌, ℕ, List, [], ◌∷◌, Some, None}
use Rattle.std.specs.declared.option.Option.{Option}
use Rattle.eb_io.specs.Reading.{Reading}
use Rattle.eb_io.specs.Writing.{Writing, Octets}
use Rattle.eb_io.specs.MemLink as link
use Rattle.eb_io.specs.declared.link.MemLink.{MemLink}
use Rattle.eb_net.specs.Accepting.{Connection, Faults}
use Rattle.eb_net.specs.declared.door_link.DoorLink.{DoorLink}
use Rattle.eb_net.specs.declared.door_link.PastLink.{PastLink}

-- octets that are told; none where they aren't
abbrev pub told_octets : Option (List ℕ) → List ℕ
told_octets None = []
told_octets (Some octets) = octets

-- the octets that a link has left
abbrev pub left_on : MemLink → List ℕ
left_on l = told_octets (link.reading_of l).left

-- it gave nothing, nothing was written to it, and nothing failed
pub record IsUnused (l : MemLink) : Type 0 where
  pub given : (link.reading_of l).given ≡ Some []
  pub reads : (link.reading_of l).faults ≡ 0
  pub written : (link.writing_of l).written ≡ Octets []
  pub writes : (link.writing_of l).faults ≡ 0

-- what is told of the reads of a connection: at its end before the first
abbrev pub reading_on : ℕ → Option MemLink → Reading
reading_on faults None = record { given = Some []; left = Some []; faults = faults }
reading_on faults (Some l) = record (link.reading_of l) { faults = faults }

-- what is told of the writes of a connection
abbrev pub writing_on : ℕ → Option MemLink → Writing
writing_on faults None = record { written = Octets []; faults = faults }
writing_on faults (Some l) = record (link.writing_of l) { faults = faults }

abbrev pub standing_reading : DoorLink → Reading
standing_reading c = reading_on c.read_faults c.link

abbrev pub standing_writing : DoorLink → Writing
standing_writing c = writing_on c.write_faults c.link

-- what is told of a connection that is over
abbrev pub connection_of : PastLink → Connection
connection_of p = record {
  given = (standing_reading p.link).given;
  left = (standing_reading p.link).left;
  written = (standing_writing p.link).written;
  began = p.began;
}

-- a connection that is over, where there was one that began at these counts
abbrev pub past_since : Option Faults → DoorLink → List PastLink
past_since None c = []
past_since (Some began) c = record { link = c; began = began } ∷ []

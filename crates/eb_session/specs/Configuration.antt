-- The configuration space of a slave, and its error register.
use Rattle.std.specs.Prelude.{ℕ, ◌+◌, ◌*◌, ◌%◌, ◌^◌, nat_lt, if◌then◌else◌, List, [], ◌∷◌, ◌++◌}
use Rattle.eb_base.specs.declared.width.Width.{Width}
use Rattle.eb_base.specs.declared.width.Width.TheVariants.{W64}
use Rattle.eb_base.specs.Width.{octets}
use Rattle.eb_base.specs.Field.{octets_of, number_at}
use Rattle.eb_base.specs.Lanes.{selected, port_address}
use Rattle.wb_signals.specs.declared.answer.Answer.{Answer}
use Rattle.wb_signals.specs.declared.answer.Answer.TheVariants.{Ack}

-- the bit that an operation shifts in: 1 where it failed
abbrev pub failed : Answer → ℕ
failed (Ack word) = 0
failed answer = 1

-- The error shift register after more operations: each shifts it left by one bit, the newest is the lowest bit, and 64 are
-- kept.
abbrev pub register : ℕ → List Answer → ℕ
register errors [] = errors
register errors (a ∷ answers) = register ((2 * errors + failed a) % 2 ^ 64) answers

-- The octets of the configuration space that are not always zero: the error register at 0, the address of the root table
-- at 8.
abbrev pub config_octets : ℕ → ℕ → List ℕ
config_octets root errors = octets_of W64 errors ++ octets_of W64 root

-- The number of a port's width at a multiple of its octets.
abbrev pub config_at : Width → ℕ → ℕ → ℕ → ℕ
config_at port root errors adr = if nat_lt adr 16 then number_at port (config_octets root errors) adr else 0

-- The word that a read of the configuration space gives: the address with the bits below the port's width dropped, and
-- zeros in the lanes that are not selected.
unfoldable pub config_word : Width → ℕ → ℕ → ℕ → ℕ → ℕ
config_word port root errors adr sel = selected (octets port) sel (config_at port root errors (port_address port adr))

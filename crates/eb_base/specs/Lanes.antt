-- Where an access of a port goes on a bus, and what the port gets of a word of the bus.
use Rattle.std.specs.Prelude.{ℕ, zero, suc, ◌+◌, ◌-◌, ◌*◌, ◌/◌, ◌%◌, ◌^◌, ◌==◌, if◌then◌else◌}
use Rattle.eb_base.specs.declared.width.Width.{Width}
use Rattle.eb_base.specs.Width.{octets}

-- A word of so many lanes with zeros in those that are not selected. Lane i is bits 8i to 8i+7, and bit i of `sel` selects it.
abbrev pub selected : ℕ → ℕ → ℕ → ℕ
selected zero sel word = 0
selected (suc lanes) sel word = (if sel % 2 == 1 then word % 256 else 0) + 256 * selected lanes (sel / 2) (word / 256)

-- the address with the bits below the port's width dropped
abbrev pub port_address : Width → ℕ → ℕ
port_address port adr = adr - adr % octets port

-- How many lanes an access at this address is moved up: the lowest address of a bus word is its most significant lane.
abbrev pub shift : Width → Width → ℕ → ℕ
shift port bus adr = octets bus - octets port - port_address port adr % octets bus

-- the address of the bus word
abbrev pub placed_adr : Width → Width → ℕ → ℕ
placed_adr port bus adr = port_address port adr - port_address port adr % octets bus

-- the data of an access on the bus
abbrev pub placed_dat : Width → Width → ℕ → ℕ → ℕ → ℕ
placed_dat port bus adr dat sel = selected (octets port) sel dat * 256 ^ shift port bus adr

-- its lanes on the bus
abbrev pub placed_sel : Width → Width → ℕ → ℕ → ℕ
placed_sel port bus adr sel = sel * 2 ^ shift port bus adr

-- the port's word of a word of the bus
abbrev pub word_of : Width → Width → ℕ → ℕ → ℕ → ℕ
word_of port bus adr dat sel = selected (octets port) sel (dat / 256 ^ shift port bus adr)

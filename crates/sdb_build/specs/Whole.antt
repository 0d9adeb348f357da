-- Records of 64 octets, and the tables that are made of them.
use Rattle.std.specs.Prelude.{◌≡◌, ℕ, List, ◌∷◌, length}
use Rattle.std.specs.List.{All}
use Rattle.eb_base.specs.declared.name.Product.{Product}
use Rattle.sdb_record.specs.declared.kinds.Record.{Record}
use Rattle.sdb_record.specs.declared.kinds.Record.TheVariants.{Interconnect}
use Rattle.sdb_record.specs.Layout.{wishbone}
use Rattle.sdb_record.specs.Relation.{encoded}

-- the octets that are written for the record are 64
abbrev pub IsWhole : Record → Type 0
IsWhole r = length (encoded wishbone r) ≡ 64

-- an interconnect that counts all of them, itself among them, and then the others
abbrev pub IsCounted : List Record → Type 0
IsCounted rs = (last : ℕ) × (p : Product) × (others : List Record) × (rs ≡ Interconnect (length rs) 0 last p ∷ others)

-- the records of a table
pub record IsTable (rs : List Record) : Type 0 where
  pub counted : IsCounted rs
  pub whole : All IsWhole rs

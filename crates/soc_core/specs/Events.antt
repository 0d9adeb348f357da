-- The events of a bus, and where they lead.
use Rattle.std.specs.Prelude.{◌≡◌, ℕ, suc, Bool, List, [], ◌∷◌, zero}
use Rattle.wb_signals.specs.Request.{Request}
use Rattle.soc_core.specs.Fabric.{Fabric}
use Rattle.soc_core.specs.Core.{Core, raised, loaded, taken, released, CanRaise, CanLoad, CanTake, CanRelease, IsTick}

-- A port raises CYC for a set, is loaded with operations, has its answers taken, releases CYC (cut, or at the end of its
-- cycle); the bus makes a tick.
pub data Event : Type 0 where
  Raise : ℕ → ℕ → Event
  Load : ℕ → List Request → Event
  Take : ℕ → Event
  Release : ℕ → Bool → Event
  Tick : Event

-- An event leads from one core to another, under its condition.
abbrev pub Leads : Fabric → Event → Core → Core → Type 0
Leads f (Raise m set) old new = CanRaise f old m set × (new ≡ raised old m set)
Leads f (Load m ops) old new = CanLoad f old m ops × (new ≡ loaded old m ops)
Leads f (Take m) old new = CanTake f old m × (new ≡ taken old m)
Leads f (Release m cut) old new = CanRelease f old m × (new ≡ released old m cut)
Leads f Tick old new = IsTick f old new

-- Events lead from one core to another, one after the other.
abbrev pub LeadAll : Fabric → List Event → Core → Core → Type 0
LeadAll f [] old new = new ≡ old
LeadAll f (e ∷ events) old new = (mid : Core) × Leads f e old mid × LeadAll f events mid new

-- So many ticks lead from one core to another.
abbrev pub TicksLead : Fabric → ℕ → Core → Core → Type 0
TicksLead f zero old new = new ≡ old
TicksLead f (suc n) old new = (mid : Core) × IsTick f old mid × TicksLead f n mid new

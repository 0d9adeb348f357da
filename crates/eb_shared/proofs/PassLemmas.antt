-- The passes of a bus that is as it was built.
use Rattle.std.proofs.Common.{◌≡◌, ℕ, zero, suc, ◌<◌, List, [], get_or, Some, refl, ap, ◌∙◌}
use Rattle.soc_core.specs.Fabric.{Fabric}
use Rattle.soc_core.specs.Built.{fabric_of}
use Rattle.soc_core.specs.Core.{CorePort, Core, resting_port, resting_ports, built_core, stake, stake_of}
use Rattle.wb_signals.specs.History.{Entry, own}
use Rattle.soc_bus.specs.View.{BusState}
use Rattle.eb_shared.specs.Shared.{no_stake}

resting : (n m : ℕ) → get_or (resting_ports n) m resting_port ≡ resting_port
resting zero m = refl
resting (suc n) zero = refl
resting (suc n) (suc m) = resting n m

-- No port has a stake as the bus is built, and the journal has no entry.
pub built_stake : (b : BusState) (m : ℕ) → b.core ≡ built_core (fabric_of b.description) → stake b.core m ≡ no_stake
built_stake b m built = ap (λ (c : Core). stake c m) built ∙ ap stake_of (resting (fabric_of b.description).ports m)

pub built_made : (b : BusState) (m : ℕ) → b.core ≡ built_core (fabric_of b.description) → own m b.core.journal ≡ []
built_made b m built = ap (λ (c : Core). own m c.journal) built

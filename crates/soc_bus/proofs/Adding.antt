-- What the calls of a bus add to its ledger.
use Rattle.std.proofs.Common.{◌≡◌, ℕ, List, Bool, false, refl, ap, sym, ◌∙◌, subst}
use Rattle.wb_signals.specs.Request.{Request}
use Rattle.soc_desc.specs.declared.description.Description.{Description}
use Rattle.soc_journal.specs.Growth.{ExtendsBy}
use Rattle.soc_journal.proofs.GrowthLemmas.{ExtendsBy-self, Adds-on}
use Rattle.soc_core.specs.Fabric.{IsFabric}
use Rattle.soc_core.specs.Built.{fabric_of}
use Rattle.soc_core.specs.Core.{raised, loaded, taken, released, IsTick}
use Rattle.soc_bus.specs.View.{BusState}
use Rattle.soc_core.specs.Sound.{IsSoundCore}
use Rattle.soc_core.specs.Stakes.{OnlyOf}
use Rattle.soc_bus.specs.Ledger.{history_of, stake_in, charter_of, AddsOwn, KeepsLedger}
use Rattle.soc_core.proofs.Stakes.{raise_only, load_only, take_only, release_only, tick_keeps}

charter_same : (old new : BusState) → new.description ≡ old.description → charter_of new ≡ charter_of old
charter_same old new same = ap (λ (d : Description). record { description = d; watched = false }) same

only_adds : (m : ℕ) (old new : BusState) → OnlyOf m old.core new.core → new.description ≡ old.description → AddsOwn m old new
only_adds m old new only same = (only.0, only.1, charter_same old new same)

pub raise_adds : (m set_ : ℕ) (old new : BusState) → new.core ≡ raised old.core m set_ → new.description ≡ old.description → AddsOwn m old new
raise_adds m set_ old new is same = only_adds m old new (subst (OnlyOf m old.core) (sym is) (raise_only old.core m set_)) same

pub load_adds : (m : ℕ) (ops : List Request) (old new : BusState) → new.core ≡ loaded old.core m ops → new.description ≡ old.description → AddsOwn m old new
load_adds m ops old new is same = only_adds m old new (subst (OnlyOf m old.core) (sym is) (load_only old.core m ops)) same

pub take_adds : (m : ℕ) (old new : BusState) → new.core ≡ taken old.core m → new.description ≡ old.description → AddsOwn m old new
take_adds m old new is same = only_adds m old new (subst (OnlyOf m old.core) (sym is) (take_only old.core m)) same

pub release_adds : (m : ℕ) (cut : Bool) (old new : BusState) → new.core ≡ released old.core m cut → new.description ≡ old.description → AddsOwn m old new
release_adds m cut old new is same = only_adds m old new (subst (OnlyOf m old.core) (sym is) (release_only old.core m cut)) same

pub same_adds : (m : ℕ) (old new : BusState) → new.core ≡ old.core → new.description ≡ old.description → AddsOwn m old new
same_adds m old new is same = only_adds m old new (subst (OnlyOf m old.core) (sym is) (ExtendsBy-self m old.core.journal, λ n other. refl)) same

pub keeps_adds : (m : ℕ) (old new : BusState) → KeepsLedger old new → AddsOwn m old new
keeps_adds m old new keeps = (subst (ExtendsBy m old.core.journal) (sym keeps.0) (ExtendsBy-self m old.core.journal), (λ n other. keeps.1 n), keeps.2)

pub adds_on : (m : ℕ) (x y z : BusState) → AddsOwn m x y → AddsOwn m y z → AddsOwn m x z
adds_on m x y z first next = Adds-on history_of stake_in charter_of m x y z first next

pub keeps_self : (b : BusState) → KeepsLedger b b
keeps_self b = (refl, (λ n. refl), refl)

pub keeps_on : (x y z : BusState) → KeepsLedger x y → KeepsLedger y z → KeepsLedger x z
keeps_on x y z first next = (next.0 ∙ first.0, (λ n. next.1 n ∙ first.1 n), next.2 ∙ first.2)

pub tick_keeps_ledger : (old new : BusState) → IsFabric (fabric_of old.description) → IsSoundCore (fabric_of old.description) old.core → IsTick (fabric_of old.description) old.core new.core → new.description ≡ old.description → KeepsLedger old new
tick_keeps_ledger old new ok s t same = let k = tick_keeps (fabric_of old.description) ok old.core new.core s t in (k.0, k.1, charter_same old new same)

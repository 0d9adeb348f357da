-- A port of a described bus as it is built.
use Rattle.std.proofs.Common.{◌≡◌, List, subst}
use Rattle.wb_signals.specs.History.{Entry, IsLegal}
use Rattle.soc_desc.specs.declared.description.Description.{Description}
use Rattle.soc_machine.specs.Described.{described_wiring, described_contents}
use Rattle.soc_core.specs.Built.{fabric_of}
use Rattle.soc_core.specs.Core.{Core, built_core}
use Rattle.soc_bus.specs.View.{BusState}
use Rattle.soc_bus.specs.Local.{LocalOrigin, MadeLegal}

-- Entries that are legal on the port that a walk left are so on the described system as it is built.
pub built_legal : (d : Description) (left began : LocalOrigin) (entries : List Entry) → left ≡ began → began.description ≡ d → began.began.core ≡ built_core (fabric_of d)
    → IsLegal (fabric_of left.description).wiring left.began.core.contents entries → IsLegal (described_wiring d) (described_contents d) entries
built_legal d left began entries same of_ built legal =
    subst (λ (c : Core). IsLegal (described_wiring d) c.contents entries) built
    (subst (λ (e : Description). IsLegal (fabric_of e).wiring began.began.core.contents entries) of_
    (subst (λ (o : LocalOrigin). IsLegal (fabric_of o.description).wiring o.began.core.contents entries) same legal))

pub legal_of : (began began' now now' : BusState) → began ≡ began' → now ≡ now' → MadeLegal began now → MadeLegal began' now'
legal_of began began' now now' first second legal =
    subst (λ (b : BusState). MadeLegal b now') first (subst (λ (b : BusState). MadeLegal began b) second legal)

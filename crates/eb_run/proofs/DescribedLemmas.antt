-- The commands that read a description.
use Rattle.std.proofs.Common.{◌≡◌, ℕ, sym, ◌∙◌, ap}
use Rattle.eb_base.specs.declared.width.Width.{Width}
use Rattle.eb_base.specs.declared.width.Width.TheVariants.{W32}
use Rattle.eb_session.specs.declared.slave.Slave.{Slave}
use Rattle.soc_desc.specs.Accepted.{IsAccepted}
use Rattle.soc_desc.proofs.Sound.{width_of_sound}
use Rattle.soc_desc.specs.declared.description.Description.{Description}
use Rattle.soc_core.specs.Built.{fabric_of}
use Rattle.soc_core.specs.Core.{Core, built_core}
use Rattle.soc_bus.specs.View.{BusState}
use Rattle.eb_run.specs.Streams.{described_system}

abbrev slave_of : Width → ℕ → Slave
slave_of bus root = record { bus = bus; root = root }

-- a slave on a port of the described bus as it is built, with the root at its ROM, is the described system
pub port_is : (d : Description) → IsAccepted d → (s : Slave) (began now : BusState) → s ≡ slave_of W32 d.bus.sdb → now.description ≡ d → began.core ≡ built_core (fabric_of d)
    → record { slave = s; wiring = (fabric_of now.description).wiring; contents = began.core.contents } ≡ described_system d
port_is d accepted s began now slave of_ built =
    let same = slave ∙ ap (λ (w : Width). slave_of w d.bus.sdb) (sym (width_of_sound d.bus accepted.sound)) in
    let wiring = ap (λ (e : Description). (fabric_of e).wiring) of_ in
    let contents = ap (λ (c : Core). c.contents) built in
    λ i. record { slave = same i; wiring = wiring i; contents = contents i }

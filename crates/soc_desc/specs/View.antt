-- What an item is on its bus, whatever its kind.
use Rattle.std.specs.Prelude.{ℕ, ◌*◌, List, length}
use Rattle.eb_base.specs.declared.name.Product.{Product}
use Rattle.eb_base.specs.declared.reg.Reg.{Reg}
use Rattle.soc_desc.specs.declared.description.PortWord.{PortWord}
use Rattle.soc_desc.specs.declared.description.BusDescription.{BusDescription}
use Rattle.soc_desc.specs.declared.description.ItemDescription.TheOpen.{ItemDescription-F, Ram, Regs, Fifo, Bridge, Integration, Empty}
use Rattle.soc_desc.specs.declared.view.Interface.{Interface}
use Rattle.soc_desc.specs.declared.view.MakeView.{MakeView}
use Rattle.soc_desc.specs.declared.view.MakeView.TheVariants as make_view
use Rattle.soc_desc.specs.declared.view.DeviceView.{DeviceView}
use Rattle.soc_desc.specs.declared.view.ItemView.{ItemView}
use Rattle.soc_desc.specs.declared.view.ItemView.TheVariants as item_view

-- How a device is made: a RAM of so many octets, registers, a FIFO of so many words.
pub data Make : Type 0 where
  RamOf : ℕ → Make
  RegsOf : List Reg → Make
  FifoOf : ℕ → Make

-- The octets of addresses that it takes. A FIFO has two words of addresses, its data and its count.
abbrev pub octets_in : Make → ℕ
octets_in (RamOf size) = size
octets_in (RegsOf words) = 4 * length words
octets_in (FifoOf depth) = 8

-- A device: its first address, how it is made and joined to its bus.
pub record Device : Type 0 where
  pub product : Product
  pub at : ℕ
  pub make : Make
  pub interface : Interface

-- A device, a bridge at an address to a bus, of which B is shown, a note without addresses, or an empty record.
pub data OnBus (B : Type 0) : Type 0 where
  OfDevice : Device → OnBus B
  OfBridge : Product → ℕ → B → OnBus B
  OfNote : Product → OnBus B
  OfEmpty : OnBus B

abbrev pub interface : PortWord → ℕ → ℕ → ℕ → ℕ → Interface
interface port wait class major minor = record { port = port; wait = wait; class = class; major = major; minor = minor }

abbrev pub device : Product → ℕ → Make → Interface → Device
device p at make interface = record { product = p; at = at; make = make; interface = interface }

abbrev pub on_bus : {A B : Type 0} → ItemDescription-F A B → OnBus B
on_bus (Ram p at size port wait class major minor) = OfDevice (device p at (RamOf size) (interface port wait class major minor))
on_bus (Regs p at words port wait class major minor) = OfDevice (device p at (RegsOf words) (interface port wait class major minor))
on_bus (Fifo p at depth port wait class major minor) = OfDevice (device p at (FifoOf depth) (interface port wait class major minor))
on_bus (Bridge p at bus) = OfBridge p at bus
on_bus (Integration p) = OfNote p
on_bus Empty = OfEmpty

-- what a bridge at an address makes of what its bus shows, and else x
abbrev pub bridged : {B X : Type 0} → X → (ℕ → B → X) → OnBus B → X
bridged x f (OfDevice d) = x
bridged x f (OfBridge p at bus) = f at bus
bridged x f (OfNote p) = x
bridged x f OfEmpty = x

-- ---- what the code answers, as the same

abbrev pub made : MakeView → Make
made (make_view.Ram size) = RamOf size
made (make_view.Regs words) = RegsOf words.now
made (make_view.Fifo depth) = FifoOf depth

abbrev pub device_shown : DeviceView → Device
device_shown d = device d.product.now d.at (made d.make) d.interface

abbrev pub viewed : ItemView → OnBus BusDescription
viewed (item_view.Device d) = OfDevice (device_shown d)
viewed (item_view.Bridge p at bus) = OfBridge p.now at bus.now
viewed (item_view.Note p) = OfNote p.now
viewed item_view.Empty = OfEmpty

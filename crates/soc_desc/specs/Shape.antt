-- The shape of a description: for each object its keys in the order in which they are checked, each with its values and its default.
use Rattle.std.specs.Prelude.{ℕ, zero, suc, ◌^◌, ◌-◌, List, [], ◌∷◌, Ok, Err, if◌then◌else◌, codes}
use Rattle.serde_json.specs.Data.{Data, Members}
use Rattle.eb_base.specs.Name.{is_name, padded}
use Rattle.eb_base.specs.declared.name.Product.{Product}
use Rattle.eb_base.specs.declared.reg.Reg.{Reg}
use Rattle.eb_base.specs.declared.reg.Mode.{Mode}
use Rattle.eb_base.specs.declared.reg.Mode.TheVariants.{Ro, Rw, W1c}
use Rattle.eb_base.specs.declared.width.Width.TheVariants.{W32}
use Rattle.soc_desc.specs.declared.checks.Range.{Range}
use Rattle.soc_desc.specs.declared.fault.DescFault.TheVariants as fault
use Rattle.soc_desc.specs.declared.description.PortWord.{PortWord}
use Rattle.soc_desc.specs.declared.description.PortWord.TheVariants.{Pipelined, Classic, Wrapped}
use Rattle.soc_desc.specs.declared.description.ItemDescription.{ItemDescription}
use Rattle.soc_desc.specs.declared.description.ItemDescription.TheVariants.{Ram, Regs, Fifo, Bridge, Integration, Empty}
use Rattle.soc_desc.specs.declared.description.BusDescription.{BusDescription, roll-BusDescription}
use Rattle.soc_desc.specs.declared.description.Description.{Description}
use Rattle.soc_desc.specs.declared.shape.ItemKind.{ItemKind}
use Rattle.soc_desc.specs.declared.shape.ItemKind.TheVariants as kind
use Rattle.soc_desc.specs.declared.view.Interface.{Interface}
use Rattle.soc_desc.specs.Checks.{Path, Found, ◌>>=◌, ◌>>◌, object, object_of, known, required, optional, from_to, number_within, text, Word, word, list}

-- ---- the numbers that keys take

abbrev pub u64 : Range
u64 = from_to 0 (2 ^ 64 - 1)

abbrev pub u32 : Range
u32 = from_to 0 (2 ^ 32 - 1)

abbrev pub u16 : Range
u16 = from_to 0 (2 ^ 16 - 1)

abbrev pub u8 : Range
u8 = from_to 0 (2 ^ 8 - 1)

abbrev pub wait_clocks : Range
wait_clocks = from_to 0 15

abbrev pub fifo_depth : Range
fifo_depth = from_to 1 1024

abbrev pub one_to_16 : Range
one_to_16 = from_to 1 16

-- on a bus of so many octets: a first address, a last address, the octets of a RAM
abbrev pub address : ℕ → Range
address octets = record { least = 0; most = 2 ^ 64 - 1; step = octets; rest = 0 }

abbrev pub last_address : ℕ → Range
last_address octets = record { least = 0; most = 2 ^ 64 - 1; step = octets; rest = octets - 1 }

abbrev pub ram_size : ℕ → Range
ram_size octets = record { least = octets; most = 1048576; step = octets; rest = 0 }

-- ---- the texts that keys take

abbrev pub modes : List (Word Mode)
modes = record { word = codes "ro"; stands = Ro } ∷ record { word = codes "rw"; stands = Rw } ∷ record { word = codes "w1c"; stands = W1c } ∷ []

abbrev pub ports : List (Word PortWord)
ports = record { word = codes "pipelined"; stands = Pipelined } ∷ record { word = codes "classic"; stands = Classic } ∷ record { word = codes "wrapped"; stands = Wrapped } ∷ []

abbrev pub kinds : List (Word ItemKind)
kinds =
    record { word = codes "ram"; stands = kind.Ram } ∷ record { word = codes "regs"; stands = kind.Regs } ∷ record { word = codes "fifo"; stands = kind.Fifo }
    ∷ record { word = codes "bridge"; stands = kind.Bridge } ∷ record { word = codes "integration"; stands = kind.Integration } ∷ record { word = codes "empty"; stands = kind.Empty } ∷ []

-- a name, in its 19 octets
abbrev pub name_in : Path → List ℕ → Found (List ℕ)
name_in path t = if is_name t then Ok (padded t) else Err (fault.Name path)

abbrev pub name : Path → Data → Found (List ℕ)
name path d = text path d >>= name_in path

-- ---- a product

abbrev pub product_keys : List (List ℕ)
product_keys = codes "vendor" ∷ codes "device" ∷ codes "version" ∷ codes "date" ∷ codes "name" ∷ []

unfoldable pub product : Path → Data → Found Product
product path d = do
  ms ← object_of product_keys path d
  vendor ← required (number_within u64) path (codes "vendor") ms
  device ← required (number_within u32) path (codes "device") ms
  version ← required (number_within u32) path (codes "version") ms
  date ← required (number_within u32) path (codes "date") ms
  the_name ← required name path (codes "name") ms
  Ok (record { vendor = vendor; device = device; version = version; date = date; name = the_name })

-- ---- a register

abbrev pub reg_keys : List (List ℕ)
reg_keys = codes "mode" ∷ codes "reset" ∷ []

unfoldable pub reg : Path → Data → Found Reg
reg path d = do
  ms ← object_of reg_keys path d
  mode ← required (word modes) path (codes "mode") ms
  reset ← optional (number_within u32) 0 path (codes "reset") ms
  Ok (record { mode = mode; reset = reset })

-- ---- an item, by its kind

-- the keys of a device, of which one is its kind's own
abbrev pub device_keys : List ℕ → List (List ℕ)
device_keys own =
    codes "kind" ∷ codes "product" ∷ codes "at" ∷ own
    ∷ codes "port" ∷ codes "wait" ∷ codes "abi_class" ∷ codes "abi_major" ∷ codes "abi_minor" ∷ []

abbrev pub keys : ItemKind → List (List ℕ)
keys kind.Ram = device_keys (codes "size")
keys kind.Regs = device_keys (codes "words")
keys kind.Fifo = device_keys (codes "depth")
keys kind.Bridge = codes "kind" ∷ codes "product" ∷ codes "at" ∷ codes "bus" ∷ []
keys kind.Integration = codes "kind" ∷ codes "product" ∷ []
keys kind.Empty = codes "kind" ∷ []

-- what a RAM, registers and a FIFO have in common
unfoldable pub interface : Path → Members → Found Interface
interface path ms = do
  port ← optional (word ports) Pipelined path (codes "port") ms
  wait ← optional (number_within wait_clocks) 0 path (codes "wait") ms
  class ← optional (number_within u16) 0 path (codes "abi_class") ms
  major ← optional (number_within u8) 0 path (codes "abi_major") ms
  minor ← optional (number_within u8) 0 path (codes "abi_minor") ms
  Ok (record { port = port; wait = wait; class = class; major = major; minor = minor })

unfoldable pub ram_item : Path → Members → Found ItemDescription
ram_item path ms = do
  the_product ← required product path (codes "product") ms
  at ← required (number_within (address 4)) path (codes "at") ms
  size ← required (number_within (ram_size 4)) path (codes "size") ms
  a ← interface path ms
  Ok (Ram the_product at size a.port a.wait a.class a.major a.minor)

unfoldable pub regs_item : Path → Members → Found ItemDescription
regs_item path ms = do
  the_product ← required product path (codes "product") ms
  at ← required (number_within (address 4)) path (codes "at") ms
  words ← required (list 1 1024 reg) path (codes "words") ms
  a ← interface path ms
  Ok (Regs the_product at words a.port a.wait a.class a.major a.minor)

unfoldable pub fifo_item : Path → Members → Found ItemDescription
fifo_item path ms = do
  the_product ← required product path (codes "product") ms
  at ← required (number_within (address 4)) path (codes "at") ms
  depth ← required (number_within fifo_depth) path (codes "depth") ms
  a ← interface path ms
  Ok (Fifo the_product at depth a.port a.wait a.class a.major a.minor)

-- bus is the check of the bus behind the bridge
unfoldable pub bridge_item : (Path → Data → Found BusDescription) → Path → Members → Found ItemDescription
bridge_item bus path ms = do
  the_product ← required product path (codes "product") ms
  at ← required (number_within (address 4)) path (codes "at") ms
  child ← required bus path (codes "bus") ms
  Ok (Bridge the_product at child)

unfoldable pub integration_item : Path → Members → Found ItemDescription
integration_item path ms = do
  the_product ← required product path (codes "product") ms
  Ok (Integration the_product)

abbrev pub item_of : (Path → Data → Found BusDescription) → ItemKind → Path → Members → Found ItemDescription
item_of bus kind.Ram path ms = ram_item path ms
item_of bus kind.Regs path ms = regs_item path ms
item_of bus kind.Fifo path ms = fifo_item path ms
item_of bus kind.Bridge path ms = bridge_item bus path ms
item_of bus kind.Integration path ms = integration_item path ms
item_of bus kind.Empty path ms = Ok Empty

-- the key kind, then unknown keys, then the other keys
unfoldable pub item : (Path → Data → Found BusDescription) → Path → Data → Found ItemDescription
item bus path d = do
  ms ← object path d
  kind ← required (word kinds) path (codes "kind") ms
  own ← known (keys kind) path ms
  item_of bus kind path own

-- ---- a bus, whose items are checked by an_item

abbrev pub bus_keys : List (List ℕ)
bus_keys = codes "product" ∷ codes "last" ∷ codes "sdb" ∷ codes "items" ∷ []

unfoldable pub bus_of : (Path → Data → Found ItemDescription) → Path → Data → Found BusDescription
bus_of an_item path d = do
  ms ← object_of bus_keys path d
  the_product ← required product path (codes "product") ms
  last ← required (number_within (last_address 4)) path (codes "last") ms
  sdb ← required (number_within (address 4)) path (codes "sdb") ms
  items ← required (list 0 64 an_item) path (codes "items") ms
  Ok (roll-BusDescription (record { product = the_product; width = W32; last = last; sdb = sdb; items = items }))

-- a bus where so many levels of buses may still come
unfoldable pub bus : ℕ → Path → Data → Found BusDescription
bus zero path d = object path d >> Err (fault.TooDeep path)
bus (suc levels) path d = bus_of (item (bus levels)) path d

-- ---- the whole

abbrev pub root_keys : List (List ℕ)
root_keys = codes "version" ∷ codes "data" ∷ codes "depth" ∷ codes "masters" ∷ codes "bus" ∷ []

unfoldable pub root : Path → Data → Found Description
root path d = do
  ms ← object_of root_keys path d
  version ← required (number_within (from_to 1 1)) path (codes "version") ms
  data_bits ← required (number_within (from_to 32 32)) path (codes "data") ms
  depth ← required (number_within one_to_16) path (codes "depth") ms
  masters ← required (number_within one_to_16) path (codes "masters") ms
  the_bus ← required (bus 4) path (codes "bus") ms
  Ok (record { depth = depth; masters = masters; bus = the_bus })

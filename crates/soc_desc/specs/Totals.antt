-- How much a description has in all its buses together.
use Rattle.std.specs.Prelude.{ℕ, ◌+◌, ◌-◌, ◌^◌, ◌||◌, min, List, [], ◌∷◌, Ok, Err, nat_lt, if◌then◌else◌, ⊤}
use Rattle.soc_desc.specs.declared.fault.DescFault.TheVariants as fault
use Rattle.soc_desc.specs.declared.totals.Totals.{Totals}
use Rattle.soc_desc.specs.declared.description.ItemDescription.{ItemDescription}
use Rattle.soc_desc.specs.declared.description.BusDescription.{BusDescription}
use Rattle.soc_desc.specs.declared.description.ItemDescription.TheOpen.{ItemDescription-F, BusDescription-F}
use Rattle.soc_desc.specs.declared.description.ItemDescription.TheFolds.{fold-ItemDescription, fold-BusDescription}
use Rattle.soc_desc.specs.Checks.{Path, Found}
use Rattle.soc_desc.specs.View.{Make, RamOf, RegsOf, FifoOf, OnBus, OfDevice, OfBridge, OfNote, OfEmpty, on_bus}

-- devices, records of SDB tables, octets of RAM
abbrev pub of : ℕ → ℕ → ℕ → Totals
of devices records ram = record { devices = devices; records = records; ram = ram }

abbrev pub plus : Totals → Totals → Totals
plus a b = of (a.devices + b.devices) (a.records + b.records) (a.ram + b.ram)

abbrev pub sum_of : List Totals → Totals
sum_of [] = of 0 0 0
sum_of (t ∷ ts) = plus t (sum_of ts)

abbrev pub ram_in : Make → ℕ
ram_in (RamOf size) = size
ram_in (RegsOf words) = 0
ram_in (FifoOf depth) = 0

-- each item has a record
abbrev pub totals_on : OnBus Totals → Totals
totals_on (OfDevice d) = of 1 1 (ram_in d.make)
totals_on (OfBridge p at bus) = plus (of 0 1 0) bus
totals_on (OfNote p) = of 0 1 0
totals_on OfEmpty = of 0 1 0

abbrev pub item_layer : ItemDescription-F Totals Totals → Totals
item_layer item = totals_on (on_bus item)

-- a bus has the record of its interconnect, and what its items have
abbrev pub bus_layer : BusDescription-F Totals Totals → Totals
bus_layer b = plus (of 0 1 0) (sum_of b.items)

abbrev pub item_totals : ItemDescription → Totals
item_totals = fold-ItemDescription Totals Totals item_layer bus_layer

abbrev pub bus_totals : BusDescription → Totals
bus_totals = fold-BusDescription Totals Totals item_layer bus_layer

-- as counters of 64 bits that stand still at their last value
abbrev pub capped : Totals → Totals
capped t = of (min t.devices (2 ^ 64 - 1)) (min t.records (2 ^ 64 - 1)) (min t.ram (2 ^ 64 - 1))

abbrev pub within : Path → Totals → Found ⊤
within path t =
    if nat_lt 256 t.devices || nat_lt 4096 t.records then Err (fault.TooMany path)
    else (if nat_lt 16777216 t.ram then Err (fault.Range path) else Ok tt)

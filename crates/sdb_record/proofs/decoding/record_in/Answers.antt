use Rattle.std.proofs.Common.{sym, ap, ◌∙◌}
use Rattle.sdb_record.specs.Faults.{has_product}
use Rattle.sdb_record.proofs.FaultLemmas.{clean, name_printed}
use Rattle.sdb_record.proofs.decoding.record_in.Goals as goal

pub product_in-requires : goal.product_in-requires
product_in-requires c = name_printed _ _ (clean _ _ c.requires) (ap has_product (sym c.get8.ensures ∙ c.in-0.is))

pub product_in-requires-in-1 : goal.product_in-requires-in-1
product_in-requires-in-1 c = name_printed _ _ (clean _ _ c.requires) (ap has_product (sym c.get8.ensures ∙ c.in-1.is))

pub product_in-requires-in-2 : goal.product_in-requires-in-2
product_in-requires-in-2 c = name_printed _ _ (clean _ _ c.requires) (ap has_product (sym c.get8.ensures ∙ c.in-2.is))

pub product_in-requires-in-128 : goal.product_in-requires-in-128
product_in-requires-in-128 c = name_printed _ _ (clean _ _ c.requires) (ap has_product (sym c.get8.ensures ∙ c.in-128.is))

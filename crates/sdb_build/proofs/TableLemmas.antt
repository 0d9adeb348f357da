-- A table and the images of a bus, written part by part.
use Rattle.std.proofs.Common.{◌≡◌, ℕ, suc, List, [], ◌∷◌, ◌++◌, length, map, Result, Ok, Err, OnOk, refl, sym, ap, ◌∙◌, append_assoc, rules}
use Rattle.sdb_record.specs.declared.kinds.Record.{Record}
use Rattle.sdb_record.specs.Layout.{wishbone}
use Rattle.sdb_record.specs.Relation.{encoded}
use Rattle.soc_desc.specs.declared.description.BusDescription.{BusDescription}
use Rattle.soc_desc.specs.declared.description.ItemDescription.{ItemDescription, the_lemmas}
use Rattle.soc_desc.specs.declared.description.ItemDescription.TheViews.{out-BusDescription}
use Rattle.sdb_build.specs.declared.image.Image.{Image}
use Rattle.sdb_build.specs.Tables.{spelled, entries, interconnect, records_of, images_behind, item_tables, table_records, image_of, image_at, bus_images}

length_map : {A B : Type 0} (f : A → B) (xs : List A) → length (map f xs) ≡ length xs
length_map f [] = refl
length_map f (x ∷ xs) = ap suc (length_map f xs)

pub on_ok : {A E X : Type 0} (r : Result A E) (x y z : X) → OnOk r (x ≡ y) → y ≡ z → OnOk r (x ≡ z)
on_ok (Ok v) x y z h e = h ∙ e
on_ok (Err v) x y z h e = tt

module _ (bus : BusDescription) where
  own_records : let b = out-BusDescription bus in table_records bus ≡ records_of b.product b.width b.last (map item_tables b.items)
  own_records = search (rules, the_lemmas)

  pub records_are : let b = out-BusDescription bus in table_records bus ≡ interconnect b.product b.last (length b.items) ∷ entries b.width (map item_tables b.items)
  records_are =
      let b = out-BusDescription bus in
      own_records ∙ ap (λ n. interconnect b.product b.last n ∷ entries b.width (map item_tables b.items)) (length_map item_tables b.items)

  -- a table whose first record and whose others were written
  pub table_is : (start middle end : List ℕ) (first : Record) (items : List ItemDescription) → let b = out-BusDescription bus in
      start ≡ [] → first ≡ interconnect b.product b.last (length b.items) → middle ≡ start ++ encoded wishbone first → items ≡ b.items
      → end ≡ middle ++ spelled (entries b.width (map item_tables items)) → end ≡ image_of bus
  table_is start middle end first items none bus_record written same others =
      let b = out-BusDescription bus in
      let front : middle ≡ encoded wishbone (interconnect b.product b.last (length b.items)) = written ∙ ap (λ s. s ++ encoded wishbone first) none ∙ ap (λ r. encoded wishbone r) bus_record in
      others ∙ ap (λ m. m ++ spelled (entries b.width (map item_tables items))) front
      ∙ ap (λ is. encoded wishbone (interconnect b.product b.last (length b.items)) ++ spelled (entries b.width (map item_tables is))) same ∙ sym (ap spelled records_are)

  images_are : (base : ℕ) → bus_images bus base ≡ image_at bus base ∷ images_behind base (map item_tables (out-BusDescription bus).items)
  images_are base = search (rules, the_lemmas)

  -- images to which that of the bus and those of the buses behind it were added
  pub images_added : (base : ℕ) (old new : List Image) (items : List ItemDescription) → new ≡ old ++ image_at bus base ∷ [] → items ≡ (out-BusDescription bus).items
      → new ++ images_behind base (map item_tables items) ≡ old ++ bus_images bus base
  images_added base old new items added same =
      let image : List Image = image_at bus base ∷ [] in
      ap (λ n. n ++ images_behind base (map item_tables items)) added ∙ ap (λ is. (old ++ image) ++ images_behind base (map item_tables is)) same
      ∙ append_assoc old image (images_behind base (map item_tables (out-BusDescription bus).items)) ∙ ap (λ is. old ++ is) (sym (images_are base))

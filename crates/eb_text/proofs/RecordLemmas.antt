-- A line for each record of a table.
use Rattle.std.proofs.Common.{◌≡◌, ℕ, List, [], ◌∷◌, ◌++◌, length, map, take, drop, refl, ap, ◌∙◌, subst, arith}
use Rattle.std.proofs.Math.Seq.{take-append_seam, drop-append_seam}
use Rattle.std.proofs.lemmas.List.Elements.{All-head, All-tail}
use Rattle.std.specs.List.{All}
use Rattle.eb_io.specs.Text.{line, hex_text}
use Rattle.sdb_record.specs.declared.kinds.Record.{Record}
use Rattle.sdb_record.specs.Layout.{wishbone}
use Rattle.sdb_record.specs.Relation.{encoded}
use Rattle.sdb_build.specs.Tables.{spelled, table_records}
use Rattle.sdb_build.specs.Buses.{PlacedBus, buses_of}
use Rattle.sdb_build.specs.Whole.{IsWhole, IsTable}
use Rattle.sdb_build.specs.Laws.{table_address, table_image}
use Rattle.sdb_build.proofs.ImageLemmas.{length-spelled}
use Rattle.sdb_build.proofs.BusLemmas.{images_of_buses, tables_of_accepted}
use Rattle.eb_text.specs.Build.{record_count, record_lines, table_line, build_text, record_line, lines_of_records, text_of_buses, LineForEachRecord, BuildByRecords}

counted : (rs : List Record) → All IsWhole rs → record_count (spelled rs) ≡ length rs
counted rs whole = omega (arith, length-spelled rs whole)

front : (n : ℕ) (xs ys : List ℕ) → length xs ≡ n → take n (xs ++ ys) ≡ xs
front n xs ys e = subst (λ (k : ℕ). take k (xs ++ ys) ≡ xs) e (take-append_seam xs ys)

rest : (n : ℕ) (xs ys : List ℕ) → length xs ≡ n → drop n (xs ++ ys) ≡ ys
rest n xs ys e = subst (λ (k : ℕ). drop k (xs ++ ys) ≡ ys) e (drop-append_seam xs ys)

lines : (rs : List Record) → All IsWhole rs → record_lines (length rs) (spelled rs) ≡ lines_of_records rs
lines [] whole = refl
lines (r ∷ rs) whole =
    let one = All-head IsWhole r rs whole in
    let first : take 64 (spelled (r ∷ rs)) ≡ encoded wishbone r = front 64 (encoded wishbone r) (spelled rs) one in
    let others : drop 64 (spelled (r ∷ rs)) ≡ spelled rs = rest 64 (encoded wishbone r) (spelled rs) one in
    (λ i. line (hex_text (first i)) ++ record_lines (length rs) (others i))
    ∙ ap (λ (l : List ℕ). record_line r ++ l) (lines rs (All-tail IsWhole r rs whole))

pub line_for_each_record : LineForEachRecord
line_for_each_record at rs whole =
    ap (λ (n : ℕ). table_line at n ++ record_lines n (spelled rs)) (counted rs whole)
    ∙ ap (λ (l : List ℕ). table_line at (length rs) ++ l) (lines rs whole)

abbrev HasTable : PlacedBus → Type 0
HasTable b = IsTable (table_records b.bus)

buses : (bs : List PlacedBus) → All HasTable bs → build_text (map table_image bs) ≡ text_of_buses bs
buses [] tables = refl
buses (b ∷ bs) tables =
    let one = All-head HasTable b bs tables in
    let here = line_for_each_record (table_address b) (table_records b.bus) one.whole in
    λ i. here i ++ buses bs (All-tail HasTable b bs tables) i

pub build_by_records : BuildByRecords
build_by_records d accepted = ap build_text (images_of_buses d) ∙ buses (buses_of d) (tables_of_accepted d accepted)

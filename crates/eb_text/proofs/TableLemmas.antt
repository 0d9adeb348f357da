-- How the records of a table go out one by one.
use Rattle.std.proofs.Common.{◌≡◌, ℕ, suc, ◌≤◌, List, ◌++◌, length, take, drop, length-drop, arith, ap, ◌∙◌, sym, subst}
use Rattle.eb_io.specs.Reading.{Reading}
use Rattle.eb_io.specs.Writing.{Writing}
use Rattle.eb_io.proofs.PageLemmas.{Paging}
use Rattle.eb_io.specs.Text.{line, hex_text}
use Rattle.eb_text.specs.Build.{record_count, record_lines}

-- the lines of all records
abbrev pub all_lines : List ℕ → List ℕ
all_lines octets = record_lines (record_count octets) octets

module _ {S : Type 0} (writing : S → Writing) (reading : S → Reading) where
  -- the line of the first record is the next part
  pub next_record : (old mid : S) (page held octets rest text : List ℕ) → 64 ≤ length rest → text ≡ line (hex_text (take 64 rest))
      → Paging writing reading old mid page held (all_lines octets) (all_lines rest) → Paging writing reading old mid page held (all_lines octets) (text ++ all_lines (drop 64 rest))
  next_record old mid page held octets rest text more is went =
      let count : record_count rest ≡ suc (record_count (drop 64 rest)) = omega (arith, length-drop 64 rest) in
      let parts : all_lines rest ≡ text ++ all_lines (drop 64 rest) =
      ap (λ (n : ℕ). record_lines n rest) count ∙ ap (λ (l : List ℕ). l ++ all_lines (drop 64 rest)) (sym is) in
      subst (λ (l : List ℕ). Paging writing reading old mid page held (all_lines octets) l) parts went

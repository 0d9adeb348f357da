use Rattle.std.proofs.Common.{◌≡◌, ◌≢◌, ◌<◌, ◌+◌, ℕ, List, [], map, length, arith, rules, inl, inr, string_bytes, sym, ◌∙◌, ap, subst}
use Rattle.std.specs.List.{slice_index_or}
use Rattle.std.proofs.lemmas.Bool.{cases_lt}
use Rattle.std.proofs.lemmas.List.{length-map}
use Rattle.eb_text.proofs.ItemLemmas.{no_text, text_at}
use Rattle.eb_text.proofs.command.are_named.Goals as goal

pub loop-word-init : goal.loop-word-init
loop-word-init c = λ k lt d. absurd (omega (arith, lt))

pub loop-word-preserved : goal.loop-word-preserved
loop-word-preserved c = λ k lt d.
    let words = c.args.words.now in
    let i = c.loop-word.word-index in
    let some : string_bytes c.word-item.result ≢ [] = search rules in
    let here = text_at string_bytes words i c.word-item.result d (omega arith) c.word-item.is in
    elim (cases_lt k i) [
      | inl before ↦ c.loop-word.invariant k before d
      | inr not ↦ let same : i ≡ k = omega (arith, lt, not) in
          let P : ℕ → Type 0 = λ j. slice_index_or (map string_bytes words) j d ≢ [] in
          subst P same (λ none. some (sym here ∙ none))
    ]

pub returns-then-is_empty : goal.returns-then-is_empty
returns-then-is_empty c =
    let words = c.args.words.now in
    let i = c.loop-word.word-index in
    let empty : length (string_bytes c.word-item.result) ≡ 0 = grind arith in
    let none = no_text (string_bytes c.word-item.result) empty in
    let lt : i < length words = omega arith in
    let here = text_at string_bytes words i c.word-item.result [] lt c.word-item.is in
    let inside : i < length (map string_bytes words) = omega (arith, lt, length-map words string_bytes) in
    record { named = (λ yes. cc, λ all. absurd (all i [] inside (here ∙ none))) }

use Rattle.std.proofs.Common.{◌≡◌, [], ◌∷◌, map, arith, rules, codes, string_bytes, inl, inr, ◌∙◌, ap}
use Rattle.eb_text.proofs.ItemLemmas.{one_item}
use Rattle.eb_text.proofs.command.text_of.Goals as goal

pub returns-then-eq : goal.returns-then-eq
returns-then-eq c =
    let items = one_item c.args.words.now c.word-item.result (omega arith) c.word-item.is in
    let word : string_bytes c.word-item.result ≡ codes "--help" = search rules in
    let words : map string_bytes (c.word-item.result ∷ []) ≡ codes "--help" ∷ [] = λ i. word i ∷ [] in
    inl (ap (map string_bytes) items ∙ words, c.help.ensures.text)

pub returns-then-eq-2 : goal.returns-then-eq-2
returns-then-eq-2 c =
    let items = one_item c.args.words.now c.word-item.result (omega arith) c.word-item.is in
    let word : string_bytes c.word-item.result ≡ codes "--version" = search rules in
    let words : map string_bytes (c.word-item.result ∷ []) ≡ codes "--version" ∷ [] = λ i. word i ∷ [] in
    inr (ap (map string_bytes) items ∙ words, c.version.ensures.text)

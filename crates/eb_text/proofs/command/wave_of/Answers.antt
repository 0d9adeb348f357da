use Rattle.std.proofs.Common.{◌≡◌, [], ◌∷◌, map, arith, rules, codes, string_bytes, ◌∙◌, ap}
use Rattle.eb_text.proofs.ItemLemmas.{one_item}
use Rattle.eb_text.proofs.command.wave_of.Goals as goal

pub returns-then-eq : goal.returns-then-eq
returns-then-eq c =
    let items = one_item c.args.words.now c.word-item.result (omega arith) c.word-item.is in
    let word : string_bytes c.word-item.result ≡ codes "--wave" = search rules in
    let words : map string_bytes (c.word-item.result ∷ []) ≡ codes "--wave" ∷ [] = λ i. word i ∷ [] in
    ap (map string_bytes) items ∙ words

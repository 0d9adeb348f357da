use Rattle.std.proofs.Common.{◌≡◌, ◌≢◌, [], ◌∷◌, map, arith, rules, codes, string_bytes, sym, ◌∙◌, ap}
use Rattle.eb_text.proofs.ItemLemmas.{four_items}
use Rattle.eb_text.proofs.command.answer_ram_of.Goals as goal

pub returns-in-Some : goal.returns-in-Some
returns-in-Some c =
    let items = four_items c.args.words.now c.first-item.result c.second-item.result c.size-item.result c.capture-item.result (omega arith) c.first-item.is c.second-item.is c.size-item.is c.capture-item.is in
    let first : string_bytes c.first-item.result ≡ codes "answer" = search rules in
    let second : string_bytes c.second-item.result ≡ codes "--ram" = search rules in
    let named : c.as_str-in-Some.result.now ≢ [] = search rules in
    let texts : map string_bytes (c.first-item.result ∷ c.second-item.result ∷ c.size-item.result ∷ c.capture-item.result ∷ []) ≡ codes "answer" ∷ codes "--ram" ∷ c.as_str-2.result.now ∷ c.as_str-in-Some.result.now ∷ [] = λ i. first i ∷ second i ∷ sym c.as_str-2.ensures.value i ∷ sym c.as_str-in-Some.ensures.value i ∷ [] in
    record {
      size_word = c.as_str-2.result.now;
      words_are = ap (map string_bytes) items ∙ texts;
      says = c.in-Some.ensures.0;
      size = c.in-Some.ensures.1;
      named = named;
    }

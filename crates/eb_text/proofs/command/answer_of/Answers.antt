use Rattle.std.proofs.Common.{◌≡◌, ◌≢◌, [], ◌∷◌, map, arith, rules, codes, string_bytes, sym, ◌∙◌, ap}
use Rattle.eb_text.proofs.ItemLemmas.{three_items}
use Rattle.eb_text.proofs.command.answer_of.Goals as goal

pub returns-then-eq : goal.returns-then-eq
returns-then-eq c = λ description capture is.
    let items = three_items c.args.words.now c.first-item.result c.description-item.result c.capture-item.result (omega arith) c.first-item.is c.description-item.is c.capture-item.is in
    let ram : string_bytes c.description-item.result ≡ codes "--ram" = search rules in
    let texts : string_bytes c.first-item.result ∷ string_bytes c.description-item.result ∷ string_bytes c.capture-item.result ∷ [] ≡ codes "answer" ∷ description ∷ capture ∷ [] =
    sym (ap (map string_bytes) items) ∙ is.words_are in
    let same : string_bytes c.description-item.result ≡ description = cc texts in
    is.no_ram (sym same ∙ ram)

pub returns : goal.returns
returns c =
    let items = three_items c.args.words.now c.first-item.result c.description-item.result c.capture-item.result (omega arith) c.first-item.is c.description-item.is c.capture-item.is in
    let first : string_bytes c.first-item.result ≡ codes "answer" = search rules in
    let no_ram : c.as_str-3.result.now ≢ codes "--ram" = search rules in
    let described : c.as_str-3.result.now ≢ [] = search rules in
    let named : c.as_str-4.result.now ≢ [] = search rules in
    let texts : map string_bytes (c.first-item.result ∷ c.description-item.result ∷ c.capture-item.result ∷ []) ≡ codes "answer" ∷ c.as_str-3.result.now ∷ c.as_str-4.result.now ∷ [] = λ i. first i ∷ sym c.as_str-3.ensures.value i ∷ sym c.as_str-4.ensures.value i ∷ [] in
    record {
      words_are = ap (map string_bytes) items ∙ texts;
      no_ram = no_ram;
      described = described;
      named = named;
    }

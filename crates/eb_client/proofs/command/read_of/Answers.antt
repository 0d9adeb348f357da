use Rattle.std.proofs.Common.{◌≡◌, ◌≢◌, [], ◌∷◌, map, arith, rules, codes, string_bytes, sym, ◌∙◌, ap}
use Rattle.eb_text.proofs.ItemLemmas.{three_items}
use Rattle.eb_client.proofs.TaskLemmas.{no_read}
use Rattle.eb_client.proofs.command.read_of.Goals as goal

pub returns-in_default-place_of : goal.returns-in_default-place_of
returns-in_default-place_of c =
    let items = three_items c.args.words.now c.first-item.result c.address-item.result c.place_word-item.result (omega arith) c.first-item.is c.address-item.is c.place_word-item.is in
    let place : string_bytes c.place_word-item.result ≡ c.as_bytes.result.now = sym c.as_bytes.ensures.value in
    let texts : map string_bytes c.args.words.now ≡ string_bytes c.first-item.result ∷ string_bytes c.address-item.result ∷ c.as_bytes.result.now ∷ [] = ap (map string_bytes) items
    ∙ (λ i. string_bytes c.first-item.result ∷ string_bytes c.address-item.result ∷ place i ∷ []) in
    no_read (map string_bytes c.args.words.now) (string_bytes c.first-item.result) (string_bytes c.address-item.result) c.as_bytes.result.now texts c.in_default-place_of.ensures

pub returns : goal.returns
returns c =
    let items = three_items c.args.words.now c.first-item.result c.address-item.result c.place_word-item.result (omega arith) c.first-item.is c.address-item.is c.place_word-item.is in
    let first : string_bytes c.first-item.result ≡ codes "read" = search rules in
    let named : c.as_str-2.result.now ≢ [] = search rules in
    let texts : map string_bytes (c.first-item.result ∷ c.address-item.result ∷ c.place_word-item.result ∷ []) ≡ codes "read" ∷ c.as_str-2.result.now ∷ c.as_bytes.result.now ∷ [] =
    λ i. first i ∷ sym c.as_str-2.ensures.value i ∷ sym c.as_bytes.ensures.value i ∷ [] in
    record {
      place_word = c.as_bytes.result.now;
      words_are = ap (map string_bytes) items ∙ texts;
      named = named;
      places = c.in-Some.ensures;
    }

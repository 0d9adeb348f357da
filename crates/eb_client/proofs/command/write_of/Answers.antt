use Rattle.std.proofs.Common.{◌≡◌, ◌≢◌, [], ◌∷◌, map, arith, rules, codes, string_bytes, sym, ◌∙◌, ap}
use Rattle.eb_text.proofs.ItemLemmas.{four_items}
use Rattle.eb_client.proofs.TaskLemmas.{no_write, no_value}
use Rattle.eb_client.proofs.command.write_of.Goals as goal

pub returns-in_default-place_of : goal.returns-in_default-place_of
returns-in_default-place_of c =
    let items = four_items c.args.words.now c.first-item.result c.address-item.result c.place_word-item.result c.value_word-item.result (omega arith) c.first-item.is c.address-item.is c.place_word-item.is c.value_word-item.is in
    let texts : map string_bytes (c.first-item.result ∷ c.address-item.result ∷ c.place_word-item.result ∷ c.value_word-item.result ∷ []) ≡ string_bytes c.first-item.result ∷ string_bytes c.address-item.result ∷ c.as_bytes.result.now ∷ string_bytes c.value_word-item.result ∷ [] =
    λ i. string_bytes c.first-item.result ∷ string_bytes c.address-item.result ∷ sym c.as_bytes.ensures.value i ∷ string_bytes c.value_word-item.result ∷ [] in
    no_write (map string_bytes c.args.words.now) (string_bytes c.first-item.result) (string_bytes c.address-item.result) c.as_bytes.result.now (string_bytes c.value_word-item.result) (ap (map string_bytes) items ∙ texts)
    c.in_default-place_of.ensures

pub returns-in_default-value_of : goal.returns-in_default-value_of
returns-in_default-value_of c =
    let items = four_items c.args.words.now c.first-item.result c.address-item.result c.place_word-item.result c.value_word-item.result (omega arith) c.first-item.is c.address-item.is c.place_word-item.is c.value_word-item.is in
    let texts : map string_bytes (c.first-item.result ∷ c.address-item.result ∷ c.place_word-item.result ∷ c.value_word-item.result ∷ []) ≡ string_bytes c.first-item.result ∷ string_bytes c.address-item.result ∷ c.as_bytes.result.now ∷ c.as_bytes-2.result.now ∷ [] =
    λ i. string_bytes c.first-item.result ∷ string_bytes c.address-item.result ∷ sym c.as_bytes.ensures.value i ∷ sym c.as_bytes-2.ensures.value i ∷ [] in
    no_value (map string_bytes c.args.words.now) (string_bytes c.first-item.result) (string_bytes c.address-item.result) c.as_bytes.result.now c.as_bytes-2.result.now c.in-Some.place c.in-Some.width
    (ap (map string_bytes) items ∙ texts) c.in-Some.ensures c.in_default-value_of.ensures

pub returns : goal.returns
returns c =
    let items = four_items c.args.words.now c.first-item.result c.address-item.result c.place_word-item.result c.value_word-item.result (omega arith) c.first-item.is c.address-item.is c.place_word-item.is c.value_word-item.is in
    let first : string_bytes c.first-item.result ≡ codes "write" = search rules in
    let named : c.as_str-2.result.now ≢ [] = search rules in
    let texts : map string_bytes (c.first-item.result ∷ c.address-item.result ∷ c.place_word-item.result ∷ c.value_word-item.result ∷ []) ≡ codes "write" ∷ c.as_str-2.result.now ∷ c.as_bytes.result.now ∷ c.as_bytes-2.result.now ∷ [] =
    λ i. first i ∷ sym c.as_str-2.ensures.value i ∷ sym c.as_bytes.ensures.value i ∷ sym c.as_bytes-2.ensures.value i ∷ [] in
    record {
      place_word = c.as_bytes.result.now;
      value_word = c.as_bytes-2.result.now;
      words_are = ap (map string_bytes) items ∙ texts;
      named = named;
      places = c.in-Some.ensures;
      says_value = c.in-Some-value_of.ensures.0;
      fits = c.in-Some-value_of.ensures.1;
    }

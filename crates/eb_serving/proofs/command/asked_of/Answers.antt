use Rattle.std.proofs.Common.{◌≡◌, ◌≢◌, [], ◌∷◌, map, arith, rules, string_bytes, sym, ◌∙◌, ap}
use Rattle.eb_text.proofs.ItemLemmas.{four_items}
use Rattle.eb_serving.proofs.AskLemmas.{not_first, no_port, no_count}
use Rattle.eb_serving.proofs.command.asked_of.Goals as goal

pub returns-then-ne : goal.returns-then-ne
returns-then-ne c =
    let items = four_items c.args.words.now c.first-item.result c.description-item.result c.port_word-item.result c.count_word-item.result (omega arith) c.first-item.is c.description-item.is c.port_word-item.is c.count_word-item.is in
    let unlike : string_bytes c.first-item.result ≢ c.args.word.now = search rules in
    λ ask x. not_first c.args.word.now (map string_bytes c.args.words.now) (string_bytes c.first-item.result) (string_bytes c.description-item.result) (string_bytes c.port_word-item.result) (string_bytes c.count_word-item.result) (ap (map string_bytes) items) ask x unlike

pub returns-in_default-number_to : goal.returns-in_default-number_to
returns-in_default-number_to c =
    let items = four_items c.args.words.now c.first-item.result c.description-item.result c.port_word-item.result c.count_word-item.result (omega arith) c.first-item.is c.description-item.is c.port_word-item.is c.count_word-item.is in
    let texts : map string_bytes (c.first-item.result ∷ c.description-item.result ∷ c.port_word-item.result ∷ c.count_word-item.result ∷ []) ≡ string_bytes c.first-item.result ∷ string_bytes c.description-item.result ∷ c.as_str-2.result.now ∷ string_bytes c.count_word-item.result ∷ [] =
    λ i. string_bytes c.first-item.result ∷ string_bytes c.description-item.result ∷ sym c.as_str-2.ensures.value i ∷ string_bytes c.count_word-item.result ∷ [] in
    λ ask x. no_port c.args.word.now (map string_bytes c.args.words.now) (string_bytes c.first-item.result) (string_bytes c.description-item.result) c.as_str-2.result.now (string_bytes c.count_word-item.result) (ap (map string_bytes) items ∙ texts) ask x c.in_default-number_to.ensures

pub returns-in_default-number_to-2 : goal.returns-in_default-number_to-2
returns-in_default-number_to-2 c =
    let items = four_items c.args.words.now c.first-item.result c.description-item.result c.port_word-item.result c.count_word-item.result (omega arith) c.first-item.is c.description-item.is c.port_word-item.is c.count_word-item.is in
    let texts : map string_bytes (c.first-item.result ∷ c.description-item.result ∷ c.port_word-item.result ∷ c.count_word-item.result ∷ []) ≡ string_bytes c.first-item.result ∷ string_bytes c.description-item.result ∷ string_bytes c.port_word-item.result ∷ c.as_str-3.result.now ∷ [] =
    λ i. string_bytes c.first-item.result ∷ string_bytes c.description-item.result ∷ string_bytes c.port_word-item.result ∷ sym c.as_str-3.ensures.value i ∷ [] in
    λ ask x. no_count c.args.word.now (map string_bytes c.args.words.now) (string_bytes c.first-item.result) (string_bytes c.description-item.result) (string_bytes c.port_word-item.result) c.as_str-3.result.now (ap (map string_bytes) items ∙ texts) ask x c.in_default-number_to-2.ensures

pub returns : goal.returns
returns c =
    let items = four_items c.args.words.now c.first-item.result c.description-item.result c.port_word-item.result c.count_word-item.result (omega arith) c.first-item.is c.description-item.is c.port_word-item.is c.count_word-item.is in
    let first : string_bytes c.first-item.result ≡ c.args.word.now = search rules in
    let named : c.as_str-4.result.now ≢ [] = search rules in
    let texts : map string_bytes (c.first-item.result ∷ c.description-item.result ∷ c.port_word-item.result ∷ c.count_word-item.result ∷ []) ≡ c.args.word.now ∷ c.as_str-4.result.now ∷ c.as_str-2.result.now ∷ c.as_str-3.result.now ∷ [] =
    λ i. first i ∷ sym c.as_str-4.ensures.value i ∷ sym c.as_str-2.ensures.value i ∷ sym c.as_str-3.ensures.value i ∷ [] in
    record {
      port_word = c.as_str-2.result.now;
      count_word = c.as_str-3.result.now;
      words_are = ap (map string_bytes) items ∙ texts;
      described = named;
      says_port = c.in-Some.ensures.0;
      least_port = c.in-Some.ensures.1;
      most_port = c.in-Some.ensures.2;
      says_count = c.in-Some-number_to.ensures.0;
      least_count = c.in-Some-number_to.ensures.1;
      most_count = c.in-Some-number_to.ensures.2;
    }

use Rattle.std.proofs.Common.{◌≡◌, ◌≢◌, ◌-◌, [], ◌∷◌, length, take, drop, map, arith, rules, codes, string_bytes, sym, ◌∙◌, ap}
use Rattle.std.specs.Prelude.{All}
use Rattle.eb_text.proofs.ItemLemmas.{two_in_front, some_left}
use Rattle.eb_text.proofs.command.replay_of.Goals as goal

pub returns : goal.returns
returns c =
    let words = c.args.words.now in
    let items = two_in_front words c.first-item.result c.description-item.result (omega arith) c.first-item.is c.description-item.is in
    let first : string_bytes c.first-item.result ≡ codes "replay" = search rules in
    let described : c.as_str-2.result.now ≢ [] = search rules in
    let some : take (length words - 2) (drop 2 words) ≢ [] = search rules in
    let named : All (λ name. name ≢ []) (map string_bytes (take (length words - 2) (drop 2 words))) = search rules in
    let texts : map string_bytes (c.first-item.result ∷ c.description-item.result ∷ take (length words - 2) (drop 2 words)) ≡ codes "replay" ∷ c.as_str-2.result.now ∷ map string_bytes (take (length words - 2) (drop 2 words)) =
    λ i. first i ∷ sym c.as_str-2.ensures.value i ∷ map string_bytes (take (length words - 2) (drop 2 words)) in
    record {
      words_are = ap (map string_bytes) items ∙ texts;
      described = described;
      some = some_left string_bytes (take (length words - 2) (drop 2 words)) some;
      named = named;
    }

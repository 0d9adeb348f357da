use Rattle.std.proofs.Common.{◌≡◌, ◌≢◌, [], ◌∷◌, map, arith, rules, codes, string_bytes, sym, ◌∙◌, ap}
use Rattle.eb_text.proofs.ItemLemmas.{two_items}
use Rattle.eb_text.proofs.command.tour_of.Goals as goal

pub returns : goal.returns
returns c =
    let items = two_items c.args.words.now c.first-item.result c.description-item.result (omega arith) c.first-item.is c.description-item.is in
    let first : string_bytes c.first-item.result ≡ codes "tour" = search rules in
    let described : c.as_str-2.result.now ≢ [] = search rules in
    let texts : map string_bytes (c.first-item.result ∷ c.description-item.result ∷ []) ≡ codes "tour" ∷ c.as_str-2.result.now ∷ [] = λ i. first i ∷ sym c.as_str-2.ensures.value i ∷ [] in
    record {
      words_are = ap (map string_bytes) items ∙ texts;
      described = described;
    }

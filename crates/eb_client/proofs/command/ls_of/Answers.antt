use Rattle.std.proofs.Common.{◌≡◌, ◌≢◌, [], ◌∷◌, map, arith, rules, codes, string_bytes, sym, ◌∙◌, ap}
use Rattle.eb_text.proofs.ItemLemmas.{two_items}
use Rattle.eb_client.proofs.command.ls_of.Goals as goal

pub returns : goal.returns
returns c =
    let items = two_items c.args.words.now c.first-item.result c.address-item.result (omega arith) c.first-item.is c.address-item.is in
    let first : string_bytes c.first-item.result ≡ codes "ls" = search rules in
    let named : c.as_str-2.result.now ≢ [] = search rules in
    let texts : map string_bytes (c.first-item.result ∷ c.address-item.result ∷ []) ≡ codes "ls" ∷ c.as_str-2.result.now ∷ [] = λ i. first i ∷ sym c.as_str-2.ensures.value i ∷ [] in
    record {
      words_are = ap (map string_bytes) items ∙ texts;
      named = named;
    }

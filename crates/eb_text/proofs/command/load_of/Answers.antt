use Rattle.std.proofs.Common.{◌≡◌, [], ◌∷◌, map, arith, rules, codes, string_bytes, sym, ◌∙◌, ap}
use Rattle.eb_text.proofs.ItemLemmas.{three_items}
use Rattle.eb_text.proofs.command.load_of.Goals as goal

pub returns : goal.returns
returns c =
    let items = three_items c.args.words.now c.first-item.result c.start_word-item.result c.cycles_word-item.result (omega arith) c.first-item.is c.start_word-item.is c.cycles_word-item.is in
    let first : string_bytes c.first-item.result ≡ codes "load" = search rules in
    let texts : map string_bytes (c.first-item.result ∷ c.start_word-item.result ∷ c.cycles_word-item.result ∷ []) ≡ codes "load" ∷ c.as_str-2.result.now ∷ c.as_str-3.result.now ∷ [] = λ i. first i ∷ sym c.as_str-2.ensures.value i ∷ sym c.as_str-3.ensures.value i ∷ [] in
    let start = rw c.in_ok-start.was at c.number_at_most.ensures in
    let cycles = rw c.in_ok-cycles.was at c.number_at_most-2.ensures in
    record {
      start_word = c.as_str-2.result.now;
      cycles_word = c.as_str-3.result.now;
      words_are = ap (map string_bytes) items ∙ texts;
      says_start = start.0;
      says_cycles = cycles.0;
      start_below = omega (arith, start.1);
      most_cycles = cycles.1;
    }

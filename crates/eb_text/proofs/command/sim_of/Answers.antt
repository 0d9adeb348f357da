use Rattle.std.proofs.Common.{◌≡◌, ◌≢◌, [], ◌∷◌, ◌-◌, length, take, drop, map, arith, rules, codes, string_bytes, sym, ◌∙◌, ap}
use Rattle.eb_text.specs.Command.{wave_words}
use Rattle.eb_text.proofs.ItemLemmas.{three_in_front}
use Rattle.eb_text.proofs.command.sim_of.Goals as goal

pub returns : goal.returns
returns c =
    let words = c.args.words.now in
    let items = three_in_front words c.first-item.result c.description-item.result c.script-item.result (omega arith) c.first-item.is c.description-item.is c.script-item.is in
    let first : string_bytes c.first-item.result ≡ codes "sim" = search rules in
    let described : c.as_str-description.result.now ≢ [] = search rules in
    let named : c.as_str-script.result.now ≢ [] = search rules in
    let wave = rw c.in_ok-wave.was at c.wave_of.ensures in
    let texts : map string_bytes (c.first-item.result ∷ c.description-item.result ∷ c.script-item.result ∷ take (length words - 3) (drop 3 words)) ≡ codes "sim" ∷ c.as_str-description.result.now ∷ c.as_str-script.result.now ∷ wave_words c.in_ok-wave.wave =
    λ i. first i ∷ sym c.as_str-description.ensures.value i ∷ sym c.as_str-script.ensures.value i ∷ wave i in
    record {
      words_are = ap (map string_bytes) items ∙ texts;
      described = described;
      named = named;
    }

use Rattle.std.proofs.Common.{◌≡◌, ◌%◌, List, ℕ, [], ◌∷◌, ap, sym, ◌∙◌, rules}
use Rattle.eb_base.specs.Field.{octets_of}
use Rattle.eb_io.specs.Text.{line, hex_text}
use Rattle.eb_client.proofs.access.line_of_8.Goals as goal

pub returns : goal.returns
unfolding octets_of
returns c =
    let small : c.args.word % 256 ≡ c.args.word = search rules in
    record { value = c.hex_line.ensures.value ∙ ap (λ (l : List ℕ). line (hex_text l)) c.to_be_bytes.ensures ∙ ap (λ (n : ℕ). line (hex_text (n ∷ []))) (sym small) }

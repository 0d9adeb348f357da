use Rattle.std.proofs.Common.{◌≡◌, ℕ, List, ◌∙◌, ap, sym, subst}
use Rattle.eb_io.specs.Writing.{Wrote}
use Rattle.eb_text.specs.Lines.{line_of}
use Rattle.eb_text.proofs.lines.write_line.Goals as goal

pub returns-in-Malformed : goal.returns-in-Malformed
returns-in-Malformed g c =
    let text : c.as_slice.result.now ≡ line_of c.args.fault.now = c.as_slice.ensures.octets ∙ c.malformed_line.ensures.value ∙ ap line_of (sym c.in-Malformed.is) in
    record {
      wrote = subst (λ (l : List ℕ). Wrote g.K.Sink.writing g.K.Sink.beside_writes c.args.sink.now c.put_all.new.sink l c.put_all.result) text c.put_all.ensures.wrote;
    }

pub returns-in-Truncated : goal.returns-in-Truncated
returns-in-Truncated g c =
    let text : c.as_slice-in-Truncated.result.now ≡ line_of c.args.fault.now = c.as_slice-in-Truncated.ensures.octets ∙ c.truncated_line.ensures.value ∙ ap line_of (sym c.in-Truncated.is) in
    record {
      wrote = subst (λ (l : List ℕ). Wrote g.K.Sink.writing g.K.Sink.beside_writes c.args.sink.now c.put_all-in-Truncated.new.sink l c.put_all-in-Truncated.result) text c.put_all-in-Truncated.ensures.wrote;
    }

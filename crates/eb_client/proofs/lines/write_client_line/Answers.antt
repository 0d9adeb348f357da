use Rattle.std.proofs.Common.{◌≡◌, ℕ, List, ◌∙◌, ap, sym, subst}
use Rattle.eb_io.specs.Writing.{Wrote}
use Rattle.eb_client.specs.ClientLines.{client_line}
use Rattle.eb_client.proofs.lines.write_client_line.Goals as goal

pub returns-in-Walk : goal.returns-in-Walk
returns-in-Walk g c =
    let text : c.as_slice-in-Walk.result.now ≡ client_line c.args.fault.now = c.as_slice-in-Walk.ensures.octets ∙ c.walk_line.ensures.value ∙ ap client_line (sym c.in-Walk.is) in
    record {
      wrote = subst (λ (l : List ℕ). Wrote g.K.Sink.writing g.K.Sink.beside_writes c.args.sink.now c.put_all-in-Walk.new.sink l c.put_all-in-Walk.result) text c.put_all-in-Walk.ensures.wrote;
    }

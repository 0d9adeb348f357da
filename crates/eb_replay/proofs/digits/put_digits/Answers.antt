use Rattle.std.proofs.Common.{rules, ◌≡◌, length, drop, ◌∙◌}
use Rattle.std.proofs.lemmas.List.{take_rest}
use Rattle.eb_io.specs.Text.{hex_text}
use Rattle.eb_io.proofs.PageLemmas.{paging_on, paging_wrong, paging_all}
use Rattle.eb_replay.proofs.DigitLemmas.{next_piece, digits_end}
use Rattle.eb_replay.proofs.digits.put_digits.Goals as goal

pub returns-in_err-put : goal.returns-in_err-put
returns-in_err-put g c =
    let rest = c.pieces.rest.now in
    record {
      paged = paging_wrong g.K.Sink.writing g.K.Sink.beside_writes _ _ _ c.args.page.now _ _ (hex_text c.args.octets.now) c.as_slice.result.now (hex_text (drop c.min-count.result rest)) _ _ c.from_residual.ensures.0
          (next_piece g.K.Sink.writing g.K.Sink.beside_writes _ _ c.args.page.now _ (hex_text c.args.octets.now) rest c.as_slice.result.now c.min-count.result
          (c.as_slice.ensures.octets ∙ c.digits.ensures.value) c.pieces.invariant) c.in_err-put.ensures.paged;
    }

pub pieces-preserved : goal.pieces-preserved
pieces-preserved g c =
    let rest = c.pieces.rest.now in
    rw take_rest (paging_on g.K.Sink.writing g.K.Sink.beside_writes _ _ _ c.args.page.now _ _ (hex_text c.args.octets.now) c.as_slice.result.now (hex_text (drop c.min-count.result rest))
    (next_piece g.K.Sink.writing g.K.Sink.beside_writes _ _ c.args.page.now _ (hex_text c.args.octets.now) rest c.as_slice.result.now c.min-count.result
    (c.as_slice.ensures.octets ∙ c.digits.ensures.value) c.pieces.invariant) c.in_ok-put.ensures.paged)

pub returns : goal.returns
returns g c =
    let none : length c.pieces.rest.now ≡ 0 = search rules in
    record {
      paged = paging_all g.K.Sink.writing g.K.Sink.beside_writes _ _ c.args.page.now _ (hex_text c.args.octets.now) (hex_text c.pieces.rest.now) (digits_end c.pieces.rest.now none) c.pieces.invariant;
    }

use Rattle.std.proofs.Common.{◌≡◌, ◌+◌, ◌<◌, List, length, drop, get_or, sym, ap, ◌∙◌, arith}
use Rattle.std.proofs.lemmas.Option.{get_or_from_slice_get}
use Rattle.eb_io.proofs.PageLemmas.{paging_none, paging_on, paging_wrong}
use Rattle.eb_server.specs.declared.ending.Ending.{Ending}
use Rattle.eb_serve.specs.DatagramText.{datagram_line, datagram_lines}
use Rattle.eb_serve.proofs.LineLemmas.{next_datagram}
use Rattle.eb_serve.proofs.datagram_text.put_datagrams.Goals as goal

pub loop-i-init : goal.loop-i-init
loop-i-init g c = paging_none g.K.Sink.writing g.K.Sink.beside_writes c.args.sink.now c.args.page.now (datagram_lines 0 c.args.ends.now.endings)

pub returns-in_err-put : goal.returns-in_err-put
returns-in_err-put g c =
    let endings : List Ending = c.args.ends.now.endings in
    let at = c.loop-i in
    let e : Ending = c.ending.result in
    let is : e ≡ get_or endings at.i e = sym (get_or_from_slice_get endings at.i e e c.ending.ensures.ending) in
    let lt : at.i < length endings = omega (arith, c.loop-i-test.true, c.count-i-end.ensures.count) in
    let piece : c.as_slice.result.now ≡ datagram_line at.i e = c.as_slice.ensures.octets ∙ c.datagram_line-line.ensures.value ∙ ap (λ n. datagram_line n e) c.from.ensures in
    record {
      paged = paging_wrong g.K.Sink.writing g.K.Sink.beside_writes _ _ _ c.args.page.now _ _ (datagram_lines 0 endings) c.as_slice.result.now (datagram_lines (at.i + 1) (drop (at.i + 1) endings)) _ _
          c.from_residual.ensures.0 (next_datagram g.K.Sink.writing g.K.Sink.beside_writes _ _ c.args.page.now _ (datagram_lines 0 endings) endings at.i e c.as_slice.result.now lt is piece at.invariant)
          c.in_err-put.ensures.paged;
    }

pub loop-i-preserved : goal.loop-i-preserved
loop-i-preserved g c =
    let endings : List Ending = c.args.ends.now.endings in
    let at = c.loop-i in
    let e : Ending = c.ending.result in
    let is : e ≡ get_or endings at.i e = sym (get_or_from_slice_get endings at.i e e c.ending.ensures.ending) in
    let lt : at.i < length endings = omega (arith, c.loop-i-test.true, c.count-i-end.ensures.count) in
    let piece : c.as_slice.result.now ≡ datagram_line at.i e = c.as_slice.ensures.octets ∙ c.datagram_line-line.ensures.value ∙ ap (λ n. datagram_line n e) c.from.ensures in
    paging_on g.K.Sink.writing g.K.Sink.beside_writes _ _ _ c.args.page.now _ _ (datagram_lines 0 endings) c.as_slice.result.now (datagram_lines (at.i + 1) (drop (at.i + 1) endings))
    (next_datagram g.K.Sink.writing g.K.Sink.beside_writes _ _ c.args.page.now _ (datagram_lines 0 endings) endings at.i e c.as_slice.result.now lt is piece at.invariant)
    c.in_ok-put.ensures.paged

use Rattle.std.proofs.Common.{◌≡◌, ℕ, List, [], ◌∷◌, ◌++◌, sym, ap, ◌∙◌, append_assoc}
use Rattle.eb_io.specs.Text.{line}
use Rattle.eb_io.proofs.PageLemmas.{wrong_first_paged, paged_both}
use Rattle.eb_replay.specs.Digits.{reply_text}
use Rattle.eb_replay.specs.Ports.{PortOutcome}
use Rattle.eb_replay.specs.Text.{port_head, reply_line}
use Rattle.eb_replay.proofs.text.put_port.Goals as goal

pub returns-in_err-put : goal.returns-in_err-put
returns-in_err-put g c =
    let port : PortOutcome = c.args.port.now in
    let head : c.as_slice.result.now ≡ port_head c.args.number port.ending = c.as_slice.ensures.octets ∙ c.port_head.ensures.value ∙ ap (λ (p : PortOutcome). port_head c.args.number p.ending) c.port.view_is in
    record {
      paged = wrong_first_paged g.K.Sink.writing g.K.Sink.beside_writes _ _ _ _ (reply_line c.args.number port) c.as_slice.result.now (line (reply_text port.reply)) _ _ c.from_residual.ensures.0
          (ap (λ (l : List ℕ). l ++ line (reply_text port.reply)) head ∙ sym (append_assoc (port_head c.args.number port.ending) (reply_text port.reply) (10 ∷ []))) c.in_err-put.ensures.paged;
    }

pub returns : goal.returns
returns g c =
    let port : PortOutcome = c.args.port.now in
    let head : c.as_slice.result.now ≡ port_head c.args.number port.ending = c.as_slice.ensures.octets ∙ c.port_head.ensures.value ∙ ap (λ (p : PortOutcome). port_head c.args.number p.ending) c.port.view_is in
    let reply : line (reply_text c.deref.result.now) ≡ line (reply_text port.reply) = ap (λ (l : List ℕ). line (reply_text l)) c.deref.ensures.value ∙ ap (λ (p : PortOutcome). line (reply_text p.reply)) c.port.view_is in
    record {
      paged = paged_both g.K.Sink.writing g.K.Sink.beside_writes _ _ _ _ _ _ (reply_line c.args.number port) c.as_slice.result.now (line (reply_text c.deref.result.now)) _
          ((λ i. head i ++ reply i) ∙ sym (append_assoc (port_head c.args.number port.ending) (reply_text port.reply) (10 ∷ []))) c.in_ok-put.ensures.paged c.put_reply.ensures.paged;
    }

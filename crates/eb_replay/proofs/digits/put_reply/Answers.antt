use Rattle.std.proofs.Common.{refl}
use Rattle.std.specs.Prelude.{codes}
use Rattle.eb_io.specs.Text.{line}
use Rattle.eb_io.proofs.PageLemmas.{wrong_first_paged, paged_both}
use Rattle.eb_replay.specs.Digits.{reply_text}
use Rattle.eb_replay.proofs.digits.put_reply.Goals as goal

pub returns-in_err-put_octets : goal.returns-in_err-put_octets
returns-in_err-put_octets g c = record {
  paged = wrong_first_paged g.K.Sink.writing g.K.Sink.beside_writes _ _ _ _ (line (reply_text c.args.reply.now)) (reply_text c.args.reply.now) (codes "\n") _ _ c.from_residual.ensures.0
      refl c.in_err-put_octets.ensures.paged;
}

pub returns : goal.returns
returns g c = record {
  paged = paged_both g.K.Sink.writing g.K.Sink.beside_writes _ _ _ _ _ _ (line (reply_text c.args.reply.now)) (reply_text c.args.reply.now) (codes "\n") _
      refl c.in_ok-put_octets.ensures.paged c.put.ensures.paged;
}

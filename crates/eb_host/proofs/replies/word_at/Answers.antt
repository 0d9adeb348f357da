use Rattle.std.proofs.Common.{◌<◌, ◌^◌, ℕ, sym, subst, take, drop, arith}
use Rattle.eb_base.specs.Width.{octets}
use Rattle.eb_base.proofs.FieldLemmas.{number-lt, IsBytes}
use Rattle.eb_codec.proofs.FieldLemmas.{IsBytes-take, IsBytes-drop}
use Rattle.eb_host.proofs.replies.word_at.Goals as goal

pub returns-clause-most : goal.returns-clause-most
returns-clause-most c =
    let bytes : IsBytes c.args.heard.now = λ i. omega (arith, c.type_inv.heard i) in
    let at : ℕ = c.word_start.result in
    let w : ℕ = octets c.args.header.port in
    subst (λ (n : ℕ). n < 256 ^ w) (sym c.get.ensures) (number-lt c.args.header.port (take w (drop at c.args.heard.now)) (IsBytes-take w (drop at c.args.heard.now) (IsBytes-drop at c.args.heard.now bytes)))

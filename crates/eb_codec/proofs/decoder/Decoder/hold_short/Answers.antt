use Rattle.std.proofs.Common.{ap, ◌∙◌}
use Rattle.eb_codec.specs.Decoding.{DecoderState}
use Rattle.eb_codec.proofs.ShortTaken.{holds_short, takes_short}
use Rattle.eb_codec.proofs.decoder.Decoder.hold_short.Goals as goal

pub invariant_of-self : goal.invariant_of-self
invariant_of-self c =
    let header = ap (λ (k : DecoderState). k.header) c.self.view_is ∙ c.requires.awaits.header in
    holds_short c.self.inside.sets c.self.inside.header c.fill_short.new.room.items c.args.piece.now header c.self.invariant.widths c.fill_short.ensures.room c.fill_short.ensures.bytes c.fill_short.ensures.front c.requires.short

pub returns : goal.returns
returns c =
    let a = c.self.inside in
    takes_short c.args.self.now a.sets a.header a.shows a.start a.len a.fault c.args.piece.now a.room.items c.fill_short.new.room.items c.read_short.result c.self.view_is c.requires.awaits c.self.invariant
    c.fill_short.ensures.room c.fill_short.ensures.bytes c.fill_short.ensures.front c.requires.short c.read_short.ensures

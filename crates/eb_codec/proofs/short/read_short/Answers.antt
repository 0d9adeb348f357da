use Rattle.std.proofs.Common.{get_or, refl}
use Rattle.eb_codec.specs.declared.short.ShortRecord.{ShortRecord}
use Rattle.eb_codec.proofs.ShortLemmas.{short_read}
use Rattle.eb_codec.proofs.short.read_short.Goals as goal

pub returns : goal.returns
returns c =
    let s : ShortRecord = record { flags = get_or c.args.octets.now 0 0; write_base = c.get32.result; value = c.get32-2.result; return_base = c.get32-3.result; address = c.get32-4.result } in
    short_read c.args.octets.now s c.requires refl c.get32.ensures.value c.get32-2.ensures.value c.get32-3.ensures.value c.get32-4.ensures.value

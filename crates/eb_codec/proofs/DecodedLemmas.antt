-- What is encoded is decoded again.
use Rattle.std.proofs.Common.{◌≡◌, ℕ, ◌-◌, ◌≤◌, List, ◌++◌, length, Option, Some, None, Result, sym, ap, subst, ◌∙◌, arith}
use Rattle.eb_base.specs.declared.width.Widths.{Widths}
use Rattle.eb_codec.specs.declared.item.Header.{Header}
use Rattle.eb_codec.specs.declared.event.Malformed.{Malformed}
use Rattle.eb_codec.specs.declared.event.Step.{Step}
use Rattle.eb_codec.specs.Form.{zeroed, probe_form, header_form, record_form}
use Rattle.eb_codec.specs.Stream.{StreamItem, Probed, Headed, Recorded, Spells}
use Rattle.eb_codec.specs.Decoding.{DecoderState, told, Feeds}
use Rattle.eb_codec.specs.Encoded.{Awaits, GivesOnly, DecodesRecord, DecodesHeader, DecodesProbe}
use Rattle.eb_codec.proofs.ItemLemmas.{form_read, size-ge}
use Rattle.eb_codec.proofs.RunLemmas.{answer_ok}
use Rattle.eb_codec.proofs.AgainLemmas.{gives_spelled}
use Rattle.eb_codec.proofs.EncodedLemmas.{encoded_spells, encoded_header_spells, encoded_probe_spells}

-- an item takes four octets at least
pub spelled-ge : (sets : Widths) (header : Option Header) (x : StreamItem) (o : List ℕ) → Spells sets header x o → 4 ≤ length o
spelled-ge sets header x o s = let e = (form_read header x o s.form).1 in omega (arith, size-ge header o)

-- what is spelled is given where nothing pends
pub gives_only : (old new : DecoderState) (header : Option Header) (x : StreamItem) (octets rest : List ℕ) (answer : Result Step Malformed) → Awaits old header → Spells old.sets header x octets → Feeds old (octets ++ rest) answer new → GivesOnly old x octets answer new
gives_only old new header x octets rest answer a s f =
    let s' : Spells old.sets old.header x octets = subst (λ (h : Option Header). Spells old.sets h x octets) (sym a.header_is) s in
    let len : length old.pending ≡ 0 = ap length a.nothing in
    let e : old.pending ++ (octets ++ rest) ≡ octets ++ rest = ap (λ (l : List ℕ). l ++ (octets ++ rest)) a.nothing in
    let long = spelled-ge old.sets old.header x octets s' in
    let g = gives_spelled old new (octets ++ rest) octets rest answer x a.no_fault f s' e (omega arith) in
    let all : length octets - length old.pending ≡ length octets = omega arith in
    (g.0 ∙ ap (λ (n : ℕ). answer_ok (record { taken = n; item = told x })) all, g.2)

pub decodes_record : DecodesRecord
decodes_record old new h r rest answer a fits keeps f = gives_only old new (Some h) (Recorded r) (zeroed (record_form h r)) rest answer a (encoded_spells old.sets h r fits keeps) f

pub decodes_header : DecodesHeader
decodes_header old new h rest answer a x y f = gives_only old new None (Headed h) (zeroed (header_form h)) rest answer a (encoded_header_spells old.sets h x y) f

pub decodes_probe : DecodesProbe
decodes_probe old new p rest answer a fits x y f = gives_only old new None (Probed p) (zeroed (probe_form p)) rest answer a (encoded_probe_spells old.sets p fits x y) f

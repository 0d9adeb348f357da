-- A reply is no longer than its request.
use Rattle.std.proofs.Common.{◌≡◌, ℕ, ◌+◌, ◌-◌, ◌≤◌, ◌==◌, Bool, true, false, if◌then◌else◌, List, [], ◌++◌, length, take, replicate, Option, Some, None, Result, Ok, Err, refl, sym, ap, ◌∙◌, subst, arith, ◌⊎◌, inl, inr, length-append, length-take}
use Rattle.std.proofs.lemmas.List.{length-replicate}
use Rattle.std.specs.Prelude.{MatchOption}
use Rattle.eb_base.specs.declared.width.Width.TheVariants.{W32}
use Rattle.eb_base.specs.Field.{octets_of}
use Rattle.eb_base.proofs.FieldLemmas.{length-octets_of}
use Rattle.eb_codec.specs.declared.item.Header.{Header}
use Rattle.eb_codec.specs.declared.item.Record.{Record}
use Rattle.eb_codec.specs.Sizes.{field_octets, unit_octets, gap}
use Rattle.eb_codec.specs.Reading.{body_octets, record_octets}
use Rattle.eb_codec.specs.Form.{Fills, FitsRecord, probe_form, header_form, record_form, zeroed}
use Rattle.eb_codec.specs.Stream.{Probed, Headed, Recorded}
use Rattle.eb_codec.proofs.FormLemmas.{length-Fills, length-fixed, length-padding}
use Rattle.eb_codec.proofs.RecordLemmas.{length-record_form}
use Rattle.eb_codec.proofs.ZeroedLemmas.{length-zeroed}
use Rattle.wb_signals.specs.Cycles.{MasterCycles}
use Rattle.wb_signals.specs.declared.answer.Answer.{Answer}
use Rattle.eb_session.specs.declared.session.Fed.{Fed}
use Rattle.eb_session.specs.declared.session.End.{End}
use Rattle.eb_session.specs.Operations.{upto}
use Rattle.eb_session.specs.declared.slave.Slave.{Slave}
use Rattle.eb_session.specs.Replies.{read_word, answering, record_reply}
use Rattle.eb_session.specs.Configuration.{register}
use Rattle.eb_codec.specs.Decoding.{DecoderState}
use Rattle.eb_session.specs.Keeping.{SessionState, FedItem, Answers, FeedsSession, Stays}
use Rattle.eb_session.specs.Course.{IsShort}
use Rattle.eb_session.proofs.ListLemmas.{length-upto}

-- nothing, or this
at_most : (b : Bool) (l : List ℕ) (n : ℕ) → length l ≤ n → length (if b then [] else l) ≤ n
at_most true l n le = omega arith
at_most false l n le = le

abbrev unit_by : Bool → ℕ
unit_by b = if b then 8 else 4

unit_is : (b : Bool) → (unit_by b ≡ 4) ⊎ (unit_by b ≡ 8)
unit_is true = inr refl
unit_is false = inl refl

-- more octets take no less with their padding
round_4 : (x y : ℕ) → x ≤ y → x + gap 4 x ≤ y + gap 4 y
round_4 x y le = omega arith

round_8 : (x y : ℕ) → x ≤ y → x + gap 8 x ≤ y + gap 8 y
round_8 x y le = omega arith

round : (u x y : ℕ) → (u ≡ 4) ⊎ (u ≡ 8) → x ≤ y → x + gap u x ≤ y + gap u y
round u x y is le =
    elim is [
      | inl e ↦ subst (λ (k : ℕ). x + gap k x ≤ y + gap k y) (sym e) (round_4 x y le)
      | inr e ↦ subst (λ (k : ℕ). x + gap k x ≤ y + gap k y) (sym e) (round_8 x y le)
    ]

fewer : (h : Header) (w n : ℕ) → record_octets h n 0 ≤ record_octets h w n
unfolding record_octets
fewer h w n = round (unit_octets h) (body_octets h n 0) (body_octets h w n) (unit_is (field_octets h == 8)) (omega arith)

record_short : (s : Slave) (h : Header) (r : Record) (octets : List ℕ) (answers : List Answer) (errors : ℕ) → FitsRecord h r → Fills octets (record_form h r) → length (record_reply s h r answers errors) ≤ length octets
record_short s h r octets answers errors fits fills =
    let words : List ℕ = upto r.head.reads (read_word s h r answers errors) in
    let long : length words ≡ length r.addresses = length-upto r.head.reads (read_word s h r answers errors) ∙ sym fits.reads in
    let reply : length (zeroed (record_form h (answering r words))) ≡ record_octets h (length r.addresses) 0 =
    length-zeroed (record_form h (answering r words)) ∙ length-record_form h (answering r words) ∙ ap (λ (n : ℕ). record_octets h n 0) long in
    let request : length octets ≡ record_octets h (length r.values) (length r.addresses) = length-Fills octets (record_form h r) fills ∙ length-record_form h r in
    at_most (r.head.reads == 0) (zeroed (record_form h (answering r words))) (length octets) (omega (arith, reply, request, fewer h (length r.values) (length r.addresses)))

pub is_short : IsShort
is_short s sets None (Probed p) octets answers errors sp =
    let request = length-Fills octets (probe_form p) sp.form.1 in
    let fixed = length-fixed (octets_of W32 p.id) in
    let reply = length-octets_of W32 p.id in
    omega (arith, request, fixed, reply)
is_short s sets None (Headed h) octets answers errors sp =
    let request = length-Fills octets (header_form h) sp.form in
    let fixed = length-padding (unit_octets h - 4) in
    let zeros : length (replicate {A = ℕ} (unit_octets h - 4) 0) ≡ unit_octets h - 4 = length-replicate {A = ℕ} (unit_octets h - 4) 0 in
    at_most h.no_reply _ (length octets) (omega (arith, request, fixed, zeros))
is_short s sets None (Recorded r) octets answers errors sp = elim sp.form [ ]
is_short s sets (Some h) (Probed p) octets answers errors sp = elim sp.form [ ]
is_short s sets (Some h) (Headed g) octets answers errors sp = elim sp.form [ ]
is_short s sets (Some h) (Recorded r) octets answers errors sp = record_short s h r octets answers (register errors answers) sp.form.0 sp.form.1

by_item : (m : ℕ) (old new : SessionState) (piece : List ℕ) (before after : MasterCycles) (taken : ℕ) (is : Bool) → FedItem m old piece new before after taken is
    → length new.reply + length new.progress.pending ≤ length old.progress.pending + taken
by_item m old new piece before after taken true (le, x, answers, ran) =
    let octets : List ℕ = old.progress.pending ++ take taken piece in
    let short : length new.reply ≤ length octets =
    subst (λ (l : List ℕ). length l ≤ length octets) (sym ran.reply) (is_short old.slave old.progress.sets old.progress.header x octets answers old.errors ran.spelled) in
    let none : length new.progress.pending ≡ 0 = ap (λ (p : DecoderState). length p.pending) ran.progress in
    omega (arith, short, le, none, length-append old.progress.pending (take taken piece), length-take taken piece)
by_item m old new piece before after taken false (all, w) =
    let e = ap (λ (k : SessionState). length k.reply) w.kept in
    let pends = ap (λ (k : SessionState). length k.progress.pending) w.kept in
    omega (arith, e, pends, all, length-append old.progress.pending piece)

abbrev answer_ok : Fed → Result Fed End
answer_ok fed = Ok fed

fed_by : (m : ℕ) (old new : SessionState) (piece : List ℕ) (before after : MasterCycles) (fed : Fed) (q : Option End) → MatchOption q (Answers m old piece new before after (Ok fed)) (λ e. (answer_ok fed ≡ Err e) × Stays old new before after)
    → length new.reply + length new.progress.pending ≤ length old.progress.pending + fed.taken
fed_by m old new piece before after fed None a = by_item m old new piece before after fed.taken fed.item a
fed_by m old new piece before after fed (Some e) a = let f = a.0 in absurd (cc f)

-- the reply to what a call took, and what pends after it
pub fed_short : (m : ℕ) (old new : SessionState) (piece : List ℕ) (before after : MasterCycles) (fed : Fed) → FeedsSession m old piece new before after (Ok fed)
    → length new.reply + length new.progress.pending ≤ length old.progress.pending + fed.taken
fed_short m old new piece before after fed f = fed_by m old new piece before after fed old.ending f

-- What one call of feed does, by the item that the decoder gave.
use Rattle.std.proofs.Common.{◌≡◌, ◌↔◌, ℕ, ◌+◌, ◌≤◌, Bool, true, false, List, [], ◌∷◌, ◌++◌, length, take, drop, Option, Some, None, Result, Ok, Err, refl, sym, ap, ◌∙◌, subst, arith}
use Rattle.std.specs.Prelude.{MatchOption, IfSome, IsSome}
use Rattle.std.proofs.lemmas.List.{append-nil, append_assoc, take-append-drop, take_all}
use Rattle.eb_base.specs.declared.width.Width.{Width}
use Rattle.eb_base.specs.declared.width.Widths.{Widths}
use Rattle.eb_base.specs.Width.{octets}
use Rattle.eb_codec.specs.declared.item.Header.{Header}
use Rattle.eb_codec.specs.declared.item.Probe.{Probe}
use Rattle.eb_codec.specs.declared.item.Record.{Record}
use Rattle.eb_codec.specs.declared.item.Why.{Why}
use Rattle.eb_codec.specs.declared.event.Malformed.{Malformed}
use Rattle.eb_codec.specs.declared.event.Step.{Step}
use Rattle.eb_codec.specs.declared.event.Item.{Item}
use Rattle.eb_codec.specs.declared.event.Item.TheVariants as item
use Rattle.eb_codec.specs.Decoding.{DecoderState, Takes, Gives, Refuses, record_in}
use Rattle.eb_codec.specs.Decoding.{Feeds as Decodes}
use Rattle.eb_codec.specs.Stream.{Probed, Headed, Recorded, Spells, IsPartial, IsBadOctet}
use Rattle.eb_codec.proofs.AgainLemmas.{one_bad_octet}
use Rattle.eb_codec.proofs.EndingLemmas.{bad_whole}
use Rattle.wb_signals.specs.Request.{Request}
use Rattle.wb_signals.specs.Cycles.{MasterCycles, Asks, paired, pairs_added, cycle_ended}
use Rattle.wb_signals.specs.declared.answer.Answer.{Answer}
use Rattle.eb_session.specs.declared.session.End.{End}
use Rattle.eb_session.specs.declared.session.End.TheVariants as end
use Rattle.eb_session.specs.declared.session.Fed.{Fed}
use Rattle.eb_session.specs.Configuration.{register}
use Rattle.eb_session.specs.Operations.{record_ops, ends_cycle}
use Rattle.eb_session.specs.Cycles.{item_ops, item_ends}
use Rattle.eb_session.specs.Replies.{sets_of, item_reply, record_reply}
use Rattle.eb_session.specs.Keeping.{SessionState, Waits, FedItem, HasAsking, Answers, FeedsSession, Stays, MalformedExactly, WasGiven, ItemRan, ItemUnrun, RecordRan, is_item}
use Rattle.eb_session.proofs.WidthLemmas.{narrow}

if_none : {A : Type 0} (P : Type 0) (Q : A → Type 0) (o : Option A) → o ≡ None → P → MatchOption o P Q
if_none P Q o e p = subst (λ q. MatchOption q P Q) (sym e) p

pub from_view : (m : ℕ) (k v new : SessionState) (piece : List ℕ) (before after : MasterCycles) (answer : Result Fed End) → k ≡ v → k.ending ≡ None → Answers m k piece new before after answer
    → FeedsSession m v piece new before after answer
from_view m k v new piece before after answer e n p =
    if_none (Answers m v piece new before after answer) _ v.ending (ap (λ (x : SessionState). x.ending) (sym e) ∙ n) (subst (λ (x : SessionState). Answers m x piece new before after answer) e p)

-- ---- the decoder's step

-- an item came only where no fault came before
takes_by : (old new : DecoderState) (piece : List ℕ) (step : Step) (f : Option Malformed) → old.fault ≡ f → Decodes old piece (Ok step) new → Takes old piece step new
takes_by old new piece step None e d = subst (λ (q : Option Malformed). MatchOption q (Takes old piece step new) (λ fault. (Ok step ≡ Err fault) × (new ≡ old))) e d
takes_by old new piece step (Some f) e d = let q = subst (λ (q : Option Malformed). MatchOption q (Takes old piece step new) (λ fault. (Ok step ≡ Err fault) × (new ≡ old))) e d in cc q.0

pub takes : (old new : DecoderState) (piece : List ℕ) (step : Step) → Decodes old piece (Ok step) new → Takes old piece step new
takes old new piece step d = takes_by old new piece step old.fault refl d

pub gives_sets : (old new : DecoderState) (o : List ℕ) (i : Item) → Gives old o i new → new.sets ≡ old.sets
gives_sets old new o item.NotYet g = ap (λ (p : DecoderState). p.sets) g.1
gives_sets old new o (item.Probe q) g = ap (λ (p : DecoderState). p.sets) g.1
gives_sets old new o (item.Header h) g = ap (λ (p : DecoderState). p.sets) g.1
gives_sets old new o (item.Record d) g = ap (λ (p : DecoderState). p.sets) g.3

pub gives_fault : (old new : DecoderState) (o : List ℕ) (i : Item) → Gives old o i new → new.fault ≡ old.fault
gives_fault old new o item.NotYet g = ap (λ (p : DecoderState). p.fault) g.1
gives_fault old new o (item.Probe q) g = ap (λ (p : DecoderState). p.fault) g.1
gives_fault old new o (item.Header h) g = ap (λ (p : DecoderState). p.fault) g.1
gives_fault old new o (item.Record d) g = ap (λ (p : DecoderState). p.fault) g.3

abbrev IsNarrow : Width → Option Header → Type 0
IsNarrow bus header = IfSome header (λ h. octets h.port ≤ octets bus)

-- the port of the stream's header is no wider than the bus
pub gives_narrow : (bus : Width) (old new : DecoderState) (o : List ℕ) (i : Item) → old.sets ≡ sets_of bus → IsNarrow bus old.header → Gives old o i new → IsNarrow bus new.header
gives_narrow bus old new o item.NotYet e n g = subst (IsNarrow bus) (sym (ap (λ (p : DecoderState). p.header) g.1)) n
gives_narrow bus old new o (item.Probe q) e n g = subst (IsNarrow bus) (sym (ap (λ (p : DecoderState). p.header) g.1)) n
gives_narrow bus old new o (item.Header h) e n g = subst (IsNarrow bus) (sym (ap (λ (p : DecoderState). p.header) g.1)) (narrow bus old.sets old.header h o e g.0)
gives_narrow bus old new o (item.Record d) e n g = subst (IsNarrow bus) (sym (ap (λ (p : DecoderState). p.header) g.3)) n

probe_fits : (old : DecoderState) (header : Option Header) (q : Probe) (o : List ℕ) → Spells old.sets header (Probed q) o → WasGiven (item.Probe q) old
probe_fits old None q o s = s.form.0
probe_fits old (Some h) q o s = elim s.form [ ]

pub gives_told : (old new : DecoderState) (o : List ℕ) (i : Item) → Gives old o i new → WasGiven i new
gives_told old new o item.NotYet g = tt
gives_told old new o (item.Probe q) g = probe_fits old old.header q o g.0
gives_told old new o (item.Header h) g = tt
gives_told old new o (item.Record d) g = subst (λ (r : Option Record). IsSome r) (sym (ap (λ (p : DecoderState). p.shown) g.3)) refl

-- ---- an item ran

-- the record that the decoder shows ran
pub record_ran : (m : ℕ) (k v : SessionState) (h : Header) (r : Record) (before after : MasterCycles) (ops : List Request) (answers : List Answer) (errors : ℕ) (reply : List ℕ) (last : Bool) → k ≡ v
    → k.progress.header ≡ Some h → k.progress.shown ≡ Some r → ops ≡ record_ops k.slave.bus h r → length answers ≡ length ops → last ≡ ends_cycle r → after ≡ pairs_added m before (paired ops answers) last
    → errors ≡ register k.errors answers → reply ≡ record_reply k.slave h r answers (register k.errors answers)
    → (x : List Answer) × RecordRan m v (record k { errors = errors; reply = reply }) before after (record_in v.progress.shown) x
record_ran m k v h r before after ops answers errors reply last view header shown ops_are long ends added er re =
    let q : record_in k.progress.shown ≡ r = ap record_in shown in
    let are : item_ops k.slave.bus k.progress.header (Recorded (record_in k.progress.shown)) ≡ ops = (λ i. item_ops k.slave.bus (header i) (Recorded (q i))) ∙ sym ops_are in
    let is : item_reply k.slave k.progress.header (Recorded (record_in k.progress.shown)) answers k.errors ≡ reply = (λ i. item_reply k.slave (header i) (Recorded (q i)) answers k.errors) ∙ sym re in
    subst (λ (w : SessionState). (x : List Answer) × RecordRan m w (record k { errors = errors; reply = reply }) before after (record_in w.progress.shown) x) view (
      answers,
      record {
        answered = long ∙ ap length (sym are);
        added = added ∙ (λ i. pairs_added m before (paired (sym are i) answers) ((ends ∙ ap ends_cycle (sym q)) i));
        session = λ i. record k { errors = er i; reply = sym is i };
      },
    )

none_added : (m : ℕ) (c : MasterCycles) → c ≡ pairs_added m c [] false
none_added m c = λ i. record { made = c.made; opened = sym (append-nil c.opened) i }

module _ (m : ℕ) (k : SessionState) (piece : List ℕ) (new : DecoderState) (reply : List ℕ) (empty : reply ≡ []) (s : SessionState) (before after : MasterCycles) where
  abbrev mid : SessionState
  mid = record k { progress = new; reply = reply }

  given_by : (taken : ℕ) (i : Item) → Takes k.progress piece (record { taken = taken; item = i }) new → ItemRan m mid s before after i → FedItem m k piece s before after taken (is_item i)
  given_by taken item.NotYet t r =
      let all : take taken piece ≡ piece = take_all taken piece (omega (arith, t.taken)) in
      let e : k.progress.pending ++ take taken piece ≡ k.progress.pending ++ piece = ap (λ (l : List ℕ). k.progress.pending ++ l) all in (
        t.taken,
        subst (λ (l : List ℕ). Waits k s l before after) e (record { pends = t.gives.0; kept = r.0 ∙ (λ i. record k { progress = t.gives.1 i; reply = empty i }); same = r.1 }),
      )
  given_by taken (item.Probe q) t r = (
    t.taken,
    Probed q,
    [],
    record {
      spelled = t.gives.0;
      progress = ap (λ (x : SessionState). x.progress) r.0 ∙ t.gives.1;
      answered = refl;
      added = r.1 ∙ none_added m before;
      errors = ap (λ (x : SessionState). x.errors) r.0;
      reply = ap (λ (x : SessionState). x.reply) r.0;
      others = (ap (λ (x : SessionState). x.slave) r.0, ap (λ (x : SessionState). x.ending) r.0);
    },
  )
  given_by taken (item.Header h) t r = (
    t.taken,
    Headed h,
    [],
    record {
      spelled = t.gives.0;
      progress = ap (λ (x : SessionState). x.progress) r.0 ∙ t.gives.1;
      answered = refl;
      added = r.1 ∙ none_added m before;
      errors = ap (λ (x : SessionState). x.errors) r.0;
      reply = ap (λ (x : SessionState). x.reply) r.0;
      others = (ap (λ (x : SessionState). x.slave) r.0, ap (λ (x : SessionState). x.ending) r.0);
    },
  )
  given_by taken (item.Record d) t (answers, r) =
      let x : Record = t.gives.0 in
      let header : new.header ≡ k.progress.header = ap (λ (p : DecoderState). p.header) t.gives.3 in
      let shown : record_in new.shown ≡ x = ap (λ (p : DecoderState). record_in p.shown) t.gives.3 in
      let ops : item_ops k.slave.bus new.header (Recorded (record_in new.shown)) ≡ item_ops k.slave.bus k.progress.header (Recorded x) =
      λ i. item_ops k.slave.bus (header i) (Recorded (shown i)) in (
        t.taken,
        Recorded x,
        answers,
        record {
          spelled = t.gives.2;
          progress = ap (λ (q : SessionState). q.progress) r.session ∙ t.gives.3;
          answered = r.answered ∙ ap length ops;
          added = r.added ∙ (λ i. pairs_added m before (paired (ops i) answers) (item_ends (Recorded (shown i))));
          errors = ap (λ (q : SessionState). q.errors) r.session;
          reply = ap (λ (q : SessionState). q.reply) r.session ∙ (λ i. item_reply k.slave (header i) (Recorded (shown i)) answers k.errors);
          others = (ap (λ (q : SessionState). q.slave) r.session, ap (λ (q : SessionState). q.ending) r.session);
        },
      )

  pub item_ran : (step : Step) → Takes k.progress piece step new → ItemRan m mid s before after step.item → Answers m k piece s before after (Ok (record { taken = step.taken; item = is_item step.item }))
  item_ran step t r = given_by step.taken step.item t r

  unrun_by : (taken : ℕ) (i : Item) → Takes k.progress piece (record { taken = taken; item = i }) new → ItemUnrun mid s before after i
      → HasAsking k (k.progress.pending ++ piece) before × (s ≡ mid) × (after ≡ before)
  unrun_by taken item.NotYet t r = elim r [ ]
  unrun_by taken (item.Probe q) t r = elim r [ ]
  unrun_by taken (item.Header h) t r = elim r [ ]
  unrun_by taken (item.Record d) t r =
      let x : Record = t.gives.0 in
      let p : List ℕ = k.progress.pending in
      let whole : p ++ piece ≡ (p ++ take taken piece) ++ drop taken piece = ap (λ (l : List ℕ). p ++ l) (sym (take-append-drop taken piece)) ∙ sym (append_assoc p (take taken piece) (drop taken piece)) in
      let header : new.header ≡ k.progress.header = ap (λ (q : DecoderState). q.header) t.gives.3 in
      let shown : record_in new.shown ≡ x = ap (λ (q : DecoderState). record_in q.shown) t.gives.3 in
      let asks : Asks before.opened (item_ops k.slave.bus k.progress.header (Recorded x)) (item_ends (Recorded x)) =
      subst (λ (q : Option Header). Asks before.opened (item_ops k.slave.bus q (Recorded x)) (item_ends (Recorded x))) header
      (subst (λ (y : Record). Asks before.opened (item_ops k.slave.bus new.header (Recorded y)) (item_ends (Recorded y))) shown r.asked) in
      ((x, p ++ take taken piece, drop taken piece, whole, t.gives.2, asks), r.kept, r.same)

  -- the master had no memory, and its open cycle was cut
  pub item_unrun : (step : Step) (n : ℕ) (last : MasterCycles) → Takes k.progress piece step new → ItemUnrun mid s before after step.item → n ≡ m → last ≡ cycle_ended n true after
      → Answers m k piece (record s { ending = Some end.NoMemory }) before last (Err end.NoMemory)
  item_unrun step n last t r same cut =
      let u = unrun_by step.taken step.item t r in (
        u.0,
        record {
          ending = refl;
          kept = (ap (λ (q : SessionState). q.slave) u.1, ap (λ (q : SessionState). q.errors) u.1, ap (λ (q : SessionState). q.reply) u.1 ∙ empty);
          cut = cut ∙ (λ i. cycle_ended (same i) true (u.2 i));
        },
      )

-- ---- the decoder refused

abbrev codec_err : Malformed → Result Step Malformed
codec_err f = Err f

pub refuses : (old new : DecoderState) (piece : List ℕ) (f : Malformed) → old.fault ≡ None → Decodes old piece (Err f) new → Refuses old piece f new
refuses old new piece f e d = subst (λ (q : Option Malformed). MatchOption q (Refuses old piece f new) (λ fault. (codec_err f ≡ Err fault) × (new ≡ old))) e d

pub refused : (m : ℕ) (k : SessionState) (piece reply : List ℕ) (f : Malformed) (new : DecoderState) (before after : MasterCycles) → Refuses k.progress piece f new → reply ≡ [] → after ≡ cycle_ended m true before
    → Answers m k piece (record k { progress = new; reply = reply; ending = Some (end.Malformed f.place f.why) }) before after (Err (end.Malformed f.place f.why))
refused m k piece reply f new before after r e cut = ((new, r), record { ending = refl; kept = (refl, refl, e); cut = cut })

-- ---- malformed exactly where an octet is bad

abbrev answer_ok : Fed → Result Fed End
answer_ok fed = Ok fed

abbrev answer_err : End → Result Fed End
answer_err e = Err e

-- octets of which less than an item pends hold no bad one
bad_part : (sets : Widths) (header : Option Header) (o : List ℕ) (p : ℕ) (why : Why) → IsBadOctet sets header o p why → IsPartial sets header o → ⊥
bad_part sets header o p why bad q =
    let more : List ℕ = q.1 ∷ q.2 in
    let same : o ++ more ≡ take (p + 1) o ++ (drop (p + 1) o ++ more) = ap (λ (l : List ℕ). l ++ more) (sym (take-append-drop (p + 1) o)) ∙ append_assoc (take (p + 1) o) (drop (p + 1) o) more in
    bad.ends q.0 (drop (p + 1) o ++ more) (subst (Spells sets header q.0) same q.3)

fed_not_bad : (m : ℕ) (old new : SessionState) (piece : List ℕ) (before after : MasterCycles) (taken : ℕ) (is : Bool) (p : ℕ) (why : Why) → FedItem m old piece new before after taken is
    → IsBadOctet old.progress.sets old.progress.header (old.progress.pending ++ piece) p why → ⊥
fed_not_bad m old new piece before after taken true p why (le, x, answers, ran) bad =
    let o : List ℕ = old.progress.pending in
    let whole : o ++ piece ≡ (o ++ take taken piece) ++ drop taken piece = ap (λ (l : List ℕ). o ++ l) (sym (take-append-drop taken piece)) ∙ sym (append_assoc o (take taken piece) (drop taken piece)) in
    bad_whole old.progress.sets old.progress.header x (o ++ piece) (o ++ take taken piece) (drop taken piece) p why bad ran.spelled whole
fed_not_bad m old new piece before after taken false p why (all, w) bad = bad_part old.progress.sets old.progress.header (old.progress.pending ++ piece) p why bad w.pends

malformed_by : (m : ℕ) (old new : SessionState) (piece : List ℕ) (before after : MasterCycles) (answer : Result Fed End) (p : ℕ) (why : Why) → Answers m old piece new before after answer
    → (answer ≡ Err (end.Malformed (old.progress.start + p) why)) ↔ IsBadOctet old.progress.sets old.progress.header (old.progress.pending ++ piece) p why
malformed_by m old new piece before after (Ok fed) p why a = (λ e. absurd (cc e), λ bad. absurd (fed_not_bad m old new piece before after fed.taken fed.item p why a bad))
malformed_by m old new piece before after (Err end.Clean) p why a = elim a.0 [ ]
malformed_by m old new piece before after (Err (end.Truncated n)) p why a = elim a.0 [ ]
malformed_by m old new piece before after (Err end.NoMemory) p why a =
    (λ e. absurd (cc e), λ bad. absurd (bad_whole old.progress.sets old.progress.header (Recorded a.0.0) (old.progress.pending ++ piece) a.0.1 a.0.2 p why bad a.0.4 a.0.3))
malformed_by m old new piece before after (Err (end.Malformed at rule)) p why a =
    let o : List ℕ = old.progress.pending ++ piece in
    let r = a.0.1 in (
      λ e.
          let place : at ≡ old.progress.start + p = cc e in
          let same : rule ≡ why = cc e in
          let here : r.at.0 ≡ p = omega (arith, r.at.1, place) in
          subst (λ (w : Why). IsBadOctet old.progress.sets old.progress.header o p w) same (subst (λ (n : ℕ). IsBadOctet old.progress.sets old.progress.header o n rule) here r.at.2),
      λ bad.
          let one = one_bad_octet old.progress.sets old.progress.header o r.at.0 p rule why r.at.2 bad in
          let place : at ≡ old.progress.start + p = r.at.1 ∙ ap (λ (n : ℕ). old.progress.start + n) one.0 in
          λ i. answer_err (end.Malformed (place i) (one.1 i)),
    )

pub malformed_exactly : (m : ℕ) (old new : SessionState) (piece : List ℕ) (before after : MasterCycles) (answer : Result Fed End) → FeedsSession m old piece new before after answer → MalformedExactly old piece answer
malformed_exactly m old new piece before after answer f p why none =
    malformed_by m old new piece before after answer p why
    (subst (λ (q : Option End). MatchOption q (Answers m old piece new before after answer) (λ e. (answer ≡ Err e) × Stays old new before after)) none f)

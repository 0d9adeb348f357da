-- What a short record asks, and what it is answered.
use Rattle.std.proofs.Common.{◌≡◌, ℕ, ◌+◌, ◌*◌, ◌%◌, ◌^◌, Bool, false, if◌then◌else◌, List, [], ◌∷◌, ◌++◌, length, Some, Result, Ok, Err, refl, sym, ap, subst, ◌∙◌, arith, slice_get, slice_index_or}
use Rattle.std.proofs.lemmas.List.{append-nil}
use Rattle.std.specs.List.{flat_map}
use Rattle.std.specs.Prelude.{OnErr}
use Rattle.eb_base.specs.declared.width.Width.{Width}
use Rattle.eb_base.specs.declared.width.Width.TheVariants.{W32}
use Rattle.eb_base.specs.Field.{octets_of}
use Rattle.eb_codec.specs.declared.flags.TheConstants.{WCA, RCA}
use Rattle.eb_codec.specs.declared.item.Record.{Record}
use Rattle.eb_codec.specs.declared.short.ShortRecord.{ShortRecord}
use Rattle.eb_codec.specs.Rules.{has}
use Rattle.eb_codec.specs.Form.{zeroed, field}
use Rattle.eb_codec.specs.Short.{IsShortFlags, short_header, short_record}
use Rattle.eb_codec.proofs.ShortLemmas.{by_flags}
use Rattle.eb_codec.proofs.ZeroedLemmas.{zeroed-field}
use Rattle.wb_signals.specs.Request.{Request}
use Rattle.wb_signals.specs.Cycles.{MasterCycles, paired, pairs_added}
use Rattle.wb_signals.specs.declared.answer.Answer.{Answer}
use Rattle.wb_signals.specs.declared.answer.Answer.TheVariants as answer
use Rattle.eb_session.specs.declared.slave.Slave.{Slave}
use Rattle.eb_session.specs.Operations.{upto, write_at, read_at, bus_writes, bus_reads, record_ops, answered_to, ends_cycle}
use Rattle.eb_session.specs.Configuration.{register, failed, config_word}
use Rattle.eb_session.specs.Replies.{answer_word, read_word, record_reply, reply_flags}
use Rattle.eb_session.specs.Short.{short_reply}
use Rattle.eb_session.specs.Keeping.{SessionState, RecordRan, Unrun}
use Rattle.eb_session.specs.Cycles.{item_ops}
use Rattle.eb_codec.specs.Decoding.{record_in}
use Rattle.eb_codec.specs.Stream.{Recorded}
use Rattle.eb_session.proofs.FeedLemmas.{record_ran}
use Rattle.eb_session.proofs.ReplyLemmas.{words_reply}

no_write_config : (f : ℕ) → IsShortFlags f → has f WCA ≡ false
no_write_config f s = by_flags (λ (n : ℕ). has n WCA ≡ false) f s refl refl refl refl

no_read_config : (f : ℕ) → IsShortFlags f → has f RCA ≡ false
no_read_config f s = by_flags (λ (n : ℕ). has n RCA ≡ false) f s refl refl refl refl

-- its operations
ops_of : (bus : Width) (s : ShortRecord) → bus ≡ W32 → IsShortFlags s.flags → write_at W32 short_header (short_record s) 0 ∷ read_at W32 short_header (short_record s) 0 ∷ [] ≡ record_ops bus short_header (short_record s)
ops_of bus s is f =
    let r : Record = short_record s in
    let w : record_ops W32 short_header r ≡ write_at W32 short_header r 0 ∷ upto (bus_reads r) (read_at W32 short_header r) = ap (λ (b : Bool). upto (if b then 0 else 1) (write_at W32 short_header r) ++ upto (bus_reads r) (read_at W32 short_header r)) (no_write_config s.flags f) in
    let q : write_at W32 short_header r 0 ∷ upto (bus_reads r) (read_at W32 short_header r) ≡ write_at W32 short_header r 0 ∷ read_at W32 short_header r 0 ∷ [] = ap (λ (b : Bool). write_at W32 short_header r 0 ∷ upto (if b then 0 else 1) (read_at W32 short_header r)) (no_read_config s.flags f) in
    sym (ap (λ (b : Width). record_ops b short_header r) is ∙ w ∙ q)

-- its two answers
pub two_answers : (l : List Answer) (a b : Answer) → length l ≡ 2 → slice_get l 0 ≡ Some a → slice_get l 1 ≡ Some b → l ≡ a ∷ b ∷ []
two_answers (x ∷ y ∷ []) a b len p q = let e : x ≡ a = cc p in let f : y ≡ b = cc q in λ i. e i ∷ f i ∷ []
two_answers [] a b len p q = absurd (omega (arith, len))
two_answers (x ∷ []) a b len p q = absurd (omega (arith, len))
two_answers (x ∷ y ∷ z ∷ l) a b len p q = absurd (omega (arith, len))

-- the word that it read
word_is : (slave : Slave) (s : ShortRecord) (a b : Answer) (e : ℕ) → slave.bus ≡ W32 → IsShortFlags s.flags → answer_word W32 W32 s.address 15 b ≡ read_word slave short_header (short_record s) (a ∷ b ∷ []) e 0
word_is slave s a b e is f =
    let none : read_word slave short_header (short_record s) (a ∷ b ∷ []) e 0 ≡ answer_word W32 slave.bus s.address 15 (slice_index_or (a ∷ b ∷ []) (bus_writes (short_record s) + 0) answer.Err) =
    ap (λ (x : Bool). if x then config_word W32 slave.root e s.address 15 else answer_word W32 slave.bus s.address 15 (slice_index_or (a ∷ b ∷ []) (bus_writes (short_record s) + 0) answer.Err)) (no_read_config s.flags f) in
    sym (none ∙ ap (λ (x : Bool). answer_word W32 slave.bus s.address 15 (slice_index_or (a ∷ b ∷ []) ((if x then 0 else 1) + 0) answer.Err)) (no_write_config s.flags f) ∙ ap (λ (w : Width). answer_word W32 w s.address 15 b) is)

-- the reply to it
pub reply_is : (slave : Slave) (s : ShortRecord) (a b : Answer) (e : ℕ) → slave.bus ≡ W32 → IsShortFlags s.flags → short_reply s b ≡ record_reply slave short_header (short_record s) (a ∷ b ∷ []) e
reply_is slave s a b e is f =
    let r : Record = short_record s in
    let top : List ℕ = reply_flags s.flags ∷ 15 ∷ 1 ∷ 0 ∷ [] in
    let word : ℕ = answer_word W32 W32 s.address 15 b in
    let base : octets_of W32 s.return_base ≡ zeroed (field short_header W32 s.return_base) = sym (zeroed-field short_header W32 s.return_base) in
    let one : octets_of W32 word ≡ zeroed (flat_map (field short_header W32) (upto 1 (read_word slave short_header r (a ∷ b ∷ []) e))) =
    sym (zeroed-field short_header W32 word) ∙ ap zeroed (sym (append-nil (field short_header W32 word))) ∙ ap (λ (n : ℕ). zeroed (flat_map (field short_header W32) (n ∷ []))) (word_is slave s a b e is f) in
    words_reply slave short_header r r.head (a ∷ b ∷ []) e [] top top (top ++ octets_of W32 s.return_base) (short_reply s b) (short_reply s b) (reply_flags s.flags) 4 0 refl (omega arith) refl refl refl
    refl refl (ap (λ (l : List ℕ). top ++ l) base) (ap (λ (l : List ℕ). (top ++ octets_of W32 s.return_base) ++ l) one) (sym (append-nil (short_reply s b)))

module _ (v : SessionState) (s : ShortRecord) (bus : v.slave.bus ≡ W32) (header : v.progress.header ≡ Some short_header) (shown : v.progress.shown ≡ Some (short_record s)) (flags : IsShortFlags s.flags) (ops : List Request)
    (is : ops ≡ write_at W32 short_header (short_record s) 0 ∷ read_at W32 short_header (short_record s) 0 ∷ []) where
  ops_are : ops ≡ record_ops v.slave.bus short_header (short_record s)
  ops_are = is ∙ ops_of v.slave.bus s bus flags

  -- it ran
  pub short_ran : (m : ℕ) (k : SessionState) (before after : MasterCycles) (told : List Answer) (a b : Answer) (first errors : ℕ) (reply : List ℕ) (last : Bool) → k ≡ v → length (answered_to ops told) ≡ length ops
      → after ≡ pairs_added m before (paired ops (answered_to ops told)) last → last ≡ ends_cycle (short_record s) → slice_get told 0 ≡ Some a → slice_get told 1 ≡ Some b
      → first ≡ (2 * k.errors + failed a) % 2 ^ 64 → errors ≡ (2 * first + failed b) % 2 ^ 64 → reply ≡ short_reply s b
      → (x : List Answer) × RecordRan m v (record k { errors = errors; reply = reply }) before after (record_in v.progress.shown) x
  short_ran m k before after told a b first errors reply last view long added ends p q f e re =
      let answers : List Answer = answered_to ops told in
      let count : length told ≡ 2 = subst (λ (l : List Request). length (answered_to l told) ≡ length l) is long in
      let two : answers ≡ a ∷ b ∷ [] = ap (λ (l : List Request). answered_to l told) is ∙ two_answers told a b count p q in
      let bus-is : k.slave.bus ≡ W32 = ap (λ (x : SessionState). x.slave.bus) view ∙ bus in
      let head : k.progress.header ≡ Some short_header = ap (λ (x : SessionState). x.progress.header) view ∙ header in
      let item : k.progress.shown ≡ Some (short_record s) = ap (λ (x : SessionState). x.progress.shown) view ∙ shown in
      let ops-are : ops ≡ record_ops k.slave.bus short_header (short_record s) = is ∙ ops_of k.slave.bus s bus-is flags in
      let new : errors ≡ register k.errors answers = e ∙ ap (λ (n : ℕ). (2 * n + failed b) % 2 ^ 64) f ∙ ap (register k.errors) (sym two) in
      let reply-is : reply ≡ record_reply k.slave short_header (short_record s) answers (register k.errors answers) =
      re ∙ reply_is k.slave s a b (register k.errors answers) bus-is flags ∙ ap (λ (l : List Answer). record_reply k.slave short_header (short_record s) l (register k.errors answers)) (sym two) in
      record_ran m k v short_header (short_record s) before after ops answers errors reply last view head item ops-are long ends added new reply-is

  -- it asked the master, which had no memory
  pub short_unrun : (before after : MasterCycles) → after ≡ before → Unrun v v before after
  short_unrun before after same =
      let are : item_ops v.slave.bus v.progress.header (Recorded (record_in v.progress.shown)) ≡ ops =
      (λ i. item_ops v.slave.bus (header i) (Recorded (record_in (shown i)))) ∙ sym ops_are in
      record { kept = refl; same = same; asked = λ none. let e : write_at W32 short_header (short_record s) 0 ∷ read_at W32 short_header (short_record s) 0 ∷ [] ≡ [] = sym is ∙ sym are ∙ none in absurd (cc e) }

pub on_err : {A E : Type 0} (P : Type 0) (x : Result A E) → P → OnErr x P
on_err P (Ok a) p = tt
on_err P (Err e) p = p

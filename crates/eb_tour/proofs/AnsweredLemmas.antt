-- What a host heard are the answers that the bus gave.
use Rattle.std.proofs.Common.{◌≡◌, ℕ, ◌+◌, ◌*◌, ◌%◌, ◌<◌, ◌^◌, false, List, [], ◌∷◌, ◌++◌, length, map, Some, Ok, refl, sym, ap, ◌∙◌, subst, arith, append-nil, append_assoc}
use Rattle.std.proofs.lemmas.List.Elements.{All-nil, All-cons}
use Rattle.eb_base.specs.declared.width.Width.{Width}
use Rattle.eb_base.specs.declared.width.Width.TheVariants.{W8, W16, W32, W64}
use Rattle.eb_codec.specs.declared.item.Header.{Header}
use Rattle.eb_codec.specs.Form.{Form, Fills}
use Rattle.eb_codec.specs.Stream.{Recorded}
use Rattle.eb_codec.proofs.FormLemmas.{length-Fills}
use Rattle.wb_signals.specs.Request.{Request}
use Rattle.wb_signals.specs.Content.{Content}
use Rattle.wb_signals.specs.Wiring.{Wiring, step}
use Rattle.wb_signals.specs.History.{Pair, Entry, Group, marked, requests_of, answers_of, given, cycle, contents_after, IsLegal}
use Rattle.wb_signals.specs.declared.answer.Answer.{Answer}
use Rattle.wb_signals.specs.declared.answer.Answer.TheVariants as answer
use Rattle.eb_session.specs.declared.slave.Slave.{Slave}
use Rattle.eb_session.specs.Cycles.{Cycles, cycles_from, cycles_in}
use Rattle.eb_session.specs.Configuration.{failed}
use Rattle.eb_session.specs.Replies.{probe_reply, header_reply, item_reply, replies_from, replies}
use Rattle.sdb_walk.specs.declared.reader.Exchange.{Exchange}
use Rattle.soc_discovery.specs.Law.{read_at, word_read, read_all, addresses}
use Rattle.eb_host.specs.declared.op.HostAnswer.{HostAnswer}
use Rattle.eb_host.specs.declared.op.HostFault.{HostFault}
use Rattle.eb_host.specs.Asks.{FitsOp, asked, closing, expects, cycle_records}
use Rattle.eb_host.specs.Answers.{answered}
use Rattle.eb_host.specs.Host.{header, root_in}
use Rattle.eb_host.specs.Opening.{probe_expects, header_expects}
use Rattle.eb_loopback.specs.Loopback.{host_answer, probe_of_host, cycle_items}
use Rattle.eb_loopback.proofs.AskingLemmas.{asks_meet, root_asks}
use Rattle.eb_loopback.proofs.OpeningLemmas.{probe_meets}
use Rattle.eb_loopback.proofs.ReplyingLemmas.{replies_meet, root_meets}
use Rattle.eb_reader.specs.Reader.{word_in}
use Rattle.eb_tour.proofs.ListLemmas.{parted}
use Rattle.eb_tour.proofs.HeardLemmas.{op_at, alone_at, AreHeard}
use Rattle.eb_tour.proofs.SpelledLemmas.{asked_for, items_of, all_items}

-- the slave whose root table stands there
abbrev pub slave_at : ℕ → Slave
slave_at root = record { bus = W32; root = root }

-- the slave's answer to the header is expected
header_met : (a : Width) → Fills (header_reply (header a W32)) (header_expects (header a W32))
header_met W8 = (refl, (refl, (refl, (refl, tt))))
header_met W16 = (refl, (refl, (refl, (refl, tt))))
header_met W32 = (refl, (refl, (refl, (refl, tt))))
header_met W64 = (refl, (refl, (refl, (refl, tt))))

-- ---- the cycles of the items

abbrev pub groups_of : List (Exchange HostFault) → List Group
groups_of [] = []
groups_of (x ∷ xs) = record { cut = false; ops = read_at x.adr ∷ [] } ∷ groups_of xs

abbrev pub cycles_with : List Group → Cycles
cycles_with whole = record { whole = whole; opened = [] }

module _ (a : Width) where
  words_cycles : (xs : List (Exchange HostFault)) (o : List ℕ) (before : List Group) → AreHeard (header a W32) xs o
      → cycles_from W32 (Some (header a W32)) (cycles_with before) (items_of (header a W32) xs) ≡ cycles_with (before ++ groups_of xs)
  words_cycles [] o before are = ap cycles_with (sym (append-nil before))
  words_cycles (x ∷ xs) o before (mine, rest, is, one, are) =
      let h : Header = header a W32 in
      let here : Group = record { cut = false; ops = read_at x.adr ∷ [] } in
      ap (λ (c : Cycles). cycles_from W32 (Some h) c (items_of h xs)) (asks_meet h W32 before (alone_at x.adr) (All-cons (FitsOp h) (op_at x.adr) [] one.fits (All-nil (FitsOp h))))
      ∙ words_cycles xs rest (before ++ here ∷ []) are
      ∙ ap cycles_with (append_assoc before (here ∷ []) (groups_of xs))

  pub all_cycles : (xs : List (Exchange HostFault)) (o : List ℕ) → AreHeard (header a W32) xs o → cycles_in W32 (all_items (header a W32) xs) ≡ cycles_with (groups_of xs)
  all_cycles xs o are =
      let h : Header = header a W32 in
      ap (λ (c : Cycles). cycles_from W32 (Some h) c (items_of h xs)) (root_asks h W32 []) ∙ words_cycles xs o [] are

  -- ---- the replies to them

  -- the replies to one read
  abbrev own_reply : ℕ → Exchange HostFault → Answer → ℕ → List ℕ
  own_reply root x given errors = replies_from (slave_at root) (Some (header a W32)) errors (cycle_items (header a W32) (alone_at x.adr)) (given ∷ [])

  next_reply : (root : ℕ) (x : Exchange HostFault) (xs : List (Exchange HostFault)) (errors : ℕ) (one : Answer) (given : List Answer)
      → replies_from (slave_at root) (Some (header a W32)) errors (items_of (header a W32) (x ∷ xs)) (one ∷ given)
      ≡ own_reply root x one errors ++ replies_from (slave_at root) (Some (header a W32)) ((2 * errors + failed one) % 2 ^ 64) (items_of (header a W32) xs) given
  next_reply root x xs errors one given =
      let s : Slave = slave_at root in
      let h : Header = header a W32 in
      let first : List ℕ = item_reply s (Some h) (Recorded (asked h (op_at x.adr))) (one ∷ []) errors in
      let e : ℕ = (2 * errors + failed one) % 2 ^ 64 in
      let last : List ℕ = item_reply s (Some h) (Recorded (closing h 0)) [] e in
      let later : List ℕ = replies_from s (Some h) e (items_of h xs) given in
      let whole : first ++ (last ++ later) ≡ (first ++ (last ++ [])) ++ later =
      ap (λ (l : List ℕ). first ++ (l ++ later)) (sym (append-nil last)) ∙ sym (append_assoc first (last ++ []) later) in
      whole

  word_same : (adr : ℕ) (one : Answer) → word_in (Ok (host_answer (header a W32) W32 (op_at adr) one)) ≡ word_read adr one
  word_same adr (answer.Ack dat) = refl
  word_same adr answer.Err = refl
  word_same adr answer.Rty = refl

  -- ---- the words are those that the bus gave

  module _ (root : ℕ) (wiring : Wiring) where
    -- one entry of one read
    one_entry : (e : Entry) (adr : ℕ) (contents : List Content) → marked e ≡ record { cut = false; ops = read_at adr ∷ [] } → e.pairs ≡ cycle wiring contents (requests_of e.pairs)
        → (e.pairs ≡ record { request = read_at adr; answer = (step wiring contents (read_at adr)).answer } ∷ []) × (requests_of e.pairs ≡ read_at adr ∷ [])
    one_entry e adr contents is legal =
        let ops : requests_of e.pairs ≡ read_at adr ∷ [] = ap (λ (q : Group). q.ops) is in
        (legal ∙ ap (cycle wiring contents) ops, ops)

    heard_are : (xs : List (Exchange HostFault)) (entries : List Entry) (contents : List Content) (errors : ℕ) (o unread : List ℕ) → errors < 2 ^ 64 → AreHeard (header a W32) xs o
        → map marked entries ≡ groups_of xs → IsLegal wiring contents entries
        → o ++ unread ≡ replies_from (slave_at root) (Some (header a W32)) errors (items_of (header a W32) xs) (given entries)
        → xs ≡ read_all wiring contents (addresses xs)
    heard_are [] entries contents errors o unread small are same legal e = refl
    heard_are (x ∷ xs) [] contents errors o unread small are same legal e = absurd (cc same)
    heard_are (x ∷ xs) (entry ∷ entries) contents errors o unread small (mine, rest, is, one, are) same legal e =
        let h : Header = header a W32 in
        let s : Slave = slave_at root in
        let adr : ℕ = x.adr in
        let first : marked entry ≡ record { cut = false; ops = read_at adr ∷ [] } = cc same in
        let later : map marked entries ≡ groups_of xs = cc same in
        let gave : Answer = (step wiring contents (read_at adr)).answer in
        let after : List Content = (step wiring contents (read_at adr)).contents in
        let own = one_entry entry adr contents first legal.1 in
        let answers : given (entry ∷ entries) ≡ gave ∷ given entries = ap (λ (l : List Pair). answers_of l ++ given entries) own.0 in
        let errors' : ℕ = (2 * errors + failed gave) % 2 ^ 64 in
        let small' : errors' < 2 ^ 64 = omega arith in
        let mine' : List ℕ = own_reply root x gave errors in
        let rest' : List ℕ = replies_from s (Some h) errors' (items_of h xs) (given entries) in
        let both : mine ++ (rest ++ unread) ≡ mine' ++ rest' =
        sym (append_assoc mine rest unread) ∙ ap (λ (l : List ℕ). l ++ unread) (sym is) ∙ e ∙ ap (replies_from s (Some h) errors (items_of h (x ∷ xs))) answers ∙ next_reply root x xs errors gave (given entries) in
        let meets = replies_meet h s (alone_at adr) (gave ∷ []) errors refl (All-cons (FitsOp h) (op_at adr) [] one.fits (All-nil (FitsOp h))) (omega arith) refl small in
        let f : Form = expects h (cycle_records h (alone_at adr)) in
        let len : length mine ≡ length mine' = length-Fills mine f one.fills ∙ sym (length-Fills mine' f meets.0) in
        let parts = parted mine (rest ++ unread) mine' rest' len both in
        let list : one.answer ∷ [] ≡ host_answer h W32 (op_at adr) gave ∷ [] = one.answered_is ∙ ap (answered h (alone_at adr)) parts.0 ∙ meets.1 in
        let answer_is : one.answer ≡ host_answer h W32 (op_at adr) gave = cc list in
        let word : x.word ≡ word_read adr gave = one.word_is ∙ ap (λ (y : HostAnswer). word_in (Ok y)) answer_is ∙ word_same adr gave in
        let here : x ≡ record { adr = adr; word = word_read adr gave } = λ i. record { adr = adr; word = word i } in
        let legal' : IsLegal wiring after entries = subst (λ (l : List Request). IsLegal wiring (contents_after wiring contents l) entries) own.1 legal.2 in
        let tail = heard_are xs entries after errors' rest unread small' are later legal' parts.1 in
        λ i. here i ∷ tail i

    -- What was heard from the opening on: the root's address, and the words that the bus gave.
    pub all_are : (xs : List (Exchange HostFault)) (entries : List Entry) (contents : List Content) (probe_heard header_heard root_heard heard unread : List ℕ)
        → root < 2 ^ 64 → Fills probe_heard probe_expects → Fills header_heard (header_expects (header a W32)) → Fills root_heard (expects (header a W32) (closing (header a W32) 8 ∷ []))
        → AreHeard (header a W32) xs heard → map marked entries ≡ groups_of xs → IsLegal wiring contents entries
        → (probe_heard ++ (header_heard ++ (root_heard ++ heard))) ++ unread ≡ replies (slave_at root) (all_items (header a W32) xs) (given entries)
        → (root_in (header a W32) root_heard ≡ root) × (xs ≡ read_all wiring contents (addresses xs))
    all_are xs entries contents ph hh rh heard unread low pf hf rf are same legal e =
        let h : Header = header a W32 in
        let s : Slave = slave_at root in
        let pr : List ℕ = probe_reply s (probe_of_host asked_for) in
        let hr : List ℕ = header_reply h in
        let rr : List ℕ = item_reply s (Some h) (Recorded (closing h 8)) [] 0 in
        let wr : List ℕ = replies_from s (Some h) 0 (items_of h xs) (given entries) in
        let one : ph ++ (hh ++ (rh ++ (heard ++ unread))) ≡ pr ++ (hr ++ (rr ++ wr)) =
        ap (λ (l : List ℕ). ph ++ (hh ++ l)) (sym (append_assoc rh heard unread)) ∙ ap (λ (l : List ℕ). ph ++ l) (sym (append_assoc hh (rh ++ heard) unread)) ∙ sym (append_assoc ph (hh ++ (rh ++ heard)) unread) ∙ e in
        let probe = parted ph (hh ++ (rh ++ (heard ++ unread))) pr (hr ++ (rr ++ wr)) (length-Fills ph probe_expects pf ∙ sym (length-Fills pr probe_expects (probe_meets s asked_for).0)) one in
        let head = parted hh (rh ++ (heard ++ unread)) hr (rr ++ wr) (length-Fills hh (header_expects h) hf ∙ sym (length-Fills hr (header_expects h) (header_met a))) probe.1 in
        let meets = root_meets h s 0 low in
        let f : Form = expects h (closing h 8 ∷ []) in
        let alone : replies_from s (Some h) 0 (Recorded (closing h 8) ∷ []) [] ≡ rr = append-nil rr in
        let rf' : Fills rr f = subst (λ (l : List ℕ). Fills l f) alone meets.0 in
        let last = parted rh (heard ++ unread) rr wr (length-Fills rh f rf ∙ sym (length-Fills rr f rf')) head.1 in
        (ap (root_in h) (last.0 ∙ sym alone) ∙ meets.1, heard_are xs entries contents 0 heard unread (omega arith) are same legal last.1)

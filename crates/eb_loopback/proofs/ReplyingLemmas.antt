-- The slave's replies to a cycle, one after another, and what the host takes from them.
use Rattle.std.proofs.Common.{◌≡◌, ◌⊎◌, inl, inr, ℕ, zero, suc, ◌+◌, ◌*◌, ◌/◌, ◌%◌, ◌^◌, ◌<◌, ◌≤◌, ◌==◌, if◌then◌else◌, Bool, true, false, List, [], ◌∷◌, ◌++◌, length, take, drop, map, get_or, All, Some, refl, sym, ap, ◌∙◌, subst, arith, append_assoc, append-nil, length-append, subst₂, mod-lt}
use Rattle.std.proofs.lemmas.List.Elements.{All-nil, All-cons, All-push}
use Rattle.std.proofs.lemmas.List.{get_or_append_left, get_or-append-add}
use Rattle.std.proofs.lemmas.Bool.Decides.{nat_tests}
use Rattle.eb_session.proofs.ListLemmas.{length-upto}
use Rattle.eb_base.specs.declared.width.Width.{Width}
use Rattle.eb_base.specs.declared.width.Width.TheVariants.{W8, W16, W32, W64}
use Rattle.eb_base.specs.Width.{octets}
use Rattle.eb_base.specs.Field.{octets_of, number_at}
use Rattle.eb_base.specs.Lanes.{shift}
use Rattle.eb_base.proofs.LaneLemmas.{selected-lt}
use Rattle.eb_codec.specs.declared.item.Header.{Header}
use Rattle.eb_codec.specs.Form.{Form, zeroed, record_form, Fills}
use Rattle.eb_codec.specs.Stream.{StreamItem, Recorded}
use Rattle.eb_codec.proofs.FormLemmas.{Fills-append}
use Rattle.eb_codec.proofs.RecordLemmas.{port-field}
use Rattle.wb_signals.specs.declared.answer.Answer.{Answer}
use Rattle.wb_signals.specs.declared.answer.Answer.TheVariants.{Ack, Err, Rty}
use Rattle.eb_session.specs.Operations.{upto}
use Rattle.eb_session.specs.Cycles.{item_ops}
use Rattle.eb_session.specs.Configuration.{register, failed, config_word}
use Rattle.eb_session.specs.declared.slave.Slave.{Slave}
use Rattle.eb_session.specs.Replies.{answer_word, read_word, item_reply, replies_from}
use Rattle.eb_host.specs.declared.op.HostOp.{HostOp}
use Rattle.eb_host.specs.declared.op.HostAnswer.TheVariants.{Done, Error}
use Rattle.eb_host.specs.Asks.{lanes, port_words, asked, closing, reply_octets, reply_form, reply_to, expects}
use Rattle.eb_host.specs.Answers.{word_start, word_at, op_words, last_at, joined, answer_of, answers}
use Rattle.eb_host.specs.Host.{root_in}
use Rattle.eb_host.proofs.AskLemmas.{length-port_words}
use Rattle.eb_loopback.specs.Loopback.{host_answer, host_answers, RepliesMeet, RootMeets}
use Rattle.eb_loopback.proofs.BitLemmas.{bit_of}
use Rattle.eb_loopback.proofs.OneReplyLemmas.{reply, written, fills_reply, word_is, length-written, number_behind, number_before}
use Rattle.eb_loopback.proofs.ClosingLemmas.{joined_by, joined_is, word_of_errors, word_of_root, config-lt}

module _ (h : Header) (s : Slave) where
  -- the word of an operation
  abbrev word : HostOp → Answer → ℕ
  word op a = if op.write then 0 else answer_word h.port s.bus op.adr (lanes h) a

  abbrev words : List HostOp → List Answer → List ℕ
  words [] given = []
  words (op ∷ ops) [] = []
  words (op ∷ ops) (a ∷ given) = word op a ∷ words ops given

  word-lt : (adr : ℕ) (a : Answer) → answer_word h.port s.bus adr (lanes h) a < 256 ^ octets h.port
  word-lt adr (Ack dat) = selected-lt (octets h.port) (lanes h) (dat / 256 ^ shift h.port s.bus adr)
  word-lt adr Err = positive h.port
    where
      positive : (w : Width) → 0 < 256 ^ octets w
      positive W8 = omega arith
      positive W16 = omega arith
      positive W32 = omega arith
      positive W64 = omega arith
  word-lt adr Rty = positive h.port
    where
      positive : (w : Width) → 0 < 256 ^ octets w
      positive W8 = omega arith
      positive W16 = omega arith
      positive W32 = omega arith
      positive W64 = omega arith

  -- the reply to an operation
  abbrev op_reply : HostOp → Answer → List ℕ
  op_reply op a = if op.write then [] else written h 0x04 1 (answer_word h.port s.bus op.adr (lanes h) a) [] refl

  one_reply : (op : HostOp) (a : Answer) (errors : ℕ) → item_reply s (Some h) (Recorded (asked h op)) (a ∷ []) errors ≡ op_reply op a
  one_reply op a errors = by op.write where
    by : (b : Bool) → item_reply s (Some h) (Recorded (asked h (record { write = b; adr = op.adr; dat = op.dat }))) (a ∷ []) errors ≡ op_reply (record { write = b; adr = op.adr; dat = op.dat }) a
    by true = refl
    by false = refl

  one_op : (op : HostOp) → length (item_ops s.bus (Some h) (Recorded (asked h op))) ≡ 1
  one_op op = by op.write where
    by : (b : Bool) → length (item_ops s.bus (Some h) (Recorded (asked h (record { write = b; adr = op.adr; dat = op.dat })))) ≡ 1
    by true = refl
    by false = refl

  one_fills : (op : HostOp) (a : Answer) → Fills (op_reply op a) (reply_to h (asked h op))
  one_fills op a = by op.write where
    by : (b : Bool) → Fills (op_reply (record { write = b; adr = op.adr; dat = op.dat }) a) (reply_to h (asked h (record { write = b; adr = op.adr; dat = op.dat })))
    by true = tt
    by false = fills_reply h 0x04 1 (answer_word h.port s.bus op.adr (lanes h) a) [] refl

  -- ---- the reply to a record that reads 8 octets of configuration space

  some_reads : (w : Width) → 1 ≤ 8 / octets w
  some_reads W8 = omega arith
  some_reads W16 = omega arith
  some_reads W32 = omega arith
  some_reads W64 = omega arith

  -- what a reply of some words says
  record IsReply (flags n : ℕ) (ws : List ℕ) : Type 0 where
    fills : Fills (zeroed (record_form h (reply h flags n ws))) (reply_form h flags n)
    word : All (λ v. v < 256 ^ octets h.port) ws → (i : ℕ) → i < n → word_at h (zeroed (record_form h (reply h flags n ws))) 0 i ≡ get_or ws i 0

  is_reply : (flags n : ℕ) (ws : List ℕ) → length ws ≡ n → 1 ≤ n → IsReply flags n ws
  is_reply flags n [] e some = absurd (omega arith)
  is_reply flags n (w ∷ ws) e some = record { fills = fills_reply h flags n w ws e; word = word_is h flags n w ws e }

  port_words_nth : (at n i : ℕ) → i < n → get_or (port_words h at n) i 0 ≡ at + i * octets h.port
  port_words_nth at zero i lt = absurd (omega arith)
  port_words_nth at (suc n) zero lt = omega arith
  port_words_nth at (suc n) (suc i) lt =
      let e : at + octets h.port + i * octets h.port ≡ at + suc i * octets h.port = grind arith in
      port_words_nth (at + octets h.port) n i (omega arith) ∙ e

  upto_nth : (f : ℕ → ℕ) (n i : ℕ) → i < n → get_or (upto n f) i 0 ≡ f i
  upto_nth f zero i lt = absurd (omega arith)
  upto_nth f (suc n) i lt = by cases (upto_nth f n) where
    cases : (i < n) ⊎ (i ≡ n)
    cases = grind arith

    by : (i < n) ⊎ (i ≡ n) → ((k : ℕ) → k < n → get_or (upto n f) k 0 ≡ f k) → get_or (upto n f ++ f n ∷ []) i 0 ≡ f i
    by (inl lt) ih = get_or_append_left (upto n f) (f n ∷ []) 0 i (let l = length-upto n f in omega arith) ∙ ih i lt
    by (inr e) ih =
        let place : i ≡ length (upto n f) + 0 = omega (arith, e, length-upto n f) in
        ap (λ (k : ℕ). get_or (upto n f ++ f n ∷ []) k 0) place ∙ get_or-append-add (upto n f) (f n ∷ []) 0 0 ∙ ap f (sym e)

  all_upto : (f : ℕ → ℕ) (n : ℕ) → ((i : ℕ) → f i < 256 ^ octets h.port) → All (λ v. v < 256 ^ octets h.port) (upto n f)
  all_upto f zero small = All-nil (λ (v : ℕ). v < 256 ^ octets h.port)
  all_upto f (suc n) small = All-push (λ (v : ℕ). v < 256 ^ octets h.port) (upto n f) (f n) (all_upto f n small) (small n)

  module _ (at : ℕ) where
    abbrev reads : ℕ
    reads = length (port_words h at (8 / octets h.port))

    abbrev config : ℕ → ℕ → ℕ
    config errors i = read_word s h (closing h at) [] errors i

    abbrev last : ℕ → List ℕ
    last errors = zeroed (record_form h (reply h 0x0C reads (upto reads (config errors))))

    count : reads ≡ 8 / octets h.port
    count = length-port_words h at (8 / octets h.port)

    last_reply : (errors : ℕ) → item_reply s (Some h) (Recorded (closing h at)) [] errors ≡ last errors
    last_reply errors =
        let some = some_reads h.port in
        let n = count in
        let test : (reads == 0) ≡ false = grind (arith, nat_tests) in
        rw test refl

    last_is : (errors : ℕ) → IsReply 0x0C reads (upto reads (config errors))
    last_is errors = is_reply 0x0C reads (upto reads (config errors)) (length-upto reads (config errors)) (let some = some_reads h.port in omega (arith, count))

    last_fills : (errors : ℕ) → Fills (last errors) (reply_to h (closing h at))
    last_fills errors =
        let some = some_reads h.port in
        let n = count in
        let test : (reads == 0) ≡ false = grind (arith, nat_tests) in
        rw test ((last_is errors).fills)

    -- its words, where those of configuration space are the octets of a number
    last_word : (errors value i : ℕ) → config_word h.port s.root errors (at + i * octets h.port) (lanes h) ≡ number_at h.port (octets_of W64 value) (i * octets h.port)
        → i < 8 / octets h.port → word_at h (last errors) 0 i ≡ number_at h.port (octets_of W64 value) (i * octets h.port)
    last_word errors value i is lt =
        let within : i < reads = omega (arith, count) in
        let adr : get_or (port_words h at (8 / octets h.port)) i 0 ≡ at + i * octets h.port = port_words_nth at (8 / octets h.port) i lt in
        (last_is errors).word (all_upto (config errors) reads (λ k. config-lt h.port s.root errors (get_or (port_words h at (8 / octets h.port)) k 0))) i within
        ∙ upto_nth (config errors) reads i within
        ∙ ap (λ (a : ℕ). config_word h.port s.root errors a (lanes h)) adr ∙ is

  joined_words : (o : List ℕ) (at n : ℕ) → joined h o at n ≡ joined_by h.port (λ i. word_at h o at i) n
  joined_words o at zero = refl
  joined_words o at (suc n) = ap (λ (k : ℕ). k * 256 ^ octets h.port + word_at h o at n) (joined_words o at n)

  -- a word of what stands behind other octets
  word_behind : (pre x : List ℕ) (i : ℕ) → word_at h (pre ++ x) (length pre) i ≡ word_at h x 0 i
  word_behind pre x i =
      let e : word_start h (length pre) i ≡ length pre + word_start h 0 i = omega arith in
      ap (number_at h.port (pre ++ x)) e ∙ number_behind h.port pre x (word_start h 0 i)

  -- the number that its words are together
  number_joined : (at : ℕ) (pre : List ℕ) (errors value : ℕ) → value < 2 ^ 64
      → ((i : ℕ) → i < 8 / octets h.port → config_word h.port s.root errors (at + i * octets h.port) (lanes h) ≡ number_at h.port (octets_of W64 value) (i * octets h.port))
      → joined h (pre ++ last at errors) (length pre) (8 / octets h.port) ≡ value
  number_joined at pre errors value lt is =
      joined_words (pre ++ last at errors) (length pre) (8 / octets h.port)
      ∙ joined_is h.port value (λ i. word_at h (pre ++ last at errors) (length pre) i) lt (λ i below. word_behind pre (last at errors) i ∙ last_word at errors value i (is i below) below)

  last_joined : (pre : List ℕ) (errors : ℕ) → errors < 2 ^ 64 → joined h (pre ++ last 0 errors) (length pre) (8 / octets h.port) ≡ errors
  last_joined pre errors lt = number_joined 0 pre errors errors lt (λ i below. word_of_errors h.port s.root errors i below)

  -- the reply to the record that reads the address of the root table
  pub root_reply : (errors : ℕ) → replies_from s (Some h) errors (Recorded (closing h 8) ∷ []) [] ≡ last 8 errors
  root_reply errors = append-nil (item_reply s (Some h) (Recorded (closing h 8)) [] errors) ∙ last_reply 8 errors

  pub root_fills : (errors : ℕ) → Fills (last 8 errors) (expects h (closing h 8 ∷ []))
  root_fills errors = subst (λ (f : Form). Fills (last 8 errors) f) (sym (append-nil (reply_to h (closing h 8)))) (last_fills 8 errors)

  pub root_joined : (errors : ℕ) → s.root < 2 ^ 64 → root_in h (last 8 errors) ≡ s.root
  root_joined errors lt = number_joined 8 [] errors s.root lt (λ i below. word_of_root h.port s.root errors i below)

  -- ---- all replies

  abbrev items : List HostOp → List StreamItem
  items ops = map Recorded (map (asked h) ops ++ closing h 0 ∷ [])

  abbrev replies : List HostOp → List Answer → ℕ → List ℕ
  replies ops given errors = replies_from s (Some h) errors (items ops) given

  next_reply : (op : HostOp) (ops : List HostOp) (a : Answer) (given : List Answer) (errors : ℕ)
      → replies (op ∷ ops) (a ∷ given) errors ≡ op_reply op a ++ replies ops given ((2 * errors + failed a) % 2 ^ 64)
  next_reply op ops a given errors =
      ap (λ (n : ℕ). item_reply s (Some h) (Recorded (asked h op)) (take n (a ∷ given)) errors ++ replies_from s (Some h) (register errors (take n (a ∷ given))) (items ops) (drop n (a ∷ given))) (one_op op)
      ∙ ap (λ (o : List ℕ). o ++ replies ops given ((2 * errors + failed a) % 2 ^ 64)) (one_reply op a errors)

  no_more : (errors : ℕ) → replies [] [] errors ≡ last 0 errors
  no_more errors = append-nil (item_reply s (Some h) (Recorded (closing h 0)) [] errors) ∙ last_reply 0 errors

  record AreTaken (ops : List HostOp) (given : List Answer) (errors : ℕ) (pre : List ℕ) : Type 0 where
    fills : Fills (replies ops given errors) (expects h (map (asked h) ops ++ closing h 0 ∷ []))
    own : op_words h ops (length pre) (pre ++ replies ops given errors) ≡ words ops given
    number : joined h (pre ++ replies ops given errors) (last_at h ops (length pre)) (8 / octets h.port) ≡ register errors given

  -- one operation more, whose reply is that
  module _ (op : HostOp) (ops : List HostOp) (a : Answer) (pre x rest : List ℕ) where
    abbrev Words : Bool → Type 0
    Words b = (if b then 0 ∷ op_words h ops (length pre) (pre ++ (x ++ rest)) else word_at h (pre ++ (x ++ rest)) (length pre) 0 ∷ op_words h ops (length pre + reply_octets h 1) (pre ++ (x ++ rest)))
        ≡ (if b then 0 else answer_word h.port s.bus op.adr (lanes h) a) ∷ op_words h ops (length (pre ++ x)) ((pre ++ x) ++ rest)

    abbrev Last : Bool → Type 0
    Last b = (if b then last_at h ops (length pre) else last_at h ops (length pre + reply_octets h 1)) ≡ last_at h ops (length (pre ++ x))

    write_words : x ≡ [] → Words true
    write_words none =
        let same : pre ++ (x ++ rest) ≡ (pre ++ x) ++ rest = sym (append_assoc pre x rest) in
        let long : length pre ≡ length (pre ++ x) = omega (arith, length-append pre x, ap length none) in
        λ i. 0 ∷ op_words h ops (long i) (same i)

    write_last : x ≡ [] → Last true
    write_last none = let long : length pre ≡ length (pre ++ x) = omega (arith, length-append pre x, ap length none) in ap (last_at h ops) long

    read_words : x ≡ written h 0x04 1 (answer_word h.port s.bus op.adr (lanes h) a) [] refl → Words false
    read_words is =
        let w : ℕ = answer_word h.port s.bus op.adr (lanes h) a in
        let size : length x ≡ reply_octets h 1 = ap length is ∙ length-written h 0x04 1 w [] refl in
        let same : pre ++ (x ++ rest) ≡ (pre ++ x) ++ rest = sym (append_assoc pre x rest) in
        let long : length pre + reply_octets h 1 ≡ length (pre ++ x) = omega (arith, length-append pre x, size) in
        let small : All (λ v. v < 256 ^ octets h.port) (w ∷ []) = All-cons (λ (v : ℕ). v < 256 ^ octets h.port) w [] (word-lt op.adr a) (All-nil (λ (v : ℕ). v < 256 ^ octets h.port)) in
        let inside : word_start h 0 0 + octets h.port ≤ length x = omega (arith, size, port-field h) in
        let here : word_at h (pre ++ (x ++ rest)) (length pre) 0 ≡ w =
        word_behind pre (x ++ rest) 0 ∙ number_before h.port x rest (word_start h 0 0) inside ∙ ap (λ (o : List ℕ). word_at h o 0 0) is ∙ word_is h 0x04 1 w [] refl small 0 (omega arith) in
        λ i. here i ∷ op_words h ops (long i) (same i)

    read_last : x ≡ written h 0x04 1 (answer_word h.port s.bus op.adr (lanes h) a) [] refl → Last false
    read_last is =
        let w : ℕ = answer_word h.port s.bus op.adr (lanes h) a in
        let size : length x ≡ reply_octets h 1 = ap length is ∙ length-written h 0x04 1 w [] refl in
        let long : length pre + reply_octets h 1 ≡ length (pre ++ x) = omega (arith, length-append pre x, size) in
        ap (last_at h ops) long

    more_words : (b : Bool) → x ≡ (if b then [] else written h 0x04 1 (answer_word h.port s.bus op.adr (lanes h) a) [] refl) → Words b × Last b
    more_words true is = (write_words is, write_last is)
    more_words false is = (read_words is, read_last is)

  all_taken_from : (ops : List HostOp) (given : List Answer) (errors : ℕ) (pre : List ℕ) → length given ≡ length ops → errors < 2 ^ 64 → AreTaken ops given errors pre
  all_taken_from [] [] errors pre e lt =
      record {
        fills = subst₂ (λ (o : List ℕ) (f : Form). Fills o f) (sym (no_more errors)) (sym (append-nil (reply_to h (closing h 0)))) (last_fills 0 errors);
        own = refl;
        number = ap (λ (o : List ℕ). joined h (pre ++ o) (length pre) (8 / octets h.port)) (no_more errors) ∙ last_joined pre errors lt;
      }
  all_taken_from [] (a ∷ given) errors pre e lt = absurd (omega arith)
  all_taken_from (op ∷ ops) [] errors pre e lt = absurd (omega arith)
  all_taken_from (op ∷ ops) (a ∷ given) errors pre e lt =
      let x : List ℕ = op_reply op a in
      let next : ℕ = (2 * errors + failed a) % 2 ^ 64 in
      let rest : List ℕ = replies ops given next in
      let ih = all_taken_from ops given next (pre ++ x) (omega arith) (mod-lt (2 * errors + failed a) (omega arith)) in
      let step = next_reply op ops a given errors in
      let both = more_words op ops a pre x rest op.write refl in
      let same : (pre ++ x) ++ rest ≡ pre ++ (x ++ rest) = append_assoc pre x rest in
      record {
        fills = subst (λ (o : List ℕ). Fills o (reply_to h (asked h op) ++ expects h (map (asked h) ops ++ closing h 0 ∷ []))) (sym step)
            (Fills-append x rest (reply_to h (asked h op)) (expects h (map (asked h) ops ++ closing h 0 ∷ [])) (one_fills op a) ih.fills);
        own = ap (λ (o : List ℕ). op_words h (op ∷ ops) (length pre) (pre ++ o)) step ∙ both.0 ∙ ap (λ (ws : List ℕ). word op a ∷ ws) ih.own;
        number = ap (λ (o : List ℕ). joined h (pre ++ o) (last_at h (op ∷ ops) (length pre)) (8 / octets h.port)) step
            ∙ (λ i. joined h (sym same i) (both.1 i) (8 / octets h.port)) ∙ ih.number;
      }

  -- ---- the answers

  one_taken : (op : HostOp) (a : Answer) (given : List Answer) (ws : List ℕ) (errors : ℕ) → length ws ≡ length given → length given < 64
      → answer_of (register errors (a ∷ given)) (length ws) (word op a) ≡ host_answer h s.bus op a
  one_taken op a given ws errors e lt =
      ap (λ (n : ℕ). answer_of (register errors (a ∷ given)) n (word op a)) e
      ∙ ap (λ (b : ℕ). if b == 1 then Error else Done (word op a)) (bit_of a given errors lt) ∙ by a
    where
      by : (c : Answer) → (if failed c == 1 then Error else Done (if op.write then 0 else answer_word h.port s.bus op.adr (lanes h) c)) ≡ host_answer h s.bus op c
      by (Ack dat) = refl
      by Err = refl
      by Rty = refl

  length-words : (ops : List HostOp) (given : List Answer) → length given ≡ length ops → length (words ops given) ≡ length given
  length-words [] [] e = refl
  length-words [] (a ∷ given) e = absurd (omega arith)
  length-words (op ∷ ops) [] e = refl
  length-words (op ∷ ops) (a ∷ given) e = ap suc (length-words ops given (omega arith))

  answers_are : (ops : List HostOp) (given : List Answer) (errors : ℕ) → length given ≡ length ops → length given ≤ 64 → answers (register errors given) (words ops given) ≡ host_answers h s.bus ops given
  answers_are [] [] errors e le = refl
  answers_are [] (a ∷ given) errors e le = absurd (omega arith)
  answers_are (op ∷ ops) [] errors e le = refl
  answers_are (op ∷ ops) (a ∷ given) errors e le =
      let head = one_taken op a given (words ops given) errors (length-words ops given (omega arith)) (omega arith) in
      let tail = answers_are ops given ((2 * errors + failed a) % 2 ^ 64) (omega arith) (omega arith) in
      λ i. head i ∷ tail i

pub replies_meet : RepliesMeet
replies_meet h s ops given errors replied fits few count lt =
    let t = all_taken_from h s ops given errors [] count lt in
    (t.fills, (λ i. answers (t.number i) (t.own i)) ∙ answers_are h s ops given errors count (omega arith))

pub root_meets : RootMeets
root_meets h s errors lt =
    let is = sym (root_reply h s errors) in
    (subst (λ (o : List ℕ). Fills o (expects h (closing h 8 ∷ []))) is (root_fills h s errors), ap (root_in h) (sym is) ∙ root_joined h s errors lt)

-- What a record asks and what it is answered.
use Rattle.std.proofs.Common.{◌≡◌, ℕ, zero, suc, ◌+◌, ◌-◌, ◌<◌, ◌≤◌, ◌==◌, Bool, true, false, if◌then◌else◌, List, [], ◌∷◌, ◌++◌, length, take, replicate, refl, sym, ap, ◌∙◌, arith, length-append}
use Rattle.std.proofs.lemmas.List.{append-nil, append_assoc, take_at}
use Rattle.std.specs.List.{flat_map}
use Rattle.eb_base.specs.declared.width.Width.{Width}
use Rattle.eb_codec.specs.declared.flags.TheConstants.{RCA}
use Rattle.eb_codec.specs.declared.item.Header.{Header}
use Rattle.eb_codec.specs.declared.item.Record.{Record}
use Rattle.eb_codec.specs.declared.item.RecordHead.{RecordHead}
use Rattle.eb_codec.specs.Rules.{has}
use Rattle.eb_codec.specs.Sizes.{unit_octets, gap}
use Rattle.eb_codec.specs.Form.{Form, fixed, padding, zeroed, field, part, record_body, record_form}
use Rattle.eb_codec.specs.Reading.{body_octets}
use Rattle.eb_codec.proofs.ZeroedLemmas.{zeroed-append, zeroed-padding, zeroed_part}
use Rattle.eb_codec.proofs.RecordLemmas.{length-record_body}
use Rattle.wb_signals.specs.Request.{Request}
use Rattle.wb_signals.specs.declared.answer.Answer.{Answer}
use Rattle.eb_session.specs.Operations.{upto, write_at, read_at, bus_writes, bus_reads, record_ops}
use Rattle.eb_session.specs.declared.slave.Slave.{Slave}
use Rattle.eb_session.specs.Replies.{read_word, record_reply, answering, reply_flags}
use Rattle.eb_session.specs.Operations.{answered_to}
use Rattle.eb_session.proofs.ListLemmas.{length-upto}

pub length-record_ops : (bus : Width) (h : Header) (r : Record) → length (record_ops bus h r) ≡ bus_writes r + bus_reads r
length-record_ops bus h r =
    let w : ℕ = bus_writes r in
    let q : ℕ = bus_reads r in
    length-append (upto w (write_at bus h r)) (upto q (read_at bus h r)) ∙ ap (λ (n : ℕ). n + length (upto q (read_at bus h r))) (length-upto w (write_at bus h r)) ∙ ap (λ (n : ℕ). w + n) (length-upto q (read_at bus h r))

take_whole : (l : List Answer) → take (length l) l ≡ l
take_whole l = ap (λ (q : List Answer). take (length l) q) (sym (append-nil l)) ∙ take_at l [] (length l) refl

pub taken : (ops : List Request) (answers : List Answer) (count : ℕ) → count ≡ length ops → length (answered_to ops answers) ≡ length ops → take count answers ≡ answered_to ops answers
taken [] answers count c e = ap (λ (n : ℕ). take n answers) c
taken (r ∷ ops) answers count c e = ap (λ (n : ℕ). take n answers) (c ∙ sym e) ∙ take_whole answers

pub enough : (bus : Width) (h : Header) (r : Record) (ops : List Request) (answers : List Answer) → ops ≡ record_ops bus h r → length (answered_to ops answers) ≡ length ops → bus_writes r + bus_reads r ≤ length answers
enough bus h r [] answers is e = let n : 0 ≡ bus_writes r + bus_reads r = ap length is ∙ length-record_ops bus h r in omega (arith, n)
enough bus h r (x ∷ ops) answers is e = let n : length (x ∷ ops) ≡ bus_writes r + bus_reads r = ap length is ∙ length-record_ops bus h r in omega (arith, n, e)

pos : (n : ℕ) → (suc n == 0) ≡ false
pos n = grind arith

upto_same : {A : Type 0} (n : ℕ) (f g : ℕ → A) → ((i : ℕ) → f i ≡ g i) → upto n f ≡ upto n g
upto_same zero f g same = refl
upto_same (suc n) f g same = ap (λ l. l ++ f n ∷ []) (upto_same n f g same) ∙ ap (λ x. upto n g ++ x ∷ []) (same n)

-- where there is no operation, no answer is in the reply
none_by : (s : Slave) (h : Header) (r : Record) (answers : List Answer) (e : ℕ) (b : Bool) → has r.head.flags RCA ≡ b → bus_reads r ≡ 0
    → record_reply s h r answers e ≡ record_reply s h r [] e
none_by s h r answers e true is n =
    let same : upto r.head.reads (read_word s h r answers e) ≡ upto r.head.reads (read_word s h r [] e) = upto_same r.head.reads (read_word s h r answers e) (read_word s h r [] e) (λ i. rw is refl) in
    ap (λ (l : List ℕ). if r.head.reads == 0 then [] else zeroed (record_form h (answering r l))) same
none_by s h r answers e false is n =
    let z : r.head.reads ≡ 0 = sym (ap (λ (b : Bool). if b then 0 else r.head.reads) is) ∙ n in
    let left : record_reply s h r answers e ≡ [] = ap (λ (k : ℕ). if k == 0 then [] else zeroed (record_form h (answering r (upto r.head.reads (read_word s h r answers e))))) z in
    let right : record_reply s h r [] e ≡ [] = ap (λ (k : ℕ). if k == 0 then [] else zeroed (record_form h (answering r (upto r.head.reads (read_word s h r [] e))))) z in
    left ∙ sym right

pub reply_same : (bus : Width) (s : Slave) (h : Header) (r : Record) (ops : List Request) (answers : List Answer) (e : ℕ) → ops ≡ record_ops bus h r → record_reply s h r answers e ≡ record_reply s h r (answered_to ops answers) e
reply_same bus s h r (x ∷ ops) answers e is = refl
reply_same bus s h r [] answers e is =
    let n : 0 ≡ bus_writes r + bus_reads r = ap length is ∙ length-record_ops bus h r in
    none_by s h r answers e (has r.head.flags RCA) refl (omega (arith, n))

step : (start : List ℕ) (f : Form) (x : List ℕ) (g : Form) → x ≡ zeroed g → (start ++ zeroed f) ++ x ≡ start ++ zeroed (f ++ g)
step start f x g e = append_assoc start (zeroed f) x ∙ ap (λ (l : List ℕ). start ++ (zeroed f ++ l)) e ∙ ap (λ (l : List ℕ). start ++ l) (sym (zeroed-append f g))

abbrev reply_of : Slave → Header → Record → List Answer → ℕ → RecordHead → List ℕ
reply_of s h r answers errors t = zeroed (record_form h (record { head = record { flags = reply_flags t.flags; enable = t.enable; writes = t.reads; reads = 0 }; write_base = r.return_base; values = upto t.reads (read_word s h r answers errors); return_base = 0; addresses = [] }))

some_by : (l : List ℕ) (k n : ℕ) → n ≡ k → 0 < n → l ≡ (if k == 0 then [] else l)
some_by l k zero e lt = absurd (omega arith)
some_by l k (suc n) e lt = ap (λ (b : Bool). if b then [] else l) (sym (pos n)) ∙ ap (λ (j : ℕ). if j == 0 then [] else l) e

by_head : (s : Slave) (h : Header) (r : Record) (answers : List Answer) (errors : ℕ) (t : RecordHead) → r.head ≡ t → 0 < t.reads → reply_of s h r answers errors t ≡ record_reply s h r answers errors
by_head s h r answers errors t e lt = some_by (reply_of s h r answers errors t) t.reads t.reads refl lt ∙ ap (λ (k : RecordHead). if k.reads == 0 then [] else reply_of s h r answers errors k) (sym e)

no_part : (g : Header) → [] ≡ zeroed (part g g.address 0 [])
unfolding part
no_part g = refl

-- `head` is the record's own.
pub words_reply : (s : Slave) (h : Header) (r : Record) (head : RecordHead) (answers : List Answer) (errors : ℕ) (start a b c d e : List ℕ) (flags unit pad : ℕ) → r.head ≡ head → 0 < head.reads → flags ≡ reply_flags head.flags → unit ≡ unit_octets h
    → pad ≡ gap (unit_octets h) (body_octets h head.reads 0)
    → a ≡ start ++ (flags ∷ head.enable ∷ head.reads ∷ 0 ∷ []) → b ≡ a ++ replicate (unit - 4) 0 → c ≡ b ++ zeroed (field h h.address r.return_base)
    → d ≡ c ++ zeroed (flat_map (field h h.port) (upto head.reads (read_word s h r answers errors))) → e ≡ d ++ replicate pad 0
    → e ≡ start ++ record_reply s h r answers errors
words_reply s h r head answers errors start a b c d e flags unit pad is some fl un pad-is ea eb ec ed ee =
    let words : List ℕ = upto head.reads (read_word s h r answers errors) in
    let q : Record = record { head = record { flags = reply_flags head.flags; enable = head.enable; writes = head.reads; reads = 0 }; write_base = r.return_base; values = words; return_base = 0; addresses = [] } in
    let long : length words ≡ head.reads = length-upto head.reads (read_word s h r answers errors) in
    let top : Form = fixed (q.head.flags ∷ q.head.enable ∷ q.head.writes ∷ 0 ∷ []) in
    let p0 : Form = padding (unit_octets h - 4) in
    let p1 : Form = part h h.port q.write_base q.values in
    let p2 : Form = part h h.address 0 [] in
    let a' : a ≡ start ++ zeroed top = ea ∙ ap (λ (n : ℕ). start ++ (n ∷ head.enable ∷ head.reads ∷ 0 ∷ [])) fl in
    let b' : b ≡ start ++ zeroed (top ++ p0) = eb ∙ ap (λ (l : List ℕ). l ++ replicate (unit - 4) 0) a' ∙ ap (λ (n : ℕ). (start ++ zeroed top) ++ replicate (n - 4) 0) un ∙ step start top (replicate (unit_octets h - 4) 0) p0 (sym (zeroed-padding (unit_octets h - 4))) in
    let d' : d ≡ b ++ zeroed p1 = zeroed_part h h.port r.return_base words b c d (omega (arith, long, some)) ec ed in
    let d'' : d ≡ start ++ zeroed (top ++ p0 ++ p1) = d' ∙ ap (λ (l : List ℕ). l ++ zeroed p1) b' ∙ step start (top ++ p0) (zeroed p1) p1 refl in
    let none : [] ≡ zeroed p2 = no_part h in
    let d3 : d ≡ start ++ zeroed (top ++ p0 ++ p1 ++ p2) = sym (append-nil d) ∙ ap (λ (l : List ℕ). l ++ []) d'' ∙ step start (top ++ p0 ++ p1) [] p2 none in
    let same : pad ≡ gap (unit_octets h) (length (record_body h q)) = pad-is ∙ ap (gap (unit_octets h)) (sym (length-record_body h q ∙ ap (λ (n : ℕ). body_octets h n 0) long)) in
    let last : replicate pad 0 ≡ zeroed (padding (gap (unit_octets h) (length (record_body h q)))) = ap (λ (n : ℕ). replicate n 0) same ∙ sym (zeroed-padding (gap (unit_octets h) (length (record_body h q)))) in
    let whole : e ≡ start ++ zeroed (record_form h q) = ee ∙ ap (λ (l : List ℕ). l ++ replicate pad 0) d3 ∙ step start (record_body h q) (replicate pad 0) (padding (gap (unit_octets h) (length (record_body h q)))) last in
    whole ∙ ap (λ (l : List ℕ). start ++ l) (by_head s h r answers errors head is some)

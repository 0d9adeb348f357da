-- What the rows so far show of a port's open cycle.
use Rattle.std.proofs.Common.{◌≡◌, ℕ, zero, suc, ◌+◌, ◌≤◌, ◌&&◌, not, Bool, true, false, if◌then◌else◌, List, [], ◌∷◌, ◌++◌, length, drop, take, refl, sym, ap, ◌∙◌, arith, append_assoc}
use Rattle.std.specs.Prelude.{nat_lt, Option, Some, None, option_to_list}
use Rattle.wb_signals.specs.Request.{Request}
use Rattle.wb_signals.specs.Content.{Content}
use Rattle.wb_signals.specs.History.{Pair, requests_of, answers_of}
use Rattle.wb_signals.specs.Cycles.{paired}
use Rattle.wb_signals.specs.declared.answer.Answer.{Answer}
use Rattle.wb_signals.specs.declared.answer.Answer.TheVariants.{Ack, Err, Rty}
use Rattle.wb_signals.proofs.CycleLemmas.{requests_of-append}
use Rattle.soc_core.specs.Fabric.{Fabric}
use Rattle.wb_signals.specs.Slave.{Owed, given, is_stalled}
use Rattle.soc_core.specs.Core.{Phase, Idle, Wants, Holds, Leaves, CorePort, head_of, offered, unless_stalled, performed, phase_after, with_phase, clocked}
use Rattle.soc_core.specs.Sound.{StandsIn, IsQueue, is_busy_phase}
use Rattle.wb_signals.specs.declared.port_row.PortRow.{PortRow}
use Rattle.wb_signals.specs.Rows.{request_in}
use Rattle.soc_wave.specs.Rows.{last_port, has_passed}
use Rattle.soc_wave.specs.Requests.{put_if}
use Rattle.soc_wave.specs.Pairs.{Exchange, no_exchange, with_row, exchanged_by, exchange, answer_by, answer_in, pairs_of, is_some_pairs, ended_on}
use Rattle.soc_wave.specs.Shown.{signals, port_row, ack_of, err_of, rty_of, answer_word}
use Rattle.soc_wave.proofs.Lists.{append-nil, fold-snoc, last_port-snoc}
use Rattle.soc_wave.proofs.PortRows.{no_request}

pub exchange-snoc : (ps : List PortRow) (p : PortRow) → exchange (ps ++ p ∷ []) ≡ with_row (exchange ps) p
exchange-snoc ps p = fold-snoc with_row no_exchange ps p

-- ---- what a port tells of its cycle

abbrev pub told : CorePort → Exchange
told p = record { requests = performed p; answers = answers_of p.opened ++ p.got }

abbrev pub TellsAs : Phase → List PortRow → CorePort → Type 0
TellsAs Idle ps p = exchange ps ≡ told p
TellsAs (Wants set) ps p = exchange ps ≡ told p
TellsAs (Holds set) ps p = exchange ps ≡ told p
TellsAs Leaves ps p = Unit {0}

-- The rows show the requests that its open cycle has sent, and the answers got. Where CYC doesn't stand they show none.
pub record Tells (ps : List PortRow) (p : CorePort) : Type 0 where
  pub cycle : TellsAs p.phase ps p
  pub quiet : (last_port ps).cyc ≡ false → exchange ps ≡ no_exchange

-- ---- the answer of a row

answer_of : (a : Option Answer) → answer_by (ack_of a) (err_of a) (rty_of a) (answer_word a) ≡ option_to_list a
answer_of None = refl
answer_of (Some (Ack word)) = refl
answer_of (Some Err) = refl
answer_of (Some Rty) = refl

-- ---- the request of a row

abbrev passed_request : Bool → List Owed → Fabric → Option Request → List Request
passed_request cyc os f op = put_if (has_passed (signals f cyc os op)) (request_in (signals f cyc os op)) []

request_none : (f : Fabric) (os : List Owed) → passed_request true os f None ≡ []
request_none f os = refl

request_by : (f : Fabric) (os : List Owed) (r : Request) (b : Bool) → put_if (not b) r [] ≡ option_to_list (if b then None else Some r)
request_by f os r true = refl
request_by f os r false = refl

request_passed : (f : Fabric) (os : List Owed) (op : Option Request) → passed_request true os f op ≡ option_to_list (unless_stalled f.wiring os op)
request_passed f os None = refl
request_passed f os (Some r) = request_by f os r (is_stalled f.wiring os r)

abbrev request_or : Request → Option Request → Request
request_or d None = d
request_or d (Some r) = r

-- the operations sent, with one more
take-one : (n : ℕ) (ops : List Request) (r : Request) → head_of (drop n ops) ≡ Some r → take n ops ++ r ∷ [] ≡ take (n + 1) ops
take-one zero [] r is = absurd (no_request r is)
take-one (suc n) [] r is = absurd (no_request r is)
take-one zero (q ∷ ops) r is = let same : q ≡ r = ap (request_or q) is in ap (λ x. x ∷ []) (sym same)
take-one (suc n) (q ∷ ops) r is =
    let e : suc (n + 1) ≡ suc n + 1 = omega arith in
    ap (λ l. q ∷ l) (take-one n ops r is) ∙ ap (λ (k : ℕ). take k (q ∷ ops)) e

driven_is : (b : Bool) (next : Option Request) (r : Request) → (if b then next else None) ≡ Some r → next ≡ Some r
driven_is true next r is = is
driven_is false next r is = absurd (no_request r is)

take-none : (n : ℕ) (ops : List Request) → take n ops ++ [] ≡ take (n + 0) ops
take-none n ops =
    let e : n ≡ n + 0 = omega arith in
    append-nil (take n ops) ∙ ap (λ (k : ℕ). take k ops) e

take-passed_if : (b : Bool) (n : ℕ) (ops : List Request) (r : Request) → head_of (drop n ops) ≡ Some r
    → take n ops ++ option_to_list (if b then None else Some r) ≡ take (n + length (option_to_list (if b then None else Some r))) ops
take-passed_if true n ops r is = take-none n ops
take-passed_if false n ops r is = take-one n ops r is

take-passed_by : (f : Fabric) (os : List Owed) (op : Option Request) (n : ℕ) (ops : List Request) → ((r : Request) → op ≡ Some r → head_of (drop n ops) ≡ Some r)
    → take n ops ++ option_to_list (unless_stalled f.wiring os op) ≡ take (n + length (option_to_list (unless_stalled f.wiring os op))) ops
take-passed_by f os None n ops is = take-none n ops
take-passed_by f os (Some r) n ops is = take-passed_if (is_stalled f.wiring os r) n ops r (is r refl)

take-passed : (f : Fabric) (os : List Owed) (b c : Bool) (n : ℕ) (ops : List Request)
    → take n ops ++ option_to_list (unless_stalled f.wiring os (if b then head_of (drop n ops) else None)) ≡ take (n + length (option_to_list (unless_stalled f.wiring os (if b then head_of (drop n ops) else None)))) ops
take-passed f os b c n ops = take-passed_by f os (if b then head_of (drop n ops) else None) n ops (λ r is. driven_is b (head_of (drop n ops)) r is)

-- ---- a tick at a port

-- while CYC stands
told_tick : (f : Fabric) (contents : List Content) (ps : List PortRow) (p : CorePort) → exchange ps ≡ told p
    → exchange (ps ++ signals f true p.owed (offered f p) ∷ []) ≡ told (clocked f contents p)
told_tick f contents ps p is =
    let row : PortRow = signals f true p.owed (offered f p) in
    let sent : performed p ++ passed_request true p.owed f (offered f p) ≡ performed (clocked f contents p) =
    ap (λ l. performed p ++ l) (request_passed f p.owed (offered f p))
    ∙ append_assoc (requests_of p.opened) (take p.sent p.loaded) (option_to_list (unless_stalled f.wiring p.owed (offered f p)))
    ∙ ap (λ l. requests_of p.opened ++ l) (take-passed f p.owed (nat_lt (length p.owed) f.depth) true p.sent p.loaded) in
    let got : (answers_of p.opened ++ p.got) ++ answer_in row ≡ answers_of p.opened ++ (p.got ++ option_to_list (given p.owed)) =
    ap (λ l. (answers_of p.opened ++ p.got) ++ l) (answer_of (given p.owed)) ∙ append_assoc (answers_of p.opened) p.got (option_to_list (given p.owed)) in
    let after : exchanged_by true (told p) row ≡ told (clocked f contents p) = λ i. record { requests = sent i; answers = got i } in
    exchange-snoc ps row ∙ ap (λ x. exchanged_by true x row) is ∙ after

-- where it doesn't stand
quiet_tick : (f : Fabric) (ps : List PortRow) (p : CorePort) → exchange (ps ++ signals f false p.owed (offered f p) ∷ []) ≡ no_exchange
quiet_tick f ps p = exchange-snoc ps (signals f false p.owed (offered f p))

nothing : {A : Type 0} (xs : List A) → length xs ≡ 0 → xs ≡ []
nothing [] is = refl
nothing (x ∷ xs) is = absurd (omega (arith, is))

take_nil : (n : ℕ) → ◌≡◌ {A = List Request} (take n []) []
take_nil zero = refl
take_nil (suc n) = refl

-- a port of which nothing is open or loaded tells of nothing
told_nothing : (f : Fabric) (contents : List Content) (p : CorePort) → p.opened ≡ [] → p.loaded ≡ [] → IsQueue f p → told (clocked f contents p) ≡ no_exchange
told_nothing f contents p opened loaded queue =
    let none : length p.loaded ≡ 0 = ap (λ l. length l) loaded in
    let got : p.got ≡ [] = nothing p.got (omega (arith, none, queue.sent, queue.counted)) in
    let owed : p.owed ≡ [] = nothing p.owed (omega (arith, none, queue.sent, queue.counted)) in
    let requests : performed (clocked f contents p) ≡ [] =
    ap (λ l. requests_of l ++ take (clocked f contents p).sent p.loaded) opened ∙ ap (λ l. take (clocked f contents p).sent l) loaded ∙ take_nil (clocked f contents p).sent in
    let answers : answers_of p.opened ++ (p.got ++ option_to_list (given p.owed)) ≡ [] =
    ap (λ l. answers_of l ++ (p.got ++ option_to_list (given p.owed))) opened ∙ ap (λ l. l ++ option_to_list (given p.owed)) got ∙ ap (λ os. option_to_list (given os)) owed in
    λ i. record { requests = requests i; answers = answers i }

cycle_tick : (f : Fabric) (contents : List Content) (ps : List PortRow) (p : CorePort) (phase : Phase) (b : Bool) → StandsIn f phase p → IsQueue f p → TellsAs phase ps p
    → TellsAs (phase_after b phase) (ps ++ signals f (is_busy_phase (phase_after b phase)) p.owed (offered f p) ∷ []) (clocked f contents p)
cycle_tick f contents ps p Idle b stands queue tells = quiet_tick f ps p ∙ sym (told_nothing f contents p stands.0 stands.1 queue)
cycle_tick f contents ps p (Wants set) true stands queue tells = told_tick f contents ps p tells
cycle_tick f contents ps p (Wants set) false stands queue tells = told_tick f contents ps p tells
cycle_tick f contents ps p (Holds set) b stands queue tells = told_tick f contents ps p tells
cycle_tick f contents ps p Leaves b stands queue tells = quiet_tick f ps p ∙ sym (told_nothing f contents p stands.0 stands.1 queue)

quiet_row : (ps : List PortRow) (row : PortRow) → (last_port (ps ++ row ∷ [])).cyc ≡ false → exchange (ps ++ row ∷ []) ≡ no_exchange
quiet_row ps row off =
    let cyc : row.cyc ≡ false = ap (λ (p : PortRow). p.cyc) (sym (last_port-snoc ps row)) ∙ off in
    exchange-snoc ps row ∙ ap (λ b. exchanged_by b (exchange ps) row) cyc

abbrev same_cycle : Phase → List PortRow → CorePort → CorePort → Type 0
same_cycle phase ps p q = TellsAs phase ps p → TellsAs phase ps q

told_phase : (f : Fabric) (contents : List Content) (ps : List PortRow) (p : CorePort) (phase : Phase) → TellsAs phase ps (clocked f contents p) → TellsAs phase ps (clocked f contents (with_phase phase p))
told_phase f contents ps p Idle tells = tells
told_phase f contents ps p (Wants set) tells = tells
told_phase f contents ps p (Holds set) tells = tells
told_phase f contents ps p Leaves tells = tells

pub tells_tick : (f : Fabric) (contents : List Content) (ps : List PortRow) (p : CorePort) (b : Bool) → StandsIn f p.phase p → IsQueue f p → Tells ps p
    → Tells (ps ++ port_row f (with_phase (phase_after b p.phase) p) ∷ []) (clocked f contents (with_phase (phase_after b p.phase) p))
tells_tick f contents ps p b stands queue tells =
    let row : PortRow = port_row f (with_phase (phase_after b p.phase) p) in
    record {
      cycle = told_phase f contents (ps ++ row ∷ []) p (phase_after b p.phase) (cycle_tick f contents ps p p.phase b stands queue tells.cycle);
      quiet = λ off. quiet_row ps row off;
    }

-- ---- the cycle that ends on a port

-- the pairs of a cycle that was released since the last tick, if it has one
abbrev pub leaving : Phase → List PortRow → List (List Pair)
leaving Idle ps = []
leaving (Wants set) ps = []
leaving (Holds set) ps = []
leaving Leaves ps = put_if (is_some_pairs (pairs_of (exchange ps))) (pairs_of (exchange ps)) []

abbrev ended_by : Bool → Bool → List Pair → List (List Pair)
ended_by was now pairs = put_if ((was && not now) && is_some_pairs pairs) pairs []

stays : (was : Bool) (pairs : List Pair) → [] ≡ ended_by was true pairs
stays true pairs = refl
stays false pairs = refl

ends_none : (was : Bool) (pairs : List Pair) → pairs ≡ [] → [] ≡ ended_by was false pairs
ends_none true pairs none = sym (ap (λ l. ended_by true false l) none)
ends_none false pairs none = refl

ends_off : (was : Bool) (pairs : List Pair) → (was ≡ false → pairs ≡ []) → put_if (is_some_pairs pairs) pairs [] ≡ ended_by was false pairs
ends_off true pairs quiet = refl
ends_off false pairs quiet = ap (λ l. put_if (is_some_pairs l) l []) (quiet refl)

no_got : (f : Fabric) (p : CorePort) → IsQueue f p → p.loaded ≡ [] → p.got ≡ []
no_got f p queue none =
    let e : length p.loaded ≡ 0 = ap (λ l. length l) none in
    nothing p.got (omega (arith, e, queue.sent, queue.counted))

-- a port with nothing loaded tells of its open pairs
told_opened : (f : Fabric) (p : CorePort) → IsQueue f p → p.loaded ≡ [] → told p ≡ record { requests = requests_of p.opened; answers = answers_of p.opened }
told_opened f p queue none =
    let requests : performed p ≡ requests_of p.opened = ap (λ l. requests_of p.opened ++ take p.sent l) none ∙ ap (λ l. requests_of p.opened ++ l) (take_nil p.sent) ∙ append-nil (requests_of p.opened) in
    let answers : answers_of p.opened ++ p.got ≡ answers_of p.opened = ap (λ l. answers_of p.opened ++ l) (no_got f p queue none) ∙ append-nil (answers_of p.opened) in
    λ i. record { requests = requests i; answers = answers i }

pub pairs-again : (pairs : List Pair) → paired (requests_of pairs) (answers_of pairs) ≡ pairs
pairs-again [] = refl
pairs-again (p ∷ pairs) = ap (λ l. p ∷ l) (pairs-again pairs)

pub pairs_opened : (f : Fabric) (ps : List PortRow) (p : CorePort) → IsQueue f p → p.loaded ≡ [] → exchange ps ≡ told p → pairs_of (exchange ps) ≡ p.opened
pairs_opened f ps p queue none is = ap pairs_of (is ∙ told_opened f p queue none) ∙ pairs-again p.opened

-- A cycle that was released ends in the next tick, and no other does.
pub ends_tick : (f : Fabric) (ps : List PortRow) (p : CorePort) (phase : Phase) (b : Bool) → StandsIn f phase p → IsQueue f p → TellsAs phase ps p
    → ((last_port ps).cyc ≡ false → exchange ps ≡ no_exchange)
    → leaving phase ps ≡ ended_on ps (signals f (is_busy_phase (phase_after b phase)) p.owed (offered f p))
ends_tick f ps p Idle b stands queue tells quiet = ends_none (last_port ps).cyc (pairs_of (exchange ps)) (pairs_opened f ps p queue stands.1 tells ∙ stands.0)
ends_tick f ps p (Wants set) true stands queue tells quiet = stays (last_port ps).cyc (pairs_of (exchange ps))
ends_tick f ps p (Wants set) false stands queue tells quiet = stays (last_port ps).cyc (pairs_of (exchange ps))
ends_tick f ps p (Holds set) b stands queue tells quiet = stays (last_port ps).cyc (pairs_of (exchange ps))
ends_tick f ps p Leaves b stands queue tells quiet = ends_off (last_port ps).cyc (pairs_of (exchange ps)) (λ off. ap pairs_of (quiet off))

pub none_leaves : (phase : Phase) (b : Bool) (ps : List PortRow) → leaving (phase_after b phase) ps ≡ []
none_leaves Idle b ps = refl
none_leaves (Wants set) true ps = refl
none_leaves (Wants set) false ps = refl
none_leaves (Holds set) b ps = refl
none_leaves Leaves b ps = refl

-- ---- the other events

-- raised
pub tells_raise : (f : Fabric) (ps : List PortRow) (p : CorePort) (set : ℕ) → p.opened ≡ [] → p.loaded ≡ [] → IsQueue f p → exchange ps ≡ told p → exchange ps ≡ no_exchange
tells_raise f ps p set opened loaded queue is = is ∙ told_opened f p queue loaded ∙ ap (λ l. record { requests = requests_of l; answers = answers_of l }) opened

pub requests_of-paired : (rs : List Request) (answers : List Answer) → length rs ≡ length answers → requests_of (paired rs answers) ≡ rs
requests_of-paired [] answers same = refl
requests_of-paired (r ∷ rs) [] same = absurd (omega (arith, same))
requests_of-paired (r ∷ rs) (a ∷ answers) same = ap (λ l. r ∷ l) (requests_of-paired rs answers (omega (arith, same)))

pub answers_of-paired : (rs : List Request) (answers : List Answer) → length rs ≡ length answers → answers_of (paired rs answers) ≡ answers
answers_of-paired [] [] same = refl
answers_of-paired [] (a ∷ answers) same = absurd (omega (arith, same))
answers_of-paired (r ∷ rs) [] same = absurd (omega (arith, same))
answers_of-paired (r ∷ rs) (a ∷ answers) same = ap (λ l. a ∷ l) (answers_of-paired rs answers (omega (arith, same)))

answers_of-append : (ps qs : List Pair) → answers_of (ps ++ qs) ≡ answers_of ps ++ answers_of qs
answers_of-append [] qs = refl
answers_of-append (p ∷ ps) qs = ap (λ l. p.answer ∷ l) (answers_of-append ps qs)

take_whole : (n : ℕ) (ops : List Request) → length ops ≤ n → take n ops ≡ ops
take_whole zero [] le = refl
take_whole (suc n) [] le = refl
take_whole zero (r ∷ ops) le = absurd (omega (arith, le))
take_whole (suc n) (r ∷ ops) le = ap (λ l. r ∷ l) (take_whole n ops (omega (arith, le)))

-- the load, answered, goes to the open cycle
pub told_taken : (f : Fabric) (p : CorePort) → IsQueue f p → length p.loaded ≤ length p.got
    → told p ≡ record { requests = requests_of (p.opened ++ paired p.loaded p.got); answers = answers_of (p.opened ++ paired p.loaded p.got) }
told_taken f p queue answered =
    let sent : length p.loaded ≤ p.sent = omega (arith, queue.sent, queue.counted, answered) in
    let same : length p.loaded ≡ length p.got = omega (arith, queue.sent, queue.counted, answered) in
    let requests : performed p ≡ requests_of (p.opened ++ paired p.loaded p.got) =
    ap (λ l. requests_of p.opened ++ l) (take_whole p.sent p.loaded sent ∙ sym (requests_of-paired p.loaded p.got same)) ∙ sym (requests_of-append p.opened (paired p.loaded p.got)) in
    let answers : answers_of p.opened ++ p.got ≡ answers_of (p.opened ++ paired p.loaded p.got) =
    ap (λ l. answers_of p.opened ++ l) (sym (answers_of-paired p.loaded p.got same)) ∙ sym (answers_of-append p.opened (paired p.loaded p.got)) in
    λ i. record { requests = requests i; answers = answers i }

-- a port with these open pairs and nothing loaded
pub opened_told : (pairs : List Pair) (p : CorePort) → p.opened ≡ pairs → p.got ≡ [] → take p.sent p.loaded ≡ [] → told p ≡ record { requests = requests_of pairs; answers = answers_of pairs }
opened_told pairs p opened got sent =
    let requests : performed p ≡ requests_of pairs = ap (λ l. requests_of p.opened ++ l) sent ∙ append-nil (requests_of p.opened) ∙ ap requests_of opened in
    let answers : answers_of p.opened ++ p.got ≡ answers_of pairs = ap (λ l. answers_of p.opened ++ l) got ∙ append-nil (answers_of p.opened) ∙ ap answers_of opened in
    λ i. record { requests = requests i; answers = answers i }

pub told_loaded : (f : Fabric) (p : CorePort) → IsQueue f p → p.loaded ≡ [] → told p ≡ record { requests = requests_of p.opened; answers = answers_of p.opened }
told_loaded f p queue none = told_opened f p queue none

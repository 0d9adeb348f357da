-- The cycles of ports, one after the other.
use Rattle.std.proofs.Common.{◌≡◌, ℕ, zero, suc, ◌+◌, ◌<◌, ◌≤◌, ◌==◌, List, [], ◌∷◌, ◌++◌, length, get_or, set, take, drop, slice_get, max, Bool, Option, Some, refl, ap, sym, ◌∙◌, arith, bit_or, append_assoc, append-nil, take_all}
use Rattle.std.specs.Int.{bit_at}
use Rattle.std.specs.Int.Bits.{or_zero_r}
use Rattle.std.proofs.lemmas.Nat.Bits.{bit_at_or, same_from_bits}
use Rattle.std.proofs.lemmas.List.{map-set, map-append, length-take-le, get_or_at, set_at, take_more, take_more_set, drop_more, drop_all}
use Rattle.wb_signals.specs.declared.slave_set.SlaveSet.{SlaveSet}
use Rattle.soc_core.specs.Core.{CorePort, resting_port, with_phase, phase_after, granted_from, held, held_by, wants_of}
use Rattle.std.proofs.lemmas.Option.{get_or_from_slice_get, slice_get_within}
use Rattle.wb_signals.specs.Request.{Request}
use Rattle.wb_signals.specs.Cycles.{paired}
use Rattle.wb_signals.specs.declared.answer.Answer.{Answer}
use Rattle.wb_crossbar.specs.Looks.{set_in, wanted}
use Rattle.soc_bus.specs.View.{CycleView, states, rooms, sets_given, sets_wanted}

-- ---- the sets that ports wait for

pub wants_more : (wants : List (Option SlaveSet)) (ports : List CycleView) (i : ℕ) (w : Option SlaveSet) (r : CycleView) → i < length wants → i < length ports → r ≡ get_or ports i r
    → set_in (Some w) ≡ wants_of r.state.phase → sets_given (take i wants) ≡ sets_wanted (states (take i ports))
    → sets_given (take (i + 1) (set wants i w)) ≡ sets_wanted (states (take (i + 1) ports))
wants_more wants ports i w r in_wants in_ports is same so_far =
    ap sets_given (take_more_set wants i w in_wants)
    ∙ map-append (λ (x : Option SlaveSet). set_in (Some x)) (take i wants) (w ∷ [])
    ∙ ap (λ xs. xs ++ set_in (Some w) ∷ []) so_far
    ∙ ap (λ x. sets_wanted (states (take i ports)) ++ x ∷ []) same
    ∙ sym (map-append (λ (p : CorePort). wants_of p.phase) (states (take i ports)) (r.state ∷ []))
    ∙ ap sets_wanted (sym (map-append (λ (p : CycleView). p.state) (take i ports) (r ∷ [])))
    ∙ ap (λ ps. sets_wanted (states ps)) (sym (take_more ports i r in_ports ∙ ap (λ x. take i ports ++ x ∷ []) (sym is)))

heads_same : {x y : Option ℕ} {xs ys : List (Option ℕ)} → x ∷ xs ≡ y ∷ ys → x ≡ y
heads_same e = cc

tails_same : {x y : Option ℕ} {xs ys : List (Option ℕ)} → x ∷ xs ≡ y ∷ ys → xs ≡ ys
tails_same e = cc

-- what the arbiter is given is what the core's ports want
pub wanted_is : (wants : List (Option SlaveSet)) (ports : List CorePort) → sets_given wants ≡ sets_wanted ports → (m : ℕ)
    → wanted wants m ≡ wants_of (get_or ports m resting_port).phase
wanted_is [] [] same m = refl
wanted_is [] (p ∷ ports) same m = absurd (let never : [] ≡ wants_of p.phase ∷ sets_wanted ports = same in cc)
wanted_is (w ∷ wants) [] same m = absurd (let never : set_in (Some w) ∷ sets_given wants ≡ [] = same in cc)
wanted_is (w ∷ wants) (p ∷ ports) same zero = heads_same same
wanted_is (w ∷ wants) (p ∷ ports) same (suc m) = wanted_is wants ports (tails_same same) m

-- ---- the held slaves

pub or_assoc : (a b c : ℕ) → bit_or (bit_or a b) c ≡ bit_or a (bit_or b c)
or_assoc a b c = same_from_bits (bit_or (bit_or a b) c) (bit_or a (bit_or b c)) (λ i.
    let left : bit_at (bit_or (bit_or a b) c) i ≡ max (max (bit_at a i) (bit_at b i)) (bit_at c i) = bit_at_or (bit_or a b) c i ∙ ap (λ x. max x (bit_at c i)) (bit_at_or a b i) in
    let right : bit_at (bit_or a (bit_or b c)) i ≡ max (bit_at a i) (max (bit_at b i) (bit_at c i)) = bit_at_or a (bit_or b c) i ∙ ap (λ x. max (bit_at a i) x) (bit_at_or b c i) in
    omega (arith, left, right))

pub held_more : (ports : List CycleView) (i h : ℕ) (r : CycleView) → i < length ports → r ≡ get_or ports i r
    → bit_or h (held (states (drop i ports))) ≡ held (states ports)
    → bit_or (bit_or h (held_by r.state.phase)) (held (states (drop (i + 1) ports))) ≡ held (states ports)
held_more ports i h r within is so_far =
    or_assoc h (held_by r.state.phase) (held (states (drop (i + 1) ports)))
    ∙ ap (λ ps. bit_or h (held (states ps))) (sym (drop_more ports i r within ∙ ap (λ x. x ∷ drop (i + 1) ports) (sym is)))
    ∙ so_far

pub held_all : (ports : List CycleView) (i h : ℕ) → length ports ≤ i → bit_or h (held (states (drop i ports))) ≡ held (states ports) → h ≡ held (states ports)
held_all ports i h past so_far = sym (or_zero_r h) ∙ ap (λ ps. bit_or h (held (states ps))) (sym (drop_all i ports past)) ∙ so_far

-- ---- phases

granted_from-append : (grant n : ℕ) (xs ys : List CorePort) → granted_from grant n (xs ++ ys) ≡ granted_from grant n xs ++ granted_from grant (n + length xs) ys
granted_from-append grant n [] ys = ap (λ k. granted_from grant k ys) (let e : n ≡ n + 0 = omega arith in e)
granted_from-append grant n (x ∷ xs) ys =
    ap (λ rest. with_phase (phase_after (bit_at grant n == 1) x.phase) x ∷ rest)
    (granted_from-append grant (suc n) xs ys ∙ ap (λ k. granted_from grant (suc n) xs ++ granted_from grant k ys) (let e : suc n + length xs ≡ n + suc (length xs) = omega arith in e))

pub length-granted : (grant n : ℕ) (xs : List CorePort) → length (granted_from grant n xs) ≡ length xs
length-granted grant n [] = refl
length-granted grant n (x ∷ xs) = ap (λ (k : ℕ). suc k) (length-granted grant (suc n) xs)

-- the ports after i of them were stepped
abbrev pub stepped_to : ℕ → ℕ → List CorePort → List CorePort
stepped_to grant i ports = granted_from grant 0 (take i ports) ++ drop i ports

seam : (grant i : ℕ) (all : List CorePort) → i < length all → stepped_to grant i all ≡ granted_from grant 0 (take i all) ++ get_or all i resting_port ∷ drop (i + 1) all
seam grant i all within = ap (λ ps. granted_from grant 0 (take i all) ++ ps) (drop_more all i resting_port within)

pub get_state : (ports : List CycleView) (i : ℕ) (r : CycleView) → i < length ports → r ≡ get_or ports i r → get_or (states ports) i resting_port ≡ r.state
get_state [] i r within is = absurd (let never : ⊥ = omega (arith, within) in never)
get_state (p ∷ ports) zero r within is = ap (λ (x : CycleView). x.state) (sym is)
get_state (p ∷ ports) (suc i) r within is = get_state ports i r (omega (arith, within)) is

pub step_more : (grant i : ℕ) (all : List CorePort) (ports : List CycleView) (r q : CycleView) (b : Bool) → i < length all → i < length ports → states ports ≡ stepped_to grant i all → r ≡ get_or ports i r
    → b ≡ (bit_at grant i == 1) → q.state ≡ with_phase (phase_after b r.state.phase) r.state
    → states (set ports i q) ≡ stepped_to grant (i + 1) all
step_more grant i all ports r q b within inside so_far is bit state =
    let long : length (granted_from grant 0 (take i all)) ≡ i = length-granted grant 0 (take i all) ∙ length-take-le i all (omega (arith, within)) in
    let was : r.state ≡ get_or all i resting_port =
    sym (get_state ports i r inside is) ∙ ap (λ ps. get_or ps i resting_port) (so_far ∙ seam grant i all within)
    ∙ get_or_at (granted_from grant 0 (take i all)) (get_or all i resting_port) (drop (i + 1) all) resting_port i long in
    let now : q.state ≡ with_phase (phase_after (bit_at grant i == 1) (get_or all i resting_port).phase) (get_or all i resting_port) =
    state ∙ ap (λ t. with_phase (phase_after t r.state.phase) r.state) bit ∙ ap (λ p. with_phase (phase_after (bit_at grant i == 1) p.phase) p) was in
    let one : granted_from grant (0 + length (take i all)) (get_or all i resting_port ∷ []) ≡ with_phase (phase_after (bit_at grant i == 1) (get_or all i resting_port).phase) (get_or all i resting_port) ∷ [] =
    ap (λ n. granted_from grant n (get_or all i resting_port ∷ [])) (let l = length-take-le i all (let e : i ≤ length all = omega (arith, within) in e) in let e : 0 + length (take i all) ≡ i = omega (arith, l) in e) in
    map-set (λ (p : CycleView). p.state) ports i q
    ∙ ap (λ ps. set ps i q.state) (so_far ∙ seam grant i all within)
    ∙ set_at (granted_from grant 0 (take i all)) (get_or all i resting_port) (drop (i + 1) all) q.state i long
    ∙ sym (append_assoc (granted_from grant 0 (take i all)) (q.state ∷ []) (drop (i + 1) all))
    ∙ ap (λ x. granted_from grant 0 (take i all) ++ x ∷ [] ++ drop (i + 1) all) now
    ∙ ap (λ xs. granted_from grant 0 (take i all) ++ xs ++ drop (i + 1) all) (sym one)
    ∙ ap (λ xs. xs ++ drop (i + 1) all) (sym (granted_from-append grant 0 (take i all) (get_or all i resting_port ∷ [])))
    ∙ ap (λ xs. granted_from grant 0 xs ++ drop (i + 1) all) (sym (take_more all i resting_port within))

pub stepped_all : (grant i : ℕ) (all ports : List CorePort) → length all ≤ i → ports ≡ stepped_to grant i all → ports ≡ granted_from grant 0 all
stepped_all grant i all ports past is =
    is ∙ ap (λ xs. granted_from grant 0 xs ++ drop i all) (take_all i all past) ∙ ap (λ xs. granted_from grant 0 all ++ xs) (drop_all i all past) ∙ append-nil (granted_from grant 0 all)

rooms-same : (ports : List CycleView) (i : ℕ) (q r : CycleView) → r ≡ get_or ports i r → q.room ≡ r.room → rooms (set ports i q) ≡ rooms ports
rooms-same [] i q r is same = refl
rooms-same (p ∷ ports) zero q r is same = ap (λ n. n ∷ rooms ports) (same ∙ ap (λ (x : CycleView). x.room) is)
rooms-same (p ∷ ports) (suc i) q r is same = ap (λ ns. p.room ∷ ns) (rooms-same ports i q r is same)

pub rooms_more : (ports : List CycleView) (i : ℕ) (q r : CycleView) (all : List ℕ) → r ≡ get_or ports i r → q.room ≡ r.room → rooms ports ≡ all → rooms (set ports i q) ≡ all
rooms_more ports i q r all is same so_far = rooms-same ports i q r is same ∙ so_far

-- ---- pairs

pub pair_more : (ops : List Request) (answers : List Answer) (i : ℕ) (r : Request) (a : Answer) → slice_get ops i ≡ Some r → slice_get answers i ≡ Some a
    → paired (drop i ops) (drop i answers) ≡ record { request = r; answer = a } ∷ paired (drop (i + 1) ops) (drop (i + 1) answers)
pair_more ops answers i r a e f =
    let one = drop_more ops i r (slice_get_within ops i r e) ∙ ap (λ x. x ∷ drop (i + 1) ops) (get_or_from_slice_get ops i r r e) in
    let two = drop_more answers i a (slice_get_within answers i a f) ∙ ap (λ x. x ∷ drop (i + 1) answers) (get_or_from_slice_get answers i a a f) in
    λ j. paired (one j) (two j)

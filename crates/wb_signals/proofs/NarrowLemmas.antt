-- A bus of 32 data bits behind a port of 64 does what the bus does at the half of an operation.
use Rattle.std.proofs.Common.{◌≡◌, ℕ, suc, ◌-◌, ◌/◌, ◌%◌, ◌^◌, ◌<◌, ◌≤◌, ◌==◌, ◌&&◌, not, nat_lt, nat_le, List, [], ◌∷◌, ◌++◌, length, length-append, get_or, set, map, Bool, true, false, cond, refl, ap, sym, ◌∙◌, subst, arith, Option, Some, None}
use Rattle.std.specs.List.{list_any}
use Rattle.std.specs.Option.{ForSome}
use Rattle.std.proofs.lemmas.List.{length-map}
use Rattle.eb_base.specs.declared.width.Width.TheVariants.{W32, W64}
use Rattle.eb_base.specs.Field.{number_at}
use Rattle.eb_base.specs.Lanes.{selected}
use Rattle.eb_base.proofs.LaneLemmas.{selected-lt}
use Rattle.wb_signals.specs.Request.{Request}
use Rattle.wb_signals.specs.Content.{Content, Nothing, Ram, Rom, Registers, Fifo}
use Rattle.wb_signals.specs.Device.{Outcome, outcome, with_lanes, lanes_read, no_register, register_after, popped, pushed, counted, device}
use Rattle.wb_signals.specs.Wiring.{Wiring, Arrival, Step, lifted, stepped, step}
use Rattle.wb_signals.specs.Bus.{Child, covers, inside, farther, leaf, places_in, route_in, queue_in, wait_in, bus, Half, Upper, Lower, Both, half_of, narrow_route, narrow}
use Rattle.wb_signals.specs.History.{contents_after}
use Rattle.wb_signals.specs.Cycles.{FitsBus}
use Rattle.wb_signals.specs.Slave.{Owed, Slave, IsShaped, sooner, given, left, listed, owed_for, owed_after, ticked, is_stalled, owes}
use Rattle.wb_signals.specs.Parts.{Part, child_of, contents_in, places_before, FitsIn, AllFitIn}
use Rattle.wb_signals.specs.Turn.{owed_by, bus_slave}
use Rattle.wb_signals.specs.Narrow.{IsOf32, AllOf32, FitsHalf, AllFitHalf, is_upper, nowhere, halved_by, halved, halved_op, owed_back, answer_back, uppers_left, uppers_after, narrow_slave}
use Rattle.wb_signals.specs.declared.answer.Answer.{Answer}
use Rattle.wb_signals.specs.declared.answer.Answer.TheVariants.{Ack, Err, Rty}
use Rattle.wb_signals.specs.declared.debtor.Debtor.{Debtor}
use Rattle.wb_signals.specs.declared.debtor.Debtor.TheVariants.{Nobody}
use Rattle.wb_signals.proofs.BusLemmas.{Past, past_end, past_over, aimed, route_in-Past, stepped-miss, length-contents_in}
use Rattle.wb_signals.proofs.ShapeLemmas.{places_some, leads-within, queues-within, takes_by}
use Rattle.wb_signals.proofs.TurnLemmas.{both, below, equal, fits-takes}

-- ---- answers on their way back

given_by : (b u : Bool) (us : List Bool) (answer : Answer) → cond b (Some (lifted u answer)) None ≡ answer_back (u ∷ us) (cond b (Some answer) None)
given_by true u us answer = refl
given_by false u us answer = refl

pub given-back : (us : List Bool) (owed : List Owed) → length us ≡ length owed → given (owed_back us owed) ≡ answer_back us (given owed)
given-back us [] e = refl
given-back [] (o ∷ os) e = absurd (omega arith)
given-back (u ∷ us) (o ∷ os) e = given_by (o.due == 0) u us o.answer

sooner-back : (us : List Bool) (owed : List Owed) → map sooner (owed_back us owed) ≡ owed_back us (map sooner owed)
sooner-back us [] = refl
sooner-back [] (o ∷ os) = refl
sooner-back (u ∷ us) (o ∷ os) = ap (λ os. record { place = o.place; answer = lifted u o.answer; due = o.due - 1 } ∷ os) (sooner-back us os)

left_by : (b u : Bool) (us : List Bool) (o : Owed) (os : List Owed)
    → cond b (map sooner (owed_back us os)) (map sooner (owed_back (u ∷ us) (o ∷ os))) ≡ owed_back (uppers_left (u ∷ us) (cond b (Some o.answer) None)) (cond b (map sooner os) (map sooner (o ∷ os)))
left_by true u us o os = sooner-back us os
left_by false u us o os = sooner-back (u ∷ us) (o ∷ os)

left-back : (us : List Bool) (owed : List Owed) → length us ≡ length owed → left (owed_back us owed) ≡ owed_back (uppers_left us (given owed)) (left owed)
left-back us [] e = refl
left-back [] (o ∷ os) e = absurd (omega arith)
left-back (u ∷ us) (o ∷ os) e = left_by (o.due == 0) u us o os

kept_by : (b u : Bool) (us : List Bool) (o : Owed) (os : List Owed) → length us ≡ length os
    → length (uppers_left (u ∷ us) (cond b (Some o.answer) None)) ≡ length (cond b (map sooner os) (map sooner (o ∷ os)))
kept_by true u us o os e = e ∙ sym (length-map os sooner)
kept_by false u us o os e = omega (arith, e, length-map os sooner)

pub length-kept : (us : List Bool) (owed : List Owed) → length us ≡ length owed → length (uppers_left us (given owed)) ≡ length (left owed)
length-kept us [] e = e
length-kept [] (o ∷ os) e = absurd (omega arith)
length-kept (u ∷ us) (o ∷ os) e = kept_by (o.due == 0) u us o os (omega arith)

append-back : (us : List Bool) (owed : List Owed) (u : Bool) (o : Owed) → length us ≡ length owed
    → owed_back (us ++ u ∷ []) (owed ++ o ∷ []) ≡ owed_back us owed ++ record { place = o.place; answer = lifted u o.answer; due = o.due } ∷ []
append-back [] [] u o e = refl
append-back [] (p ∷ os) u o e = absurd (omega arith)
append-back (v ∷ us) [] u o e = absurd (omega arith)
append-back (v ∷ us) (p ∷ os) u o e = ap (λ os. record { place = p.place; answer = lifted v p.answer; due = p.due } ∷ os) (append-back us os u o (omega arith))

pub length-back : (us : List Bool) (owed : List Owed) → length (owed_back us owed) ≡ length owed
length-back us [] = refl
length-back [] (o ∷ os) = refl
length-back (u ∷ us) (o ∷ os) = ap (λ (n : ℕ). suc n) (length-back us os)

pub owes-back : (us : List Bool) (owed : List Owed) → owes (owed_back us owed) ≡ owes owed
owes-back us [] = refl
owes-back [] (o ∷ os) = refl
owes-back (u ∷ us) (o ∷ os) = refl

any_place-back : (i : ℕ) (us : List Bool) (owed : List Owed) → list_any (λ o. not (o.place == i)) (owed_back us owed) ≡ list_any (λ o. not (o.place == i)) owed
any_place-back i us [] = refl
any_place-back i [] (o ∷ os) = refl
any_place-back i (u ∷ us) (o ∷ os) = rw (any_place-back i us os) refl

any_due-back : (us : List Bool) (owed : List Owed) → list_any (λ o. not (o.due == 0)) (owed_back us owed) ≡ list_any (λ o. not (o.due == 0)) owed
any_due-back us [] = refl
any_due-back [] (o ∷ os) = refl
any_due-back (u ∷ us) (o ∷ os) = rw (any_due-back us os) refl

-- ---- an address that no child has

pub nowhere-word : (children : List Child) → nowhere children % 4 ≡ 0
nowhere-word [] = refl
nowhere-word (child ∷ children) = omega (arith, nowhere-word children)

above : (first adr last : ℕ) → last < adr → (nat_le first adr && nat_le adr last) ≡ false
above first adr last h = grind arith

past_above : (parts : List Part) (adr : ℕ) → nowhere (map child_of parts) ≤ adr → Past parts adr
past_above [] adr h = past_end
past_above (p ∷ parts) adr h = past_over (above p.first adr p.last (omega (arith, h))) (past_above parts adr (omega (arith, h)))

pub past_nowhere : (parts : List Part) → Past parts (nowhere (map child_of parts))
past_nowhere parts = past_above parts (nowhere (map child_of parts)) (omega arith)

-- ---- the half of an operation

halves_by : (b c : Bool) (children : List Child) (r : Request) → (r.sel % 16 == 0) ≡ b → nat_lt r.sel 16 ≡ c → FitsBus W64 r
    → FitsBus W32 (halved_by (cond b Upper (cond c Lower Both)) children r)
halves_by true c children r e f h = let a = h.0 in let l = h.1 in (omega (arith, a), omega (arith, l))
halves_by false true children r e f h = let a = h.0 in let l : r.sel < 16 = grind (arith, f) in (omega (arith, a), l)
halves_by false false children r e f h = (nowhere-word children, omega arith)

pub halves-fit : (children : List Child) (r : Request) → FitsBus W64 r → FitsBus W32 (halved children r)
halves-fit children r h = halves_by (r.sel % 16 == 0) (nat_lt r.sel 16) children r refl refl h

pub narrow-fits : (children : List Child) (r : Request) → (narrow children).accepts r ≡ true → FitsBus W64 r
unfolding narrow
narrow-fits children r h = let p = both (r.adr % 8 == 0) (nat_lt r.sel 256) h in (equal (r.adr % 8) 0 p.0, below r.sel 256 p.1)

-- ---- where it goes

places_in-last : (parts : List Part) → places_in (map child_of parts) - 1 ≡ places_before (length parts) parts
places_in-last [] = refl
places_in-last (p ∷ parts) = omega (arith, places_in-last parts, places_some (map child_of parts))

place_by : (h : Half) (parts : List Part) (r : Request)
    → (narrow_route h (map child_of parts) r).place ≡ (route_in W32 (map child_of parts) (halved_by h (map child_of parts) r)).place
place_by Upper parts r = refl
place_by Lower parts r = refl
place_by Both parts r =
    places_in-last parts
    ∙ ap (λ (a : Arrival). a.place) (sym (route_in-Past W32 {r = halved_by Both (map child_of parts) r} (past_nowhere parts)))

of_by : (b : Bool) (near far : Arrival) → (near.bus ≡ W32) × (near.upper_half ≡ false) → (far.bus ≡ W32) × (far.upper_half ≡ false) → ((cond b near far).bus ≡ W32) × ((cond b near far).upper_half ≡ false)
of_by true near far n f = n
of_by false near far n f = f

of-route : (children : List Child) (r : Request) → AllOf32 children → ((route_in W32 children r).bus ≡ W32) × ((route_in W32 children r).upper_half ≡ false)
of-route [] r w = (refl, refl)
of-route (child ∷ children) r w =
    of_by (covers child r.adr) (child.wiring.route (inside child r)) (farther child.wiring.places (route_in W32 children r))
    (w.0.bus (inside child r), w.0.whole (inside child r)) (of-route children r w.1)

-- A leaf of 32 data bits, and a bus of children of 32 data bits.
pub leaf-of : (size wait : ℕ) (stalls : Bool) → IsOf32 (leaf W32 size wait stalls)
leaf-of size wait stalls = record { bus = λ r. refl; whole = λ r. refl }

pub bus-of : (children : List Child) → AllOf32 children → IsOf32 (bus W32 children)
unfolding bus
bus-of children w = record { bus = λ r. (of-route children r w).0; whole = λ r. (of-route children r w).1 }

stepped-lifted : (contents : List Content) (a : Arrival) (u : Bool) → a.upper_half ≡ false
    → stepped contents (record { place = a.place; bus = a.bus; request = a.request; upper_half = u }) ≡ record { contents = (stepped contents a).contents; answer = lifted u (stepped contents a).answer }
unfolding stepped
stepped-lifted contents a u h = rw h refl

step_by : (h : Half) (parts : List Part) (r : Request) → AllFitIn W32 parts → AllOf32 (map child_of parts)
    → let s = stepped (contents_in parts) (route_in W32 (map child_of parts) (halved_by h (map child_of parts) r)) in
    stepped (contents_in parts) (narrow_route h (map child_of parts) r) ≡ record { contents = s.contents; answer = lifted (is_upper h) s.answer }
step_by Upper parts r f w =
    stepped-lifted (contents_in parts) (route_in W32 (map child_of parts) (halved_by Upper (map child_of parts) r)) true
    (of-route (map child_of parts) (halved_by Upper (map child_of parts) r) w).1
step_by Lower parts r f w = refl
step_by Both parts r f w =
    let q = halved_by Both (map child_of parts) r in
    let miss = ap (stepped (contents_in parts)) (route_in-Past W32 {r = q} (past_nowhere parts)) ∙ stepped-miss W32 parts q f in
    ap (λ (n : ℕ). stepped (contents_in parts) (record { place = n; bus = W32; request = r; upper_half = false })) (places_in-last parts)
    ∙ stepped-miss W32 parts r f ∙ sym miss

-- ---- a clock

module _ (parts : List Part) where
  abbrev inner : Wiring
  inner = bus W32 (map child_of parts)

  abbrev outer : Wiring
  outer = narrow (map child_of parts)

  pub stalled-narrow : (us : List Bool) (owed : List Owed) (r : Request) → is_stalled outer (owed_back us owed) r ≡ is_stalled inner owed (halved (map child_of parts) r)
  unfolding bus narrow
  stalled-narrow us owed r =
      let place = ap (queue_in (map child_of parts)) (place_by (half_of r.sel) parts r) in
      let queue = queue_in (map child_of parts) (route_in W32 (map child_of parts) (halved (map child_of parts) r)).place in
      rw (place, any_place-back queue us owed, any_due-back us owed) refl

  module _ (f : AllFitIn W32 parts) (w : AllOf32 (map child_of parts)) where
    step-narrow : (r : Request)
        → let s = step inner (contents_in parts) (halved (map child_of parts) r) in
        step outer (contents_in parts) r ≡ record { contents = s.contents; answer = lifted (is_upper (half_of r.sel)) s.answer }
    unfolding bus narrow
    step-narrow r = step_by (half_of r.sel) parts r f w

    owed_for-narrow : (r : Request)
        → let o = owed_for inner (contents_in parts) (halved (map child_of parts) r) in
        let back : Owed = record { place = o.place; answer = lifted (is_upper (half_of r.sel)) o.answer; due = o.due } in
        owed_for outer (contents_in parts) r ≡ back
    unfolding bus narrow
    owed_for-narrow r =
        let place = ap (queue_in (map child_of parts)) (place_by (half_of r.sel) parts r) in
        let answer = ap (λ (s : Step). s.answer) (step-narrow r) in
        λ i. record { place = place i; answer = answer i; due = wait_in (map child_of parts) (place i) }

    pub owed-narrow : (us : List Bool) (owed : List Owed) (op : Option Request) → length us ≡ length owed
        → owed_back (uppers_after us (given owed) op) (owed_after inner (contents_in parts) owed (halved_op (map child_of parts) op))
        ≡ owed_after outer (contents_in parts) (owed_back us owed) op
    owed-narrow us owed None e = sym (left-back us owed e)
    owed-narrow us owed (Some r) e =
        append-back (uppers_left us (given owed)) (left owed) (is_upper (half_of r.sel)) (owed_for inner (contents_in parts) (halved (map child_of parts) r)) (length-kept us owed e)
        ∙ rw (left-back us owed e, owed_for-narrow r) refl

    pub contents-narrow : (op : Option Request) → contents_after inner (contents_in parts) (listed (halved_op (map child_of parts) op)) ≡ contents_after outer (contents_in parts) (listed op)
    contents-narrow None = refl
    contents-narrow (Some r) = ap (λ (s : Step). s.contents) (sym (step-narrow r))

    -- What a clock makes of it, where that is what the clock makes of the bus.
    pub narrow-ticked : (debtor after : Debtor) (now : List Part) (us : List Bool) (op : Option Request) → length us ≡ length (owed_by parts debtor) → map child_of now ≡ map child_of parts
        → bus_slave W32 now after ≡ ticked (bus_slave W32 parts debtor) (halved_op (map child_of parts) op)
        → narrow_slave now after (uppers_after us (given (owed_by parts debtor)) op) ≡ ticked (narrow_slave parts debtor us) op
    narrow-ticked debtor after now us op e same t =
        let owed = owed_by parts debtor in
        let c = ap (λ (s : Slave). s.contents) t ∙ contents-narrow op in
        let o = ap (λ (s : Slave). owed_back (uppers_after us (given owed) op) s.owed) t ∙ owed-narrow us owed op e in
        λ i. record { wiring = narrow (same i); contents = c i; owed = o i }

-- ---- words of 32 bits

short_by : (b : Bool) (x y : Outcome) → FitsHalf x.answer → FitsHalf y.answer → FitsHalf (cond b x y).answer
short_by true x y a b = a
short_by false x y a b = b

short-lanes : (lanes sel word : ℕ) → lanes ≡ 4 → selected lanes sel word < 2 ^ 32
short-lanes lanes sel word e = let h = selected-lt lanes sel word in let p : 256 ^ lanes ≡ 2 ^ 32 = rw e refl in omega (arith, h, p)

short-pop : (depth : ℕ) (words : List ℕ) (r : Request) → FitsHalf (popped depth words r).answer
short-pop depth [] r = tt
short-pop depth (word ∷ words) r = short-lanes 4 r.sel word refl

short-push : (depth : ℕ) (words : List ℕ) (r : Request) → FitsHalf (pushed depth words r).answer
short-push depth words r = short_by (nat_le depth (length words)) (outcome (Fifo depth words) Rty) (outcome (Fifo depth (words ++ r.dat ∷ [])) (Ack 0)) tt (omega arith)

short-count : (depth : ℕ) (words : List ℕ) (r : Request) → FitsHalf (counted depth words r).answer
short-count depth words r =
    short_by r.write (outcome (Fifo depth words) Err) (outcome (Fifo depth words) (Ack (selected 4 r.sel (length words)))) tt (short-lanes 4 r.sel (length words) refl)

short-device : (content : Content) (r : Request) → FitsHalf (device W32 content r).answer
short-device Nothing r = tt
short-device (Ram content) r =
    short_by r.write (outcome (Ram (with_lanes W32 content r)) (Ack 0)) (outcome (Ram content) (lanes_read W32 content r)) (omega arith)
    (short-lanes 4 r.sel (number_at W32 content r.adr) refl)
short-device (Rom content) r =
    short_by r.write (outcome (Rom content) Err) (outcome (Rom content) (lanes_read W32 content r)) tt (short-lanes 4 r.sel (number_at W32 content r.adr) refl)
short-device (Registers registers) r =
    let register = get_or registers (r.adr / 4) no_register in
    short_by r.write (outcome (Registers (set registers (r.adr / 4) (register_after r register))) (Ack 0)) (outcome (Registers registers) (Ack (selected 4 r.sel register.word))) (omega arith)
    (short-lanes 4 r.sel register.word refl)
short-device (Fifo depth words) r =
    short_by (r.adr == 0) (cond r.write (pushed depth words r) (popped depth words r)) (counted depth words r)
    (short_by r.write (pushed depth words r) (popped depth words r) (short-push depth words r) (short-pop depth words r)) (short-count depth words r)

short-stepped : (contents : List Content) (a : Arrival) → a.bus ≡ W32 → a.upper_half ≡ false → FitsHalf (stepped contents a).answer
unfolding stepped
short-stepped contents a b h = rw (b, h) (short-device (get_or contents a.place Nothing) a.request)

short-sooner : (owed : List Owed) → AllFitHalf owed → AllFitHalf (map sooner owed)
short-sooner [] h = tt
short-sooner (o ∷ os) h = (h.0, short-sooner os h.1)

short-left_by : (b : Bool) (o : Owed) (os : List Owed) → AllFitHalf (o ∷ os) → AllFitHalf (cond b (map sooner os) (map sooner (o ∷ os)))
short-left_by true o os h = short-sooner os h.1
short-left_by false o os h = short-sooner (o ∷ os) h

short-left : (owed : List Owed) → AllFitHalf owed → AllFitHalf (left owed)
short-left [] h = tt
short-left (o ∷ os) h = short-left_by (o.due == 0) o os h

short-append : (owed : List Owed) (o : Owed) → AllFitHalf owed → FitsHalf o.answer → AllFitHalf (owed ++ o ∷ [])
short-append [] o h s = (s, tt)
short-append (p ∷ os) o h s = (h.0, short-append os o h.1 s)

pub short-after : (children : List Child) (contents : List Content) (owed : List Owed) (op : Option Request) → AllOf32 children → AllFitHalf owed → AllFitHalf (owed_after (bus W32 children) contents owed op)
short-after children contents owed None w h = short-left owed h
short-after children contents owed (Some r) w h =
    let b = bus-of children w in
    short-append (left owed) _ (short-left owed h) (short-stepped contents ((bus W32 children).route r) (b.bus r) (b.whole r))

short-given_by : (b : Bool) (answer x : Answer) → cond b (Some answer) None ≡ Some x → FitsHalf answer → FitsHalf x
short-given_by true answer x e h = subst FitsHalf (cc) h
short-given_by false answer x e h = absurd (cc)

pub short-given : (owed : List Owed) → AllFitHalf owed → ForSome (given owed) FitsHalf
short-given [] h x e = absurd (cc)
short-given (o ∷ os) h x e = short-given_by (o.due == 0) o.answer x e h.0

-- There is one kept for each answer owed.
pub length-uppers : (us : List Bool) (owed : List Owed) (wiring : Wiring) (contents : List Content) (op : Option Request) (children : List Child) → length us ≡ length owed
    → length (uppers_after us (given owed) op) ≡ length (owed_after wiring contents owed (halved_op children op))
length-uppers us owed wiring contents None children e = length-kept us owed e
length-uppers us owed wiring contents (Some r) children e =
    omega (arith, length-kept us owed e, length-append (uppers_left us (given owed)) (is_upper (half_of r.sel) ∷ []), length-append (left owed) (owed_for wiring contents (halved children r) ∷ []))

-- ---- on a bus of 64 data bits

narrow_shaped : (parts : List Part) → AllFitIn W32 parts → IsShaped (narrow_slave parts Nobody [])
unfolding narrow
narrow_shaped parts f = record {
  all = length-contents_in W32 parts f;
  within = λ r t.
      (let q = halved (map child_of parts) r in
      let q_taken = fits-takes W32 (map child_of parts) q (halves-fit (map child_of parts) r (narrow-fits (map child_of parts) r t)) in
      rw (place_by (half_of r.sel) parts r) (leads-within W32 q (aimed parts q.adr) f q_taken));
  queues = queues-within W32 parts f;
  owing = tt;
}

-- It fits such a bus, at any addresses.
pub narrow_fits : (parts : List Part) (first last : ℕ) (slave : Slave) → slave ≡ narrow_slave parts Nobody [] → AllFitIn W32 parts → first % 8 ≡ 0
    → let part : Part = record { first = first; last = last; slave = slave } in FitsIn W64 part
unfolding narrow
narrow_fits parts first last slave e f b =
    rw e (record { shaped = narrow_shaped parts f; takes = λ r c t. takes_by W64 r.adr r.sel first last b c t })

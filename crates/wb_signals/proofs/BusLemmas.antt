-- A bus does what its child does, at the child's places.
use Rattle.std.proofs.Common.{◌≡◌, ◌≢◌, ℕ, zero, suc, ◌+◌, ◌-◌, ◌<◌, ◌≤◌, List, [], ◌∷◌, ◌++◌, length, length-append, get_or, set, map, Bool, true, false, cond, refl, ap, sym, add_assoc, ◌∙◌, arith, zero-add, Option, Some, None, ◌==◌, ◌&&◌, ◌||◌, not, nat_lt, subst, add-one}
use Rattle.std.specs.List.{list_any}
use Rattle.std.proofs.lemmas.List.{set-append_left, set-append_right, get_or-append_right, map-append, length-set}
use Rattle.std.proofs.Math.ListN.{get_or-append}
use Rattle.eb_base.specs.declared.width.Width.{Width}
use Rattle.wb_signals.specs.Request.{Request}
use Rattle.wb_signals.specs.Content.{Content, Nothing}
use Rattle.wb_signals.specs.Wiring.{Wiring, Arrival, Step, stepped, step}
use Rattle.wb_signals.specs.Bus.{Child, covers, inside, farther, places_in, route_in, queue_in, wait_in, stalls_in, bus}
use Rattle.wb_signals.specs.History.{contents_after}
use Rattle.wb_signals.specs.Slave.{Owed, Slave, sooner, given, left, owed_after, ticked, stalls, is_stalled, queue_to, PlacesBelow, IsShaped, owes}
use Rattle.wb_signals.specs.Parts.{Part, child_of, child_at, child_with, contents_in, farther_owed, places_before, miss_owed, part_at, part_ticked, FitsIn, AllFitIn}
use Rattle.wb_signals.specs.declared.answer.Answer.{Answer}
use Rattle.wb_signals.specs.declared.answer.Answer.TheVariants.{Err}

-- The child number k of these is q.
pub data Nth : List Part → ℕ → Part → Type 0 where
  nth_here : {q : Part} {parts : List Part} → Nth (q ∷ parts) 0 q
  nth_there : {p q : Part} {parts : List Part} {k : ℕ} → Nth parts k q → Nth (p ∷ parts) (suc k) q

-- It holds the address, and is the first to do so.
pub data At : List Part → ℕ → ℕ → Part → Type 0 where
  at_here : {q : Part} {parts : List Part} {adr : ℕ} → covers (child_of q) adr ≡ true → At (q ∷ parts) adr 0 q
  at_there : {p q : Part} {parts : List Part} {adr k : ℕ} → covers (child_of p) adr ≡ false → At parts adr k q → At (p ∷ parts) adr (suc k) q

-- No child of these holds the address.
pub data Past : List Part → ℕ → Type 0 where
  past_end : {adr : ℕ} → Past [] adr
  past_over : {p : Part} {parts : List Part} {adr : ℕ} → covers (child_of p) adr ≡ false → Past parts adr → Past (p ∷ parts) adr

-- The address is a child's, or no child's.
pub data Aimed : List Part → ℕ → ℕ → Type 0 where
  at_child : {parts : List Part} {adr k : ℕ} {q : Part} → At parts adr k q → Aimed parts adr k
  at_miss : {parts : List Part} {adr k : ℕ} → Past parts adr → k ≡ length parts → Aimed parts adr k

pub nth_of-At : {parts : List Part} {adr k : ℕ} {q : Part} → At parts adr k q → Nth parts k q
nth_of-At (at_here e) = nth_here
nth_of-At (at_there e w) = nth_there (nth_of-At w)

pub nth : (parts : List Part) (k : ℕ) → k < length parts → Nth parts k (part_at parts k)
nth [] k h = absurd (omega arith)
nth (p ∷ parts) zero h = nth_here
nth (p ∷ parts) (suc k) h = nth_there (nth parts k (omega arith))

pub nth-is : {parts : List Part} {k : ℕ} {q : Part} → Nth parts k q → part_at parts k ≡ q
nth-is nth_here = refl
nth-is (nth_there w) = nth-is w

pub nth-within : {parts : List Part} {k : ℕ} {q : Part} → Nth parts k q → k < length parts
nth-within nth_here = omega arith
nth-within (nth_there w) = omega (arith, nth-within w)

pub fit-Nth : (width : Width) {parts : List Part} {k : ℕ} {q : Part} → Nth parts k q → AllFitIn width parts → FitsIn width q
fit-Nth width nth_here f = f.0
fit-Nth width (nth_there w) f = fit-Nth width w f.1

pub covers-At : {parts : List Part} {adr k : ℕ} {q : Part} → At parts adr k q → covers (child_of q) adr ≡ true
covers-At (at_here e) = e
covers-At (at_there e w) = covers-At w

-- ---- where an address goes

aimed_next : {p : Part} {parts : List Part} {adr k : ℕ} → covers (child_of p) adr ≡ false → Aimed parts adr k → Aimed (p ∷ parts) adr (k + 1)
aimed_next e (at_child w) = rw add-one (at_child (at_there e w))
aimed_next e (at_miss w h) = at_miss (past_over e w) (omega arith)

aimed_by : (b : Bool) (p : Part) (parts : List Part) (adr : ℕ) → covers (child_of p) adr ≡ b → Aimed parts adr (child_at (map child_of parts) adr)
    → Aimed (p ∷ parts) adr (cond b 0 (child_at (map child_of parts) adr + 1))
aimed_by true p parts adr e a = at_child (at_here e)
aimed_by false p parts adr e a = aimed_next e a

pub aimed : (parts : List Part) (adr : ℕ) → Aimed parts adr (child_at (map child_of parts) adr)
aimed [] adr = at_miss past_end refl
aimed (p ∷ parts) adr = aimed_by (covers (child_of p) adr) p parts adr refl (aimed parts adr)

pub aimed-within : {parts : List Part} {adr k : ℕ} → Aimed parts adr k → k ≤ length parts
aimed-within (at_child (at_here e)) = omega arith
aimed-within (at_child (at_there e w)) = omega (arith, aimed-within (at_child w))
aimed-within (at_miss w h) = omega arith

-- an address that goes to child k is at it
pub at-Nth : {parts : List Part} {adr k : ℕ} {q : Part} → Aimed parts adr k → Nth parts k q → At parts adr k q
at-Nth (at_child (at_here e)) nth_here = at_here e
at-Nth (at_child (at_there e w)) (nth_there n) = at_there e (at-Nth (at_child w) n)
at-Nth {k = k} (at_miss w h) n = absurd (omega (arith, nth-within n))

pub past-length : {parts : List Part} {adr k : ℕ} → Aimed parts adr k → k ≡ length parts → Past parts adr
past-length (at_child w) e = absurd (omega (arith, nth-within (nth_of-At w)))
past-length (at_miss w h) e = w

-- ---- steps and places

stepped-left : (c rest : List Content) (a : Arrival) → a.place < length c
    → stepped (c ++ rest) a ≡ record { contents = (stepped c a).contents ++ rest; answer = (stepped c a).answer }
unfolding stepped
stepped-left c rest a h =
    let g : get_or (c ++ rest) a.place Nothing ≡ get_or c a.place Nothing = get_or-append c rest Nothing a.place h in
    rw (g, set-append_left c rest a.place _ h) refl

stepped-right : (c rest : List Content) (n : ℕ) (a : Arrival) → length c ≡ n
    → stepped (c ++ rest) (farther n a) ≡ record { contents = c ++ (stepped rest a).contents; answer = (stepped rest a).answer }
unfolding stepped
stepped-right c rest n a h =
    let g : get_or (c ++ rest) (n + a.place) Nothing ≡ get_or rest (n + a.place - n) Nothing = get_or-append_right c rest n (n + a.place) Nothing h (omega arith) in
    let m : n + a.place - n ≡ a.place = omega arith in
    rw (g, m, set-append_right c rest n (n + a.place) _ h (omega arith), m) refl

pub length-contents_in : (width : Width) (parts : List Part) → AllFitIn width parts → length (contents_in parts) ≡ places_in (map child_of parts)
length-contents_in width [] f = refl
length-contents_in width (p ∷ parts) f = length-append p.slave.contents (contents_in parts) ∙ (let a = f.0.shaped.all in let b = length-contents_in width parts f.1 in cc)

farther-zero : (a : Arrival) → a ≡ farther 0 a
farther-zero a = ap (λ n. record { place = n; bus = a.bus; request = a.request; upper_half = a.upper_half }) (sym (zero-add a.place))

farther-farther : (m n : ℕ) (a : Arrival) → farther m (farther n a) ≡ farther (m + n) a
farther-farther m n a = ap (λ n. record { place = n; bus = a.bus; request = a.request; upper_half = a.upper_half }) (sym (add_assoc m n a.place))

pub nat_lt-true : (i n : ℕ) → i < n → nat_lt i n ≡ true
nat_lt-true i n h = grind arith

pub nat_lt-false : (i n : ℕ) → n ≤ i → nat_lt i n ≡ false
nat_lt-false i n h = grind arith

-- Where an operation goes in a bus is where it goes in the child that holds its address.
pub route_in-At : (width : Width) {parts : List Part} {r : Request} {k : ℕ} {q : Part} → At parts r.adr k q
    → route_in width (map child_of parts) r ≡ farther (places_before k parts) (q.slave.wiring.route (inside (child_of q) r))
route_in-At width {r = r} (at_here {q} e) = rw e (farther-zero (q.slave.wiring.route (inside (child_of q) r)))
route_in-At width {r = r} (at_there {p} {q} {parts} {adr} {k} e w) =
    rw e (ap (farther p.slave.wiring.places) (route_in-At width {r = r} w) ∙ farther-farther p.slave.wiring.places (places_before k parts) (q.slave.wiring.route (inside (child_of q) r)))

pub route_in-Past : (width : Width) {parts : List Part} {r : Request} → Past parts r.adr
    → route_in width (map child_of parts) r ≡ record { place = places_before (length parts) parts; bus = width; request = r; upper_half = false }
route_in-Past width past_end = refl
route_in-Past width {r = r} (past_over {p} {parts} e w) = rw e (ap (farther p.slave.wiring.places) (route_in-Past width {r = r} w))

-- The wait and the hold of a place are those of the child.
wait_in-Nth : {parts : List Part} {k : ℕ} {q : Part} → Nth parts k q → (i : ℕ) → i < q.slave.wiring.places
    → wait_in (map child_of parts) (places_before k parts + i) ≡ q.slave.wiring.wait i
wait_in-Nth (nth_here {q}) i h = rw (zero-add, nat_lt-true i q.slave.wiring.places h) refl
wait_in-Nth (nth_there {p} {q} {parts} {k} w) i h =
    let n = p.slave.wiring.places in
    let m : n + places_before k parts + i - n ≡ places_before k parts + i = omega arith in
    rw (nat_lt-false (n + places_before k parts + i) n (omega arith), m) (wait_in-Nth w i h)

stalls_in-Nth : {parts : List Part} {k : ℕ} {q : Part} → Nth parts k q → (i : ℕ) → i < q.slave.wiring.places
    → stalls_in (map child_of parts) (places_before k parts + i) ≡ q.slave.wiring.stalls i
stalls_in-Nth (nth_here {q}) i h = rw (zero-add, nat_lt-true i q.slave.wiring.places h) refl
stalls_in-Nth (nth_there {p} {q} {parts} {k} w) i h =
    let n = p.slave.wiring.places in
    let m : n + places_before k parts + i - n ≡ places_before k parts + i = omega arith in
    rw (nat_lt-false (n + places_before k parts + i) n (omega arith), m) (stalls_in-Nth w i h)

queue_in-Nth : {parts : List Part} {k : ℕ} {q : Part} → Nth parts k q → (i : ℕ) → i < q.slave.wiring.places
    → queue_in (map child_of parts) (places_before k parts + i) ≡ places_before k parts + q.slave.wiring.queue i
queue_in-Nth (nth_here {q}) i h = rw (zero-add, nat_lt-true i q.slave.wiring.places h) (sym (zero-add (q.slave.wiring.queue i)))
queue_in-Nth (nth_there {p} {q} {parts} {k} w) i h =
    let n = p.slave.wiring.places in
    let m : n + places_before k parts + i - n ≡ places_before k parts + i = omega arith in
    rw (nat_lt-false (n + places_before k parts + i) n (omega arith), m, queue_in-Nth w i h) (sym (add_assoc n (places_before k parts) (q.slave.wiring.queue i)))

queue_in-length : (parts : List Part) → queue_in (map child_of parts) (places_before (length parts) parts) ≡ places_before (length parts) parts
queue_in-length [] = refl
queue_in-length (p ∷ parts) =
    let n = p.slave.wiring.places in
    let m : n + places_before (length parts) parts - n ≡ places_before (length parts) parts = omega arith in
    rw (nat_lt-false (n + places_before (length parts) parts) n (omega arith), m, queue_in-length parts) refl

-- The queue of an operation is that of the child.
queue_in-At : (width : Width) {parts : List Part} (r : Request) {k : ℕ} {q : Part} → At parts r.adr k q → (q.slave.wiring.route (inside (child_of q) r)).place < q.slave.wiring.places
    → queue_in (map child_of parts) (route_in width (map child_of parts) r).place ≡ places_before k parts + queue_to q.slave.wiring (inside (child_of q) r)
queue_in-At width {parts} r {k} {q} w h =
    ap (λ (a : Arrival). queue_in (map child_of parts) a.place) (route_in-At width {r = r} w)
    ∙ queue_in-Nth (nth_of-At w) (q.slave.wiring.route (inside (child_of q) r)).place h

queue_in-Past : (width : Width) {parts : List Part} (r : Request) → Past parts r.adr → queue_in (map child_of parts) (route_in width (map child_of parts) r).place ≡ places_before (length parts) parts
queue_in-Past width {parts} r w = ap (λ (a : Arrival). queue_in (map child_of parts) a.place) (route_in-Past width {r = r} w) ∙ queue_in-length parts

wait_in-length : (parts : List Part) → wait_in (map child_of parts) (places_before (length parts) parts) ≡ 0
wait_in-length [] = refl
wait_in-length (p ∷ parts) =
    let n = p.slave.wiring.places in
    let m : n + places_before (length parts) parts - n ≡ places_before (length parts) parts = omega arith in
    rw (nat_lt-false (n + places_before (length parts) parts) n (omega arith), m) (wait_in-length parts)

stalls_in-length : (parts : List Part) → stalls_in (map child_of parts) (places_before (length parts) parts) ≡ false
stalls_in-length [] = refl
stalls_in-length (p ∷ parts) =
    let n = p.slave.wiring.places in
    let m : n + places_before (length parts) parts - n ≡ places_before (length parts) parts = omega arith in
    rw (nat_lt-false (n + places_before (length parts) parts) n (omega arith), m) (stalls_in-length parts)

-- ---- which child a place belongs to

pub child_with-Nth : {parts : List Part} {k : ℕ} {q : Part} → Nth parts k q → (i : ℕ) → i < q.slave.wiring.places → child_with (map child_of parts) (places_before k parts + i) ≡ k
child_with-Nth (nth_here {q}) i h = rw (zero-add, nat_lt-true i q.slave.wiring.places h) refl
child_with-Nth (nth_there {p} {q} {parts} {k} w) i h =
    let n = p.slave.wiring.places in
    let m : n + places_before k parts + i - n ≡ places_before k parts + i = omega arith in
    rw (nat_lt-false (n + places_before k parts + i) n (omega arith), m, add-one) (ap (λ (n : ℕ). suc n) (child_with-Nth w i h))

pub child_with-length : (parts : List Part) → child_with (map child_of parts) (places_before (length parts) parts) ≡ length parts
child_with-length [] = refl
child_with-length (p ∷ parts) =
    let n = p.slave.wiring.places in
    let m : n + places_before (length parts) parts - n ≡ places_before (length parts) parts = omega arith in
    rw (nat_lt-false (n + places_before (length parts) parts) n (omega arith), m, add-one) (ap (λ (n : ℕ). suc n) (child_with-length parts))

-- The child of the place that an operation goes to is that of its address.
pub child_with-leads : (width : Width) {parts : List Part} (r : Request) {k : ℕ} → Aimed parts r.adr k → AllFitIn width parts → (bus width (map child_of parts)).accepts r ≡ true
    → child_with (map child_of parts) (route_in width (map child_of parts) r).place ≡ k
unfolding bus
child_with-leads width {parts} r (at_child {q = q} w) f t =
    let fit = fit-Nth width (nth_of-At w) f in
    ap (λ (a : Arrival). child_with (map child_of parts) a.place) (route_in-At width {r = r} w)
    ∙ child_with-Nth (nth_of-At w) _ (fit.shaped.within (inside (child_of q) r) (fit.takes r (covers-At w) t))
child_with-leads width {parts} r (at_miss w h) f t = ap (λ (a : Arrival). child_with (map child_of parts) a.place) (route_in-Past width {r = r} w) ∙ child_with-length parts ∙ sym h

-- So is the child of its queue.
pub child_with-queue : (width : Width) {parts : List Part} (r : Request) {k : ℕ} → Aimed parts r.adr k → AllFitIn width parts → (bus width (map child_of parts)).accepts r ≡ true
    → child_with (map child_of parts) (queue_in (map child_of parts) (route_in width (map child_of parts) r).place) ≡ k
unfolding bus
child_with-queue width {parts} r (at_child {q = q} w) f t =
    let fit = fit-Nth width (nth_of-At w) f in
    let h = fit.shaped.within (inside (child_of q) r) (fit.takes r (covers-At w) t) in
    ap (child_with (map child_of parts)) (queue_in-At width r w h) ∙ child_with-Nth (nth_of-At w) _ (fit.shaped.queues _ h)
child_with-queue width {parts} r (at_miss w h) f t = ap (child_with (map child_of parts)) (queue_in-Past width r w) ∙ child_with-length parts ∙ sym h

-- ---- what a child owes, at its places in the bus

pub given-farther : (n : ℕ) (owed : List Owed) → given (map (farther_owed n) owed) ≡ given owed
given-farther n [] = refl
given-farther n (o ∷ owed) = refl

pub owes-farther : (n : ℕ) (owed : List Owed) → owes (map (farther_owed n) owed) ≡ owes owed
owes-farther n [] = refl
owes-farther n (o ∷ owed) = refl

map_sooner-farther : (n : ℕ) (owed : List Owed) → map sooner (map (farther_owed n) owed) ≡ map (farther_owed n) (map sooner owed)
map_sooner-farther n [] = refl
map_sooner-farther n (o ∷ owed) = ap (λ os. farther_owed n (sooner o) ∷ os) (map_sooner-farther n owed)

left_by : (b : Bool) (n : ℕ) (o : Owed) (owed : List Owed)
    → cond b (map sooner (map (farther_owed n) owed)) (map sooner (map (farther_owed n) (o ∷ owed))) ≡ map (farther_owed n) (cond b (map sooner owed) (map sooner (o ∷ owed)))
left_by true n o owed = map_sooner-farther n owed
left_by false n o owed = map_sooner-farther n (o ∷ owed)

pub left-farther : (n : ℕ) (owed : List Owed) → left (map (farther_owed n) owed) ≡ map (farther_owed n) (left owed)
left-farther n [] = refl
left-farther n (o ∷ owed) = left_by (o.due == 0) n o owed

cong2 : {a b c d : List Owed} → a ≡ b → c ≡ d → a ++ c ≡ b ++ d
cong2 e f = cc

owed_by_fields : (place place' due due' : ℕ) (answer answer' : Answer) → place ≡ place' → answer ≡ answer' → due ≡ due'
    → let a : Owed = record { place = place; answer = answer; due = due } in let b : Owed = record { place = place'; answer = answer'; due = due' } in a ≡ b
owed_by_fields place place' due due' answer answer' e f g = cc

-- ---- a clock of one child

pub set-Nth : {parts : List Part} {k : ℕ} {q : Part} → Nth parts k q → set parts k q ≡ parts
set-Nth nth_here = refl
set-Nth (nth_there {p} w) = ap (λ ps. p ∷ ps) (set-Nth w)

pub children-set : {parts : List Part} {k : ℕ} {q : Part} → Nth parts k q → (other : Part) → child_of other ≡ child_of q
    → map child_of (set parts k other) ≡ map child_of parts
children-set (nth_here {q} {parts}) other e = ap (λ c. c ∷ map child_of parts) e
children-set (nth_there {p} w) other e = ap (λ cs. child_of p ∷ cs) (children-set w other e)

contents_in-set : {parts : List Part} {k : ℕ} {q : Part} → Nth parts k q → (other : Part) → other.slave.contents ≡ q.slave.contents
    → contents_in (set parts k other) ≡ contents_in parts
contents_in-set (nth_here {q} {parts}) other e = ap (λ c. c ++ contents_in parts) e
contents_in-set (nth_there {p} {q} {parts} w) other e = ap (λ c. p.slave.contents ++ c) (contents_in-set w other e)

stepped-At : (width : Width) {parts : List Part} {r : Request} {k : ℕ} {q : Part} → At parts r.adr k q → AllFitIn width parts
    → q.slave.wiring.accepts (inside (child_of q) r) ≡ true → (other : Part) → other.slave.contents ≡ (step q.slave.wiring q.slave.contents (inside (child_of q) r)).contents
    → stepped (contents_in parts) (route_in width (map child_of parts) r) ≡ record { contents = contents_in (set parts k other); answer = (step q.slave.wiring q.slave.contents (inside (child_of q) r)).answer }
stepped-At width {r = r} (at_here {q} {parts} e) f t other o =
    let a = q.slave.wiring.route (inside (child_of q) r) in
    let h : a.place < length q.slave.contents = subst (λ n. a.place < n) (sym f.0.shaped.all) (f.0.shaped.within (inside (child_of q) r) t) in
    rw (e, o) (stepped-left q.slave.contents (contents_in parts) a h)
stepped-At width {r = r} (at_there {p} {q} {parts} {adr} {k} e w) f t other o =
    rw (e, stepped-right p.slave.contents (contents_in parts) p.slave.wiring.places (route_in width (map child_of parts) r) f.0.shaped.all, stepped-At width {r = r} w f.1 t other o) refl

-- What is owed of a child's places after a clock of the child is what the bus owes of them.
pub owed-None : (width : Width) {parts : List Part} {k : ℕ} {q : Part} → Nth parts k q
    → map (farther_owed (places_before k parts)) (part_ticked q None).slave.owed
    ≡ owed_after (bus width (map child_of parts)) (contents_in parts) (map (farther_owed (places_before k parts)) q.slave.owed) None
owed-None width {parts} {k} {q} n = sym (left-farther (places_before k parts) q.slave.owed)

pub owed-Some : (width : Width) {parts : List Part} (r : Request) {k : ℕ} {q : Part} → At parts r.adr k q → AllFitIn width parts → (bus width (map child_of parts)).accepts r ≡ true
    → map (farther_owed (places_before k parts)) (part_ticked q (Some r)).slave.owed
    ≡ owed_after (bus width (map child_of parts)) (contents_in parts) (map (farther_owed (places_before k parts)) q.slave.owed) (Some r)
unfolding bus
owed-Some width {parts} r {k} {q} w f t =
    let n = nth_of-At w in
    let b = places_before k parts in
    let i = q.slave.wiring.route (inside (child_of q) r) in
    let fit = fit-Nth width n f in
    let taken = fit.takes r (covers-At w) t in
    let s = stepped-At width {r = r} w f taken (part_ticked q (Some r)) refl in
    let within : i.place < q.slave.wiring.places = fit.shaped.within (inside (child_of q) r) taken in
    let place = queue_in-At width r w within in
    let due = ap (wait_in (map child_of parts)) place ∙ wait_in-Nth n _ (fit.shaped.queues i.place within) in
    let one = owed_by_fields _ _ _ _ _ _ place (ap (λ (x : Step). x.answer) s) due in
    map-append (farther_owed b) (left q.slave.owed) _
    ∙ cong2 (sym (left-farther b q.slave.owed)) (ap (λ o. o ∷ []) (sym one))

pub contents-None : {parts : List Part} {k : ℕ} {q : Part} → Nth parts k q → contents_in (set parts k (part_ticked q None)) ≡ contents_in parts
contents-None n = contents_in-set n _ refl

pub contents-Some : (width : Width) {parts : List Part} (r : Request) {k : ℕ} {q : Part} → At parts r.adr k q → AllFitIn width parts → (bus width (map child_of parts)).accepts r ≡ true
    → contents_in (set parts k (part_ticked q (Some r))) ≡ contents_after (bus width (map child_of parts)) (contents_in parts) (r ∷ [])
unfolding bus
contents-Some width {parts} r {k} {q} w f t =
    let taken = (fit-Nth width (nth_of-At w) f).takes r (covers-At w) t in
    sym (ap (λ (x : Step). x.contents) (stepped-At width {r = r} w f taken (part_ticked q (Some r)) refl))

-- ---- the bus's own miss

stepped-nothing : (width : Width) (r : Request) → stepped (Nothing ∷ []) (record { place = 0; bus = width; request = r; upper_half = false }) ≡ record { contents = Nothing ∷ []; answer = Err }
unfolding stepped
stepped-nothing width r = refl

pub stepped-miss : (width : Width) (parts : List Part) (r : Request) → AllFitIn width parts
    → stepped (contents_in parts) (record { place = places_before (length parts) parts; bus = width; request = r; upper_half = false }) ≡ record { contents = contents_in parts; answer = Err }
stepped-miss width [] r f = stepped-nothing width r
stepped-miss width (p ∷ parts) r f =
    let a : Arrival = record { place = places_before (length parts) parts; bus = width; request = r; upper_half = false } in
    rw (stepped-right p.slave.contents (contents_in parts) p.slave.wiring.places a f.0.shaped.all, stepped-miss width parts r f.1) refl

stepped-Past : (width : Width) {parts : List Part} (r : Request) → Past parts r.adr → AllFitIn width parts
    → stepped (contents_in parts) (route_in width (map child_of parts) r) ≡ record { contents = contents_in parts; answer = Err }
stepped-Past width {parts} r w f = ap (stepped (contents_in parts)) (route_in-Past width {r = r} w) ∙ stepped-miss width parts r f

pub missed-Some : (width : Width) (parts : List Part) (owed : List Owed) (r : Request) → left owed ≡ [] → AllFitIn width parts → Past parts r.adr
    → miss_owed parts ∷ [] ≡ owed_after (bus width (map child_of parts)) (contents_in parts) owed (Some r)
unfolding bus
missed-Some width parts owed r h f w =
    let place = queue_in-Past width r w in
    let due = ap (wait_in (map child_of parts)) place ∙ wait_in-length parts in
    let one = owed_by_fields _ _ _ _ _ _ place (ap (λ (x : Step). x.answer) (stepped-Past width r w f)) due in
    cong2 (sym h) (ap (λ o. o ∷ []) (sym one))

pub missed-contents : (width : Width) (parts : List Part) (r : Request) → AllFitIn width parts → Past parts r.adr
    → contents_in parts ≡ contents_after (bus width (map child_of parts)) (contents_in parts) (r ∷ [])
unfolding bus
missed-contents width parts r f w = sym (ap (λ (x : Step). x.contents) (stepped-Past width r w f))

-- ---- which operations are stalled

other_place : (a b : ℕ) → a ≢ b → (a == b) ≡ false
other_place a b h = grind arith

same_shift_by : (c : Bool) (b x i : ℕ) → (x == i) ≡ c → (b + x == b + i) ≡ c
same_shift_by true b x i e = let h : x ≡ i = grind (arith, e) in rw h (grind arith)
same_shift_by false b x i e = other_place (b + x) (b + i) (λ h. let k : x ≡ i = omega arith in grind (arith, e, k))

same_shift : (b x i : ℕ) → (b + x == b + i) ≡ (x == i)
same_shift b x i = same_shift_by (x == i) b x i refl

any_place-farther : (b i : ℕ) (owed : List Owed) → list_any (λ o. not (o.place == b + i)) (map (farther_owed b) owed) ≡ list_any (λ o. not (o.place == i)) owed
any_place-farther b i [] = refl
any_place-farther b i (o ∷ owed) = rw (same_shift b o.place i, any_place-farther b i owed) refl

any_due-farther : (b : ℕ) (owed : List Owed) → list_any (λ o. not (o.due == 0)) (map (farther_owed b) owed) ≡ list_any (λ o. not (o.due == 0)) owed
any_due-farther b [] = refl
any_due-farther b (o ∷ owed) = rw (any_due-farther b owed) refl

-- An operation of the child that owes the answers is stalled as at the child.
pub stalled-At : (width : Width) {parts : List Part} (r : Request) {k : ℕ} {q : Part} → At parts r.adr k q → AllFitIn width parts → (bus width (map child_of parts)).accepts r ≡ true
    → is_stalled (bus width (map child_of parts)) (map (farther_owed (places_before k parts)) q.slave.owed) r ≡ is_stalled q.slave.wiring q.slave.owed (inside (child_of q) r)
unfolding bus
stalled-At width {parts} r {k} {q} w f t =
    let n = nth_of-At w in
    let b = places_before k parts in
    let fit = fit-Nth width n f in
    let within = fit.shaped.within (inside (child_of q) r) (fit.takes r (covers-At w) t) in
    let i = queue_to q.slave.wiring (inside (child_of q) r) in
    rw (queue_in-At width r w within, any_place-farther b i q.slave.owed, any_due-farther b q.slave.owed, stalls_in-Nth n i (fit.shaped.queues _ within)) refl

-- a request for another place than the first one owed
waits_for : (holds : ℕ → Bool) (place : ℕ) (o : Owed) (owed : List Owed) → o.place ≢ place → stalls holds place (o ∷ owed) ≡ true
waits_for holds place o owed h = rw (other_place o.place place h) refl

-- An operation that goes elsewhere is stalled while child k owes an answer.
pub stalled-elsewhere : (width : Width) {parts : List Part} (r : Request) {j k : ℕ} {q : Part} → Aimed parts r.adr j → AllFitIn width parts → (bus width (map child_of parts)).accepts r ≡ true
    → Nth parts k q → j ≢ k → (owed : List Owed) → PlacesBelow q.slave.wiring.places owed → owes owed ≡ true
    → is_stalled (bus width (map child_of parts)) (map (farther_owed (places_before k parts)) owed) r ≡ true
unfolding bus
stalled-elsewhere width {parts} r {j} {k} {q} a f t n other [] h o = absurd (cc)
stalled-elsewhere width {parts} r {j} {k} {q} a f t n other (o ∷ os) h e =
    let b = places_before k parts in
    let differ : b + o.place ≢ queue_in (map child_of parts) (route_in width (map child_of parts) r).place =
    λ same. other (sym (child_with-queue width r a f t) ∙ ap (child_with (map child_of parts)) (sym same) ∙ child_with-Nth n o.place h.0) in
    waits_for (stalls_in (map child_of parts)) _ (farther_owed b o) (map (farther_owed b) os) differ

-- An operation that goes to a child is stalled while the bus's own miss owes an answer; one that is missed isn't.
pub stalled-missed : (width : Width) {parts : List Part} (r : Request) {j : ℕ} → Aimed parts r.adr j → AllFitIn width parts → (bus width (map child_of parts)).accepts r ≡ true → j < length parts
    → is_stalled (bus width (map child_of parts)) (miss_owed parts ∷ []) r ≡ true
unfolding bus
stalled-missed width {parts} r {j} a f t l =
    let differ : places_before (length parts) parts ≢ queue_in (map child_of parts) (route_in width (map child_of parts) r).place =
    λ same. (let e = sym (child_with-queue width r a f t) ∙ ap (child_with (map child_of parts)) (sym same) ∙ child_with-length parts in absurd (omega arith)) in
    waits_for (stalls_in (map child_of parts)) _ (miss_owed parts) [] differ

miss_free : (end : ℕ) (holds : ℕ → Bool) → holds end ≡ false → stalls holds end (record { place = end; answer = Err; due = 0 } ∷ []) ≡ false
miss_free end holds h = let e : (end == end) ≡ true = grind arith in rw (h, e) refl

pub stalled-miss : (width : Width) {parts : List Part} (r : Request) → Past parts r.adr → is_stalled (bus width (map child_of parts)) (miss_owed parts ∷ []) r ≡ false
unfolding bus
stalled-miss width {parts} r w =
    rw (queue_in-Past width r w) (miss_free (places_before (length parts) parts) (stalls_in (map child_of parts)) (stalls_in-length parts))

none_by : (b : Bool) → (false || (b && false)) ≡ false
none_by true = refl
none_by false = refl

-- Where nothing is owed no operation is stalled.
pub stalled-none : (wiring : Wiring) (r : Request) → is_stalled wiring [] r ≡ false
stalled-none wiring r = none_by (wiring.stalls (queue_to wiring r))

-- ---- a tick keeps a slave's numbers fitting

below-append : (n : ℕ) (os more : List Owed) → PlacesBelow n os → PlacesBelow n more → PlacesBelow n (os ++ more)
below-append n [] more h g = g
below-append n (o ∷ os) more h g = (h.0, below-append n os more h.1 g)

below-sooner : (n : ℕ) (owed : List Owed) → PlacesBelow n owed → PlacesBelow n (map sooner owed)
below-sooner n [] h = tt
below-sooner n (o ∷ owed) h = (h.0, below-sooner n owed h.1)

below_by_due : (b : Bool) (n : ℕ) (o : Owed) (os : List Owed) → PlacesBelow n (o ∷ os) → PlacesBelow n (cond b (map sooner os) (map sooner (o ∷ os)))
below_by_due true n o os h = below-sooner n os h.1
below_by_due false n o os h = below-sooner n (o ∷ os) h

below-left : (n : ℕ) (owed : List Owed) → PlacesBelow n owed → PlacesBelow n (left owed)
below-left n [] h = tt
below-left n (o ∷ os) h = below_by_due (o.due == 0) n o os h

length-stepped : (contents : List Content) (a : Arrival) → length (stepped contents a).contents ≡ length contents
unfolding stepped
length-stepped contents a = length-set contents a.place _

pub shaped-ticked : (s : Slave) (op : Option Request) → IsShaped s → ((r : Request) → op ≡ Some r → s.wiring.accepts r ≡ true) → IsShaped (ticked s op)
shaped-ticked s None h t = record { all = h.all; within = h.within; queues = h.queues; owing = below-left s.wiring.places s.owed h.owing }
shaped-ticked s (Some r) h t = record {
  all = length-stepped s.contents (s.wiring.route r) ∙ h.all;
  within = h.within;
  queues = h.queues;
  owing = below-append s.wiring.places (left s.owed) _ (below-left s.wiring.places s.owed h.owing) (h.queues _ (h.within r (t r refl)), tt);
}

pub AllFitIn-set : (width : Width) {parts : List Part} {k : ℕ} {q : Part} → Nth parts k q → (other : Part) → FitsIn width other → AllFitIn width parts → AllFitIn width (set parts k other)
AllFitIn-set width nth_here other g f = (g, f.1)
AllFitIn-set width (nth_there w) other g f = (f.0, AllFitIn-set width w other g f.1)

pub nth-set_other : {parts : List Part} {k : ℕ} {q : Part} → Nth parts k q → (j : ℕ) (other : Part) → j ≢ k → Nth (set parts j other) k q
nth-set_other nth_here zero other h = absurd (h refl)
nth-set_other nth_here (suc j) other h = nth_here
nth-set_other (nth_there w) zero other h = nth_there w
nth-set_other (nth_there w) (suc j) other h = nth_there (nth-set_other w j other (λ e. h (ap (λ (n : ℕ). suc n) e)))

pub nth-set_same : {parts : List Part} {k : ℕ} {q : Part} → Nth parts k q → (other : Part) → Nth (set parts k other) k other
nth-set_same nth_here other = nth_here
nth-set_same (nth_there w) other = nth_there (nth-set_same w other)

-- places keep their numbers
pub places_before-children : (k : ℕ) (xs ys : List Part) → map child_of xs ≡ map child_of ys → places_before k xs ≡ places_before k ys
places_before-children k [] [] e = refl
places_before-children k [] (y ∷ ys) e = absurd (cc)
places_before-children k (x ∷ xs) [] e = absurd (cc)
places_before-children zero (x ∷ xs) (y ∷ ys) e = refl
places_before-children (suc k) (x ∷ xs) (y ∷ ys) e =
    let a : child_of x ≡ child_of y = cc in
    let b : map child_of xs ≡ map child_of ys = cc in
    let m : x.slave.wiring.places ≡ y.slave.wiring.places = ap (λ (c : Child). c.wiring.places) a in
    let n = places_before-children k xs ys b in
    omega arith

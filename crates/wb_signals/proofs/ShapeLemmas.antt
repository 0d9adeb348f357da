-- A bus fits another: its numbers fit one another, and it takes what comes at its addresses.
use Rattle.std.proofs.Common.{◌≡◌, ℕ, ◌+◌, ◌-◌, ◌%◌, ◌^◌, ◌<◌, ◌≤◌, ◌==◌, ◌&&◌, nat_lt, nat_le, List, [], ◌∷◌, length, map, Bool, true, false, cond, refl, ap, arith}
use Rattle.eb_base.specs.declared.width.Width.{Width}
use Rattle.eb_base.specs.declared.width.Width.TheVariants.{W8, W16, W32, W64}
use Rattle.eb_base.specs.Width.{octets}
use Rattle.wb_signals.specs.Request.{Request}
use Rattle.wb_signals.specs.Wiring.{Arrival}
use Rattle.wb_signals.specs.Bus.{Child, inside, places_in, route_in, queue_in, bus}
use Rattle.wb_signals.specs.Slave.{Slave, IsShaped}
use Rattle.wb_signals.specs.Parts.{Part, child_of, places_before, FitsIn, AllFitIn}
use Rattle.wb_signals.specs.Turn.{bus_slave}
use Rattle.wb_signals.specs.declared.debtor.Debtor.TheVariants.{Nobody}
use Rattle.wb_signals.proofs.BusLemmas.{Nth, nth_here, nth_there, Aimed, at_child, at_miss, nth_of-At, fit-Nth, covers-At, aimed, route_in-At, route_in-Past, length-contents_in}

pub places_some : (children : List Child) → 0 < places_in children
places_some [] = omega arith
places_some (c ∷ children) = omega (arith, places_some children)

before-Nth : {parts : List Part} {k : ℕ} {q : Part} → Nth parts k q → places_before k parts + q.slave.wiring.places < places_in (map child_of parts)
before-Nth (nth_here {q} {parts}) = omega (arith, places_some (map child_of parts))
before-Nth (nth_there {p} w) = omega (arith, before-Nth w)

before-length : (parts : List Part) → places_before (length parts) parts < places_in (map child_of parts)
before-length [] = omega arith
before-length (p ∷ parts) = omega (arith, before-length parts)

pub leads-within : (width : Width) {parts : List Part} (r : Request) {k : ℕ} → Aimed parts r.adr k → AllFitIn width parts → (bus width (map child_of parts)).accepts r ≡ true
    → (route_in width (map child_of parts) r).place < places_in (map child_of parts)
unfolding bus
leads-within width {parts} r (at_child {k = k} {q = q} w) f t =
    let n = nth_of-At w in
    let fit = fit-Nth width n f in
    let e = ap (λ (a : Arrival). a.place) (route_in-At width {r = r} w) in
    let h = fit.shaped.within (inside (child_of q) r) (fit.takes r (covers-At w) t) in
    rw e (omega (arith, h, before-Nth n))
leads-within width {parts} r (at_miss w h) f t = rw (ap (λ (a : Arrival). a.place) (route_in-Past width {r = r} w)) (before-length parts)

queue_by : (b : Bool) (place n own more total : ℕ) → nat_lt place n ≡ b → (place < n → own < n) → (n ≤ place → more < total) → cond b own (n + more) < n + total
queue_by true place n own more total e h g = let l : place < n = grind (arith, e) in omega (arith, h l)
queue_by false place n own more total e h g = let l : n ≤ place = grind (arith, e) in omega (arith, g l)

pub queues-within : (width : Width) (parts : List Part) → AllFitIn width parts → (place : ℕ) → place < places_in (map child_of parts) → queue_in (map child_of parts) place < places_in (map child_of parts)
queues-within width [] f place h = h
queues-within width (p ∷ parts) f place h =
    let n = p.slave.wiring.places in
    queue_by (nat_lt place n) place n (p.slave.wiring.queue place) (queue_in (map child_of parts) (place - n)) (places_in (map child_of parts)) refl
    (f.0.shaped.queues place) (λ l. queues-within width parts f.1 (place - n) (omega (arith, h, l)))

-- A bus that owes nothing.
pub bus_shaped : (width : Width) (parts : List Part) → AllFitIn width parts → IsShaped (bus_slave width parts Nobody)
unfolding bus
bus_shaped width parts f = record {
  all = length-contents_in width parts f;
  within = λ r t. leads-within width r (aimed parts r.adr) f t;
  queues = queues-within width parts f;
  owing = tt;
}

aligned : (width : Width) (adr first : ℕ) → adr % octets width ≡ 0 → first % octets width ≡ 0 → first ≤ adr → (adr - first) % octets width ≡ 0
aligned W8 adr first a b h = omega (arith, a, b)
aligned W16 adr first a b h = omega (arith, a, b)
aligned W32 adr first a b h = omega (arith, a, b)
aligned W64 adr first a b h = omega (arith, a, b)

both : (a b : Bool) → (a && b) ≡ true → (a ≡ true) × (b ≡ true)
both true b e = (refl, e)
both false b e = absurd (cc)

below : (m n : ℕ) → nat_le m n ≡ true → m ≤ n
below m n e = grind (arith, e)

equal : (m n : ℕ) → (m == n) ≡ true → m ≡ n
equal m n e = grind (arith, e)

pub takes_by : (width : Width) (adr sel first last : ℕ) → first % octets width ≡ 0 → (nat_le first adr && nat_le adr last) ≡ true → ((adr % octets width == 0) && nat_lt sel (2 ^ octets width)) ≡ true
    → (((adr - first) % octets width == 0) && nat_lt sel (2 ^ octets width)) ≡ true
takes_by width adr sel first last b c t =
    let p = both (adr % octets width == 0) (nat_lt sel (2 ^ octets width)) t in
    let q = both (nat_le first adr) (nat_le adr last) c in
    let e = aligned width adr first (equal (adr % octets width) 0 p.0) b (below first adr q.0) in
    rw (e, p.1) refl

-- It fits another bus of its width, at any addresses.
pub bus_fits : (width : Width) (parts : List Part) (first last : ℕ) (slave : Slave) → slave ≡ bus_slave width parts Nobody → AllFitIn width parts → first % octets width ≡ 0
    → let part : Part = record { first = first; last = last; slave = slave } in FitsIn width part
unfolding bus
bus_fits width parts first last slave e f b =
    rw e (record { shaped = bus_shaped width parts f; takes = λ r c t. takes_by width r.adr r.sel first last b c t })

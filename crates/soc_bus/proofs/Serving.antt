-- A sound core, after the grants, meets what its clock asks.
use Rattle.std.proofs.Common.{◌≡◌, inl, inr, ℕ, zero, suc, ◌+◌, ◌<◌, List, [], ◌∷◌, length, get_or, map, slice_get, Option, Some, refl, ap, sym, ◌∙◌, subst, arith, All}
use Rattle.std.specs.Int.{bit_at}
use Rattle.std.proofs.lemmas.Bool.{cond-true, lt-ltb}
use Rattle.std.proofs.lemmas.Nat.Bits.{bit_at-zero, bit_at-lt}
use Rattle.std.proofs.lemmas.Option.{get_or_from_slice_get, slice_get_within}
use Rattle.eb_base.specs.declared.width.Width.{Width}
use Rattle.wb_signals.specs.Request.{Request}
use Rattle.wb_signals.specs.Wiring.{Wiring}
use Rattle.wb_signals.specs.Bus.{Child, bus}
use Rattle.wb_signals.specs.Cycles.{FitsBus}
use Rattle.wb_signals.specs.Slave.{Owed, queue_to}
use Rattle.wb_signals.specs.Parts as parts
use Rattle.wb_port.specs.Port as engine
use Rattle.wb_crossbar.specs.Crossbar.{CrossbarState, wiring_of, target_of, IsHeldBy}
use Rattle.soc_desc.specs.declared.description.Description.{Description}
use Rattle.soc_core.specs.Fabric.{Fabric, GoesIn, AllGoIn}
use Rattle.soc_core.specs.Built.{top_slaves, fabric_of}
use Rattle.soc_core.specs.Core.{Phase, Idle, Wants, Holds, Leaves, CorePort, Core, port, resting_port, held_by}
use Rattle.soc_core.specs.Sound.{StandsIn, IsQueue, IsSoundCore}
use Rattle.soc_bus.specs.View.{with_queue, joined}
use Rattle.soc_bus.specs.Clocked.{place_of, waiting, AreServed}
use Rattle.soc_wave.specs.Shown.{holders_from}
use Rattle.soc_core.proofs.Ports.{no_common}
use Rattle.soc_core.proofs.Clocks.{loaded_goes}
use Rattle.soc_bus.proofs.Holders.{count-holders, held_at}
use Rattle.soc_bus.proofs.Joined.{joined-get, joined-phase, Matches}

-- a top slave by its number
pub top_is : (children : List Child) (adr : ℕ) → parts.child_at children adr < length children → target_of children adr ≡ Some (parts.child_at children adr)
top_is children adr l = cond-true _ _ _ (lt-ltb (parts.child_at children adr) (length children) l)

go_at : (f : Fabric) (set : ℕ) (rs : List Request) (k : ℕ) (d : Request) → AllGoIn f set rs → k < length rs → GoesIn f set (get_or rs k d)
go_at f set [] k d go l = absurd (let no : ⊥ = omega (arith, l) in no)
go_at f set (r ∷ rs) zero d go l = go.0
go_at f set (r ∷ rs) (suc k) d go l = go_at f set rs k d go.1 (omega (arith, l))

zero_by : (ph : Phase) (k : ℕ) → ((t : ℕ) → ph ≡ Holds t → bit_at t k ≡ 0) → bit_at (held_by ph) k ≡ 0
zero_by Idle k h = bit_at-zero k
zero_by (Wants s) k h = bit_at-zero k
zero_by (Holds s) k h = h s refl
zero_by Leaves k h = bit_at-zero k

not_one : (t k : ℕ) → (bit_at t k ≡ 1 → ⊥) → bit_at t k ≡ 0
not_one t k h = by (bit_at t k) (bit_at-lt t k) h
  where
    by : (b : ℕ) → b < 2 → (b ≡ 1 → ⊥) → b ≡ 0
    by zero l h = refl
    by (suc zero) l h = absurd (h refl)
    by (suc (suc b)) l h = absurd (let no : ⊥ = omega (arith, l) in no)

bus_width : (width : Width) (children : List Child) → (bus width children).bus ≡ width
unfolding bus
bus_width width children = refl

module _ (d : Description) (x : CrossbarState) (cs : List CorePort) (ps : List engine.PortState) (mid : Core)
    (sound : IsSoundCore (fabric_of d) mid) (are : mid.ports ≡ joined cs ps x.owed) (a : length ps ≡ length cs) (b : length x.owed ≡ length cs)
    (children : x.children ≡ top_slaves d) (wired : wiring_of x ≡ (fabric_of d).wiring) where
  abbrev f : Fabric
  f = fabric_of d

  abbrev holders : List (Option ℕ)
  holders = holders_from cs 0 (length x.children)

  port_is : (m : ℕ) (p : engine.PortState) (o : List Owed) → slice_get ps m ≡ Some p → slice_get x.owed m ≡ Some o → port mid m ≡ with_queue (get_or cs m resting_port) p o
  port_is m p o e g =
      let l = slice_get_within ps m p e in
      ap (λ qs. get_or qs m resting_port) are ∙ joined-get cs ps x.owed m resting_port p a b (omega (arith, l, a))
      ∙ ap (λ q. with_queue (get_or cs m resting_port) q (get_or x.owed m [])) (get_or_from_slice_get ps m p p e)
      ∙ ap (λ q. with_queue (get_or cs m resting_port) p q) (get_or_from_slice_get x.owed m o [] g)

  phase_is : (m : ℕ) → (port mid m).phase ≡ (get_or cs m resting_port).phase
  phase_is m = ap (λ qs. (get_or qs m resting_port).phase) are ∙ joined-phase cs ps x.owed a b m

  -- a top slave in the set of a port is held by it
  held_in_set : (m s k : ℕ) → m < length cs → (get_or cs m resting_port).phase ≡ Holds s → bit_at s k ≡ 1 → k < length x.children → slice_get holders k ≡ Some (Some m)
  held_in_set m s k within phase one below =
      held_at cs (length x.children) m k below within (ap (λ ph. bit_at (held_by ph) k) phase ∙ one)
      (λ j l. zero_by (get_or cs j resting_port).phase k (λ t h. not_one t k (λ other.
      no_common s t k (sound.apart m j s t (λ same. let no : ⊥ = omega (arith, l, same) in no) (phase_is m ∙ phase) (phase_is j ∙ h)) one other)))

  loaded_held : (m : ℕ) (p : engine.PortState) (o : List Owed) → m < length cs → port mid m ≡ with_queue (get_or cs m resting_port) p o
      → All (λ r. IsHeldBy x.children holders m (parts.child_at x.children r.adr)) p.loaded
  loaded_held m p o within is k e l below =
      let stand = subst (λ q. StandsIn f q.phase q) is (sound.stand m) in
      let r : Request = get_or p.loaded k e in
      elim (loaded_goes f (get_or cs m resting_port).phase (with_queue (get_or cs m resting_port) p o) stand) [
        | inl none ↦ absurd (let n : length p.loaded ≡ 0 = ap (λ (rs : List Request). length rs) none in let no : ⊥ = omega (arith, l, n) in no)
        | inr goes ↦
            held_in_set m goes.0 (parts.child_at x.children r.adr) within goes.1
            (go_at f goes.0 p.loaded k e goes.2 l (parts.child_at x.children r.adr)
            (ap (λ (cs : List Child). target_of cs r.adr) (sym children) ∙ top_is x.children r.adr below))
            below
      ]

  pub served : AreServed x holders ps
  served = record {
    count = a ∙ sym b;
    slaves = count-holders cs (length x.children);
    each = λ m p o e g.
        let within = slice_get_within ps m p e in
        let is = port_is m p o e g in
        let q : IsQueue f (with_queue (get_or cs m resting_port) p o) = subst (IsQueue f) is (sound.queues m) in
        record {
          passed = q.sent;
          answered = (let n = q.counted in omega (arith, n));
          places = subst (λ w. map place_of o ≡ map (queue_to w) (waiting p)) (sym wired) q.places;
          fits = subst (λ w. All (FitsBus w) p.loaded) (ap (λ (w : Wiring). w.bus) (sym wired) ∙ bus_width x.width x.children) q.fit;
          held = loaded_held m p o (omega (arith, within, a)) is;
        };
  }

-- Each engine has the depth of the bus, and what it sent and isn't answered is owed.
pub matching : (depth : ℕ) (cs : List CorePort) (ps : List engine.PortState) (os : List (List Owed)) → All (λ p. p.depth ≡ depth) ps → length ps ≡ length cs → length os ≡ length cs
    → ((m : ℕ) → let p = get_or (joined cs ps os) m resting_port in length p.got + length p.owed ≡ p.sent) → Matches depth ps os
matching depth cs [] os deep a b counted = tt
matching depth cs (p ∷ ps) [] deep a b counted = tt
matching depth [] (p ∷ ps) (o ∷ os) deep a b counted = absurd (omega (arith, a))
matching depth (c ∷ cs) (p ∷ ps) (o ∷ os) deep a b counted =
    (deep 0 p (omega arith), counted 0, matching depth cs ps os (λ k d l. deep (suc k) d (omega (arith, l))) (omega (arith, a)) (omega (arith, b)) (λ m. counted (suc m)))

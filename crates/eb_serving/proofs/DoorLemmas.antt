-- Doors that are made one after another.
use Rattle.std.proofs.Common.{◌≡◌, ℕ, zero, suc, ◌+◌, ◌<◌, List, [], ◌∷◌, ◌++◌, inl, inr, refl, sym, ◌∙◌, ap, arith, length-append, append_assoc}
use Rattle.std.specs.Prelude.{All}
use Rattle.std.proofs.lemmas.List.{append-nil}
use Rattle.std.proofs.lemmas.List.Elements.{All-append, All-cons}
use Rattle.eb_net.specs.Accepting.{DoorState}
use Rattle.eb_net.specs.Network.{Network, Wanted, door_at, asking, IsNewDoor, DoorMade}
use Rattle.eb_serving.specs.declared.fault.ServingFault.{ServingFault}
use Rattle.eb_serving.specs.Doors.{doors_at, MadeDoors, NoDoorMade, StopsAtDoor}

none_fails : {X : Type 0} (P : X → Type 0) → All P []
none_fails P = λ k d lt. absurd (omega (arith, lt))

-- one more port
pub doors_more : (port n : ℕ) → doors_at port n ++ door_at (port + n) ∷ [] ≡ doors_at port (suc n)
doors_more port zero = let same : port + 0 ≡ port = omega arith in λ i. door_at (same i) ∷ []
doors_more port (suc n) =
    let same : port + suc n ≡ suc port + n = omega arith in
    ap (λ (l : List Wanted). door_at port ∷ l) (ap (λ (p : ℕ). doors_at (suc port) n ++ door_at p ∷ []) same ∙ doors_more (suc port) n)

module _ {D P L : Type 0} (state : D → DoorState) where
  pub made_none : (net : Network D P L) (port : ℕ) → MadeDoors state net net port 0
  made_none net port = record {
    made = [];
    as_many = refl;
    are_new = none_fails (λ (door : D). IsNewDoor (state door));
    net_is = λ i. record net { asked = sym (append-nil net.asked) i; doors = sym (append-nil net.doors) i };
  }

  -- one door more
  pub made_more : (old mid new : Network D P L) (port n : ℕ) → MadeDoors state old mid port n → DoorMade state (asking mid (door_at (port + n))) new → MadeDoors state old new port (suc n)
  made_more old mid new port n before one =
      let New : D → Type 0 = λ door. IsNewDoor (state door) in
      let asked : (old.asked ++ doors_at port n) ++ door_at (port + n) ∷ [] ≡ old.asked ++ doors_at port (suc n) = append_assoc old.asked (doors_at port n) (door_at (port + n) ∷ []) ∙ ap (λ (l : List Wanted). old.asked ++ l) (doors_more port n) in
      let doors = append_assoc old.doors before.made (one.door ∷ []) in
      record {
        made = before.made ++ one.door ∷ [];
        as_many = length-append before.made (one.door ∷ []) ∙ ap (λ (k : ℕ). k + 1) before.as_many ∙ (let next : n + 1 ≡ suc n = omega arith in next);
        are_new = All-append New before.made (one.door ∷ []) before.are_new (All-cons New one.door [] one.is_new (none_fails New));
        net_is =
            one.made ∙ ap (λ (m : Network D P L). record m { asked = m.asked ++ door_at (port + n) ∷ []; doors = m.doors ++ one.door ∷ [] }) before.net_is
            ∙ (λ i. record old { asked = asked i; doors = doors i });
      }

  -- the one at an index could not be made
  pub stops_at : (old mid new : Network D P L) (port count n : ℕ) (f : ServingFault) → n < count → MadeDoors state old mid port n → NoDoorMade mid new (port + n) f → StopsAtDoor state old new port count f
  stops_at old mid new port count n f lt made stopped = record {
    before = n;
    fewer = lt;
    between = mid;
    made_before = made;
    stopped = stopped;
  }

  -- what was asked for, where one was not made
  pub stopped_asked : (old new : Network D P L) (port count : ℕ) (f : ServingFault) → StopsAtDoor state old new port count f → (n : ℕ) × (new.asked ≡ old.asked ++ doors_at port n)
  stopped_asked old new port count f stops = elim stops.stopped [
    | inl failed ↦ (
      suc stops.before,
      ap (λ (m : Network D P L). m.asked) failed.1.counted ∙ ap (λ (m : Network D P L). m.asked ++ door_at (port + stops.before) ∷ []) stops.made_before.net_is
          ∙ append_assoc old.asked (doors_at port stops.before) (door_at (port + stops.before) ∷ []) ∙ ap (λ (l : List Wanted). old.asked ++ l) (doors_more port stops.before),
    )
    | inr none ↦ (stops.before, ap (λ (m : Network D P L). m.asked) none.1 ∙ ap (λ (m : Network D P L). m.asked) stops.made_before.net_is)
  ]

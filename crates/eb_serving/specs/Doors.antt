-- Doors that are made at ports one after another, and served beside each other.
use Rattle.std.specs.Prelude.{◌≡◌, ◌⊎◌, ◌<◌, ℕ, zero, suc, ◌+◌, List, [], ◌∷◌, ◌++◌, length, All, IfOk, OnErr, Result, Ok, Err, ⊤}
use Rattle.eb_base.specs.declared.memory.NoMemory.{NoMemory}
use Rattle.soc_desc.specs.declared.description.Description.{Description}
use Rattle.eb_net.specs.Accepting.{DoorState}
use Rattle.eb_net.specs.Network.{Network, Wanted, door_at, asking, IsNewDoor, DoorFailed}
use Rattle.eb_serve.specs.Serves.{ServeState, Serves}
use Rattle.eb_text.specs.declared.fault.Fault.TheVariants as fault
use Rattle.eb_serving.specs.declared.fault.ServingFault.{ServingFault}
use Rattle.eb_serving.specs.declared.fault.ServingFault.TheVariants as serving

-- doors at so many ports, from this one on
abbrev pub doors_at : ℕ → ℕ → List Wanted
doors_at port zero = []
doors_at port (suc n) = door_at port ∷ doors_at (suc port) n

-- The net was asked for doors at so many ports, from this one on, and made them: these, which are new and stand behind those that
-- it had, in order. Nothing else of it changed.
pub record MadeDoors {D P L : Type 0} (state : D → DoorState) (old new : Network D P L) (port count : ℕ) : Type 0 where
  pub made : List D
  pub as_many : length made ≡ count
  pub are_new : All (λ door. IsNewDoor (state door)) made
  pub net_is : new ≡ record old { asked = old.asked ++ doors_at port count; doors = old.doors ++ made }

-- The door at this port was not made: that failed, which the count of faults says; or there was no memory, and the net is as it was.
abbrev pub NoDoorMade : {D P L : Type 0} → Network D P L → Network D P L → ℕ → ServingFault → Type 0
NoDoorMade old new port f = ((f ≡ serving.Door) × DoorFailed (asking old (door_at port)) new) ⊎ ((f ≡ serving.Common fault.NoMemory) × (new ≡ old))

-- The doors before one of these were made, and that one was not.
pub record StopsAtDoor {D P L : Type 0} (state : D → DoorState) (old new : Network D P L) (port count : ℕ) (f : ServingFault) : Type 0 where
  pub before : ℕ
  pub fewer : before < count
  pub between : Network D P L
  pub made_before : MadeDoors state old between port before
  pub stopped : NoDoorMade between new (port + before) f

abbrev pub MakesDoors : {D P L : Type 0} → (D → DoorState) → Network D P L → Network D P L → ℕ → ℕ → Result ⊤ ServingFault → Type 0
MakesDoors state old new port count (Ok done) = MadeDoors state old new port count
MakesDoors state old new port count (Err f) = StopsAtDoor state old new port count f

-- The last doors of a net, so many of them, were served, or there was no memory and they are as they were. They stand there still,
-- in their places, and nothing else of the net changed.
pub record ServesLast {D P L : Type 0} (state : D → DoorState) (d : Description) (connections count : ℕ) (old new : Network D P L) (result : Result ServeState NoMemory) : Type 0 where
  pub others : List D
  pub doors : List D
  pub doors' : List D
  pub old_are : old.doors ≡ others ++ doors
  pub as_many : length doors ≡ count
  pub new_is : new ≡ record old { doors = others ++ doors' }
  pub served : IfOk result (λ r. Serves state d connections doors doors' r)
  pub refused : OnErr result (doors' ≡ doors)

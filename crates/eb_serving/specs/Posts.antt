-- A post that is made at a port, and served.
use Rattle.std.specs.Prelude.{◌≡◌, ◌⊎◌, ℕ, IfOk, OnErr, Some, Result, Ok, Err, ⊤}
use Rattle.eb_base.specs.declared.memory.NoMemory.{NoMemory}
use Rattle.soc_desc.specs.declared.description.Description.{Description}
use Rattle.eb_net.specs.Posting.{Posting}
use Rattle.eb_net.specs.Network.{Network, post_at, asking, PostMade, DoorFailed}
use Rattle.eb_serve.specs.Datagrams.{PostState, ServesDatagrams}
use Rattle.eb_text.specs.declared.fault.Fault.TheVariants as fault
use Rattle.eb_serving.specs.declared.fault.ServingFault.{ServingFault}
use Rattle.eb_serving.specs.declared.fault.ServingFault.TheVariants as serving

-- The net was asked for a post at this port, and has it, new.
abbrev pub MadePost : {D P L : Type 0} → (P → Posting) → Network D P L → Network D P L → ℕ → Type 0
MadePost posting old new port = PostMade posting (asking old (post_at port)) new

-- The post at this port was not made: that failed, which the count of faults says; or there was no memory, and the net is as it was.
abbrev pub NoPostMade : {D P L : Type 0} → Network D P L → Network D P L → ℕ → ServingFault → Type 0
NoPostMade old new port f = ((f ≡ serving.Door) × DoorFailed (asking old (post_at port)) new) ⊎ ((f ≡ serving.Common fault.NoMemory) × (new ≡ old))

abbrev pub MakesPost : {D P L : Type 0} → (P → Posting) → Network D P L → Network D P L → ℕ → Result ⊤ ServingFault → Type 0
MakesPost posting old new port (Ok done) = MadePost posting old new port
MakesPost posting old new port (Err f) = NoPostMade old new port f

-- The post of a net was served, or there was no memory and it is as it was. It stands there still, and nothing else of the net changed.
pub record ServesNetPost {D P L : Type 0} (posting : P → Posting) (d : Description) (datagrams : ℕ) (old new : Network D P L) (result : Result PostState NoMemory) : Type 0 where
  pub post : P
  pub post' : P
  pub old_is : old.post ≡ Some post
  pub new_is : new ≡ record old { post = Some post' }
  pub served : IfOk result (λ r. ServesDatagrams d datagrams (posting post) (posting post') r)
  pub refused : OnErr result (post' ≡ post)

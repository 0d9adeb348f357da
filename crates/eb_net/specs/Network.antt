-- What a net tells, and what its calls make of it.
use Rattle.std.specs.Prelude.{◌≡◌, ℕ, List, [], ◌∷◌, ◌++◌, None, Some, IfSome}
use Rattle.std.specs.declared.option.Option.{Option}
use Rattle.std.proofs.Props.{props}
use Rattle.eb_io.specs.Counts.{Rose}
use Rattle.eb_io.specs.Reading.{Reading}
use Rattle.eb_io.specs.Writing.{Writing, Told, Nothing, Count, Octets}
use Rattle.eb_io.specs.Outside.{IsFresh}
use Rattle.eb_io.specs.declared.world.Opened.{Opened}
use Rattle.eb_io.specs.declared.world.Opened.TheVariants as opened
use Rattle.eb_net.specs.Accepting.{DoorState, IsUnwritten}
use Rattle.eb_net.specs.Posting.{Posting}

-- What a net was asked for: a door or a post at a port, or a link to an address.
pub data Wanted : Type 0 where
  door_at : ℕ → Wanted
  post_at : ℕ → Wanted
  link_to : List ℕ → Wanted

-- What a net tells: what it was asked for, in order, the doors that it has, in order, its post and its link, how often a
-- door or a post could not be made, and how often a dial failed.
pub record Network (D P L : Type 0) : Type 0 where
  pub asked : List Wanted
  pub doors : List D
  pub post : Option P
  pub link : Option L
  pub door_faults : ℕ
  pub dial_faults : ℕ

-- a net that was asked for nothing yet
abbrev pub empty_network : {D P L : Type 0} → Network D P L
empty_network = record { asked = []; doors = []; post = None; link = None; door_faults = 0; dial_faults = 0 }

-- the net was asked for this
abbrev pub asking : {D P L : Type 0} → Network D P L → Wanted → Network D P L
asking net what = record net { asked = net.asked ++ what ∷ [] }

-- A sink that was just made: nothing was written, and no write failed.
pub record IsBlank (writing : Writing) : Type 0 where
  pub written : IsUnwritten writing.written
  pub faults : writing.faults ≡ 0

-- `IsUnwritten` has one proof at most, and so a ghost field may hold it.
pub IsUnwritten-prop : (told : Told) → IsProp (IsUnwritten told)
IsUnwritten-prop Nothing = hlevel props
IsUnwritten-prop (Count n) = hlevel props
IsUnwritten-prop (Octets octets) = hlevel props

pub ruleset network_props = (props, IsUnwritten-prop)

-- A link that was just made: it gave nothing, nothing was written, and nothing failed.
pub record IsNewLink (reading : Reading) (writing : Writing) : Type 0 where
  pub fresh : IsFresh reading
  pub blank : IsBlank writing

-- A door that was just made: it opened no connection, and nothing failed.
pub record IsNewDoor (door : DoorState) : Type 0 where
  pub fresh : IsFresh door.reading
  pub blank : IsBlank door.writing
  pub earlier : IfSome door.accepting.earlier (λ connections. connections ≡ [])
  pub began : door.accepting.began ≡ None
  pub faults : door.accepting.faults ≡ 0

-- A post that was just made: nothing was received or sent, and nothing failed.
pub record IsNewPost (posting : Posting) : Type 0 where
  pub received : IfSome posting.received (λ datagrams. datagrams ≡ [])
  pub sent : IfSome posting.sent (λ datagrams. datagrams ≡ [])
  pub reads : posting.faults.reads ≡ 0
  pub writes : posting.faults.writes ≡ 0

-- The net has one more door, new, at the end.
pub record DoorMade {D P L : Type 0} (state : D → DoorState) (old new : Network D P L) : Type 0 where
  pub door : D
  pub is_new : IsNewDoor (state door)
  pub made : new ≡ record old { doors = old.doors ++ door ∷ [] }

-- The net has this post, new.
pub record PostMade {D P L : Type 0} (posting : P → Posting) (old new : Network D P L) : Type 0 where
  pub post : P
  pub is_new : IsNewPost (posting post)
  pub made : new ≡ record old { post = Some post }

-- The net has this link, new.
pub record LinkMade {D P L : Type 0} (reading : L → Reading) (writing : L → Writing) (old new : Network D P L) : Type 0 where
  pub link : L
  pub is_new : IsNewLink (reading link) (writing link)
  pub made : new ≡ record old { link = Some link }

-- A door or a post could not be made: their count of faults says so, and nothing else changed.
pub record DoorFailed {D P L : Type 0} (old new : Network D P L) : Type 0 where
  pub faults : ℕ
  pub rose : Rose old.door_faults faults
  pub counted : new ≡ record old { door_faults = faults }

-- A dial failed: the count of failed dials says so, and nothing else changed.
pub record DialFailed {D P L : Type 0} (old new : Network D P L) : Type 0 where
  pub faults : ℕ
  pub rose : Rose old.dial_faults faults
  pub counted : new ≡ record old { dial_faults = faults }

-- What a call that listens at this port did, by its answer.
abbrev pub Listens : {D P L : Type 0} → (D → DoorState) → Network D P L → Network D P L → ℕ → Opened → Type 0
Listens state old new port opened.Done = DoorMade state (asking old (door_at port)) new
Listens state old new port opened.Failed = DoorFailed (asking old (door_at port)) new
Listens state old new port opened.NoMemory = new ≡ old

-- What binding this port did, by its answer.
abbrev pub Binds : {D P L : Type 0} → (P → Posting) → Network D P L → Network D P L → ℕ → Opened → Type 0
Binds posting old new port opened.Done = PostMade posting (asking old (post_at port)) new
Binds posting old new port opened.Failed = DoorFailed (asking old (post_at port)) new
Binds posting old new port opened.NoMemory = new ≡ old

-- What dialling this address did, by its answer.
abbrev pub Dials : {D P L : Type 0} → (L → Reading) → (L → Writing) → Network D P L → Network D P L → List ℕ → Opened → Type 0
Dials reading writing old new address opened.Done = LinkMade reading writing (asking old (link_to address)) new
Dials reading writing old new address opened.Failed = DialFailed (asking old (link_to address)) new
Dials reading writing old new address opened.NoMemory = new ≡ old

-- A net in memory.
use Rattle.std.specs.Prelude.{◌≡◌, List, [], ◌∷◌, ◌++◌, None, Some}
use Rattle.std.specs.declared.option.Option.{Option}
use Rattle.eb_io.specs.declared.link.MemLink.{MemLink}
use Rattle.eb_io.specs.declared.world.Opened.{Opened}
use Rattle.eb_io.specs.declared.world.Opened.TheVariants as opened
use Rattle.eb_net.specs.Network.{Network}
use Rattle.eb_net.specs.NetShelf.{network_of}
use Rattle.eb_net.specs.declared.mem_door.MemDoor.{MemDoor}
use Rattle.eb_net.specs.declared.mem_post.MemPost.{MemPost}
use Rattle.eb_net.specs.declared.mem_net.MemNet.{MemNet}

-- What a net in memory has yet to give: the doors, the next one first, the post and the link.
pub record Stock : Type 0 where
  pub doors : List MemDoor
  pub post : Option MemPost
  pub link : Option MemLink

abbrev pub stock_of : MemNet → Stock
stock_of n = record { doors = n.doors.items; post = n.post; link = n.link }

-- what it tells
abbrev pub mem_network : MemNet → Network MemDoor MemPost MemLink
mem_network n = network_of n.shelf

-- What taking the next door leaves of the stock.
abbrev pub DoorTaken : Stock → Stock → Option MemDoor → Type 0
DoorTaken old new None = (old.doors ≡ []) × (new ≡ old)
DoorTaken old new (Some door) = (old.doors ≡ door ∷ new.doors) × (new ≡ record old { doors = new.doors })

-- the next door of the stock stands at the end of the net's doors
pub record GivesDoor (old new : MemNet) : Type 0 where
  pub door : MemDoor
  pub next : (stock_of old).doors ≡ door ∷ (stock_of new).doors
  pub stock : stock_of new ≡ record (stock_of old) { doors = (stock_of new).doors }
  pub doors : (mem_network new).doors ≡ (mem_network old).doors ++ door ∷ []

-- the post of the stock is the net's
pub record GivesPost (old new : MemNet) : Type 0 where
  pub post : MemPost
  pub given : (stock_of old).post ≡ Some post
  pub stock : stock_of new ≡ record (stock_of old) { post = None }
  pub now : (mem_network new).post ≡ Some post

-- the link of the stock is the net's
pub record GivesLink (old new : MemNet) : Type 0 where
  pub link : MemLink
  pub given : (stock_of old).link ≡ Some link
  pub stock : stock_of new ≡ record (stock_of old) { link = None }
  pub now : (mem_network new).link ≡ Some link

-- What a call that listens does with the stock, by its answer: it fails exactly where no door is left.
abbrev pub DoorFrom : MemNet → MemNet → Opened → Type 0
DoorFrom old new opened.Done = GivesDoor old new
DoorFrom old new opened.Failed = ((stock_of old).doors ≡ []) × (stock_of new ≡ stock_of old)
DoorFrom old new opened.NoMemory = stock_of new ≡ stock_of old

-- What binding does with the stock: it fails exactly where no post is left.
abbrev pub PostFrom : MemNet → MemNet → Opened → Type 0
PostFrom old new opened.Done = GivesPost old new
PostFrom old new opened.Failed = ((stock_of old).post ≡ None) × (stock_of new ≡ stock_of old)
PostFrom old new opened.NoMemory = stock_of new ≡ stock_of old

-- What dialling does with the stock: it fails exactly where no link is left.
abbrev pub LinkFrom : MemNet → MemNet → Opened → Type 0
LinkFrom old new opened.Done = GivesLink old new
LinkFrom old new opened.Failed = ((stock_of old).link ≡ None) × (stock_of new ≡ stock_of old)
LinkFrom old new opened.NoMemory = stock_of new ≡ stock_of old

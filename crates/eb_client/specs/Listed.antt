-- Discovery over a link, by a host whose port has 32 bits.
use Rattle.std.specs.Prelude.{◌≡◌, ◌⊎◌, ℕ, List, [], Result, Ok, Err, Some}
use Rattle.std.specs.Bool.{⊤}
use Rattle.eb_base.specs.declared.width.Width.TheVariants.{W32}
use Rattle.eb_io.specs.Reading.{Reading}
use Rattle.eb_io.specs.Writing.{Writing, Wrote}
use Rattle.eb_io.specs.declared.sink.WriteFault.{WriteFault}
use Rattle.sdb_walk.specs.declared.reader.Exchange.{Exchange}
use Rattle.sdb_walk.specs.declared.found.Found.{Found}
use Rattle.sdb_walk.specs.declared.fault.WalkFault.{WalkFault}
use Rattle.sdb_walk.specs.declared.fault.WalkFault.TheVariants as walk
use Rattle.sdb_walk.specs.Discovery.{Discovers}
use Rattle.eb_host.specs.declared.op.HostFault.{HostFault}
use Rattle.eb_host.specs.Exchange.{Duplex}
use Rattle.eb_host.specs.Host.{HostState, ReadsRoot}
use Rattle.eb_host.specs.Opening.{Opened, NotOpened}
use Rattle.eb_reader.specs.Reader.{ReadsAll}
use Rattle.eb_text.specs.declared.fault.Fault.TheVariants as fault
use Rattle.eb_text.specs.Listing.{listing_text}
use Rattle.eb_client.specs.declared.fault.ClientFault.{ClientFault}
use Rattle.eb_client.specs.declared.fault.ClientFault.TheVariants as client
use Rattle.eb_client.specs.declared.fault.WalkWhy.TheVariants as rule
use Rattle.eb_client.specs.Asking.{client_widths, host_ending, output_ending}

-- A host over the link was opened and read the address of the root table, and then the words that discovery asked for, one after
-- another. By their answers this is the result of the walk, but for want of memory.
pub record WalkedOver (old new : Duplex) (result : Result (List Found) (WalkFault HostFault)) : Type 0 where
  pub opened : HostState
  pub rooted : HostState
  pub left : HostState
  pub root : ℕ
  pub asked : List (Exchange HostFault)
  pub opens : Opened (client_widths W32) old opened
  pub roots : ReadsRoot opened rooted (Ok root)
  pub reads : ReadsAll rooted asked left
  pub walks : Discovers (Some []) (Some asked) root result
  pub ends : new ≡ left.link

-- A host over the link was opened, and its read of the address of the root table has this fault.
pub record HasNoRoot (old new : Duplex) (f : HostFault) : Type 0 where
  pub opened : HostState
  pub left : HostState
  pub opens : Opened (client_widths W32) old opened
  pub roots : ReadsRoot opened left (Err f)
  pub ends : new ≡ left.link

-- What discovery over a link came to. Where no word was asked for, the fault is that of the host.
abbrev pub WalksOver : Duplex → Duplex → Result (List Found) (WalkFault HostFault) → Type 0
WalksOver old new result =
    WalkedOver old new result
    ⊎ ((f : HostFault) × (result ≡ Err (walk.Reader f)) × (NotOpened (client_widths W32) old new f ⊎ HasNoRoot old new f))

-- how a command ends by a fault of its walk
abbrev pub walk_ending : WalkFault HostFault → ClientFault
walk_ending (walk.BusError adr) = client.BusError adr
walk_ending (walk.Record at why) = client.Walk at (rule.Record why)
walk_ending (walk.WrongPlace at) = client.Walk at rule.WrongPlace
walk_ending (walk.TooMany at) = client.Walk at rule.TooMany
walk_ending (walk.OutsideParent at) = client.Walk at rule.OutsideParent
walk_ending (walk.TooDeep at) = client.Walk at rule.TooDeep
walk_ending (walk.Reader f) = host_ending f
walk_ending walk.NoMemory = client.Common fault.NoMemory

-- What a command does with the tree that was found: it writes its listing, and nothing where there is none.
abbrev pub ShowsTree : {O : Type 0} → (O → Writing) → (O → Reading) → Result (List Found) (WalkFault HostFault) → O → O → Result ⊤ ClientFault → Type 0
ShowsTree writing reading (Ok tree) old new result =
    (wrote : Result ⊤ WriteFault) × Wrote writing reading old new (listing_text tree) wrote × (result ≡ output_ending wrote)
ShowsTree writing reading (Err f) old new result = (new ≡ old) × (result ≡ Err (walk_ending f))

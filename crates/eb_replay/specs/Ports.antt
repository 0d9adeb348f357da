-- What a stream was that is served from a file, with its replies kept.
use Rattle.std.specs.Prelude.{◌≡◌, ◌⊎◌, ℕ, Bool, true, false, List, None, IfSome}
use Rattle.eb_io.specs.Reading.{Reading}
use Rattle.eb_codec.specs.Stream.{StreamItem}
use Rattle.wb_signals.specs.History.{Entry, given}
use Rattle.eb_session.specs.declared.slave.Slave.{Slave}
use Rattle.eb_session.specs.Cycles.{Fit}
use Rattle.eb_session.specs.Replies.{replies}
use Rattle.eb_server.specs.declared.ending.Ending.{Ending}
use Rattle.eb_server.specs.declared.ending.Ending.TheVariants as ending
use Rattle.eb_server.specs.Serving.{WasRead, HaveRun, AllRan}

-- How the stream of a port ended, and the octets of its reply.
pub record PortOutcome : Type 0 where
  pub ending : Ending
  pub reply : List ℕ

-- The ending that is told of a stream: want of memory in place of the read that failed because room was refused.
abbrev pub told_ending : Bool → Ending → Ending
told_ending true e = ending.NoMemory
told_ending false e = e

-- What a reading tells beside the octets that were given.
abbrev pub but_given : Reading → Reading
but_given reading = record reading { given = None }

-- Which items ran, of the octets that were read. Want of memory ends a stream at a record that asked the bus, of which nothing
-- ran, or where there was no room for replies to what would have been read next. No write fails.
abbrev pub HasReplayed : Slave → List ℕ → List StreamItem → Ending → Type 0
HasReplayed s octets items ending.WriteFault = ⊥
HasReplayed s octets items ending.NoMemory = HaveRun s octets items ending.NoMemory ⊎ AllRan s octets items
HasReplayed s octets items e = HaveRun s octets items e

-- The stream of a file, which had given nothing, was served, and these are its master's entries. It gave these octets, and no
-- others where it tells what it gave; these items ran; the entries fit the cycles of these items; and what was replied are the
-- whole replies to these items with the answers of these entries.
pub record ServedFile (s : Slave) (file file' : Reading) (entries : List Entry) (port : PortOutcome) : Type 0 where
  pub octets : List ℕ
  pub items : List StreamItem
  pub read : WasRead (but_given file) (but_given file') octets port.ending
  pub told : IfSome file'.given (λ all. all ≡ octets)
  pub ran : HasReplayed s octets items port.ending
  pub fit : Fit s.bus items entries
  pub replied : port.reply ≡ replies s items (given entries)

-- How a client's command ends otherwise than well: its status, and its line on standard error.
use Rattle.std.specs.Prelude.{ℕ, List, ◌++◌, codes, decimal}
use Rattle.eb_io.specs.Text.{line, digits_16}
use Rattle.sdb_record.specs.declared.faults.RecordWhy.{RecordWhy}
use Rattle.sdb_record.specs.declared.faults.RecordWhy.TheVariants as why
use Rattle.eb_text.specs.declared.status.Status.{Status}
use Rattle.eb_text.specs.Lines.{status_number, line_of}
use Rattle.eb_client.specs.declared.fault.ClientFault.{ClientFault}
use Rattle.eb_client.specs.declared.fault.ClientFault.TheVariants as client_fault
use Rattle.eb_client.specs.declared.fault.WalkWhy.{WalkWhy}
use Rattle.eb_client.specs.declared.fault.WalkWhy.TheVariants as rule

-- the status of each ending
abbrev pub client_number : ClientFault → ℕ
client_number (client_fault.Common fault) = status_number fault
client_number client_fault.Door = 8
client_number (client_fault.Ended octets) = 9
client_number (client_fault.BadReply place) = 9
client_number (client_fault.NoCommonWidth widths) = 9
client_number (client_fault.TooWide adr) = 9
client_number (client_fault.BusError adr) = 10
client_number (client_fault.Walk at why) = 11

abbrev pub client_status : ClientFault → Status
client_status fault = record { 0 = client_number fault }

-- what is wrong with the octets of a record, as it is told
abbrev pub record_why_text : RecordWhy → List ℕ
record_why_text why.UnknownType = codes "UnknownType"
record_why_text why.BadMagic = codes "BadMagic"
record_why_text why.BadCount = codes "BadCount"
record_why_text why.BadVersion = codes "BadVersion"
record_why_text why.BadBus = codes "BadBus"
record_why_text why.BadRange = codes "BadRange"
record_why_text why.BadName = codes "BadName"

-- the rules of a walk, as they are told
abbrev pub walk_why_text : WalkWhy → List ℕ
walk_why_text (rule.Record fault) = codes "record " ++ decimal fault.at ++ codes " " ++ record_why_text fault.why
walk_why_text rule.WrongPlace = codes "wrong place"
walk_why_text rule.TooMany = codes "too many"
walk_why_text rule.OutsideParent = codes "outside parent"
walk_why_text rule.TooDeep = codes "too deep"

-- how many octets the peer sent before it ended
abbrev pub ended_line : ℕ → List ℕ
ended_line octets = line (codes "peer ended after " ++ decimal octets ++ codes " octets")

-- which octet of the peer's replies is refused
abbrev pub reply_line : ℕ → List ℕ
reply_line place = line (codes "peer's reply refused at " ++ decimal place)

-- the address at which the bus answered with an error
abbrev pub bus_line : ℕ → List ℕ
bus_line adr = line (codes "bus error at " ++ digits_16 adr)

-- the record that breaks a rule of the walk first, and which
abbrev pub walk_line : ℕ → WalkWhy → List ℕ
walk_line at why = line (codes "walk refused at " ++ digits_16 at ++ codes ": " ++ walk_why_text why)

-- the line of each ending
abbrev pub client_line : ClientFault → List ℕ
client_line (client_fault.Common fault) = line_of fault
client_line client_fault.Door = line (codes "door fault")
client_line (client_fault.Ended octets) = ended_line octets
client_line (client_fault.BadReply place) = reply_line place
client_line (client_fault.NoCommonWidth widths) = line (codes "no common width")
client_line (client_fault.TooWide adr) = line (codes "address too wide")
client_line (client_fault.BusError adr) = bus_line adr
client_line (client_fault.Walk at why) = walk_line at why

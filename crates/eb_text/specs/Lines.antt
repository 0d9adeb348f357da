-- How a command ends otherwise than well: its status, and its line on standard error.
use Rattle.std.specs.Prelude.{ℕ, List, ◌++◌, codes, decimal}
use Rattle.eb_io.specs.Text.{line}
use Rattle.soc_desc.specs.declared.fault.DescFault.{DescFault}
use Rattle.soc_desc.specs.declared.fault.DescFault.TheVariants as desc
use Rattle.eb_codec.specs.declared.item.Why.{Why}
use Rattle.eb_codec.specs.declared.item.Why.TheVariants as why
use Rattle.eb_text.specs.declared.status.Status.{Status}
use Rattle.eb_text.specs.declared.fault.Fault.{Fault}
use Rattle.eb_text.specs.declared.fault.Fault.TheVariants as fault

-- the status of a refused description; want of memory has one of its own
abbrev pub refusal_status : DescFault → ℕ
refusal_status desc.NoMemory = 13
refusal_status _ = 3

-- the status of each ending
abbrev pub status_number : Fault → ℕ
status_number fault.Usage = 2
status_number (fault.Description refused) = refusal_status refused
status_number fault.ReadFault = 4
status_number fault.WriteFault = 5
status_number (fault.Malformed place rule) = 6
status_number (fault.Truncated octets) = 7
status_number fault.TooLong = 12
status_number fault.NoMemory = 13
status_number (fault.Script number) = 14

abbrev pub status_of : Fault → Status
status_of fault = record { 0 = status_number fault }

-- why a description is refused, and where: a space stands before the path also where it is empty
abbrev pub refusal : List ℕ → List ℕ → List ℕ
refusal reason path = line (codes "description refused: " ++ reason ++ codes " " ++ path)

-- the line of a refused description
abbrev pub refusal_line : DescFault → List ℕ
refusal_line desc.NotJson = line (codes "description refused: not json")
refusal_line (desc.Missing path) = refusal (codes "missing") path
refusal_line (desc.Unknown path) = refusal (codes "unknown") path
refusal_line (desc.Kind path) = refusal (codes "kind") path
refusal_line (desc.Range path) = refusal (codes "range") path
refusal_line (desc.Overlap path other) = refusal (codes "overlap " ++ path) other
refusal_line (desc.Outside path) = refusal (codes "outside") path
refusal_line (desc.TooMany path) = refusal (codes "too many") path
refusal_line (desc.TooDeep path) = refusal (codes "too deep") path
refusal_line (desc.Name path) = refusal (codes "name") path
refusal_line desc.NoMemory = line (codes "no memory")

-- the rules of a stream, as they are told
abbrev pub rule_text : Why → List ℕ
rule_text why.Magic = codes "wrong magic"
rule_text why.Version = codes "wrong version"
rule_text why.Response = codes "probe response"
rule_text why.Reserved = codes "reserved bit"
rule_text why.Width = codes "width"
rule_text why.Flag = codes "reserved flag"
rule_text why.Beyond = codes "byte enable beyond the port"
rule_text why.NoEnable = codes "no byte enabled"
rule_text why.NoReply = codes "read without reply"

-- where a stream breaks a rule first, and which
abbrev pub malformed_line : ℕ → Why → List ℕ
malformed_line place rule = line (codes "malformed at " ++ decimal place ++ codes ": " ++ rule_text rule)

-- how many octets of an item there were as the input ended
abbrev pub truncated_line : ℕ → List ℕ
truncated_line octets = line (codes "truncated after " ++ decimal octets ++ codes " octets of an item")

-- which line of a script is refused
abbrev pub script_line : ℕ → List ℕ
script_line number = line (codes "script refused at line " ++ decimal number)

-- the line of each ending
abbrev pub line_of : Fault → List ℕ
line_of fault.Usage = line (codes "usage")
line_of (fault.Description refused) = refusal_line refused
line_of fault.ReadFault = line (codes "read fault")
line_of fault.WriteFault = line (codes "write fault")
line_of (fault.Malformed place rule) = malformed_line place rule
line_of (fault.Truncated octets) = truncated_line octets
line_of fault.TooLong = line (codes "too long")
line_of fault.NoMemory = line (codes "no memory")
line_of (fault.Script number) = script_line number

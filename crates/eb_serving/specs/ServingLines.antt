-- How a server's command ends otherwise than well: its status, and its line on standard error.
use Rattle.std.specs.Prelude.{ℕ, List, codes}
use Rattle.eb_io.specs.Text.{line}
use Rattle.eb_text.specs.declared.status.Status.{Status}
use Rattle.eb_text.specs.Lines.{status_number, line_of}
use Rattle.eb_serving.specs.declared.fault.ServingFault.{ServingFault}
use Rattle.eb_serving.specs.declared.fault.ServingFault.TheVariants as serving

-- the status of each ending
abbrev pub serving_number : ServingFault → ℕ
serving_number (serving.Common fault) = status_number fault
serving_number serving.Door = 8

abbrev pub serving_status : ServingFault → Status
serving_status fault = record { 0 = serving_number fault }

-- the line of each ending
abbrev pub serving_line : ServingFault → List ℕ
serving_line (serving.Common fault) = line_of fault
serving_line serving.Door = line (codes "door fault")

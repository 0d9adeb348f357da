-- The first of served ports that didn't end clean.
use Rattle.std.specs.Prelude.{List, [], ◌∷◌, Bool, true, false, Option, Some, None}
use Rattle.eb_server.specs.declared.ending.Ending.{Ending}
use Rattle.eb_server.specs.declared.ending.Ending.TheVariants as ending
use Rattle.eb_ports.specs.Ends.{EndsState}
use Rattle.eb_serve.specs.declared.unclean.Unclean.{Unclean}
use Rattle.eb_serve.specs.declared.unclean.Unclean.TheVariants as unclean

abbrev pub connection_or : Ending → Option Unclean → Option Unclean
connection_or ending.Clean rest = rest
connection_or e rest = Some (unclean.Connection e)

-- the first of these connections that isn't clean, or else this
abbrev pub connections_or : List Ending → Option Unclean → Option Unclean
connections_or [] rest = rest
connections_or (e ∷ endings) rest = connection_or e (connections_or endings rest)

abbrev pub unclean_door : Bool → Option Unclean
unclean_door true = Some unclean.Door
unclean_door false = None

-- the first of a port: its door comes behind its connections
abbrev pub unclean_port : EndsState → Option Unclean
unclean_port ends = connections_or ends.endings (unclean_door ends.door_failed)

abbrev pub this_or : Option Unclean → Option Unclean → Option Unclean
this_or None rest = rest
this_or (Some u) rest = Some u

-- that of the first port that has one
abbrev pub first_unclean_port : List EndsState → Option Unclean
first_unclean_port [] = None
first_unclean_port (ends ∷ ports) = this_or (unclean_port ends) (first_unclean_port ports)

-- ---- of datagrams

abbrev pub ending_or : Ending → Option Ending → Option Ending
ending_or ending.Clean rest = rest
ending_or e rest = Some e

-- the first ending that isn't clean
abbrev pub first_unclean_of : List Ending → Option Ending
first_unclean_of [] = None
first_unclean_of (e ∷ endings) = ending_or e (first_unclean_of endings)

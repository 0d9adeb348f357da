-- The calls of one kind of a form in memory.
use Rattle.eb_io.specs.Plan.{Plan}
use Rattle.eb_net.specs.declared.tries.Tries.{Tries}

-- how they go; each moves one thing
abbrev pub tries_of : Tries → Plan
tries_of t = record { most = 1; fails = t.fails.items; next = t.next }

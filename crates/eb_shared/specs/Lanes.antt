-- A master's lane: its link, its session and its pass.
use Rattle.std.specs.Prelude.{◌≡◌, ◌<◌, Option, IsSome, IfSome}
use Rattle.eb_base.specs.declared.width.Width.TheVariants.{W32}
use Rattle.eb_session.specs.Keeping.{SessionState, new_session}
use Rattle.atomic_table.specs.Seated.{TableId}
use Rattle.soc_turn.specs.Views.{PassView}
use Rattle.soc_bus.specs.View.{BusState}
use Rattle.eb_shared.specs.Shared.{no_stake, stake_by}

-- The pass is there, is of this turn, is one of the bus's masters and has no open cycle.
abbrev pub IsThere : TableId → Option (PassView BusState) → Type 0
IsThere turn pass = IsSome pass × IfSome pass (λ p. (p.turn ≡ turn) × (p.number < p.last.description.masters) × (stake_by p ≡ no_stake))

-- The session is new, and of the bus's width.
abbrev pub IsFreshSession : SessionState → Type 0
IsFreshSession session = (session ≡ new_session session.slave) × (session.slave.bus ≡ W32)

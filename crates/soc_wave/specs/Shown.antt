-- What a tick shows of the ports.
use Rattle.std.specs.Prelude.{◌≡◌, ℕ, zero, suc, ◌==◌, Bool, true, false, if◌then◌else◌, List, [], ◌∷◌, map, is_some, Option, Some, None}
use Rattle.std.specs.Int.{bit_at}
use Rattle.wb_signals.specs.Request.{Request}
use Rattle.wb_signals.specs.declared.answer.Answer.{Answer}
use Rattle.wb_signals.specs.declared.answer.Answer.TheVariants.{Ack, Err, Rty}
use Rattle.soc_core.specs.Fabric.{Fabric}
use Rattle.wb_signals.specs.Slave.{Owed, given, is_stalled}
use Rattle.soc_core.specs.Core.{CorePort, Core, IsTick, offered, held_by, granted_from}
use Rattle.soc_core.specs.Sound.{is_busy_phase}
use Rattle.wb_signals.specs.declared.port_row.PortRow.{PortRow}
use Rattle.wb_signals.specs.Wave.{WaveRowState}

-- the lines of a request, zero where there is none
abbrev pub we_of : Option Request → Bool
we_of None = false
we_of (Some r) = r.write

abbrev pub adr_of : Option Request → ℕ
adr_of None = 0
adr_of (Some r) = r.adr

abbrev pub dat_of : Option Request → ℕ
dat_of None = 0
dat_of (Some r) = r.dat

abbrev pub sel_of : Option Request → ℕ
sel_of None = 0
sel_of (Some r) = r.sel

abbrev pub stall_of : Fabric → List Owed → Option Request → Bool
stall_of f owed None = false
stall_of f owed (Some r) = is_stalled f.wiring owed r

-- the lines of an answer
abbrev pub ack_of : Option Answer → Bool
ack_of None = false
ack_of (Some (Ack word)) = true
ack_of (Some Err) = false
ack_of (Some Rty) = false

abbrev pub err_of : Option Answer → Bool
err_of None = false
err_of (Some (Ack word)) = false
err_of (Some Err) = true
err_of (Some Rty) = false

abbrev pub rty_of : Option Answer → Bool
rty_of None = false
rty_of (Some (Ack word)) = false
rty_of (Some Err) = false
rty_of (Some Rty) = true

abbrev pub answer_word : Option Answer → ℕ
answer_word None = 0
answer_word (Some (Ack word)) = word
answer_word (Some Err) = 0
answer_word (Some Rty) = 0

-- the signals of a port that drives a request, or none, while these answers are owed
abbrev pub signals : Fabric → Bool → List Owed → Option Request → PortRow
signals f cyc owed op = record {
  cyc = cyc;
  stb = is_some op;
  we = we_of op;
  adr = adr_of op;
  dat = dat_of op;
  sel = sel_of op;
  stall = stall_of f owed op;
  ack = ack_of (given owed);
  err = err_of (given owed);
  rty = rty_of (given owed);
  read = answer_word (given owed);
}

-- a port as it stands after the grants of a tick
abbrev pub port_row : Fabric → CorePort → PortRow
port_row f p = signals f (is_busy_phase p.phase) p.owed (offered f p)

-- the first port that holds a top slave, from the one with number m on
abbrev pub holder_from : ℕ → List CorePort → ℕ → Option ℕ
holder_from m [] slave = None
holder_from m (p ∷ ports) slave = if bit_at (held_by p.phase) slave == 1 then Some m else holder_from (suc m) ports slave

abbrev pub holders_from : List CorePort → ℕ → ℕ → List (Option ℕ)
holders_from ports slave zero = []
holders_from ports slave (suc n) = holder_from 0 ports slave ∷ holders_from ports (suc slave) n

-- The row of a tick: the ports after its grants.
abbrev pub row_of : Fabric → List CorePort → WaveRowState
row_of f ports = record { ports = map (port_row f) ports; holders = holders_from ports 0 f.slaves }

-- A tick shows this row.
abbrev pub ShowsTick : Fabric → Core → Core → WaveRowState → Type 0
ShowsTick f old new row = (tick : IsTick f old new) × (row ≡ row_of f (granted_from tick.grant 0 old.ports))

-- What a clock shows: the crossbar's rows are those of the core's ports.
use Rattle.std.proofs.Common.{◌≡◌, ℕ, zero, suc, ◌==◌, Bool, cond, is_some, List, [], ◌∷◌, length, map, Option, Some, None, refl, ap, sym, ◌∙◌, arith}
use Rattle.std.specs.Int.{bit_at}
use Rattle.wb_signals.specs.Request.{Request}
use Rattle.wb_signals.specs.Slave.{Owed, given}
use Rattle.wb_signals.specs.Rows.{row_after, with_answer}
use Rattle.wb_signals.specs.declared.answer.Answer.{Answer}
use Rattle.wb_signals.specs.declared.answer.Answer.TheVariants.{Ack, Err, Rty}
use Rattle.wb_signals.specs.declared.port_row.PortRow.{PortRow}
use Rattle.wb_port.specs.Port as engine
use Rattle.wb_crossbar.specs.Crossbar.{rows_after}
use Rattle.soc_core.specs.Fabric.{Fabric}
use Rattle.soc_core.specs.Core.{CorePort, held_by}
use Rattle.soc_core.specs.Sound.{is_busy_phase}
use Rattle.soc_bus.specs.View.{with_queue, joined}
use Rattle.soc_bus.specs.Clocked.{driving, driven_rows}
use Rattle.soc_wave.specs.Shown.{we_of, adr_of, dat_of, sel_of, stall_of, ack_of, err_of, rty_of, answer_word, signals, port_row, holder_from, holders_from}
use Rattle.soc_bus.proofs.Joined.{Matches, driven_is}

answered_row : (f : Fabric) (cyc : Bool) (o : List Owed) (op : Option Request) (a : Option Answer) → (let r : PortRow = record (driving cyc op) { stall = stall_of f o op } in with_answer a r)
    ≡ record { cyc = cyc; stb = is_some op; we = we_of op; adr = adr_of op; dat = dat_of op; sel = sel_of op; stall = stall_of f o op; ack = ack_of a; err = err_of a; rty = rty_of a; read = answer_word a }
answered_row f cyc o None None = refl
answered_row f cyc o None (Some (Ack word)) = refl
answered_row f cyc o None (Some Err) = refl
answered_row f cyc o None (Some Rty) = refl
answered_row f cyc o (Some r) None = refl
answered_row f cyc o (Some r) (Some (Ack word)) = refl
answered_row f cyc o (Some r) (Some Err) = refl
answered_row f cyc o (Some r) (Some Rty) = refl

signals_are : (f : Fabric) (cyc : Bool) (o : List Owed) (op : Option Request) → row_after f.wiring o (driving cyc op) ≡ signals f cyc o op
signals_are f cyc o None = answered_row f cyc o None (given o)
signals_are f cyc o (Some r) = answered_row f cyc o (Some r) (given o)

-- each port's row is that of the core's port
pub rows_shown : (f : Fabric) (cs : List CorePort) (ps : List engine.PortState) (os : List (List Owed)) → Matches f.depth ps os → length ps ≡ length cs → length os ≡ length cs
    → rows_after f.wiring os (driven_rows cs ps) ≡ map (port_row f) (joined cs ps os)
rows_shown f [] [] [] ok a b = refl
rows_shown f [] [] (o ∷ os) ok a b = absurd (omega (arith, b))
rows_shown f [] (p ∷ ps) os ok a b = absurd (omega (arith, a))
rows_shown f (c ∷ cs) [] os ok a b = absurd (omega (arith, a))
rows_shown f (c ∷ cs) (p ∷ ps) [] ok a b = absurd (omega (arith, b))
rows_shown f (c ∷ cs) (p ∷ ps) (o ∷ os) ok a b =
    let first : row_after f.wiring o (driving (is_busy_phase c.phase) (engine.driven p)) ≡ port_row f (with_queue c p o) =
    signals_are f (is_busy_phase c.phase) o (engine.driven p) ∙ ap (signals f (is_busy_phase c.phase) o) (sym (driven_is f c p o ok.0 ok.1)) in
    let more = rows_shown f cs ps os ok.2 (omega (arith, a)) (omega (arith, b)) in
    λ i. first i ∷ more i

-- the holders go by the phases alone
holder_shown : (cs : List CorePort) (ps : List engine.PortState) (os : List (List Owed)) (m slave : ℕ) → length ps ≡ length cs → length os ≡ length cs → holder_from m cs slave ≡ holder_from m (joined cs ps os) slave
holder_shown [] ps os m slave a b = refl
holder_shown (c ∷ cs) [] os m slave a b = absurd (omega (arith, a))
holder_shown (c ∷ cs) (p ∷ ps) [] m slave a b = absurd (omega (arith, b))
holder_shown (c ∷ cs) (p ∷ ps) (o ∷ os) m slave a b =
    ap (λ h. cond (bit_at (held_by c.phase) slave == 1) (Some m) h) (holder_shown cs ps os (suc m) slave (omega (arith, a)) (omega (arith, b)))

pub holders_shown : (cs : List CorePort) (ps : List engine.PortState) (os : List (List Owed)) (slave n : ℕ) → length ps ≡ length cs → length os ≡ length cs
    → holders_from cs slave n ≡ holders_from (joined cs ps os) slave n
holders_shown cs ps os slave zero a b = refl
holders_shown cs ps os slave (suc n) a b = let one = holder_shown cs ps os 0 slave a b in let more = holders_shown cs ps os (suc slave) n a b in λ i. one i ∷ more i

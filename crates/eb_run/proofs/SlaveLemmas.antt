-- What the stream of a slave came to, from what its session and its master came to.
use Rattle.std.proofs.Common.{◌≡◌, ℕ, List, [], ◌++◌, sym, ◌∙◌, ap, subst}
use Rattle.std.specs.Prelude.{All}
use Rattle.eb_base.specs.declared.width.Width.TheVariants.{W32}
use Rattle.eb_io.specs.Reading.{Reading}
use Rattle.eb_io.specs.Writing.{Writing}
use Rattle.wb_signals.specs.History.{Entry, IsLegal, given}
use Rattle.wb_signals.specs.Content.{Content}
use Rattle.wb_signals.specs.Cycles.{MasterCycles}
use Rattle.wb_signals.specs.Wiring.{Wiring}
use Rattle.eb_session.specs.Cycles.{Fit}
use Rattle.eb_session.specs.declared.slave.Slave.{Slave}
use Rattle.eb_server.specs.Serving as serving
use Rattle.eb_server.specs.declared.ending.Ending.{Ending}
use Rattle.soc_machine.specs.Machine.{MachineState, wiring_of, built_with_ram}
use Rattle.soc_machine.specs.Plain.{PlainState, new_plain}
use Rattle.eb_run.specs.Slave.{IsMade, system_of}
use Rattle.eb_run.specs.Streams.{ServedOn, ram_system}
use Rattle.eb_run.specs.declared.slave.PlainSlave.{PlainSlave}

-- The master had made nothing, and its entries are a legal history.
pub served_by : (s : Slave) (wiring : Wiring) (contents : List Content) (n : ℕ) (old new : MasterCycles) (source source' : Reading) (out out' : Writing) (e : Ending) → n ≡ 0 → old.made ≡ []
    → IsLegal wiring contents new.made → serving.Served n s old new source source' out out' e
    → ServedOn (record { slave = s; wiring = wiring; contents = contents }) source source' out out' new.made e
served_by s wiring contents n old new source source' out out' e number none legal served =
    let made : served.entries ≡ new.made = sym (served.made ∙ ap (λ (l : List Entry). l ++ served.entries) none) in
    let P : ℕ → Type 0 = λ n. All (λ (entry : Entry). entry.master ≡ n) served.entries in
    let mine : All (λ (entry : Entry). entry.master ≡ 0) served.entries = subst P number served.mine in
    record {
      octets = served.octets;
      items = served.items;
      read = served.read;
      ran = served.ran;
      fit = subst (λ (l : List Entry). Fit s.bus served.items l) made served.fit;
      mine = subst (λ (l : List Entry). All (λ entry. entry.master ≡ 0) l) made mine;
      legal = legal;
      answered = subst (λ (l : List Entry). serving.WereAnswered s out out' served.items (given l) e) made served.answered;
    }

-- It was a plain master on its machine.
pub served_on : (s : Slave) (old new : PlainState) (source source' : Reading) (out out' : Writing) (e : Ending) → old ≡ new_plain old.began 0 → new.began ≡ old.began
    → IsLegal (wiring_of new.began) new.began.contents new.made
    → serving.Served old.number s (record { made = old.made; opened = old.opened }) (record { made = new.made; opened = new.opened }) source source' out out' e
    → ServedOn (record { slave = s; wiring = wiring_of old.began; contents = old.began.contents }) source source' out out' new.made e
served_on s old new source source' out out' e is_new began legal served =
    served_by s (wiring_of old.began) old.began.contents old.number (record { made = old.made; opened = old.opened }) (record { made = new.made; opened = new.opened }) source source' out out' e
    (ap (λ (p : PlainState). p.number) is_new) (ap (λ (p : PlainState). p.made) is_new) (subst (λ (m : MachineState). IsLegal (wiring_of m) m.contents new.made) began legal) served

-- a slave of a machine of one RAM, without a table
pub ram_is : {R : Type 0} (octets : ℕ) (b : PlainSlave R) → IsMade (built_with_ram W32 octets) 0 b → system_of b ≡ ram_system octets
ram_is octets b made = λ i. record { slave = made.slave_is i; wiring = wiring_of (made.machine_is i); contents = (made.machine_is i).contents }

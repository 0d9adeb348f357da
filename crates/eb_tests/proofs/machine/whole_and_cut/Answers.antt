-- The master's bus is that of its machine.
use Rattle.std.proofs.Common.{rules, ◌≡◌, [], ◌∷◌, true, false, ap, sym, ◌∙◌, subst}
use Rattle.eb_base.specs.declared.width.Width.{Width}
use Rattle.eb_base.specs.declared.width.Width.TheVariants.{W32}
use Rattle.wb_signals.specs.Cycles.{CanRecord, Identity}
use Rattle.soc_machine.specs.Machine.{MachineState, machine_width, built_with_ram}
use Rattle.soc_machine.specs.Plain.{PlainState}
use Rattle.eb_tests.proofs.machine.whole_and_cut.Goals as goal

pub record-requires : goal.record-requires
record-requires g c =
    let built = c.in-Ok.ensures.machine in
    let width : machine_width c.new-master.result.began ≡ W32 = ap (λ (p : PlainState). machine_width p.began) c.new-master.ensures.master ∙ ap (λ (m : MachineState). machine_width m) built in
    let can : CanRecord W32 c.new-master.result.opened (c.read.result ∷ c.read-2.result ∷ []) true = search rules in
    record { can = subst (λ (w : Width). CanRecord w c.new-master.result.opened (c.read.result ∷ c.read-2.result ∷ []) true) (sym width) can }

pub record-requires-2 : goal.record-requires-2
record-requires-2 g c =
    let built = c.in-Ok.ensures.machine in
    let width : machine_width c.new-master.result.began ≡ W32 = ap (λ (p : PlainState). machine_width p.began) c.new-master.ensures.master ∙ ap (λ (m : MachineState). machine_width m) built in
    let kept : machine_width c.record.new.self.began ≡ W32 = ap (λ (q : Identity MachineState). q.bus) c.record.ensures.identity ∙ width in
    let can : CanRecord W32 c.record.new.self.opened (c.read-3.result ∷ []) false = search rules in
    record { can = subst (λ (w : Width). CanRecord w c.record.new.self.opened (c.read-3.result ∷ []) false) (sym kept) can }

-- A tick is the event of the core.
use Rattle.std.proofs.Common.{◌≡◌, ◌++◌, List, length, take, drop, refl, ap, sym, ◌∙◌, subst}
use Rattle.std.proofs.lemmas.List.{take_at}
use Rattle.wb_tree.specs.Tree.{node_slave}
use Rattle.wb_crossbar.specs.Grant.{IsGrant}
use Rattle.wb_crossbar.specs.Crossbar.{CrossbarState, wiring_of, rows_after, after_tick}
use Rattle.wb_crossbar.specs.Inside.{crossbar_of}
use Rattle.soc_core.specs.Built.{fabric_of}
use Rattle.soc_core.specs.Core.{IsTick, granted_from, held}
use Rattle.soc_bus.specs.View.{CycleView, BusState, bus_state, IsBus, IsMadeOf, states, rooms, wanting}
use Rattle.soc_bus.specs.Clocked.{driven_rows, sampled_all, AreServed}
use Rattle.soc_wave.specs.Shown.{holders_from}
use Rattle.soc_bus.proofs.BusLemmas.{tick_served, tick_is, tick_bus, tick_made}
use Rattle.soc_bus.proofs.Adding.{tick_keeps_ledger}
use Rattle.soc_bus.proofs.bus.Bus.tick.Goals as goal

pub unseen_clock-requires-clause-served : goal.unseen_clock-requires-clause-served
unseen_clock-requires-clause-served g c =
    let b = c.self.inside in
    let x : CrossbarState = crossbar_of node_slave b.crossbar in
    let d = b.description.value in
    let cs : List CycleView = b.cycles.items in
    let first : c.deref_mut.result.now ≡ cs = c.deref_mut.ensures.value in
    let long : length c.grant_all-grant.new.cycles ≡ b.cycles.len = c.grant_all-grant.auto.cycles ∙ c.deref_mut.ensures.len in
    let second : take b.cycles.len (c.grant_all-grant.new.cycles ++ drop (length c.grant_all-grant.new.cycles) cs) ≡ c.grant_all-grant.new.cycles =
    take_at c.grant_all-grant.new.cycles (drop (length c.grant_all-grant.new.cycles) cs) b.cycles.len long in
    let third : c.deref.result.now ≡ c.grant_all-grant.new.cycles = c.deref.ensures.value ∙ second in
    let is_grant = subst (λ (ps : List CycleView). IsGrant b.arbiter (wanting (states ps)) (held (states ps)) c.grant_all-grant.result) first c.grant_all-grant.ensures.grant in
    let stepped : states c.grant_all-grant.new.cycles ≡ granted_from c.grant_all-grant.result 0 (states cs) =
    c.grant_all-grant.ensures.states ∙ ap (λ (ps : List CycleView). granted_from c.grant_all-grant.result 0 (states ps)) first in
    subst (λ (ps : List CycleView). AreServed x (holders_from (states ps) 0 (length x.children)) b.ports.items) (sym third) (tick_served d x cs b.ports.items b.arbiter (g.R.BusRecorder.journal b.journal) c.self.invariant.0 c.self.invariant.1 c.grant_all-grant.result c.grant_all-grant.new.cycles c.grant_all-grant.new.arbiter is_grant c.grant_all-grant.ensures.next c.grant_all-grant.ensures.ports stepped)

pub invariant_of-self : goal.invariant_of-self
invariant_of-self g c =
    let b = c.self.inside in
    let x : CrossbarState = crossbar_of node_slave b.crossbar in
    let d = b.description.value in
    let cs : List CycleView = b.cycles.items in
    let first : c.deref_mut.result.now ≡ cs = c.deref_mut.ensures.value in
    let long : length c.grant_all-grant.new.cycles ≡ b.cycles.len = c.grant_all-grant.auto.cycles ∙ c.deref_mut.ensures.len in
    let second : take b.cycles.len (c.grant_all-grant.new.cycles ++ drop (length c.grant_all-grant.new.cycles) cs) ≡ c.grant_all-grant.new.cycles =
    take_at c.grant_all-grant.new.cycles (drop (length c.grant_all-grant.new.cycles) cs) b.cycles.len long in
    let third : c.deref.result.now ≡ c.grant_all-grant.new.cycles = c.deref.ensures.value ∙ second in
    let is_grant = subst (λ (ps : List CycleView). IsGrant b.arbiter (wanting (states ps)) (held (states ps)) c.grant_all-grant.result) first c.grant_all-grant.ensures.grant in
    let stepped : states c.grant_all-grant.new.cycles ≡ granted_from c.grant_all-grant.result 0 (states cs) =
    c.grant_all-grant.ensures.states ∙ ap (λ (ps : List CycleView). granted_from c.grant_all-grant.result 0 (states ps)) first in
    let cs2 = c.grant_all-grant.new.cycles in
    let rows = rows_after (wiring_of x) x.owed (driven_rows (states cs2) b.ports.items) in
    let sampled = c.unseen_clock.ensures.ports ∙ ap (λ (ps : List CycleView). sampled_all b.ports.items (rows_after (wiring_of x) x.owed (driven_rows (states ps) b.ports.items))) third in
    let after = c.unseen_clock.ensures.crossbar ∙ ap (λ (ps : List CycleView). after_tick x (driven_rows (states ps) b.ports.items)) third in
    let same_rooms : rooms c.grant_all-grant.new.cycles ≡ rooms cs = c.grant_all-grant.ensures.rooms ∙ ap rooms first in (
      subst (λ (ps : List CycleView). IsBus (bus_state d (crossbar_of node_slave c.unseen_clock.new.crossbar) ps c.unseen_clock.new.ports.items c.grant_all-grant.new.arbiter (g.R.BusRecorder.journal b.journal))) (sym second) (tick_bus d x cs b.ports.items b.arbiter (g.R.BusRecorder.journal b.journal) c.self.invariant.0 c.self.invariant.1 c.grant_all-grant.result c.grant_all-grant.new.cycles c.grant_all-grant.new.arbiter is_grant c.grant_all-grant.ensures.next c.grant_all-grant.ensures.ports stepped c.unseen_clock.new.ports.items (crossbar_of node_slave c.unseen_clock.new.crossbar) rows refl sampled after same_rooms),
      subst (λ (ps : List CycleView). IsMadeOf d (crossbar_of node_slave c.unseen_clock.new.crossbar) ps c.unseen_clock.new.ports.items c.grant_all-grant.new.arbiter) (sym second) (tick_made d x cs b.ports.items b.arbiter (g.R.BusRecorder.journal b.journal) c.self.invariant.0 c.self.invariant.1 c.grant_all-grant.result c.grant_all-grant.new.cycles c.grant_all-grant.new.arbiter is_grant c.grant_all-grant.ensures.next c.grant_all-grant.ensures.ports stepped c.unseen_clock.new.ports.items (crossbar_of node_slave c.unseen_clock.new.crossbar) rows refl sampled after),
      c.unseen_clock.ensures.sound,
    )

pub returns-clause-tick : goal.returns-clause-tick
returns-clause-tick g c =
    let b = c.self.inside in
    let x : CrossbarState = crossbar_of node_slave b.crossbar in
    let d = b.description.value in
    let cs : List CycleView = b.cycles.items in
    let first : c.deref_mut.result.now ≡ cs = c.deref_mut.ensures.value in
    let long : length c.grant_all-grant.new.cycles ≡ b.cycles.len = c.grant_all-grant.auto.cycles ∙ c.deref_mut.ensures.len in
    let second : take b.cycles.len (c.grant_all-grant.new.cycles ++ drop (length c.grant_all-grant.new.cycles) cs) ≡ c.grant_all-grant.new.cycles =
    take_at c.grant_all-grant.new.cycles (drop (length c.grant_all-grant.new.cycles) cs) b.cycles.len long in
    let third : c.deref.result.now ≡ c.grant_all-grant.new.cycles = c.deref.ensures.value ∙ second in
    let is_grant = subst (λ (ps : List CycleView). IsGrant b.arbiter (wanting (states ps)) (held (states ps)) c.grant_all-grant.result) first c.grant_all-grant.ensures.grant in
    let stepped : states c.grant_all-grant.new.cycles ≡ granted_from c.grant_all-grant.result 0 (states cs) =
    c.grant_all-grant.ensures.states ∙ ap (λ (ps : List CycleView). granted_from c.grant_all-grant.result 0 (states ps)) first in
    let cs2 = c.grant_all-grant.new.cycles in
    let rows = rows_after (wiring_of x) x.owed (driven_rows (states cs2) b.ports.items) in
    let sampled = c.unseen_clock.ensures.ports ∙ ap (λ (ps : List CycleView). sampled_all b.ports.items (rows_after (wiring_of x) x.owed (driven_rows (states ps) b.ports.items))) third in
    let after = c.unseen_clock.ensures.crossbar ∙ ap (λ (ps : List CycleView). after_tick x (driven_rows (states ps) b.ports.items)) third in
    let now : List CycleView → BusState = λ ps. bus_state d (crossbar_of node_slave c.unseen_clock.new.crossbar) ps c.unseen_clock.new.ports.items c.grant_all-grant.new.arbiter (g.R.BusRecorder.journal b.journal) in
    subst (λ (s : BusState). IsTick (fabric_of s.description) s.core (now (take b.cycles.len (c.grant_all-grant.new.cycles ++ drop (length c.grant_all-grant.new.cycles) cs))).core) c.self.view_is
    (subst (λ (ps : List CycleView). IsTick (fabric_of d) (bus_state d x cs b.ports.items b.arbiter (g.R.BusRecorder.journal b.journal)).core (now ps).core) (sym second)
    (tick_is d x cs b.ports.items b.arbiter (g.R.BusRecorder.journal b.journal) c.self.invariant.0 c.self.invariant.1 c.grant_all-grant.result c.grant_all-grant.new.cycles c.grant_all-grant.new.arbiter is_grant c.grant_all-grant.ensures.next c.grant_all-grant.ensures.ports stepped c.unseen_clock.new.ports.items (crossbar_of node_slave c.unseen_clock.new.crossbar) rows refl sampled after))

pub returns-clause-keeps : goal.returns-clause-keeps
returns-clause-keeps g c =
    let b = c.self.inside in
    let cs : List CycleView = b.cycles.items in
    let ok = subst (λ (s : BusState). IsBus s) c.self.view_is c.self.invariant.0 in
    tick_keeps_ledger c.args.self.now (bus_state b.description.value (crossbar_of node_slave c.unseen_clock.new.crossbar) (take b.cycles.len (c.grant_all-grant.new.cycles ++ drop (length c.grant_all-grant.new.cycles) cs)) c.unseen_clock.new.ports.items c.grant_all-grant.new.arbiter (g.R.BusRecorder.journal b.journal))
    ok.fabric ok.sound (returns-clause-tick g c) (ap (λ (s : BusState). s.description) c.self.view_is)

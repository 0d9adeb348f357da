-- What a port tells.
use Rattle.std.proofs.Common.{◌<◌, ap, sym, ◌∙◌, subst}
use Rattle.wb_tree.specs.Tree.{node_slave}
use Rattle.wb_crossbar.specs.Crossbar.{CrossbarState}
use Rattle.wb_crossbar.specs.Inside.{crossbar_of}
use Rattle.soc_core.specs.Core.{CorePort, port}
use Rattle.soc_core.specs.Sound.{is_busy_phase}
use Rattle.soc_bus.specs.View.{BusState}
use Rattle.soc_bus.proofs.BusLemmas.{cycle_is}
use Rattle.soc_bus.proofs.bus.Bus.busy.Goals as goal

pub returns : goal.returns
returns g c =
    let b = c.self.inside in
    let x : CrossbarState = crossbar_of node_slave b.crossbar in
    let within : c.args.m < b.description.value.masters = subst (λ (s : BusState). c.args.m < s.description.masters) (sym c.self.view_is) c.requires.within in
    record {
      busy = c.is_busy.ensures.busy ∙ ap (λ (p : CorePort). is_busy_phase p.phase) (cycle_is b.description.value x b.cycles.items b.ports.items b.arbiter (g.R.BusRecorder.journal b.journal) c.self.invariant.0 c.self.invariant.1 c.args.m c.index.result.now within c.index.ensures)
          ∙ ap (λ (s : BusState). is_busy_phase (port s.core c.args.m).phase) c.self.view_is;
    }

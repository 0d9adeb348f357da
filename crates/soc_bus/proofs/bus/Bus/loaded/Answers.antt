-- What a port tells.
use Rattle.std.proofs.Common.{◌<◌, length, ap, sym, ◌∙◌, subst}
use Rattle.wb_tree.specs.Tree.{node_slave}
use Rattle.wb_crossbar.specs.Crossbar.{CrossbarState}
use Rattle.wb_crossbar.specs.Inside.{crossbar_of}
use Rattle.soc_core.specs.Core.{CorePort, port}
use Rattle.soc_bus.specs.View.{BusState}
use Rattle.soc_bus.proofs.BusLemmas.{engine_is}
use Rattle.soc_bus.proofs.bus.Bus.loaded.Goals as goal

pub returns : goal.returns
returns g c =
    let b = c.self.inside in
    let x : CrossbarState = crossbar_of node_slave b.crossbar in
    let within : c.args.m < b.description.value.masters = subst (λ (s : BusState). c.args.m < s.description.masters) (sym c.self.view_is) c.requires.within in
    record {
      loaded = c.loaded.ensures.loaded ∙ ap (λ (p : CorePort). length p.loaded) (engine_is b.description.value x b.cycles.items b.ports.items b.arbiter (g.R.BusRecorder.journal b.journal) c.self.invariant.0 c.self.invariant.1 c.args.m c.index.result.now within c.index.ensures)
          ∙ ap (λ (s : BusState). length (port s.core c.args.m).loaded) c.self.view_is;
    }

use Rattle.soc_core.proofs.Bounds.{ticks_left-load, tick_lowers, ticks_left-pending, load_bound}
use Rattle.soc_core.proofs.laws.load_bound.Goals as goal

pub returns : goal.returns
returns c = record {
  load = ticks_left-load;
  lowers = tick_lowers;
  none = λ f ok core s m. ticks_left-pending f ok _ (s.queues m);
  answered = load_bound;
}

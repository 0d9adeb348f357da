use Rattle.std.proofs.Common.{◌≡◌, ◌<◌, length}
use Rattle.eb_load.specs.LoadSource.{load_reading}
use Rattle.eb_load.specs.Filling.{Filled}
use Rattle.eb_load.proofs.source.LoadSource.fill.Given as goal

abbrev pub invariant-loop-self : goal.invariant-loop-self
invariant-loop-self l = record {
  gave : Filled (load_reading l.initial.self) (load_reading l.self) l.count l.initial.room l.room l.filled;
  whole : l.filled < length l.room → l.self.at ≡ length l.self.piece;
}

abbrev pub decreases-loop-self : goal.decreases-loop-self
decreases-loop-self l = l.self.records

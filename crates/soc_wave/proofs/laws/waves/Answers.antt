use Rattle.soc_wave.proofs.Naming.{rises_have_names}
use Rattle.soc_wave.proofs.Watched.{watched_is_legal}
use Rattle.soc_wave.proofs.WaveByNumber.{answered_where_due, answered_by_number}
use Rattle.soc_wave.proofs.laws.waves.Goals as goal

pub returns : goal.returns
returns c = record { legal = watched_is_legal; named = rises_have_names; answered = answered_where_due; by_number = answered_by_number }

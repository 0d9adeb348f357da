-- More room leaves all else.
use Rattle.std.proofs.Common.{max, sym, ap, ◌∙◌, subst}
use Rattle.std.proofs.lemmas.Result.{on_ok_weaker, on_err_weaker}
use Rattle.soc_wave.specs.Flat.{WaveState}
use Rattle.soc_sim.specs.Watched.{WatchedState}
use Rattle.soc_sim.proofs.WatchedLemmas.{state_of, IsInside, either_inside}
use Rattle.soc_sim.proofs.watched.WatchedBus.room.Goals as goal

pub invariant_of-self : goal.invariant_of-self
invariant_of-self g c =
    let b = c.self.inside.bus in
    let next = c.room.new.self in
    either_inside c.room.result b b next c.room.ensures.ok c.room.ensures.err
    (λ is. subst (λ (w : WaveState). IsInside b w) (sym is) c.self.invariant)
    (λ is. subst (λ (w : WaveState). IsInside b w) (sym is) c.self.invariant)

pub returns-clause-ok : goal.returns-clause-ok
returns-clause-ok g c =
    on_ok_weaker c.room.result (λ is. ap (λ (w : WaveState). state_of c.self.inside.bus w) is
    ∙ ap (λ (s : WatchedState). record s { spare = max s.spare c.args.rows }) c.self.view_is) c.room.ensures.ok

pub returns-clause-err : goal.returns-clause-err
returns-clause-err g c = on_err_weaker c.room.result (λ is. ap (λ (w : WaveState). state_of c.self.inside.bus w) is ∙ c.self.view_is) c.room.ensures.err

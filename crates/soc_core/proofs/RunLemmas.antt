-- What ticks keep, and that they end.
use Rattle.std.proofs.Common.{◌≢◌, ℕ, ◌<◌, ◌==◌, refl, ap, ◌∙◌, arith}
use Rattle.std.specs.Int.{bit_at}
use Rattle.soc_core.specs.Fabric.{Fabric, IsFabric}
use Rattle.soc_core.specs.Core.{CorePort, Core, port, phase_after, pending, ticks_left, IsTick}
use Rattle.soc_core.specs.Sound.{IsSoundCore}
use Rattle.soc_core.specs.Run.{IsRun}
use Rattle.soc_core.proofs.Bounds.{port-tick, tick_lowers, ticks_left-pending}

pub run_none : (core : Core) → IsRun core core
run_none core = record { journal = refl; opened = λ n. refl; loaded = λ n. refl; holds = λ n s h. h; idle = λ n h. h }

pub run_more : (f : Fabric) (ok : IsFabric f) (first old new : Core) → IsSoundCore f old → IsTick f old new → IsRun first old → IsRun first new
run_more f ok first old new s t r = record {
  journal = ap (λ (c : Core). c.journal) t.core ∙ r.journal;
  opened = λ n. ap (λ (p : CorePort). p.opened) (port-tick f ok old new s t n) ∙ r.opened n;
  loaded = λ n. ap (λ (p : CorePort). p.loaded) (port-tick f ok old new s t n) ∙ r.loaded n;
  holds = λ n set h. ap (λ (p : CorePort). p.phase) (port-tick f ok old new s t n) ∙ ap (phase_after (bit_at t.grant n == 1)) (r.holds n set h);
  idle = λ n h. ap (λ (p : CorePort). p.phase) (port-tick f ok old new s t n) ∙ ap (phase_after (bit_at t.grant n == 1)) (r.idle n h);
}

pub run_falls : (f : Fabric) (ok : IsFabric f) (old new : Core) (m : ℕ) → IsSoundCore f old → IsTick f old new → 0 < pending (port old m) → ticks_left f (port new m) < ticks_left f (port old m)
run_falls f ok old new m s t some =
    let lower = tick_lowers f ok old new s t m in
    let not_none : ticks_left f (port old m) ≢ 0 = λ none. (let zero_ = (ticks_left-pending f ok (port old m) (s.queues m)).0 none in let no : ⊥ = omega (arith, some, zero_) in no) in
    omega (arith, lower, not_none)

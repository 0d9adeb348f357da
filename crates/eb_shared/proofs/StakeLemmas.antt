-- What a master's events do to its stake.
use Rattle.std.proofs.Common.{◌≡◌, ◌≢◌, ℕ, ◌==◌, ◌<◌, ◌≤◌, ◌^◌, List, [], ◌∷◌, ◌++◌, length, Bool, true, false, Option, Some, None, refl, ap, sym, ◌∙◌, subst, arith}
use Rattle.std.specs.Int.{bit_at}
use Rattle.eb_base.specs.declared.width.Width.TheVariants.{W32}
use Rattle.wb_signals.specs.Request.{Request}
use Rattle.wb_signals.specs.History.{Pair, Entry}
use Rattle.wb_signals.specs.declared.answer.Answer.{Answer}
use Rattle.wb_signals.specs.Cycles.{AllFitBus, paired, made_with}
use Rattle.soc_core.specs.Fabric.{Fabric, IsFabric, AllGoIn}
use Rattle.soc_core.specs.Built.{fabric_of}
use Rattle.soc_core.specs.Core.{Phase, Idle, Wants, Holds, Leaves, CorePort, Core, Stake, port, stake, stake_of, unloaded, with_load, with_taken, phase_after, raised_of, is_idle, is_granted, pending, raised, loaded, taken, released, CanRaise, CanLoad, CanTake, CanRelease, IsTick}
use Rattle.soc_core.specs.Sound.{IsSoundCore}
use Rattle.soc_bus.specs.View.{BusState, IsBus}
use Rattle.soc_bus.specs.Ledger.{stake_in, KeepsLedger}
use Rattle.soc_core.proofs.Ports.{port_same}
use Rattle.soc_core.proofs.Bounds.{port-tick}
use Rattle.eb_shared.specs.Shared.{no_stake, cycle_stake, stake_after}

-- ---- phases

pub idle_if : (ph : Phase) → is_idle ph ≡ true → ph ≡ Idle
idle_if Idle is = refl
idle_if (Wants set) is = absurd (let never : false ≡ true = is in cc)
idle_if (Holds set) is = absurd (let never : false ≡ true = is in cc)
idle_if Leaves is = absurd (let never : false ≡ true = is in cc)

-- a port without a set is idle after a tick
idle_after : (b : Bool) (ph : Phase) → raised_of ph ≡ None → phase_after b ph ≡ Idle
idle_after b Idle none = refl
idle_after b (Wants set) none = absurd (let never : Some set ≡ None = none in cc)
idle_after b (Holds set) none = absurd (let never : Some set ≡ None = none in cc)
idle_after b Leaves none = refl

pub tick_idle : (f : Fabric) → IsFabric f → (old new : Core) → IsSoundCore f old → IsTick f old new → (m : ℕ) → raised_of (port old m).phase ≡ None → (port new m).phase ≡ Idle
tick_idle f ok old new s t m none =
    ap (λ (p : CorePort). p.phase) (port-tick f ok old new s t m) ∙ idle_after (bit_at t.grant m == 1) (port old m).phase none

-- a port that is granted holds the set that it raised
pub holds_if : (ph : Phase) (set : ℕ) → is_granted ph ≡ true → raised_of ph ≡ Some set → ph ≡ Holds set
holds_if Idle set is raised = absurd (let never : false ≡ true = is in cc)
holds_if (Wants s) set is raised = absurd (let never : false ≡ true = is in cc)
holds_if (Holds s) set is raised = let same : Some s ≡ Some set = raised in ap Holds (some_is s set same)
  where
    some_is : (y x : ℕ) → Some y ≡ Some x → y ≡ x
    some_is y x same = cc
holds_if Leaves set is raised = absurd (let never : false ≡ true = is in cc)

-- ---- conditions

pub can_load_granted : (f : Fabric) (core : Core) (m set : ℕ) (ops : List Request) → f.wiring.bus ≡ W32 → m < f.ports → is_granted (port core m).phase ≡ true → (stake core m).raised ≡ Some set
    → (stake core m).loaded ≡ [] → AllGoIn f set ops → AllFitBus W32 ops → ops ≢ [] → length ops ≤ 510 → CanLoad f core m ops
can_load_granted f core m set ops width within granted raised nothing go fit some most = record {
  within = within;
  granted = (set, holds_if (port core m).phase set granted raised, go);
  nothing = nothing;
  some = some;
  most = most;
  fit = subst (λ w. AllFitBus w ops) (sym width) fit;
}

-- ---- stakes after events

module _ (b : BusState) (ok : IsBus b) (m : ℕ) (within : m < b.description.masters) where
  inside : m < length b.core.ports
  inside = subst (λ n. m < n) (sym ok.sound.ports) within

  pub raise_stake : (set : ℕ) (new : Core) → new ≡ raised b.core m set → stake new m ≡ cycle_stake set [] []
  raise_stake set new is = ap (λ c. stake c m) is ∙ ap stake_of (port_same b.core.ports m (unloaded (Wants set) []) inside)

  pub load_stake : (set : ℕ) (ops : List Request) (new : Core) → (stake b.core m).raised ≡ Some set → new ≡ loaded b.core m ops → stake new m ≡ cycle_stake set (stake b.core m).opened ops
  load_stake set ops new raised is =
      ap (λ c. stake c m) is ∙ ap stake_of (port_same b.core.ports m (with_load ops (port b.core m)) inside)
      ∙ ap (λ r. record { raised = r; opened = (port b.core m).opened; loaded = ops }) raised

  pub take_stake : (set : ℕ) (ops : List Request) (xs : List Answer) (new : Core) → (stake b.core m).raised ≡ Some set → (stake b.core m).loaded ≡ ops → xs ≡ (port b.core m).got → new ≡ taken b.core m
      → stake new m ≡ cycle_stake set ((stake b.core m).opened ++ paired ops xs) []
  take_stake set ops xs new raised loaded same is =
      ap (λ c. stake c m) is ∙ ap stake_of (port_same b.core.ports m (with_taken (port b.core m)) inside)
      ∙ (λ i. record { raised = raised i; opened = (port b.core m).opened ++ paired (loaded i) ((sym same) i); loaded = [] })

  pub release_stake : (cut : Bool) (new : Core) → new ≡ released b.core m cut → stake new m ≡ no_stake
  release_stake cut new is = ap (λ c. stake c m) is ∙ ap stake_of (port_same b.core.ports m (unloaded Leaves []) inside)

  -- a port with no operation pending has all its answers
  pub all_got : pending (port b.core m) ≡ 0 → length (port b.core m).got ≡ length (port b.core m).loaded
  all_got none = let q = ok.sound.queues m in omega (arith, none, q.counted, q.sent)

-- An event adds only to its own master's part and changes only its own port's stake.
use Rattle.std.proofs.Common.{◌≡◌, ℕ, ◌==◌, List, [], ◌∷◌, set, Bool, true, false, refl, ap, sym, ◌∙◌, subst}
use Rattle.std.specs.Int.{bit_at}
use Rattle.wb_signals.specs.Request.{Request}
use Rattle.wb_signals.specs.History.{Pair, Entry}
use Rattle.soc_journal.specs.Growth.{ExtendsBy}
use Rattle.soc_journal.proofs.GrowthLemmas.{ExtendsBy-self}
use Rattle.soc_core.specs.Fabric.{Fabric, IsFabric}
use Rattle.wb_signals.specs.Cycles.{made_with}
use Rattle.soc_core.specs.Core.{Phase, Idle, Wants, Holds, Leaves, CorePort, Core, port, unloaded, with_port, with_load, with_taken, phase_after, raised_of, stake_of, raised, loaded, taken, released, IsTick}
use Rattle.soc_core.specs.Sound.{IsSoundCore}
use Rattle.soc_core.specs.Events.{Event, Raise, Load, Take, Release, Tick, Leads}
use Rattle.soc_core.specs.Laws.{Changes}
use Rattle.soc_core.specs.Stakes.{OnlyOf, KeepsStakes}
use Rattle.soc_core.proofs.Ports.{port_other}
use Rattle.soc_core.proofs.Bounds.{port-tick}

only_port : (core : Core) (m : ℕ) (p : CorePort) → OnlyOf m core (with_port core m p)
only_port core m p = (ExtendsBy-self m core.journal, λ n other. ap stake_of (port_other core.ports m p n other))

pub raise_only : (core : Core) (m set : ℕ) → OnlyOf m core (raised core m set)
raise_only core m set = only_port core m (unloaded (Wants set) [])

pub load_only : (core : Core) (m : ℕ) (ops : List Request) → OnlyOf m core (loaded core m ops)
load_only core m ops = only_port core m (with_load ops (port core m))

pub take_only : (core : Core) (m : ℕ) → OnlyOf m core (taken core m)
take_only core m = only_port core m (with_taken (port core m))

ended_by : (m : ℕ) (cut : Bool) (entries : List Entry) (ps : List Pair) → ExtendsBy m entries (made_with m cut entries ps)
ended_by m cut entries [] = ExtendsBy-self m entries
ended_by m cut entries (p ∷ ps) = (record { master = m; cut = cut; pairs = p ∷ ps } ∷ [], refl, (refl, tt))

pub release_only : (core : Core) (m : ℕ) (cut : Bool) → OnlyOf m core (released core m cut)
release_only core m cut =
    (ended_by m cut core.journal (port core m).opened, λ n other. ap stake_of (port_other core.ports m (unloaded Leaves []) n other))

raised_after : (b : Bool) (ph : Phase) → raised_of (phase_after b ph) ≡ raised_of ph
raised_after b Idle = refl
raised_after true (Wants set) = refl
raised_after false (Wants set) = refl
raised_after b (Holds set) = refl
raised_after b Leaves = refl

pub tick_keeps : (f : Fabric) → IsFabric f → (old new : Core) → IsSoundCore f old → IsTick f old new → KeepsStakes old new
tick_keeps f ok old new s t = (
  ap (λ (c : Core). c.journal) t.core,
  λ n. ap stake_of (port-tick f ok old new s t n)
      ∙ ap (λ r. record { raised = r; opened = (port old n).opened; loaded = (port old n).loaded }) (raised_after (bit_at t.grant n == 1) (port old n).phase),
)

pub event_changes : (f : Fabric) → IsFabric f → (e : Event) (old new : Core) → IsSoundCore f old → Leads f e old new → Changes e old new
event_changes f ok (Raise m set) old new s leads = subst (OnlyOf m old) (sym leads.1) (raise_only old m set)
event_changes f ok (Load m ops) old new s leads = subst (OnlyOf m old) (sym leads.1) (load_only old m ops)
event_changes f ok (Take m) old new s leads = subst (OnlyOf m old) (sym leads.1) (take_only old m)
event_changes f ok (Release m cut) old new s leads = subst (OnlyOf m old) (sym leads.1) (release_only old m cut)
event_changes f ok Tick old new s leads = tick_keeps f ok old new s leads

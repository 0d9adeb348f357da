-- A core is sound as it is built and after each event.
use Rattle.std.proofs.Common.{◌≡◌, ℕ, zero, suc, List, [], ◌∷◌, length, get_or, refl, ap, sym, ◌∙◌, subst}
use Rattle.wb_signals.specs.History.{answers_of, cycle}
use Rattle.soc_core.specs.Fabric.{Fabric, IsFabric}
use Rattle.soc_core.specs.Core.{Idle, Holds, CorePort, Core, port, resting_port, resting_ports, built_core, granted, performed, answered, IsTick}
use Rattle.soc_core.specs.Sound.{StandsIn, IsQueue, before, IsSoundCore}
use Rattle.soc_core.specs.Events.{Event, Raise, Load, Take, Release, Tick, Leads, LeadAll}
use Rattle.soc_core.proofs.Clocks.{clocked_sound}
use Rattle.soc_core.proofs.Grants.{granted_sound}
use Rattle.soc_core.proofs.Events.{queue_unloaded, raise_sound, load_sound, take_sound}
use Rattle.soc_core.proofs.Releases.{release_sound}

-- ---- as it is built

get-idle : (n m : ℕ) → get_or (resting_ports n) m resting_port ≡ resting_port
get-idle zero m = refl
get-idle (suc n) zero = refl
get-idle (suc n) (suc m) = get-idle n m

length-idle : (n : ℕ) → length (resting_ports n) ≡ n
length-idle zero = refl
length-idle (suc n) = ap (λ (k : ℕ). suc k) (length-idle n)

module _ (f : Fabric) (ok : IsFabric f) where
  never_holds : (m set : ℕ) → (port (built_core f) m).phase ≡ Holds set → ⊥
  never_holds m set holds = let never : Idle ≡ Holds set = ap (λ (p : CorePort). p.phase) (sym (get-idle f.ports m)) ∙ holds in cc

  pub each_idle : (P : CorePort → Type 0) → P resting_port → (m : ℕ) → P (port (built_core f) m)
  each_idle P one m = subst P (sym (get-idle f.ports m)) one

  pub built_sound : IsSoundCore f (built_core f)
  built_sound = record {
    legal = tt;
    masters = tt;
    apart = λ m n a b differ h g. absurd (never_holds m a h);
    stand = each_idle (λ q. StandsIn f q.phase q) (refl, refl);
    held = λ place m set slave h. absurd (never_holds m set h.holds);
    unheld = λ place none. refl;
    answers = each_idle (λ q. answered q ≡ answers_of (cycle f.wiring (before f (built_core f)) (performed q))) refl;
    queues = each_idle (λ q. IsQueue f q) (queue_unloaded f Idle []);
    ports = length-idle f.ports;
    places = refl;
    first = ok.some_port;
  }

  -- ---- after each event

  pub tick_sound : (old new : Core) → IsSoundCore f old → IsTick f old new → IsSoundCore f new
  tick_sound old new s t =
      subst (IsSoundCore f) (sym t.core)
      (clocked_sound f ok (granted t.grant t.first old) (granted_sound f ok old s t.grant t.first t.is_next.within t.is_grant))

  pub event_sound : (e : Event) (old new : Core) → IsSoundCore f old → Leads f e old new → IsSoundCore f new
  event_sound (Raise m set) old new s e = subst (IsSoundCore f) (sym e.1) (raise_sound f ok old s m set e.0)
  event_sound (Load m ops) old new s e = subst (IsSoundCore f) (sym e.1) (load_sound f ok old s m ops e.0)
  event_sound (Take m) old new s e = subst (IsSoundCore f) (sym e.1) (take_sound f ok old s m e.0)
  event_sound (Release m cut) old new s e = subst (IsSoundCore f) (sym e.1) (release_sound f ok old s m cut e.0)
  event_sound Tick old new s e = tick_sound old new s e

  pub events_sound : (events : List Event) (old new : Core) → IsSoundCore f old → LeadAll f events old new → IsSoundCore f new
  events_sound [] old new s leads = subst (IsSoundCore f) (sym leads) s
  events_sound (e ∷ events) old new s leads = events_sound events leads.0 new (event_sound e old leads.0 s leads.1) leads.2

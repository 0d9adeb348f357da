-- A watched bus has a legal wave, whose entries are its journal's.
use Rattle.std.proofs.Common.{◌≡◌, ℕ, not, Bool, true, false, List, [], ◌∷◌, ◌++◌, refl, sym, ap, ◌∙◌, subst}
use Rattle.soc_core.specs.Fabric.{Fabric, IsFabric}
use Rattle.soc_core.specs.Core.{built_core}
use Rattle.soc_core.specs.Sound.{IsSoundCore}
use Rattle.soc_core.specs.Events.{Event, Raise, Load, Take, Release, Tick}
use Rattle.soc_wave.specs.Rows.{column, last_port}
use Rattle.soc_wave.specs.Arbitration.{arbitration}
use Rattle.soc_wave.specs.Laws.{Watched, watched_from, AddsNone, LeadsWatched, NamesRaised, NamesIn, LeadAllWatched, WatchedIsLegal}
use Rattle.soc_wave.proofs.Watching.{Watches, RisesAreNamed, watched_tick}
use Rattle.soc_wave.proofs.WatchedEvents.{watched_raise, watched_load, watched_take, watched_release, watched_built}
use Rattle.soc_wave.proofs.Entering.{Enters, entered_tick, entered_raise, entered_load, entered_take, entered_released, entered_built}
use Rattle.soc_wave.proofs.Risen.{is_off, risen_shown}
use Rattle.soc_core.proofs.Ticks.{built_sound, event_sound}

pub record Keeps (f : Fabric) (named : ℕ → ℕ → ℕ) (w : Watched) : Type 0 where
  pub sound : IsSoundCore f w.core
  pub watches : Watches f named w.grants w.rows w.core
  pub enters : Enters f w.rows w.core

not_true : (b : Bool) → not b ≡ true → b ≡ false
not_true true is = sym is
not_true false is = refl

-- the sets are named as the arbitration counts the rises
rises_named : (f : Fabric) (named : ℕ → ℕ → ℕ) (w : Watched) → Watches f named w.grants w.rows w.core → NamesRaised f named w → RisesAreNamed f named (arbitration f named w.grants w.rows) w.core
rises_named f named w watches names m lt off set wants =
    let shown = risen_shown f named w.grants w.rows m lt watches.legal.granted in
    let down : (last_port (column m w.rows)).cyc ≡ false = not_true (last_port (column m w.rows)).cyc (sym shown.1 ∙ ap is_off off) in
    ap (λ (n : ℕ). named m n) shown.0 ∙ names m set lt wants down

module _ (f : Fabric) (fits : IsFabric f) (named : ℕ → ℕ → ℕ) where
  -- after an event that adds no row
  adds_none : (old new : Watched) → IsSoundCore f new.core → AddsNone old new → Watches f named old.grants old.rows new.core → Enters f old.rows new.core → Keeps f named new
  adds_none old new sound none watches enters = record {
    sound = sound;
    watches = subst (λ grants. Watches f named grants new.rows new.core) (sym none.grants) (subst (λ rows. Watches f named old.grants rows new.core) (sym none.rows) watches);
    enters = subst (λ rows. Enters f rows new.core) (sym none.rows) enters;
  }

  pub event_keeps : (e : Event) (old new : Watched) → Keeps f named old → NamesIn f named e old → LeadsWatched f e old new → Keeps f named new
  event_keeps (Raise m set) old new k names leads =
      let sound = event_sound f fits (Raise m set) old.core new.core k.sound leads.0 in
      adds_none old new sound leads.1
      (subst (λ core. Watches f named old.grants old.rows core) (sym leads.0.1) (watched_raise f named old.grants old.rows old.core k.sound k.watches m set leads.0.0))
      (subst (λ core. Enters f old.rows core) (sym leads.0.1) (entered_raise f old.rows old.core k.sound k.enters m set leads.0.0))
  event_keeps (Load m ops) old new k names leads =
      let sound = event_sound f fits (Load m ops) old.core new.core k.sound leads.0 in
      adds_none old new sound leads.1
      (subst (λ core. Watches f named old.grants old.rows core) (sym leads.0.1) (watched_load f named old.grants old.rows old.core k.sound k.watches m ops leads.0.0))
      (subst (λ core. Enters f old.rows core) (sym leads.0.1) (entered_load f old.rows old.core k.sound k.enters m ops leads.0.0))
  event_keeps (Take m) old new k names leads =
      let sound = event_sound f fits (Take m) old.core new.core k.sound leads.0 in
      adds_none old new sound leads.1
      (subst (λ core. Watches f named old.grants old.rows core) (sym leads.0.1) (watched_take f named old.grants old.rows old.core k.sound k.watches m leads.0.0))
      (subst (λ core. Enters f old.rows core) (sym leads.0.1) (entered_take f old.rows old.core k.sound k.enters m leads.0.0))
  event_keeps (Release m cut) old new k names leads =
      let sound = event_sound f fits (Release m cut) old.core new.core k.sound leads.0 in
      adds_none old new sound leads.1
      (subst (λ core. Watches f named old.grants old.rows core) (sym leads.0.1) (watched_release f named old.grants old.rows old.core k.sound k.watches m cut leads.0.0))
      (subst (λ core. Enters f old.rows core) (sym leads.0.1) (entered_released f old.rows old.core k.sound k.enters m cut leads.0.0))
  event_keeps Tick old new k names leads =
      let sound = event_sound f fits Tick old.core new.core k.sound leads.tick in
      let watches = watched_tick f fits named old.grants old.rows old.core new.core k.sound sound leads.tick k.watches (rises_named f named old k.watches names) in
      let enters = entered_tick f old.rows old.core new.core k.sound leads.tick k.enters in
      record {
        sound = sound;
        watches = subst (λ grants. Watches f named grants new.rows new.core) (sym leads.grants)
            (subst (λ rows. Watches f named (old.grants ++ record { ports = leads.tick.grant; first = leads.tick.first } ∷ []) rows new.core) (sym leads.rows) watches);
        enters = subst (λ rows. Enters f rows new.core) (sym leads.rows) enters;
      }

  events_keep : (events : List Event) (old new : Watched) → Keeps f named old → LeadAllWatched f named events old new → Keeps f named new
  events_keep [] old new k leads = subst (Keeps f named) (sym leads) k
  events_keep (e ∷ events) old new k leads = events_keep events leads.0 new (event_keeps e old leads.0 k leads.1 leads.2) leads.3

  pub built_keeps : Keeps f named (watched_from (built_core f))
  built_keeps = record { sound = built_sound f fits; watches = watched_built f named; enters = entered_built f }

pub watched_is_legal : WatchedIsLegal
watched_is_legal f fits named events new leads =
    let k = events_keep f fits named events (watched_from (built_core f)) new (built_keeps f fits named) leads in
    (k.watches.legal, record { shown = k.enters.shown; unshown = k.enters.unshown; whole = k.enters.whole; entries = k.enters.entries })

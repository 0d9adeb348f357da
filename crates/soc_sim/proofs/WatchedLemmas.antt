-- What events make of a watched bus.
use Rattle.std.proofs.Common.{◌≡◌, ◌-◌, ◌^◌, ◌<◌, ◌≤◌, ℕ, Bool, true, false, List, [], ◌∷◌, ◌++◌, Result, Ok, Err, OnOk, OnErr, refl, sym, ap, ◌∙◌, subst, arith}
use Rattle.std.specs.Prelude.{nat_lt}
use Rattle.std.proofs.lemmas.Nat.{pow_below}
use Rattle.soc_desc.specs.declared.description.Description.{Description}
use Rattle.wb_signals.specs.Request.{Request}
use Rattle.wb_signals.specs.Wave.{WaveRowState}
use Rattle.soc_core.specs.Fabric.{Fabric, IsFabric}
use Rattle.soc_core.specs.Built.{fabric_of}
use Rattle.soc_core.specs.Core.{Core, built_core, raised, loaded, taken, released, CanRaise, CanLoad, CanTake, CanRelease}
use Rattle.soc_core.specs.Events.{Event, Raise, Load, Take, Release, Tick}
use Rattle.soc_bus.specs.View.{BusState}
use Rattle.soc_wave.specs.Flat.{WaveState}
use Rattle.soc_wave.specs.Shown.{ShowsTick}
use Rattle.soc_wave.specs.Laws.{Watched, LeadsWatched, LeadAllFreely, watched_from}
use Rattle.soc_wave.proofs.Naming.{rises_have_names}
use Rattle.soc_wave.proofs.Watched.{watched_is_legal}
use Rattle.soc_sim.specs.Watched.{WatchedState, with_grants, HasBeenWatched, IsWatched, LeadsOn}

leads_more : (f : Fabric) (events : List Event) (e : Event) (old mid new : Watched) → LeadAllFreely f events old mid → LeadsWatched f e mid new → LeadAllFreely f (events ++ e ∷ []) old new
leads_more f [] e old mid new is leads = (new, subst (λ (w : Watched). LeadsWatched f e w new) is leads, refl)
leads_more f (d ∷ events) e old mid new run leads = (run.0, run.1, leads_more f events e run.0 mid new run.2 leads)

-- as it was built
pub watched_first : (w : WatchedState) → w.core ≡ built_core (fabric_of w.description) → w.rows ≡ [] → HasBeenWatched w
watched_first w built none = ([], [], λ i. record { core = built i; rows = none i; grants = [] })

-- after one more event
pub watched_more : (e : Event) (old new : WatchedState) → new.description ≡ old.description → HasBeenWatched old → LeadsOn e old new → HasBeenWatched new
watched_more e old new same been leads =
    let next = leads been.1 in
    let f : Fabric = fabric_of old.description in
    let run = leads_more f been.0 e (watched_from (built_core f)) (with_grants old been.1) (with_grants new next.0) been.2 next.1 in
    (been.0 ++ e ∷ [], next.0, subst (λ d. LeadAllFreely (fabric_of d) (been.0 ++ e ∷ []) (watched_from (built_core (fabric_of d))) (with_grants new next.0)) (sym same) run)

-- with other room
pub watched_still : (old new : WatchedState) → new.description ≡ old.description → new.core ≡ old.core → new.rows ≡ old.rows → HasBeenWatched old → HasBeenWatched new
watched_still old new same core rows been =
    let is : record { description = old.description; core = old.core; rows = old.rows; spare = new.spare } ≡ new = λ i. record { description = sym same i; core = sym core i; rows = sym rows i; spare = new.spare } in
    subst (λ (w : WatchedState). HasBeenWatched w) is been

-- Its rows are a legal wave.
pub is_watched : (w : WatchedState) → IsFabric (fabric_of w.description) → HasBeenWatched w → IsWatched w
is_watched w fits been =
    let f : Fabric = fabric_of w.description in
    let n = rises_have_names f fits been.0 (with_grants w been.1) been.2 in
    let legal = watched_is_legal f fits n.0 been.0 (with_grants w been.1) n.1 in
    record { named = n.0; events = been.0; grants = been.1; run = n.1; legal = legal.0; journal = legal.1 }

-- ---- a bus with its wave

abbrev pub state_of : BusState → WaveState → WatchedState
state_of b w = record { description = b.description; core = b.core; rows = w.rows; spare = w.spare }

abbrev pub IsInside : BusState → WaveState → Type 0
IsInside b w = (w.ports ≡ b.description.masters) × (w.slaves ≡ (fabric_of b.description).slaves) × HasBeenWatched (state_of b w)

pub same_inside : (b next : BusState) (w : WaveState) → next.description ≡ b.description → HasBeenWatched (state_of next w) → IsInside b w → IsInside next w
same_inside b next w same been inside =
    (inside.0 ∙ ap (λ (d : Description). d.masters) (sym same), inside.1 ∙ ap (λ (d : Description). (fabric_of d).slaves) (sym same), been)

-- an event that adds no row
pub event_inside : (e : Event) (b next : BusState) (w : WaveState) → next.description ≡ b.description → LeadsOn e (state_of b w) (state_of next w) → IsInside b w → IsInside next w
event_inside e b next w same leads inside =
    same_inside b next w same (watched_more e (state_of b w) (state_of next w) same inside.2 leads) inside

pub still_inside : (b next : BusState) (w : WaveState) → next.description ≡ b.description → next.core ≡ b.core → IsInside b w → IsInside next w
still_inside b next w same core inside =
    same_inside b next w same (watched_still (state_of b w) (state_of next w) same core refl inside.2) inside

-- a refused call, or one that was done
pub either_inside : {A E P Q : Type 0} (r : Result A E) (b next : BusState) (w : WaveState) → OnOk r P → OnErr r Q → (P → IsInside next w) → (Q → IsInside next w) → IsInside next w
either_inside (Ok x) b next w ok err done refused = done ok
either_inside (Err x) b next w ok err done refused = refused err

pub with_core : (b next : BusState) (w : WaveState) (core : Core) → next.description ≡ b.description → next.core ≡ core → state_of next w ≡ record { description = b.description; core = core; rows = w.rows; spare = w.spare }
with_core b next w core same is i = record { description = same i; core = is i; rows = w.rows; spare = w.spare }

-- ---- the events

pub raise_leads : (b next : BusState) (w : WaveState) (m set : ℕ) → CanRaise (fabric_of b.description) b.core m set → next.core ≡ raised b.core m set → LeadsOn (Raise m set) (state_of b w) (state_of next w)
raise_leads b next w m set can is grants = (grants, ((can, is), record { rows = refl; grants = refl }))

pub load_leads : (b next : BusState) (w : WaveState) (m : ℕ) (ops : List Request) → CanLoad (fabric_of b.description) b.core m ops → next.core ≡ loaded b.core m ops → LeadsOn (Load m ops) (state_of b w) (state_of next w)
load_leads b next w m ops can is grants = (grants, ((can, is), record { rows = refl; grants = refl }))

pub take_leads : (b next : BusState) (w : WaveState) (m : ℕ) → CanTake (fabric_of b.description) b.core m → next.core ≡ taken b.core m → LeadsOn (Take m) (state_of b w) (state_of next w)
take_leads b next w m can is grants = (grants, ((can, is), record { rows = refl; grants = refl }))

pub release_leads : (b next : BusState) (w : WaveState) (m : ℕ) (cut : Bool) → CanRelease (fabric_of b.description) b.core m → next.core ≡ released b.core m cut → LeadsOn (Release m cut) (state_of b w) (state_of next w)
release_leads b next w m cut can is grants = (grants, ((can, is), record { rows = refl; grants = refl }))

pub tick_leads : (b next : BusState) (w after : WaveState) (row : WaveRowState) → ShowsTick (fabric_of b.description) b.core next.core row → after.rows ≡ w.rows ++ row ∷ [] → LeadsOn Tick (state_of b w) (state_of next after)
tick_leads b next w after row shown added grants = (
  grants ++ record { ports = shown.0.grant; first = shown.0.first } ∷ [],
  record { tick = shown.0; rows = added ∙ ap (λ r. w.rows ++ r ∷ []) shown.1; grants = refl },
)

pub tick_inside : (b next : BusState) (w after : WaveState) (row : WaveRowState) → next.description ≡ b.description → ShowsTick (fabric_of b.description) b.core next.core row
    → after ≡ record w { rows = w.rows ++ row ∷ []; spare = w.spare - 1 } → IsInside b w → IsInside next after
tick_inside b next w after row same shown added inside = (
  ap (λ (x : WaveState). x.ports) added ∙ inside.0 ∙ ap (λ (d : Description). d.masters) (sym same),
  ap (λ (x : WaveState). x.slaves) added ∙ inside.1 ∙ ap (λ (d : Description). (fabric_of d).slaves) (sym same),
  watched_more Tick (state_of b w) (state_of next after) same inside.2 (tick_leads b next w after row shown (ap (λ (x : WaveState). x.rows) added)),
)

-- ---- the number of slaves

few_by : (n set : ℕ) → set ≡ 2 ^ n - 1 → set < 2 ^ 128 → (b : Bool) → nat_lt 128 n ≡ b → n ≤ 128
few_by n set all within true more =
    let above : 128 < n = grind (arith, more) in
    let beyond = pow_below 128 n above in
    absurd (omega (arith, all, within, beyond))
few_by n set all within false fewer = grind (arith, fewer)

-- a set of all of them that has 128 bits
pub few_slaves : (n set : ℕ) → set ≡ 2 ^ n - 1 → set < 2 ^ 128 → n ≤ 128
few_slaves n set all within = few_by n set all within (nat_lt 128 n) refl

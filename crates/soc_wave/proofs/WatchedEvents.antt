-- The events between two ticks leave what the rows show.
use Rattle.std.proofs.Common.{◌≡◌, ◌≢◌, ℕ, zero, suc, ◌<◌, ◌≤◌, Bool, List, [], ◌∷◌, length, drop, refl, sym, ap, ◌∙◌, subst, arith, inl, inr, get_or-set_same, get_or-set_other}
use Rattle.std.specs.Prelude.{slice_index_or, slice_set, Option, None}
use Rattle.std.proofs.lemmas.Bool.{cases_eq}
use Rattle.wb_signals.specs.Request.{Request}
use Rattle.soc_core.specs.Fabric.{Fabric}
use Rattle.wb_signals.specs.Slave.{Owed}
use Rattle.soc_core.specs.Core.{Phase, Idle, Wants, Leaves, CorePort, Core, port, resting_port, resting_ports, built_core, head_of, unloaded, with_load, with_taken, raised, loaded, taken, released, CanRaise, CanLoad, CanTake, CanRelease}
use Rattle.soc_core.specs.Sound.{StandsIn, IsQueue, IsSoundCore}
use Rattle.wb_signals.specs.declared.port_row.PortRow.{PortRow}
use Rattle.wb_signals.specs.Wave.{WaveRowState}
use Rattle.soc_wave.specs.Rows.{column, last_port}
use Rattle.soc_wave.specs.Arbitration.{Course, PortCourse, Granting, arbitration, no_courses}
use Rattle.soc_wave.proofs.Owing.{Shows, shows-none}
use Rattle.soc_wave.proofs.PortRows.{Waits, false_true}
use Rattle.soc_wave.proofs.PortTick.{PortShows, nothing_waits}
use Rattle.soc_wave.proofs.Arbitrating.{Stands, AllStand}
use Rattle.soc_wave.proofs.Rowed.{no_number}
use Rattle.soc_wave.proofs.Watching.{Watches, StillHolds}

-- ---- one port replaced

stand_set : (m : ℕ) (p : CorePort) (ports : List CorePort) (courses : List PortCourse) → AllStand ports courses
    → ((c : Course) → Stands (slice_index_or ports m resting_port).phase c → Stands p.phase c) → AllStand (slice_set ports m p) courses
stand_set m p [] [] stand same = tt
stand_set m p [] (c ∷ courses) stand same = absurd stand
stand_set m p (q ∷ ports) [] stand same = absurd stand
stand_set zero p (q ∷ ports) (c ∷ courses) stand same = (same c.course stand.0, stand.1)
stand_set (suc m) p (q ∷ ports) (c ∷ courses) stand same = (stand.0, stand_set m p ports courses stand.1 same)

module _ (f : Fabric) (named : ℕ → ℕ → ℕ) (grants : List Granting) (rows : List WaveRowState) (core new : Core) (m : ℕ) (p : CorePort)
    (all : length core.ports ≡ f.ports) (below : m < f.ports) (ports_are : new.ports ≡ slice_set core.ports m p) (first_is : new.first ≡ core.first) where
  new_same : port new m ≡ p
  new_same =
      let within : m < length core.ports = omega (arith, all, below) in
      ap (λ ports. slice_index_or ports m resting_port) ports_are ∙ get_or-set_same core.ports m p resting_port within

  new_other : (n : ℕ) → n ≢ m → port new n ≡ port core n
  new_other n other = ap (λ ports. slice_index_or ports n resting_port) ports_are ∙ get_or-set_other core.ports m n p resting_port other

  pub event_keeps : Watches f named grants rows core → PortShows f (column m rows) p
      → ((c : Course) → Stands (port core m).phase c → Stands p.phase c)
      → ((slave : ℕ) → StillHolds slave (port core m).phase → StillHolds slave p.phase) → Watches f named grants rows new
  event_keeps w shows stands holds = record {
    legal = w.legal;
    ports = λ n lt. elim (cases_eq n m) [
      | inl here ↦ subst (λ (k : ℕ). PortShows f (column k rows) (port new k)) (sym here) (subst (λ q. PortShows f (column m rows) q) (sym new_same) shows)
      | inr other ↦ subst (λ q. PortShows f (column n rows) q) (sym (new_other n other)) (w.ports n lt)
    ];
    stand = subst (λ ports. AllStand ports (arbitration f named grants rows).ports) (sym ports_are)
        (stand_set m p core.ports (arbitration f named grants rows).ports w.stand stands);
    first = w.first ∙ sym first_is;
    held = λ slave n low lt is. elim (cases_eq n m) [
      | inl here ↦
          let was : StillHolds slave (port core m).phase = subst (λ (k : ℕ). StillHolds slave (port core k).phase) here (w.held slave n low lt is) in
          subst (λ (k : ℕ). StillHolds slave (port new k).phase) (sym here) (subst (λ (q : CorePort). StillHolds slave q.phase) (sym new_same) (holds slave was))
      | inr other ↦ subst (λ (q : CorePort). StillHolds slave q.phase) (sym (new_other n other)) (w.held slave n low lt is)
    ];
  }

-- ---- a port of which nothing is unanswered or unsent

no_owed : (os : List Owed) → length os ≡ 0 → os ≡ []
no_owed [] is = refl
no_owed (o ∷ os) is = absurd (omega (arith, is))

all_sent : (n : ℕ) (ops : List Request) → length ops ≤ n → head_of (drop n ops) ≡ None
all_sent zero [] le = refl
all_sent (suc n) [] le = refl
all_sent zero (r ∷ ops) le = absurd (omega (arith, le))
all_sent (suc n) (r ∷ ops) le = all_sent n ops (omega (arith, le))

-- nothing is unanswered, whatever the port is given next
pub settled : (f : Fabric) (ps : List PortRow) (p : CorePort) (next : Option Request) → IsQueue f p → length p.loaded ≤ length p.got → PortShows f ps p
    → Shows f ps [] × Waits f (last_port ps) [] next
settled f ps p next queue answered shows =
    let none : p.owed ≡ [] = no_owed p.owed (omega (arith, queue.sent, queue.counted, answered)) in
    let sent : length p.loaded ≤ p.sent = omega (arith, queue.sent, queue.counted, answered) in (
      subst (λ os. Shows f ps os) none shows.owing,
      nothing_waits f (last_port ps) p.owed [] (head_of (drop p.sent p.loaded)) next shows.waits (all_sent p.sent p.loaded sent),
    )

pub nothing_loaded : (p : CorePort) → p.loaded ≡ [] → length p.loaded ≤ length p.got
nothing_loaded p none = let e : length p.loaded ≡ 0 = ap (λ l. length l) none in omega (arith, e)

idle_loaded : (f : Fabric) (phase : Phase) (p : CorePort) → phase ≡ Idle → StandsIn f phase p → p.loaded ≡ []
idle_loaded f phase p is stands = (subst (λ ph. StandsIn f ph p) is stands).1

-- ---- the events

module _ (f : Fabric) (named : ℕ → ℕ → ℕ) (grants : List Granting) (rows : List WaveRowState) (core : Core) (sound : IsSoundCore f core) (w : Watches f named grants rows core) where
  pub watched_raise : (m set : ℕ) → CanRaise f core m set → Watches f named grants rows (raised core m set)
  watched_raise m set can =
      let none = idle_loaded f (port core m).phase (port core m) can.idle (sound.stand m) in
      let rest = settled f (column m rows) (port core m) None (sound.queues m) (nothing_loaded (port core m) none) (w.ports m can.within) in
      event_keeps f named grants rows core (raised core m set) m (unloaded (Wants set) []) sound.ports can.within refl refl w
      (record { owing = rest.0; waits = rest.1 })
      (λ c stands. inl (subst (λ ph. Stands ph c) can.idle stands))
      (λ slave holds. absurd (subst (λ ph. StillHolds slave ph) can.idle holds))

  pub watched_load : (m : ℕ) (ops : List Request) → CanLoad f core m ops → Watches f named grants rows (loaded core m ops)
  watched_load m ops can =
      let rest = settled f (column m rows) (port core m) (head_of (drop 0 ops)) (sound.queues m) (nothing_loaded (port core m) can.nothing) (w.ports m can.within) in
      event_keeps f named grants rows core (loaded core m ops) m (with_load ops (port core m)) sound.ports can.within refl refl w
      (record { owing = rest.0; waits = rest.1 }) (λ c stands. stands) (λ slave holds. holds)

  pub watched_take : (m : ℕ) → CanTake f core m → Watches f named grants rows (taken core m)
  watched_take m can =
      let answered : length (port core m).loaded ≤ length (port core m).got = omega (arith, can.none_pending) in
      let rest = settled f (column m rows) (port core m) None (sound.queues m) answered (w.ports m can.within) in
      event_keeps f named grants rows core (taken core m) m (with_taken (port core m)) sound.ports can.within refl refl w
      (record { owing = rest.0; waits = rest.1 }) (λ c stands. stands) (λ slave holds. holds)

  pub watched_release : (m : ℕ) (cut : Bool) → CanRelease f core m → Watches f named grants rows (released core m cut)
  watched_release m cut can =
      let rest = settled f (column m rows) (port core m) None (sound.queues m) (nothing_loaded (port core m) can.nothing) (w.ports m can.within) in
      event_keeps f named grants rows core (released core m cut) m (unloaded Leaves []) sound.ports can.within refl refl w
      (record { owing = rest.0; waits = rest.1 }) (λ c stands. tt) (λ slave holds. tt)

-- ---- before the first clock

idle_at : (n m : ℕ) → slice_index_or (resting_ports n) m resting_port ≡ resting_port
idle_at zero m = refl
idle_at (suc n) zero = refl
idle_at (suc n) (suc m) = idle_at n m

all_idle : (n : ℕ) → AllStand (resting_ports n) (no_courses n)
all_idle zero = tt
all_idle (suc n) = (refl, all_idle n)

pub watched_built : (f : Fabric) (named : ℕ → ℕ → ℕ) → Watches f named [] [] (built_core f)
watched_built f named = record {
  legal = record { whole = tt; fields = tt; answers = tt; depth = tt; stalls = tt; kept = tt; holders = tt; granted = tt };
  ports = λ m lt. subst (λ p. PortShows f [] p) (sym (idle_at f.ports m)) (record {
    owing = shows-none f;
    waits = record { next = λ held. absurd (false_true held); below = λ held. absurd (false_true held) };
  });
  stand = all_idle f.ports;
  first = refl;
  held = λ slave m low lt is. absurd (no_number m is);
}

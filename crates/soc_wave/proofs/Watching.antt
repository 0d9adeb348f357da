-- A tick adds a row that keeps the rows a wave.
use Rattle.std.proofs.Common.{◌≡◌, ◌≢◌, ℕ, zero, suc, ◌+◌, ◌<◌, ◌==◌, Bool, true, false, if◌then◌else◌, List, [], ◌∷◌, ◌++◌, length, map, drop, refl, sym, ap, ◌∙◌, subst, arith, append_assoc}
use Rattle.std.specs.Prelude.{nat_lt, slice_index_or, bit_and, Option, Some, None}
use Rattle.std.specs.Int.{bit_at}
use Rattle.wb_signals.specs.Request.{Request}
use Rattle.soc_core.specs.Fabric.{Fabric, IsFabric, AllGoIn, GoesIn}
use Rattle.wb_crossbar.specs.Grant.{IsGrant, IsNext}
use Rattle.soc_core.specs.Core.{Phase, Idle, Wants, Holds, Leaves, CorePort, Core, IsTick, port, head_of, offered, phase_after, with_phase, granted_from, clocked, wants, held}
use Rattle.soc_core.specs.Sound.{StandsIn, IsSoundCore, is_busy_phase}
use Rattle.wb_signals.specs.declared.port_row.PortRow.{PortRow}
use Rattle.wb_signals.specs.Wave.{WaveRowState}
use Rattle.wb_signals.specs.Rows.{request_in}
use Rattle.soc_wave.specs.Rows.{port_in, holder_in, column, last_row, has_passed}
use Rattle.soc_wave.specs.Arbitration.{PortCourse, Arbitration, Granting, no_course, with_cycs, no_arbitration, arbitrated, awaited_set, course_at, all_held, hold_from, turn_in, IsArbitrated, AreArbitrated, arbitration_from, arbitration}
use Rattle.soc_wave.specs.Legal.{InEachClock, HoldsSlaves, IsLegalWave}
use Rattle.wb_signals.specs.Slave.{Owed}
use Rattle.soc_wave.specs.Shown.{signals, port_row, row_of}
use Rattle.wb_signals.specs.Content.{Content}
use Rattle.soc_wave.proofs.Lists.{append-nil, column-snoc, last_row-snoc}
use Rattle.soc_wave.proofs.PortTick.{PortShows, KeepsRules, rules_kept, shows_kept}
use Rattle.soc_wave.proofs.Arbitrating.{AllStand, IsNamed, all_named, AreCourses, CycsStand, cycs_stand, stand_on, same_wants, same_all_held, same_holding}
use Rattle.soc_wave.proofs.Rowed.{row_whole, at, HasBit, port_granted, length-granted, port_clocked, port_shown, holder_shown, holder_is, the_holder, no_common, holds_it}

-- ---- rows that grow at their end

pub each-snoc : (P : List WaveRowState → WaveRowState → Type 0) (before rows : List WaveRowState) (row : WaveRowState) → InEachClock P before rows → P (before ++ rows) row → InEachClock P before (rows ++ row ∷ [])
each-snoc P before [] row each last = (subst (λ l. P l row) (append-nil before) last, tt)
each-snoc P before (r ∷ rows) row each last =
    (each.0, each-snoc P (before ++ r ∷ []) rows row each.1 (subst (λ l. P l row) (sym (append_assoc before (r ∷ []) rows)) last))

pub arbitrated-snoc : (f : Fabric) (named : ℕ → ℕ → ℕ) (a : Arbitration) (grants : List Granting) (rows : List WaveRowState) (g : Granting) (row : WaveRowState) → AreArbitrated f named a grants rows
    → IsArbitrated f named (arbitration_from named a grants rows) g row → AreArbitrated f named a (grants ++ g ∷ []) (rows ++ row ∷ [])
arbitrated-snoc f named a [] [] g row are last = (last, tt)
arbitrated-snoc f named a [] (r ∷ rows) g row are last = absurd are
arbitrated-snoc f named a (x ∷ grants) [] g row are last = absurd are
arbitrated-snoc f named a (x ∷ grants) (r ∷ rows) g row are last = (are.0, arbitrated-snoc f named (arbitrated named x r a) grants rows g row are.1 last)

pub arbitration-snoc : (f : Fabric) (named : ℕ → ℕ → ℕ) (a : Arbitration) (grants : List Granting) (rows : List WaveRowState) (g : Granting) (row : WaveRowState) → AreArbitrated f named a grants rows
    → arbitration_from named a (grants ++ g ∷ []) (rows ++ row ∷ []) ≡ arbitrated named g row (arbitration_from named a grants rows)
arbitration-snoc f named a [] [] g row are = refl
arbitration-snoc f named a [] (r ∷ rows) g row are = absurd are
arbitration-snoc f named a (x ∷ grants) [] g row are = absurd are
arbitration-snoc f named a (x ∷ grants) (r ∷ rows) g row are = arbitration-snoc f named (arbitrated named x r a) grants rows g row are.1

-- ---- what the rows so far show of the core

-- a slave that the last row shows held by a port: the port still holds it, or has released it since
abbrev pub StillHolds : ℕ → Phase → Type 0
StillHolds slave Idle = ⊥
StillHolds slave (Wants set) = ⊥
StillHolds slave (Holds set) = bit_at set slave ≡ 1
StillHolds slave Leaves = Unit {0}

pub record Watches (f : Fabric) (named : ℕ → ℕ → ℕ) (grants : List Granting) (rows : List WaveRowState) (core : Core) : Type 0 where
  pub legal : IsLegalWave f named grants rows
  pub ports : (m : ℕ) → m < f.ports → PortShows f (column m rows) (port core m)
  pub stand : AllStand core.ports (arbitration f named grants rows).ports
  pub first : (arbitration f named grants rows).first ≡ core.first
  pub held : (slave m : ℕ) → slave < f.slaves → m < f.ports → holder_in slave (last_row rows) ≡ Some m → StillHolds slave (port core m).phase

-- ---- the holders

abbrev is_true : Bool → Type 0
is_true true = Unit {0}
is_true false = ⊥

-- of a phase after the grants
still_has : (slave : ℕ) (phase : Phase) (b : Bool) → StillHolds slave phase → is_busy_phase (phase_after b phase) ≡ true → (set : ℕ) × (phase_after b phase ≡ Holds set) × (bit_at set slave ≡ 1)
still_has slave Idle b still busy = absurd still
still_has slave (Wants set) b still busy = absurd still
still_has slave (Holds set) b still busy = (set, refl, still)
still_has slave Leaves b still busy = absurd (subst is_true (sym busy) tt)

abbrev held_of_phase : Phase → ℕ
held_of_phase Idle = 0
held_of_phase (Wants set) = 0
held_of_phase (Holds set) = set
held_of_phase Leaves = 0

holds_bit : (slave set : ℕ) (p : CorePort) → p.phase ≡ Holds set → bit_at set slave ≡ 1 → HasBit slave p
holds_bit slave set p is has = subst (λ ph. bit_at (held_of_phase ph) slave ≡ 1) (sym is) has

busy_holds : (set : ℕ) (phase : Phase) → phase ≡ Holds set → is_busy_phase phase ≡ true
busy_holds set phase is = ap is_busy_phase is

still_holds : (slave set : ℕ) (phase : Phase) → phase ≡ Holds set → bit_at set slave ≡ 1 → StillHolds slave phase
still_holds slave set phase is has = subst (λ ph. StillHolds slave ph) (sym is) has

-- ---- a request that passes goes where its port may

abbrev is_there : Option Request → Bool
is_there None = false
is_there (Some r) = true

no_head : (r : Request) → ◌≡◌ {A = Option Request} None (Some r) → ⊥
no_head r e = subst is_true (sym (ap is_there e)) tt

abbrev request_or : Request → Option Request → Request
request_or d None = d
request_or d (Some r) = r

head_goes : (f : Fabric) (set n : ℕ) (ops : List Request) (r : Request) → AllGoIn f set ops → head_of (drop n ops) ≡ Some r → GoesIn f set r
head_goes f set zero [] r all is = absurd (no_head r is)
head_goes f set (suc n) [] r all is = absurd (no_head r is)
head_goes f set zero (q ∷ ops) r all is = subst (λ s. GoesIn f set s) (ap (request_or q) is) all.0
head_goes f set (suc n) (q ∷ ops) r all is = head_goes f set n ops r all.1 is

drop_nil : (n : ℕ) → ◌≡◌ {A = List Request} (drop n []) []
drop_nil zero = refl
drop_nil (suc n) = refl

head_some : (n : ℕ) (ops : List Request) (r : Request) → head_of (drop n ops) ≡ Some r → ops ≢ []
head_some n ops r is none = no_head r (sym (ap head_of (drop_nil n)) ∙ ap (λ l. head_of (drop n l)) (sym none) ∙ is)

driven_head : (b : Bool) (next : Option Request) (r : Request) → (if b then next else None) ≡ Some r → next ≡ Some r
driven_head true next r is = is
driven_head false next r is = absurd (no_head r is)

-- a port that drives a request holds its set
holds_by : (f : Fabric) (phase : Phase) (p : CorePort) (b : Bool) → StandsIn f phase p → p.loaded ≢ [] → (set : ℕ) × (phase_after b phase ≡ Holds set) × AllGoIn f set p.loaded
holds_by f Idle p b stands some = absurd (some stands.1)
holds_by f (Wants set) p b stands some = absurd (some stands.1)
holds_by f (Holds set) p b stands some = (set, refl, stands.1)
holds_by f Leaves p b stands some = absurd (some stands.1)

drives_by : (f : Fabric) (cyc : Bool) (os : List Owed) (op : Option Request) → has_passed (signals f cyc os op) ≡ true → (r : Request) × (op ≡ Some r) × (request_in (signals f cyc os op) ≡ r)
drives_by f true os None is = absurd (subst is_true (sym is) tt)
drives_by f false os None is = absurd (subst is_true (sym is) tt)
drives_by f cyc os (Some r) is = (r, refl, refl)

-- ---- the CYC of a row

cycs_from : (row : WaveRowState) (grant k : ℕ) (ports : List CorePort)
    → ((i j : ℕ) → i ≡ k + j → j < length ports → (port_in i row).cyc ≡ is_busy_phase (phase_after (bit_at grant i == 1) (at ports j).phase)) → CycsStand row grant k ports
cycs_from row grant k [] all = tt
cycs_from row grant k (p ∷ ports) all = (
  all k 0 (omega arith) (omega arith),
  cycs_from row grant (suc k) ports (λ i j is lt. all i (suc j) (omega (arith, is)) (omega (arith, lt))),
)

stand_clocked : (f : Fabric) (contents : List Content) (ports : List CorePort) (courses : List PortCourse) → AllStand ports courses
    → AllStand (map (clocked f contents) ports) courses
stand_clocked f contents [] [] stand = tt
stand_clocked f contents [] (c ∷ courses) stand = absurd stand
stand_clocked f contents (p ∷ ports) [] stand = absurd stand
stand_clocked f contents (p ∷ ports) (c ∷ courses) stand = (stand.0, stand_clocked f contents ports courses stand.1)

-- ---- the tick

-- In the next tick the set named for each rise is the one that the port has raised.
abbrev pub RisesAreNamed : Fabric → (ℕ → ℕ → ℕ) → Arbitration → Core → Type 0
RisesAreNamed f named a core = (m : ℕ) → m < f.ports → IsNamed (named m) (port core m).phase (slice_index_or a.ports m no_course)

module _ (f : Fabric) (fits : IsFabric f) (named : ℕ → ℕ → ℕ) (grants : List Granting) (rows : List WaveRowState) (old new : Core)
    (sound : IsSoundCore f old) (after : IsSoundCore f new) (tick : IsTick f old new) (w : Watches f named grants rows old)
    (sets : RisesAreNamed f named (arbitration f named grants rows) old) where
  abbrev pub gports : List CorePort
  gports = granted_from tick.grant 0 old.ports

  -- its row, and its grant
  abbrev pub added : WaveRowState
  added = row_of f gports

  abbrev pub granting : Granting
  granting = record { ports = tick.grant; first = tick.first }

  abbrev now : Arbitration
  now = arbitration f named grants rows

  abbrev pub granted_phase : ℕ → Phase
  granted_phase m = phase_after (bit_at tick.grant m == 1) (port old m).phase

  abbrev pub granted_port : ℕ → CorePort
  granted_port m = with_phase (granted_phase m) (port old m)

  within : (m : ℕ) → m < f.ports → m < length old.ports
  within m lt = omega (arith, lt, sound.ports)

  within_granted : (m : ℕ) → m < f.ports → m < length gports
  within_granted m lt = omega (arith, lt, sound.ports, length-granted tick.grant 0 old.ports)

  granted_is : (m : ℕ) → m < f.ports → at gports m ≡ granted_port m
  granted_is m lt = port_granted tick.grant m old.ports (within m lt)

  pub row_is : (m : ℕ) → m < f.ports → port_in m added ≡ port_row f (granted_port m)
  row_is m lt = port_shown f m gports (within_granted m lt) ∙ ap (port_row f) (granted_is m lt)

  new_at : (m : ℕ) → m < f.ports → port new m ≡ clocked f old.contents (at gports m)
  new_at m lt = ap (λ c. port c m) tick.core ∙ port_clocked f old.contents m gports (within_granted m lt)

  pub new_is : (m : ℕ) → m < f.ports → port new m ≡ clocked f old.contents (granted_port m)
  new_is m lt = new_at m lt ∙ ap (clocked f old.contents) (granted_is m lt)

  rules : (m : ℕ) → m < f.ports → KeepsRules f (column m rows) (port_in m added)
  rules m lt = subst (λ row. KeepsRules f (column m rows) row) (sym (row_is m lt))
      (rules_kept f (column m rows) (port old m) (bit_at tick.grant m == 1) (sound.stand m) (sound.queues m) (w.ports m lt))

  shows : (m : ℕ) → m < f.ports → PortShows f (column m (rows ++ added ∷ [])) (port new m)
  shows m lt =
      let kept = shows_kept f old.contents (column m rows) (port old m) (bit_at tick.grant m == 1) (sound.stand m) (sound.queues m) (w.ports m lt) in
      let columns : column m rows ++ port_row f (granted_port m) ∷ [] ≡ column m (rows ++ added ∷ []) = ap (λ row. column m rows ++ row ∷ []) (sym (row_is m lt)) ∙ sym (column-snoc m rows added) in
      subst (λ p. PortShows f (column m (rows ++ added ∷ [])) p) (sym (new_is m lt)) (subst (λ ps. PortShows f ps (clocked f old.contents (granted_port m))) columns kept)

  pub cyc_is : (m : ℕ) → m < f.ports → (port_in m added).cyc ≡ is_busy_phase (granted_phase m)
  cyc_is m lt = ap (λ (p : PortRow). p.cyc) (row_is m lt)

  phase_is : (m : ℕ) → m < f.ports → (at gports m).phase ≡ granted_phase m
  phase_is m lt = ap (λ (p : CorePort). p.phase) (granted_is m lt)

  new_phase : (m : ℕ) → m < f.ports → (port new m).phase ≡ (at gports m).phase
  new_phase m lt = ap (λ (p : CorePort). p.phase) (new_at m lt)

  -- a port that holds a slave after the grants is the one that the row shows
  shown_holder : (slave m set : ℕ) → slave < f.slaves → m < f.ports → granted_phase m ≡ Holds set → bit_at set slave ≡ 1 → holder_in slave added ≡ Some m
  shown_holder slave m set below lt holds has =
      let mine : HasBit slave (at gports m) = holds_bit slave set (at gports m) (phase_is m lt ∙ holds) has in
      let only : (j : ℕ) → j < m → HasBit slave (at gports j) → ⊥ = λ j before other.
      let lower : j < f.ports = omega (arith, before, lt) in
      let theirs = holds_it slave (at gports j).phase other in
      let apart : bit_and set theirs.0 ≡ 0 = after.apart m j set theirs.0 (λ same. omega (arith, same, before)) (new_phase m lt ∙ phase_is m lt ∙ holds) (new_phase j lower ∙ theirs.1) in
      no_common set theirs.0 slave apart has theirs.2 in
      holder_shown f gports slave below ∙ the_holder m gports slave (within_granted m lt) mine only

  holds_in : (slave m : ℕ) → slave < f.slaves → holder_in slave added ≡ Some m → (set : ℕ) × ((at gports m).phase ≡ Holds set) × (bit_at set slave ≡ 1)
  holds_in slave m below is = holds_it slave (at gports m).phase (holder_is m gports slave (sym (holder_shown f gports slave below) ∙ is))

  reached : (m : ℕ) → m < f.ports → (slave : ℕ) → has_passed (port_row f (granted_port m)) ≡ true → f.top (request_in (port_row f (granted_port m))) ≡ Some slave → holder_in slave added ≡ Some m
  reached m lt slave passed top =
      let p : CorePort = port old m in
      let drives = drives_by f (is_busy_phase (granted_phase m)) p.owed (offered f p) passed in
      let head : head_of (drop p.sent p.loaded) ≡ Some drives.0 = driven_head (nat_lt (length p.owed) f.depth) (head_of (drop p.sent p.loaded)) drives.0 drives.1 in
      let some : p.loaded ≢ [] = head_some p.sent p.loaded drives.0 head in
      let holds = holds_by f p.phase p (bit_at tick.grant m == 1) (sound.stand m) some in
      let top_is : f.top drives.0 ≡ Some slave = ap (λ r. f.top r) (sym drives.2) ∙ top in
      let has : bit_at holds.0 slave ≡ 1 = head_goes f holds.0 p.sent p.loaded drives.0 holds.2 head slave top_is in
      let below : slave < f.slaves = fits.below (f.wiring.route drives.0).place slave (fits.tops drives.0 ∙ top_is) in
      shown_holder slave m holds.0 below lt holds.1 has

  keeps_held : (m : ℕ) → m < f.ports → HoldsSlaves f m (last_row rows) added
  keeps_held m lt = record {
    stands = λ slave below is.
        let mine = holds_in slave m below is in
        cyc_is m lt ∙ busy_holds mine.0 (granted_phase m) (sym (phase_is m lt) ∙ mine.1);
    stays = λ slave below was cyc.
        let mine = still_has slave (port old m).phase (bit_at tick.grant m == 1) (w.held slave m below lt was) (sym (cyc_is m lt) ∙ cyc) in
        shown_holder slave m mine.0 below lt mine.1 mine.2;
    reaches = λ slave passed top.
        reached m lt slave (ap has_passed (sym (row_is m lt)) ∙ passed) (ap (λ row. f.top (request_in row)) (sym (row_is m lt)) ∙ top);
  }

  held_after : (slave m : ℕ) → slave < f.slaves → m < f.ports → holder_in slave (last_row (rows ++ added ∷ [])) ≡ Some m → StillHolds slave (port new m).phase
  held_after slave m below lt is =
      let mine = holds_in slave m below (ap (λ row. holder_in slave row) (sym (last_row-snoc rows added)) ∙ is) in
      still_holds slave mine.0 (port new m).phase (new_phase m lt ∙ mine.1) mine.2

  -- ---- the grants

  abbrev courses : List PortCourse
  courses = with_cycs named added 0 now.ports

  named_at : (m i : ℕ) → m ≡ 0 + i → i < length old.ports → IsNamed (named m) (at old.ports i).phase (slice_index_or now.ports i no_course)
  named_at m i is lt =
      let e : i ≡ m = omega (arith, is) in
      subst (λ (n : ℕ). IsNamed (named m) (at old.ports n).phase (slice_index_or now.ports n no_course)) (sym e) (sets m (omega (arith, e, lt, sound.ports)))

  are_courses : AreCourses old.ports courses
  are_courses = cycs_stand named added tick.grant 0 old.ports now.ports w.stand (all_named named 0 old.ports now.ports (λ m i is lt. named_at m i is lt))
      (cycs_from added tick.grant 0 old.ports (λ i j is lt.
      let e : j ≡ i = omega (arith, is) in
      subst (λ (n : ℕ). (port_in i added).cyc ≡ is_busy_phase (phase_after (bit_at tick.grant i == 1) (at old.ports n).phase)) (sym e)
      (cyc_is i (omega (arith, e, lt, sound.ports)))))

  abbrev awaits : ℕ → Option ℕ
  awaits m = awaited_set (course_at courses m)

  same_awaits : wants old ≡ awaits
  same_awaits = λ i m. sym (same_wants m old.ports courses are_courses) i

  is_granted : IsGrant (turn_in f now) awaits (all_held courses) tick.grant
  is_granted =
      subst (λ (n : ℕ). IsGrant (record { ports = f.ports; first = n }) awaits (all_held courses) tick.grant) (sym w.first)
      (subst (λ (n : ℕ). IsGrant (record { ports = f.ports; first = old.first }) awaits n tick.grant) (sym (same_all_held old.ports courses are_courses))
      (subst (λ (ws : ℕ → Option ℕ). IsGrant (record { ports = f.ports; first = old.first }) ws (held old.ports) tick.grant) same_awaits tick.is_grant))

  is_next : IsNext (turn_in f now) tick.grant tick.first
  is_next = subst (λ (n : ℕ). IsNext (record { ports = f.ports; first = n }) tick.grant tick.first) (sym w.first) tick.is_next

  is_arbitrated : IsArbitrated f named now granting added
  is_arbitrated = record {
    grant = is_granted;
    next = is_next;
    shown = λ slave below. holder_shown f gports slave below ∙ sym (same_holding tick.grant 0 old.ports courses slave are_courses);
  }

  arbitration_is : arbitration f named (grants ++ granting ∷ []) (rows ++ added ∷ []) ≡ arbitrated named granting added now
  arbitration_is = arbitration-snoc f named (no_arbitration f) grants rows granting added w.legal.granted

  stand_after : AllStand new.ports (arbitration f named (grants ++ granting ∷ []) (rows ++ added ∷ [])).ports
  stand_after =
      let held_on = stand_on tick.grant 0 old.ports courses are_courses in
      let clocked_on = stand_clocked f old.contents gports (hold_from tick.grant 0 courses) held_on in
      subst (λ a. AllStand new.ports a.ports) (sym arbitration_is)
      (subst (λ c. AllStand c.ports (hold_from tick.grant 0 courses)) (sym tick.core) clocked_on)

  first_after : (arbitration f named (grants ++ granting ∷ []) (rows ++ added ∷ [])).first ≡ new.first
  first_after = ap (λ a. a.first) arbitration_is ∙ sym (ap (λ c. c.first) tick.core)

  -- A tick of a sound core adds a row, after which the rows are still a wave.
  pub watched_tick : Watches f named (grants ++ granting ∷ []) (rows ++ added ∷ []) new
  watched_tick = record {
    legal = record {
      whole = each-snoc _ [] rows added w.legal.whole (row_whole f gports (length-granted tick.grant 0 old.ports ∙ sound.ports));
      fields = each-snoc _ [] rows added w.legal.fields (λ m lt. (rules m lt).fields);
      answers = each-snoc _ [] rows added w.legal.answers (λ m lt. (rules m lt).answers);
      depth = each-snoc _ [] rows added w.legal.depth (λ m lt. (rules m lt).depth);
      stalls = each-snoc _ [] rows added w.legal.stalls (λ m lt. (rules m lt).stalls);
      kept = each-snoc _ [] rows added w.legal.kept (λ m lt. (rules m lt).kept);
      holders = each-snoc _ [] rows added w.legal.holders keeps_held;
      granted = arbitrated-snoc f named (no_arbitration f) grants rows granting added w.legal.granted is_arbitrated;
    };
    ports = shows;
    stand = stand_after;
    first = first_after;
    held = held_after;
  }

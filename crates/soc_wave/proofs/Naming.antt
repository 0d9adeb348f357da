-- The sets that the ports of a watched bus raise have names.
use Rattle.std.proofs.Common.{◌≡◌, ◌≢◌, ℕ, zero, suc, ◌<◌, ◌≤◌, ◌==◌, ◌&&◌, not, Bool, true, false, if◌then◌else◌, List, [], ◌∷◌, length, refl, sym, ap, ◌∙◌, subst, arith}
use Rattle.std.specs.Prelude.{nat_lt, slice_index_or}
use Rattle.soc_wave.proofs.PortRows.{false_true}
use Rattle.std.specs.Int.{bit_at}
use Rattle.soc_core.specs.Fabric.{Fabric, IsFabric}
use Rattle.soc_core.specs.Core.{Phase, Idle, Wants, Holds, Leaves, CorePort, Core, port, resting_port, built_core, phase_after, granted_from}
use Rattle.soc_core.specs.Sound.{IsSoundCore, is_busy_phase}
use Rattle.soc_core.specs.Events.{Event, Raise, Load, Take, Release, Tick}
use Rattle.wb_signals.specs.Wave.{WaveRowState}
use Rattle.soc_wave.specs.Rows.{no_port, port_in, column, last_port}
use Rattle.soc_wave.specs.Requests.{one_if}
use Rattle.soc_wave.specs.Pairs.{rises_from}
use Rattle.soc_wave.specs.Shown.{port_row, row_of}
use Rattle.soc_wave.specs.Laws.{Watched, watched_from, AddsRow, AddsNone, LeadsWatched, NamesRaised, NamesIn, LeadAllWatched, LeadAllFreely, RisesHaveNames}
use Rattle.soc_wave.proofs.Lists.{column-snoc}
use Rattle.soc_wave.proofs.Rowed.{port_granted, length-granted, port_shown}
use Rattle.soc_wave.proofs.Rises.{rises-row}
use Rattle.soc_core.proofs.Ticks.{built_sound, event_sound}

abbrev risen : Watched → ℕ → ℕ
risen w m = rises_from no_port (column m w.rows)

abbrev is_up : Watched → ℕ → Bool
is_up w m = (last_port (column m w.rows)).cyc

one_more : (b : Bool) (n : ℕ) → n ≤ one_if b n
one_more true n = omega arith
one_more false n = omega arith

row_rises : (f : Fabric) (old new : Watched) (m : ℕ) → AddsRow f old new → risen old m ≤ risen new m
row_rises f old new m adds =
    let row : WaveRowState = row_of f (granted_from adds.tick.grant 0 old.core.ports) in
    let e : risen new m ≡ one_if (not (is_up old m) && (port_in m row).cyc) (risen old m) =
    ap (λ rows. rises_from no_port (column m rows)) adds.rows ∙ ap (λ l. rises_from no_port l) (column-snoc m old.rows row) ∙ rises-row (column m old.rows) (port_in m row) in
    subst (λ (n : ℕ). risen old m ≤ n) (sym e) (one_more (not (is_up old m) && (port_in m row).cyc) (risen old m))

none_rises : (old new : Watched) (m : ℕ) → AddsNone old new → risen old m ≤ risen new m
none_rises old new m none = subst (λ rows. risen old m ≤ rises_from no_port (column m rows)) (sym none.rows) (omega arith)

never_falls : (f : Fabric) (e : Event) (old new : Watched) (m : ℕ) → LeadsWatched f e old new → risen old m ≤ risen new m
never_falls f (Raise k set) old new m leads = none_rises old new m leads.1
never_falls f (Load k ops) old new m leads = none_rises old new m leads.1
never_falls f (Take k) old new m leads = none_rises old new m leads.1
never_falls f (Release k cut) old new m leads = none_rises old new m leads.1
never_falls f Tick old new m leads = row_rises f old new m leads

-- two namings that agree from the rises so far on
abbrev Agree : (ℕ → ℕ → ℕ) → (ℕ → ℕ → ℕ) → Watched → Type 0
Agree a b w = (m n : ℕ) → risen w m ≤ n → a m n ≡ b m n

names_again : (f : Fabric) (a b : ℕ → ℕ → ℕ) (e : Event) (w : Watched) → Agree a b w → NamesIn f b e w → NamesIn f a e w
names_again f a b (Raise k set) w agree names = tt
names_again f a b (Load k ops) w agree names = tt
names_again f a b (Take k) w agree names = tt
names_again f a b (Release k cut) w agree names = tt
names_again f a b Tick w agree names = λ m set lt wants down. agree m (risen w m) (omega arith) ∙ names m set lt wants down

run_again : (f : Fabric) (a b : ℕ → ℕ → ℕ) (events : List Event) (old new : Watched) → Agree a b old → LeadAllWatched f b events old new → LeadAllWatched f a events old new
run_again f a b [] old new agree run = run
run_again f a b (e ∷ events) old new agree run = (
  run.0,
  names_again f a b e old agree run.1,
  run.2,
  run_again f a b events run.0 new (λ m n le. agree m n (let up = never_falls f e old run.0 m run.2 in omega (arith, up, le))) run.3,
)

-- ---- the names of one tick

abbrev raised_or : Phase → ℕ → ℕ
raised_or Idle n = n
raised_or (Wants set) n = set
raised_or (Holds set) n = n
raised_or Leaves n = n

abbrev naming : Watched → (ℕ → ℕ → ℕ) → ℕ → ℕ → ℕ
naming w later m n = if not (is_up w m) && (n == risen w m) then raised_or (port w.core m).phase (later m n) else later m n

same_yes : (a : ℕ) → (a == a) ≡ true
same_yes a = grind arith

other_no : (a b : ℕ) → a ≢ b → (a == b) ≡ false
other_no a b other = grind arith

abbrev named_if : Bool → ℕ → ℕ → ℕ
named_if b x y = if b then x else y

names_tick : (f : Fabric) (w : Watched) (later : ℕ → ℕ → ℕ) → NamesRaised f (naming w later) w
names_tick f w later m set lt wants down =
    let here : (not (is_up w m) && (risen w m == risen w m)) ≡ true = ap (λ b. not b && (risen w m == risen w m)) down ∙ same_yes (risen w m) in
    ap (λ b. named_if b (raised_or (port w.core m).phase (later m (risen w m))) (later m (risen w m))) here ∙ ap (λ ph. raised_or ph (later m (risen w m))) wants

wants_busy : (b : Bool) (set : ℕ) → is_busy_phase (phase_after b (Wants set)) ≡ true
wants_busy true set = refl
wants_busy false set = refl

-- the CYC of a port that waits stands in the row
wants_up : (f : Fabric) (old new : Watched) (m set : ℕ) → IsSoundCore f old.core → (adds : AddsRow f old new) → m < f.ports → (port old.core m).phase ≡ Wants set
    → (port_in m (row_of f (granted_from adds.tick.grant 0 old.core.ports))).cyc ≡ true
wants_up f old new m set sound adds lt wants =
    let gports : List CorePort = granted_from adds.tick.grant 0 old.core.ports in
    let within : m < length old.core.ports = omega (arith, lt, sound.ports) in
    let inside : m < length gports = omega (arith, within, length-granted adds.tick.grant 0 old.core.ports) in
    ap (λ p. p.cyc) (port_shown f m gports inside ∙ ap (port_row f) (port_granted adds.tick.grant m old.core.ports within))
    ∙ ap (λ ph. is_busy_phase (phase_after (bit_at adds.tick.grant m == 1) ph)) wants ∙ wants_busy (bit_at adds.tick.grant m == 1) set

same_if : (b : Bool) (x : ℕ) → named_if b x x ≡ x
same_if true x = refl
same_if false x = refl

-- so that later rises have later numbers
agree_by : (old : Watched) (later : ℕ → ℕ → ℕ) (m n : ℕ) (phase : Phase) → (port old.core m).phase ≡ phase → (up : Bool) → is_up old m ≡ up → ((set : ℕ) → phase ≡ Wants set → up ≡ false → n ≢ risen old m) → naming old later m n ≡ later m n
agree_by old later m n Idle is up stands other = ap (λ ph. named_if (not (is_up old m) && (n == risen old m)) (raised_or ph (later m n)) (later m n)) is ∙ same_if (not (is_up old m) && (n == risen old m)) (later m n)
agree_by old later m n (Holds set) is up stands other = ap (λ ph. named_if (not (is_up old m) && (n == risen old m)) (raised_or ph (later m n)) (later m n)) is ∙ same_if (not (is_up old m) && (n == risen old m)) (later m n)
agree_by old later m n Leaves is up stands other = ap (λ ph. named_if (not (is_up old m) && (n == risen old m)) (raised_or ph (later m n)) (later m n)) is ∙ same_if (not (is_up old m) && (n == risen old m)) (later m n)
agree_by old later m n (Wants set) is true stands other = ap (λ b. named_if (not b && (n == risen old m)) (raised_or (port old.core m).phase (later m n)) (later m n)) stands
agree_by old later m n (Wants set) is false stands other =
    ap (λ b. named_if (not b && (n == risen old m)) (raised_or (port old.core m).phase (later m n)) (later m n)) stands
    ∙ ap (λ b. named_if b (raised_or (port old.core m).phase (later m n)) (later m n)) (other_no n (risen old m) (other set refl refl))

-- ---- a run

past_ports : (ports : List CorePort) (m : ℕ) → length ports ≤ m → slice_index_or ports m resting_port ≡ resting_port
past_ports [] m le = refl
past_ports (p ∷ ports) zero le = absurd (omega (arith, le))
past_ports (p ∷ ports) (suc m) le = past_ports ports m (omega (arith, le))

abbrev wants_it : Phase → Bool
wants_it Idle = false
wants_it (Wants set) = true
wants_it (Holds set) = false
wants_it Leaves = false

port_by : (f : Fabric) (core : Core) (m set : ℕ) → IsSoundCore f core → (port core m).phase ≡ Wants set → (b : Bool) → nat_lt m f.ports ≡ b → m < f.ports
port_by f core m set sound wants true below = grind (arith, below)
port_by f core m set sound wants false above =
    let le : f.ports ≤ m = grind (arith, above) in
    let idle = past_ports core.ports m (omega (arith, le, sound.ports)) in
    absurd (false_true (ap wants_it (sym (ap (λ (p : CorePort). p.phase) idle) ∙ wants)))

is_port : (f : Fabric) (core : Core) (m set : ℕ) → IsSoundCore f core → (port core m).phase ≡ Wants set → m < f.ports
is_port f core m set sound wants = port_by f core m set sound wants (nat_lt m f.ports) refl

agree_tick : (f : Fabric) (old mid : Watched) (later : ℕ → ℕ → ℕ) → IsSoundCore f old.core → AddsRow f old mid → Agree (naming old later) later mid
agree_tick f old mid later sound adds m n le = agree_by old later m n (port old.core m).phase refl (is_up old m) refl (λ set wants down same.
    let lt = is_port f old.core m set sound wants in
    let row : WaveRowState = row_of f (granted_from adds.tick.grant 0 old.core.ports) in
    let cyc = wants_up f old mid m set sound adds lt wants in
    let e : risen mid m ≡ one_if (not (is_up old m) && (port_in m row).cyc) (risen old m) =
    ap (λ rows. rises_from no_port (column m rows)) adds.rows ∙ ap (λ l. rises_from no_port l) (column-snoc m old.rows row) ∙ rises-row (column m old.rows) (port_in m row) in
    let more : risen mid m ≡ suc (risen old m) = e ∙ ap (λ b. one_if (not b && (port_in m row).cyc) (risen old m)) down ∙ ap (λ b. one_if b (risen old m)) cyc in
    omega (arith, le, more, same))

named_run : (f : Fabric) → IsFabric f → (events : List Event) (old new : Watched) → IsSoundCore f old.core → LeadAllFreely f events old new → (named : ℕ → ℕ → ℕ) × LeadAllWatched f named events old new
named_run f fits [] old new sound run = ((λ m n. 0), run)
named_run f fits (Raise m set ∷ events) old new sound run =
    let rest = named_run f fits events run.0 new (event_sound f fits (Raise m set) old.core run.0.core sound run.1.0) run.2 in (rest.0, (run.0, tt, run.1, rest.1))
named_run f fits (Load m ops ∷ events) old new sound run =
    let rest = named_run f fits events run.0 new (event_sound f fits (Load m ops) old.core run.0.core sound run.1.0) run.2 in (rest.0, (run.0, tt, run.1, rest.1))
named_run f fits (Take m ∷ events) old new sound run =
    let rest = named_run f fits events run.0 new (event_sound f fits (Take m) old.core run.0.core sound run.1.0) run.2 in (rest.0, (run.0, tt, run.1, rest.1))
named_run f fits (Release m cut ∷ events) old new sound run =
    let rest = named_run f fits events run.0 new (event_sound f fits (Release m cut) old.core run.0.core sound run.1.0) run.2 in (rest.0, (run.0, tt, run.1, rest.1))
named_run f fits (Tick ∷ events) old new sound run =
    let rest = named_run f fits events run.0 new (event_sound f fits Tick old.core run.0.core sound run.1.tick) run.2 in
    let named : ℕ → ℕ → ℕ = naming old rest.0 in
    (named, (run.0, names_tick f old rest.0, run.1, run_again f named rest.0 events run.0 new (agree_tick f old run.0 rest.0 sound run.1) rest.1))

pub rises_have_names : RisesHaveNames
rises_have_names f fits events new run = named_run f fits events (watched_from (built_core f)) new (built_sound f fits) run

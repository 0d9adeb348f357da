-- The entries of the journal are those that the rows show.
use Rattle.std.proofs.Common.{◌≡◌, ◌≢◌, ℕ, zero, suc, ◌<◌, ◌≤◌, ◌==◌, Bool, true, false, if◌then◌else◌, List, [], ◌∷◌, ◌++◌, length, refl, sym, ap, ◌∙◌, subst, arith, append_assoc, inl, inr, get_or-set_same, get_or-set_other}
use Rattle.std.specs.Prelude.{slice_index_or, slice_set, Some}
use Rattle.std.proofs.lemmas.Bool.{cases_eq}
use Rattle.std.specs.Int.{bit_at}
use Rattle.wb_signals.specs.Request.{Request}
use Rattle.wb_signals.specs.History.{Pair, Entry, own}
use Rattle.wb_signals.specs.Cycles.{paired}
use Rattle.soc_core.specs.Fabric.{Fabric}
use Rattle.wb_signals.specs.Cycles.{made_with}
use Rattle.soc_core.specs.Core.{Phase, Idle, Wants, Holds, Leaves, CorePort, Core, IsTick, port, resting_port, resting_ports, built_core, unloaded, with_load, with_taken, raised_of, raised, loaded, taken, released, CanRaise, CanLoad, CanTake, CanRelease, phase_after, with_phase, granted_from, clocked}
use Rattle.soc_core.specs.Sound.{StandsIn, IsSoundCore, AllBelow}
use Rattle.wb_signals.specs.declared.port_row.PortRow.{PortRow}
use Rattle.wb_signals.specs.Wave.{WaveRowState}
use Rattle.soc_wave.specs.Rows.{port_in, column}
use Rattle.soc_wave.specs.Requests.{put_if}
use Rattle.soc_wave.specs.Pairs.{exchange, pairs_of, is_some_pairs, ended_on, all_pairs, AreEndedIn, AreEntriesOf}
use Rattle.soc_wave.specs.Shown.{port_row, row_of}
use Rattle.soc_wave.proofs.Lists.{append-nil, column-snoc}
use Rattle.soc_wave.proofs.Exchanged.{Tells, TellsAs, told, tells_tick, ends_tick, leaving, none_leaves, pairs_opened, told_loaded, told_taken, opened_told, tells_raise}
use Rattle.soc_wave.proofs.Rowed.{no_number, port_granted, length-granted, port_clocked, port_shown}

-- ---- entries that grow at their end

entries-snoc : (n : ℕ) (before rows : List WaveRowState) (row : WaveRowState) (entries here : List Entry) → AreEntriesOf n before rows entries → AreEndedIn n (before ++ rows) row here
    → AreEntriesOf n before (rows ++ row ∷ []) (entries ++ here)
entries-snoc n before [] row entries here are now =
    (here, [], (ap (λ l. l ++ here) are ∙ sym (append-nil here)), subst (λ l. AreEndedIn n l row here) (append-nil before) now, refl)
entries-snoc n before (r ∷ rows) row entries here are now =
    let later = entries-snoc n (before ++ r ∷ []) rows row are.1 here are.4 (subst (λ l. AreEndedIn n l row here) (sym (append_assoc before (r ∷ []) rows)) now) in
    (are.0, are.1 ++ here, (ap (λ l. l ++ here) are.2 ∙ append_assoc are.0 are.1 here), are.3, later)

all_pairs-append : (xs ys : List Entry) → all_pairs (xs ++ ys) ≡ all_pairs xs ++ all_pairs ys
all_pairs-append [] ys = refl
all_pairs-append (e ∷ xs) ys = ap (λ l. e.pairs ∷ l) (all_pairs-append xs ys)

below-append : (n : ℕ) (xs ys : List Entry) → AllBelow n xs → AllBelow n ys → AllBelow n (xs ++ ys)
below-append n [] ys all more = more
below-append n (e ∷ xs) ys all more = (all.0, below-append n xs ys all.1 more)

abbrev entry_if : Bool → Entry → List Entry → List Entry
entry_if b e entries = if b then e ∷ entries else entries

own_behind : (b : Bool) (e : Entry) (whole xs ys : List Entry) → whole ≡ xs ++ ys → entry_if b e whole ≡ entry_if b e xs ++ ys
own_behind true e whole xs ys is = ap (λ l. e ∷ l) is
own_behind false e whole xs ys is = is

own-both : (m : ℕ) (xs ys : List Entry) → own m (xs ++ ys) ≡ own m xs ++ own m ys
own-both m [] ys = refl
own-both m (e ∷ xs) ys = own_behind (e.master == m) e (own m (xs ++ ys)) (own m xs) (own m ys) (own-both m xs ys)

-- one more entry
abbrev all_pairs_of : Bool → Entry → List (List Pair)
all_pairs_of b e = all_pairs (entry_if b e [])

with_entry : (m : ℕ) (mine entries : List Entry) (e : Entry) → e.master ≡ m → all_pairs (own m (entries ++ e ∷ [])) ≡ all_pairs (own m entries) ++ e.pairs ∷ []
with_entry m mine entries e is =
    let yes_it : (e.master == m) ≡ true = grind (arith, is) in
    ap all_pairs (own-both m entries (e ∷ [])) ∙ all_pairs-append (own m entries) (own m (e ∷ []))
    ∙ ap (λ b. all_pairs (own m entries) ++ all_pairs_of b e) yes_it

not_same : (a b : ℕ) → (a ≡ b → ⊥) → (a == b) ≡ false
not_same a b other = grind arith

nothing_more : (xs : List (List Pair)) → xs ++ [] ≡ xs
nothing_more xs = append-nil xs

without_entry : (m : ℕ) (mine entries : List Entry) (e : Entry) → (e.master ≡ m → ⊥) → all_pairs (own m (entries ++ e ∷ [])) ≡ all_pairs (own m entries)
without_entry m mine entries e other =
    let not_it : (e.master == m) ≡ false = not_same e.master m other in
    ap all_pairs (own-both m entries (e ∷ [])) ∙ all_pairs-append (own m entries) (own m (e ∷ []))
    ∙ ap (λ b. all_pairs (own m entries) ++ all_pairs_of b e) not_it ∙ nothing_more (all_pairs (own m entries))

-- a port whose CYC stands
raised_stays : (phase : Phase) (set : ℕ) (ps : List PortRow) → raised_of phase ≡ Some set → leaving phase ps ≡ []
raised_stays Idle set ps is = refl
raised_stays (Wants s) set ps is = refl
raised_stays (Holds s) set ps is = refl
raised_stays Leaves set ps is = absurd (no_number set is)

raised_told : (phase : Phase) (set : ℕ) (ps : List PortRow) (p : CorePort) → raised_of phase ≡ Some set → TellsAs phase ps p → exchange ps ≡ told p
raised_told Idle set ps p is tells = tells
raised_told (Wants s) set ps p is tells = tells
raised_told (Holds s) set ps p is tells = tells
raised_told Leaves set ps p is tells = absurd (no_number set is)

tells_again : (phase : Phase) (ps : List PortRow) (p q : CorePort) → TellsAs phase ps p → told p ≡ told q → TellsAs phase ps q
tells_again Idle ps p q tells same = tells ∙ same
tells_again (Wants s) ps p q tells same = tells ∙ same
tells_again (Holds s) ps p q tells same = tells ∙ same
tells_again Leaves ps p q tells same = tt

idle_at : (n m : ℕ) → slice_index_or (resting_ports n) m resting_port ≡ resting_port
idle_at zero m = refl
idle_at (suc n) zero = refl
idle_at (suc n) (suc m) = idle_at n m

-- ---- what the rows so far show of the journal

-- The journal is the entries of the cycles that the rows show ended, then those that were released since the last tick.
pub record Enters (f : Fabric) (rows : List WaveRowState) (core : Core) : Type 0 where
  pub shown : List Entry
  pub unshown : List Entry
  pub whole : core.journal ≡ shown ++ unshown
  pub entries : AreEntriesOf f.ports [] rows shown
  pub masters : AllBelow f.ports unshown
  pub each : (m : ℕ) → m < f.ports → all_pairs (own m unshown) ≡ leaving (port core m).phase (column m rows)
  pub tells : (m : ℕ) → m < f.ports → Tells (column m rows) (port core m)

-- ---- the tick

module _ (f : Fabric) (rows : List WaveRowState) (old new : Core) (sound : IsSoundCore f old) (tick : IsTick f old new) (e : Enters f rows old) where
  abbrev pub gports : List CorePort
  gports = granted_from tick.grant 0 old.ports

  abbrev pub added : WaveRowState
  added = row_of f gports

  abbrev pub granted_port : ℕ → CorePort
  granted_port m = with_phase (phase_after (bit_at tick.grant m == 1) (port old m).phase) (port old m)

  pub row_is : (m : ℕ) → m < f.ports → port_in m added ≡ port_row f (granted_port m)
  row_is m lt =
      let within : m < length old.ports = omega (arith, lt, sound.ports) in
      let within_granted : m < length gports = omega (arith, lt, sound.ports, length-granted tick.grant 0 old.ports) in
      port_shown f m gports within_granted ∙ ap (port_row f) (port_granted tick.grant m old.ports within)

  pub new_is : (m : ℕ) → m < f.ports → port new m ≡ clocked f old.contents (granted_port m)
  new_is m lt =
      let within : m < length old.ports = omega (arith, lt, sound.ports) in
      let within_granted : m < length gports = omega (arith, lt, sound.ports, length-granted tick.grant 0 old.ports) in
      ap (λ c. port c m) tick.core ∙ port_clocked f old.contents m gports within_granted ∙ ap (clocked f old.contents) (port_granted tick.grant m old.ports within)

  tells_after : (m : ℕ) → m < f.ports → Tells (column m (rows ++ added ∷ [])) (port new m)
  tells_after m lt =
      let kept = tells_tick f old.contents (column m rows) (port old m) (bit_at tick.grant m == 1) (sound.stand m) (sound.queues m) (e.tells m lt) in
      let columns : column m rows ++ port_row f (granted_port m) ∷ [] ≡ column m (rows ++ added ∷ []) = ap (λ row. column m rows ++ row ∷ []) (sym (row_is m lt)) ∙ sym (column-snoc m rows added) in
      subst (λ p. Tells (column m (rows ++ added ∷ [])) p) (sym (new_is m lt)) (subst (λ ps. Tells ps (clocked f old.contents (granted_port m))) columns kept)

  ended_now : AreEndedIn f.ports rows added e.unshown
  ended_now = record {
    masters = e.masters;
    each = λ m lt.
        e.each m lt
        ∙ ends_tick f (column m rows) (port old m) (port old m).phase (bit_at tick.grant m == 1) (sound.stand m) (sound.queues m) (e.tells m lt).cycle (e.tells m lt).quiet
        ∙ ap (λ row. ended_on (column m rows) row) (sym (row_is m lt));
  }

  pub entered_tick : Enters f (rows ++ added ∷ []) new
  entered_tick = record {
    shown = e.shown ++ e.unshown;
    unshown = [];
    whole = ap (λ c. c.journal) tick.core ∙ e.whole ∙ sym (append-nil (e.shown ++ e.unshown));
    entries = entries-snoc f.ports [] rows added e.shown e.unshown e.entries ended_now;
    masters = tt;
    each = λ m lt. sym (ap (λ ph. leaving ph (column m (rows ++ added ∷ []))) (ap (λ (p : CorePort). p.phase) (new_is m lt))
        ∙ none_leaves (port old m).phase (bit_at tick.grant m == 1) (column m (rows ++ added ∷ [])));
    tells = tells_after;
  }

-- ---- an event of one port

module _ (f : Fabric) (rows : List WaveRowState) (core new : Core) (m : ℕ) (p : CorePort)
    (all : length core.ports ≡ f.ports) (below : m < f.ports) (ports_are : new.ports ≡ slice_set core.ports m p) where
  new_same : port new m ≡ p
  new_same =
      let within : m < length core.ports = omega (arith, all, below) in
      ap (λ ports. slice_index_or ports m resting_port) ports_are ∙ get_or-set_same core.ports m p resting_port within

  new_other : (n : ℕ) → n ≢ m → port new n ≡ port core n
  new_other n other = ap (λ ports. slice_index_or ports n resting_port) ports_are ∙ get_or-set_other core.ports m n p resting_port other

  tells_set : ((n : ℕ) → n < f.ports → Tells (column n rows) (port core n)) → Tells (column m rows) p → (n : ℕ) → n < f.ports → Tells (column n rows) (port new n)
  tells_set old tells n lt = elim (cases_eq n m) [
    | inl here ↦ subst (λ (k : ℕ). Tells (column k rows) (port new k)) (sym here) (subst (λ q. Tells (column m rows) q) (sym new_same) tells)
    | inr other ↦ subst (λ q. Tells (column n rows) q) (sym (new_other n other)) (old n lt)
  ]

  -- one that ends no cycle
  pub entered_event : Enters f rows core → new.journal ≡ core.journal → Tells (column m rows) p → leaving (port core m).phase (column m rows) ≡ leaving p.phase (column m rows) → Enters f rows new
  entered_event e journal tells same = record {
    shown = e.shown;
    unshown = e.unshown;
    whole = journal ∙ e.whole;
    entries = e.entries;
    masters = e.masters;
    each = λ n lt. elim (cases_eq n m) [
      | inl here ↦ subst (λ (k : ℕ). all_pairs (own k e.unshown) ≡ leaving (port new k).phase (column k rows)) (sym here)
          (e.each m below ∙ same ∙ ap (λ (q : CorePort). leaving q.phase (column m rows)) (sym new_same))
      | inr other ↦ e.each n lt ∙ ap (λ (q : CorePort). leaving q.phase (column n rows)) (sym (new_other n other))
    ];
    tells = tells_set e.tells tells;
  }

  -- one that ends a cycle with these pairs
  entered_release : (cut : Bool) (pairs : List Pair) → Enters f rows core → new.journal ≡ made_with m cut core.journal pairs → Tells (column m rows) p
      → leaving (port core m).phase (column m rows) ≡ [] → p.phase ≡ Leaves → pairs_of (exchange (column m rows)) ≡ pairs → Enters f rows new
  entered_release cut [] e journal tells none leaves is =
      let now : leaving p.phase (column m rows) ≡ [] =
      ap (λ ph. leaving ph (column m rows)) leaves ∙ ap (λ l. put_if (is_some_pairs l) l []) is in
      entered_event e journal tells (none ∙ sym now)
  entered_release cut (x ∷ pairs) e journal tells none leaves is =
      let entry : Entry = record { master = m; cut = cut; pairs = x ∷ pairs } in
      let now : leaving p.phase (column m rows) ≡ (x ∷ pairs) ∷ [] =
      ap (λ ph. leaving ph (column m rows)) leaves ∙ ap (λ l. put_if (is_some_pairs l) l []) is in
      record {
        shown = e.shown;
        unshown = e.unshown ++ entry ∷ [];
        whole = journal ∙ ap (λ l. l ++ entry ∷ []) e.whole ∙ append_assoc e.shown e.unshown (entry ∷ []);
        entries = e.entries;
        masters = below-append f.ports e.unshown (entry ∷ []) e.masters (below, tt);
        each = λ n lt. elim (cases_eq n m) [
          | inl here ↦ subst (λ (k : ℕ). all_pairs (own k (e.unshown ++ entry ∷ [])) ≡ leaving (port new k).phase (column k rows)) (sym here)
              (with_entry m (own m e.unshown) e.unshown entry refl
              ∙ ap (λ l. l ++ (x ∷ pairs) ∷ []) (e.each m below ∙ none)
              ∙ sym now
              ∙ ap (λ (q : CorePort). leaving q.phase (column m rows)) (sym new_same))
          | inr other ↦
              without_entry n (own n e.unshown) e.unshown entry (λ same. other (sym same))
              ∙ e.each n lt ∙ ap (λ (q : CorePort). leaving q.phase (column n rows)) (sym (new_other n other))
        ];
        tells = tells_set e.tells tells;
      }

-- ---- the events

module _ (f : Fabric) (rows : List WaveRowState) (core : Core) (sound : IsSoundCore f core) (e : Enters f rows core) where
  idle_told : (m : ℕ) → (port core m).phase ≡ Idle → Tells (column m rows) (port core m) → exchange (column m rows) ≡ told (port core m)
  idle_told m is tells = subst (λ ph. TellsAs ph (column m rows) (port core m)) is tells.cycle

  idle_stands : (m : ℕ) → (port core m).phase ≡ Idle → StandsIn f Idle (port core m)
  idle_stands m is = subst (λ ph. StandsIn f ph (port core m)) is (sound.stand m)

  pub entered_raise : (m set : ℕ) → CanRaise f core m set → Enters f rows (raised core m set)
  entered_raise m set can =
      let p : CorePort = port core m in
      let stands = idle_stands m can.idle in
      let tells = e.tells m can.within in
      entered_event f rows core (raised core m set) m (unloaded (Wants set) []) sound.ports can.within refl e refl
      (record { cycle = tells_raise f (column m rows) p set stands.0 stands.1 (sound.queues m) (idle_told m can.idle tells); quiet = tells.quiet })
      (ap (λ ph. leaving ph (column m rows)) can.idle)

  pub entered_load : (m : ℕ) (ops : List Request) → CanLoad f core m ops → Enters f rows (loaded core m ops)
  entered_load m ops can =
      let p : CorePort = port core m in
      let tells = e.tells m can.within in
      entered_event f rows core (loaded core m ops) m (with_load ops p) sound.ports can.within refl e refl
      (record {
        cycle = tells_again p.phase (column m rows) p (with_load ops p) tells.cycle
            (told_loaded f p (sound.queues m) can.nothing ∙ sym (opened_told p.opened (with_load ops p) refl refl refl));
        quiet = tells.quiet;
      })
      refl

  pub entered_take : (m : ℕ) → CanTake f core m → Enters f rows (taken core m)
  entered_take m can =
      let p : CorePort = port core m in
      let tells = e.tells m can.within in
      let answered : length p.loaded ≤ length p.got = omega (arith, can.none_pending) in
      entered_event f rows core (taken core m) m (with_taken p) sound.ports can.within refl e refl
      (record {
        cycle = tells_again p.phase (column m rows) p (with_taken p) tells.cycle
            (told_taken f p (sound.queues m) answered ∙ sym (opened_told (p.opened ++ paired p.loaded p.got) (with_taken p) refl refl refl));
        quiet = tells.quiet;
      })
      refl

  pub entered_released : (m : ℕ) (cut : Bool) → CanRelease f core m → Enters f rows (released core m cut)
  entered_released m cut can =
      let p : CorePort = port core m in
      let tells = e.tells m can.within in
      entered_release f rows core (released core m cut) m (unloaded Leaves []) sound.ports can.within refl cut p.opened e refl
      (record { cycle = tt; quiet = tells.quiet })
      (raised_stays p.phase can.raised.0 (column m rows) can.raised.1) refl
      (pairs_opened f (column m rows) p (sound.queues m) can.nothing (raised_told p.phase can.raised.0 (column m rows) p can.raised.1 tells.cycle))

-- ---- before the first clock

pub entered_built : (f : Fabric) → Enters f [] (built_core f)
entered_built f = record {
  shown = [];
  unshown = [];
  whole = refl;
  entries = refl;
  masters = tt;
  each = λ m lt. sym (ap (λ (p : CorePort). leaving p.phase []) (idle_at f.ports m));
  tells = λ m lt. subst (λ p. Tells [] p) (sym (idle_at f.ports m)) (record { cycle = refl; quiet = λ off. refl });
}

-- What a master may do before a tick while its port follows its lines.
use Rattle.std.proofs.Common.{◌≡◌, ◌≢◌, ℕ, suc, ◌+◌, ◌<◌, ◌≤◌, Bool, true, false, List, [], ◌∷◌, ◌++◌, length, map, refl, sym, ap, ◌∙◌, subst, arith, append_assoc, inl, inr, get_or-set_same}
use Rattle.std.specs.Prelude.{◌⊎◌, slice_index_or, slice_set}
use Rattle.std.proofs.lemmas.List.{length-set}
use Rattle.wb_signals.specs.Request.{Request}
use Rattle.wb_signals.specs.History.{own, marked}
use Rattle.soc_core.specs.Fabric.{Fabric, IsFabric, AllGoIn}
use Rattle.soc_core.specs.Core.{Phase, Idle, Wants, Holds, Leaves, CorePort, Core, port, resting_port, unloaded, with_taken, raised_of, is_idle, is_granted, taken, released, CanRaise, CanLoad}
use Rattle.soc_core.specs.Sound.{StandsIn, IsSoundCore}
use Rattle.soc_core.specs.Built.{set_of_cycle}
use Rattle.soc_script.specs.Script.{ScriptLine}
use Rattle.soc_script.specs.Cycles.{ScriptCycle, cycles_of}
use Rattle.soc_script_wave.specs.Sets.{IsLine, AllLines, set_of_lines, set_at, mark_at}
use Rattle.soc_script_wave.specs.ScriptWave.{lines_at}
use Rattle.soc_script_wave.specs.Runner.{is_loaded, is_through, after_taken, settled_if, settled, left_if, lines_left, prepared}
use Rattle.soc_wave.proofs.PortRows.{true_false, false_true}
use Rattle.soc_script_wave.proofs.ScriptCycles.{lines_from, EndsAs, AreCycles, cycle_ends, holds_here, script-cycles}
use Rattle.soc_script_wave.proofs.CycleSets.{opening_below, line_goes, set_lines}
use Rattle.soc_script_wave.proofs.Preparing.{lines-append, through, some_ops}
use Rattle.soc_script_wave.proofs.Scripted.{cycle_lines}
use Rattle.soc_script_wave.proofs.OwnRuns.{OwnAs, OwnLine, asked_first, own_prepare}
use Rattle.soc_script_wave.proofs.OwnScript.{sound_kept}
use Rattle.soc_sim.specs.Steps.{MaySettle, MayPrepare, MayAllPrepare}

abbrev front_or : ScriptLine → List ScriptLine → ScriptLine
front_or d [] = d
front_or d (l ∷ lines) = l

-- ---- a port's phase

idle_is : (phase : Phase) → is_idle phase ≡ true → phase ≡ Idle
idle_is Idle is = refl
idle_is (Wants set) is = absurd (false_true is)
idle_is (Holds set) is = absurd (false_true is)
idle_is Leaves is = absurd (false_true is)

granted_is : (phase : Phase) → is_granted phase ≡ true → (set : ℕ) × (phase ≡ Holds set)
granted_is Idle is = absurd (false_true is)
granted_is (Wants set) is = absurd (false_true is)
granted_is (Holds set) is = (set, refl)
granted_is Leaves is = absurd (false_true is)

-- one with something loaded holds its set
loaded_holds : (f : Fabric) (p : CorePort) (phase : Phase) → p.phase ≡ phase → StandsIn f phase p → p.loaded ≢ [] → (set : ℕ) × (p.phase ≡ Holds set)
loaded_holds f p Idle is stands some = absurd (some stands.1)
loaded_holds f p (Wants set) is stands some = absurd (some stands.1)
loaded_holds f p (Holds set) is stands some = (set, is)
loaded_holds f p Leaves is stands some = absurd (some stands.1)

none_loaded : (ops : List Request) → is_loaded ops ≡ false → ops ≡ []
none_loaded [] is = refl
none_loaded (r ∷ ops) is = absurd (true_false is)

loaded_is : (p : CorePort) (h : ScriptLine) → p.loaded ≢ [] → ((p.loaded ≡ []) ⊎ (p.loaded ≡ h.ops)) → p.loaded ≡ h.ops
loaded_is p h some is = elim is [
  | inl none ↦ absurd (some none)
  | inr ops ↦ ops
]

port_set : (ports : List CorePort) (m : ℕ) (p : CorePort) → m < length ports → slice_index_or (slice_set ports m p) m resting_port ≡ p
port_set ports m p lt = get_or-set_same ports m p resting_port lt

-- ---- the first step

module _ (f : Fabric) (core : Core) (m : ℕ) (lt : m < f.ports) (sound : IsSoundCore f core) where
  within : m < length core.ports
  within = omega (arith, sound.ports, lt)

  holds : is_through (port core m) ≡ true → (set : ℕ) × ((port core m).phase ≡ Holds set)
  holds is = loaded_holds f (port core m) (port core m).phase refl (sound.stand m) (through (port core m) is).0

  taken_here : port (taken core m) m ≡ with_taken (port core m)
  taken_here = port_set core.ports m (with_taken (port core m)) within

  pub may_settle : MaySettle f m core
  may_settle = record {
    take = λ is. record { within = lt; none_pending = (through (port core m) is).1 };
    release = λ is.
        let h = holds is in
        record {
          within = lt;
          raised = (h.0, ap (λ (q : CorePort). raised_of q.phase) taken_here ∙ ap raised_of h.1);
          nothing = ap (λ (q : CorePort). q.loaded) taken_here;
        };
  }

  -- ---- the second step

  module _ (fits : IsFabric f) (cycles : List ScriptCycle) (are : AreCycles cycles) (all : (n : ℕ) → AllLines f (lines_at cycles n)) where
    pub may_load : (c : Core) (set k : ℕ) (done : List ScriptLine) (h : ScriptLine) (rest : List ScriptLine) → (port c m).phase ≡ Holds set → (port c m).loaded ≡ [] → k < length cycles → set ≡ set_at f cycles k
        → lines_at cycles k ≡ done ++ h ∷ rest → CanLoad f c m h.ops
    may_load c set k done h rest is none below named lines =
        let ends = (cycle_ends cycles k are below).0 in
        let line : IsLine f h = (lines-append f done (h ∷ rest) (subst (λ ls. AllLines f ls) lines (all k))).1.0 in
        let goes : AllGoIn f set h.ops = subst (λ (s : ℕ). AllGoIn f s h.ops) (sym (named ∙ set_lines f cycles k ∙ ap (λ ls. set_of_lines f ls) lines))
        (line_goes f fits (mark_at cycles k) done h rest (subst (λ ls. EndsAs (mark_at cycles k) ls) lines ends)) in
        record { within = lt; granted = (set, is, goes); nothing = none; some = some_ops h.ops line.some; most = line.most; fit = line.fit }

    may_raise : (c : Core) (l : ScriptLine) → is_idle (port c m).phase ≡ true → CanRaise f c m (set_of_cycle f l.ops l.last)
    may_raise c l idle = record { within = lt; idle = idle_is (port c m).phase idle; slaves = opening_below f fits l.last l.ops }

    some_lines : (l : ScriptLine) (lines : List ScriptLine) → [] ≡ l ∷ lines → ⊥
    some_lines l lines e = let n : 0 ≡ suc (length lines) = ap (λ ls. length ls) e in omega (arith, n)

    -- the line after one that is through
    load_after : (set k : ℕ) (done : List ScriptLine) (h : ScriptLine) (rest more : List ScriptLine) → (port core m).phase ≡ Holds set → k < length cycles → set ≡ set_at f cycles k → lines_at cycles k ≡ done ++ h ∷ rest → more ≡ lines_from cycles (suc k)
        → (b : Bool) → h.last ≡ b → (l : ScriptLine) (behind : List ScriptLine) → rest ++ more ≡ l ∷ behind → is_granted (port (after_taken m b (rest ++ more) (taken core m)) m).phase ≡ true → CanLoad f (after_taken m b (rest ++ more) (taken core m)) m l.ops
    load_after set k done h rest more is below named lines more_is true last l behind todo granted =
        let long : m < length (taken core m).ports = omega (arith, within, length-set core.ports m (with_taken (port core m))) in
        let left : is_granted (port (released (taken core m) m false) m).phase ≡ false = ap (λ (q : CorePort). is_granted q.phase) (port_set (taken core m).ports m (unloaded Leaves []) long) in
        absurd (true_false (sym granted ∙ left))
    load_after set k done h [] more is below named lines more_is false last l behind todo granted =
        let ends = cycle_ends cycles k are below in
        let cut = holds_here (mark_at cycles k) done h (subst (λ ls. EndsAs (mark_at cycles k) ls) lines ends.0) last in
        absurd (some_lines l behind (sym (more_is ∙ ends.1 cut) ∙ todo))
    load_after set k done h (next ∷ rest) more is below named lines more_is false last l behind todo granted =
        let same : next ≡ l = ap (front_or next) todo in
        subst (λ (x : ScriptLine). CanLoad f (taken core m) m x.ops) same
        (may_load (taken core m) set k (done ++ h ∷ []) next rest (ap (λ (q : CorePort). q.phase) taken_here ∙ is) (ap (λ (q : CorePort). q.loaded) taken_here) below named (lines ∙ sym (append_assoc done (h ∷ []) (next ∷ rest))))

    load_through : (set k : ℕ) (todo : List ScriptLine) → (port core m).phase ≡ Holds set → (port core m).loaded ≢ [] → (done : List ScriptLine) (h : ScriptLine) (rest : List ScriptLine) → OwnLine f cycles (port core m) todo set k done h rest
        → (l : ScriptLine) (behind : List ScriptLine) → left_if true h (rest ++ lines_from cycles (suc k)) ≡ l ∷ behind
        → is_granted (port (settled_if true m h (rest ++ lines_from cycles (suc k)) core) m).phase ≡ true → CanLoad f (settled_if true m h (rest ++ lines_from cycles (suc k)) core) m l.ops
    load_through set k todo is some done h rest r l behind todo_is granted =
        load_after set k done h rest (lines_from cycles (suc k)) is r.below r.named r.lines refl h.last refl l behind todo_is granted

    -- the next line, or the one after it
    load_by : (set k : ℕ) (todo : List ScriptLine) → (port core m).phase ≡ Holds set → (done : List ScriptLine) (h : ScriptLine) (rest : List ScriptLine) → OwnLine f cycles (port core m) todo set k done h rest
        → (b : Bool) → is_through (port core m) ≡ b → (l : ScriptLine) (behind : List ScriptLine) → left_if b h (rest ++ lines_from cycles (suc k)) ≡ l ∷ behind
        → is_granted (port (settled_if b m h (rest ++ lines_from cycles (suc k)) core) m).phase ≡ true → is_loaded (port (settled_if b m h (rest ++ lines_from cycles (suc k)) core) m).loaded ≡ false
        → CanLoad f (settled_if b m h (rest ++ lines_from cycles (suc k)) core) m l.ops
    load_by set k todo is done h rest r true yes_it l behind todo_is granted free = load_through set k todo is (through (port core m) yes_it).0 done h rest r l behind todo_is granted
    load_by set k todo is done h rest r false not_it l behind todo_is granted free =
        let same : h ≡ l = ap (front_or h) todo_is in
        subst (λ (x : ScriptLine). CanLoad f core m x.ops) same (may_load core set k done h rest is (none_loaded (port core m).loaded free) r.below r.named r.lines)

    abbrev MayLoad : List ScriptLine → Type 0
    MayLoad todo = (l : ScriptLine) (behind : List ScriptLine) → lines_left (port core m) todo ≡ l ∷ behind → is_granted (port (settled m todo core) m).phase ≡ true
        → is_loaded (port (settled m todo core) m).loaded ≡ false → CanLoad f (settled m todo core) m l.ops

    load_holds : (set k : ℕ) (todo : List ScriptLine) → (port core m).phase ≡ Holds set → (done : List ScriptLine) (h : ScriptLine) (rest : List ScriptLine) → OwnLine f cycles (port core m) todo set k done h rest → MayLoad todo
    load_holds set k todo is done h rest r = subst MayLoad (sym r.todo_is) (load_by set k todo is done h rest r (is_through (port core m)) refl)

    -- a port that holds no set
    settles_not : (todo : List ScriptLine) → is_through (port core m) ≡ false → settled m todo core ≡ core
    settles_not [] off = refl
    settles_not (l ∷ todo) off = ap (λ b. settled_if b m l todo core) off

    load_never : (todo : List ScriptLine) → is_through (port core m) ≡ false → is_granted (port core m).phase ≡ false → MayLoad todo
    load_never todo off not_granted l behind todo_is granted free = absurd (true_false (sym granted ∙ ap (λ c. is_granted (port c m).phase) (settles_not todo off) ∙ not_granted))

    off_by : (b : Bool) → is_through (port core m) ≡ b → is_granted (port core m).phase ≡ false → is_through (port core m) ≡ false
    off_by false is not_granted = is
    off_by true is not_granted = absurd (true_false (sym (ap is_granted (holds is).1) ∙ not_granted))

    load_in : (todo : List ScriptLine) (k : ℕ) (phase : Phase) → (port core m).phase ≡ phase → OwnAs f cycles (port core m) todo k phase → MayLoad todo
    load_in todo k Idle is w = load_never todo (off_by (is_through (port core m)) refl (ap is_granted is)) (ap is_granted is)
    load_in todo k (Wants set) is w = load_never todo (off_by (is_through (port core m)) refl (ap is_granted is)) (ap is_granted is)
    load_in todo k (Holds set) is w = load_holds set k todo is w.0 w.1 w.2 w.3
    load_in todo k Leaves is w = load_never todo (off_by (is_through (port core m)) refl (ap is_granted is)) (ap is_granted is)

    pub may_prepare : (todo : List ScriptLine) (k : ℕ) → OwnAs f cycles (port core m) todo k (port core m).phase → MayPrepare f m todo core
    may_prepare todo k w = record {
      settle = may_settle;
      begin_ = record { raise = λ l behind todo_is idle. may_raise (settled m todo core) l idle; load = load_in todo k (port core m).phase refl w };
    }

-- ---- all masters

-- k cycles of the master have ended, and its port is where its lines say
abbrev pub FollowsLines : Fabric → List ScriptLine → ℕ → Core → List ScriptLine → Type 0
FollowsLines f script m core todo =
    (k : ℕ) × OwnAs f (cycles_of m script) (port core m) todo k (port core m).phase × (map marked (own m core.journal) ≡ asked_first k (cycles_of m script))

follows_again : (f : Fabric) (script : List ScriptLine) (m : ℕ) (old new : Core) (todo : List ScriptLine) → port new m ≡ port old m → own m new.journal ≡ own m old.journal → FollowsLines f script m old todo → FollowsLines f script m new todo
follows_again f script m old new todo same owns s =
    (s.0, subst (λ (p : CorePort). OwnAs f (cycles_of m script) p todo s.0 p.phase) (sym same) s.1, ap (λ l. map marked l) owns ∙ s.2)

pub may_all : (f : Fabric) (fits : IsFabric f) (script : List ScriptLine) → AllLines f script → (t m : ℕ) (todos : List (List ScriptLine)) (core : Core) → m + length todos ≤ f.ports → IsSoundCore f core
    → ((j i : ℕ) → j ≡ m + i → i < length todos → FollowsLines f script j core (slice_index_or todos i [])) → MayAllPrepare f t m todos core
may_all f fits script all t m [] core le sound follows = tt
may_all f fits script all t m (todo ∷ todos) core le sound follows =
    let lt : m < f.ports = omega (arith, le) in
    let s = follows m 0 (omega arith) (omega arith) in
    let are = script-cycles m script in
    let lines = cycle_lines f m script all in
    let one = own_prepare f fits (IsSoundCore f) (sound_kept f fits) t m lt (cycles_of m script) are lines core todo s.0 (record { kept = sound; follows = s.1; asked = s.2 }) in
    let mid : Core = prepared f t m todo core in (
      may_prepare f core m lt sound fits (cycles_of m script) are lines todo s.0 s.1,
      may_all f fits script all t (suc m) todos mid (omega (arith, le)) one.state.kept (λ j n is below.
          let other : j ≢ m = λ same. omega (arith, same, is) in
          follows_again f script j core mid (slice_index_or todos n []) (one.others j other) (one.owns j other) (follows j (suc n) (omega (arith, is)) (omega (arith, below)))),
    )

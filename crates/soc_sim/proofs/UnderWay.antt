-- A script under way: what the clocks so far leave to do.
use Rattle.std.proofs.Common.{◌≡◌, ℕ, suc, ◌+◌, ◌-◌, ◌<◌, ◌≤◌, Bool, true, false, List, [], ◌∷◌, ◌++◌, length, refl, sym, ap, ◌∙◌, subst, arith, length-append}
use Rattle.std.specs.Prelude.{slice_index_or}
use Rattle.soc_desc.specs.declared.description.Description.{Description}
use Rattle.soc_desc.specs.Accepted.{IsAccepted}
use Rattle.soc_core.specs.Fabric.{Fabric, IsFabric}
use Rattle.soc_core.specs.Built.{fabric_of}
use Rattle.wb_signals.specs.Wave.{WaveRowState}
use Rattle.soc_core.specs.Core.{Core, built_core, granted_from}
use Rattle.soc_core.specs.Sound.{IsSoundCore}
use Rattle.soc_core.proofs.BuiltLemmas.{described_fabric}
use Rattle.soc_core.proofs.Ticks.{built_sound, tick_sound}
use Rattle.soc_wave.specs.Arbitration.{Granting}
use Rattle.soc_wave.specs.Shown.{row_of}
use Rattle.soc_core.specs.Events.{Tick}
use Rattle.soc_wave.specs.Laws.{Watched, AddsRow}
use Rattle.soc_script.specs.Script.{ScriptLine}
use Rattle.soc_script_wave.specs.Sets.{AllLines}
use Rattle.soc_script_wave.specs.Work.{all_work, latest}
use Rattle.soc_script_wave.specs.Runner.{IsClock, Runs, RunsScript, RunsCore, CoreRunsScript, RunsOn, prepared_from, left_from, is_over, todos_from}
use Rattle.soc_script_wave.specs.ScriptOwn.{OwnIsAsked}
use Rattle.soc_script_wave.specs.ScriptLaws.{RanScript}
use Rattle.soc_script_wave.proofs.Scripted.{script_is_shown, length-left}
use Rattle.soc_script_wave.proofs.OwnScript.{script_is_run, script_is_over, sound_kept, tick_moves, own_start, own_next, kept_next, length-todos}
use Rattle.soc_sim.specs.Watched.{WatchedState, with_grants, LeadsOn}
use Rattle.soc_sim.specs.Steps.{MayAllPrepare, LeadsToClock}
use Rattle.soc_sim.specs.Laws.{ShowsScript}
use Rattle.soc_sim.proofs.MayLemmas.{FollowsLines, may_all}

abbrev pub all_todos : Fabric → List ScriptLine → List (List ScriptLine)
all_todos f script = todos_from script 0 f.ports

-- how many clocks a script takes before its last, at most
abbrev pub most_clocks : Fabric → List ScriptLine → ℕ
most_clocks f script = latest script + all_work f (all_todos f script)

-- Each master follows its lines. What is done from here on, together with the clocks before, is a run of the script.
pub record IsUnderWay (f : Fabric) (script : List ScriptLine) (todos : List (List ScriptLine)) (w : WatchedState) : Type 0 where
  pub count : length todos ≡ f.ports
  pub sound : IsSoundCore f w.core
  pub follows : (m : ℕ) → m < f.ports → FollowsLines f script m w.core (slice_index_or todos m [])
  pub grants : List Granting
  pub shows : (n : ℕ) (new : Watched) → Runs f n (length w.rows) todos (with_grants w grants) new → (k : ℕ) × RunsScript f script k new
  pub runs : (n : ℕ) (new : Core) → RunsCore f n (length w.rows) todos w.core new → (k : ℕ) × CoreRunsScript f script k new
  pub clocks : (n : ℕ) (new : Core) → RunsOn f n (length w.rows) todos w.core new → (k : ℕ) × (k ≡ length w.rows + n) × RunsOn f k 0 (all_todos f script) (built_core f) new

module _ (f : Fabric) (fits : IsFabric f) (script : List ScriptLine) (all : AllLines f script) where
  start_shows : (w : WatchedState) → w.core ≡ built_core f → w.rows ≡ [] → (n : ℕ) (new : Watched) → Runs f n (length w.rows) (all_todos f script) (with_grants w []) new → RunsScript f script n new
  start_shows w built none n new run =
      let no_rows : length w.rows ≡ 0 = ap (λ l. length l) none in
      let is : with_grants w [] ≡ record { core = built_core f; rows = []; grants = [] } = λ i. record { core = built i; rows = none i; grants = [] } in
      subst (λ (v : Watched). Runs f n 0 (all_todos f script) v new) is (subst (λ (t : ℕ). Runs f n t (all_todos f script) (with_grants w []) new) no_rows run)

  pub begins : (w : WatchedState) → w.core ≡ built_core f → w.rows ≡ [] → IsUnderWay f script (all_todos f script) w
  begins w built none =
      let no_rows : length w.rows ≡ 0 = ap (λ l. length l) none in
      record {
        count = length-todos f fits script all (IsSoundCore f) (sound_kept f fits) (tick_sound f fits) (tick_moves f fits) 0 f.ports;
        sound = subst (IsSoundCore f) (sym built) (built_sound f fits);
        follows = λ m lt. subst (λ c. FollowsLines f script m c (slice_index_or (all_todos f script) m [])) (sym built)
            (own_start f fits script all (IsSoundCore f) (sound_kept f fits) (tick_sound f fits) (tick_moves f fits) m lt);
        grants = [];
        shows = λ n new run. (n, start_shows w built none n new run);
        runs = λ n new run. (n, subst (λ c. RunsCore f n 0 (all_todos f script) c new) built (subst (λ (t : ℕ). RunsCore f n t (all_todos f script) w.core new) no_rows run));
        clocks = λ n new run. (n, omega (arith, no_rows), subst (λ c. RunsOn f n 0 (all_todos f script) c new) built (subst (λ (t : ℕ). RunsOn f n t (all_todos f script) w.core new) no_rows run));
      }

  module _ (todos : List (List ScriptLine)) (old : WatchedState) (u : IsUnderWay f script todos old) where
    abbrev ready : Core
    ready = prepared_from f (length old.rows) 0 todos old.core

    abbrev lefts : List (List ScriptLine)
    lefts = left_from 0 todos old.core

    -- before the tick, each master may do what it does
    pub may_clock : MayAllPrepare f (length old.rows) 0 todos old.core
    may_clock =
        may_all f fits script all (length old.rows) 0 todos old.core (omega (arith, u.count)) u.sound
        (λ j i is lt. let e : i ≡ j = omega (arith, is) in subst (λ (n : ℕ). FollowsLines f script j old.core (slice_index_or todos n [])) (sym e) (u.follows j (omega (arith, e, lt, u.count))))

    -- no more clocks than the bound
    pub within_most : length old.rows ≤ most_clocks f script
    within_most =
        let r = u.clocks 0 old.core refl in
        let most = script_is_over f fits script all r.0 old.core r.2 in
        omega (arith, r.1, most)

    module _ (new : WatchedState) (after : List Granting) (clock : IsClock f (length old.rows) todos (with_grants old u.grants) (with_grants new after)) where
      one_more : length new.rows ≡ suc (length old.rows)
      one_more =
          let row : List WaveRowState = row_of f (granted_from clock.adds.tick.grant 0 ready.ports) ∷ [] in
          let e : length new.rows ≡ length (old.rows ++ row) = ap (λ (l : List WaveRowState). length l) clock.adds.rows in
          omega (arith, e, length-append old.rows row)

      -- the clock is not the last
      pub goes_on : is_over 0 lefts ready ≡ false → IsUnderWay f script lefts new
      goes_on over = record {
        count = length-left 0 todos old.core ∙ u.count;
        sound = kept_next f fits script all (IsSoundCore f) (sound_kept f fits) (tick_sound f fits) (tick_moves f fits) (length old.rows) todos old.core new.core u.count u.sound u.follows clock.adds.tick;
        follows = λ m lt. own_next f fits script all (IsSoundCore f) (sound_kept f fits) (tick_sound f fits) (tick_moves f fits) (length old.rows) todos old.core new.core u.count u.sound u.follows clock.adds.tick m lt;
        grants = after;
        shows = λ n end run. u.shows (suc n) end (with_grants new after, over, clock, subst (λ (t : ℕ). Runs f n t lefts (with_grants new after) end) one_more run);
        runs = λ n end run. u.runs (suc n) end (new.core, over, clock.adds.tick, subst (λ (t : ℕ). RunsCore f n t lefts new.core end) one_more run);
        clocks = λ n end run.
            let r = u.clocks (suc n) end (new.core, over, clock.adds.tick, subst (λ (t : ℕ). RunsOn f n t lefts new.core end) one_more run) in
            (r.0, omega (arith, r.1, one_more), r.2);
      }

      pub still_below : suc (length old.rows) ≤ length new.rows
      still_below = omega (arith, one_more)

      -- the clock is the last
      module _ (over : is_over 0 lefts ready ≡ true) where
        pub shows_script : new.description ≡ old.description → f ≡ fabric_of old.description → ShowsScript script new
        shows_script same f_is =
            let r = u.shows 0 (with_grants new after) (over, clock) in
            let ran = script_is_shown f fits script all r.0 (with_grants new after) r.1 in
            (after, subst (λ g. RanScript g script (with_grants new after)) (f_is ∙ ap fabric_of (sym same)) ran)

        pub own_asked : OwnIsAsked f script new.core
        own_asked =
            let r = u.runs 0 new.core (over, clock.adds.tick) in
            script_is_run f fits script all r.0 new.core r.1

-- ---- on the bus of a description

module _ (d : Description) (accepted : IsAccepted d) (script : List ScriptLine) (all : AllLines (fabric_of d) script) where
  fits : IsFabric (fabric_of d)
  fits = described_fabric d accepted.masters_least accepted.depth_least

  pub begins_on : (w : WatchedState) (todos : List (List ScriptLine)) → w.core ≡ built_core (fabric_of d) → w.rows ≡ [] → todos ≡ all_todos (fabric_of d) script → IsUnderWay (fabric_of d) script todos w
  begins_on w todos built none is = subst (λ ls. IsUnderWay (fabric_of d) script ls w) (sym is) (begins (fabric_of d) fits script all w built none)

  module _ (todos : List (List ScriptLine)) (old : WatchedState) (same : old.description ≡ d) (u : IsUnderWay (fabric_of d) script todos old) where
    pub may_on : MayAllPrepare (fabric_of old.description) (length old.rows) 0 todos old.core
    may_on = subst (λ e. MayAllPrepare (fabric_of e) (length old.rows) 0 todos old.core) (sym same) (may_clock (fabric_of d) fits script all todos old u)

    pub count_on : length todos ≡ old.description.masters
    count_on = u.count ∙ ap (λ (e : Description). e.masters) (sym same)

    module _ (new : WatchedState) (leads : LeadsToClock todos old new) (over : Bool)
        (is : over ≡ is_over 0 (left_from 0 todos old.core) (prepared_from (fabric_of old.description) (length old.rows) 0 todos old.core)) where
      clock : IsClock (fabric_of d) (length old.rows) todos (with_grants old u.grants) (with_grants new (leads u.grants).0)
      clock = subst (λ e. IsClock (fabric_of e) (length old.rows) todos (with_grants old u.grants) (with_grants new (leads u.grants).0)) same (leads u.grants).1

      over_is : over ≡ is_over 0 (left_from 0 todos old.core) (prepared_from (fabric_of d) (length old.rows) 0 todos old.core)
      over_is = subst (λ e. over ≡ is_over 0 (left_from 0 todos old.core) (prepared_from (fabric_of e) (length old.rows) 0 todos old.core)) same is

      pub goes_on_to : over ≡ false → (todos_then : List (List ScriptLine)) → todos_then ≡ left_from 0 todos old.core → IsUnderWay (fabric_of d) script todos_then new
      goes_on_to not_over todos_then left =
          subst (λ ls. IsUnderWay (fabric_of d) script ls new) (sym left)
          (goes_on (fabric_of d) fits script all todos old u new (leads u.grants).0 clock (sym over_is ∙ not_over))

      pub fewer_left : suc (most_clocks (fabric_of d) script) - length new.rows < suc (most_clocks (fabric_of d) script) - length old.rows
      fewer_left = omega (arith, still_below (fabric_of d) fits script all todos old u new (leads u.grants).0 clock, within_most (fabric_of d) fits script all todos old u)

      pub ends_with : over ≡ true → new.description ≡ old.description → ShowsScript script new × OwnIsAsked (fabric_of new.description) script new.core
      ends_with is_over_now next = (
        shows_script (fabric_of d) fits script all todos old u new (leads u.grants).0 clock (sym over_is ∙ is_over_now) next (ap fabric_of (sym same)),
        subst (λ e. OwnIsAsked (fabric_of e) script new.core) (sym (next ∙ same)) (own_asked (fabric_of d) fits script all todos old u new (leads u.grants).0 clock (sym over_is ∙ is_over_now)),
      )

-- what is done before a tick, in room taken before, and the tick
pub clock_leads : (old roomy ready new : WatchedState) (todos : List (List ScriptLine)) (t spare : ℕ) → roomy ≡ record old { spare = spare } → ready ≡ record roomy { core = prepared_from (fabric_of roomy.description) t 0 todos roomy.core }
    → t ≡ length old.rows → LeadsOn Tick ready new → LeadsToClock todos old new
clock_leads old roomy ready new todos t spare room made now leads grants =
    let next = leads grants in
    let is : ready ≡ record { description = old.description; core = prepared_from (fabric_of old.description) (length old.rows) 0 todos old.core; rows = old.rows; spare = spare } =
    made ∙ ap (λ (w : WatchedState). record w { core = prepared_from (fabric_of w.description) t 0 todos w.core }) room
    ∙ ap (λ (n : ℕ). record { description = old.description; core = prepared_from (fabric_of old.description) n 0 todos old.core; rows = old.rows; spare = spare }) now in
    (next.0, record { adds = subst (λ (w : WatchedState). AddsRow (fabric_of w.description) (with_grants w grants) (with_grants new next.0)) is next.1 })

-- A clock in which one port alone has a request or is owed an answer, or none has.
use Rattle.std.proofs.Common.{◌≡◌, ◌≢◌, ◌⊎◌, inl, inr, ◌<◌, ◌≤◌, ◌+◌, ℕ, zero, suc, Bool, true, List, [], ◌∷◌, ◌++◌, length, get_or, set, take, map, slice_get, Option, Some, None, refl, ap, sym, ◌∙◌, arith}
use Rattle.std.proofs.lemmas.List.{length-map, map-append, take_more, take_more_set, get_or_default, length-set, get_or-set_same}
use Rattle.std.proofs.lemmas.Option.{slice_get-get_or, slice_get_within}
use Rattle.std.specs.Option.{is_some}
use Rattle.eb_base.specs.declared.width.Width.{Width}
use Rattle.wb_signals.specs.Request.{Request, IsRequest}
use Rattle.wb_signals.specs.Content.{Content}
use Rattle.wb_signals.specs.Wiring.{Wiring}
use Rattle.wb_signals.specs.History.{contents_after}
use Rattle.wb_signals.specs.Slave.{Owed, queue_to, listed, owed_after}
use Rattle.wb_signals.specs.Parts.{Part, child_of, AllFitIn}
use Rattle.wb_signals.specs.Rows.{asked, passes, row_after}
use Rattle.wb_signals.specs.declared.port_row.PortRow.{PortRow}
use Rattle.wb_crossbar.specs.Crossbar.{CrossbarState, wiring_of, CanTick, passed, rows_after, owed_after_all, after_tick}
use Rattle.wb_crossbar.specs.Alone.{unanswered, MayTickAlone}
use Rattle.wb_port.specs.Port.{PortState, driven, sampled}
use Rattle.soc_core.specs.Core.{CorePort as Cycle}
use Rattle.soc_core.specs.Sound.{is_busy_phase}
use Rattle.soc_bus.specs.View.{CycleView, states}
use Rattle.soc_bus.specs.Clocked.{driving, driven_rows, is_sent, answer_got, sampled_all, waiting, place_of, IsServed, AreServed, AreOperations}
use Rattle.soc_bus.specs.Alone.{AreAllDone, AreOthersDone, resting_rows}
use Rattle.soc_bus.proofs.ServedLemmas.{asked-driving, driven_at, count-waiting, row_of, can_tick, can_pass, can_answer}
use Rattle.soc_bus.proofs.CycleLists.{get_state}
use Rattle.soc_bus.proofs.RowLemmas.{busy, no_port}
use Rattle.wb_signals.proofs.TurnLemmas.{number_cases}

-- ---- a port that is done

none_by : (p : PortState) (o : Option Request) → driven p ≡ o → length p.loaded ≤ p.passed → driven p ≡ None
none_by p None e l = e
none_by p (Some r) e l = absurd (let w = slice_get_within p.loaded p.passed r (driven_at p r e).0 in let no : ⊥ = omega (arith, w, l) in no)

no_answers : (owed : List Owed) → length owed ≡ 0 → owed ≡ []
no_answers [] e = refl
no_answers (o ∷ os) e = absurd (let no : ⊥ = omega (arith, e) in no)

module _ (x : CrossbarState) (holders : List (Option ℕ)) (ps : List PortState) (served : AreServed x holders ps) where
  served_at : (n : ℕ) (p : PortState) → slice_get ps n ≡ Some p → IsServed x holders n p (get_or x.owed n [])
  served_at n p e =
      let b = slice_get_within ps n p e in
      served.each n p (get_or x.owed n []) e (slice_get-get_or x.owed n [] (let c = served.count in omega (arith, b, c)))

  pub done_drives : (n : ℕ) (p : PortState) → slice_get ps n ≡ Some p → length p.answers ≡ length p.loaded → driven p ≡ None
  done_drives n p e done = none_by p (driven p) refl (let a = (served_at n p e).answered in omega (arith, a, done))

  pub done_owes : (n : ℕ) (p : PortState) (owed : List Owed) → slice_get ps n ≡ Some p → slice_get x.owed n ≡ Some owed → length p.answers ≡ length p.loaded → owed ≡ []
  done_owes n p owed e o done =
      let s = served.each n p owed e o in
      let l : length owed ≡ length (waiting p) = sym (length-map owed place_of) ∙ ap (λ (l : List ℕ). length l) s.places ∙ length-map (waiting p) (queue_to (wiring_of x)) in
      let w = count-waiting p s.passed s.answered in
      let a = s.passed in
      no_answers owed (omega (arith, l, w, a, done))

-- ---- the rows of ports of which one alone drives

abbrev pub NoneDrive : List PortState → Type 0
NoneDrive ps = (n : ℕ) (p : PortState) → slice_get ps n ≡ Some p → driven p ≡ None

abbrev pub OthersRest : ℕ → List PortState → Type 0
OthersRest m ps = (n : ℕ) (p : PortState) → n ≢ m → slice_get ps n ≡ Some p → driven p ≡ None

tail_drive : (p : PortState) (ps : List PortState) → OthersRest 0 (p ∷ ps) → NoneDrive ps
tail_drive p ps rest n q e = rest (suc n) q (λ h. let no : ⊥ = omega (arith, h) in no) e

tail_rest : (p : PortState) (ps : List PortState) (m : ℕ) → OthersRest (suc m) (p ∷ ps) → OthersRest m ps
tail_rest p ps m rest n q other e = rest (suc n) q (λ h. other (let same : n ≡ m = omega (arith, h) in same)) e

head_rests : (p : PortState) (ps : List PortState) (m : ℕ) → OthersRest (suc m) (p ∷ ps) → driven p ≡ None
head_rests p ps m rest = rest 0 p (λ h. let no : ⊥ = omega (arith, h) in no) refl

driven-at : (cs : List Cycle) (ps : List PortState) (m : ℕ) → length cs ≡ length ps → m < length ps → slice_get (driven_rows cs ps) m ≡ Some (driving (busy cs m) (driven (get_or ps m no_port)))
driven-at cs [] m a l = absurd (let no : ⊥ = omega (arith, l) in no)
driven-at [] (p ∷ ps) m a l = absurd (let no : ⊥ = omega (arith, a) in no)
driven-at (c ∷ cs) (p ∷ ps) zero a l = refl
driven-at (c ∷ cs) (p ∷ ps) (suc m) a l = driven-at cs ps m (omega (arith, a)) (omega (arith, l))

unanswered-driving : (cyc : Bool) (op : Option Request) → unanswered (driving cyc op) ≡ driving cyc op
unanswered-driving cyc None = refl
unanswered-driving cyc (Some r) = refl

pub driven-unanswered : (cs : List Cycle) (ps : List PortState) → map unanswered (driven_rows cs ps) ≡ driven_rows cs ps
driven-unanswered cs [] = refl
driven-unanswered [] (p ∷ ps) = refl
driven-unanswered (c ∷ cs) (p ∷ ps) = let one = unanswered-driving (is_busy_phase c.phase) (driven p) in let more = driven-unanswered cs ps in λ i. one i ∷ more i

resting_driven : (cs : List Cycle) (ps : List PortState) → length cs ≡ length ps → NoneDrive ps → resting_rows cs ≡ driven_rows cs ps
resting_driven [] [] a none = refl
resting_driven (c ∷ cs) [] a none = absurd (let no : ⊥ = omega (arith, a) in no)
resting_driven [] (p ∷ ps) a none = absurd (let no : ⊥ = omega (arith, a) in no)
resting_driven (c ∷ cs) (p ∷ ps) a none =
    let one = ap (driving (is_busy_phase c.phase)) (sym (none 0 p refl)) in
    let more = resting_driven cs ps (omega (arith, a)) (λ n q e. none (suc n) q e) in
    λ i. one i ∷ more i

pub rest_but : (cs : List Cycle) (ps : List PortState) (m : ℕ) (row : PortRow) → length cs ≡ length ps → OthersRest m ps → set (resting_rows cs) m row ≡ set (driven_rows cs ps) m row
rest_but [] [] m row a rest = refl
rest_but (c ∷ cs) [] m row a rest = absurd (let no : ⊥ = omega (arith, a) in no)
rest_but [] (p ∷ ps) m row a rest = absurd (let no : ⊥ = omega (arith, a) in no)
rest_but (c ∷ cs) (p ∷ ps) zero row a rest = ap (λ rows. row ∷ rows) (resting_driven cs ps (omega (arith, a)) (tail_drive p ps rest))
rest_but (c ∷ cs) (p ∷ ps) (suc m) row a rest =
    let one = ap (driving (is_busy_phase c.phase)) (sym (head_rests p ps m rest)) in
    let more = rest_but cs ps m row (omega (arith, a)) (tail_rest p ps m rest) in
    λ i. one i ∷ more i

-- ---- what the ports get

quiet_sampled : (p : PortState) (cyc : Bool) → driven p ≡ None → sampled p (is_sent (driving cyc (driven p))) (answer_got (driving cyc (driven p))) ≡ p
quiet_sampled p cyc e = ap (λ op. sampled p (is_sent (driving cyc op)) (answer_got (driving cyc op))) e

sampled_none : (cs : List Cycle) (ps : List PortState) → length cs ≡ length ps → NoneDrive ps → sampled_all ps (driven_rows cs ps) ≡ ps
sampled_none cs [] a none = refl
sampled_none [] (p ∷ ps) a none = absurd (let no : ⊥ = omega (arith, a) in no)
sampled_none (c ∷ cs) (p ∷ ps) a none =
    let one = quiet_sampled p (is_busy_phase c.phase) (none 0 p refl) in
    let more = sampled_none cs ps (omega (arith, a)) (λ n q e. none (suc n) q e) in
    λ i. one i ∷ more i

pub sampled_one : (cs : List Cycle) (ps : List PortState) (m : ℕ) (row : PortRow) (p : PortState) → length cs ≡ length ps → OthersRest m ps → p ≡ get_or ps m p
    → set ps m (sampled p (is_sent row) (answer_got row)) ≡ sampled_all ps (set (driven_rows cs ps) m row)
sampled_one cs [] m row p a rest is = refl
sampled_one [] (q ∷ ps) m row p a rest is = absurd (let no : ⊥ = omega (arith, a) in no)
sampled_one (c ∷ cs) (q ∷ ps) zero row p a rest is =
    let one = ap (λ p. sampled p (is_sent row) (answer_got row)) is in
    let more = sym (sampled_none cs ps (omega (arith, a)) (tail_drive q ps rest)) in
    λ i. one i ∷ more i
sampled_one (c ∷ cs) (q ∷ ps) (suc m) row p a rest is =
    let one = sym (quiet_sampled q (is_busy_phase c.phase) (head_rests q ps m rest)) in
    let more = sampled_one cs ps m row p (omega (arith, a)) (tail_rest q ps m rest) is in
    λ i. one i ∷ more i

-- ---- the crossbar's clock

module _ (x : CrossbarState) (holders : List (Option ℕ)) (cs : List Cycle) (ps : List PortState) (m : ℕ) (served : AreServed x holders ps) (others : AreOthersDone m ps) (count : length cs ≡ length ps) where
  pub others_rest : OthersRest m ps
  others_rest n p other e = done_drives x holders ps served n p e (others n p other e)

  others_ask : (n : ℕ) (row : PortRow) → n ≢ m → slice_get (driven_rows cs ps) n ≡ Some row → asked row ≡ None
  others_ask n row other e =
      let w = row_of x.width [] x.contents x.owed holders tt cs ps n row e in
      ap asked w.3 ∙ asked-driving w.0 (driven w.1) ∙ others_rest n w.1 other w.2

  pub one_operates : (row : PortRow) → slice_get (driven_rows cs ps) m ≡ Some row → ((r : Request) → asked row ≡ Some r → IsRequest r) → AreOperations (driven_rows cs ps)
  one_operates row own op n old e r a = by_case (number_cases n m)
    where
      by_case : (n ≡ m) ⊎ (n ≢ m) → IsRequest r
      by_case (inl s) =
          let same : Some row ≡ Some old = sym own ∙ ap (slice_get (driven_rows cs ps)) (sym s) ∙ e in
          let is : row ≡ old = cc in
          op r (ap asked is ∙ a)
      by_case (inr d) = absurd (let never : None ≡ Some r = sym (others_ask n old d e) ∙ a in cc)

  pub may_alone : (row : PortRow) → slice_get (driven_rows cs ps) m ≡ Some row → CanTick x (driven_rows cs ps) holders → MayTickAlone x (driven_rows cs ps) m row
  may_alone row own can = record {
    can = (holders, can);
    own = own;
    asks = others_ask;
    owed = λ n owed other e.
        let b = slice_get_within x.owed n owed e in
        let p = slice_get-get_or ps n no_port (let c = served.count in omega (arith, b, c)) in
        done_owes x holders ps served n (get_or ps n no_port) owed p e (others n (get_or ps n no_port) other p);
  }

-- what is known of a port that drives its row, where the others are done
module _ (width : Width) (parts : List Part) (contents : List Content) (owed : List (List Owed)) (holders : List (Option ℕ)) (fits : AllFitIn width parts) where
  abbrev y : CrossbarState
  y = record { width = width; children = map child_of parts; contents = contents; owed = owed }

  module _ (cycles : List CycleView) (ps : List PortState) (m : ℕ) (served : AreServed y holders ps) (others : AreOthersDone m ps) (same : length cycles ≡ length ps) (within : m < length ps)
      (r : CycleView) (r_is : r ≡ get_or cycles m r) (e : PortState) (e_is : e ≡ get_or ps m e) (cyc : Bool) (cyc_is : cyc ≡ is_busy_phase r.state.phase)
      (row : PortRow) (row_is : row ≡ driving cyc (driven e)) where
    pub long : length (states cycles) ≡ length ps
    long = length-map cycles (λ (p : CycleView). p.state) ∙ same

    pub own_row : slice_get (driven_rows (states cycles) ps) m ≡ Some row
    own_row =
        let busy_is : cyc ≡ busy (states cycles) m =
        cyc_is ∙ ap (λ (p : Cycle). is_busy_phase p.phase) (sym (get_state cycles m r (omega (arith, within, same)) r_is)) in
        let engine : e ≡ get_or ps m no_port = e_is ∙ get_or_default ps m e no_port within in
        let row_at : row ≡ driving (busy (states cycles) m) (driven (get_or ps m no_port)) = row_is ∙ (λ i. driving (busy_is i) (driven (engine i))) in
        driven-at (states cycles) ps m long within ∙ ap (λ (r : PortRow). Some r) (sym row_at)

    pub alone_here : ((q : Request) → asked row ≡ Some q → IsRequest q) → MayTickAlone y (driven_rows (states cycles) ps) m row
    alone_here operation =
        may_alone y holders (states cycles) ps m served others long row own_row
        (can_tick width parts contents owed holders fits (states cycles) ps (driven_rows (states cycles) ps) served long refl
        (one_operates y holders (states cycles) ps m served others long row own_row operation))

    -- the row as the clock leaves it
    module _ (now : PortRow) (rows_are : rows_after (wiring_of y) y.owed (driven_rows (states cycles) ps) ≡ set (map unanswered (driven_rows (states cycles) ps)) m now) where
      pub rows_now : rows_after (wiring_of y) y.owed (driven_rows (states cycles) ps) ≡ set (driven_rows (states cycles) ps) m now
      rows_now = rows_are ∙ ap (λ rows. set rows m now) (driven-unanswered (states cycles) ps)

      at_now : slice_get (rows_after (wiring_of y) y.owed (driven_rows (states cycles) ps)) m ≡ Some now
      at_now =
          let b = slice_get_within (driven_rows (states cycles) ps) m row own_row in
          let rows = driven_rows (states cycles) ps in
          ap (λ rows. slice_get rows m) rows_now
          ∙ slice_get-get_or (set rows m now) m now (let l = length-set rows m now in omega (arith, l, b))
          ∙ ap (λ (r : PortRow). Some r) (get_or-set_same rows m now now b)

      port_at : slice_get ps m ≡ Some e
      port_at = slice_get-get_or ps m e within ∙ ap (λ (p : PortState). Some p) (sym e_is)

      pub passes_now : is_sent now ≡ true → driven e ≢ None
      passes_now sent = can_pass y holders (states cycles) ps (driven_rows (states cycles) ps) served long refl m now at_now e port_at sent

      pub answers_now : is_some (answer_got now) ≡ true → length e.answers < e.passed
      answers_now got = can_answer y holders (states cycles) ps (driven_rows (states cycles) ps) served long refl m now at_now e port_at got

      pub sampled_now : (q : PortState) → q ≡ sampled e (is_sent now) (answer_got now) → set ps m q ≡ sampled_all ps (set (driven_rows (states cycles) ps) m now)
      sampled_now q is = ap (set ps m) is ∙ sampled_one (states cycles) ps m now e long (others_rest y holders (states cycles) ps m served others long) e_is

-- ---- where no port is active

quiet_rows : (w : Wiring) (owed : List (List Owed)) (cs : List Cycle) (ps : List PortState) → length cs ≡ length ps → length owed ≡ length ps → NoneDrive ps → ((n : ℕ) (os : List Owed) → slice_get owed n ≡ Some os → os ≡ [])
    → (rows_after w owed (driven_rows cs ps) ≡ driven_rows cs ps) × (passed w owed (driven_rows cs ps) ≡ []) × ((contents : List Content) → owed_after_all w contents owed (driven_rows cs ps) ≡ owed)
quiet_rows w [] cs [] a b none nothing = (refl, refl, λ contents. refl)
quiet_rows w (os ∷ owed) cs [] a b none nothing = absurd (let no : ⊥ = omega (arith, b) in no)
quiet_rows w [] cs (p ∷ ps) a b none nothing = absurd (let no : ⊥ = omega (arith, b) in no)
quiet_rows w (os ∷ owed) [] (p ∷ ps) a b none nothing = absurd (let no : ⊥ = omega (arith, a) in no)
quiet_rows w (os ∷ owed) (c ∷ cs) (p ∷ ps) a b none nothing =
    let more = quiet_rows w owed cs ps (omega (arith, a)) (omega (arith, b)) (λ n q e. none (suc n) q e) (λ n o e. nothing (suc n) o e) in
    let nil : os ≡ [] = nothing 0 os refl in
    let still : driven p ≡ None = none 0 p refl in
    let row : row_after w os (driving (is_busy_phase c.phase) (driven p)) ≡ driving (is_busy_phase c.phase) (driven p) =
    (λ i. row_after w (nil i) (driving (is_busy_phase c.phase) (still i))) ∙ ap (driving (is_busy_phase c.phase)) (sym still) in
    ((λ i. row i ∷ more.0 i), one_passes nil still more.1, λ contents. one_owes contents nil still (more.2 contents))
  where
    one_passes : os ≡ [] → driven p ≡ None → passed w owed (driven_rows cs ps) ≡ [] → passed w (os ∷ owed) (driven_rows (c ∷ cs) (p ∷ ps)) ≡ []
    one_passes nil still rest = (λ i. listed (passes w (nil i) (driving (is_busy_phase c.phase) (still i))) ++ passed w owed (driven_rows cs ps)) ∙ rest

    one_owes : (contents : List Content) → os ≡ [] → driven p ≡ None → owed_after_all w contents owed (driven_rows cs ps) ≡ owed → owed_after_all w contents (os ∷ owed) (driven_rows (c ∷ cs) (p ∷ ps)) ≡ os ∷ owed
    one_owes contents nil still rest =
        (λ i. owed_after w contents (nil i) (passes w (nil i) (driving (is_busy_phase c.phase) (still i))) ∷ rest i) ∙ ap (λ o. o ∷ owed) (sym nil)

module _ (x : CrossbarState) (holders : List (Option ℕ)) (cs : List Cycle) (ps : List PortState) (served : AreServed x holders ps) (all : AreAllDone ps) (count : length cs ≡ length ps) where
  none_drive : NoneDrive ps
  none_drive n p e = done_drives x holders ps served n p e (all n p e)

  nothing_owed : (n : ℕ) (os : List Owed) → slice_get x.owed n ≡ Some os → os ≡ []
  nothing_owed n os e =
      let b = slice_get_within x.owed n os e in
      let p = slice_get-get_or ps n no_port (let c = served.count in omega (arith, b, c)) in
      done_owes x holders ps served n (get_or ps n no_port) os p e (all n (get_or ps n no_port) p)

  pub quiet_crossbar : x ≡ after_tick x (driven_rows cs ps)
  quiet_crossbar =
      let q = quiet_rows (wiring_of x) x.owed cs ps count (sym served.count) none_drive nothing_owed in
      λ i. record { width = x.width; children = x.children; contents = contents_after (wiring_of x) x.contents (sym q.1 i); owed = sym (q.2 x.contents) i }

  pub quiet_engines : ps ≡ sampled_all ps (rows_after (wiring_of x) x.owed (driven_rows cs ps))
  quiet_engines =
      let q = quiet_rows (wiring_of x) x.owed cs ps count (sym served.count) none_drive nothing_owed in
      sym (ap (sampled_all ps) q.0 ∙ sampled_none cs ps count none_drive)

-- ---- the rows of ports that drive nothing, one by one

pub rests_more : (rows : List PortRow) (cycles : List CycleView) (i : ℕ) (row : PortRow) (r : CycleView) → i < length rows → i < length cycles → r ≡ get_or cycles i r
    → row ≡ driving (is_busy_phase r.state.phase) None → take i rows ≡ resting_rows (states (take i cycles)) → take (i + 1) (set rows i row) ≡ resting_rows (states (take (i + 1) cycles))
rests_more rows cycles i row r in_rows in_cycles is same so_far =
    take_more_set rows i row in_rows
    ∙ ap (λ xs. xs ++ row ∷ []) so_far
    ∙ ap (λ x. resting_rows (states (take i cycles)) ++ x ∷ []) same
    ∙ sym (map-append (λ (p : Cycle). driving (is_busy_phase p.phase) None) (states (take i cycles)) (r.state ∷ []))
    ∙ ap resting_rows (sym (map-append (λ (p : CycleView). p.state) (take i cycles) (r ∷ [])))
    ∙ ap (λ ps. resting_rows (states ps)) (sym (take_more cycles i r in_cycles ∙ ap (λ x. take i cycles ++ x ∷ []) (sym is)))

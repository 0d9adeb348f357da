-- What a clock keeps.
use Rattle.std.proofs.Common.{◌≡◌, ◌≢◌, ℕ, zero, suc, ◌+◌, ◌<◌, ◌≤◌, ◌&&◌, not, nat_lt, List, [], ◌∷◌, ◌++◌, length, map, take, drop, get_or, slice_get, Bool, true, false, refl, ap, sym, ◌∙◌, arith, Option, Some, None, subst, cond}
use Rattle.std.specs.Prelude.{All}
use Rattle.std.specs.Option.{is_some}
use Rattle.std.proofs.lemmas.List.{append-nil, drop_all, take_all, length-map, get_or-map, get_or-drop, get_or-take, length-drop, length-take-le}
use Rattle.std.proofs.lemmas.Option.{slice_get-get_or, get_or_from_slice_get, slice_get_within}
use Rattle.eb_base.specs.declared.width.Width.{Width}
use Rattle.wb_signals.specs.Request.{Request}
use Rattle.wb_signals.specs.Content.{Content}
use Rattle.wb_signals.specs.Wiring.{Wiring}
use Rattle.wb_signals.specs.Bus.{bus}
use Rattle.wb_signals.specs.Cycles.{FitsBus}
use Rattle.wb_signals.specs.Slave.{Owed, given, owed_after, queue_to}
use Rattle.wb_signals.specs.Parts.{Part, child_of, child_at, child_with, AllFitIn}
use Rattle.wb_signals.specs.Rows.{asked, is_waiting, unless, passes, with_answer, row_after}
use Rattle.wb_signals.specs.declared.answer.Answer.{Answer}
use Rattle.wb_signals.specs.declared.answer.Answer.TheVariants.{Ack, Err, Rty}
use Rattle.wb_signals.specs.declared.port_row.PortRow.{PortRow}
use Rattle.wb_signals.proofs.BusLemmas.{aimed, child_with-queue}
use Rattle.wb_signals.proofs.TurnLemmas.{fits-takes}
use Rattle.wb_port.specs.Port.{PortState, unanswered, driven, sampled}
use Rattle.soc_core.specs.Core.{CorePort as Cycle}
use Rattle.soc_core.specs.Sound.{is_busy_phase}
use Rattle.wb_crossbar.specs.Crossbar.{CrossbarState, wiring_of, IsHeldBy, CanTick, rows_after, owed_after_all}
use Rattle.soc_bus.specs.Clocked.{driving, driven_rows, is_sent, answer_got, sampled_all, waiting, place_of, IsServed, AreServed, AreOperations}

-- ---- rows

pub asked-driving : (cyc : Bool) (op : Option Request) → asked (driving cyc op) ≡ op
asked-driving cyc None = refl
asked-driving cyc (Some r) = refl

pub answer_got-row : (answer : Option Answer) (row : PortRow) → answer_got (with_answer answer row) ≡ answer
answer_got-row None row = refl
answer_got-row (Some (Ack word)) row = refl
answer_got-row (Some Err) row = refl
answer_got-row (Some Rty) row = refl

stb-row : (answer : Option Answer) (row : PortRow) → (with_answer answer row).stb ≡ row.stb
stb-row None row = refl
stb-row (Some (Ack word)) row = refl
stb-row (Some Err) row = refl
stb-row (Some Rty) row = refl

stall-row : (answer : Option Answer) (row : PortRow) → (with_answer answer row).stall ≡ row.stall
stall-row None row = refl
stall-row (Some (Ack word)) row = refl
stall-row (Some Err) row = refl
stall-row (Some Rty) row = refl

passed_by : (cyc : Bool) (op : Option Request) (b : Bool) → (asked (driving cyc op) ≡ op) → ((driving cyc op).stb && not b) ≡ is_some (unless b op)
passed_by cyc None true e = refl
passed_by cyc None false e = refl
passed_by cyc (Some r) true e = refl
passed_by cyc (Some r) false e = refl

waits_none : (wiring : Wiring) (owed : List Owed) (cyc : Bool) (op : Option Request) → is_sent (row_after wiring owed (driving cyc op)) ≡ is_some (unless (is_waiting wiring owed op) op)
waits_none wiring owed cyc op =
    let row : PortRow = record (driving cyc op) { stall = is_waiting wiring owed (asked (driving cyc op)) } in
    rw (stb-row (given owed) row, stall-row (given owed) row, asked-driving cyc op) (passed_by cyc op (is_waiting wiring owed op) (asked-driving cyc op))

pub is_sent-row : (wiring : Wiring) (owed : List Owed) (cyc : Bool) (op : Option Request) → is_sent (row_after wiring owed (driving cyc op)) ≡ is_some (passes wiring owed (driving cyc op))
is_sent-row wiring owed cyc op = waits_none wiring owed cyc op ∙ rw (asked-driving cyc op) refl

-- ---- what a port drives

driven_by : (b : Bool) (p : PortState) (r : Request) → cond b (slice_get p.loaded p.passed) None ≡ Some r → nat_lt (unanswered p) p.depth ≡ b → (slice_get p.loaded p.passed ≡ Some r) × (unanswered p < p.depth)
driven_by true p r e f = (e, grind (arith, f))
driven_by false p r e f = absurd (cc)

pub driven_at : (p : PortState) (r : Request) → driven p ≡ Some r → (slice_get p.loaded p.passed ≡ Some r) × (unanswered p < p.depth)
driven_at p r e = driven_by (nat_lt (unanswered p) p.depth) p r e refl

pub of_loaded : (P : Request → Type 0) (p : PortState) (r : Request) → All P p.loaded → slice_get p.loaded p.passed ≡ Some r → P r
of_loaded P p r all e = subst P (get_or_from_slice_get p.loaded p.passed r r e) (all p.passed r (slice_get_within p.loaded p.passed r e))

-- a request that waits is a loaded one
pub of_waiting : (P : Request → Type 0) (p : PortState) → p.passed ≤ length p.loaded → length p.answers ≤ p.passed → All P p.loaded → All P (waiting p)
of_waiting P p within answered_ all k d h =
    let n : length (take p.passed p.loaded) ≡ p.passed = length-take-le p.passed p.loaded within in
    let below : length p.answers + k < p.passed = omega (arith, h, length-drop (length p.answers) (take p.passed p.loaded), n, answered_) in
    let e = get_or-drop (length p.answers) (take p.passed p.loaded) k d ∙ get_or-take p.passed p.loaded (length p.answers + k) d below in
    subst P (sym e) (all (length p.answers + k) d (omega (arith, below, within)))

pub count-waiting : (p : PortState) → p.passed ≤ length p.loaded → length p.answers ≤ p.passed → length (waiting p) ≡ unanswered p
count-waiting p within answered_ = omega (arith, length-drop (length p.answers) (take p.passed p.loaded), length-take-le p.passed p.loaded within)

-- ---- the condition of the crossbar's tick

module _ (width : Width) (parts : List Part) (contents : List Content) (owed : List (List Owed)) (holders : List (Option ℕ)) (fits : AllFitIn width parts) where
  abbrev x : CrossbarState
  x = record { width = width; children = map child_of parts; contents = contents; owed = owed }

  pub queue_held : (m : ℕ) (r : Request) → FitsBus width r → IsHeldBy (map child_of parts) holders m (child_at (map child_of parts) r.adr)
      → IsHeldBy (map child_of parts) holders m (child_with (map child_of parts) (queue_to (wiring_of x) r))
  unfolding bus
  queue_held m r f h =
      subst (IsHeldBy (map child_of parts) holders m) (sym (child_with-queue width r (aimed parts r.adr) fits (fits-takes width (map child_of parts) r f))) h

  pub owes_held : (m : ℕ) (p : PortState) (own : List Owed) → IsServed x holders m p own → All (λ o. IsHeldBy (map child_of parts) holders m (child_with (map child_of parts) o.place)) own
  owes_held m p own s k d h =
      let n : length own ≡ length (waiting p) = sym (length-map own place_of) ∙ ap (λ (l : List ℕ). length l) s.places ∙ length-map (waiting p) (queue_to (wiring_of x)) in
      let r : Request = get_or (waiting p) k (record { write = false; adr = 0; dat = 0; sel = 0 }) in
      let w : k < length (waiting p) = omega (arith, h, n) in
      let same : (get_or own k d).place ≡ queue_to (wiring_of x) r =
      sym (get_or-map place_of own k d d.place h) ∙ ap (λ (l : List ℕ). get_or l k d.place) s.places ∙ get_or-map (queue_to (wiring_of x)) (waiting p) k _ d.place w in
      subst (λ place. IsHeldBy (map child_of parts) holders m (child_with (map child_of parts) place)) (sym same)
      (queue_held m r (of_waiting (FitsBus width) p s.passed s.answered s.fits k _ w) (of_waiting (λ r. IsHeldBy (map child_of parts) holders m (child_at (map child_of parts) r.adr)) p s.passed s.answered s.held k _ w))

  -- the rows that ports drive
  pub row_of : (cycs : List Cycle) (ports : List PortState) (m : ℕ) (row : PortRow) → slice_get (driven_rows cycs ports) m ≡ Some row
      → (cyc : Bool) × (p : PortState) × (slice_get ports m ≡ Some p) × (row ≡ driving cyc (driven p))
  row_of cycs [] m row e = absurd (cc)
  row_of [] (p ∷ ports) m row e = absurd (cc)
  row_of (c ∷ cycs) (p ∷ ports) zero row e = (is_busy_phase c.phase, p, refl, cc)
  row_of (c ∷ cycs) (p ∷ ports) (suc m) row e = row_of cycs ports m row e

  length-driven : (cycs : List Cycle) (ports : List PortState) → length cycs ≡ length ports → length (driven_rows cycs ports) ≡ length ports
  length-driven cycs [] h = refl
  length-driven [] (p ∷ ports) h = absurd (omega (arith, h))
  length-driven (c ∷ cycs) (p ∷ ports) h = ap (λ (n : ℕ). suc n) (length-driven cycs ports (omega (arith, h)))

  pub can_tick : (cycs : List Cycle) (ports : List PortState) (rows : List PortRow) → AreServed x holders ports → length cycs ≡ length ports → rows ≡ driven_rows cycs ports → AreOperations rows → CanTick x rows holders
  can_tick cycs ports rows s c e o = record {
    ports = ap (λ (l : List PortRow). length l) e ∙ length-driven cycs ports c ∙ s.count;
    slaves = s.slaves;
    asks = λ m row g r a.
        let w = row_of cycs ports m row (subst (λ rows. slice_get rows m ≡ Some row) e g) in
        let d : driven w.1 ≡ Some r = sym (asked-driving w.0 (driven w.1)) ∙ ap asked (sym w.3) ∙ a in
        let b = slice_get_within ports m w.1 w.2 in
        let own : slice_get owed m ≡ Some (get_or owed m []) = slice_get-get_or owed m [] (omega (arith, b, s.count)) in
        let v = s.each m w.1 (get_or owed m []) w.2 own in
        record {
          operation = o m row g r a;
          fits = of_loaded (FitsBus width) w.1 r v.fits (driven_at w.1 r d).0;
          held = of_loaded (λ r. IsHeldBy (map child_of parts) holders m (child_at (map child_of parts) r.adr)) w.1 r v.held (driven_at w.1 r d).0;
        };
    owes = λ m own g.
        let b = slice_get_within owed m own g in
        let p = slice_get-get_or ports m (record { depth = 0; loaded = []; passed = 0; answers = [] }) (omega (arith, b, s.count)) in
        owes_held m _ own (s.each m _ own p g);
  }

-- ---- all ports

pub given-some : (owed : List Owed) → is_some (given owed) ≡ true → 0 < length owed
given-some [] e = absurd (cc)
given-some (o ∷ os) e = omega arith

row_after_at : (wiring : Wiring) (owed : List (List Owed)) (rows : List PortRow) (m : ℕ) (row : PortRow) → slice_get (rows_after wiring owed rows) m ≡ Some row
    → (own : List Owed) × (old : PortRow) × (slice_get owed m ≡ Some own) × (slice_get rows m ≡ Some old) × (row ≡ row_after wiring own old)
row_after_at wiring [] rows m row e = absurd (cc)
row_after_at wiring (o ∷ os) [] m row e = absurd (cc)
row_after_at wiring (o ∷ os) (r ∷ rows) zero row e = (o, r, refl, refl, cc)
row_after_at wiring (o ∷ os) (r ∷ rows) (suc m) row e = row_after_at wiring os rows m row e

pub owed_after_at : (wiring : Wiring) (contents : List Content) (owed : List (List Owed)) (rows : List PortRow) (m : ℕ) (now : List Owed) → slice_get (owed_after_all wiring contents owed rows) m ≡ Some now
    → (own : List Owed) × (old : PortRow) × (slice_get owed m ≡ Some own) × (slice_get rows m ≡ Some old) × (now ≡ owed_after wiring contents own (passes wiring own old))
owed_after_at wiring contents [] rows m now e = absurd (cc)
owed_after_at wiring contents (o ∷ os) [] m now e = absurd (cc)
owed_after_at wiring contents (o ∷ os) (r ∷ rows) zero now e = (o, r, refl, refl, cc)
owed_after_at wiring contents (o ∷ os) (r ∷ rows) (suc m) now e = owed_after_at wiring contents os rows m now e

pub sampled_at : (ports : List PortState) (rows : List PortRow) (m : ℕ) (now : PortState) → slice_get (sampled_all ports rows) m ≡ Some now
    → (p : PortState) × (row : PortRow) × (slice_get ports m ≡ Some p) × (slice_get rows m ≡ Some row) × (now ≡ sampled p (is_sent row) (answer_got row))
sampled_at [] rows m now e = absurd (cc)
sampled_at (p ∷ ports) [] m now e = absurd (cc)
sampled_at (p ∷ ports) (r ∷ rows) zero now e = (p, r, refl, refl, cc)
sampled_at (p ∷ ports) (r ∷ rows) (suc m) now e = sampled_at ports rows m now e

pub same_some : {A : Type 0} (xs : List A) (m : ℕ) (a b : A) → slice_get xs m ≡ Some a → slice_get xs m ≡ Some b → a ≡ b
same_some xs m a b e f = let g : Some a ≡ Some b = sym e ∙ f in cc

pub length-sampled : (ports : List PortState) (rows : List PortRow) → length rows ≡ length ports → length (sampled_all ports rows) ≡ length ports
length-sampled [] rows h = refl
length-sampled (p ∷ ports) [] h = absurd (omega (arith, h))
length-sampled (p ∷ ports) (r ∷ rows) h = ap (λ (n : ℕ). suc n) (length-sampled ports rows (omega (arith, h)))

pub length-owed : (wiring : Wiring) (contents : List Content) (owed : List (List Owed)) (rows : List PortRow) → length rows ≡ length owed → length (owed_after_all wiring contents owed rows) ≡ length owed
length-owed wiring contents [] rows h = refl
length-owed wiring contents (o ∷ os) [] h = absurd (omega (arith, h))
length-owed wiring contents (o ∷ os) (r ∷ rows) h = ap (λ (n : ℕ). suc n) (length-owed wiring contents os rows (omega (arith, h)))

pub length-rows : (wiring : Wiring) (owed : List (List Owed)) (rows : List PortRow) → length rows ≡ length owed → length (rows_after wiring owed rows) ≡ length owed
length-rows wiring [] rows h = refl
length-rows wiring (o ∷ os) [] h = absurd (omega (arith, h))
length-rows wiring (o ∷ os) (r ∷ rows) h = ap (λ (n : ℕ). suc n) (length-rows wiring os rows (omega (arith, h)))

pub driven_of : (wiring : Wiring) (own : List Owed) (cyc : Bool) (op : Option Request) (r : Request) → passes wiring own (driving cyc op) ≡ Some r → op ≡ Some r
driven_of wiring own cyc None r e = absurd (unless_none (is_waiting wiring own None) r e)
  where
    unless_none : (b : Bool) (r : Request) → unless b None ≡ Some r → ⊥
    unless_none true r e = cc
    unless_none false r e = cc
driven_of wiring own cyc (Some q) r e = unless_some (is_waiting wiring own (Some q)) r e
  where
    unless_some : (b : Bool) (r : Request) → unless b (Some q) ≡ Some r → Some q ≡ Some r
    unless_some true r e = absurd (cc)
    unless_some false r e = e

module _ (x : CrossbarState) (holders : List (Option ℕ)) (cycs : List Cycle) (ports : List PortState) (rows : List PortRow) (s : AreServed x holders ports) (c : length cycs ≡ length ports) (e : rows ≡ driven_rows cycs ports) where
  pub count_rows : length rows ≡ length x.owed
  count_rows = ap (λ (l : List PortRow). length l) e ∙ length-driven x.width [] x.contents x.owed holders tt cycs ports c ∙ s.count

  -- a row after the tick is that of a port
  module _ (m : ℕ) (row : PortRow) (g : slice_get (rows_after (wiring_of x) x.owed rows) m ≡ Some row) where
    pub at_row : (own : List Owed) × (old : PortRow) × (slice_get x.owed m ≡ Some own) × (slice_get rows m ≡ Some old) × (row ≡ row_after (wiring_of x) own old)
    at_row = row_after_at (wiring_of x) x.owed rows m row g

    pub at_port : (cyc : Bool) × (p : PortState) × (slice_get ports m ≡ Some p) × (at_row.1 ≡ driving cyc (driven p))
    at_port = row_of x.width [] x.contents x.owed holders tt cycs ports m at_row.1 (subst (λ rows. slice_get rows m ≡ Some at_row.1) e at_row.3)

    row_is : row ≡ row_after (wiring_of x) at_row.0 (driving at_port.0 (driven at_port.1))
    row_is = at_row.4 ∙ ap (row_after (wiring_of x) at_row.0) at_port.3

    pub passed_is : is_sent row ≡ is_some (passes (wiring_of x) at_row.0 (driving at_port.0 (driven at_port.1)))
    passed_is = ap is_sent row_is ∙ is_sent-row (wiring_of x) at_row.0 at_port.0 (driven at_port.1)

    pub answer_is : answer_got row ≡ given at_row.0
    answer_is = ap answer_got row_is ∙ answer_got-row (given at_row.0) _

    pub can_pass : (p : PortState) → slice_get ports m ≡ Some p → is_sent row ≡ true → driven p ≢ None
    can_pass p f t n =
        let same : p ≡ at_port.1 = same_some ports m p at_port.1 f at_port.2 in
        let none : driven at_port.1 ≡ None = ap driven (sym same) ∙ n in
        let off : is_sent row ≡ false = passed_is ∙ ap (λ op. is_some (passes (wiring_of x) at_row.0 (driving at_port.0 op))) none in
        cc

    pub can_answer : (p : PortState) → slice_get ports m ≡ Some p → is_some (answer_got row) ≡ true → length p.answers < p.passed
    can_answer p f t =
        let v = s.each m p at_row.0 f at_row.2 in
        let some = given-some at_row.0 (ap is_some (sym answer_is) ∙ t) in
        let n : length at_row.0 ≡ unanswered p = sym (length-map at_row.0 place_of) ∙ ap (λ (l : List ℕ). length l) v.places ∙ length-map (waiting p) (queue_to (wiring_of x)) ∙ count-waiting p v.passed v.answered in
        omega (arith, some, n)

-- a slice of a `Vec` that was written whole
pub written_back : {A : Type 0} (n : ℕ) (old new : List A) → length old ≡ n → length new ≡ n → take n (new ++ drop (length new) old) ≡ new
written_back n old new a b =
    let none : drop (length new) old ≡ [] = drop_all (length new) old (omega (arith, a, b)) in
    ap (λ more. take n (new ++ more)) none ∙ ap (take n) (append-nil new) ∙ take_all n new (omega (arith, b))

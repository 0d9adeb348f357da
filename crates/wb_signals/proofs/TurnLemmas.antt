-- A clock of a bus at which one child, or its miss, owes answers.
use Rattle.std.proofs.Common.{◌≡◌, ◌≢◌, ◌⊎◌, inl, inr, ℕ, zero, suc, ◌%◌, ◌^◌, ◌<◌, ◌≤◌, List, [], ◌∷◌, length, set, map, Bool, true, false, cond, not, refl, ap, sym, ◌∙◌, arith, Option, Some, None, ◌==◌, ◌&&◌, nat_lt, subst}
use Rattle.std.proofs.lemmas.List.{get_or-set_same, get_or-set_other, length-set}
use Rattle.eb_base.specs.declared.width.Width.{Width}
use Rattle.eb_base.specs.Width.{octets}
use Rattle.wb_signals.specs.Request.{Request}
use Rattle.wb_signals.specs.Bus.{Child, covers, inside, bus}
use Rattle.wb_signals.specs.History.{contents_after}
use Rattle.wb_signals.specs.Cycles.{FitsBus}
use Rattle.wb_signals.specs.Slave.{Owed, given, left, listed, ticked, owed_after, is_stalled, owes}
use Rattle.wb_signals.specs.Parts.{Part, child_of, child_at, contents_in, farther_owed, places_before, miss_owed, no_part, part_at, inside_given, part_ticked, AllFitIn}
use Rattle.wb_signals.proofs.BusLemmas.{At, Aimed, nth, at-Nth, past-length, aimed, aimed-within, covers-At, fit-Nth, given-farther, owes-farther, owed-None, owed-Some, contents-None, contents-Some, missed-Some, missed-contents, stalled-At, stalled-elsewhere, stalled-missed, stalled-miss, stalled-none, shaped-ticked, AllFitIn-set, children-set, places_before-children, nat_lt-true, nat_lt-false}
use Rattle.wb_signals.specs.declared.debtor.Debtor.{Debtor}
use Rattle.wb_signals.specs.declared.debtor.Debtor.TheVariants.{Nobody, Miss, Top}
use Rattle.wb_signals.specs.Turn.{owed_by, bus_slave, aim_of, index_of, goes, CanPass, IsFocus, is_nobody, missed_answer, parts_after, top_if, miss_if, debtor_after, Owes, OwesAlone}

-- ---- numbers

same_number : (b : Bool) (m n : ℕ) → (m == n) ≡ b → (m ≡ n) ⊎ (m ≢ n)
same_number true m n e = inl (grind (arith, e))
same_number false m n e = inr (λ h. grind (arith, e, h))

pub number_cases : (m n : ℕ) → (m ≡ n) ⊎ (m ≢ n)
number_cases m n = same_number (m == n) m n refl

below_by : (b : Bool) (m n : ℕ) → nat_lt m n ≡ b → (m < n) ⊎ (n ≤ m)
below_by true m n e = inl (grind (arith, e))
below_by false m n e = inr (grind (arith, e))

pub below_cases : (m n : ℕ) → (m < n) ⊎ (n ≤ m)
below_cases m n = below_by (nat_lt m n) m n refl

-- an operation that fits the bus is taken by it
pub fits-takes : (width : Width) (children : List Child) (r : Request) → FitsBus width r → (bus width children).accepts r ≡ true
unfolding bus
fits-takes width children r h =
    let a : (r.adr % octets width == 0) ≡ true = grind (arith, h.0) in
    let b : nat_lt r.sel (2 ^ octets width) ≡ true = nat_lt-true r.sel (2 ^ octets width) h.1 in
    rw (a, b) refl

pub both : (a b : Bool) → (a && b) ≡ true → (a ≡ true) × (b ≡ true)
both true b e = (refl, e)
both false b e = absurd (cc)

pub below : (m n : ℕ) → nat_lt m n ≡ true → m < n
below m n e = grind (arith, e)

pub equal : (m n : ℕ) → (m == n) ≡ true → m ≡ n
equal m n e = grind (arith, e)

pub takes-fits : (width : Width) (children : List Child) (r : Request) → (bus width children).accepts r ≡ true → FitsBus width r
unfolding bus
takes-fits width children r h =
    let p = both (r.adr % octets width == 0) (nat_lt r.sel (2 ^ octets width)) h in
    (equal (r.adr % octets width) 0 p.0, below r.sel (2 ^ octets width) p.1)

-- ---- which requests are stalled

module _ (width : Width) (parts : List Part) (f : AllFitIn width parts) where
  pub stalls-nobody : (r : Request) → false ≡ is_stalled (bus width (map child_of parts)) (owed_by parts Nobody) r
  stalls-nobody r = sym (stalled-none (bus width (map child_of parts)) r)

  stalls-miss_by : (r : Request) (to : ℕ) → Aimed parts r.adr to → (bus width (map child_of parts)).accepts r ≡ true → (to < length parts) ⊎ (length parts ≤ to)
      → nat_lt to (length parts) ≡ is_stalled (bus width (map child_of parts)) (owed_by parts Miss) r
  stalls-miss_by r to a t (inl l) = nat_lt-true to (length parts) l ∙ sym (stalled-missed width r a f t l)
  stalls-miss_by r to a t (inr l) = nat_lt-false to (length parts) l ∙ sym (stalled-miss width r (past-length a (omega (arith, aimed-within a))))

  pub stalls-miss : (r : Request) (to : ℕ) → to ≡ child_at (map child_of parts) r.adr → FitsBus width r
      → nat_lt to (length parts) ≡ is_stalled (bus width (map child_of parts)) (owed_by parts Miss) r
  stalls-miss r to e h =
      stalls-miss_by r to (subst (Aimed parts r.adr) (sym e) (aimed parts r.adr)) (fits-takes width (map child_of parts) r h) (below_cases to (length parts))

  -- the child that an operation goes to
  pub at-Top : (r : Request) (k : ℕ) → k ≡ child_at (map child_of parts) r.adr → k < length parts → At parts r.adr k (part_at parts k)
  at-Top r k e l = at-Nth (subst (Aimed parts r.adr) (sym e) (aimed parts r.adr)) (nth parts k l)

  pub covered : (r : Request) (k : ℕ) → k ≡ child_at (map child_of parts) r.adr → k < length parts → covers (child_of (part_at parts k)) r.adr ≡ true
  covered r k e l = covers-At (at-Top r k e l)

  pub taken : (r : Request) (k : ℕ) → k ≡ child_at (map child_of parts) r.adr → k < length parts → FitsBus width r
      → (part_at parts k).slave.wiring.accepts (inside (child_of (part_at parts k)) r) ≡ true
  unfolding bus
  taken r k e l h = (fit-Nth width (nth parts k l) f).takes r (covered r k e l) (fits-takes width (map child_of parts) r h)

  pub stalls-here : (r : Request) (k : ℕ) → k ≡ child_at (map child_of parts) r.adr → k < length parts → FitsBus width r
      → is_stalled (part_at parts k).slave.wiring (part_at parts k).slave.owed (inside (child_of (part_at parts k)) r)
      ≡ is_stalled (bus width (map child_of parts)) (owed_by parts (Top k)) r
  stalls-here r k e l h = sym (stalled-At width r (at-Top r k e l) f (fits-takes width (map child_of parts) r h))

  pub stalls-elsewhere : (r : Request) (to k : ℕ) → to ≡ child_at (map child_of parts) r.adr → FitsBus width r → to ≢ k → k < length parts → owes (part_at parts k).slave.owed ≡ true
      → true ≡ is_stalled (bus width (map child_of parts)) (owed_by parts (Top k)) r
  stalls-elsewhere r to k e h other l o =
      let n = nth parts k l in
      let a = subst (Aimed parts r.adr) (sym e) (aimed parts r.adr) in
      sym (stalled-elsewhere width r a f (fits-takes width (map child_of parts) r h) n other (part_at parts k).slave.owed (fit-Nth width n f).shaped.owing o)

  -- ---- the child that ticks

  -- an operation that isn't stalled goes to the child that owes the port answers
  pub focus-Some : (debtor : Debtor) (r : Request) → FitsBus width r
      → ((k : ℕ) → debtor ≡ Top k → (k < length parts) × (owes (part_at parts k).slave.owed ≡ true))
      → (debtor ≡ Nobody → child_at (map child_of parts) r.adr < length parts → (part_at parts (child_at (map child_of parts) r.adr)).slave.owed ≡ [])
      → is_stalled (bus width (map child_of parts)) (owed_by parts debtor) r ≡ false → IsFocus parts debtor (child_at (map child_of parts) r.adr)
  focus-Some Nobody r h owing free u = λ l. free refl l
  focus-Some Miss r h owing free u =
      let to = child_at (map child_of parts) r.adr in
      let e : nat_lt to (length parts) ≡ false = stalls-miss r to refl h ∙ u in
      elim (below_cases to (length parts)) [
        | inl l ↦ absurd (let w : nat_lt to (length parts) ≡ true = nat_lt-true to (length parts) l in cc)
        | inr l ↦ omega (arith, l, aimed-within (aimed parts r.adr))
      ]
  focus-Some (Top k) r h owing free u =
      let to = child_at (map child_of parts) r.adr in
      elim (number_cases to k) [
        | inl e ↦ e
        | inr n ↦ absurd (let o = owing k refl in let w = stalls-elsewhere r to k refl h n o.0 o.1 in cc)
      ]

  pub focus-None : (debtor : Debtor) → IsFocus parts debtor (index_of (length parts) debtor)
  focus-None Nobody = λ l. absurd (omega arith)
  focus-None Miss = refl
  focus-None (Top k) = refl

  -- an operation that isn't stalled can pass at the child that it goes to
  pub pass-Some : (debtor : Debtor) (r : Request) → FitsBus width r → (k : ℕ) → k ≡ child_at (map child_of parts) r.adr → k < length parts → IsFocus parts debtor k
      → is_stalled (bus width (map child_of parts)) (owed_by parts debtor) r ≡ false → CanPass (part_at parts k) (Some r)
  pass-Some Nobody r h k e l free u =
      (covered r k e l, taken r k e l h, rw (free l) (stalled-none (part_at parts k).slave.wiring (inside (child_of (part_at parts k)) r)))
  pass-Some Miss r h k e l focus u = absurd (omega arith)
  pass-Some (Top j) r h k e l focus u =
      let v = subst (λ j. is_stalled (bus width (map child_of parts)) (owed_by parts (Top j)) r ≡ false) (sym focus) u in
      (covered r k e l, taken r k e l h, stalls-here r k e l h ∙ v)

-- ---- the answer

pub given-Top : (parts : List Part) (debtor : Debtor) (k : ℕ) → IsFocus parts debtor k → k < length parts → given (part_at parts k).slave.owed ≡ given (owed_by parts debtor)
given-Top parts Nobody k focus l = ap given (focus l)
given-Top parts Miss k focus l = absurd (omega arith)
given-Top parts (Top j) k focus l = rw focus (sym (given-farther (places_before j parts) (part_at parts j).slave.owed))

pub given-missed : (parts : List Part) (debtor : Debtor) (k : ℕ) → IsFocus parts debtor k → length parts ≤ k → ((j : ℕ) → debtor ≡ Top j → j < length parts)
    → missed_answer debtor ≡ given (owed_by parts debtor)
given-missed parts Nobody k focus l below = refl
given-missed parts Miss k focus l below = refl
given-missed parts (Top j) k focus l below = absurd (let b = below j refl in omega arith)

-- ---- after the clock

pub set-past : {A : Type 0} (xs : List A) (k : ℕ) (v : A) → length xs ≤ k → set xs k v ≡ xs
set-past [] k v h = refl
set-past (x ∷ xs) zero v h = absurd (omega arith)
set-past (x ∷ xs) (suc k) v h = ap (λ ys. x ∷ ys) (set-past xs k v (omega arith))

not_owing : (owed : List Owed) → owes owed ≡ false → owed ≡ []
not_owing [] e = refl
not_owing (o ∷ os) e = absurd (cc)

module _ (width : Width) (parts : List Part) (debtor : Debtor) (k : ℕ) (op : Option Request) (f : AllFitIn width parts) (focus : IsFocus parts debtor k) (owing : Owes parts debtor)
    (aims : (r : Request) → op ≡ Some r → (k ≡ child_at (map child_of parts) r.adr) × FitsBus width r) where
  abbrev now : List Part
  now = parts_after parts k op

  at_op : (r : Request) → op ≡ Some r → Aimed parts r.adr k
  at_op r e = subst (Aimed parts r.adr) (sym (aims r e).0) (aimed parts r.adr)

  children_by : (k < length parts) ⊎ (length parts ≤ k) → map child_of now ≡ map child_of parts
  children_by (inl h) = children-set (nth parts k h) (part_ticked (part_at parts k) op) refl
  children_by (inr h) = ap (map child_of) (set-past parts k (part_ticked (part_at parts k) op) h)

  pub children_now : map child_of now ≡ map child_of parts
  children_now = children_by (below_cases k (length parts))

  pub count_now : length now ≡ length parts
  count_now = length-set parts k (part_ticked (part_at parts k) op)

  pub place_now : (j : ℕ) → places_before j now ≡ places_before j parts
  place_now j = places_before-children j now parts children_now

  taken_op : (o : Option Request) → op ≡ o → k < length parts → (r : Request) → inside_given (part_at parts k) o ≡ Some r → (part_at parts k).slave.wiring.accepts r ≡ true
  taken_op None e h r g = absurd (cc)
  taken_op (Some q) e h r g =
      let a = aims q e in
      let same : inside (child_of (part_at parts k)) q ≡ r = cc in
      subst (λ r. (part_at parts k).slave.wiring.accepts r ≡ true) same (taken width parts f q k a.0 h a.1)

  fits_by : (k < length parts) ⊎ (length parts ≤ k) → AllFitIn width now
  fits_by (inl h) =
      let n = nth parts k h in
      let g = fit-Nth width n f in
      AllFitIn-set width n (part_ticked (part_at parts k) op)
      (record { shaped = shaped-ticked (part_at parts k).slave (inside_given (part_at parts k) op) g.shaped (taken_op op refl h); takes = g.takes }) f
  fits_by (inr h) = subst (AllFitIn width) (sym (set-past parts k (part_ticked (part_at parts k) op) h)) f

  pub fits_now : AllFitIn width now
  fits_now = fits_by (below_cases k (length parts))

  pub other_part : (j : ℕ) → j ≢ k → part_at now j ≡ part_at parts j
  other_part j n = get_or-set_other parts k j (part_ticked (part_at parts k) op) no_part n

  pub own_part : k < length parts → part_at now k ≡ part_ticked (part_at parts k) op
  own_part h = get_or-set_same parts k (part_ticked (part_at parts k) op) no_part h

  -- what is owed then, where a child ticked
  owed_top_by : (b : Bool) → owes (part_at now k).slave.owed ≡ b → owed_by now (top_if b k) ≡ map (farther_owed (places_before k now)) (part_at now k).slave.owed
  owed_top_by true e = refl
  owed_top_by false e = rw (not_owing (part_at now k).slave.owed e) refl

  ticked_by : (o : Option Request) → op ≡ o → k < length parts
      → map (farther_owed (places_before k parts)) (part_ticked (part_at parts k) o).slave.owed
      ≡ owed_after (bus width (map child_of parts)) (contents_in parts) (map (farther_owed (places_before k parts)) (part_at parts k).slave.owed) o
  ticked_by None e h = owed-None width (nth parts k h)
  ticked_by (Some r) e h = owed-Some width r (at-Nth (at_op r e) (nth parts k h)) f (fits-takes width (map child_of parts) r (aims r e).1)

  focus_owed : (d : Debtor) → IsFocus parts d k → k < length parts → map (farther_owed (places_before k parts)) (part_at parts k).slave.owed ≡ owed_by parts d
  focus_owed Nobody g h = ap (map (farther_owed (places_before k parts))) (g h)
  focus_owed Miss g h = absurd (omega arith)
  focus_owed (Top j) g h = ap (λ (j : ℕ). map (farther_owed (places_before j parts)) (part_at parts j).slave.owed) g

  own_top : k < length parts → owed_by now (top_if (owes (part_at now k).slave.owed) k) ≡ owed_after (bus width (map child_of parts)) (contents_in parts) (owed_by parts debtor) op
  own_top h =
      owed_top_by (owes (part_at now k).slave.owed) refl
      ∙ rw (own_part h, place_now k) refl
      ∙ ticked_by op refl h
      ∙ ap (λ owed. owed_after (bus width (map child_of parts)) (contents_in parts) owed op) (focus_owed debtor focus h)

  -- where none did
  left_by : (d : Debtor) → debtor ≡ d → IsFocus parts d k → length parts ≤ k → left (owed_by parts d) ≡ []
  left_by Nobody e g h = refl
  left_by Miss e g h = refl
  left_by (Top j) e g h = absurd (let b = (owing j e).0 in omega arith)

  own_miss_by : (o : Option Request) → op ≡ o → length parts ≤ k → owed_by now (miss_if o) ≡ owed_after (bus width (map child_of parts)) (contents_in parts) (owed_by parts debtor) o
  own_miss_by None e h = sym (left_by debtor refl focus h)
  own_miss_by (Some r) e h =
      let end : k ≡ length parts = omega (arith, aimed-within (at_op r e), h) in
      let same : miss_owed now ≡ miss_owed parts = rw (count_now, place_now (length parts)) refl in
      ap (λ o. o ∷ []) same ∙ missed-Some width parts (owed_by parts debtor) r (left_by debtor refl focus h) f (past-length (at_op r e) end)

  own_by : (b : Bool) → nat_lt k (length now) ≡ b → (k < length parts) ⊎ (length parts ≤ k)
      → owed_by now (cond b (top_if (owes (part_at now k).slave.owed) k) (miss_if op)) ≡ owed_after (bus width (map child_of parts)) (contents_in parts) (owed_by parts debtor) op
  own_by true e (inl h) = own_top h
  own_by true e (inr h) = absurd (let g : k < length now = grind (arith, e) in omega (arith, g, count_now))
  own_by false e (inl h) = absurd (let g : length now ≤ k = grind (arith, e) in omega (arith, g, count_now))
  own_by false e (inr h) = own_miss_by op refl h

  pub owed_now : owed_by now (debtor_after now k op) ≡ owed_after (bus width (map child_of parts)) (contents_in parts) (owed_by parts debtor) op
  owed_now = own_by (nat_lt k (length now)) refl (below_cases k (length parts))

  -- what the places hold then
  contents_by : (o : Option Request) → op ≡ o → (k < length parts) ⊎ (length parts ≤ k) → contents_in (parts_after parts k o) ≡ contents_after (bus width (map child_of parts)) (contents_in parts) (listed o)
  contents_by None e (inl h) = contents-None (nth parts k h)
  contents_by None e (inr h) = ap contents_in (set-past parts k (part_ticked (part_at parts k) None) h)
  contents_by (Some r) e (inl h) = contents-Some width r (at-Nth (at_op r e) (nth parts k h)) f (fits-takes width (map child_of parts) r (aims r e).1)
  contents_by (Some r) e (inr h) =
      ap contents_in (set-past parts k (part_ticked (part_at parts k) (Some r)) h)
      ∙ missed-contents width parts r f (past-length (at_op r e) (omega (arith, aimed-within (at_op r e), h)))

  pub contents_now : contents_in now ≡ contents_after (bus width (map child_of parts)) (contents_in parts) (listed op)
  contents_now = contents_by op refl (below_cases k (length parts))

  -- who owes answers then
  after_by : (b : Bool) → nat_lt k (length now) ≡ b → (c : Bool) → owes (part_at now k).slave.owed ≡ c → (o : Option Request) → (j : ℕ)
      → cond b (top_if c k) (miss_if o) ≡ Top j → (j ≡ k) × (k < length parts) × (owes (part_at now k).slave.owed ≡ true)
  after_by true e true g o j h = let same : k ≡ j = cc in let l : k < length now = grind (arith, e) in (sym same, omega (arith, l, count_now), g)
  after_by true e false g o j h = absurd (cc)
  after_by false e c g None j h = absurd (cc)
  after_by false e c g (Some r) j h = absurd (cc)

  pub after_top : (j : ℕ) → debtor_after now k op ≡ Top j → (j ≡ k) × (k < length parts) × (owes (part_at now k).slave.owed ≡ true)
  after_top j g = after_by (nat_lt k (length now)) refl (owes (part_at now k).slave.owed) refl op j g

  nobody_by : (b : Bool) → nat_lt k (length now) ≡ b → (c : Bool) → owes (part_at now k).slave.owed ≡ c → k < length parts → cond b (top_if c k) (miss_if op) ≢ Top k → (part_at now k).slave.owed ≡ []
  nobody_by true e true g h n = absurd (n refl)
  nobody_by true e false g h n = not_owing (part_at now k).slave.owed g
  nobody_by false e c g h n = absurd (let l : length now ≤ k = grind (arith, e) in omega (arith, l, count_now))

  pub nobody_after : k < length parts → debtor_after now k op ≢ Top k → (part_at now k).slave.owed ≡ []
  nobody_after h n = nobody_by (nat_lt k (length now)) refl (owes (part_at now k).slave.owed) refl h n

  -- ---- a bus by itself

  pub slave_now : bus_slave width now (debtor_after now k op) ≡ ticked (bus_slave width parts debtor) op
  slave_now = λ i. record { wiring = bus width (children_now i); contents = contents_now i; owed = owed_now i }

  alone_by : ((j : ℕ) → j < length parts → debtor ≢ Top j → (part_at parts j).slave.owed ≡ []) → (j : ℕ) → (j ≡ k) ⊎ (j ≢ k) → j < length now → debtor_after now k op ≢ Top j → (part_at now j).slave.owed ≡ []
  alone_by quiet j (inl e) h n =
      subst (λ j. (part_at now j).slave.owed ≡ []) (sym e) (nobody_after (omega (arith, h, e, count_now)) (subst (λ j. debtor_after now k op ≢ Top j) e n))
  alone_by quiet j (inr e) h n =
      subst (λ (p : Part). p.slave.owed ≡ []) (sym (other_part j e))
      (quiet j (omega (arith, h, count_now)) (λ d. (let same : k ≡ j = subst (λ d. IsFocus parts d k) d focus in e (sym same))))

  pub alone_now : ((j : ℕ) → j < length parts → debtor ≢ Top j → (part_at parts j).slave.owed ≡ []) → OwesAlone width now (debtor_after now k op)
  alone_now quiet = record {
    fits = fits_now;
    owing = λ j g. (let a = after_top j g in (omega (arith, a.0, a.1, count_now), subst (λ j. owes (part_at now j).slave.owed ≡ true) (sym a.0) a.2));
    quiet = λ j h n. alone_by quiet j (number_cases j k) h n;
  }

-- whether a bus owes anything
pub owes-alone : (parts : List Part) (debtor : Debtor) → Owes parts debtor → owes (owed_by parts debtor) ≡ not (is_nobody debtor)
owes-alone parts Nobody owing = refl
owes-alone parts Miss owing = refl
owes-alone parts (Top k) owing = owes-farther (places_before k parts) (part_at parts k).slave.owed ∙ (owing k refl).1

-- ---- the turn of a bus by itself

module _ (width : Width) (parts : List Part) (debtor : Debtor) (op : Option Request) (alone : OwesAlone width parts debtor) (fits : (r : Request) → op ≡ Some r → FitsBus width r)
    (unstalled : (r : Request) → op ≡ Some r → is_stalled (bus width (map child_of parts)) (owed_by parts debtor) r ≡ false) where
  abbrev here : ℕ
  here = goes (length parts) debtor (aim_of (map child_of parts) op) op

  focus_by : (o : Option Request) → op ≡ o → IsFocus parts debtor (goes (length parts) debtor (aim_of (map child_of parts) o) o)
  focus_by None e = focus-None width parts alone.fits debtor
  focus_by (Some r) e = focus-Some width parts alone.fits debtor r (fits r e) alone.owing (λ nobody l. alone.quiet _ l (λ top. (let both : Nobody ≡ Top _ = sym nobody ∙ top in cc))) (unstalled r e)

  pub focus_here : IsFocus parts debtor here
  focus_here = focus_by op refl

  pass_by : (o : Option Request) → op ≡ o → let k = goes (length parts) debtor (aim_of (map child_of parts) o) o in k < length parts → CanPass (part_at parts k) o
  pass_by None e l = tt
  pass_by (Some r) e l = pass-Some width parts alone.fits debtor r (fits r e) _ refl l (focus_by (Some r) e) (unstalled r e)

  pub pass_here : here < length parts → CanPass (part_at parts here) op
  pass_here l = pass_by op refl l

  aims_by : (o : Option Request) (r : Request) → o ≡ Some r → goes (length parts) debtor (aim_of (map child_of parts) o) o ≡ child_at (map child_of parts) r.adr
  aims_by None r e = absurd (cc)
  aims_by (Some q) r e = let same : q ≡ r = cc in ap (λ (x : Request). child_at (map child_of parts) x.adr) same

  pub aims_here : (r : Request) → op ≡ Some r → (here ≡ child_at (map child_of parts) r.adr) × FitsBus width r
  aims_here r e = (aims_by op r e, fits r e)

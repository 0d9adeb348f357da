-- Each step keeps the rule.
use Rattle.std.proofs.Common.{◌≡◌, ◌≢◌, ℕ, ◌+◌, ◌-◌, ◌%◌, ◌^◌, ◌<◌, ◌≤◌, ◌⊎◌, List, [], ◌∷◌, ◌++◌, length, length-set, get_or, set, sym, refl, ap, ◌∙◌, subst, ⊎_elim, lt_of_not-le, inl, inr, arith, Option, Some, None}
use mathlib.Core.Option.{none, some, some-injective, some-ne-none}
use native.Mathlib.Decide.{ℕ_discrete, dec_le}
use lib.ListN.{get_elem?}
use Rattle.atomic_table.specs.Table.{State, step, Act, Valid, carried_after, keeps, takes, gives, stepped, Allows, Splits, Joins, Final, Seen, opening}
use Rattle.atomic_table.proofs.Lists.{at_set, set_here, set_else, set_again, at_longer, one_turn}
use Rattle.wb_signals.specs.History.{Entry}
use Rattle.soc_turn.specs.declared.knows.Knows.{Knows}
use Rattle.soc_turn.specs.declared.knows.Knows.TheVariants.{Spent, Rooted, Idle, Waiting, Holding}
use Rattle.soc_journal.specs.Ledger.{Follows, Adds}
use Rattle.soc_turn.specs.Turns.{total, IsHolding, rooted, gave, pass_given, gathered, AllBack, AllFollow, Fits, Ruled, AtHome, IsOut, drew, looked, published}
use Rattle.soc_journal.proofs.GrowthLemmas.{Follows-Adds, Follows-self}
use Rattle.soc_turn.proofs.SeatLemmas.{put, put_here, put_else, total-set, total-snoc, total-at}

module _ {T S C : Type 0} (history : T → List Entry) (stake : T → ℕ → S) (charter : T → C) where
  abbrev R : State (Option T) (Knows T) → Type 0
  R = Ruled history stake charter

  pub opens : (x : T) → R (opening (0 ∷ 0 ∷ []) (Some x ∷ []) (rooted x))
  opens x = record {
    served = 0;
    next = 0;
    value = x;
    seat = λ _. 0;
    queue = λ _. 0;
    words_are = refl;
    order = omega arith;
    budget = refl;
    deep = refl;
    place = inl refl;
    each = first_only;
  }
    where
      first_only : (j : ℕ) (v : Knows T) → get_elem? (rooted x ∷ []) j ≡ some v → Fits history stake charter (λ _. 0) (λ _. 0) 0 0 x j v
      first_only Rattle.std.proofs.Common.zero v e = subst (λ (w : Knows T). Fits history stake charter (λ _. 0) (λ _. 0) 0 0 x 0 w) (some-injective (rooted x) v e) ((λ n h. (refl, Follows-self history stake charter n x)), tt, omega arith)
      first_only (Rattle.std.proofs.Common.suc j) v e = search Rattle.std.proofs.Common.rules

  module _ (seat seat' queue queue' : ℕ → ℕ) (served served' next next' : ℕ) (x x' : T) (j : ℕ)
      (seats : (m : ℕ) → seat m ≡ j → seat' m ≡ j)
      (values : (m : ℕ) (a : T) → seat m ≡ j → Follows history stake charter m a x → Follows history stake charter m a x')
      (tickets : (k : ℕ) → queue k ≡ j → served ≤ k → k < next → (queue' k ≡ j) × (served' ≤ k) × (k < next'))
      (holder : (k : ℕ) → queue k ≡ j → k ≡ served → k < next → (k ≡ served') × (x ≡ x')) where
    back_stays : (made : ℕ) (ps : List (ℕ × T)) → AllBack history stake charter seat x made j ps → AllBack history stake charter seat' x' made j ps
    back_stays made [] a = tt
    back_stays made (p ∷ ps) a = (seats p.0 a.0, values p.0 p.1 a.0 a.1, a.2, back_stays made ps a.3)

    pub stays : (v : Knows T) → Fits history stake charter seat queue served next x j v → Fits history stake charter seat' queue' served' next' x' j v
    stays Spent f = tt
    stays (Rooted o made back) f = ((λ n h. let t = f.0 n h in (seats n t.0, values n o t.0 t.1)), back_stays made back f.1, f.2)
    stays (Idle n y) f = (seats n f.0, values n y f.0 f.1)
    stays (Waiting n y k) f = let t = tickets k f.1 f.2 f.3 in ((seats n f.0.0, values n y f.0.0 f.0.1), t.0, t.1, t.2)
    stays (Holding n y k z) f = let le : served ≤ k = omega (arith, f.2) in let t = tickets k f.1 le f.3 in let h = holder k f.1 f.2 f.3 in
        ((seats n f.0.0, values n y f.0.0 f.0.1), t.0, h.0, t.2, f.4 ∙ h.1)

  abbrev F : (ℕ → ℕ) → (ℕ → ℕ) → ℕ → ℕ → T → ℕ → Knows T → Type 0
  F = Fits history stake charter

  one_more : (n : ℕ) → (n % 2 ^ 64 + 1) % 2 ^ 64 ≡ (n + 1) % 2 ^ 64
  one_more n = omega arith

  word_0 : (ws : List ℕ) (a b c : ℕ) → ws ≡ a ∷ b ∷ [] → set ws 0 c ≡ c ∷ b ∷ []
  word_0 ws a b c e = ap (λ (l : List ℕ). set l 0 c) e

  word_1 : (ws : List ℕ) (a b c : ℕ) → ws ≡ a ∷ b ∷ [] → set ws 1 c ≡ a ∷ c ∷ []
  word_1 ws a b c e = ap (λ (l : List ℕ). set l 1 c) e

  abbrev IsOutOf : List (Knows T) → ℕ → Type 0
  IsOutOf vs j = (u : Knows T) × (get_elem? vs j ≡ some u) × IsHolding u

  set_there : (vs : List (Knows T)) (i : ℕ) (v w : Knows T) → get_elem? vs i ≡ some v → get_elem? (set vs i w) i ≡ some w
  set_there [] i v w e = absurd (some-ne-none v (sym e))
  set_there (x ∷ xs) Rattle.std.proofs.Common.zero v w e = refl
  set_there (x ∷ xs) (Rattle.std.proofs.Common.suc i) v w e = set_there xs i v w e

  -- a seat that is not out stays so
  out_stays : (vs : List (Knows T)) (id j : ℕ) (v w : Knows T) → get_elem? vs id ≡ some v → (IsHolding v → ⊥) → ((u : Knows T) × (get_elem? vs j ≡ some u) × IsHolding u) → (u : Knows T) × (get_elem? (set vs id w) j ≡ some u) × IsHolding u
  out_stays vs id j v w at not o = (o.0, set_else vs id j w (λ (e : j ≡ id). not (subst IsHolding (some-injective o.0 v (sym o.1 ∙ (ap (λ (i : ℕ). get_elem? vs i) e ∙ at))) o.2)) ∙ o.1, o.2)

  -- the seat served has its ticket
  holding_below : (seat queue : ℕ → ℕ) (served next : ℕ) (x : T) (j : ℕ) (v : Knows T) → IsHolding v → F seat queue served next x j v → served < next
  holding_below seat queue served next x j Spent h f = absurd h
  holding_below seat queue served next x j (Rooted o made back) h f = absurd h
  holding_below seat queue served next x j (Idle n y) h f = absurd h
  holding_below seat queue served next x j (Waiting n y k) h f = absurd h
  holding_below seat queue served next x j (Holding n y k z) h f = omega (arith, f.2, f.3)

  out_below : (s : State (Option T) (Knows T)) (r : R s) → IsOut s (r.queue r.served) → r.served < r.next
  out_below s r o = holding_below r.seat r.queue r.served r.next r.value (r.queue r.served) o.0 o.2 (r.each (r.queue r.served) o.0 o.1)

  abbrev waits_with : ℕ → Knows T → Knows T
  waits_with k (Idle n y) = Waiting n y k
  waits_with k v = v

  draws_0 : (slots id n : ℕ) (y : T) → Allows R slots id (Idle n y, []) 0 (λ w. (w + 1) % 2 ^ 64) (drew (step slots 0 1 0 none) (Idle n y, []))
  draws_0 slots id n y s r wide at bound = let k : ℕ = r.next in let w : Knows T = Waiting n y k in let v : Knows T = Idle n y in let q : ℕ → ℕ = put r.queue k id in
      let le : r.served ≤ k = r.order in let t = total-set s.views id v w at in let b : k + total s.views ≡ r.served + 16 = r.budget in
      let mine : F r.seat r.queue r.served k r.value id v = r.each id v at in
      let mine' : F r.seat q r.served (k + 1) r.value id w = ((mine.0, mine.1), put_here r.queue k id, le, omega arith) in (
        w,
        keeps,
        tt,
        record {
          served = r.served;
          next = k + 1;
          value = r.value;
          seat = r.seat;
          queue = q;
          words_are = (λ i. set (r.words_are i) 0 ((get_or (r.words_are i) 0 0 + 1) % 2 ^ 64)) ∙ ap (λ (a : ℕ). a ∷ r.served % 2 ^ 64 ∷ []) (one_more k);
          order = omega arith;
          budget = omega arith;
          deep = r.deep;
          place = ⊎_elim (λ h. inl h) (λ o. let less = out_below s r o in let same : q r.served ≡ r.queue r.served = put_else r.queue k id r.served (λ (e : r.served ≡ k). omega arith) in
              inr (subst (IsOutOf (set s.views id w)) (sym same) (out_stays s.views id (r.queue r.served) v w at (λ h. h) o))) r.place;
          each = λ j u e. ⊎_elim (λ (c : (j ≡ id) × (w ≡ u)). subst (λ (z : Knows T). F r.seat q r.served (k + 1) r.value j z) c.1 (subst (λ (i : ℕ). F r.seat q r.served (k + 1) r.value i w) (sym c.0) mine'))
              (λ (c : (j ≢ id) × (get_elem? s.views j ≡ some u)). stays r.seat r.seat r.queue q r.served r.served k (k + 1) r.value r.value j (λ m h. h) (λ m a h f. f)
              (λ i here low high. (put_else r.queue k id i (λ (e : i ≡ k). omega arith) ∙ here, low, omega arith)) (λ i here is high. (is, refl)) u (r.each j u c.1)) (at_set s.views id j w u e);
        },
        λ n' y' same. (k, ap (λ (l : List ℕ). get_or l 0 0) r.words_are, ap (λ (m : Knows T × List (ℕ × Option T)). let z : Knows T × List (ℕ × Option T) = (waits_with k m.0, []) in z) same),
      )

  pub draws : (slots id n : ℕ) (y : T) (me : Knows T × List (ℕ × Option T)) → me ≡ (Idle n y, []) → Allows R slots id me 0 (λ w. (w + 1) % 2 ^ 64) (drew (step slots 0 1 0 none) me)
  draws slots id n y me e = subst (λ (m : Knows T × List (ℕ × Option T)). Allows R slots id m 0 (λ w. (w + 1) % 2 ^ 64) (drew (step slots 0 1 0 none) m)) (sym e) (draws_0 slots id n y)

  -- the seat served finds the value at home
  is_home : (s : State (Option T) (Knows T)) (r : R s) (id n k : ℕ) (y : T) → get_elem? s.views id ≡ some (Waiting n y k) → r.queue r.served ≡ id → AtHome s r.value
  is_home s r id n k y at here = ⊎_elim (λ h. h) (λ o. absurd (subst IsHolding (some-injective o.0 (Waiting n y k) (sym o.1 ∙ (ap (λ (i : ℕ). get_elem? s.views i) here ∙ at))) o.2)) r.place

  abbrev Looks : ℕ → ℕ → Knows T × List (ℕ × Option T) → ℕ → Knows T × List (ℕ × Option T) → Type 0
  Looks slots n m = looked history stake charter (step slots 1 0 0 none) m

  -- the look where the ticket is served
  finds : (slots id n k : ℕ) (y : T) (s : State (Option T) (Knows T)) (r : R s) → get_elem? s.views id ≡ some (Waiting n y k) → r.served ≡ k
      → R (stepped s 1 (get_or s.words 1 0) id [] (Holding n y k r.value) (takes 0 (Some r.value)))
  finds slots id n k y s r at is = let w : Knows T = Holding n y k r.value in let v : Knows T = Waiting n y k in
      let mine : F r.seat r.queue r.served r.next r.value id v = r.each id v at in
      let here : r.queue r.served ≡ id = ap r.queue is ∙ mine.1 in
      let mine' : F r.seat r.queue r.served r.next r.value id w = (mine.0, mine.1, sym is, mine.3, refl) in let t = total-set s.views id v w at in record {
        served = r.served;
        next = r.next;
        value = r.value;
        seat = r.seat;
        queue = r.queue;
        words_are = (λ i. set (r.words_are i) 1 (get_or (r.words_are i) 1 0));
        order = r.order;
        budget = omega (arith, r.budget);
        deep = length-set s.homes 0 _ ∙ r.deep;
        place = inr (w, ap (λ (i : ℕ). get_elem? (set s.views id w) i) here ∙ set_there s.views id v w at, tt);
        each = λ j u e. ⊎_elim (λ (c : (j ≡ id) × (w ≡ u)). subst (λ (z : Knows T). F r.seat r.queue r.served r.next r.value j z) c.1 (subst (λ (i : ℕ). F r.seat r.queue r.served r.next r.value i w) (sym c.0) mine'))
            (λ (c : (j ≢ id) × (get_elem? s.views j ≡ some u)). r.each j u c.1) (at_set s.views id j w u e);
      }

  -- the look where it is not
  waits : (id : ℕ) (v : Knows T) (s : State (Option T) (Knows T)) (r : R s) → get_elem? s.views id ≡ some v → R (stepped s 1 (get_or s.words 1 0) id [] v keeps)
  waits id v s r at = record {
    served = r.served;
    next = r.next;
    value = r.value;
    seat = r.seat;
    queue = r.queue;
    words_are = (λ i. set (r.words_are i) 1 (get_or (r.words_are i) 1 0));
    order = r.order;
    budget = ap (λ (l : List (Knows T)). r.next + total l) (set_again s.views id v at) ∙ r.budget;
    deep = r.deep;
    place = ⊎_elim (λ h. inl h) (λ o. inr (o.0, ap (λ (l : List (Knows T)). get_elem? l (r.queue r.served)) (set_again s.views id v at) ∙ o.1, o.2)) r.place;
    each = λ j u e. r.each j u (ap (λ (l : List (Knows T)). get_elem? l j) (sym (set_again s.views id v at)) ∙ e);
  }

  -- what a look tells, by the view before
  abbrev Told : ℕ → Knows T × List (ℕ × Option T) → Knows T × List (ℕ × Option T) → Knows T → Type 0
  Told found m m' (Waiting n x k) = (found ≡ k % 2 ^ 64 → (y : T) × Follows history stake charter n x y × (m' ≡ (Holding n x k y, (0, Some y) ∷ []))) × (found ≢ k % 2 ^ 64 → m' ≡ m)
  Told found m m' _ = Unit {0}

  looks_by : (slots id n k : ℕ) (y : T) (s : State (Option T) (Knows T)) (r : R s) (at : get_elem? s.views id ≡ some (Waiting n y k)) → Dec (r.served ≡ k)
      → (w : Knows T) × (a : Act (Option T)) × Valid s.homes [] a × R (stepped s 1 (get_or s.words 1 0) id [] w a) × Looks slots 0 (Waiting n y k, []) (get_or s.words 1 0) (w, carried_after [] a)
  looks_by slots id n k y s r at (yes is) = let v : Knows T = Waiting n y k in let mine : F r.seat r.queue r.served r.next r.value id v = r.each id v at in
      let m : Knows T × List (ℕ × Option T) = (v, []) in let m' : Knows T × List (ℕ × Option T) = (Holding n y k r.value, (0, Some r.value) ∷ []) in
      let hits : get_or s.words 1 0 ≡ k % 2 ^ 64 = ap (λ (l : List ℕ). get_or l 1 0) r.words_are ∙ ap (λ (a : ℕ). a % 2 ^ 64) is in (
        Holding n y k r.value,
        takes 0 (Some r.value),
        is_home s r id n k y at (ap r.queue is ∙ mine.1),
        finds slots id n k y s r at is,
        λ n' y' k' same. subst (λ (z : Knows T × List (ℕ × Option T)). Told (get_or s.words 1 0) m m' z.0) same ((λ _. (r.value, mine.0.1, refl)), λ miss. absurd (miss hits)),
      )
  looks_by slots id n k y s r at (no not) = let v : Knows T = Waiting n y k in let mine : F r.seat r.queue r.served r.next r.value id v = r.each id v at in
      let m : Knows T × List (ℕ × Option T) = (v, []) in let b : r.next + total s.views ≡ r.served + 16 = r.budget in let low : r.served ≤ k = mine.2 in let high : k < r.next = mine.3 in
      let near : k < r.served + 2 ^ 64 = omega arith in let word : get_or s.words 1 0 ≡ r.served % 2 ^ 64 = ap (λ (l : List ℕ). get_or l 1 0) r.words_are in (
        v,
        keeps,
        tt,
        waits id v s r at,
        λ n' y' k' same. subst (λ (z : Knows T × List (ℕ × Option T)). Told (get_or s.words 1 0) m m z.0) same ((λ hit. absurd (not (one_turn r.served k (2 ^ 64) low near (sym word ∙ hit)))), λ miss. refl),
      )

  pub looks : (slots id n k : ℕ) (y : T) (me : Knows T × List (ℕ × Option T)) → me ≡ (Waiting n y k, []) → Allows R slots id me 1 (λ w. w) (looked history stake charter (step slots 1 0 0 none) me)
  looks slots id n k y me e = subst (λ (m : Knows T × List (ℕ × Option T)). Allows R slots id m 1 (λ w. w) (looked history stake charter (step slots 1 0 0 none) m)) (sym e) (λ s r wide at bound. looks_by slots id n k y s r at (ℕ_discrete r.served k))

  abbrev idle_with : T → Knows T → Knows T
  idle_with z (Holding n x k y) = Idle n z
  idle_with z v = v

  abbrev put_of : T → List (ℕ × Option T) → T
  put_of d ((k, Some z) ∷ xs) = z
  put_of d _ = d

  publishes_0 : (slots id n k : ℕ) (x y z : T) → Adds history stake charter n y z → Allows R slots id (Holding n x k y, (0, Some z) ∷ []) 1 (λ w. (w + 1) % 2 ^ 64) (published (step slots 1 1 0 none) (Holding n x k y, (0, Some z) ∷ []))
  publishes_0 slots id n k x y z adds s r wide at bound = let v : Knows T = Holding n x k y in let w : Knows T = Idle n z in
      let mine : F r.seat r.queue r.served r.next r.value id v = r.each id v at in let is : k ≡ r.served = mine.2 in let high : k < r.next = mine.3 in
      let from : Adds history stake charter n r.value z = subst (λ (t : T). Adds history stake charter n t z) mine.4 adds in
      let here : r.queue r.served ≡ id = ap r.queue (sym is) ∙ mine.1 in
      let mine' : F r.seat r.queue (r.served + 1) r.next z id w = (mine.0.0, Follows-self history stake charter n z) in
      let t = total-set s.views id v w at in let b : r.next + total s.views ≡ r.served + 16 = r.budget in let one : 0 < length s.homes = omega (arith, r.deep) in (
        w,
        gives,
        tt,
        record {
          served = r.served + 1;
          next = r.next;
          value = z;
          seat = r.seat;
          queue = r.queue;
          words_are = (λ i. set (r.words_are i) 1 ((get_or (r.words_are i) 1 0 + 1) % 2 ^ 64)) ∙ ap (λ (a : ℕ). r.next % 2 ^ 64 ∷ a ∷ []) (one_more r.served);
          order = omega arith;
          budget = omega arith;
          deep = length-set s.homes 0 (some (Some z)) ∙ r.deep;
          place = inl (set_here s.homes 0 (some (Some z)) one);
          each = λ j u e. ⊎_elim (λ (c : (j ≡ id) × (w ≡ u)). subst (λ (t : Knows T). F r.seat r.queue (r.served + 1) r.next z j t) c.1 (subst (λ (i : ℕ). F r.seat r.queue (r.served + 1) r.next z i w) (sym c.0) mine'))
              (λ (c : (j ≢ id) × (get_elem? s.views j ≡ some u)). let apart : j ≢ id = c.0 in stays r.seat r.seat r.queue r.queue r.served (r.served + 1) r.next r.next r.value z j (λ m h. h)
              (λ m a h f. Follows-Adds history stake charter m n a r.value z (λ (e : m ≡ n). apart (sym h ∙ (ap r.seat e ∙ mine.0.0))) f from)
              (λ i now low up. let not : i ≢ r.served = λ (e : i ≡ r.served). apart (sym now ∙ (ap r.queue e ∙ here)) in (now, (let low' : r.served ≤ i = low in omega arith), up))
              (λ i now is up. absurd (apart (sym now ∙ (ap r.queue is ∙ here)))) u (r.each j u c.1)) (at_set s.views id j w u e);
        },
        λ n' x' k' y' z' same. ap (λ (m : Knows T × List (ℕ × Option T)). let q : Knows T × List (ℕ × Option T) = (idle_with (put_of z m.1) m.0, []) in q) same,
      )

  pub publishes : (slots id n k : ℕ) (x y z : T) (me : Knows T × List (ℕ × Option T)) → me ≡ (Holding n x k y, (0, Some z) ∷ []) → Adds history stake charter n y z → Allows R slots id me 1 (λ w. (w + 1) % 2 ^ 64) (published (step slots 1 1 0 none) me)
  publishes slots id n k x y z me e adds = subst (λ (m : Knows T × List (ℕ × Option T)). Allows R slots id m 1 (λ w. (w + 1) % 2 ^ 64) (published (step slots 1 1 0 none) m)) (sym e) (publishes_0 slots id n k x y z adds)

  -- the seat i becomes the number n's
  reseats : (seat : ℕ → ℕ) (n i j : ℕ) → seat n ≢ j → (m : ℕ) → seat m ≡ j → put seat n i m ≡ j
  reseats seat n i j not m h = put_else seat n i m (λ (e : m ≡ n). not (sym (ap seat e) ∙ h)) ∙ h

  keeps_seat : (seat : ℕ → ℕ) (n i m : ℕ) → Dec (m ≡ n) → seat m ≡ i → put seat n i m ≡ i
  keeps_seat seat n i m (yes e) h = ap (put seat n i) e ∙ put_here seat n i
  keeps_seat seat n i m (no e) h = put_else seat n i m e ∙ h

  at_snoc_here : (vs : List (Knows T)) (v u : Knows T) (j : ℕ) → get_elem? (vs ++ v ∷ []) j ≡ some u → (get_elem? vs j ≡ some u) ⊎ ((j ≡ length vs) × (v ≡ u))
  at_snoc_here [] v u Rattle.std.proofs.Common.zero e = inr (refl, some-injective v u e)
  at_snoc_here [] v u (Rattle.std.proofs.Common.suc j) e = absurd (some-ne-none u (sym e))
  at_snoc_here (x ∷ xs) v u Rattle.std.proofs.Common.zero e = inl e
  at_snoc_here (x ∷ xs) v u (Rattle.std.proofs.Common.suc j) e = ⊎_elim (λ h. inl h) (λ h. inr (ap Rattle.std.proofs.Common.suc h.0, h.1)) (at_snoc_here xs v u j e)

  at_below : (vs : List (Knows T)) (j : ℕ) (u : Knows T) → get_elem? vs j ≡ some u → j < length vs
  at_below [] j u e = absurd (some-ne-none u (sym e))
  at_below (x ∷ xs) Rattle.std.proofs.Common.zero u e = omega arith
  at_below (x ∷ xs) (Rattle.std.proofs.Common.suc j) u e = let t = at_below xs j u e in omega arith

  gives_on : (seat : ℕ → ℕ) (x : T) (made len j : ℕ) (ps : List (ℕ × T)) → AllBack history stake charter seat x made j ps → AllBack history stake charter (put seat made len) x (made + 1) j ps
  gives_on seat x made len j [] a = tt
  gives_on seat x made len j (p ∷ ps) a = (put_else seat made len p.0 (λ (e : p.0 ≡ made). omega (arith, a.2)) ∙ a.0, a.1, omega (arith, a.2), gives_on seat x made len j ps a.3)

  takes_back : (seat : ℕ → ℕ) (x : T) (made n j : ℕ) (ps : List (ℕ × T)) → AllBack history stake charter seat x made j ps → AllBack history stake charter (put seat n j) x made j ps
  takes_back seat x made n j [] a = tt
  takes_back seat x made n j (p ∷ ps) a = (keeps_seat seat n j p.0 (ℕ_discrete p.0 n) a.0, a.1, a.2, takes_back seat x made n j ps a.3)

  pub splits : (id made : ℕ) (o : T) (back : List (ℕ × T)) (v : Knows T) → v ≡ Rooted o made back → made < 16 → Splits R id v (gave v) (pass_given v)
  splits id made o back v is few = subst (λ (z : Knows T). Splits R id z (gave z) (pass_given z)) (sym is) (λ s r at. let v' : Knows T = Rooted o made back in let w : Knows T = Rooted o (made + 1) back in let g : Knows T = Idle made o in
      let len : ℕ = length s.views in let seat' : ℕ → ℕ = put r.seat made len in let vs : List (Knows T) = set s.views id w in
      let mine : F r.seat r.queue r.served r.next r.value id v' = r.each id v' at in
      let first : (r.seat made ≡ id) × Follows history stake charter made o r.value = mine.0 made (omega arith) in
      let below : id < len = at_below s.views id v' at in let t = total-set s.views id v' w at in let t' = total-snoc vs g in let b : r.next + total s.views ≡ r.served + 16 = r.budget in
      let long : length vs ≡ len = length-set s.views id w in
      let mine' : F seat' r.queue r.served r.next r.value id w = ((λ n h. let u = mine.0 n (omega arith) in (put_else r.seat made len n (λ (e : n ≡ made). omega arith) ∙ u.0, u.1)), gives_on r.seat r.value made len id back mine.1, omega arith) in
      let new : F seat' r.queue r.served r.next r.value len g = (put_here r.seat made len, first.1) in
      record {
        served = r.served;
        next = r.next;
        value = r.value;
        seat = seat';
        queue = r.queue;
        words_are = r.words_are;
        order = r.order;
        budget = omega arith;
        deep = r.deep;
        place = ⊎_elim (λ h. inl h) (λ q. let p = out_stays s.views id (r.queue r.served) v' w at (λ h. h) q in inr (p.0, at_longer vs (g ∷ []) (r.queue r.served) p.0 p.1, p.2)) r.place;
        each = λ j u e. ⊎_elim (λ e'. ⊎_elim (λ (c : (j ≡ id) × (w ≡ u)). subst (λ (z : Knows T). F seat' r.queue r.served r.next r.value j z) c.1 (subst (λ (i : ℕ). F seat' r.queue r.served r.next r.value i w) (sym c.0) mine'))
            (λ (c : (j ≢ id) × (get_elem? s.views j ≡ some u)). let apart : j ≢ id = c.0 in stays r.seat seat' r.queue r.queue r.served r.served r.next r.next r.value r.value j
            (reseats r.seat made len j (λ (e : r.seat made ≡ j). apart (sym e ∙ first.0))) (λ m a h f. f) (λ i now low up. (now, low, up)) (λ i now is up. (is, refl)) u (r.each j u c.1)) (at_set s.views id j w u e'))
            (λ (c : (j ≡ length vs) × (g ≡ u)). subst (λ (z : Knows T). F seat' r.queue r.served r.next r.value j z) c.1 (subst (λ (i : ℕ). F seat' r.queue r.served r.next r.value i g) (sym (c.0 ∙ long)) new)) (at_snoc_here vs g u j e);
      })

  pub joins : (id other made n : ℕ) (o y : T) (back : List (ℕ × T)) (v w : Knows T) → v ≡ Rooted o made back → w ≡ Idle n y → Joins R id v other w (gathered v w) Spent
  joins id other made n o y back v w is is' = subst (λ (z : Knows T). Joins R id z other w (gathered z w) Spent) (sym is) (subst (λ (z : Knows T). Joins R id (Rooted o made back) other z (gathered (Rooted o made back) z) Spent) (sym is')
      (λ s r at apart there. let v' : Knows T = Rooted o made back in let w' : Knows T = Idle n y in let both : Knows T = Rooted o made ((n, y) ∷ back) in
      let vs : List (Knows T) = set s.views id both in let spent : Knows T = Spent in let seat' : ℕ → ℕ = put r.seat n id in
      let there' : get_elem? s.views other ≡ some w' = sym (set_else s.views id other both apart) ∙ there in
      let mine : F r.seat r.queue r.served r.next r.value id v' = r.each id v' at in let its : F r.seat r.queue r.served r.next r.value other w' = r.each other w' there' in
      let t = total-set s.views id v' both at in let t' = total-set vs other w' spent there in let b : r.next + total s.views ≡ r.served + 16 = r.budget in
      let low : n < made = below_made r.seat made n id other r.value o apart its.0 mine.0 (dec_le made n) in
      let mine' : F seat' r.queue r.served r.next r.value id both = ((λ m h. let u = mine.0 m h in (keeps_seat r.seat n id m (ℕ_discrete m n) u.0, u.1)), (put_here r.seat n id, its.1, low, takes_back r.seat r.value made n id back mine.1), mine.2) in
      record {
        served = r.served;
        next = r.next;
        value = r.value;
        seat = seat';
        queue = r.queue;
        words_are = r.words_are;
        order = r.order;
        budget = omega arith;
        deep = r.deep;
        place = ⊎_elim (λ h. inl h) (λ q. inr (out_stays vs other (r.queue r.served) w' spent there (λ h. h) (out_stays s.views id (r.queue r.served) v' both at (λ h. h) q))) r.place;
        each = λ j u e. ⊎_elim (λ (c : (j ≡ other) × (spent ≡ u)). subst (λ (z : Knows T). F seat' r.queue r.served r.next r.value j z) c.1 tt)
            (λ (c' : (j ≢ other) × (get_elem? vs j ≡ some u)). let far : j ≢ other = c'.0 in ⊎_elim (λ (c : (j ≡ id) × (both ≡ u)). subst (λ (z : Knows T). F seat' r.queue r.served r.next r.value j z) c.1 (subst (λ (i : ℕ). F seat' r.queue r.served r.next r.value i both) (sym c.0) mine'))
            (λ (c : (j ≢ id) × (get_elem? s.views j ≡ some u)). stays r.seat seat' r.queue r.queue r.served r.served r.next r.next r.value r.value j
            (reseats r.seat n id j (λ (e : r.seat n ≡ j). far (sym e ∙ its.0))) (λ m a h f. f) (λ i now low up. (now, low, up)) (λ i now is up. (is, refl)) u (r.each j u c.1)) (at_set s.views id j both u c'.1))
            (at_set vs other j spent u e);
      }))
    where
      below_made : (seat : ℕ → ℕ) (made n id other : ℕ) (x o : T) → (other ≡ id → ⊥) → seat n ≡ other → ((m : ℕ) → made ≤ m → (seat m ≡ id) × Follows history stake charter m o x) → Dec (made ≤ n) → n < made
      below_made seat made n id other x o apart h all (yes le) = absurd (apart (sym h ∙ (all n le).0))
      below_made seat made n id other x o apart h all (no not) = lt_of_not-le not

  back_follows : (seat : ℕ → ℕ) (x : T) (made j : ℕ) (ps : List (ℕ × T)) → AllBack history stake charter seat x made j ps → AllFollow history stake charter x ps
  back_follows seat x made j [] a = tt
  back_follows seat x made j (p ∷ ps) a = (a.1, back_follows seat x made j ps a.3)

  -- with all passes back, the value is at home
  rests : (s : State (Option T) (Knows T)) (r : R s) (id made : ℕ) (o : T) (back : List (ℕ × T)) → get_elem? s.views id ≡ some (Rooted o made back) → length back ≡ made → AtHome s r.value
  rests s r id made o back at all = let t = total-at s.views id (Rooted o made back) at in let b : r.next + total s.views ≡ r.served + 16 = r.budget in
      ⊎_elim (λ h. h) (λ q. let low = out_below s r q in absurd (omega arith)) r.place

  pub closes : (ws : List ℕ) (xs : List (Option T)) (id made : ℕ) (o : T) (back : List (ℕ × T)) (v : Knows T) → v ≡ Rooted o made back → length back ≡ made → Final (Seen R id v) ws xs
      → (x : T) × (get_elem? xs 0 ≡ some (Some x)) × ((n : ℕ) → made ≤ n → Follows history stake charter n o x) × AllFollow history stake charter x back
  closes ws xs id made o back v is all f = let s = f.0 in let r : R s = f.1.0 in let at : get_elem? s.views id ≡ some (Rooted o made back) = f.1.1 ∙ ap (λ (z : Knows T). some z) is in
      let mine : F r.seat r.queue r.served r.next r.value id (Rooted o made back) = r.each id (Rooted o made back) at in
      (r.value, f.4 0 (Some r.value) (rests s r id made o back at all), (λ n h. (mine.0 n h).1), back_follows r.seat r.value made id back mine.1)

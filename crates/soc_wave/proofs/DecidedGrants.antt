-- The tests of a wave's grants are sound.
use Rattle.std.proofs.Common.{◌≡◌, ℕ, zero, suc, ◌<◌, ◌==◌, ◌^◌, ◌&&◌, nat_lt, Bool, true, false, List, [], ◌∷◌, Option, Some, None, refl, sym, ap, ◌∙◌, subst, bit_and, arith}
use Rattle.std.specs.Int.{bit_at}
use Rattle.std.proofs.lemmas.Bool.{eqb-true, ltb-true}
use Rattle.std.proofs.lemmas.Nat.Bits.{bit_at_above}
use Rattle.wb_signals.specs.Wave.{WaveRowState}
use Rattle.wb_crossbar.specs.Grant.{Turn, port_at, port_after, IsFree, IsDecided, IsGrant, IsNext}
use Rattle.soc_core.specs.Fabric.{Fabric}
use Rattle.soc_wave.specs.Rows.{holder_in}
use Rattle.soc_wave.specs.Arbitration.{Arbitration, Granting, IsArbitrated, AreArbitrated, course_at, with_cycs, awaited_set, all_held, turn_in, arbitrated, holding_from}
use Rattle.soc_wave.specs.Tests.{implies, all_below, set_apart_from, place_apart, set_free, decided_for, port_decided, grant_right, not_granted, not_granted_after, granted_last, next_after, next_right, same_number, holder_shown, arbitrated_right, all_arbitrated}
use Rattle.soc_wave.proofs.PortRows.{false_true}
use Rattle.soc_wave.proofs.Decided.{implied, both, join, agreed, itself, below_hold}

-- ---- words

implies_by : (a b : Bool) → (a ≡ true → b ≡ true) → implies a b ≡ true
implies_by true b h = h refl
implies_by false b h = refl

equal_true : (a b : ℕ) → a ≡ b → (a == b) ≡ true
equal_true a b e = ap (λ (n : ℕ). a == n) (sym e) ∙ itself a

below_all : (test : ℕ → Bool) (n : ℕ) → ((m : ℕ) → m < n → test m ≡ true) → all_below test n ≡ true
below_all test zero each = refl
below_all test (suc n) each = join (test n) (all_below test n) (each n (omega arith)) (below_all test n (λ m lt. each m (omega (arith, lt))))

below_each : (test : ℕ → Bool) (n : ℕ) → all_below test n ≡ true → (m : ℕ) → m < n → test m ≡ true
below_each test n h m lt = below_hold (λ k. test k ≡ true) test (λ k passes. passes) n h m lt

abbrev is_there : Option ℕ → Bool
is_there None = false
is_there (Some x) = true

abbrev there_or : ℕ → Option ℕ → ℕ
there_or d None = d
there_or d (Some x) = x

none_some : (x : ℕ) → ◌≡◌ {A = Option ℕ} None (Some x) → ⊥
none_some x e = false_true (ap is_there e)

some_same : (x y : ℕ) → ◌≡◌ {A = Option ℕ} (Some x) (Some y) → x ≡ y
some_same x y e = ap (there_or 0) e

numbers_same : (a b : Option ℕ) → same_number a b ≡ true → a ≡ b
numbers_same None None h = refl
numbers_same None (Some b) h = absurd (false_true h)
numbers_same (Some a) None h = absurd (false_true h)
numbers_same (Some a) (Some b) h = ap (λ (n : ℕ). Some n) (eqb-true a b h)

-- ---- a set that is free

apart_by : (set : ℕ) (granted : Bool) (o : Option ℕ) → set_apart_from set granted o ≡ true → (other : ℕ) → granted ≡ true → o ≡ Some other → bit_and other set ≡ 0
apart_by set granted None h other g is = absurd (none_some other is)
apart_by set granted (Some x) h other g is =
    subst (λ (n : ℕ). bit_and n set ≡ 0) (some_same x other is) (eqb-true (bit_and x set) 0 (implied granted (bit_and x set == 0) h g))

apart_all : (set : ℕ) (granted : Bool) (o : Option ℕ) → ((other : ℕ) → granted ≡ true → o ≡ Some other → bit_and other set ≡ 0) → set_apart_from set granted o ≡ true
apart_all set granted None h = refl
apart_all set granted (Some x) h = implies_by granted (bit_and x set == 0) (λ g. equal_true (bit_and x set) 0 (h x g refl))

module _ (turn : Turn) (wants : ℕ → Option ℕ) (held grant : ℕ) where
  free_by : (i set : ℕ) → set_free turn wants held grant i set ≡ true → IsFree turn wants held grant i set
  free_by i set h =
      let parts = both (bit_and held set == 0) (all_below (place_apart turn wants grant set) i) h in
      record {
        unheld = eqb-true (bit_and held set) 0 parts.0;
        apart = λ j other lt g is.
            apart_by set (bit_at grant (port_at turn j) == 1) (wants (port_at turn j)) (below_each (place_apart turn wants grant set) i parts.1 j lt)
            other (equal_true (bit_at grant (port_at turn j)) 1 g) is;
      }

  free_all : (i set : ℕ) → IsFree turn wants held grant i set → set_free turn wants held grant i set ≡ true
  free_all i set free =
      join (bit_and held set == 0) (all_below (place_apart turn wants grant set) i) (equal_true (bit_and held set) 0 free.unheld)
      (below_all (place_apart turn wants grant set) i (λ j lt.
      apart_all set (bit_at grant (port_at turn j) == 1) (wants (port_at turn j)) (λ other g is. free.apart j other lt (eqb-true (bit_at grant (port_at turn j)) 1 g) is)))

  decided_by : (i : ℕ) (o : Option ℕ) → wants (port_at turn i) ≡ o → decided_for turn wants held grant i o ≡ true → IsDecided turn wants held grant i
  decided_by i None is h = record {
    waiting = λ set waits. absurd (none_some set (sym is ∙ waits));
    idle = λ none. eqb-true (bit_at grant (port_at turn i)) 0 h;
  }
  decided_by i (Some x) is h =
      let same = agreed (bit_at grant (port_at turn i) == 1) (set_free turn wants held grant i x) h in
      record {
        waiting = λ set waits.
            let here : x ≡ set = some_same x set (sym is ∙ waits) in (
              λ g. subst (λ (n : ℕ). IsFree turn wants held grant i n) here (free_by i x (sym same ∙ equal_true (bit_at grant (port_at turn i)) 1 g)),
              λ free. eqb-true (bit_at grant (port_at turn i)) 1 (same ∙ free_all i x (subst (λ (n : ℕ). IsFree turn wants held grant i n) (sym here) free)),
            );
        idle = λ none. absurd (none_some x (sym none ∙ is));
      }

  grant_by : grant_right turn wants held grant ≡ true → IsGrant turn wants held grant
  grant_by h =
      let parts = both (all_below (port_decided turn wants held grant) turn.ports) (nat_lt grant (2 ^ turn.ports)) h in
      record {
        decided = λ i lt. decided_by i (wants (port_at turn i)) refl (below_each (port_decided turn wants held grant) turn.ports parts.0 i lt);
        above = λ port le. bit_at_above grant turn.ports port (ltb-true grant (2 ^ turn.ports) parts.1) le;
      }

-- ---- the next port

next_by : (turn : Turn) (grant next : ℕ) → next_right turn grant next ≡ true → IsNext turn grant next
next_by turn grant next h =
    let one = both (all_below (next_after turn grant next) turn.ports) (implies (all_below (not_granted turn grant) turn.ports) (next == turn.first) && nat_lt next turn.ports) h in
    let two = both (implies (all_below (not_granted turn grant) turn.ports) (next == turn.first)) (nat_lt next turn.ports) one.1 in
    record {
      last = λ i lt g none.
          let behind = below_all (not_granted_after turn grant i) turn.ports (λ j below.
          implies_by (nat_lt i j) (not_granted turn grant j) (λ after. equal_true (bit_at grant (port_at turn j)) 0 (none j (ltb-true i j after) below))) in
          let last_is = join (bit_at grant (port_at turn i) == 1) (all_below (not_granted_after turn grant i) turn.ports) (equal_true (bit_at grant (port_at turn i)) 1 g) behind in
          eqb-true next (port_after turn.ports (port_at turn i))
          (implied (granted_last turn grant i) (next == port_after turn.ports (port_at turn i)) (below_each (next_after turn grant next) turn.ports one.0 i lt) last_is);
      none = λ none.
          eqb-true next turn.first (implied (all_below (not_granted turn grant) turn.ports) (next == turn.first) two.0
          (below_all (not_granted turn grant) turn.ports (λ i lt. equal_true (bit_at grant (port_at turn i)) 0 (none i lt))));
      within = ltb-true next turn.ports two.1;
    }

-- ---- clocks

module _ (f : Fabric) (named : ℕ → ℕ → ℕ) where
  arbitrated_by : (a : Arbitration) (g : Granting) (row : WaveRowState) → arbitrated_right f named a g row ≡ true → IsArbitrated f named a g row
  arbitrated_by a g row h =
      let now = with_cycs named row 0 a.ports in
      let waits = λ (m : ℕ). awaited_set (course_at now m) in
      let shows = holder_shown (arbitrated named g row a) row in
      let one = both (grant_right (turn_in f a) waits (all_held now) g.ports) (next_right (turn_in f a) g.ports g.first && all_below shows f.slaves) h in
      let two = both (next_right (turn_in f a) g.ports g.first) (all_below shows f.slaves) one.1 in
      record {
        grant = grant_by (turn_in f a) waits (all_held now) g.ports one.0;
        next = next_by (turn_in f a) g.ports g.first two.0;
        shown = λ slave lt. numbers_same (holder_in slave row) (holding_from 0 (arbitrated named g row a).ports slave) (below_each shows f.slaves two.1 slave lt);
      }

  pub wave_granted : (a : Arbitration) (grants : List Granting) (rows : List WaveRowState) → all_arbitrated f named a grants rows ≡ true → AreArbitrated f named a grants rows
  wave_granted a [] [] h = tt
  wave_granted a [] (row ∷ rows) h = absurd (false_true h)
  wave_granted a (g ∷ grants) [] h = absurd (false_true h)
  wave_granted a (g ∷ grants) (row ∷ rows) h =
      let parts = both (arbitrated_right f named a g row) (all_arbitrated f named (arbitrated named g row a) grants rows) h in
      (arbitrated_by a g row parts.0, wave_granted (arbitrated named g row a) grants rows parts.1)

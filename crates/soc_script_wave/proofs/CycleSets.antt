-- The set of a cycle has the top slaves of its operations.
use Rattle.std.proofs.Common.{◌≡◌, ℕ, zero, suc, ◌-◌, ◌^◌, ◌<◌, ◌≤◌, Bool, true, false, List, [], ◌∷◌, ◌++◌, refl, sym, ◌∙◌, subst, arith}
use Rattle.std.specs.Prelude.{bit_or, Option, Some, None}
use Rattle.std.proofs.lemmas.Nat.{or_lt, pow_below}
use Rattle.std.proofs.lemmas.Nat.Bits.{bit_at_or, bit_at-lt, bit_at-pow_same, bit_at_ones}
use Rattle.wb_signals.specs.Request.{Request}
use Rattle.soc_core.specs.Fabric.{Fabric, IsFabric, AllGoIn, IsIn}
use Rattle.soc_core.specs.Built.{one_slave, slaves_asked, set_of_cycle}
use Rattle.soc_script.specs.Script.{ScriptLine}
use Rattle.soc_script.specs.Cycles.{ScriptCycle}
use Rattle.soc_script_wave.specs.Sets.{set_of_lines, set_at}
use Rattle.soc_script_wave.specs.ScriptWave.{lines_at}
use Rattle.soc_script_wave.proofs.ScriptCycles.{EndsAs}

pow_positive : (k : ℕ) → 1 ≤ 2 ^ k
pow_positive zero = omega arith
pow_positive (suc k) = let lt = pow_below k (suc k) (omega arith) in omega (arith, lt, pow_positive k)

module _ (f : Fabric) (fits : IsFabric f) where
  top_below : (r : Request) (i : ℕ) → f.top r ≡ Some i → i < f.slaves
  top_below r i is = fits.below (f.wiring.route r).place i (fits.tops r ∙ is)

  bit_below : (r : Request) (o : Option ℕ) → f.top r ≡ o → one_slave o < 2 ^ f.slaves
  bit_below r None is = pow_positive f.slaves
  bit_below r (Some i) is = pow_below i f.slaves (top_below r i is)

  asked_below : (ops : List Request) → slaves_asked f.top ops < 2 ^ f.slaves
  asked_below [] = pow_positive f.slaves
  asked_below (r ∷ ops) = or_lt f.slaves (one_slave (f.top r)) (slaves_asked f.top ops) (bit_below r (f.top r) refl) (asked_below ops)

  every_below : 2 ^ f.slaves - 1 < 2 ^ f.slaves
  every_below = let some = pow_positive f.slaves in omega (arith, some)

  pub opening_below : (last : Bool) (ops : List Request) → set_of_cycle f ops last < 2 ^ f.slaves
  opening_below true ops = asked_below ops
  opening_below false ops = every_below

  later_in : (one more i : ℕ) → IsIn more i → IsIn (bit_or one more) i
  later_in one more i has = omega (arith, bit_at_or one more i, bit_at-lt one i, has)

  one_in : (more i : ℕ) (o : Option ℕ) → o ≡ Some i → IsIn (bit_or (one_slave o) more) i
  one_in more i o is =
      subst (λ x. IsIn (bit_or (one_slave x) more) i) (sym is)
      (omega (arith, bit_at_or (2 ^ i) more i, bit_at-lt more i, bit_at-pow_same i))

  goes_later : (one set : ℕ) (ops : List Request) → AllGoIn f set ops → AllGoIn f (bit_or one set) ops
  goes_later one set [] all = tt
  goes_later one set (r ∷ ops) all = ((λ i is. later_in one set i (all.0 i is)), goes_later one set ops all.1)

  asked_all : (ops : List Request) → AllGoIn f (slaves_asked f.top ops) ops
  asked_all [] = tt
  asked_all (r ∷ ops) = (
    (λ i is. one_in (slaves_asked f.top ops) i (f.top r) is),
    goes_later (one_slave (f.top r)) (slaves_asked f.top ops) ops (asked_all ops),
  )

  every_all : (ops : List Request) → AllGoIn f (2 ^ f.slaves - 1) ops
  every_all [] = tt
  every_all (r ∷ ops) = ((λ i is. bit_at_ones f.slaves i (top_below r i is)), every_all ops)

  opening_goes : (last : Bool) (ops : List Request) → AllGoIn f (set_of_cycle f ops last) ops
  opening_goes true ops = asked_all ops
  opening_goes false ops = every_all ops

  -- a line of a cycle goes in the cycle's set
  pub line_goes : (cut : Bool) (done : List ScriptLine) (h : ScriptLine) (rest : List ScriptLine) → EndsAs cut (done ++ h ∷ rest) → AllGoIn f (set_of_lines f (done ++ h ∷ rest)) h.ops
  line_goes cut [] h rest ends = opening_goes h.last h.ops
  line_goes cut (d ∷ []) h rest ends = subst (λ last. AllGoIn f (set_of_cycle f d.ops last) h.ops) (sym ends.0) (every_all h.ops)
  line_goes cut (d ∷ e ∷ done) h rest ends = subst (λ last. AllGoIn f (set_of_cycle f d.ops last) h.ops) (sym ends.0) (every_all h.ops)

pub set_lines : (f : Fabric) (cycles : List ScriptCycle) (n : ℕ) → set_at f cycles n ≡ set_of_lines f (lines_at cycles n)
set_lines f [] n = refl
set_lines f (c ∷ cycles) zero = refl
set_lines f (c ∷ cycles) (suc n) = set_lines f cycles n

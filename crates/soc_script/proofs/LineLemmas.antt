-- Lines one after another, as they are read.
use Rattle.std.proofs.Common.{◌≡◌, ℕ, ◌+◌, ◌<◌, ◌≤◌, List, [], ◌∷◌, ◌++◌, length, Some, None, ap, sym, ◌∙◌, arith, length-append}
use Rattle.eb_base.specs.declared.width.Width.{Width}
use Rattle.soc_script.specs.Script.{ScriptLine, AreLines, AreNoLines, line_of, ops_in}
use Rattle.soc_script.proofs.ListLemmas.{as_many, more_values, none_there, same_values}

pub ops_in-append : (xs ys : List ScriptLine) → ops_in (xs ++ ys) ≡ ops_in xs + ops_in ys
ops_in-append [] ys = omega arith
ops_in-append (x ∷ xs) ys = let h = ops_in-append xs ys in omega arith

pub ops_in-more : (xs : List ScriptLine) (x : ScriptLine) → ops_in (xs ++ x ∷ []) ≡ ops_in xs + length x.ops
ops_in-more xs x = ops_in-append xs (x ∷ []) ∙ (omega arith)

module _ (bus : Width) (masters : ℕ) (before : List (List ℕ)) (text : List ℕ) (good : List ScriptLine) (lines : AreLines bus masters before good) where
  pub one_more : (l : ScriptLine) → line_of bus masters text ≡ Some l → length before < 256 → ops_in good + length l.ops ≤ 4096 → AreLines bus masters (before ++ text ∷ []) (good ++ l ∷ [])
  one_more l e few most =
      let n : length before ≡ length good = as_many (line_of bus masters) before good lines.each in
      let k : length (good ++ l ∷ []) ≡ length good + 1 = length-append good (l ∷ []) in
      let o : ops_in (good ++ l ∷ []) ≡ ops_in good + length l.ops = ops_in-more good l in
      record {
        each = more_values (line_of bus masters) before text good l lines.each e;
        few_lines = omega arith;
        few_ops = omega arith;
      }

  pub bad_line : line_of bus masters text ≡ None → AreNoLines bus masters (before ++ text ∷ [])
  bad_line e ls are = none_there (line_of bus masters) before text [] ls e are.each

  pub too_many_lines : length before ≡ 256 → AreNoLines bus masters (before ++ text ∷ [])
  too_many_lines full ls are =
      let n : length (before ++ text ∷ []) ≡ length ls = as_many (line_of bus masters) (before ++ text ∷ []) ls are.each in
      let k : length (before ++ text ∷ []) ≡ length before + 1 = length-append before (text ∷ []) in
      let few : length ls ≤ 256 = are.few_lines in
      omega arith

  pub too_many_ops : (l : ScriptLine) → line_of bus masters text ≡ Some l → 4096 < ops_in good + length l.ops → AreNoLines bus masters (before ++ text ∷ [])
  too_many_ops l e most ls are =
      let same : ls ≡ good ++ l ∷ [] = same_values ls (good ++ l ∷ []) (sym are.each ∙ more_values (line_of bus masters) before text good l lines.each e) in
      let o : ops_in (good ++ l ∷ []) ≡ ops_in good + length l.ops = ops_in-more good l in
      let few : ops_in ls ≤ 4096 = are.few_ops in
      let s : ops_in ls ≡ ops_in (good ++ l ∷ []) = ap ops_in same in
      omega arith

use Rattle.std.proofs.Common.{◌≡◌, ◌+◌, ◌≤◌, length, refl, sym, ◌∙◌, arith, inl, inr}
use Rattle.std.proofs.lemmas.Bool.{cases_lt}
use Rattle.soc_script.specs.Words.{lines_of}
use Rattle.soc_script.specs.Laws.{NeverBoth, OneOfBoth, OneRefusal, OneScript, RefusalBelow}
use Rattle.soc_script.proofs.ListLemmas.{as_many, same_values}
use Rattle.soc_script.proofs.RefusalLemmas.{bad_in_script, decided, one_bad_line}
use Rattle.soc_script.specs.Script.{line_of}
use Rattle.soc_script.proofs.laws.one_reading.Goals as goal

one_script : OneScript
one_script bus masters text script other a b = same_values script other (sym a.lines.each ∙ b.lines.each)

one_refusal : OneRefusal
one_refusal bus masters text n k (inl a) (inl b) = a.1 ∙ sym b.1
one_refusal bus masters text n k (inl a) (inr b) = let l = a.0 in let m = b.0 in omega arith
one_refusal bus masters text n k (inr a) (inl b) = let l = a.0 in let m = b.0 in omega arith
one_refusal bus masters text n k (inr a) (inr b) = one_bad_line bus masters (lines_of text) n k a.1 b.1

never_both : NeverBoth
never_both bus masters text script n is (inl a) = let l = a.0 in let m : length text ≤ 1048576 = is.few_octets in omega arith
never_both bus masters text script n is (inr a) = bad_in_script bus masters (lines_of text) n script a.1 is.lines

one_of_both : OneOfBoth
one_of_both bus masters text =
    elim (cases_lt 1048576 (length text)) [
      | inl long ↦ inr (0, inl (long, refl))
      | inr short ↦ elim (decided bus masters (lines_of text)) [
        | inl script ↦ inl (script.0, record { few_octets = short; lines = script.1 })
        | inr refused ↦ inr (refused.0, inr (short, refused.1))
      ]
    ]

refusal_below : RefusalBelow
refusal_below bus masters text n (inl a) = let z = a.1 in omega arith
refusal_below bus masters text n (inr a) =
    let bad = a.1 in
    let k = as_many (line_of bus masters) bad.before bad.good bad.good_lines.each in
    let few : length bad.good ≤ 256 = bad.good_lines.few_lines in
    let e : n ≡ length bad.before + 1 = bad.number in
    omega arith

pub returns : goal.returns
returns c = record { script = one_script; refusal = one_refusal; never_both = never_both; one_of_both = one_of_both; below = refusal_below }

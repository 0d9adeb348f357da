use Rattle.std.proofs.Common.{◌≡◌, ◌≤◌, ◌+◌, [], ◌∷◌, ◌++◌, length, map, Some, None, sym, ap, ◌∙◌, arith, append_assoc, length-append}
use Rattle.std.proofs.lemmas.List.{append-nil}
use Rattle.soc_script.specs.Script.{op_of, ops_of}
use Rattle.soc_script.proofs.ListLemmas.{no_op, all_ops, more_values, as_many}
use Rattle.soc_script.proofs.line.ops_of.Goals as goal

pub returns-in_default-op_of : goal.returns-in_default-op_of
returns-in_default-op_of c =
    let h = c.reading.invariant in
    let words : c.args.words ≡ h.0 ++ c.in-Some.word.now ∷ c.next.new.self = h.1 ∙ ap (λ k. h.0 ++ k) c.in-Some.ensures.taken in
    let none : op_of c.args.bus c.in-Some.word.now ≡ None = sym c.op_of.ensures.value ∙ c.in_default-op_of.is in
    record { ops = sym (ap (ops_of c.args.bus) words ∙ no_op c.args.bus h.0 c.reading.ops.items h.2 c.in-Some.word.now c.next.new.self none) }

pub reading-preserved : goal.reading-preserved
reading-preserved c =
    let h = c.reading.invariant in
    let word = c.in-Some.word.now in
    let some : op_of c.args.bus word ≡ Some c.in-Some-op_of.op = sym c.op_of.ensures.value ∙ c.in-Some-op_of.is in
    let pushed : c.push.new.self.items ≡ c.reading.ops.items ++ c.in-Some-op_of.op ∷ [] = c.in_ok-push.ensures.items in
    let n : length h.0 ≡ length c.reading.ops.items = as_many (op_of c.args.bus) h.0 c.reading.ops.items h.2 in
    let k : length (h.0 ++ word ∷ []) ≡ length h.0 + 1 = length-append h.0 (word ∷ []) in
    let most : length h.0 ≤ 255 = h.3 in (
      h.0 ++ word ∷ [],
      h.1 ∙ ap (λ k. h.0 ++ k) c.in-Some.ensures.taken ∙ sym (append_assoc h.0 (word ∷ []) c.next.new.self),
      more_values (op_of c.args.bus) h.0 word c.reading.ops.items c.in-Some-op_of.op h.2 some ∙ ap (map Some) (sym pushed),
      omega arith,
    )

pub returns : goal.returns
returns c =
    let h = c.reading.invariant in
    let none : c.reading.words ≡ [] = c.in_default.ensures.taken.0 in
    let words : c.args.words ≡ h.0 = h.1 ∙ ap (λ k. h.0 ++ k) none ∙ append-nil h.0 in
    let some : 1 ≤ length c.reading.ops.items = grind arith in
    record { ops = sym (all_ops c.args.bus h.0 c.reading.ops.items h.2 c.args.words words some h.3) }

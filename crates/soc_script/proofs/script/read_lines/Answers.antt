use Rattle.std.proofs.Common.{◌≡◌, ◌≤◌, ◌<◌, ◌+◌, [], ◌∷◌, ◌++◌, length, Some, None, sym, subst, ap, ◌∙◌, arith, append_assoc, length-append}
use Rattle.soc_script.specs.Script.{ScriptLine, AreLines, line_of, ops_in}
use Rattle.soc_script.proofs.LineLemmas.{one_more, bad_line, too_many_ops, ops_in-more}
use Rattle.soc_script.proofs.script.read_lines.Goals as goal

pub returns-in_default-2-clause-fault : goal.returns-in_default-2-clause-fault
returns-in_default-2-clause-fault c =
    let h = c.reading.invariant in
    let text = c.in-Some.text.now in
    let none : line_of c.args.bus c.args.masters text ≡ None = sym c.in_ok-line.ensures.line ∙ c.in_default-2.is in
    record {
      before = h.0;
      bad = text;
      behind = c.next.new.self;
      texts_are = h.1 ∙ ap (λ k. h.0 ++ k) c.in-Some.ensures.taken;
      number = ap (λ n. n + 1) h.3;
      good = c.reading.lines.items;
      good_lines = h.2;
      no_lines = bad_line c.args.bus c.args.masters h.0 text c.reading.lines.items h.2 none;
    }

pub returns-then-ops-gt-MOST_OPS-clause-fault : goal.returns-then-ops-gt-MOST_OPS-clause-fault
returns-then-ops-gt-MOST_OPS-clause-fault c =
    let h = c.reading.invariant in
    let text = c.in-Some.text.now in
    let l : ScriptLine = c.in-Some-2.line in
    let some : line_of c.args.bus c.args.masters text ≡ Some l = sym c.in_ok-line.ensures.line ∙ c.in-Some-2.is in
    let ops : length c.line.inside.ops.items ≡ length l.ops = ap (λ (k : ScriptLine). length k.ops) c.line.view_is in
    let count : c.len-ops.result ≡ length l.ops = omega (arith, c.len-ops.ensures, ops) in
    let most : 4096 < ops_in c.reading.lines.items + length l.ops = omega (arith, h.4, count, c.if-ops-gt-MOST_OPS.true) in
    record {
      before = h.0;
      bad = text;
      behind = c.next.new.self;
      texts_are = h.1 ∙ ap (λ k. h.0 ++ k) c.in-Some.ensures.taken;
      number = ap (λ n. n + 1) h.3;
      good = c.reading.lines.items;
      good_lines = h.2;
      no_lines = too_many_ops c.args.bus c.args.masters h.0 text c.reading.lines.items h.2 l some most;
    }

pub reading-preserved : goal.reading-preserved
reading-preserved c =
    let h = c.reading.invariant in
    let text = c.in-Some.text.now in
    let l : ScriptLine = c.in-Some-2.line in
    let some : line_of c.args.bus c.args.masters text ≡ Some l = sym c.in_ok-line.ensures.line ∙ c.in-Some-2.is in
    let ops : length c.line.inside.ops.items ≡ length l.ops = ap (λ (k : ScriptLine). length k.ops) c.line.view_is in
    let count : c.len-ops.result ≡ length l.ops = omega (arith, c.len-ops.ensures, ops) in
    let pushed : c.push.new.self.items ≡ c.reading.lines.items ++ l ∷ [] = c.in_ok-push.ensures.items in
    let few : length h.0 < 256 = omega (arith, h.3, c.if-number-gt-MOST_LINES.false) in
    let most : ops_in c.reading.lines.items + length l.ops ≤ 4096 = omega (arith, h.4, count, c.if-ops-gt-MOST_OPS.false) in
    let k : length (h.0 ++ text ∷ []) ≡ length h.0 + 1 = length-append h.0 (text ∷ []) in (
      h.0 ++ text ∷ [],
      h.1 ∙ ap (λ k. h.0 ++ k) c.in-Some.ensures.taken ∙ sym (append_assoc h.0 (text ∷ []) c.next.new.self),
      subst (AreLines c.args.bus c.args.masters (h.0 ++ text ∷ [])) (sym pushed) (one_more c.args.bus c.args.masters h.0 text c.reading.lines.items h.2 l some few most),
      omega (arith, h.3, k),
      omega (arith, h.4, count, ops_in-more c.reading.lines.items l, ap ops_in pushed),
    )

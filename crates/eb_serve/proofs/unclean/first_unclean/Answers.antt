use Rattle.std.proofs.Common.{rules, ◌≡◌, List, get_or, sym, ◌∙◌, arith}
use Rattle.std.proofs.lemmas.Option.{get_or_from_slice_get}
use Rattle.eb_server.specs.declared.ending.Ending.{Ending}
use Rattle.eb_serve.proofs.UncleanLemmas.{clean_datagram, unclean_datagram}
use Rattle.eb_serve.proofs.unclean.first_unclean.Goals as goal

pub loop-i-preserved : goal.loop-i-preserved
loop-i-preserved c =
    let endings : List Ending = c.args.ends.now.endings in
    let i = c.loop-i.i in
    let e : Ending = c.ending-end.result in
    let is : e ≡ get_or endings i e = sym (get_or_from_slice_get endings i e e c.ending-end.ensures.ending) in
    c.loop-i.invariant ∙ clean_datagram endings i e (omega (arith, c.loop-i-test.true, c.count-i-end.ensures.count)) is (search rules)

pub returns-then-ne : goal.returns-then-ne
returns-then-ne c =
    let endings : List Ending = c.args.ends.now.endings in
    let i = c.loop-i.i in
    let e : Ending = c.ending-end.result in
    let is : e ≡ get_or endings i e = sym (get_or_from_slice_get endings i e e c.ending-end.ensures.ending) in
    record { first = sym (c.loop-i.invariant ∙ unclean_datagram endings i e (omega (arith, c.loop-i-test.true, c.count-i-end.ensures.count)) is (search rules)) }

use Rattle.std.proofs.Common.{◌≡◌, ◌++◌, ◌∙◌, sym, ap, subst, length, drop, replicate, true, rules}
use Rattle.std.proofs.lemmas.List.{drop-replicate}
use Rattle.eb_base.specs.Name.{is_name, padded, IsPadded}
use Rattle.eb_base.proofs.NameLemmas.{IsPadded-padded}
use Rattle.eb_base.proofs.name.Name.new.Goals as goal

pub invariant_of-result : goal.invariant_of-result
invariant_of-result c =
    let name : is_name c.args.text.now ≡ true = search rules in
    let text = c.args.text.now in
    let is : c.copy_from_slice.new.self ++ drop (length text) (replicate 19 0x20) ≡ padded text =
    ap (λ l. l ++ drop (length text) (replicate 19 0x20)) c.copy_from_slice.ensures.after ∙ ap (λ l. text ++ l) (drop-replicate (length text) 19 0x20) in
    subst IsPadded (sym is) (IsPadded-padded text name)

pub returns : goal.returns
returns c =
    let name : is_name c.args.text.now ≡ true = search rules in
    let text = c.args.text.now in
    record {
      name = (name, ap (λ l. l ++ drop (length text) (replicate 19 0x20)) c.copy_from_slice.ensures.after ∙ ap (λ l. text ++ l) (drop-replicate (length text) 19 0x20));
    }

use Rattle.std.proofs.Common.{rules, ◌≡◌, false, length, ◌<◌, sym, subst}
use Rattle.std.proofs.Common.{List, [], ◌∷◌, ◌++◌, ◌∙◌, ap}
use Rattle.eb_io.specs.Outside.{Outside}
use Rattle.std.specs.Result.{is_err}
use Rattle.eb_io.specs.MemSource.{IsNew, reading_of}
use Rattle.eb_io.specs.Shelf.{outside_of}
use Rattle.eb_io.specs.declared.source.MemSource.{MemSource}
use Rattle.eb_io.proofs.WorldLemmas.{first_and_rest, at_ok, is_fresh, opened_file}
use Rattle.eb_io.proofs.world.MemWorldWorld.open.Goals as goal

pub returns-clause-opens : goal.returns-clause-opens
returns-clause-opens c =
    let ok : is_err c.ask.result ≡ false = search rules in
    let some : 0 < length c.args.self.now.supply.items = search rules in
    let new : IsNew c.remove-file.result = subst (λ (s : MemSource). IsNew s) (sym c.remove-file.ensures.value) (c.args.self.now.all_new 0 c.remove-file.result some) in
    opened_file reading_of (outside_of c.args.self.now.shelf) (outside_of c.ask.new.self) (outside_of c.add.new.self) c.args.name.now c.remove-file.result (is_fresh c.remove-file.result new) (at_ok c.ask.result ok c.ask.ensures.ok) c.add.ensures.added

pub returns-clause-next : goal.returns-clause-next
returns-clause-next c =
    let ok : is_err c.ask.result ≡ false = search rules in
    let some : 0 < length c.args.self.now.supply.items = search rules in
    let file = c.remove-file.result in
    record {
      file = file;
      supply = first_and_rest c.args.self.now.supply.items file some c.remove-file.ensures.value ∙ ap (λ (l : List MemSource). file ∷ l) (sym c.remove-file.ensures.items);
      files = ap (λ (o : Outside MemSource). o.files) c.add.ensures.added ∙ ap (λ (o : Outside MemSource). o.files ++ file ∷ []) (at_ok c.ask.result ok c.ask.ensures.ok);
    }

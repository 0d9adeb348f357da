use Rattle.std.proofs.Common.{◌≡◌, ◌<◌, ◌+◌, ◌^◌, ℕ, get_or, sym, subst, arith}
use Rattle.eb_base.specs.Width.{octets}
use Rattle.eb_codec.specs.Sizes.{unit_octets}
use Rattle.eb_codec.specs.Reading.{part_octets}
use Rattle.eb_codec.proofs.ViewLemmas.{views, at_base}
use Rattle.eb_codec.proofs.view.RecordView.return_base.Goals as goal

pub second_part-part-requires : goal.second_part-part-requires
second_part-part-requires c = let v = views c.self.inside.header c.self.inside.octets.now c.args.self.now c.self.invariant c.self.view_is in omega (arith, v.long)

pub bounds-self-inside-3 : goal.bounds-self-inside-3
bounds-self-inside-3 c = let v = views c.self.inside.header c.self.inside.octets.now c.args.self.now c.self.invariant c.self.view_is in omega (arith, v.long)

pub base_at-requires : goal.base_at-requires
base_at-requires c = let v = views c.self.inside.header c.self.inside.octets.now c.args.self.now c.self.invariant c.self.view_is in omega (arith, v.within, c.second_part-part.ensures)

pub returns-clause-value : goal.returns-clause-value
returns-clause-value c =
    let h = c.self.inside.header in
    let o = c.self.inside.octets.now in
    let v = views c.self.inside.header c.self.inside.octets.now c.args.self.now c.self.invariant c.self.view_is in
    at_base h o c.args.self.now.item.return_base (get_or o 3 0) (unit_octets h + part_octets h (get_or o 2 0)) c.second_part-part.result c.base_at.result v.return_base c.second_part-part.ensures c.base_at.ensures

pub returns-clause-most : goal.returns-clause-most
returns-clause-most c =
    let h = c.self.inside.header in
    let o = c.self.inside.octets.now in
    let v = views c.self.inside.header c.self.inside.octets.now c.args.self.now c.self.invariant c.self.view_is in
    let e : c.base_at.result ≡ c.args.self.now.item.return_base = at_base h o c.args.self.now.item.return_base (get_or o 3 0) (unit_octets h + part_octets h (get_or o 2 0)) c.second_part-part.result c.base_at.result v.return_base c.second_part-part.ensures c.base_at.ensures in
    subst (λ (n : ℕ). n < 256 ^ octets c.args.self.now.header.address) (sym e) v.fits.return_base

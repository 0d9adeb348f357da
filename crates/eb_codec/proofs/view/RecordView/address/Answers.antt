use Rattle.std.proofs.Common.{◌≡◌, ◌+◌, ◌^◌, get_or, ap, arith}
use Rattle.eb_base.specs.Width.{octets}
use Rattle.eb_codec.specs.declared.item.RecordHead.{RecordHead}
use Rattle.eb_codec.specs.Sizes.{unit_octets}
use Rattle.eb_codec.specs.Reading.{part_octets}
use Rattle.eb_codec.proofs.ViewLemmas.{views, at_list, number_small}
use Rattle.eb_codec.proofs.view.RecordView.address.Goals as goal

pub second_part-part-requires : goal.second_part-part-requires
second_part-part-requires c = let v = views c.self.inside.header c.self.inside.octets.now c.args.self.now c.self.invariant c.self.view_is in omega (arith, v.long)

pub bounds-octets-3 : goal.bounds-octets-3
bounds-octets-3 c = let v = views c.self.inside.header c.self.inside.octets.now c.args.self.now c.self.invariant c.self.view_is in omega (arith, v.long)

pub number_at-requires-clause-within : goal.number_at-requires-clause-within
number_at-requires-clause-within c = let v = views c.self.inside.header c.self.inside.octets.now c.args.self.now c.self.invariant c.self.view_is in omega (arith, v.within, c.second_part-part.ensures)

pub number_at-requires-clause-there : goal.number_at-requires-clause-there
number_at-requires-clause-there c =
    let v = views c.self.inside.header c.self.inside.octets.now c.args.self.now c.self.invariant c.self.view_is in
    omega (arith, c.requires.there, ap (λ (d : RecordHead). d.reads) v.head)

pub returns-clause-value : goal.returns-clause-value
returns-clause-value c =
    let h = c.self.inside.header in
    let o = c.self.inside.octets.now in
    let v = views c.self.inside.header c.self.inside.octets.now c.args.self.now c.self.invariant c.self.view_is in
    at_list h h.address o c.args.self.now.item.addresses (get_or o 3 0) c.args.i (unit_octets h + part_octets h (get_or o 2 0)) c.second_part-part.result c.number_at.result v.addresses c.second_part-part.ensures c.number_at.ensures

pub returns-clause-most : goal.returns-clause-most
returns-clause-most c =
    let h = c.self.inside.header in
    let o = c.self.inside.octets.now in
    let item = c.args.self.now.item in
    let v = views c.self.inside.header c.self.inside.octets.now c.args.self.now c.self.invariant c.self.view_is in
    let e : c.number_at.result ≡ get_or item.addresses c.args.i 0 = at_list h h.address o item.addresses (get_or o 3 0) c.args.i (unit_octets h + part_octets h (get_or o 2 0)) c.second_part-part.result c.number_at.result v.addresses c.second_part-part.ensures c.number_at.ensures in
    number_small (256 ^ octets c.args.self.now.header.address) item.addresses c.args.i item.head.reads c.number_at.result v.fits.addresses v.fits.reads c.requires.there e

use Rattle.std.proofs.Common.{◌≡◌, ◌^◌, get_or, ap, arith}
use Rattle.eb_base.specs.Width.{octets}
use Rattle.eb_codec.specs.declared.item.RecordHead.{RecordHead}
use Rattle.eb_codec.specs.Sizes.{unit_octets}
use Rattle.eb_codec.proofs.ViewLemmas.{views, at_list, number_small}
use Rattle.eb_codec.proofs.view.RecordView.value.Goals as goal

pub bounds-octets-2 : goal.bounds-octets-2
bounds-octets-2 c = let v = views c.self.inside.header c.self.inside.octets.now c.args.self.now c.self.invariant c.self.view_is in omega (arith, v.long)

pub number_at-requires-clause-within : goal.number_at-requires-clause-within
number_at-requires-clause-within c = let v = views c.self.inside.header c.self.inside.octets.now c.args.self.now c.self.invariant c.self.view_is in omega (arith, v.within, c.unit_len-part.ensures.value)

pub number_at-requires-clause-there : goal.number_at-requires-clause-there
number_at-requires-clause-there c =
    let v = views c.self.inside.header c.self.inside.octets.now c.args.self.now c.self.invariant c.self.view_is in
    omega (arith, c.requires.there, ap (λ (d : RecordHead). d.writes) v.head)

pub returns-clause-value : goal.returns-clause-value
returns-clause-value c =
    let h = c.self.inside.header in
    let o = c.self.inside.octets.now in
    let v = views c.self.inside.header c.self.inside.octets.now c.args.self.now c.self.invariant c.self.view_is in
    at_list h h.port o c.args.self.now.item.values (get_or o 2 0) c.args.i (unit_octets h) c.unit_len-part.result c.number_at.result v.values c.unit_len-part.ensures.value c.number_at.ensures

pub returns-clause-most : goal.returns-clause-most
returns-clause-most c =
    let h = c.self.inside.header in
    let o = c.self.inside.octets.now in
    let item = c.args.self.now.item in
    let v = views c.self.inside.header c.self.inside.octets.now c.args.self.now c.self.invariant c.self.view_is in
    let e : c.number_at.result ≡ get_or item.values c.args.i 0 = at_list h h.port o item.values (get_or o 2 0) c.args.i (unit_octets h) c.unit_len-part.result c.number_at.result v.values c.unit_len-part.ensures.value c.number_at.ensures in
    number_small (256 ^ octets c.args.self.now.header.port) item.values c.args.i item.head.writes c.number_at.result v.fits.values v.fits.writes c.requires.there e

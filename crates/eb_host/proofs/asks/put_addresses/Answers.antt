use Rattle.std.proofs.Common.{◌≡◌, ◌*◌, ◌+◌, ◌/◌, ◌++◌, arith, mul-add}
use Rattle.std.specs.List.{flat_map}
use Rattle.eb_base.specs.Width.{octets}
use Rattle.eb_codec.specs.Sizes.{field_octets}
use Rattle.eb_codec.specs.Form.{field, zeroed}
use Rattle.eb_host.specs.Asks.{port_words}
use Rattle.eb_host.proofs.AskLemmas.{words_pushed}
use Rattle.eb_host.proofs.asks.put_addresses.Goals as goal

pub loop-i-preserved : goal.loop-i-preserved
loop-i-preserved c =
    let h = c.args.header in
    record {
      items = words_pushed h c.args.at c.from-count.result c.loop-i.i c.from-step.result c.loop-i.out.items c.put_field.new.out.items
          (c.args.out.now.items ++ zeroed (flat_map (field h h.address) (port_words h c.args.at (8 / octets h.port))))
          (omega (arith, c.loop-i-test.true)) (omega (arith, c.from-step.ensures, c.octets.ensures)) c.put_field.ensures.items c.loop-i.invariant.items;
      len = omega (arith, c.put_field.ensures.len, c.loop-i.invariant.len, mul-add (field_octets h) c.loop-i.i 1);
      capacity = omega (arith, c.put_field.ensures.capacity, c.loop-i.invariant.capacity);
    }

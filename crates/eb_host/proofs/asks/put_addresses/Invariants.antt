use Rattle.std.proofs.Common.{◌≡◌, ◌≤◌, ◌+◌, ◌-◌, ◌*◌, ◌/◌, ◌++◌, vec_len, vec_capacity}
use Rattle.std.specs.List.{flat_map}
use Rattle.eb_base.specs.Width.{octets}
use Rattle.eb_codec.specs.Sizes.{field_octets}
use Rattle.eb_codec.specs.Form.{field, zeroed}
use Rattle.eb_host.specs.Asks.{port_words}
use Rattle.eb_host.proofs.asks.put_addresses.Given as goal

abbrev pub invariant-loop-i : goal.invariant-loop-i
invariant-loop-i l = record {
  items : l.out.items ++ zeroed (flat_map (field l.header l.header.address) (port_words l.header (l.at + l.i * l.step) (l.count - l.i)))
      ≡ l.initial.out.items ++ zeroed (flat_map (field l.header l.header.address) (port_words l.header l.at (8 / octets l.header.port)));
  len : vec_len l.out ≡ vec_len l.initial.out + field_octets l.header * l.i;
  capacity : vec_capacity l.initial.out ≤ vec_capacity l.out;
}

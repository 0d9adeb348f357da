-- The octets of an opening, and the slave's answer to a probe.
use Rattle.std.proofs.Common.{◌≡◌, ℕ, ◌<◌, ◌^◌, refl, arith}
use Rattle.eb_base.specs.declared.width.Width.{Width}
use Rattle.eb_base.specs.declared.width.Width.TheVariants.{W8, W16, W32, W64}
use Rattle.eb_base.specs.declared.width.Widths.{Widths}
use Rattle.eb_base.specs.Field.{octets_of}
use Rattle.eb_codec.specs.Form.{Fills}
use Rattle.eb_codec.proofs.EncodedLemmas.{encoded_header_spells, encoded_probe_spells}
use Rattle.eb_session.specs.declared.slave.Slave.{Slave}
use Rattle.eb_session.specs.Replies.{sets_of, probe_reply}
use Rattle.eb_host.specs.Opening.{probe_expects, sets_in}
use Rattle.eb_host.proofs.WidthLemmas.{sets_meet, theirs_has}
use Rattle.eb_loopback.specs.Loopback.{probe_of_host, ProbeMeets, OpeningSpells}

abbrev Meets : Slave → Widths → Type 0
Meets s widths = let reply = probe_reply s (probe_of_host widths) in Fills reply probe_expects × (sets_in reply ≡ sets_of s.bus)

each : (bus : Width) (root : ℕ) (widths : Widths) → Meets (record { bus = bus; root = root }) widths
unfolding octets_of
each W8 root widths = ((refl, (refl, (refl, (refl, (refl, (refl, (refl, tt))))))), refl)
each W16 root widths = ((refl, (refl, (refl, (refl, (refl, (refl, (refl, tt))))))), refl)
each W32 root widths = ((refl, (refl, (refl, (refl, (refl, (refl, (refl, tt))))))), refl)
each W64 root widths = ((refl, (refl, (refl, (refl, (refl, (refl, (refl, tt))))))), refl)

pub probe_meets : ProbeMeets
probe_meets s widths = each s.bus s.root widths

pub opening_spells : OpeningSpells
opening_spells sets widths h are a p =
    let id : 1 < 2 ^ 32 = omega arith in (
      encoded_probe_spells sets (probe_of_host widths) (record { widths = are; id = id }) (sets_meet widths.addresses sets.addresses h.address a) (sets_meet widths.ports sets.ports h.port p),
      encoded_header_spells sets h (theirs_has widths.addresses sets.addresses h.address a) (theirs_has widths.ports sets.ports h.port p),
    )

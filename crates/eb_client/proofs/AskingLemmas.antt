-- What a link inside another tells.
use Rattle.std.proofs.Common.{◌≡◌, ℕ, subst, sym}
use Rattle.eb_base.specs.declared.width.Width.{Width}
use Rattle.eb_base.specs.Width.{bit}
use Rattle.eb_io.specs.Reading.{Reading}
use Rattle.eb_io.specs.Writing.{Writing}
use Rattle.eb_host.specs.declared.op.HostFault.{HostFault}
use Rattle.eb_host.specs.Exchange.{duplex}
use Rattle.eb_host.specs.Opening.{NotOpened}
use Rattle.eb_client.specs.declared.plain_link.PlainLink.{PlainLink}
use Rattle.eb_client.specs.PlainLink.{inner_link, told_inside}
use Rattle.eb_client.specs.Asking.{client_widths}

-- a link that was not opened, without the one around it
pub not_opened_inside : {L : Type 0} (reading : L → Reading) (writing : L → Writing) (width : Width) (ports : ℕ) (link back : L) (new left : PlainLink L) (f : HostFault)
    → ports ≡ bit width → inner_link new ≡ link → back ≡ inner_link left
    → NotOpened (record { addresses = 15; ports = ports }) (duplex (told_inside reading new) (told_inside writing new)) (duplex (told_inside reading left) (told_inside writing left)) f
    → NotOpened (client_widths width) (duplex (reading link) (writing link)) (duplex (reading back) (writing back)) f
not_opened_inside {L} reading writing width ports link back new left f set first last not =
    let widths = subst (λ (k : ℕ). NotOpened (record { addresses = 15; ports = k }) (duplex (told_inside reading new) (told_inside writing new)) (duplex (told_inside reading left) (told_inside writing left)) f) set not in
    let began = subst (λ (l : L). NotOpened (client_widths width) (duplex (reading l) (writing l)) (duplex (told_inside reading left) (told_inside writing left)) f) first widths in
    subst (λ (l : L). NotOpened (client_widths width) (duplex (reading link) (writing link)) (duplex (reading l) (writing l)) f) (sym last) began

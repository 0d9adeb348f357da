-- The operations that a device takes.
use Rattle.std.proofs.Common.{◌≡◌, ℕ, ◌%◌, ◌<◌, ◌^◌, ◌==◌, ◌&&◌, nat_lt, Bool, true, false, refl, arith}
use Rattle.wb_signals.specs.Request.{Request}
use Rattle.eb_base.specs.Width.{octets}
use Rattle.wb_signals.specs.Content.{size_of}
use Rattle.wb_device.specs.State.{DeviceState}
use Rattle.wb_device.specs.Line.{is_taken}

both : (a b : Bool) → (a && b) ≡ true → (a ≡ true) × (b ≡ true)
both true b e = (refl, e)
both false b e = absurd (cc)

below : (m n : ℕ) → nat_lt m n ≡ true → m < n
below m n e = grind (arith, e)

same : (m n : ℕ) → (m == n) ≡ true → m ≡ n
same m n e = grind (arith, e)

pub taken_parts : (d : DeviceState) (r : Request) → is_taken d r ≡ true → (r.adr % octets d.bus ≡ 0) × (r.adr < size_of d.content) × (r.sel < 2 ^ octets d.bus)
taken_parts d r e =
    let p = both (r.adr % octets d.bus == 0) (nat_lt r.adr (size_of d.content) && nat_lt r.sel (2 ^ octets d.bus)) e in
    let q = both (nat_lt r.adr (size_of d.content)) (nat_lt r.sel (2 ^ octets d.bus)) p.1 in
    (same (r.adr % octets d.bus) 0 p.0, below r.adr (size_of d.content) q.0, below r.sel (2 ^ octets d.bus) q.1)

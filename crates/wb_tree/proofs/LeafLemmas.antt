-- A device fits a bus at addresses that are within it.
use Rattle.std.proofs.Common.{◌≡◌, ℕ, ◌+◌, ◌-◌, ◌%◌, ◌^◌, ◌<◌, ◌≤◌, ◌==◌, ◌&&◌, nat_lt, nat_le, Bool, true, refl, arith}
use Rattle.eb_base.specs.declared.width.Width.{Width}
use Rattle.eb_base.specs.declared.width.Width.TheVariants.{W8, W16, W32, W64}
use Rattle.eb_base.specs.Width.{octets}
use Rattle.wb_signals.specs.Content.{size_of}
use Rattle.wb_signals.specs.Slave.{Slave}
use Rattle.wb_signals.specs.Parts.{Part, FitsIn}
use Rattle.wb_device.specs.State.{DeviceState}
use Rattle.wb_tree.specs.Leaves.{leaf_slave}

-- an address of a bus word, less another
word_less : (w : Width) (adr first : ℕ) → first ≤ adr → first % octets w ≡ 0 → adr % octets w ≡ 0 → (adr - first) % octets w ≡ 0
word_less W8 adr first le f a = omega arith
word_less W16 adr first le f a = omega arith
word_less W32 adr first le f a = omega arith
word_less W64 adr first le f a = omega arith

takes_by : (w : Width) (adr first last size sel : ℕ) → first % octets w ≡ 0 → last < first + size → (nat_le first adr && nat_le adr last) ≡ true
    → ((adr % octets w == 0) && nat_lt sel (2 ^ octets w)) ≡ true
    → (((adr - first) % octets w == 0) && (nat_lt (adr - first) size && nat_lt sel (2 ^ octets w))) ≡ true
takes_by w adr first last size sel f l c t =
    let m : adr % octets w ≡ 0 = grind (arith, t) in
    let a : first ≤ adr = grind (arith, c) in
    let b : adr ≤ last = grind (arith, c) in
    let s : nat_lt sel (2 ^ octets w) ≡ true = grind (arith, t) in
    let e : (adr - first) % octets w ≡ 0 = word_less w adr first a f m in
    let g : nat_lt (adr - first) size ≡ true = grind arith in
    rw (e, g, s) refl

pub leaf_fits : (d : DeviceState) (wait : ℕ) (stalls : Bool) (first last : ℕ) (slave : Slave) → slave ≡ leaf_slave d wait stalls → first % octets d.bus ≡ 0 → last < first + size_of d.content
    → let part : Part = record { first = first; last = last; slave = slave } in FitsIn d.bus part
leaf_fits d wait stalls first last slave e f l =
    rw e (record {
      shaped = record { all = refl; within = λ r t. omega arith; queues = λ place h. omega arith; owing = tt };
      takes = λ r c t. takes_by d.bus r.adr first last (size_of d.content) r.sel f l c t;
    })

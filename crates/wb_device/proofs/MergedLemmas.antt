-- A word whose lanes come from two words.
use Rattle.std.proofs.Common.{◌≤◌, ℕ, zero, suc, ◌+◌, ◌-◌, ◌/◌, ◌%◌, ◌^◌, ◌<◌, ◌≡◌, ap, arith}
use Rattle.std.proofs.Math.Nat.{pow-suc}
use Rattle.std.proofs.lemmas.Nat.{pow_pos}
use Rattle.eb_base.specs.declared.width.Width.{Width}
use Rattle.eb_base.specs.declared.width.Width.TheVariants.{W8, W16, W32, W64}
use Rattle.eb_base.specs.Width.{octets}
use Rattle.eb_base.specs.Lanes.{selected}
use Rattle.eb_base.proofs.LaneLemmas.{lane}

-- one lane comes from one of the two
one-lt : (sel other a b : ℕ) → sel % 2 + other % 2 ≡ 1 → lane sel a + lane other b < 256
one-lt sel other a b one = grind arith

-- The lanes of one word and the other lanes of another fit together.
pub merged-lt : (lanes sel a b : ℕ) → sel < 2 ^ lanes → selected lanes sel a + selected lanes (2 ^ lanes - 1 - sel) b < 256 ^ lanes
merged-lt zero sel a b lt = omega arith
merged-lt (suc lanes) sel a b lt =
    let p = pow-suc 2 lanes in
    let q = pow-suc 256 lanes in
    let some = pow_pos lanes in
    let half : sel / 2 < 2 ^ lanes = omega arith in
    let rest : (2 ^ suc lanes - 1 - sel) / 2 ≡ 2 ^ lanes - 1 - sel / 2 = omega arith in
    let low = one-lt sel (2 ^ suc lanes - 1 - sel) a b (omega arith) in
    let same : selected lanes ((2 ^ suc lanes - 1 - sel) / 2) (b / 256) ≡ selected lanes (2 ^ lanes - 1 - sel / 2) (b / 256) = ap (λ n. selected lanes n (b / 256)) rest in
    let high = merged-lt lanes (sel / 2) (a / 256) (b / 256) half in
    omega (arith, low, same, high)

-- the same for what two calls give
pub sum-lt : (lanes sel a b others first second : ℕ) → sel < 2 ^ lanes → first ≡ selected lanes sel a → others ≡ 2 ^ lanes - 1 → second ≡ selected lanes (others - sel) b → first + second < 256 ^ lanes
sum-lt lanes sel a b others first second lt one all two =
    let same : selected lanes (others - sel) b ≡ selected lanes (2 ^ lanes - 1 - sel) b = ap (λ n. selected lanes (n - sel) b) all in
    let fits = merged-lt lanes sel a b lt in
    omega (arith, fits, same, one, two)

pub word-lt : (w : Width) → 256 ^ octets w ≤ 2 ^ 64
word-lt W8 = omega arith
word-lt W16 = omega arith
word-lt W32 = omega arith
word-lt W64 = omega arith

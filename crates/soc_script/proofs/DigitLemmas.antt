-- Digits one after another stay within the number that their places allow.
use Rattle.std.proofs.Common.{◌≡◌, ℕ, suc, ◌+◌, ◌*◌, ◌^◌, ◌<◌, ◌≤◌, nat_lt, if◌then◌else◌, Option, Some, None, option_and_then, ap, sym, ◌∙◌, arith}
use Rattle.std.proofs.Math.Nat.{pow-suc, pow-le-pow_right, mul-le-mul_right}
use Rattle.soc_script.specs.Digits.{digit_value, digit_below}

pub base_most : (base n : ℕ) → base ≤ 16 → base * n ≤ 16 * n
base_most base n h = mul-le-mul_right n h

pub one_more : (base n d i : ℕ) → base ≤ 16 → n < 16 ^ i → d < base → base * n + d < 16 ^ (i + 1)
one_more base n d i b h l =
    let e : suc i ≡ i + 1 = omega arith in
    let p : 16 ^ (i + 1) ≡ 16 ^ i * 16 = ap (λ k. 16 ^ k) (sym e) ∙ pow-suc 16 i in
    let m : base * n ≤ 16 * n = base_most base n b in
    omega arith

pub small : (n i : ℕ) → i < 16 → n < 16 ^ i → n < 2 ^ 60
small n i l h =
    let le : i ≤ 15 = omega arith in
    let cap : 16 ^ i ≤ 16 ^ 15 = pow-le-pow_right {n = 16} (omega arith) le in
    omega arith

pub below_by : (base : ℕ) (o : Option ℕ) (d : ℕ) → option_and_then (λ v. if nat_lt v base then Some v else None) o ≡ Some d → d < base
below_by base None d e = grind arith
below_by base (Some v) d e = grind arith

pub digit_below-lt : (base c d : ℕ) → digit_below base c ≡ Some d → d < base
digit_below-lt base c d e = below_by base (digit_value c) d e

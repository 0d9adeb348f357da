-- Digits one after another stay within the number that their places allow.
use Rattle.std.proofs.Common.{◌≡◌, ℕ, suc, ◌+◌, ◌*◌, ◌^◌, ◌<◌, ◌≤◌, Some, ap, sym, ◌∙◌, arith}
use Rattle.std.proofs.Math.Nat.{pow-suc, pow-le-pow_right}
use Rattle.soc_desc.specs.Checks.{digit}

pub one_more : (n d i : ℕ) → n < 16 ^ i → d < 16 → 16 * n + d < 16 ^ (i + 1)
one_more n d i h l =
    let e : suc i ≡ i + 1 = omega arith in
    let p : 16 ^ (i + 1) ≡ 16 ^ i * 16 = ap (λ k. 16 ^ k) (sym e) ∙ pow-suc 16 i in
    omega arith

pub fits : (n i : ℕ) → i < 16 → n < 16 ^ i → n < 2 ^ 60
fits n i l h =
    let le : i ≤ 15 = omega arith in
    let cap : 16 ^ i ≤ 16 ^ 15 = pow-le-pow_right {n = 16} (omega arith) le in
    omega arith

pub digit_below : (c d : ℕ) → digit c ≡ Some d → d < 16
digit_below c d e = grind arith

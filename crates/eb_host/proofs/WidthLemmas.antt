-- A width that two sets have in common.
use Rattle.std.proofs.Common.{◌≡◌, ℕ, ◌==◌, if◌then◌else◌, not, Bool, true, false, true≢false, bit_and, Some, None, refl, sym, ap, ◌∙◌, subst}
use Rattle.std.specs.Int.Bits.{and_zero_l, and_zero_r}
use Rattle.std.proofs.lemmas.Nat.{and_assoc, and_comm}
use Rattle.std.proofs.lemmas.Bool.{eqb-true}
use Rattle.eb_base.specs.declared.width.Width.{Width}
use Rattle.eb_base.specs.declared.width.Width.TheVariants.{W8, W16, W32, W64}
use Rattle.eb_base.specs.Width.{bit}
use Rattle.eb_codec.specs.Rules.{has}
use Rattle.eb_host.specs.Opening.{greatest, common}

-- whether the test of this width says that its bit is not there
abbrev lacks : Width → Bool → Bool → Bool → Bool → Bool
lacks W64 b8 b4 b2 b1 = b8
lacks W32 b8 b4 b2 b1 = b4
lacks W16 b8 b4 b2 b1 = b2
lacks W8 b8 b4 b2 b1 = b1

by_tests : (b8 b4 b2 b1 : Bool) (w : Width) → (if b8 then (if b4 then (if b2 then (if b1 then None else Some W8) else Some W16) else Some W32) else Some W64) ≡ Some w → lacks w b8 b4 b2 b1 ≡ false
by_tests false b4 b2 b1 W64 e = refl
by_tests false b4 b2 b1 W32 e = absurd cc
by_tests false b4 b2 b1 W16 e = absurd cc
by_tests false b4 b2 b1 W8 e = absurd cc
by_tests true false b2 b1 W64 e = absurd cc
by_tests true false b2 b1 W32 e = refl
by_tests true false b2 b1 W16 e = absurd cc
by_tests true false b2 b1 W8 e = absurd cc
by_tests true true false b1 W64 e = absurd cc
by_tests true true false b1 W32 e = absurd cc
by_tests true true false b1 W16 e = refl
by_tests true true false b1 W8 e = absurd cc
by_tests true true true false W64 e = absurd cc
by_tests true true true false W32 e = absurd cc
by_tests true true true false W16 e = absurd cc
by_tests true true true false W8 e = refl
by_tests true true true true w e = absurd cc

lacks_is : (w : Width) (set : ℕ) → lacks w (bit_and set 8 == 0) (bit_and set 4 == 0) (bit_and set 2 == 0) (bit_and set 1 == 0) ≡ (bit_and set (bit w) == 0)
lacks_is W64 set = refl
lacks_is W32 set = refl
lacks_is W16 set = refl
lacks_is W8 set = refl

greatest_has : (set : ℕ) (w : Width) → greatest set ≡ Some w → (bit_and set (bit w) == 0) ≡ false
greatest_has set w e = sym (lacks_is w set) ∙ by_tests (bit_and set 8 == 0) (bit_and set 4 == 0) (bit_and set 2 == 0) (bit_and set 1 == 0) w e

zero_test : (n : ℕ) → n ≡ 0 → (n == 0) ≡ true
zero_test n e = ap (λ (k : ℕ). k == 0) e

not_zero : (a b n : ℕ) → (n == 0) ≡ false → (bit_and a b ≡ 0 → n ≡ 0) → has a b ≡ true
not_zero a b n test none = by (bit_and a b == 0) refl where
  by : (t : Bool) → (bit_and a b == 0) ≡ t → not t ≡ true
  by false e = refl
  by true e = absurd (true≢false (sym (zero_test n (none (eqb-true _ _ e))) ∙ test))

-- the sets have a bit in common, and theirs has the bit of the width
pub sets_meet : (ours theirs : ℕ) (w : Width) → common ours theirs ≡ Some w → has ours theirs ≡ true
sets_meet ours theirs w e =
    not_zero ours theirs (bit_and (bit_and ours theirs) (bit w)) (greatest_has (bit_and ours theirs) w e)
    (λ z. ap (λ (n : ℕ). bit_and n (bit w)) z ∙ and_zero_l (bit w))

pub theirs_has : (ours theirs : ℕ) (w : Width) → common ours theirs ≡ Some w → has (bit w) theirs ≡ true
theirs_has ours theirs w e =
    not_zero (bit w) theirs (bit_and (bit_and ours theirs) (bit w)) (greatest_has (bit_and ours theirs) w e)
    (λ z. and_assoc (bit w) ours theirs ∙ ap (bit_and ours) (and_comm theirs (bit w) ∙ z) ∙ and_zero_r ours)

-- ours has it too
ours_has : (ours theirs : ℕ) (w : Width) → common ours theirs ≡ Some w → has (bit w) ours ≡ true
ours_has ours theirs w e =
    not_zero (bit w) ours (bit_and (bit_and ours theirs) (bit w)) (greatest_has (bit_and ours theirs) w e)
    (λ z. and_comm (bit_and ours theirs) (bit w) ∙ sym (and_assoc theirs (bit w) ours) ∙ ap (λ (n : ℕ). bit_and n theirs) z ∙ and_zero_l theirs)

one_bit : (v w : Width) → has (bit w) (bit v) ≡ true → w ≡ v
one_bit W8 W8 e = refl
one_bit W8 W16 e = absurd cc
one_bit W8 W32 e = absurd cc
one_bit W8 W64 e = absurd cc
one_bit W16 W8 e = absurd cc
one_bit W16 W16 e = refl
one_bit W16 W32 e = absurd cc
one_bit W16 W64 e = absurd cc
one_bit W32 W8 e = absurd cc
one_bit W32 W16 e = absurd cc
one_bit W32 W32 e = refl
one_bit W32 W64 e = absurd cc
one_bit W64 W8 e = absurd cc
one_bit W64 W16 e = absurd cc
one_bit W64 W32 e = absurd cc
one_bit W64 W64 e = refl

-- the one width of a set is the one in common
pub only_width : (ours theirs : ℕ) (v w : Width) → common ours theirs ≡ Some w → ours ≡ bit v → w ≡ v
only_width ours theirs v w e is = one_bit v w (subst (λ (n : ℕ). has (bit w) n ≡ true) is (ours_has ours theirs w e))

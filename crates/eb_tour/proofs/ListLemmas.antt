-- Lists in two parts.
use Rattle.std.proofs.Common.{◌≡◌, List, [], ◌∷◌, ◌++◌, length, refl, arith}

-- the same octets, parted at the same place
pub parted : {A : Type 0} (a b c d : List A) → length a ≡ length c → a ++ b ≡ c ++ d → (a ≡ c) × (b ≡ d)
parted [] b [] d len e = (refl, e)
parted [] b (y ∷ c) d len e = absurd (omega (arith, len))
parted (x ∷ a) b [] d len e = absurd (omega (arith, len))
parted (x ∷ a) b (y ∷ c) d len e =
    let heads : x ≡ y = cc e in
    let tails : a ++ b ≡ c ++ d = cc e in
    let rest = parted a b c d (omega (arith, len)) tails in
    (λ i. heads i ∷ rest.0 i, rest.1)

pub nothing : {A : Type 0} (a : List A) → length a ≡ 0 → a ≡ []
nothing [] e = refl
nothing (x ∷ a) e = absurd (omega (arith, e))

-- What a padded name is.
use Rattle.std.proofs.Common.{◌≡◌, ℕ, zero, suc, ◌-◌, ◌&&◌, true, not, nat_le, List, [], ◌∷◌, ◌++◌, length, replicate, refl, arith}
use Rattle.std.proofs.lemmas.List.{length-append, length-replicate}
use Rattle.std.proofs.lemmas.Bool.{and_parts, and_from, leb-true}
use Rattle.eb_base.specs.Name.{is_printed, are_printed, ends_in_space, is_name, padded, IsPadded}

are_printed-spaces : (n : ℕ) → are_printed (replicate n 0x20) ≡ true
are_printed-spaces zero = refl
are_printed-spaces (suc n) = are_printed-spaces n

-- text with spaces after it
are_printed-padded : (text : List ℕ) (n : ℕ) → are_printed text ≡ true → are_printed (text ++ replicate n 0x20) ≡ true
are_printed-padded [] n printed = are_printed-spaces n
are_printed-padded (c ∷ cs) n printed =
    let parts = and_parts (is_printed c) (are_printed cs) printed in
    and_from (is_printed c) (are_printed (cs ++ replicate n 0x20)) parts.0 (are_printed-padded cs n parts.1)

-- a name, padded
pub IsPadded-padded : (text : List ℕ) → is_name text ≡ true → IsPadded (padded text)
IsPadded-padded text name =
    let outer = and_parts (nat_le (length text) 19 && are_printed text) (not (ends_in_space text)) name in
    let inner = and_parts (nat_le (length text) 19) (are_printed text) outer.0 in
    let fits = leb-true (length text) 19 inner.0 in
    let long : length (padded text) ≡ 19 =
    omega (arith, length-append text (replicate (19 - length text) 0x20), length-replicate {A = ℕ} (19 - length text) 0x20) in
    (long, are_printed-padded text (19 - length text) inner.1)

-- A list by its items.
use Rattle.std.proofs.Common.{◌≡◌, ℕ, zero, suc, ◌+◌, ◌-◌, ◌<◌, ◌≤◌, List, [], ◌∷◌, length, take, drop, map, get_or, refl, sym, ◌∙◌, ap, arith}
use Rattle.std.specs.List.{slice_index_or}
use Rattle.std.proofs.lemmas.List.{take_all}

pub one_item : {X : Type 0} (xs : List X) (a : X) → length xs ≡ 1 → a ≡ get_or xs 0 a → xs ≡ a ∷ []
one_item [] a size p = absurd (omega arith)
one_item (w ∷ []) a size p = λ i. sym p i ∷ []
one_item (w ∷ x ∷ xs) a size p = absurd (omega arith)

pub two_items : {X : Type 0} (xs : List X) (a b : X) → length xs ≡ 2 → a ≡ get_or xs 0 a → b ≡ get_or xs 1 b → xs ≡ a ∷ b ∷ []
two_items [] a b size p q = absurd (omega arith)
two_items (w ∷ []) a b size p q = absurd (omega arith)
two_items (w ∷ x ∷ []) a b size p q = λ i. sym p i ∷ sym q i ∷ []
two_items (w ∷ x ∷ y ∷ xs) a b size p q = absurd (omega arith)

pub three_items : {X : Type 0} (xs : List X) (a b c : X) → length xs ≡ 3 → a ≡ get_or xs 0 a → b ≡ get_or xs 1 b → c ≡ get_or xs 2 c → xs ≡ a ∷ b ∷ c ∷ []
three_items [] a b c size p q r = absurd (omega arith)
three_items (w ∷ []) a b c size p q r = absurd (omega arith)
three_items (w ∷ x ∷ []) a b c size p q r = absurd (omega arith)
three_items (w ∷ x ∷ y ∷ []) a b c size p q r = λ i. sym p i ∷ sym q i ∷ sym r i ∷ []
three_items (w ∷ x ∷ y ∷ z ∷ xs) a b c size p q r = absurd (omega arith)

pub four_items : {X : Type 0} (xs : List X) (a b c d : X) → length xs ≡ 4 → a ≡ get_or xs 0 a → b ≡ get_or xs 1 b → c ≡ get_or xs 2 c → d ≡ get_or xs 3 d → xs ≡ a ∷ b ∷ c ∷ d ∷ []
four_items [] a b c d size p q r s = absurd (omega arith)
four_items (w ∷ []) a b c d size p q r s = absurd (omega arith)
four_items (w ∷ x ∷ []) a b c d size p q r s = absurd (omega arith)
four_items (w ∷ x ∷ y ∷ []) a b c d size p q r s = absurd (omega arith)
four_items (w ∷ x ∷ y ∷ z ∷ []) a b c d size p q r s = λ i. sym p i ∷ sym q i ∷ sym r i ∷ sym s i ∷ []
four_items (w ∷ x ∷ y ∷ z ∷ v ∷ xs) a b c d size p q r s = absurd (omega arith)

-- what is left of a list
left_is : {X : Type 0} (xs : List X) (n k : ℕ) (more : List X) → drop n xs ≡ more → length xs ≡ length more + n → k ≡ length xs - n → take k (drop n xs) ≡ more
left_is xs n k more rest size count = ap (λ (l : List _). take k l) rest ∙ take_all k more (omega (arith, size, count))

pub two_in_front : {X : Type 0} (xs : List X) (a b : X) → 2 ≤ length xs → a ≡ get_or xs 0 a → b ≡ get_or xs 1 b → xs ≡ a ∷ b ∷ take (length xs - 2) (drop 2 xs)
two_in_front [] a b size p q = absurd (omega arith)
two_in_front (w ∷ []) a b size p q = absurd (omega arith)
two_in_front (w ∷ x ∷ xs) a b size p q = let left = left_is (w ∷ x ∷ xs) 2 (length (w ∷ x ∷ xs) - 2) xs refl (omega arith) refl in λ i. sym p i ∷ sym q i ∷ sym left i

pub three_in_front : {X : Type 0} (xs : List X) (a b c : X) → 3 ≤ length xs → a ≡ get_or xs 0 a → b ≡ get_or xs 1 b → c ≡ get_or xs 2 c → xs ≡ a ∷ b ∷ c ∷ take (length xs - 3) (drop 3 xs)
three_in_front [] a b c size p q r = absurd (omega arith)
three_in_front (w ∷ []) a b c size p q r = absurd (omega arith)
three_in_front (w ∷ x ∷ []) a b c size p q r = absurd (omega arith)
three_in_front (w ∷ x ∷ y ∷ xs) a b c size p q r =
    let left = left_is (w ∷ x ∷ y ∷ xs) 3 (length (w ∷ x ∷ y ∷ xs) - 3) xs refl (omega arith) refl in λ i. sym p i ∷ sym q i ∷ sym r i ∷ sym left i

-- the text of an item
pub text_at : {X : Type 0} (f : X → List ℕ) (xs : List X) (i : ℕ) (x : X) (d : List ℕ) → i < length xs → x ≡ get_or xs i x → slice_index_or (map f xs) i d ≡ f x
text_at f [] i x d lt is = absurd (omega (arith, lt))
text_at f (y ∷ ys) zero x d lt is = ap f (sym is)
text_at f (y ∷ ys) (suc i) x d lt is = text_at f ys i x d (omega (arith, lt)) is

pub some_left : {X : Type 0} (f : X → List ℕ) (xs : List X) → (xs ≡ [] → ⊥) → map f xs ≡ [] → ⊥
some_left f [] some none = some refl
some_left f (x ∷ xs) some none = cc

pub no_text : (text : List ℕ) → length text ≡ 0 → text ≡ []
no_text [] none = refl
no_text (c ∷ text) none = absurd (omega (arith, none))

-- Rules kept by a list with one more item, by a name, and by what was checked to be well placed.
use Rattle.std.proofs.Common.{◌≡◌, ℕ, ◌≤◌, ◌==◌, List, [], ◌∷◌, ◌++◌, length, map, Bool, true, false, refl, sym, ap, ◌∙◌, subst, arith}
use Rattle.std.proofs.lemmas.Bool.Decides.{nat_tests}
use Rattle.std.proofs.lemmas.Bool.{and_parts, and_from}
use Rattle.eb_base.proofs.NameLemmas.{IsPadded-padded}
use Rattle.std.specs.List.{list_all}
use Rattle.eb_base.specs.Name.{is_name, padded, are_printed}
use Rattle.soc_desc.specs.declared.description.ItemDescription.{ItemDescription}
use Rattle.soc_desc.specs.Accepted.{all_of, is_32, greatest, item_fields, item_levels, is_padded}

all_of_push : (bs : List Bool) (b : Bool) → all_of bs ≡ true → b ≡ true → all_of (bs ++ b ∷ []) ≡ true
all_of_push [] true h k = refl
all_of_push [] false h k = k
all_of_push (true ∷ bs) b h k = all_of_push bs b h k
all_of_push (false ∷ bs) b h k = h

pub list_all_push : {A : Type 0} (p : A → Bool) (xs : List A) (x : A) → list_all p xs ≡ true → p x ≡ true → list_all p (xs ++ x ∷ []) ≡ true
list_all_push p [] x h k = and_from (p x) true k refl
list_all_push p (y ∷ ys) x h k =
    let both = and_parts (p y) (list_all p ys) h in
    and_from (p y) (list_all p (ys ++ x ∷ [])) both.0 (list_all_push p ys x both.1 k)

map_push : {A B : Type 0} (f : A → B) (xs : List A) (x : A) → map f (xs ++ x ∷ []) ≡ map f xs ++ f x ∷ []
map_push f [] x = refl
map_push f (y ∷ ys) x = ap (λ zs. f y ∷ zs) (map_push f ys x)

pub fields_push : (is : List ItemDescription) (x : ItemDescription) → all_of (map (item_fields is_32) is) ≡ true → item_fields is_32 x ≡ true → all_of (map (item_fields is_32) (is ++ x ∷ [])) ≡ true
fields_push is x h k = ap all_of (map_push (item_fields is_32) is x) ∙ all_of_push (map (item_fields is_32) is) (item_fields is_32 x) h k

greatest_push : (ns : List ℕ) (n most : ℕ) → greatest ns ≤ most → n ≤ most → greatest (ns ++ n ∷ []) ≤ most
greatest_push [] n most h k = omega arith
greatest_push (m ∷ ms) n most h k =
    let rest : greatest ms ≤ most = omega arith in
    let more = greatest_push ms n most rest k in
    omega arith

pub levels_push : (is : List ItemDescription) (x : ItemDescription) (most : ℕ) → greatest (map item_levels is) ≤ most → item_levels x ≤ most → greatest (map item_levels (is ++ x ∷ [])) ≤ most
levels_push is x most h k = subst (λ ns. greatest ns ≤ most) (sym (map_push item_levels is x)) (greatest_push (map item_levels is) (item_levels x) most h k)

-- ---- names

-- a name in its 19 octets, as a test
pub name_padded : (t : List ℕ) → is_name t ≡ true → is_padded (padded t) ≡ true
name_padded t h =
    let whole = IsPadded-padded t h in
    let long : (length (padded t) == 19) ≡ true = grind (arith, nat_tests, whole.0) in
    and_from (length (padded t) == 19) (are_printed (padded t)) long whole.1

-- what is the padded form of a name is a name in its 19 octets
pub padded_is : (t n : List ℕ) → is_name t ≡ true → n ≡ padded t → is_padded n ≡ true
padded_is t n h e = subst (λ (octets : List ℕ). is_padded octets ≡ true) (sym e) (name_padded t h)

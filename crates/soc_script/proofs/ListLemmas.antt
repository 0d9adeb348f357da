-- Lists of values that are there or not.
use Rattle.std.proofs.Common.{◌≡◌, ℕ, ◌≤◌, nat_le, ◌&&◌, if◌then◌else◌, Bool, true, false, List, [], ◌∷◌, ◌++◌, length, map, Option, Some, None, option_map, ap, sym, refl, ◌∙◌, arith}
use Rattle.std.proofs.lemmas.List.{map-append, length-map}
use Rattle.std.proofs.lemmas.Option.{none-some, same_Some}
use Rattle.eb_base.specs.declared.width.Width.{Width}
use Rattle.wb_signals.specs.Request.{Request}
use Rattle.soc_script.specs.Script.{all_some, op_of, ops_of}

pub all_some-map : {A : Type 0} (xs : List A) → all_some (map Some xs) ≡ Some xs
all_some-map [] = refl
all_some-map (x ∷ xs) = ap (option_map (λ more. x ∷ more)) (all_some-map xs)

pub all_some-none : {A : Type 0} (xs ys : List (Option A)) → all_some (xs ++ None ∷ ys) ≡ None
all_some-none [] ys = refl
all_some-none (None ∷ xs) ys = refl
all_some-none (Some x ∷ xs) ys = ap (option_map (λ more. x ∷ more)) (all_some-none xs ys)

-- what a Some holds
pub the_same : {A : Type 0} (x y : A) → Some x ≡ Some y → x ≡ y
the_same x y e = same_Some x y e

-- values are told by what they are when all are there
pub same_values : {A : Type 0} (xs ys : List A) → map Some xs ≡ map Some ys → xs ≡ ys
same_values xs ys e = the_same xs ys (sym (all_some-map xs) ∙ ap all_some e ∙ all_some-map ys)

-- one value more
pub more_values : {A B : Type 0} (f : A → Option B) (xs : List A) (x : A) (ys : List B) (y : B) → map f xs ≡ map Some ys → f x ≡ Some y → map f (xs ++ x ∷ []) ≡ map Some (ys ++ y ∷ [])
more_values f xs x ys y e h = map-append f xs (x ∷ []) ∙ ap (λ k. k ++ f x ∷ []) e ∙ ap (λ k. map Some ys ++ k ∷ []) h ∙ sym (map-append Some ys (y ∷ []))

-- as many values
pub as_many : {A B : Type 0} (f : A → Option B) (xs : List A) (ys : List B) → map f xs ≡ map Some ys → length xs ≡ length ys
as_many {A} {B} f xs ys e =
    let m : length (map f xs) ≡ length (map Some ys) = ap length e in
    sym (length-map xs f) ∙ m ∙ length-map ys Some

-- a value that isn't there leaves none
pub none_there : {A B : Type 0} (f : A → Option B) (xs : List A) (x : A) (more : List A) (ys : List B) → f x ≡ None → map f (xs ++ x ∷ more) ≡ map Some ys → ⊥
none_there f xs x more ys h e =
    let n : all_some (map f (xs ++ x ∷ more)) ≡ None = ap all_some (map-append f xs (x ∷ more) ∙ ap (λ k. map f xs ++ k ∷ map f more) h) ∙ all_some-none (map f xs) (map f more) in
    let s : all_some (map f (xs ++ x ∷ more)) ≡ Some ys = ap all_some e ∙ all_some-map ys in
    none-some ys (sym n ∙ s)

-- ---- the operations of a line

module _ (bus : Width) (before : List (List ℕ)) (ops : List Request) (are : map (op_of bus) before ≡ map Some ops) where
  -- a word that is no operation
  pub no_op : (word : List ℕ) (more : List (List ℕ)) → op_of bus word ≡ None → ops_of bus (before ++ word ∷ more) ≡ None
  no_op word more e =
      let n : all_some (map (op_of bus) (before ++ word ∷ more)) ≡ None =
      ap all_some (map-append (op_of bus) before (word ∷ more) ∙ ap (λ k. map (op_of bus) before ++ k ∷ map (op_of bus) more) e) ∙ all_some-none (map (op_of bus) before) (map (op_of bus) more) in
      by_test (nat_le 1 (length (before ++ word ∷ more)) && nat_le (length (before ++ word ∷ more)) 255) n
    where
      by_test : (b : Bool) {o : Option (List Request)} → o ≡ None → (if b then o else None) ≡ None
      by_test true e = e
      by_test false e = refl

  -- the last word was read
  pub all_ops : (words : List (List ℕ)) → words ≡ before → 1 ≤ length ops → length before ≤ 255 → ops_of bus words ≡ Some ops
  all_ops words same some most =
      let n : length before ≡ length ops = as_many (op_of bus) before ops are in
      let a : all_some (map (op_of bus) before) ≡ Some ops = ap all_some are ∙ all_some-map ops in
      let t : nat_le 1 (length before) && nat_le (length before) 255 ≡ true = grind arith in
      ap (ops_of bus) same ∙ rw t a

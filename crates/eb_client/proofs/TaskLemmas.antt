-- Words that are no task, and words that are one.
use Rattle.std.proofs.Common.{◌≡◌, ℕ, ◌^◌, ◌<◌, List, [], ◌∷◌, codes, sym, ◌∙◌, subst}
use Rattle.eb_base.specs.declared.width.Width.{Width}
use Rattle.eb_base.specs.Width.{octets}
use Rattle.eb_client.specs.Place.{SaysNumber, IsPlace}
use Rattle.eb_client.specs.ClientWords.{LsTask, ReadTask, WriteTask, IsRead, IsWrite, OneTask}
use Rattle.eb_client.proofs.NumberLemmas.{number_once}
use Rattle.eb_client.proofs.PlaceLemmas.{place_once}

pub no_read : (words : List (List ℕ)) (a b w : List ℕ) → words ≡ a ∷ b ∷ w ∷ [] → ((place : ℕ) (width : Width) → IsPlace w place width → ⊥)
    → (address : List ℕ) (place : ℕ) (width : Width) → IsRead words address place width → ⊥
no_read words a b w are none address place width is =
    let same : a ∷ b ∷ w ∷ [] ≡ codes "read" ∷ address ∷ is.place_word ∷ [] = sym are ∙ is.words_are in
    let word : is.place_word ≡ w = cc same in
    none place width (subst (λ (l : List ℕ). IsPlace l place width) word is.places)

pub no_write : (words : List (List ℕ)) (a b w x : List ℕ) → words ≡ a ∷ b ∷ w ∷ x ∷ [] → ((place : ℕ) (width : Width) → IsPlace w place width → ⊥)
    → (address : List ℕ) (place : ℕ) (width : Width) (value : ℕ) → IsWrite words address place width value → ⊥
no_write words a b w x are none address place width value is =
    let same : a ∷ b ∷ w ∷ x ∷ [] ≡ codes "write" ∷ address ∷ is.place_word ∷ is.value_word ∷ [] = sym are ∙ is.words_are in
    let word : is.place_word ≡ w = cc same in
    none place width (subst (λ (l : List ℕ). IsPlace l place width) word is.places)

pub no_value : (words : List (List ℕ)) (a b w x : List ℕ) (found : ℕ) (found_width : Width) → words ≡ a ∷ b ∷ w ∷ x ∷ [] → IsPlace w found found_width
    → ((value : ℕ) → SaysNumber x value → value < 256 ^ octets found_width → ⊥) → (address : List ℕ) (place : ℕ) (width : Width) (value : ℕ) → IsWrite words address place width value → ⊥
no_value words a b w x found found_width are places none address place width value is =
    let same : a ∷ b ∷ w ∷ x ∷ [] ≡ codes "write" ∷ address ∷ is.place_word ∷ is.value_word ∷ [] = sym are ∙ is.words_are in
    let word : is.place_word ≡ w = cc same in
    let number : is.value_word ≡ x = cc same in
    let once = place_once w place found width found_width (subst (λ (l : List ℕ). IsPlace l place width) word is.places) places in
    none value (subst (λ (l : List ℕ). SaysNumber l value) number is.says_value) (subst (λ (v : Width). value < 256 ^ octets v) once.1 is.fits)

-- ---- one task

one_read : (words : List (List ℕ)) (address other : List ℕ) (p q : ℕ) (v w : Width) → IsRead words address p v → IsRead words other q w → ReadTask address p v ≡ ReadTask other q w
one_read words address other p q v w x y =
    let same : codes "read" ∷ address ∷ x.place_word ∷ [] ≡ codes "read" ∷ other ∷ y.place_word ∷ [] = sym x.words_are ∙ y.words_are in
    let first : address ≡ other = cc same in
    let word : x.place_word ≡ y.place_word = cc same in
    let once = place_once y.place_word p q v w (subst (λ (l : List ℕ). IsPlace l p v) word x.places) y.places in
    λ i. ReadTask (first i) (once.0 i) (once.1 i)

one_write : (words : List (List ℕ)) (address other : List ℕ) (p q : ℕ) (v w : Width) (n m : ℕ) → IsWrite words address p v n → IsWrite words other q w m → WriteTask address p v n ≡ WriteTask other q w m
one_write words address other p q v w n m x y =
    let same : codes "write" ∷ address ∷ x.place_word ∷ x.value_word ∷ [] ≡ codes "write" ∷ other ∷ y.place_word ∷ y.value_word ∷ [] = sym x.words_are ∙ y.words_are in
    let first : address ≡ other = cc same in
    let word : x.place_word ≡ y.place_word = cc same in
    let number : x.value_word ≡ y.value_word = cc same in
    let once = place_once y.place_word p q v w (subst (λ (l : List ℕ). IsPlace l p v) word x.places) y.places in
    let value = number_once y.value_word n m (subst (λ (l : List ℕ). SaysNumber l n) number x.says_value) y.says_value in
    λ i. WriteTask (first i) (once.0 i) (once.1 i) (value i)

pub one_task : OneTask
one_task words (LsTask a) (LsTask b) x y =
    let same : codes "ls" ∷ a ∷ [] ≡ codes "ls" ∷ b ∷ [] = sym x.words_are ∙ y.words_are in
    let first : a ≡ b = cc same in
    λ i. LsTask (first i)
one_task words (LsTask a) (ReadTask b q w) x y = let same : codes "ls" ∷ a ∷ [] ≡ codes "read" ∷ b ∷ y.place_word ∷ [] = sym x.words_are ∙ y.words_are in cc same
one_task words (LsTask a) (WriteTask b q w m) x y = let same : codes "ls" ∷ a ∷ [] ≡ codes "write" ∷ b ∷ y.place_word ∷ y.value_word ∷ [] = sym x.words_are ∙ y.words_are in cc same
one_task words (ReadTask a p v) (LsTask b) x y = let same : codes "read" ∷ a ∷ x.place_word ∷ [] ≡ codes "ls" ∷ b ∷ [] = sym x.words_are ∙ y.words_are in cc same
one_task words (ReadTask a p v) (ReadTask b q w) x y = one_read words a b p q v w x y
one_task words (ReadTask a p v) (WriteTask b q w m) x y =
    let same : codes "read" ∷ a ∷ x.place_word ∷ [] ≡ codes "write" ∷ b ∷ y.place_word ∷ y.value_word ∷ [] = sym x.words_are ∙ y.words_are in cc same
one_task words (WriteTask a p v n) (LsTask b) x y = let same : codes "write" ∷ a ∷ x.place_word ∷ x.value_word ∷ [] ≡ codes "ls" ∷ b ∷ [] = sym x.words_are ∙ y.words_are in cc same
one_task words (WriteTask a p v n) (ReadTask b q w) x y =
    let same : codes "write" ∷ a ∷ x.place_word ∷ x.value_word ∷ [] ≡ codes "read" ∷ b ∷ y.place_word ∷ [] = sym x.words_are ∙ y.words_are in cc same
one_task words (WriteTask a p v n) (WriteTask b q w m) x y = one_write words a b p q v w n m x y

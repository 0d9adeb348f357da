-- The text of a list whose items are numbered, on its way to a page.
use Rattle.std.proofs.Common.{◌≡◌, ℕ, suc, ◌+◌, ◌<◌, List, [], ◌∷◌, ◌++◌, length, add-one, get_or, drop, Result, Ok, Err, sym, ap, ◌∙◌, subst, append_assoc}
use Rattle.std.specs.Prelude.{⊤}
use Rattle.std.specs.Result.{IsErr}
use Rattle.std.proofs.Math.Seq.{drop-cons, drop-length}
use Rattle.std.proofs.lemmas.List.{append-nil}
use Rattle.eb_io.specs.Reading.{Reading}
use Rattle.eb_io.specs.Writing.{Writing}
use Rattle.eb_io.specs.Page.{Paged}
use Rattle.eb_io.specs.declared.sink.WriteFault.{WriteFault}
use Rattle.eb_io.proofs.PageLemmas.{Paging, paging_on, paging_wrong, paging_all}
use Rattle.soc_wave.specs.Text.{holder_text, holder_texts}
use Rattle.std.specs.Prelude.{Option}

module _ {S : Type 0} (writing : S → Writing) (reading : S → Reading) {X : Type 0} (one : ℕ → X → List ℕ) (text_from : ℕ → List X → List ℕ)
    (none : (n : ℕ) → text_from n [] ≡ []) (cons : (n : ℕ) (x : X) (xs : List X) → text_from n (x ∷ xs) ≡ one n x ++ text_from (suc n) xs) where
  -- the item i is the next part
  next_numbered : (old mid : S) (page held text : List ℕ) (xs : List X) (i : ℕ) (x : X) (piece : List ℕ) → i < length xs → x ≡ get_or xs i x → piece ≡ one i x
      → Paging writing reading old mid page held text (text_from i (drop i xs)) → Paging writing reading old mid page held text (piece ++ text_from (i + 1) (drop (i + 1) xs))
  next_numbered old mid page held text xs i x piece lt is same went =
      let ahead : drop i xs ≡ x ∷ drop (suc i) xs = drop-cons xs i x lt ∙ ap (λ (y : X). y ∷ drop (suc i) xs) (sym is) in
      let parts : text_from i (drop i xs) ≡ piece ++ text_from (i + 1) (drop (i + 1) xs) =
      rw add-one (ap (text_from i) ahead ∙ cons i x (drop (suc i) xs) ∙ ap (λ (l : List ℕ). l ++ text_from (suc i) (drop (suc i) xs)) (sym same)) in
      subst (λ (l : List ℕ). Paging writing reading old mid page held text l) parts went

  pub paging_numbered : (old mid new : S) (page held next text : List ℕ) (xs : List X) (i : ℕ) (x : X) (piece : List ℕ) → i < length xs → x ≡ get_or xs i x → piece ≡ one i x
      → Paging writing reading old mid page held text (text_from i (drop i xs)) → Paged writing reading mid new held next piece (Ok tt)
      → Paging writing reading old new page next text (text_from (i + 1) (drop (i + 1) xs))
  paging_numbered old mid new page held next text xs i x piece lt is same went paged =
      paging_on writing reading old mid new page held next text piece (text_from (i + 1) (drop (i + 1) xs)) (next_numbered old mid page held text xs i x piece lt is same went) paged

  pub wrong_paging_numbered : (old mid new : S) (page held next text : List ℕ) (xs : List X) (i : ℕ) (x : X) (piece : List ℕ) (fault : WriteFault) (result : Result ⊤ WriteFault) → IsErr result
      → i < length xs → x ≡ get_or xs i x → piece ≡ one i x → Paging writing reading old mid page held text (text_from i (drop i xs))
      → Paged writing reading mid new held next piece (Err fault) → Paged writing reading old new page next text result
  wrong_paging_numbered old mid new page held next text xs i x piece fault result failed lt is same went paged =
      paging_wrong writing reading old mid new page held next text piece (text_from (i + 1) (drop (i + 1) xs)) fault result failed
      (next_numbered old mid page held text xs i x piece lt is same went) paged

  -- no item is left
  pub all_numbered : (old new : S) (page held text : List ℕ) (xs : List X) (n : ℕ) → n ≡ length xs → Paging writing reading old new page held text (text_from n (drop n xs))
      → Paged writing reading old new page held text (Ok tt)
  all_numbered old new page held text xs n is went =
      let ends : text_from n (drop n xs) ≡ [] = ap (λ (k : ℕ). text_from n (drop k xs)) is ∙ ap (text_from n) (drop-length xs) ∙ none n in
      paging_all writing reading old new page held text (text_from n (drop n xs)) ends went

-- ---- holders, one behind the other

pub holders_on : (before now all : List ℕ) (holders : List (Option ℕ)) (i : ℕ) (holder : Option ℕ) → i < length holders → holder ≡ get_or holders i holder
    → now ≡ before ++ holder_text holder → before ++ holder_texts (drop i holders) ≡ all → now ++ holder_texts (drop (i + 1) holders) ≡ all
holders_on before now all holders i holder lt is added parts =
    let ahead : drop i holders ≡ holder ∷ drop (i + 1) holders =
    rw add-one (drop-cons holders i holder lt ∙ ap (λ (y : Option ℕ). y ∷ drop (suc i) holders) (sym is)) in
    ap (λ (l : List ℕ). l ++ holder_texts (drop (i + 1) holders)) added
    ∙ append_assoc before (holder_text holder) (holder_texts (drop (i + 1) holders))
    ∙ ap (λ l. before ++ holder_texts l) (sym ahead) ∙ parts

pub holders_end : (now all : List ℕ) (holders : List (Option ℕ)) (n : ℕ) → n ≡ length holders → now ++ holder_texts (drop n holders) ≡ all → now ≡ all
holders_end now all holders n is parts =
    let ends : holder_texts (drop n holders) ≡ [] = ap (λ (k : ℕ). holder_texts (drop k holders)) is ∙ ap holder_texts (drop-length holders) in
    sym (append-nil now) ∙ ap (λ (l : List ℕ). now ++ l) (sym ends) ∙ parts

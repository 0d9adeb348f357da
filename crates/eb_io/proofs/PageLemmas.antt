-- How texts that are put on a page go out.
use Rattle.std.proofs.Common.{◌≡◌, ℕ, ◌+◌, ◌<◌, suc, List, [], ◌∷◌, ◌++◌, length, add-one, get_or, drop, Result, Ok, Err, refl, sym, ap, ◌∙◌, subst, append_assoc}
use Rattle.std.specs.Prelude.{⊤}
use Rattle.std.specs.Result.{IsErr}
use Rattle.std.proofs.lemmas.List.{append-nil}
use Rattle.std.proofs.Math.Seq.{drop-cons}
use Rattle.eb_io.specs.Reading.{Reading}
use Rattle.eb_io.specs.Writing.{Writing, Wrote}
use Rattle.eb_io.specs.Page.{SentFront, SendsPage, Paged}
use Rattle.eb_io.specs.declared.sink.WriteFault.{WriteFault}
use Rattle.eb_io.proofs.WritingLemmas.{Went, went_none, went_on, went_wrong, went_last}

module _ {S : Type 0} (writing : S → Writing) (reading : S → Reading) where
  -- a front of the text was put on the page, and the rest is left
  abbrev pub Paging : S → S → List ℕ → List ℕ → List ℕ → List ℕ → Type 0
  Paging old new page held text rest = Went writing reading old new (page ++ text) (held ++ rest)

  -- nothing yet
  pub paging_none : (s : S) (page text : List ℕ) → Paging s s page page text text
  paging_none s page text = went_none writing reading s (page ++ text)

  -- one more part
  pub paging_on : (old mid new : S) (page held next text part rest : List ℕ) → Paging old mid page held text (part ++ rest) → Paged writing reading mid new held next part (Ok tt)
      → Paging old new page next text rest
  paging_on old mid new page held next text part rest went paged =
      let sent : SentFront (writing mid) (writing new) (held ++ part) next = paged.all in
      let parts : held ++ (part ++ rest) ≡ sent.front ++ (next ++ rest) =
      sym (append_assoc held part rest) ∙ ap (λ (l : List ℕ). l ++ rest) sent.parts ∙ append_assoc sent.front next rest in
      went_on writing reading old mid new (page ++ text) sent.front (next ++ rest) (subst (λ (l : List ℕ). Went writing reading old mid (page ++ text) l) parts went)
      (record { all = sent.took; beside = paged.beside })

  -- a part failed, and the fault is handed on
  fault_of : (old new : S) (page held text : List ℕ) (result : Result ⊤ WriteFault) → IsErr result → Wrote writing reading old new (page ++ text) result
      → Paged writing reading old new page held text result
  fault_of old new page held text (Ok done) is wrote = absurd (cc)
  fault_of old new page held text (Err fault) is wrote = record { all = wrote.all; beside = wrote.beside }

  pub paging_wrong : (old mid new : S) (page held next text part rest : List ℕ) (fault : WriteFault) (result : Result ⊤ WriteFault) → IsErr result
      → Paging old mid page held text (part ++ rest) → Paged writing reading mid new held next part (Err fault) → Paged writing reading old new page next text result
  paging_wrong old mid new page held next text part rest fault result is went paged =
      fault_of old new page next text result is (went_wrong writing reading old mid new (page ++ text) (held ++ part) rest fault result is
      (subst (λ (l : List ℕ). Went writing reading old mid (page ++ text) l) (sym (append_assoc held part rest)) went) (record { all = paged.all; beside = paged.beside }))

  -- nothing is left
  pub paging_all : (old new : S) (page held text rest : List ℕ) → rest ≡ [] → Paging old new page held text rest → Paged writing reading old new page held text (Ok tt)
  paging_all old new page held text rest none went = record {
    all = record { front = went.front; parts = went.whole ∙ ap (λ (l : List ℕ). went.front ++ (held ++ l)) none ∙ ap (λ (l : List ℕ). went.front ++ l) (append-nil held); took = went.took };
    beside = went.beside;
  }

  -- the last part
  pub paging_last : (old mid new : S) (page held next text part : List ℕ) (result : Result ⊤ WriteFault) → Paging old mid page held text part → Paged writing reading mid new held next part result
      → Paged writing reading old new page next text result
  paging_last old mid new page held next text part (Ok done) went paged =
      paging_all old new page next text [] refl (paging_on old mid new page held next text part []
      (subst (λ (l : List ℕ). Paging old mid page held text l) (sym (append-nil part)) went) paged)
  paging_last old mid new page held next text part (Err fault) went paged =
      paging_wrong old mid new page held next text part [] fault (Err fault) refl (subst (λ (l : List ℕ). Paging old mid page held text l) (sym (append-nil part)) went) paged

  -- ---- a text in two parts

  -- the first failed
  pub wrong_first_paged : (old new : S) (page held text part rest : List ℕ) (fault : WriteFault) (result : Result ⊤ WriteFault) → IsErr result → part ++ rest ≡ text
      → Paged writing reading old new page held part (Err fault) → Paged writing reading old new page held text result
  wrong_first_paged old new page held text part rest fault result is parts paged =
      paging_wrong old old new page page held text part rest fault result is
      (subst (λ (l : List ℕ). Paging old old page page l (part ++ rest)) parts (paging_none old page (part ++ rest))) paged

  -- or it was put
  pub paged_both : (old mid new : S) (page held next text part rest : List ℕ) (result : Result ⊤ WriteFault) → part ++ rest ≡ text
      → Paged writing reading old mid page held part (Ok tt) → Paged writing reading mid new held next rest result → Paged writing reading old new page next text result
  paged_both old mid new page held next text part rest result parts first more =
      paging_last old mid new page held next text rest result (paging_on old old mid page page held text part rest
      (subst (λ (l : List ℕ). Paging old old page page l (part ++ rest)) parts (paging_none old page (part ++ rest))) first) more

  -- ---- a page that began empty goes out

  -- a text failed to be put
  pub wrong_page : (old new : S) (page held text : List ℕ) (fault : WriteFault) (result : Result ⊤ WriteFault) → IsErr result → page ≡ []
      → Paged writing reading old new page held text (Err fault) → Wrote writing reading old new text result
  wrong_page old new page held text fault result is none paged =
      went_wrong writing reading old old new text text [] fault result is
      (subst (λ (l : List ℕ). Went writing reading old old text l) (sym (append-nil text)) (went_none writing reading old text))
      (record { all = subst (λ (l : List ℕ). SendsPage (writing old) (writing new) (l ++ text) held (Err fault)) none paged.all; beside = paged.beside })

  -- or the rest of it is written
  pub flushed : (old mid new : S) (page held text : List ℕ) (result : Result ⊤ WriteFault) → page ≡ []
      → Paged writing reading old mid page held text (Ok tt) → Wrote writing reading mid new held result → Wrote writing reading old new text result
  flushed old mid new page held text result none paged wrote =
      let sent : SentFront (writing old) (writing mid) text held = subst (λ (l : List ℕ). SendsPage (writing old) (writing mid) (l ++ text) held (Ok tt)) none paged.all in
      went_last writing reading old mid new text held result (record { front = sent.front; whole = sent.parts; took = sent.took; beside = paged.beside }) wrote

  -- ---- the text of a list, item by item

  module _ {X : Type 0} (one : X → List ℕ) (text_of : List X → List ℕ) (cons : (x : X) (xs : List X) → text_of (x ∷ xs) ≡ one x ++ text_of xs) where
    -- the item i is the next part
    next_part : (xs : List X) (i : ℕ) (x : X) (piece : List ℕ) → i < length xs → x ≡ get_or xs i x → piece ≡ one x
        → text_of (drop i xs) ≡ piece ++ text_of (drop (i + 1) xs)
    next_part xs i x piece lt is same =
        let ahead : drop i xs ≡ x ∷ drop (i + 1) xs = rw add-one (drop-cons xs i x lt ∙ ap (λ (y : X). y ∷ drop (suc i) xs) (sym is)) in
        ap text_of ahead ∙ cons x (drop (i + 1) xs) ∙ ap (λ (l : List ℕ). l ++ text_of (drop (i + 1) xs)) (sym same)

    pub paging_item : (old mid new : S) (page held next : List ℕ) (xs : List X) (i : ℕ) (x : X) (piece : List ℕ) → i < length xs → x ≡ get_or xs i x → piece ≡ one x
        → Paging old mid page held (text_of xs) (text_of (drop i xs)) → Paged writing reading mid new held next piece (Ok tt)
        → Paging old new page next (text_of xs) (text_of (drop (i + 1) xs))
    paging_item old mid new page held next xs i x piece lt is same went paged =
        paging_on old mid new page held next (text_of xs) piece (text_of (drop (i + 1) xs))
        (subst (λ (l : List ℕ). Paging old mid page held (text_of xs) l) (next_part xs i x piece lt is same) went) paged

    pub wrong_paging_item : (old mid new : S) (page held next : List ℕ) (xs : List X) (i : ℕ) (x : X) (piece : List ℕ) (fault : WriteFault) (result : Result ⊤ WriteFault) → IsErr result
        → i < length xs → x ≡ get_or xs i x → piece ≡ one x → Paging old mid page held (text_of xs) (text_of (drop i xs)) → Paged writing reading mid new held next piece (Err fault)
        → Paged writing reading old new page next (text_of xs) result
    wrong_paging_item old mid new page held next xs i x piece fault result failed lt is same went paged =
        paging_wrong old mid new page held next (text_of xs) piece (text_of (drop (i + 1) xs)) fault result failed
        (subst (λ (l : List ℕ). Paging old mid page held (text_of xs) l) (next_part xs i x piece lt is same) went) paged

  -- ---- a text for which there was no room

  -- what stood on the page went out, and the text was put on the empty page
  pub paged_next : (old mid new : S) (page none held text : List ℕ) (result : Result ⊤ WriteFault) → none ≡ [] → Wrote writing reading old mid page (Ok tt)
      → Paged writing reading mid new none held text result → Paged writing reading old new page held text result
  paged_next old mid new page none held text result is wrote paged =
      paging_last old mid new page none held text text result
      (subst (λ (l : List ℕ). Went writing reading old mid (page ++ text) (l ++ text)) (sym is) (went_on writing reading old old mid (page ++ text) page text (went_none writing reading old (page ++ text)) wrote)) paged

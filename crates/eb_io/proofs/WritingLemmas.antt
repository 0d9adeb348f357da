-- How a text goes out part by part.
use Rattle.std.proofs.Common.{◌≡◌, ℕ, ◌+◌, ◌-◌, ◌^◌, ◌<◌, suc, List, [], ◌∷◌, ◌++◌, length, add-one, get_or, take, drop, min, max, Result, Ok, Err, refl, sym, ap, ◌∙◌, subst, arith, append_assoc}
use Rattle.std.specs.Prelude.{⊤}
use Rattle.std.specs.Result.{IsErr}
use Rattle.std.proofs.lemmas.List.{length-append, append-nil, take-append-drop}
use Rattle.std.proofs.Math.Seq.{drop-cons}
use Rattle.eb_io.specs.Counts.{Rose}
use Rattle.eb_io.specs.Reading.{Reading}
use Rattle.eb_io.specs.Writing.{Told, Nothing, Count, Octets, told_more, Writing, Took, WroteFront, WritesAll, Wrote}
use Rattle.eb_io.specs.declared.sink.WriteFault.{WriteFault}

-- ---- what is told

counted_none : (n : ℕ) → n ≡ max n (min (n + 0) (2 ^ 64 - 1))
counted_none n = omega arith

counted_on : (n x y z : ℕ) → z ≡ x + y
    → max (max n (min (n + x) (2 ^ 64 - 1))) (min (max n (min (n + x) (2 ^ 64 - 1)) + y) (2 ^ 64 - 1)) ≡ max n (min (n + z) (2 ^ 64 - 1))
counted_on n x y z is = omega (arith, is)

told_none : (told : Told) → told ≡ told_more told []
told_none Nothing = refl
told_none (Count n) = ap (λ (k : ℕ). Count k) (counted_none n)
told_none (Octets xs) = ap (λ (l : List ℕ). Octets l) (sym (append-nil xs))

pub told_on : (told : Told) (xs ys : List ℕ) → told_more (told_more told xs) ys ≡ told_more told (xs ++ ys)
told_on Nothing xs ys = refl
told_on (Count n) xs ys = ap (λ (k : ℕ). Count k) (counted_on n (length xs) (length ys) (length (xs ++ ys)) (length-append xs ys))
told_on (Octets before) xs ys = ap (λ (l : List ℕ). Octets l) (append_assoc before xs ys)

-- ---- parts that went out, one after the other

pub took_none : (w : Writing) → Took w w []
took_none w = record { written = told_none w.written; faults = refl }

pub took_more : (old mid new : Writing) (xs ys : List ℕ) → Took old mid xs → Took mid new ys → Took old new (xs ++ ys)
took_more old mid new xs ys first next = record {
  written = next.written ∙ ap (λ (t : Told). told_more t ys) first.written ∙ told_on old.written xs ys;
  faults = next.faults ∙ first.faults;
}

-- a part of which a front went out, behind one that went out whole
failed_on : (old mid new : Writing) (xs ys rest : List ℕ) → Took old mid xs → WroteFront mid new ys → WroteFront old new (xs ++ (ys ++ rest))
failed_on old mid new xs ys rest took failed = record {
  front = xs ++ failed.front;
  back = failed.back ++ rest;
  parts = ap (λ (l : List ℕ). xs ++ (l ++ rest)) failed.parts ∙ ap (λ (l : List ℕ). xs ++ l) (append_assoc failed.front failed.back rest)
      ∙ sym (append_assoc xs failed.front (failed.back ++ rest));
  some_left = simp (length-append) (omega (arith, failed.some_left));
  written = failed.written ∙ ap (λ (t : Told). told_more t failed.front) took.written ∙ told_on old.written xs failed.front;
  rose = subst (λ (n : ℕ). Rose n new.faults) took.faults failed.rose;
}

-- the last part: by its answer the whole did
ends : (old mid new : Writing) (xs ys : List ℕ) (result : Result ⊤ WriteFault) → Took old mid xs → WritesAll mid new ys result → WritesAll old new (xs ++ ys) result
ends old mid new xs ys (Ok done) took writes = took_more old mid new xs ys took writes
ends old mid new xs ys (Err fault) took writes =
    subst (λ (l : List ℕ). WroteFront old new (xs ++ l)) (append-nil ys) (failed_on old mid new xs ys [] took writes)

-- ---- a text on its way to a sink

module _ {S : Type 0} (writing : S → Writing) (reading : S → Reading) where
  -- a front of the text went out, and the rest is left
  pub record Went (old new : S) (text rest : List ℕ) : Type 0 where
    pub front : List ℕ
    pub whole : text ≡ front ++ rest
    pub took : Took (writing old) (writing new) front
    pub beside : reading new ≡ reading old

  -- nothing yet
  pub went_none : (s : S) (text : List ℕ) → Went s s text text
  went_none s text = record { front = []; whole = refl; took = took_none (writing s); beside = refl }

  -- one more part
  pub went_on : (old mid new : S) (text part rest : List ℕ) → Went old mid text (part ++ rest) → Wrote writing reading mid new part (Ok tt) → Went old new text rest
  went_on old mid new text part rest went wrote = record {
    front = went.front ++ part;
    whole = went.whole ∙ sym (append_assoc went.front part rest);
    took = took_more (writing old) (writing mid) (writing new) went.front part went.took wrote.all;
    beside = wrote.beside ∙ went.beside;
  }

  -- a part failed, and the fault is handed on
  by_fault : (old new : S) (text : List ℕ) (result : Result ⊤ WriteFault) → IsErr result → WroteFront (writing old) (writing new) text → WritesAll (writing old) (writing new) text result
  by_fault old new text (Ok done) is front = absurd (cc)
  by_fault old new text (Err fault) is front = front

  pub went_wrong : (old mid new : S) (text part rest : List ℕ) (fault : WriteFault) (result : Result ⊤ WriteFault) → IsErr result → Went old mid text (part ++ rest)
      → Wrote writing reading mid new part (Err fault) → Wrote writing reading old new text result
  went_wrong old mid new text part rest fault result is went wrote = record {
    all = by_fault old new text result is (subst (λ (l : List ℕ). WroteFront (writing old) (writing new) l) (sym went.whole)
        (failed_on (writing old) (writing mid) (writing new) went.front part rest went.took wrote.all));
    beside = wrote.beside ∙ went.beside;
  }

  -- the last part
  pub went_last : (old mid new : S) (text part : List ℕ) (result : Result ⊤ WriteFault) → Went old mid text part → Wrote writing reading mid new part result
      → Wrote writing reading old new text result
  went_last old mid new text part result went wrote = record {
    all = subst (λ (l : List ℕ). WritesAll (writing old) (writing new) l result) (sym went.whole)
        (ends (writing old) (writing mid) (writing new) went.front part result went.took wrote.all);
    beside = wrote.beside ∙ went.beside;
  }

  -- nothing is left
  pub went_all : (old new : S) (text rest : List ℕ) → rest ≡ [] → Went old new text rest → Wrote writing reading old new text (Ok tt)
  went_all old new text rest none went = record {
    all = subst (λ (l : List ℕ). Took (writing old) (writing new) l) (sym (went.whole ∙ ap (λ (l : List ℕ). went.front ++ l) none ∙ append-nil went.front)) went.took;
    beside = went.beside;
  }

  -- ---- a text in two parts

  -- the first failed
  pub wrong_first : (old new : S) (text part rest : List ℕ) (fault : WriteFault) (result : Result ⊤ WriteFault) → IsErr result → part ++ rest ≡ text
      → Wrote writing reading old new part (Err fault) → Wrote writing reading old new text result
  wrong_first old new text part rest fault result is parts wrote =
      went_wrong old old new text part rest fault result is (subst (λ (l : List ℕ). Went old old l (part ++ rest)) parts (went_none old (part ++ rest))) wrote

  -- or it went out
  pub wrote_both : (old mid new : S) (text part rest : List ℕ) (result : Result ⊤ WriteFault) → part ++ rest ≡ text
      → Wrote writing reading old mid part (Ok tt) → Wrote writing reading mid new rest result → Wrote writing reading old new text result
  wrote_both old mid new text part rest result parts first next =
      went_last old mid new text rest result (went_on old old mid text part rest (subst (λ (l : List ℕ). Went old old l (part ++ rest)) parts (went_none old (part ++ rest))) first) next

  -- ---- one write of a piece

  pub went_piece : (old mid new : S) (text rest : List ℕ) (n : ℕ) → Went old mid text rest → Took (writing mid) (writing new) (take n rest) → reading new ≡ reading mid
      → Went old new text (drop n rest)
  went_piece old mid new text rest n went took stays =
      let parts : rest ≡ take n rest ++ drop n rest = sym (take-append-drop n rest) in
      went_on old mid new text (take n rest) (drop n rest) (subst (λ (l : List ℕ). Went old mid text l) parts went) (record { all = took; beside = stays })

  -- ---- the text of a list, item by item

  module _ {X : Type 0} (one : X → List ℕ) (text_of : List X → List ℕ) (cons : (x : X) (xs : List X) → text_of (x ∷ xs) ≡ one x ++ text_of xs) where
    -- the item i is the next part
    pub next_item : (old mid : S) (xs : List X) (i : ℕ) (x : X) (piece : List ℕ) → i < length xs → x ≡ get_or xs i x → piece ≡ one x
        → Went old mid (text_of xs) (text_of (drop i xs)) → Went old mid (text_of xs) (piece ++ text_of (drop (i + 1) xs))
    next_item old mid xs i x piece lt is same went =
        let ahead : drop i xs ≡ x ∷ drop (i + 1) xs = rw add-one (drop-cons xs i x lt ∙ ap (λ (y : X). y ∷ drop (suc i) xs) (sym is)) in
        let parts : text_of (drop i xs) ≡ piece ++ text_of (drop (i + 1) xs) = ap text_of ahead ∙ cons x (drop (i + 1) xs) ∙ ap (λ (l : List ℕ). l ++ text_of (drop (i + 1) xs)) (sym same) in
        subst (λ (l : List ℕ). Went old mid (text_of xs) l) parts went

    pub went_item : (old mid new : S) (xs : List X) (i : ℕ) (x : X) (piece : List ℕ) → i < length xs → x ≡ get_or xs i x → piece ≡ one x
        → Went old mid (text_of xs) (text_of (drop i xs)) → Wrote writing reading mid new piece (Ok tt) → Went old new (text_of xs) (text_of (drop (i + 1) xs))
    went_item old mid new xs i x piece lt is same went wrote =
        went_on old mid new (text_of xs) piece (text_of (drop (i + 1) xs)) (next_item old mid xs i x piece lt is same went) wrote

    pub wrong_item : (old mid new : S) (xs : List X) (i : ℕ) (x : X) (piece : List ℕ) (fault : WriteFault) (result : Result ⊤ WriteFault) → IsErr result → i < length xs → x ≡ get_or xs i x → piece ≡ one x
        → Went old mid (text_of xs) (text_of (drop i xs)) → Wrote writing reading mid new piece (Err fault) → Wrote writing reading old new (text_of xs) result
    wrong_item old mid new xs i x piece fault result failed lt is same went wrote =
        went_wrong old mid new (text_of xs) piece (text_of (drop (i + 1) xs)) fault result failed (next_item old mid xs i x piece lt is same went) wrote

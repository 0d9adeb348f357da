-- Files that are opened one after another, and taken out of the world.
use Rattle.std.proofs.Common.{◌≡◌, ℕ, ◌+◌, ◌<◌, zero, suc, List, [], ◌∷◌, ◌++◌, length, take, drop, map, get_or, Result, Ok, Err, refl, sym, ◌∙◌, ap, subst, arith, length-append, append_assoc}
use Rattle.std.specs.Prelude.{⊤, All}
use Rattle.std.specs.Result.{IsErr, IsErrAnd}
use Rattle.std.proofs.lemmas.List.{append-nil, append_cancel_left, take-append-drop}
use Rattle.std.proofs.lemmas.List.Elements.{All-append, All-cons}
use Rattle.eb_io.specs.Reading.{Reading}
use Rattle.eb_io.specs.Outside.{Outside, OpenedFile, IsFresh}
use Rattle.eb_text.specs.declared.fault.Fault.{Fault}
use Rattle.eb_run.specs.Files.{NoFileOpened}
use Rattle.eb_run.specs.Captures.{OpenedFiles, OpenedFront, OpensAll, HasFresh}

-- one list, cut so that the parts behind are as long
pub same_parts : {X : Type 0} (a b c d : List X) → a ++ b ≡ c ++ d → length b ≡ length d → (a ≡ c) × (b ≡ d)
same_parts [] b [] d is size = (refl, is)
same_parts [] b (y ∷ c) d is size = absurd (omega (arith, ap length is, length-append (y ∷ c) d, size))
same_parts (x ∷ a) b [] d is size = absurd (omega (arith, ap length is, length-append (x ∷ a) b, size))
same_parts (x ∷ a) b (y ∷ c) d is size =
    let head : x ≡ y = cc in
    let tail : a ++ b ≡ c ++ d = cc in
    let more = same_parts a b c d tail size in
    (λ i. head i ∷ more.0 i, more.1)

none_fails : {X : Type 0} (P : X → Type 0) → All P []
none_fails P = λ k d lt. absurd (omega (arith, lt))

module _ {F : Type 0} (reading : F → Reading) where
  pub opened_none : (world : Outside F) → OpenedFiles reading world world []
  opened_none world = record {
    opened = [];
    as_many = refl;
    fresh = none_fails (λ (file : F). IsFresh (reading file));
    files = sym (append-nil world.files);
    asked = sym (append-nil world.asked);
    faults = refl;
  }

  -- one more
  pub opened_more : (old mid new : Outside F) (names : List (List ℕ)) (name : List ℕ) → OpenedFiles reading old mid names → OpenedFile reading mid new name → OpenedFiles reading old new (names ++ name ∷ [])
  opened_more old mid new names name before one =
      let P : F → Type 0 = λ file. IsFresh (reading file) in
      record {
        opened = before.opened ++ one.file ∷ [];
        as_many = length-append before.opened (one.file ∷ []) ∙ ap (λ (n : ℕ). n + 1) before.as_many ∙ sym (length-append names (name ∷ []));
        fresh = All-append P before.opened (one.file ∷ []) before.fresh (All-cons P one.file [] one.fresh (none_fails P));
        files = one.files ∙ ap (λ (l : List F). l ++ one.file ∷ []) before.files ∙ append_assoc old.files before.opened (one.file ∷ []);
        asked = one.asked ∙ ap (λ (l : List (List ℕ)). l ++ name ∷ []) before.asked ∙ append_assoc old.asked names (name ∷ []);
        faults = one.faults ∙ before.faults;
      }

  -- so many files were opened, and are the last of the world
  pub last_fresh : (old new : Outside F) (names : List (List ℕ)) (count : ℕ) → count ≡ length names → OpenedFiles reading old new names → HasFresh reading count new
  last_fresh old new names count is opened = record {
    others = old.files;
    last = opened.opened;
    files_are = opened.files;
    as_many = opened.as_many ∙ sym is;
    fresh = opened.fresh;
  }

  -- those taken from the end are fresh
  pub taken_fresh : (count : ℕ) (world : Outside F) (others files : List F) → HasFresh reading count world → world.files ≡ others ++ files → length files ≡ count → All (λ (file : F). IsFresh (reading file)) files
  taken_fresh count world others files has taken size =
      let parts = same_parts has.others has.last others files (sym has.files_are ∙ taken) (has.as_many ∙ sym size) in
      subst (λ (l : List F). All (λ (file : F). IsFresh (reading file)) l) parts.1 has.fresh

  -- the one at an index could not be opened
  pub front_of : (old mid new : Outside F) (names before behind : List (List ℕ)) (name : List ℕ) (f : Fault) → names ≡ before ++ name ∷ behind → OpenedFiles reading old mid before
      → NoFileOpened {T = ⊤} mid new name (Err f) → OpenedFront reading old new names f
  front_of old mid new names before behind name f are opened stopped = record {
    before = before;
    name = name;
    behind = behind;
    names_are = are;
    between = mid;
    opened_before = opened;
    stopped = stopped;
  }

  pub failed_open : (old new : Outside F) (names : List (List ℕ)) (r : Result ⊤ Fault) (f : Fault) → IsErr r → IsErrAnd r (λ e. e ≡ f) → OpenedFront reading old new names f → OpensAll reading old new names r
  failed_open old new names (Ok done) f is gives front = absurd (cc)
  failed_open old new names (Err g) f is gives front = subst (λ (x : Fault). OpenedFront reading old new names x) (sym gives) front

-- the texts up to an item, and with it
pub taken_more : {X : Type 0} (f : X → List ℕ) (xs : List X) (i : ℕ) (x : X) → i < length xs → x ≡ get_or xs i x → map f (take (suc i) xs) ≡ map f (take i xs) ++ f x ∷ []
taken_more f [] i x lt is = absurd (omega (arith, lt))
taken_more f (y ∷ ys) zero x lt is = λ k. f (sym is k) ∷ []
taken_more f (y ∷ ys) (suc i) x lt is = ap (λ (l : List (List ℕ)). f y ∷ l) (taken_more f ys i x (omega (arith, lt)) is)

pub texts_parted : {X : Type 0} (f : X → List ℕ) (xs : List X) (i : ℕ) (x : X) → i < length xs → x ≡ get_or xs i x → map f xs ≡ map f (take i xs) ++ f x ∷ map f (drop (suc i) xs)
texts_parted f [] i x lt is = absurd (omega (arith, lt))
texts_parted f (y ∷ ys) zero x lt is = λ k. f (sym is k) ∷ map f ys
texts_parted f (y ∷ ys) (suc i) x lt is = ap (λ (l : List (List ℕ)). f y ∷ l) (texts_parted f ys i x (omega (arith, lt)) is)

-- How a history grows: the laws of its own parts, of extension, and of legal histories.
use Rattle.std.proofs.Common.{◌≡◌, ◌≢◌, ℕ, ◌==◌, if◌then◌else◌, List, [], ◌∷◌, ◌++◌, Bool, true, false, sym, refl, ap, ◌∙◌, subst, arith, append_assoc}
use Rattle.std.proofs.lemmas.Bool.{eqb-true}
use Rattle.wb_signals.specs.Content.{Content}
use Rattle.wb_signals.specs.Wiring.{Wiring}
use Rattle.wb_signals.specs.History.{Entry, own, IsLegal, requests_of, contents_after}
use Rattle.soc_journal.specs.Growth.{AllOf, Extends, ExtendsBy, OwnOfBoth, OwnOfMine, OwnIsMine, OthersLeaveOwn, ExtendsItself, ExtendsOn, ExtendsByOn, AfterBoth, LegalOn, LegalFront}
use Rattle.soc_journal.specs.Ledger.{Follows, Adds}

-- ---- own parts

abbrev put_if : Bool → Entry → List Entry → List Entry
put_if b e entries = if b then e ∷ entries else entries

put_behind : (b : Bool) (e : Entry) (whole xs ys : List Entry) → whole ≡ xs ++ ys → put_if b e whole ≡ put_if b e xs ++ ys
put_behind true e whole xs ys is = ap (λ l. e ∷ l) is
put_behind false e whole xs ys is = is

pub own-append : OwnOfBoth
own-append m [] ys = refl
own-append m (e ∷ entries) ys = put_behind (e.master == m) e (own m (entries ++ ys)) (own m entries) (own m ys) (own-append m entries ys)

other_no : (a b : ℕ) → a ≢ b → (a == b) ≡ false
other_no a b other = grind arith

same_yes : (a b : ℕ) → a ≡ b → (a == b) ≡ true
same_yes a b same = grind arith

pub own-others : (m n : ℕ) (entries : List Entry) → m ≢ n → AllOf n entries → own m entries ≡ []
own-others m n [] other all = refl
own-others m n (e ∷ entries) other all =
    let not_mine : (e.master == m) ≡ false = other_no e.master m (λ is. other (sym is ∙ all.0)) in
    ap (λ b. put_if b e (own m entries)) not_mine ∙ own-others m n entries other all.1

pub own-mine : OwnOfMine
own-mine m [] all = refl
own-mine m (e ∷ entries) all =
    ap (λ b. put_if b e (own m entries)) (same_yes e.master m all.0) ∙ ap (λ l. e ∷ l) (own-mine m entries all.1)

all_put : (b : Bool) (m : ℕ) (e : Entry) (entries : List Entry) → (b ≡ true → e.master ≡ m) → AllOf m entries → AllOf m (put_if b e entries)
all_put true m e entries is all = (is refl, all)
all_put false m e entries is all = all

yes_same : (a b : ℕ) → (a == b) ≡ true → a ≡ b
yes_same a b test = eqb-true a b test

pub AllOf-own : OwnIsMine
AllOf-own m [] = tt
AllOf-own m (e ∷ entries) = all_put (e.master == m) m e (own m entries) (yes_same e.master m) (AllOf-own m entries)

ends : (entries : List Entry) → entries ++ [] ≡ entries
ends [] = refl
ends (e ∷ entries) = ap (λ l. e ∷ l) (ends entries)

pub own-ExtendsBy : OthersLeaveOwn
own-ExtendsBy m n old new other by =
    ap (λ l. own m l) by.1 ∙ own-append m old by.0 ∙ ap (λ l. own m old ++ l) (own-others m n by.0 other by.2) ∙ ends (own m old)

pub AllOf-append : (m : ℕ) (xs ys : List Entry) → AllOf m xs → AllOf m ys → AllOf m (xs ++ ys)
AllOf-append m [] ys all more = more
AllOf-append m (e ∷ entries) ys all more = (all.0, AllOf-append m entries ys all.1 more)

-- ---- extension

pub Extends-self : ExtendsItself
Extends-self entries = ([], sym (ends entries))

pub Extends-on : ExtendsOn
Extends-on old mid new first next =
    (first.0 ++ next.0, next.1 ∙ ap (λ l. l ++ next.0) first.1 ∙ append_assoc old first.0 next.0)

pub ExtendsBy-self : (m : ℕ) (entries : List Entry) → ExtendsBy m entries entries
ExtendsBy-self m entries = ([], sym (ends entries), tt)

pub ExtendsBy-on : ExtendsByOn
ExtendsBy-on m old mid new first next =
    (first.0 ++ next.0, next.1 ∙ ap (λ l. l ++ next.0) first.1 ∙ append_assoc old first.0 next.0, AllOf-append m first.0 next.0 first.2 next.2)

pub Extends-by : (m : ℕ) (old new : List Entry) → ExtendsBy m old new → Extends old new
Extends-by m old new by = (by.0, by.1)

-- ---- legal histories

pub after-append : AfterBoth
after-append wiring contents [] ys = refl
after-append wiring contents (e ∷ entries) ys = after-append wiring (contents_after wiring contents (requests_of e.pairs)) entries ys

pub IsLegal-append : LegalOn
IsLegal-append wiring contents [] ys first next = next
IsLegal-append wiring contents (e ∷ entries) ys first next =
    (first.0, first.1, IsLegal-append wiring (contents_after wiring contents (requests_of e.pairs)) entries ys first.2 next)

legal_front : (wiring : Wiring) (contents : List Content) (xs ys : List Entry) → IsLegal wiring contents (xs ++ ys) → IsLegal wiring contents xs
legal_front wiring contents [] ys legal = tt
legal_front wiring contents (e ∷ entries) ys legal =
    (legal.0, legal.1, legal_front wiring (contents_after wiring contents (requests_of e.pairs)) entries ys legal.2)

pub IsLegal-front : LegalFront
IsLegal-front wiring contents old new extends legal =
    legal_front wiring contents old extends.0 (subst (λ l. IsLegal wiring contents l) extends.1 legal)

-- ---- what a master may rely on

module _ {T S C : Type 0} (history : T → List Entry) (stake : T → ℕ → S) (charter : T → C) where
  -- a master finds what it left
  pub Follows-self : (m : ℕ) (x : T) → Follows history stake charter m x x
  Follows-self m x = (Extends-self (history x), refl, refl, refl)

  -- what a master may find stays so when another adds
  pub Follows-Adds : (m n : ℕ) (a x y : T) → m ≢ n → Follows history stake charter m a x → Adds history stake charter n x y → Follows history stake charter m a y
  Follows-Adds m n a x y other follows adds = (
    Extends-on (history a) (history x) (history y) follows.0 (Extends-by n (history x) (history y) adds.0),
    own-ExtendsBy m n (history x) (history y) other adds.0 ∙ follows.1,
    adds.1 m other ∙ follows.2,
    adds.2 ∙ follows.3,
  )

  -- a master adds nothing
  pub Adds-self : (m : ℕ) (x : T) → Adds history stake charter m x x
  Adds-self m x = (ExtendsBy-self m (history x), (λ n other. refl), refl)

  -- and adds again
  pub Adds-on : (m : ℕ) (x y z : T) → Adds history stake charter m x y → Adds history stake charter m y z → Adds history stake charter m x z
  Adds-on m x y z first next = (
    ExtendsBy-on m (history x) (history y) (history z) first.0 next.0,
    (λ n other. next.1 n other ∙ first.1 n other),
    next.2 ∙ first.2,
  )

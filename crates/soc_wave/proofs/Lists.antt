-- Lists that grow at their end.
use Rattle.std.proofs.Common.{◌≡◌, ℕ, suc, ◌+◌, ◌||◌, Bool, true, false, List, [], ◌∷◌, ◌++◌, length, refl, ap, ◌∙◌, arith}
use Rattle.std.specs.Prelude.{nat_le, fold}
use Rattle.std.specs.List.{list_any}
use Rattle.soc_core.specs.Fabric.{Fabric}
use Rattle.wb_signals.specs.declared.port_row.PortRow.{PortRow}
use Rattle.wb_signals.specs.Wave.{WaveRowState}
use Rattle.wb_signals.specs.Rows.{request_in}
use Rattle.soc_wave.specs.Rows.{no_port, no_row, port_in, column, last_port, last_row, has_passed}
use Rattle.soc_wave.specs.Requests.{Passed, put_if, passed_from, passed_in, answer_clock, from_clock}

pub append-nil : {A : Type 0} (xs : List A) → xs ++ [] ≡ xs
append-nil [] = refl
append-nil (x ∷ xs) = ap (λ l. x ∷ l) (append-nil xs)

pub put_if-append : {A : Type 0} (b : Bool) (x : A) (xs ys : List A) → put_if b x (xs ++ ys) ≡ put_if b x xs ++ ys
put_if-append true x xs ys = refl
put_if-append false x xs ys = refl

pub fold-snoc : {A B : Type 0} (f : B → A → B) (b : B) (xs : List A) (x : A) → fold f b (xs ++ x ∷ []) ≡ f (fold f b xs) x
fold-snoc f b [] x = refl
fold-snoc f b (y ∷ xs) x = fold-snoc f (f b y) xs x

pub column-snoc : (m : ℕ) (rows : List WaveRowState) (row : WaveRowState) → column m (rows ++ row ∷ []) ≡ column m rows ++ port_in m row ∷ []
column-snoc m [] row = refl
column-snoc m (r ∷ rows) row = ap (λ l. port_in m r ∷ l) (column-snoc m rows row)

pub length-column : (m : ℕ) (rows : List WaveRowState) → length (column m rows) ≡ length rows
length-column m [] = refl
length-column m (r ∷ rows) = ap (λ (n : ℕ). suc n) (length-column m rows)

pub length-snoc : {A : Type 0} (xs : List A) (x : A) → length (xs ++ x ∷ []) ≡ suc (length xs)
length-snoc [] x = refl
length-snoc (y ∷ xs) x = ap (λ (n : ℕ). suc n) (length-snoc xs x)

pub last_port-snoc : (ps : List PortRow) (p : PortRow) → last_port (ps ++ p ∷ []) ≡ p
last_port-snoc ps p = fold-snoc (λ old q. q) no_port ps p

pub last_row-snoc : (rows : List WaveRowState) (row : WaveRowState) → last_row (rows ++ row ∷ []) ≡ row
last_row-snoc rows row = fold-snoc (λ old r. r) no_row rows row

-- what a row adds to the requests that passed
abbrev pub passed_now : ℕ → PortRow → List Passed
passed_now t p = put_if (has_passed p) (record { clock = t; request = request_in p }) []

passed_from-snoc : (t : ℕ) (ps : List PortRow) (p : PortRow) → passed_from t (ps ++ p ∷ []) ≡ passed_from t ps ++ passed_now (t + length ps) p
passed_from-snoc t [] p =
    let e : t ≡ t + 0 = omega arith in
    ap (λ (n : ℕ). passed_now n p) e
passed_from-snoc t (q ∷ ps) p =
    let e : suc t + length ps ≡ t + suc (length ps) = omega arith in
    let rest = passed_from-snoc (suc t) ps p ∙ ap (λ (n : ℕ). passed_from (suc t) ps ++ passed_now n p) e in
    ap (λ l. put_if (has_passed q) (record { clock = t; request = request_in q }) l) rest
    ∙ put_if-append (has_passed q) (record { clock = t; request = request_in q }) (passed_from (suc t) ps) (passed_now (t + suc (length ps)) p)

pub passed-snoc : (ps : List PortRow) (p : PortRow) → passed_in (ps ++ p ∷ []) ≡ passed_in ps ++ passed_now (length ps) p
passed-snoc ps p =
    let e : 0 + length ps ≡ length ps = omega arith in
    passed_from-snoc 0 ps p ∙ ap (λ (n : ℕ). passed_in ps ++ passed_now n p) e

pub from_clock-append : (f : Fabric) (t : ℕ) (xs ys : List Passed) → from_clock f t (xs ++ ys) ≡ from_clock f t xs ++ from_clock f t ys
from_clock-append f t [] ys = refl
from_clock-append f t (x ∷ xs) ys =
    ap (λ l. put_if (nat_le t (answer_clock f x)) x l) (from_clock-append f t xs ys)
    ∙ put_if-append (nat_le t (answer_clock f x)) x (from_clock f t xs) (from_clock f t ys)

or_assoc : (a b c : Bool) → (a || (b || c)) ≡ ((a || b) || c)
or_assoc true b c = refl
or_assoc false b c = refl

pub any-append : {A : Type 0} (test : A → Bool) (xs ys : List A) → list_any test (xs ++ ys) ≡ (list_any test xs || list_any test ys)
any-append test [] ys = refl
any-append test (x ∷ xs) ys = ap (λ b. test x || b) (any-append test xs ys) ∙ or_assoc (test x) (list_any test xs) (list_any test ys)

-- What a bus takes as a line.
use Rattle.std.proofs.Common.{◌≡◌, ℕ, ◌^◌, ◌<◌, ◌≤◌, ◌==◌, ◌&&◌, nat_le, if◌then◌else◌, Bool, true, false, List, [], ◌∷◌, length, map, drop, Option, Some, None, option_map, option_and_then, ap, refl, subst, ◌∙◌, arith}
use Rattle.std.specs.List.{All, slice_get}
use Rattle.std.proofs.lemmas.Option.{none-some, same_Some}
use Rattle.std.proofs.lemmas.List.Elements.{All-cons}
use Rattle.eb_base.specs.declared.width.Width.{Width}
use Rattle.eb_base.specs.declared.width.Width.TheVariants.{W32}
use Rattle.eb_base.specs.Width.{octets}
use Rattle.eb_base.proofs.LaneLemmas.{placed_adr-aligned, placed_sel-lt}
use Rattle.wb_signals.specs.Request.{Request, placed}
use Rattle.wb_signals.specs.Cycles.{FitsBus, AllFitBus}
use Rattle.soc_script.specs.Digits.{decimal_of, hex_number}
use Rattle.soc_script.specs.Words.{pieces_of, words_of}
use Rattle.soc_script.specs.Script.{ScriptLine, LineHead, access_of, address_of, all_some, below, clock_of, head_of, line_of, line_of_words, line_with, mark_of, master_of, op_of, ops_of, read_of, write_of}
use Rattle.soc_script.specs.Laws.{IsTaken}
use Rattle.soc_script.proofs.ListLemmas.{as_many}

-- ---- values that are there

pub then_some : {A B : Type 0} (f : A → Option B) (o : Option A) (y : B) → option_and_then f o ≡ Some y → (x : A) × (o ≡ Some x) × (f x ≡ Some y)
then_some f None y e = elim (none-some y e) [ ]
then_some f (Some x) y e = (x, refl, e)

pub map_some : {A B : Type 0} (f : A → B) (o : Option A) (y : B) → option_map f o ≡ Some y → (x : A) × (o ≡ Some x) × (f x ≡ y)
map_some f None y e = elim (none-some y e) [ ]
map_some f (Some x) y e = (x, refl, same_Some (f x) y e)

pub if_some : {A : Type 0} (b : Bool) (o : Option A) (y : A) → (if b then o else None) ≡ Some y → (b ≡ true) × (o ≡ Some y)
if_some true o y e = (refl, e)
if_some false o y e = elim (none-some y e) [ ]

pub all_some-is : {A : Type 0} (os : List (Option A)) (xs : List A) → all_some os ≡ Some xs → os ≡ map Some xs
all_some-is [] xs e = ap (map Some) (same_Some [] xs e)
all_some-is (o ∷ os) xs e =
    let first = then_some (λ a. option_map (λ more. a ∷ more) (all_some os)) o xs e in
    let rest = map_some (λ more. first.0 ∷ more) (all_some os) xs first.2 in
    let more = all_some-is os rest.0 rest.1 in
    ap (λ k. k ∷ os) first.1 ∙ ap (λ k. Some first.0 ∷ k) more ∙ ap (map Some) rest.2

-- what holds of each value
pub each_from : {A B : Type 0} (f : A → Option B) (P : B → Type 0) → ((x : A) (y : B) → f x ≡ Some y → P y) → (xs : List A) (ys : List B) → map f xs ≡ map Some ys → All P ys
each_from f P each xs [] e = λ k d l. elim (nothing_below k l) [ ]
  where
    nothing_below : (k : ℕ) → k < 0 → ⊥
    nothing_below k l = omega arith
each_from f P each [] (y ∷ ys) e = elim (none_first y ys e) [ ]
  where
    none_first : {B : Type 0} (y : B) (ys : List B) → [] ≡ map Some (y ∷ ys) → ⊥
    none_first y ys e = none-some (Some y) (ap (λ l. slice_get l 0) e)
each_from f P each (x ∷ xs) (y ∷ ys) e =
    let first = same_Some (f x) (Some y) (ap (λ l. slice_get l 0) e) in
    All-cons P y ys (each x y first) (each_from f P each xs ys (ap (drop 1) e))

-- ---- operations

module _ (bus : Width) (wide : 4 ≤ octets bus) where
  access_fits : (write : Bool) (adr dat : ℕ) → FitsBus bus (access_of bus write adr dat)
  unfolding placed
  access_fits write adr dat =
      let lanes : 15 < 2 ^ octets W32 = omega arith in
      (placed_adr-aligned W32 bus adr, placed_sel-lt W32 bus adr 15 wide lanes)

  fits_as : (write : Bool) (adr dat : ℕ) (r : Request) → access_of bus write adr dat ≡ r → FitsBus bus r
  fits_as write adr dat r e = subst (FitsBus bus) e (access_fits write adr dat)

  write_fits : (words : List (List ℕ)) (r : Request) → write_of bus words ≡ Some r → FitsBus bus r
  write_fits [] r e = elim (none-some r e) [ ]
  write_fits (a ∷ []) r e = elim (none-some r e) [ ]
  write_fits (a ∷ d ∷ []) r e =
      let adr = then_some (λ n. option_map (λ dat. access_of bus true n dat) (hex_number 8 d)) (address_of a) r e in
      let dat = map_some (λ n. access_of bus true adr.0 n) (hex_number 8 d) r adr.2 in
      fits_as true adr.0 dat.0 r dat.2
  write_fits (a ∷ d ∷ more ∷ words) r e = elim (none-some r e) [ ]

  op_by : (reads writes : Bool) (word : List ℕ) (r : Request) → (if reads then read_of bus word else (if writes then write_of bus (pieces_of 61 word) else None)) ≡ Some r → FitsBus bus r
  op_by true writes word r e = let adr = map_some (λ n. access_of bus false n 0) (address_of word) r e in fits_as false adr.0 0 r adr.2
  op_by false true word r e = write_fits (pieces_of 61 word) r e
  op_by false false word r e = elim (none-some r e) [ ]

  op_fits : (word : List ℕ) (r : Request) → op_of bus word ≡ Some r → FitsBus bus r
  op_fits [] r e = elim (none-some r e) [ ]
  op_fits (c ∷ word) r e = op_by (c == 114) (c == 119) word r e

  ops_fit : (words : List (List ℕ)) (ops : List Request) → ops_of bus words ≡ Some ops → (1 ≤ length ops) × (length ops ≤ 255) × AllFitBus bus ops
  ops_fit words ops e =
      let held = if_some (nat_le 1 (length words) && nat_le (length words) 255) (all_some (map (op_of bus) words)) ops e in
      let each = all_some-is (map (op_of bus) words) ops held.1 in
      let n : length words ≡ length ops = as_many (op_of bus) words ops each in
      let some : 1 ≤ length words = grind (arith, held.0) in
      let most : length words ≤ 255 = grind (arith, held.0) in
      (omega arith, omega arith, each_from (op_of bus) (FitsBus bus) op_fits words ops each)

  -- ---- lines

  below_is : (most n k : ℕ) → below most n ≡ Some k → k < most
  below_is most n k e = grind arith

  module _ (masters : ℕ) where
    head_fits : (m t mark : List ℕ) (head : LineHead) → head_of masters m t mark ≡ Some head → (head.master < masters) × (head.clock ≤ 10000)
    head_fits m t mark head e =
        let a = then_some (λ n. option_and_then (λ k. option_map (λ q. record { master = n; clock = k; last = q }) (mark_of mark)) (clock_of t)) (master_of masters m) head e in
        let b = then_some (λ k. option_map (λ q. record { master = a.0; clock = k; last = q }) (mark_of mark)) (clock_of t) head a.2 in
        let c = map_some (λ q. record { master = a.0; clock = b.0; last = q }) (mark_of mark) head b.2 in
        let w = then_some (below masters) (decimal_of m) a.0 a.1 in
        let v = then_some (below 10001) (decimal_of t) b.0 b.1 in
        let x : a.0 < masters = below_is masters w.0 a.0 w.2 in
        let y : b.0 < 10001 = below_is 10001 v.0 b.0 v.2 in
        let k : b.0 ≤ 10000 = omega arith in
        subst (λ (h : LineHead). (h.master < masters) × (h.clock ≤ 10000)) c.2 (x, k)

    words_taken : (words : List (List ℕ)) (l : ScriptLine) → line_of_words bus masters words ≡ Some l → IsTaken bus masters l
    words_taken [] l e = elim (none-some l e) [ ]
    words_taken (m ∷ []) l e = elim (none-some l e) [ ]
    words_taken (m ∷ t ∷ []) l e = elim (none-some l e) [ ]
    words_taken (m ∷ t ∷ mark ∷ words) l e =
        let head = then_some (λ h. option_map (line_with h) (ops_of bus words)) (head_of masters m t mark) l e in
        let ops = map_some (line_with head.0) (ops_of bus words) l head.2 in
        let h = head_fits m t mark head.0 head.1 in
        let o = ops_fit words ops.0 ops.1 in
        subst (IsTaken bus masters) ops.2 (record { master = h.0; clock = h.1; some = o.0; most = o.1; fit = o.2 })

    pub line_taken : (text : List ℕ) (l : ScriptLine) → line_of bus masters text ≡ Some l → IsTaken bus masters l
    line_taken text l e = words_taken (words_of text) l e

    pub lines_taken : (texts : List (List ℕ)) (lines : List ScriptLine) → map (line_of bus masters) texts ≡ map Some lines → All (IsTaken bus masters) lines
    lines_taken texts lines e = each_from (line_of bus masters) (IsTaken bus masters) line_taken texts lines e

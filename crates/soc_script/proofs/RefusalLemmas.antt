-- A text has one script or one first bad line.
use Rattle.std.proofs.Common.{◌≡◌, ◌⊎◌, ℕ, ◌+◌, ◌<◌, ◌≤◌, List, [], ◌∷◌, ◌++◌, length, map, take, drop, Option, Some, None, ap, sym, refl, ◌∙◌, subst, arith, inl, inr, append_assoc, length-append}
use Rattle.std.proofs.lemmas.Bool.{cases_lt}
use Rattle.std.proofs.lemmas.List.{append-nil, length-map, map-append, take-append-drop, take-append-le, take-map}
use Rattle.std.proofs.Math.Seq.{take-append_seam}
use Rattle.eb_base.specs.declared.width.Width.{Width}
use Rattle.soc_script.specs.Script.{ScriptLine, AreLines, AreNoLines, IsFirstBadLine, line_of, ops_in}
use Rattle.soc_script.proofs.ListLemmas.{as_many}
use Rattle.soc_script.proofs.LineLemmas.{ops_in-append, one_more, bad_line, too_many_lines, too_many_ops}

-- the values of a front
pub front_values : {A B : Type 0} (f : A → Option B) (xs ys : List A) (zs : List B) → map f (xs ++ ys) ≡ map Some zs → map f xs ≡ map Some (take (length xs) zs)
front_values f xs ys zs e =
    let n : length (map f xs) ≡ length xs = length-map xs f in
    let a : take (length (map f xs)) (map f xs ++ map f ys) ≡ map f xs = take-append_seam (map f xs) (map f ys) in
    let b : take (length xs) (map f (xs ++ ys)) ≡ map f xs = ap (take (length xs)) (map-append f xs ys) ∙ ap (λ k. take k (map f xs ++ map f ys)) (sym n) ∙ a in
    sym b ∙ ap (take (length xs)) e ∙ take-map Some (length xs) zs

-- the lines of a front keep the limits
pub front_lines : (bus : Width) (masters : ℕ) (xs ys : List (List ℕ)) (lines : List ScriptLine) → AreLines bus masters (xs ++ ys) lines → (front : List ScriptLine) × AreLines bus masters xs front
front_lines bus masters xs ys lines are =
    let front = take (length xs) lines in
    let back = drop (length xs) lines in
    let whole : front ++ back ≡ lines = take-append-drop (length xs) lines in
    let n : length front + length back ≡ length lines = sym (length-append front back) ∙ ap length whole in
    let o : ops_in front + ops_in back ≡ ops_in lines = sym (ops_in-append front back) ∙ ap ops_in whole in
    let few : length lines ≤ 256 = are.few_lines in
    let most : ops_in lines ≤ 4096 = are.few_ops in
    (front, record { each = front_values (line_of bus masters) xs ys lines are.each; few_lines = omega arith; few_ops = omega arith })

-- of two places in a list the later one has the earlier one before it
pub later_front : {A : Type 0} (xs : List A) (x : A) (more xs' : List A) (x' : A) (more' : List A) → xs ++ x ∷ more ≡ xs' ++ x' ∷ more' → length xs < length xs' → xs' ≡ (xs ++ x ∷ []) ++ drop (length xs + 1) xs'
later_front xs x more xs' x' more' e l =
    let n : length (xs ++ x ∷ []) ≡ length xs + 1 = length-append xs (x ∷ []) in
    let le : length xs + 1 ≤ length xs' = omega arith in
    let a : take (length xs + 1) (xs' ++ x' ∷ more') ≡ take (length xs + 1) xs' = take-append-le (length xs + 1) xs' (x' ∷ more') le in
    let b : (xs ++ x ∷ []) ++ more ≡ xs ++ x ∷ more = append_assoc xs (x ∷ []) more in
    let c : take (length (xs ++ x ∷ [])) ((xs ++ x ∷ []) ++ more) ≡ xs ++ x ∷ [] = take-append_seam (xs ++ x ∷ []) more in
    let d : take (length xs + 1) (xs ++ x ∷ more) ≡ xs ++ x ∷ [] = ap (take (length xs + 1)) (sym b) ∙ ap (λ k. take k ((xs ++ x ∷ []) ++ more)) (sym n) ∙ c in
    let front : take (length xs + 1) xs' ≡ xs ++ x ∷ [] = sym a ∙ ap (take (length xs + 1)) (sym e) ∙ d in
    sym (take-append-drop (length xs + 1) xs') ∙ ap (λ k. k ++ drop (length xs + 1) xs') front

module _ (bus : Width) (masters : ℕ) where
  -- a first bad line isn't among lines that are good
  pub not_before : (texts : List (List ℕ)) (n : ℕ) (bad : IsFirstBadLine bus masters texts n) (good : List ScriptLine) (more : List (List ℕ)) → AreLines bus masters ((bad.before ++ bad.bad ∷ []) ++ more) good → ⊥
  not_before texts n bad good more are =
      let front = front_lines bus masters (bad.before ++ bad.bad ∷ []) more good are in
      bad.no_lines front.0 front.1

  pub not_earlier : (texts : List (List ℕ)) (n k : ℕ) (bad : IsFirstBadLine bus masters texts n) (worse : IsFirstBadLine bus masters texts k) → length bad.before < length worse.before → ⊥
  not_earlier texts n k bad worse l =
      let same : bad.before ++ bad.bad ∷ bad.behind ≡ worse.before ++ worse.bad ∷ worse.behind = sym bad.texts_are ∙ worse.texts_are in
      let front = later_front bad.before bad.bad bad.behind worse.before worse.bad worse.behind same l in
      not_before texts n bad worse.good (drop (length bad.before + 1) worse.before) (subst (λ t. AreLines bus masters t worse.good) front worse.good_lines)

  pub one_bad_line : (texts : List (List ℕ)) (n k : ℕ) → IsFirstBadLine bus masters texts n → IsFirstBadLine bus masters texts k → n ≡ k
  one_bad_line texts n k bad worse =
      let a : length bad.before < length worse.before → ⊥ = not_earlier texts n k bad worse in
      let b : length worse.before < length bad.before → ⊥ = not_earlier texts k n worse bad in
      let e : n ≡ length bad.before + 1 = bad.number in
      let f : k ≡ length worse.before + 1 = worse.number in
      grind arith

  pub bad_in_script : (texts : List (List ℕ)) (n : ℕ) (script : List ScriptLine) → IsFirstBadLine bus masters texts n → AreLines bus masters texts script → ⊥
  bad_in_script texts n script bad are =
      let whole : texts ≡ (bad.before ++ bad.bad ∷ []) ++ bad.behind = bad.texts_are ∙ sym (append_assoc bad.before (bad.bad ∷ []) bad.behind) in
      not_before texts n bad script bad.behind (subst (λ t. AreLines bus masters t script) whole are)

  -- ---- one of both

  abbrev pub Decided : List (List ℕ) → Type 0
  Decided texts = ((script : List ScriptLine) × AreLines bus masters texts script) ⊎ ((n : ℕ) × IsFirstBadLine bus masters texts n)

  refused_at : (before : List (List ℕ)) (text : List ℕ) (more : List (List ℕ)) (good : List ScriptLine) → AreLines bus masters before good → AreNoLines bus masters (before ++ text ∷ []) → Decided (before ++ text ∷ more)
  refused_at before text more good are no_lines = inr (
    length before + 1,
    record {
      before = before;
      bad = text;
      behind = more;
      texts_are = refl;
      number = refl;
      good = good;
      good_lines = are;
      no_lines = no_lines;
    },
  )

  decided_from : (before : List (List ℕ)) (good : List ScriptLine) → AreLines bus masters before good → (texts : List (List ℕ)) → Decided (before ++ texts)
  decided_from before good are [] = inl (good, subst (λ t. AreLines bus masters t good) (sym (append-nil before)) are)
  decided_from before good are (text ∷ texts) =
      let on : (l : ScriptLine) → AreLines bus masters (before ++ text ∷ []) (good ++ l ∷ []) → Decided (before ++ text ∷ texts) =
      λ l more. subst Decided (append_assoc before (text ∷ []) texts) (decided_from (before ++ text ∷ []) (good ++ l ∷ []) more texts) in
      let n : length before ≡ length good = as_many (line_of bus masters) before good are.each in
      let few : length good ≤ 256 = are.few_lines in
      elim (line_of bus masters text) as (λ o. line_of bus masters text ≡ o → Decided (before ++ text ∷ texts)) [
        | None ↦ λ e. refused_at before text texts good are (bad_line bus masters before text good are e)
        | Some l ↦ λ e. elim (cases_lt (length before) 256) [
          | inl room ↦ elim (cases_lt 4096 (ops_in good + length l.ops)) [
            | inl past ↦ refused_at before text texts good are (too_many_ops bus masters before text good are l e past)
            | inr within ↦ on l (one_more bus masters before text good are l e room within)
          ]
          | inr full ↦ refused_at before text texts good are (too_many_lines bus masters before text good are (omega arith))
        ]
      ] refl

  pub decided : (texts : List (List ℕ)) → Decided texts
  decided texts = decided_from [] [] (record { each = refl; few_lines = omega arith; few_ops = omega arith }) texts

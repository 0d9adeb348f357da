-- Octets that are expected, read in pieces.
use Rattle.std.proofs.Common.{◌≡◌, ℕ, ◌+◌, ◌<◌, ◌≤◌, true, List, [], ◌∷◌, ◌++◌, length, take, drop, get_or, Option, Some, None, sym, ap, ◌∙◌, subst, subst₂, arith, length-append, take-add}
use Rattle.std.proofs.lemmas.List.{take_more, get_or-append-add, get_or-drop}
use Rattle.std.proofs.lemmas.Bool.{eqb-true}
use Rattle.eb_io.specs.Reading.{Reading, Gave}
use Rattle.eb_io.proofs.ReadingLemmas.{gave_more}
use Rattle.eb_codec.specs.Form.{Form, Fills}
use Rattle.eb_codec.proofs.FormLemmas.{Fills-append}
use Rattle.eb_host.specs.Hearing.{agrees, IsBad, HasHeard}
use lib.Seq.{take-append-add}

fills_octet : (b : ℕ) (c : Option ℕ) → agrees b c ≡ true → Fills (b ∷ []) (c ∷ [])
fills_octet b None e = tt
fills_octet b (Some x) e = (eqb-true b x e, tt)

-- one more octet that is expected
pub fills_one : (xs : List ℕ) (f : Form) (i : ℕ) → i < length xs → i < length f → Fills (take i xs) (take i f) → agrees (get_or xs i 0) (get_or f i None) ≡ true → Fills (take (i + 1) xs) (take (i + 1) f)
fills_one xs f i lx lf h e =
    subst₂ (λ (a : List ℕ) (b : Form). Fills a b) (sym (take_more xs i 0 lx)) (sym (take_more f i None lf))
    (Fills-append (take i xs) (get_or xs i 0 ∷ []) (take i f) (get_or f i None ∷ []) h (fills_octet (get_or xs i 0) (get_or f i None) e))

pub fills_more : (xs ys : List ℕ) (f : Form) → length xs + length ys ≤ length f → Fills xs (take (length xs) f) → Fills ys (take (length ys) (drop (length xs) f)) → Fills (xs ++ ys) (take (length (xs ++ ys)) f)
fills_more xs ys f le h k =
    let e : length xs + length ys ≡ length (xs ++ ys) = sym (length-append xs ys) in
    subst (λ (g : Form). Fills (xs ++ ys) g) (sym (take-add (length xs) (length ys) f) ∙ ap (λ (n : ℕ). take n f) e)
    (Fills-append xs ys (take (length xs) f) (take (length ys) (drop (length xs) f)) h k)

module _ (old mid new : Reading) (f : Form) (xs ys : List ℕ) (h : HasHeard old mid f xs) (g : Gave mid new ys) (le : length xs + length ys ≤ length f) where
  pub heard_more : Fills ys (take (length ys) (drop (length xs) f)) → HasHeard old new f (xs ++ ys)
  heard_more k = record {
    gave = gave_more old mid new xs ys h.gave g;
    most = omega (arith, length-append xs ys);
    fills = fills_more xs ys f le h.fills k;
  }

  pub heard_bad : (k : ℕ) → IsBad ys (drop (length xs) f) k → Gave old new (xs ++ ys) × (length (xs ++ ys) ≤ length f) × IsBad (xs ++ ys) f (length xs + k)
  heard_bad k b =
      let inside = b.inside in (
        gave_more old mid new xs ys h.gave g,
        omega (arith, length-append xs ys),
        record {
          inside = omega (arith, length-append xs ys, inside);
          before =
              subst₂ (λ (a : List ℕ) (c : Form). Fills a c) (sym (take-append-add xs ys k)) (sym (take-add (length xs) k f))
              (Fills-append xs (take k ys) (take (length xs) f) (take k (drop (length xs) f)) h.fills b.before);
          differs = ap (λ (n : ℕ). agrees n (get_or f (length xs + k) None)) (get_or-append-add xs ys k 0) ∙ ap (λ (c : Option ℕ). agrees (get_or ys k 0) c) (sym (get_or-drop (length xs) f k None)) ∙ b.differs;
        },
      )

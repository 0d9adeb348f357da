-- Ports one by one.
use Rattle.std.proofs.Common.{◌≡◌, ℕ, suc, ◌+◌, ◌<◌, List, ◌∷◌, ◌++◌, length, drop, get_or, add-one, refl, sym, ap, ◌∙◌, subst}
use Rattle.std.proofs.Math.Seq.{drop-cons}
use Rattle.eb_io.specs.Reading.{Reading}
use Rattle.eb_io.specs.Writing.{Writing}
use Rattle.eb_io.proofs.PageLemmas.{Paging}
use Rattle.eb_server.specs.declared.ending.Ending.{Ending}
use Rattle.eb_server.specs.declared.ending.Ending.TheVariants as ending
use Rattle.eb_replay.specs.Ports.{PortOutcome}
use Rattle.eb_replay.specs.Text.{reply_line, reply_lines, unclean_or, first_unclean}

ahead : (xs : List PortOutcome) (i : ℕ) (x : PortOutcome) → i < length xs → x ≡ get_or xs i x → drop i xs ≡ x ∷ drop (i + 1) xs
ahead xs i x lt is = rw add-one (drop-cons xs i x lt ∙ ap (λ (y : PortOutcome). y ∷ drop (suc i) xs) (sym is))

lines_ahead : (xs : List PortOutcome) (i : ℕ) (x : PortOutcome) → i < length xs → x ≡ get_or xs i x → reply_lines i (drop i xs) ≡ reply_line i x ++ reply_lines (i + 1) (drop (i + 1) xs)
lines_ahead xs i x lt is = rw add-one (ap (reply_lines i) (drop-cons xs i x lt ∙ ap (λ (y : PortOutcome). y ∷ drop (suc i) xs) (sym is)))

module _ {S : Type 0} (writing : S → Writing) (reading : S → Reading) where
  -- the line of a port is the next part
  pub next_port : (old mid : S) (page held text : List ℕ) (xs : List PortOutcome) (i number : ℕ) (x : PortOutcome) → i < length xs → x ≡ get_or xs i x → number ≡ i
      → Paging writing reading old mid page held text (reply_lines i (drop i xs)) → Paging writing reading old mid page held text (reply_line number x ++ reply_lines (i + 1) (drop (i + 1) xs))
  next_port old mid page held text xs i number x lt is same went =
      subst (λ (l : List ℕ). Paging writing reading old mid page held text l)
      (lines_ahead xs i x lt is ∙ ap (λ (n : ℕ). reply_line n x ++ reply_lines (i + 1) (drop (i + 1) xs)) (sym same)) went

-- ---- the first ending that isn't clean

pub unclean_here : (e rest : Ending) → (e ≡ ending.Clean → ⊥) → unclean_or e rest ≡ e
unclean_here ending.Clean rest not = absurd (not refl)
unclean_here (ending.Truncated n) rest not = refl
unclean_here (ending.Malformed p why) rest not = refl
unclean_here ending.ReadFault rest not = refl
unclean_here ending.WriteFault rest not = refl
unclean_here ending.TooLong rest not = refl
unclean_here ending.NoMemory rest not = refl

pub clean_before : (xs : List PortOutcome) (i : ℕ) (x : PortOutcome) → i < length xs → x ≡ get_or xs i x → x.ending ≡ ending.Clean → first_unclean (drop i xs) ≡ first_unclean (drop (i + 1) xs)
clean_before xs i x lt is clean = ap first_unclean (ahead xs i x lt is) ∙ ap (λ (e : Ending). unclean_or e (first_unclean (drop (i + 1) xs))) clean

pub unclean_at : (xs : List PortOutcome) (i : ℕ) (x : PortOutcome) → i < length xs → x ≡ get_or xs i x → (x.ending ≡ ending.Clean → ⊥) → first_unclean (drop i xs) ≡ x.ending
unclean_at xs i x lt is not = ap first_unclean (ahead xs i x lt is) ∙ unclean_here x.ending (first_unclean (drop (i + 1) xs)) not

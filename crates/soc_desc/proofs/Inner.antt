-- Placing the buses inside one item after the other, as a loop does.
use Rattle.std.proofs.Common.{◌≡◌, ℕ, ◌+◌, List, [], ◌∷◌, ◌++◌, map, drop, Ok, Err, refl, sym, ap, ◌∙◌}
use Rattle.std.specs.Bool.{⊤}
use Rattle.soc_desc.specs.declared.fault.DescFault.{DescFault}
use Rattle.soc_desc.specs.declared.description.ItemDescription.{ItemDescription}
use Rattle.soc_desc.specs.Checks.{Path, Found, ◌>>=◌, Fails, at_nth}
use Rattle.soc_desc.specs.Geometry.{Located, placed_after, all_placed, buses_from, item_place}
use Rattle.soc_desc.proofs.Each.{fails_on}

then_assoc : (a b c : Found ⊤) → (a >>= λ _. b >>= λ _. c) ≡ ((a >>= λ _. b) >>= λ _. c)
then_assoc (Ok x) b c = refl
then_assoc (Err e) b c = refl

pub all_placed-append : (xs ys : List Located) → all_placed (xs ++ ys) ≡ (all_placed xs >>= λ _. all_placed ys)
all_placed-append [] ys = refl
all_placed-append (x ∷ xs) ys = ap (λ r. placed_after x.last [] x.spans >>= λ _. r) (all_placed-append xs ys) ∙ then_assoc (placed_after x.last [] x.spans) (all_placed xs) (all_placed ys)

module _ (path : Path) (i : ℕ) (items : List ItemDescription) (one : ItemDescription) (total : Found ⊤) where
  one_step : drop i items ≡ one ∷ drop (i + 1) items → all_placed (buses_from path i (map item_place (drop i items)))
      ≡ (all_placed ((item_place one).buses (at_nth path i)) >>= λ _. all_placed (buses_from path (i + 1) (map item_place (drop (i + 1) items))))
  one_step here = ap (λ is. all_placed (buses_from path i (map item_place is))) here ∙ all_placed-append ((item_place one).buses (at_nth path i)) (buses_from path (i + 1) (map item_place (drop (i + 1) items)))

  pub goes_on : drop i items ≡ one ∷ drop (i + 1) items → all_placed ((item_place one).buses (at_nth path i)) ≡ Ok tt
      → all_placed (buses_from path i (map item_place (drop i items))) ≡ total → all_placed (buses_from path (i + 1) (map item_place (drop (i + 1) items))) ≡ total
  goes_on here placed so_far = sym (one_step here ∙ ap (λ r. r >>= λ _. all_placed (buses_from path (i + 1) (map item_place (drop (i + 1) items)))) placed) ∙ so_far

  pub ends : (e : DescFault) → drop i items ≡ one ∷ drop (i + 1) items → Fails e (all_placed ((item_place one).buses (at_nth path i)))
      → all_placed (buses_from path i (map item_place (drop i items))) ≡ total → Fails e total
  ends e here fails so_far =
      fails_on e _ total fails (λ f. sym so_far ∙ one_step here ∙ ap (λ r. r >>= λ _. all_placed (buses_from path (i + 1) (map item_place (drop (i + 1) items)))) f)

-- What several reads gave together.
use Rattle.std.proofs.Common.{ℕ, List, ◌++◌, Option, ◌∙◌, ap}
use Rattle.std.specs.Io.KnownBytes.{append_known, prepend_known}
use Rattle.eb_io.specs.Reading.{Reading, Gave}
use Rattle.eb_io.proofs.KnownLemmas.{append_known-append_known, prepend_known-prepend_known}

pub gave_more : (old mid new : Reading) (xs ys : List ℕ) → Gave old mid xs → Gave mid new ys → Gave old new (xs ++ ys)
gave_more old mid new xs ys first then = record {
  next = first.next ∙ ap (λ (k : Option (List ℕ)). prepend_known xs k) then.next ∙ prepend_known-prepend_known new.left xs ys;
  given = then.given ∙ ap (λ (k : Option (List ℕ)). append_known k ys) first.given ∙ append_known-append_known old.given xs ys;
  faults = then.faults ∙ first.faults;
}

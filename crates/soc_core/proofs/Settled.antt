-- Where no port holds, the places have what the journal leaves, and what is added to it is legal from there.
use Rattle.std.proofs.Common.{◌≡◌, ℕ, List, [], ◌∷◌, ◌++◌, sym, ◌∙◌, ext_get_or}
use Rattle.wb_signals.specs.Content.{Content, Nothing}
use Rattle.wb_signals.specs.Wiring.{Wiring}
use Rattle.wb_signals.specs.History.{Entry, requests_of, contents_after, IsLegal, after}
use Rattle.soc_core.specs.Fabric.{Fabric}
use Rattle.soc_core.specs.Core.{Holds, Core, port}
use Rattle.soc_core.specs.Sound.{before, IsSoundCore}
use Rattle.soc_core.proofs.Frames.{length-after_all}

pub settled : (f : Fabric) (core : Core) → IsSoundCore f core → ((m set : ℕ) → (port core m).phase ≡ Holds set → ⊥) → core.contents ≡ before f core
settled f core s none =
    ext_get_or Nothing core.contents (before f core) (s.places ∙ sym (length-after_all f.wiring f.built core.journal))
    (λ place within. s.unheld place (λ m set slave h. none m set h.holds))

pub legal_rest : (w : Wiring) (c : List Content) (xs ys : List Entry) → IsLegal w c (xs ++ ys) → IsLegal w (after w c xs) ys
legal_rest w c [] ys legal = legal
legal_rest w c (x ∷ xs) ys legal = legal_rest w (contents_after w c (requests_of x.pairs)) xs ys legal.2

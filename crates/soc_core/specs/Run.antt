-- What ticks keep while a port waits for its answers.
use Rattle.std.specs.Prelude.{◌≡◌, ℕ}
use Rattle.soc_core.specs.Core.{Idle, Holds, Core, port}

-- Ticks add no entry and change no port's open pairs and loaded operations. A holder still holds, an idle port is still idle.
pub record IsRun (old new : Core) : Type 0 where
  pub journal : new.journal ≡ old.journal
  pub opened : (n : ℕ) → (port new n).opened ≡ (port old n).opened
  pub loaded : (n : ℕ) → (port new n).loaded ≡ (port old n).loaded
  pub holds : (n set : ℕ) → (port old n).phase ≡ Holds set → (port new n).phase ≡ Holds set
  pub idle : (n : ℕ) → (port old n).phase ≡ Idle → (port new n).phase ≡ Idle

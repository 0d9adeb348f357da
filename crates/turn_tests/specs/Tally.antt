-- How many entries each of two masters added.
use Rattle.std.specs.Prelude.{ℕ, zero, suc}

abbrev pub added_by : ℕ → ℕ → ℕ → ℕ
added_by first second zero = first
added_by first second (suc zero) = second
added_by first second (suc (suc n)) = 0

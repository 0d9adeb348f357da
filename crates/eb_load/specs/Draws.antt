-- The numbers that a generated stream is made of.
use Rattle.std.specs.Prelude.{ℕ, zero, suc, ◌+◌, ◌*◌, ◌/◌, ◌%◌, ◌^◌}

-- the state after a draw from this one, 31 bits
unfoldable pub next : ℕ → ℕ
next x = (x * 1103515245 + 12345) % 2 ^ 31

-- what a draw from this state gives: the upper 15 bits of the state after it
unfoldable pub drawn : ℕ → ℕ
drawn x = next x / 65536

-- the state after n draws
abbrev pub state_after : ℕ → ℕ → ℕ
state_after zero x = x
state_after (suc n) x = state_after n (next x)

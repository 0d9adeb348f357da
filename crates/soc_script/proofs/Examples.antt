-- Texts that were read by hand.
use Rattle.std.proofs.Common.{◌≡◌, ℕ, true, false, List, [], ◌∷◌, ◌++◌, map, Some, None, refl}
use Rattle.std.specs.Prelude.{codes}
use Rattle.eb_base.specs.declared.width.Width.TheVariants.{W32, W64}
use Rattle.wb_signals.specs.Request.{Request, placed}
use Rattle.soc_script.specs.Words.{lines_of}
use Rattle.soc_script.specs.Script.{line_of}

abbrev write : ℕ → ℕ → Request
write adr dat = record { write = true; adr = adr; dat = dat; sel = 15 }

abbrev read : ℕ → Request
read adr = record { write = false; adr = adr; dat = 0; sel = 15 }

-- three records of one cycle, and a cycle of another master
abbrev two_masters : List ℕ
two_masters = codes "0 0 hold w0=1" ++ 10 ∷ codes "0 0 hold w4=2" ++ 10 ∷ codes "0 0 end r0" ++ 10 ∷ codes "1 0 end w0=9"

two_masters_read : map (line_of W32 2) (lines_of two_masters)
    ≡ Some (record { master = 0; clock = 0; last = false; ops = write 0 1 ∷ [] })
    ∷ Some (record { master = 0; clock = 0; last = false; ops = write 4 2 ∷ [] })
    ∷ Some (record { master = 0; clock = 0; last = true; ops = read 0 ∷ [] })
    ∷ Some (record { master = 1; clock = 0; last = true; ops = write 0 9 ∷ [] }) ∷ []
unfolding placed
two_masters_read = refl

-- an address that is no multiple of 4
odd_address : map (line_of W32 2) (lines_of (codes "0 0 end w0=1" ++ 10 ∷ codes "0 0 end w2=1" ++ 10 ∷ []))
    ≡ Some (record { master = 0; clock = 0; last = true; ops = write 0 1 ∷ [] }) ∷ None ∷ []
unfolding placed
odd_address = refl

-- on a bus of 64 data bits, where the lower address has the upper lanes
wide_lanes : line_of W64 1 (codes "0 0 end w0=1 w4=2")
    ≡ Some (record { master = 0; clock = 0; last = true; ops = record { write = true; adr = 0; dat = 4294967296; sel = 240 } ∷ record { write = true; adr = 0; dat = 2; sel = 15 } ∷ [] })
unfolding placed
wide_lanes = refl

-- the empty text, a newline alone, and an empty line at the end
no_lines : lines_of [] ≡ []
no_lines = refl

empty_line : lines_of (10 ∷ []) ≡ [] ∷ []
empty_line = refl

empty_last : lines_of (codes "0 0 end r0" ++ 10 ∷ 10 ∷ []) ≡ codes "0 0 end r0" ∷ [] ∷ []
empty_last = refl

-- lines that are none: empty, of two spaces, of a master or a clock that is too great, without operations, of another mark
none_read : map (line_of W32 2) ([] ∷ codes "0  0 end r0" ∷ codes "2 0 end r0" ∷ codes "0 10001 end r0" ∷ codes "0 0 end" ∷ codes "0 0 END r0" ∷ codes "0 0 end r0 " ∷ [])
    ≡ None ∷ None ∷ None ∷ None ∷ None ∷ None ∷ None ∷ []
none_read = refl

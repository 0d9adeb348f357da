-- The text of a journal.
use Rattle.std.specs.Prelude.{ℕ, Bool, true, false, if◌then◌else◌, List, [], ◌∷◌, ◌++◌, codes, decimal}
use Rattle.eb_io.specs.Text.{line, digits_2, digits_16}
use Rattle.wb_signals.specs.Request.{Request}
use Rattle.wb_signals.specs.History.{Pair, Entry}
use Rattle.wb_signals.specs.declared.answer.Answer.{Answer}
use Rattle.wb_signals.specs.declared.answer.Answer.TheVariants.{Ack, Err, Rty}

-- a write, with its data
abbrev pub write_text : Request → List ℕ
write_text r = codes "w " ++ digits_16 r.adr ++ codes " " ++ digits_2 r.sel ++ codes " " ++ digits_16 r.dat

-- a read
abbrev pub read_text : Request → List ℕ
read_text r = codes "r " ++ digits_16 r.adr ++ codes " " ++ digits_2 r.sel

abbrev pub request_text : Request → List ℕ
request_text r = if r.write then write_text r else read_text r

-- the answer of a write or a read: a read's has the word that was read
abbrev pub answer_text : Bool → Answer → List ℕ
answer_text true (Ack word) = codes "ack"
answer_text false (Ack word) = codes "ack " ++ digits_16 word
answer_text write Err = codes "err"
answer_text write Rty = codes "rty"

-- an operation with its answer
abbrev pub pair_line : Pair → List ℕ
pair_line p = line (request_text p.request ++ codes " " ++ answer_text p.request.write p.answer)

abbrev pub pair_lines : List Pair → List ℕ
pair_lines [] = []
pair_lines (p ∷ pairs) = pair_line p ++ pair_lines pairs

-- whether a cycle was cut
abbrev pub mark_text : Bool → List ℕ
mark_text cut = if cut then codes "cut" else codes "whole"

-- the head of a cycle: its master, in decimal, and its mark
abbrev pub cycle_line : ℕ → Bool → List ℕ
cycle_line master cut = line (codes "cycle " ++ decimal master ++ codes " " ++ mark_text cut)

abbrev pub entry_text : Entry → List ℕ
entry_text e = cycle_line e.master e.cut ++ pair_lines e.pairs

abbrev pub entries_text : List Entry → List ℕ
entries_text [] = []
entries_text (e ∷ entries) = entry_text e ++ entries_text entries

-- the whole text
abbrev pub journal_text : List Entry → List ℕ
journal_text entries = line (codes "journal") ++ entries_text entries

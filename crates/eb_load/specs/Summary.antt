-- What is counted of a run, and its text.
use Rattle.std.specs.Prelude.{ℕ, ◌+◌, ◌-◌, ◌%◌, ◌^◌, ◌++◌, List, flat_map, length, min, count_by, sum_by, codes, decimal, Bool, true, false, not, if◌then◌else◌}
use Rattle.wb_signals.specs.History.{Pair, Entry}
use Rattle.wb_signals.specs.declared.answer.Answer.{Answer}
use Rattle.wb_signals.specs.declared.answer.Answer.TheVariants.{Ack, Err, Rty}
use Rattle.eb_io.specs.Text.{line, digits_16}
use Rattle.eb_load.specs.declared.counted.Totals.{Totals}
use Rattle.eb_load.specs.declared.summary.Summary.{Summary}

-- all operations of the entries with their answers, in order
abbrev pub operations : List Entry → List Pair
operations entries = flat_map (λ (e : Entry). e.pairs) entries

-- a count, which stands still at the last value of 64 bits
abbrev pub capped : ℕ → ℕ
capped n = min n (2 ^ 64 - 1)

-- ERR or RTY
abbrev pub is_refusal : Answer → Bool
is_refusal (Ack word) = false
is_refusal Err = true
is_refusal Rty = true

-- the word of an ACK
abbrev pub word_in : Answer → ℕ
word_in (Ack word) = word
word_in Err = 0
word_in Rty = 0

abbrev pub is_write : Pair → Bool
is_write p = p.request.write

abbrev pub is_read : Pair → Bool
is_read p = not p.request.write

abbrev pub is_refused : Pair → Bool
is_refused p = is_refusal p.answer

-- the word that an operation read: 0 for a write, ERR and RTY
abbrev pub word_read : Pair → ℕ
word_read p = if p.request.write then 0 else word_in p.answer

-- how many of the operations are writes, reads and refused, and the sum of the words read, modulo 2^64
unfoldable pub totals : List Pair → Totals
totals pairs = record {
  writes = capped (count_by is_write pairs);
  reads = capped (count_by is_read pairs);
  errors = capped (count_by is_refused pairs);
  sum = sum_by word_read pairs % 2 ^ 64;
}

-- what is counted of operations and more of them
abbrev pub joined : Totals → Totals → Totals
joined a b = record {
  writes = capped (a.writes + b.writes);
  reads = capped (a.reads + b.reads);
  errors = capped (a.errors + b.errors);
  sum = (a.sum + b.sum) % 2 ^ 64;
}

-- the summary of a run with these entries
abbrev pub summary : List Entry → ℕ → ℕ → Summary
summary entries octets_in octets_out = record {
  cycles = capped (length entries);
  writes = (totals (operations entries)).writes;
  reads = (totals (operations entries)).reads;
  octets_in = octets_in;
  octets_out = octets_out;
  errors = (totals (operations entries)).errors;
  sum = (totals (operations entries)).sum;
}

-- its text: a line a number, decimal but for the sum, which has 16 hexadecimal digits
abbrev pub summary_text : Summary → List ℕ
summary_text s =
    line (codes "cycles " ++ decimal s.cycles) ++ line (codes "writes " ++ decimal s.writes) ++ line (codes "reads " ++ decimal s.reads) ++ line (codes "octets-in " ++ decimal s.octets_in)
    ++ line (codes "octets-out " ++ decimal s.octets_out) ++ line (codes "errors " ++ decimal s.errors) ++ line (codes "sum " ++ digits_16 s.sum)

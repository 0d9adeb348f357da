use Rattle.std.proofs.Common.{◌≢◌, ◌<◌, ℕ, List, [], map, string_bytes}
use Rattle.std.specs.List.{slice_index_or}
use Rattle.eb_text.proofs.command.are_named.Given as goal

-- None of the words before it is empty.
abbrev pub invariant-loop-word : goal.invariant-loop-word
invariant-loop-word l = (k : ℕ) → k < l.word-index → (d : List ℕ) → slice_index_or (map string_bytes l.words) k d ≢ []

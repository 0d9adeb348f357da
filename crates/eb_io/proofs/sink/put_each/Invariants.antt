use Rattle.std.proofs.Common.{drop, List, ℕ, Bor}
use Rattle.std.specs.List.{flat_map}
use Rattle.eb_io.proofs.WritingLemmas.{Went}
use Rattle.eb_io.proofs.sink.put_each.Given as goal

abbrev pub invariant-loop-piece : goal.invariant-loop-piece
invariant-loop-piece g l =
    Went g.S.Sink.writing g.S.Sink.beside_writes l.initial.sink l.sink (flat_map (λ (piece : Bor (List ℕ)). piece.now) l.pieces)
    (flat_map (λ (piece : Bor (List ℕ)). piece.now) (drop l.piece-index l.pieces))

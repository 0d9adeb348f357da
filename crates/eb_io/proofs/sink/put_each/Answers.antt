use Rattle.std.proofs.Common.{List, ℕ, ◌<◌, length, Bor, refl, arith}
use Rattle.std.specs.List.{flat_map}
use Rattle.std.proofs.lemmas.List.{get_or_default}
use Rattle.eb_io.proofs.WritingLemmas.{went_item, wrong_item}
use Rattle.eb_io.proofs.sink.put_each.Goals as goal

pub returns-in_err-put_all : goal.returns-in_err-put_all
returns-in_err-put_all g c =
    let pieces = c.args.pieces.now in
    let i = c.loop-piece.piece-index in
    let lt : i < length pieces = omega arith in
    record {
      wrote = wrong_item g.S.Sink.writing g.S.Sink.beside_writes (λ (piece : Bor (List ℕ)). piece.now) (λ pieces. flat_map (λ (piece : Bor (List ℕ)). piece.now) pieces)
          (λ piece pieces. refl) _ _ _ pieces i _ _ _ _ c.from_residual.ensures.0 lt (get_or_default pieces i _ _ lt) refl c.loop-piece.invariant c.in_err-put_all.ensures.wrote;
    }

pub loop-piece-preserved : goal.loop-piece-preserved
loop-piece-preserved g c =
    let pieces = c.args.pieces.now in
    let i = c.loop-piece.piece-index in
    let lt : i < length pieces = omega arith in
    went_item g.S.Sink.writing g.S.Sink.beside_writes (λ (piece : Bor (List ℕ)). piece.now) (λ pieces. flat_map (λ (piece : Bor (List ℕ)). piece.now) pieces)
    (λ piece pieces. refl) _ _ _ pieces i _ _ lt (get_or_default pieces i _ _ lt) refl c.loop-piece.invariant c.in_ok-put_all.ensures.wrote

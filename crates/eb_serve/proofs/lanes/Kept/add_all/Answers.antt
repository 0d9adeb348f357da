use Rattle.std.proofs.Common.{rules, ◌≡◌, [], ◌∷◌, ◌++◌, length, sym, ap, ◌∙◌, subst, arith, append_assoc, append-nil}
use Rattle.std.specs.Vec.Iter.{into_iter_items, into_iter_len}
use Rattle.std.specs.Prelude.{IsSome}
use Rattle.eb_replay.proofs.LaneLemmas.{all_at, nothing_left}
use Rattle.eb_serve.specs.Seats.{WereKept, KeepsSpace}
use Rattle.eb_serve.proofs.SeatLemmas.{kept_none, kept_more}
use Rattle.eb_serve.proofs.lanes.Kept.add_all.Goals as goal

pub loop-lane-init : goal.loop-lane-init
loop-lane-init g c =
    let gives = c.into_iter-lane-iterator.ensures.into_iter_gives.0 in
    let len : into_iter_len c.into_iter-lane-iterator.result ≡ length (into_iter_items c.into_iter-lane-iterator.result) = search rules in
    record {
      len = len;
      lanes = gives;
      kept = kept_none c.args.self.now.doors.items c.args.self.now.passes.items c.args.self.now.ports.items c.requires.none.doors c.requires.none.passes c.requires.none.ports;
      space = subst (λ n. KeepsSpace n c.args.self.now) (ap length (sym gives)) c.requires.space;
    }

pub loop-lane-preserved : goal.loop-lane-preserved
loop-lane-preserved g c =
    let at = c.loop-lane in
    let x = c.in-Some.lane in
    let steps : into_iter_items at.lane-iterator ≡ x ∷ into_iter_items c.next.new.self = c.in-Some.ensures.steps.0 in
    let all : at.yielded ++ x ∷ into_iter_items c.next.new.self ≡ c.args.lanes.items = rw (← steps) at.invariant.lanes in
    let was = at.invariant.len in
    let gone = c.in-Some.ensures.steps.1 in
    let short = ap length steps in
    record {
      len = omega arith;
      lanes = append_assoc at.yielded (x ∷ []) (into_iter_items c.next.new.self) ∙ all;
      kept = kept_more at.yielded x _ _ _ _ _ _ at.invariant.kept c.add.ensures.door c.add.ensures.pass c.add.ensures.port;
      space = c.add.ensures.space (length (into_iter_items c.next.new.self)) (subst (λ n. KeepsSpace n at.self) (ap length steps) at.invariant.space);
    }

pub returns : goal.returns
returns g c =
    let at = c.loop-lane in
    let none = c.in-None.ensures.steps in
    let empty : into_iter_items at.lane-iterator ≡ [] = nothing_left (into_iter_items at.lane-iterator) (sym at.invariant.len ∙ none.0) in
    let whole : at.yielded ≡ c.args.lanes.items = sym (append-nil at.yielded) ∙ rw empty at at.invariant.lanes in
    record { kept = subst (λ xs. WereKept xs at.self.doors.items at.self.passes.items at.self.ports.items) whole at.invariant.kept }

pub add-requires-clause-there : goal.add-requires-clause-there
add-requires-clause-there g c =
    let at = c.loop-lane in
    let x = c.in-Some.lane in
    let steps : into_iter_items at.lane-iterator ≡ x ∷ into_iter_items c.next.new.self = c.in-Some.ensures.steps.0 in
    let all : at.yielded ++ x ∷ into_iter_items c.next.new.self ≡ c.args.lanes.items = rw (← steps) at.invariant.lanes in
    all_at (λ k. IsSome k.pass) c.args.lanes.items at.yielded x (into_iter_items c.next.new.self) c.requires.there all

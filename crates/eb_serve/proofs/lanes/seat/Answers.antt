use Rattle.std.proofs.Common.{rules, ◌≡◌, suc, ◌+◌, List, [], ◌∷◌, ◌++◌, length, sym, ap, ◌∙◌, subst, arith, append_assoc, append-nil, length-append}
use Rattle.std.specs.Prelude.{All, option_to_list}
use Rattle.std.specs.Vec.Iter.{into_iter_items, into_iter_len}
use Rattle.soc_turn.specs.Views.{RootView}
use Rattle.soc_bus.specs.View.{BusState}
use Rattle.eb_replay.specs.Lanes.{EachAt}
use Rattle.eb_replay.proofs.LaneLemmas.{each_none, each_more, all_front, all_last, nothing_left}
use Rattle.eb_ports.specs.Ends.{EndsState, no_ends}
use Rattle.eb_serve.specs.Seats.{IsAtDoor}
use Rattle.eb_serve.proofs.SeatLemmas.{at_door}
use Rattle.eb_serve.proofs.lanes.seat.Goals as goal

pub loop-door-init : goal.loop-door-init
loop-door-init g c =
    let gives = c.into_iter-door-iterator.ensures.into_iter_gives.0 in
    let len : into_iter_len c.into_iter-door-iterator.result ≡ length (into_iter_items c.into_iter-door-iterator.result) = search rules in
    record {
      len = len;
      doors = gives;
      count = ap length c.requires.empty;
      seated = subst (λ xs. EachAt (IsAtDoor c.args.turn.now c.args.connections c.args.doors.items) xs) (sym c.requires.empty) (each_none (IsAtDoor c.args.turn.now c.args.connections c.args.doors.items));
      root = λ i. record c.args.root.now { made = c.requires.first i };
      ends = c.requires.ends ∙ ap length (sym gives);
      ready = c.requires.ready;
      space = c.requires.space;
    }

pub loop-door-preserved : goal.loop-door-preserved
loop-door-preserved g c =
    let count = c.args.connections in
    let doors = c.args.doors.items in
    let at = c.loop-door in
    let x = c.in-Some.door in
    let lane = c.new_lane.result in
    let room = c.unwrap-room.result in
    let ends = c.pop.new.self.items in
    let steps : into_iter_items at.door-iterator ≡ x ∷ into_iter_items c.next.new.self = c.in-Some.ensures.steps.0 in
    let all : at.yielded ++ x ∷ into_iter_items c.next.new.self ≡ doors = rw (← steps) at.invariant.doors in
    let popped : at.ends.items ≡ ends ++ room ∷ [] = c.pop.ensures.items ∙ ap (λ o. ends ++ option_to_list o) c.unwrap-room.ensures in
    let ready = subst (λ (xs : List EndsState). All (λ e. e ≡ no_ends count) xs) popped at.invariant.ready in
    let more : length (at.yielded ++ x ∷ []) ≡ length at.yielded + 1 = length-append at.yielded (x ∷ []) in
    let seated : length (at.lanes.items ++ lane ∷ []) ≡ length at.lanes.items + 1 = length-append at.lanes.items (lane ∷ []) in
    let pushed : length c.push_reserved.new.self.items ≡ length at.lanes.items + 1 = ap length c.push_reserved.ensures.items ∙ seated in
    let fewer : length at.ends.items ≡ length ends + 1 = ap length popped ∙ length-append ends (room ∷ []) in
    let left : length (into_iter_items at.door-iterator) ≡ suc (length (into_iter_items c.next.new.self)) = ap length steps in
    let made = ap (λ (r : RootView BusState). r.made) at.invariant.root in
    let was = at.invariant.len in
    let gone = c.in-Some.ensures.steps.1 in
    record {
      len = omega arith;
      doors = append_assoc at.yielded (x ∷ []) (into_iter_items c.next.new.self) ∙ all;
      count = omega (arith, pushed, more, at.invariant.count);
      seated = subst (λ xs. EachAt (IsAtDoor c.args.turn.now count doors) xs) (sym c.push_reserved.ensures.items)
          (each_more (IsAtDoor c.args.turn.now count doors) at.lanes.items lane at.invariant.seated
          (at_door c.args.turn.now count doors at.yielded (into_iter_items c.next.new.self) x room lane (length at.lanes.items) all at.invariant.count
          c.new_lane.ensures.door c.new_lane.ensures.ends (all_last (λ e. e ≡ no_ends count) ends room ready) c.new_lane.ensures.there
          (c.new_lane.ensures.number ∙ made ∙ sym at.invariant.count) c.new_lane.ensures.none));
      root = c.new_lane.ensures.root ∙ ap (λ (r : RootView BusState). record r { made = r.made + 1 }) at.invariant.root ∙ (λ i. record c.args.root.now { made = sym more i });
      ends = omega (arith, fewer, left, at.invariant.ends);
      ready = all_front (λ e. e ≡ no_ends count) ends room ready;
      space = omega (arith, c.push_reserved.ensures.capacity, at.invariant.space);
    }

pub returns-clause-root : goal.returns-clause-root
returns-clause-root g c =
    let at = c.loop-door in
    let none = c.in-None.ensures.steps in
    let empty : into_iter_items at.door-iterator ≡ [] = nothing_left (into_iter_items at.door-iterator) (sym at.invariant.len ∙ none.0) in
    let whole : at.yielded ≡ c.args.doors.items = sym (append-nil at.yielded) ∙ rw empty at at.invariant.doors in
    at.invariant.root ∙ (λ i. record c.args.root.now { made = length (whole i) })

pub returns-clause-count : goal.returns-clause-count
returns-clause-count g c =
    let at = c.loop-door in
    let none = c.in-None.ensures.steps in
    let empty : into_iter_items at.door-iterator ≡ [] = nothing_left (into_iter_items at.door-iterator) (sym at.invariant.len ∙ none.0) in
    let whole : at.yielded ≡ c.args.doors.items = sym (append-nil at.yielded) ∙ rw empty at at.invariant.doors in
    at.invariant.count ∙ ap length whole

pub returns-clause-seated : goal.returns-clause-seated
returns-clause-seated g c = c.loop-door.invariant.seated

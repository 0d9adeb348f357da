use Rattle.std.proofs.Common.{rules, ◌≡◌, suc, ◌+◌, [], ◌∷◌, ◌++◌, length, sym, ap, ◌∙◌, subst, arith, append_assoc, append-nil, length-append}
use Rattle.std.specs.Prelude.{All, option_to_list}
use Rattle.std.specs.Vec.Iter.{into_iter_items, into_iter_len}
use Rattle.soc_turn.specs.Views.{RootView}
use Rattle.soc_bus.specs.View.{BusState}
use Rattle.eb_replay.specs.Replay.{replay_slave}
use Rattle.eb_replay.specs.Lanes.{EachAt, IsUnused, IsSeated}
use Rattle.eb_replay.proofs.LaneLemmas.{each_none, each_more, all_front, all_last, seated_one, nothing_left}
use Rattle.eb_replay.proofs.lanes.seat.Goals as goal

pub loop-file-init : goal.loop-file-init
loop-file-init g c =
    let gives = c.into_iter-file-iterator.ensures.into_iter_gives.0 in
    let len : into_iter_len c.into_iter-file-iterator.result ≡ length (into_iter_items c.into_iter-file-iterator.result) = search rules in
    record {
      len = len;
      files = gives;
      count = ap length c.requires.empty;
      seated = subst (λ xs. EachAt (IsSeated c.args.turn.now (replay_slave c.args.root.now.origin.description) c.args.files.items) xs) (sym c.requires.empty) (each_none (IsSeated c.args.turn.now (replay_slave c.args.root.now.origin.description) c.args.files.items));
      root = λ i. record c.args.root.now { made = c.requires.first i };
      rooms = c.requires.rooms ∙ ap length (sym gives);
      ready = c.requires.ready;
      space = c.requires.space;
    }

pub loop-file-preserved : goal.loop-file-preserved
loop-file-preserved g c =
    let d = c.args.root.now.origin.description in
    let files = c.args.files.items in
    let at = c.loop-file in
    let x = c.in-Some.file in
    let lane = c.new_lane.result in
    let room = c.unwrap-room.result in
    let rooms = c.pop.new.self.items in
    let steps : into_iter_items at.file-iterator ≡ x ∷ into_iter_items c.next.new.self = c.in-Some.ensures.steps.0 in
    let all : at.yielded ++ x ∷ into_iter_items c.next.new.self ≡ files = rw (← steps) at.invariant.files in
    let popped : at.rooms.items ≡ rooms ++ room ∷ [] = c.pop.ensures.items ∙ ap (λ o. rooms ++ option_to_list o) c.unwrap-room.ensures in
    let ready = subst (λ xs. All (IsUnused (replay_slave d)) xs) popped at.invariant.ready in
    let more : length (at.yielded ++ x ∷ []) ≡ length at.yielded + 1 = length-append at.yielded (x ∷ []) in
    let seated : length (at.lanes.items ++ lane ∷ []) ≡ length at.lanes.items + 1 = length-append at.lanes.items (lane ∷ []) in
    let pushed : length c.push_reserved.new.self.items ≡ length at.lanes.items + 1 = ap length c.push_reserved.ensures.items ∙ seated in
    let fewer : length at.rooms.items ≡ length rooms + 1 = ap length popped ∙ length-append rooms (room ∷ []) in
    let left : length (into_iter_items at.file-iterator) ≡ suc (length (into_iter_items c.next.new.self)) = ap length steps in
    let made = ap (λ (r : RootView BusState). r.made) at.invariant.root in
    let was = at.invariant.len in
    let gone = c.in-Some.ensures.steps.1 in
    record {
      len = omega arith;
      files = append_assoc at.yielded (x ∷ []) (into_iter_items c.next.new.self) ∙ all;
      count = omega (arith, pushed, more, at.invariant.count);
      seated = subst (λ xs. EachAt (IsSeated c.args.turn.now (replay_slave d) files) xs) (sym c.push_reserved.ensures.items)
          (each_more (IsSeated c.args.turn.now (replay_slave d) files) at.lanes.items lane at.invariant.seated
          (seated_one c.args.turn.now (replay_slave d) files at.yielded (into_iter_items c.next.new.self) x room lane (length at.lanes.items) all at.invariant.count
          c.new_lane.ensures.link c.new_lane.ensures.session c.new_lane.ensures.rooms (all_last (IsUnused (replay_slave d)) rooms room ready) c.new_lane.ensures.there
          (c.new_lane.ensures.number ∙ made ∙ sym at.invariant.count) c.new_lane.ensures.none));
      root = c.new_lane.ensures.root ∙ ap (λ (r : RootView BusState). record r { made = r.made + 1 }) at.invariant.root ∙ (λ i. record c.args.root.now { made = sym more i });
      rooms = omega (arith, fewer, left, at.invariant.rooms);
      ready = all_front (IsUnused (replay_slave d)) rooms room ready;
      space = omega (arith, c.push_reserved.ensures.capacity, at.invariant.space);
    }

pub returns-clause-root : goal.returns-clause-root
returns-clause-root g c =
    let at = c.loop-file in
    let none = c.in-None.ensures.steps in
    let empty : into_iter_items at.file-iterator ≡ [] = nothing_left (into_iter_items at.file-iterator) (sym at.invariant.len ∙ none.0) in
    let whole : at.yielded ≡ c.args.files.items = sym (append-nil at.yielded) ∙ rw empty at at.invariant.files in
    at.invariant.root ∙ (λ i. record c.args.root.now { made = length (whole i) })

pub returns-clause-count : goal.returns-clause-count
returns-clause-count g c =
    let at = c.loop-file in
    let none = c.in-None.ensures.steps in
    let empty : into_iter_items at.file-iterator ≡ [] = nothing_left (into_iter_items at.file-iterator) (sym at.invariant.len ∙ none.0) in
    let whole : at.yielded ≡ c.args.files.items = sym (append-nil at.yielded) ∙ rw empty at at.invariant.files in
    at.invariant.count ∙ ap length whole

pub returns-clause-seated : goal.returns-clause-seated
returns-clause-seated g c = c.loop-file.invariant.seated

use Rattle.std.proofs.Common.{◌≡◌, ◌+◌, [], ◌∷◌, ◌++◌, length, sym, ap, ◌∙◌, subst, arith, length-append}
use Rattle.std.specs.Prelude.{All}
use Rattle.eb_session.proofs.ListLemmas.{All-more}
use Rattle.eb_replay.specs.Lanes.{IsUnused}
use Rattle.eb_replay.proofs.lanes.take_rooms.Goals as goal

pub loop-preserved : goal.loop-preserved
loop-preserved c =
    let room = c.in_ok-new.field-0 in
    let rooms = c.loop.rooms.items in
    let items : c.push_reserved.new.self.items ≡ rooms ++ room ∷ [] = c.push_reserved.ensures.items in
    let pushed : length c.push_reserved.new.self.items ≡ length rooms + 1 = ap length items ∙ length-append rooms (room ∷ []) in (
      omega (arith, pushed, c.loop.invariant.0),
      omega (arith, c.push_reserved.ensures.capacity, c.loop.invariant.1),
      subst (λ xs. All (IsUnused c.args.slave) xs) (sym items) (All-more (IsUnused c.args.slave) rooms room c.loop.invariant.2 c.in_ok-new.ensures.ready),
    )

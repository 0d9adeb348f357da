use Rattle.std.proofs.Common.{rules, ◌<◌, [], ap}
use Rattle.soc_turn.specs.Roles.{made_of, origin_of}
use Rattle.soc_turn.proofs.RoleLemmas.{root_is}
use Rattle.soc_turn.proofs.StepLemmas.{splits}
use Rattle.soc_turn.proofs.turn.Turn.pass.Goals as goal

pub split_seat-seat-requires : goal.split_seat-seat-requires
split_seat-seat-requires g c = let s = c.root.inside.seat in let is = root_is s.me c.root.inside.rooted in let few : made_of s.me.0 < 16 = search rules in
    (search rules, search rules, splits g.T.Ledgered.history g.T.Ledgered.stake g.T.Ledgered.charter s.id (made_of s.me.0) (origin_of s.me c.root.inside.rooted) [] s.me.0 (ap (λ m. m.0) is) few)

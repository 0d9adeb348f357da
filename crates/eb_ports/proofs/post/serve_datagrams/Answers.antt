use Rattle.std.proofs.Common.{ℕ, [], ◌∷◌, ◌++◌, subst, ◌∙◌, ap, arith, length-append}
use Rattle.eb_net.specs.Posting.{Posting}
use Rattle.eb_server.specs.declared.ending.Ending.{Ending}
use Rattle.eb_ports.specs.Datagrams.{ServedDatagram}
use Rattle.eb_ports.proofs.DatagramLemmas.{served_more, added_more}
use Rattle.eb_ports.proofs.post.serve_datagrams.Goals as goal

pub serving-preserved : goal.serving-preserved
serving-preserved g c =
    let i = c.serving.invariant in
    let e : Ending = c.in-Some.ending in
    let m = (g.M.Master.identity c.args.master.now).number in
    let mid : Posting = g.P.Post.posting c.serving.post in
    let new : Posting = g.P.Post.posting c.serve_datagram.new.post in
    let one : ServedDatagram m c.args.slave mid new (g.M.Master.cycles c.serving.master) (g.M.Master.cycles c.serve_datagram.new.master) e
    = subst (λ (n : ℕ). ServedDatagram n c.args.slave mid new (g.M.Master.cycles c.serving.master) (g.M.Master.cycles c.serve_datagram.new.master) e) (ap (λ q. q.number) i.identity) c.in-Some.ensures.served in
    record {
      endings = i.endings ++ e ∷ [];
      served = served_more m c.args.slave (g.P.Post.posting c.args.post.now) mid new (g.M.Master.cycles c.args.master.now) (g.M.Master.cycles c.serving.master) (g.M.Master.cycles c.serve_datagram.new.master) i.endings e i.served one;
      count = omega (arith, length-append i.endings (e ∷ []), i.count);
      added = added_more c.args.ends.now c.serving.ends c.add.new.self i.endings e i.added c.add.ensures.added;
      rooms = c.in-Some.ensures.rooms;
      none_open = c.in-Some.ensures.none_open;
      identity = c.in-Some.ensures.identity ∙ i.identity;
    }

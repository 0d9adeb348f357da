use Rattle.std.proofs.Common.{◌≡◌, ℕ, ◌+◌, ◌-◌, ◌++◌, List, length, take, drop, ap, ◌∙◌, sym, subst, arith}
use Rattle.eb_session.specs.Keeping.{SessionState}
use Rattle.eb_server.proofs.PieceLemmas.{RunsTo, runs_none, runs_more, runs_whole, ends_in, slice_rest}
use Rattle.eb_ports.proofs.DatagramLemmas.{ran_inside, ran_whole}
use Rattle.eb_ports.proofs.datagram.run_datagram.Goals as goal

pub feeding-init : goal.feeding-init
feeding-init g c = record {
  runs = subst (λ (l : List ℕ). RunsTo (g.M.Master.identity c.args.master.now).number c.args.session.now (g.M.Master.cycles c.args.master.now) c.args.octets.now 0 c.args.session.now (g.M.Master.cycles c.args.master.now) l)
      (sym c.clear.ensures.items) (runs_none (g.M.Master.identity c.args.master.now).number c.args.session.now (g.M.Master.cycles c.args.master.now) c.args.octets.now (ap (λ (k : SessionState). k.ending) c.requires.fresh));
  identity = λ i. g.M.Master.identity c.args.master.now;
  room = omega arith;
}

pub returns-in-Err-clause-ran : goal.returns-in-Err-clause-ran
returns-in-Err-clause-ran g c =
    ran_inside (g.M.Master.identity c.args.master.now).number c.args.session.now c.feed.new.self (g.M.Master.cycles c.args.master.now) (g.M.Master.cycles c.feed.new.master) c.args.octets.now c.feeding.replies.items
    c.in-Err.end c.requires.fresh c.requires.none_open
    (ends_in (g.M.Master.identity c.args.master.now).number (g.M.Master.identity c.feeding.master).number c.args.session.now c.feeding.session c.feed.new.self
    (g.M.Master.cycles c.args.master.now) (g.M.Master.cycles c.feeding.master) (g.M.Master.cycles c.feed.new.master)
    c.args.octets.now (take (length c.args.octets.now - c.feeding.at) (drop c.feeding.at c.args.octets.now)) c.feeding.replies.items c.feeding.at c.in-Err.end (ap (λ q. q.number) c.feeding.invariant.identity) (slice_rest c.feeding.at c.args.octets.now) c.feeding.invariant.runs c.in-Err.ensures.fed)

pub feeding-preserved : goal.feeding-preserved
feeding-preserved g c =
    let items : c.put.new.out.items ≡ c.feeding.replies.items ++ c.feed.new.self.reply = c.put.ensures.items ∙ ap (λ (l : List ℕ). c.feeding.replies.items ++ l) c.reply.ensures.reply in
    record {
      runs = subst (λ (l : List ℕ). RunsTo (g.M.Master.identity c.args.master.now).number c.args.session.now (g.M.Master.cycles c.args.master.now) c.args.octets.now (c.feeding.at + c.in-Ok.fed.taken) c.feed.new.self (g.M.Master.cycles c.feed.new.master) l) (sym items)
          (runs_more (g.M.Master.identity c.args.master.now).number (g.M.Master.identity c.feeding.master).number c.args.session.now c.feeding.session c.feed.new.self
          (g.M.Master.cycles c.args.master.now) (g.M.Master.cycles c.feeding.master) (g.M.Master.cycles c.feed.new.master)
          c.args.octets.now (take (length c.args.octets.now - c.feeding.at) (drop c.feeding.at c.args.octets.now)) c.feeding.replies.items c.feeding.at c.in-Ok.fed (ap (λ q. q.number) c.feeding.invariant.identity) (slice_rest c.feeding.at c.args.octets.now) c.feeding.invariant.runs
          c.in-Ok.ensures.fed c.in-Ok.ensures.placed c.in-Ok.ensures.short c.in-Ok.ensures.slave c.in-Ok.ensures.running);
      identity = c.in-Ok.ensures.identity ∙ c.feeding.invariant.identity;
      room = omega (arith, c.put.ensures.capacity, c.feeding.invariant.room);
    }

pub returns-clause-ran : goal.returns-clause-ran
returns-clause-ran g c =
    let i = c.feeding.invariant in
    ran_whole (g.M.Master.identity c.args.master.now).number (g.M.Master.identity c.feeding.master).number c.args.session.now c.feeding.session c.finish.new.self
    (g.M.Master.cycles c.args.master.now) (g.M.Master.cycles c.feeding.master) (g.M.Master.cycles c.finish.new.master) c.args.octets.now c.feeding.replies.items c.finish.result
    (ap (λ q. q.number) i.identity) c.requires.fresh c.requires.none_open i.runs.slave
    (runs_whole (g.M.Master.identity c.args.master.now).number c.args.session.now c.feeding.session (g.M.Master.cycles c.args.master.now) (g.M.Master.cycles c.feeding.master)
    c.args.octets.now c.feeding.replies.items c.feeding.at i.runs (omega (arith, c.feeding-test.false))) c.finish.ensures.finished

use Rattle.std.proofs.Common.{◌≡◌, ℕ, Bool, List, ◌++◌, length, take, Some, Ok, Err, sym, ap, ◌∙◌, subst, arith}
use Rattle.eb_codec.specs.Decoding.{Takes}
use Rattle.eb_session.specs.Inside.{state_in}
use Rattle.eb_session.specs.declared.session.End.TheVariants as end
use Rattle.eb_session.specs.Keeping.{SessionState, FeedsSession, is_item}
use Rattle.eb_session.proofs.FeedLemmas.{takes, gives_sets, gives_fault, gives_narrow, from_view, item_ran, item_unrun, refuses, refused, malformed_exactly}
use Rattle.eb_session.proofs.ShortLemmas.{fed_short}
use Rattle.eb_session.proofs.session.Session.feed_item.Goals as goal

pub invariant_of-self-in-Ok : goal.invariant_of-self-in-Ok
invariant_of-self-in-Ok g c =
    let a = c.self.inside in
    let inv = c.self.invariant in
    let new = c.feed.new.self in
    let t = takes a.decoder new c.args.piece.now c.in-Ok.step c.in-Ok.ensures.fed in
    let o : List ℕ = a.decoder.pending ++ take c.in-Ok.step.taken c.args.piece.now in
    record {
      sets = gives_sets a.decoder new o c.in-Ok.step.item t.gives ∙ inv.sets;
      fault = λ e. gives_fault a.decoder new o c.in-Ok.step.item t.gives ∙ inv.fault e;
      narrow = gives_narrow a.slave.bus a.decoder new o c.in-Ok.step.item inv.sets inv.narrow t.gives;
      ops = inv.ops;
      reply = omega (arith, inv.reply, c.clear.ensures.capacity);
      most = omega (arith, ap length c.clear.ensures.items);
    }

pub returns-in-Err-clause-fed : goal.returns-in-Err-clause-fed
returns-in-Err-clause-fed g c =
    let a = c.self.inside in
    let m : ℕ = (g.M.Master.identity c.args.master.now).number in
    let s : SessionState = record (state_in a) { progress = c.feed.new.self; reply = c.clear.new.self.items; ending = Some (end.Malformed c.in-Err.fault.place c.in-Err.fault.why) } in
    let r = refuses a.decoder c.feed.new.self c.args.piece.now c.in-Err.fault (c.self.invariant.fault c.in_default.is) c.in-Err.ensures.fed in
    from_view m (state_in a) c.args.self.now s c.args.piece.now (g.M.Master.cycles c.args.master.now) (g.M.Master.cycles c.cut_open.new.master) (Err (end.Malformed c.in-Err.fault.place c.in-Err.fault.why))
    c.self.view_is c.in_default.is (refused m (state_in a) c.args.piece.now c.clear.new.self.items c.in-Err.fault c.feed.new.self (g.M.Master.cycles c.args.master.now) (g.M.Master.cycles c.cut_open.new.master) r c.clear.ensures.items c.cut_open.ensures.cut)

pub returns-in-Err-clause-malformed : goal.returns-in-Err-clause-malformed
returns-in-Err-clause-malformed g c =
    let s : SessionState = record (state_in c.self.inside) { progress = c.feed.new.self; reply = c.clear.new.self.items; ending = Some (end.Malformed c.in-Err.fault.place c.in-Err.fault.why) } in
    malformed_exactly (g.M.Master.identity c.args.master.now).number c.args.self.now s c.args.piece.now (g.M.Master.cycles c.args.master.now) (g.M.Master.cycles c.cut_open.new.master)
    (Err (end.Malformed c.in-Err.fault.place c.in-Err.fault.why)) (returns-in-Err-clause-fed g c)

pub returns-in-Ok-run_item-clause-fed : goal.returns-in-Ok-run_item-clause-fed
returns-in-Ok-run_item-clause-fed g c =
    let a = c.self.inside in
    let m : ℕ = (g.M.Master.identity c.args.master.now).number in
    let before = g.M.Master.cycles c.args.master.now in
    let after = g.M.Master.cycles c.run_item.new.master in
    let t : Takes a.decoder c.args.piece.now c.in-Ok.step c.feed.new.self = takes a.decoder c.feed.new.self c.args.piece.now c.in-Ok.step c.in-Ok.ensures.fed in
    let ran = item_ran m (state_in a) c.args.piece.now c.feed.new.self c.clear.new.self.items c.clear.ensures.items c.run_item.new.self before after c.in-Ok.step t c.in-Ok-run_item.ensures.ran in
    subst (λ (b : Bool). FeedsSession m c.args.self.now c.args.piece.now c.run_item.new.self before after (Ok (record { taken = c.in-Ok.step.taken; item = b }))) (sym c.has_item.ensures.value)
    (from_view m (state_in a) c.args.self.now c.run_item.new.self c.args.piece.now before after (Ok (record { taken = c.in-Ok.step.taken; item = is_item c.in-Ok.step.item })) c.self.view_is c.in_default.is ran)

pub returns-in-Ok-run_item-clause-malformed : goal.returns-in-Ok-run_item-clause-malformed
returns-in-Ok-run_item-clause-malformed g c = malformed_exactly (g.M.Master.identity c.args.master.now).number c.args.self.now c.run_item.new.self c.args.piece.now (g.M.Master.cycles c.args.master.now) (g.M.Master.cycles c.run_item.new.master)
    (Ok (record { taken = c.in-Ok.step.taken; item = c.has_item.result })) (returns-in-Ok-run_item-clause-fed g c)

pub returns-in-Ok-run_item-clause-short : goal.returns-in-Ok-run_item-clause-short
returns-in-Ok-run_item-clause-short g c = fed_short (g.M.Master.identity c.args.master.now).number c.args.self.now c.run_item.new.self c.args.piece.now (g.M.Master.cycles c.args.master.now) (g.M.Master.cycles c.run_item.new.master)
    (record { taken = c.in-Ok.step.taken; item = c.has_item.result }) (returns-in-Ok-run_item-clause-fed g c)

pub returns-in-Err-run_item-clause-fed : goal.returns-in-Err-run_item-clause-fed
returns-in-Err-run_item-clause-fed g c =
    let a = c.self.inside in
    let m : ℕ = (g.M.Master.identity c.args.master.now).number in
    let n : ℕ = (g.M.Master.identity c.run_item.new.master).number in
    let before = g.M.Master.cycles c.args.master.now in
    let after = g.M.Master.cycles c.run_item.new.master in
    let last = g.M.Master.cycles c.cut_open-in-Err-run_item.new.master in
    let s : SessionState = c.run_item.new.self in
    let e : SessionState = record s { ending = Some end.NoMemory } in
    let t : Takes a.decoder c.args.piece.now c.in-Ok.step c.feed.new.self = takes a.decoder c.feed.new.self c.args.piece.now c.in-Ok.step c.in-Ok.ensures.fed in
    let same : n ≡ m = ap (λ q. q.number) c.run_item.ensures.identity in
    let unrun = item_unrun m (state_in a) c.args.piece.now c.feed.new.self c.clear.new.self.items c.clear.ensures.items s before after c.in-Ok.step n last t c.in-Err-run_item.ensures.unrun same c.cut_open-in-Err-run_item.ensures.cut in
    let fed = from_view m (state_in a) c.args.self.now e c.args.piece.now before last (Err end.NoMemory) c.self.view_is c.in_default.is unrun in
    subst (λ (k : SessionState). FeedsSession m c.args.self.now c.args.piece.now (record k { ending = Some end.NoMemory }) before last (Err end.NoMemory)) (sym c.self-in-Ok.view_is) fed

pub returns-in-Err-run_item-clause-malformed : goal.returns-in-Err-run_item-clause-malformed
returns-in-Err-run_item-clause-malformed g c = malformed_exactly (g.M.Master.identity c.args.master.now).number c.args.self.now (record (state_in c.self-in-Ok.inside) { ending = Some end.NoMemory }) c.args.piece.now
    (g.M.Master.cycles c.args.master.now) (g.M.Master.cycles c.cut_open-in-Err-run_item.new.master) (Err end.NoMemory) (returns-in-Err-run_item-clause-fed g c)

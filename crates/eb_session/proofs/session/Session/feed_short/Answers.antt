use Rattle.std.proofs.Common.{◌≡◌, ℕ, ◌+◌, true, length, Some, Ok, Err, sym, ap, ◌∙◌, subst, arith}
use Rattle.eb_codec.specs.Decoding.{DecoderState, Takes}
use Rattle.eb_codec.specs.declared.event.Step.{Step}
use Rattle.eb_codec.specs.Short.{short_step}
use Rattle.eb_session.specs.Inside.{state_in}
use Rattle.eb_session.specs.declared.session.End.TheVariants as end
use Rattle.eb_session.specs.Keeping.{SessionState, FeedsSession, octets_taken}
use Rattle.eb_session.proofs.FeedLemmas.{takes, from_view, item_ran, item_unrun, malformed_exactly}
use Rattle.eb_session.proofs.ShortLemmas.{fed_short}
use Rattle.eb_session.proofs.session.Session.feed_short.Goals as goal

pub returns-in-Ok-clause-fed : goal.returns-in-Ok-clause-fed
returns-in-Ok-clause-fed g c =
    let a = c.self.inside in
    let m : ℕ = (g.M.Master.identity c.args.master.now).number in
    let before = g.M.Master.cycles c.args.master.now in
    let after = g.M.Master.cycles c.run_short.new.master in
    let step : Step = short_step c.in_ok-short.short in
    let t : Takes a.decoder c.args.piece.now step c.take_short.new.self = takes a.decoder c.take_short.new.self c.args.piece.now step c.in_ok-short.ensures.taken.fed in
    let ran = item_ran m (state_in a) c.args.piece.now c.take_short.new.self c.clear.new.self.items c.clear.ensures.items c.run_short.new.self before after step t c.in-Ok.ensures.ran in
    from_view m (state_in a) c.args.self.now c.run_short.new.self c.args.piece.now before after (Ok (record { taken = 20; item = true })) c.self.view_is c.in_default.is ran

pub returns-in-Ok-clause-malformed : goal.returns-in-Ok-clause-malformed
returns-in-Ok-clause-malformed g c = malformed_exactly (g.M.Master.identity c.args.master.now).number c.args.self.now c.run_short.new.self c.args.piece.now (g.M.Master.cycles c.args.master.now) (g.M.Master.cycles c.run_short.new.master)
    (Ok (record { taken = 20; item = true })) (returns-in-Ok-clause-fed g c)

pub returns-in-Ok-clause-short : goal.returns-in-Ok-clause-short
returns-in-Ok-clause-short g c = fed_short (g.M.Master.identity c.args.master.now).number c.args.self.now c.run_short.new.self c.args.piece.now (g.M.Master.cycles c.args.master.now) (g.M.Master.cycles c.run_short.new.master)
    (record { taken = 20; item = true }) (returns-in-Ok-clause-fed g c)

pub returns-in-Ok-clause-placed : goal.returns-in-Ok-clause-placed
returns-in-Ok-clause-placed g c =
    let s = c.in_ok-short.ensures.taken.stands in
    let q : c.run_short.new.self.progress ≡ c.take_short.new.self = ap (λ (k : SessionState). k.progress) c.in-Ok.ensures.ran.1.session in
    let from : octets_taken (state_in c.self.inside) ≡ octets_taken c.args.self.now = ap octets_taken c.self.view_is in
    record { within = s.within; moves = s.moves; place = ap (λ (p : DecoderState). p.start + length p.pending) q ∙ s.at ∙ ap (λ (n : ℕ). n + 20) from }

pub returns-in-Ok-clause-bound : goal.returns-in-Ok-clause-bound
returns-in-Ok-clause-bound g c = let p = returns-in-Ok-clause-placed g c in omega (arith, p.place, p.within)

pub returns-in-Err-clause-fed : goal.returns-in-Err-clause-fed
returns-in-Err-clause-fed g c =
    let a = c.self.inside in
    let m : ℕ = (g.M.Master.identity c.args.master.now).number in
    let n : ℕ = (g.M.Master.identity c.run_short.new.master).number in
    let before = g.M.Master.cycles c.args.master.now in
    let after = g.M.Master.cycles c.run_short.new.master in
    let last = g.M.Master.cycles c.cut_open.new.master in
    let s : SessionState = c.run_short.new.self in
    let e : SessionState = record s { ending = Some end.NoMemory } in
    let step : Step = short_step c.in_ok-short.short in
    let t : Takes a.decoder c.args.piece.now step c.take_short.new.self = takes a.decoder c.take_short.new.self c.args.piece.now step c.in_ok-short.ensures.taken.fed in
    let same : n ≡ m = ap (λ q. q.number) c.run_short.ensures.identity in
    let unrun = item_unrun m (state_in a) c.args.piece.now c.take_short.new.self c.clear.new.self.items c.clear.ensures.items s before after step n last t c.in-Err.ensures.unrun same c.cut_open.ensures.cut in
    let fed = from_view m (state_in a) c.args.self.now e c.args.piece.now before last (Err end.NoMemory) c.self.view_is c.in_default.is unrun in
    subst (λ (k : SessionState). FeedsSession m c.args.self.now c.args.piece.now (record k { ending = Some end.NoMemory }) before last (Err end.NoMemory)) (sym c.self-2.view_is) fed

pub returns-in-Err-clause-malformed : goal.returns-in-Err-clause-malformed
returns-in-Err-clause-malformed g c = malformed_exactly (g.M.Master.identity c.args.master.now).number c.args.self.now (record (state_in c.self-2.inside) { ending = Some end.NoMemory }) c.args.piece.now
    (g.M.Master.cycles c.args.master.now) (g.M.Master.cycles c.cut_open.new.master) (Err end.NoMemory) (returns-in-Err-clause-fed g c)

pub returns-in-Err-clause-bound : goal.returns-in-Err-clause-bound
returns-in-Err-clause-bound g c =
    let s = c.in_ok-short.ensures.taken.stands in
    let q = ap octets_taken (c.self-2.view_is ∙ c.in-Err.ensures.unrun.kept) in
    let from : octets_taken (state_in c.self.inside) ≡ octets_taken c.args.self.now = ap octets_taken c.self.view_is in
    omega (arith, q, s.at, s.within, from)

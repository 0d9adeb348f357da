use Rattle.std.proofs.Common.{◌≡◌, ◌+◌, List, [], ◌∷◌, ◌++◌, refl, sym, ap, ◌∙◌, subst, arith}
use Rattle.std.specs.Prelude.{All}
use Rattle.std.proofs.lemmas.List.Elements.{All-nil, All-cons}
use Rattle.wb_signals.specs.History.{own}
use Rattle.wb_signals.specs.Cycles.{Identity}
use Rattle.soc_turn.specs.Views.{RootView, PassView}
use Rattle.soc_bus.specs.View.{BusState}
use Rattle.eb_shared.specs.Shared.{Sharing, made_by}
use Rattle.eb_serve.proofs.AloneLemmas.{pass_is, pass_was, none_open, serves_alone}
use Rattle.eb_serve.proofs.datagrams.run.Goals as goal

pub serve_post-requires-clause-none_open : goal.serve_post-requires-clause-none_open
serve_post-requires-clause-none_open g c =
    let p = c.new_pass-pass.result in
    let first = c.new-master.result in
    none_open c.args.alone.turn p first.pass (pass_is first.pass p first.ready c.new-master.ensures.pass) c.new_pass-pass.ensures.there

pub gather-bus-requires-clause-of : goal.gather-bus-requires-clause-of
gather-bus-requires-clause-of g c =
    let turn = c.args.alone.turn in
    let q = c.into_pass.result in
    let items : c.push_reserved.new.self.items ≡ q ∷ [] = c.push_reserved.ensures.items ∙ ap (λ ps. ps ++ q ∷ []) c.requires.alone.passes in
    let stays : c.serve_post.new.master.turn.now ≡ c.new-master.result.turn.now = ap (λ (k : Identity Sharing). k.kept.turn) c.serve_post.ensures.identity in
    let same : q.turn ≡ turn = c.into_pass.ensures.of ∙ (stays ∙ c.new-master.ensures.turn) in
    subst (λ (ps : List (PassView BusState)). All (λ p. p.turn ≡ turn) ps) (sym items) (All-cons (λ (p : PassView BusState). p.turn ≡ turn) q [] same (All-nil (λ (p : PassView BusState). p.turn ≡ turn)))

pub returns : goal.returns
returns g c =
    let pr = c.requires.alone in
    let d = c.args.alone.root.origin.description in
    let turn = c.args.alone.turn in
    let p = c.new_pass-pass.result in
    let q = c.into_pass.result in
    let first = c.new-master.result in
    let last = c.serve_post.new.master in
    let bus = c.gather-bus.result in
    let root = c.new_pass-pass.ensures.root in
    let made : c.new_pass-pass.new.root.made ≡ 1 = ap (λ (r : RootView BusState). r.made) root ∙ ap (λ n. n + 1) pr.made in
    let origin = ap (λ (r : RootView BusState). r.origin) root in
    let items : c.push_reserved.new.self.items ≡ q ∷ [] = c.push_reserved.ensures.items ∙ ap (λ ps. ps ++ q ∷ []) pr.passes in
    let owns = subst (λ (ps : List (PassView BusState)). All (λ p. own p.number bus.core.journal ≡ made_by p) ps) items c.gather-bus.ensures.own in
    let stays : c.serve_post.new.master.turn.now ≡ c.new-master.result.turn.now = ap (λ (k : Identity Sharing). k.kept.turn) c.serve_post.ensures.identity in
    let same : q.turn ≡ turn = c.into_pass.ensures.of ∙ (stays ∙ c.new-master.ensures.turn) in
    let zero : p.number ≡ 0 = ap (λ (x : PassView BusState). x.number) c.new_pass-pass.ensures.pass ∙ pr.made in
    record {
      served = serves_alone d c.args.datagrams _ _ turn first.pass last.pass p q c.args.alone.slave c.args.alone.ends c.serve_post.new.ends bus
          (pass_is first.pass p first.ready c.new-master.ensures.pass) (pass_was last.pass q last.ready c.into_pass.ensures.pass) pr.slave pr.ends zero
          c.new_pass-pass.ensures.none c.new_pass-pass.ensures.there (refl, (same, c.into_pass.ensures.within, c.into_pass.ensures.none))
          (ap (λ (k : Identity Sharing). k.number) c.serve_post.ensures.identity) c.serve_post.ensures.served (owns 0 q (omega arith))
          (λ m le. c.gather-bus.ensures.rest m (omega (arith, le, made)) ∙ ap (λ (b : BusState). own m b.core.journal) origin ∙ ap (λ k. own m k.journal) pr.built)
          (c.gather-bus.ensures.description ∙ ap (λ (b : BusState). b.description) origin) c.gather-bus.ensures.legal;
    }

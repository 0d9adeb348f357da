-- By who owes answers.
use Rattle.std.proofs.Common.{rules, ◌≡◌, ap, sym, ◌∙◌, subst, length, arith, map, true}
use Rattle.wb_signals.specs.Request.{Request, less}
use Rattle.wb_signals.specs.Slave.{Slave}
use Rattle.wb_signals.specs.Parts.{child_at, child_of}
use Rattle.wb_tree.specs.declared.node.Node.TheViews.{out-Branch}
use Rattle.wb_tree.specs.declared.node.Node.TheFolds.{the_lemmas}
use Rattle.wb_tree.specs.Tree.{part_slave, branch_parts}
use Rattle.wb_tree.proofs.Trees
use Rattle.wb_tree.proofs.NarrowTrees
use Rattle.wb_tree.proofs.+stalled.Goals as goal

pub branch::Branch::stalled-index-part-requires : goal.branch::Branch::stalled-index-part-requires
branch::Branch::stalled-index-part-requires t c =
    let b = c.args.self.now in
    let k = c.find-to.ensures.at ∙ ap (λ parts. child_at (map child_of (map part_slave parts)) c.op.inside.adr) c.deref.ensures.value ∙ ap (λ (x : Request). child_at (map child_of (branch_parts b)) x.adr) c.op.view_is in
    let l = Trees.k_within b c.requires.sound c.args.op.now c.requires.taken c.find-to.result k c.in-Top.k c.in-Top.is in
    let o = (out-Branch b).parts.ok.0 in omega (arith, o, l)

pub branch::Branch::stalled-stalled-requires : goal.branch::Branch::stalled-stalled-requires
branch::Branch::stalled-stalled-requires t c =
    let b = c.args.self.now in
    let k = c.find-to.ensures.at ∙ ap (λ parts. child_at (map child_of (map part_slave parts)) c.op.inside.adr) c.deref.ensures.value ∙ ap (λ (x : Request). child_at (map child_of (branch_parts b)) x.adr) c.op.view_is in
    let d = c.index-part.result.now in
    let l = Trees.k_within b c.requires.sound c.args.op.now c.requires.taken c.find-to.result k c.in-Top.k c.in-Top.is in (
      search (rules, the_lemmas, l),
      (
        Trees.asked_sound b c.requires.sound c.args.op.now c.requires.taken c.find-to.result k c.in-Top.k c.in-Top.is c.if-to-k.true d c.index-part.ensures,
        (
          Trees.asked_covers b c.requires.sound c.args.op.now c.requires.taken c.find-to.result k c.in-Top.k c.in-Top.is c.if-to-k.true d c.index-part.ensures,
          Trees.asked_takes b c.requires.sound c.args.op.now c.requires.taken c.find-to.result k c.in-Top.k c.in-Top.is c.if-to-k.true d c.index-part.ensures,
        ),
      ),
    )

pub branch::Branch::stalled-returns-in-Miss : goal.branch::Branch::stalled-returns-in-Miss
branch::Branch::stalled-returns-in-Miss t c =
    let b = c.args.self.now in
    let k = c.find-to.ensures.at ∙ ap (λ parts. child_at (map child_of (map part_slave parts)) c.op.inside.adr) c.deref.ensures.value ∙ ap (λ (x : Request). child_at (map child_of (branch_parts b)) x.adr) c.op.view_is in
    let n : c.len.result ≡ length (out-Branch b).parts.items = let o = (out-Branch b).parts.ok.0 in omega (arith, o, c.len.ensures) in
    record { stalled = rw n (Trees.stalls_miss b c.requires.sound c.args.op.now c.requires.taken c.find-to.result k c.in-Miss.is) }

pub branch::Branch::stalled-returns-then-to-k : goal.branch::Branch::stalled-returns-then-to-k
branch::Branch::stalled-returns-then-to-k t c =
    let b = c.args.self.now in
    let k = c.find-to.ensures.at ∙ ap (λ parts. child_at (map child_of (map part_slave parts)) c.op.inside.adr) c.deref.ensures.value ∙ ap (λ (x : Request). child_at (map child_of (branch_parts b)) x.adr) c.op.view_is in
    record { stalled = c.stalled.ensures.stalled ∙ Trees.asked_stalls b c.requires.sound c.args.op.now c.requires.taken c.find-to.result k c.in-Top.k c.in-Top.is c.if-to-k.true c.index-part.result.now c.index-part.ensures }

pub branch::Branch::stalled-returns-else-to-k : goal.branch::Branch::stalled-returns-else-to-k
branch::Branch::stalled-returns-else-to-k t c =
    let b = c.args.self.now in
    let k = c.find-to.ensures.at ∙ ap (λ parts. child_at (map child_of (map part_slave parts)) c.op.inside.adr) c.deref.ensures.value ∙ ap (λ (x : Request). child_at (map child_of (branch_parts b)) x.adr) c.op.view_is in
    let e = Trees.stalls_elsewhere b c.requires.sound c.args.op.now c.requires.taken c.find-to.result k c.in-Top.k c.in-Top.is c.if-to-k.false in
    record { stalled = search (rules, e) }

pub node::NodeClocked::stalled-stalled-requires-in-Classic-clause-sound : goal.node::NodeClocked::stalled-stalled-requires-in-Classic-clause-sound
node::NodeClocked::stalled-stalled-requires-in-Classic-clause-sound t c = Trees.classic_held c.args.self.now c.in-Classic.slave c.in-Classic.is c.requires.sound

pub node::NodeClocked::stalled-stalled-requires-in-Wrapped-clause-sound : goal.node::NodeClocked::stalled-stalled-requires-in-Wrapped-clause-sound
node::NodeClocked::stalled-stalled-requires-in-Wrapped-clause-sound t c = Trees.wrapped_held c.args.self.now c.in-Wrapped.slave c.in-Wrapped.is c.requires.sound

pub node::NodeClocked::stalled-stalled-requires-in-Bus : goal.node::NodeClocked::stalled-stalled-requires-in-Bus
node::NodeClocked::stalled-stalled-requires-in-Bus t c =
    let n = c.args.self.now in (
      search (rules, the_lemmas),
      (
        Trees.bus_is_sound n c.in-Bus.branch c.deref.result.now c.in-Bus.is c.deref.ensures c.requires.sound,
        subst (λ (s : Slave). s.wiring.accepts c.args.op.now ≡ true) (Trees.as_bus n c.in-Bus.branch c.deref.result.now c.in-Bus.is c.deref.ensures) c.requires.taken,
      ),
    )

pub part::Part::stalled-stalled-requires : goal.part::Part::stalled-stalled-requires
part::Part::stalled-stalled-requires t c =
    let p = c.args.self.now in
    (search (rules, the_lemmas), (Trees.part_held p c.requires.sound, Trees.node_asked p c.args.op.now _ (ap (less p.first) c.op.view_is) c.requires.taken))

pub branch::Branch::narrow_stalled-one_half-requires-clause-word : goal.branch::Branch::narrow_stalled-one_half-requires-clause-word
branch::Branch::narrow_stalled-one_half-requires-clause-word t c = NarrowTrees.is_word c.args.self.now c.requires.sound c.requires.narrow c.args.op.now c.requires.taken

pub branch::Branch::narrow_stalled-one_half-requires-clause-lanes : goal.branch::Branch::narrow_stalled-one_half-requires-clause-lanes
branch::Branch::narrow_stalled-one_half-requires-clause-lanes t c = NarrowTrees.has_lanes c.args.self.now c.requires.sound c.requires.narrow c.args.op.now c.requires.taken

pub branch::Branch::narrow_stalled-stalled-requires : goal.branch::Branch::narrow_stalled-stalled-requires
branch::Branch::narrow_stalled-stalled-requires t c =
    let q = c.requires in
    (search (rules, the_lemmas), (q.sound, NarrowTrees.one_taken c.args.self.now q.sound q.narrow c.args.op.now q.taken c.in-Some.op (sym c.one_half.ensures.half ∙ c.in-Some.is)))

pub branch::Branch::narrow_stalled-returns-in-Some : goal.branch::Branch::narrow_stalled-returns-in-Some
branch::Branch::narrow_stalled-returns-in-Some t c =
    let q = c.requires in
    record { stalled = c.stalled.ensures.stalled ∙ NarrowTrees.one_stalls c.args.self.now q.sound q.narrow c.args.op.now q.taken c.in-Some.op (sym c.one_half.ensures.half ∙ c.in-Some.is) }

pub branch::Branch::narrow_stalled-returns-in-None : goal.branch::Branch::narrow_stalled-returns-in-None
branch::Branch::narrow_stalled-returns-in-None t c =
    let q = c.requires in
    record { stalled = c.lost_stalled.ensures.stalled ∙ NarrowTrees.both_stalls c.args.self.now q.sound q.narrow c.args.op.now q.taken (sym c.one_half.ensures.half ∙ c.in-None.is) }

pub node::NodeClocked::stalled-narrow_stalled-requires : goal.node::NodeClocked::stalled-narrow_stalled-requires
node::NodeClocked::stalled-narrow_stalled-requires t c =
    let n = c.args.self.now in
    let v = c.deref-in-Narrow.result.now in (
      search (rules, the_lemmas),
      (
        Trees.narrow_is_sound n c.in-Narrow.branch v c.in-Narrow.is c.deref-in-Narrow.ensures c.requires.sound,
        (
          Trees.narrow_is n c.in-Narrow.branch v c.in-Narrow.is c.deref-in-Narrow.ensures c.requires.sound,
          subst (λ (s : Slave). s.wiring.accepts c.args.op.now ≡ true) (Trees.as_narrow n c.in-Narrow.branch v c.in-Narrow.is c.deref-in-Narrow.ensures) c.requires.taken,
        ),
      ),
    )

-- A clock of a tree.
use Rattle.std.proofs.Common.{rules, ◌≡◌, ◌<◌, ◌≤◌, ap, sym, ◌∙◌, subst, arith, length, map, true, false, Some}
use Rattle.wb_signals.specs.Slave.{Slave, ticked, is_stalled, owes}
use Rattle.wb_signals.specs.Parts.{part_at}
use Rattle.wb_signals.specs.Turn.{top_if}
use Rattle.wb_tree.specs.declared.node.Node.TheViews.{out-Branch}
use Rattle.wb_tree.specs.declared.node.Node.TheFolds.{the_lemmas}
use Rattle.wb_tree.specs.Tree.{part_slave, branch_slave}
use Rattle.wb_tree.proofs.Trees
use Rattle.wb_tree.proofs.NarrowTrees
use Rattle.wb_tree.proofs.+tick.Goals as goal

pub branch::Branch::tick_at-tick-answer-requires : goal.branch::Branch::tick_at-tick-answer-requires
branch::Branch::tick_at-tick-answer-requires t c =
    let b = c.args.self.now in
    let q = c.requires in
    let d = c.index_mut-part.result.now in
    let l : c.args.k < length (out-Branch b).parts.items = let o = (out-Branch b).parts.ok.0 in omega (arith, o, c.len.ensures, c.if-k-len.true) in
    (search (rules, the_lemmas, l), (Trees.child_sound b q.sound c.args.op q.taken q.unstalled c.args.k q.goes l d c.index_mut-part.ensures.value, Trees.child_can b q.sound c.args.op q.taken q.unstalled c.args.k q.goes l d c.index_mut-part.ensures.value))

pub branch::Branch::tick_at-debtor_of-self-requires-clause-sound : goal.branch::Branch::tick_at-debtor_of-self-requires-clause-sound
branch::Branch::tick_at-debtor_of-self-requires-clause-sound t c =
    let b = c.args.self.now in
    let q = c.requires in
    let d = c.index_mut-part.result.now in
    let l : c.args.k < length (out-Branch b).parts.items = let o = (out-Branch b).parts.ok.0 in omega (arith, o, c.len.ensures, c.if-k-len.true) in
    rw c.deref.ensures.value (Trees.half_sound b q.sound c.args.op q.taken q.unstalled c.args.k q.goes l d c.index_mut-part.ensures.value c.tick-answer.new.self c.tick-answer.ensures.after c.tick-answer.ensures.sound)

pub branch::Branch::tick_at-returns-then-k-len-clause-answer : goal.branch::Branch::tick_at-returns-then-k-len-clause-answer
branch::Branch::tick_at-returns-then-k-len-clause-answer t c =
    let b = c.args.self.now in
    let q = c.requires in
    let d = c.index_mut-part.result.now in
    let l : c.args.k < length (out-Branch b).parts.items = let o = (out-Branch b).parts.ok.0 in omega (arith, o, c.len.ensures, c.if-k-len.true) in
    c.tick-answer.ensures.answer ∙ Trees.child_answer b q.sound c.args.op q.taken q.unstalled c.args.k q.goes l d c.index_mut-part.ensures.value

pub branch::Branch::tick_at-returns-then-k-len-clause-after : goal.branch::Branch::tick_at-returns-then-k-len-clause-after
branch::Branch::tick_at-returns-then-k-len-clause-after t c =
    let b = c.args.self.now in
    let q = c.requires in
    let d = c.index_mut-part.result.now in
    let l : c.args.k < length (out-Branch b).parts.items = let o = (out-Branch b).parts.ok.0 in omega (arith, o, c.len.ensures, c.if-k-len.true) in
    let m = c.debtor_of-self.ensures.debtor ∙ ap (λ parts. top_if (owes (part_at (map part_slave parts) c.args.k).slave.owed) c.args.k) c.deref.ensures.value in
    Trees.ticked_after b q.sound c.args.op q.taken q.unstalled c.args.k q.goes l d c.index_mut-part.ensures.value c.tick-answer.new.self c.tick-answer.ensures.after c.tick-answer.ensures.sound c.debtor_of-self.result m

pub branch::Branch::tick_at-returns-then-k-len-clause-sound : goal.branch::Branch::tick_at-returns-then-k-len-clause-sound
branch::Branch::tick_at-returns-then-k-len-clause-sound t c =
    let b = c.args.self.now in
    let q = c.requires in
    let d = c.index_mut-part.result.now in
    let l : c.args.k < length (out-Branch b).parts.items = let o = (out-Branch b).parts.ok.0 in omega (arith, o, c.len.ensures, c.if-k-len.true) in
    let m = c.debtor_of-self.ensures.debtor ∙ ap (λ parts. top_if (owes (part_at (map part_slave parts) c.args.k).slave.owed) c.args.k) c.deref.ensures.value in
    Trees.ticked_sound b q.sound c.args.op q.taken q.unstalled c.args.k q.goes l d c.index_mut-part.ensures.value c.tick-answer.new.self c.tick-answer.ensures.after c.tick-answer.ensures.sound c.debtor_of-self.result m

pub branch::Branch::tick_at-returns-then-k-len-clause-kept : goal.branch::Branch::tick_at-returns-then-k-len-clause-kept
branch::Branch::tick_at-returns-then-k-len-clause-kept t c =
    let b = c.args.self.now in
    let q = c.requires in
    let d = c.index_mut-part.result.now in
    let l : c.args.k < length (out-Branch b).parts.items = let o = (out-Branch b).parts.ok.0 in omega (arith, o, c.len.ensures, c.if-k-len.true) in
    let m = c.debtor_of-self.ensures.debtor ∙ ap (λ parts. top_if (owes (part_at (map part_slave parts) c.args.k).slave.owed) c.args.k) c.deref.ensures.value in
    Trees.ticked_keeps b q.sound c.args.op q.taken q.unstalled c.args.k q.goes l d c.index_mut-part.ensures.value c.tick-answer.new.self c.tick-answer.ensures.after c.tick-answer.ensures.sound c.debtor_of-self.result m

pub branch::Branch::tick_at-returns-else-k-len-clause-answer : goal.branch::Branch::tick_at-returns-else-k-len-clause-answer
branch::Branch::tick_at-returns-else-k-len-clause-answer t c =
    let b = c.args.self.now in
    let q = c.requires in
    let l : length (out-Branch b).parts.items ≤ c.args.k = let o = (out-Branch b).parts.ok.0 in omega (arith, o, c.len.ensures, c.if-k-len.false) in
    c.missed-answer.ensures.answer ∙ Trees.answer_miss b q.sound c.args.op q.taken q.unstalled c.args.k q.goes l

pub branch::Branch::tick_at-returns-else-k-len-clause-after : goal.branch::Branch::tick_at-returns-else-k-len-clause-after
branch::Branch::tick_at-returns-else-k-len-clause-after t c =
    let b = c.args.self.now in
    let q = c.requires in
    let l : length (out-Branch b).parts.items ≤ c.args.k = let o = (out-Branch b).parts.ok.0 in omega (arith, o, c.len.ensures, c.if-k-len.false) in
    Trees.passed_after b q.sound c.args.op q.taken q.unstalled c.args.k q.goes l c.miss_if-self.result c.miss_if-self.ensures.debtor

pub branch::Branch::tick_at-returns-else-k-len-clause-sound : goal.branch::Branch::tick_at-returns-else-k-len-clause-sound
branch::Branch::tick_at-returns-else-k-len-clause-sound t c =
    let b = c.args.self.now in
    let q = c.requires in
    let l : length (out-Branch b).parts.items ≤ c.args.k = let o = (out-Branch b).parts.ok.0 in omega (arith, o, c.len.ensures, c.if-k-len.false) in
    Trees.passed_sound b q.sound c.args.op q.taken q.unstalled c.args.k q.goes l c.miss_if-self.result c.miss_if-self.ensures.debtor

pub node::NodeClocked::tick-tick-requires-in-Classic-clause-sound : goal.node::NodeClocked::tick-tick-requires-in-Classic-clause-sound
node::NodeClocked::tick-tick-requires-in-Classic-clause-sound t c = Trees.classic_held c.args.self.now c.in-Classic.slave c.in-Classic.is c.requires.sound

pub node::NodeClocked::tick-tick-requires-in-Wrapped-clause-sound : goal.node::NodeClocked::tick-tick-requires-in-Wrapped-clause-sound
node::NodeClocked::tick-tick-requires-in-Wrapped-clause-sound t c = Trees.wrapped_held c.args.self.now c.in-Wrapped.slave c.in-Wrapped.is c.requires.sound

pub node::NodeClocked::tick-tick-requires-in-Bus : goal.node::NodeClocked::tick-tick-requires-in-Bus
node::NodeClocked::tick-tick-requires-in-Bus t c =
    let n = c.args.self.now in
    let e = Trees.as_bus n c.in-Bus.branch c.deref_mut.result.now c.in-Bus.is c.deref_mut.ensures.value in (
      search (rules, the_lemmas),
      (
        Trees.bus_is_sound n c.in-Bus.branch c.deref_mut.result.now c.in-Bus.is c.deref_mut.ensures.value c.requires.sound,
        (
          λ x f. subst (λ (s : Slave). s.wiring.accepts x ≡ true) e (c.requires.taken x f),
          λ x f. subst (λ (s : Slave). is_stalled s.wiring s.owed x ≡ false) e (c.requires.unstalled x f),
        ),
      ),
    )

pub node::NodeClocked::tick-returns-in-Pipe-clause-sound : goal.node::NodeClocked::tick-returns-in-Pipe-clause-sound
node::NodeClocked::tick-returns-in-Pipe-clause-sound t c = Trees.pipe_sound c.tick.new.self

pub node::NodeClocked::tick-returns-in-Classic-clause-sound : goal.node::NodeClocked::tick-returns-in-Classic-clause-sound
node::NodeClocked::tick-returns-in-Classic-clause-sound t c = Trees.classic_made _ c.tick-in-Classic.ensures.sound

pub node::NodeClocked::tick-returns-in-Wrapped-clause-sound : goal.node::NodeClocked::tick-returns-in-Wrapped-clause-sound
node::NodeClocked::tick-returns-in-Wrapped-clause-sound t c = Trees.wrapped_made _ c.tick-in-Wrapped.ensures.sound

pub node::NodeClocked::tick-returns-in-Bus-clause-after : goal.node::NodeClocked::tick-returns-in-Bus-clause-after
node::NodeClocked::tick-returns-in-Bus-clause-after t c =
    rw (Trees.node_slave-Bus, Trees.as_bus c.args.self.now c.in-Bus.branch c.deref_mut.result.now c.in-Bus.is c.deref_mut.ensures.value) c.tick-in-Bus.ensures.after

pub node::NodeClocked::tick-returns-in-Bus-clause-sound : goal.node::NodeClocked::tick-returns-in-Bus-clause-sound
node::NodeClocked::tick-returns-in-Bus-clause-sound t c = Trees.bus_sound _ c.tick-in-Bus.ensures.sound

pub part::Part::tick-tick-requires : goal.part::Part::tick-tick-requires
part::Part::tick-tick-requires t c =
    let p = c.args.self.now in (
      search (rules, the_lemmas),
      (
        Trees.part_held p c.requires.sound,
        (
          Trees.node_takes p c.args.op c.inside-op.result c.inside-op.ensures.inside c.requires.can,
          Trees.node_unstalled p c.args.op c.inside-op.result c.inside-op.ensures.inside c.requires.can,
        ),
      ),
    )

pub part::Part::tick-returns-clause-sound : goal.part::Part::tick-returns-clause-sound
part::Part::tick-returns-clause-sound t c = Trees.part_made _ c.tick.ensures.sound

pub node::NodeClocked::tick-narrow_tick-requires : goal.node::NodeClocked::tick-narrow_tick-requires
node::NodeClocked::tick-narrow_tick-requires t c =
    let n = c.args.self.now in
    let box = c.in-Narrow.branch in
    let v = c.deref_mut-in-Narrow.result.now in
    let same = c.deref_mut-in-Narrow.ensures.value in
    let e = Trees.as_narrow n box v c.in-Narrow.is same in (
      search (rules, the_lemmas),
      (
        Trees.narrow_is_sound n box v c.in-Narrow.is same c.requires.sound,
        (
          Trees.narrow_is n box v c.in-Narrow.is same c.requires.sound,
          (
            λ x f. subst (λ (s : Slave). s.wiring.accepts x ≡ true) e (c.requires.taken x f),
            λ x f. subst (λ (s : Slave). is_stalled s.wiring s.owed x ≡ false) e (c.requires.unstalled x f),
          ),
        ),
      ),
    )

pub node::NodeClocked::tick-returns-in-Narrow-clause-after : goal.node::NodeClocked::tick-returns-in-Narrow-clause-after
node::NodeClocked::tick-returns-in-Narrow-clause-after t c =
    rw (Trees.node_slave-Narrow, Trees.as_narrow c.args.self.now c.in-Narrow.branch c.deref_mut-in-Narrow.result.now c.in-Narrow.is c.deref_mut-in-Narrow.ensures.value) c.narrow_tick.ensures.after

pub node::NodeClocked::tick-returns-in-Narrow-clause-sound : goal.node::NodeClocked::tick-returns-in-Narrow-clause-sound
node::NodeClocked::tick-returns-in-Narrow-clause-sound t c = Trees.narrow_sound _ c.narrow_tick.ensures.sound c.narrow_tick.ensures.narrow

pub branch::Branch::narrow_tick-go_back-requires-clause-short : goal.branch::Branch::narrow_tick-go_back-requires-clause-short
branch::Branch::narrow_tick-go_back-requires-clause-short t c =
    let q = c.requires in
    let h = c.half_tick-answer in
    NarrowTrees.answer_short c.args.self.now q.sound q.narrow c.args.op h.new.self h.ensures.after h.ensures.kept h.ensures.sound h.result h.ensures.answer

pub branch::Branch::narrow_tick-go_back-requires-clause-room : goal.branch::Branch::narrow_tick-go_back-requires-clause-room
branch::Branch::narrow_tick-go_back-requires-clause-room t c =
    let q = c.requires in
    let h = c.half_tick-answer in
    NarrowTrees.has_room c.args.self.now q.sound q.narrow c.args.op h.new.self h.ensures.after h.ensures.kept h.ensures.sound h.result h.ensures.answer

pub branch::Branch::narrow_tick-returns-clause-answer : goal.branch::Branch::narrow_tick-returns-clause-answer
branch::Branch::narrow_tick-returns-clause-answer t c =
    let q = c.requires in
    let h = c.half_tick-answer in
    c.go_back.ensures.answer ∙ NarrowTrees.answer_is c.args.self.now q.sound q.narrow c.args.op h.new.self h.ensures.after h.ensures.kept h.ensures.sound h.result h.ensures.answer

pub branch::Branch::narrow_tick-returns-clause-after : goal.branch::Branch::narrow_tick-returns-clause-after
branch::Branch::narrow_tick-returns-clause-after t c =
    let q = c.requires in
    let h = c.half_tick-answer in
    NarrowTrees.next_after c.args.self.now q.sound q.narrow c.args.op h.new.self h.ensures.after h.ensures.kept h.ensures.sound h.result h.ensures.answer c.go_back.new.uppers c.go_back.ensures.uppers

pub branch::Branch::narrow_tick-returns-clause-sound : goal.branch::Branch::narrow_tick-returns-clause-sound
branch::Branch::narrow_tick-returns-clause-sound t c =
    let q = c.requires in
    let h = c.half_tick-answer in
    NarrowTrees.next_sound c.args.self.now q.sound q.narrow c.args.op h.new.self h.ensures.after h.ensures.kept h.ensures.sound h.result h.ensures.answer c.go_back.new.uppers c.go_back.ensures.uppers

pub branch::Branch::narrow_tick-returns-clause-narrow : goal.branch::Branch::narrow_tick-returns-clause-narrow
branch::Branch::narrow_tick-returns-clause-narrow t c =
    let q = c.requires in
    let h = c.half_tick-answer in
    NarrowTrees.next_narrow c.args.self.now q.sound q.narrow c.args.op h.new.self h.ensures.after h.ensures.kept h.ensures.sound h.result h.ensures.answer c.go_back.new.uppers c.go_back.ensures.uppers

pub branch::Branch::one_tick-one_half-requires-clause-word : goal.branch::Branch::one_tick-one_half-requires-clause-word
branch::Branch::one_tick-one_half-requires-clause-word t c = NarrowTrees.is_word c.args.self.now c.requires.sound c.requires.narrow c.args.op c.requires.taken

pub branch::Branch::one_tick-one_half-requires-clause-lanes : goal.branch::Branch::one_tick-one_half-requires-clause-lanes
branch::Branch::one_tick-one_half-requires-clause-lanes t c = NarrowTrees.has_lanes c.args.self.now c.requires.sound c.requires.narrow c.args.op c.requires.taken

pub branch::Branch::one_tick-tick-requires : goal.branch::Branch::one_tick-tick-requires
branch::Branch::one_tick-tick-requires t c =
    let q = c.requires in
    let one = sym c.one_half.ensures.half ∙ c.in-Some.is in
    let b = branch_slave c.args.self.now in (
      search (rules, the_lemmas),
      (
        q.sound,
        (
          λ x e. subst (λ x. b.wiring.accepts x ≡ true) (cc) (NarrowTrees.one_taken c.args.self.now q.sound q.narrow c.args.op q.taken c.in-Some.op one),
          λ x e. subst (λ x. is_stalled b.wiring b.owed x ≡ false) (cc) (NarrowTrees.one_stalls c.args.self.now q.sound q.narrow c.args.op q.taken c.in-Some.op one ∙ q.unstalled),
        ),
      ),
    )

pub branch::Branch::one_tick-lost_tick-requires-clause-unstalled : goal.branch::Branch::one_tick-lost_tick-requires-clause-unstalled
branch::Branch::one_tick-lost_tick-requires-clause-unstalled t c =
    let q = c.requires in
    NarrowTrees.both_stalls c.args.self.now q.sound q.narrow c.args.op q.taken (sym c.one_half.ensures.half ∙ c.in-None.is) ∙ q.unstalled

pub branch::Branch::one_tick-returns-in-Some-clause-after : goal.branch::Branch::one_tick-returns-in-Some-clause-after
branch::Branch::one_tick-returns-in-Some-clause-after t c =
    let q = c.requires in
    c.tick.ensures.after
    ∙ ap (λ x. ticked (branch_slave c.args.self.now) (Some x)) (sym (NarrowTrees.halved_is c.args.self.now q.sound q.narrow c.args.op q.taken c.in-Some.op (sym c.one_half.ensures.half ∙ c.in-Some.is)))

pub branch::Branch::one_tick-returns-in-None-clause-after : goal.branch::Branch::one_tick-returns-in-None-clause-after
branch::Branch::one_tick-returns-in-None-clause-after t c =
    let q = c.requires in
    c.lost_tick.ensures.after
    ∙ ap (λ x. ticked (branch_slave c.args.self.now) (Some x)) (sym (NarrowTrees.lost_is c.args.self.now q.sound q.narrow c.args.op q.taken (sym c.one_half.ensures.half ∙ c.in-None.is)))

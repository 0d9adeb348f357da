-- A tree of nodes, one layer at a time.
use Rattle.std.proofs.Common.{◌≡◌, ◌≢◌, ℕ, zero, suc, ◌+◌, ◌-◌, ◌<◌, ◌≤◌, ◌&&◌, nat_lt, nat_le, List, [], ◌∷◌, length, map, drop, get_or, set, refl, ap, sym, ◌∙◌, subst, arith, Bool, true, false, not, Option, Some, None}
use Rattle.std.specs.Option.{ForSome, option_map}
use Rattle.std.specs.Vec.{with_item}
use Rattle.std.specs.declared.alloc.Global.{Global}
use Rattle.std.specs.declared.vec.Vec.{Vec}
use Rattle.std.specs.declared.boxed.Box.{Box}
use Rattle.std.specs.formers.vec.Vec.{holding, holding_along, fits, mapped}
use Rattle.std.proofs.Math.Seq.{drop-cons}
use Rattle.std.proofs.lemmas.List.{length-map, length-set, length-drop, get_or-map, get_or-set_same, map-set}
use Rattle.eb_base.specs.declared.width.Width.{Width}
use Rattle.wb_signals.specs.Request.{Request, less}
use Rattle.wb_signals.specs.Cycles.{FitsBus}
use Rattle.wb_signals.specs.Bus.{bus, covers, inside}
use Rattle.wb_signals.specs.Slave.{Slave, given, ticked, is_stalled, owes}
use Rattle.wb_signals.specs.Standing.{ClassicSlave}
use Rattle.wb_signals.specs.Narrow.{narrow_slave}
use Rattle.wb_signals.specs.Parts.{Part, child_of, child_at, farther_owed, places_before, no_part, part_at, part_ticked, inside_given, AllFitIn, AllQuiet}
use Rattle.wb_signals.specs.Turn.{bus_slave, owed_by, aim_of, goes, IsFocus, CanPass, is_nobody, missed_answer, parts_after, top_if, miss_if, debtor_after, OwesAlone}
use Rattle.wb_signals.specs.declared.debtor.Debtor.{Debtor}
use Rattle.wb_signals.specs.declared.debtor.Debtor.TheVariants.{Nobody, Miss, Top}
use Rattle.wb_signals.proofs.BusLemmas.{nat_lt-true, nat_lt-false}
use Rattle.wb_signals.proofs.TurnLemmas.{takes-fits, set-past, stalls-nobody, stalls-miss, stalls-here, stalls-elsewhere, covered, taken, given-Top, given-missed, focus_here, pass_here, aims_here, slave_now, alone_now, children_now, owes-alone}
use Rattle.wb_signals.proofs.NarrowLemmas.{length-back}
use Rattle.wb_signals.specs.declared.answer.Answer.{Answer}
use Rattle.wb_device.specs.Line.{owed_from}
use Rattle.wb_adapter.specs.Adapted.{behind, through}
use Rattle.wb_device.specs.Standing.{held_leaf}
use Rattle.circular_buffer.specs.Buffer.{Buffer, buffer}
use Rattle.wb_device.specs.declared.piped.Piped.{Piped}
use Rattle.wb_device.specs.declared.held.Held.{Held}
use Rattle.wb_adapter.specs.declared.FromClassic.{FromClassic}
use Rattle.wb_adapter.specs.declared.ToClassic.{ToClassic}
use Rattle.wb_tree.specs.declared.node.Node.{Node, Pipe, Classic, Wrapped, Bus, Narrow}
use Rattle.wb_tree.specs.declared.branch.Branch.{Branch}
use Rattle.wb_tree.specs.declared.part.Part.{Part as TreePart}
use Rattle.wb_tree.specs.declared.node.Node.TheOpen.{Node-F, Branch-F, Part-F}
use Rattle.wb_tree.specs.declared.node.Node.TheOpen as open'
use Rattle.wb_tree.specs.declared.node.Node.TheViews.{out-Node, out-Branch, roll-Branch, out-roll-Branch, out-Part, roll-Part}
use Rattle.wb_tree.specs.declared.node.Node.TheVariants.{rolls-Classic, rolls-Wrapped, outs-Classic, outs-Wrapped, rolls-Pipe, rolls-Bus, outs-Bus, rolls-Narrow, outs-Narrow}
use Rattle.wb_tree.specs.declared.node.Node.TheFolds.{map-Node, fold-roll-Node, fold_out-Node, fold-roll-Branch, fold_out-Branch, fold-roll-Part, fold_out-Part, every_here-Branch, every_held-Branch, every_made-Branch, every_here-Node, every_held-Node, every_made-Node, every_held-Part, every_made-Part}
use Rattle.wb_tree.specs.Tree.{BranchState, bus_of, narrow_of, branch_state, narrow_branch, branch_children, IsNarrow, IsNew, Keeps, node_slave, branch_slave, part_slave, piped_slave, node_layer, branch_layer, part_layer, branch_parts, branch_width, branch_debtor, IsSound, IsSoundBranch, IsSoundPart, OwesFew, AllSound, sound_node, held_sound, wrapped_slave, wrapped_sound}

-- ---- what a node, a bus and a child are, by their fields

pub node_slave-Pipe : (p : Piped) → node_slave (Pipe p) ≡ piped_slave p
node_slave-Pipe p = ap node_slave (sym (rolls-Pipe p)) ∙ fold-roll-Node Slave BranchState Part node_layer branch_layer part_layer (open'.Pipe p)

pub node_slave-Bus : (b : Box Branch Global) → node_slave (Bus b) ≡ branch_slave b.value
node_slave-Bus b = ap node_slave (sym (rolls-Bus b)) ∙ fold-roll-Node Slave BranchState Part node_layer branch_layer part_layer (open'.Bus b)

pub node_slave-Narrow : (b : Box Branch Global) → node_slave (Narrow b) ≡ narrow_branch b.value
node_slave-Narrow b = ap node_slave (sym (rolls-Narrow b)) ∙ fold-roll-Node Slave BranchState Part node_layer branch_layer part_layer (open'.Narrow b)

abbrev pub state_in : Branch-F Node Branch TreePart → BranchState
state_in x = record { width = x.width; parts = map part_slave x.parts.items; debtor = x.debtor; uppers = x.uppers.items }

pub branch_state-out : (b : Branch) → branch_state b ≡ state_in (out-Branch b)
branch_state-out b = fold_out-Branch Slave BranchState Part node_layer branch_layer part_layer b

pub branch_slave-roll : (x : Branch-F Node Branch TreePart) → branch_slave (roll-Branch x) ≡ bus_slave x.width (map part_slave x.parts.items) x.debtor
branch_slave-roll x = ap bus_of (fold-roll-Branch Slave BranchState Part node_layer branch_layer part_layer x)

pub branch_slave-out : (b : Branch) → branch_slave b ≡ bus_slave (branch_width b) (branch_parts b) (branch_debtor b)
branch_slave-out b = ap bus_of (branch_state-out b)

pub narrow_branch-out : (b : Branch) → narrow_branch b ≡ narrow_slave (branch_parts b) (branch_debtor b) (out-Branch b).uppers.items
narrow_branch-out b = ap narrow_of (branch_state-out b)

pub part_slave-roll : (x : Part-F Node Branch TreePart) → part_slave (roll-Part x) ≡ record { first = x.first; last = x.last; slave = node_slave x.node }
part_slave-roll x = fold-roll-Part Slave BranchState Part node_layer branch_layer part_layer x

pub part_slave-out : (p : TreePart) → part_slave p ≡ record { first = (out-Part p).first; last = (out-Part p).last; slave = node_slave (out-Part p).node }
part_slave-out p = fold_out-Part Slave BranchState Part node_layer branch_layer part_layer p

-- ---- what is sound, one layer at a time

sound_pairs : (ys : List ((z : TreePart) × IsSoundPart z)) → AllSound (map (λ e. e.0) ys)
sound_pairs [] = tt
sound_pairs (y ∷ ys) = (y.1, sound_pairs ys)

pairs_of : (parts : List TreePart) → AllSound parts → (ys : List ((z : TreePart) × IsSoundPart z)) × (map (λ e. e.0) ys ≡ parts)
pairs_of [] h = ([], refl)
pairs_of (p ∷ parts) h = let r = pairs_of parts h.1 in ((p, h.0) ∷ r.0, ap (λ ps. p ∷ ps) r.1)

pub sound_here : (b : Branch) → IsSoundBranch b → OwesFew (out-Branch b)
sound_here b h = every_here-Branch sound_node OwesFew (λ _. Unit {0}) b h

pub sound_held : (b : Branch) → IsSoundBranch b → AllSound (out-Branch b).parts.items
sound_held b h =
    let r = every_held-Branch sound_node OwesFew (λ _. Unit {0}) b h in
    subst (λ (x : Branch-F Node Branch TreePart). AllSound x.parts.items) r.1 (sound_pairs r.0.parts.items)

-- A `Vec` of other elements whose images are these.
vec_over : {X Y : Type 0} (h : Y → X) (d : Vec X Global) (ys : List Y) → map h ys ≡ d.items → (y : Vec Y Global) × (mapped h y ≡ d)
vec_over h d ys e =
    let l : length ys ≡ length d.items = sym (length-map ys h) ∙ ap length e in
    let y = holding d ys (fits d ys l) in
    (y, holding_along d (map h ys) d.items e (fits y (map h ys) (length-map ys h)) d.ok)

pub sound_made : (x : Branch-F Node Branch TreePart) → AllSound x.parts.items → OwesFew x → IsSoundBranch (roll-Branch x)
sound_made x h q =
    let r = pairs_of x.parts.items h in
    let v = vec_over (λ (e : (z : TreePart) × IsSoundPart z). e.0) x.parts r.0 r.1 in
    every_made-Branch sound_node OwesFew (λ _. Unit {0}) x
    (record { width = x.width; parts = v.0; debtor = x.debtor; uppers = x.uppers })
    (ap (λ (ps : Vec TreePart Global). record { width = x.width; parts = ps; debtor = x.debtor; uppers = x.uppers }) v.1) q

-- A child is sound where its node is, and a node where its bus is.
pub part_held : (p : TreePart) → IsSoundPart p → IsSound (out-Part p).node
part_held p h =
    let r = every_held-Part sound_node OwesFew (λ _. Unit {0}) p h in
    subst (λ (x : Part-F Node Branch TreePart). IsSound x.node) r.1 r.0.node.1

pub part_made : (x : Part-F Node Branch TreePart) → IsSound x.node → IsSoundPart (roll-Part x)
part_made x h = every_made-Part sound_node OwesFew (λ _. Unit {0}) x (record { first = x.first; last = x.last; node = (x.node, h) }) refl tt

pub pipe_sound : (p : Piped) → IsSound (Pipe p)
pipe_sound p =
    subst IsSound (rolls-Pipe p) (every_made-Node sound_node OwesFew (λ _. Unit {0}) (open'.Pipe p) (open'.Pipe p) refl tt)

pub bus_sound : (b : Box Branch Global) → IsSoundBranch b.value → IsSound (Bus b)
bus_sound b h =
    subst IsSound (rolls-Bus b) (every_made-Node sound_node OwesFew (λ _. Unit {0}) (open'.Bus b)
    (open'.Bus (record { ptr = b.ptr; alloc = b.alloc; value = (b.value, h) })) refl tt)

pub narrow_sound : (b : Box Branch Global) → IsSoundBranch b.value → IsNarrow b.value → IsSound (Narrow b)
narrow_sound b h w =
    subst IsSound (rolls-Narrow b) (every_made-Node sound_node OwesFew (λ _. Unit {0}) (open'.Narrow b)
    (open'.Narrow (record { ptr = b.ptr; alloc = b.alloc; value = (b.value, h) })) refl w)

-- What lies behind a layer of a bus is sound.
abbrev HoldsSound : Node-F Node Branch TreePart → Type 0
HoldsSound (open'.Pipe p) = Unit {0}
HoldsSound (open'.Classic a) = Unit {0}
HoldsSound (open'.Wrapped a) = Unit {0}
HoldsSound (open'.Bus b) = IsSoundBranch b.value
HoldsSound (open'.Narrow b) = IsSoundBranch b.value

holds_sound : (y : Node-F ((z : Node) × IsSound z) ((z : Branch) × IsSoundBranch z) ((z : TreePart) × IsSoundPart z))
    → HoldsSound (map-Node ((z : Node) × IsSound z) ((z : Branch) × IsSoundBranch z) ((z : TreePart) × IsSoundPart z) Node Branch TreePart (λ e. e.0) (λ e. e.0) (λ e. e.0) y)
holds_sound (open'.Pipe p) = tt
holds_sound (open'.Classic a) = tt
holds_sound (open'.Wrapped a) = tt
holds_sound (open'.Bus b) = b.value.1
holds_sound (open'.Narrow b) = b.value.1

pub holds : (n : Node) → IsSound n → HoldsSound (out-Node n)
holds n h =
    let r = every_held-Node sound_node OwesFew (λ _. Unit {0}) n h in
    subst HoldsSound r.1 (holds_sound r.0)

pub sound_layer : (n : Node) → IsSound n → sound_node (out-Node n)
sound_layer n h = every_here-Node sound_node OwesFew (λ _. Unit {0}) n h

-- A device behind its classic port.
pub classic_held : (n : Node) (a : FromClassic Held) → n ≡ Classic a → IsSound n → held_sound a
classic_held n a e h = subst sound_node (ap out-Node e ∙ outs-Classic a) (sound_layer n h)

pub wrapped_held : (n : Node) (a : FromClassic (ToClassic Piped)) → n ≡ Wrapped a → IsSound n → wrapped_sound a
wrapped_held n a e h = subst sound_node (ap out-Node e ∙ outs-Wrapped a) (sound_layer n h)

pub classic_made : (a : FromClassic Held) → held_sound a → IsSound (Classic a)
classic_made a h = subst IsSound (rolls-Classic a) (every_made-Node sound_node OwesFew (λ _. Unit {0}) (open'.Classic a) (open'.Classic a) refl h)

pub wrapped_made : (a : FromClassic (ToClassic Piped)) → wrapped_sound a → IsSound (Wrapped a)
wrapped_made a h = subst IsSound (rolls-Wrapped a) (every_made-Node sound_node OwesFew (λ _. Unit {0}) (open'.Wrapped a) (open'.Wrapped a) refl h)

-- A node that is a bus.
pub as_bus : (n : Node) (box : Box Branch Global) (v : Branch) → n ≡ Bus box → v ≡ box.value → node_slave n ≡ branch_slave v
as_bus n box v e f = ap node_slave e ∙ node_slave-Bus box ∙ ap branch_slave (sym f)

pub bus_is_sound : (n : Node) (box : Box Branch Global) (v : Branch) → n ≡ Bus box → v ≡ box.value → IsSound n → IsSoundBranch v
bus_is_sound n box v e f h = subst IsSoundBranch (sym f) (subst HoldsSound (ap out-Node e ∙ outs-Bus box) (holds n h))

pub as_narrow : (n : Node) (box : Box Branch Global) (v : Branch) → n ≡ Narrow box → v ≡ box.value → node_slave n ≡ narrow_branch v
as_narrow n box v e f = ap node_slave e ∙ node_slave-Narrow box ∙ ap narrow_branch (sym f)

pub narrow_is_sound : (n : Node) (box : Box Branch Global) (v : Branch) → n ≡ Narrow box → v ≡ box.value → IsSound n → IsSoundBranch v
narrow_is_sound n box v e f h = subst IsSoundBranch (sym f) (subst HoldsSound (ap out-Node e ∙ outs-Narrow box) (holds n h))

pub narrow_is : (n : Node) (box : Box Branch Global) (v : Branch) → n ≡ Narrow box → v ≡ box.value → IsSound n → IsNarrow v
narrow_is n box v e f h = subst IsNarrow (sym f) (subst sound_node (ap out-Node e ∙ outs-Narrow box) (sound_layer n h))

-- ---- a node owes at most 16 answers

few_from : (k : ℕ) (line : List (Option Answer)) → length (owed_from k line) ≤ length line
few_from k [] = omega arith
few_from k (None ∷ line) = omega (arith, few_from (k + 1) line)
few_from k (Some answer ∷ line) = omega (arith, few_from (k + 1) line)

few_piped : (p : Piped) → length (piped_slave p).owed ≤ 16
few_piped p = omega (arith, few_from 0 (drop (15 - p.wait) p.line), length-drop (15 - p.wait) p.line, p.whole)

few_behind : (s : ClassicSlave) (waiting : Option Request) (ready : Option Answer) → length (behind s waiting ready).owed ≤ 16
few_behind s waiting (Some answer) = omega arith
few_behind s None None = omega arith
few_behind s (Some r) None = omega arith

few_branch : (b : Branch) → IsSoundBranch b → length (branch_slave b).owed ≤ 16
few_branch b h = rw (branch_state-out b) (sound_here b h).few

few_layer : (x : Node-F Node Branch TreePart) → HoldsSound x → length (node_layer (map-Node Node Branch TreePart Slave BranchState Part node_slave branch_state part_slave x)).owed ≤ 16
few_layer (open'.Pipe p) h = few_piped p
few_layer (open'.Classic a) h = few_behind (held_leaf a.inner.device a.inner.wait a.inner.standing) a.waiting a.ready
few_layer (open'.Wrapped a) h = few_behind (through (piped_slave a.inner.inner) a.inner.standing) a.waiting a.ready
few_layer (open'.Bus b) h = few_branch b.value h
few_layer (open'.Narrow b) h = omega (arith, few_branch b.value h, length-back (branch_state b.value).uppers (branch_slave b.value).owed)

few_node : (n : Node) → IsSound n → length (node_slave n).owed ≤ 16
few_node n h = rw (fold_out-Node Slave BranchState Part node_layer branch_layer part_layer n) (few_layer (out-Node n) (holds n h))

few_part : (p : TreePart) → IsSoundPart p → length (part_slave p).slave.owed ≤ 16
few_part p h = rw (part_slave-out p) (few_node (out-Part p).node (part_held p h))

few_top : (parts : List Part) (k : ℕ) (b : Bool) → length (part_at parts k).slave.owed ≤ 16 → length (owed_by parts (top_if b k)) ≤ 16
few_top parts k true h = omega (arith, h, length-map (part_at parts k).slave.owed (farther_owed (places_before k parts)))
few_top parts k false h = omega arith

few_miss : (parts : List Part) (op : Option Request) → length (owed_by parts (miss_if op)) ≤ 16
few_miss parts None = omega arith
few_miss parts (Some r) = omega arith

-- ---- lists of children

pub AllSound-set : (parts : List TreePart) (k : ℕ) (new : TreePart) → AllSound parts → IsSoundPart new → AllSound (set parts k new)
AllSound-set [] k new h n = tt
AllSound-set (p ∷ parts) zero new h n = (n, h.1)
AllSound-set (p ∷ parts) (suc k) new h n = (h.0, AllSound-set parts k new h.1 n)

pub AllSound-get : (parts : List TreePart) (k : ℕ) (d : TreePart) → k < length parts → AllSound parts → IsSoundPart (get_or parts k d)
AllSound-get [] k d l h = absurd (omega arith)
AllSound-get (p ∷ parts) zero d l h = h.0
AllSound-get (p ∷ parts) (suc k) d l h = AllSound-get parts k d (omega arith) h.1

pub part_at-get : (parts : List TreePart) (k : ℕ) (d : TreePart) → k < length parts → part_at (map part_slave parts) k ≡ part_slave (get_or parts k d)
part_at-get parts k d h = get_or-map part_slave parts k d no_part h

-- the child that a bus lends
pub lent_is : (parts : List TreePart) (k : ℕ) (d : TreePart) → k < length parts → d ≡ get_or parts k d → part_slave d ≡ part_at (map part_slave parts) k
lent_is parts k d h v = ap part_slave v ∙ sym (part_at-get parts k d h)

pub lent_sound : (parts : List TreePart) (k : ℕ) (d : TreePart) → k < length parts → d ≡ get_or parts k d → AllSound parts → IsSoundPart d
lent_sound parts k d h v s = rw v (AllSound-get parts k d h s)

-- the search for the child that holds an address
le-true : (m n : ℕ) → m ≤ n → nat_le m n ≡ true
le-true m n h = grind arith

pub first_misses : (a b : ℕ) (rest : Bool) → b < a → (nat_le a b && rest) ≡ false
first_misses a b rest h = let e : nat_le a b ≡ false = grind arith in rw e refl

pub last_misses : (a b c : ℕ) → a ≤ b → c < b → (nat_le a b && nat_le b c) ≡ false
last_misses a b c h l = let e : nat_le b c ≡ false = grind arith in rw (le-true a b h, e) refl

module _ (parts : List TreePart) (i adr : ℕ) (d : TreePart) (h : i < length parts) (v : d ≡ get_or parts i d) where
  rest : drop i parts ≡ d ∷ drop (suc i) parts
  rest = drop-cons parts i d h ∙ ap (λ p. p ∷ drop (suc i) parts) (sym v)

  pub child_found : (out-Part d).first ≤ adr → adr ≤ (out-Part d).last → child_at (map child_of (map part_slave (drop i parts))) adr ≡ 0
  child_found a b = rw (rest, part_slave-out d, le-true _ _ a, le-true _ _ b) refl

  pub child_later : (nat_le (out-Part d).first adr && nat_le adr (out-Part d).last) ≡ false
      → child_at (map child_of (map part_slave (drop i parts))) adr ≡ child_at (map child_of (map part_slave (drop (i + 1) parts))) adr + 1
  child_later e =
      let f : suc i ≡ i + 1 = omega arith in
      rw (rest, part_slave-out d, e) (ap (λ n. child_at (map child_of (map part_slave (drop n parts))) adr + 1) f)

-- ---- what the node of a child is asked

pub node_asked : (p : TreePart) (r x : Request) → x ≡ less (out-Part p).first r → (part_slave p).slave.wiring.accepts (inside (child_of (part_slave p)) r) ≡ true → (node_slave (out-Part p).node).wiring.accepts x ≡ true
node_asked p r x e t = subst (λ x. (node_slave (out-Part p).node).wiring.accepts x ≡ true) (sym e) (subst (λ (q : Part). q.slave.wiring.accepts (inside (child_of q) r) ≡ true) (part_slave-out p) t)

op_by : (first : ℕ) (op : Option Request) (x : Request) → option_map (less first) op ≡ Some x → (r : Request) × (op ≡ Some r) × (x ≡ less first r)
op_by first None x e = absurd (cc)
op_by first (Some r) x e = (r, refl, cc)

can_some : (p : Part) (op : Option Request) (r : Request) → op ≡ Some r → CanPass p op → CanPass p (Some r)
can_some p op r e c = subst (CanPass p) e c

module _ (p : TreePart) (op given_op : Option Request) (i : given_op ≡ option_map (less (out-Part p).first) op) (can : CanPass (part_slave p) op) where
  node_op : (x : Request) → given_op ≡ Some x → (r : Request) × (op ≡ Some r) × (x ≡ less (out-Part p).first r)
  node_op x e = op_by (out-Part p).first op x (sym i ∙ e)

  pub node_takes : ForSome given_op (λ x. (node_slave (out-Part p).node).wiring.accepts x ≡ true)
  node_takes x e = let r = node_op x e in node_asked p r.0 x r.2 (can_some (part_slave p) op r.0 r.1 can).1

  pub node_unstalled : ForSome given_op (λ x. is_stalled (node_slave (out-Part p).node).wiring (node_slave (out-Part p).node).owed x ≡ false)
  node_unstalled x e =
      let r = node_op x e in
      subst (λ x. is_stalled (node_slave (out-Part p).node).wiring (node_slave (out-Part p).node).owed x ≡ false) (sym r.2)
      (subst (λ (q : Part). is_stalled q.slave.wiring q.slave.owed (inside (child_of q) r.0) ≡ false) (part_slave-out p) (can_some (part_slave p) op r.0 r.1 can).2)

pub covered_above : (p : TreePart) (op : Option Request) → CanPass (part_slave p) op → ForSome op (λ r. (out-Part p).first ≤ r.adr)
covered_above p op can r e =
    let c : (nat_le (out-Part p).first r.adr && nat_le r.adr (out-Part p).last) ≡ true = subst (λ (q : Part). covers (child_of q) r.adr ≡ true) (part_slave-out p) (can_some (part_slave p) op r e can).0 in
    grind (arith, c)

given_inside : (p : Part) (op : Option Request) → inside_given p op ≡ option_map (less p.first) op
given_inside p None = refl
given_inside p (Some r) = refl

-- a child after the tick of its node
pub part_ticks : (p : TreePart) (op given_op : Option Request) (node : Node) → given_op ≡ option_map (less (out-Part p).first) op → node_slave node ≡ ticked (node_slave (out-Part p).node) given_op
    → part_slave (roll-Part (record { first = (out-Part p).first; last = (out-Part p).last; node = node })) ≡ part_ticked (part_slave p) op
part_ticks p op given_op node i e =
    let q : Part = record { first = (out-Part p).first; last = (out-Part p).last; slave = node_slave (out-Part p).node } in
    let s : node_slave node ≡ ticked q.slave (inside_given q op) = e ∙ ap (ticked q.slave) (i ∙ sym (given_inside q op)) in
    part_slave-roll (record { first = (out-Part p).first; last = (out-Part p).last; node = node })
    ∙ ap (λ (s : Slave). record { first = q.first; last = q.last; slave = s }) s
    ∙ ap (λ (q : Part). part_ticked q op) (sym (part_slave-out p))

-- ---- a bus

pub keeps_roll : (b : Branch) (x : Branch-F Node Branch TreePart) → x.width ≡ branch_width b → map child_of (map part_slave x.parts.items) ≡ branch_children b → x.uppers ≡ (out-Branch b).uppers
    → Keeps b (roll-Branch x)
keeps_roll b x w c u = record {
  width = ap (λ (y : Branch-F Node Branch TreePart). y.width) (out-roll-Branch x) ∙ w;
  children = ap (λ (y : Branch-F Node Branch TreePart). map child_of (map part_slave y.parts.items)) (out-roll-Branch x) ∙ c;
  uppers = ap (λ (y : Branch-F Node Branch TreePart). y.uppers) (out-roll-Branch x) ∙ u;
}

module _ (b : Branch) (s : IsSoundBranch b) where
  alone : OwesAlone (branch_width b) (branch_parts b) (branch_debtor b)
  alone = (sound_here b s).alone

  pub count : length (branch_parts b) ≡ length (out-Branch b).parts.items
  count = length-map (out-Branch b).parts.items part_slave

  -- whether it owes anything
  pub owes_any : not (is_nobody (branch_debtor b)) ≡ owes (branch_slave b).owed
  owes_any = rw (branch_state-out b) (sym (owes-alone (branch_parts b) (branch_debtor b) alone.owing))

  not_nobody : (d : Debtor) → d ≢ Nobody → true ≡ not (is_nobody d)
  not_nobody Nobody n = absurd (n refl)
  not_nobody Miss n = refl
  not_nobody (Top k) n = refl

  pub owes_some : branch_debtor b ≢ Nobody → true ≡ owes (branch_slave b).owed
  owes_some n = not_nobody (branch_debtor b) n ∙ owes_any

  -- whether it stalls an operation
  module _ (r : Request) (t : (branch_slave b).wiring.accepts r ≡ true) (to : ℕ) (at : to ≡ child_at (map child_of (branch_parts b)) r.adr) where
    fits_bus : FitsBus (branch_width b) r
    fits_bus = takes-fits (branch_width b) (map child_of (branch_parts b)) r (subst (λ (s : Slave). s.wiring.accepts r ≡ true) (branch_slave-out b) t)

    abbrev stalls_here : Bool
    stalls_here = is_stalled (branch_slave b).wiring (branch_slave b).owed r

    pub stalls_nobody : branch_debtor b ≡ Nobody → false ≡ stalls_here
    stalls_nobody e = rw (branch_state-out b, e) (stalls-nobody (branch_width b) (branch_parts b) alone.fits r)

    pub stalls_miss : branch_debtor b ≡ Miss → nat_lt to (length (out-Branch b).parts.items) ≡ stalls_here
    stalls_miss e = rw (branch_state-out b, e, ← count) (stalls-miss (branch_width b) (branch_parts b) alone.fits r to at fits_bus)

    module _ (k : ℕ) (e : branch_debtor b ≡ Top k) where
      pub k_within : k < length (out-Branch b).parts.items
      k_within = omega (arith, (alone.owing k e).0, count)

      pub stalls_elsewhere : to ≢ k → true ≡ stalls_here
      stalls_elsewhere n = rw (branch_state-out b, e) (let o = alone.owing k e in stalls-elsewhere (branch_width b) (branch_parts b) alone.fits r to k at fits_bus n o.0 o.1)

      module _ (same : to ≡ k) (d : TreePart) (v : d ≡ get_or (out-Branch b).parts.items k d) where
        lent : part_slave d ≡ part_at (branch_parts b) k
        lent = lent_is (out-Branch b).parts.items k d k_within v

        here : k ≡ child_at (map child_of (branch_parts b)) r.adr
        here = sym same ∙ at

        pub asked_sound : IsSoundPart d
        asked_sound = lent_sound (out-Branch b).parts.items k d k_within v (sound_held b s)

        pub asked_covers : covers (child_of (part_slave d)) r.adr ≡ true
        asked_covers = rw lent (covered (branch_width b) (branch_parts b) alone.fits r k here (alone.owing k e).0)

        pub asked_takes : (part_slave d).slave.wiring.accepts (inside (child_of (part_slave d)) r) ≡ true
        asked_takes = rw lent (taken (branch_width b) (branch_parts b) alone.fits r k here (alone.owing k e).0 fits_bus)

        pub asked_stalls : is_stalled (part_slave d).slave.wiring (part_slave d).slave.owed (inside (child_of (part_slave d)) r) ≡ stalls_here
        asked_stalls = rw (branch_state-out b, e, lent) (stalls-here (branch_width b) (branch_parts b) alone.fits r k here (alone.owing k e).0 fits_bus)

  -- a clock
  module _ (op : Option Request) (t : ForSome op (λ r. (branch_slave b).wiring.accepts r ≡ true)) (u : ForSome op (λ r. is_stalled (branch_slave b).wiring (branch_slave b).owed r ≡ false))
      (k : ℕ) (to : k ≡ goes (length (branch_parts b)) (branch_debtor b) (aim_of (map child_of (branch_parts b)) op) op) where
    fits_op : (r : Request) → op ≡ Some r → FitsBus (branch_width b) r
    fits_op r e = fits_bus r (t r e) _ refl

    free_op : (r : Request) → op ≡ Some r → is_stalled (bus (branch_width b) (map child_of (branch_parts b))) (owed_by (branch_parts b) (branch_debtor b)) r ≡ false
    free_op r e = subst (λ (s : Slave). is_stalled s.wiring s.owed r ≡ false) (branch_slave-out b) (u r e)

    focus : IsFocus (branch_parts b) (branch_debtor b) k
    focus = subst (IsFocus (branch_parts b) (branch_debtor b)) (sym to) (focus_here (branch_width b) (branch_parts b) (branch_debtor b) op alone fits_op free_op)

    pub can_pass : k < length (out-Branch b).parts.items → CanPass (part_at (branch_parts b) k) op
    can_pass l =
        subst (λ k. k < length (branch_parts b) → CanPass (part_at (branch_parts b) k) op) (sym to) (pass_here (branch_width b) (branch_parts b) (branch_debtor b) op alone fits_op free_op)
        (omega (arith, l, count))

    aims : (r : Request) → op ≡ Some r → (k ≡ child_at (map child_of (branch_parts b)) r.adr) × FitsBus (branch_width b) r
    aims r e = let a = aims_here (branch_width b) (branch_parts b) (branch_debtor b) op alone fits_op free_op r e in (to ∙ a.0, a.1)

    abbrev now : List Part
    now = parts_after (branch_parts b) k op

    -- the bus with the children and the debtor of after the clock
    pub clock_slave : (c : Branch) → branch_slave c ≡ bus_slave (branch_width b) now (debtor_after now k op) → branch_slave c ≡ ticked (branch_slave b) op
    clock_slave c e =
        e ∙ slave_now (branch_width b) (branch_parts b) (branch_debtor b) k op alone.fits focus alone.owing aims
        ∙ ap (λ s. ticked s op) (sym (branch_slave-out b))

    pub clock_alone : OwesAlone (branch_width b) now (debtor_after now k op)
    clock_alone = alone_now (branch_width b) (branch_parts b) (branch_debtor b) k op alone.fits focus alone.owing aims alone.quiet

    children_are : map child_of now ≡ branch_children b
    children_are = children_now (branch_width b) (branch_parts b) (branch_debtor b) k op alone.fits focus alone.owing aims

    pub answer_top : k < length (out-Branch b).parts.items → given (part_at (branch_parts b) k).slave.owed ≡ given (branch_slave b).owed
    answer_top l = rw (branch_state-out b) (given-Top (branch_parts b) (branch_debtor b) k focus (omega (arith, l, count)))

    pub answer_miss : length (out-Branch b).parts.items ≤ k → missed_answer (branch_debtor b) ≡ given (branch_slave b).owed
    answer_miss l = rw (branch_state-out b) (given-missed (branch_parts b) (branch_debtor b) k focus (omega (arith, l, count)) (λ j e. (alone.owing j e).0))

    count_now : length now ≡ length (out-Branch b).parts.items
    count_now = length-set (branch_parts b) k (part_ticked (part_at (branch_parts b) k) op) ∙ count

    -- where a child ticks
    module _ (l : k < length (out-Branch b).parts.items) (d : TreePart) (v : d ≡ get_or (out-Branch b).parts.items k d) where
      lent_here : part_slave d ≡ part_at (branch_parts b) k
      lent_here = lent_is (out-Branch b).parts.items k d l v

      pub child_sound : IsSoundPart d
      child_sound = lent_sound (out-Branch b).parts.items k d l v (sound_held b s)

      pub child_can : CanPass (part_slave d) op
      child_can = subst (λ p. CanPass p op) (sym lent_here) (can_pass l)

      pub child_answer : given (part_slave d).slave.owed ≡ given (branch_slave b).owed
      child_answer = ap (λ (p : Part). given p.slave.owed) lent_here ∙ answer_top l

      module _ (new : TreePart) (after : part_slave new ≡ part_ticked (part_slave d) op) (n : IsSoundPart new) where
        abbrev pub half : Branch
        half = roll-Branch (record { width = (out-Branch b).width; parts = with_item (out-Branch b).parts k new; debtor = (out-Branch b).debtor; uppers = (out-Branch b).uppers })

        half_out : out-Branch half ≡ record { width = (out-Branch b).width; parts = with_item (out-Branch b).parts k new; debtor = (out-Branch b).debtor; uppers = (out-Branch b).uppers }
        half_out = out-roll-Branch (record { width = (out-Branch b).width; parts = with_item (out-Branch b).parts k new; debtor = (out-Branch b).debtor; uppers = (out-Branch b).uppers })

        pub half_items : (out-Branch half).parts.items ≡ set (out-Branch b).parts.items k new
        half_items = ap (λ (x : Branch-F Node Branch TreePart). x.parts.items) half_out

        pub half_sound : AllSound (out-Branch half).parts.items
        half_sound = rw half_items (AllSound-set (out-Branch b).parts.items k new (sound_held b s) n)

        parts_are : map part_slave (set (out-Branch b).parts.items k new) ≡ now
        parts_are =
            map-set part_slave (out-Branch b).parts.items k new
            ∙ ap (set (branch_parts b) k) (after ∙ ap (λ p. part_ticked p op) lent_here)

        own_new : part_at (map part_slave (out-Branch half).parts.items) k ≡ part_slave new
        own_new =
            let items = (out-Branch b).parts.items in
            ap (λ parts. part_at (map part_slave parts) k) half_items
            ∙ part_at-get (set items k new) k d (omega (arith, l, length-set items k new)) ∙ ap part_slave (get_or-set_same items k new d l)

        module _ (debtor : Debtor) (m : debtor ≡ top_if (owes (part_at (map part_slave (out-Branch half).parts.items) k).slave.owed) k) where
          abbrev pub ticked_branch : Branch
          ticked_branch = roll-Branch (record { width = (out-Branch half).width; parts = (out-Branch half).parts; debtor = debtor; uppers = (out-Branch half).uppers })

          debtor_is : debtor ≡ debtor_after now k op
          debtor_is =
              let below : nat_lt k (length now) ≡ true = nat_lt-true k (length now) (omega (arith, l, count_now)) in
              m ∙ ap (λ parts. top_if (owes (part_at (map part_slave parts) k).slave.owed) k) half_items
              ∙ ap (λ parts. top_if (owes (part_at parts k).slave.owed) k) parts_are ∙ rw below refl

          pub ticked_after : branch_slave ticked_branch ≡ ticked (branch_slave b) op
          ticked_after =
              clock_slave ticked_branch
              (branch_slave-roll (record { width = (out-Branch half).width; parts = (out-Branch half).parts; debtor = debtor; uppers = (out-Branch half).uppers }) ∙ rw (half_out, parts_are, debtor_is) refl)

          pub ticked_sound : IsSoundBranch ticked_branch
          ticked_sound =
              sound_made (record { width = (out-Branch half).width; parts = (out-Branch half).parts; debtor = debtor; uppers = (out-Branch half).uppers }) half_sound
              (record { alone = rw (half_out, parts_are, debtor_is) clock_alone; few = rw m (few_top _ k _ (rw own_new (few_part new n))) })

          pub ticked_keeps : Keeps b ticked_branch
          ticked_keeps =
              keeps_roll b (record { width = (out-Branch half).width; parts = (out-Branch half).parts; debtor = debtor; uppers = (out-Branch half).uppers })
              (ap (λ (x : Branch-F Node Branch TreePart). x.width) half_out)
              (ap (λ parts. map child_of (map part_slave parts)) half_items ∙ ap (map child_of) parts_are ∙ children_are)
              (ap (λ (x : Branch-F Node Branch TreePart). x.uppers) half_out)

    -- where none does
    module _ (l : length (out-Branch b).parts.items ≤ k) (debtor : Debtor) (m : debtor ≡ miss_if op) where
      abbrev pub passed_branch : Branch
      passed_branch = roll-Branch (record { width = (out-Branch b).width; parts = (out-Branch b).parts; debtor = debtor; uppers = (out-Branch b).uppers })

      now_is : now ≡ branch_parts b
      now_is = set-past (branch_parts b) k (part_ticked (part_at (branch_parts b) k) op) (omega (arith, l, count))

      missed_is : debtor ≡ debtor_after now k op
      missed_is = let above : nat_lt k (length now) ≡ false = nat_lt-false k (length now) (omega (arith, l, count_now)) in m ∙ rw above refl

      pub passed_after : branch_slave passed_branch ≡ ticked (branch_slave b) op
      passed_after =
          clock_slave passed_branch
          (branch_slave-roll (record { width = (out-Branch b).width; parts = (out-Branch b).parts; debtor = debtor; uppers = (out-Branch b).uppers })
          ∙ ap (λ debtor. bus_slave (branch_width b) (branch_parts b) debtor) missed_is
          ∙ ap (λ parts. bus_slave (branch_width b) parts (debtor_after now k op)) (sym now_is))

      pub passed_sound : IsSoundBranch passed_branch
      passed_sound =
          sound_made (record { width = (out-Branch b).width; parts = (out-Branch b).parts; debtor = debtor; uppers = (out-Branch b).uppers }) (sound_held b s)
          (record {
            alone = subst (OwesAlone (branch_width b) (branch_parts b)) (sym missed_is) (subst (λ parts. OwesAlone (branch_width b) parts (debtor_after now k op)) now_is clock_alone);
            few = rw m (few_miss (branch_parts b) op);
          })

      pub passed_keeps : Keeps b passed_branch
      passed_keeps = keeps_roll b (record { width = (out-Branch b).width; parts = (out-Branch b).parts; debtor = debtor; uppers = (out-Branch b).uppers }) refl refl refl

-- ---- a new bus

quiet_at : (parts : List Part) (k : ℕ) → AllQuiet parts → (part_at parts k).slave.owed ≡ []
quiet_at [] k h = refl
quiet_at (p ∷ parts) zero h = h.0
quiet_at (p ∷ parts) (suc k) h = quiet_at parts k h.1

module _ (width : Width) (parts : Vec TreePart Global) (uppers : Buffer Bool) where
  abbrev new_layer : Branch-F Node Branch TreePart
  new_layer = record { width = width; parts = parts; debtor = Nobody; uppers = uppers }

  pub new_sound : AllSound parts.items → AllFitIn width (map part_slave parts.items) → AllQuiet (map part_slave parts.items) → IsSoundBranch (roll-Branch new_layer)
  new_sound s f q =
      sound_made new_layer s
      (record { alone = record { fits = f; owing = λ k e. absurd (cc); quiet = λ k l n. quiet_at (map part_slave parts.items) k q }; few = omega arith })

  pub new_is : (room : ℕ) → uppers ≡ buffer [] room → IsNew width (map part_slave parts.items) room (roll-Branch new_layer)
  new_is room u = record {
    is_width = ap (λ (x : Branch-F Node Branch TreePart). x.width) (out-roll-Branch new_layer);
    is_parts = ap (λ (x : Branch-F Node Branch TreePart). map part_slave x.parts.items) (out-roll-Branch new_layer);
    debtor = ap (λ (x : Branch-F Node Branch TreePart). x.debtor) (out-roll-Branch new_layer);
    uppers = ap (λ (x : Branch-F Node Branch TreePart). x.uppers) (out-roll-Branch new_layer) ∙ u;
  }

pub node_slave-Wrapped : (a : FromClassic (ToClassic Piped)) → node_slave (Wrapped a) ≡ wrapped_slave a
node_slave-Wrapped a = ap node_slave (sym (rolls-Wrapped a)) ∙ fold-roll-Node Slave BranchState Part node_layer branch_layer part_layer (open'.Wrapped a)

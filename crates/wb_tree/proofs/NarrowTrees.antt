-- A bus of 32 data bits behind a port of 64 in a tree.
use Rattle.std.proofs.Common.{◌≡◌, ℕ, ◌%◌, ◌<◌, ◌≤◌, List, [], length, map, refl, ap, sym, ◌∙◌, subst, arith, Bool, true, false, nat_lt, Option, Some, None}
use Rattle.std.specs.Option.{ForSome}
use Rattle.circular_buffer.specs.Buffer.{Buffer, buffer}
use Rattle.eb_base.specs.declared.width.Width.TheVariants.{W32, W64}
use Rattle.wb_signals.specs.Request.{Request}
use Rattle.wb_signals.specs.Cycles.{FitsBus}
use Rattle.wb_signals.specs.Bus.{Child, bus, Half, Upper, Lower, Both, half_of}
use Rattle.wb_signals.specs.Slave.{Owed, Slave, owes, given, ticked, is_stalled, owed_after}
use Rattle.wb_signals.specs.Parts.{Part, child_of, child_at, contents_in, AllFitIn}
use Rattle.wb_signals.specs.Turn.{bus_slave, owed_by, missed_answer}
use Rattle.wb_signals.specs.Narrow.{AllOf32, AllFitHalf, FitsHalf, lost, halved_by, halved, halved_op, one_half, answer_back, uppers_after, narrow_slave}
use Rattle.wb_signals.specs.declared.answer.Answer.{Answer}
use Rattle.wb_signals.specs.declared.debtor.Debtor.TheVariants.{Nobody, Miss, Top}
use Rattle.wb_signals.proofs.BusLemmas.{Past, past_end, past_over, nat_lt-false}
use Rattle.wb_signals.proofs.TurnLemmas.{fits-takes}
use Rattle.wb_signals.proofs.NarrowLemmas.{past_nowhere, nowhere-word, halves-fit, narrow-fits, stalled-narrow, narrow-ticked, owes-back, given-back, length-uppers, short-after, short-given}
use Rattle.wb_tree.specs.declared.branch.Branch.{Branch}
use Rattle.wb_tree.specs.declared.node.Node.{Node}
use Rattle.wb_tree.specs.declared.part.Part.{Part as TreePart}
use Rattle.wb_tree.specs.declared.node.Node.TheOpen.{Branch-F}
use Rattle.wb_tree.specs.declared.node.Node.TheViews.{out-Branch, roll-Branch, out-roll-Branch}
use Rattle.wb_tree.specs.declared.node.Node.TheFolds.{fold-roll-Branch}
use Rattle.wb_tree.specs.Tree.{BranchState, narrow_of, node_layer, branch_layer, part_layer, part_slave, branch_slave, narrow_branch, branch_parts, branch_width, branch_debtor, branch_children, IsNarrow, IsNew, Keeps, IsSoundBranch}
use Rattle.wb_tree.proofs.Trees.{branch_slave-out, narrow_branch-out, sound_here, sound_held, sound_made, count, stalls_nobody, stalls_miss, stalls_elsewhere, k_within, passed_branch, passed_after, passed_sound, passed_keeps, answer_miss}

-- ---- an operation that goes to none of the children

past-at : {parts : List Part} {adr : ℕ} → Past parts adr → child_at (map child_of parts) adr ≡ length parts
past-at past_end = refl
past-at (past_over e w) = rw e (omega (arith, past-at w))

module _ (b : Branch) (s : IsSoundBranch b) (w : branch_width b ≡ W32) where
  abbrev lost_here : Request
  lost_here = lost (branch_children b)

  pub inner_is : branch_slave b ≡ bus_slave W32 (branch_parts b) (branch_debtor b)
  inner_is = branch_slave-out b ∙ ap (λ width. bus_slave width (branch_parts b) (branch_debtor b)) w

  pub fits : AllFitIn W32 (branch_parts b)
  fits = subst (λ width. AllFitIn width (branch_parts b)) w (sound_here b s).alone.fits

  taken_by : (r : Request) → FitsBus W32 r → (branch_slave b).wiring.accepts r ≡ true
  taken_by r h = subst (λ (s : Slave). s.wiring.accepts r ≡ true) (sym inner_is) (fits-takes W32 (branch_children b) r h)

  lost_taken : (branch_slave b).wiring.accepts lost_here ≡ true
  lost_taken = taken_by lost_here (nowhere-word (branch_children b), omega arith)

  lost_at : child_at (branch_children b) lost_here.adr ≡ length (out-Branch b).parts.items
  lost_at = past-at (past_nowhere (branch_parts b)) ∙ count b s

  abbrev lost_stalls : Bool
  lost_stalls = is_stalled (branch_slave b).wiring (branch_slave b).owed lost_here

  pub lost_nobody : branch_debtor b ≡ Nobody → false ≡ lost_stalls
  lost_nobody e = stalls_nobody b s lost_here lost_taken (child_at (branch_children b) lost_here.adr) refl e

  pub lost_miss : branch_debtor b ≡ Miss → false ≡ lost_stalls
  lost_miss e =
      let past : nat_lt (child_at (branch_children b) lost_here.adr) (length (out-Branch b).parts.items) ≡ false = nat_lt-false _ _ (omega (arith, lost_at)) in
      sym past ∙ stalls_miss b s lost_here lost_taken (child_at (branch_children b) lost_here.adr) refl e

  pub lost_top : (k : ℕ) → branch_debtor b ≡ Top k → true ≡ lost_stalls
  lost_top k e =
      let l = k_within b s lost_here lost_taken (child_at (branch_children b) lost_here.adr) refl k e in
      stalls_elsewhere b s lost_here lost_taken (child_at (branch_children b) lost_here.adr) refl k e (λ same. absurd (omega (arith, same, l, lost_at)))

  module _ (u : lost_stalls ≡ false) where
    pub taken_some : ForSome (Some lost_here) (λ r. (branch_slave b).wiring.accepts r ≡ true)
    taken_some r e = subst (λ r. (branch_slave b).wiring.accepts r ≡ true) (cc) lost_taken

    pub free_some : ForSome (Some lost_here) (λ r. is_stalled (branch_slave b).wiring (branch_slave b).owed r ≡ false)
    free_some r e = subst (λ r. is_stalled (branch_slave b).wiring (branch_slave b).owed r ≡ false) (cc) u

    pub past_all : length (out-Branch b).parts.items ≤ child_at (branch_children b) lost_here.adr
    past_all = omega (arith, lost_at)

    pub lost_answer : missed_answer (branch_debtor b) ≡ given (branch_slave b).owed
    lost_answer = answer_miss b s (Some lost_here) taken_some free_some (child_at (branch_children b) lost_here.adr) refl past_all

    abbrev pub lost_branch : Branch
    lost_branch = passed_branch b s (Some lost_here) taken_some free_some (child_at (branch_children b) lost_here.adr) refl past_all Miss refl

    pub lost_after : branch_slave lost_branch ≡ ticked (branch_slave b) (Some lost_here)
    lost_after = passed_after b s (Some lost_here) taken_some free_some (child_at (branch_children b) lost_here.adr) refl past_all Miss refl

    pub lost_sound : IsSoundBranch lost_branch
    lost_sound = passed_sound b s (Some lost_here) taken_some free_some (child_at (branch_children b) lost_here.adr) refl past_all Miss refl

    pub lost_keeps : Keeps b lost_branch
    lost_keeps = passed_keeps b s (Some lost_here) taken_some free_some (child_at (branch_children b) lost_here.adr) refl past_all Miss refl

-- ---- an operation of the port

one-Some : (h : Half) (children : List Child) (r x : Request) → one_half h r ≡ Some x → halved_by h children r ≡ x
one-Some Upper children r x e = cc
one-Some Lower children r x e = cc
one-Some Both children r x e = absurd (cc)

one-None : (h : Half) (children : List Child) (r : Request) → one_half h r ≡ None → halved_by h children r ≡ lost children
one-None Upper children r e = absurd (cc)
one-None Lower children r e = absurd (cc)
one-None Both children r e = refl

module _ (b : Branch) (s : IsSoundBranch b) (w : IsNarrow b) where
  module _ (r : Request) (t : (narrow_branch b).wiring.accepts r ≡ true) where
    wide : FitsBus W64 r
    wide = narrow-fits (branch_children b) r (subst (λ (s : Slave). s.wiring.accepts r ≡ true) (narrow_branch-out b) t)

    pub is_word : r.adr % 8 ≡ 0
    is_word = wide.0

    pub has_lanes : r.sel < 256
    has_lanes = wide.1

    half_stalls : is_stalled (narrow_branch b).wiring (narrow_branch b).owed r ≡ is_stalled (branch_slave b).wiring (branch_slave b).owed (halved (branch_children b) r)
    half_stalls =
        ap (λ (s : Slave). is_stalled s.wiring s.owed r) (narrow_branch-out b)
        ∙ stalled-narrow (branch_parts b) (out-Branch b).uppers.items (owed_by (branch_parts b) (branch_debtor b)) r
        ∙ sym (ap (λ (s : Slave). is_stalled s.wiring s.owed (halved (branch_children b) r)) (inner_is b s w.width))

    half_taken : (branch_slave b).wiring.accepts (halved (branch_children b) r) ≡ true
    half_taken = taken_by b s w.width (halved (branch_children b) r) (halves-fit (branch_children b) r wide)

    -- in one half
    module _ (x : Request) (one : one_half (half_of r.sel) r ≡ Some x) where
      pub halved_is : halved (branch_children b) r ≡ x
      halved_is = one-Some (half_of r.sel) (branch_children b) r x one

      pub one_taken : (branch_slave b).wiring.accepts x ≡ true
      one_taken = subst (λ x. (branch_slave b).wiring.accepts x ≡ true) halved_is half_taken

      pub one_stalls : is_stalled (branch_slave b).wiring (branch_slave b).owed x ≡ is_stalled (narrow_branch b).wiring (narrow_branch b).owed r
      one_stalls = ap (λ x. is_stalled (branch_slave b).wiring (branch_slave b).owed x) (sym halved_is) ∙ sym half_stalls

    -- of both halves
    module _ (none : one_half (half_of r.sel) r ≡ None) where
      pub lost_is : halved (branch_children b) r ≡ lost (branch_children b)
      lost_is = one-None (half_of r.sel) (branch_children b) r none

      pub both_stalls : is_stalled (branch_slave b).wiring (branch_slave b).owed (lost (branch_children b)) ≡ is_stalled (narrow_branch b).wiring (narrow_branch b).owed r
      both_stalls = ap (λ x. is_stalled (branch_slave b).wiring (branch_slave b).owed x) (sym lost_is) ∙ sym half_stalls

  abbrev owed_here : List Owed
  owed_here = owed_by (branch_parts b) (branch_debtor b)

  owed_is : (branch_slave b).owed ≡ owed_here
  owed_is = ap (λ (s : Slave). s.owed) (branch_slave-out b)

  pub narrow_owes : owes (branch_slave b).owed ≡ owes (narrow_branch b).owed
  narrow_owes = ap owes owed_is ∙ sym (owes-back (out-Branch b).uppers.items owed_here) ∙ ap (λ (s : Slave). owes s.owed) (sym (narrow_branch-out b))

  -- a clock, after that of the bus
  module _ (op : Option Request) (v : Branch) (after : branch_slave v ≡ ticked (branch_slave b) (halved_op (branch_children b) op)) (kept : Keeps b v) (sound : IsSoundBranch v)
      (answer : Option Answer) (a : answer ≡ given (branch_slave b).owed) where
    pub answer_short : ForSome answer FitsHalf
    answer_short = subst (λ answer. ForSome answer FitsHalf) (sym (a ∙ ap given owed_is)) (short-given owed_here w.short)

    pub answer_is : answer_back (out-Branch v).uppers.items answer ≡ given (narrow_branch b).owed
    answer_is =
        rw (kept.uppers, a, owed_is) (sym (given-back (out-Branch b).uppers.items owed_here w.kept))
        ∙ ap (λ (s : Slave). given s.owed) (sym (narrow_branch-out b))

    inner_after : bus_slave W32 (branch_parts v) (branch_debtor v) ≡ ticked (bus_slave W32 (branch_parts b) (branch_debtor b)) (halved_op (branch_children b) op)
    inner_after = sym (inner_is v sound (kept.width ∙ w.width)) ∙ after ∙ ap (λ s. ticked s (halved_op (branch_children b) op)) (inner_is b s w.width)

    owed_next : owed_by (branch_parts v) (branch_debtor v) ≡ owed_after (bus W32 (branch_children b)) (contents_in (branch_parts b)) owed_here (halved_op (branch_children b) op)
    owed_next = ap (λ (s : Slave). s.owed) inner_after

    uppers_are : uppers_after (out-Branch v).uppers.items answer op ≡ uppers_after (out-Branch b).uppers.items (given owed_here) op
    uppers_are =
        ap (λ (u : Buffer Bool). uppers_after u.items answer op) kept.uppers
        ∙ ap (λ answer. uppers_after (out-Branch b).uppers.items answer op) (a ∙ ap given owed_is)

    length_next : length (uppers_after (out-Branch v).uppers.items answer op) ≡ length (owed_by (branch_parts v) (branch_debtor v))
    length_next =
        ap length uppers_are
        ∙ length-uppers (out-Branch b).uppers.items owed_here (bus W32 (branch_children b)) (contents_in (branch_parts b)) op (branch_children b) w.kept
        ∙ ap length (sym owed_next)

    room_is : (out-Branch v).uppers.capacity ≡ 16
    room_is = ap (λ (u : Buffer Bool). u.capacity) kept.uppers ∙ w.room

    pub has_room : length (uppers_after (out-Branch v).uppers.items answer op) ≤ (out-Branch v).uppers.capacity
    has_room = omega (arith, length_next, (sound_here v sound).few, room_is)

    module _ (uppers : Buffer Bool) (u : uppers ≡ buffer (uppers_after (out-Branch v).uppers.items answer op) (out-Branch v).uppers.capacity) where
      abbrev next_layer : Branch-F Node Branch TreePart
      next_layer = record { width = (out-Branch v).width; parts = (out-Branch v).parts; debtor = (out-Branch v).debtor; uppers = uppers }

      next_out : out-Branch (roll-Branch next_layer) ≡ next_layer
      next_out = out-roll-Branch next_layer

      items_are : uppers.items ≡ uppers_after (out-Branch b).uppers.items (given owed_here) op
      items_are = ap (λ (u : Buffer Bool). u.items) u ∙ uppers_are

      pub next_after : narrow_branch (roll-Branch next_layer) ≡ ticked (narrow_branch b) op
      next_after =
          ap narrow_of (fold-roll-Branch Slave BranchState Part node_layer branch_layer part_layer next_layer)
          ∙ ap (λ us. narrow_slave (branch_parts v) (branch_debtor v) us) items_are
          ∙ narrow-ticked (branch_parts b) (fits b s w.width) w.of (branch_debtor b) (branch_debtor v) (branch_parts v) (out-Branch b).uppers.items op w.kept kept.children inner_after
          ∙ ap (λ s. ticked s op) (sym (narrow_branch-out b))

      pub next_sound : IsSoundBranch (roll-Branch next_layer)
      next_sound = let h = sound_here v sound in sound_made next_layer (sound_held v sound) (record { alone = h.alone; few = h.few })

      pub next_narrow : IsNarrow (roll-Branch next_layer)
      next_narrow = record {
        width = ap (λ (x : Branch-F Node Branch TreePart). x.width) next_out ∙ kept.width ∙ w.width;
        of = subst AllOf32 (sym (ap (λ (x : Branch-F Node Branch TreePart). map child_of (map part_slave x.parts.items)) next_out ∙ kept.children)) w.of;
        short =
            subst AllFitHalf (sym (ap (λ (x : Branch-F Node Branch TreePart). owed_by (map part_slave x.parts.items) x.debtor) next_out ∙ owed_next))
            (short-after (branch_children b) (contents_in (branch_parts b)) owed_here (halved_op (branch_children b) op) w.of w.short);
        kept =
            ap (λ (x : Branch-F Node Branch TreePart). length x.uppers.items) next_out
            ∙ ap length items_are ∙ sym (ap length uppers_are) ∙ length_next
            ∙ ap (λ (x : Branch-F Node Branch TreePart). length (owed_by (map part_slave x.parts.items) x.debtor)) (sym next_out);
        room = ap (λ (x : Branch-F Node Branch TreePart). x.uppers.capacity) next_out ∙ ap (λ (u : Buffer Bool). u.capacity) u ∙ room_is;
      }

-- ---- a new bus

pub new_narrow : (b : Branch) (parts : List Part) → IsNew W32 parts 16 b → AllOf32 (map child_of parts) → IsNarrow b
new_narrow b parts n of =
    let none : owed_by (branch_parts b) (branch_debtor b) ≡ [] = ap (owed_by (branch_parts b)) n.debtor in
    record {
      width = n.is_width;
      of = subst (λ parts. AllOf32 (map child_of parts)) (sym n.is_parts) of;
      short = subst AllFitHalf (sym none) tt;
      kept = ap (λ (u : Buffer Bool). length u.items) n.uppers ∙ sym (ap length none);
      room = ap (λ (u : Buffer Bool). u.capacity) n.uppers;
    }

pub new_slave : (b : Branch) (parts : List Part) → IsNew W32 parts 16 b → narrow_branch b ≡ narrow_slave parts Nobody []
new_slave b parts n = narrow_branch-out b ∙ (λ i. narrow_slave (n.is_parts i) (n.debtor i) (n.uppers i).items)

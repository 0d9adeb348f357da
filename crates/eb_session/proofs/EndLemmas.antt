-- Whole runs of a session.
use Rattle.std.proofs.Common.{◌≡◌, ℕ, ◌+◌, Bool, true, false, List, [], ◌∷◌, ◌++◌, length, take, Option, None, Result, Ok, Err, refl, sym, ap, ◌∙◌, subst, arith}
use Rattle.std.specs.Prelude.{MatchOption}
use Rattle.std.specs.List.{All}
use Rattle.std.proofs.lemmas.List.{append_assoc, append-nil, map-append, take_all}
use Rattle.std.proofs.lemmas.List.Elements.{All-nil}
use Rattle.eb_base.specs.declared.width.Widths.{Widths}
use Rattle.eb_codec.specs.declared.item.Header.{Header}
use Rattle.eb_codec.specs.declared.item.Record.{Record}
use Rattle.eb_codec.specs.declared.item.Why.{Why}
use Rattle.eb_codec.specs.Stream.{StreamItem, Recorded, Spells, IsPartial, AreItems, IsFirstBad, IsBadOctet, header_after_all, HasNoBad}
use Rattle.eb_codec.proofs.EndingLemmas.{no_bad, are_items, longest_bad}
use Rattle.eb_codec.proofs.StreamLemmas.{spells_one, spells_append, first_bad}
use Rattle.wb_signals.specs.Request.{Request}
use Rattle.wb_signals.specs.declared.answer.Answer.{Answer}
use Rattle.wb_signals.specs.Cycles.{MasterCycles, Asks, made_with}
use Rattle.wb_signals.specs.History.{Pair, Entry, Group, group, marked, requests_of, answers_of, given}
use Rattle.eb_session.specs.declared.slave.Slave.{Slave}
use Rattle.eb_session.specs.declared.session.Fed.{Fed}
use Rattle.eb_session.specs.declared.session.End.{End}
use Rattle.eb_session.specs.declared.session.End.TheVariants as end
use Rattle.eb_session.specs.Cycles.{Cycles, cycles_in, item_ops, item_ends, Fit}
use Rattle.eb_session.specs.Configuration.{register}
use Rattle.eb_session.specs.Replies.{sets_of, replies}
use Rattle.eb_session.specs.Keeping.{SessionState, Waits, Closed, EndsFor, HasAsking, Answers, FedItem, Stays, finished}
use Rattle.eb_session.specs.Course.{SoFar, gone_on, answers_in, IsOn, Goes, EndsBy, HasEnded, Begins, FedGoes, RunsAll, FinishEnds, FedEnds}
use Rattle.eb_session.proofs.ListLemmas.{All-more}
use Rattle.eb_session.proofs.CourseLemmas.{goes_on, given-append, none_pends}

pub begins : Begins
begins m s now none = record {
  running = refl;
  sets = refl;
  front = ([], refl, refl);
  partial = none_pends s.bus None;
  start = refl;
  header = refl;
  none_open = none;
  made = sym (append-nil now.made);
  mine = All-nil (λ (e : Entry). e.master ≡ m);
  whole = refl;
  opened = ap requests_of none;
  count = ap (λ (l : List Pair). length (answers_of l)) none;
  errors = ap (λ (l : List Pair). register 0 (answers_of l)) (sym none);
  replied = refl;
}

-- nothing was taken
pub goes_nothing : (m : ℕ) (k : SessionState) (c : MasterCycles) → Goes m k c [] [] k c
goes_nothing m k c so on =
    (so.items, so.entries, subst (λ (s : SoFar). IsOn m s k c) (λ i. record so { octets = sym (append-nil so.octets) i; replied = sym (append-nil so.replied) i }) on)

-- one after the other
pub goes_more : (m : ℕ) (k l n : SessionState) (c d e : MasterCycles) (a a' b b' : List ℕ) → Goes m k c a b l d → Goes m l d a' b' n e → Goes m k c (a ++ a') (b ++ b') n e
goes_more m k l n c d e a a' b b' p q so on =
    let x = p so on in
    let y = q (gone_on so a x.0 x.1 b) x.2 in
    (y.0, y.1, subst (λ (s : SoFar). IsOn m s n e) (λ i. record { first = so.first; octets = append_assoc so.octets a a' i; items = y.0; entries = y.1; replied = append_assoc so.replied b b' i }) y.2)

waits : (m : ℕ) (old new : SessionState) (taken : List ℕ) (before after : MasterCycles) → Waits old new (old.progress.pending ++ taken) before after → Goes m old before taken [] new after
waits m old new taken before after w so on =
    let k : SessionState = record old { progress = record old.progress { pending = old.progress.pending ++ taken; shown = None }; reply = [] } in
    let then : SoFar = gone_on so taken so.items so.entries [] in
    let at_k : IsOn m then k before = record {
      running = on.running;
      sets = on.sets;
      front = (on.front.0, ap (λ (l : List ℕ). l ++ taken) on.front.1 ∙ append_assoc on.front.0 old.progress.pending taken, on.front.2);
      partial = subst (λ (g : Option Header). IsPartial (sets_of old.slave.bus) g (old.progress.pending ++ taken)) on.header (subst (λ (z : Widths). IsPartial z old.progress.header (old.progress.pending ++ taken)) on.sets w.pends);
      start = on.start;
      header = on.header;
      none_open = on.none_open;
      made = on.made;
      mine = on.mine;
      whole = on.whole;
      opened = on.opened;
      count = on.count;
      errors = on.errors;
      replied = append-nil so.replied ∙ on.replied;
    } in
    (so.items, so.entries, subst (λ (q : SessionState). IsOn m then q after) (sym w.kept) (subst (λ (c : MasterCycles). IsOn m then k c) (sym w.same) at_k))

pub by_item : (m : ℕ) (old new : SessionState) (piece : List ℕ) (before after : MasterCycles) (taken : ℕ) (is_item : Bool) → FedItem m old piece new before after taken is_item → Goes m old before (take taken piece) new.reply new after
by_item m old new piece before after taken true (le, x, answers, ran) =
    λ so on. let g = goes_on m so old new (take taken piece) before after x answers on ran in (so.items ++ x ∷ [], g.0, g.1)
by_item m old new piece before after taken false (all, w) =
    let whole : piece ≡ take taken piece = sym (take_all taken piece (omega (arith, all))) in
    let here : Goes m old before piece [] new after = waits m old new piece before after w in
    subst (λ (r : List ℕ). Goes m old before (take taken piece) r new after) (sym (ap (λ (k : SessionState). k.reply) w.kept)) (subst (λ (l : List ℕ). Goes m old before l [] new after) whole here)

abbrev answer_ok : Fed → Result Fed End
answer_ok fed = Ok fed

abbrev answer_err : End → Result Fed End
answer_err e = Err e

pub fed_goes : FedGoes
fed_goes m old new piece before after fed f so on =
    let answers : Answers m old piece new before after (Ok fed) = subst (λ (q : Option End). MatchOption q (Answers m old piece new before after (Ok fed)) (λ e. (answer_ok fed ≡ Err e) × Stays old new before after)) on.running f in
    by_item m old new piece before after fed.taken fed.item answers so on

pub runs_all : RunsAll
runs_all m so state now on =
    let sets : Widths = sets_of state.slave.bus in
    let f = on.front in
    (are_items sets so.items so.octets f.0 state.progress.pending f.1 f.2 on.partial, no_bad sets so.items so.octets f.0 state.progress.pending f.1 f.2 on.partial)

-- ---- the cycles at an end

-- what the master has once its open cycle was cut, whose answers were these
pub record Fits (m : ℕ) (s : Slave) (so : SoFar) (made : List Entry) (errors : ℕ) (answers : List Answer) (more : List Entry) : Type 0 where
  pub made_is : made ≡ so.first.made ++ more
  pub mine : All (λ e. e.master ≡ m) more
  pub fit : Fit s.bus so.items more
  pub replied : so.replied ≡ replies s so.items (given more)
  pub register_is : errors ≡ register 0 (given more)
  pub all : given more ≡ answers

pub cut_by : (m : ℕ) (so : SoFar) (state : SessionState) (before : MasterCycles) (l : List Pair) → l ≡ before.opened → IsOn m so state before
    → (more : List Entry) × Fits m state.slave so (made_with m true before.made l) state.errors (answers_in so before) more
cut_by m so state before [] is on =
    let c : Cycles = cycles_in state.slave.bus so.items in
    let none : [] ≡ c.opened = ap requests_of is ∙ on.opened in
    let all : answers_in so before ≡ given so.entries = ap (λ (p : List Pair). given so.entries ++ answers_of p) (sym is) ∙ append-nil (given so.entries) in (
      so.entries,
      record {
        made_is = on.made;
        mine = on.mine;
        fit = on.whole ∙ sym (append-nil c.whole) ∙ ap (λ (r : List Request). c.whole ++ group true r) none;
        replied = on.replied ∙ ap (replies state.slave so.items) all;
        register_is = on.errors ∙ ap (register 0) all;
        all = sym all;
      },
    )
cut_by m so state before (p ∷ l) is on =
    let c : Cycles = cycles_in state.slave.bus so.items in
    let e : Entry = record { master = m; cut = true; pairs = p ∷ l } in
    let some : requests_of (p ∷ l) ≡ c.opened = ap requests_of is ∙ on.opened in
    let all : answers_in so before ≡ given (so.entries ++ e ∷ []) =
    ap (λ (q : List Pair). given so.entries ++ answers_of q) (sym is) ∙ ap (λ (q : List Answer). given so.entries ++ q) (sym (append-nil (answers_of (p ∷ l)))) ∙ sym (given-append so.entries (e ∷ [])) in (
      so.entries ++ e ∷ [],
      record {
        made_is = ap (λ (d : List Entry). d ++ e ∷ []) on.made ∙ append_assoc so.first.made so.entries (e ∷ []);
        mine = All-more (λ (x : Entry). x.master ≡ m) so.entries e on.mine refl;
        fit = map-append marked so.entries (e ∷ []) ∙ ap (λ (d : List Group). d ++ group true (requests_of (p ∷ l))) on.whole ∙ ap (λ (r : List Request). c.whole ++ group true r) some;
        replied = on.replied ∙ ap (replies state.slave so.items) all;
        register_is = on.errors ∙ ap (register 0) all;
        all = sym all;
      },
    )

-- the session was closed so, when these octets had been read
closed : (m : ℕ) (so : SoFar) (old new : SessionState) (before after : MasterCycles) (read : List ℕ) (e : End) → IsOn m so old before
    → Closed m old new before after e → EndsBy old.slave read so.items e → (more : List Entry) × HasEnded m old.slave (record so { octets = read; entries = more }) after new.errors e
closed m so old new before after read e on c by =
    let f = cut_by m so old before before.opened refl on in (
      f.0,
      record {
        ends = by;
        none_open = ap (λ (k : MasterCycles). k.opened) c.cut;
        made = ap (λ (k : MasterCycles). k.made) c.cut ∙ f.1.made_is;
        mine = f.1.mine;
        fit = f.1.fit;
        replied = f.1.replied;
        register_is = c.kept.1 ∙ f.1.register_is;
      },
    )

-- ---- the end of the stream

at_end : (s : Slave) (octets : List ℕ) (items : List StreamItem) (pending : List ℕ) → AreItems (sets_of s.bus) None octets items pending → HasNoBad (sets_of s.bus) octets → EndsBy s octets items (finished pending)
at_end s octets items [] are none = (are, none)
at_end s octets items (o ∷ os) are none = (o ∷ os, refl, omega arith, are, none)

pub finish_ends : FinishEnds
finish_ends m so old new before after e on f =
    let here : (e ≡ finished old.progress.pending) × Closed m old new before after e =
    subst (λ (q : Option End). MatchOption q ((e ≡ finished old.progress.pending) × Closed m old new before after e) (λ x. (e ≡ x) × Stays old new before after)) on.running f in
    let all = runs_all m so old before on in
    closed m so old new before after so.octets e on here.1 (subst (EndsBy old.slave so.octets so.items) (sym here.0) (at_end old.slave so.octets so.items old.progress.pending all.0 all.1))

-- ---- a piece that is refused

module _ (m : ℕ) (so : SoFar) (old : SessionState) (before : MasterCycles) (piece : List ℕ) (on : IsOn m so old before) where
  whole : so.octets ++ piece ≡ on.front.0 ++ (old.progress.pending ++ piece)
  whole = ap (λ (l : List ℕ). l ++ piece) on.front.1 ∙ append_assoc on.front.0 old.progress.pending piece

  refused : (fault_place : ℕ) (why : Why) (p : ℕ) → fault_place ≡ old.progress.start + p → IsBadOctet old.progress.sets old.progress.header (old.progress.pending ++ piece) p why → EndsBy old.slave (so.octets ++ piece) so.items (end.Malformed fault_place why)
  refused place why p is bad' =
      let sets : Widths = sets_of old.slave.bus in
      let items : List StreamItem = so.items in
      let o : List ℕ = old.progress.pending ++ piece in
      let a : List ℕ = on.front.0 in
      let bad : IsBadOctet sets (header_after_all None items) o p why = subst (λ (z : Option Header). IsBadOctet sets z o p why) on.header (subst (λ (z : Widths). IsBadOctet z old.progress.header o p why) on.sets bad') in
      let here : IsFirstBad sets None (a ++ o) (length a + p) why = first_bad sets None items a o p why on.front.2 bad in
      let at : length a + p ≡ place = ap (λ (n : ℕ). n + p) (sym on.start) ∙ sym is in (
        o,
        record { front = (a, whole, on.front.2); longest = λ others x y e t. longest_bad sets None items others a o x y p why (sym whole ∙ e) on.front.2 bad t },
        subst (λ (l : List ℕ). IsFirstBad sets None l place why) (sym whole) (subst (λ (n : ℕ). IsFirstBad sets None (a ++ o) n why) at here),
      )

  none_open : (l : List Pair) → l ≡ before.opened → (cycles_in old.slave.bus so.items).opened ≡ [] → before.opened ≡ []
  none_open [] is e = sym is
  none_open (p ∷ l) is e = let f : requests_of (p ∷ l) ≡ [] = ap requests_of is ∙ on.opened ∙ e in absurd (cc f)

  unrun : HasAsking old (old.progress.pending ++ piece) before → EndsBy old.slave (so.octets ++ piece) so.items end.NoMemory
  unrun h =
      let sets : Widths = sets_of old.slave.bus in
      let a : List ℕ = on.front.0 in
      let r : Record = h.0 in
      let front : List ℕ = h.1 in
      let rest : List ℕ = h.2 in
      let after : Option Header = header_after_all None so.items in
      let s : Spells sets after (Recorded r) front = subst (λ (z : Option Header). Spells sets z (Recorded r) front) on.header (subst (λ (z : Widths). Spells z old.progress.header (Recorded r) front) on.sets h.4) in
      let asks : Asks before.opened (item_ops old.slave.bus after (Recorded r)) (item_ends (Recorded r)) = subst (λ (z : Option Header). Asks before.opened (item_ops old.slave.bus z (Recorded r)) (item_ends (Recorded r))) on.header h.5 in (
        r,
        a ++ front,
        rest,
        whole ∙ ap (λ (l : List ℕ). a ++ l) h.3 ∙ sym (append_assoc a front rest),
        spells_append sets None so.items (Recorded r ∷ []) a front on.front.2 (spells_one sets after (Recorded r) front s),
        λ none. ((asks none).0, λ e. (asks none).1 (none_open before.opened refl e)),
      )

  pub ends_for : (e : End) → EndsFor old piece before e → EndsBy old.slave (so.octets ++ piece) so.items e
  ends_for end.Clean h = elim h [ ]
  ends_for (end.Truncated n) h = elim h [ ]
  ends_for (end.Malformed place why) (new, r) = refused place why r.at.0 r.at.1 r.at.2
  ends_for end.NoMemory h = unrun h

pub fed_ends : FedEnds
fed_ends m so old new piece before after e on f =
    let here : EndsFor old piece before e × Closed m old new before after e =
    subst (λ (q : Option End). MatchOption q (Answers m old piece new before after (Err e)) (λ x. (answer_err e ≡ Err x) × Stays old new before after)) on.running f in
    closed m so old new before after (so.octets ++ piece) e on here.1 (ends_for m so old before piece on e here.0)

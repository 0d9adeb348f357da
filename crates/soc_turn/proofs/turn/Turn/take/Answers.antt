use Rattle.std.proofs.Common.{rules, ◌≡◌, ℕ, ◌%◌, ◌^◌, [], ◌∷◌, sym, ap, ◌∙◌, Option, Some, None}
use Rattle.atomic_table.specs.Table.{Me}
use Rattle.soc_turn.specs.declared.knows.Knows.{Knows}
use Rattle.soc_turn.specs.declared.knows.Knows.TheVariants.{Idle, Waiting, Holding}
use Rattle.soc_journal.specs.Ledger.{Follows}
use Rattle.soc_turn.specs.Roles.{number_of, is_held, last_of}
use Rattle.soc_turn.proofs.RoleLemmas.{pass_is, in_hand, was_in_hand, emptied, held_shows}
use Rattle.soc_turn.proofs.StepLemmas.{draws, looks}
use Rattle.soc_turn.proofs.turn.Turn.take.Goals as goal

pub fetch_add-ticket-requires : goal.fetch_add-ticket-requires
fetch_add-ticket-requires g c = let s = c.pass.inside.seat in let is = pass_is s.me c.pass.inside.waits in
    (search rules, search rules, draws g.T.Ledgered.history g.T.Ledgered.stake g.T.Ledgered.charter _ s.id (number_of s.me.0) (last_of s.me c.pass.inside.waits) s.me is)

pub load-served-requires : goal.load-served-requires
load-served-requires g c =
    let s = c.pass.inside.seat in let n : ℕ = number_of s.me.0 in let x : g.row.T.Denot = last_of s.me c.pass.inside.waits in let is : s.me ≡ (Idle n x, []) = pass_is s.me c.pass.inside.waits in
    let d = c.fetch_add-ticket.ensures.2 n x is in let k : ℕ = d.0 in let same : c.loop.seat.me ≡ c.fetch_add-ticket.new.seat.me = c.loop.invariant.1 in
    let at : c.loop.seat.me ≡ (Waiting n x k, []) = same ∙ d.2 in
    (search rules, search rules, looks g.T.Ledgered.history g.T.Ledgered.stake g.T.Ledgered.charter _ c.loop.seat.id n k x c.loop.seat.me at)

pub exchange-requires : goal.exchange-requires
exchange-requires g c =
    let s = c.pass.inside.seat in let n : ℕ = number_of s.me.0 in let x : g.row.T.Denot = last_of s.me c.pass.inside.waits in let is : s.me ≡ (Idle n x, []) = pass_is s.me c.pass.inside.waits in
    let d = c.fetch_add-ticket.ensures.2 n x is in let k : ℕ = d.0 in let same : c.loop.seat.me ≡ c.fetch_add-ticket.new.seat.me = c.loop.invariant.1 in
    let at : c.loop.seat.me ≡ (Waiting n x k, []) = same ∙ d.2 in
    let looked = c.load-served.ensures.2 n x k at in let hit : c.load-served.result ≡ k % 2 ^ 64 = c.if-served-ticket.true ∙ d.1 in let t = looked.0 hit in let y : g.row.T.Denot = t.0 in
    let e : c.load-served.new.seat.me ≡ (Holding n x k y, (0, Some y) ∷ []) = t.2 in
    (search rules, (Some y, in_hand c.load-served.new.seat.me n x k y e))

pub unwrap-value-requires : goal.unwrap-value-requires
unwrap-value-requires g c =
    let s = c.pass.inside.seat in let n : ℕ = number_of s.me.0 in let x : g.row.T.Denot = last_of s.me c.pass.inside.waits in let is : s.me ≡ (Idle n x, []) = pass_is s.me c.pass.inside.waits in
    let d = c.fetch_add-ticket.ensures.2 n x is in let k : ℕ = d.0 in let same : c.loop.seat.me ≡ c.fetch_add-ticket.new.seat.me = c.loop.invariant.1 in
    let at : c.loop.seat.me ≡ (Waiting n x k, []) = same ∙ d.2 in
    let looked = c.load-served.ensures.2 n x k at in let hit : c.load-served.result ≡ k % 2 ^ 64 = c.if-served-ticket.true ∙ d.1 in let t = looked.0 hit in let y : g.row.T.Denot = t.0 in
    let e : c.load-served.new.seat.me ≡ (Holding n x k y, (0, Some y) ∷ []) = t.2 in
    let e' : c.exchange.new.seat.me ≡ (Holding n x k y, (0, None) ∷ []) = emptied c.load-served.new.seat.me c.exchange.new.seat.me n x k y e c.exchange.ensures.3 in
    let r : c.exchange.result ≡ Some y = was_in_hand c.load-served.new.seat.me n x k y c.exchange.result e c.exchange.ensures.2 in
    search (rules, r)

pub invariant_of-result : goal.invariant_of-result
invariant_of-result g c =
    let s = c.pass.inside.seat in let n : ℕ = number_of s.me.0 in let x : g.row.T.Denot = last_of s.me c.pass.inside.waits in let is : s.me ≡ (Idle n x, []) = pass_is s.me c.pass.inside.waits in
    let d = c.fetch_add-ticket.ensures.2 n x is in let k : ℕ = d.0 in let same : c.loop.seat.me ≡ c.fetch_add-ticket.new.seat.me = c.loop.invariant.1 in
    let at : c.loop.seat.me ≡ (Waiting n x k, []) = same ∙ d.2 in
    let looked = c.load-served.ensures.2 n x k at in let hit : c.load-served.result ≡ k % 2 ^ 64 = c.if-served-ticket.true ∙ d.1 in let t = looked.0 hit in let y : g.row.T.Denot = t.0 in
    let e : c.load-served.new.seat.me ≡ (Holding n x k y, (0, Some y) ∷ []) = t.2 in
    let e' : c.exchange.new.seat.me ≡ (Holding n x k y, (0, None) ∷ []) = emptied c.load-served.new.seat.me c.exchange.new.seat.me n x k y e c.exchange.ensures.3 in
    let r : c.exchange.result ≡ Some y = was_in_hand c.load-served.new.seat.me n x k y c.exchange.result e c.exchange.ensures.2 in
    (ap is_held e', (c.pass.inside.named ∙ sym (ap (λ (m : Me (Option g.row.T.Denot) (Knows g.row.T.Denot)). number_of m.0) e'), tt))

pub returns-then-served-ticket-clause-held : goal.returns-then-served-ticket-clause-held
returns-then-served-ticket-clause-held g c =
    let s = c.pass.inside.seat in let n : ℕ = number_of s.me.0 in let x : g.row.T.Denot = last_of s.me c.pass.inside.waits in let is : s.me ≡ (Idle n x, []) = pass_is s.me c.pass.inside.waits in
    let d = c.fetch_add-ticket.ensures.2 n x is in let k : ℕ = d.0 in let same : c.loop.seat.me ≡ c.fetch_add-ticket.new.seat.me = c.loop.invariant.1 in
    let at : c.loop.seat.me ≡ (Waiting n x k, []) = same ∙ d.2 in
    let looked = c.load-served.ensures.2 n x k at in let hit : c.load-served.result ≡ k % 2 ^ 64 = c.if-served-ticket.true ∙ d.1 in let t = looked.0 hit in let y : g.row.T.Denot = t.0 in
    let e : c.load-served.new.seat.me ≡ (Holding n x k y, (0, Some y) ∷ []) = t.2 in
    let e' : c.exchange.new.seat.me ≡ (Holding n x k y, (0, None) ∷ []) = emptied c.load-served.new.seat.me c.exchange.new.seat.me n x k y e c.exchange.ensures.3 in
    let r : c.exchange.result ≡ Some y = was_in_hand c.load-served.new.seat.me n x k y c.exchange.result e c.exchange.ensures.2 in
    let table : c.exchange.new.seat.table_id ≡ c.args.self.now = search rules in let number : c.pass.inside.number ≡ c.args.pass.number = search rules in let value : y ≡ c.unwrap-value.result = search (rules, r) in
    let me' : c.exchange.new.seat.me ≡ (Holding c.pass.inside.number x k y, (0, None) ∷ []) = e' ∙ ap (λ (j : ℕ). let z : Me (Option g.row.T.Denot) (Knows g.row.T.Denot) = (Holding j x k y, (0, None) ∷ []) in z) (sym c.pass.inside.named) in
    held_shows c.exchange.new.seat.me _ c.exchange.new.seat.table_id c.args.self.now c.pass.inside.number c.args.pass.number k x y c.unwrap-value.result table number me' value

pub returns-then-served-ticket-clause-value : goal.returns-then-served-ticket-clause-value
returns-then-served-ticket-clause-value g c =
    let s = c.pass.inside.seat in let n : ℕ = number_of s.me.0 in let x : g.row.T.Denot = last_of s.me c.pass.inside.waits in let is : s.me ≡ (Idle n x, []) = pass_is s.me c.pass.inside.waits in
    let d = c.fetch_add-ticket.ensures.2 n x is in let k : ℕ = d.0 in let same : c.loop.seat.me ≡ c.fetch_add-ticket.new.seat.me = c.loop.invariant.1 in
    let at : c.loop.seat.me ≡ (Waiting n x k, []) = same ∙ d.2 in
    let looked = c.load-served.ensures.2 n x k at in let hit : c.load-served.result ≡ k % 2 ^ 64 = c.if-served-ticket.true ∙ d.1 in let t = looked.0 hit in let y : g.row.T.Denot = t.0 in
    let e : c.load-served.new.seat.me ≡ (Holding n x k y, (0, Some y) ∷ []) = t.2 in
    let e' : c.exchange.new.seat.me ≡ (Holding n x k y, (0, None) ∷ []) = emptied c.load-served.new.seat.me c.exchange.new.seat.me n x k y e c.exchange.ensures.3 in
    let r : c.exchange.result ≡ Some y = was_in_hand c.load-served.new.seat.me n x k y c.exchange.result e c.exchange.ensures.2 in
    let value : y ≡ c.unwrap-value.result = search (rules, r) in let number : n ≡ c.args.pass.number = sym c.pass.inside.named ∙ (λ i. (c.pass.view_is i).number) in let last : x ≡ c.args.pass.last = λ i. (c.pass.view_is i).last in
    coe 0 1 (i. Follows g.T.Ledgered.history g.T.Ledgered.stake g.T.Ledgered.charter (number i) (last i) (value i)) t.1

pub loop-preserved : goal.loop-preserved
loop-preserved g c =
    let s = c.pass.inside.seat in let n : ℕ = number_of s.me.0 in let x : g.row.T.Denot = last_of s.me c.pass.inside.waits in let is : s.me ≡ (Idle n x, []) = pass_is s.me c.pass.inside.waits in
    let d = c.fetch_add-ticket.ensures.2 n x is in let k : ℕ = d.0 in let same : c.loop.seat.me ≡ c.fetch_add-ticket.new.seat.me = c.loop.invariant.1 in
    let at : c.loop.seat.me ≡ (Waiting n x k, []) = same ∙ d.2 in
    let looked = c.load-served.ensures.2 n x k at in let miss = looked.1 (λ h. c.if-served-ticket.false (h ∙ sym d.1)) in
    (search rules, miss ∙ same)

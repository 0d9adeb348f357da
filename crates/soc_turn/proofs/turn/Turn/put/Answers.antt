use Rattle.std.proofs.Common.{rules, ◌≡◌, ℕ, [], ◌∷◌, sym, ap, ◌∙◌, Option, Some}
use Rattle.atomic_table.specs.Table.{Me, rest}
use Rattle.soc_turn.specs.declared.knows.Knows.{Knows}
use Rattle.soc_turn.specs.declared.knows.Knows.TheVariants.{Idle, Holding}
use Rattle.soc_journal.specs.Ledger.{Adds}
use Rattle.soc_turn.specs.Roles.{number_of, is_pass, taken_of}
use Rattle.soc_turn.proofs.RoleLemmas.{held_is, pass_shows}
use Rattle.soc_turn.proofs.StepLemmas.{publishes}
use Rattle.soc_turn.proofs.turn.Turn.put.Goals as goal

pub fetch_add-requires : goal.fetch_add-requires
fetch_add-requires g c =
    let s = c.held.inside.seat in let t = c.exchange-hole.new.seat in let n : ℕ = number_of s.me.0 in let y : g.row.T.Denot = taken_of s.me c.held.inside.holds in let is = held_is s.me c.held.inside.holds in
    let x : g.row.T.Denot = is.0 in let k : ℕ = is.1 in let filled : Me (Option g.row.T.Denot) (Knows g.row.T.Denot) → Me (Option g.row.T.Denot) (Knows g.row.T.Denot) = λ m. (m.0, (0, Some c.args.value) ∷ rest m.1) in
    let me : t.me ≡ (Holding n x k y, (0, Some c.args.value) ∷ []) = c.exchange-hole.ensures.3 ∙ ap filled is.2 in
    let adds : Adds g.T.Ledgered.history g.T.Ledgered.stake g.T.Ledgered.charter n y c.args.value = search rules in
    (search rules, search rules, publishes g.T.Ledgered.history g.T.Ledgered.stake g.T.Ledgered.charter _ t.id n k x y c.args.value t.me me adds)

pub invariant_of-result : goal.invariant_of-result
invariant_of-result g c =
    let s = c.held.inside.seat in let t = c.exchange-hole.new.seat in let n : ℕ = number_of s.me.0 in let y : g.row.T.Denot = taken_of s.me c.held.inside.holds in let is = held_is s.me c.held.inside.holds in
    let x : g.row.T.Denot = is.0 in let k : ℕ = is.1 in let filled : Me (Option g.row.T.Denot) (Knows g.row.T.Denot) → Me (Option g.row.T.Denot) (Knows g.row.T.Denot) = λ m. (m.0, (0, Some c.args.value) ∷ rest m.1) in
    let me : t.me ≡ (Holding n x k y, (0, Some c.args.value) ∷ []) = c.exchange-hole.ensures.3 ∙ ap filled is.2 in
    let e : c.fetch_add.new.seat.me ≡ (Idle n c.args.value, []) = c.fetch_add.ensures.2 n x k y c.args.value me in
    (ap is_pass e, (c.held.inside.named ∙ sym (ap (λ (m : Me (Option g.row.T.Denot) (Knows g.row.T.Denot)). number_of m.0) e), tt))

pub returns : goal.returns
returns g c =
    let s = c.held.inside.seat in let t = c.exchange-hole.new.seat in let n : ℕ = number_of s.me.0 in let y : g.row.T.Denot = taken_of s.me c.held.inside.holds in let is = held_is s.me c.held.inside.holds in
    let x : g.row.T.Denot = is.0 in let k : ℕ = is.1 in let filled : Me (Option g.row.T.Denot) (Knows g.row.T.Denot) → Me (Option g.row.T.Denot) (Knows g.row.T.Denot) = λ m. (m.0, (0, Some c.args.value) ∷ rest m.1) in
    let me : t.me ≡ (Holding n x k y, (0, Some c.args.value) ∷ []) = c.exchange-hole.ensures.3 ∙ ap filled is.2 in
    let e : c.fetch_add.new.seat.me ≡ (Idle n c.args.value, []) = c.fetch_add.ensures.2 n x k y c.args.value me in
    let table : c.fetch_add.new.seat.table_id ≡ c.args.self.now = search rules in let number : c.held.inside.number ≡ c.args.held.number = search rules in
    let me' : c.fetch_add.new.seat.me ≡ (Idle c.held.inside.number c.args.value, []) = e ∙ ap (λ (k : ℕ). let z : Me (Option g.row.T.Denot) (Knows g.row.T.Denot) = (Idle k c.args.value, []) in z) (sym c.held.inside.named) in
    record { pass = pass_shows c.fetch_add.new.seat.me _ c.fetch_add.new.seat.table_id c.args.self.now c.held.inside.number c.args.held.number c.args.value table number me' }

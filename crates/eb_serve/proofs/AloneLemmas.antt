-- A post that one master serves.
use Rattle.std.proofs.Common.{◌≡◌, ℕ, ◌≤◌, [], Some, None, Option, sym, ap, ◌∙◌, subst}
use Rattle.std.specs.Prelude.{IsSome, IfSome}
use Rattle.atomic_table.specs.Seated.{TableId}
use Rattle.wb_signals.specs.Cycles.{MasterCycles}
use Rattle.wb_signals.specs.History.{IsLegal, own}
use Rattle.soc_desc.specs.declared.description.Description.{Description}
use Rattle.soc_core.specs.Built.{fabric_of}
use Rattle.soc_core.specs.Core.{Stake}
use Rattle.soc_turn.specs.Views.{PassView}
use Rattle.soc_bus.specs.View.{BusState}
use Rattle.eb_net.specs.Posting.{Posting}
use Rattle.eb_session.specs.declared.slave.Slave.{Slave}
use Rattle.eb_shared.specs.Shared.{number_told, cycles_told, made_by, stake_by}
use Rattle.eb_shared.specs.Lanes.{IsThere}
use Rattle.eb_ports.specs.Ends.{EndsState, no_ends}
use Rattle.eb_ports.specs.Datagrams.{ServedPost}
use Rattle.eb_serve.specs.Serves.{port_slave, has_made}
use Rattle.eb_serve.specs.Datagrams.{ServesDatagrams}
use Rattle.eb_serve.proofs.SeatLemmas.{pass_tells}

-- a pass that is there is this one
pub pass_is : (pass : Option (PassView BusState)) (p : PassView BusState) → IsSome pass → IfSome pass (λ x. x ≡ p) → Some p ≡ pass
pass_is None p never same = absurd (cc never)
pass_is (Some x) p some same = ap (λ y. Some y) (sym same)

pub pass_was : (pass : Option (PassView BusState)) (p : PassView BusState) → IsSome pass → IfSome pass (λ x. p ≡ x) → Some p ≡ pass
pass_was None p never same = absurd (cc never)
pass_was (Some x) p some same = ap (λ y. Some y) same

-- a new pass tells nothing
pub new_tells : (turn : TableId) (p : PassView BusState) → IsThere turn (Some p) → made_by p ≡ [] → cycles_told (Some p) ≡ has_made []
new_tells turn p there none =
    let opened : (stake_by p).opened ≡ [] = ap (λ (s : Stake). s.opened) there.1.2 in
    λ i. record { made = none i; opened = opened i }

pub none_open : (turn : TableId) (p : PassView BusState) (pass : Option (PassView BusState)) → Some p ≡ pass → IsThere turn (Some p) → (cycles_told pass).opened ≡ []
none_open turn p pass is there = ap (λ (o : Option (PassView BusState)). (cycles_told o).opened) (sym is) ∙ ap (λ (s : Stake). s.opened) there.1.2

module _ (d : Description) (count : ℕ) (old new : Posting) (turn : TableId) (first last : Option (PassView BusState)) (p q : PassView BusState) (s : Slave) (ends ends' : EndsState)
    (bus : BusState) where
  pub serves_alone : Some p ≡ first → Some q ≡ last → s ≡ port_slave d → ends ≡ no_ends count → p.number ≡ 0 → made_by p ≡ [] → IsThere turn (Some p) → IsThere turn (Some q)
      → number_told last ≡ number_told first → ServedPost (number_told first) s count old new (cycles_told first) (cycles_told last) ends ends'
      → own q.number bus.core.journal ≡ made_by q → ((m : ℕ) → 1 ≤ m → own m bus.core.journal ≡ []) → bus.description ≡ d
      → IsLegal (fabric_of bus.description).wiring (fabric_of bus.description).built bus.core.journal
      → ServesDatagrams d count old new (record { ends = ends'; journal = bus.core.journal })
  serves_alone was is slave room zero none there here same served mine others described legal =
      let number : number_told first ≡ 0 = sym (ap number_told was) ∙ zero in
      let begins : cycles_told first ≡ has_made [] = sym (ap cycles_told was) ∙ new_tells turn p there none in
      let there' : IsThere turn last = subst (λ (o : Option (PassView BusState)). IsThere turn o) is here in
      let ends_ : cycles_told last ≡ has_made (own 0 bus.core.journal) = pass_tells turn q last 0 bus.core.journal is there' (same ∙ number) mine in
      record {
        legal = subst (λ (x : Description). IsLegal (fabric_of x).wiring (fabric_of x).built bus.core.journal) described legal;
        served = subst (λ (e : EndsState). ServedPost 0 (port_slave d) count old new (has_made []) (has_made (own 0 bus.core.journal)) e ends') room
            (subst (λ (k : MasterCycles). ServedPost 0 (port_slave d) count old new (has_made []) k ends ends') ends_
            (subst (λ (k : MasterCycles). ServedPost 0 (port_slave d) count old new k (cycles_told last) ends ends') begins
            (subst (λ (k : Slave). ServedPost 0 k count old new (cycles_told first) (cycles_told last) ends ends') slave
            (subst (λ (n : ℕ). ServedPost n s count old new (cycles_told first) (cycles_told last) ends ends') number served))));
        others = others;
      }

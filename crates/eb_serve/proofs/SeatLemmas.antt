-- Lanes as they are made, served and taken apart.
use Rattle.std.proofs.Common.{◌≡◌, ℕ, ◌<◌, ◌≤◌, List, [], ◌∷◌, ◌++◌, length, map, get_or, Some, Option, refl, sym, ap, ◌∙◌, subst, arith}
use Rattle.std.specs.Prelude.{All}
use Rattle.std.proofs.lemmas.List.{get_or_at, get_or-map, length-map, map-append}
use Rattle.atomic_table.specs.Seated.{TableId}
use Rattle.wb_signals.specs.Cycles.{MasterCycles}
use Rattle.wb_signals.specs.History.{Entry, IsLegal, own}
use Rattle.soc_desc.specs.declared.description.Description.{Description}
use Rattle.soc_turn.specs.Views.{PassView}
use Rattle.soc_core.specs.Built.{fabric_of}
use Rattle.soc_core.specs.Core.{Stake}
use Rattle.soc_bus.specs.View.{BusState}
use Rattle.eb_net.specs.Accepting.{DoorState}
use Rattle.eb_session.specs.declared.slave.Slave.{Slave}
use Rattle.eb_shared.specs.Shared.{number_told, cycles_told, made_by, stake_by}
use Rattle.eb_shared.specs.Lanes.{IsThere}
use Rattle.eb_replay.specs.Lanes.{EachAt}
use Rattle.eb_ports.specs.Ends.{EndsState, no_ends}
use Rattle.eb_ports.specs.Connections.{AwaitsEndings, ServedPort}
use Rattle.eb_ports.specs.declared.ports.PortLane.{PortLane}
use Rattle.eb_serve.specs.Serves.{Serves, port_slave, has_made}
use Rattle.eb_serve.specs.Seats.{IsAtDoor, PortsServed, WereKept}

-- an item of a list that has one
some_item : {X : Type 0} (xs : List X) (i : ℕ) → i < length xs → X
some_item [] i lt = absurd (omega (arith, lt))
some_item (x ∷ xs) i lt = x

-- the lane that is made for a door
pub at_door : {D : Type 0} (turn : TableId) (count : ℕ) (doors before after : List D) (x : D) (ends : EndsState) (lane : PortLane D) (i : ℕ) → before ++ x ∷ after ≡ doors → i ≡ length before
    → lane.door ≡ x → lane.ends ≡ ends → ends ≡ no_ends count → IsThere turn lane.pass → number_told lane.pass ≡ i → cycles_told lane.pass ≡ has_made []
    → IsAtDoor turn count doors i lane
at_door turn count doors before after x ends lane i whole at door is ready there number none = record {
  door = λ f. door ∙ sym (get_or_at before x after f i (sym at)) ∙ ap (λ xs. get_or xs i f) whole;
  ends = is ∙ ready;
  there = there;
  number = number;
  none = none;
}

pub all_there : {D : Type 0} (turn : TableId) (count : ℕ) (doors : List D) (lanes : List (PortLane D)) → EachAt (IsAtDoor turn count doors) lanes → All (λ l. IsThere turn l.pass) lanes
all_there turn count doors lanes seated i d lt = (seated i d lt).there

pub all_await : {D : Type 0} (turn : TableId) (count : ℕ) (doors : List D) (lanes : List (PortLane D)) → EachAt (IsAtDoor turn count doors) lanes → All (λ l. AwaitsEndings count l.ends) lanes
all_await turn count doors lanes seated i d lt =
    subst (λ (e : EndsState). AwaitsEndings count e) (sym (seated i d lt).ends) record { none = refl; sound = refl; room = omega arith }

-- ---- the passes of lanes

pass_at : {D : Type 0} (lanes : List (PortLane D)) (passes : List (PassView BusState)) → map (λ p. Some p) passes ≡ map (λ l. l.pass) lanes
    → (i : ℕ) (p : PassView BusState) (l : PortLane D) → i < length passes → i < length lanes → Some (get_or passes i p) ≡ (get_or lanes i l).pass
pass_at lanes passes are i p l lt lt' =
    sym (get_or-map (λ q. Some q) passes i p (Some p) lt) ∙ ap (λ xs. get_or xs i (Some p)) are ∙ get_or-map (λ k. k.pass) lanes i l (Some p) lt'

passes_count : {D : Type 0} (lanes : List (PortLane D)) (passes : List (PassView BusState)) → map (λ p. Some p) passes ≡ map (λ l. l.pass) lanes → length passes ≡ length lanes
passes_count lanes passes are = sym (length-map passes (λ q. Some q)) ∙ ap length are ∙ length-map lanes (λ k. k.pass)

-- each is of the turn of its lane
pub passes_of : {D : Type 0} (turn : TableId) (lanes : List (PortLane D)) (passes : List (PassView BusState)) → map (λ p. Some p) passes ≡ map (λ l. l.pass) lanes
    → All (λ l. IsThere turn l.pass) lanes → All (λ p. p.turn ≡ turn) passes
passes_of turn lanes passes are there i p lt =
    let count : length passes ≡ length lanes = passes_count lanes passes are in
    let lt' : i < length lanes = omega (arith, lt, count) in
    let l = some_item lanes i lt' in
    (subst (λ (q : Option (PassView BusState)). IsThere turn q) (sym (pass_at lanes passes are i p l lt lt')) (there i l lt')).1.0

-- ---- lanes taken apart

pub kept_none : {D : Type 0} (doors : List D) (passes : List (PassView BusState)) (ports : List EndsState) → doors ≡ [] → passes ≡ [] → ports ≡ [] → WereKept [] doors passes ports
kept_none doors passes ports f p q = record { doors_are = f; passes_are = ap (λ xs. map (λ p. Some p) xs) p; ports_are = q }

pub kept_more : {D : Type 0} (lanes : List (PortLane D)) (lane : PortLane D) (doors doors' : List D) (passes passes' : List (PassView BusState)) (ports ports' : List EndsState)
    → WereKept lanes doors passes ports → doors' ≡ doors ++ lane.door ∷ [] → map (λ p. Some p) passes' ≡ map (λ p. Some p) passes ++ lane.pass ∷ [] → ports' ≡ ports ++ lane.ends ∷ []
    → WereKept (lanes ++ lane ∷ []) doors' passes' ports'
kept_more lanes lane doors doors' passes passes' ports ports' kept f p q = record {
  doors_are = f ∙ ap (λ xs. xs ++ lane.door ∷ []) kept.doors_are ∙ sym (map-append (λ k. k.door) lanes (lane ∷ []));
  passes_are = p ∙ ap (λ xs. xs ++ lane.pass ∷ []) kept.passes_are ∙ sym (map-append (λ k. k.pass) lanes (lane ∷ []));
  ports_are = q ∙ ap (λ xs. xs ++ lane.ends ∷ []) kept.ports_are ∙ sym (map-append (λ k. k.ends) lanes (lane ∷ []));
}

-- ---- lanes served

-- what a pass without a cycle tells
pub pass_tells : (turn : TableId) (p : PassView BusState) (pass : Option (PassView BusState)) (i : ℕ) (journal : List Entry) → Some p ≡ pass → IsThere turn pass → number_told pass ≡ i
    → own p.number journal ≡ made_by p → cycles_told pass ≡ has_made (own i journal)
pass_tells turn p pass i journal is there number mine =
    let here : p.number ≡ i = ap number_told is ∙ number in
    let rest = (subst (λ (q : Option (PassView BusState)). IsThere turn q) (sym is) there).1.2 in
    let made : made_by p ≡ own i journal = sym mine ∙ ap (λ k. own k journal) here in
    let none : (stake_by p).opened ≡ [] = ap (λ (s : Stake). s.opened) rest in
    ap cycles_told (sym is) ∙ (λ j. record { made = made j; opened = none j })

module _ {D : Type 0} (told : D → DoorState) (d : Description) (turn : TableId) (count : ℕ) (doors doors' : List D) (lanes lanes' : List (PortLane D))
    (passes : List (PassView BusState)) (ports : List EndsState) (journal : List Entry) where
  pub all_served : length lanes ≡ length doors → length lanes' ≡ length lanes → EachAt (IsAtDoor turn count doors) lanes → (s : Slave) → s ≡ port_slave d
      → PortsServed told s count lanes lanes' → All (λ l. IsThere turn l.pass) lanes' → WereKept lanes' doors' passes ports → All (λ p. own p.number journal ≡ made_by p) passes
      → (i : ℕ) (f f' : D) (p : EndsState) → i < length doors
      → ServedPort i (port_slave d) count (told (get_or doors i f)) (told (get_or doors' i f')) (has_made []) (has_made (own i journal)) (get_or ports i p)
  all_served long long' seated s slave served there kept owns i f f' p lt =
      let lt0 : i < length lanes = omega (arith, lt, long) in
      let lt1 : i < length lanes' = omega (arith, lt0, long') in
      let l = some_item lanes i lt0 in
      let old : PortLane D = get_or lanes i l in
      let new : PortLane D = get_or lanes' i l in
      let seat : IsAtDoor turn count doors i old = seated i l lt0 in
      let many : length passes ≡ length lanes' = passes_count lanes' passes kept.passes_are in
      let lt2 : i < length passes = omega (arith, lt1, many) in
      let pass = some_item passes i lt2 in
      let door : new.door ≡ get_or doors' i f' = sym (ap (λ xs. get_or xs i f') kept.doors_are ∙ get_or-map (λ k. k.door) lanes' i l f' lt1) in
      let port : new.ends ≡ get_or ports i p = sym (ap (λ xs. get_or xs i p) kept.ports_are ∙ get_or-map (λ k. k.ends) lanes' i l p lt1) in
      let tells : cycles_told new.pass ≡ has_made (own i journal) =
      pass_tells turn (get_or passes i pass) new.pass i journal (pass_at lanes' passes kept.passes_are i pass l lt2 lt1) (there i l lt1) (served.numbers i l lt0 ∙ seat.number) (owns i pass lt2) in
      subst (λ (e : EndsState). ServedPort i (port_slave d) count (told (get_or doors i f)) (told (get_or doors' i f')) (has_made []) (has_made (own i journal)) e) port
      (subst (λ (k : MasterCycles). ServedPort i (port_slave d) count (told (get_or doors i f)) (told (get_or doors' i f')) (has_made []) k new.ends) tells
      (subst (λ (k : D). ServedPort i (port_slave d) count (told (get_or doors i f)) (told k) (has_made []) (cycles_told new.pass) new.ends) door
      (subst (λ (k : D). ServedPort i (port_slave d) count (told k) (told new.door) (has_made []) (cycles_told new.pass) new.ends) (seat.door f)
      (subst (λ (k : MasterCycles). ServedPort i (port_slave d) count (told old.door) (told new.door) k (cycles_told new.pass) new.ends) seat.none
      (subst (λ (k : Slave). ServedPort i k count (told old.door) (told new.door) (cycles_told old.pass) (cycles_told new.pass) new.ends) slave
      (subst (λ (k : ℕ). ServedPort k s count (told old.door) (told new.door) (cycles_told old.pass) (cycles_told new.pass) new.ends) seat.number (served.ports i l lt0)))))))

  pub serves : (bus : BusState) → bus.core.journal ≡ journal → bus.description ≡ d
      → IsLegal (fabric_of bus.description).wiring (fabric_of bus.description).built bus.core.journal → length lanes ≡ length doors → length lanes' ≡ length lanes
      → WereKept lanes' doors' passes ports
      → ((i : ℕ) (f f' : D) (p : EndsState) → i < length doors
      → ServedPort i (port_slave d) count (told (get_or doors i f)) (told (get_or doors' i f')) (has_made []) (has_made (own i journal)) (get_or ports i p))
      → ((m : ℕ) → length doors ≤ m → own m journal ≡ []) → Serves told d count doors doors' (record { ports = ports; journal = journal })
  serves bus journal_is described legal long long' kept served others = record {
    legal = subst (λ (x : Description). IsLegal (fabric_of x).wiring (fabric_of x).built journal) described
        (subst (λ (es : List Entry). IsLegal (fabric_of bus.description).wiring (fabric_of bus.description).built es) journal_is legal);
    doors_count = ap length kept.doors_are ∙ length-map lanes' (λ k. k.door) ∙ long' ∙ long;
    ports_count = ap length kept.ports_are ∙ length-map lanes' (λ k. k.ends) ∙ long' ∙ long;
    served = served;
    others = others;
  }

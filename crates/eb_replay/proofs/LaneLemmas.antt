-- Lanes as they are made, served and taken apart.
use Rattle.std.proofs.Common.{◌≡◌, ℕ, ◌+◌, ◌<◌, ◌≤◌, List, [], ◌∷◌, ◌++◌, length, map, get_or, Some, Option, inl, inr, refl, sym, ap, ◌∙◌, subst, arith, length-append}
use Rattle.std.specs.Prelude.{All}
use Rattle.std.proofs.lemmas.List.{get_or_append_left, get_or_push, get_or_at, get_or-map, length-map, map-append}
use Rattle.std.proofs.lemmas.List.Elements.{All-cons, All-append}
use Rattle.std.proofs.lemmas.Bool.{cases_lt}
use Rattle.atomic_table.specs.Seated.{TableId}
use Rattle.eb_io.specs.Reading.{Reading}
use Rattle.eb_io.specs.Outside.{IsFresh}
use Rattle.wb_signals.specs.Cycles.{MasterCycles}
use Rattle.wb_signals.specs.History.{Entry, IsLegal, own}
use Rattle.soc_desc.specs.declared.description.Description.{Description}
use Rattle.soc_turn.specs.Views.{PassView}
use Rattle.soc_core.specs.Built.{fabric_of}
use Rattle.soc_bus.specs.View.{BusState}
use Rattle.eb_session.specs.declared.slave.Slave.{Slave}
use Rattle.eb_session.specs.Keeping.{SessionState, new_session}
use Rattle.eb_server.specs.Rooms.{HasRoom}
use Rattle.eb_server.specs.Serving.{Served}
use Rattle.eb_replay.specs.declared.lanes.LaneRoom.{LaneRoom}
use Rattle.eb_shared.specs.declared.lanes.Lane.{Lane}
use Rattle.eb_shared.specs.Shared.{number_told, cycles_told, made_by}
use Rattle.eb_shared.specs.Lanes.{IsThere, IsFreshSession}
use Rattle.eb_replay.specs.Capture.{CaptureState, IsCapture, new_capture, capture_reading, capture_writing}
use Rattle.eb_replay.specs.Ports.{PortOutcome, ServedFile}
use Rattle.eb_replay.specs.Replay.{Replays, replay_slave}
use Rattle.eb_replay.specs.Lanes.{EachAt, IsUnused, IsSeated, LanesServed, HaveEnded, port_of}
use Rattle.eb_replay.proofs.CaptureLemmas.{served_file}

-- ---- items by their places

-- one more item
pub each_more : {X : Type 0} (P : ℕ → X → Type 0) (xs : List X) (x : X) → EachAt P xs → P (length xs) x → EachAt P (xs ++ x ∷ [])
each_more P xs x each one i d lt = elim (cases_lt i (length xs)) [
  | inl below ↦ subst (λ y. P i y) (sym (get_or_append_left xs (x ∷ []) d i below)) (each i d below)
  | inr top ↦
      let long : length (xs ++ x ∷ []) ≡ length xs + length (x ∷ []) = length-append xs (x ∷ []) in
      let last : i ≡ length xs = omega (arith, lt, long, top) in
      subst (λ y. P i y) (sym (get_or_push xs x d i (sym last))) (subst (λ k. P k x) (sym last) one)
]

pub each_none : {X : Type 0} (P : ℕ → X → Type 0) → EachAt P []
each_none P i d lt = absurd (omega (arith, lt))

-- an item of a list that has one
some_item : {X : Type 0} (xs : List X) (i : ℕ) → i < length xs → X
some_item [] i lt = absurd (omega (arith, lt))
some_item (x ∷ xs) i lt = x

pub nothing_left : {X : Type 0} (xs : List X) → length xs ≡ 0 → xs ≡ []
nothing_left [] none = refl
nothing_left (x ∷ xs) none = absurd (omega (arith, none))

-- one in the middle
pub all_at : {X : Type 0} (P : X → Type 0) (xs ys : List X) (x : X) (zs : List X) → All P xs → ys ++ x ∷ zs ≡ xs → P x
all_at P xs ys x zs all whole =
    let long : length (ys ++ x ∷ zs) ≡ length ys + length (x ∷ zs) = length-append ys (x ∷ zs) in
    subst P (get_or_at ys x zs x (length ys) refl) (subst (λ l. All P l) (sym whole) all (length ys) x (omega (arith, long)))

-- those before the last, and the last
pub all_front : {X : Type 0} (P : X → Type 0) (xs : List X) (x : X) → All P (xs ++ x ∷ []) → All P xs
all_front P xs x all i d lt =
    let long : length (xs ++ x ∷ []) ≡ length xs + length (x ∷ []) = length-append xs (x ∷ []) in
    subst P (get_or_append_left xs (x ∷ []) d i lt) (all i d (omega (arith, lt, long)))

pub all_last : {X : Type 0} (P : X → Type 0) (xs : List X) (x : X) → All P (xs ++ x ∷ []) → P x
all_last P xs x all =
    let long : length (xs ++ x ∷ []) ≡ length xs + length (x ∷ []) = length-append xs (x ∷ []) in
    subst P (get_or_push xs x x (length xs) refl) (all (length xs) x (omega (arith, long)))

-- ---- lanes as they are made

pub seated_one : {F : Type 0} (turn : TableId) (s : Slave) (files yielded rest : List F) (file : F) (room : LaneRoom) (lane : Lane (CaptureState F)) (k : ℕ)
    → yielded ++ file ∷ rest ≡ files → k ≡ length yielded → lane.link ≡ new_capture file → lane.session ≡ room.session → lane.rooms ≡ room.rooms → IsUnused s room
    → IsThere turn lane.pass → number_told lane.pass ≡ k → cycles_told lane.pass ≡ record { made = []; opened = [] } → IsSeated turn s files k lane
seated_one turn s files yielded rest file room lane k all here link session rooms unused there number none = record {
  link = λ f. link ∙ ap new_capture (sym (ap (λ xs. get_or xs k f) (sym all) ∙ get_or_at yielded file rest f k (sym here)));
  session = session ∙ unused.session;
  rooms = subst HasRoom (sym rooms) unused.rooms;
  there = there;
  number = number;
  none = none;
}

pub all_there : {F : Type 0} (turn : TableId) (s : Slave) (files : List F) (lanes : List (Lane (CaptureState F))) → EachAt (IsSeated turn s files) lanes → All (λ l. IsThere turn l.pass) lanes
all_there turn s files lanes seated i d lt = (seated i d lt).there

pub all_fresh : {F : Type 0} (turn : TableId) (d : Description) (files : List F) (lanes : List (Lane (CaptureState F))) → EachAt (IsSeated turn (replay_slave d) files) lanes
    → All (λ l. IsFreshSession l.session) lanes
all_fresh turn d files lanes seated i l lt =
    let is : (get_or lanes i l).session ≡ new_session (replay_slave d) = (seated i l lt).session in
    subst (λ (q : SessionState). IsFreshSession q) (sym is) (refl, refl)

pub all_rooms : {F : Type 0} (turn : TableId) (s : Slave) (files : List F) (lanes : List (Lane (CaptureState F))) → EachAt (IsSeated turn s files) lanes → All (λ l. HasRoom l.rooms) lanes
all_rooms turn s files lanes seated i d lt = (seated i d lt).rooms

-- ---- the passes of lanes

pass_at : {F : Type 0} (lanes : List (Lane (CaptureState F))) (passes : List (PassView BusState)) → map (λ p. Some p) passes ≡ map (λ l. l.pass) lanes
    → (i : ℕ) (p : PassView BusState) (l : Lane (CaptureState F)) → i < length passes → i < length lanes → Some (get_or passes i p) ≡ (get_or lanes i l).pass
pass_at lanes passes are i p l lt lt' =
    sym (get_or-map (λ q. Some q) passes i p (Some p) lt) ∙ ap (λ xs. get_or xs i (Some p)) are ∙ get_or-map (λ k. k.pass) lanes i l (Some p) lt'

pub passes_count : {F : Type 0} (lanes : List (Lane (CaptureState F))) (passes : List (PassView BusState)) → map (λ p. Some p) passes ≡ map (λ l. l.pass) lanes → length passes ≡ length lanes
passes_count lanes passes are = sym (length-map passes (λ q. Some q)) ∙ ap length are ∙ length-map lanes (λ k. k.pass)

-- each is of the turn of its lane
pub passes_of : {F : Type 0} (turn : TableId) (lanes : List (Lane (CaptureState F))) (passes : List (PassView BusState)) → map (λ p. Some p) passes ≡ map (λ l. l.pass) lanes
    → All (λ l. IsThere turn l.pass) lanes → All (λ p. p.turn ≡ turn) passes
passes_of turn lanes passes are there i p lt =
    let count : length passes ≡ length lanes = passes_count lanes passes are in
    let lt' : i < length lanes = omega (arith, lt, count) in
    let l = some_item lanes i lt' in
    (subst (λ (q : Option (PassView BusState)). IsThere turn q) (sym (pass_at lanes passes are i p l lt lt')) (there i l lt')).1.0

-- ---- lanes taken apart

pub ended_none : {F : Type 0} (reading : F → Reading) (files : List F) (passes : List (PassView BusState)) (ports : List PortOutcome) → files ≡ [] → passes ≡ [] → ports ≡ []
    → HaveEnded reading [] files passes ports
ended_none reading files passes ports f p q = record {
  files_are = f;
  passes_are = ap (λ xs. map (λ p. Some p) xs) p;
  ports_are = q;
  kept = λ i d lt. absurd (omega (arith, lt));
}

pub ended_more : {F : Type 0} (reading : F → Reading) (lanes : List (Lane (CaptureState F))) (lane : Lane (CaptureState F)) (files files' : List F) (passes passes' : List (PassView BusState)) (ports ports' : List PortOutcome)
    → HaveEnded reading lanes files passes ports → files' ≡ files ++ lane.link.file ∷ [] → map (λ p. Some p) passes' ≡ map (λ p. Some p) passes ++ lane.pass ∷ [] → ports' ≡ ports ++ port_of lane ∷ []
    → IsCapture reading lane.link → HaveEnded reading (lanes ++ lane ∷ []) files' passes' ports'
ended_more reading lanes lane files files' passes passes' ports ports' ended f p q one = record {
  files_are = f ∙ ap (λ xs. xs ++ lane.link.file ∷ []) ended.files_are ∙ sym (map-append (λ k. k.link.file) lanes (lane ∷ []));
  passes_are = p ∙ ap (λ xs. xs ++ lane.pass ∷ []) ended.passes_are ∙ sym (map-append (λ k. k.pass) lanes (lane ∷ []));
  ports_are = q ∙ ap (λ xs. xs ++ port_of lane ∷ []) ended.ports_are ∙ sym (map-append port_of lanes (lane ∷ []));
  kept = All-append (λ k. IsCapture reading k.link) lanes (lane ∷ []) ended.kept (All-cons (λ k. IsCapture reading k.link) lane [] one (λ i d lt. absurd (omega (arith, lt))));
}

-- ---- lanes served

-- what was served is said of a new link, of the slave, and of a master that has made nothing
abbrev no_cycles : MasterCycles
no_cycles = record { made = []; opened = [] }

module _ {F : Type 0} (reading : F → Reading) (d : Description) (turn : TableId) (files files' : List F) (lanes lanes' : List (Lane (CaptureState F)))
    (passes : List (PassView BusState)) (ports : List PortOutcome) (journal : List Entry) where
  served_new : (s : Slave) (file : F) (old new : Lane (CaptureState F)) → old.link ≡ new_capture file → old.session ≡ new_session s → cycles_told old.pass ≡ no_cycles
      → Served (number_told old.pass) old.session.slave (cycles_told old.pass) (cycles_told new.pass) (capture_reading reading old.link) (capture_reading reading new.link)
      (capture_writing old.link) (capture_writing new.link) new.ending
      → Served (number_told old.pass) s no_cycles (cycles_told new.pass) (capture_reading reading (new_capture file)) (capture_reading reading new.link)
      (capture_writing (new_capture file)) (capture_writing new.link) new.ending
  served_new s file old new link session none served =
      subst (λ (k : CaptureState F). Served (number_told old.pass) s no_cycles (cycles_told new.pass) (capture_reading reading k) (capture_reading reading new.link) (capture_writing k) (capture_writing new.link) new.ending) link
      (subst (λ (c : MasterCycles). Served (number_told old.pass) s c (cycles_told new.pass) (capture_reading reading old.link) (capture_reading reading new.link) (capture_writing old.link) (capture_writing new.link) new.ending) none
      (subst (λ (q : SessionState). Served (number_told old.pass) q.slave (cycles_told old.pass) (cycles_told new.pass) (capture_reading reading old.link) (capture_reading reading new.link) (capture_writing old.link) (capture_writing new.link) new.ending) session served))

  -- the master's own part is what its lane's pass tells
  own_part : (i : ℕ) (p : PassView BusState) (lane : Lane (CaptureState F)) → Some p ≡ lane.pass → number_told lane.pass ≡ i → own p.number journal ≡ made_by p
      → (cycles_told lane.pass).made ≡ own i journal
  own_part i p lane is number mine =
      let here : p.number ≡ i = ap number_told is ∙ number in
      ap (λ q. (cycles_told q).made) (sym is) ∙ sym mine ∙ ap (λ k. own k journal) here

  pub all_served : All (λ f. IsFresh (reading f)) files → length lanes ≡ length files → length lanes' ≡ length lanes → EachAt (IsSeated turn (replay_slave d) files) lanes
      → LanesServed reading lanes lanes'
      → HaveEnded reading lanes' files' passes ports → All (λ p. own p.number journal ≡ made_by p) passes
      → (i : ℕ) (f f' : F) (p : PortOutcome) → i < length files
      → ServedFile (replay_slave d) (reading (get_or files i f)) (reading (get_or files' i f')) (own i journal) (get_or ports i p)
  all_served fresh count count' seated served ended owns i f f' p lt =
      let lt0 : i < length lanes = omega (arith, lt, count) in
      let lt1 : i < length lanes' = omega (arith, lt0, count') in
      let l = some_item lanes i lt0 in
      let old : Lane (CaptureState F) = get_or lanes i l in
      let new : Lane (CaptureState F) = get_or lanes' i l in
      let seat : IsSeated turn (replay_slave d) files i old = seated i l lt0 in
      let many : length passes ≡ length lanes' = passes_count lanes' passes ended.passes_are in
      let lt2 : i < length passes = omega (arith, lt1, many) in
      let pass = some_item passes i lt2 in
      let told = served_new (replay_slave d) (get_or files i f) old new (seat.link f) seat.session seat.none (served.streams i l lt0) in
      let one = served_file reading (replay_slave d) (get_or files i f) (fresh i f lt) new.link (ended.kept i l lt1) (number_told old.pass) (cycles_told new.pass) new.ending told in
      let file : new.link.file ≡ get_or files' i f' = sym (ap (λ xs. get_or xs i f') ended.files_are ∙ get_or-map (λ k. k.link.file) lanes' i l f' lt1) in
      let port : port_of new ≡ get_or ports i p = sym (ap (λ xs. get_or xs i p) ended.ports_are ∙ get_or-map port_of lanes' i l p lt1) in
      let mine : (cycles_told new.pass).made ≡ own i journal =
      own_part i (get_or passes i pass) new (pass_at lanes' passes ended.passes_are i pass l lt2 lt1) (served.numbers i l lt0 ∙ seat.number) (owns i pass lt2) in
      subst (λ (q : PortOutcome). ServedFile (replay_slave d) (reading (get_or files i f)) (reading (get_or files' i f')) (own i journal) q) port
      (subst (λ (es : List Entry). ServedFile (replay_slave d) (reading (get_or files i f)) (reading (get_or files' i f')) es (port_of new)) mine
      (subst (λ (k : F). ServedFile (replay_slave d) (reading (get_or files i f)) (reading k) (cycles_told new.pass).made (port_of new)) file one))

  pub replays : (bus : BusState) → bus.core.journal ≡ journal → bus.description ≡ d
      → IsLegal (fabric_of bus.description).wiring (fabric_of bus.description).built bus.core.journal → length lanes ≡ length files → length lanes' ≡ length lanes
      → HaveEnded reading lanes' files' passes ports
      → ((i : ℕ) (f f' : F) (p : PortOutcome) → i < length files → ServedFile (replay_slave d) (reading (get_or files i f)) (reading (get_or files' i f')) (own i journal) (get_or ports i p))
      → ((m : ℕ) → length files ≤ m → own m journal ≡ []) → Replays reading d files files' (record { ports = ports; journal = journal })
  replays bus journal_is described legal count count' ended served others = record {
    legal = subst (λ (x : Description). IsLegal (fabric_of x).wiring (fabric_of x).built journal) described
        (subst (λ (es : List Entry). IsLegal (fabric_of bus.description).wiring (fabric_of bus.description).built es) journal_is legal);
    files_count = ap length ended.files_are ∙ length-map lanes' (λ k. k.link.file) ∙ count' ∙ count;
    ports_count = ap length ended.ports_are ∙ length-map lanes' port_of ∙ count' ∙ count;
    served = served;
    others = others;
  }

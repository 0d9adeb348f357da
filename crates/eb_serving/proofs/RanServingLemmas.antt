-- What the result of a server says of its status.
use Rattle.std.proofs.Common.{◌≡◌, ◌≢◌, ◌⊎◌, inl, inr, ℕ, List, [], ◌∷◌, ◌++◌, Option, Some, None, Bool, true, false, Result, Ok, Err, sym, ◌∙◌, ap, subst}
use Rattle.std.specs.Prelude.{⊤}
use Rattle.std.proofs.lemmas.List.{append-nil}
use Rattle.eb_io.specs.Reading.{Reading}
use Rattle.eb_io.specs.Writing.{Writing}
use Rattle.eb_io.specs.Outside.{Outside}
use Rattle.eb_io.specs.declared.sink.WriteFault.{WriteFault}
use Rattle.soc_desc.specs.declared.description.Description.{Description}
use Rattle.eb_net.specs.Network.{Network}
use Rattle.eb_server.specs.declared.ending.Ending.{Ending}
use Rattle.eb_server.specs.declared.ending.Ending.TheVariants as ending
use Rattle.eb_ports.specs.Ends.{EndsState}
use Rattle.eb_serve.specs.Unclean.{connection_or, connections_or, unclean_door, unclean_port, this_or, first_unclean_port, ending_or, first_unclean_of}
use Rattle.eb_serve.specs.declared.unclean.Unclean.{Unclean}
use Rattle.eb_serve.specs.declared.unclean.Unclean.TheVariants as unclean
use Rattle.eb_text.specs.Lines.{status_of}
use Rattle.eb_text.specs.declared.status.Status.{Status}
use Rattle.eb_text.specs.declared.status.TheConstants.Status as status
use Rattle.eb_text.specs.declared.fault.Fault.{Fault}
use Rattle.eb_text.specs.declared.fault.Fault.TheVariants as fault
use Rattle.eb_run.specs.Files.{IsDescribed, ReadsDescription}
use Rattle.eb_run.proofs.QuietLemmas.{one_description}
use Rattle.eb_serving.specs.declared.fault.ServingFault.{ServingFault}
use Rattle.eb_serving.specs.declared.fault.ServingFault.TheVariants as serving
use Rattle.eb_serving.specs.ServingWords.{ServingAsk, ServingTask, PortsTask, PostTask, IsServingTask, IsNoServing}
use Rattle.eb_serving.specs.ServingRuns.{ServingRun, LeavesPorts, served_answer, unclean_datagram, ServesPorts, ServesPost, ServingComesTo, ServingWordsComeTo, serving_status_for, TellsServing}
use Rattle.eb_serving.specs.RanServing.{CameServing, CameServingBy, HasNoPorts, asked_for, RanServing}
use Rattle.eb_serving.specs.Deciding.{HoldsDescription, RefusesTask, AcceptsTask, ServesTask, BeganServing}
use Rattle.eb_serving.specs.Quiet.{IsQuietServing}
use Rattle.eb_serving.proofs.AskLemmas.{one_serving}
use Rattle.eb_serving.proofs.DecidingLemmas.{MayServe, DecidedServing, decided_by, may_serve, not_accepted, one_refusal}
use Rattle.eb_serving.proofs.QuietServingLemmas.{quiet_fine}
use Rattle.eb_serving.proofs.DoorLemmas.{stopped_asked}
use Rattle.eb_serving.proofs.ServingStatusLemmas.{Has, MayShare, MayTell, MayCome, Known, known, known_usage, IsOther}

-- ---- what may be told first

may_connection : (e : Ending) (rest : Option Unclean) → MayTell rest → MayTell (connection_or e rest)
may_connection ending.Clean rest may = may
may_connection (ending.Truncated n) rest may = tt
may_connection (ending.Malformed place why) rest may = tt
may_connection ending.ReadFault rest may = tt
may_connection ending.WriteFault rest may = tt
may_connection ending.TooLong rest may = tt
may_connection ending.NoMemory rest may = tt

may_connections : (endings : List Ending) (rest : Option Unclean) → MayTell rest → MayTell (connections_or endings rest)
may_connections [] rest may = may
may_connections (e ∷ endings) rest may = may_connection e (connections_or endings rest) (may_connections endings rest may)

may_door : (failed : Bool) → MayTell (unclean_door failed)
may_door true = tt
may_door false = tt

may_this : (first rest : Option Unclean) → MayTell first → MayTell rest → MayTell (this_or first rest)
may_this None rest may then_may = then_may
may_this (Some u) rest may then_may = may

may_first : (ports : List EndsState) → MayTell (first_unclean_port ports)
may_first [] = tt
may_first (ends ∷ ports) =
    may_this (unclean_port ends) (first_unclean_port ports) (may_connections ends.endings (unclean_door ends.door_failed) (may_door ends.door_failed)) (may_first ports)

may_datagram : (e : Ending) (rest : Option Ending) → MayTell (unclean_datagram rest) → MayTell (unclean_datagram (ending_or e rest))
may_datagram ending.Clean rest may = may
may_datagram (ending.Truncated n) rest may = tt
may_datagram (ending.Malformed place why) rest may = tt
may_datagram ending.ReadFault rest may = tt
may_datagram ending.WriteFault rest may = tt
may_datagram ending.TooLong rest may = tt
may_datagram ending.NoMemory rest may = tt

may_datagrams : (endings : List Ending) → MayTell (unclean_datagram (first_unclean_of endings))
may_datagrams [] = tt
may_datagrams (e ∷ endings) = may_datagram e (first_unclean_of endings) (may_datagrams endings)

may_answer : (first : Option Unclean) (wrote : Result ⊤ WriteFault) → MayTell first → MayCome (served_answer first wrote)
may_answer None (Ok done) may = tt
may_answer None (Err f) may = tt
may_answer (Some u) wrote may = may

-- ---- what a task may come to

may_describe : (octets : List ℕ) (f : Fault) → IsDescribed octets (Err f) → MayShare f
may_describe octets f (inl (d, found, is)) = cc
may_describe octets f (inr (first, found, real, is)) = let same : fault.Description first ≡ f = cc in subst MayShare same real

may_read : {F : Type 0} (reading : F → Reading) (old new : Outside F) (name : List ℕ) (f : Fault) → ReadsDescription reading old new name (Err f) → MayShare f
may_read reading old new name f (inl (inl (is, failed))) = let same : fault.ReadFault ≡ f = cc in subst MayShare same tt
may_read reading old new name f (inl (inr (is, there))) = let same : fault.NoMemory ≡ f = cc in subst MayShare same tt
may_read reading old new name f (inr (inl (is, failed))) = let same : fault.ReadFault ≡ f = cc in subst MayShare same tt
may_read reading old new name f (inr (inr (inl (is, part)))) = let same : fault.NoMemory ≡ f = cc in subst MayShare same tt
may_read reading old new name f (inr (inr (inr (octets, read, so)))) = may_describe octets f so

-- Either it may come of a task, or there are too few ports.
abbrev Comes : {F D P L : Type 0} → ServingRun F D P L → List (List ℕ) → Result (Option Unclean) ServingFault → Type 0
Comes run words r = MayCome r ⊎ ((r ≡ Err (serving.Common fault.Usage)) × HasNoPorts run words)

module _ {F D P L : Type 0} (run : ServingRun F D P L) (words : List (List ℕ)) (ask : ServingAsk) (r : Result (Option Unclean) ServingFault) where
  comes_served : (is_serving : IsServingTask words (PortsTask ask)) (d : Description) → ReadsDescription run.reading run.world run.world' ask.description (Ok d) → ServesPorts run.ports d ask r → Comes run words r
  comes_served is_serving d read (inl (is, beyond, leaves)) =
      inr (is, record { ask = ask; is_serving = is_serving; d = d; read = read; beyond = beyond; leaves = leaves })
  comes_served is_serving d read (inr (inl (enough, f, is, stops, out))) = elim stops.stopped [
    | inl failed ↦ inl (subst MayCome (sym is) (subst (λ (x : ServingFault). MayCome (Err x)) (sym failed.0) tt))
    | inr none ↦ inl (subst MayCome (sym is) (subst (λ (x : ServingFault). MayCome (Err x)) (sym none.0) tt))
  ]
  comes_served is_serving d read (inr (inr (enough, served))) = elim served.came [
    | inl none ↦ inl (subst MayCome (sym none.0) tt)
    | inr (ran, serves, tells) ↦ inl (subst MayCome (sym tells.2) (may_answer (first_unclean_port ran.ports) tells.0 (may_first ran.ports)))
  ]

  comes_ports : (is_serving : IsServingTask words (PortsTask ask)) → ServingComesTo run (PortsTask ask) r → Comes run words r
  comes_ports is_serving (inl (f, is, reads, leaves)) = inl (subst MayCome (sym is) (may_read run.reading run.world run.world' ask.description f reads))
  comes_ports is_serving (inr (d, read, serves)) = comes_served is_serving d read serves

  comes_posted : (d : Description) → ServesPost run.ports d ask r → MayCome r
  comes_posted d (inl (f, is, unmade, out)) = elim unmade [
    | inl failed ↦ subst MayCome (sym is) (subst (λ (x : ServingFault). MayCome (Err x)) (sym failed.0) tt)
    | inr none ↦ subst MayCome (sym is) (subst (λ (x : ServingFault). MayCome (Err x)) (sym none.0) tt)
  ]
  comes_posted d (inr served) = elim served.came [
    | inl none ↦ subst MayCome (sym none.0) tt
    | inr (ran, serves, tells) ↦ subst MayCome (sym tells.2) (may_answer (unclean_datagram (first_unclean_of ran.ends.endings)) tells.0 (may_datagrams ran.ends.endings))
  ]

  comes_post : ServingComesTo run (PostTask ask) r → MayCome r
  comes_post (inl (f, is, reads, leaves)) = subst MayCome (sym is) (may_read run.reading run.world run.world' ask.description f reads)
  comes_post (inr (d, read, serves)) = comes_posted d serves

comes_of : {F D P L : Type 0} (run : ServingRun F D P L) (words : List (List ℕ)) (task : ServingTask) (r : Result (Option Unclean) ServingFault) → IsServingTask words task → ServingComesTo run task r → Comes run words r
comes_of run words (PortsTask ask) r is_serving comes = comes_ports run words ask r is_serving comes
comes_of run words (PostTask ask) r is_serving comes = inl (comes_post run words ask r comes)

-- ---- what was asked for

abbrev Asks : {F D P L : Type 0} → ServingRun F D P L → ServingTask → Type 0
Asks run task = (n : ℕ) × (run.ports.net'.asked ≡ run.ports.net.asked ++ asked_for task n)

-- nothing
asked_nothing : {F D P L : Type 0} (run : ServingRun F D P L) (ask : ServingAsk) → run.ports.net' ≡ run.ports.net → Asks run (PortsTask ask)
asked_nothing run ask same = (0, ap (λ (n : Network _ _ _). n.asked) same ∙ sym (append-nil run.ports.net.asked))

asked_ports : {F D P L : Type 0} (run : ServingRun F D P L) (ask : ServingAsk) (d : Description) (r : Result (Option Unclean) ServingFault) → ServesPorts run.ports d ask r → Asks run (PortsTask ask)
asked_ports run ask d r (inl (is, beyond, leaves)) = asked_nothing run ask leaves.0
asked_ports run ask d r (inr (inl (enough, f, is, stops, out))) = stopped_asked run.ports.state run.ports.net run.ports.net' ask.port d.masters f stops
asked_ports run ask d r (inr (inr (enough, served))) =
    (d.masters, ap (λ (n : Network _ _ _). n.asked) served.net_is ∙ ap (λ (n : Network _ _ _). n.asked) served.making.net_is)

asked_nothing_more : {F D P L : Type 0} (run : ServingRun F D P L) (ask : ServingAsk) → run.ports.net' ≡ run.ports.net → Asks run (PostTask ask)
asked_nothing_more run ask same = (0, ap (λ (n : Network _ _ _). n.asked) same ∙ sym (append-nil run.ports.net.asked))

asked_post : {F D P L : Type 0} (run : ServingRun F D P L) (ask : ServingAsk) (d : Description) (r : Result (Option Unclean) ServingFault) → ServesPost run.ports d ask r → Asks run (PostTask ask)
asked_post run ask d r (inl (f, is, unmade, out)) = elim unmade [
  | inl failed ↦ (1, ap (λ (n : Network _ _ _). n.asked) failed.1.counted)
  | inr none ↦ asked_nothing_more run ask none.1
]
asked_post run ask d r (inr served) = (1, ap (λ (n : Network _ _ _). n.asked) served.net_is ∙ ap (λ (n : Network _ _ _). n.asked) served.making.made)

asked_by : {F D P L : Type 0} (run : ServingRun F D P L) (task : ServingTask) (r : Result (Option Unclean) ServingFault) → ServingComesTo run task r → Asks run task
asked_by run (PortsTask ask) r (inl (f, is, reads, leaves)) = asked_nothing run ask leaves.0
asked_by run (PortsTask ask) r (inr (d, read, serves)) = asked_ports run ask d r serves
asked_by run (PostTask ask) r (inl (f, is, reads, leaves)) = asked_nothing_more run ask leaves.0
asked_by run (PostTask ask) r (inr (d, read, serves)) = asked_post run ask d r serves

-- ---- the fields of a run

module _ {F D P L : Type 0} (run : ServingRun F D P L) (err err' : Writing) (words : List (List ℕ)) (r : Result (Option Unclean) ServingFault) (s : Status)
    (come : ServingWordsComeTo run words r) (is : s ≡ serving_status_for r) (tells : TellsServing err err' r) where
  known_usage_so : r ≡ Err (serving.Common fault.Usage) → Known (serving_status_for r).0 r
  known_usage_so same = subst (λ (x : Result (Option Unclean) ServingFault). Known (serving_status_for x).0 x) (sym same) known_usage

  known_so : Known s.0 r
  known_so = subst (λ (t : Status). Known t.0 r) (sym is) (elim come [
    | inl refused ↦ known_usage_so refused.0
    | inr (task, is_serving, comes) ↦ elim (comes_of run words task r is_serving comes) [
      | inl may ↦ known r may
      | inr few ↦ known_usage_so few.0
    ]
  ])

  -- what a status says of the result
  has : (t : Status) → s ≡ t → Has t.0 r
  has t same = subst (λ (x : Status). Has x.0 r) same known_so.0

  came : (q : Result (Option Unclean) ServingFault) → IsOther q → r ≡ q → CameServing run err err' words q
  came q other same = elim come [
    | inl refused ↦ absurd (subst IsOther (sym same ∙ refused.0) other)
    | inr (task, is_serving, comes) ↦ record {
      task = task;
      is_serving = is_serving;
      comes_to = subst (λ (x : Result (Option Unclean) ServingFault). ServingComesTo run task x) same comes;
      tells = subst (λ (x : Result (Option Unclean) ServingFault). TellsServing err err' x) same tells;
    }
  ]

  came_by : (f : ServingFault) (u : Unclean) → IsOther (Err f) → (r ≡ Err f) ⊎ (r ≡ Ok (Some u)) → CameServingBy run err err' words f u
  came_by f u other (inl same) = inl (came (Err f) other same)
  came_by f u other (inr same) = inr (came (Ok (Some u)) tt same)

  usage : s ≡ status.USAGE → (IsNoServing words × (run.world' ≡ run.world) × LeavesPorts run.ports) ⊎ HasNoPorts run words
  usage same = elim come [
    | inl refused ↦ inl (refused.1, refused.2, refused.3)
    | inr (task, is_serving, comes) ↦ elim (comes_of run words task r is_serving comes) [
      | inl may ↦ absurd (subst MayCome (has status.USAGE same) may)
      | inr few ↦ inr few.1
    ]
  ]

  no_task : IsNoServing words → s ≡ status.USAGE
  no_task none = elim come [
    | inl refused ↦ is ∙ ap serving_status_for refused.0
    | inr (task, is_serving, comes) ↦ absurd (none task is_serving)
  ]

  -- what the task of the words came to
  of_task : (task : ServingTask) → IsServingTask words task → ServingComesTo run task r
  of_task task is_serving = elim come [
    | inl refused ↦ absurd (refused.1 task is_serving)
    | inr (other, is_other, comes) ↦ subst (λ (x : ServingTask). ServingComesTo run x r) (one_serving words other task is_other is_serving) comes
  ]

  module _ (text : List ℕ) (task : ServingTask) (holds : HoldsDescription run text) (is_serving : IsServingTask words task) where
    so : DecidedServing run task text r
    so = decided_by run text holds task r (of_task task is_serving)

    none_so : r ≡ Err (serving.Common fault.NoMemory) → s ≡ status.NO_MEMORY
    none_so same = is ∙ ap serving_status_for same

    decided : (s ≡ status.NO_MEMORY) ⊎ (((f : Fault) × RefusesTask task text f × (s ≡ status_of f)) ⊎ ((d : Description) × AcceptsTask task text d × BeganServing run err err' task d s))
    decided = elim so [
      | inl none ↦ inl (none_so none.0)
      | inr (inl (f, refuses, same, leaves)) ↦ inr (inl (f, refuses, is ∙ ap serving_status_for same))
      | inr (inr (d, accepts, serves)) ↦ inr (inr (d, accepts, record { result = r; serves = serves; is = is; tells = tells }))
    ]

    refuses : (f : Fault) → RefusesTask task text f → ((s ≡ status_of f) ⊎ (s ≡ status.NO_MEMORY)) × LeavesPorts run.ports
    refuses f by = elim so [
      | inl none ↦ (inr (none_so none.0), none.1)
      | inr (inl (g, other, same, leaves)) ↦
          let one = one_refusal task text g f other by in
          (inl (is ∙ ap serving_status_for same ∙ ap status_of one), leaves)
      | inr (inr (d, accepts, serves)) ↦ absurd (not_accepted task text d f accepts by)
    ]

    began : (d : Description) → AcceptsTask task text d → ((r ≡ Err (serving.Common fault.NoMemory)) × LeavesPorts run.ports) ⊎ ServesTask run.ports task d r
    began d accepts = elim so [
      | inl none ↦ inl none
      | inr (inl (f, refuses, same, leaves)) ↦ absurd (not_accepted task text d f accepts refuses)
      | inr (inr (other, other_accepts, serves)) ↦
          inr (subst (λ (x : Description). ServesTask run.ports task x r) (one_description text other d other_accepts.0 accepts.0) serves)
    ]

    may : (d : Description) → AcceptsTask task text d → MayServe r
    may d accepts = elim (began d accepts) [
      | inl none ↦ subst MayServe (sym none.0) tt
      | inr serves ↦ may_serve run.ports task d r accepts.1 serves
    ]

    accepts : (d : Description) → AcceptsTask task text d
        → (s ≢ status.USAGE) × (s ≢ status.DESCRIPTION) × (((s ≡ status.NO_MEMORY) × LeavesPorts run.ports) ⊎ BeganServing run err err' task d s)
    accepts d by = (
      λ same. subst MayServe (has status.USAGE same) (may d by),
      λ same. subst MayServe (has status.DESCRIPTION same).1 (may d by),
      elim (began d by) [
        | inl none ↦ inl (none_so none.0, none.1)
        | inr serves ↦ inr (record { result = r; serves = serves; is = is; tells = tells })
      ],
    )

    complete : (d : Description) → AcceptsTask task text d → IsQuietServing run.ports task → (s ≡ status.OK) ⊎ (s ≡ status.NO_MEMORY)
    complete d accepts quiet = elim (began d accepts) [
      | inl none ↦ inr (none_so none.0)
      | inr serves ↦ elim (quiet_fine run.ports task d r accepts.1 serves quiet) [
        | inl well ↦ inl (is ∙ well)
        | inr none ↦ inr (is ∙ none)
      ]
    ]

  asked : (task : ServingTask) → IsServingTask words task → Asks run task
  asked task is_serving = asked_by run task r (of_task task is_serving)

  pub ran_serving : RanServing run err err' words s
  ran_serving = record {
    ok = λ same. came (Ok None) tt (has status.OK same);
    usage = usage;
    no_task = no_task;
    description = λ same. let f = has status.DESCRIPTION same in (f.0, came (Err (serving.Common (fault.Description f.0))) tt f.1);
    read_fault = λ same. came_by (serving.Common fault.ReadFault) (unclean.Connection ending.ReadFault) tt (has status.READ_FAULT same);
    write_fault = λ same. came_by (serving.Common fault.WriteFault) (unclean.Connection ending.WriteFault) tt (has status.WRITE_FAULT same);
    malformed = λ same. let f = has status.MALFORMED same in (f.0, f.1, came (Ok (Some (unclean.Connection (ending.Malformed f.0 f.1)))) tt f.2);
    truncated = λ same. let n = has status.TRUNCATED same in (n.0, came (Ok (Some (unclean.Connection (ending.Truncated n.0)))) tt n.1);
    too_long = λ same. came (Ok (Some (unclean.Connection ending.TooLong))) tt (has status.TOO_LONG same);
    door = λ same. came_by serving.Door unclean.Door tt (has status.DOOR same);
    no_memory = λ same. came_by (serving.Common fault.NoMemory) (unclean.Connection ending.NoMemory) tt (has status.NO_MEMORY same);
    listed = known_so.1;
    decided = decided;
    refuses = λ text task f holds is_serving. refuses text task holds is_serving f;
    accepts = λ text task d holds is_serving. accepts text task holds is_serving d;
    complete = λ text task d holds is_serving. complete text task holds is_serving d;
    asked = asked;
    came = record { result = r; comes_to = come; is = is; tells = tells };
  }

-- What the result of a client says of its status.
use Rattle.std.proofs.Common.{◌≡◌, ◌⊎◌, inl, inr, ℕ, List, [], ◌∷◌, ◌++◌, Result, Ok, Err, sym, ◌∙◌, ap, subst}
use Rattle.std.specs.Bool.{⊤}
use Rattle.eb_base.specs.declared.width.Width.{Width}
use Rattle.eb_io.specs.Reading.{Reading}
use Rattle.eb_io.specs.Writing.{Writing}
use Rattle.eb_io.specs.declared.sink.WriteFault.{WriteFault}
use Rattle.sdb_walk.specs.declared.found.Found.{Found}
use Rattle.sdb_walk.specs.declared.fault.WalkFault.{WalkFault}
use Rattle.sdb_walk.specs.declared.fault.WalkFault.TheVariants as walk
use Rattle.eb_host.specs.declared.op.HostAnswer.{HostAnswer}
use Rattle.eb_host.specs.declared.op.HostAnswer.TheVariants.{Done, Error}
use Rattle.eb_host.specs.declared.op.HostFault.{HostFault}
use Rattle.eb_host.specs.declared.op.HostFault.TheVariants as host
use Rattle.eb_host.specs.Exchange.{Duplex}
use Rattle.eb_net.specs.Network.{Network, link_to, asking, DialFailed}
use Rattle.eb_text.specs.declared.status.Status.{Status}
use Rattle.eb_text.specs.declared.status.TheConstants.Status as status
use Rattle.eb_text.specs.declared.fault.Fault.TheVariants as fault
use Rattle.eb_client.specs.declared.fault.ClientFault.{ClientFault}
use Rattle.eb_client.specs.declared.fault.ClientFault.TheVariants as client
use Rattle.eb_client.specs.ClientWords.{ClientTask, LsTask, ReadTask, WriteTask, IsTask, IsNoTask}
use Rattle.eb_client.specs.Asking.{ShowsAnswer, answer_ending, host_ending, output_ending}
use Rattle.eb_client.specs.Listed.{ShowsTree, walk_ending}
use Rattle.eb_client.specs.Tasks.{DoesTask}
use Rattle.eb_client.specs.RanClient.{ClientRun, dialled, TaskComesTo, ClientComesTo, client_status_for, TellsClient, CameClient, FoundNoDoor, RanClient}
use Rattle.eb_client.proofs.TaskLemmas.{one_task}
use Rattle.eb_client.proofs.ClientStatusLemmas.{Has, MayEnd, MayFail, Known, known, known_usage, known_door, IsOther, peer_other}

-- ---- what a task over a link may come to

may_host : (f : HostFault) → MayFail (host_ending f)
may_host host.LinkRead = tt
may_host host.LinkWrite = tt
may_host (host.Ended octets) = tt
may_host (host.BadReply place) = tt
may_host (host.NoCommonWidth widths) = tt
may_host (host.TooWide adr) = tt
may_host host.NoMemory = tt

may_walk : (f : WalkFault HostFault) → MayFail (walk_ending f)
may_walk (walk.BusError adr) = tt
may_walk (walk.Record at why) = tt
may_walk (walk.WrongPlace at) = tt
may_walk (walk.TooMany at) = tt
may_walk (walk.OutsideParent at) = tt
may_walk (walk.TooDeep at) = tt
may_walk (walk.Reader f) = may_host f
may_walk walk.NoMemory = tt

may_write : (wrote : Result ⊤ WriteFault) → MayEnd (output_ending wrote)
may_write (Ok done) = tt
may_write (Err f) = tt

may_answer : (place : ℕ) (answer : Result HostAnswer HostFault) → MayEnd (answer_ending place answer)
may_answer place (Ok (Done word)) = tt
may_answer place (Ok Error) = tt
may_answer place (Err f) = may_host f

module _ {O : Type 0} (writing : O → Writing) (reading : O → Reading) (out out' : O) (r : Result ⊤ ClientFault) where
  may_tree : (found : Result (List Found) (WalkFault HostFault)) → ShowsTree writing reading found out out' r → MayEnd r
  may_tree (Ok tree) (wrote, writes, is) = subst MayEnd (sym is) (may_write wrote)
  may_tree (Err f) (same, is) = subst MayEnd (sym is) (may_walk f)

  may_show : (width : Width) (place : ℕ) (answer : Result HostAnswer HostFault) → ShowsAnswer writing reading width place answer out out' r → MayEnd r
  may_show width place (Ok (Done word)) (wrote, writes, is) = subst MayEnd (sym is) (may_write wrote)
  may_show width place (Ok Error) (same, is) = subst MayEnd (sym is) tt
  may_show width place (Err f) (same, is) = subst MayEnd (sym is) (may_host f)

  may_do : (task : ClientTask) (link link' : Duplex) → DoesTask writing reading task link link' out out' r → MayEnd r
  may_do (LsTask address) link link' (found, walks, shows) = may_tree found shows
  may_do (ReadTask address place width) link link' (answer, asks, shows) = may_show width place answer shows
  may_do (WriteTask address place width value) link link' ((answer, asks, is), same) = subst MayEnd (sym is) (may_answer place answer)

-- Either a task over a link may come to it, or the dial failed.
abbrev Comes : {D P L O : Type 0} → ClientRun D P L O → ClientTask → Result ⊤ ClientFault → Type 0
Comes run task r = MayEnd r ⊎ ((r ≡ Err client.Door) × DialFailed (asking run.net (link_to (dialled task))) run.net' × (run.out' ≡ run.out))

module _ {D P L O : Type 0} (run : ClientRun D P L O) where
  comes_of : (task : ClientTask) (r : Result ⊤ ClientFault) → TaskComesTo run task r → Comes run task r
  comes_of task r (inl failed) = inr failed
  comes_of task r (inr (inl (is, same, out))) = inl (subst MayEnd (sym is) tt)
  comes_of task r (inr (inr ran)) = inl (may_do run.shown run.beside run.out run.out' r task _ _ ran.does)

  -- what was asked for
  asked_of : (task : ClientTask) (r : Result ⊤ ClientFault) (s : Status) → s ≡ client_status_for r → TaskComesTo run task r
      → (run.net'.asked ≡ run.net.asked ++ link_to (dialled task) ∷ []) ⊎ ((run.net' ≡ run.net) × (s ≡ status.NO_MEMORY))
  asked_of task r s is (inl (door, failed, out)) = inl (ap (λ (n : Network D P L). n.asked) failed.counted)
  asked_of task r s is (inr (inl (none, same, out))) = inr (same, is ∙ ap client_status_for none)
  asked_of task r s is (inr (inr ran)) = inl (ap (λ (n : Network D P L). n.asked) ran.stands)

-- ---- the fields of a run

module _ {D P L O : Type 0} (run : ClientRun D P L O) (err err' : Writing) (words : List (List ℕ)) (r : Result ⊤ ClientFault) (s : Status)
    (come : ClientComesTo run words r) (is : s ≡ client_status_for r) (tells : TellsClient err err' r) where
  known_so : Known s.0 r
  known_so = subst (λ (t : Status). Known t.0 r) (sym is) (elim come [
    | inl refused ↦ subst (λ (x : Result ⊤ ClientFault). Known (client_status_for x).0 x) (sym refused.0) known_usage
    | inr (task, is_task, comes) ↦ elim (comes_of run task r comes) [
      | inl may ↦ known r may
      | inr failed ↦ subst (λ (x : Result ⊤ ClientFault). Known (client_status_for x).0 x) (sym failed.0) known_door
    ]
  ])

  -- what a status says of the result
  has : (t : Status) → s ≡ t → Has t.0 r
  has t same = subst (λ (x : Status). Has x.0 r) same known_so.0

  came : (q : Result ⊤ ClientFault) → IsOther q → r ≡ q → CameClient run err err' words q
  came q other same = elim come [
    | inl refused ↦ absurd (subst IsOther (sym same ∙ refused.0) other)
    | inr (task, is_task, comes) ↦ record {
      task = task;
      is_task = is_task;
      comes_to = subst (λ (x : Result ⊤ ClientFault). TaskComesTo run task x) same comes;
      tells = subst (λ (x : Result ⊤ ClientFault). TellsClient err err' x) same tells;
    }
  ]

  usage : s ≡ status.USAGE → IsNoTask words × (run.net' ≡ run.net) × (run.out' ≡ run.out)
  usage same = elim come [
    | inl refused ↦ (refused.1, refused.2, refused.3)
    | inr (task, is_task, comes) ↦ elim (comes_of run task r comes) [
      | inl may ↦ absurd (subst MayEnd (has status.USAGE same) may)
      | inr failed ↦ absurd (subst IsOther (sym failed.0 ∙ has status.USAGE same) tt)
    ]
  ]

  no_task : IsNoTask words → s ≡ status.USAGE
  no_task none = elim come [
    | inl refused ↦ is ∙ ap client_status_for refused.0
    | inr (task, is_task, comes) ↦ absurd (none task is_task)
  ]

  door : s ≡ status.DOOR → FoundNoDoor run err err' words
  door same = elim come [
    | inl refused ↦ absurd (subst IsOther (sym (has status.DOOR same) ∙ refused.0) tt)
    | inr (task, is_task, comes) ↦ elim (comes_of run task r comes) [
      | inl may ↦ absurd (subst MayEnd (has status.DOOR same) may)
      | inr failed ↦ record {
        task = task;
        is_task = is_task;
        failed = failed.1;
        out_is = failed.2;
        tells = subst (λ (x : Result ⊤ ClientFault). TellsClient err err' x) failed.0 tells;
      }
    ]
  ]

  asked : (task : ClientTask) → IsTask words task
      → (run.net'.asked ≡ run.net.asked ++ link_to (dialled task) ∷ []) ⊎ ((run.net' ≡ run.net) × (s ≡ status.NO_MEMORY))
  asked task is_task = elim come [
    | inl refused ↦ absurd (refused.1 task is_task)
    | inr (other, is_other, comes) ↦
        asked_of run task r s is (subst (λ (x : ClientTask). TaskComesTo run x r) (one_task words other task is_other is_task) comes)
  ]

  pub ran_client : RanClient run err err' words s
  ran_client = record {
    ok = λ same. came (Ok tt) tt (has status.OK same);
    usage = usage;
    no_task = no_task;
    door = door;
    read_fault = λ same. came (Err (client.Common fault.ReadFault)) tt (has status.READ_FAULT same);
    write_fault = λ same. came (Err (client.Common fault.WriteFault)) tt (has status.WRITE_FAULT same);
    peer = λ same. let f = has status.PEER same in (f.0, f.1, came (Err f.0) (peer_other f.0 f.1) f.2);
    bus_error = λ same. let f = has status.BUS_ERROR same in (f.0, came (Err (client.BusError f.0)) tt f.1);
    walk = λ same. let f = has status.WALK same in (f.0, f.1, came (Err (client.Walk f.0 f.1)) tt f.2);
    no_memory = λ same. came (Err (client.Common fault.NoMemory)) tt (has status.NO_MEMORY same);
    listed = known_so.1;
    asked = asked;
    came = record { result = r; comes_to = come; is = is; tells = tells };
  }

-- A server whose doors, peers and output don't fail ends well, or for want of memory.
use Rattle.std.proofs.Common.{◌≡◌, inl, inr, ℕ, ◌+◌, ◌≤◌, List, [], ◌∷◌, ◌++◌, Option, Some, Result, Err, sym, ◌∙◌, ap, subst, arith}
use Rattle.std.specs.Prelude.{All, slice_index_or}
use Rattle.std.proofs.lemmas.List.{append_cancel_left}
use Rattle.eb_io.specs.Counts.{Rose}
use Rattle.soc_desc.specs.declared.description.Description.{Description}
use Rattle.eb_net.specs.Accepting.{DoorState}
use Rattle.eb_net.specs.Network.{Network}
use Rattle.wb_signals.specs.History.{own}
use Rattle.eb_serve.specs.Serves.{ServeState, Serves, has_made}
use Rattle.eb_serve.specs.Text.{serve_text}
use Rattle.eb_serve.specs.DatagramText.{datagrams_text}
use Rattle.eb_serve.specs.Unclean.{first_unclean_port, first_unclean_of}
use Rattle.eb_serve.specs.declared.unclean.Unclean.{Unclean}
use Rattle.eb_text.specs.declared.fault.Fault.TheVariants as fault
use Rattle.eb_serving.specs.declared.fault.ServingFault.{ServingFault}
use Rattle.eb_serving.specs.declared.fault.ServingFault.TheVariants as serving
use Rattle.eb_serving.specs.ServingWords.{ServingAsk, ServingTask, PortsTask, PostTask}
use Rattle.eb_serving.specs.Doors.{StopsAtDoor}
use Rattle.eb_serving.specs.ServingRuns.{PortRun, ServedDoors, ServedOwnPost, ServesPorts, ServesPost, unclean_datagram, serving_status_for}
use Rattle.eb_serving.specs.Deciding.{HasPorts, ServesTask}
use Rattle.eb_serving.specs.Quiet.{IsQuietDoor, IsQuietPost, IsQuietServing}
use Rattle.eb_serving.proofs.FineLemmas.{IsFirstFine, EndsFine, fine_ports, tells_fine}
use Rattle.eb_serving.proofs.QuietDoorLemmas.{quiet_port}
use Rattle.eb_serving.proofs.QuietPostLemmas.{quiet_post}

no_memory : (r : Result (Option Unclean) ServingFault) → r ≡ Err (serving.Common fault.NoMemory) → EndsFine r
no_memory r is = inr (ap serving_status_for is)

-- ports that were served at doors which are quiet
served_quiet : {D : Type 0} (told : D → DoorState) (d : Description) (count : ℕ) (doors doors' : List D) (r : ServeState) → Serves told d count doors doors' r → All (λ door. IsQuietDoor (told door)) doors'
    → IsFirstFine (first_unclean_port r.ports)
served_quiet told d count doors [] r serves quiet =
    fine_ports r.ports (λ i p lt. absurd (omega (arith, lt, serves.ports_count, serves.doors_count)))
served_quiet told d count doors (x ∷ doors') r serves quiet =
    fine_ports r.ports (λ i p lt.
    let served = serves.served i x x p (omega (arith, lt, serves.ports_count)) in
    quiet_port i count d (told (slice_index_or doors i x)) (told (slice_index_or (x ∷ doors') i x)) (has_made []) (has_made (own i r.journal)) (slice_index_or r.ports i p) served
    (quiet i x (omega (arith, lt, serves.ports_count, serves.doors_count))))

module _ {D P L : Type 0} (run : PortRun D P L) (d : Description) (ask : ServingAsk) (r : Result (Option Unclean) ServingFault) where
  stopped : (f : ServingFault) → r ≡ Err f → StopsAtDoor run.state run.net run.net' ask.port d.masters f → (Rose run.net.door_faults run.net'.door_faults → ⊥) → EndsFine r
  stopped f is stops no_door = elim stops.stopped [
    | inl failed ↦
        let before : stops.between.door_faults ≡ run.net.door_faults = ap (λ (n : Network D P L). n.door_faults) stops.made_before.net_is in
        let now : run.net'.door_faults ≡ failed.1.faults = ap (λ (n : Network D P L). n.door_faults) failed.1.counted in
        absurd (no_door (omega (arith, failed.1.rose.0, before, now), omega (arith, failed.1.rose.1, before, now)))
    | inr none ↦ no_memory r (is ∙ ap Err none.0)
  ]

  served_doors : ServedDoors run d ask r → IsQuietServing run (PortsTask ask) → EndsFine r
  served_doors served quiet = elim served.came [
    | inl none ↦ no_memory r none.0
    | inr (ran, serves, tells) ↦
        let are : run.net'.doors ≡ run.net.doors ++ served.doors = ap (λ (n : Network D P L). n.doors) served.net_is in
        let same : quiet.peers.0 ≡ served.doors = append_cancel_left run.net.doors quiet.peers.0 served.doors (sym quiet.peers.1 ∙ are) in
        let all = subst (λ (l : List D). All (λ door. IsQuietDoor (run.state door)) l) same quiet.peers.2 in
        tells_fine run.out run.out' (serve_text ran) quiet.write_faults (first_unclean_port ran.ports) r (served_quiet run.state d ask.count served.making.made served.doors ran serves all) tells
  ]

  ports_fine : ask.port + d.masters ≤ 65536 → ServesPorts run d ask r → IsQuietServing run (PortsTask ask) → EndsFine r
  ports_fine enough (inl (is, beyond, leaves)) quiet = absurd (omega (arith, enough, beyond))
  ports_fine enough (inr (inl (there, f, is, stops, out))) quiet = stopped f is stops quiet.door_faults
  ports_fine enough (inr (inr (there, served))) quiet = served_doors served quiet

  served_post : ServedOwnPost run d ask r → IsQuietServing run (PostTask ask) → EndsFine r
  served_post served quiet = elim served.came [
    | inl none ↦ no_memory r none.0
    | inr (ran, serves, tells) ↦
        let is : run.net'.post ≡ Some served.post = ap (λ (n : Network D P L). n.post) served.net_is in
        let both : Some quiet.peers.0 ≡ Some served.post = sym quiet.peers.1 ∙ is in
        let same : quiet.peers.0 ≡ served.post = cc both in
        let so = subst (λ (p : P). IsQuietPost (run.posting p)) same quiet.peers.2 in
        let fine = quiet_post 0 ask.count d (run.posting served.making.post) (run.posting served.post) (has_made []) (has_made (own 0 ran.journal)) ran.ends serves.served so in
        tells_fine run.out run.out' (datagrams_text ran) quiet.write_faults (unclean_datagram (first_unclean_of ran.ends.endings)) r fine tells
  ]

  post_fine : ServesPost run d ask r → IsQuietServing run (PostTask ask) → EndsFine r
  post_fine (inl (f, is, inl failed, out)) quiet =
      let now : run.net'.door_faults ≡ failed.1.faults = ap (λ (n : Network D P L). n.door_faults) failed.1.counted in
      absurd (quiet.door_faults (omega (arith, failed.1.rose.0, now), omega (arith, failed.1.rose.1, now)))
  post_fine (inl (f, is, inr none, out)) quiet = no_memory r (is ∙ ap Err none.0)
  post_fine (inr served) quiet = served_post served quiet

pub quiet_fine : {D P L : Type 0} (run : PortRun D P L) (task : ServingTask) (d : Description) (r : Result (Option Unclean) ServingFault) → HasPorts task d → ServesTask run task d r
    → IsQuietServing run task → EndsFine r
quiet_fine run (PortsTask ask) d r has serves quiet = ports_fine run d ask r has serves quiet
quiet_fine run (PostTask ask) d r has serves quiet = post_fine run d ask r serves quiet

-- What the octets of a description's file decide of a server.
use Rattle.std.proofs.Common.{◌≡◌, ◌⊎◌, inl, inr, ℕ, ◌+◌, ◌≤◌, List, [], ◌∷◌, ◌++◌, Option, Some, None, Result, Ok, Err, refl, sym, ◌∙◌, ap, subst, arith}
use Rattle.std.specs.Prelude.{⊤}
use Rattle.std.proofs.lemmas.List.{append_cancel_left}
use Rattle.eb_io.specs.Counts.{Rose}
use Rattle.eb_io.specs.declared.sink.WriteFault.{WriteFault}
use Rattle.soc_desc.specs.Checks.{Found}
use Rattle.soc_desc.specs.Described.{described}
use Rattle.soc_desc.specs.declared.description.Description.{Description}
use Rattle.soc_desc.specs.declared.fault.DescFault.{DescFault}
use Rattle.eb_serve.specs.Unclean.{first_unclean_port, first_unclean_of}
use Rattle.eb_serve.specs.declared.unclean.Unclean.{Unclean}
use Rattle.eb_text.specs.declared.fault.Fault.{Fault}
use Rattle.eb_text.specs.declared.fault.Fault.TheVariants as fault
use Rattle.eb_run.specs.Files.{IsDescribed, ReadToEnd, ReadsDescription}
use Rattle.eb_run.specs.Top.{HoldsOctets}
use Rattle.eb_run.proofs.QuietLemmas.{same_described, read_well, read_ill, described_so, refused_so, one_description}
use Rattle.eb_serving.specs.declared.fault.ServingFault.{ServingFault}
use Rattle.eb_serving.specs.declared.fault.ServingFault.TheVariants as serving
use Rattle.eb_serving.specs.ServingWords.{ServingAsk, ServingTask, PortsTask, PostTask}
use Rattle.eb_serving.specs.ServingRuns.{ServingRun, PortRun, LeavesPorts, served_answer, unclean_datagram, ServesPorts, ServesPost, ServingComesTo}
use Rattle.eb_serving.specs.Deciding.{HoldsDescription, HasPorts, LacksPorts, RefusesTask, AcceptsTask, ServesTask}

-- ---- what the octets are

refused_once : (text : List ℕ) (f g : DescFault) → described text ≡ Err f → described text ≡ Err g → f ≡ g
refused_once text f g x y =
    let both : ◌≡◌ {A = Found Description} (Err f) (Err g) = sym x ∙ y in
    cc

never_both : (text : List ℕ) (d : Description) (f : DescFault) → described text ≡ Ok d → described text ≡ Err f → ⊥
never_both text d f x y =
    let both : ◌≡◌ {A = Found Description} (Ok d) (Err f) = sym x ∙ y in
    cc

-- ports are enough or too few
lacks_or_has : (task : ServingTask) (d : Description) → HasPorts task d → LacksPorts task d → ⊥
lacks_or_has (PortsTask ask) d has lacks = omega (arith, has, lacks)
lacks_or_has (PostTask ask) d has lacks = lacks

-- octets refuse a task by one fault
pub one_refusal : (task : ServingTask) (text : List ℕ) (f g : Fault) → RefusesTask task text f → RefusesTask task text g → f ≡ g
one_refusal task text f g (inl x) (inl y) = x.2 ∙ ap (λ (e : DescFault). fault.Description e) (refused_once text x.0 y.0 x.1 y.1) ∙ sym y.2
one_refusal task text f g (inl x) (inr y) = absurd (never_both text y.0 x.0 y.1 x.1)
one_refusal task text f g (inr x) (inl y) = absurd (never_both text x.0 y.0 x.1 y.1)
one_refusal task text f g (inr x) (inr y) = x.3 ∙ sym y.3

-- and then they don't accept it
pub not_accepted : (task : ServingTask) (text : List ℕ) (d : Description) (f : Fault) → AcceptsTask task text d → RefusesTask task text f → ⊥
not_accepted task text d f accepts (inl x) = never_both text d x.0 accepts.0 x.1
not_accepted task text d f accepts (inr x) =
    lacks_or_has task d accepts.1 (subst (λ (o : Description). LacksPorts task o) (one_description text x.0 d x.1 accepts.0) x.2)

-- ---- what serving may come to

-- Serving a task that has its ports may end so.
abbrev pub MayServe : Result (Option Unclean) ServingFault → Type 0
MayServe (Ok first) = Unit {0}
MayServe (Err serving.Door) = Unit {0}
MayServe (Err (serving.Common fault.NoMemory)) = Unit {0}
MayServe (Err (serving.Common fault.WriteFault)) = Unit {0}
MayServe r = ⊥

may_answer : (first : Option Unclean) (wrote : Result ⊤ WriteFault) → MayServe (served_answer first wrote)
may_answer None (Ok done) = tt
may_answer None (Err f) = tt
may_answer (Some u) wrote = tt

module _ {D P L : Type 0} (run : PortRun D P L) (d : Description) (ask : ServingAsk) (r : Result (Option Unclean) ServingFault) where
  may_ports : ask.port + d.masters ≤ 65536 → ServesPorts run d ask r → MayServe r
  may_ports enough (inl (is, beyond, leaves)) = absurd (omega (arith, enough, beyond))
  may_ports enough (inr (inl (there, f, is, stops, out))) = elim stops.stopped [
    | inl failed ↦ subst MayServe (sym is) (subst (λ (x : ServingFault). MayServe (Err x)) (sym failed.0) tt)
    | inr none ↦ subst MayServe (sym is) (subst (λ (x : ServingFault). MayServe (Err x)) (sym none.0) tt)
  ]
  may_ports enough (inr (inr (there, served))) = elim served.came [
    | inl none ↦ subst MayServe (sym none.0) tt
    | inr (ran, serves, tells) ↦ subst MayServe (sym tells.2) (may_answer (first_unclean_port ran.ports) tells.0)
  ]

  may_post : ServesPost run d ask r → MayServe r
  may_post (inl (f, is, stopped, out)) = elim stopped [
    | inl failed ↦ subst MayServe (sym is) (subst (λ (x : ServingFault). MayServe (Err x)) (sym failed.0) tt)
    | inr none ↦ subst MayServe (sym is) (subst (λ (x : ServingFault). MayServe (Err x)) (sym none.0) tt)
  ]
  may_post (inr served) = elim served.came [
    | inl none ↦ subst MayServe (sym none.0) tt
    | inr (ran, serves, tells) ↦ subst MayServe (sym tells.2) (may_answer (unclean_datagram (first_unclean_of ran.ends.endings)) tells.0)
  ]

pub may_serve : {D P L : Type 0} (run : PortRun D P L) (task : ServingTask) (d : Description) (r : Result (Option Unclean) ServingFault) → HasPorts task d → ServesTask run task d r → MayServe r
may_serve run (PortsTask ask) d r has serves = may_ports run d ask r has serves
may_serve run (PostTask ask) d r has serves = may_post run d ask r serves

-- ---- what a task came to, by the octets

-- Memory was wanting, or the octets refuse the task, and neither the net nor the output was touched; or the task was begun.
abbrev pub DecidedServing : {F D P L : Type 0} → ServingRun F D P L → ServingTask → List ℕ → Result (Option Unclean) ServingFault → Type 0
DecidedServing run task text r =
    ((r ≡ Err (serving.Common fault.NoMemory)) × LeavesPorts run.ports)
    ⊎ (((f : Fault) × RefusesTask task text f × (r ≡ Err (serving.Common f)) × LeavesPorts run.ports)
    ⊎ ((d : Description) × AcceptsTask task text d × ServesTask run.ports task d r))

module _ {F D P L : Type 0} (run : ServingRun F D P L) (text : List ℕ) (holds : HoldsDescription run text) where
  the_file : (file : F) → run.world'.files ≡ run.world.files ++ file ∷ [] → holds.file ≡ file
  the_file file are =
      let same : holds.file ∷ [] ≡ file ∷ [] = append_cancel_left run.world.files (holds.file ∷ []) (file ∷ []) (sym holds.files ∙ are) in
      cc same

  no_read : (file : F) → run.world'.files ≡ run.world.files ++ file ∷ [] → Rose 0 (run.reading file).faults → ⊥
  no_read file are = subst (λ (x : F). Rose 0 (run.reading x).faults → ⊥) (the_file file are) holds.read_faults

  as_read : (name octets : List ℕ) (read : ReadToEnd run.reading run.world run.world' name octets) → described text ≡ described octets
  as_read name octets read =
      same_described run.reading run.world run.world' name octets text read (subst (λ (x : F). HoldsOctets (run.reading x) text) (the_file read.file read.read.files) holds.hold)

  found : (name : List ℕ) (d : Description) → ReadsDescription run.reading run.world run.world' name (Ok d) → described text ≡ Ok d
  found name d reads = let read = read_well run.reading run.world run.world' name IsDescribed d reads in as_read name read.0 read.1 ∙ described_so read.0 d read.2

  refused : (name : List ℕ) (f : Fault) → ReadsDescription run.reading run.world run.world' name (Err f)
      → (f ≡ fault.NoMemory) ⊎ ((first : DescFault) × (described text ≡ Err first) × (f ≡ fault.Description first))
  refused name f reads = elim (read_ill run.reading run.world run.world' name IsDescribed f holds.open_faults no_read reads) [
    | inl none ↦ inl none
    | inr (octets, read, so) ↦ let first = refused_so octets f so in inr (first.0, as_read name octets read ∙ first.1, first.2)
  ]

  unread : (task : ServingTask) (name : List ℕ) (f : Fault) (r : Result (Option Unclean) ServingFault) → r ≡ Err (serving.Common f)
      → ReadsDescription run.reading run.world run.world' name (Err f) → LeavesPorts run.ports → DecidedServing run task text r
  unread task name f r is reads leaves = elim (refused name f reads) [
    | inl none ↦ inl (is ∙ ap (λ (x : Fault). Err (serving.Common x)) none, leaves)
    | inr first ↦ inr (inl (f, inl first, is, leaves))
  ]

  by_ports : (ask : ServingAsk) (d : Description) (r : Result (Option Unclean) ServingFault) → described text ≡ Ok d → ServesPorts run.ports d ask r → DecidedServing run (PortsTask ask) text r
  by_ports ask d r so (inl (is, beyond, leaves)) = inr (inl (fault.Usage, inr (d, so, beyond, refl), is, leaves))
  by_ports ask d r so (inr (inl (enough, f, is, stops, out))) = inr (inr (d, (so, enough), inr (inl (enough, f, is, stops, out))))
  by_ports ask d r so (inr (inr (enough, served))) = inr (inr (d, (so, enough), inr (inr (enough, served))))

  pub decided_by : (task : ServingTask) (r : Result (Option Unclean) ServingFault) → ServingComesTo run task r → DecidedServing run task text r
  decided_by (PortsTask ask) r (inl (f, is, reads, leaves)) = unread (PortsTask ask) ask.description f r is reads leaves
  decided_by (PortsTask ask) r (inr (d, reads, serves)) = by_ports ask d r (found ask.description d reads) serves
  decided_by (PostTask ask) r (inl (f, is, reads, leaves)) = unread (PostTask ask) ask.description f r is reads leaves
  decided_by (PostTask ask) r (inr (d, reads, serves)) = inr (inr (d, (found ask.description d reads, tt), serves))

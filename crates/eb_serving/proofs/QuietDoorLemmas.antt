-- The connections of a quiet door end clean, or for want of memory.
use Rattle.std.proofs.Common.{◌≡◌, inl, inr, ℕ, ◌≤◌, List, [], ◌∷◌, ◌++◌, length, Option, Some, None, Bool, true, false, refl, sym, ◌∙◌, ap, subst, arith}
use Rattle.std.specs.Prelude.{All}
use Rattle.std.specs.Option.{IfSome, option_map}
use Rattle.std.specs.Io.KnownBytes.{prepend_known, append_known}
use Rattle.eb_io.specs.Counts.{Rose}
use Rattle.eb_io.specs.Reading.{Reading}
use Rattle.eb_io.specs.Writing.{Writing}
use Rattle.eb_codec.specs.Stream.{StreamItem}
use Rattle.eb_net.specs.Accepting.{Faults, Connection, Accepting, DoorState, connections, faults_at, standing_since, OpenedLink}
use Rattle.wb_signals.specs.Cycles.{MasterCycles}
use Rattle.wb_signals.specs.declared.answer.Answer.{Answer}
use Rattle.soc_desc.specs.declared.description.Description.{Description}
use Rattle.eb_session.specs.declared.slave.Slave.{Slave}
use Rattle.eb_server.specs.Serving.{WasRead, WereAnswered}
use Rattle.eb_server.specs.declared.ending.Ending.{Ending}
use Rattle.eb_server.specs.declared.ending.Ending.TheVariants as ending
use Rattle.eb_server.proofs.EndingLemmas.{one_ending}
use Rattle.eb_ports.specs.Ends.{EndsState}
use Rattle.eb_ports.specs.Connections.{WasServed, ServedStanding, ServedConnection, ServedConnections, StopsAt, ServedPort}
use Rattle.eb_serve.specs.Serves.{port_slave}
use Rattle.eb_serve.specs.Unclean.{unclean_port}
use Rattle.eb_run.proofs.QuietLemmas.{gave_of}
use Rattle.eb_serving.specs.Quiet.{IsWholeConnection, IsQuietDoor}
use Rattle.eb_serving.proofs.FineLemmas.{IsFine, AreFine, IsFirstFine, fine_of, fine_port, rose_later, raised, all_before, last_of}

-- ---- counts of faults don't fall

read_grows : (old new : Reading) (octets : List ℕ) (e : Ending) → WasRead old new octets e → old.faults ≤ new.faults
read_grows old new octets ending.Clean read = omega (arith, read.2.faults)
read_grows old new octets (ending.Truncated n) read = omega (arith, read.2.faults)
read_grows old new octets (ending.Malformed place why) read = omega (arith, read.1.faults)
read_grows old new octets ending.ReadFault read = omega (arith, read.2.faults, read.3.rose.0)
read_grows old new octets ending.WriteFault read = omega (arith, read.1.faults)
read_grows old new octets ending.TooLong read = omega (arith, read.1.faults)
read_grows old new octets ending.NoMemory read = omega (arith, read.1.faults)

write_grows : (s : Slave) (old new : Writing) (items : List StreamItem) (answers : List Answer) (e : Ending) → WereAnswered s old new items answers e → old.faults ≤ new.faults
write_grows s old new items answers ending.Clean went = omega (arith, went.faults)
write_grows s old new items answers (ending.Truncated n) went = omega (arith, went.faults)
write_grows s old new items answers (ending.Malformed place why) went = omega (arith, went.faults)
write_grows s old new items answers ending.ReadFault went = omega (arith, went.faults)
write_grows s old new items answers ending.WriteFault went = went.rose.0
write_grows s old new items answers ending.TooLong went = omega (arith, went.faults)
write_grows s old new items answers ending.NoMemory went = omega (arith, went.faults)

-- The counts of the one are at most those of the other.
abbrev Grows : DoorState → DoorState → Type 0
Grows old new = (old.reading.faults ≤ new.reading.faults) × (old.writing.faults ≤ new.writing.faults)

served_grows : (m : ℕ) (s : Slave) (old new : DoorState) (first after : MasterCycles) (e : Ending) → WasServed m s old new first after e → Grows old new
served_grows m s old new first after e (inl standing) =
    let served = standing.served in
    (read_grows old.reading new.reading served.octets e served.read, write_grows s old.writing new.writing served.items _ e served.answered)
served_grows m s old new first after e (inr refused) =
    let same = refused.door in
    (omega (arith, ap (λ (d : DoorState). d.reading.faults) same), omega (arith, ap (λ (d : DoorState). d.writing.faults) same))

connection_grows : (m : ℕ) (s : Slave) (old new : DoorState) (first after : MasterCycles) (e : Ending) → ServedConnection m s old new first after e → Grows old new
connection_grows m s old new first after e one =
    let grown = served_grows m s one.opened new first after e one.served in
    let reads = ap (λ (f : Faults). f.reads) one.accept.counts in
    let writes = ap (λ (f : Faults). f.writes) one.accept.counts in
    (omega (arith, grown.0, reads), omega (arith, grown.1, writes))

connections_grow : (m : ℕ) (s : Slave) (old new : DoorState) (first after : MasterCycles) (endings : List Ending) → ServedConnections m s old new first after endings → Grows old new
connections_grow m s old new first after [] served =
    (omega (arith, ap (λ (d : DoorState). d.reading.faults) served.0), omega (arith, ap (λ (d : DoorState). d.writing.faults) served.0))
connections_grow m s old new first after (e ∷ endings) (mid, between, one, rest) =
    let here = connection_grows m s old mid first between e one in
    let more = connections_grow m s mid new between after endings rest in
    (omega (arith, here.0, more.0), omega (arith, here.1, more.1))

-- ---- what a door tells of its connections

-- The connections that were before, and the one that stands.
record OneMore (was : Option (List Connection)) (held : List Connection) (reading : Reading) : Type 0 where
  earlier : List Connection
  last : Connection
  was_is : was ≡ Some earlier
  held_is : held ≡ earlier ++ last ∷ []
  given_is : last.given ≡ reading.given
  left_is : last.left ≡ reading.left

one_more_by : (door : DoorState) (earlier was : Option (List Connection)) (began : Option Faults) (at : Faults) (held : List Connection) → earlier ≡ was → began ≡ option_map (λ _. at) earlier
    → option_map (λ earlier. earlier ++ standing_since door began) earlier ≡ Some held → OneMore was held door.reading
one_more_by door None was began at held before began_is is = absurd (cc is)
one_more_by door (Some earlier) was began at held before began_is is =
    let last : Connection = record { given = door.reading.given; left = door.reading.left; written = door.writing.written; began = at } in
    let whole : Some (earlier ++ last ∷ []) ≡ Some held = subst (λ (b : Option Faults). option_map (λ earlier. earlier ++ standing_since door b) (Some earlier) ≡ Some held) began_is is in
    let same : earlier ++ last ∷ [] ≡ held = cc whole in
    record { earlier = earlier; last = last; was_is = sym before; held_is = sym same; given_is = refl; left_is = refl }

one_more : (old opened new : DoorState) (held : List Connection) → OpenedLink old opened → new.accepting ≡ opened.accepting → connections new ≡ Some held → OneMore (connections old) held new.reading
one_more old opened new held accept same told =
    let told_so = subst (λ (a : Accepting). option_map (λ earlier. earlier ++ standing_since new a.began) a.earlier ≡ Some held) same told in
    one_more_by new opened.accepting.earlier (connections old) opened.accepting.began (faults_at old) held accept.earlier accept.began told_so

served_accepting : (m : ℕ) (s : Slave) (old new : DoorState) (first after : MasterCycles) (e : Ending) → WasServed m s old new first after e → new.accepting ≡ old.accepting
served_accepting m s old new first after e (inl standing) = standing.accepting
served_accepting m s old new first after e (inr refused) = ap (λ (d : DoorState). d.accepting) refused.door

-- ---- one connection

all_given : (known : Option (List ℕ)) (octets given : List ℕ) → IfSome known (λ g. g ≡ []) → append_known known octets ≡ Some given → given ≡ octets
all_given None octets given none is = absurd (cc is)
all_given (Some before) octets given none is =
    let same : before ++ octets ≡ given = cc is in
    sym same ∙ ap (λ (l : List ℕ). l ++ octets) none

module _ (m : ℕ) (d : Description) (old opened new : DoorState) (first after : MasterCycles) (e : Ending) (accept : OpenedLink old opened) (c : Connection) (whole : IsWholeConnection c)
    (given_is : c.given ≡ new.reading.given) (left_is : c.left ≡ new.reading.left) (no_read : Rose 0 new.reading.faults → ⊥) (no_write : Rose 0 new.writing.faults → ⊥) where
  fine_standing : ServedStanding m (port_slave d) opened new first after e → IsFine e
  fine_standing standing =
      let served = standing.served in
      let reads : Rose opened.reading.faults new.reading.faults → ⊥ = λ rose. no_read (rose_later opened.reading.faults new.reading.faults rose) in
      let writes : Rose opened.writing.faults new.writing.faults → ⊥ = λ rose. no_write (rose_later opened.writing.faults new.writing.faults rose) in
      let gave = gave_of opened.reading new.reading served.octets e served.read reads in
      let given : whole.given ≡ served.octets = all_given opened.reading.given served.octets whole.given accept.given (sym gave.given ∙ sym given_is ∙ whole.given_is) in
      let left : opened.reading.left ≡ Some (whole.given ++ whole.left) =
      gave.next ∙ ap (λ (k : Option (List ℕ)). prepend_known served.octets k) (sym left_is ∙ whole.left_is) ∙ ap (λ (l : List ℕ). Some (l ++ whole.left)) (sym given) in
      fine_of e (one_ending m (port_slave d) first after opened.reading new.reading opened.writing new.writing e ending.Clean (whole.given ++ whole.left) served left whole.whole reads writes)

  fine_served : WasServed m (port_slave d) opened new first after e → IsFine e
  fine_served (inl standing) = fine_standing standing
  fine_served (inr refused) = fine_of e (inr refused.ending)

-- ---- all connections

-- The endings are fine, and what the door told before them is whole.
record FineSoFar (door : DoorState) (endings : List Ending) : Type 0 where
  fine : AreFine endings
  held : List Connection
  told : connections door ≡ Some held
  whole : All IsWholeConnection held

fine_connections : (m : ℕ) (d : Description) (old new : DoorState) (first after : MasterCycles) (endings : List Ending) → ServedConnections m (port_slave d) old new first after endings
    → (held : List Connection) → connections new ≡ Some held → All IsWholeConnection held → (Rose 0 new.reading.faults → ⊥) → (Rose 0 new.writing.faults → ⊥) → FineSoFar old endings
fine_connections m d old new first after [] served held told whole no_read no_write =
    record { fine = tt; held = held; told = sym (ap connections served.0) ∙ told; whole = whole }
fine_connections m d old new first after (e ∷ endings) (mid, between, one, rest) held told whole no_read no_write =
    let more = fine_connections m d mid new between after endings rest held told whole no_read no_write in
    let grown = connections_grow m (port_slave d) mid new between after endings rest in
    let reads : Rose 0 mid.reading.faults → ⊥ = λ rose. no_read (raised mid.reading.faults new.reading.faults rose grown.0) in
    let writes : Rose 0 mid.writing.faults → ⊥ = λ rose. no_write (raised mid.writing.faults new.writing.faults rose grown.1) in
    let here = one_more old one.opened mid more.held one.accept (served_accepting m (port_slave d) one.opened mid first between e one.served) more.told in
    let all = subst (λ (l : List Connection). All IsWholeConnection l) here.held_is more.whole in
    record {
      fine = (
        fine_served m d old one.opened mid first between e one.accept here.last (last_of IsWholeConnection here.earlier here.last all) here.given_is here.left_is reads writes one.served,
        more.fine,
      );
      held = here.earlier;
      told = here.was_is;
      whole = all_before IsWholeConnection here.earlier (here.last ∷ []) all;
    }

-- ---- a port

same_door : (count n : ℕ) (last new : DoorState) → StopsAt count n last new false → new ≡ last
same_door count n last new (inl stops) = stops.1
same_door count n last new (inr stops) = stops.1.same

sound_door : (count n : ℕ) (last new : DoorState) (failed : Bool) → (Rose 0 new.accepting.faults → ⊥) → StopsAt count n last new failed → failed ≡ false
sound_door count n last new true no_accept stops = absurd (no_accept (rose_later last.accepting.faults new.accepting.faults stops.1.rose))
sound_door count n last new false no_accept stops = refl

pub quiet_port : (m count : ℕ) (d : Description) (old new : DoorState) (first after : MasterCycles) (ends : EndsState) → ServedPort m (port_slave d) count old new first after ends
    → IsQuietDoor new → IsFirstFine (unclean_port ends)
quiet_port m count d old new first after ends served quiet =
    let sound = sound_door count (length ends.endings) served.last new ends.door_failed quiet.accept_faults served.stops in
    let same = same_door count (length ends.endings) served.last new (subst (λ (failed : Bool). StopsAt count (length ends.endings) served.last new failed) sound served.stops) in
    let so = subst (λ (door : DoorState). ServedConnections m (port_slave d) old door first after ends.endings) (sym same) served.connections in
    let all = fine_connections m d old new first after ends.endings so quiet.held quiet.told quiet.whole quiet.read_faults quiet.write_faults in
    fine_port ends sound all.fine

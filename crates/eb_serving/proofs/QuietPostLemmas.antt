-- The datagrams of a quiet post end clean, or for want of memory.
use Rattle.std.proofs.Common.{◌≡◌, inl, inr, ℕ, ◌≤◌, List, [], ◌∷◌, ◌++◌, Option, Some, None, refl, sym, ◌∙◌, ap, subst, arith}
use Rattle.std.specs.Prelude.{All}
use Rattle.std.specs.Option.{option_map}
use Rattle.eb_io.specs.Counts.{Rose}
use Rattle.eb_codec.specs.Stream.{StreamItem}
use Rattle.eb_net.specs.Accepting.{Faults}
use Rattle.eb_net.specs.Posting.{Datagram, Posting}
use Rattle.wb_signals.specs.Cycles.{MasterCycles}
use Rattle.soc_desc.specs.declared.description.Description.{Description}
use Rattle.eb_session.specs.declared.session.End.{End}
use Rattle.eb_session.specs.declared.session.End.TheVariants as end
use Rattle.eb_session.specs.declared.slave.Slave.{Slave}
use Rattle.eb_session.specs.Course.{EndsBy}
use Rattle.eb_session.specs.Replies.{sets_of}
use Rattle.eb_server.specs.Serving.{ending_of, EndsAs}
use Rattle.eb_server.specs.declared.ending.Ending.{Ending}
use Rattle.eb_server.specs.declared.ending.Ending.TheVariants as ending
use Rattle.eb_server.proofs.EndingLemmas.{only_ending}
use Rattle.eb_ports.specs.Ends.{EndsState, no_ends, endings_added}
use Rattle.eb_ports.specs.Datagrams.{GoesOut, WasAnswered, ServedDatagram, ServedDatagrams, ServedPost}
use Rattle.eb_serve.specs.Serves.{port_slave}
use Rattle.eb_serve.specs.Unclean.{first_unclean_of}
use Rattle.eb_serving.specs.ServingRuns.{unclean_datagram}
use Rattle.eb_serving.specs.Quiet.{IsWholeStream, IsQuietPost}
use Rattle.eb_serving.proofs.FineLemmas.{IsFine, AreFine, IsFirstFine, fine_of, fine_datagrams, rose_later, raised, all_before, last_of}

-- ---- counts of faults don't fall

-- The counts of the one are at most those of the other.
abbrev Grows : Posting → Posting → Type 0
Grows old new = (old.faults.reads ≤ new.faults.reads) × (old.faults.writes ≤ new.faults.writes)

same_grows : (old new : Posting) → new.faults ≡ old.faults → Grows old new
same_grows old new same = (omega (arith, ap (λ (f : Faults). f.reads) same), omega (arith, ap (λ (f : Faults). f.writes) same))

out_grows : (old new : Posting) (replied : List ℕ) (e : End) (ended : Ending) → GoesOut old new replied e ended → Grows old new
out_grows old new [] e ended went = same_grows old new (ap (λ (p : Posting). p.faults) went.0)
out_grows old new (o ∷ replied) e ended (inl went) = same_grows old new went.0.faults
out_grows old new (o ∷ replied) e ended (inr failed) = (omega (arith, failed.0.reads), failed.0.rose.0)

answered_grows : (m : ℕ) (s : Slave) (old new : Posting) (first after : MasterCycles) (octets : List ℕ) (ended : Ending) → WasAnswered m s old new first after octets ended → Grows old new
answered_grows m s old new first after octets ended (inl answered) = out_grows old new answered.replied answered.e ended answered.out
answered_grows m s old new first after octets ended (inr refused) = same_grows old new (ap (λ (p : Posting). p.faults) refused.posting)

datagram_grows : (m : ℕ) (s : Slave) (old new : Posting) (first after : MasterCycles) (ended : Ending) → ServedDatagram m s old new first after ended → Grows old new
datagram_grows m s old new first after ended (inl one) =
    let here = same_grows old one.mid one.received.faults in
    let more = answered_grows m s one.mid new first after one.octets ended one.answered in
    (omega (arith, here.0, more.0), omega (arith, here.1, more.1))
datagram_grows m s old new first after ended (inr missed) = (missed.failed.rose.0, omega (arith, missed.failed.writes))

datagrams_grow : (m : ℕ) (s : Slave) (old new : Posting) (first after : MasterCycles) (endings : List Ending) → ServedDatagrams m s old new first after endings → Grows old new
datagrams_grow m s old new first after [] served = same_grows old new (ap (λ (p : Posting). p.faults) served.0)
datagrams_grow m s old new first after (ended ∷ endings) (mid, between, one, rest) =
    let here = datagram_grows m s old mid first between ended one in
    let more = datagrams_grow m s mid new between after endings rest in
    (omega (arith, here.0, more.0), omega (arith, here.1, more.1))

-- ---- what a post tells of its datagrams

out_received : (old new : Posting) (replied : List ℕ) (e : End) (ended : Ending) → GoesOut old new replied e ended → new.received ≡ old.received
out_received old new [] e ended went = ap (λ (p : Posting). p.received) went.0
out_received old new (o ∷ replied) e ended (inl went) = went.0.received
out_received old new (o ∷ replied) e ended (inr failed) = failed.0.received

answered_received : (m : ℕ) (s : Slave) (old new : Posting) (first after : MasterCycles) (octets : List ℕ) (ended : Ending) → WasAnswered m s old new first after octets ended → new.received ≡ old.received
answered_received m s old new first after octets ended (inl answered) = out_received old new answered.replied answered.e ended answered.out
answered_received m s old new first after octets ended (inr refused) = ap (λ (p : Posting). p.received) refused.posting

-- The datagrams that were received before, and this one.
one_more : (was : Option (List Datagram)) (one : Datagram) (held : List Datagram) → option_map (λ before. before ++ one ∷ []) was ≡ Some held
    → (before : List Datagram) × (was ≡ Some before) × (held ≡ before ++ one ∷ [])
one_more None one held is = absurd (cc is)
one_more (Some before) one held is = let same : before ++ one ∷ [] ≡ held = cc is in (before, refl, sym same)

-- ---- one datagram

-- a session that took a whole stream ended clean, or for want of memory
fine_session : (s : Slave) (octets : List ℕ) (items : List StreamItem) (e : End) → EndsAs (sets_of s.bus) octets ending.Clean → EndsBy s octets items e → IsFine (ending_of e)
fine_session s octets items end.Clean whole ends = tt
fine_session s octets items (end.Truncated n) whole ends =
    let ends_so : EndsAs (sets_of s.bus) octets (ending.Truncated n) = (whole.0, items, ends.0, ends.3, ends.1, ends.2, ends.4) in
    let same : ending.Clean ≡ ending.Truncated n = only_ending (sets_of s.bus) octets ending.Clean (ending.Truncated n) whole ends_so in
    absurd (cc same)
fine_session s octets items (end.Malformed place why) whole ends =
    let inside = ends.2.inside in
    let ends_so : EndsAs (sets_of s.bus) octets (ending.Malformed place why) = (omega (arith, inside, whole.0), ends.2) in
    let same : ending.Clean ≡ ending.Malformed place why = only_ending (sets_of s.bus) octets ending.Clean (ending.Malformed place why) whole ends_so in
    absurd (cc same)
fine_session s octets items end.NoMemory whole ends = tt

out_ended : (old new : Posting) (replied : List ℕ) (e : End) (ended : Ending) → (Rose 0 new.faults.writes → ⊥) → GoesOut old new replied e ended → ended ≡ ending_of e
out_ended old new [] e ended no_send went = went.1
out_ended old new (o ∷ replied) e ended no_send (inl went) = went.1
out_ended old new (o ∷ replied) e ended no_send (inr failed) = absurd (no_send (rose_later old.faults.writes new.faults.writes failed.0.rose))

fine_answered : (m : ℕ) (d : Description) (old new : Posting) (first after : MasterCycles) (octets : List ℕ) (ended : Ending) → IsWholeStream octets → (Rose 0 new.faults.writes → ⊥)
    → WasAnswered m (port_slave d) old new first after octets ended → IsFine ended
fine_answered m d old new first after octets ended whole no_send (inl answered) =
    let is = out_ended old new answered.replied answered.e ended no_send answered.out in
    subst IsFine (sym is) (fine_session (port_slave d) octets answered.ran.items answered.e whole answered.ran.ended.ends)
fine_answered m d old new first after octets ended whole no_send (inr refused) = fine_of ended (inr refused.ending)

-- ---- all datagrams

-- The endings are fine, and what the post told before them is whole.
record FineSoFar (post : Posting) (endings : List Ending) : Type 0 where
  fine : AreFine endings
  held : List Datagram
  told : post.received ≡ Some held
  whole : All (λ datagram. IsWholeStream datagram.octets) held

abbrev Whole : Datagram → Type 0
Whole datagram = IsWholeStream datagram.octets

fine_one : (m : ℕ) (d : Description) (old new : Posting) (first after : MasterCycles) (ended : Ending) (held : List Datagram) → new.received ≡ Some held → All Whole held
    → (Rose 0 new.faults.reads → ⊥) → (Rose 0 new.faults.writes → ⊥) → ServedDatagram m (port_slave d) old new first after ended → FineSoFar old (ended ∷ [])
fine_one m d old new first after ended held told whole no_receive no_send (inl one) =
    let datagram : Datagram = record { octets = one.octets; at = old.faults } in
    let told_so = sym (one.received.received) ∙ sym (answered_received m (port_slave d) one.mid new first after one.octets ended one.answered) ∙ told in
    let here = one_more old.received datagram held told_so in
    let all = subst (λ (l : List Datagram). All Whole l) here.2 whole in
    record {
      fine = (fine_answered m d one.mid new first after one.octets ended (last_of Whole here.0 datagram all) no_send one.answered, tt);
      held = here.0;
      told = here.1;
      whole = all_before Whole here.0 (datagram ∷ []) all;
    }
fine_one m d old new first after ended held told whole no_receive no_send (inr missed) =
    absurd (no_receive (rose_later old.faults.reads new.faults.reads missed.failed.rose))

fine_all : (m : ℕ) (d : Description) (old new : Posting) (first after : MasterCycles) (endings : List Ending) → ServedDatagrams m (port_slave d) old new first after endings
    → (held : List Datagram) → new.received ≡ Some held → All Whole held → (Rose 0 new.faults.reads → ⊥) → (Rose 0 new.faults.writes → ⊥) → FineSoFar old endings
fine_all m d old new first after [] served held told whole no_receive no_send =
    record { fine = tt; held = held; told = sym (ap (λ (p : Posting). p.received) served.0) ∙ told; whole = whole }
fine_all m d old new first after (ended ∷ endings) (mid, between, one, rest) held told whole no_receive no_send =
    let more = fine_all m d mid new between after endings rest held told whole no_receive no_send in
    let grown = datagrams_grow m (port_slave d) mid new between after endings rest in
    let receives : Rose 0 mid.faults.reads → ⊥ = λ rose. no_receive (raised mid.faults.reads new.faults.reads rose grown.0) in
    let sends : Rose 0 mid.faults.writes → ⊥ = λ rose. no_send (raised mid.faults.writes new.faults.writes rose grown.1) in
    let here = fine_one m d old mid first between ended more.held more.told more.whole receives sends one in
    record { fine = (here.fine.0, more.fine); held = here.held; told = here.told; whole = here.whole }

-- ---- a post

by_added : (count : ℕ) (ends : EndsState) (endings : List Ending) → ends ≡ endings_added (no_ends count) endings → AreFine endings → IsFirstFine (unclean_datagram (first_unclean_of ends.endings))
by_added count ends endings added fine =
    let same : ends.endings ≡ endings = ap (λ (x : EndsState). x.endings) added in
    subst (λ (l : List Ending). IsFirstFine (unclean_datagram (first_unclean_of l))) (sym same) (fine_datagrams endings fine)

pub quiet_post : (m count : ℕ) (d : Description) (old new : Posting) (first after : MasterCycles) (ends : EndsState) → ServedPost m (port_slave d) count old new first after (no_ends count) ends
    → IsQuietPost new → IsFirstFine (unclean_datagram (first_unclean_of ends.endings))
quiet_post m count d old new first after ends (inl served) quiet =
    let same : new ≡ served.last = elim served.stops [
      | inl stops ↦ stops.1
      | inr stops ↦ stops.1.same
    ] in
    let so = subst (λ (p : Posting). ServedDatagrams m (port_slave d) old p first after served.endings) (sym same) served.datagrams in
    let all = fine_all m d old new first after served.endings so quiet.held quiet.told quiet.whole quiet.read_faults quiet.write_faults in
    by_added count ends served.endings served.added all.fine
quiet_post m count d old new first after ends (inr none) quiet = by_added count ends (ending.NoMemory ∷ []) none.added (tt, tt)

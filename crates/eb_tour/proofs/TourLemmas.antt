-- What discovery comes to over a link to a new session.
use Rattle.std.proofs.Common.{◌≡◌, inl, inr, ℕ, ◌<◌, ◌^◌, List, [], ◌∷◌, ◌++◌, map, Option, Some, None, Result, Ok, refl, sym, ap, ◌∙◌, subst, append-nil}
use Rattle.std.specs.Prelude.{MatchOption}
use Rattle.eb_base.specs.declared.width.Width.{Width}
use Rattle.eb_base.specs.declared.width.Width.TheVariants.{W32}
use Rattle.eb_codec.specs.declared.item.Header.{Header}
use Rattle.eb_codec.specs.Stream.{StreamItem, AreItems}
use Rattle.eb_io.specs.Writing.{Told, Octets}
use Rattle.wb_signals.specs.Cycles.{MasterCycles, Identity}
use Rattle.wb_signals.specs.History.{Pair, Entry, marked, requests_of, answers_of, given, IsLegal}
use Rattle.eb_session.specs.declared.slave.Slave.{Slave}
use Rattle.eb_session.specs.Cycles.{Cycles, cycles_in}
use Rattle.eb_session.specs.Course.{IsOn}
use Rattle.eb_session.specs.Replies.{sets_of, replies}
use Rattle.eb_session.proofs.EndLemmas.{runs_all}
use Rattle.sdb_walk.specs.declared.found.Found.{Found}
use Rattle.sdb_walk.specs.declared.fault.WalkFault.{WalkFault}
use Rattle.sdb_walk.specs.declared.reader.Exchange.{Exchange}
use Rattle.sdb_walk.specs.Discovery.{Discovers}
use Rattle.soc_machine.specs.Described.{described_wiring, described_contents}
use Rattle.soc_discovery.specs.Law.{read_all, addresses}
use Rattle.soc_discovery.proofs.TheLaw.{reader_discovers}
use Rattle.eb_host.specs.declared.op.HostFault.{HostFault}
use Rattle.eb_host.specs.Exchange.{Duplex, duplex}
use Rattle.eb_host.specs.Host.{HostState, ReadsRoot, header}
use Rattle.eb_host.specs.Opening.{Opened}
use Rattle.eb_loopback.specs.Joined.{LoopbackState, Serving, new_loopback, serving_of, so_far, loopback_reading, loopback_writing, IsServing, EndedIn, IsJoined, RunsUnlessFailed}
use Rattle.eb_host.specs.declared.host.Host.{Host}
use Rattle.eb_host.specs.View.{link_of, sent_header, host_state}
use Rattle.eb_reader.specs.Reader.{ReaderState, ReadsAll, HasReadWords, new_reader, began_with, told_of}
use Rattle.eb_tour.specs.Tour.{Tours}
use Rattle.eb_tour.proofs.HeardLemmas.{HasWalked, has_walked, sent_in_all}
use Rattle.eb_tour.proofs.SpelledLemmas.{asked_for, all_items, all_spelled, same_items}
use Rattle.eb_tour.proofs.AnsweredLemmas.{slave_at, groups_of, cycles_with, all_cycles, all_are}
use Rattle.eb_tour.proofs.CauseLemmas.{ended_how}

octets_same : (a b : List ℕ) → ◌≡◌ {A = Told} (Octets a) (Octets b) → a ≡ b
octets_same a b e = cc e

known_same : (a b : List ℕ) → ◌≡◌ {A = Option (List ℕ)} (Some a) (Some b) → a ≡ b
known_same a b e = cc e

none_open : (pairs : List Pair) → requests_of pairs ≡ [] → pairs ≡ []
none_open [] e = refl
none_open (p ∷ pairs) e = cc e

module _ {M K : Type 0} (identity : M → Identity K) (cycles : M → MasterCycles) (old new : LoopbackState M)
    (fresh : old ≡ new_loopback old.session old.master) (none_made : (cycles old.master).made ≡ []) (joined : IsJoined identity cycles new) (runs : RunsUnlessFailed new)
    (same_end : serving_of new ≡ serving_of old) (xs : List (Exchange HostFault)) (a : Width) (root : ℕ)
    (walked : HasWalked asked_for (duplex (loopback_reading old) (loopback_writing old)) (duplex (loopback_reading new) (loopback_writing new)) (header a W32) root xs) where
  abbrev h : Header
  h = header a W32

  abbrev heard_in_all : List ℕ
  heard_in_all = walked.probe_heard ++ (walked.header_heard ++ (walked.root_heard ++ walked.heard))

  written : new.written ≡ sent_in_all asked_for h xs
  written = octets_same new.written (old.written ++ sent_in_all asked_for h xs) walked.took.written ∙ ap (λ (l : LoopbackState M). l.written ++ sent_in_all asked_for h xs) fresh

  read : new.read ≡ heard_in_all
  read = known_same new.read (old.read ++ heard_in_all) walked.gave.given ∙ ap (λ (l : LoopbackState M). l.read ++ heard_in_all) fresh

  running : new.session.ending ≡ None
  running = runs (walked.took.faults ∙ ap (λ (l : LoopbackState M). l.faults) fresh)

  abbrev m : ℕ
  m = (identity new.first).number

  pub serving : IsServing cycles (identity new.first).number new
  serving = subst (λ (o : Option _). MatchOption o (IsServing cycles m new) (EndedIn cycles m new)) running joined.serves

  module _ (items : List StreamItem) (entries : List Entry) (on : IsOn (identity new.first).number (so_far cycles new new.written items entries) new.session (cycles new.master)) (sdb : ℕ)
      (slave : old.session.slave ≡ slave_at sdb) where
    slave_is : new.session.slave ≡ slave_at sdb
    slave_is = ap (λ (s : Serving M). s.slave) same_end ∙ slave

    bus_is : new.session.slave.bus ≡ W32
    bus_is = ap (λ (s : Slave). s.bus) slave_is

    items_are : items ≡ all_items h xs
    items_are =
        let all = (runs_all m (so_far cycles new new.written items entries) new.session (cycles new.master) on).0 in
        let here : AreItems (sets_of W32) None (sent_in_all asked_for h xs) items new.session.progress.pending =
        subst (λ (o : List ℕ). AreItems (sets_of W32) None o items new.session.progress.pending) written
        (subst (λ (w : Width). AreItems (sets_of w) None new.written items new.session.progress.pending) bus_is all) in
        same_items (sets_of W32) (sent_in_all asked_for h xs) new.session.progress.pending items (all_items h xs) here (all_spelled a xs walked.heard walked.are)

    cycles_are : cycles_in new.session.slave.bus items ≡ cycles_with (groups_of xs)
    cycles_are =
        ap (λ (w : Width). cycles_in w items) bus_is ∙ ap (λ (l : List StreamItem). cycles_in W32 l) items_are ∙ all_cycles a xs walked.heard walked.are

    whole : map marked entries ≡ groups_of xs
    whole = on.whole ∙ ap (λ (c : Cycles). c.whole) cycles_are

    closed : (cycles new.master).opened ≡ []
    closed = none_open (cycles new.master).opened (on.opened ∙ ap (λ (c : Cycles). c.opened) cycles_are)

    replied : heard_in_all ++ new.unread ≡ replies (slave_at sdb) (all_items h xs) (given entries)
    replied =
        let answers : given entries ++ answers_of (cycles new.master).opened ≡ given entries = ap (λ (p : List Pair). given entries ++ answers_of p) closed ∙ append-nil (given entries) in
        ap (λ (l : List ℕ). l ++ new.unread) (sym read) ∙ on.replied
        ∙ ap (replies new.session.slave items) answers
        ∙ ap (λ (s : Slave). replies s items (given entries)) slave_is
        ∙ ap (λ (l : List StreamItem). replies (slave_at sdb) l (given entries)) items_are

    made : (cycles new.master).made ≡ entries
    made =
        let first : new.first ≡ old.master = ap (λ (s : Serving M). s.first) same_end ∙ ap (λ (l : LoopbackState M). l.first) fresh in
        on.made ∙ ap (λ (x : M). (cycles x).made ++ entries) first ∙ ap (λ (l : List Entry). l ++ entries) none_made

    pub found_are : (wiring : _) (contents : _) → sdb < 2 ^ 64 → IsLegal wiring contents (cycles new.master).made → (root ≡ sdb) × (xs ≡ read_all wiring contents (addresses xs))
    found_are wiring contents low legal =
        let are = all_are a sdb wiring xs entries contents walked.probe_heard walked.header_heard walked.root_heard walked.heard new.unread low walked.probe_fills walked.header_fills walked.root_fills walked.are whole
        (subst (λ (l : List Entry). IsLegal wiring contents l) made legal) replied in
        (walked.root_is ∙ are.0, are.1)

pub tours : {M K : Type 0} (identity : M → Identity K) (cycles : M → MasterCycles) (old new : LoopbackState M) (opened rooted last : HostState) (root : ℕ) (told : List (Exchange HostFault))
    (result : Result (List Found) (WalkFault HostFault))
    → old ≡ new_loopback old.session old.master → (cycles old.master).made ≡ [] → IsJoined identity cycles new → RunsUnlessFailed new → serving_of new ≡ serving_of old
    → Opened asked_for (duplex (loopback_reading old) (loopback_writing old)) opened → opened.header.port ≡ W32
    → ReadsRoot opened rooted (Ok root) → ReadsAll rooted told last → last.link ≡ duplex (loopback_reading new) (loopback_writing new)
    → Discovers (Some []) (Some told) root result → Tours cycles old new result
tours {M} identity cycles old new opened rooted last root told result fresh none_made joined runs same_end is port rooting reads link discovers d accepted slave low legal =
    elim (ended_how told root result discovers) [
      | inl stopped ↦ inr stopped
      | inr words ↦
          let a : Width = opened.header.address in
          let before : Duplex = duplex (loopback_reading old) (loopback_writing old) in
          let header_is : opened.header ≡ header a W32 = is.1 ∙ ap (header a) port in
          let whole = has_walked asked_for before opened rooted last root told is rooting reads words in
          let walked : HasWalked asked_for before (duplex (loopback_reading new) (loopback_writing new)) (header a W32) root told =
          subst (λ (g : Header). HasWalked asked_for before (duplex (loopback_reading new) (loopback_writing new)) g root told) header_is
          (subst (λ (x : Duplex). HasWalked asked_for before x opened.header root told) link whole) in
          let served = serving identity cycles old new fresh none_made joined runs same_end told a root walked in
          let found = found_are identity cycles old new fresh none_made joined runs same_end told a root walked served.0 served.1 served.2 d.bus.sdb slave (described_wiring d) (described_contents d) low legal in
          let at : Discovers (Some []) (Some told) d.bus.sdb result = subst (λ (n : ℕ). Discovers (Some []) (Some told) n result) found.0 discovers in
          elim (reader_discovers HostFault d accepted [] told told result at refl found.1) [
            | inl ok ↦ inl ok
            | inr none ↦ inr (inl none)
          ]
    ]

-- The same by what each call says of its host and its link.
module _ {M K : Type 0} (identity : M → Identity K) (cycles : M → MasterCycles) (old new : LoopbackState M) (opened rooted last : Host (LoopbackState M)) (began reader : ReaderState (LoopbackState M))
    (same_opened : serving_of (link_of opened) ≡ serving_of old) (same_rooted : serving_of (link_of rooted) ≡ serving_of (link_of opened))
    (began_is : began ≡ new_reader rooted) (origin : began_with reader ≡ began_with began) (has : HasReadWords loopback_reading loopback_writing serving_of reader)
    (host_is : last ≡ reader.host) (link_is : new ≡ link_of last) where
  began_at : reader.began ≡ rooted
  began_at = origin ∙ ap (λ (r : ReaderState (LoopbackState M)). r.began) began_is

  here : new ≡ link_of reader.host
  here = link_is ∙ ap (λ (x : Host (LoopbackState M)). link_of x) host_is

  pub same_end : serving_of new ≡ serving_of old
  same_end = ap (λ (l : LoopbackState M). serving_of l) here ∙ has.same_end ∙ ap (λ (x : Host (LoopbackState M)). serving_of (link_of x)) began_at ∙ same_rooted ∙ same_opened

  pub same_identity : old ≡ new_loopback old.session old.master → IsJoined identity cycles new → identity new.master ≡ identity old.master
  same_identity fresh joined = joined.same ∙ ap (λ (s : Serving M). identity s.first) same_end ∙ ap (λ (l : LoopbackState M). identity l.first) fresh

  pub tours_by : (root : ℕ) (result : Result (List Found) (WalkFault HostFault)) → old ≡ new_loopback old.session old.master → (cycles old.master).made ≡ [] → IsJoined identity cycles new → RunsUnlessFailed new
      → Opened asked_for (duplex (loopback_reading old) (loopback_writing old)) (host_state loopback_reading loopback_writing opened) → (sent_header opened).port ≡ W32
      → ReadsRoot (host_state loopback_reading loopback_writing opened) (host_state loopback_reading loopback_writing rooted) (Ok root)
      → Discovers (told_of began) (told_of reader) root result → Tours cycles old new result
  tours_by root result fresh none_made joined runs is port rooting discovers =
      let reads : ReadsAll (host_state loopback_reading loopback_writing rooted) reader.asked (host_state loopback_reading loopback_writing reader.host) =
      subst (λ (x : Host (LoopbackState M)). ReadsAll (host_state loopback_reading loopback_writing x) reader.asked (host_state loopback_reading loopback_writing reader.host)) began_at has.reads in
      let told : Discovers (Some []) (Some reader.asked) root result =
      subst (λ (t : Option (List (Exchange HostFault))). Discovers t (Some reader.asked) root result) (ap (λ (r : ReaderState (LoopbackState M)). told_of r) began_is) discovers in
      tours identity cycles old new (host_state loopback_reading loopback_writing opened) (host_state loopback_reading loopback_writing rooted) (host_state loopback_reading loopback_writing reader.host) root reader.asked result
      fresh none_made joined runs same_end is port rooting reads (ap (λ (l : LoopbackState M). duplex (loopback_reading l) (loopback_writing l)) (sym here)) told

-- A session that is joined to a host: how it begins, what a write makes of it, and what a read does.
use Rattle.std.proofs.Common.{◌≡◌, ℕ, ◌≤◌, List, [], ◌++◌, length, take, drop, Option, Some, None, Result, Ok, Err, refl, sym, ap, ◌∙◌, subst, arith, append_assoc, take_at, take-append-drop, length-take}
use Rattle.std.specs.Prelude.{MatchOption, IfSome}
use Rattle.eb_codec.specs.Stream.{StreamItem}
use Rattle.wb_signals.specs.Cycles.{MasterCycles, Identity}
use Rattle.wb_signals.specs.History.{Entry}
use Rattle.eb_session.specs.declared.slave.Slave.{Slave}
use Rattle.eb_session.specs.declared.session.Fed.{Fed}
use Rattle.eb_session.specs.declared.session.End.{End}
use Rattle.eb_session.specs.Keeping.{SessionState, FeedsSession, Answers, Stays, new_session}
use Rattle.eb_session.specs.Course.{SoFar, IsOn, HasEnded}
use Rattle.eb_session.proofs.EndLemmas.{begins, fed_goes, fed_ends}
use Rattle.eb_loopback.specs.Joined.{LoopbackState, after_read, new_loopback, so_far, IsServing, EndedIn, Serves, IsJoined}

module _ {M K : Type 0} (identity : M → Identity K) (cycles : M → MasterCycles) where
  -- ---- a new link

  serves_new : (m : ℕ) (session : SessionState) (master : M) → session ≡ new_session session.slave → (cycles master).opened ≡ [] → Serves cycles m (new_loopback session master)
  serves_new m session master fresh closed =
      subst (λ (s : SessionState). Serves cycles m (new_loopback s master)) (sym fresh) ([], [], begins m session.slave (cycles master) closed)

  pub joined_new : (session : SessionState) (master first : M) (written read unread : List ℕ) → session ≡ new_session session.slave → (identity master).bus ≡ session.slave.bus → (cycles master).opened ≡ []
      → first ≡ master → written ≡ [] → read ≡ [] → unread ≡ []
      → IsJoined identity cycles (record { session = session; master = master; first = first; written = written; read = read; unread = unread; faults = 0 })
  joined_new session master first written read unread fresh bus closed f w r u =
      subst (λ (x : M). IsJoined identity cycles (record (new_loopback session master) { first = x; written = written; read = read; unread = unread })) (sym f)
      (subst (λ (l : List ℕ). IsJoined identity cycles (record (new_loopback session master) { written = l; read = read; unread = unread })) (sym w)
      (subst (λ (l : List ℕ). IsJoined identity cycles (record (new_loopback session master) { read = l; unread = unread })) (sym r)
      (subst (λ (l : List ℕ). IsJoined identity cycles (record (new_loopback session master) { unread = l })) (sym u)
      (record { bus = bus; same = refl; serves = serves_new (identity master).number session master fresh closed }))))

  -- ---- a write

  -- where it has ended no cycle is open
  pub closed_end : (link : LoopbackState M) → IsJoined identity cycles link → IfSome link.session.ending (λ e. (cycles link.master).opened ≡ [])
  closed_end link is = by link.session.ending is.serves where
    by : (o : Option End) → MatchOption o (IsServing cycles (identity link.first).number link) (EndedIn cycles (identity link.first).number link) → IfSome o (λ e. (cycles link.master).opened ≡ [])
    by None h = tt
    by (Some e) h = h.3.none_open

  -- what the session and the master have become by a piece of which so many octets were taken
  abbrev fed_link : LoopbackState M → SessionState → M → List ℕ → List ℕ → LoopbackState M
  fed_link link session master taken reply = record link { session = session; master = master; written = link.written ++ taken; unread = link.unread ++ reply }

  abbrev answer_ok : Fed → Result Fed End
  answer_ok fed = Ok fed

  abbrev answer_err : End → Result Fed End
  answer_err e = Err e

  was_running : (m : ℕ) (old new : SessionState) (piece : List ℕ) (before after : MasterCycles) (fed : Fed) → FeedsSession m old piece new before after (Ok fed) → old.ending ≡ None
  was_running m old new piece before after fed f = by old.ending f where
    by : (o : Option End) → MatchOption o (Answers m old piece new before after (Ok fed)) (λ e. (answer_ok fed ≡ Err e) × Stays old new before after) → o ≡ None
    by None h = refl
    by (Some e) h = let same = h.0 in absurd (cc)

  runs_now : (m : ℕ) (link : LoopbackState M) → link.session.ending ≡ None → Serves cycles m link → IsServing cycles m link
  runs_now m link is h = subst (λ (o : Option End). MatchOption o (IsServing cycles m link) (EndedIn cycles m link)) is h

  serves_fed : (m : ℕ) (link : LoopbackState M) (session : SessionState) (master : M) (piece : List ℕ) (fed : Fed) → Serves cycles m link
      → FeedsSession m link.session piece session (cycles link.master) (cycles master) (Ok fed) → session.ending ≡ None
      → Serves cycles m (fed_link link session master (take fed.taken piece) session.reply)
  serves_fed m link session master piece fed serves f running =
      let new : LoopbackState M = fed_link link session master (take fed.taken piece) session.reply in
      let on = runs_now m link (was_running m link.session session piece (cycles link.master) (cycles master) fed f) serves in
      let next = fed_goes m link.session session piece (cycles link.master) (cycles master) fed f (so_far cycles link link.written on.0 on.1) on.2 in
      let replied : (link.read ++ link.unread) ++ session.reply ≡ link.read ++ (link.unread ++ session.reply) = append_assoc link.read link.unread session.reply in
      let so : SoFar = so_far cycles new new.written next.0 next.1 in
      let course : IsOn m so session (cycles master) = subst (λ (l : List ℕ). IsOn m (record so { replied = l }) session (cycles master)) replied next.2 in
      subst (λ (o : Option End). MatchOption o (IsServing cycles m new) (EndedIn cycles m new)) (sym running) (next.0, next.1, course)

  pub joined_fed : (link : LoopbackState M) (session : SessionState) (master : M) (piece : List ℕ) (fed : Fed) → IsJoined identity cycles link
      → FeedsSession (identity link.master).number link.session piece session (cycles link.master) (cycles master) (Ok fed) → session.ending ≡ None
      → session.slave ≡ link.session.slave → identity master ≡ identity link.master
      → IsJoined identity cycles (fed_link link session master (take fed.taken piece) session.reply)
  joined_fed link session master piece fed is f running slave same = record {
    bus = ap (λ (q : Identity K). q.bus) same ∙ is.bus ∙ ap (λ (s : Slave). s.bus) (sym slave);
    same = same ∙ is.same;
    serves = serves_fed (identity link.first).number link session master piece fed is.serves
        (subst (λ (n : ℕ). FeedsSession n link.session piece session (cycles link.master) (cycles master) (Ok fed)) (ap (λ (q : Identity K). q.number) is.same) f) running;
  }

  -- the same, with what was written and is unread now
  pub joined_taken : (link : LoopbackState M) (session : SessionState) (master : M) (piece written unread : List ℕ) (fed : Fed) → IsJoined identity cycles link
      → FeedsSession (identity link.master).number link.session piece session (cycles link.master) (cycles master) (Ok fed) → session.ending ≡ None
      → session.slave ≡ link.session.slave → identity master ≡ identity link.master
      → written ≡ link.written ++ take fed.taken piece → unread ≡ link.unread ++ session.reply
      → IsJoined identity cycles (record link { session = session; master = master; written = written; unread = unread })
  joined_taken link session master piece written unread fed is f running slave same w u =
      subst (λ (l : List ℕ). IsJoined identity cycles (record link { session = session; master = master; written = l; unread = unread })) (sym w)
      (subst (λ (l : List ℕ). IsJoined identity cycles (record link { session = session; master = master; written = link.written ++ take fed.taken piece; unread = l })) (sym u)
      (joined_fed link session master piece fed is f running slave same))

  -- where the session ends in a piece, or has ended
  abbrev ended_link : LoopbackState M → SessionState → M → LoopbackState M
  ended_link link session master = record link { session = session; master = master }

  serves_ended : (m : ℕ) (link : LoopbackState M) (session : SessionState) (master : M) (piece : List ℕ) (e : End) → Serves cycles m link
      → FeedsSession m link.session piece session (cycles link.master) (cycles master) (Err e) → session.slave ≡ link.session.slave
      → Serves cycles m (ended_link link session master)
  serves_ended m link session master piece e serves f slave = by link.session.ending serves f refl where
    new : LoopbackState M
    new = ended_link link session master

    by : (o : Option End) → MatchOption o (IsServing cycles m link) (EndedIn cycles m link)
        → MatchOption o (Answers m link.session piece session (cycles link.master) (cycles master) (Err e)) (λ x. (answer_err e ≡ Err x) × Stays link.session session (cycles link.master) (cycles master))
        → link.session.ending ≡ o
        → Serves cycles m new
    by None on ends was =
        let y = fed_ends m (so_far cycles link link.written on.0 on.1) link.session session piece (cycles link.master) (cycles master) e on.2 f in
        let here : HasEnded m session.slave (so_far cycles new (link.written ++ piece) on.0 y.0) (cycles master) session.errors e = subst (λ (s : Slave). HasEnded m s (so_far cycles new (link.written ++ piece) on.0 y.0) (cycles master) session.errors e) (sym slave) y.1 in
        subst (λ (o : Option End). MatchOption o (IsServing cycles m new) (EndedIn cycles m new)) (sym ends.1.ending) (piece, on.0, y.0, here)
    by (Some x) on stays was =
        let kept = stays.1.kept in
        let ending : session.ending ≡ Some x = ap (λ (s : SessionState). s.ending) kept ∙ was in
        let so : SoFar = so_far cycles new (link.written ++ on.0) on.1 on.2 in
        let one : HasEnded m session.slave so (cycles link.master) link.session.errors x = subst (λ (s : Slave). HasEnded m s so (cycles link.master) link.session.errors x) (sym slave) on.3 in
        let two : HasEnded m session.slave so (cycles master) link.session.errors x = subst (λ (k : MasterCycles). HasEnded m session.slave so k link.session.errors x) (sym stays.1.same) one in
        let three : HasEnded m session.slave so (cycles master) session.errors x = subst (λ (k : ℕ). HasEnded m session.slave so (cycles master) k x) (sym (ap (λ (s : SessionState). s.errors) kept)) two in
        subst (λ (o : Option End). MatchOption o (IsServing cycles m new) (EndedIn cycles m new)) (sym ending) (on.0, on.1, on.2, three)

  pub joined_ended : (link : LoopbackState M) (session : SessionState) (master : M) (piece unread : List ℕ) (e : End) → IsJoined identity cycles link
      → FeedsSession (identity link.master).number link.session piece session (cycles link.master) (cycles master) (Err e)
      → session.slave ≡ link.session.slave → identity master ≡ identity link.master → unread ≡ link.unread
      → IsJoined identity cycles (record link { session = session; master = master; unread = unread })
  joined_ended link session master piece unread e is f slave same u =
      subst (λ (l : List ℕ). IsJoined identity cycles (record link { session = session; master = master; unread = l })) (sym u)
      (record {
        bus = ap (λ (q : Identity K). q.bus) same ∙ is.bus ∙ ap (λ (s : Slave). s.bus) (sym slave);
        same = same ∙ is.same;
        serves = serves_ended (identity link.first).number link session master piece e is.serves
            (subst (λ (n : ℕ). FeedsSession n link.session piece session (cycles link.master) (cycles master) (Err e)) (ap (λ (q : Identity K). q.number) is.same) f) slave;
      })

  -- how many writes failed says nothing of it
  pub joined_counted : (link : LoopbackState M) (faults : ℕ) → IsJoined identity cycles link → IsJoined identity cycles (record link { faults = faults })
  joined_counted link faults is = record { bus = is.bus; same = is.same; serves = is.serves }

  -- ---- a read

  -- the same, of all replies joined
  abbrev ServesAs : ℕ → LoopbackState M → List ℕ → Type 0
  ServesAs m link replied = MatchOption link.session.ending
      ((items : List StreamItem) × (entries : List Entry) × IsOn m (record (so_far cycles link link.written items entries) { replied = replied }) link.session (cycles link.master))
      (λ e. (piece : List ℕ) × (items : List StreamItem) × (entries : List Entry)
      × HasEnded m link.session.slave (record (so_far cycles link (link.written ++ piece) items entries) { replied = replied }) (cycles link.master) link.session.errors e)

  -- what was read and is unread stays the same together
  joined_after : (link : LoopbackState M) (n : ℕ) → IsJoined identity cycles link → IsJoined identity cycles (after_read link n)
  joined_after link n is =
      let replied : link.read ++ link.unread ≡ (link.read ++ take n link.unread) ++ drop n link.unread = ap (λ (l : List ℕ). link.read ++ l) (sym (take-append-drop n link.unread)) ∙ sym (append_assoc link.read (take n link.unread) (drop n link.unread)) in
      record {
        bus = is.bus;
        same = is.same;
        serves = subst (λ (l : List ℕ). ServesAs (identity link.first).number link l) replied is.serves;
      }

  pub joined_read : (link : LoopbackState M) (n : ℕ) (read unread : List ℕ) → IsJoined identity cycles link → read ≡ link.read ++ take n link.unread → unread ≡ drop n link.unread
      → IsJoined identity cycles (record link { read = read; unread = unread })
  joined_read link n read unread is r u = subst (λ (l : LoopbackState M). IsJoined identity cycles l) (λ i. record link { read = sym r i; unread = sym u i }) (joined_after link n is)

-- octets that were copied to the front of a room
pub copied : (n k : ℕ) (chunk from tail : List ℕ) → k ≡ n → chunk ≡ take k from → n ≤ length from → take n (chunk ++ tail) ≡ take n from
copied n k chunk from tail same is le =
    let whole : chunk ≡ take n from = is ∙ ap (λ (j : ℕ). take j from) same in
    take_at chunk tail n (omega (arith, ap length whole, length-take n from)) ∙ whole

-- How a datagram is run, item after item, and datagrams one after another.
use Rattle.std.proofs.Common.{◌≡◌, ℕ, List, [], ◌∷◌, ◌++◌, Err, Ok, refl, sym, ap, ◌∙◌, subst}
use Rattle.std.proofs.lemmas.List.{append_assoc}
use Rattle.eb_net.specs.Posting.{Posting}
use Rattle.eb_session.specs.declared.session.End.{End}
use Rattle.eb_session.specs.declared.slave.Slave.{Slave}
use Rattle.wb_signals.specs.Cycles.{MasterCycles}
use Rattle.eb_session.specs.Keeping.{SessionState, Finishes, new_session}
use Rattle.eb_session.specs.Course.{SoFar, gone_on, IsOn}
use Rattle.eb_session.proofs.EndLemmas.{begins, finish_ends}
use Rattle.eb_server.specs.declared.ending.Ending.{Ending}
use Rattle.eb_server.specs.Piece.{RunsPiece}
use Rattle.eb_ports.specs.Ends.{EndsState, endings_added}
use Rattle.eb_ports.specs.Datagrams.{RanDatagram, ServedDatagram, ServedDatagrams}

-- a session that is new when its master tells this
abbrev new_so : MasterCycles → SoFar
new_so now = record { first = now; octets = []; items = []; entries = []; replied = [] }

new_is_on : (m : ℕ) (session : SessionState) (now : MasterCycles) → session ≡ new_session session.slave → now.opened ≡ [] → IsOn m (new_so now) session now
new_is_on m session now fresh none = subst (λ (k : SessionState). IsOn m (new_so now) k now) (sym fresh) (begins m session.slave now none)

-- it ended in the datagram
pub ran_inside : (m : ℕ) (old new : SessionState) (now after : MasterCycles) (octets replied : List ℕ) (e : End) → old ≡ new_session old.slave → now.opened ≡ []
    → RunsPiece m old now octets replied new after (Err e) → RanDatagram m old.slave now after octets replied e
ran_inside m old new now after octets replied e fresh none ran =
    let x = ran.1 (new_so now) (new_is_on m old now fresh none) in
    record { items = x.0; entries = x.1; errors = new.errors; ended = x.2 }

-- it was ended after the datagram
pub ran_whole : (m n : ℕ) (old mid new : SessionState) (now between after : MasterCycles) (octets replied : List ℕ) (e : End) → n ≡ m → old ≡ new_session old.slave → now.opened ≡ [] → mid.slave ≡ old.slave
    → RunsPiece m old now octets replied mid between (Ok tt) → Finishes n mid new between after e → RanDatagram m old.slave now after octets replied e
ran_whole m n old mid new now between after octets replied e same fresh none slave ran f' =
    let f : Finishes m mid new between after e = subst (λ (k : ℕ). Finishes k mid new between after e) same f' in
    let x = ran (new_so now) (new_is_on m old now fresh none) in
    let y = finish_ends m (gone_on (new_so now) octets x.0 x.1 replied) mid new between after e x.2 f in
    subst (λ (s : Slave). RanDatagram m s now after octets replied e) slave record { items = x.0; entries = y.0; errors = new.errors; ended = y.1 }

-- one more datagram was served
pub served_more : (m : ℕ) (s : Slave) (old mid new : Posting) (first between after : MasterCycles) (endings : List Ending) (e : Ending)
    → ServedDatagrams m s old mid first between endings → ServedDatagram m s mid new between after e → ServedDatagrams m s old new first after (endings ++ e ∷ [])
served_more m s old mid new first between after [] e before one =
    (new, after, subst (λ (p : Posting). ServedDatagram m s p new first after e) before.0 (subst (λ (k : MasterCycles). ServedDatagram m s mid new k after e) before.1 one), (refl, refl))
served_more m s old mid new first between after (f ∷ endings) e before one =
    (before.0, before.1, before.2, served_more m s before.0 mid new before.1 between after endings e before.3 one)

-- one more ending was added
pub added_more : (old mid new : EndsState) (endings : List Ending) (e : Ending) → mid ≡ endings_added old endings → new ≡ endings_added mid (e ∷ []) → new ≡ endings_added old (endings ++ e ∷ [])
added_more old mid new endings e before one =
    one ∙ ap (λ (k : EndsState). endings_added k (e ∷ [])) before ∙ ap (λ (l : List Ending). record old { endings = l }) (append_assoc old.endings endings (e ∷ []))

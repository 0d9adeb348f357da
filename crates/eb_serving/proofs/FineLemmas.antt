-- Endings of which each is clean or says that memory was wanting, and what is told of them first.
use Rattle.std.proofs.Common.{◌≡◌, ◌⊎◌, inl, inr, ℕ, suc, ◌<◌, ◌≤◌, List, [], ◌∷◌, ◌++◌, length, Option, Some, None, false, Result, Ok, Err, refl, sym, ap, subst, arith}
use Rattle.std.specs.Prelude.{⊤, All, slice_index_or}
use Rattle.std.proofs.lemmas.List.Elements.{All-nil, All-cons, All-head, All-tail}
use Rattle.eb_io.specs.Counts.{Rose}
use Rattle.eb_io.specs.Writing.{Writing, WritesAll}
use Rattle.eb_io.specs.declared.sink.WriteFault.{WriteFault}
use Rattle.eb_server.specs.declared.ending.Ending.{Ending}
use Rattle.eb_server.specs.declared.ending.Ending.TheVariants as ending
use Rattle.eb_ports.specs.Ends.{EndsState}
use Rattle.eb_serve.specs.Unclean.{connection_or, connections_or, unclean_port, this_or, first_unclean_port, ending_or, first_unclean_of}
use Rattle.eb_serve.specs.declared.unclean.Unclean.{Unclean}
use Rattle.eb_serve.specs.declared.unclean.Unclean.TheVariants as unclean
use Rattle.eb_text.specs.declared.status.TheConstants.Status as status
use Rattle.eb_serving.specs.declared.fault.ServingFault.{ServingFault}
use Rattle.eb_serving.specs.ServingRuns.{served_answer, TellsServed, unclean_datagram, serving_status_for}

abbrev pub IsFine : Ending → Type 0
IsFine ending.Clean = Unit {0}
IsFine ending.NoMemory = Unit {0}
IsFine e = ⊥

abbrev pub AreFine : List Ending → Type 0
AreFine [] = Unit {0}
AreFine (e ∷ endings) = IsFine e × AreFine endings

-- Nothing is told as not clean but for want of memory.
abbrev pub IsFirstFine : Option Unclean → Type 0
IsFirstFine None = Unit {0}
IsFirstFine (Some (unclean.Connection e)) = IsFine e
IsFirstFine (Some unclean.Door) = ⊥

pub fine_of : (e : Ending) → (e ≡ ending.Clean) ⊎ (e ≡ ending.NoMemory) → IsFine e
fine_of e (inl is) = subst IsFine (sym is) tt
fine_of e (inr is) = subst IsFine (sym is) tt

fine_connection : (e : Ending) (rest : Option Unclean) → IsFine e → IsFirstFine rest → IsFirstFine (connection_or e rest)
fine_connection ending.Clean rest fine more = more
fine_connection (ending.Truncated n) rest fine more = absurd fine
fine_connection (ending.Malformed place why) rest fine more = absurd fine
fine_connection ending.ReadFault rest fine more = absurd fine
fine_connection ending.WriteFault rest fine more = absurd fine
fine_connection ending.TooLong rest fine more = absurd fine
fine_connection ending.NoMemory rest fine more = tt

fine_connections : (endings : List Ending) → AreFine endings → IsFirstFine (connections_or endings None)
fine_connections [] fine = tt
fine_connections (e ∷ endings) fine = fine_connection e (connections_or endings None) fine.0 (fine_connections endings fine.1)

-- a port whose connections are fine and whose door didn't fail
pub fine_port : (ends : EndsState) → ends.door_failed ≡ false → AreFine ends.endings → IsFirstFine (unclean_port ends)
fine_port ends sound fine = subst IsFirstFine (ap (λ (failed : _). unclean_port (record ends { door_failed = failed })) (sym sound)) (fine_connections ends.endings fine)

fine_this : (first rest : Option Unclean) → IsFirstFine first → IsFirstFine rest → IsFirstFine (this_or first rest)
fine_this None rest fine more = more
fine_this (Some u) rest fine more = fine

-- ports of which each is
pub fine_ports : (ports : List EndsState) → ((i : ℕ) (p : EndsState) → i < length ports → IsFirstFine (unclean_port (slice_index_or ports i p))) → IsFirstFine (first_unclean_port ports)
fine_ports [] each = tt
fine_ports (p ∷ ports) each =
    fine_this (unclean_port p) (first_unclean_port ports) (each 0 p (omega arith)) (fine_ports ports (λ i q lt. each (suc i) q (omega (arith, lt))))

fine_datagram : (e : Ending) (rest : Option Ending) → IsFine e → IsFirstFine (unclean_datagram rest) → IsFirstFine (unclean_datagram (ending_or e rest))
fine_datagram ending.Clean rest fine more = more
fine_datagram (ending.Truncated n) rest fine more = absurd fine
fine_datagram (ending.Malformed place why) rest fine more = absurd fine
fine_datagram ending.ReadFault rest fine more = absurd fine
fine_datagram ending.WriteFault rest fine more = absurd fine
fine_datagram ending.TooLong rest fine more = absurd fine
fine_datagram ending.NoMemory rest fine more = tt

pub fine_datagrams : (endings : List Ending) → AreFine endings → IsFirstFine (unclean_datagram (first_unclean_of endings))
fine_datagrams [] fine = tt
fine_datagrams (e ∷ endings) fine = fine_datagram e (first_unclean_of endings) fine.0 (fine_datagrams endings fine.1)

-- ---- the status

-- It ended well, or for want of memory.
abbrev pub EndsFine : Result (Option Unclean) ServingFault → Type 0
EndsFine r = (serving_status_for r ≡ status.OK) ⊎ (serving_status_for r ≡ status.NO_MEMORY)

told_fine : (first : Option Unclean) → IsFirstFine first → EndsFine (served_answer first (Ok tt))
told_fine None fine = inl refl
told_fine (Some unclean.Door) fine = absurd fine
told_fine (Some (unclean.Connection ending.Clean)) fine = inl refl
told_fine (Some (unclean.Connection (ending.Truncated n))) fine = absurd fine
told_fine (Some (unclean.Connection (ending.Malformed place why))) fine = absurd fine
told_fine (Some (unclean.Connection ending.ReadFault)) fine = absurd fine
told_fine (Some (unclean.Connection ending.WriteFault)) fine = absurd fine
told_fine (Some (unclean.Connection ending.TooLong)) fine = absurd fine
told_fine (Some (unclean.Connection ending.NoMemory)) fine = inr refl

module _ (out out' : Writing) (text : List ℕ) (no_write : Rose out.faults out'.faults → ⊥) where
  by_write : (first : Option Unclean) (wrote : Result ⊤ WriteFault) → WritesAll out out' text wrote → IsFirstFine first → EndsFine (served_answer first wrote)
  by_write first (Ok done) writes fine = told_fine first fine
  by_write first (Err f) writes fine = absurd (no_write writes.rose)

  pub tells_fine : (first : Option Unclean) (r : Result (Option Unclean) ServingFault) → IsFirstFine first → TellsServed out out' text first r → EndsFine r
  tells_fine first r fine (wrote, writes, is) = subst EndsFine (sym is) (by_write first wrote writes fine)

-- ---- counts and lists

pub rose_later : (a b : ℕ) → Rose a b → Rose 0 b
rose_later a b rose = (omega arith, omega (arith, rose.0, rose.1))

pub raised : (a b : ℕ) → Rose 0 a → a ≤ b → Rose 0 b
raised a b rose le = (omega arith, omega (arith, rose.0, rose.1, le))

module _ {X : Type 0} (P : X → Type 0) where
  pub all_before : (xs ys : List X) → All P (xs ++ ys) → All P xs
  all_before [] ys all = All-nil P
  all_before (x ∷ xs) ys all = All-cons P x xs (All-head P x (xs ++ ys) all) (all_before xs ys (All-tail P x (xs ++ ys) all))

  pub last_of : (xs : List X) (y : X) → All P (xs ++ y ∷ []) → P y
  last_of [] y all = All-head P y [] all
  last_of (x ∷ xs) y all = last_of xs y (All-tail P x (xs ++ y ∷ []) all)

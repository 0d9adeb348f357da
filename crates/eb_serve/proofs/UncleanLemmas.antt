-- The first that isn't clean, one by one.
use Rattle.std.proofs.Common.{◌≡◌, ℕ, suc, ◌+◌, ◌<◌, List, ◌∷◌, length, drop, get_or, add-one, Option, Some, None, refl, sym, ap, ◌∙◌}
use Rattle.std.proofs.Math.Seq.{drop-cons}
use Rattle.eb_server.specs.declared.ending.Ending.{Ending}
use Rattle.eb_server.specs.declared.ending.Ending.TheVariants as ending
use Rattle.eb_ports.specs.Ends.{EndsState}
use Rattle.eb_serve.specs.declared.unclean.Unclean.{Unclean}
use Rattle.eb_serve.specs.declared.unclean.Unclean.TheVariants as unclean
use Rattle.eb_serve.specs.Unclean.{connection_or, connections_or, unclean_port, this_or, first_unclean_port, ending_or, first_unclean_of}

ahead : {X : Type 0} (xs : List X) (i : ℕ) (x : X) → i < length xs → x ≡ get_or xs i x → drop i xs ≡ x ∷ drop (i + 1) xs
ahead {X = X} xs i x lt is = rw add-one (drop-cons xs i x lt ∙ ap (λ (y : X). y ∷ drop (suc i) xs) (sym is))

unclean_here : (e : Ending) (rest : Option Unclean) → (e ≡ ending.Clean → ⊥) → connection_or e rest ≡ Some (unclean.Connection e)
unclean_here ending.Clean rest not = absurd (not refl)
unclean_here (ending.Truncated n) rest not = refl
unclean_here (ending.Malformed p why) rest not = refl
unclean_here ending.ReadFault rest not = refl
unclean_here ending.WriteFault rest not = refl
unclean_here ending.TooLong rest not = refl
unclean_here ending.NoMemory rest not = refl

-- a connection that is clean, and one that isn't
pub clean_one : (xs : List Ending) (rest : Option Unclean) (i : ℕ) (e : Ending) → i < length xs → e ≡ get_or xs i e → e ≡ ending.Clean → connections_or (drop i xs) rest ≡ connections_or (drop (i + 1) xs) rest
clean_one xs rest i e lt is clean = ap (λ (l : List Ending). connections_or l rest) (ahead xs i e lt is) ∙ ap (λ (x : Ending). connection_or x (connections_or (drop (i + 1) xs) rest)) clean

pub unclean_one : (xs : List Ending) (rest : Option Unclean) (i : ℕ) (e : Ending) → i < length xs → e ≡ get_or xs i e → (e ≡ ending.Clean → ⊥) → connections_or (drop i xs) rest ≡ Some (unclean.Connection e)
unclean_one xs rest i e lt is not = ap (λ (l : List Ending). connections_or l rest) (ahead xs i e lt is) ∙ unclean_here e (connections_or (drop (i + 1) xs) rest) not

-- a port that has none, and one that has
pub clean_port : (xs : List EndsState) (i : ℕ) (x : EndsState) → i < length xs → x ≡ get_or xs i x → unclean_port x ≡ None → first_unclean_port (drop i xs) ≡ first_unclean_port (drop (i + 1) xs)
clean_port xs i x lt is none = ap first_unclean_port (ahead xs i x lt is) ∙ ap (λ (o : Option Unclean). this_or o (first_unclean_port (drop (i + 1) xs))) none

pub unclean_first : (xs : List EndsState) (i : ℕ) (x : EndsState) (u : Unclean) → i < length xs → x ≡ get_or xs i x → unclean_port x ≡ Some u → first_unclean_port (drop i xs) ≡ Some u
unclean_first xs i x u lt is some = ap first_unclean_port (ahead xs i x lt is) ∙ ap (λ (o : Option Unclean). this_or o (first_unclean_port (drop (i + 1) xs))) some

-- ---- datagrams

ending_here : (e : Ending) (rest : Option Ending) → (e ≡ ending.Clean → ⊥) → ending_or e rest ≡ Some e
ending_here ending.Clean rest not = absurd (not refl)
ending_here (ending.Truncated n) rest not = refl
ending_here (ending.Malformed p why) rest not = refl
ending_here ending.ReadFault rest not = refl
ending_here ending.WriteFault rest not = refl
ending_here ending.TooLong rest not = refl
ending_here ending.NoMemory rest not = refl

pub clean_datagram : (xs : List Ending) (i : ℕ) (e : Ending) → i < length xs → e ≡ get_or xs i e → e ≡ ending.Clean → first_unclean_of (drop i xs) ≡ first_unclean_of (drop (i + 1) xs)
clean_datagram xs i e lt is clean = ap first_unclean_of (ahead xs i e lt is) ∙ ap (λ (x : Ending). ending_or x (first_unclean_of (drop (i + 1) xs))) clean

pub unclean_datagram : (xs : List Ending) (i : ℕ) (e : Ending) → i < length xs → e ≡ get_or xs i e → (e ≡ ending.Clean → ⊥) → first_unclean_of (drop i xs) ≡ Some e
unclean_datagram xs i e lt is not = ap first_unclean_of (ahead xs i e lt is) ∙ ending_here e (first_unclean_of (drop (i + 1) xs)) not

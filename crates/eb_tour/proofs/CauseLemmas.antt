-- A walk that did not end by a cause of its reader met none.
use Rattle.std.proofs.Common.{◌≡◌, ◌⊎◌, inl, inr, ℕ, List, [], ◌∷◌, Option, Some, Result, Ok, Err, refl, sym, ap, ◌∙◌, subst}
use Rattle.sdb_walk.specs.declared.found.Found.{Found}
use Rattle.sdb_walk.specs.declared.fault.WalkFault.{WalkFault}
use Rattle.sdb_walk.specs.declared.fault.WalkFault.TheVariants as fault
use Rattle.sdb_walk.specs.declared.reader.NoWord.TheVariants as no_word
use Rattle.sdb_walk.specs.declared.reader.Exchange.{Exchange}
use Rattle.sdb_walk.specs.Told.{Word, with_exchanges}
use Rattle.sdb_walk.specs.Walk.{Walk, Reads, Ended, answered, after, exchanges, begins}
use Rattle.sdb_walk.specs.Discovery.{Discovers}
use Rattle.eb_host.specs.declared.op.HostFault.{HostFault}
use Rattle.eb_tour.proofs.HeardLemmas.{AreWords}

abbrev Answer : Type 0
Answer = Result (List Found) (WalkFault HostFault)

stays_ended : (r : Answer) (words : List (Word HostFault)) → after (Ended r) words ≡ Ended r
stays_ended r [] = refl
stays_ended r (word ∷ words) = stays_ended r words

one_end : (r s : Answer) → ◌≡◌ {A = Walk HostFault} (Ended r) (Ended s) → r ≡ s
one_end r s e = cc e

are_words : (walk : Walk HostFault) (words : List (Word HostFault)) (r : Answer) → after walk words ≡ Ended r → ((f : HostFault) → r ≡ Err (fault.Reader f) → ⊥) → AreWords (exchanges walk words)
are_words walk [] r e fine = tt
are_words (Reads visit read visits begun tree) (Ok word ∷ words) r e fine = (tt, are_words (answered (Reads visit read visits begun tree) (Ok word)) words r e fine)
are_words (Reads visit read visits begun tree) (Err no_word.BusError ∷ words) r e fine = (tt, are_words (answered (Reads visit read visits begun tree) (Err no_word.BusError)) words r e fine)
are_words (Reads visit read visits begun tree) (Err (no_word.Cause f) ∷ words) r e fine =
    absurd (fine f (one_end r (Err (fault.Reader f)) (sym e ∙ stays_ended (Err (fault.Reader f)) words)))
are_words (Ended result) (word ∷ words) r e fine = tt

-- there was no memory, or the reader answered a cause
abbrev pub IsStopped : Answer → Type 0
IsStopped result = (result ≡ Err fault.NoMemory) ⊎ ((f : HostFault) × (result ≡ Err (fault.Reader f)))

same_told : (xs ys : List (Exchange HostFault)) → ◌≡◌ {A = Option (List (Exchange HostFault))} (Some xs) (Some ys) → xs ≡ ys
same_told xs ys e = cc e

reached : (told : List (Exchange HostFault)) (root : ℕ) (r : Answer) (words : List (Word HostFault)) → Some told ≡ with_exchanges (Some []) (exchanges (begins root) words) → after (begins root) words ≡ Ended r
    → ((f : HostFault) → r ≡ Err (fault.Reader f) → ⊥) → AreWords told
reached told root r words is e fine = subst AreWords (sym (same_told told (exchanges (begins root) words) is)) (are_words (begins root) words r e fine)

no_reader : (f : WalkFault HostFault) → ((g : HostFault) × (f ≡ fault.Reader g)) ⊎ ((g : HostFault) → ◌≡◌ {A = Answer} (Err f) (Err (fault.Reader g)) → ⊥)
no_reader (fault.Reader g) = inl (g, refl)
no_reader (fault.BusError adr) = inr (λ g e. cc e)
no_reader (fault.Record adr why) = inr (λ g e. cc e)
no_reader (fault.WrongPlace adr) = inr (λ g e. cc e)
no_reader (fault.TooMany adr) = inr (λ g e. cc e)
no_reader (fault.OutsideParent adr) = inr (λ g e. cc e)
no_reader (fault.TooDeep adr) = inr (λ g e. cc e)
no_reader fault.NoMemory = inr (λ g e. cc e)

pub ended_how : (told : List (Exchange HostFault)) (root : ℕ) (result : Answer) → Discovers (Some []) (Some told) root result → IsStopped result ⊎ AreWords told
ended_how told root (Ok tree) (words, is, e) = inr (reached told root (Ok tree) words is e (λ f same. cc same))
ended_how told root (Err f) (inl (to, reach, none)) = inl (inl (ap (λ (g : WalkFault HostFault). Err g) none))
ended_how told root (Err f) (inr (words, is, e)) = elim (no_reader f) [
  | inl (g, same) ↦ inl (inr (g, ap (λ (x : WalkFault HostFault). Err x) same))
  | inr fine ↦ inr (reached told root (Err f) words is e fine)
]

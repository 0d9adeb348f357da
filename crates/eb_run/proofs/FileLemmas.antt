-- From a file that was opened to how a command goes on.
use Rattle.std.proofs.Common.{◌≡◌, ◌⊎◌, inl, inr, ℕ, List, [], ◌∷◌, ◌++◌, Option, Some, None, Vec, Global, Result, Ok, Err, refl, sym, ◌∙◌, ap, subst}
use Rattle.std.specs.Prelude.{⊤}
use Rattle.std.specs.Option.{IfSome}
use Rattle.std.specs.Io.KnownBytes.{append_known}
use Rattle.std.proofs.lemmas.List.{same_from_push}
use Rattle.eb_io.specs.Reading.{Reading, Gathers}
use Rattle.eb_io.specs.Outside.{Outside, OpenedFile, IsFresh}
use Rattle.eb_io.specs.declared.source.Gathered.TheVariants as gathered
use Rattle.wb_signals.specs.History.{Entry}
use Rattle.eb_server.specs.Serving.{WasRead}
use Rattle.eb_server.specs.declared.ending.Ending.{Ending}
use Rattle.eb_server.specs.declared.ending.Ending.TheVariants as ending
use Rattle.soc_desc.specs.Described.{most_octets}
use Rattle.eb_text.specs.declared.fault.Fault.{Fault}
use Rattle.eb_text.specs.declared.fault.Fault.TheVariants as fault
use Rattle.eb_run.specs.Run.{Run}
use Rattle.eb_run.specs.Files.{AreText, ReadFile, ReadsFile, ChangesLast}
use Rattle.eb_run.specs.Streams.{System, ServedOn, AnswersCapture, result_of}

-- what a fresh file gave since is all that it gave
given_since : (was : Option (List ℕ)) (octets : List ℕ) → IfSome was (λ given. given ≡ []) → IfSome (append_known was octets) (λ given. given ≡ octets)
given_since None octets fresh = tt
given_since (Some given) octets fresh = ap (λ (l : List ℕ). l ++ octets) fresh

module _ {F : Type 0} (reading : F → Reading) (old mid new : Outside F) (name : List ℕ) (opened : OpenedFile reading old mid name) {how : F → F → Type 0} (changes : ChangesLast mid new how) where
  same : (opened.file ≡ changes.before) × (old.files ≡ changes.others)
  same = let both = same_from_push old.files changes.others opened.file changes.before (sym opened.files ∙ changes.old_are) in (both.1, both.0)

  pub fresh : IsFresh (reading changes.before)
  fresh = subst (λ (f : F). IsFresh (reading f)) same.0 opened.fresh

  -- the file that was opened, as it is now
  pub read_file : (octets : List ℕ) → (reading changes.now).given ≡ append_known (reading changes.before).given octets → ReadFile reading old new name changes.now octets
  read_file octets gave = record {
    files = ap (λ (o : Outside F). o.files) changes.new_is ∙ ap (λ (l : List F). l ++ changes.now ∷ []) (sym same.1);
    asked = ap (λ (o : Outside F). o.asked) changes.new_is ∙ opened.asked;
    faults = ap (λ (o : Outside F). o.faults) changes.new_is ∙ opened.faults;
    told = subst (λ (k : Option (List ℕ)). IfSome k (λ given. given ≡ octets)) (sym gave) (given_since (reading changes.before).given octets fresh.given);
  }

-- ---- captures

given_of : (old new : Reading) (octets : List ℕ) (e : Ending) → WasRead old new octets e → new.given ≡ append_known old.given octets
given_of old new octets ending.Clean read = read.2.given
given_of old new octets (ending.Truncated n) read = read.2.given
given_of old new octets (ending.Malformed p why) read = read.1.given
given_of old new octets ending.ReadFault read = read.3.given ∙ read.2.given
given_of old new octets ending.WriteFault read = read.1.given
given_of old new octets ending.TooLong read = read.1.given
given_of old new octets ending.NoMemory read = read.1.given

-- The capture was opened and served.
pub answers : {F : Type 0} (run : Run F) (mid : Outside F) (capture : List ℕ) (system : System) (entries : List Entry) (e : Ending) (result : Result ⊤ Fault)
    → OpenedFile run.reading run.world mid capture
    → ChangesLast mid run.world' (λ before now. ServedOn system (run.reading before) (run.reading now) run.out run.out' entries e)
    → result ≡ result_of e → AnswersCapture run capture system result
answers run mid capture system entries e result opened changes is =
    let stream = changes.changed in
    let gave = given_of (run.reading changes.before) (run.reading changes.now) stream.octets e stream.read in
    let read = read_file run.reading run.world mid run.world' capture opened changes stream.octets gave in
    inr (
      e,
      record {
        opened = changes.before;
        fresh = fresh run.reading run.world mid run.world' capture opened changes;
        file = changes.now;
        files = read.files;
        asked = read.asked;
        faults = read.faults;
        entries = entries;
        stream = stream;
        told = read.told;
      },
      is,
    )

-- ---- texts

-- The file was opened and read to its end.
pub reads_text : {F : Type 0} (reading : F → Reading) (old mid new : Outside F) (name : List ℕ) (octets : Vec ℕ Global)
    → OpenedFile reading old mid name → ChangesLast mid new (λ before now. Gathers (reading before) (reading now) most_octets (gathered.All octets))
    → ReadsFile reading old new name AreText (Ok (Some octets))
reads_text reading old mid new name octets opened changes =
    let gathers = changes.changed in
    let read = read_file reading old mid new name opened changes octets.items gathers.2.given in
    let no_fault = gathers.2.faults ∙ (fresh reading old mid new name opened changes).faults in
    inr (inr (inr (octets.items, record { file = changes.now; read = read; to = inl (gathers.1, gathers.0); no_fault = no_fault }, (refl, gathers.0))))

module _ {F T U : Type 0} (reading : F → Reading) (old new : Outside F) (name : List ℕ) (makes : List ℕ → Result T Fault → Type 0) (others : List ℕ → Result U Fault → Type 0) where
  -- Where octets were read, what is made of them is.
  pub on_octets : (t : T) (r : Result U Fault) → ReadsFile reading old new name makes (Ok t) → ((octets : List ℕ) → makes octets (Ok t) → (r ≡ Err fault.NoMemory) ⊎ others octets r)
      → ReadsFile reading old new name others r
  on_octets t r (inl (inl (is, failed))) then_made = cc
  on_octets t r (inl (inr (is, same))) then_made = cc
  on_octets t r (inr (inl (is, failed))) then_made = cc
  on_octets t r (inr (inr (inl (is, part)))) then_made = cc
  on_octets t r (inr (inr (inr (octets, read, so)))) then_made = elim (then_made octets so) [
    | inl none ↦ inr (inr (inl (none, record { file = read.file; octets = octets; read = read.read; faults = read.no_fault })))
    | inr made ↦ inr (inr (inr (octets, read, made)))
  ]

  -- A fault that was none of the octets stays it.
  pub on_fault : (f : Fault) → ReadsFile reading old new name makes (Err f) → ((octets : List ℕ) → makes octets (Err f) → ⊥) → ReadsFile reading old new name others (Err f)
  on_fault f (inl (inl (is, failed))) none = inl (inl (cc, failed))
  on_fault f (inl (inr (is, same))) none = inl (inr (cc, same))
  on_fault f (inr (inl (is, failed))) none = inr (inl (cc, failed))
  on_fault f (inr (inr (inl (is, part)))) none = inr (inr (inl (cc, part)))
  on_fault f (inr (inr (inr (octets, read, so)))) none = absurd (none octets so)

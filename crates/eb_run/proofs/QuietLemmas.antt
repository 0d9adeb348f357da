-- What the files that were opened hold decides how a command ends, where no count of faults rose.
use Rattle.std.proofs.Common.{◌≡◌, ◌⊎◌, inl, inr, ℕ, ◌+◌, ◌<◌, ◌≤◌, Bool, true, false, List, [], ◌∷◌, ◌++◌, length, Option, Some, None, Result, Ok, Err, refl, sym, ◌∙◌, ap, subst, arith, rules, length-append, if◌then◌else◌}
use Rattle.std.specs.Prelude.{⊤, All, nat_lt}
use Rattle.std.specs.Option.{IfSome}
use Rattle.std.specs.Str.{is_utf8}
use Rattle.std.specs.Io.KnownBytes.{IsAtEnd, prepend_known}
use Rattle.std.proofs.lemmas.List.{append_assoc, append_cancel_left, append-nil}
use Rattle.serde_json.specs.Data.{Data}
use Rattle.serde_json.specs.Read.{read as read_text}
use Rattle.eb_base.specs.declared.width.Width.{Width}
use Rattle.eb_base.specs.declared.width.Width.TheVariants.{W32}
use Rattle.eb_io.specs.Counts.{Rose}
use Rattle.eb_io.specs.Reading.{Reading, Gave}
use Rattle.eb_io.specs.Writing.{Writing}
use Rattle.eb_io.specs.Outside.{Outside}
use Rattle.wb_signals.specs.History.{Entry}
use Rattle.eb_session.specs.Replies.{sets_of}
use Rattle.eb_server.specs.Serving as serving
use Rattle.eb_server.specs.Serving.{EndsAs}
use Rattle.eb_server.specs.declared.ending.Ending.{Ending}
use Rattle.eb_server.specs.declared.ending.Ending.TheVariants as ending
use Rattle.eb_server.proofs.EndingLemmas.{ends_so, only_ending}
use Rattle.soc_desc.specs.Checks.{Found, ◌>>=◌}
use Rattle.soc_desc.specs.Described.{described, checked, json_or, most_octets}
use Rattle.soc_desc.specs.declared.description.Description.{Description}
use Rattle.soc_desc.specs.declared.fault.DescFault.{DescFault}
use Rattle.soc_desc.specs.declared.fault.DescFault.TheVariants as desc
use Rattle.soc_core.specs.Built.{fabric_of}
use Rattle.soc_script.specs.Script.{ScriptLine, IsScript, IsRefused as IsNoScript}
use Rattle.soc_script.specs.Words.{lines_of}
use Rattle.soc_script.specs.Laws.{NeverBoth, OneRefusal}
use Rattle.soc_script.proofs.RefusalLemmas.{bad_in_script, one_bad_line}
use Rattle.eb_text.specs.Command.{Command, AnswerRam, Answer, Sim, Build, Tour, Load, Replay, Show}
use Rattle.eb_text.specs.declared.fault.Fault.{Fault}
use Rattle.eb_text.specs.declared.fault.Fault.TheVariants as fault
use Rattle.eb_run.specs.Run.{Run}
use Rattle.eb_run.specs.Files.{IsDescribed, IsScripted, ReadToEnd, ReadsFile, ReadsDescription}
use Rattle.eb_run.specs.Streams.{System, ServedOn, ServedCapture, AnswersCapture, ram_system, described_system, result_of}
use Rattle.eb_run.specs.Commands.{SendsText, MakesText, ShowsRun, WithScript, ComesTo}
use Rattle.eb_run.specs.Top.{HoldsOctets, AllHold, IsQuiet, IsUndescribed, EndsWith, RunsAs, Decides}

-- ---- what a source told

-- the given octets are those that were told
pub told_is : (told : Option (List ℕ)) (given octets : List ℕ) → told ≡ Some given → IfSome told (λ g. g ≡ octets) → given ≡ octets
told_is None given octets is tells = cc
told_is (Some g) given octets is tells = cc

none_left : (told : Option (List ℕ)) (left : List ℕ) → told ≡ Some left → IsAtEnd told → left ≡ []
none_left None left is tells = cc
none_left (Some l) left is tells = cc

-- what a source had left before it gave octets, where it holds all of these
left_before : (old new : Reading) (octets all : List ℕ) → Gave old new octets → IfSome new.given (λ g. g ≡ octets) → HoldsOctets new all → old.left ≡ Some all
left_before old new octets all gave told holds =
    let given : holds.given ≡ octets = told_is new.given holds.given octets holds.given_is told in
    let left : old.left ≡ Some (octets ++ holds.left) = gave.next ∙ ap (λ (k : Option (List ℕ)). prepend_known octets k) holds.left_is in
    let whole : octets ++ holds.left ≡ all = ap (λ (l : List ℕ). l ++ holds.left) (sym given) ∙ sym holds.all in
    left ∙ ap (λ (l : List ℕ). Some l) whole

-- ---- streams

-- no read failed, so the octets were given
pub gave_of : (old new : Reading) (octets : List ℕ) (e : Ending) → serving.WasRead old new octets e → (Rose old.faults new.faults → ⊥) → Gave old new octets
gave_of old new octets ending.Clean read fine = read.2
gave_of old new octets (ending.Truncated n) read fine = read.2
gave_of old new octets (ending.Malformed p why) read fine = read.1
gave_of old new octets ending.ReadFault read fine =
    let P : ℕ → Type 0 = λ n. Rose n new.faults in
    absurd (fine (subst P read.2.faults read.3.rose))
gave_of old new octets ending.WriteFault read fine = read.1
gave_of old new octets ending.TooLong read fine = read.1
gave_of old new octets ending.NoMemory read fine = read.1

-- a stream that was served on a system, as one that its master served
pub as_served : (system : System) (source source' : Reading) (out out' : Writing) (entries : List Entry) (e : Ending) → ServedOn system source source' out out' entries e
    → serving.Served 0 system.slave (record { made = []; opened = [] }) (record { made = entries; opened = [] }) source source' out out' e
as_served system source source' out out' entries e stream = record {
  octets = stream.octets;
  items = stream.items;
  entries = entries;
  read = stream.read;
  ran = stream.ran;
  none_open = refl;
  made = refl;
  mine = stream.mine;
  fit = stream.fit;
  answered = stream.answered;
}

-- a capture that was served ended as its octets end, or memory was wanting
ends : {F : Type 0} (run : Run F) (capture : List ℕ) (system : System) (e : Ending) (octets : List ℕ) (served : ServedCapture run capture system e)
    → HoldsOctets (run.reading served.file) octets → (Rose 0 (run.reading served.file).faults → ⊥) → (Rose run.out.faults run.out'.faults → ⊥)
    → EndsAs (sets_of system.slave.bus) octets e ⊎ (e ≡ ending.NoMemory)
ends run capture system e octets served holds no_read no_write =
    let source = run.reading served.opened in
    let source' = run.reading served.file in
    let stream = served.stream in
    let P : ℕ → Type 0 = λ n. Rose n source'.faults in
    let none_rose : Rose source.faults source'.faults → ⊥ = λ rose. no_read (subst P served.fresh.faults rose) in
    let gave = gave_of source source' stream.octets e stream.read none_rose in
    let left = left_before source source' stream.octets octets gave served.told holds in
    ends_so 0 system.slave (record { made = []; opened = [] }) (record { made = served.entries; opened = [] }) source source' run.out run.out' e octets
    (as_served system source source' run.out run.out' served.entries e stream) left none_rose no_write

-- ---- descriptions

by_length : (b : Bool) (other : Found Data) → b ≡ true → (if b then Err (desc.TooMany []) else other) >>= checked ≡ Err (desc.TooMany [])
by_length true other long = refl
by_length false other long = cc

-- a text that is too long is refused for that
too_many : (text : List ℕ) → most_octets < length text → described text ≡ Err (desc.TooMany [])
too_many text past =
    let long : nat_lt most_octets (length text) ≡ true = search rules in
    by_length (nat_lt most_octets (length text)) (if is_utf8 text then json_or (read_text text) else Err desc.NotJson) long

-- what was read of a file is described as all that it holds
pub same_described : {F : Type 0} (reading : F → Reading) (old new : Outside F) (name octets whole : List ℕ) (read : ReadToEnd reading old new name octets)
    → HoldsOctets (reading read.file) whole → described whole ≡ described octets
same_described reading old new name octets whole read held =
    let given : held.given ≡ octets = told_is (reading read.file).given held.given octets held.given_is read.read.told in
    let all : whole ≡ octets ++ held.left = held.all ∙ ap (λ (l : List ℕ). l ++ held.left) given in
    elim read.to [
      | inl ended ↦
          let rest : held.left ≡ [] = none_left (reading read.file).left held.left held.left_is ended.0 in
          let same : whole ≡ octets = all ∙ ap (λ (l : List ℕ). octets ++ l) rest ∙ append-nil octets in
          ap described same
      | inr past ↦
          let many : most_octets < length whole = omega (arith, ap length all, length-append octets held.left, past) in
          too_many whole many ∙ sym (too_many octets (omega (arith, past)))
    ]

-- what was made of octets was read to its end
pub read_well : {F T : Type 0} (reading : F → Reading) (old new : Outside F) (name : List ℕ) (makes : List ℕ → Result T Fault → Type 0) (t : T) → ReadsFile reading old new name makes (Ok t)
    → (octets : List ℕ) × ReadToEnd reading old new name octets × makes octets (Ok t)
read_well reading old new name makes t (inl (inl (is, failed))) = cc
read_well reading old new name makes t (inl (inr (is, same))) = cc
read_well reading old new name makes t (inr (inl (is, failed))) = cc
read_well reading old new name makes t (inr (inr (inl (is, part)))) = cc
read_well reading old new name makes t (inr (inr (inr (octets, read, so)))) = (octets, read, so)

-- where no count of faults rose, a fault is that of the octets
pub read_ill : {F T : Type 0} (reading : F → Reading) (old new : Outside F) (name : List ℕ) (makes : List ℕ → Result T Fault → Type 0) (f : Fault)
    → (Rose old.faults new.faults → ⊥) → ((file : F) → new.files ≡ old.files ++ file ∷ [] → Rose 0 (reading file).faults → ⊥) → ReadsFile reading old new name makes (Err f)
    → (f ≡ fault.NoMemory) ⊎ ((octets : List ℕ) × ReadToEnd reading old new name octets × makes octets (Err f))
read_ill reading old new name makes f no_open no_read (inl (inl (is, failed))) = absurd (no_open failed.rose)
read_ill reading old new name makes f no_open no_read (inl (inr (is, same))) = inl cc
read_ill reading old new name makes f no_open no_read (inr (inl (is, failed))) = absurd (no_read failed.file failed.read.files failed.faults)
read_ill reading old new name makes f no_open no_read (inr (inr (inl (is, part)))) = inl cc
read_ill reading old new name makes f no_open no_read (inr (inr (inr (octets, read, so)))) = inr (octets, read, so)

pub described_so : (octets : List ℕ) (d : Description) → IsDescribed octets (Ok d) → described octets ≡ Ok d
described_so octets d (inl (other, found, is)) = let same : other ≡ d = cc in found ∙ ap Ok same
described_so octets d (inr (f, found, real, is)) = cc

pub refused_so : (octets : List ℕ) (f : Fault) → IsDescribed octets (Err f) → (first : DescFault) × (described octets ≡ Err first) × (f ≡ fault.Description first)
refused_so octets f (inl (d, found, is)) = cc
refused_so octets f (inr (first, found, real, is)) = (first, found, cc)

-- ---- scripts

-- more octets than a script has
too_long : (masters : ℕ) (octets whole : List ℕ) (r : Result (List ScriptLine) Fault) → length octets ≡ most_octets + 1 → 1048576 < length whole → IsScripted masters octets r → IsScripted masters whole r
too_long masters octets whole r past many (inl (script, is_script, is)) = let few = is_script.few_octets in absurd (omega (arith, past, few))
too_long masters octets whole r past many (inr (n, inl (longer, zero), is)) = inr (n, inl (many, zero), is)
too_long masters octets whole r past many (inr (n, inr (few, bad), is)) = absurd (omega (arith, past, few))

-- what was read of a script is what it is by all that the file holds
pub same_scripted : {F : Type 0} (reading : F → Reading) (old new : Outside F) (name octets whole : List ℕ) (read : ReadToEnd reading old new name octets)
    → HoldsOctets (reading read.file) whole → (masters : ℕ) (r : Result (List ScriptLine) Fault) → IsScripted masters octets r → IsScripted masters whole r
same_scripted reading old new name octets whole read held masters r so =
    let given : held.given ≡ octets = told_is (reading read.file).given held.given octets held.given_is read.read.told in
    let all : whole ≡ octets ++ held.left = held.all ∙ ap (λ (l : List ℕ). l ++ held.left) given in
    elim read.to [
      | inl ended ↦
          let rest : held.left ≡ [] = none_left (reading read.file).left held.left held.left_is ended.0 in
          let same : whole ≡ octets = all ∙ ap (λ (l : List ℕ). octets ++ l) rest ∙ append-nil octets in
          subst (λ (l : List ℕ). IsScripted masters l r) (sym same) so
      | inr past ↦
          let many : 1048576 < length whole = omega (arith, ap length all, length-append octets held.left, past) in
          too_long masters octets whole r past many so
    ]

pub a_script : (masters : ℕ) (octets : List ℕ) (script : List ScriptLine) → IsScripted masters octets (Ok script) → IsScript W32 masters octets script
a_script masters octets script (inl (other, is_script, is)) = let same : other ≡ script = cc in subst (IsScript W32 masters octets) same is_script
a_script masters octets script (inr (n, refused, is)) = cc

pub no_script : (masters : ℕ) (octets : List ℕ) (f : Fault) → IsScripted masters octets (Err f) → (n : ℕ) × IsNoScript W32 masters octets n × (f ≡ fault.Script n)
no_script masters octets f (inl (other, is_script, is)) = cc
no_script masters octets f (inr (n, refused, is)) = (n, refused, cc)

never_both : NeverBoth
never_both bus masters text script n is (inl a) = let l = a.0 in let m : length text ≤ 1048576 = is.few_octets in omega arith
never_both bus masters text script n is (inr a) = bad_in_script bus masters (lines_of text) n script a.1 is.lines

one_refused : OneRefusal
one_refused bus masters text n k (inl a) (inl b) = a.1 ∙ sym b.1
one_refused bus masters text n k (inl a) (inr b) = let l = a.0 in let m = b.0 in omega arith
one_refused bus masters text n k (inr a) (inl b) = let l = a.0 in let m = b.0 in omega arith
one_refused bus masters text n k (inr a) (inr b) = one_bad_line bus masters (lines_of text) n k a.1 b.1

-- a script runs, or is refused at one line
one_run : (masters : ℕ) (octets : List ℕ) (a b : Result ⊤ Fault) → RunsAs masters octets a → RunsAs masters octets b → a ≡ b
one_run masters octets a b (inl (s, x, is)) (inl (t, y, so)) = is ∙ sym so
one_run masters octets a b (inl (s, x, is)) (inr (n, y, so)) = absurd (never_both W32 masters octets s n x y)
one_run masters octets a b (inr (n, x, is)) (inl (s, y, so)) = absurd (never_both W32 masters octets s n y x)
one_run masters octets a b (inr (n, x, is)) (inr (k, y, so)) = is ∙ ap (λ (i : ℕ). Err (fault.Script i)) (one_refused W32 masters octets n k x y) ∙ sym so

-- ---- texts

pub shown_well : (text : List ℕ) (out out' : Writing) (r : Result ⊤ Fault) → (Rose out.faults out'.faults → ⊥) → SendsText out out' text r → r ≡ Ok tt
shown_well text out out' (Ok done) fine sends = refl
shown_well text out out' (Err f) fine sends = absurd (fine sends.1.rose)

made_well : (is_text : List ℕ → Type 0) (out out' : Writing) (r : Result ⊤ Fault) → (Rose out.faults out'.faults → ⊥) → MakesText out out' is_text r → (r ≡ Err fault.NoMemory) ⊎ (r ≡ Ok tt)
made_well is_text out out' r fine (inl none) = inl none.0
made_well is_text out out' r fine (inr (text, is, wrote)) = inr (shown_well text out out' r fine wrote)

-- ---- the files that were opened

-- they hold octets, and no read of them failed
abbrev pub AreQuiet : {F : Type 0} → (F → Reading) → List F → List (List ℕ) → Type 0
AreQuiet reading opened held = AllHold reading opened held × All (λ file. Rose 0 (reading file).faults → ⊥) opened

pub one_held : {F : Type 0} (reading : F → Reading) (file : F) (held : List (List ℕ)) → AllHold reading (file ∷ []) held → (o : List ℕ) × (held ≡ o ∷ []) × HoldsOctets (reading file) o
one_held reading file [] hold = absurd hold
one_held reading file (o ∷ []) hold = (o, refl, hold.0)
one_held reading file (o ∷ p ∷ rest) hold = absurd hold.1

two_held : {F : Type 0} (reading : F → Reading) (first file : F) (held : List (List ℕ)) → AllHold reading (first ∷ file ∷ []) held
    → (text o : List ℕ) × (held ≡ text ∷ o ∷ []) × HoldsOctets (reading first) text × HoldsOctets (reading file) o
two_held reading first file [] hold = absurd hold
two_held reading first file (o ∷ []) hold = absurd hold.1
two_held reading first file (text ∷ o ∷ []) hold = (text, o, refl, hold.0, hold.1.0)
two_held reading first file (text ∷ o ∷ p ∷ rest) hold = absurd hold.1.1

none_held : {F : Type 0} (reading : F → Reading) (held : List (List ℕ)) → AllHold reading [] held → held ≡ []
none_held reading [] hold = refl
none_held reading (o ∷ rest) hold = absurd hold

-- ---- an answer that is decided

-- memory was wanting, or the octets decide this result
abbrev pub Decided : Command → List (List ℕ) → Result ⊤ Fault → Type 0
Decided c held r = (r ≡ Err fault.NoMemory) ⊎ Decides c held r

module _ {F : Type 0} (run : Run F) (held : List (List ℕ)) (quiet : IsQuiet run held) where
  pub are_quiet : (files : List F) → run.world'.files ≡ run.world.files ++ files → AreQuiet run.reading files held
  are_quiet files are =
      let same : quiet.opened ≡ files = append_cancel_left run.world.files quiet.opened files (sym quiet.files ∙ are) in
      subst (λ (l : List F). AreQuiet run.reading l held) same (quiet.hold, quiet.read_faults)

  no_files : run.world' ≡ run.world → held ≡ []
  no_files same =
      let are = are_quiet [] (ap (λ (w : Outside F). w.files) same ∙ sym (append-nil run.world.files)) in
      none_held run.reading held are.0

  -- a file behind another
  behind : (first file : F) (between : Outside F) → between.files ≡ run.world.files ++ first ∷ []
      → run.world'.files ≡ between.files ++ file ∷ [] → run.world'.files ≡ run.world.files ++ first ∷ file ∷ []
  behind first file between are more = more ∙ ap (λ (l : List F). l ++ file ∷ []) are ∙ append_assoc run.world.files (first ∷ []) (file ∷ [])

  one_read : (file : F) → run.world'.files ≡ run.world.files ++ file ∷ [] → Rose 0 (run.reading file).faults → ⊥
  one_read file are = (are_quiet (file ∷ []) are).1 0 file (omega arith)

  -- a fault of a description that was read
  pub ill : {T : Type 0} (decides : List (List ℕ) → Type 0) (name : List ℕ) (r : Result T Fault) (f : Fault) → ((text : List ℕ) → IsUndescribed text r → decides (text ∷ []))
      → r ≡ Err f → ReadsDescription run.reading run.world run.world' name (Err f) → (r ≡ Err fault.NoMemory) ⊎ decides held
  ill decides name r f so is reads =
      elim (read_ill run.reading run.world run.world' name IsDescribed f quiet.open_faults one_read reads) [
        | inl none ↦ inl (is ∙ ap Err none)
        | inr (octets, read, refused) ↦
            let first = refused_so octets f refused in
            let own = one_held run.reading read.file held (are_quiet (read.file ∷ []) read.read.files).0 in
            let whole : described own.0 ≡ Err first.0 = same_described run.reading run.world run.world' name octets own.0 read own.2 ∙ first.1 in
            inr (subst decides (sym own.1) (so own.0 (first.0, whole, is ∙ ap Err first.2)))
      ]

  by_end : (bus : Width) (octets : List ℕ) (r : Result ⊤ Fault) (e : Ending) → r ≡ result_of e → EndsAs (sets_of bus) octets e ⊎ (e ≡ ending.NoMemory) → (r ≡ Err fault.NoMemory) ⊎ EndsWith bus octets r
  by_end bus octets r e is (inl so) = inr (e, so, is)
  by_end bus octets r e is (inr none) = inl (is ∙ ap result_of none)

  answered : (name capture : List ℕ) (between : Outside F) (octets : List ℕ) (d : Description) (r : Result ⊤ Fault)
      → ReadToEnd run.reading run.world between name octets → described octets ≡ Ok d
      → AnswersCapture (record run { world = between }) capture (described_system d) r → Decided (Answer name capture) held r
  answered name capture between octets d r read found (inl (inl (is, failed), same)) =
      let P : ℕ → Type 0 = λ n. Rose n run.world'.faults in
      absurd (quiet.open_faults (subst P read.read.faults failed.rose))
  answered name capture between octets d r read found (inl (inr (is, there), same)) = inl is
  answered name capture between octets d r read found (inr (e, served, is)) =
      let files : run.world'.files ≡ run.world.files ++ read.file ∷ served.file ∷ [] =
      served.files ∙ ap (λ (l : List F). l ++ served.file ∷ []) read.read.files ∙ append_assoc run.world.files (read.file ∷ []) (served.file ∷ []) in
      let are = are_quiet (read.file ∷ served.file ∷ []) files in
      let own = two_held run.reading read.file served.file held are.0 in
      let text : described own.0 ≡ Ok d = same_described run.reading run.world between name octets own.0 read own.3 ∙ found in
      let no_read : Rose 0 (run.reading served.file).faults → ⊥ = are.1 1 served.file (omega arith) in
      elim (by_end d.bus.width own.1 r e is (ends (record run { world = between }) capture (described_system d) e own.1 served own.4 no_read quiet.write_faults)) [
        | inl none ↦ inl none
        | inr so ↦ inr (subst (λ (l : List (List ℕ)). Decides (Answer name capture) l r) (sym own.2) (d, text, so))
      ]

  -- a text that is made of a description that was read
  made_of : (c : Command) (name : List ℕ) (between : Outside F) (d : Description) (is_text : List ℕ → Type 0) (r : Result ⊤ Fault)
      → ((text : List ℕ) → described text ≡ Ok d → r ≡ Ok tt → Decides c (text ∷ []) r)
      → ReadsDescription run.reading run.world between name (Ok d) → run.world' ≡ between → MakesText run.out run.out' is_text r → Decided c held r
  made_of c name between d is_text r decides reads same makes =
      let read = read_well run.reading run.world between name IsDescribed d reads in
      let own = one_held run.reading read.1.file held (are_quiet (read.1.file ∷ []) (ap (λ (w : Outside F). w.files) same ∙ read.1.read.files)).0 in
      let text : described own.0 ≡ Ok d = same_described run.reading run.world between name read.0 own.0 read.1 own.2 ∙ described_so read.0 d read.2 in
      elim (made_well is_text run.out run.out' r quiet.write_faults makes) [
        | inl none ↦ inl none
        | inr well ↦ inr (subst (λ (l : List (List ℕ)). Decides c l r) (sym own.1) (decides own.0 text well))
      ]

  -- a script that was read behind the description
  simulated : (name script : List ℕ) (between : Outside F) (wave : Bool) (octets : List ℕ) (d : Description) (r : Result ⊤ Fault)
      → ReadToEnd run.reading run.world between name octets → described octets ≡ Ok d
      → WithScript (record run { world = between }) d.masters script (λ lines. MakesText run.out run.out' (ShowsRun (fabric_of d) lines wave) r) r → Decided (Sim name script wave) held r
  simulated name script between wave octets d r read found (inl (f, is, reads, same)) =
      let P : ℕ → Type 0 = λ n. Rose n run.world'.faults in
      let no_open : Rose between.faults run.world'.faults → ⊥ = λ rose. quiet.open_faults (subst P read.read.faults rose) in
      let no_read : (file : F) → run.world'.files ≡ between.files ++ file ∷ [] → Rose 0 (run.reading file).faults → ⊥ =
      λ file are. (are_quiet (read.file ∷ file ∷ []) (behind read.file file between read.read.files are)).1 1 file (omega arith) in
      elim (read_ill run.reading between run.world' script (IsScripted d.masters) f no_open no_read reads) [
        | inl none ↦ inl (is ∙ ap Err none)
        | inr (lines, text, so) ↦
            let own = two_held run.reading read.file text.file held (are_quiet (read.file ∷ text.file ∷ []) (behind read.file text.file between read.read.files text.read.files)).0 in
            let whole : described own.0 ≡ Ok d = same_described run.reading run.world between name octets own.0 read own.3 ∙ found in
            let bad = no_script d.masters own.1 f (same_scripted run.reading between run.world' script lines own.1 text own.4 d.masters (Err f) so) in
            inr (subst (λ (l : List (List ℕ)). Decides (Sim name script wave) l r) (sym own.2) (d, whole, inr (bad.0, bad.1, is ∙ ap Err bad.2)))
      ]
  simulated name script between wave octets d r read found (inr (lines, reads, makes)) =
      let text = read_well run.reading between run.world' script (IsScripted d.masters) lines reads in
      let own = two_held run.reading read.file text.1.file held (are_quiet (read.file ∷ text.1.file ∷ []) (behind read.file text.1.file between read.read.files text.1.read.files)).0 in
      let whole : described own.0 ≡ Ok d = same_described run.reading run.world between name octets own.0 read own.3 ∙ found in
      let good = a_script d.masters own.1 lines (same_scripted run.reading between run.world' script text.0 own.1 text.1 own.4 d.masters (Ok lines) text.2) in
      elim (made_well (ShowsRun (fabric_of d) lines wave) run.out run.out' r quiet.write_faults makes) [
        | inl none ↦ inl none
        | inr well ↦ inr (subst (λ (l : List (List ℕ)). Decides (Sim name script wave) l r) (sym own.2) (d, whole, inl (lines, good, well)))
      ]

  -- what a command came to is what the octets decide
  pub decided : (c : Command) (r : Result ⊤ Fault) → ComesTo run c r → Decided c held r
  decided (AnswerRam size capture) r (inl (inl (is, failed), same)) = absurd (quiet.open_faults failed.rose)
  decided (AnswerRam size capture) r (inl (inr (is, there), same)) = inl is
  decided (AnswerRam size capture) r (inr (e, served, is)) =
      let are = are_quiet (served.file ∷ []) served.files in
      let own = one_held run.reading served.file held are.0 in
      elim (by_end (ram_system size).slave.bus own.0 r e is (ends run capture (ram_system size) e own.0 served own.2 (one_read served.file served.files) quiet.write_faults)) [
        | inl none ↦ inl none
        | inr so ↦ inr (subst (λ (l : List (List ℕ)). Decides (AnswerRam size capture) l r) (sym own.1) so)
      ]
  decided (Answer name capture) r (inl (f, is, reads, same)) = ill (λ l. Decides (Answer name capture) l r) name r f (λ text refused. refused) is reads
  decided (Answer name capture) r (inr (d, between, reads, answers)) =
      let read = read_well run.reading run.world between name IsDescribed d reads in
      answered name capture between read.0 d r read.1 (described_so read.0 d read.2) answers
  decided (Sim name script wave) r (inl (f, is, reads, same)) = ill (λ l. Decides (Sim name script wave) l r) name r f (λ text refused. refused) is reads
  decided (Sim name script wave) r (inr (d, between, reads, runs)) =
      let read = read_well run.reading run.world between name IsDescribed d reads in
      simulated name script between wave read.0 d r read.1 (described_so read.0 d read.2) runs
  decided (Build name) r (inl (f, is, reads, same)) = ill (λ l. Decides (Build name) l r) name r f (λ text refused. inr refused) is reads
  decided (Build name) r (inr (d, between, reads, (same, makes))) = made_of (Build name) name between d _ r (λ text found well. inl (d, found, well)) reads same makes
  decided (Tour name) r (inl (f, is, reads, same)) = ill (λ l. Decides (Tour name) l r) name r f (λ text refused. inr refused) is reads
  decided (Tour name) r (inr (d, between, reads, (same, makes))) = made_of (Tour name) name between d _ r (λ text found well. inl (d, found, well)) reads same makes
  decided (Load start cycles) r (same, makes) =
      elim (made_well _ run.out run.out' r quiet.write_faults makes) [
        | inl none ↦ inl none
        | inr well ↦ inr (subst (λ (l : List (List ℕ)). Decides (Load start cycles) l r) (sym (no_files same)) well)
      ]
  decided (Replay name captures) r comes = absurd comes
  decided (Show text) r (same, writes) =
      inr (subst (λ (l : List (List ℕ)). Decides (Show text) l r) (sym (no_files same)) (shown_well text run.out run.out' r quiet.write_faults writes))

-- ---- octets decide one answer

one_end : (bus : Width) (octets : List ℕ) (a b : Result ⊤ Fault) → EndsWith bus octets a → EndsWith bus octets b → a ≡ b
one_end bus octets a b x y = x.2 ∙ ap result_of (only_ending (sets_of bus) octets x.0 y.0 x.1 y.1) ∙ sym y.2

pub one_refusal : {T : Type 0} (text : List ℕ) (a b : Result T Fault) → IsUndescribed text a → IsUndescribed text b → a ≡ b
one_refusal text a b x y =
    let both : ◌≡◌ {A = Found Description} (Err x.0) (Err y.0) = sym x.1 ∙ y.1 in
    let same : x.0 ≡ y.0 = cc in
    x.2 ∙ ap (λ (f : DescFault). Err (fault.Description f)) same ∙ sym y.2

pub one_description : (text : List ℕ) (d other : Description) → described text ≡ Ok d → described text ≡ Ok other → d ≡ other
one_description text d other x y =
    let both : ◌≡◌ {A = Found Description} (Ok d) (Ok other) = sym x ∙ y in
    cc

pub not_both : {T : Type 0} (text : List ℕ) (d : Description) (a : Result T Fault) → described text ≡ Ok d → IsUndescribed text a → ⊥
not_both text d a x y =
    let both : ◌≡◌ {A = Found Description} (Ok d) (Err y.0) = sym x ∙ y.1 in
    cc

-- the text is a description of which something is made, or is refused
one_making : (text : List ℕ) (a b : Result ⊤ Fault) → ((d : Description) × (described text ≡ Ok d) × (a ≡ Ok tt)) ⊎ IsUndescribed text a
    → ((d : Description) × (described text ≡ Ok d) × (b ≡ Ok tt)) ⊎ IsUndescribed text b → a ≡ b
one_making text a b (inl x) (inl y) = x.2 ∙ sym y.2
one_making text a b (inl x) (inr y) = absurd (not_both text x.0 b x.1 y)
one_making text a b (inr x) (inl y) = absurd (not_both text y.0 a y.1 x)
one_making text a b (inr x) (inr y) = one_refusal text a b x y

pub one_answer : (c : Command) (held : List (List ℕ)) (a b : Result ⊤ Fault) → Decides c held a → Decides c held b → a ≡ b
one_answer (AnswerRam size capture) (o ∷ []) a b x y = one_end W32 o a b x y
one_answer (Answer name capture) (text ∷ []) a b x y = one_refusal text a b x y
one_answer (Answer name capture) (text ∷ o ∷ []) a b x y =
    let same = one_description text y.0 x.0 y.1 x.1 in
    one_end x.0.bus.width o a b x.2 (subst (λ (d : Description). EndsWith d.bus.width o b) same y.2)
one_answer (Sim name script wave) (text ∷ []) a b x y = one_refusal text a b x y
one_answer (Sim name script wave) (text ∷ o ∷ []) a b x y =
    let same = one_description text y.0 x.0 y.1 x.1 in
    one_run x.0.masters o a b x.2 (subst (λ (d : Description). RunsAs d.masters o b) same y.2)
one_answer (Build name) (text ∷ []) a b x y = one_making text a b x y
one_answer (Tour name) (text ∷ []) a b x y = one_making text a b x y
one_answer (Load start cycles) [] a b x y = x ∙ sym y
one_answer (Show text) [] a b x y = x ∙ sym y
one_answer (AnswerRam size capture) [] a b x y = absurd x
one_answer (AnswerRam size capture) (o ∷ p ∷ rest) a b x y = absurd x
one_answer (Answer name capture) [] a b x y = absurd x
one_answer (Answer name capture) (o ∷ p ∷ q ∷ rest) a b x y = absurd x
one_answer (Sim name script wave) [] a b x y = absurd x
one_answer (Sim name script wave) (o ∷ p ∷ q ∷ rest) a b x y = absurd x
one_answer (Replay name captures) held a b x y = absurd x
one_answer (Build name) [] a b x y = absurd x
one_answer (Build name) (o ∷ p ∷ rest) a b x y = absurd x
one_answer (Tour name) [] a b x y = absurd x
one_answer (Tour name) (o ∷ p ∷ rest) a b x y = absurd x
one_answer (Load start cycles) (o ∷ rest) a b x y = absurd x
one_answer (Show text) (o ∷ rest) a b x y = absurd x

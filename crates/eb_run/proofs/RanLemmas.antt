-- What the result of a command says of its status.
use Rattle.std.proofs.Common.{◌≡◌, ◌⊎◌, inl, inr, ℕ, List, Result, Ok, Err, refl, sym, ◌∙◌, ap, subst, rules}
use Rattle.std.specs.Prelude.{⊤}
use Rattle.eb_io.specs.Counts.{Rose}
use Rattle.eb_io.specs.Reading.{Reading}
use Rattle.eb_io.specs.Writing.{Writing}
use Rattle.eb_io.specs.Outside.{Outside}
use Rattle.eb_server.specs.declared.ending.Ending.{Ending}
use Rattle.eb_server.specs.declared.ending.Ending.TheVariants as ending
use Rattle.soc_desc.specs.declared.description.Description.{Description}
use Rattle.soc_script.specs.Script.{ScriptLine}
use Rattle.eb_replay.specs.Text.{first_unclean, replay_text}
use Rattle.eb_text.specs.Command.{Command, AnswerRam, Answer, Sim, Build, Tour, Load, Replay, Show, IsCommand, IsNoCommand, OneCommand}
use Rattle.eb_text.specs.declared.status.Status.{Status}
use Rattle.eb_text.specs.declared.status.TheConstants.Status as status
use Rattle.eb_text.specs.declared.fault.Fault.{Fault}
use Rattle.eb_text.specs.declared.fault.Fault.TheVariants as fault
use Rattle.eb_run.specs.Run.{Run}
use Rattle.eb_run.specs.Files.{NoFileOpened, IsDescribed, IsScripted, ReadsFile, ReadsDescription}
use Rattle.eb_run.specs.Streams.{System, AnswersCapture, result_of}
use Rattle.eb_run.specs.Commands.{SendsText, MakesText, WithDescription, WithScript, Plainly, ComesTo}
use Rattle.eb_run.specs.Top.{ComesToEnd, WordsComeTo, status_for, Tells, Came, CameBy, HasMore, HasTooMany, IsQuiet, DecidesEnd, RanWords}
use Rattle.eb_run.proofs.StatusLemmas.{Has, MayFail, MayCome, Known, known, known_usage}
use Rattle.eb_run.proofs.QuietLemmas.{read_well}
use Rattle.eb_run.proofs.CaptureLemmas.{no_write_ends, may_tell, decided_end, one_end_answer, shown_plainly}

-- Words have one command at most.
one_command : OneCommand
one_command words command other is other_is = search rules

-- ---- what a command may come to

-- The result of a command that serves no streams beside each other.
abbrev MayEnd : Result ⊤ Fault → Type 0
MayEnd (Ok done) = Unit {0}
MayEnd (Err f) = MayFail f

may_end : (e : Ending) → MayEnd (result_of e)
may_end ending.Clean = tt
may_end (ending.Truncated n) = tt
may_end (ending.Malformed place why) = tt
may_end ending.ReadFault = tt
may_end ending.WriteFault = tt
may_end ending.TooLong = tt
may_end ending.NoMemory = tt

may_send : (text : List ℕ) (out out' : Writing) (r : Result ⊤ Fault) → SendsText out out' text r → MayEnd r
may_send text out out' (Ok done) sends = tt
may_send text out out' (Err f) sends = subst MayFail (sym sends.0) tt

may_not_open : {F : Type 0} (old new : Outside F) (name : List ℕ) (r : Result ⊤ Fault) → NoFileOpened old new name r → MayEnd r
may_not_open old new name r (inl (is, failed)) = subst MayEnd (sym is) tt
may_not_open old new name r (inr (is, same)) = subst MayEnd (sym is) tt

may_answer : {F : Type 0} (run : Run F) (capture : List ℕ) (system : System) (r : Result ⊤ Fault) → AnswersCapture run capture system r → MayEnd r
may_answer run capture system r (inl (none, same)) = may_not_open run.world run.world' capture r none
may_answer run capture system r (inr (e, served, is)) = subst MayEnd (sym is) (may_end e)

may_make : (is_text : List ℕ → Type 0) (out out' : Writing) (r : Result ⊤ Fault) → MakesText out out' is_text r → MayEnd r
may_make is_text out out' r (inl none) = subst MayEnd (sym none.0) tt
may_make is_text out out' r (inr (text, is, wrote)) = may_send text out out' r wrote

may_describe : (octets : List ℕ) (f : Fault) → IsDescribed octets (Err f) → MayFail f
may_describe octets f (inl (d, found, is)) = cc
may_describe octets f (inr (first, found, real, is)) = let same : fault.Description first ≡ f = cc in subst MayFail same real

may_script : (masters : ℕ) (octets : List ℕ) (f : Fault) → IsScripted masters octets (Err f) → MayFail f
may_script masters octets f (inl (script, read, is)) = cc
may_script masters octets f (inr (n, refused, is)) = let same : fault.Script n ≡ f = cc in subst MayFail same tt

may_read : {F T : Type 0} (reading : F → Reading) (old new : Outside F) (name : List ℕ) (makes : List ℕ → Result T Fault → Type 0) (f : Fault)
    → ((octets : List ℕ) → makes octets (Err f) → MayFail f) → ReadsFile reading old new name makes (Err f) → MayFail f
may_read reading old new name makes f refuses (inl (inl (is, failed))) = let same : fault.ReadFault ≡ f = cc in subst MayFail same tt
may_read reading old new name makes f refuses (inl (inr (is, there))) = let same : fault.NoMemory ≡ f = cc in subst MayFail same tt
may_read reading old new name makes f refuses (inr (inl (is, failed))) = let same : fault.ReadFault ≡ f = cc in subst MayFail same tt
may_read reading old new name makes f refuses (inr (inr (inl (is, part)))) = let same : fault.NoMemory ≡ f = cc in subst MayFail same tt
may_read reading old new name makes f refuses (inr (inr (inr (octets, read, so)))) = refuses octets so

-- a command that begins by reading a description
may_go_on : {F : Type 0} (run : Run F) (name : List ℕ) (goes_on : Description → Outside F → Type 0) (r : Result ⊤ Fault)
    → ((d : Description) (between : Outside F) → goes_on d between → MayEnd r) → WithDescription run name goes_on r → MayEnd r
may_go_on run name goes_on r then_may (inl (f, is, reads, same)) =
    subst MayEnd (sym is) (may_read run.reading run.world run.world' name IsDescribed f (λ octets so. may_describe octets f so) reads)
may_go_on run name goes_on r then_may (inr (d, between, reads, on)) = then_may d between on

may_run : {F : Type 0} (run : Run F) (masters : ℕ) (name : List ℕ) (goes_on : List ScriptLine → Type 0) (r : Result ⊤ Fault)
    → ((script : List ScriptLine) → goes_on script → MayEnd r) → WithScript run masters name goes_on r → MayEnd r
may_run run masters name goes_on r then_may (inl (f, is, reads, same)) =
    subst MayEnd (sym is) (may_read run.reading run.world run.world' name (IsScripted masters) f (λ octets so. may_script masters octets f so) reads)
may_run run masters name goes_on r then_may (inr (script, reads, on)) = then_may script on

may_come : {F : Type 0} (run : Run F) (c : Command) (r : Result ⊤ Fault) → ComesTo run c r → MayEnd r
may_come run (AnswerRam octets capture) r comes = may_answer run capture _ r comes
may_come run (Answer name capture) r comes = may_go_on run name _ r (λ d between answers. may_answer (record run { world = between }) capture _ r answers) comes
may_come run (Sim name script wave) r comes =
    may_go_on run name _ r (λ d between runs. may_run (record run { world = between }) d.masters script _ r (λ lines makes. may_make _ run.out run.out' r makes) runs) comes
may_come run (Build name) r comes = may_go_on run name _ r (λ d between made. may_make _ run.out run.out' r made.1) comes
may_come run (Tour name) r comes = may_go_on run name _ r (λ d between made. may_make _ run.out run.out' r made.1) comes
may_come run (Load start cycles) r (same, makes) = may_make _ run.out run.out' r makes
may_come run (Replay name captures) r comes = absurd comes
may_come run (Show text) r (same, writes) = may_send text run.out run.out' r writes

-- with the ending that its output tells
may_plainly : (comes : Result ⊤ Fault → Type 0) (r : Result Ending Fault) → ((q : Result ⊤ Fault) → comes q → MayEnd q) → Plainly comes r → MayCome r
may_plainly comes (Ok e) may so = subst (λ (x : Ending). MayCome (Ok x)) (sym so.0) tt
may_plainly comes (Err f) may so = may (Err f) so

-- Either it may come of a command, or the captures of a replay were too many.
abbrev Comes : {F : Type 0} → Run F → Command → Result Ending Fault → Type 0
Comes run c r = MayCome r ⊎ ((r ≡ Err fault.Usage) × (name : List ℕ) × (captures : List (List ℕ)) × (c ≡ Replay name captures) × HasMore run name captures)

module _ {F : Type 0} where
  read_there : (reading : F → Reading) (old new other : Outside F) (name : List ℕ) (d : Description) → new ≡ other → ReadsDescription reading old other name (Ok d) → ReadsDescription reading old new name (Ok d)
  read_there reading old new other name d same reads = subst (λ (w : Outside F). ReadsDescription reading old w name (Ok d)) (sym same) reads

may_replay : {F : Type 0} (run : Run F) (name : List ℕ) (captures : List (List ℕ)) (r : Result Ending Fault) → ComesToEnd run (Replay name captures) r → Comes run (Replay name captures) r
may_replay run name captures r (inl (f, is, reads, same)) =
    inl (subst MayCome (sym is) (may_read run.reading run.world run.world' name IsDescribed f (λ octets so. may_describe octets f so) reads))
may_replay run name captures r (inr (d, between, reads, inl (is, more, same, out))) =
    inr (is, name, captures, refl, record { d = d; read = read_there run.reading run.world run.world' between name d same reads; too_many = more; out_is = out })
may_replay run name captures r (inr (d, between, reads, inr (inl (few, f, is, front, out)))) =
    inl (subst MayCome (sym is) (may_not_open front.between run.world' front.name (Err f) front.stopped))
may_replay run name captures r (inr (d, between, reads, inr (inr (few, replayed)))) = elim replayed.came [
  | inl none ↦ inl (subst MayCome (sym none.0) tt)
  | inr (ran, replays, sends) ↦ inl (may_tell run.out run.out' (replay_text ran) (first_unclean ran.ports) r (no_write_ends run.reading d replayed.opening.opened replayed.files ran replays (read_well run.reading run.world between name IsDescribed d reads).1.file) sends)
]

comes_of : {F : Type 0} (run : Run F) (c : Command) (r : Result Ending Fault) → ComesToEnd run c r → Comes run c r
comes_of run (AnswerRam octets capture) r comes = inl (may_plainly _ r (λ q so. may_come run (AnswerRam octets capture) q so) comes)
comes_of run (Answer name capture) r comes = inl (may_plainly _ r (λ q so. may_come run (Answer name capture) q so) comes)
comes_of run (Sim name script wave) r comes = inl (may_plainly _ r (λ q so. may_come run (Sim name script wave) q so) comes)
comes_of run (Build name) r comes = inl (may_plainly _ r (λ q so. may_come run (Build name) q so) comes)
comes_of run (Tour name) r comes = inl (may_plainly _ r (λ q so. may_come run (Tour name) q so) comes)
comes_of run (Load start cycles) r comes = inl (may_plainly _ r (λ q so. may_come run (Load start cycles) q so) comes)
comes_of run (Replay name captures) r comes = may_replay run name captures r comes
comes_of run (Show text) r comes = inl (may_plainly _ r (λ q so. may_come run (Show text) q so) comes)

-- ---- the fields of a run

-- The result is none of wrong words.
abbrev IsOther : Result Ending Fault → Type 0
IsOther (Err fault.Usage) = ⊥
IsOther r = Unit {0}

module _ {F : Type 0} (run : Run F) (err err' : Writing) (words : List (List ℕ)) (r : Result Ending Fault) (s : Status)
    (come : WordsComeTo run words r) (is : s ≡ status_for r) (tells : Tells err err' r) where
  known_usage_so : r ≡ Err fault.Usage → Known (status_for r).0 r
  known_usage_so same = subst (λ (x : Result Ending Fault). Known (status_for x).0 x) (sym same) known_usage

  known_so : Known s.0 r
  known_so = subst (λ (t : Status). Known t.0 r) (sym is) (elim come [
    | inl refused ↦ known_usage_so refused.0
    | inr (c, is_command, comes) ↦ elim (comes_of run c r comes) [
      | inl may ↦ known r may
      | inr more ↦ known_usage_so more.0
    ]
  ])

  -- what a status says of the result
  has : (t : Status) → s ≡ t → Has t.0 r
  has t same = subst (λ (x : Status). Has x.0 r) same known_so.0

  came : (q : Result Ending Fault) → IsOther q → r ≡ q → Came run err err' words q
  came q other same = elim come [
    | inl refused ↦ absurd (subst IsOther (sym same ∙ refused.0) other)
    | inr (c, is_command, comes) ↦ record {
      command = c;
      is_command = is_command;
      comes_to = subst (λ (x : Result Ending Fault). ComesToEnd run c x) same comes;
      tells = subst (λ (x : Result Ending Fault). Tells err err' x) same tells;
    }
  ]

  came_by : (f : Fault) (e : Ending) → IsOther (Err f) → (r ≡ Err f) ⊎ (r ≡ Ok e) → CameBy run err err' words f e
  came_by f e other (inl same) = inl (came (Err f) other same)
  came_by f e other (inr same) = inr (came (Ok e) tt same)

  usage : s ≡ status.USAGE → (IsNoCommand words × (run.world' ≡ run.world) × (run.out' ≡ run.out)) ⊎ HasTooMany run words
  usage same = elim come [
    | inl refused ↦ inl (refused.1, refused.2, refused.3)
    | inr (c, is_command, comes) ↦ elim (comes_of run c r comes) [
      | inl may ↦ absurd (subst MayCome (has status.USAGE same) may)
      | inr (u, name, captures, c_is, more) ↦
          inr (record {
            description = name;
            captures = captures;
            is_replay = subst (λ (x : Command). IsCommand words x) c_is is_command;
            more = more;
          })
    ]
  ]

  no_command : IsNoCommand words → s ≡ status.USAGE
  no_command none = elim come [
    | inl refused ↦ is ∙ ap status_for refused.0
    | inr (c, is_command, comes) ↦ absurd (none c is_command)
  ]

  -- what the command came to, whichever way it is named
  comes_as : (c : Command) → IsCommand words c → ComesToEnd run c r
  comes_as c is_command = elim come [
    | inl refused ↦ absurd (refused.1 c is_command)
    | inr (other, is_other, comes) ↦ subst (λ (x : Command). ComesToEnd run x r) (one_command words other c is_other is_command) comes
  ]

  decided_so : (held : List (List ℕ)) (c : Command) → IsQuiet run held → IsCommand words c
      → (s ≡ status.NO_MEMORY) ⊎ ((answer : Result Ending Fault) × DecidesEnd c held answer × (s ≡ status_for answer))
  decided_so held c quiet is_command = elim (decided_end run held quiet words c r is_command (comes_as c is_command)) [
    | inl none ↦ inl (is ∙ none)
    | inr decides ↦ inr (r, decides, is)
  ]

  complete : (held : List (List ℕ)) (c : Command) (answer : Result Ending Fault) → IsQuiet run held → IsCommand words c → DecidesEnd c held answer
      → (s ≡ status_for answer) ⊎ (s ≡ status.NO_MEMORY)
  complete held c answer quiet is_command decides = elim (decided_end run held quiet words c r is_command (comes_as c is_command)) [
    | inl none ↦ inr (is ∙ none)
    | inr so ↦ inl (is ∙ ap status_for (one_end_answer c held r answer so decides))
  ]

  shows : (text : List ℕ) → IsCommand words (Show text) → (Rose run.out.faults run.out'.faults → ⊥) → s ≡ status.OK
  shows text is_show fine = is ∙ ap status_for (shown_plainly (ComesTo run (Show text)) text run.out run.out' r fine (λ q so. so.1) (comes_as (Show text) is_show))

  pub ran : RanWords run err err' words s
  ran = record {
    ok = λ same. came (Ok ending.Clean) tt (has status.OK same);
    usage = usage;
    no_command = no_command;
    description = λ same. let f = has status.DESCRIPTION same in (f.0, came (Err (fault.Description f.0)) tt f.1);
    script = λ same. let n = has status.SCRIPT same in (n.0, came (Err (fault.Script n.0)) tt n.1);
    read_fault = λ same. came_by fault.ReadFault ending.ReadFault tt (has status.READ_FAULT same);
    write_fault = λ same. came (Err fault.WriteFault) tt (has status.WRITE_FAULT same);
    malformed = λ same. let f = has status.MALFORMED same in (f.0, f.1, came_by (fault.Malformed f.0 f.1) (ending.Malformed f.0 f.1) tt f.2);
    truncated = λ same. let f = has status.TRUNCATED same in (f.0, came_by (fault.Truncated f.0) (ending.Truncated f.0) tt f.1);
    too_long = λ same. came_by fault.TooLong ending.TooLong tt (has status.TOO_LONG same);
    no_memory = λ same. came_by fault.NoMemory ending.NoMemory tt (has status.NO_MEMORY same);
    listed = known_so.1;
    decided = decided_so;
    complete = complete;
    shows = shows;
    told = (r, is, tells);
  }

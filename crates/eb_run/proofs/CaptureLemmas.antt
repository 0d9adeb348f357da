-- What the captures of a replay came to, and what decides it.
use Rattle.std.proofs.Common.{◌≡◌, ◌≢◌, ◌⊎◌, inl, inr, ℕ, ◌+◌, ◌<◌, ◌≤◌, suc, List, [], ◌∷◌, ◌++◌, length, Option, Some, None, Result, Ok, Err, refl, sym, ◌∙◌, ap, subst, arith}
use Rattle.std.specs.Prelude.{⊤, All, slice_index_or}
use Rattle.std.specs.Option.{IfSome}
use Rattle.std.specs.Io.KnownBytes.{prepend_known}
use Rattle.std.proofs.lemmas.List.{append_assoc}
use Rattle.std.proofs.lemmas.List.Elements.{All-cons}
use Rattle.eb_base.specs.declared.width.Width.TheVariants.{W32}
use Rattle.eb_io.specs.Counts.{Rose}
use Rattle.eb_io.specs.Reading.{Reading, Gave}
use Rattle.eb_io.specs.Writing.{Writing, Octets, Took}
use Rattle.eb_io.specs.Outside.{Outside, IsFresh}
use Rattle.eb_codec.specs.Stream.{StreamItem}
use Rattle.wb_signals.specs.History.{Entry, own, given}
use Rattle.wb_signals.specs.declared.answer.Answer.{Answer as BusAnswer}
use Rattle.soc_journal.specs.Growth.{AllOf}
use Rattle.soc_journal.proofs.GrowthLemmas.{AllOf-own}
use Rattle.eb_session.specs.declared.slave.Slave.{Slave}
use Rattle.eb_session.specs.Replies.{sets_of, replies}
use Rattle.eb_server.specs.Serving.{EndsAs, HaveRun, WereAnswered}
use Rattle.eb_server.specs.declared.ending.Ending.{Ending}
use Rattle.eb_server.specs.declared.ending.Ending.TheVariants as ending
use Rattle.eb_server.proofs.EndingLemmas.{ends_so, only_ending}
use Rattle.soc_desc.specs.Described.{described}
use Rattle.soc_desc.specs.declared.description.Description.{Description}
use Rattle.eb_replay.specs.Ports.{PortOutcome, HasReplayed, ServedFile, but_given}
use Rattle.eb_replay.specs.Replay.{ReplayState, Replays, replay_slave}
use Rattle.eb_replay.specs.Text.{replay_text, first_unclean, unclean_or}
use Rattle.eb_text.specs.Command.{Command, AnswerRam, Answer, Sim, Build, Tour, Load, Replay, Show, IsCommand}
use Rattle.eb_text.specs.declared.status.TheConstants.Status as status
use Rattle.eb_text.specs.declared.fault.Fault.{Fault}
use Rattle.eb_text.specs.declared.fault.Fault.TheVariants as fault
use Rattle.eb_run.specs.Run.{Run}
use Rattle.eb_run.specs.Files.{IsDescribed, NoFileOpened}
use Rattle.eb_run.specs.Commands.{SendsText, Plainly, ComesTo}
use Rattle.eb_run.specs.Captures.{OpenedFront, SendsEnd, ReplayedFiles}
use Rattle.eb_run.specs.Top.{ComesToEnd, status_for, HoldsOctets, AllHold, IsQuiet, Decides, DecidesEnd, FirstEndsAs}
use Rattle.eb_run.proofs.StatusLemmas.{MayFail, MayCome}
use Rattle.eb_run.proofs.QuietLemmas.{are_quiet, decided, described_so, gave_of, ill, not_both, one_answer, one_description, one_held, one_refusal, read_well, same_described, shown_well, told_is}

-- ---- endings

not_as : (e rest bad : Ending) → (e ≢ bad) → (rest ≢ bad) → unclean_or e rest ≢ bad
not_as ending.Clean rest bad unlike none is = none is
not_as (ending.Truncated n) rest bad unlike none is = unlike is
not_as (ending.Malformed place why) rest bad unlike none is = unlike is
not_as ending.ReadFault rest bad unlike none is = unlike is
not_as ending.WriteFault rest bad unlike none is = unlike is
not_as ending.TooLong rest bad unlike none is = unlike is
not_as ending.NoMemory rest bad unlike none is = unlike is

none_so : (ports : List PortOutcome) (bad : Ending) → (ending.Clean ≢ bad) → ((i : ℕ) (p : PortOutcome) → i < length ports → (slice_index_or ports i p).ending ≢ bad) → first_unclean ports ≢ bad
none_so [] bad unclean none = unclean
none_so (p ∷ ports) bad unclean none =
    not_as p.ending (first_unclean ports) bad (none 0 p (omega arith)) (none_so ports bad unclean (λ i d lt. none (suc i) d (omega (arith, lt))))

no_write : (s : Slave) (octets : List ℕ) (items : List StreamItem) (e : Ending) → HasReplayed s octets items e → e ≢ ending.WriteFault
no_write s octets items e ran is = subst (λ (x : Ending). HasReplayed s octets items x) is ran

pub no_write_ends : {F : Type 0} (reading : F → Reading) (d : Description) (files files' : List F) (r : ReplayState) → Replays reading d files files' r → F → first_unclean r.ports ≢ ending.WriteFault
no_write_ends reading d files files' r replays some =
    none_so r.ports ending.WriteFault (λ is. cc) (λ i p lt.
    let served = replays.served i some some p (omega (arith, lt, replays.ports_count)) in
    no_write (replay_slave d) served.octets served.items (slice_index_or r.ports i p).ending served.ran)

may_be : (e : Ending) → e ≢ ending.WriteFault → MayCome (Ok e)
may_be ending.Clean unlike = tt
may_be (ending.Truncated n) unlike = tt
may_be (ending.Malformed place why) unlike = tt
may_be ending.ReadFault unlike = tt
may_be ending.WriteFault unlike = absurd (unlike refl)
may_be ending.TooLong unlike = tt
may_be ending.NoMemory unlike = tt

may_tell_clean : (out out' : Writing) (text : List ℕ) (r : Result Ending Fault) → Plainly (SendsText out out' text) r → MayCome r
may_tell_clean out out' text (Ok e) sends = subst (λ (x : Ending). MayCome (Ok x)) (sym sends.0) tt
may_tell_clean out out' text (Err f) sends = subst MayFail (sym sends.0) tt

pub may_tell : (out out' : Writing) (text : List ℕ) (e : Ending) (r : Result Ending Fault) → e ≢ ending.WriteFault → SendsEnd out out' text e r → MayCome r
may_tell out out' text ending.Clean r unlike sends = may_tell_clean out out' text r sends
may_tell out out' text (ending.Truncated n) r unlike sends = subst MayCome (sym sends.0) tt
may_tell out out' text (ending.Malformed place why) r unlike sends = subst MayCome (sym sends.0) tt
may_tell out out' text ending.ReadFault r unlike sends = subst MayCome (sym sends.0) tt
may_tell out out' text ending.WriteFault r unlike sends = absurd (unlike refl)
may_tell out out' text ending.TooLong r unlike sends = subst MayCome (sym sends.0) tt
may_tell out out' text ending.NoMemory r unlike sends = subst MayCome (sym sends.0) tt

-- ---- what was written

pub shown_plainly : (comes : Result ⊤ Fault → Type 0) (text : List ℕ) (out out' : Writing) (r : Result Ending Fault) → (Rose out.faults out'.faults → ⊥)
    → ((q : Result ⊤ Fault) → comes q → SendsText out out' text q) → Plainly comes r → r ≡ Ok ending.Clean
shown_plainly comes text out out' (Ok e) fine sends so = ap (λ (x : Ending). Ok x) so.0
shown_plainly comes text out out' (Err f) fine sends so = let well : ◌≡◌ {A = Result ⊤ Fault} (Err f) (Ok tt) = shown_well text out out' (Err f) fine (sends (Err f) so) in absurd (cc)

-- where no write failed, the answer is the ending that the text tells
sent_well : (text : List ℕ) (out out' : Writing) (e : Ending) (r : Result Ending Fault) → (Rose out.faults out'.faults → ⊥) → SendsEnd out out' text e r → r ≡ Ok e
sent_well text out out' ending.Clean r fine sends = shown_plainly (SendsText out out' text) text out out' r fine (λ q so. so) sends
sent_well text out out' (ending.Truncated n) r fine sends = sends.0
sent_well text out out' (ending.Malformed place why) r fine sends = sends.0
sent_well text out out' ending.ReadFault r fine sends = sends.0
sent_well text out out' ending.WriteFault r fine sends = sends.0
sent_well text out out' ending.TooLong r fine sends = sends.0
sent_well text out out' ending.NoMemory r fine sends = sends.0

-- ---- one capture

-- what a file had left before it gave octets, where it holds all of these
left_of : (old new : Reading) (octets all : List ℕ) → Gave (but_given old) (but_given new) octets → IfSome new.given (λ g. g ≡ octets) → HoldsOctets new all → old.left ≡ Some all
left_of old new octets all gave told holds =
    let given : holds.given ≡ octets = told_is new.given holds.given octets holds.given_is told in
    let left : old.left ≡ Some (octets ++ holds.left) = gave.next ∙ ap (λ (k : Option (List ℕ)). prepend_known octets k) holds.left_is in
    let whole : octets ++ holds.left ≡ all = ap (λ (l : List ℕ). l ++ holds.left) (sym given) ∙ sym holds.all in
    left ∙ ap (λ (l : List ℕ). Some l) whole

-- either there was no memory, or the items ran as those of a stream that is served alone, with their replies written
abbrev RanSo : Slave → List ℕ → List StreamItem → List BusAnswer → Writing → Writing → Ending → Type 0
RanSo s octets items answers w w' e = (e ≡ ending.NoMemory) ⊎ (HaveRun s octets items e × WereAnswered s w w' items answers e)

ran_so : (s : Slave) (octets : List ℕ) (items : List StreamItem) (answers : List BusAnswer) (w w' : Writing) → Took w w' (replies s items answers) → (e : Ending) → HasReplayed s octets items e
    → RanSo s octets items answers w w' e
ran_so s octets items answers w w' took ending.Clean ran = inr (ran, took)
ran_so s octets items answers w w' took (ending.Truncated n) ran = inr (ran, took)
ran_so s octets items answers w w' took (ending.Malformed place why) ran = inr (ran, took)
ran_so s octets items answers w w' took ending.ReadFault ran = inr (ran, took)
ran_so s octets items answers w w' took ending.WriteFault ran = absurd ran
ran_so s octets items answers w w' took ending.TooLong ran = inr (ran, took)
ran_so s octets items answers w w' took ending.NoMemory ran = inl refl

all_mine : (m : ℕ) (entries : List Entry) → AllOf m entries → All (λ (x : Entry). x.master ≡ m) entries
all_mine m [] all = λ k d lt. absurd (omega (arith, lt))
all_mine m (e ∷ entries) all = All-cons (λ (x : Entry). x.master ≡ m) e entries all.0 (all_mine m entries all.1)

-- a capture that was replayed ended as its octets end, or memory was wanting
port_end : (s : Slave) (m : ℕ) (journal : List Entry) (file file' : Reading) (port : PortOutcome) (whole : List ℕ) → ServedFile s file file' (own m journal) port → file.faults ≡ 0
    → (Rose 0 file'.faults → ⊥) → HoldsOctets file' whole → EndsAs (sets_of s.bus) whole port.ending ⊎ (port.ending ≡ ending.NoMemory)
port_end s m journal file file' port whole served fresh fine holds =
    let entries = own m journal in
    let w : Writing = record { written = Octets []; faults = 0 } in
    let w' : Writing = record { written = Octets port.reply; faults = 0 } in
    let took : Took w w' (replies s served.items (given entries)) = record { written = ap (λ (l : List ℕ). Octets l) served.replied; faults = refl } in
    let P : ℕ → Type 0 = λ n. Rose n file'.faults in
    let none_rose : Rose file.faults file'.faults → ⊥ = λ rose. fine (subst P fresh rose) in
    let gave = gave_of (but_given file) (but_given file') served.octets port.ending served.read none_rose in
    let left = left_of file file' served.octets whole gave served.told holds in
    elim (ran_so s served.octets served.items (given entries) w w' took port.ending served.ran) [
      | inl none ↦ inr none
      | inr so ↦ ends_so m s (record { made = []; opened = [] }) (record { made = entries; opened = [] }) (but_given file) (but_given file') w w' port.ending whole
          (record {
            octets = served.octets;
            items = served.items;
            entries = entries;
            read = served.read;
            ran = so.0;
            none_open = refl;
            made = refl;
            mine = all_mine m entries (AllOf-own m journal);
            fit = served.fit;
            answered = so.1;
          })
          left none_rose (λ rose. omega (arith, rose.0, rose.1))
    ]

-- ---- all captures

first_of : (e rest : Ending) (octets : List ℕ) (held : List (List ℕ)) → EndsAs (sets_of W32) octets e → (rest ≡ ending.NoMemory) ⊎ FirstEndsAs held rest
    → (unclean_or e rest ≡ ending.NoMemory) ⊎ FirstEndsAs (octets ∷ held) (unclean_or e rest)
first_of ending.Clean rest octets held so (inl none) = inl none
first_of ending.Clean rest octets held so (inr more) = inr (inl (so, more))
first_of (ending.Truncated n) rest octets held so more = inr (inr (so, λ is. cc))
first_of (ending.Malformed place why) rest octets held so more = inr (inr (so, λ is. cc))
first_of ending.ReadFault rest octets held so more = inr (inr (so, λ is. cc))
first_of ending.WriteFault rest octets held so more = inr (inr (so, λ is. cc))
first_of ending.TooLong rest octets held so more = inr (inr (so, λ is. cc))
first_of ending.NoMemory rest octets held so more = inl refl

none_of : (e rest : Ending) → e ≡ ending.NoMemory → unclean_or e rest ≡ ending.NoMemory
none_of e rest is = ap (λ (x : Ending). unclean_or x rest) is

-- each ended as its octets end, or memory was wanting
abbrev EachEnds : {F : Type 0} → (F → Reading) → List F → List PortOutcome → Type 0
EachEnds {F} reading files ports = (i : ℕ) (f : F) (p : PortOutcome) → i < length ports → (whole : List ℕ) → HoldsOctets (reading (slice_index_or files i f)) whole
    → EndsAs (sets_of W32) whole (slice_index_or ports i p).ending ⊎ ((slice_index_or ports i p).ending ≡ ending.NoMemory)

all_end : {F : Type 0} (reading : F → Reading) (files : List F) (held : List (List ℕ)) (ports : List PortOutcome) → length ports ≡ length files → AllHold reading files held → EachEnds reading files ports
    → (first_unclean ports ≡ ending.NoMemory) ⊎ FirstEndsAs held (first_unclean ports)
all_end reading [] [] [] as_many hold each = inr refl
all_end reading [] [] (p ∷ ports) as_many hold each = absurd (omega (arith, as_many))
all_end reading [] (o ∷ held) ports as_many hold each = absurd hold
all_end reading (f ∷ files) [] ports as_many hold each = absurd hold
all_end reading (f ∷ files) (o ∷ held) [] as_many hold each = absurd (omega (arith, as_many))
all_end reading (f ∷ files) (o ∷ held) (p ∷ ports) as_many hold each =
    let more = all_end reading files held ports (omega (arith, as_many)) hold.1 (λ i g q lt. each (suc i) g q (omega (arith, lt))) in
    elim (each 0 f p (omega arith) o hold.0) [
      | inl so ↦ first_of p.ending (first_unclean ports) o held so more
      | inr none ↦ inl (none_of p.ending (first_unclean ports) none)
    ]

count_held : {F : Type 0} (reading : F → Reading) (files : List F) (held : List (List ℕ)) → AllHold reading files held → length held ≡ length files
count_held reading [] [] hold = refl
count_held reading [] (o ∷ held) hold = absurd hold
count_held reading (f ∷ files) [] hold = absurd hold
count_held reading (f ∷ files) (o ∷ held) hold = ap suc (count_held reading files held hold.1)

first_held : {F : Type 0} (reading : F → Reading) (file : F) (files : List F) (held : List (List ℕ)) → AllHold reading (file ∷ files) held
    → (text : List ℕ) × (rest : List (List ℕ)) × (held ≡ text ∷ rest) × HoldsOctets (reading file) text × AllHold reading files rest
first_held reading file files [] hold = absurd hold
first_held reading file files (o ∷ held) hold = (o, held, refl, hold.0, hold.1)

first_one : (held : List (List ℕ)) (a b : Ending) → FirstEndsAs held a → FirstEndsAs held b → a ≡ b
first_one [] a b x y = x ∙ sym y
first_one (o ∷ held) a b (inl x) (inl y) = first_one held a b x.1 y.1
first_one (o ∷ held) a b (inl x) (inr y) = absurd (y.1 (only_ending (sets_of W32) o b ending.Clean y.0 x.0))
first_one (o ∷ held) a b (inr x) (inl y) = absurd (x.1 (only_ending (sets_of W32) o a ending.Clean x.0 y.0))
first_one (o ∷ held) a b (inr x) (inr y) = only_ending (sets_of W32) o a b x.0 y.0

-- ---- what is decided

-- memory was wanting, or the octets decide this result
abbrev pub DecidedEnd : Command → List (List ℕ) → Result Ending Fault → Type 0
DecidedEnd c held r = (status_for r ≡ status.NO_MEMORY) ⊎ DecidesEnd c held r

-- the octets of at least one capture, as many as there are names
on_captures : (name : List ℕ) (captures : List (List ℕ)) (text : List ℕ) (rest : List (List ℕ)) (r : Result Ending Fault) (d : Description) (e : Ending) → captures ≢ [] → length rest ≡ length captures
    → described text ≡ Ok d → length captures ≤ d.masters → FirstEndsAs rest e → r ≡ Ok e → DecidesEnd (Replay name captures) (text ∷ rest) r
on_captures name [] text rest r d e some as_many found few first is = absurd (some refl)
on_captures name (c ∷ captures) text [] r d e some as_many found few first is = absurd (omega (arith, as_many))
on_captures name (c ∷ captures) text (o ∷ rest) r d e some as_many found few first is = (d, found, few, as_many, e, first, is)

module _ {F : Type 0} (run : Run F) (held : List (List ℕ)) (quiet : IsQuiet run held) where
  plainly_decided : (c : Command) (r : Result Ending Fault) → Plainly (ComesTo run c) r → (status_for r ≡ status.NO_MEMORY) ⊎ Plainly (Decides c held) r
  plainly_decided c (Ok e) so = elim (decided run held quiet c (Ok tt) so.1) [
    | inl none ↦ absurd (cc none)
    | inr decides ↦ inr (so.0, decides)
  ]
  plainly_decided c (Err f) so = elim (decided run held quiet c (Err f) so) [
    | inl none ↦ let same : f ≡ fault.NoMemory = cc none in inl (ap (λ (x : Fault). status_for (Err x)) same)
    | inr decides ↦ inr decides
  ]

  not_opened : (between last : Outside F) (name : List ℕ) (f : Fault) (r : Result Ending Fault) → last.faults ≡ run.world.faults → r ≡ Err f → NoFileOpened {T = ⊤} last run.world' name (Err f)
      → status_for r ≡ status.NO_MEMORY
  not_opened between last name f r as_before is (inl (so, failed)) = let P : ℕ → Type 0 = λ n. Rose n run.world'.faults in absurd (quiet.open_faults (subst P as_before failed.rose))
  not_opened between last name f r as_before is (inr (so, same)) = let none : f ≡ fault.NoMemory = cc so in ap status_for (is ∙ ap Err none)

  replayed : (name : List ℕ) (captures : List (List ℕ)) (r : Result Ending Fault) → captures ≢ [] → ComesToEnd run (Replay name captures) r → DecidedEnd (Replay name captures) held r
  replayed name captures r some (inl (f, is, reads, same)) = elim (ill run held quiet (λ l. DecidesEnd (Replay name captures) l r) name r f (λ text refused. inl refused) is reads) [
    | inl none ↦ inl (ap status_for none)
    | inr so ↦ inr so
  ]
  replayed name captures r some (inr (d, between, reads, inl (is, more, same, out))) =
      let read = read_well run.reading run.world between name IsDescribed d reads in
      let own_text = one_held run.reading read.1.file held (are_quiet run held quiet (read.1.file ∷ []) (ap (λ (w : Outside F). w.files) same ∙ read.1.read.files)).0 in
      let found : described own_text.0 ≡ Ok d = same_described run.reading run.world between name read.0 own_text.0 read.1 own_text.2 ∙ described_so read.0 d read.2 in
      inr (subst (λ (l : List (List ℕ)). DecidesEnd (Replay name captures) l r) (sym own_text.1) (inr (d, found, more, is)))
  replayed name captures r some (inr (d, between, reads, inr (inl (few, f, is, front, out)))) =
      let read = read_well run.reading run.world between name IsDescribed d reads in
      inl (not_opened between front.between front.name f r (front.opened_before.faults ∙ read.1.read.faults) is front.stopped)
  replayed name captures r some (inr (d, between, reads, inr (inr (few, ran)))) = elim ran.came [
    | inl none ↦ inl (ap status_for none.0)
    | inr (state, replays, sends) ↦
        let read = read_well run.reading run.world between name IsDescribed d reads in
        let files : run.world'.files ≡ run.world.files ++ read.1.file ∷ ran.files =
        ap (λ (w : Outside F). w.files) ran.world_is ∙ ap (λ (l : List F). l ++ ran.files) read.1.read.files ∙ append_assoc run.world.files (read.1.file ∷ []) ran.files in
        let are = are_quiet run held quiet (read.1.file ∷ ran.files) files in
        let parts = first_held run.reading read.1.file ran.files held are.0 in
        let found : described parts.0 ≡ Ok d = same_described run.reading run.world between name read.0 parts.0 read.1 parts.3 ∙ described_so read.0 d read.2 in
        let each : EachEnds run.reading ran.files state.ports =
        λ i g p lt whole holds.
        let served = replays.served i g g p (omega (arith, lt, replays.ports_count)) in
        let fresh = ran.opening.fresh i g (omega (arith, lt, replays.ports_count)) in
        port_end (replay_slave d) i state.journal (run.reading (slice_index_or ran.opening.opened i g)) (run.reading (slice_index_or ran.files i g)) (slice_index_or state.ports i p) whole served fresh.faults
        (are.1 (suc i) g (omega (arith, lt, replays.ports_count, replays.files_count))) holds in
        let well = sent_well (replay_text state) run.out run.out' (first_unclean state.ports) r quiet.write_faults sends in
        let count : length parts.1 ≡ length captures = count_held run.reading ran.files parts.1 parts.4 ∙ replays.files_count ∙ ran.opening.as_many in
        elim (all_end run.reading ran.files parts.1 state.ports (replays.ports_count ∙ sym replays.files_count) parts.4 each) [
          | inl none ↦ inl (ap status_for (well ∙ ap (λ (e : Ending). Ok e) none))
          | inr first ↦
              inr (subst (λ (l : List (List ℕ)). DecidesEnd (Replay name captures) l r) (sym parts.2) (on_captures name captures parts.0 parts.1 r d (first_unclean state.ports) some count found few first well))
        ]
  ]

  -- what a command came to is what the octets decide
  pub decided_end : (words : List (List ℕ)) (c : Command) (r : Result Ending Fault) → IsCommand words c → ComesToEnd run c r → DecidedEnd c held r
  decided_end words (AnswerRam size capture) r is comes = plainly_decided (AnswerRam size capture) r comes
  decided_end words (Answer name capture) r is comes = plainly_decided (Answer name capture) r comes
  decided_end words (Sim name script wave) r is comes = plainly_decided (Sim name script wave) r comes
  decided_end words (Build name) r is comes = plainly_decided (Build name) r comes
  decided_end words (Tour name) r is comes = plainly_decided (Tour name) r comes
  decided_end words (Load start cycles) r is comes = plainly_decided (Load start cycles) r comes
  decided_end words (Replay name captures) r is comes = replayed name captures r is.some comes
  decided_end words (Show text) r is comes = plainly_decided (Show text) r comes

-- ---- they decide one answer

plainly_one : (c : Command) (held : List (List ℕ)) (a b : Result Ending Fault) → Plainly (Decides c held) a → Plainly (Decides c held) b → a ≡ b
plainly_one c held (Ok x) (Ok y) p q = ap (λ (e : Ending). Ok e) (p.0 ∙ sym q.0)
plainly_one c held (Ok x) (Err g) p q = absurd (cc (one_answer c held (Ok tt) (Err g) p.1 q))
plainly_one c held (Err f) (Ok y) p q = absurd (cc (one_answer c held (Err f) (Ok tt) p q.1))
plainly_one c held (Err f) (Err g) p q = let same : f ≡ g = cc (one_answer c held (Err f) (Err g) p q) in ap (λ (x : Fault). Err x) same

too_many_or_not : (text : List ℕ) (captures : List (List ℕ)) (a b : Result Ending Fault) → DecidesEnd (Replay [] captures) (text ∷ []) a → DecidesEnd (Replay [] captures) (text ∷ []) b → a ≡ b
too_many_or_not text captures a b (inl x) (inl y) = one_refusal text a b x y
too_many_or_not text captures a b (inl x) (inr y) = absurd (not_both text y.0 a y.1 x)
too_many_or_not text captures a b (inr x) (inl y) = absurd (not_both text x.0 b x.1 y)
too_many_or_not text captures a b (inr x) (inr y) = x.3 ∙ sym y.3

pub one_end_answer : (c : Command) (held : List (List ℕ)) (a b : Result Ending Fault) → DecidesEnd c held a → DecidesEnd c held b → a ≡ b
one_end_answer (AnswerRam size capture) held a b x y = plainly_one (AnswerRam size capture) held a b x y
one_end_answer (Answer name capture) held a b x y = plainly_one (Answer name capture) held a b x y
one_end_answer (Sim name script wave) held a b x y = plainly_one (Sim name script wave) held a b x y
one_end_answer (Build name) held a b x y = plainly_one (Build name) held a b x y
one_end_answer (Tour name) held a b x y = plainly_one (Tour name) held a b x y
one_end_answer (Load start cycles) held a b x y = plainly_one (Load start cycles) held a b x y
one_end_answer (Replay name captures) [] a b x y = absurd x
one_end_answer (Replay name captures) (text ∷ []) a b x y = too_many_or_not text captures a b x y
one_end_answer (Replay name captures) (text ∷ o ∷ held) a b x y = x.6 ∙ ap (λ (e : Ending). Ok e) (first_one (o ∷ held) x.4 y.4 x.5 y.5) ∙ sym y.6
one_end_answer (Show text) held a b x y = plainly_one (Show text) held a b x y

-- What a served link to a capture says of its file.
use Rattle.std.proofs.Common.{◌≡◌, ℕ, ◌+◌, ◌<◌, ◌≤◌, Bool, true, false, List, [], length, Option, None, Some, refl, sym, ap, ◌∙◌, subst, arith, length-append, inl, inr}
use Rattle.std.specs.Prelude.{IfSome}
use Rattle.std.specs.Io.KnownBytes.{prepend_known}
use Rattle.eb_io.specs.Outside.{IsFresh}
use Rattle.eb_io.specs.Reading.{Reading, Gave, ReadFailed}
use Rattle.eb_io.specs.Writing.{Told, Octets, Took, WroteFront}
use Rattle.eb_codec.specs.Stream.{StreamItem}
use Rattle.wb_signals.specs.History.{Entry, given}
use Rattle.wb_signals.specs.Cycles.{MasterCycles}
use Rattle.wb_signals.specs.declared.answer.Answer.{Answer}
use Rattle.eb_session.specs.declared.slave.Slave.{Slave}
use Rattle.eb_session.specs.Cycles.{Fit}
use Rattle.eb_session.specs.Replies.{replies}
use Rattle.eb_server.specs.declared.ending.Ending.{Ending}
use Rattle.eb_server.specs.declared.ending.Ending.TheVariants as ending
use Rattle.eb_server.specs.Serving.{most_octets, Served, WasRead, HaveRun, WereAnswered, AllRan, BeginOctets}
use Rattle.eb_replay.specs.Capture.{CaptureState, IsCapture, new_capture, capture_reading, capture_writing}
use Rattle.eb_replay.specs.Ports.{told_ending, but_given, HasReplayed, ServedFile}
use Rattle.eb_replay.proofs.ShortLemmas.{replies_short}

abbrev list_in : Option (List ℕ) → List ℕ
list_in None = []
list_in (Some xs) = xs

abbrev list_of : Told → List ℕ
list_of (Octets xs) = xs
list_of told = []

abbrev no_cycles : MasterCycles
no_cycles = record { made = []; opened = [] }

module _ {F : Type 0} (reading : F → Reading) (s : Slave) (file : F) (fresh : IsFresh (reading file)) (c : CaptureState F) (kept : IsCapture reading c) where
  -- What the file gave, which items ran and what was replied, where the stream is told to have ended so.
  abbrev IsTold : List ℕ → List StreamItem → List Answer → Ending → Type 0
  IsTold octets items answers e =
      WasRead (but_given (reading file)) (but_given (reading c.file)) octets e × HasReplayed s octets items e × (c.octets ≡ octets) × (c.replies ≡ replies s items answers)

  by_refused : (b : Bool) → c.refused ≡ b → c.read_faults ≡ 0 → c.refused ≡ false
  by_refused true is none = let some : 0 < c.read_faults = (kept.room_refused is).0 in absurd (omega (arith, some, none))
  by_refused false is none = is

  not_refused : c.read_faults ≡ 0 → c.refused ≡ false
  not_refused none = by_refused c.refused refl none

  gave_file : (octets : List ℕ) → Gave (capture_reading reading (new_capture file)) (capture_reading reading c) octets
      → Gave (but_given (reading file)) (but_given (reading c.file)) octets
  gave_file octets gave = record { next = gave.next; given = refl; faults = kept.quiet gave.faults ∙ sym fresh.faults }

  gave_octets : (octets : List ℕ) → Gave (capture_reading reading (new_capture file)) (capture_reading reading c) octets → c.octets ≡ octets
  gave_octets octets gave = ap list_in gave.given

  whole : (xs : List ℕ) → Took (capture_writing (new_capture file)) (capture_writing c) xs → c.replies ≡ xs
  whole xs took = ap list_of took.written

  -- no write fails, since replies are no longer than what they answer
  no_fault : (octets : List ℕ) (items : List StreamItem) (answers : List Answer) → c.octets ≡ octets → BeginOctets s octets items
      → WroteFront (capture_writing (new_capture file)) (capture_writing c) (replies s items answers) → ⊥
  no_fault octets items answers same begins wrote =
      let some : 0 < c.write_faults = omega (arith, wrote.rose.1) in
      let none : c.unanswered ≡ 0 = kept.answered some in
      let count : length c.octets ≡ length c.replies + c.unanswered = kept.count in
      let read : length c.octets ≡ length octets = ap length same in
      let written : length c.replies ≡ length wrote.front = ap (λ (t : Told). length (list_of t)) wrote.written in
      let parts : length (replies s items answers) ≡ length wrote.front + length wrote.back = ap length wrote.parts ∙ length-append wrote.front wrote.back in
      let left : 0 < length wrote.back = wrote.some_left in
      let front : length octets ≡ length begins.0 + length begins.1 = ap length begins.2 ∙ length-append begins.0 begins.1 in
      let short : length (replies s items answers) ≤ length begins.0 = replies_short s None 0 items answers begins.0 begins.3 in
      omega (arith, none, count, read, written, parts, left, front, short)

  -- a read failed: that of the file, or room was refused
  by_fault : (b : Bool) → c.refused ≡ b → (octets : List ℕ) (items : List StreamItem) (answers : List Answer)
      → length octets < most_octets → (mid : Reading) → Gave (capture_reading reading (new_capture file)) mid octets → ReadFailed mid (capture_reading reading c)
      → AllRan s octets items → Took (capture_writing (new_capture file)) (capture_writing c) (replies s items answers)
      → IsTold octets items answers (told_ending b ending.ReadFault)
  by_fault b is octets items answers few mid gave failed ran took =
      let same : c.octets ≡ octets = ap list_in (failed.given ∙ gave.given) in
      let next : (reading file).left ≡ prepend_known octets (reading c.file).left = gave.next ∙ ap (prepend_known octets) (sym failed.left) in
      let some : 0 < c.read_faults = omega (arith, failed.rose.1, gave.faults) in
      elim b as (λ q. c.refused ≡ q → IsTold octets items answers (told_ending q ending.ReadFault)) [
        | true ↦ λ refused. (
          (omega (arith, few), record { next = next; given = refl; faults = (kept.room_refused refused).1 ∙ sym fresh.faults }),
          inr ran,
          same,
          whole _ took,
        )
        | false ↦ λ refused.
            let rose : 0 < (reading c.file).faults = kept.file_failed some took.faults refused in (
              (
                few,
                record { given = None; left = (reading c.file).left; faults = (reading file).faults },
                record { next = next; given = refl; faults = refl },
                record { left = refl; given = refl; rose = (omega (arith, fresh.faults), omega (arith, rose, fresh.faults)) },
              ),
              ran,
              same,
              whole _ took,
            )
      ] is

  tells : (octets : List ℕ) (items : List StreamItem) (answers : List Answer) (e : Ending)
      → WasRead (capture_reading reading (new_capture file)) (capture_reading reading c) octets e → HaveRun s octets items e
      → WereAnswered s (capture_writing (new_capture file)) (capture_writing c) items answers e → IsTold octets items answers (told_ending c.refused e)
  tells octets items answers ending.Clean read ran took =
      subst (λ (b : Bool). IsTold octets items answers (told_ending b ending.Clean)) (sym (not_refused read.2.faults))
      ((read.0, read.1, gave_file octets read.2), ran, gave_octets octets read.2, whole _ took)
  tells octets items answers (ending.Truncated n) read ran took =
      subst (λ (b : Bool). IsTold octets items answers (told_ending b (ending.Truncated n))) (sym (not_refused read.2.faults))
      ((read.0, read.1, gave_file octets read.2), ran, gave_octets octets read.2, whole _ took)
  tells octets items answers (ending.Malformed p why) read ran took =
      subst (λ (b : Bool). IsTold octets items answers (told_ending b (ending.Malformed p why))) (sym (not_refused read.1.faults))
      ((read.0, gave_file octets read.1), ran, gave_octets octets read.1, whole _ took)
  tells octets items answers ending.ReadFault read ran took =
      by_fault c.refused refl octets items answers read.0 read.1 read.2 read.3 ran took
  tells octets items answers ending.WriteFault read ran wrote = absurd (no_fault octets items answers (gave_octets octets read.1) ran wrote)
  tells octets items answers ending.TooLong read ran took =
      subst (λ (b : Bool). IsTold octets items answers (told_ending b ending.TooLong)) (sym (not_refused read.1.faults))
      ((read.0, gave_file octets read.1), ran, gave_octets octets read.1, whole _ took)
  tells octets items answers ending.NoMemory read ran took =
      subst (λ (b : Bool). IsTold octets items answers (told_ending b ending.NoMemory)) (sym (not_refused read.1.faults))
      ((read.0, gave_file octets read.1), inl ran, gave_octets octets read.1, whole _ took)

  -- A link that was served by a master that had made nothing: its file was.
  pub served_file : (m : ℕ) (after : MasterCycles) (e : Ending)
      → Served m s no_cycles after (capture_reading reading (new_capture file)) (capture_reading reading c) (capture_writing (new_capture file)) (capture_writing c) e
      → ServedFile s (reading file) (reading c.file) after.made (record { ending = told_ending c.refused e; reply = c.replies })
  served_file m after e served =
      let told = tells served.octets served.items (given served.entries) e served.read served.ran served.answered in
      let made : served.entries ≡ after.made = sym served.made in
      record {
        octets = served.octets;
        items = served.items;
        read = told.0;
        told = subst (λ (xs : List ℕ). IfSome (reading c.file).given (λ all. all ≡ xs)) told.2 kept.given;
        ran = told.1;
        fit = subst (λ (es : List Entry). Fit s.bus served.items es) made served.fit;
        replied = told.3 ∙ ap (λ (es : List Entry). replies s served.items (given es)) made;
      }

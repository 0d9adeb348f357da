-- What the command `replay` came to, from its steps.
use Rattle.std.proofs.Common.{◌≡◌, ℕ, ◌+◌, ◌<◌, ◌≤◌, List, [], ◌∷◌, ◌++◌, length, Result, Ok, Err, inl, inr, refl, sym, ◌∙◌, ap, subst, arith, length-append}
use Rattle.std.specs.Result.{IsErr, IsErrAnd}
use Rattle.eb_base.specs.declared.memory.NoMemory.{NoMemory}
use Rattle.eb_io.specs.Reading.{Reading}
use Rattle.eb_io.specs.Outside.{Outside}
use Rattle.eb_server.specs.declared.ending.Ending.{Ending}
use Rattle.soc_desc.specs.declared.description.Description.{Description}
use Rattle.eb_replay.specs.Replay.{ReplayState, Replays}
use Rattle.eb_replay.specs.Text.{replay_text, first_unclean}
use Rattle.eb_text.specs.Command.{Replay}
use Rattle.eb_text.specs.declared.fault.Fault.{Fault}
use Rattle.eb_text.specs.declared.fault.Fault.TheVariants as fault
use Rattle.eb_run.specs.Run.{Run}
use Rattle.eb_run.specs.Files.{ReadsDescription}
use Rattle.eb_run.specs.Captures.{OpenedFiles, OpenedFront, SendsEnd, ReplayedFiles, ReplaysLast}
use Rattle.eb_run.specs.Top.{ComesToEnd}
use Rattle.eb_run.proofs.OpenLemmas.{same_parts}

module _ {F : Type 0} (reading : F → Reading) (d : Description) (old mid new : Outside F) (names : List (List ℕ)) (count : ℕ) (is : count ≡ length names) (opened : OpenedFiles reading old mid names) where
  parts : (ran : Result ReplayState NoMemory) → (last : ReplaysLast reading d count mid new ran) → (old.files ≡ last.others) × (opened.opened ≡ last.files)
  parts ran last = same_parts old.files opened.opened last.others last.files (sym opened.files ∙ last.old_are) (opened.as_many ∙ sym is ∙ sym last.as_many)

  world_is : (ran : Result ReplayState NoMemory) → (last : ReplaysLast reading d count mid new ran) → new ≡ record mid { files = old.files ++ last.files' }
  world_is ran last = last.new_is ∙ (λ i. record mid { files = sym (parts ran last).0 i ++ last.files' })

  was_replayed : (r : ReplayState) (last : ReplaysLast reading d count mid new (Ok r)) → Replays reading d opened.opened last.files' r
  was_replayed r last = subst (λ (l : List F). Replays reading d l last.files' r) (sym (parts (Ok r) last).1) last.replayed

  as_opened : (none : NoMemory) (last : ReplaysLast reading d count mid new (Err none)) → last.files' ≡ opened.opened
  as_opened none last = last.refused ∙ sym (parts (Err none) last).1

module _ {F : Type 0} (run : Run F) (name : List ℕ) (captures : List (List ℕ)) (d : Description) (between : Outside F) (reads : ReadsDescription run.reading run.world between name (Ok d)) where
  pub comes_too_many : run.world' ≡ between → run.out' ≡ run.out → d.masters < length captures → ComesToEnd run (Replay name captures) (Err fault.Usage)
  comes_too_many same out more = inr (d, between, reads, inl (refl, more, same, out))

  pub comes_unopened : (f : Fault) → length captures ≤ d.masters → OpenedFront run.reading between run.world' captures f → run.out' ≡ run.out → ComesToEnd run (Replay name captures) (Err f)
  comes_unopened f few front out = inr (d, between, reads, inr (inl (few, f, refl, front, out)))

  pub comes_unopened_by : (r : Result Ending Fault) (f : Fault) → IsErr r → IsErrAnd r (λ e. e ≡ f) → length captures ≤ d.masters → OpenedFront run.reading between run.world' captures f → run.out' ≡ run.out
      → ComesToEnd run (Replay name captures) r
  comes_unopened_by (Ok e) f is gives few front out = absurd (cc)
  comes_unopened_by (Err g) f is gives few front out = comes_unopened g few (subst (λ (x : Fault). OpenedFront run.reading between run.world' captures x) (sym gives) front) out

  module _ (mid : Outside F) (count : ℕ) (is : count ≡ length captures) (few : length captures ≤ d.masters) (opened : OpenedFiles run.reading between mid captures) where
    pub comes_replayed : (r : ReplayState) (result : Result Ending Fault) → ReplaysLast run.reading d count mid run.world' (Ok r) → SendsEnd run.out run.out' (replay_text r) (first_unclean r.ports) result
        → ComesToEnd run (Replay name captures) result
    comes_replayed r result last sends =
        inr (
          d,
          between,
          reads,
          inr (inr (
            few,
            record {
              between = mid;
              opening = opened;
              files = last.files';
              world_is = world_is run.reading d between mid run.world' captures count is opened (Ok r) last;
              came = inr (r, was_replayed run.reading d between mid run.world' captures count is opened r last, sends);
            },
          )),
        )

    pub comes_unreplayed : (none : NoMemory) → ReplaysLast run.reading d count mid run.world' (Err none) → run.out' ≡ run.out → ComesToEnd run (Replay name captures) (Err fault.NoMemory)
    comes_unreplayed none last out =
        inr (
          d,
          between,
          reads,
          inr (inr (
            few,
            record {
              between = mid;
              opening = opened;
              files = last.files';
              world_is = world_is run.reading d between mid run.world' captures count is opened (Err none) last;
              came = inl (refl, as_opened run.reading d between mid run.world' captures count is opened none last, out);
            },
          )),
        )

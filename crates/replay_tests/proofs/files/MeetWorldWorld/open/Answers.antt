-- The name is noted, and then its file added.
use Rattle.std.proofs.Common.{rules, ◌≡◌, ◌++◌, ◌∷◌, [], false, List, refl, ap, ◌∙◌}
use Rattle.std.specs.Result.{is_err}
use Rattle.eb_io.specs.Outside.{IsFresh}
use Rattle.eb_io.proofs.WorldLemmas.{at_ok}
use Rattle.replay_tests.specs.Untold.{no_reading}
use Rattle.replay_tests.specs.declared.files.MeetFile.{MeetFile}
use Rattle.replay_tests.proofs.files.MeetWorldWorld.open.Goals as goal

pub returns : goal.returns
returns c =
    let ok : is_err c.note.result ≡ false = search rules in
    let fresh : IsFresh no_reading = record { given = tt; faults = refl } in
    record {
      opens = record {
        file = c.in-Ok.file;
        fresh = fresh;
        files = c.push_reserved.ensures.items ∙ ap (λ (l : List MeetFile). l ++ c.in-Ok.file ∷ []) c.note.ensures.files;
        asked = at_ok c.note.result ok c.note.ensures.asked;
        faults = refl;
      };
    }

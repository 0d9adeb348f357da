-- A text that went out, or did not go out whole.
use Rattle.std.proofs.Common.{◌≡◌, ℕ, List, Result, Ok, Err, refl}
use Rattle.std.specs.Prelude.{⊤}
use Rattle.std.specs.Result.{IsErr, IsErrAnd}
use Rattle.eb_io.specs.Writing.{Writing, WroteFront, WritesAll}
use Rattle.eb_io.specs.declared.sink.WriteFault.{WriteFault}
use Rattle.eb_server.specs.declared.ending.Ending.{Ending}
use Rattle.eb_server.specs.declared.ending.Ending.TheVariants as ending
use Rattle.eb_text.specs.declared.fault.Fault.{Fault}
use Rattle.eb_text.specs.declared.fault.Fault.TheVariants as fault
use Rattle.eb_run.specs.Commands.{SendsText}
use Rattle.eb_run.specs.Captures.{SendsEnd}

pub failed_text : (text : List ℕ) (out out' : Writing) (r : Result ⊤ Fault) → IsErr r → IsErrAnd r (λ e. e ≡ fault.WriteFault) → WroteFront out out' text → SendsText out out' text r
failed_text text out out' (Ok done) is gives wrote = absurd (cc)
failed_text text out out' (Err f) is gives wrote = (gives, wrote)

-- A text that tells an ending which isn't clean: that is the answer, whatever the write came to.
pub sends_unclean : (out out' : Writing) (text : List ℕ) (e : Ending) (wrote : Result ⊤ WriteFault) → (e ≡ ending.Clean → ⊥) → WritesAll out out' text wrote → SendsEnd out out' text e (Ok e)
sends_unclean out out' text ending.Clean wrote unclean writes = absurd (unclean refl)
sends_unclean out out' text (ending.Truncated n) wrote unclean writes = (refl, (wrote, writes))
sends_unclean out out' text (ending.Malformed place why) wrote unclean writes = (refl, (wrote, writes))
sends_unclean out out' text ending.ReadFault wrote unclean writes = (refl, (wrote, writes))
sends_unclean out out' text ending.WriteFault wrote unclean writes = (refl, (wrote, writes))
sends_unclean out out' text ending.TooLong wrote unclean writes = (refl, (wrote, writes))
sends_unclean out out' text ending.NoMemory wrote unclean writes = (refl, (wrote, writes))

-- What was written of an answer, and of a tree.
use Rattle.std.proofs.Common.{◌≡◌, ℕ, List, Result, Ok, refl, sym, subst}
use Rattle.std.specs.Bool.{⊤}
use Rattle.eb_base.specs.declared.width.Width.{Width}
use Rattle.eb_io.specs.Reading.{Reading}
use Rattle.eb_io.specs.Writing.{Writing, Wrote}
use Rattle.eb_io.specs.declared.sink.WriteFault.{WriteFault}
use Rattle.sdb_walk.specs.declared.found.Found.{Found}
use Rattle.sdb_walk.specs.declared.fault.WalkFault.{WalkFault}
use Rattle.eb_host.specs.declared.op.HostAnswer.{HostAnswer}
use Rattle.eb_host.specs.declared.op.HostAnswer.TheVariants.{Done}
use Rattle.eb_host.specs.declared.op.HostFault.{HostFault}
use Rattle.eb_text.specs.Listing.{listing_text}
use Rattle.eb_client.specs.Asking.{ShowsAnswer, output_ending, word_line}
use Rattle.eb_client.specs.Listed.{ShowsTree}

pub shows_word : {O : Type 0} (writing : O → Writing) (reading : O → Reading) (width : Width) (place word : ℕ) (answer : HostAnswer) (old new : O) (octets : List ℕ) (wrote : Result ⊤ WriteFault)
    → answer ≡ Done word → octets ≡ word_line width word → Wrote writing reading old new octets wrote → ShowsAnswer writing reading width place (Ok answer) old new (output_ending wrote)
shows_word writing reading width place word answer old new octets wrote is text did =
    let whole : Wrote writing reading old new (word_line width word) wrote = subst (λ (l : List ℕ). Wrote writing reading old new l wrote) text did in
    subst (λ (a : HostAnswer). ShowsAnswer writing reading width place (Ok a) old new (output_ending wrote)) (sym is) (wrote, whole, refl)

pub shows_listing : {O : Type 0} (writing : O → Writing) (reading : O → Reading) (tree : List Found) (found : Result (List Found) (WalkFault HostFault)) (old new : O) (wrote : Result ⊤ WriteFault)
    → found ≡ Ok tree → Wrote writing reading old new (listing_text tree) wrote → ShowsTree writing reading found old new (output_ending wrote)
shows_listing writing reading tree found old new wrote is did =
    subst (λ (a : Result (List Found) (WalkFault HostFault)). ShowsTree writing reading a old new (output_ending wrote)) (sym is) (wrote, did, refl)

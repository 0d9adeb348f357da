-- What a walk finds on a described system.
use Rattle.std.specs.Prelude.{◌≡◌, ◌⊎◌, ℕ, false, List, [], ◌∷◌, ◌++◌, map, Result, Ok, Err, Some}
use Rattle.eb_base.specs.declared.width.Width.TheVariants.{W32}
use Rattle.eb_base.specs.Lanes.{word_of}
use Rattle.wb_signals.specs.Request.{Request, placed}
use Rattle.wb_signals.specs.Content.{Content}
use Rattle.wb_signals.specs.Wiring.{Wiring, step}
use Rattle.wb_signals.specs.History.{contents_after}
use Rattle.wb_signals.specs.declared.answer.Answer.{Answer}
use Rattle.wb_signals.specs.declared.answer.Answer.TheVariants as answer
use Rattle.soc_desc.specs.declared.description.Description.{Description}
use Rattle.soc_desc.specs.declared.description.ItemDescription.TheViews.{out-BusDescription}
use Rattle.soc_desc.specs.Accepted.{IsAccepted}
use Rattle.soc_machine.specs.Described.{described_wiring, described_contents}
use Rattle.sdb_walk.specs.declared.found.Found.{Found}
use Rattle.sdb_walk.specs.declared.fault.WalkFault.{WalkFault}
use Rattle.sdb_walk.specs.declared.fault.WalkFault.TheVariants as fault
use Rattle.sdb_walk.specs.declared.reader.NoWord.TheVariants as no_word
use Rattle.sdb_walk.specs.Discovery.{Discovers}
use Rattle.sdb_walk.specs.declared.reader.Exchange.{Exchange}
use Rattle.sdb_walk.specs.Told.{Word}
use Rattle.sdb_walk.specs.Walk.{Walk, Ended, begins, after, exchanges}
use Rattle.soc_discovery.specs.Tree.{tree_of}

-- a read of 32 bits, all lanes selected
abbrev pub read_at : ℕ → Request
read_at adr = placed W32 W32 false adr 0 0xF

-- the word that the port gets of an answer; another answer than ACK is an error of the bus
abbrev pub word_read : {C : Type 0} → ℕ → Answer → Word C
word_read adr (answer.Ack dat) = Ok (word_of W32 W32 adr dat 0xF)
word_read adr answer.Err = Err no_word.BusError
word_read adr answer.Rty = Err no_word.BusError

-- reads one after another, each with the word of its answer
abbrev pub read_all : {C : Type 0} → Wiring → List Content → List ℕ → List (Exchange C)
read_all wiring contents [] = []
read_all wiring contents (adr ∷ adrs) =
    record { adr = adr; word = word_read adr (step wiring contents (read_at adr)).answer } ∷ read_all wiring (step wiring contents (read_at adr)).contents adrs

abbrev pub addresses : {C : Type 0} → List (Exchange C) → List ℕ
addresses xs = map (λ x. x.adr) xs

-- the walk of a description, before any answer
abbrev pub begins_on : (C : Type 0) → Description → Walk C
begins_on C d = begins (out-BusDescription d.bus).sdb

-- the exchanges of a walk with these answers are reads of the system as it is built
abbrev pub AreReads : (C : Type 0) → Description → List (Word C) → Type 0
AreReads C d words =
    let xs = exchanges (begins_on C d) words in
    xs ≡ read_all (described_wiring d) (described_contents d) (addresses xs)

-- There are such answers with which the walk ends, and finds the tree.
abbrev pub Discovered : Type 0 → Type 0
Discovered C = (d : Description) → IsAccepted d → (words : List (Word C)) × AreReads C d words × (after (begins_on C d) words ≡ Ended (Ok (tree_of d)))

-- With such answers it ends in no other way.
abbrev pub OnlyDiscovered : Type 0 → Type 0
OnlyDiscovered C = (d : Description) → IsAccepted d → (words : List (Word C)) → AreReads C d words
    → (result : Result (List Found) (WalkFault C)) → after (begins_on C d) words ≡ Ended result → result ≡ Ok (tree_of d)

-- Discovery over a reader that tells what it answered, where these answers are such reads: the tree, or want of memory.
abbrev pub ReaderDiscovers : Type 0 → Type 0
ReaderDiscovers C = (d : Description) → IsAccepted d → (before after more : List (Exchange C)) (result : Result (List Found) (WalkFault C))
    → Discovers (Some before) (Some after) (out-BusDescription d.bus).sdb result
    → after ≡ before ++ more → more ≡ read_all (described_wiring d) (described_contents d) (addresses more)
    → (result ≡ Ok (tree_of d)) ⊎ (result ≡ Err fault.NoMemory)

-- Such reads leave the system as it was built.
abbrev pub LeftAsBuilt : Type 0 → Type 0
LeftAsBuilt C = (d : Description) → IsAccepted d → (words : List (Word C)) → AreReads C d words
    → contents_after (described_wiring d) (described_contents d) (map read_at (addresses (exchanges (begins_on C d) words))) ≡ described_contents d

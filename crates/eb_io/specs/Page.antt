-- What putting a text on a page makes of the page and its sink.
use Rattle.std.specs.Prelude.{◌≡◌, ℕ, ◌++◌, List, Result, Ok, Err, ⊤}
use Rattle.eb_io.specs.Reading.{Reading}
use Rattle.eb_io.specs.Writing.{Writing, Took, WroteFront}
use Rattle.eb_io.specs.declared.sink.WriteFault.{WriteFault}

-- A front of the text went out, and the page holds the rest.
pub record SentFront (old new : Writing) (text held : List ℕ) : Type 0 where
  pub front : List ℕ
  pub parts : text ≡ front ++ held
  pub took : Took old new front

-- What putting the last of this text did, by its answer: the page holds what didn't go out, or a front of the text went out and
-- then a write failed.
abbrev pub SendsPage : Writing → Writing → List ℕ → List ℕ → Result ⊤ WriteFault → Type 0
SendsPage old new text held (Ok done) = SentFront old new text held
SendsPage old new text held (Err fault) = WroteFront old new text

-- What putting a text on a page did to its sink and to what it holds, by its answer. What the sink tells of reads stays as it was.
pub record Paged {S : Type 0} (writing : S → Writing) (reading : S → Reading) (old new : S) (page held text : List ℕ) (result : Result ⊤ WriteFault) : Type 0 where
  pub all : SendsPage (writing old) (writing new) (page ++ text) held result
  pub beside : reading new ≡ reading old

-- How a history grows, and what of it is a master's own.
use Rattle.std.specs.Prelude.{◌≡◌, ◌≢◌, ℕ, List, [], ◌∷◌, ◌++◌}
use Rattle.wb_signals.specs.Content.{Content}
use Rattle.wb_signals.specs.Wiring.{Wiring}
use Rattle.wb_signals.specs.History.{Entry, own, after, IsLegal}

-- each entry is the master m's
abbrev pub AllOf : ℕ → List Entry → Type 0
AllOf m [] = Unit {0}
AllOf m (e ∷ entries) = (e.master ≡ m) × AllOf m entries

-- the later history begins with the earlier one
abbrev pub Extends : List Entry → List Entry → Type 0
Extends old new = (more : List Entry) × (new ≡ old ++ more)

-- the later history begins with the earlier one, and what follows is the master m's
abbrev pub ExtendsBy : ℕ → List Entry → List Entry → Type 0
ExtendsBy m old new = (more : List Entry) × (new ≡ old ++ more) × AllOf m more

-- ---- laws

-- the own part of two histories, one after the other
abbrev pub OwnOfBoth : Type 0
OwnOfBoth = (m : ℕ) (xs ys : List Entry) → own m (xs ++ ys) ≡ own m xs ++ own m ys

-- entries of the master m are its own
abbrev pub OwnOfMine : Type 0
OwnOfMine = (m : ℕ) (entries : List Entry) → AllOf m entries → own m entries ≡ entries

-- what another adds leaves a master's own part
abbrev pub OthersLeaveOwn : Type 0
OthersLeaveOwn = (m n : ℕ) (old new : List Entry) → m ≢ n → ExtendsBy n old new → own m new ≡ own m old

-- an own part is all of the master
abbrev pub OwnIsMine : Type 0
OwnIsMine = (m : ℕ) (entries : List Entry) → AllOf m (own m entries)

abbrev pub ExtendsItself : Type 0
ExtendsItself = (entries : List Entry) → Extends entries entries

abbrev pub ExtendsOn : Type 0
ExtendsOn = (old mid new : List Entry) → Extends old mid → Extends mid new → Extends old new

abbrev pub ExtendsByOn : Type 0
ExtendsByOn = (m : ℕ) (old mid new : List Entry) → ExtendsBy m old mid → ExtendsBy m mid new → ExtendsBy m old new

-- what two histories leave, one after the other
abbrev pub AfterBoth : Type 0
AfterBoth = (wiring : Wiring) (contents : List Content) (xs ys : List Entry)
    → after wiring contents (xs ++ ys) ≡ after wiring (after wiring contents xs) ys

-- a legal history that goes on legally is legal
abbrev pub LegalOn : Type 0
LegalOn = (wiring : Wiring) (contents : List Content) (xs ys : List Entry)
    → IsLegal wiring contents xs → IsLegal wiring (after wiring contents xs) ys → IsLegal wiring contents (xs ++ ys)

-- a front of a legal history is legal
abbrev pub LegalFront : Type 0
LegalFront = (wiring : Wiring) (contents : List Content) (old new : List Entry)
    → Extends old new → IsLegal wiring contents new → IsLegal wiring contents old

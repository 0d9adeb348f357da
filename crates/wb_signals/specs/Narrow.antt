-- A bus of 32 data bits behind a port of 64, as a slave.
use Rattle.std.specs.Prelude.{◌≡◌, ◌<◌, ℕ, ◌+◌, ◌*◌, ◌^◌, Bool, true, false, List, [], ◌∷◌, ◌++◌, map, drop, slice_index_or, Option, Some, None}
use Rattle.eb_base.specs.declared.width.Width.TheVariants.{W32}
use Rattle.wb_signals.specs.Request.{Request}
use Rattle.wb_signals.specs.Wiring.{Wiring, lifted}
use Rattle.wb_signals.specs.Bus.{Child, Half, Upper, Lower, Both, half_of, half, narrow}
use Rattle.wb_signals.specs.Slave.{Owed, Slave}
use Rattle.wb_signals.specs.Parts.{Part, child_of, contents_in}
use Rattle.wb_signals.specs.Turn.{owed_by}
use Rattle.wb_signals.specs.declared.answer.Answer.{Answer}
use Rattle.wb_signals.specs.declared.answer.Answer.TheVariants.{Ack, Err, Rty}
use Rattle.wb_signals.specs.declared.debtor.Debtor.{Debtor}

-- Each device stands on a bus of 32 data bits, and its answer goes back as it is.
pub record IsOf32 (wiring : Wiring) : Type 0 where
  pub bus : (r : Request) → (wiring.route r).bus ≡ W32
  pub whole : (r : Request) → (wiring.route r).upper_half ≡ false

abbrev pub AllOf32 : List Child → Type 0
AllOf32 [] = Unit {0}
AllOf32 (child ∷ children) = IsOf32 child.wiring × AllOf32 children

-- A word has 32 bits.
abbrev pub FitsHalf : Answer → Type 0
FitsHalf (Ack word) = word < 2 ^ 32
FitsHalf Err = Unit {0}
FitsHalf Rty = Unit {0}

abbrev pub AllFitHalf : List Owed → Type 0
AllFitHalf [] = Unit {0}
AllFitHalf (o ∷ os) = FitsHalf o.answer × AllFitHalf os

abbrev pub is_upper : Half → Bool
is_upper Upper = true
is_upper Lower = false
is_upper Both = false

-- an address that none of these children has
abbrev pub nowhere : List Child → ℕ
nowhere [] = 0
nowhere (child ∷ children) = 4 * child.last + 4 + nowhere children

-- The operation on the bus of 32 data bits: one of both halves goes to none of its children.
abbrev pub lost : List Child → Request
lost children = record { write = false; adr = nowhere children; dat = 0; sel = 0 }

abbrev pub halved_by : Half → List Child → Request → Request
halved_by Upper children r = half Upper r
halved_by Lower children r = half Lower r
halved_by Both children r = lost children

abbrev pub halved : List Child → Request → Request
halved children r = halved_by (half_of r.sel) children r

-- the same where it goes to one half alone
abbrev pub one_half : Half → Request → Option Request
one_half Upper r = Some (half Upper r)
one_half Lower r = Some (half Lower r)
one_half Both r = None

abbrev pub halved_op : List Child → Option Request → Option Request
halved_op children None = None
halved_op children (Some r) = Some (halved children r)

-- The answers that the bus owes as they go back, of which it is kept whether each one goes to the upper half.
abbrev pub owed_back : List Bool → List Owed → List Owed
owed_back uppers [] = []
owed_back [] (o ∷ os) = o ∷ os
owed_back (u ∷ us) (o ∷ os) = record { place = o.place; answer = lifted u o.answer; due = o.due } ∷ owed_back us os

-- the answer that the bus gives as it goes back
abbrev pub answer_back : List Bool → Option Answer → Option Answer
answer_back uppers None = None
answer_back uppers (Some answer) = Some (lifted (slice_index_or uppers 0 false) answer)

-- What is kept after the bus gave this answer, or none, and after it was passed this operation, or none.
abbrev pub uppers_left : List Bool → Option Answer → List Bool
uppers_left uppers None = uppers
uppers_left uppers (Some answer) = drop 1 uppers

abbrev pub uppers_with : List Bool → Option Request → List Bool
uppers_with uppers None = uppers
uppers_with uppers (Some r) = uppers ++ is_upper (half_of r.sel) ∷ []

abbrev pub uppers_after : List Bool → Option Answer → Option Request → List Bool
uppers_after uppers answer op = uppers_with (uppers_left uppers answer) op

abbrev pub narrow_slave : List Part → Debtor → List Bool → Slave
narrow_slave parts debtor uppers = record {
  wiring = narrow (map child_of parts);
  contents = contents_in parts;
  owed = owed_back uppers (owed_by parts debtor);
}

-- A slave that a clock drives: how it is wired, what its places hold, and the answers that it owes.
use Rattle.std.specs.Prelude.{◌≡◌, ◌<◌, ℕ, ◌-◌, ◌==◌, ◌||◌, ◌&&◌, not, Bool, true, false, if◌then◌else◌, List, [], ◌∷◌, ◌++◌, length, map, Option, Some, None}
use Rattle.std.specs.List.{list_any}
use Rattle.wb_signals.specs.Request.{Request}
use Rattle.wb_signals.specs.Content.{Content}
use Rattle.wb_signals.specs.Wiring.{Wiring, step}
use Rattle.wb_signals.specs.History.{contents_after}
use Rattle.wb_signals.specs.declared.answer.Answer.{Answer}

-- An answer that is owed: the queue of the place that gives it, and how many ticks pass before the one that gives it.
pub record Owed : Type 0 where
  pub place : ℕ
  pub answer : Answer
  pub due : ℕ

-- A slave at one moment.
pub record Slave : Type 0 where
  pub wiring : Wiring
  pub contents : List Content
  pub owed : List Owed

abbrev pub sooner : Owed → Owed
sooner o = record { place = o.place; answer = o.answer; due = o.due - 1 }

-- The answer that the next tick gives: the first one owed, exactly where it is due.
abbrev pub given : List Owed → Option Answer
given [] = None
given (o ∷ os) = if o.due == 0 then Some o.answer else None

-- What is still owed after that tick.
abbrev pub left : List Owed → List Owed
left [] = []
left (o ∷ os) = if o.due == 0 then map sooner os else map sooner (o ∷ os)

-- The queue that an operation goes to.
abbrev pub queue_to : Wiring → Request → ℕ
queue_to wiring r = wiring.queue (wiring.route r).place

-- What an operation that passes adds: the answer of its step, due after the wait of its queue.
abbrev pub owed_for : Wiring → List Content → Request → Owed
owed_for wiring contents r = record { place = queue_to wiring r; answer = (step wiring contents r).answer; due = wiring.wait (queue_to wiring r) }

-- What is owed after a tick that passes this operation, or none.
abbrev pub owed_after : Wiring → List Content → List Owed → Option Request → List Owed
owed_after wiring contents owed None = left owed
owed_after wiring contents owed (Some r) = left owed ++ owed_for wiring contents r ∷ []

-- the operation that passes, as a list
abbrev pub listed : Option Request → List Request
listed None = []
listed (Some r) = r ∷ []

-- A slave after a tick that passes this operation, or none.
abbrev pub ticked : Slave → Option Request → Slave
ticked s op = record { wiring = s.wiring; contents = contents_after s.wiring s.contents (listed op); owed = owed_after s.wiring s.contents s.owed op }

-- An operation for this queue is stalled exactly where an answer of another one is owed, or it holds its requests and owes
-- an answer that isn't due.
abbrev pub stalls : (ℕ → Bool) → ℕ → List Owed → Bool
stalls holds place owed =
    list_any (λ o. not (o.place == place)) owed || (holds place && list_any (λ o. not (o.due == 0)) owed)

abbrev pub is_stalled : Wiring → List Owed → Request → Bool
is_stalled wiring owed r = stalls wiring.stalls (queue_to wiring r) owed

-- whether any answer is owed
abbrev pub owes : List Owed → Bool
owes [] = false
owes (o ∷ os) = true

-- Each answer owed is that of a place below n.
abbrev pub PlacesBelow : ℕ → List Owed → Type 0
PlacesBelow n [] = Unit {0}
PlacesBelow n (o ∷ os) = (o.place < n) × PlacesBelow n os

-- What a slave holds and owes is that of its places, and it leads each operation that it takes to one of them.
pub record IsShaped (s : Slave) : Type 0 where
  pub all : length s.contents ≡ s.wiring.places
  pub within : (r : Request) → s.wiring.accepts r ≡ true → (s.wiring.route r).place < s.wiring.places
  pub queues : (place : ℕ) → place < s.wiring.places → s.wiring.queue place < s.wiring.places
  pub owing : PlacesBelow s.wiring.places s.owed

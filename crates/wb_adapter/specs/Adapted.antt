-- A classic slave as a pipelined one, and a pipelined slave as a classic one.
use Rattle.std.specs.Prelude.{◌≡◌, ℕ, ◌+◌, ◌-◌, ◌<◌, ◌≤◌, true, List, [], ◌∷◌, Option, Some, None}
use Rattle.std.specs.Option.{ForSome}
use Rattle.wb_signals.specs.Request.{Request}
use Rattle.wb_signals.specs.Content.{Content}
use Rattle.wb_signals.specs.Wiring.{Wiring}
use Rattle.wb_signals.specs.Slave.{Owed, Slave}
use Rattle.wb_signals.specs.Standing.{Standing, ClassicSlave, KeepsStanding, stands, contents_stood}
use Rattle.wb_signals.specs.declared.answer.Answer.{Answer}

-- The wiring of a classic slave behind an adapter, w being its wait. All its places share one queue.
abbrev pub adapted : ℕ → Wiring → Wiring
adapted w wiring = record { bus = wiring.bus; places = wiring.places; accepts = wiring.accepts; route = wiring.route; queue = λ _. 0; wait = λ _. w + 1; stalls = λ _. true }

-- What it owes: an answer that is ready, or that of the request which waits.
abbrev pub owed_behind : ℕ → Wiring → List Content → Option Standing → Option Request → Option Answer → List Owed
owed_behind w wiring contents s waiting (Some answer) = record { place = 0; answer = answer; due = 0 } ∷ []
owed_behind w wiring contents s None None = []
owed_behind w wiring contents s (Some r) None =
    record { place = 0; answer = (stands wiring contents s r).answer; due = w - (stands wiring contents s r).clocks + 1 } ∷ []

-- The classic slave as a pipelined one, with the request that waits and the answer that is ready.
abbrev pub behind : ClassicSlave → Option Request → Option Answer → Slave
behind s waiting ready = record {
  wiring = adapted s.wait s.wiring;
  contents = contents_stood s.wiring s.contents s.standing waiting;
  owed = owed_behind s.wait s.wiring s.contents s.standing waiting ready;
}

abbrev pub waits_after : Option Request → Option Answer → Option Request → Option Request
waits_after waiting told (Some r) = Some r
waits_after waiting (Some answer) None = None
waits_after waiting None None = waiting

-- A slave with one path wait for all operations.
abbrev pub IsEven : Wiring → Type 0
IsEven wiring = (place : ℕ) → wiring.wait place ≡ wiring.wait 0

-- The request that waits is the one that stands.
pub record IsBehind (w : ℕ) (wiring : Wiring) (s : Option Standing) (waiting : Option Request) (ready : Option Answer) : Type 0 where
  pub kept : KeepsStanding s waiting
  pub clocks : ForSome s (λ t. t.clocks ≤ w)
  pub free : (answer : Answer) → ready ≡ Some answer → waiting ≡ None
  pub taken : ForSome waiting (λ r. wiring.accepts r ≡ true)

-- The request that stands at a pipelined slave behind an adapter, w being its wait.
abbrev pub standing_through : ℕ → Option Request → List Owed → Option Standing
standing_through w None owed = None
standing_through w (Some r) [] = None
standing_through w (Some r) (o ∷ owed) = Some (record { request = r; answer = o.answer; clocks = w - o.due })

-- The pipelined slave as a classic one.
abbrev pub through : Slave → Option Request → ClassicSlave
through s standing = record {
  wiring = s.wiring;
  wait = s.wiring.wait 0 + 1;
  contents = s.contents;
  standing = standing_through (s.wiring.wait 0 + 1) standing s.owed;
}

-- It owes the answer of the request that stands, and no other.
abbrev pub OwesOne : ℕ → Option Request → List Owed → Type 0
OwesOne w None owed = owed ≡ []
OwesOne w (Some r) [] = ⊥
OwesOne w (Some r) (o ∷ owed) = (o.due < w) × (owed ≡ [])

pub record IsThrough (wiring : Wiring) (standing : Option Request) (owed : List Owed) : Type 0 where
  pub even : IsEven wiring
  pub owes : OwesOne (wiring.wait 0 + 1) standing owed

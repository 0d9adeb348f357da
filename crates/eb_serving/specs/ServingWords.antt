-- What a server is asked for, and its words.
use Rattle.std.specs.Prelude.{◌≡◌, ◌≢◌, ℕ, ◌≤◌, List, [], ◌∷◌, codes}
use Rattle.eb_text.specs.Command.{Says}
use Rattle.eb_serving.specs.declared.command.Asked.{Asked}
use Rattle.eb_serving.specs.declared.command.Serving.{Serving}
use Rattle.eb_serving.specs.declared.command.Serving.TheVariants as serving

-- the name of the description, the port or the first of them, and how often it serves
pub record ServingAsk : Type 0 where
  pub description : List ℕ
  pub port : ℕ
  pub count : ℕ

pub data ServingTask : Type 0 where
  -- each master at a port of its own serves so many connections
  PortsTask : ServingAsk → ServingTask
  -- the master 0 answers so many datagrams that come to one port
  PostTask : ServingAsk → ServingTask

-- The words are this one, and behind it DESC PORT COUNT.
pub record AreAsk (first : List ℕ) (words : List (List ℕ)) (ask : ServingAsk) : Type 0 where
  pub port_word : List ℕ
  pub count_word : List ℕ
  pub words_are : words ≡ first ∷ ask.description ∷ port_word ∷ count_word ∷ []
  pub described : ask.description ≢ []
  pub says_port : Says port_word ask.port
  pub least_port : 1 ≤ ask.port
  pub most_port : ask.port ≤ 65535
  pub says_count : Says count_word ask.count
  pub least_count : 1 ≤ ask.count
  pub most_count : ask.count ≤ 10000

-- The words are exactly those of this task: `serve DESC PORT CONNECTIONS` or `serve-udp DESC PORT DATAGRAMS`.
abbrev pub IsServingTask : List (List ℕ) → ServingTask → Type 0
IsServingTask words (PortsTask ask) = AreAsk (codes "serve") words ask
IsServingTask words (PostTask ask) = AreAsk (codes "serve-udp") words ask

-- No task of a server has these words.
abbrev pub IsNoServing : List (List ℕ) → Type 0
IsNoServing words = (task : ServingTask) → IsServingTask words task → ⊥

-- Words have one task of a server at most.
abbrev pub OneServing : Type 0
OneServing = (words : List (List ℕ)) (task other : ServingTask) → IsServingTask words task → IsServingTask words other → task ≡ other

-- what was read from words
abbrev pub ask_seen : Asked → ServingAsk
ask_seen a = record { description = a.description.now; port = a.port; count = a.count }

abbrev pub serving_seen : Serving → ServingTask
serving_seen (serving.Ports a) = PortsTask (ask_seen a)
serving_seen (serving.Post a) = PostTask (ask_seen a)

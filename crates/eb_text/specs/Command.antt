-- The commands, and their words.
use Rattle.std.specs.Prelude.{◌≡◌, ◌≢◌, ◌⊎◌, ℕ, ◌+◌, ◌-◌, ◌*◌, ◌%◌, ◌^◌, ◌<◌, ◌≤◌, Bool, true, false, List, [], ◌∷◌, length, map, fold, codes, All, string_bytes}
use Rattle.eb_text.specs.Texts.{help_text, version_text}
use Rattle.eb_text.specs.declared.command.Command.{Command as Seen}
use Rattle.eb_text.specs.declared.command.Command.TheVariants as seen

-- the number in decimal digits
abbrev pub decimal_value : List ℕ → ℕ
decimal_value text = fold (λ n digit. 10 * n + (digit - 48)) 0 text

-- `0` to `9`
abbrev pub IsDigit : ℕ → Type 0
IsDigit c = (48 ≤ c) × (c ≤ 57)

abbrev pub AreDigits : List ℕ → Type 0
AreDigits [] = Unit {0}
AreDigits (c ∷ text) = IsDigit c × AreDigits text

-- 1 to 20 decimal digits, of which the first ones may be zeros
pub record IsDecimal (text : List ℕ) : Type 0 where
  pub some : 0 < length text
  pub few : length text ≤ 20
  pub digits : AreDigits text

-- A word is this number in decimal digits.
pub record Says (word : List ℕ) (n : ℕ) : Type 0 where
  pub decimal_word : IsDecimal word
  pub number : n ≡ decimal_value word

-- ---- the commands

pub data Command : Type 0 where
  -- octets of the RAM, name of the capture
  AnswerRam : ℕ → List ℕ → Command
  -- names of the description and of the capture
  Answer : List ℕ → List ℕ → Command
  -- names of the description and of the script, and whether the wave is shown
  Sim : List ℕ → List ℕ → Bool → Command
  -- name of the description
  Build : List ℕ → Command
  -- name of the description
  Tour : List ℕ → Command
  -- the number from which the cycles are made, and how many there are
  Load : ℕ → ℕ → Command
  -- names of the description and of the captures
  Replay : List ℕ → List (List ℕ) → Command
  -- the text that is shown
  Show : List ℕ → Command

-- how many octets a RAM may have
pub record IsRamSize (octets : ℕ) : Type 0 where
  pub whole : octets % 4 ≡ 0
  pub least : 4 ≤ octets
  pub most : octets ≤ 1048576

-- The words are `answer --ram N CAPTURE`.
pub record IsAnswerRam (words : List (List ℕ)) (octets : ℕ) (capture : List ℕ) : Type 0 where
  pub size_word : List ℕ
  pub words_are : words ≡ codes "answer" ∷ codes "--ram" ∷ size_word ∷ capture ∷ []
  pub says : Says size_word octets
  pub size : IsRamSize octets
  pub named : capture ≢ []

-- The words are `answer DESC CAPTURE`, DESC not being `--ram`.
pub record IsAnswer (words : List (List ℕ)) (description capture : List ℕ) : Type 0 where
  pub words_are : words ≡ codes "answer" ∷ description ∷ capture ∷ []
  pub no_ram : description ≢ codes "--ram"
  pub described : description ≢ []
  pub named : capture ≢ []

-- `--wave` where the wave is shown, else nothing
abbrev pub wave_words : Bool → List (List ℕ)
wave_words true = codes "--wave" ∷ []
wave_words false = []

-- The words are `sim DESC SCRIPT`, and `--wave` behind them where the wave is shown.
pub record IsSim (words : List (List ℕ)) (description script : List ℕ) (wave : Bool) : Type 0 where
  pub words_are : words ≡ codes "sim" ∷ description ∷ script ∷ wave_words wave
  pub described : description ≢ []
  pub named : script ≢ []

-- The words are `build DESC`.
pub record IsBuild (words : List (List ℕ)) (description : List ℕ) : Type 0 where
  pub words_are : words ≡ codes "build" ∷ description ∷ []
  pub described : description ≢ []

-- The words are `tour DESC`.
pub record IsTour (words : List (List ℕ)) (description : List ℕ) : Type 0 where
  pub words_are : words ≡ codes "tour" ∷ description ∷ []
  pub described : description ≢ []

-- The words are `load START N`.
pub record IsLoad (words : List (List ℕ)) (start cycles : ℕ) : Type 0 where
  pub start_word : List ℕ
  pub cycles_word : List ℕ
  pub words_are : words ≡ codes "load" ∷ start_word ∷ cycles_word ∷ []
  pub says_start : Says start_word start
  pub says_cycles : Says cycles_word cycles
  pub start_below : start < 2 ^ 31
  pub most_cycles : cycles ≤ 100000

-- The words are `replay DESC CAPTURE..`, with one capture or more.
pub record IsReplay (words : List (List ℕ)) (description : List ℕ) (captures : List (List ℕ)) : Type 0 where
  pub words_are : words ≡ codes "replay" ∷ description ∷ captures
  pub described : description ≢ []
  pub some : captures ≢ []
  pub named : All (λ capture. capture ≢ []) captures

-- The one word is `--help` or `--version`, and this is the text that it shows.
abbrev pub IsShow : List (List ℕ) → List ℕ → Type 0
IsShow words text = ((words ≡ codes "--help" ∷ []) × (text ≡ help_text)) ⊎ ((words ≡ codes "--version" ∷ []) × (text ≡ version_text))

-- The words are exactly those of this command.
abbrev pub IsCommand : List (List ℕ) → Command → Type 0
IsCommand words (AnswerRam octets capture) = IsAnswerRam words octets capture
IsCommand words (Answer description capture) = IsAnswer words description capture
IsCommand words (Sim description script wave) = IsSim words description script wave
IsCommand words (Build description) = IsBuild words description
IsCommand words (Tour description) = IsTour words description
IsCommand words (Load start cycles) = IsLoad words start cycles
IsCommand words (Replay description captures) = IsReplay words description captures
IsCommand words (Show text) = IsShow words text

-- No command has these words.
abbrev pub IsNoCommand : List (List ℕ) → Type 0
IsNoCommand words = (command : Command) → IsCommand words command → ⊥

-- Words have one command at most.
abbrev pub OneCommand : Type 0
OneCommand = (words : List (List ℕ)) (command other : Command) → IsCommand words command → IsCommand words other → command ≡ other

-- the command that was read
abbrev pub command_seen : Seen → Command
command_seen (seen.AnswerRam octets capture) = AnswerRam octets capture.now
command_seen (seen.Answer description capture) = Answer description.now capture.now
command_seen (seen.Sim description script wave) = Sim description.now script.now wave
command_seen (seen.Build description) = Build description.now
command_seen (seen.Tour description) = Tour description.now
command_seen (seen.Load start cycles) = Load start cycles
command_seen (seen.Replay description captures) = Replay description.now (map string_bytes captures.now)
command_seen (seen.Show text) = Show text.now

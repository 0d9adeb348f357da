-- Words that are those of none of the commands.
use Rattle.std.proofs.Common.{◌≡◌, ℕ, Bool, true, false, List, [], ◌∷◌, codes}
use Rattle.eb_text.specs.Command.{Command, AnswerRam, Answer, Sim, Build, Tour, Load, Replay, Show, IsCommand, IsAnswerRam, IsAnswer, IsSim, IsBuild, IsTour, IsLoad, IsReplay, IsShow, wave_words}

pub no_command : (words : List (List ℕ))
    → ((octets : ℕ) (capture : List ℕ) → IsAnswerRam words octets capture → ⊥)
    → ((description capture : List ℕ) → IsAnswer words description capture → ⊥)
    → ((description script : List ℕ) (wave : Bool) → IsSim words description script wave → ⊥)
    → ((description : List ℕ) → IsBuild words description → ⊥)
    → ((description : List ℕ) → IsTour words description → ⊥)
    → ((start cycles : ℕ) → IsLoad words start cycles → ⊥)
    → ((description : List ℕ) (captures : List (List ℕ)) → IsReplay words description captures → ⊥)
    → ((text : List ℕ) → IsShow words text → ⊥)
    → (command : Command) → IsCommand words command → ⊥
no_command words ram answer sim build tour load replay show (AnswerRam octets capture) is = ram octets capture is
no_command words ram answer sim build tour load replay show (Answer description capture) is = answer description capture is
no_command words ram answer sim build tour load replay show (Sim description script wave) is = sim description script wave is
no_command words ram answer sim build tour load replay show (Build description) is = build description is
no_command words ram answer sim build tour load replay show (Tour description) is = tour description is
no_command words ram answer sim build tour load replay show (Load start cycles) is = load start cycles is
no_command words ram answer sim build tour load replay show (Replay description captures) is = replay description captures is
no_command words ram answer sim build tour load replay show (Show text) is = show text is

-- words that ask for a wave or are none
pub no_wave : (words : List (List ℕ)) → (words ≡ [] → ⊥) → (words ≡ codes "--wave" ∷ [] → ⊥) → (wave : Bool) → words ≡ wave_words wave → ⊥
no_wave words none asked true is = asked is
no_wave words none asked false is = none is

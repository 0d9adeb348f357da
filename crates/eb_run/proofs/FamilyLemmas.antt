-- Which commands the words of a family are.
use Rattle.std.proofs.Common.{◌≡◌, ◌⊎◌, inl, inr, ℕ, List, Result, Ok, Err, sym, ◌∙◌, ap, subst}
use Rattle.std.specs.Prelude.{⊤}
use Rattle.std.specs.Result.{IsErr, IsErrAnd}
use Rattle.eb_server.specs.declared.ending.Ending.{Ending}
use Rattle.eb_text.specs.Command.{Command, AnswerRam, Answer, Sim, Build, Tour, Load, Replay, Show, IsCommand, IsNoCommand, IsReplay}
use Rattle.eb_text.specs.declared.fault.Fault.{Fault}
use Rattle.eb_run.specs.Run.{Run}
use Rattle.eb_run.specs.Commands.{Plainly, ComesTo}
use Rattle.eb_run.specs.Top.{ComesToEnd, IsAlone, family}
use Rattle.eb_run.specs.declared.plain.Family.{Family}
use Rattle.eb_run.specs.declared.plain.Family.TheVariants.{Plain, Shared}

-- words that wait for nobody are no replay
pub alone : (words : List (List ℕ)) (c : Command) → family words ≡ Plain → IsCommand words c → IsAlone c
alone words (AnswerRam octets capture) plain is = is.size
alone words (Answer name capture) plain is = tt
alone words (Sim name script wave) plain is = tt
alone words (Build name) plain is = tt
alone words (Tour name) plain is = tt
alone words (Load start cycles) plain is = tt
alone words (Replay name captures) plain is = let shared : Shared ≡ Plain = sym (ap family is.words_are) ∙ plain in absurd (cc)
alone words (Show text) plain is = tt

-- words that wait for other threads are a replay or no command
pub shared_none : (words : List (List ℕ)) → family words ≡ Shared → ((name : List ℕ) (captures : List (List ℕ)) → IsReplay words name captures → ⊥) → IsNoCommand words
shared_none words shared none (AnswerRam octets capture) is = let plain : Plain ≡ Shared = sym (ap family is.words_are) ∙ shared in absurd (cc)
shared_none words shared none (Answer name capture) is = let plain : Plain ≡ Shared = sym (ap family is.words_are) ∙ shared in absurd (cc)
shared_none words shared none (Sim name script wave) is = let plain : Plain ≡ Shared = sym (ap family is.words_are) ∙ shared in absurd (cc)
shared_none words shared none (Build name) is = let plain : Plain ≡ Shared = sym (ap family is.words_are) ∙ shared in absurd (cc)
shared_none words shared none (Tour name) is = let plain : Plain ≡ Shared = sym (ap family is.words_are) ∙ shared in absurd (cc)
shared_none words shared none (Load start cycles) is = let plain : Plain ≡ Shared = sym (ap family is.words_are) ∙ shared in absurd (cc)
shared_none words shared none (Replay name captures) is = none name captures is
shared_none words shared none (Show text) (inl is) = let plain : Plain ≡ Shared = sym (ap family is.0) ∙ shared in absurd (cc)
shared_none words shared none (Show text) (inr is) = let plain : Plain ≡ Shared = sym (ap family is.0) ∙ shared in absurd (cc)

-- what a command came to that serves no streams beside each other, with the ending that its output tells
pub comes_alone : {F : Type 0} (run : Run F) (c : Command) (r : Result Ending Fault) → IsAlone c → Plainly (ComesTo run c) r → ComesToEnd run c r
comes_alone run (AnswerRam octets capture) r alone_so comes = comes
comes_alone run (Answer name capture) r alone_so comes = comes
comes_alone run (Sim name script wave) r alone_so comes = comes
comes_alone run (Build name) r alone_so comes = comes
comes_alone run (Tour name) r alone_so comes = comes
comes_alone run (Load start cycles) r alone_so comes = comes
comes_alone run (Replay name captures) r alone_so comes = absurd alone_so
comes_alone run (Show text) r alone_so comes = comes

pub failed_plainly : (comes : Result ⊤ Fault → Type 0) (r : Result Ending Fault) (f : Fault) → IsErr r → IsErrAnd r (λ e. e ≡ f) → comes (Err f) → Plainly comes r
failed_plainly comes (Ok e) f is gives so = absurd (cc)
failed_plainly comes (Err g) f is gives so = subst (λ (x : Fault). comes (Err x)) (sym gives) so

-- Words that are no task, and words that are one.
use Rattle.std.proofs.Common.{◌≡◌, ◌≢◌, ℕ, ◌≤◌, List, [], ◌∷◌, codes, sym, ◌∙◌, ap, subst}
use Rattle.eb_text.specs.Command.{Says, decimal_value}
use Rattle.eb_serving.specs.ServingWords.{ServingAsk, PortsTask, PostTask, AreAsk, IsNoServing, OneServing}

-- ---- words that ask for nothing

module _ (first : List ℕ) (words : List (List ℕ)) (a b p q : List ℕ) (are : words ≡ a ∷ b ∷ p ∷ q ∷ []) (ask : ServingAsk) (x : AreAsk first words ask) where
  same_as : a ∷ b ∷ p ∷ q ∷ [] ≡ first ∷ ask.description ∷ x.port_word ∷ x.count_word ∷ []
  same_as = sym are ∙ x.words_are

  pub not_first : (a ≢ first) → ⊥
  not_first unlike = let same = same_as in let word : a ≡ first = cc same in unlike word

  pub no_port : ((n : ℕ) → Says p n → 1 ≤ n → n ≤ 65535 → ⊥) → ⊥
  no_port none =
      let same = same_as in
      let word : x.port_word ≡ p = cc same in
      none ask.port (subst (λ (l : List ℕ). Says l ask.port) word x.says_port) x.least_port x.most_port

  pub no_count : ((n : ℕ) → Says q n → 1 ≤ n → n ≤ 10000 → ⊥) → ⊥
  no_count none =
      let same = same_as in
      let word : x.count_word ≡ q = cc same in
      none ask.count (subst (λ (l : List ℕ). Says l ask.count) word x.says_count) x.least_count x.most_count

-- ---- words that ask for one thing

module _ (first : List ℕ) (words : List (List ℕ)) (ask other : ServingAsk) (x : AreAsk first words ask) (y : AreAsk first words other) where
  same_words : first ∷ ask.description ∷ x.port_word ∷ x.count_word ∷ [] ≡ first ∷ other.description ∷ y.port_word ∷ y.count_word ∷ []
  same_words = sym x.words_are ∙ y.words_are

  -- words ask for one thing
  pub one_ask : ask ≡ other
  one_ask =
      let same = same_words in
      let name : ask.description ≡ other.description = cc same in
      let port_word : x.port_word ≡ y.port_word = cc same in
      let count_word : x.count_word ≡ y.count_word = cc same in
      let port : ask.port ≡ other.port = x.says_port.number ∙ ap decimal_value port_word ∙ sym y.says_port.number in
      let count : ask.count ≡ other.count = x.says_count.number ∙ ap decimal_value count_word ∙ sym y.says_count.number in
      λ i. record { description = name i; port = port i; count = count i }

-- words begin with one word
pub one_first : (first second : List ℕ) (words : List (List ℕ)) (ask other : ServingAsk) → AreAsk first words ask → AreAsk second words other → first ≡ second
one_first first second words ask other x y = let same = sym x.words_are ∙ y.words_are in let word : first ≡ second = cc same in word

unlike : codes "serve" ≢ codes "serve-udp"
unlike same = cc same

pub no_serving : (words : List (List ℕ)) → ((ask : ServingAsk) → AreAsk (codes "serve") words ask → ⊥) → ((ask : ServingAsk) → AreAsk (codes "serve-udp") words ask → ⊥) → IsNoServing words
no_serving words ports post (PortsTask ask) x = ports ask x
no_serving words ports post (PostTask ask) x = post ask x

pub one_serving : OneServing
one_serving words (PortsTask ask) (PortsTask other) x y = ap PortsTask (one_ask (codes "serve") words ask other x y)
one_serving words (PostTask ask) (PostTask other) x y = ap PostTask (one_ask (codes "serve-udp") words ask other x y)
one_serving words (PortsTask ask) (PostTask other) x y = absurd (unlike (one_first (codes "serve") (codes "serve-udp") words ask other x y))
one_serving words (PostTask ask) (PortsTask other) x y = absurd (unlike (sym (one_first (codes "serve-udp") (codes "serve") words ask other x y)))

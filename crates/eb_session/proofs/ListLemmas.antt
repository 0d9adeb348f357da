-- Lists that grow by one.
use Rattle.std.proofs.Common.{◌≡◌, ℕ, zero, suc, ◌+◌, ◌*◌, ◌%◌, ◌^◌, List, [], ◌∷◌, ◌++◌, length, take, refl, sym, ap, ◌∙◌, arith, length-append, Some, slice_get}
use Rattle.std.specs.List.{All, flat_map}
use Rattle.eb_base.specs.declared.width.Width.{Width}
use Rattle.eb_codec.specs.declared.item.Header.{Header}
use Rattle.eb_codec.specs.Form.{Form, zeroed, field}
use Rattle.eb_codec.proofs.ZeroedLemmas.{zeroed-append, flat_map-append}
use Rattle.std.proofs.lemmas.List.{append_assoc, append-nil}
use Rattle.std.proofs.lemmas.List.Elements.{All-nil, All-cons, All-append}
use Rattle.wb_signals.specs.Request.{Request}
use Rattle.wb_signals.specs.Cycles.{FitsBus, AllFitBus}
use Rattle.wb_signals.specs.declared.answer.Answer.{Answer}
use Rattle.eb_session.specs.Operations.{upto}
use Rattle.eb_session.specs.Configuration.{register, failed}

-- one more element
pub All-more : {A : Type 0} (P : A → Type 0) (xs : List A) (x : A) → All P xs → P x → All P (xs ++ x ∷ [])
All-more P xs x all one = All-append P xs (x ∷ []) all (All-cons P x [] one (All-nil P))

-- one more operation that fits its bus
pub fit_more : (bus : Width) (rs : List Request) (r : Request) → AllFitBus bus rs → FitsBus bus r → AllFitBus bus (rs ++ r ∷ [])
fit_more bus rs r all fits = All-more (FitsBus bus) rs r all fits

pub length-upto : {A : Type 0} (n : ℕ) (f : ℕ → A) → length (upto n f) ≡ n
length-upto zero f = refl
length-upto (suc n) f = let e = length-upto n f in omega (arith, e, length-append (upto n f) (f n ∷ []))

-- one more of what was pushed
pub pushed : {A : Type 0} (start before after : List A) (f : ℕ → A) (i : ℕ) (x : A) → before ≡ start ++ upto i f → after ≡ before ++ x ∷ [] → x ≡ f i → after ≡ start ++ upto (i + 1) f
pushed start before after f i x e g is =
    let on : i + 1 ≡ suc i = omega arith in
    g ∙ ap (λ l. l ++ x ∷ []) e ∙ append_assoc start (upto i f) (x ∷ []) ∙ ap (λ y. start ++ (upto i f ++ y ∷ [])) is ∙ ap (λ n. start ++ upto n f) (sym on)

pub register-append : (e : ℕ) (xs ys : List Answer) → register e (xs ++ ys) ≡ register (register e xs) ys
register-append e [] ys = refl
register-append e (a ∷ xs) ys = register-append ((2 * e + failed a) % 2 ^ 64) xs ys

register_next : (e : ℕ) (answers : List Answer) (i : ℕ) (a : Answer) → slice_get answers i ≡ Some a → register e (take (suc i) answers) ≡ (2 * register e (take i answers) + failed a) % 2 ^ 64
register_next e [] i a is = absurd (cc is)
register_next e (b ∷ answers) zero a is = let same : b ≡ a = cc is in ap (λ x. (2 * e + failed x) % 2 ^ 64) same
register_next e (b ∷ answers) (suc i) a is = register_next ((2 * e + failed b) % 2 ^ 64) answers i a is

-- one more answer
pub register_more : (e : ℕ) (answers : List Answer) (i : ℕ) (a : Answer) (before after : ℕ) → slice_get answers i ≡ Some a → before ≡ register e (take i answers) → after ≡ (2 * before + failed a) % 2 ^ 64 → after ≡ register e (take (i + 1) answers)
register_more e answers i a before after is b f =
    let on : i + 1 ≡ suc i = omega arith in
    f ∙ ap (λ n. (2 * n + failed a) % 2 ^ 64) b ∙ sym (register_next e answers i a is) ∙ ap (λ n. register e (take n answers)) (sym on)

-- one more word in its field
pub one_more_word : (h : Header) (w : Width) (start before after : List ℕ) (f : ℕ → ℕ) (i x : ℕ) → before ≡ start ++ zeroed (flat_map (field h w) (upto i f)) → after ≡ before ++ zeroed (field h w x) → x ≡ f i
    → after ≡ start ++ zeroed (flat_map (field h w) (upto (i + 1) f))
one_more_word h w start before after f i x e g is =
    let on : i + 1 ≡ suc i = omega arith in
    let done : Form = flat_map (field h w) (upto i f) in
    let more : flat_map (field h w) (upto (suc i) f) ≡ done ++ field h w (f i) = flat_map-append h w (upto i f) (f i ∷ []) ∙ ap (λ (q : Form). done ++ q) (append-nil (field h w (f i))) in
    g ∙ ap (λ (l : List ℕ). l ++ zeroed (field h w x)) e ∙ append_assoc start (zeroed done) (zeroed (field h w x)) ∙ ap (λ (n : ℕ). start ++ (zeroed done ++ zeroed (field h w n))) is
    ∙ ap (λ (l : List ℕ). start ++ l) (sym (zeroed-append done (field h w (f i))) ∙ ap zeroed (sym more)) ∙ ap (λ (n : ℕ). start ++ zeroed (flat_map (field h w) (upto n f))) (sym on)

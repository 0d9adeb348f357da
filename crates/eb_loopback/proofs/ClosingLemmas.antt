-- The error register as a host reads it at the end of a cycle.
use Rattle.std.proofs.Common.{◌≡◌, ℕ, zero, suc, ◌+◌, ◌-◌, ◌*◌, ◌/◌, ◌%◌, ◌^◌, ◌<◌, List, take, drop, sym, ap, ◌∙◌, arith, take_all, mod-eq_of_lt}
use Rattle.eb_base.specs.declared.width.Width.{Width}
use Rattle.eb_base.specs.declared.width.Width.TheVariants.{W8, W16, W32, W64}
use Rattle.eb_base.specs.Width.{octets}
use Rattle.eb_base.specs.Field.{octets_of, number, number_at}
use Rattle.eb_base.specs.Lanes.{selected, port_address}
use Rattle.eb_base.proofs.FieldLemmas.{number_at-W8, number_at-W16, number_at-W32, number_at-W64, number-octets_of, length-octets_of, number-lt, IsBytes}
use Rattle.eb_base.proofs.LaneLemmas.{selected-full, selected-lt}
use Rattle.eb_session.specs.Configuration.{config_at, config_word}
use Rattle.eb_session.proofs.ConfigurationLemmas.{in_first, in_second}
use Rattle.eb_codec.proofs.FieldLemmas.{IsBytes-take, IsBytes-drop}

-- words joined, the first highest
abbrev pub joined_by : Width → (ℕ → ℕ) → ℕ → ℕ
joined_by w f zero = 0
joined_by w f (suc n) = joined_by w f n * 256 ^ octets w + f n

whole : (e : ℕ) → e < 2 ^ 64 → number_at W64 (octets_of W64 e) 0 ≡ e
whole e lt = ap (number W64) (take_all 8 (octets_of W64 e) (let n = length-octets_of W64 e in omega arith)) ∙ number-octets_of W64 e lt

pub joined_is : (w : Width) (e : ℕ) (f : ℕ → ℕ) → e < 2 ^ 64 → ((i : ℕ) → i < 8 / octets w → f i ≡ number_at w (octets_of W64 e) (i * octets w)) → joined_by w f (8 / octets w) ≡ e
joined_is W8 e f lt is =
    let b : List ℕ = octets_of W64 e in
    omega (
      arith,
      whole e lt,
      number_at-W64 b 0,
      is 0 (omega arith),
      is 1 (omega arith),
      is 2 (omega arith),
      is 3 (omega arith),
      is 4 (omega arith),
      is 5 (omega arith),
      is 6 (omega arith),
      is 7 (omega arith),
      number_at-W8 b 0,
      number_at-W8 b 1,
      number_at-W8 b 2,
      number_at-W8 b 3,
      number_at-W8 b 4,
      number_at-W8 b 5,
      number_at-W8 b 6,
      number_at-W8 b 7,
    )
joined_is W16 e f lt is =
    let b : List ℕ = octets_of W64 e in
    omega (arith, whole e lt, number_at-W64 b 0, is 0 (omega arith), is 1 (omega arith), is 2 (omega arith), is 3 (omega arith), number_at-W16 b 0, number_at-W16 b 2, number_at-W16 b 4, number_at-W16 b 6)
joined_is W32 e f lt is =
    let b : List ℕ = octets_of W64 e in
    omega (arith, whole e lt, number_at-W64 b 0, is 0 (omega arith), is 1 (omega arith), number_at-W32 b 0, number_at-W32 b 4)
joined_is W64 e f lt is = omega (arith, whole e lt, is 0 (omega arith))

-- ---- a word of configuration space

bytes : (e : ℕ) → IsBytes (octets_of W64 e)
unfolding octets_of
bytes e i = grind arith

-- where a word stands of the 8 octets from a place on
low : (w : Width) (i : ℕ) → i < 8 / octets w → (i * octets w < 8) × (i * octets w % octets w ≡ 0) × ((8 + i * octets w) % octets w ≡ 0)
low W8 i lt = (omega arith, omega arith, omega arith)
low W16 i lt = (omega arith, omega arith, omega arith)
low W32 i lt = (omega arith, omega arith, omega arith)
low W64 i lt = (omega arith, omega arith, omega arith)

small : (w : Width) (e i : ℕ) → number_at w (octets_of W64 e) (i * octets w) % 256 ^ octets w ≡ number_at w (octets_of W64 e) (i * octets w)
small w e i = mod-eq_of_lt (number-lt w (take (octets w) (drop (i * octets w) (octets_of W64 e))) (IsBytes-take (octets w) (drop (i * octets w) (octets_of W64 e)) (IsBytes-drop (i * octets w) (octets_of W64 e) (bytes e))))

-- all lanes of a word that stands there
word_there : (w : Width) (root e at value i : ℕ) → at % octets w ≡ 0 → number_at w (octets_of W64 value) (i * octets w) ≡ config_at w root e at
    → config_word w root e at (2 ^ octets w - 1) ≡ number_at w (octets_of W64 value) (i * octets w)
unfolding config_word
word_there w root e at value i aligned is =
    let here : port_address w at ≡ at = omega (arith, aligned) in
    ap (λ (a : ℕ). selected (octets w) (2 ^ octets w - 1) (config_at w root e a)) here
    ∙ ap (selected (octets w) (2 ^ octets w - 1)) (sym is)
    ∙ selected-full (octets w) (number_at w (octets_of W64 value) (i * octets w)) ∙ small w value i

-- the error register, and the address of the root table
pub word_of_errors : (w : Width) (root e i : ℕ) → i < 8 / octets w → config_word w root e (0 + i * octets w) (2 ^ octets w - 1) ≡ number_at w (octets_of W64 e) (i * octets w)
word_of_errors w root e i lt =
    let at = low w i lt in
    let zero_on : 0 + i * octets w ≡ i * octets w = omega arith in
    ap (λ (a : ℕ). config_word w root e a (2 ^ octets w - 1)) zero_on ∙ word_there w root e (i * octets w) e i at.1 (in_first w root e (i * octets w) at.1 at.0)

pub word_of_root : (w : Width) (root e i : ℕ) → i < 8 / octets w → config_word w root e (8 + i * octets w) (2 ^ octets w - 1) ≡ number_at w (octets_of W64 root) (i * octets w)
word_of_root w root e i lt =
    let at = low w i lt in
    let back : i * octets w ≡ 8 + i * octets w - 8 = omega arith in
    word_there w root e (8 + i * octets w) root i at.2 (ap (number_at w (octets_of W64 root)) back ∙ in_second w root e (8 + i * octets w) (omega arith) (omega (arith, at.0)))

pub config-lt : (w : Width) (root e adr : ℕ) → config_word w root e adr (2 ^ octets w - 1) < 256 ^ octets w
unfolding config_word
config-lt w root e adr = selected-lt (octets w) (2 ^ octets w - 1) (config_at w root e (port_address w adr))

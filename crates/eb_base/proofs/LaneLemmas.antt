-- The selected lanes of a word, and what a placed access keeps.
use Rattle.std.proofs.Common.{◌≡◌, ◌≢◌, ℕ, zero, suc, ◌+◌, ◌-◌, ◌*◌, ◌/◌, ◌%◌, ◌^◌, ◌<◌, ◌≤◌, ◌==◌, if◌then◌else◌, refl, sym, ap, ◌∙◌, arith}
use Rattle.std.proofs.Math.Nat.{pow-suc, pow-succ', pow-le-pow_right, mul-lt-mul_of_pos_right, div-div-eq-div-mul}
use Rattle.std.proofs.Math.Arith.{mod-mul}
use Rattle.std.proofs.lemmas.Nat.{pow-add, pow_pos, shl_below}
use Rattle.eb_base.specs.declared.width.Width.{Width}
use Rattle.eb_base.specs.declared.width.Width.TheVariants.{W8, W16, W32, W64}
use Rattle.eb_base.specs.Width.{octets}
use Rattle.eb_base.specs.Lanes.{selected, shift, placed_adr, placed_dat, placed_sel, word_of}

-- ---- powers

-- 8 bits are an octet
pub octet-pow : (k : ℕ) → 256 ^ k ≡ 2 ^ (8 * k)
octet-pow zero = refl
octet-pow (suc k) =
    let more : 8 * suc k ≡ 8 * k + 8 = omega arith in
    pow-suc 256 k ∙ ap (λ n. n * 256) (octet-pow k) ∙ sym (pow-add 2 (8 * k) 8) ∙ ap (λ n. 2 ^ n) (sym more)

pub octet-pow_pos : (k : ℕ) → 0 < 256 ^ k
octet-pow_pos k = rw (octet-pow k) (pow_pos (8 * k))

-- ---- one lane

abbrev pub lane : ℕ → ℕ → ℕ
lane sel word = if sel % 2 == 1 then word % 256 else 0

pub lane-lt : (sel word : ℕ) → lane sel word < 256
lane-lt sel word = grind arith

lane-mod : (sel word : ℕ) → lane sel word ≡ lane sel (word % 256)
lane-mod sel word = grind arith

lane-again : (sel word : ℕ) → lane sel (lane sel word) ≡ lane sel word
lane-again sel word = grind arith

lane-zero : (sel : ℕ) → lane sel 0 ≡ 0
lane-zero sel = grind arith

lane-none : (sel word : ℕ) → sel % 2 ≡ 0 → lane sel word ≡ 0
lane-none sel word even = grind arith

lane-full : (sel word : ℕ) → sel % 2 ≡ 1 → lane sel word ≡ word % 256
lane-full sel word odd = grind arith

-- ---- the selected lanes

-- how large they are
pub selected-lt : (lanes sel word : ℕ) → selected lanes sel word < 256 ^ lanes
selected-lt zero sel word = omega arith
selected-lt (suc lanes) sel word =
    omega (arith, lane-lt sel word, selected-lt lanes (sel / 2) (word / 256), pow-suc 256 lanes)

-- of zero
pub selected-zero : (lanes sel : ℕ) → selected lanes sel 0 ≡ 0
selected-zero zero sel = refl
selected-zero (suc lanes) sel = omega (arith, lane-zero sel, selected-zero lanes (sel / 2))

-- with no lane selected
pub selected-none : (lanes word : ℕ) → selected lanes 0 word ≡ 0
selected-none zero word = refl
selected-none (suc lanes) word = omega (arith, selected-none lanes (word / 256))

-- with all lanes selected
pub selected-full : (lanes word : ℕ) → selected lanes (2 ^ lanes - 1) word ≡ word % 256 ^ lanes
selected-full zero word = omega arith
selected-full (suc lanes) word =
    let p = pow-suc 2 lanes in
    let some = pow_pos lanes in
    let odd : (2 ^ suc lanes - 1) % 2 ≡ 1 = omega arith in
    let half : (2 ^ suc lanes - 1) / 2 ≡ 2 ^ lanes - 1 = omega arith in
    let low = lane-full (2 ^ suc lanes - 1) word odd in
    let high : selected lanes ((2 ^ suc lanes - 1) / 2) (word / 256) ≡ (word / 256) % 256 ^ lanes =
    ap (λ n. selected lanes n (word / 256)) half ∙ selected-full lanes (word / 256) in
    let digits = mod-mul word {m = 256 ^ lanes} {c = 256} (octet-pow_pos lanes) (omega arith) in
    let whole : word % 256 ^ suc lanes ≡ word % (256 ^ lanes * 256) = ap (λ n. word % n) (pow-suc 256 lanes) in
    omega (arith, low, high, digits, whole)

-- a second time
pub selected-again : (lanes sel word : ℕ) → selected lanes sel (selected lanes sel word) ≡ selected lanes sel word
selected-again zero sel word = refl
selected-again (suc lanes) sel word =
    let d = lane sel word in
    let r = selected lanes (sel / 2) (word / 256) in
    let small = lane-lt sel word in
    let low : (d + 256 * r) % 256 ≡ d = omega arith in
    let high : (d + 256 * r) / 256 ≡ r = omega arith in
    let first : lane sel (d + 256 * r) ≡ d = lane-mod sel (d + 256 * r) ∙ ap (λ n. lane sel n) low ∙ lane-again sel word in
    let rest : selected lanes (sel / 2) ((d + 256 * r) / 256) ≡ r = ap (λ n. selected lanes (sel / 2) n) high ∙ selected-again lanes (sel / 2) (word / 256) in
    omega (arith, first, rest)

-- more lanes than any that is selected
pub selected-more : (lanes more sel word : ℕ) → sel < 2 ^ lanes → selected (lanes + more) sel word ≡ selected lanes sel word
selected-more zero more sel word lt =
    let none : sel ≡ 0 = omega arith in
    let z : zero + more ≡ more = omega arith in
    ap (λ n. selected n sel word) z ∙ ap (λ n. selected more n word) none ∙ selected-none more word
selected-more (suc lanes) more sel word lt =
    let e : suc lanes + more ≡ suc (lanes + more) = omega arith in
    let p = pow-suc 2 lanes in
    let half : sel / 2 < 2 ^ lanes = omega arith in
    let ih = selected-more lanes more (sel / 2) (word / 256) half in
    ap (λ n. selected n sel word) e ∙ ap (λ n. lane sel word + 256 * n) ih

-- moved up
pub selected-moved : (up lanes sel word : ℕ) → selected (up + lanes) (sel * 2 ^ up) (word * 256 ^ up) ≡ selected lanes sel word * 256 ^ up
selected-moved zero lanes sel word =
    let z : zero + lanes ≡ lanes = omega arith in
    let s : sel * 2 ^ zero ≡ sel = omega arith in
    let w : word * 256 ^ zero ≡ word = omega arith in
    let one : selected lanes sel word ≡ selected lanes sel word * 256 ^ zero = omega arith in
    ap (λ n. selected n (sel * 2 ^ zero) (word * 256 ^ zero)) z ∙ ap (λ n. selected lanes n (word * 256 ^ zero)) s
    ∙ ap (λ n. selected lanes sel n) w ∙ one
selected-moved (suc up) lanes sel word =
    let e : suc up + lanes ≡ suc (up + lanes) = omega arith in
    let s = ap (λ n. sel * n) (pow-suc 2 up) in
    let w = ap (λ n. word * n) (pow-suc 256 up) in
    let even : (sel * 2 ^ suc up) % 2 ≡ 0 = omega arith in
    let half : (sel * 2 ^ suc up) / 2 ≡ sel * 2 ^ up = omega arith in
    let rest : (word * 256 ^ suc up) / 256 ≡ word * 256 ^ up = omega arith in
    let low = lane-none (sel * 2 ^ suc up) (word * 256 ^ suc up) even in
    let high : selected (up + lanes) ((sel * 2 ^ suc up) / 2) ((word * 256 ^ suc up) / 256) ≡ selected lanes sel word * 256 ^ up =
    ap (λ n. selected (up + lanes) n ((word * 256 ^ suc up) / 256)) half ∙ ap (λ n. selected (up + lanes) (sel * 2 ^ up) n) rest
    ∙ selected-moved up lanes sel word in
    let p = ap (λ n. selected lanes sel word * n) (pow-suc 256 up) in
    ap (λ n. selected n (sel * 2 ^ suc up) (word * 256 ^ suc up)) e ∙ omega (arith, low, high, p)

-- in two parts
pub selected-parts : (low high sel word : ℕ) → selected (low + high) sel word ≡ selected low sel word + 256 ^ low * selected high (sel / 2 ^ low) (word / 256 ^ low)
selected-parts zero high sel word =
    let z : zero + high ≡ high = omega arith in
    let s : sel / 2 ^ zero ≡ sel = omega arith in
    let w : word / 256 ^ zero ≡ word = omega arith in
    let one : selected high sel word ≡ 0 + 256 ^ zero * selected high sel word = omega arith in
    ap (λ n. selected n sel word) z ∙ one ∙ ap (λ n. 0 + 256 ^ zero * selected high n word) (sym s) ∙ ap (λ n. 0 + 256 ^ zero * selected high (sel / 2 ^ zero) n) (sym w)
selected-parts (suc low) high sel word =
    let e : suc low + high ≡ suc (low + high) = omega arith in
    let s = sym (div-div-eq-div-mul sel 2 (2 ^ low) ∙ ap (λ n. sel / n) (sym (pow-succ' 2 low))) in
    let w = sym (div-div-eq-div-mul word 256 (256 ^ low) ∙ ap (λ n. word / n) (sym (pow-succ' 256 low))) in
    let rest = selected high (sel / 2 / 2 ^ low) (word / 256 / 256 ^ low) in
    let same : selected high (sel / 2 ^ suc low) (word / 256 ^ suc low) ≡ rest =
    ap (λ n. selected high n (word / 256 ^ suc low)) s ∙ ap (λ n. selected high (sel / 2 / 2 ^ low) n) w in
    let ih = selected-parts low high (sel / 2) (word / 256) in
    let up : 256 ^ suc low * selected high (sel / 2 ^ suc low) (word / 256 ^ suc low) ≡ (256 * 256 ^ low) * rest =
    ap (λ n. n * selected high (sel / 2 ^ suc low) (word / 256 ^ suc low)) (pow-succ' 256 low) ∙ ap (λ n. (256 * 256 ^ low) * n) same in
    ap (λ n. selected n sel word) e ∙ omega (arith, ih, up)

-- ---- a placed access

pub octets_le : (w : Width) → octets w ≤ 8
octets_le W8 = omega arith
octets_le W16 = omega arith
octets_le W32 = omega arith
octets_le W64 = omega arith

-- it stays within the bus word
pub shift-room : (port bus : Width) (adr : ℕ) → octets port ≤ octets bus → shift port bus adr + octets port ≤ octets bus
shift-room port bus adr le = omega arith

-- its address is that of a bus word
pub placed_adr-aligned : (port bus : Width) (adr : ℕ) → placed_adr port bus adr % octets bus ≡ 0
placed_adr-aligned port W8 adr = omega arith
placed_adr-aligned port W16 adr = omega arith
placed_adr-aligned port W32 adr = omega arith
placed_adr-aligned port W64 adr = omega arith

-- its lanes are lanes of the bus
pub placed_sel-lt : (port bus : Width) (adr sel : ℕ) → octets port ≤ octets bus → sel < 2 ^ octets port → placed_sel port bus adr sel < 2 ^ octets bus
placed_sel-lt port bus adr sel le lt =
    let room : octets port + shift port bus adr ≤ octets bus = omega arith in
    let most : 2 ^ (octets port + shift port bus adr) ≤ 2 ^ octets bus = pow-le-pow_right {n = 2} (omega arith) room in
    omega (arith, most, shl_below sel (octets port) (shift port bus adr) lt)

-- some of them is selected
pub placed_sel-some : (port bus : Width) (adr sel : ℕ) → sel ≢ 0 → placed_sel port bus adr sel ≢ 0
placed_sel-some port bus adr sel some none =
    let up = pow_pos (shift port bus adr) in
    let least = mul-lt-mul_of_pos_right {m = 0} {n = sel} {k = 2 ^ shift port bus adr} (omega arith) up in
    absurd (omega arith)

-- its data fits the bus
pub placed_dat-lt : (port bus : Width) (adr dat sel : ℕ) → octets port ≤ octets bus → placed_dat port bus adr dat sel < 256 ^ octets bus
placed_dat-lt port bus adr dat sel le =
    let k = shift port bus adr in
    let room : octets port + k ≤ octets bus = omega arith in
    let most : 256 ^ (octets port + k) ≤ 256 ^ octets bus = pow-le-pow_right {n = 256} (omega arith) room in
    let least = mul-lt-mul_of_pos_right {m = selected (octets port) sel dat} {n = 256 ^ octets port} {k = 256 ^ k} (selected-lt (octets port) sel dat) (octet-pow_pos k) in
    omega (arith, most, least, pow-add 256 (octets port) k)

-- its data is zero outside its lanes
pub placed_dat-selected : (port bus : Width) (adr dat sel : ℕ) → octets port ≤ octets bus → sel < 2 ^ octets port
    → selected 8 (placed_sel port bus adr sel) (placed_dat port bus adr dat sel) ≡ placed_dat port bus adr dat sel
placed_dat-selected port bus adr dat sel le lt =
    let k = shift port bus adr in
    let n = octets port in
    let d = selected n sel dat in
    let most = octets_le bus in
    let room : k + n ≤ 8 = omega arith in
    let all : 8 ≡ k + (n + (8 - k - n)) = omega arith in
    ap (λ (m : ℕ). selected m (sel * 2 ^ k) (d * 256 ^ k)) all
    ∙ selected-moved k (n + (8 - k - n)) sel d
    ∙ ap (λ m. m * 256 ^ k) (selected-more n (8 - k - n) sel d lt ∙ selected-again n sel dat)

-- a read asks with no data
pub placed_dat-zero : (port bus : Width) (adr sel : ℕ) → placed_dat port bus adr 0 sel ≡ 0
placed_dat-zero port bus adr sel =
    ap (λ n. n * 256 ^ shift port bus adr) (selected-zero (octets port) sel) ∙ omega arith

-- what a port gets fits it
pub word_of-lt : (port bus : Width) (adr dat sel : ℕ) → word_of port bus adr dat sel < 256 ^ octets port
word_of-lt port bus adr dat sel = selected-lt (octets port) sel (dat / 256 ^ shift port bus adr)

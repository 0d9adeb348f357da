-- One reply as the slave writes it, and as the host takes it.
use Rattle.std.proofs.Common.{◌≡◌, ℕ, zero, suc, ◌+◌, ◌-◌, ◌*◌, ◌^◌, ◌<◌, ◌≤◌, List, [], ◌∷◌, ◌++◌, length, take, drop, get_or, All, sym, ap, ◌∙◌, subst, arith, append_assoc, append-nil, length-append, length-drop, take_at}
use Rattle.std.proofs.lemmas.List.{take-append-le, drop-append-le, drop-drop}
use Rattle.std.specs.Prelude.{flat_map}
use lib.Seq.{drop-append-add}
use Rattle.eb_base.specs.declared.width.Width.{Width}
use Rattle.eb_base.specs.Width.{octets}
use Rattle.eb_base.specs.Field.{octets_of, number, number_at}
use Rattle.eb_base.proofs.FieldLemmas.{length-octets_of}
use Rattle.eb_codec.specs.declared.item.Header.{Header}
use Rattle.eb_codec.specs.declared.item.Record.{Record}
use Rattle.eb_codec.specs.Sizes.{field_octets, unit_octets, gap}
use Rattle.eb_codec.specs.Form.{Form, fixed, padding, field, part, record_body, record_form, zeroed, Fills}
use Rattle.eb_codec.specs.Reading.{numbers_in}
use Rattle.eb_codec.proofs.FormLemmas.{Fills-append, Fills-zeroed, Fills-padding, length-fixed, length-padding}
use Rattle.eb_codec.proofs.FieldLemmas.{fields_read}
use Rattle.eb_codec.proofs.ZeroedLemmas.{zeroed-append, length-zeroed}
use Rattle.eb_codec.proofs.RecordLemmas.{address-field, port-field, four-unit}
use Rattle.eb_host.specs.Asks.{lanes, reply_body, reply_octets, reply_form}
use Rattle.eb_host.specs.Answers.{word_start, word_at}

-- ---- numbers at places

pub number_behind : (w : Width) (xs ys : List ℕ) (k : ℕ) → number_at w (xs ++ ys) (length xs + k) ≡ number_at w ys k
number_behind w xs ys k = ap (λ (l : List ℕ). number w (take (octets w) l)) (drop-append-add xs ys k)

pub number_before : (w : Width) (xs ys : List ℕ) (k : ℕ) → k + octets w ≤ length xs → number_at w (xs ++ ys) k ≡ number_at w xs k
number_before w xs ys k le =
    ap (λ (l : List ℕ). number w (take (octets w) l)) (drop-append-le k xs ys (omega arith))
    ∙ ap (number w) (take-append-le (octets w) (drop k xs) ys (omega (arith, length-drop k xs)))

numbers_nth : (h : Header) (w : Width) (n i : ℕ) (o : List ℕ) → i < n → get_or (numbers_in h w n o) i 0 ≡ number_at w o (field_octets h * i + (field_octets h - octets w))
numbers_nth h w zero i o lt = absurd (omega arith)
numbers_nth h w (suc n) zero o lt = let e : 0 + (field_octets h - octets w) ≡ field_octets h * 0 + (field_octets h - octets w) = omega arith in ap (number_at w o) e
numbers_nth h w (suc n) (suc i) o lt =
    let rest : ℕ = field_octets h * i + (field_octets h - octets w) in
    let e : field_octets h + rest ≡ field_octets h * suc i + (field_octets h - octets w) = grind arith in
    numbers_nth h w n i (drop (field_octets h) o) (omega arith)
    ∙ ap (λ (l : List ℕ). number w (take (octets w) l)) (drop-drop rest (field_octets h) o) ∙ ap (number_at w o) e

module _ (h : Header) where
  length-field : (w : Width) (n : ℕ) → octets w ≤ field_octets h → length (field h w n) ≡ field_octets h
  length-field w n le =
      omega (arith, length-append (padding (field_octets h - octets w)) (fixed (octets_of w n)), length-padding (field_octets h - octets w), length-fixed (octets_of w n), length-octets_of w n, le)

  length-fields : (w : Width) (ns : List ℕ) → octets w ≤ field_octets h → length (flat_map (field h w) ns) ≡ field_octets h * length ns
  length-fields w [] le = omega arith
  length-fields w (n ∷ ns) le =
      let e : field_octets h * suc (length ns) ≡ field_octets h + field_octets h * length ns = grind arith in
      omega (arith, length-append (field h w n) (flat_map (field h w) ns), length-field w n le, length-fields w ns le, e)

  -- the record that replies with these words
  abbrev pub reply : ℕ → ℕ → List ℕ → Record
  reply flags n words = record {
    head = record { flags = flags; enable = lanes h; writes = n; reads = 0 };
    write_base = 0;
    values = words;
    return_base = 0;
    addresses = [];
  }

  module _ (flags n w : ℕ) (ws : List ℕ) (count : length (w ∷ ws) ≡ n) where
    abbrev words : List ℕ
    words = w ∷ ws

    abbrev before : Form
    before = fixed (flags ∷ lanes h ∷ n ∷ 0 ∷ []) ++ padding (unit_octets h - 4) ++ field h h.address 0

    abbrev fields : Form
    fields = flat_map (field h h.port) words

    length-before : length before ≡ unit_octets h + field_octets h
    length-before =
        omega (
          arith,
          length-append (fixed (flags ∷ lanes h ∷ n ∷ 0 ∷ []) ++ padding (unit_octets h - 4)) (field h h.address 0),
          length-append (fixed (flags ∷ lanes h ∷ n ∷ 0 ∷ [])) (padding (unit_octets h - 4)),
          length-padding (unit_octets h - 4),
          length-field h.address 0 (address-field h),
          four-unit h,
        )

    length-words : length fields ≡ field_octets h * n
    length-words = length-fields h.port words (port-field h) ∙ ap (λ (k : ℕ). field_octets h * k) count

    body_is : record_body h (reply flags n words) ≡ before ++ fields
    unfolding part
    body_is =
        append-nil ((fixed (flags ∷ lanes h ∷ n ∷ 0 ∷ []) ++ padding (unit_octets h - 4)) ++ (field h h.address 0 ++ fields))
        ∙ sym (append_assoc (fixed (flags ∷ lanes h ∷ n ∷ 0 ∷ []) ++ padding (unit_octets h - 4)) (field h h.address 0) fields)

    abbrev after : Form
    after = padding (gap (unit_octets h) (reply_body h n))

    form_is : record_form h (reply flags n words) ≡ before ++ fields ++ after
    form_is =
        let long : length (before ++ fields) ≡ reply_body h n = omega (arith, length-append before fields, length-before, length-words) in
        (λ i. body_is i ++ padding (gap (unit_octets h) (length (body_is i)))) ∙ ap (λ (k : ℕ). before ++ fields ++ padding (gap (unit_octets h) k)) long

    abbrev pub written : List ℕ
    written = zeroed (record_form h (reply flags n words))

    written_is : written ≡ (zeroed before ++ zeroed fields) ++ zeroed after
    written_is = ap zeroed form_is ∙ zeroed-append (before ++ fields) after ∙ ap (λ (l : List ℕ). l ++ zeroed after) (zeroed-append before fields)

    pub fills_reply : Fills written (reply_form h flags n)
    fills_reply =
        subst (λ (o : List ℕ). Fills o (reply_form h flags n)) (sym written_is)
        (Fills-append (zeroed before ++ zeroed fields) (zeroed after) (before ++ padding (field_octets h * n)) after
        (Fills-append (zeroed before) (zeroed fields) before (padding (field_octets h * n)) (Fills-zeroed before) (Fills-padding (zeroed fields) (field_octets h * n) (length-zeroed fields ∙ length-words)))
        (Fills-zeroed after))

    pub word_is : All (λ v. v < 256 ^ octets h.port) words → (i : ℕ) → i < n → word_at h written 0 i ≡ get_or words i 0
    word_is small i lt =
        let place : ℕ = field_octets h * i + (field_octets h - octets h.port) in
        let front : length (zeroed before) ≡ unit_octets h + field_octets h = length-zeroed before ∙ length-before in
        let at : word_start h 0 i ≡ length (zeroed before) + place = omega (arith, front) in
        let apart : written ≡ zeroed before ++ (zeroed fields ++ zeroed after) = written_is ∙ append_assoc (zeroed before) (zeroed fields) (zeroed after) in
        let inner : take (field_octets h * length words) (zeroed fields ++ zeroed after) ≡ zeroed fields = take_at (zeroed fields) (zeroed after) (field_octets h * length words) (length-zeroed fields ∙ length-fields h.port words (port-field h)) in
        let read : numbers_in h h.port (length words) (zeroed fields ++ zeroed after) ≡ words =
        fields_read h h.port words (zeroed fields ++ zeroed after) (port-field h) small (subst (λ (o : List ℕ). Fills o fields) (sym inner) (Fills-zeroed fields)) in
        ap (λ (l : List ℕ). word_at h l 0 i) apart ∙ ap (number_at h.port (zeroed before ++ (zeroed fields ++ zeroed after))) at ∙ number_behind h.port (zeroed before) (zeroed fields ++ zeroed after) place
        ∙ sym (numbers_nth h h.port (length words) i (zeroed fields ++ zeroed after) (omega (arith, count))) ∙ ap (λ (l : List ℕ). get_or l i 0) read

    pub length-written : length written ≡ reply_octets h n
    length-written =
        omega (arith, ap length written_is, length-append (zeroed before ++ zeroed fields) (zeroed after), length-append (zeroed before) (zeroed fields), length-zeroed before, length-zeroed fields, length-zeroed after, length-before, length-words, length-padding (gap (unit_octets h) (reply_body h n)))

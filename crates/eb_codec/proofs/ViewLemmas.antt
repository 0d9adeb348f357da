-- A record that is viewed.
use Rattle.std.proofs.Common.{◌≡◌, ℕ, ◌+◌, ◌<◌, ◌≤◌, List, length, drop, get_or, Some, refl, sym, ap, subst, ◌∙◌, arith}
use Rattle.std.specs.List.{All}
use Rattle.eb_base.specs.declared.width.Width.{Width}
use Rattle.eb_base.specs.declared.width.Widths.{Widths}
use Rattle.eb_base.proofs.FieldLemmas.{IsBytes}
use Rattle.eb_codec.specs.declared.item.Header.{Header}
use Rattle.eb_codec.specs.Stream.{BreaksNone, Spells, Recorded}
use Rattle.eb_codec.specs.Sizes.{unit_octets}
use Rattle.eb_codec.specs.Form.{FitsRecord, KeepsRules}
use Rattle.eb_codec.specs.Reading.{size, item_in, base_in, list_in, part_octets, record_head_of, record_of, RecordBehind, IsRecord}
use Rattle.eb_codec.proofs.RecordLemmas.{four-unit}
use Rattle.eb_codec.proofs.ItemLemmas.{spells_item_in, form_read}
use Rattle.eb_codec.proofs.KeptLemmas.{kept_record}
use Rattle.eb_codec.proofs.ReadingLemmas.{part_within, record_parts-are}

spells_record : (sets : Widths) (h : Header) (o : List ℕ) → BreaksNone sets (Some h) o → length o ≡ size (Some h) o → IsBytes o → Spells sets (Some h) (Recorded (record_of h o)) o
unfolding item_in
spells_record sets h o none whole bytes = spells_item_in sets (Some h) o none whole bytes

-- whole octets that break no rule
pub is_record : (sets : Widths) (h : Header) (o : List ℕ) → BreaksNone sets (Some h) o → length o ≡ size (Some h) o → IsBytes o → IsRecord h o
is_record sets h o none whole bytes =
    let s = spells_record sets h o none whole bytes in
    let k = kept_record sets (Some h) h (record_of h o) o refl s in
    record { fits = k.0; fills = s.form.1; rules = k.1 }

pub head_of : (h : Header) (o : List ℕ) → (record_of h o).head ≡ record_head_of o
unfolding record_of
head_of h o = refl

-- What a view tells of its octets.
pub record Views (h : Header) (o : List ℕ) (v : RecordBehind) : Type 0 where
  pub header : v.header ≡ h
  pub head : v.item.head ≡ record_head_of o
  pub long : 4 ≤ length o
  pub within : unit_octets h + part_octets h (get_or o 2 0) + part_octets h (get_or o 3 0) ≤ length o
  pub write_base : v.item.write_base ≡ base_in h (get_or o 2 0) (drop (unit_octets h) o)
  pub values : v.item.values ≡ list_in h h.port (get_or o 2 0) (drop (unit_octets h) o)
  pub return_base : v.item.return_base ≡ base_in h (get_or o 3 0) (drop (unit_octets h + part_octets h (get_or o 2 0)) o)
  pub addresses : v.item.addresses ≡ list_in h h.address (get_or o 3 0) (drop (unit_octets h + part_octets h (get_or o 2 0)) o)
  pub fits : FitsRecord v.header v.item
  pub rules : KeepsRules v.header v.item.head

pub views : (h : Header) (o : List ℕ) (v : RecordBehind) → IsRecord h o → record { header = h; item = record_of h o } ≡ v → Views h o v
views h o v r e =
    let p = record_parts-are h o in
    let len = (form_read (Some h) (Recorded (record_of h o)) o (r.fits, r.fills)).1 in
    let within = part_within h o len in
    subst (Views h o) e (record {
      header = refl;
      head = head_of h o;
      long = omega (arith, within, four-unit h);
      within = within;
      write_base = p.write_base;
      values = p.values;
      return_base = p.return_base;
      addresses = p.addresses;
      fits = r.fits;
      rules = r.rules;
    })

-- a number of the list that was read, and that it is small
pub at_list : (h : Header) (w : Width) (o : List ℕ) (ns : List ℕ) (n i at place m : ℕ) → ns ≡ list_in h w n (drop at o) → place ≡ at → m ≡ get_or (list_in h w n (drop place o)) i 0 → m ≡ get_or ns i 0
at_list h w o ns n i at place m is p e = e ∙ ap (λ (k : ℕ). get_or (list_in h w n (drop k o)) i 0) p ∙ ap (λ (l : List ℕ). get_or l i 0) (sym is)

pub at_base : (h : Header) (o : List ℕ) (base n at place m : ℕ) → base ≡ base_in h n (drop at o) → place ≡ at → m ≡ base_in h n (drop place o) → m ≡ base
at_base h o base n at place m is p e = e ∙ ap (λ (k : ℕ). base_in h n (drop k o)) p ∙ sym is

pub number_small : (b : ℕ) (ns : List ℕ) (i count m : ℕ) → All (λ v. v < b) ns → length ns ≡ count → i < count → m ≡ get_or ns i 0 → m < b
number_small b ns i count m all len lt e = subst (λ (k : ℕ). k < b) (sym e) (all i 0 (omega arith))

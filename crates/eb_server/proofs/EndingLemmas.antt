-- How octets end, and a stream of them that was served.
use Rattle.std.proofs.Common.{◌≡◌, ℕ, ◌<◌, ◌≤◌, List, [], ◌∷◌, ◌++◌, length, take, drop, Option, Some, None, refl, sym, ap, ◌∙◌, subst, arith, inl, inr}
use Rattle.std.specs.Prelude.{◌⊎◌}
use Rattle.std.specs.Io.KnownBytes.{prepend_known, IsAtEnd}
use Rattle.std.proofs.lemmas.Bool.{cases_lt}
use Rattle.std.proofs.lemmas.List.{append-nil, length-append, length-take, take_at, take-append-drop}
use Rattle.eb_base.specs.declared.width.Widths.{Widths}
use Rattle.eb_base.specs.Field.{IsBytes}
use Rattle.eb_io.specs.Counts.{Rose}
use Rattle.eb_io.specs.Reading.{Reading, Gave}
use Rattle.eb_io.specs.Writing.{Writing}
use Rattle.eb_codec.specs.declared.item.Why.{Why}
use Rattle.eb_codec.specs.Stream.{StreamItem, SpellsAll, AreItems, HaveWidths, IsFirstBad, HasNoBad}
use Rattle.eb_codec.proofs.FieldLemmas.{IsBytes-take}
use Rattle.eb_codec.proofs.OneReadingLemmas.{one_list_of_items, one_first_bad}
use Rattle.eb_codec.proofs.EndingLemmas.{have_end}
use Rattle.eb_codec.proofs.FrontLemmas.{no_bad_before, none_left, bad_of_more, bad_of_front}
use Rattle.wb_signals.specs.History.{Entry, given}
use Rattle.eb_session.specs.declared.slave.Slave.{Slave}
use Rattle.eb_session.specs.Replies.{sets_of}
use Rattle.eb_server.specs.declared.ending.Ending.{Ending}
use Rattle.eb_server.specs.declared.ending.Ending.TheVariants as ending
use Rattle.eb_server.specs.Serving.{most_octets, WasRead, HaveRun, WereAnswered, EndsAs}
use Rattle.eb_server.specs.Laws.{HasEnding, OnlyEnding, EndsSo, OneEnding}

-- ---- octets have one ending

clean_only : (sets : Widths) (octets : List ℕ) (e : Ending) → EndsAs sets octets ending.Clean → EndsAs sets octets e → ending.Clean ≡ e
clean_only sets octets ending.Clean a b = refl
clean_only sets octets (ending.Truncated n) a b =
    let none = none_left sets octets b.2 b.1 a.1 b.3 a.2 in
    absurd (omega (arith, none, b.4, b.5))
clean_only sets octets (ending.Malformed p why) a b = absurd (no_bad_before sets octets [] octets a.1 (sym (append-nil octets)) a.2 p why b.1)
clean_only sets octets ending.TooLong a b = absurd (omega (arith, a.0, b.0))
clean_only sets octets ending.ReadFault a b = absurd b
clean_only sets octets ending.WriteFault a b = absurd b
clean_only sets octets ending.NoMemory a b = absurd b

cut_only : (sets : Widths) (octets : List ℕ) (n : ℕ) (e : Ending) → EndsAs sets octets (ending.Truncated n) → EndsAs sets octets e → ending.Truncated n ≡ e
cut_only sets octets n ending.Clean a b = sym (clean_only sets octets (ending.Truncated n) b a)
cut_only sets octets n (ending.Truncated k) a b =
    let same = one_list_of_items sets None octets a.2 b.2 a.1 b.1 a.3 b.3 in
    let count : n ≡ k = a.4 ∙ ap length same.1 ∙ sym b.4 in
    ap (λ (c : ℕ). ending.Truncated c) count
cut_only sets octets n (ending.Malformed p why) a b = absurd (a.6 p why b.1)
cut_only sets octets n ending.TooLong a b = absurd (omega (arith, a.0, b.0))
cut_only sets octets n ending.ReadFault a b = absurd b
cut_only sets octets n ending.WriteFault a b = absurd b
cut_only sets octets n ending.NoMemory a b = absurd b

bad_only : (sets : Widths) (octets : List ℕ) (p : ℕ) (why : Why) (e : Ending) → EndsAs sets octets (ending.Malformed p why) → EndsAs sets octets e → ending.Malformed p why ≡ e
bad_only sets octets p why ending.Clean a b = sym (clean_only sets octets (ending.Malformed p why) b a)
bad_only sets octets p why (ending.Truncated n) a b = sym (cut_only sets octets n (ending.Malformed p why) b a)
bad_only sets octets p why (ending.Malformed q other) a b =
    let same = one_first_bad sets None octets p q why other a.1 b.1 in
    λ i. ending.Malformed (same.0 i) (same.1 i)
bad_only sets octets p why ending.TooLong a b =
    let there : IsFirstBad sets None (take most_octets octets ++ drop most_octets octets) p why = subst (λ (l : List ℕ). IsFirstBad sets None l p why) (sym (take-append-drop most_octets octets)) a.1 in
    let inside : p < length (take most_octets octets) = omega (arith, length-take most_octets octets, a.0, b.0) in
    absurd (b.1 p why (bad_of_front sets (take most_octets octets) (drop most_octets octets) p why inside there))
bad_only sets octets p why ending.ReadFault a b = absurd b
bad_only sets octets p why ending.WriteFault a b = absurd b
bad_only sets octets p why ending.NoMemory a b = absurd b

long_only : (sets : Widths) (octets : List ℕ) (e : Ending) → EndsAs sets octets ending.TooLong → EndsAs sets octets e → ending.TooLong ≡ e
long_only sets octets ending.Clean a b = sym (clean_only sets octets ending.TooLong b a)
long_only sets octets (ending.Truncated n) a b = sym (cut_only sets octets n ending.TooLong b a)
long_only sets octets (ending.Malformed p why) a b = sym (bad_only sets octets p why ending.TooLong b a)
long_only sets octets ending.TooLong a b = refl
long_only sets octets ending.ReadFault a b = absurd b
long_only sets octets ending.WriteFault a b = absurd b
long_only sets octets ending.NoMemory a b = absurd b

pub only_ending : OnlyEnding
only_ending sets octets ending.Clean other a b = clean_only sets octets other a b
only_ending sets octets (ending.Truncated n) other a b = cut_only sets octets n other a b
only_ending sets octets (ending.Malformed p why) other a b = bad_only sets octets p why other a b
only_ending sets octets ending.TooLong other a b = long_only sets octets other a b
only_ending sets octets ending.ReadFault other a b = absurd a
only_ending sets octets ending.WriteFault other a b = absurd a
only_ending sets octets ending.NoMemory other a b = absurd a

-- ---- every list of octets has an ending

at_end : (sets : Widths) (octets : List ℕ) (items : List StreamItem) (rest : List ℕ) → length octets < most_octets → AreItems sets None octets items rest → HasNoBad sets octets → (e : Ending) × EndsAs sets octets e
at_end sets octets items [] few are fine =
    let f = are.front in
    let whole : f.0 ≡ octets = sym (append-nil f.0) ∙ sym f.1 in
    (ending.Clean, (few, items, subst (SpellsAll sets None items) whole f.2))
at_end sets octets items (x ∷ rest) few are fine = (ending.Truncated (length (x ∷ rest)), (few, items, x ∷ rest, are, refl, omega arith, fine))

few_end : (sets : Widths) (octets : List ℕ) → HaveWidths sets → IsBytes octets → length octets < most_octets → (e : Ending) × EndsAs sets octets e
few_end sets octets have bytes few =
    let h = have_end sets octets have bytes in
    elim h.3 [
      | inl fine ↦ at_end sets octets h.0 h.1 few h.2 fine.1
      | inr bad ↦ let inside = bad.2.inside in (ending.Malformed bad.0 bad.1, (omega arith, bad.2))
    ]

many_end : (sets : Widths) (octets : List ℕ) → HaveWidths sets → IsBytes octets → most_octets ≤ length octets → (e : Ending) × EndsAs sets octets e
many_end sets octets have bytes many =
    let front : List ℕ = take most_octets octets in
    let h = have_end sets front have (IsBytes-take most_octets octets bytes) in
    elim h.3 [
      | inl fine ↦ (ending.TooLong, (many, fine.1))
      | inr bad ↦
          let inside = bad.2.inside in
          let there : IsFirstBad sets None octets bad.0 bad.1 = subst (λ (l : List ℕ). IsFirstBad sets None l bad.0 bad.1) (take-append-drop most_octets octets) (bad_of_more sets front (drop most_octets octets) bad.0 bad.1 bad.2) in
          (ending.Malformed bad.0 bad.1, (omega (arith, inside, length-take most_octets octets), there))
    ]

pub has_ending : HasEnding
has_ending sets octets have bytes = elim (cases_lt (length octets) most_octets) [
  | inl few ↦ few_end sets octets have bytes few
  | inr many ↦ many_end sets octets have bytes many
]

-- ---- how a stream ends of a source that had these octets

-- what a source gave is a front of what it had
front_of : (l : List ℕ) (old new : Reading) (octets : List ℕ) (left : Option (List ℕ)) → left ≡ new.left → Gave old new octets → old.left ≡ Some l → (more : List ℕ) × (l ≡ octets ++ more)
front_of l old new octets None is gave has = let e : Some l ≡ None = sym has ∙ gave.next ∙ ap (prepend_known octets) (sym is) in absurd (cc e)
front_of l old new octets (Some more) is gave has =
    let e : Some l ≡ Some (octets ++ more) = sym has ∙ gave.next ∙ ap (prepend_known octets) (sym is) in
    (more, cc e)

-- at its end it gave all of it
all_of : (l : List ℕ) (old new : Reading) (octets : List ℕ) (left : Option (List ℕ)) → left ≡ new.left → IsAtEnd left → Gave old new octets → old.left ≡ Some l → l ≡ octets
all_of l old new octets None is at gave has = let e : Some l ≡ None = sym has ∙ gave.next ∙ ap (prepend_known octets) (sym is) in absurd (cc e)
all_of l old new octets (Some more) is at gave has =
    let e : Some l ≡ Some (octets ++ more) = sym has ∙ gave.next ∙ ap (prepend_known octets) (sym is) in
    let f : l ≡ octets ++ more = cc e in
    f ∙ ap (λ (q : List ℕ). octets ++ q) at ∙ append-nil octets

module _ (s : Slave) (r r' : Reading) (w w' : Writing) (whole : List ℕ) (has : r.left ≡ Some whole) (no_read : Rose r.faults r'.faults → ⊥) (no_write : Rose w.faults w'.faults → ⊥) where
  by_ending : (e : Ending) (octets : List ℕ) (items : List StreamItem) (entries : List Entry) → WasRead r r' octets e → HaveRun s octets items e → WereAnswered s w w' items (given entries) e
      → EndsAs (sets_of s.bus) whole e ⊎ (e ≡ ending.NoMemory)
  by_ending ending.Clean octets items entries read ran answered =
      let is : octets ≡ whole = sym (all_of whole r r' octets r'.left refl read.1 read.2 has) in
      let f = ran.0.front in
      let a-is : f.0 ≡ octets = sym (append-nil f.0) ∙ sym f.1 in
      inl (subst (λ (l : List ℕ). EndsAs (sets_of s.bus) l ending.Clean) is (read.0, items, subst (SpellsAll (sets_of s.bus) None items) a-is f.2))
  by_ending (ending.Truncated n) octets items entries read ran answered =
      let is : octets ≡ whole = sym (all_of whole r r' octets r'.left refl read.1 read.2 has) in
      inl (subst (λ (l : List ℕ). EndsAs (sets_of s.bus) l (ending.Truncated n)) is (read.0, items, ran.0, ran.3, ran.1, ran.2, ran.4))
  by_ending (ending.Malformed p why) octets items entries read ran answered =
      let f = front_of whole r r' octets r'.left refl read.1 has in
      let inside = ran.2.inside in
      let there = bad_of_more (sets_of s.bus) octets f.0 p why ran.2 in
      inl (omega (arith, inside, read.0), subst (λ (l : List ℕ). IsFirstBad (sets_of s.bus) None l p why) (sym f.1) there)
  by_ending ending.ReadFault octets items entries read ran answered = absurd (no_read (subst (λ (n : ℕ). Rose n r'.faults) read.2.faults read.3.rose))
  by_ending ending.WriteFault octets items entries read ran answered = absurd (no_write answered.rose)
  by_ending ending.TooLong octets items entries read ran answered =
      let f = front_of whole r r' octets r'.left refl read.1 has in
      let front : take most_octets whole ≡ octets = ap (take most_octets) f.1 ∙ take_at octets f.0 most_octets read.0 in
      inl (omega (arith, read.0, ap length f.1, length-append octets f.0), subst (HasNoBad (sets_of s.bus)) (sym front) ran.2)
  by_ending ending.NoMemory octets items entries read ran answered = inr refl

pub ends_so : EndsSo
ends_so m s first after r r' w w' e left served has no_read no_write =
    by_ending s r r' w w' left has no_read no_write e served.octets served.items served.entries served.read served.ran served.answered

pub one_ending : OneEnding
one_ending m s first after r r' w w' e decided left served has so no_read no_write =
    elim (ends_so m s first after r r' w w' e left served has no_read no_write) [
      | inl now ↦ inl (only_ending (sets_of s.bus) left e decided now so)
      | inr none ↦ inr none
    ]

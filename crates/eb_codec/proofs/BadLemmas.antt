-- The first octet that breaks a rule is the first bad octet.
use Rattle.std.proofs.Common.{◌≡◌, ℕ, ◌+◌, ◌<◌, List, ◌++◌, length, take, drop, Option, Some, sym, ap, ◌∙◌, arith, inl, inr}
use Rattle.std.proofs.lemmas.Bool.{cases_lt}
use Rattle.std.proofs.lemmas.List.{length-take, length-append, take-append-drop}
use Rattle.eb_base.specs.declared.width.Widths.{Widths}
use Rattle.eb_base.proofs.FieldLemmas.{IsBytes}
use Rattle.eb_codec.specs.declared.item.Header.{Header}
use Rattle.eb_codec.specs.declared.item.Why.{Why}
use Rattle.eb_codec.specs.Rules.{broken}
use Rattle.eb_codec.specs.Stream.{HaveWidths, BreaksNone, IsBadOctet}
use Rattle.eb_codec.proofs.FieldLemmas.{IsBytes-take}
use Rattle.eb_codec.proofs.ItemLemmas.{size-ge, broken_front, broken_later}
use Rattle.eb_codec.proofs.CompletionLemmas.{is_partial}

some_lt : (sets : Widths) (header : Option Header) (o : List ℕ) (k : ℕ) (why : Why) → broken sets header o k ≡ Some why → k < 4
some_lt sets header o k why e = elim (cases_lt k 4) [ inl lt ↦ lt | inr le ↦ let n = broken_later sets header o k le in absurd cc ]

-- the first octet that breaks a rule is the first that no item has there
pub bad_octet : (sets : Widths) (header : Option Header) (o : List ℕ) (k : ℕ) (why : Why) → HaveWidths sets → IsBytes o → k < length o → BreaksNone sets header (take k o) → broken sets header o k ≡ Some why → IsBadOctet sets header o k why
bad_octet sets header o k why have bytes lt none e =
    let lt4 = some_lt sets header o k why e in
    let front : take (k + 1) o ++ drop (k + 1) o ≡ o = take-append-drop (k + 1) o in
    let len : length (take (k + 1) o) ≡ k + 1 = omega (arith, length-take (k + 1) o) in
    let here : broken sets header (take (k + 1) o) k ≡ Some why = sym (broken_front sets header (take (k + 1) o) (drop (k + 1) o) k (omega arith)) ∙ ap (λ (z : List ℕ). broken sets header z k) front ∙ e in
    record {
      inside = lt;
      before = is_partial sets header (take k o) have none (IsBytes-take k o bytes) (omega (arith, length-take k o, size-ge header (take k o)));
      ends = λ item more s.
          let legal = s.legal k (omega (arith, length-append (take (k + 1) o) more)) in
          let same = broken_front sets header (take (k + 1) o) more k (omega arith) in
          absurd cc;
      rule = e;
    }

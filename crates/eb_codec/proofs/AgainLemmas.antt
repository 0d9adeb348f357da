-- One call, where an item is spelled or less than one is there.
use Rattle.std.proofs.Common.{◌≡◌, ◌⊎◌, ℕ, ◌+◌, ◌-◌, ◌<◌, ◌≤◌, List, [], ◌∷◌, ◌++◌, length, take, drop, Option, Some, None, Result, Ok, Err, refl, sym, ap, subst, add-zero, ◌∙◌, arith, inl, inr}
use Rattle.std.specs.Prelude.{MatchResult, IfOk}
use Rattle.std.proofs.lemmas.Bool.{cases_lt}
use Rattle.std.proofs.lemmas.List.{append_assoc, length-append, length-take, take-append-drop, take-append-le, take-take, take_all}
use Rattle.eb_base.specs.declared.width.Widths.{Widths}
use Rattle.eb_codec.specs.declared.item.Header.{Header}
use Rattle.eb_codec.specs.declared.item.Why.{Why}
use Rattle.eb_codec.specs.declared.event.Malformed.{Malformed}
use Rattle.eb_codec.specs.declared.event.Step.{Step}
use Rattle.eb_codec.specs.declared.event.Item.{Item}
use Rattle.eb_codec.specs.declared.event.Item.TheVariants as item
use Rattle.eb_codec.specs.Stream.{StreamItem, Probed, Headed, Recorded, Spells, IsPartial, IsBadOctet}
use Rattle.eb_codec.specs.declared.item.Record.{Record}
use Rattle.eb_codec.specs.declared.item.RecordHead.{RecordHead}
use Rattle.eb_codec.specs.Rules.{broken}
use Rattle.eb_codec.specs.Decoding.{DecoderState, told, Gives, TakesAll, Takes, Stands, Refuses, Feeds, Shows, after_item, shown_of, GivesSpelled, NotYetExactly, RefusesExactly}
use Rattle.eb_codec.proofs.ItemLemmas.{one_spelling}
use Rattle.eb_codec.proofs.RoomLemmas.{take-append-ge}
use Rattle.eb_codec.proofs.StreamLemmas.{no_whole}
use Rattle.eb_codec.proofs.RunLemmas.{at_none, at_some, answer_ok, answer_err}

-- no octet of a spelling, nor one behind it, is the item's first bad one
not_bad : (sets : Widths) (header : Option Header) (x : StreamItem) (o octets rest : List ℕ) (p : ℕ) (why : Why) → Spells sets header x octets → o ≡ octets ++ rest → IsBadOctet sets header o p why → ⊥
not_bad sets header x o octets rest p why s e bad =
    elim (cases_lt p (length octets)) [
      | inl lt ↦
          let front : take (p + 1) o ≡ take (p + 1) octets = ap (take (p + 1)) e ∙ take-append-le (p + 1) octets rest (omega arith) in
          let again : octets ≡ take (p + 1) o ++ drop (p + 1) octets = sym (take-append-drop (p + 1) octets) ∙ ap (λ (l : List ℕ). l ++ drop (p + 1) octets) (sym front) in
          bad.ends x (drop (p + 1) octets) (subst (Spells sets header x) again s)
      | inr ge ↦
          let front : take p o ≡ octets ++ take (p - length octets) rest = ap (take p) e ∙ take-append-ge octets rest p ge in
          no_whole sets header x (take p o) octets (take (p - length octets) rest) bad.before s front
    ]

-- what an item that was given is
gives_item : (old new : DecoderState) (octets : List ℕ) (i : Item) → Gives old octets i new → ((i ≡ item.NotYet) × IsPartial old.sets old.header octets) ⊎ ((y : StreamItem) × (i ≡ told y) × Spells old.sets old.header y octets)
gives_item old new octets item.NotYet g = inl (refl, g.0)
gives_item old new octets (item.Probe p) g = inr (Probed p, refl, g.0)
gives_item old new octets (item.Header h) g = inr (Headed h, refl, g.0)
gives_item old new octets (item.Record d) g = inr (Recorded g.0, ap (λ z. item.Record z) (sym g.1), g.2)

taken_fits : (i : Item) (taken len : ℕ) → TakesAll i taken len → taken ≤ len
taken_fits item.NotYet taken len t = omega arith
taken_fits (item.Probe p) taken len t = t
taken_fits (item.Header h) taken len t = t
taken_fits (item.Record d) taken len t = t

given_is : (old new : DecoderState) (piece octets rest : List ℕ) (step : Step) (x : StreamItem) → Takes old piece step new → Spells old.sets old.header x octets → old.pending ++ piece ≡ octets ++ rest
    → (step.item ≡ told x) × (old.pending ++ take step.taken piece ≡ octets)
given_is old new piece octets rest step x t s e =
    let o : List ℕ = old.pending ++ take step.taken piece in
    let split : o ++ drop step.taken piece ≡ octets ++ rest = append_assoc old.pending (take step.taken piece) (drop step.taken piece) ∙ ap (λ (l : List ℕ). old.pending ++ l) (take-append-drop step.taken piece) ∙ e in
    elim (gives_item old new o step.item t.gives) [
      | inl n ↦
          let all : step.taken ≡ length piece = subst (λ (i : Item). TakesAll i step.taken (length piece)) n.0 t.taken in
          let same : o ≡ octets ++ rest = ap (λ (l : List ℕ). old.pending ++ l) (take_all step.taken piece (omega arith)) ∙ e in
          absurd (no_whole old.sets old.header x o octets rest n.1 s same)
      | inr y ↦
          let one = one_spelling old.sets old.header y.0 x o octets (drop step.taken piece) rest y.2 s split in
          (y.1 ∙ ap told one.0, one.1)
    ]

-- where the decoder stands after an item
stands_after : (old new : DecoderState) (octets : List ℕ) (x : StreamItem) → Spells old.sets old.header x octets → Gives old octets (told x) new → new ≡ after_item old x octets
stands_after old new octets (Probed p) s g = g.1
stands_after old new octets (Headed h) s g = g.1
stands_after old new octets (Recorded r) s g =
    let one = one_spelling old.sets old.header (Recorded g.0) (Recorded r) octets octets [] [] g.2 s refl in
    g.3 ∙ ap (λ (x : StreamItem). record old { start = old.start + length octets; pending = []; shown = shown_of x }) one.0

same_step : (a b : Step) → a.taken ≡ b.taken → a.item ≡ b.item → a ≡ b
same_step a b p q = λ i. record { taken = p i; item = q i }

-- of less than an item no octet is bad
bad_partial : (sets : Widths) (header : Option Header) (o : List ℕ) (p : ℕ) (why : Why) → IsPartial sets header o → IsBadOctet sets header o p why → ⊥
bad_partial sets header o p why part bad =
    let again : o ++ part.1 ∷ part.2 ≡ take (p + 1) o ++ (drop (p + 1) o ++ part.1 ∷ part.2) = ap (λ (l : List ℕ). l ++ part.1 ∷ part.2) (sym (take-append-drop (p + 1) o)) ∙ append_assoc (take (p + 1) o) (drop (p + 1) o) (part.1 ∷ part.2) in
    bad.ends part.0 (drop (p + 1) o ++ part.1 ∷ part.2) (subst (Spells sets header part.0) again part.3)

partial_step : (old new : DecoderState) (piece : List ℕ) (step : Step) → Takes old piece step new → IsPartial old.sets old.header (old.pending ++ piece) → step ≡ record { taken = length piece; item = item.NotYet }
partial_step old new piece step t p =
    let o : List ℕ = old.pending ++ take step.taken piece in
    elim (gives_item old new o step.item t.gives) [
      | inl n ↦
          let all : step.taken ≡ length piece = subst (λ (i : Item). TakesAll i step.taken (length piece)) n.0 t.taken in
          same_step step (record { taken = length piece; item = item.NotYet }) all n.0
      | inr y ↦
          let split : old.pending ++ piece ≡ o ++ drop step.taken piece = ap (λ (l : List ℕ). old.pending ++ l) (sym (take-append-drop step.taken piece)) ∙ sym (append_assoc old.pending (take step.taken piece) (drop step.taken piece)) in
          absurd (no_whole old.sets old.header y.0 (old.pending ++ piece) o (drop step.taken piece) p y.2 split)
    ]

pub gives_spelled : GivesSpelled
gives_spelled old new piece octets rest (Err fault) x n f s e lt =
    let g : Refuses old piece fault new = at_none old.fault (Refuses old piece fault new) (λ m. (answer_err fault ≡ Err m) × (new ≡ old)) n f in
    absurd (not_bad old.sets old.header x (old.pending ++ piece) octets rest g.at.0 fault.why s e g.at.2)
gives_spelled old new piece octets rest (Ok step) x n f s e lt =
    let t : Takes old piece step new = at_none old.fault (Takes old piece step new) (λ m. (answer_ok step ≡ Err m) × (new ≡ old)) n f in
    let i = given_is old new piece octets rest step x t s e in
    let fits = taken_fits step.item step.taken (length piece) t.taken in
    let taken : step.taken ≡ length octets - length old.pending = omega (arith, ap length i.1, length-append old.pending (take step.taken piece), length-take step.taken piece) in
    let same : step ≡ record { taken = length octets - length old.pending; item = told x } = same_step step (record { taken = length octets - length old.pending; item = told x }) taken i.0 in
    let g : Gives old octets (told x) new = subst (λ (o : List ℕ). Gives old o (told x) new) i.1 (subst (λ (j : Item). Gives old (old.pending ++ take step.taken piece) j new) i.0 t.gives) in
    (ap answer_ok same, g, stands_after old new octets x s g)

pub not_yet_exactly : NotYetExactly
not_yet_exactly old new piece (Err fault) n f =
    let g : Refuses old piece fault new = at_none old.fault (Refuses old piece fault new) (λ m. (answer_err fault ≡ Err m) × (new ≡ old)) n f in
    (λ e. absurd cc, λ p. absurd (bad_partial old.sets old.header (old.pending ++ piece) g.at.0 fault.why p g.at.2))
not_yet_exactly old new piece (Ok step) n f =
    let t : Takes old piece step new = at_none old.fault (Takes old piece step new) (λ m. (answer_ok step ≡ Err m) × (new ≡ old)) n f in (
      λ e.
          let same : step ≡ record { taken = length piece; item = item.NotYet } = cc in
          let g : Gives old (old.pending ++ take (length piece) piece) item.NotYet new = subst (λ (s : Step). Gives old (old.pending ++ take s.taken piece) s.item new) same t.gives in
          subst (IsPartial old.sets old.header) (ap (λ (l : List ℕ). old.pending ++ l) (take_all (length piece) piece (omega arith))) g.0,
      λ p. ap answer_ok (partial_step old new piece step t p),
    )

given_place : (old new : DecoderState) (octets : List ℕ) (i : Item) → Gives old octets i new → new.start + length new.pending ≡ old.start + length octets
given_place old new octets item.NotYet g = let a = ap (λ (z : DecoderState). z.start + length z.pending) g.1 in a
given_place old new octets (item.Probe p) g = let a = ap (λ (z : DecoderState). z.start + length z.pending) g.1 in a ∙ add-zero (old.start + length octets)
given_place old new octets (item.Header h) g = let a = ap (λ (z : DecoderState). z.start + length z.pending) g.1 in a ∙ add-zero (old.start + length octets)
given_place old new octets (item.Record d) g = let a = ap (λ (z : DecoderState). z.start + length z.pending) g.3 in a ∙ add-zero (old.start + length octets)

cases_fault : (o : Option Malformed) → (o ≡ None) ⊎ ((m : Malformed) × (o ≡ Some m))
cases_fault None = inl refl
cases_fault (Some m) = inr (m, refl)

ok_stands : (old new : DecoderState) (piece : List ℕ) (step : Step) → Takes old piece step new → Stands old new (length piece) step
ok_stands old new piece step t =
    let fits = taken_fits step.item step.taken (length piece) t.taken in
    let e = given_place old new (old.pending ++ take step.taken piece) step.item t.gives in
    record { within = fits; at = omega (arith, e, length-append old.pending (take step.taken piece), length-take step.taken piece); moves = t.moves }

-- where the decoder stands after a call
pub stands : (old new : DecoderState) (piece : List ℕ) (answer : Result Step Malformed) → Feeds old piece answer new → MatchResult answer (Stands old new (length piece)) (λ _. new.start + length new.pending ≤ old.start + length old.pending)
stands old new piece (Ok step) f = elim (cases_fault old.fault) [
  | inl n ↦ ok_stands old new piece step (at_none old.fault (Takes old piece step new) (λ m. (answer_ok step ≡ Err m) × (new ≡ old)) n f)
  | inr m ↦ let g = at_some old.fault (Takes old piece step new) (λ fault. (answer_ok step ≡ Err fault) × (new ≡ old)) m.0 m.1 f in let e = g.0 in absurd cc
]
stands old new piece (Err fault) f = elim (cases_fault old.fault) [
  | inl n ↦
      let g : Refuses old piece fault new = at_none old.fault (Refuses old piece fault new) (λ m. (answer_err fault ≡ Err m) × (new ≡ old)) n f in
      let e = ap (λ (z : DecoderState). z.start + length z.pending) g.after in
      omega arith
  | inr m ↦
      let g = at_some old.fault (Refuses old piece fault new) (λ m'. (answer_err fault ≡ Err m') × (new ≡ old)) m.0 m.1 f in
      let e = ap (λ (z : DecoderState). z.start + length z.pending) g.1 in
      omega arith
]

bounded_by : (old new : DecoderState) (len : ℕ) (answer : Result Step Malformed) → MatchResult answer (Stands old new len) (λ _. new.start + length new.pending ≤ old.start + length old.pending) → new.start + length new.pending ≤ old.start + length old.pending + len
bounded_by old new len (Ok step) p = omega (arith, p.at, p.within)
bounded_by old new len (Err fault) p = omega arith

pub bounded : (old new : DecoderState) (piece : List ℕ) (answer : Result Step Malformed) → Feeds old piece answer new → new.start + length new.pending ≤ old.start + length old.pending + length piece
bounded old new piece answer f = bounded_by old new (length piece) answer (stands old new piece answer f)

same_fault : (a b : Malformed) → a.place ≡ b.place → a.why ≡ b.why → a ≡ b
same_fault a b p q = λ i. record { place = p i; why = q i }

-- an item that was given has no bad octet
given_not_bad : (old new : DecoderState) (piece : List ℕ) (step : Step) (p : ℕ) (why : Why) → Takes old piece step new → IsBadOctet old.sets old.header (old.pending ++ piece) p why → ⊥
given_not_bad old new piece step p why t b =
    let o : List ℕ = old.pending ++ take step.taken piece in
    elim (gives_item old new o step.item t.gives) [
      | inl n ↦
          let all : step.taken ≡ length piece = subst (λ (i : Item). TakesAll i step.taken (length piece)) n.0 t.taken in
          let same : o ≡ old.pending ++ piece = ap (λ (l : List ℕ). old.pending ++ l) (take_all step.taken piece (omega arith)) in
          bad_partial old.sets old.header (old.pending ++ piece) p why (subst (IsPartial old.sets old.header) same n.1) b
      | inr y ↦
          let split : old.pending ++ piece ≡ o ++ drop step.taken piece = ap (λ (l : List ℕ). old.pending ++ l) (sym (take-append-drop step.taken piece)) ∙ sym (append_assoc old.pending (take step.taken piece) (drop step.taken piece)) in
          not_bad old.sets old.header y.0 (old.pending ++ piece) o (drop step.taken piece) p why y.2 split b
    ]

-- a record that was spelled has as many numbers as its head says
lengths : (sets : Widths) (header : Option Header) (o : List ℕ) (r : Record) → Spells sets header (Recorded r) o → (length r.values ≡ r.head.writes) × (length r.addresses ≡ r.head.reads)
lengths sets None o r s = elim s.form [ ]
lengths sets (Some h) o r s = (s.form.0.writes, s.form.0.reads)

shown_lengths : (old : DecoderState) (o : List ℕ) (r : Record) (d : RecordHead) → r.head ≡ d → Spells old.sets old.header (Recorded r) o → (length r.values ≡ d.writes) × (length r.addresses ≡ d.reads)
shown_lengths old o r d e s =
    let l = lengths old.sets old.header o r s in
    (l.0 ∙ ap (λ (z : RecordHead). z.writes) e, l.1 ∙ ap (λ (z : RecordHead). z.reads) e)

-- an item has one first bad octet
one_bad : (sets : Widths) (header : Option Header) (o : List ℕ) (p q : ℕ) (why other : Why) → IsBadOctet sets header o p why → IsBadOctet sets header o q other → q < p → ⊥
one_bad sets header o p q why other a b lt =
    let part = a.before in
    let all : List ℕ = take p o in
    let front : take (q + 1) all ≡ take (q + 1) o = take-take (q + 1) p o (omega arith) in
    let again : all ++ part.1 ∷ part.2 ≡ take (q + 1) o ++ (drop (q + 1) all ++ part.1 ∷ part.2) = ap (λ (l : List ℕ). l ++ part.1 ∷ part.2) (sym (take-append-drop (q + 1) all) ∙ ap (λ (l : List ℕ). l ++ drop (q + 1) all) front) ∙ append_assoc (take (q + 1) o) (drop (q + 1) all) (part.1 ∷ part.2) in
    b.ends part.0 (drop (q + 1) all ++ part.1 ∷ part.2) (subst (Spells sets header part.0) again part.3)

pub one_bad_octet : (sets : Widths) (header : Option Header) (o : List ℕ) (p q : ℕ) (why other : Why) → IsBadOctet sets header o p why → IsBadOctet sets header o q other → (p ≡ q) × (why ≡ other)
one_bad_octet sets header o p q why other a b = elim (cases_lt p q) [
  | inl lt ↦ absurd (one_bad sets header o q p other why b a lt)
  | inr ge ↦ elim (cases_lt q p) [
    | inl lt ↦ absurd (one_bad sets header o p q why other a b lt)
    | inr le ↦
        let same : p ≡ q = omega arith in
        let rule : broken sets header o q ≡ Some why = subst (λ (k : ℕ). broken sets header o k ≡ Some why) same a.rule in
        (same, cc)
  ]
]

pub refuses_exactly : RefusesExactly
refuses_exactly old new piece (Err fault) p why n f =
    let g : Refuses old piece fault new = at_none old.fault (Refuses old piece fault new) (λ m. (answer_err fault ≡ Err m) × (new ≡ old)) n f in
    let o : List ℕ = old.pending ++ piece in (
      λ e.
          let same : fault ≡ record { place = old.start + p; why = why } = cc in
          let place : fault.place ≡ old.start + p = ap (λ (m : Malformed). m.place) same in
          let rule : fault.why ≡ why = ap (λ (m : Malformed). m.why) same in
          let here : g.at.0 ≡ p = omega (arith, g.at.1, place) in
          subst (λ (w : Why). IsBadOctet old.sets old.header o p w) rule (subst (λ (k : ℕ). IsBadOctet old.sets old.header o k fault.why) here g.at.2),
      λ b.
          let one = one_bad_octet old.sets old.header o g.at.0 p fault.why why g.at.2 b in
          let place : fault.place ≡ old.start + p = g.at.1 ∙ ap (λ (k : ℕ). old.start + k) one.0 in
          ap answer_err (same_fault fault (record { place = old.start + p; why = why }) place one.1),
    )
refuses_exactly old new piece (Ok step) p why n f =
    let t : Takes old piece step new = at_none old.fault (Takes old piece step new) (λ m. (answer_ok step ≡ Err m) × (new ≡ old)) n f in (
      λ e. absurd cc,
      λ b. absurd (given_not_bad old new piece step p why t b),
    )

-- what is shown after a step
shows_given : (old new : DecoderState) (octets : List ℕ) (i : Item) → Gives old octets i new → Shows i new
shows_given old new octets item.NotYet g = ap (λ (z : DecoderState). z.shown) g.1
shows_given old new octets (item.Probe p) g = ap (λ (z : DecoderState). z.shown) g.1
shows_given old new octets (item.Header h) g = ap (λ (z : DecoderState). z.shown) g.1
shows_given old new octets (item.Record d) g =
    let e : new.shown ≡ Some g.0 = ap (λ (z : DecoderState). z.shown) g.3 in
    let l = shown_lengths old octets g.0 d g.1 g.2 in
    rw e (refl, g.1, l.0, l.1)

pub shows : (old new : DecoderState) (piece : List ℕ) (answer : Result Step Malformed) → Feeds old piece answer new → IfOk answer (λ step. Shows step.item new)
shows old new piece (Ok step) f = elim (cases_fault old.fault) [
  | inl n ↦ shows_given old new (old.pending ++ take step.taken piece) step.item (at_none old.fault (Takes old piece step new) (λ m. (answer_ok step ≡ Err m) × (new ≡ old)) n f).gives
  | inr m ↦ let g = at_some old.fault (Takes old piece step new) (λ fault. (answer_ok step ≡ Err fault) × (new ≡ old)) m.0 m.1 f in let e = g.0 in absurd cc
]
shows old new piece (Err fault) f = tt

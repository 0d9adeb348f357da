-- Calls one after another, in whatever pieces.
use Rattle.std.proofs.Common.{◌≡◌, ℕ, ◌+◌, List, [], ◌∷◌, ◌++◌, length, take, drop, map, Option, Some, None, Result, Ok, Err, refl, sym, ap, subst, ◌∙◌, arith, lit<}
use Rattle.std.specs.Prelude.{MatchOption}
use Rattle.std.proofs.lemmas.List.{append-nil, append_assoc, length-append, map-append, take-append-drop}
use Rattle.eb_base.specs.declared.width.Widths.{Widths}
use Rattle.eb_codec.specs.declared.item.Header.{Header}
use Rattle.eb_codec.specs.declared.item.Record.{Record}
use Rattle.eb_codec.specs.declared.item.RecordHead.{RecordHead}
use Rattle.eb_codec.specs.declared.event.Malformed.{Malformed}
use Rattle.eb_codec.specs.declared.event.Step.{Step}
use Rattle.eb_codec.specs.declared.event.Item.{Item}
use Rattle.eb_codec.specs.declared.event.Item.TheVariants as item
use Rattle.eb_codec.specs.Stream.{HaveWidths, StreamItem, Probed, Headed, Recorded, Spells, SpellsAll, IsPartial, IsFirstBad, IsBadOctet, header_after, header_after_all}
use Rattle.eb_codec.specs.Decoding.{DecoderState, fresh, told, Gives, Takes, Refuses}
use Rattle.eb_codec.specs.AnyPieces.{Call, Runs, all_taken, item_told, items_told, Reached, GivesItems, RefusesFirstBad, NoneBad}
use Rattle.eb_codec.proofs.ItemLemmas.{size-ge}
use Rattle.eb_codec.proofs.CompletionLemmas.{is_partial}
use Rattle.eb_codec.proofs.StreamLemmas.{spells_one, spells_append, header_after_all-append, longest, first_bad}

abbrev pub answer_ok : Step → Result Step Malformed
answer_ok step = Ok step

abbrev pub answer_err : Malformed → Result Step Malformed
answer_err fault = Err fault

-- nothing at all is less than an item
pub nothing_partial : (sets : Widths) (header : Option Header) → HaveWidths sets → IsPartial sets header []
nothing_partial sets header have = is_partial sets header [] have (λ k lt. absurd (omega arith)) (λ i. lit< tt) (omega (arith, size-ge header []))

pub reached_fresh : (sets : Widths) → HaveWidths sets → Reached sets [] [] [] (fresh sets)
reached_fresh sets have = record { sets_is = refl; header_is = refl; whole = refl; spelled = refl; start_is = refl; partial = nothing_partial sets None have }

-- one more item
pub with_item : (sets : Widths) (octets : List ℕ) (items : List StreamItem) (front : List ℕ) (p : DecoderState) (x : StreamItem) (taken : List ℕ) (shown : Option Record) → HaveWidths sets → Reached sets octets items front p → Spells p.sets p.header x (p.pending ++ taken)
    → Reached sets (octets ++ taken) (items ++ x ∷ []) (front ++ (p.pending ++ taken)) (record p { header = header_after p.header x; start = p.start + length (p.pending ++ taken); pending = []; shown = shown })
with_item sets octets items front p x taken shown have h s =
    let s' : Spells sets (header_after_all None items) x (p.pending ++ taken) = subst (λ (g : Option Header). Spells sets g x (p.pending ++ taken)) h.header_is (subst (λ (z : Widths). Spells z p.header x (p.pending ++ taken)) h.sets_is s) in
    record {
      sets_is = h.sets_is;
      header_is = ap (λ (g : Option Header). header_after g x) h.header_is ∙ sym (header_after_all-append None items (x ∷ []));
      whole = ap (λ (l : List ℕ). l ++ taken) h.whole ∙ append_assoc front p.pending taken ∙ sym (append-nil (front ++ (p.pending ++ taken)));
      spelled = spells_append sets None items (x ∷ []) front (p.pending ++ taken) h.spelled (spells_one sets (header_after_all None items) x (p.pending ++ taken) s');
      start_is = omega (arith, h.start_is, length-append front (p.pending ++ taken));
      partial = nothing_partial sets (header_after p.header x) have;
    }

pub with_more : (sets : Widths) (octets : List ℕ) (items : List StreamItem) (front : List ℕ) (p : DecoderState) (taken : List ℕ) → Reached sets octets items front p → IsPartial p.sets p.header (p.pending ++ taken)
    → Reached sets (octets ++ taken) items front (record p { pending = p.pending ++ taken; shown = None })
with_more sets octets items front p taken h s = record {
  sets_is = h.sets_is;
  header_is = h.header_is;
  whole = ap (λ (l : List ℕ). l ++ taken) h.whole ∙ append_assoc front p.pending taken;
  spelled = h.spelled;
  start_is = h.start_is;
  partial = subst (λ (z : Widths). IsPartial z p.header (p.pending ++ taken)) h.sets_is s;
}

-- what a call adds
pub record Adds (sets : Widths) (octets : List ℕ) (items : List StreamItem) (q : DecoderState) (said : List Item) : Type 0 where
  pub more : List StreamItem
  pub front : List ℕ
  pub reached : Reached sets octets (items ++ more) front q
  pub no_fault : q.fault ≡ None
  pub told_is : said ≡ map told more

pub adds : (sets : Widths) (octets : List ℕ) (items : List StreamItem) (front : List ℕ) (p q : DecoderState) (taken : List ℕ) (i : Item) → HaveWidths sets → Reached sets octets items front p → p.fault ≡ None → Gives p (p.pending ++ taken) i q → Adds sets (octets ++ taken) items q (item_told i)
adds sets octets items front p q taken item.NotYet have h n g =
    record { more = []; front = front; reached = subst (Reached sets (octets ++ taken) (items ++ []) front) (sym g.1) (subst (λ (l : List StreamItem). Reached sets (octets ++ taken) l front (record p { pending = p.pending ++ taken; shown = None })) (sym (append-nil items)) (with_more sets octets items front p taken h g.0)); no_fault = ap (λ (z : DecoderState). z.fault) g.1 ∙ n; told_is = refl }
adds sets octets items front p q taken (item.Probe x) have h n g =
    record { more = Probed x ∷ []; front = front ++ (p.pending ++ taken); reached = subst (Reached sets (octets ++ taken) (items ++ Probed x ∷ []) (front ++ (p.pending ++ taken))) (sym g.1) (with_item sets octets items front p (Probed x) taken None have h g.0); no_fault = ap (λ (z : DecoderState). z.fault) g.1 ∙ n; told_is = refl }
adds sets octets items front p q taken (item.Header x) have h n g =
    record { more = Headed x ∷ []; front = front ++ (p.pending ++ taken); reached = subst (Reached sets (octets ++ taken) (items ++ Headed x ∷ []) (front ++ (p.pending ++ taken))) (sym g.1) (with_item sets octets items front p (Headed x) taken None have h g.0); no_fault = ap (λ (z : DecoderState). z.fault) g.1 ∙ n; told_is = refl }
adds sets octets items front p q taken (item.Record d) have h n g =
    let x : StreamItem = Recorded g.0 in
    record { more = x ∷ []; front = front ++ (p.pending ++ taken); reached = subst (Reached sets (octets ++ taken) (items ++ x ∷ []) (front ++ (p.pending ++ taken))) (sym g.3) (with_item sets octets items front p x taken (Some g.0) have h g.2); no_fault = ap (λ (z : DecoderState). z.fault) g.3 ∙ n; told_is = ap (λ (z : RecordHead). item.Record z ∷ []) (sym g.1) }

pub at_none : (o : Option Malformed) (P : Type 0) (Q : Malformed → Type 0) → o ≡ None → MatchOption o P Q → P
at_none None P Q e h = h
at_none (Some x) P Q e h = absurd cc

pub at_some : (o : Option Malformed) (P : Type 0) (Q : Malformed → Type 0) (m : Malformed) → o ≡ Some m → MatchOption o P Q → Q m
at_some None P Q m e h = absurd cc
at_some (Some x) P Q m e h = let same : x ≡ m = cc in subst Q same h

-- what was wrong once stays wrong
pub stays_wrong : (calls : List Call) (p new : DecoderState) (m : Malformed) → p.fault ≡ Some m → Runs p calls new → new.fault ≡ Some m
stays_wrong [] p new m e r = ap (λ (z : DecoderState). z.fault) (sym r) ∙ e
stays_wrong ((piece, answer) ∷ calls) p new m e r =
    let f = at_some p.fault _ (λ fault. (answer ≡ Err fault) × (r.0 ≡ p)) m e r.1 in
    stays_wrong calls r.0 new m (ap (λ (z : DecoderState). z.fault) f.1 ∙ e) r.2

pub run : (sets : Widths) (calls : List Call) (octets : List ℕ) (items : List StreamItem) (front : List ℕ) (p new : DecoderState) → HaveWidths sets → Reached sets octets items front p → p.fault ≡ None → Runs p calls new → new.fault ≡ None → Adds sets (octets ++ all_taken calls) items new (items_told calls)
run sets [] octets items front p new have h n r n' =
    let one : Reached sets (octets ++ []) (items ++ []) front p = subst (λ (l : List ℕ). Reached sets l (items ++ []) front p) (sym (append-nil octets)) (subst (λ (l : List StreamItem). Reached sets octets l front p) (sym (append-nil items)) h) in
    record { more = []; front = front; reached = subst (Reached sets (octets ++ []) (items ++ []) front) r one; no_fault = n'; told_is = refl }
run sets ((piece, Ok step) ∷ calls) octets items front p new have h n r n' =
    let taken : List ℕ = take step.taken piece in
    let t : Takes p piece step r.0 = at_none p.fault (Takes p piece step r.0) (λ fault. (answer_ok step ≡ Err fault) × (r.0 ≡ p)) n r.1 in
    let a = adds sets octets items front p r.0 taken step.item have h n t.gives in
    let b = run sets calls (octets ++ taken) (items ++ a.more) a.front r.0 new have a.reached a.no_fault r.2 n' in
    let one : Reached sets (octets ++ (taken ++ all_taken calls)) (items ++ (a.more ++ b.more)) b.front new =
    subst (λ (l : List ℕ). Reached sets l (items ++ (a.more ++ b.more)) b.front new) (append_assoc octets taken (all_taken calls)) (subst (λ (l : List StreamItem). Reached sets (octets ++ taken ++ all_taken calls) l b.front new) (append_assoc items a.more b.more) b.reached) in
    let said : item_told step.item ++ items_told calls ≡ map told (a.more ++ b.more) = ap (λ (l : List Item). l ++ items_told calls) a.told_is ∙ ap (λ (l : List Item). map told a.more ++ l) b.told_is ∙ sym (map-append told a.more b.more) in
    record { more = a.more ++ b.more; front = b.front; reached = one; no_fault = n'; told_is = said }
run sets ((piece, Err fault) ∷ calls) octets items front p new have h n r n' =
    let f : Refuses p piece fault r.0 = at_none p.fault (Refuses p piece fault r.0) (λ m. (answer_err fault ≡ Err m) × (r.0 ≡ p)) n r.1 in
    let e : new.fault ≡ Some fault = stays_wrong calls r.0 new fault (ap (λ (z : DecoderState). z.fault) f.after) r.2 in
    absurd cc

pub gives_items : GivesItems
gives_items sets calls new have r n =
    let a = run sets calls [] [] [] (fresh sets) new have (reached_fresh sets have) refl r n in
    let h = a.reached in
    let partial : IsPartial sets (header_after_all None a.more) new.pending = subst (λ (g : Option Header). IsPartial sets g new.pending) h.header_is h.partial in
    (a.more, a.told_is, record { front = (a.front, h.whole, h.spelled); longest = λ others x y e s. longest sets None a.more others a.front new.pending x y (sym h.whole ∙ e) h.spelled partial s }, partial)

pub refuses_first_bad : RefusesFirstBad
refuses_first_bad sets calls mid new piece fault have r n f =
    let a = run sets calls [] [] [] (fresh sets) mid have (reached_fresh sets have) refl r n in
    let h = a.reached in
    let g : Refuses mid piece fault new = at_none mid.fault (Refuses mid piece fault new) (λ m. (answer_err fault ≡ Err m) × (new ≡ mid)) n f in
    let p : ℕ = g.at.0 in
    let o : List ℕ = mid.pending ++ piece in
    let bad : IsBadOctet sets (header_after_all None a.more) o p fault.why = subst (λ (z : Option Header). IsBadOctet sets z o p fault.why) h.header_is (subst (λ (z : Widths). IsBadOctet z mid.header o p fault.why) h.sets_is g.at.2) in
    let here : IsFirstBad sets None (a.front ++ o) (length a.front + p) fault.why = first_bad sets None a.more a.front o p fault.why h.spelled bad in
    let octets : a.front ++ o ≡ all_taken calls ++ piece = sym (append_assoc a.front mid.pending piece) ∙ ap (λ (l : List ℕ). l ++ piece) (sym h.whole) in
    let place : length a.front + p ≡ fault.place = ap (λ (m : ℕ). m + p) (sym h.start_is) ∙ sym g.at.1 in
    subst (λ (l : List ℕ). IsFirstBad sets None l fault.place fault.why) octets (subst (λ (m : ℕ). IsFirstBad sets None (a.front ++ o) m fault.why) place here)

pub none_bad : NoneBad
none_bad sets calls new p why have r n bad =
    let a = run sets calls [] [] [] (fresh sets) new have (reached_fresh sets have) refl r n in
    let h = a.reached in
    let q = h.partial in
    let octets : List ℕ = all_taken calls in
    let more : List ℕ = q.1 ∷ q.2 in
    let s : Spells sets (header_after_all None a.more) q.0 (new.pending ++ more) = subst (λ (g : Option Header). Spells sets g q.0 (new.pending ++ more)) h.header_is q.3 in
    let whole : SpellsAll sets None (a.more ++ q.0 ∷ []) (a.front ++ (new.pending ++ more)) = spells_append sets None a.more (q.0 ∷ []) a.front (new.pending ++ more) h.spelled (spells_one sets (header_after_all None a.more) q.0 (new.pending ++ more) s) in
    let split : a.front ++ (new.pending ++ more) ≡ take (p + 1) octets ++ (drop (p + 1) octets ++ more) =
    sym (append_assoc a.front new.pending more) ∙ ap (λ (l : List ℕ). l ++ more) (sym h.whole ∙ sym (take-append-drop (p + 1) octets)) ∙ append_assoc (take (p + 1) octets) (drop (p + 1) octets) more in
    bad.ends (a.more ++ q.0 ∷ []) (drop (p + 1) octets ++ more) (subst (SpellsAll sets None (a.more ++ q.0 ∷ [])) split whole)

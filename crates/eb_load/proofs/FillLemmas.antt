-- A room that is filled by several records.
use Rattle.std.proofs.Common.{◌≡◌, ℕ, ◌+◌, ◌≤◌, List, [], ◌++◌, Some, length, take, drop, arith, sym, ap, ◌∙◌, ◌-◌, refl, append_assoc, append-nil, length-append, length-take, length-drop}
use Rattle.std.proofs.Math.Seq.{take-append-add}
use Rattle.std.proofs.lemmas.List.{take-take}
use Rattle.std.proofs.lemmas.Slice.{take-put_mid}
use Rattle.std.specs.Io.KnownBytes.{prepend_known, append_known}
use borrow.Rule.Slice.PartMut.{put_mid}
use Rattle.eb_io.specs.Reading.{Reading, Gave}
use Rattle.eb_io.proofs.ReadingLemmas.{gave_more}
use Rattle.eb_load.specs.Filling.{Filled}

-- the front of a room after a write that begins at a place of it
front_after : (at n k : ℕ) (room part : List ℕ) → at ≤ length room → n ≤ length part → take (at + n) (put_mid at k room part) ≡ take at room ++ take n part
front_after at n k room part le lt =
    let whole : take (at + length part) (put_mid at k room part) ≡ take at room ++ part = take-put_mid at k room part (at + length part) refl le in
    let front : length (take at room) ≡ at = length-take at room ∙ omega arith in
    sym (take-take (at + n) (at + length part) (put_mid at k room part) (omega arith))
    ∙ ap (λ (l : List ℕ). take (at + n) l) whole
    ∙ ap (λ (m : ℕ). take (m + n) (take at room ++ part)) (sym front)
    ∙ take-append-add (take at room) part n

-- its length, where the write ends with the room
pub len_after : (at k : ℕ) (room part : List ℕ) → at ≤ length room → k ≡ length room - at → length (put_mid at k room part) ≡ at + length part
len_after at k room part le is =
    let rest : length (drop k (drop at room)) ≡ 0 = length-drop k (drop at room) ∙ omega (arith, length-drop at room) in
    omega (arith, length-append (take at room) (part ++ drop k (drop at room)), length-append part (drop k (drop at room)), rest, length-take at room)

-- Nothing is filled yet.
pub filled_none : (reading : Reading) (given left : List ℕ) (count : ℕ) (room : List ℕ) → reading.given ≡ Some given → reading.left ≡ Some left → count ≤ length room → Filled reading reading count room room count
filled_none reading given left count room gave lefts le = record {
  octets = [];
  gave = record { next = lefts ∙ sym (ap (λ k. prepend_known [] k) lefts); given = gave ∙ sym (ap (λ k. append_known k []) gave ∙ ap Some (append-nil given)); faults = refl };
  filled_is = sym (append-nil (take count room));
  more = omega arith;
  within = le;
}

-- One more piece is given.
pub filled_more : (old mid new : Reading) (count filled n k : ℕ) (room room' part : List ℕ) → Filled old mid count room room' filled → Gave mid new (take n part) → k ≡ length room' - filled → n ≤ length part
    → Filled old new count room (put_mid filled k room' part) (filled + n)
filled_more old mid new count filled n k room room' part before gave ks le = record {
  octets = before.octets ++ take n part;
  gave = gave_more old mid new before.octets (take n part) before.gave gave;
  filled_is = front_after filled n k room' part before.within le ∙ ap (λ (l : List ℕ). l ++ take n part) before.filled_is ∙ append_assoc (take count room) before.octets (take n part);
  more = omega (arith, before.more);
  within = omega (arith, len_after filled k room' part before.within ks);
}

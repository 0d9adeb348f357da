-- What a host sent spells its items, and they are all items of it.
use Rattle.std.proofs.Common.{◌≡◌, ℕ, ◌<◌, ◌^◌, true, false, List, [], ◌∷◌, ◌++◌, length, Some, None, refl, sym, ap, ◌∙◌, arith, append-nil, length-append}
use Rattle.eb_base.specs.declared.width.Width.{Width}
use Rattle.eb_base.specs.declared.width.Width.TheVariants.{W8, W16, W32, W64}
use Rattle.eb_base.specs.declared.width.Widths.{Widths}
use Rattle.eb_base.specs.Width.{bit}
use Rattle.eb_codec.specs.declared.item.Header.{Header}
use Rattle.eb_codec.specs.Rules.{has}
use Rattle.eb_codec.specs.Form.{zeroed, header_form}
use Rattle.eb_codec.specs.Stream.{StreamItem, Probed, Headed, Recorded, Spells, SpellsAll, AreItems, header_after_all}
use Rattle.eb_codec.proofs.DecodedLemmas.{spelled-ge}
use Rattle.eb_codec.proofs.EncodedLemmas.{encoded_header_spells, encoded_probe_spells}
use Rattle.eb_codec.proofs.OneReadingLemmas.{longer}
use Rattle.eb_codec.proofs.StreamLemmas.{spells_append}
use Rattle.eb_session.specs.Replies.{sets_of}
use Rattle.sdb_walk.specs.declared.reader.Exchange.{Exchange}
use Rattle.eb_host.specs.declared.op.HostFault.{HostFault}
use Rattle.eb_host.specs.Asks.{asked, asks, closing, cycle_records}
use Rattle.eb_host.specs.Host.{header}
use Rattle.eb_host.specs.Opening.{probe_asks}
use Rattle.eb_loopback.specs.Loopback.{probe_of_host, cycle_items}
use Rattle.eb_loopback.proofs.SpellingLemmas.{asks_spell, root_spells}
use Rattle.std.proofs.lemmas.List.Elements.{All-nil, All-cons}
use Rattle.eb_host.specs.Asks.{FitsOp}
use Rattle.eb_tour.proofs.HeardLemmas.{op_at, alone_at, AreHeard, asks_all, sent_in_all}

-- the sets that the host asks for, and those of a slave on a bus of 32 data bits
abbrev pub asked_for : Widths
asked_for = record { addresses = 15; ports = 4 }

-- the items of the reads
abbrev pub items_of : Header → List (Exchange HostFault) → List StreamItem
items_of h [] = []
items_of h (x ∷ xs) = Recorded (asked h (op_at x.adr)) ∷ Recorded (closing h 0) ∷ items_of h xs

-- and all, from the probe on
abbrev pub all_items : Header → List (Exchange HostFault) → List StreamItem
all_items h xs = Probed (probe_of_host asked_for) ∷ Headed h ∷ Recorded (closing h 8) ∷ items_of h xs

words_spelled : (sets : Widths) (h : Header) → h.no_reply ≡ false → (xs : List (Exchange HostFault)) (o : List ℕ) → AreHeard h xs o → SpellsAll sets (Some h) (items_of h xs) (asks_all h xs)
words_spelled sets h replied [] o are = refl
words_spelled sets h replied (x ∷ xs) o (mine, rest, is, one, are) =
    spells_append sets (Some h) (cycle_items h (alone_at x.adr)) (items_of h xs) (asks h (cycle_records h (alone_at x.adr))) (asks_all h xs)
    (asks_spell sets h (alone_at x.adr) replied (All-cons (FitsOp h) (op_at x.adr) [] one.fits (All-nil (FitsOp h)))) (words_spelled sets h replied xs rest are)

every_width : (a : Width) → has (bit a) 15 ≡ true
every_width W8 = refl
every_width W16 = refl
every_width W32 = refl
every_width W64 = refl

probe_spelled : Spells (sets_of W32) None (Probed (probe_of_host asked_for)) (probe_asks asked_for)
probe_spelled = let id : 1 < 2 ^ 32 = omega arith in encoded_probe_spells (sets_of W32) (probe_of_host asked_for) (record { widths = (omega arith, omega arith); id = id }) refl refl

header_spelled : (a : Width) → Spells (sets_of W32) None (Headed (header a W32)) (zeroed (header_form (header a W32)))
header_spelled a = encoded_header_spells (sets_of W32) (header a W32) (every_width a) refl

pub all_spelled : (a : Width) (xs : List (Exchange HostFault)) (o : List ℕ) → AreHeard (header a W32) xs o → SpellsAll (sets_of W32) None (all_items (header a W32) xs) (sent_in_all asked_for (header a W32) xs)
all_spelled a xs o are =
    let h : Header = header a W32 in
    let ask : List ℕ = asks h (closing h 8 ∷ []) in
    let rest : List ℕ = ask ++ asks_all h xs in
    let last : SpellsAll (sets_of W32) (Some h) (Recorded (closing h 8) ∷ items_of h xs) rest =
    spells_append (sets_of W32) (Some h) (Recorded (closing h 8) ∷ []) (items_of h xs) ask (asks_all h xs) (root_spells (sets_of W32) h refl) (words_spelled (sets_of W32) h refl xs o are) in
    (probe_asks asked_for, zeroed (header_form h) ++ rest, refl, probe_spelled, (zeroed (header_form h), rest, refl, header_spelled a, last))

-- ---- one list of items

none_spelled : (sets : Widths) (items : List StreamItem) (o : List ℕ) (h : _) → SpellsAll sets h items o → length o ≡ 0 → items ≡ []
none_spelled sets [] o h s e = refl
none_spelled sets (x ∷ items) o h s e = let n = spelled-ge sets h x s.0 s.3 in absurd (omega (arith, n, e, ap length s.2, length-append s.0 s.1))

-- octets that are items and nothing else have no other items
pub same_items : (sets : Widths) (octets rest : List ℕ) (items others : List StreamItem) → AreItems sets None octets items rest → SpellsAll sets None others octets → items ≡ others
same_items sets octets rest items others are spelled =
    let f = are.front in
    let le = are.longest others octets [] (sym (append-nil octets)) spelled in
    let more = longer sets None items others f.0 octets rest [] le f.2 spelled (sym f.1 ∙ sym (append-nil octets)) in
    let none : length more.octets ≡ 0 = omega (arith, ap length more.octets_are, length-append octets more.octets, ap length f.1, length-append f.0 rest) in
    more.items_are ∙ ap (λ (l : List StreamItem). others ++ l) (none_spelled sets more.items more.octets (header_after_all None others) more.spelled none) ∙ append-nil others

-- Reads of the tables of a description, and the walk by them.
use Rattle.std.proofs.Common.{◌≡◌, ℕ, ◌+◌, ◌-◌, ◌*◌, ◌/◌, ◌%◌, ◌^◌, ◌<◌, false, List, [], ◌∷◌, ◌++◌, map, get_or, set, take, drop, Result, Ok, refl, sym, ap, ◌∙◌, subst, arith, All}
use Rattle.std.proofs.lemmas.List.{set-get_or}
use Rattle.std.proofs.lemmas.List.Elements.{All-take, All-drop}
use Rattle.eb_base.specs.declared.width.Width.TheVariants.{W32}
use Rattle.eb_base.specs.Field.{number_at}
use Rattle.eb_base.specs.Lanes.{selected, word_of, placed_adr, placed_dat, placed_sel, shift}
use Rattle.eb_base.proofs.LaneLemmas.{selected-full}
use Rattle.eb_base.proofs.FieldLemmas.{number-lt}
use Rattle.wb_signals.specs.Request.{Request, less, placed}
use Rattle.wb_signals.specs.Content.{Content, Nothing, Rom}
use Rattle.wb_signals.specs.Device.{device}
use Rattle.wb_signals.specs.Wiring.{Wiring, Step, step, stepped}
use Rattle.wb_signals.specs.History.{contents_after}
use Rattle.wb_signals.specs.declared.answer.Answer.TheVariants as answer
use Rattle.sdb_build.specs.Tables.{image_of}
use Rattle.sdb_build.specs.Buses.{PlacedBus}
use Rattle.sdb_build.specs.Laws.{table_address}
use Rattle.sdb_walk.specs.declared.found.Found.{Found}
use Rattle.sdb_walk.specs.declared.fault.WalkFault.{WalkFault}
use Rattle.sdb_walk.specs.declared.reader.Exchange.{Exchange}
use Rattle.sdb_walk.specs.Told.{Word}
use Rattle.sdb_walk.specs.Walk.{Walk, Reads, Ended, answered, after, after_word, exchanges, asked}
use Rattle.sdb_walk.proofs.Goes.{Goes, arrived, one_more, HasOctets}
use Rattle.sdb_walk.proofs.Octets.{Octet, bytes_of}
use Rattle.sdb_walk.proofs.Reached.{after_end, exchanges_end}
use Rattle.sdb_walk.proofs.OneEnd.{word_first, others_of}
use Rattle.soc_discovery.specs.Law.{read_at, word_read, read_all, addresses}
use Rattle.soc_discovery.proofs.Roms.{Shows}

-- ---- one read

abbrev whole_read : ℕ → Request
whole_read adr = record { write = false; adr = adr; dat = 0; sel = 0xF }

no_shift : (adr : ℕ) → adr % 4 ≡ 0 → shift W32 W32 adr ≡ 0
no_shift adr even = omega arith

read_is : (adr : ℕ) → adr % 4 ≡ 0 → read_at adr ≡ whole_read adr
unfolding placed
read_is adr even =
    let z = no_shift adr even in
    let a : placed_adr W32 W32 adr ≡ adr = omega (arith, even) in
    let d : placed_dat W32 W32 adr 0 0xF ≡ 0 = ap (λ (n : ℕ). 0 * 256 ^ n) z in
    let s : placed_sel W32 W32 adr 0xF ≡ 0xF = ap (λ (n : ℕ). 0xF * 2 ^ n) z in
    λ i. record { write = false; adr = a i; dat = d i; sel = s i }

all_lanes : (n : ℕ) → n < 2 ^ 32 → selected 4 0xF n ≡ n
all_lanes n lt = let e = selected-full 4 n in omega (arith, e)

word_is : (adr n : ℕ) → adr % 4 ≡ 0 → n < 2 ^ 32 → word_of W32 W32 adr (selected 4 0xF n) 0xF ≡ n
word_is adr n even lt =
    let z = no_shift adr even in
    let one : selected 4 0xF n / 256 ^ 0 ≡ n = omega (arith, all_lanes n lt) in
    ap (λ (k : ℕ). selected 4 0xF (selected 4 0xF n / 256 ^ k)) z ∙ ap (λ (k : ℕ). selected 4 0xF k) one ∙ all_lanes n lt

module _ (C : Type 0) (wiring : Wiring) (contents : List Content) where
  -- a read that leaves the contents as they are, and gives this word
  abbrev pub Has : ℕ → ℕ → Type 0
  Has adr word = ((step wiring contents (read_at adr)).contents ≡ contents) × (word_read {C = C} adr (step wiring contents (read_at adr)).answer ≡ Ok word)

  step_is : (place : ℕ) (o : List ℕ) (r q : Request) → get_or contents place Nothing ≡ Rom o → q.write ≡ false
      → wiring.route r ≡ record { place = place; bus = W32; request = q; upper_half = false }
      → step wiring contents r ≡ record { contents = contents; answer = answer.Ack (selected 4 q.sel (number_at W32 o q.adr)) }
  unfolding stepped
  step_is place o r q held read goes =
      ap (stepped contents) goes
      ∙ (λ i. record { contents = set contents place (device W32 (held i) (record { write = read i; adr = q.adr; dat = q.dat; sel = q.sel })).content; answer = (device W32 (held i) (record { write = read i; adr = q.adr; dat = q.dat; sel = q.sel })).answer })
      ∙ (let same : set contents place (Rom o) ≡ contents = ap (λ (x : Content). set contents place x) (sym held) ∙ set-get_or contents place Nothing in
      λ i. record { contents = same i; answer = answer.Ack (selected 4 q.sel (number_at W32 o q.adr)) })

  pub table_read : (end : ℕ) (b : PlacedBus) → All Octet (image_of b.bus) → Shows wiring.route contents 0 end b → HasOctets C Has (table_address b) (image_of b.bus)
  table_read end b bytes s k le =
      let adr : ℕ = table_address b + 4 * k in
      let even : adr % 4 ≡ 0 = omega (arith, s.aligned) in
      let q : Request = whole_read adr in
      let bare : less 0 q ≡ q = let e : adr - 0 ≡ adr = omega arith in λ i. whole_read (e i) in
      let goes = ap wiring.route (sym bare) ∙ s.goes q (omega arith) (omega arith) in
      let one = ap (step wiring contents) (read_is adr even) ∙ step_is s.place (image_of b.bus) q (less (table_address b) q) s.held refl goes in
      let offset : adr - table_address b ≡ 4 * k = omega arith in
      let n : ℕ = number_at W32 (image_of b.bus) (4 * k) in
      let small : n < 2 ^ 32 = number-lt W32 (take 4 (drop (4 * k) (image_of b.bus))) (bytes_of _ (All-take Octet 4 (drop (4 * k) (image_of b.bus)) (All-drop Octet (4 * k) (image_of b.bus) bytes))) in (
        ap (λ (x : Step). x.contents) one,
        ap (λ (x : Step). word_read {C = C} adr x.answer) one
            ∙ ap (λ (a : ℕ). word_read {C = C} adr (answer.Ack (selected 4 0xF (number_at W32 (image_of b.bus) a)))) offset
            ∙ ap (λ (w : ℕ). let x : Word C = Ok w in x) (word_is adr n even small),
      )

  -- ---- a walk by reads

  abbrev AreReadsFrom : Walk C → List (Word C) → Type 0
  AreReadsFrom u words = exchanges u words ≡ read_all wiring contents (addresses (exchanges u words))

  pub some_words : (u v : Walk C) → Goes C Has u v → (words : List (Word C)) × AreReadsFrom u words × (after u words ≡ v)
  some_words u v (arrived x) = ([], refl, refl)
  some_words u v (one_more visit read visits begun tree word w has rest) =
      let more = some_words _ _ rest in
      let next : Walk C = after_word visit (read ++ word ∷ []) visits begun tree in
      let adr : ℕ = asked visit read in
      let later : List (Exchange C) = exchanges next more.0 in
      let first : Exchange C = record { adr = adr; word = Ok word } in
      let read_now : read_all {C = C} wiring contents (adr ∷ addresses later) ≡ first ∷ read_all wiring contents (addresses later) =
      (λ i. let x : Exchange C = record { adr = adr; word = has.1 i } in x ∷ read_all wiring (has.0 i) (addresses later)) in
      (Ok word ∷ more.0, ap (λ (xs : List (Exchange C)). first ∷ xs) more.1 ∙ sym read_now, more.2)

  pub no_other : (u v : Walk C) → Goes C Has u v → (end : Result (List Found) (WalkFault C)) → v ≡ Ended end → (words : List (Word C)) → AreReadsFrom u words
      → (r : Result (List Found) (WalkFault C)) → after u words ≡ Ended r → Ended r ≡ v
  no_other u v (arrived x) end is words reads r e =
      sym e ∙ ap (λ (w : Walk C). after w words) is ∙ after_end end words ∙ sym is
  no_other u v (one_more visit read visits begun tree word w has rest) end is [] reads r e = absurd cc
  no_other u v (one_more visit read visits begun tree word w has rest) end is (a ∷ words) reads r e =
      let own : Walk C = Reads visit read visits begun tree in
      let same : a ≡ Ok word = ap (word_first a) reads ∙ has.1 in
      let later : exchanges (answered own a) words ≡ read_all wiring (step wiring contents (read_at (asked visit read))).contents (addresses (exchanges (answered own a) words)) = ap others_of reads in
      let later_now : exchanges (answered own a) words ≡ read_all wiring contents (addresses (exchanges (answered own a) words)) =
      later ∙ ap (λ (cs : List Content). read_all wiring cs (addresses (exchanges (answered own a) words))) has.0 in
      no_other _ _ rest end is words (subst (λ (x : Word C). AreReadsFrom (answered own x) words) same later_now) r (subst (λ (x : Word C). after (answered own x) words ≡ Ended r) same e)

  pub unchanged : (u v : Walk C) → Goes C Has u v → (end : Result (List Found) (WalkFault C)) → v ≡ Ended end → (words : List (Word C)) → AreReadsFrom u words
      → contents_after wiring contents (map read_at (addresses (exchanges u words))) ≡ contents
  unchanged u v (arrived x) end is words reads = ap (λ (w : Walk C). contents_after wiring contents (map read_at (addresses (exchanges w words)))) is ∙ ap (λ (xs : List (Exchange C)). contents_after wiring contents (map read_at (addresses xs))) (exchanges_end end words)
  unchanged u v (one_more visit read visits begun tree word w has rest) end is [] reads = refl
  unchanged u v (one_more visit read visits begun tree word w has rest) end is (a ∷ words) reads =
      let own : Walk C = Reads visit read visits begun tree in
      let same : a ≡ Ok word = ap (word_first a) reads ∙ has.1 in
      let later : exchanges (answered own a) words ≡ read_all wiring (step wiring contents (read_at (asked visit read))).contents (addresses (exchanges (answered own a) words)) = ap others_of reads in
      let later_now : exchanges (answered own a) words ≡ read_all wiring contents (addresses (exchanges (answered own a) words)) =
      later ∙ ap (λ (cs : List Content). read_all wiring cs (addresses (exchanges (answered own a) words))) has.0 in
      ap (λ (cs : List Content). contents_after wiring cs (map read_at (addresses (exchanges (answered own a) words)))) has.0
      ∙ ap (λ (x : Word C). contents_after wiring contents (map read_at (addresses (exchanges (answered own x) words)))) same
      ∙ unchanged _ _ rest end is words (subst (λ (x : Word C). AreReadsFrom (answered own x) words) same later_now)

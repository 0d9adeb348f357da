-- The line of a text is the one that it spells.
use Rattle.std.proofs.Common.{◌≡◌, ℕ, ◌+◌, ◌*◌, ◌%◌, ◌<◌, ◌≤◌, ◌==◌, ◌&&◌, nat_lt, nat_le, if◌then◌else◌, Bool, true, false, List, [], ◌∷◌, ◌++◌, length, map, drop, Some, None, option_map, option_and_then, ap, sym, refl, subst, ◌∙◌, arith, inl, inr}
use Rattle.std.specs.Prelude.{codes}
use Rattle.std.specs.Str.{bytes_eq}
use Rattle.std.specs.List.{All, slice_get, join_with_byte}
use Rattle.std.proofs.lemmas.Slice.Eq.{bytes_eq-Decides}
use Rattle.std.proofs.lemmas.Option.{none-some, same_Some}
use Rattle.std.proofs.lemmas.List.Elements.{All-cons, All-nil, All-append}
use Rattle.std.proofs.lemmas.List.Splits.{slice_split_none, slice_split_at, join_with_byte-slice_split}
use Rattle.eb_base.specs.declared.width.Width.{Width}
use Rattle.wb_signals.specs.Request.{Request}
use Rattle.soc_script.specs.Digits.{decimal_of, digit_below, digit_value, hex_number, number_behind, number_of}
use Rattle.soc_script.specs.Words.{pieces_of, words_of}
use Rattle.soc_script.specs.Script.{ScriptLine, access_of, address_of, aligned, all_some, below, clock_of, head_of, line_of, line_of_words, line_with, mark_of, master_of, op_of, ops_of, read_of, write_of}
use Rattle.soc_script.specs.Spelling.{SpellsWrite, SpellsOp, SpellOps, SpellsLine, mark_text}
use Rattle.soc_script.proofs.ListLemmas.{all_ops, as_many}
use Rattle.soc_script.proofs.TakenLemmas.{then_some, map_some, if_some, all_some-is}

-- ---- texts without an octet of a kind

abbrev Lacks : ℕ → List ℕ → Type 0
Lacks octet text = All (λ b. (b == octet) ≡ false) text

same_octet : (c octet : ℕ) → (c == octet) ≡ true → c ≡ octet
same_octet c octet t = grind arith

digits_lack_from : (octet base n : ℕ) → digit_value octet ≡ None → (word : List ℕ) (k : ℕ) → number_behind base n word ≡ Some k → Lacks octet word
digits_lack_from octet base n odd [] k e = All-nil (λ b. (b == octet) ≡ false)
digits_lack_from octet base n odd (c ∷ cs) k e =
    let d = then_some (λ v. number_behind base (base * n + v) cs) (digit_below base c) k e in
    let v = then_some (λ v. if nat_lt v base then Some v else None) (digit_value c) d.0 d.1 in
    All-cons (λ b. (b == octet) ≡ false) c cs (is_other c v.0 v.1) (digits_lack_from octet base (base * n + d.0) odd cs k d.2)
  where
    is_other : (c v : ℕ) → digit_value c ≡ Some v → (c == octet) ≡ false
    is_other c v s = by_test (c == octet) refl
      where
        by_test : (b : Bool) → (c == octet) ≡ b → b ≡ false
        by_test false t = refl
        by_test true t =
            let same : c ≡ octet = same_octet c octet t in
            elim (none-some v (sym odd ∙ ap digit_value (sym same) ∙ s)) [ ]

digits_lack : (octet base most : ℕ) → digit_value octet ≡ None → (word : List ℕ) (k : ℕ) → number_of base most word ≡ Some k → Lacks octet word
digits_lack octet base most odd word k e =
    digits_lack_from octet base 0 odd word k (if_some (nat_le 1 (length word) && nat_le (length word) most) (number_behind base 0 word) k e).1

abbrev AllLack : ℕ → List (List ℕ) → Type 0
AllLack octet [] = Unit {0}
AllLack octet (word ∷ words) = Lacks octet word × AllLack octet words

-- words that an octet joined are cut again at it
cut_again : (octet : ℕ) → (octet == octet) ≡ true → (word : List ℕ) (words : List (List ℕ)) → Lacks octet word → AllLack octet words → pieces_of octet (join_with_byte octet (word ∷ words)) ≡ word ∷ words
cut_again octet same word [] lack all = slice_split_none (λ b. b == octet) word lack
cut_again octet same word (next ∷ words) lack all =
    slice_split_at (λ b. b == octet) word octet (join_with_byte octet (next ∷ words)) lack same ∙ ap (λ k. word ∷ k) (cut_again octet same next words all.0 all.1)

-- ---- a mark

mark_by : (ends holds : Bool) (word : List ℕ) (b : Bool) → bytes_eq word (codes "end") ≡ ends → bytes_eq word (codes "hold") ≡ holds → (if ends then Some true else (if holds then Some false else None)) ≡ Some b → word ≡ mark_text b
mark_by true holds word b e h s = (bytes_eq-Decides word (codes "end")).0 e ∙ ap mark_text (same_Some true b s)
mark_by false true word b e h s = (bytes_eq-Decides word (codes "hold")).0 h ∙ ap mark_text (same_Some false b s)
mark_by false false word b e h s = elim (none-some b s) [ ]

mark_is : (word : List ℕ) (b : Bool) → mark_of word ≡ Some b → word ≡ mark_text b
mark_is word b s = mark_by (bytes_eq word (codes "end")) (bytes_eq word (codes "hold")) word b refl refl s

mark_read : (b : Bool) → mark_of (mark_text b) ≡ Some b
mark_read true = refl
mark_read false = refl

mark_lacks : (b : Bool) → Lacks 32 (mark_text b)
mark_lacks true = All-cons (λ b. (b == 32) ≡ false) 101 (110 ∷ 100 ∷ []) refl (All-cons (λ b. (b == 32) ≡ false) 110 (100 ∷ []) refl (All-cons (λ b. (b == 32) ≡ false) 100 [] refl (All-nil (λ b. (b == 32) ≡ false))))
mark_lacks false =
    All-cons (λ b. (b == 32) ≡ false) 104 (111 ∷ 108 ∷ 100 ∷ []) refl (All-cons (λ b. (b == 32) ≡ false) 111 (108 ∷ 100 ∷ []) refl (All-cons (λ b. (b == 32) ≡ false) 108 (100 ∷ []) refl (All-cons (λ b. (b == 32) ≡ false) 100 [] refl (All-nil (λ b. (b == 32) ≡ false)))))

-- ---- an address

aligned_is : (n adr : ℕ) → aligned n ≡ Some adr → (n ≡ adr) × (adr % 4 ≡ 0)
aligned_is n adr e =
    let held = if_some (n % 4 == 0) (Some n) adr e in
    let same : n ≡ adr = same_Some n adr held.1 in
    let four : n % 4 ≡ 0 = grind (arith, held.0) in
    (same, subst (λ k. k % 4 ≡ 0) same four)

aligned_some : (adr : ℕ) → adr % 4 ≡ 0 → aligned adr ≡ Some adr
aligned_some adr e = rw e refl

address_is : (word : List ℕ) (adr : ℕ) → address_of word ≡ Some adr → (hex_number 16 word ≡ Some adr) × (adr % 4 ≡ 0)
address_is word adr e =
    let n = then_some aligned (hex_number 16 word) adr e in
    let a = aligned_is n.0 adr n.2 in
    (n.1 ∙ ap Some a.0, a.1)

address_some : (word : List ℕ) (adr : ℕ) → hex_number 16 word ≡ Some adr → adr % 4 ≡ 0 → address_of word ≡ Some adr
address_some word adr e a = ap (option_and_then aligned) e ∙ aligned_some adr a

-- ---- an operation

module _ (bus : Width) where
  write_spelled : (rest : List ℕ) (words : List (List ℕ)) (r : Request) → pieces_of 61 rest ≡ words → write_of bus words ≡ Some r → SpellsWrite bus (119 ∷ rest) r
  write_spelled rest [] r p e = elim (none-some r e) [ ]
  write_spelled rest (a ∷ []) r p e = elim (none-some r e) [ ]
  write_spelled rest (a ∷ d ∷ []) r p e =
      let adr = then_some (λ n. option_map (λ dat. access_of bus true n dat) (hex_number 8 d)) (address_of a) r e in
      let dat = map_some (λ n. access_of bus true adr.0 n) (hex_number 8 d) r adr.2 in
      let says = address_is a adr.0 adr.1 in
      let whole : rest ≡ a ++ 61 ∷ d = sym (join_with_byte-slice_split 61 rest) ∙ ap (join_with_byte 61) p in
      record {
        adr_word = a;
        dat_word = d;
        adr = adr.0;
        dat = dat.0;
        word_is = ap (λ k. 119 ∷ k) whole;
        says_adr = says.0;
        says_dat = dat.1;
        aligned_adr = says.1;
        request = sym dat.2;
      }
  write_spelled rest (a ∷ d ∷ more ∷ words) r p e = elim (none-some r e) [ ]

  op_by : (reads writes : Bool) (c : ℕ) (word : List ℕ) (r : Request) → (c == 114) ≡ reads → (c == 119) ≡ writes → (if reads then read_of bus word else (if writes then write_of bus (pieces_of 61 word) else None)) ≡ Some r → SpellsOp bus (c ∷ word) r
  op_by true writes c word r cr cw e =
      let adr = map_some (λ n. access_of bus false n 0) (address_of word) r e in
      let says = address_is word adr.0 adr.1 in
      let first : c ≡ 114 = same_octet c 114 cr in
      inl (record {
        adr_word = word;
        adr = adr.0;
        word_is = ap (λ k. k ∷ word) first;
        says_adr = says.0;
        aligned_adr = says.1;
        request = sym adr.2;
      })
  op_by false true c word r cr cw e =
      let first : c ≡ 119 = same_octet c 119 cw in
      inr (subst (λ k. SpellsWrite bus (k ∷ word) r) (sym first) (write_spelled word (pieces_of 61 word) r refl e))
  op_by false false c word r cr cw e = elim (none-some r e) [ ]

  op_spelled : (word : List ℕ) (r : Request) → op_of bus word ≡ Some r → SpellsOp bus word r
  op_spelled [] r e = elim (none-some r e) [ ]
  op_spelled (c ∷ word) r e = op_by (c == 114) (c == 119) c word r refl refl e

  ops_spelled : (words : List (List ℕ)) (ops : List Request) → map (op_of bus) words ≡ map Some ops → SpellOps bus words ops
  ops_spelled [] [] e = tt
  ops_spelled [] (r ∷ rs) e = none-some (Some r) (ap (λ l. slice_get l 0) e)
  ops_spelled (w ∷ ws) [] e = none-some (op_of bus w) (sym (ap (λ l. slice_get l 0) e))
  ops_spelled (w ∷ ws) (r ∷ rs) e = (op_spelled w r (same_Some (op_of bus w) (Some r) (ap (λ l. slice_get l 0) e)), ops_spelled ws rs (ap (drop 1) e))

  -- ---- and back

  read_op : (word : List ℕ) (r : Request) → SpellsOp bus word r → op_of bus word ≡ Some r
  read_op word r (inl s) =
      ap (op_of bus) s.word_is ∙ ap (option_map (λ n. access_of bus false n 0)) (address_some s.adr_word s.adr s.says_adr s.aligned_adr) ∙ ap Some (sym s.request)
  read_op word r (inr s) =
      let cut : pieces_of 61 (s.adr_word ++ 61 ∷ s.dat_word) ≡ s.adr_word ∷ s.dat_word ∷ [] =
      cut_again 61 refl s.adr_word (s.dat_word ∷ []) (digits_lack 61 16 16 refl s.adr_word s.adr s.says_adr) (digits_lack 61 16 8 refl s.dat_word s.dat s.says_dat, tt) in
      ap (op_of bus) s.word_is ∙ ap (write_of bus) cut
      ∙ ap (option_and_then (λ n. option_map (λ dat. access_of bus true n dat) (hex_number 8 s.dat_word))) (address_some s.adr_word s.adr s.says_adr s.aligned_adr)
      ∙ ap (option_map (λ dat. access_of bus true s.adr dat)) s.says_dat ∙ ap Some (sym s.request)

  op_lacks : (word : List ℕ) (r : Request) → SpellsOp bus word r → Lacks 32 word
  op_lacks word r (inl s) =
      subst (Lacks 32) (sym s.word_is) (All-cons (λ b. (b == 32) ≡ false) 114 s.adr_word refl (digits_lack 32 16 16 refl s.adr_word s.adr s.says_adr))
  op_lacks word r (inr s) =
      let dat = All-cons (λ b. (b == 32) ≡ false) 61 s.dat_word refl (digits_lack 32 16 8 refl s.dat_word s.dat s.says_dat) in
      let both = All-append (λ b. (b == 32) ≡ false) s.adr_word (61 ∷ s.dat_word) (digits_lack 32 16 16 refl s.adr_word s.adr s.says_adr) dat in
      subst (Lacks 32) (sym s.word_is) (All-cons (λ b. (b == 32) ≡ false) 119 (s.adr_word ++ 61 ∷ s.dat_word) refl both)

  read_ops : (words : List (List ℕ)) (ops : List Request) → SpellOps bus words ops → map (op_of bus) words ≡ map Some ops
  read_ops [] [] s = refl
  read_ops [] (r ∷ rs) s = elim s [ ]
  read_ops (w ∷ ws) [] s = elim s [ ]
  read_ops (w ∷ ws) (r ∷ rs) s = ap (λ k. k ∷ map (op_of bus) ws) (read_op w r s.0) ∙ ap (λ k. Some r ∷ k) (read_ops ws rs s.1)

  ops_lack : (words : List (List ℕ)) (ops : List Request) → SpellOps bus words ops → AllLack 32 words
  ops_lack [] [] s = tt
  ops_lack [] (r ∷ rs) s = elim s [ ]
  ops_lack (w ∷ ws) [] s = elim s [ ]
  ops_lack (w ∷ ws) (r ∷ rs) s = (op_lacks w r s.0, ops_lack ws rs s.1)

  -- ---- a line

  below_some : (most n : ℕ) → n < most → below most n ≡ Some n
  below_some most n l = grind arith

  below_is : (most n k : ℕ) → below most n ≡ Some k → (n ≡ k) × (k < most)
  below_is most n k e =
      let held = if_some (nat_lt n most) (Some n) k e in
      let same : n ≡ k = same_Some n k held.1 in
      let l : n < most = grind (arith, held.0) in
      (same, subst (λ v. v < most) same l)

  module _ (masters : ℕ) where
    words_spelled : (text : List ℕ) (words : List (List ℕ)) (l : ScriptLine) → words_of text ≡ words → line_of_words bus masters words ≡ Some l → SpellsLine bus masters text l
    words_spelled text [] l w e = elim (none-some l e) [ ]
    words_spelled text (m ∷ []) l w e = elim (none-some l e) [ ]
    words_spelled text (m ∷ t ∷ []) l w e = elim (none-some l e) [ ]
    words_spelled text (m ∷ t ∷ mark ∷ words) l w e =
        let head = then_some (λ h. option_map (line_with h) (ops_of bus words)) (head_of masters m t mark) l e in
        let ops = map_some (line_with head.0) (ops_of bus words) l head.2 in
        let a = then_some (λ n. option_and_then (λ k. option_map (λ q. record { master = n; clock = k; last = q }) (mark_of mark)) (clock_of t)) (master_of masters m) head.0 head.1 in
        let b = then_some (λ k. option_map (λ q. record { master = a.0; clock = k; last = q }) (mark_of mark)) (clock_of t) head.0 a.2 in
        let c = map_some (λ q. record { master = a.0; clock = b.0; last = q }) (mark_of mark) head.0 b.2 in
        let n = then_some (below masters) (decimal_of m) a.0 a.1 in
        let k = then_some (below 10001) (decimal_of t) b.0 b.1 in
        let x = below_is masters n.0 a.0 n.2 in
        let y = below_is 10001 k.0 b.0 k.2 in
        let held = if_some (nat_le 1 (length words) && nat_le (length words) 255) (all_some (map (op_of bus) words)) ops.0 ops.1 in
        let each = all_some-is (map (op_of bus) words) ops.0 held.1 in
        let count : length words ≡ length ops.0 = as_many (op_of bus) words ops.0 each in
        let some : 1 ≤ length words = grind (arith, held.0) in
        let most : length words ≤ 255 = grind (arith, held.0) in
        let whole : text ≡ join_with_byte 32 (m ∷ t ∷ mark ∷ words) = sym (join_with_byte-slice_split 32 text) ∙ ap (join_with_byte 32) w in
        let line : record { master = a.0; clock = b.0; last = c.0; ops = ops.0 } ≡ l = ap (λ h. line_with h ops.0) c.2 ∙ ops.2 in
        subst (SpellsLine bus masters text) line (record {
          master_word = m;
          clock_word = t;
          op_words = words;
          text_is = whole ∙ ap (λ v. join_with_byte 32 (m ∷ t ∷ v ∷ words)) (mark_is mark c.0 c.1);
          says_master = n.1 ∙ ap Some x.0;
          master_below = x.1;
          says_clock = k.1 ∙ ap Some y.0;
          most_clock = omega (arith, y.1);
          spell_ops = ops_spelled words ops.0 each;
          some_ops = omega (arith, some, count);
          most_ops = omega (arith, most, count);
        })

    pub line_spelled : (text : List ℕ) (l : ScriptLine) → line_of bus masters text ≡ Some l → SpellsLine bus masters text l
    line_spelled text l e = words_spelled text (words_of text) l refl e

    pub line_read : (text : List ℕ) (l : ScriptLine) → SpellsLine bus masters text l → line_of bus masters text ≡ Some l
    line_read text l s =
        let lacks : AllLack 32 (s.clock_word ∷ mark_text l.last ∷ s.op_words) = (digits_lack 32 10 5 refl s.clock_word l.clock s.says_clock, (mark_lacks l.last, ops_lack s.op_words l.ops s.spell_ops)) in
        let words : words_of text ≡ s.master_word ∷ s.clock_word ∷ mark_text l.last ∷ s.op_words =
        ap words_of s.text_is ∙ cut_again 32 refl s.master_word (s.clock_word ∷ mark_text l.last ∷ s.op_words) (digits_lack 32 10 5 refl s.master_word l.master s.says_master) lacks in
        let each = read_ops s.op_words l.ops s.spell_ops in
        let count : length s.op_words ≡ length l.ops = as_many (op_of bus) s.op_words l.ops each in
        let most : length l.ops ≤ 255 = s.most_ops in
        let ops : ops_of bus s.op_words ≡ Some l.ops = all_ops bus s.op_words l.ops each s.op_words refl s.some_ops (omega arith) in
        let clock : l.clock ≤ 10000 = s.most_clock in
        let master : master_of masters s.master_word ≡ Some l.master = ap (option_and_then (below masters)) s.says_master ∙ below_some masters l.master s.master_below in
        let from : clock_of s.clock_word ≡ Some l.clock = ap (option_and_then (below 10001)) s.says_clock ∙ below_some 10001 l.clock (omega arith) in
        let head : head_of masters s.master_word s.clock_word (mark_text l.last) ≡ Some (record { master = l.master; clock = l.clock; last = l.last }) =
        ap (option_and_then (λ n. option_and_then (λ k. option_map (λ q. record { master = n; clock = k; last = q }) (mark_of (mark_text l.last))) (clock_of s.clock_word))) master
        ∙ ap (option_and_then (λ k. option_map (λ q. record { master = l.master; clock = k; last = q }) (mark_of (mark_text l.last)))) from
        ∙ ap (option_map (λ q. record { master = l.master; clock = l.clock; last = q })) (mark_read l.last) in
        ap (line_of_words bus masters) words ∙ ap (option_and_then (λ h. option_map (line_with h) (ops_of bus s.op_words))) head
        ∙ ap (option_map (line_with (record { master = l.master; clock = l.clock; last = l.last }))) ops

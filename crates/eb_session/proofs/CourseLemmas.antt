-- A session from its beginning on: one more item.
use Rattle.std.proofs.Common.{◌≡◌, ℕ, ◌+◌, ◌≤◌, Bool, true, false, List, [], ◌∷◌, ◌++◌, length, map, take, drop, Option, None, refl, sym, ap, ◌∙◌, subst, arith, length-append, lit<}
use Rattle.std.specs.List.{All}
use Rattle.std.proofs.lemmas.List.{append_assoc, append-nil, map-append, take-append-drop, take_at, take-append-le, drop-append-le, length-take-le, length-drop}
use Rattle.eb_base.specs.declared.width.Width.{Width}
use Rattle.eb_base.specs.declared.width.Width.TheVariants.{W8, W16, W32, W64}
use Rattle.eb_base.specs.declared.width.Widths.{Widths}
use Rattle.eb_codec.specs.declared.item.Header.{Header}
use Rattle.eb_codec.specs.Decoding.{DecoderState}
use Rattle.eb_codec.specs.Stream.{StreamItem, HaveWidths, Spells, SpellsAll, IsPartial, header_after, header_after_all}
use Rattle.eb_codec.proofs.ItemLemmas.{size-ge}
use Rattle.eb_codec.proofs.CompletionLemmas.{is_partial}
use Rattle.eb_codec.proofs.StreamLemmas.{spells_one, spells_append, header_after_all-append}
use Rattle.wb_signals.specs.Request.{Request}
use Rattle.wb_signals.specs.declared.answer.Answer.{Answer}
use Rattle.wb_signals.specs.History.{Pair, Entry, Group, group, marked, requests_of, answers_of, given}
use Rattle.wb_signals.specs.Cycles.{MasterCycles, paired, made_with, pairs_added}
use Rattle.wb_signals.proofs.CycleLemmas.{requests_of-append}
use Rattle.eb_session.specs.declared.slave.Slave.{Slave}
use Rattle.eb_session.specs.Cycles.{Cycles, no_cycles, cycles_more, cycles_from, cycles_in, item_ops, item_ends, count_from}
use Rattle.eb_session.specs.Replies.{sets_of, item_reply, replies_from, replies}
use Rattle.eb_session.specs.Configuration.{register}
use Rattle.eb_session.specs.Keeping.{SessionState, Ran}
use Rattle.eb_session.specs.Course.{SoFar, gone_on, answers_in, IsOn}
use Rattle.eb_session.proofs.ListLemmas.{register-append, All-more}

pub cycles_from-more : (bus : Width) (header : Option Header) (c : Cycles) (xs : List StreamItem) (x : StreamItem) → cycles_from bus header c (xs ++ x ∷ []) ≡ cycles_more (cycles_from bus header c xs) (item_ops bus (header_after_all header xs) x) (item_ends x)
cycles_from-more bus header c [] x = refl
cycles_from-more bus header c (y ∷ xs) x = cycles_from-more bus (header_after header y) (cycles_more c (item_ops bus header y) (item_ends y)) xs x

pub requests-paired : (rs : List Request) (answers : List Answer) → length answers ≡ length rs → requests_of (paired rs answers) ≡ rs
requests-paired [] answers e = refl
requests-paired (r ∷ rs) [] e = absurd (omega arith)
requests-paired (r ∷ rs) (a ∷ answers) e = ap (λ (l : List Request). r ∷ l) (requests-paired rs answers (omega arith))

pub answers-paired : (rs : List Request) (answers : List Answer) → length answers ≡ length rs → answers_of (paired rs answers) ≡ answers
answers-paired [] [] e = refl
answers-paired [] (a ∷ answers) e = absurd (omega arith)
answers-paired (r ∷ rs) [] e = absurd (omega arith)
answers-paired (r ∷ rs) (a ∷ answers) e = ap (λ (l : List Answer). a ∷ l) (answers-paired rs answers (omega arith))

pub answers-append : (p q : List Pair) → answers_of (p ++ q) ≡ answers_of p ++ answers_of q
answers-append [] q = refl
answers-append (x ∷ p) q = ap (λ (l : List Answer). x.answer ∷ l) (answers-append p q)

pub given-append : (d e : List Entry) → given (d ++ e) ≡ given d ++ given e
given-append [] e = refl
given-append (x ∷ d) e = ap (λ (l : List Answer). answers_of x.pairs ++ l) (given-append d e) ∙ sym (append_assoc (answers_of x.pairs) (given d) (given e))

-- what the entries and the open pairs are after one more record
pub record Grown (m : ℕ) (first : List Entry) (c : Cycles) (entries : List Entry) (now : MasterCycles) (answers : List Answer) : Type 0 where
  pub made : now.made ≡ first ++ entries
  pub whole : map marked entries ≡ c.whole
  pub opened : requests_of now.opened ≡ c.opened
  pub all : given entries ++ answers_of now.opened ≡ answers
  pub mine : All (λ e. e.master ≡ m) entries

module _ (m : ℕ) (first : List Entry) (c : Cycles) (entries : List Entry) (old : MasterCycles) (pairs : List Pair) (ops : List Request) (before : List Answer)
    (g : Grown m first c entries old before) (are : requests_of pairs ≡ ops) where
  requests : requests_of (old.opened ++ pairs) ≡ c.opened ++ ops
  requests = requests_of-append old.opened pairs ∙ ap (λ (l : List Request). l ++ requests_of pairs) g.opened ∙ ap (λ (l : List Request). c.opened ++ l) are

  alls : given entries ++ answers_of (old.opened ++ pairs) ≡ before ++ answers_of pairs
  alls = ap (λ (l : List Answer). given entries ++ l) (answers-append old.opened pairs) ∙ sym (append_assoc (given entries) (answers_of old.opened) (answers_of pairs)) ∙ ap (λ (l : List Answer). l ++ answers_of pairs) g.all

  ends_by : (l : List Pair) → l ≡ old.opened ++ pairs
      → (more : List Entry) × Grown m first (cycles_more c ops true) more (record { made = made_with m false old.made l; opened = [] }) (before ++ answers_of pairs)
  ends_by [] is =
      let none : [] ≡ c.opened ++ ops = ap requests_of is ∙ requests in (
        entries,
        record {
          made = g.made;
          whole = g.whole ∙ sym (append-nil c.whole) ∙ ap (λ (l : List Request). c.whole ++ group false l) none;
          opened = refl;
          all = ap (λ (l : List Pair). given entries ++ answers_of l) is ∙ alls;
          mine = g.mine;
        },
      )
  ends_by (p ∷ l) is =
      let some : requests_of (p ∷ l) ≡ c.opened ++ ops = ap requests_of is ∙ requests in
      let e : Entry = record { master = m; cut = false; pairs = p ∷ l } in (
        entries ++ e ∷ [],
        record {
          made = ap (λ (d : List Entry). d ++ e ∷ []) g.made ∙ append_assoc first entries (e ∷ []);
          whole = map-append marked entries (e ∷ []) ∙ ap (λ (d : List Group). d ++ group false (requests_of (p ∷ l))) g.whole ∙ ap (λ (d : List Request). c.whole ++ group false d) some;
          opened = refl;
          all = append-nil (given (entries ++ e ∷ [])) ∙ given-append entries (e ∷ [])
              ∙ ap (λ (d : List Answer). given entries ++ d) (append-nil (answers_of (p ∷ l))) ∙ ap (λ (d : List Pair). given entries ++ answers_of d) is ∙ alls;
          mine = All-more (λ (x : Entry). x.master ≡ m) entries e g.mine refl;
        },
      )

  pub grown : (last : Bool) → (more : List Entry) × Grown m first (cycles_more c ops last) more (pairs_added m old pairs last) (before ++ answers_of pairs)
  grown false = (entries, record { made = g.made; whole = g.whole; opened = requests; all = alls; mine = g.mine })
  grown true = ends_by (old.opened ++ pairs) refl

pub count-more : (bus : Width) (header : Option Header) (xs : List StreamItem) (x : StreamItem) → count_from bus header (xs ++ x ∷ []) ≡ count_from bus header xs + length (item_ops bus (header_after_all header xs) x)
count-more bus header [] x = omega arith
count-more bus header (y ∷ xs) x = let e = count-more bus (header_after header y) xs x in omega (arith, e)

take_whole : {A : Type 0} (l : List A) → take (length l) l ≡ l
take_whole l = ap (λ q. take (length l) q) (sym (append-nil l)) ∙ take_at l [] (length l) refl

pub replies-more : (s : Slave) (header : Option Header) (e : ℕ) (xs : List StreamItem) (x : StreamItem) (a b : List Answer) → length a ≡ count_from s.bus header xs → length b ≡ length (item_ops s.bus (header_after_all header xs) x)
    → replies_from s header e (xs ++ x ∷ []) (a ++ b) ≡ replies_from s header e xs a ++ item_reply s (header_after_all header xs) x b (register e a)
replies-more s header e [] x [] b la lb =
    let n : ℕ = length (item_ops s.bus header x) in
    let t : take n b ≡ b = ap (λ k. take k b) (sym lb) ∙ take_whole b in
    append-nil (item_reply s header x (take n b) e) ∙ ap (λ (l : List Answer). item_reply s header x l e) t
replies-more s header e [] x (y ∷ a) b la lb = absurd (omega arith)
replies-more s header e (y ∷ xs) x a b la lb =
    let n : ℕ = length (item_ops s.bus header y) in
    let le : n ≤ length a = omega (arith, la) in
    let t : take n (a ++ b) ≡ take n a = take-append-le n a b le in
    let d : drop n (a ++ b) ≡ drop n a ++ b = drop-append-le n a b le in
    let whole : take n a ++ drop n a ≡ a = take-append-drop n a in
    let first : length (take n a) ≡ n = length-take-le n a le in
    let rest : length (drop n a) ≡ count_from s.bus (header_after header y) xs = omega (arith, la, first, ap length whole, length-append (take n a) (drop n a)) in
    let e' : ℕ = register e (take n a) in
    let again = replies-more s (header_after header y) e' xs x (drop n a) b rest lb in
    let same : register e' (drop n a) ≡ register e a = sym (register-append e (take n a) (drop n a)) ∙ ap (register e) whole in
    ap (λ (l : List Answer). item_reply s header y l e ++ replies_from s (header_after header y) (register e l) (xs ++ x ∷ []) (drop n (a ++ b))) t
    ∙ ap (λ (l : List Answer). item_reply s header y (take n a) e ++ replies_from s (header_after header y) e' (xs ++ x ∷ []) l) d
    ∙ ap (λ (l : List ℕ). item_reply s header y (take n a) e ++ l) (again ∙ ap (λ (k : ℕ). replies_from s (header_after header y) e' xs (drop n a) ++ item_reply s (header_after_all (header_after header y) xs) x b k) same)
    ∙ sym (append_assoc (item_reply s header y (take n a) e) (replies_from s (header_after header y) e' xs (drop n a)) (item_reply s (header_after_all (header_after header y) xs) x b (register e a)))

have_sets : (bus : Width) → HaveWidths (sets_of bus)
have_sets W8 = record { are_sets = (omega arith, omega arith); address = omega arith; port = omega arith }
have_sets W16 = record { are_sets = (omega arith, omega arith); address = omega arith; port = omega arith }
have_sets W32 = record { are_sets = (omega arith, omega arith); address = omega arith; port = omega arith }
have_sets W64 = record { are_sets = (omega arith, omega arith); address = omega arith; port = omega arith }

-- nothing is less than an item
pub none_pends : (bus : Width) (header : Option Header) → IsPartial (sets_of bus) header []
none_pends bus header = is_partial (sets_of bus) header [] (have_sets bus) (λ k lt. absurd (omega arith)) (λ i. lit< tt) (omega (arith, size-ge header []))

-- The replies to items take the answers to their operations alone.
pub replies-front : (s : Slave) (header : Option Header) (e : ℕ) (xs : List StreamItem) (a b : List Answer) → count_from s.bus header xs ≤ length a → replies_from s header e xs (a ++ b) ≡ replies_from s header e xs a
replies-front s header e [] a b le = refl
replies-front s header e (y ∷ xs) a b le =
    let n : ℕ = length (item_ops s.bus header y) in
    let within : n ≤ length a = omega (arith, le) in
    let t : take n (a ++ b) ≡ take n a = take-append-le n a b within in
    let d : drop n (a ++ b) ≡ drop n a ++ b = drop-append-le n a b within in
    let rest : count_from s.bus (header_after header y) xs ≤ length (drop n a) = omega (arith, le, length-drop n a) in
    let again = replies-front s (header_after header y) (register e (take n a)) xs (drop n a) b rest in
    ap (λ (l : List Answer). item_reply s header y l e ++ replies_from s (header_after header y) (register e l) xs (drop n (a ++ b))) t
    ∙ ap (λ (l : List Answer). item_reply s header y (take n a) e ++ replies_from s (header_after header y) (register e (take n a)) xs l) d
    ∙ ap (λ (l : List ℕ). item_reply s header y (take n a) e ++ l) again

-- one more item that ran
pub goes_on : (m : ℕ) (so : SoFar) (old new : SessionState) (taken : List ℕ) (before after : MasterCycles) (x : StreamItem) (answers : List Answer)
    → IsOn m so old before → Ran m old new (old.progress.pending ++ taken) before after x answers
    → (more : List Entry) × IsOn m (gone_on so taken (so.items ++ x ∷ []) more new.reply) new after × (given more ++ answers_of after.opened ≡ answers_in so before ++ answers)
goes_on m so old new taken before after x answers on ran =
    let bus : Width = old.slave.bus in
    let items : List StreamItem = so.items in
    let told : List Answer = answers_in so before in
    let h : old.progress.header ≡ header_after_all None items = on.header in
    let ops : List Request = item_ops bus old.progress.header x in
    let ops' : List Request = item_ops bus (header_after_all None items) x in
    let pairs : List Pair = paired ops answers in
    let g : Grown m so.first.made (cycles_in bus items) so.entries before told = record { made = on.made; whole = on.whole; opened = on.opened; all = refl; mine = on.mine } in
    let grow' = grown m so.first.made (cycles_in bus items) so.entries before pairs ops told g (requests-paired ops answers ran.answered) (item_ends x) in
    let more : List Entry = grow'.0 in
    let grow : Grown m so.first.made (cycles_more (cycles_in bus items) ops (item_ends x)) more after (told ++ answers_of pairs) =
    subst (λ (c : MasterCycles). Grown m so.first.made (cycles_more (cycles_in bus items) ops (item_ends x)) more c (told ++ answers_of pairs)) (sym ran.added) grow'.1 in
    let c' : cycles_more (cycles_in bus items) ops (item_ends x) ≡ cycles_in bus (items ++ x ∷ []) =
    ap (λ (q : Option Header). cycles_more (cycles_in bus items) (item_ops bus q x) (item_ends x)) h ∙ sym (cycles_from-more bus None no_cycles items x) in
    let c'' : cycles_in bus (items ++ x ∷ []) ≡ cycles_in new.slave.bus (items ++ x ∷ []) = ap (λ (s : Slave). cycles_in s.bus (items ++ x ∷ [])) (sym ran.others.0) in
    let is : given more ++ answers_of after.opened ≡ told ++ answers = grow.all ∙ ap (λ (l : List Answer). told ++ l) (answers-paired ops answers ran.answered) in
    let lb : length answers ≡ length ops' = ran.answered ∙ ap (λ (q : Option Header). length (item_ops bus q x)) h in
    let e : on.front.0 ++ (old.progress.pending ++ taken) ≡ so.octets ++ taken = sym (append_assoc on.front.0 old.progress.pending taken) ∙ ap (λ (l : List ℕ). l ++ taken) (sym on.front.1) in
    let spelled : SpellsAll (sets_of bus) None (items ++ x ∷ []) (so.octets ++ taken) =
    let s = subst (λ (q : Option Header). Spells (sets_of bus) q x (old.progress.pending ++ taken)) h (subst (λ (z : Widths). Spells z old.progress.header x (old.progress.pending ++ taken)) on.sets ran.spelled) in
    subst (λ (l : List ℕ). SpellsAll (sets_of bus) None (items ++ x ∷ []) l) e
    (spells_append (sets_of bus) None items (x ∷ []) on.front.0 (old.progress.pending ++ taken) on.front.2 (spells_one (sets_of bus) (header_after_all None items) x (old.progress.pending ++ taken) s)) in (
      more,
      record {
        running = ran.others.1 ∙ on.running;
        sets = ap (λ (p : DecoderState). p.sets) ran.progress ∙ on.sets ∙ ap (λ (s : Slave). sets_of s.bus) (sym ran.others.0);
        front = (
          so.octets ++ taken,
          sym (append-nil (so.octets ++ taken)) ∙ ap (λ (p : DecoderState). (so.octets ++ taken) ++ p.pending) (sym ran.progress),
          subst (λ (s : Slave). SpellsAll (sets_of s.bus) None (items ++ x ∷ []) (so.octets ++ taken)) (sym ran.others.0) spelled,
        );
        partial = subst (λ (s : Slave). IsPartial (sets_of s.bus) (header_after_all None (items ++ x ∷ [])) new.progress.pending) (sym ran.others.0)
            (subst (λ (p : DecoderState). IsPartial (sets_of bus) (header_after_all None (items ++ x ∷ [])) p.pending) (sym ran.progress) (none_pends bus (header_after_all None (items ++ x ∷ []))));
        start = ap (λ (p : DecoderState). p.start) ran.progress ∙ ap (λ (n : ℕ). n + length (old.progress.pending ++ taken)) on.start ∙ sym (length-append on.front.0 (old.progress.pending ++ taken)) ∙ ap length e;
        header = ap (λ (p : DecoderState). p.header) ran.progress ∙ ap (λ (q : Option Header). header_after q x) h ∙ sym (header_after_all-append None items (x ∷ []));
        none_open = on.none_open;
        made = grow.made;
        mine = grow.mine;
        whole = grow.whole ∙ ap (λ (c : Cycles). c.whole) (c' ∙ c'');
        opened = grow.opened ∙ ap (λ (c : Cycles). c.opened) (c' ∙ c'');
        count = ap length is ∙ length-append told answers ∙ ap (λ (n : ℕ). n + length answers) on.count ∙ ap (λ (n : ℕ). count_from bus None items + n) lb
            ∙ sym (count-more bus None items x) ∙ ap (λ (s : Slave). count_from s.bus None (items ++ x ∷ [])) (sym ran.others.0);
        errors = ran.errors ∙ ap (λ (n : ℕ). register n answers) on.errors ∙ sym (register-append 0 told answers) ∙ ap (register 0) (sym is);
        replied = ap (λ (l : List ℕ). so.replied ++ l) (ran.reply ∙ ap (λ (q : Option Header). item_reply old.slave q x answers old.errors) h ∙ ap (λ (n : ℕ). item_reply old.slave (header_after_all None items) x answers n) on.errors)
            ∙ ap (λ (l : List ℕ). l ++ item_reply old.slave (header_after_all None items) x answers (register 0 told)) on.replied
            ∙ sym (replies-more old.slave None 0 items x told answers on.count lb)
            ∙ ap (λ (l : List Answer). replies old.slave (items ++ x ∷ []) l) (sym is)
            ∙ ap (λ (s : Slave). replies s (items ++ x ∷ []) (given more ++ answers_of after.opened)) (sym ran.others.0);
      },
      is,
    )

-- What a host sent and heard that met no fault.
use Rattle.std.proofs.Common.{◌≡◌, ℕ, ◌<◌, ◌^◌, List, [], ◌∷◌, ◌++◌, Result, Ok, Err, Option, Some, None, refl, sym, ap, ◌∙◌, subst, arith, append-nil, false}
use Rattle.std.specs.Prelude.{MatchOption, All}
use Rattle.std.specs.Io.KnownBytes.{append_known, prepend_known}
use Rattle.std.proofs.lemmas.List.Elements.{All-nil, All-cons, All-head}
use Rattle.eb_base.specs.declared.width.Width.{Width}
use Rattle.eb_base.specs.declared.width.Width.TheVariants.{W8, W16, W32, W64}
use Rattle.eb_base.specs.declared.width.Widths.{Widths}
use Rattle.eb_base.specs.Width.{octets}
use Rattle.eb_codec.specs.declared.item.Header.{Header}
use Rattle.eb_codec.specs.Form.{Fills, zeroed, header_form}
use Rattle.eb_io.specs.Reading.{Reading, Gave}
use Rattle.eb_io.specs.Writing.{Took}
use Rattle.eb_io.proofs.WritingLemmas.{took_none, took_more}
use Rattle.eb_io.proofs.ReadingLemmas.{gave_more}
use Rattle.sdb_walk.specs.Told.{Word}
use Rattle.sdb_walk.specs.declared.reader.Exchange.{Exchange}
use Rattle.sdb_walk.specs.declared.reader.NoWord.TheVariants as no_word
use Rattle.eb_host.specs.declared.op.HostOp.{HostOp}
use Rattle.eb_host.specs.declared.op.HostAnswer.{HostAnswer}
use Rattle.eb_host.specs.declared.op.HostFault.{HostFault}
use Rattle.eb_host.specs.declared.op.HostFault.TheVariants as fault
use Rattle.eb_host.specs.Asks.{FitsOp, asks, expects, closing, cycle_records}
use Rattle.eb_host.specs.Answers.{answered}
use Rattle.eb_host.specs.Exchange.{Duplex}
use Rattle.eb_host.specs.Host.{HostState, Calls, Declines, RunsCycle, ReadsRoot, too_wide, alone, root_in}
use Rattle.eb_host.specs.Opening.{Opened, probe_asks, probe_expects, header_expects}
use Rattle.eb_host.proofs.ReplyLemmas.{narrow_fit}
use Rattle.eb_reader.specs.Reader.{ReadsWord, ReadsAll, word_in}

-- ---- words that are none of the reader's causes

abbrev pub IsWord : Word HostFault → Type 0
IsWord (Ok word) = Unit {0}
IsWord (Err no_word.BusError) = Unit {0}
IsWord (Err (no_word.Cause f)) = ⊥

abbrev pub AreWords : List (Exchange HostFault) → Type 0
AreWords [] = Unit {0}
AreWords (x ∷ xs) = IsWord x.word × AreWords xs

-- ---- one word

-- the read of a word, as an operation, and as the operations of a cycle
abbrev pub op_at : ℕ → HostOp
op_at adr = record { write = false; adr = adr; dat = 0 }

abbrev pub alone_at : ℕ → List HostOp
alone_at adr = op_at adr ∷ []

-- The reply to it, and the word in that.
pub record IsHeard (h : Header) (x : Exchange HostFault) (mine : List ℕ) : Type 0 where
  pub fits : FitsOp h (op_at x.adr)
  pub fills : Fills mine (expects h (cycle_records h (alone_at x.adr)))
  pub answer : HostAnswer
  pub answered_is : answer ∷ [] ≡ answered h (alone_at x.adr) mine
  pub word_is : x.word ≡ word_in (Ok answer)

record WentOne (old mid : HostState) (x : Exchange HostFault) : Type 0 where
  heard : List ℕ
  is : IsHeard old.header x heard
  took : Took old.link.writing mid.link.writing (asks old.header (cycle_records old.header (alone_at x.adr)))
  gave : Gave old.link.reading mid.link.reading heard
  header : mid.header ≡ old.header
  fault_is : mid.fault ≡ None

free : {X : Type 0} (o : Option X) (P : Type 0) (Q : X → Type 0) → o ≡ None → MatchOption o P Q → P
free o P Q e m = subst (λ (q : Option _). MatchOption q P Q) e m

positive : (w : Width) → 0 < 256 ^ octets w
positive W8 = omega arith
positive W16 = omega arith
positive W32 = omega arith
positive W64 = omega arith

not_wide : (answers : List HostAnswer) (f : HostFault) → ◌≡◌ {A = Result (List HostAnswer) HostFault} (Ok answers) (Err f) → ⊥
not_wide answers f e = cc e

module _ (old mid : HostState) (x : Exchange HostFault) (none : old.fault ≡ None) where
  Narrow : Result (List HostAnswer) HostFault → Option ℕ → Type 0
  Narrow r o = MatchOption o (Calls (cycle_records old.header (alone_at x.adr)) (answered old.header (alone_at x.adr)) old mid r) (λ adr. Declines old mid r (fault.TooWide adr))

  called : (a : HostAnswer) → x.word ≡ word_in (Ok a) → too_wide old.header (alone_at x.adr) ≡ None
      → Calls (cycle_records old.header (alone_at x.adr)) (answered old.header (alone_at x.adr)) old mid (Ok (a ∷ [])) → WentOne old mid x
  called a is narrow (heard, sends, taken) =
      let h : Header = old.header in
      let data_fits : All (λ (op : HostOp). op.dat < 256 ^ octets h.port) (alone_at x.adr) = All-cons (λ (op : HostOp). op.dat < 256 ^ octets h.port) (op_at x.adr) [] (positive h.port) (All-nil (λ (op : HostOp). op.dat < 256 ^ octets h.port)) in
      record {
        heard = heard;
        is = record {
          fits = All-head (FitsOp h) (op_at x.adr) [] (narrow_fit h (alone_at x.adr) narrow data_fits);
          fills = sends.0.2;
          answer = a;
          answered_is = taken;
          word_is = is;
        };
        took = sends.0.0;
        gave = sends.0.1;
        header = ap (λ (s : HostState). s.header) sends.1;
        fault_is = ap (λ (s : HostState). s.fault) sends.1 ∙ none;
      }

  by_width : (a : HostAnswer) → x.word ≡ word_in (Ok a) → (o : Option ℕ) → too_wide old.header (alone_at x.adr) ≡ o
      → MatchOption o (Calls (cycle_records old.header (alone_at x.adr)) (answered old.header (alone_at x.adr)) old mid (Ok (a ∷ []))) (λ adr. Declines old mid (Ok (a ∷ [])) (fault.TooWide adr)) → WentOne old mid x
  by_width a is None narrow calls = called a is narrow calls
  by_width a is (Some adr) narrow refused = absurd (not_wide (a ∷ []) (fault.TooWide adr) refused.0)

  went_by : (answer : Result HostAnswer HostFault) → RunsCycle old mid (alone_at x.adr) (alone answer) → x.word ≡ word_in answer → IsWord x.word → WentOne old mid x
  went_by (Ok a) runs is word =
      let narrow : MatchOption (too_wide old.header (alone_at x.adr)) (Calls (cycle_records old.header (alone_at x.adr)) (answered old.header (alone_at x.adr)) old mid (Ok (a ∷ []))) (λ adr. Declines old mid (Ok (a ∷ [])) (fault.TooWide adr)) =
      free old.fault
      (MatchOption (too_wide old.header (alone_at x.adr)) (Calls (cycle_records old.header (alone_at x.adr)) (answered old.header (alone_at x.adr)) old mid (Ok (a ∷ []))) (λ adr. Declines old mid (Ok (a ∷ [])) (fault.TooWide adr)))
      (λ g. Declines old mid (Ok (a ∷ [])) g) none runs in
      by_width a is (too_wide old.header (alone_at x.adr)) refl narrow
  went_by (Err f) runs is word = absurd (subst IsWord is word)

  went_one : ReadsWord old mid x.adr x.word → IsWord x.word → WentOne old mid x
  went_one (answer, runs, is) word = went_by answer runs is word

-- ---- all words

abbrev pub asks_all : Header → List (Exchange HostFault) → List ℕ
asks_all h [] = []
asks_all h (x ∷ xs) = asks h (cycle_records h (alone_at x.adr)) ++ asks_all h xs

abbrev pub AreHeard : Header → List (Exchange HostFault) → List ℕ → Type 0
AreHeard h [] o = o ≡ []
AreHeard h (x ∷ xs) o = (mine : List ℕ) × (rest : List ℕ) × (o ≡ mine ++ rest) × IsHeard h x mine × AreHeard h xs rest

record WentAll (old new : HostState) (xs : List (Exchange HostFault)) : Type 0 where
  heard : List ℕ
  are : AreHeard old.header xs heard
  took : Took old.link.writing new.link.writing (asks_all old.header xs)
  gave : Gave old.link.reading new.link.reading heard

known_none : (known : Option (List ℕ)) → (known ≡ prepend_known [] known) × (known ≡ append_known known [])
known_none None = (refl, refl)
known_none (Some l) = (refl, ap (λ (k : List ℕ). Some k) (sym (append-nil l)))

gave_none : (r : Reading) → Gave r r []
gave_none r = record { next = (known_none r.left).0; given = (known_none r.given).1; faults = refl }

went_all : (old new : HostState) (xs : List (Exchange HostFault)) → old.fault ≡ None → ReadsAll old xs new → AreWords xs → WentAll old new xs
went_all old new [] none same words =
    subst (λ (s : HostState). WentAll old s []) same (record { heard = []; are = refl; took = took_none old.link.writing; gave = gave_none old.link.reading })
went_all old new (x ∷ xs) none (mid, one, later) (word, words) =
    let w = went_one old mid x none one word in
    let r = went_all mid new xs w.fault_is later words in
    record {
      heard = w.heard ++ r.heard;
      are = (w.heard, r.heard, refl, w.is, subst (λ (h : Header). AreHeard h xs r.heard) w.header r.are);
      took = took_more old.link.writing mid.link.writing new.link.writing (asks old.header (cycle_records old.header (alone_at x.adr))) (asks_all old.header xs) w.took
          (subst (λ (h : Header). Took mid.link.writing new.link.writing (asks_all h xs)) w.header r.took);
      gave = gave_more old.link.reading mid.link.reading new.link.reading w.heard r.heard w.gave r.gave;
    }

-- ---- from the opening on

abbrev pub sent_in_all : Widths → Header → List (Exchange HostFault) → List ℕ
sent_in_all widths h xs = probe_asks widths ++ (zeroed (header_form h) ++ (asks h (closing h 8 ∷ []) ++ asks_all h xs))

-- What a host did that opened a link, read the address of the root table, and then these words.
pub record HasWalked (widths : Widths) (before after : Duplex) (h : Header) (root : ℕ) (xs : List (Exchange HostFault)) : Type 0 where
  pub probe_heard : List ℕ
  pub header_heard : List ℕ
  pub root_heard : List ℕ
  pub heard : List ℕ
  pub probe_fills : Fills probe_heard probe_expects
  pub header_fills : Fills header_heard (header_expects h)
  pub root_fills : Fills root_heard (expects h (closing h 8 ∷ []))
  pub root_is : root ≡ root_in h root_heard
  pub are : AreHeard h xs heard
  pub took : Took before.writing after.writing (sent_in_all widths h xs)
  pub gave : Gave before.reading after.reading (probe_heard ++ (header_heard ++ (root_heard ++ heard)))

pub has_walked : (widths : Widths) (before : Duplex) (opened rooted read : HostState) (root : ℕ) (xs : List (Exchange HostFault))
    → Opened widths before opened → ReadsRoot opened rooted (Ok root) → ReadsAll rooted xs read → AreWords xs → HasWalked widths before read.link opened.header root xs
has_walked widths before opened rooted read root xs is rooting reads words =
    let h : Header = opened.header in
    let shaken = is.0 in
    let mid : Duplex = shaken.mid in
    let (asked, sends, taken) = free opened.fault (Calls (closing h 8 ∷ []) (root_in h) opened rooted (Ok root)) (λ g. Declines {A = ℕ} opened rooted (Ok root) g) is.3 rooting in
    let none : rooted.fault ≡ None = ap (λ (s : HostState). s.fault) sends.1 ∙ is.3 in
    let same : rooted.header ≡ h = ap (λ (s : HostState). s.header) sends.1 in
    let w = went_all rooted read xs none reads words in
    let head : List ℕ = zeroed (header_form h) in
    let ask : List ℕ = asks h (closing h 8 ∷ []) in
    let all : List ℕ = asks_all h xs in
    let last : Took rooted.link.writing read.link.writing all = subst (λ (g : Header). Took rooted.link.writing read.link.writing (asks_all g xs)) same w.took in
    record {
      probe_heard = shaken.chosen.heard;
      header_heard = shaken.heard;
      root_heard = asked;
      heard = w.heard;
      probe_fills = shaken.chosen.probed.2;
      header_fills = shaken.headed.2;
      root_fills = sends.0.2;
      root_is = taken;
      are = subst (λ (g : Header). AreHeard g xs w.heard) same w.are;
      took = took_more before.writing mid.writing read.link.writing (probe_asks widths) (head ++ (ask ++ all)) shaken.chosen.probed.0
          (took_more mid.writing opened.link.writing read.link.writing head (ask ++ all) shaken.headed.0
          (took_more opened.link.writing rooted.link.writing read.link.writing ask all sends.0.0 last));
      gave = gave_more before.reading mid.reading read.link.reading shaken.chosen.heard (shaken.heard ++ (asked ++ w.heard)) shaken.chosen.probed.1
          (gave_more mid.reading opened.link.reading read.link.reading shaken.heard (asked ++ w.heard) shaken.headed.1
          (gave_more opened.link.reading rooted.link.reading read.link.reading asked w.heard sends.0.1 w.gave));
    }

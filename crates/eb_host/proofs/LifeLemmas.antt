-- What goes out by calls one after another.
use Rattle.std.proofs.Common.{◌≡◌, inl, inr, ℕ, List, [], ◌∷◌, ◌++◌, Result, Ok, Err, Option, Some, None, refl, sym, ap, ◌∙◌, subst, append-nil}
use Rattle.std.specs.Prelude.{MatchOption}
use Rattle.eb_codec.specs.declared.item.Header.{Header}
use Rattle.eb_codec.specs.declared.item.Record.{Record}
use Rattle.eb_codec.specs.Form.{zeroed, header_form}
use Rattle.eb_io.specs.Writing.{Told, told_more}
use Rattle.eb_io.proofs.WritingLemmas.{told_on, took_none, took_more}
use Rattle.eb_host.specs.declared.op.HostAnswer.{HostAnswer}
use Rattle.eb_host.specs.declared.op.HostFault.{HostFault}
use Rattle.eb_host.specs.declared.op.HostFault.TheVariants as fault
use Rattle.eb_host.specs.Asks.{asks, closing, cycle_records}
use Rattle.eb_host.specs.Answers.{answered}
use Rattle.eb_host.specs.Host.{HostState, Declines, Calls, too_wide, root_in}
use Rattle.eb_host.specs.Opening.{probe_asks}
use Rattle.eb_host.specs.Life.{HostCall, CycleCall, RootCall, Does, DoesAll, asked_by, Extent, WholeCall, FrontOfCall, NoneOfCall, extent, extent_of, GoesOutBy, GoesOut, WritesAsks}

written_of : HostState → Told
written_of s = s.link.writing.written

-- ---- after a fault that is kept

declined : {X : Type 0} (o : Option X) (P : Type 0) (Q : X → Type 0) (x : X) → o ≡ Some x → MatchOption o P Q → Q x
declined o P Q x e m = subst (λ (q : Option _). MatchOption q P Q) e m

free : {X : Type 0} (o : Option X) (P : Type 0) (Q : X → Type 0) → o ≡ None → MatchOption o P Q → P
free o P Q e m = subst (λ (q : Option _). MatchOption q P Q) e m

stays : (c : HostCall) (old mid : HostState) (f : HostFault) → old.fault ≡ Some f → Does old c mid → mid ≡ old
stays (CycleCall ops result) old mid f e (inr lacks) = lacks.declines.1
stays (CycleCall ops result) old mid f e (inl does) =
    (declined old.fault (MatchOption (too_wide old.header ops) (Calls (cycle_records old.header ops) (answered old.header ops) old mid result) (λ adr. Declines old mid result (fault.TooWide adr))) (λ g. Declines old mid result g) f e does).1
stays (RootCall result) old mid f e does =
    (declined old.fault (Calls (closing old.header 8 ∷ []) (root_in old.header) old mid result) (λ g. Declines old mid result g) f e does).1

all_stay : (calls : List HostCall) (old new : HostState) (f : HostFault) → old.fault ≡ Some f → DoesAll old calls new → new ≡ old
all_stay [] old new f e same = sym same
all_stay (c ∷ calls) old new f e (mid, does, later) =
    let same = stays c old mid f e does in
    all_stay calls mid new f (ap (λ (s : HostState). s.fault) same ∙ e) later ∙ same

-- ---- one call where no fault is kept

-- what it did, by its extent
abbrev Went : Extent → List ℕ → HostState → HostState → Type 0
Went WholeCall asked old mid = (mid.link.writing.written ≡ told_more old.link.writing.written asked) × (mid.header ≡ old.header) × (mid.fault ≡ None)
Went FrontOfCall asked old mid =
    (front : List ℕ) × (back : List ℕ) × (f : HostFault) × (asked ≡ front ++ back) × (mid.link.writing.written ≡ told_more old.link.writing.written front) × (mid.fault ≡ Some f)
Went NoneOfCall asked old mid = mid ≡ old

module _ {A : Type 0} (rs : List Record) (taken : List ℕ → A) (old mid : HostState) (none : old.fault ≡ None) where
  call_went : (result : Result A HostFault) → Calls rs taken old mid result → Went (extent result) (asks old.header rs) old mid
  call_went (Ok a) (heard, sends, is) =
      (sends.0.0.written, ap (λ (s : HostState). s.header) sends.1, ap (λ (s : HostState). s.fault) sends.1 ∙ none)
  call_went (Err (fault.TooWide adr)) (heard, sends) = absurd sends.0
  call_went (Err fault.NoMemory) (heard, sends) = absurd sends.0
  call_went (Err (fault.NoCommonWidth widths)) (heard, sends) = absurd sends.0
  call_went (Err fault.LinkWrite) (heard, sends) =
      let front = sends.0.0 in (front.front, front.back, fault.LinkWrite, front.parts, front.written, ap (λ (s : HostState). s.fault) sends.1)
  call_went (Err fault.LinkRead) (heard, sends) =
      (asks old.header rs, [], fault.LinkRead, sym (append-nil (asks old.header rs)), sends.0.1.written, ap (λ (s : HostState). s.fault) sends.1)
  call_went (Err (fault.Ended n)) (heard, sends) =
      (asks old.header rs, [], fault.Ended n, sym (append-nil (asks old.header rs)), sends.0.0.written, ap (λ (s : HostState). s.fault) sends.1)
  call_went (Err (fault.BadReply p)) (heard, sends) =
      (asks old.header rs, [], fault.BadReply p, sym (append-nil (asks old.header rs)), sends.0.1.written, ap (λ (s : HostState). s.fault) sends.1)

went : (c : HostCall) (old mid : HostState) → old.fault ≡ None → Does old c mid → Went (extent_of c) (asked_by old.header c) old mid
went (RootCall result) old mid none does =
    call_went (closing old.header 8 ∷ []) (root_in old.header) old mid none result
    (free old.fault (Calls (closing old.header 8 ∷ []) (root_in old.header) old mid result) (λ g. Declines old mid result g) none does)
went (CycleCall ops result) old mid none (inr lacks) = subst (λ (r : Result (List HostAnswer) HostFault). Went (extent r) (asks old.header (cycle_records old.header ops)) old mid) (sym lacks.declines.0) lacks.declines.1
went (CycleCall ops result) old mid none (inl does) = by (too_wide old.header ops) (free old.fault (Narrow (too_wide old.header ops)) (λ g. Declines old mid result g) none does)
  where
    Narrow : Option ℕ → Type 0
    Narrow o = MatchOption o (Calls (cycle_records old.header ops) (answered old.header ops) old mid result) (λ adr. Declines old mid result (fault.TooWide adr))

    by : (o : Option ℕ) → MatchOption o (Calls (cycle_records old.header ops) (answered old.header ops) old mid result) (λ adr. Declines old mid result (fault.TooWide adr)) → Went (extent result) (asks old.header (cycle_records old.header ops)) old mid
    by None calls = call_went (cycle_records old.header ops) (answered old.header ops) old mid none result calls
    by (Some adr) refused = subst (λ (r : Result (List HostAnswer) HostFault). Went (extent r) (asks old.header (cycle_records old.header ops)) old mid) (sym refused.0) refused.1

-- ---- all calls

abbrev Life : HostState → List HostCall → HostState → Type 0
Life old calls new = (sent : List ℕ) × (new.link.writing.written ≡ told_more old.link.writing.written sent) × GoesOut old.header calls sent

one_more : (e : Extent) (asked : List ℕ) (calls : List HostCall) (old mid new : HostState) → old.fault ≡ None → Went e asked old mid → (mid.fault ≡ None → Life mid calls new) → DoesAll mid calls new
    → (sent : List ℕ) × (new.link.writing.written ≡ told_more old.link.writing.written sent) × GoesOutBy e asked (GoesOut old.header calls) sent
one_more WholeCall asked calls old mid new none (wrote, same, free_still) life later =
    let rest = life free_still in (
      asked ++ rest.0,
      rest.1 ∙ ap (λ (t : Told). told_more t rest.0) wrote ∙ told_on old.link.writing.written asked rest.0,
      (rest.0, refl, subst (λ (h : Header). GoesOut h calls rest.0) same rest.2),
    )
one_more FrontOfCall asked calls old mid new none (front, back, f, parts, wrote, keeps) life later =
    (front, ap (λ (s : HostState). s.link.writing.written) (all_stay calls mid new f keeps later) ∙ wrote, (back, parts))
one_more NoneOfCall asked calls old mid new none same life later =
    let rest = life (ap (λ (s : HostState). s.fault) same ∙ none) in
    (rest.0, rest.1 ∙ ap (λ (s : HostState). told_more s.link.writing.written rest.0) same, subst (λ (s : HostState). GoesOut s.header calls rest.0) same rest.2)

life : (calls : List HostCall) (old new : HostState) → old.fault ≡ None → DoesAll old calls new → Life old calls new
life [] old new none same = ([], ap (λ (s : HostState). s.link.writing.written) (sym same) ∙ (took_none old.link.writing).written, refl)
life (c ∷ calls) old new none (mid, does, later) =
    one_more (extent_of c) (asked_by old.header c) calls old mid new none (went c old mid none does) (λ free_still. life calls mid new free_still later) later

pub writes_asks : WritesAsks
writes_asks widths link opened new calls is does =
    let shaken = is.0 in
    let head : List ℕ = zeroed (header_form opened.header) in
    let took = took_more link.writing shaken.mid.writing opened.link.writing (probe_asks widths) head shaken.chosen.probed.0 shaken.headed.0 in
    let rest = life calls opened new is.3 does in (
      rest.0,
      rest.1 ∙ ap (λ (t : Told). told_more t rest.0) took.written ∙ told_on link.writing.written (probe_asks widths ++ head) rest.0,
      rest.2,
    )

-- A tick at one port keeps what the rows show of it.
use Rattle.std.proofs.Common.{◌≡◌, ◌≢◌, ℕ, zero, suc, ◌<◌, Bool, true, false, List, [], ◌∷◌, ◌++◌, length, drop, refl, sym, ap, ◌∙◌, subst, arith}
use Rattle.std.specs.Prelude.{nat_lt, is_some, Option, None}
use Rattle.wb_signals.specs.Request.{Request}
use Rattle.wb_signals.specs.Content.{Content}
use Rattle.soc_core.specs.Fabric.{Fabric}
use Rattle.wb_signals.specs.Slave.{Owed}
use Rattle.soc_core.specs.Sound.{StandsIn, IsQueue, is_busy_phase}
use Rattle.wb_signals.specs.declared.port_row.PortRow.{PortRow}
use Rattle.soc_wave.specs.Rows.{last_port}
use Rattle.soc_core.specs.Core.{Phase, Idle, Wants, Holds, Leaves, CorePort, head_of, offered, phase_after, with_phase, clocked}
use Rattle.soc_wave.specs.Legal.{HasPlainFields, IsAnswered, IsWithinDepth, IsStalledAsDue, IsKept}
use Rattle.soc_wave.specs.Shown.{port_row}
use Rattle.soc_wave.proofs.Lists.{last_port-snoc}
use Rattle.soc_wave.proofs.Owing.{Shows}
use Rattle.soc_wave.proofs.PortRows.{Waits, driven_if, false_true, no_request, plain_fields, is_answered, within_depth, is_stalled_as_due, is_kept, shows_tick, waits_tick, yes_lt}

-- What the rows so far show of a port: the answers that it is owed, and the request that was stalled.
pub record PortShows (f : Fabric) (ps : List PortRow) (p : CorePort) : Type 0 where
  pub owing : Shows f ps p.owed
  pub waits : Waits f (last_port ps) p.owed (head_of (drop p.sent p.loaded))

-- The next row keeps each rule that is said of a port by itself.
pub record KeepsRules (f : Fabric) (ps : List PortRow) (row : PortRow) : Type 0 where
  pub fields : HasPlainFields row
  pub answers : IsAnswered f ps row
  pub depth : IsWithinDepth f ps row
  pub stalls : IsStalledAsDue f ps row
  pub kept : IsKept (last_port ps) row

-- ---- CYC stands where something is loaded

busy_by : (f : Fabric) (phase : Phase) (p : CorePort) (b : Bool) → StandsIn f phase p → p.loaded ≢ [] → is_busy_phase (phase_after b phase) ≡ true
busy_by f Idle p b stands some = absurd (some stands.1)
busy_by f (Wants set) p b stands some = absurd (some stands.1)
busy_by f (Holds set) p b stands some = refl
busy_by f Leaves p b stands some = absurd (some stands.1)

owed_none : (f : Fabric) (p : CorePort) → IsQueue f p → p.loaded ≡ [] → length p.owed ≡ 0
owed_none f p queue none =
    let e : length p.loaded ≡ 0 = ap (λ l. length l) none in
    omega (arith, e, queue.sent, queue.counted)

drop_nil : (n : ℕ) → ◌≡◌ {A = List Request} (drop n []) []
drop_nil zero = refl
drop_nil (suc n) = refl

driven_none : (b : Bool) (sent : ℕ) (loaded : List Request) → loaded ≡ [] → driven_if b (head_of (drop sent loaded)) ≡ None
driven_none true sent loaded none = ap (λ l. head_of (drop sent l)) none ∙ ap head_of (drop_nil sent)
driven_none false sent loaded none = refl

abbrev some_true : Option Request → Bool
some_true op = is_some op

-- ---- a tick at a port that stands after the grants

below_depth : (b : Bool) (n depth : ℕ) → nat_lt n depth ≡ b → (next : Option Request) → is_some (driven_if b next) ≡ true → n < depth
below_depth true n depth is next some = yes_lt n depth is
below_depth false n depth is next some = absurd (false_true some)

pub rules_kept : (f : Fabric) (ps : List PortRow) (p : CorePort) (b : Bool) → StandsIn f p.phase p → IsQueue f p → PortShows f ps p
    → KeepsRules f ps (port_row f (with_phase (phase_after b p.phase) p))
rules_kept f ps p b stands queue shows =
    let cyc : Bool = is_busy_phase (phase_after b p.phase) in
    let op : Option Request = offered f p in
    let busy : is_some op ≡ true → cyc ≡ true = λ some. busy_by f p.phase p b stands (λ none. false_true (sym (ap some_true (driven_none (nat_lt (length p.owed) f.depth) p.sent p.loaded none)) ∙ some)) in
    record {
      fields = plain_fields f cyc p.owed op busy;
      answers = is_answered f ps cyc p.owed op shows.owing queue.rising;
      depth = within_depth f ps cyc p.owed op shows.owing (λ some. below_depth (nat_lt (length p.owed) f.depth) (length p.owed) f.depth refl (head_of (drop p.sent p.loaded)) some)
          (λ some. busy_by f p.phase p b stands (λ none. some (owed_none f p queue none)));
      stalls = is_stalled_as_due f ps cyc p.owed op shows.owing;
      kept = is_kept f (last_port ps) cyc p.owed (head_of (drop p.sent p.loaded)) op refl shows.waits busy;
    }

pub shows_kept : (f : Fabric) (contents : List Content) (ps : List PortRow) (p : CorePort) (b : Bool) → StandsIn f p.phase p → IsQueue f p → PortShows f ps p
    → PortShows f (ps ++ port_row f (with_phase (phase_after b p.phase) p) ∷ []) (clocked f contents (with_phase (phase_after b p.phase) p))
shows_kept f contents ps p b stands queue shows =
    let cyc : Bool = is_busy_phase (phase_after b p.phase) in
    let op : Option Request = offered f p in
    let row : PortRow = port_row f (with_phase (phase_after b p.phase) p) in
    let busy : is_some op ≡ true → cyc ≡ true = λ some. busy_by f p.phase p b stands (λ none. false_true (sym (ap some_true (driven_none (nat_lt (length p.owed) f.depth) p.sent p.loaded none)) ∙ some)) in
    record {
      owing = shows_tick f contents ps cyc p.owed op shows.owing queue.rising busy;
      waits = subst (λ q. Waits f q (clocked f contents p).owed (head_of (drop (clocked f contents p).sent p.loaded))) (sym (last_port-snoc ps row))
          (waits_tick f contents cyc p.owed p.loaded p.sent op refl);
    }

-- ---- the other events leave it

-- where nothing is loaded no request was stalled
pub nothing_waits : (f : Fabric) (old : PortRow) (os us : List Owed) (op more : Option Request) → Waits f old os op → op ≡ None → Waits f old us more
nothing_waits f old os us op more waits none = record {
  next = λ held. absurd (no_request _ (sym none ∙ waits.next held));
  below = λ held. absurd (no_request _ (sym none ∙ waits.next held));
}

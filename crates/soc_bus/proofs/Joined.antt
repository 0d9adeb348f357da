-- The ports of a bus are its cycles, engines and owed answers, one by one.
use Rattle.std.proofs.Common.{◌≡◌, ℕ, zero, suc, ◌+◌, ◌<◌, nat_lt, List, [], ◌∷◌, ◌++◌, length, get_or, set, map, drop, slice_get, Bool, true, false, cond, Option, Some, None, option_to_list, refl, ap, sym, ◌∙◌, arith, append-nil, bit_or}
use Rattle.std.specs.Option.{is_some}
use Rattle.wb_signals.specs.Request.{Request}
use Rattle.wb_signals.specs.Content.{Content}
use Rattle.wb_signals.specs.Wiring.{Wiring}
use Rattle.wb_signals.specs.Slave.{Owed, given, listed, owed_after, is_stalled}
use Rattle.wb_signals.specs.Rows.{unless, passes, row_after}
use Rattle.wb_signals.specs.declared.answer.Answer.{Answer}
use Rattle.wb_port.specs.Port as engine
use Rattle.wb_crossbar.specs.Crossbar as crossbar
use Rattle.soc_core.specs.Fabric.{Fabric}
use Rattle.soc_core.specs.Core.{CorePort, resting_port, granted_from, held, held_by, wants_of, head_of, offered, unless_stalled, sent_now, clocked, all_sent}
use Rattle.soc_core.specs.Sound.{is_busy_phase}
use Rattle.soc_bus.specs.View.{with_queue, joined}
use Rattle.soc_bus.specs.Clocked.{driving, driven_rows, is_sent, answer_got, sampled_all}
use Rattle.soc_bus.proofs.ServedLemmas.{answer_got-row, is_sent-row}

pub joined-set : (cs : List CorePort) (ps : List engine.PortState) (os : List (List Owed)) (m : ℕ) (c : CorePort) (p : engine.PortState)
    → joined (set cs m c) (set ps m p) os ≡ set (joined cs ps os) m (with_queue c p (get_or os m []))
joined-set [] ps os m c p = refl
joined-set (x ∷ cs) [] os zero c p = refl
joined-set (x ∷ cs) [] os (suc m) c p = refl
joined-set (x ∷ cs) (y ∷ ps) [] zero c p = refl
joined-set (x ∷ cs) (y ∷ ps) [] (suc m) c p = refl
joined-set (x ∷ cs) (y ∷ ps) (o ∷ os) zero c p = refl
joined-set (x ∷ cs) (y ∷ ps) (o ∷ os) (suc m) c p = ap (λ qs. with_queue x y o ∷ qs) (joined-set cs ps os m c p)

pub length-joined : (cs : List CorePort) (ps : List engine.PortState) (os : List (List Owed)) → length ps ≡ length cs → length os ≡ length cs → length (joined cs ps os) ≡ length cs
length-joined [] ps os a b = refl
length-joined (x ∷ cs) [] os a b = absurd (omega (arith, a))
length-joined (x ∷ cs) (y ∷ ps) [] a b = absurd (omega (arith, b))
length-joined (x ∷ cs) (y ∷ ps) (o ∷ os) a b = ap (λ (n : ℕ). suc n) (length-joined cs ps os (omega (arith, a)) (omega (arith, b)))

pub joined-get : (cs : List CorePort) (ps : List engine.PortState) (os : List (List Owed)) (m : ℕ) (c : CorePort) (p : engine.PortState) → length ps ≡ length cs → length os ≡ length cs → m < length cs
    → get_or (joined cs ps os) m resting_port ≡ with_queue (get_or cs m c) (get_or ps m p) (get_or os m [])
joined-get [] ps os m c p a b l = absurd (let no : ⊥ = omega (arith, l) in no)
joined-get (x ∷ cs) [] os m c p a b l = absurd (omega (arith, a))
joined-get (x ∷ cs) (y ∷ ps) [] m c p a b l = absurd (omega (arith, b))
joined-get (x ∷ cs) (y ∷ ps) (o ∷ os) zero c p a b l = refl
joined-get (x ∷ cs) (y ∷ ps) (o ∷ os) (suc m) c p a b l = joined-get cs ps os m c p (omega (arith, a)) (omega (arith, b)) (omega (arith, l))

pub joined-granted : (grant n : ℕ) (cs : List CorePort) (ps : List engine.PortState) (os : List (List Owed)) → joined (granted_from grant n cs) ps os ≡ granted_from grant n (joined cs ps os)
joined-granted grant n [] ps os = refl
joined-granted grant n (x ∷ cs) [] os = refl
joined-granted grant n (x ∷ cs) (y ∷ ps) [] = refl
joined-granted grant n (x ∷ cs) (y ∷ ps) (o ∷ os) = ap (λ qs. get_or (granted_from grant n (with_queue x y o ∷ [])) 0 resting_port ∷ qs) (joined-granted grant (suc n) cs ps os)

pub joined-held : (cs : List CorePort) (ps : List engine.PortState) (os : List (List Owed)) → length ps ≡ length cs → length os ≡ length cs → held (joined cs ps os) ≡ held cs
joined-held [] ps os a b = refl
joined-held (x ∷ cs) [] os a b = absurd (omega (arith, a))
joined-held (x ∷ cs) (y ∷ ps) [] a b = absurd (omega (arith, b))
joined-held (x ∷ cs) (y ∷ ps) (o ∷ os) a b = ap (λ h. bit_or (held_by x.phase) h) (joined-held cs ps os (omega (arith, a)) (omega (arith, b)))

pub joined-wants : (cs : List CorePort) (ps : List engine.PortState) (os : List (List Owed)) → length ps ≡ length cs → length os ≡ length cs → (m : ℕ)
    → wants_of (get_or (joined cs ps os) m resting_port).phase ≡ wants_of (get_or cs m resting_port).phase
joined-wants [] ps os a b m = refl
joined-wants (x ∷ cs) [] os a b m = absurd (omega (arith, a))
joined-wants (x ∷ cs) (y ∷ ps) [] a b m = absurd (omega (arith, b))
joined-wants (x ∷ cs) (y ∷ ps) (o ∷ os) a b zero = refl
joined-wants (x ∷ cs) (y ∷ ps) (o ∷ os) a b (suc m) = joined-wants cs ps os (omega (arith, a)) (omega (arith, b)) m

pub joined-phase : (cs : List CorePort) (ps : List engine.PortState) (os : List (List Owed)) → length ps ≡ length cs → length os ≡ length cs → (m : ℕ)
    → (get_or (joined cs ps os) m resting_port).phase ≡ (get_or cs m resting_port).phase
joined-phase [] ps os a b m = refl
joined-phase (x ∷ cs) [] os a b m = absurd (omega (arith, a))
joined-phase (x ∷ cs) (y ∷ ps) [] a b m = absurd (omega (arith, b))
joined-phase (x ∷ cs) (y ∷ ps) (o ∷ os) a b zero = refl
joined-phase (x ∷ cs) (y ∷ ps) (o ∷ os) a b (suc m) = joined-phase cs ps os (omega (arith, a)) (omega (arith, b)) m

-- ---- one clock

-- Each engine has the depth of the bus, and what it sent and isn't answered is owed.
abbrev pub Matches : ℕ → List engine.PortState → List (List Owed) → Type 0
Matches depth [] os = Unit {0}
Matches depth (p ∷ ps) [] = Unit {0}
Matches depth (p ∷ ps) (o ∷ os) = (p.depth ≡ depth) × (length p.answers + length o ≡ p.passed) × Matches depth ps os

head-drop : (n : ℕ) (rs : List Request) → head_of (drop n rs) ≡ slice_get rs n
head-drop zero [] = refl
head-drop zero (r ∷ rs) = refl
head-drop (suc n) [] = refl
head-drop (suc n) (r ∷ rs) = head-drop n rs

pub driven_is : (f : Fabric) (c : CorePort) (p : engine.PortState) (o : List Owed) → p.depth ≡ f.depth → length p.answers + length o ≡ p.passed → offered f (with_queue c p o) ≡ engine.driven p
driven_is f c p o deep count =
    let n : length o ≡ engine.unanswered p = omega (arith, count) in
    ap (λ (k : ℕ). cond (nat_lt k f.depth) (head_of (drop p.passed p.loaded)) None) n
    ∙ ap (λ (d : ℕ). cond (nat_lt (engine.unanswered p) d) (head_of (drop p.passed p.loaded)) None) (sym deep)
    ∙ ap (λ (op : Option Request). cond (nat_lt (engine.unanswered p) p.depth) op None) (head-drop p.passed p.loaded)

unless_if : (b : Bool) (r : Request) → cond b None (Some r) ≡ unless b (Some r)
unless_if true r = refl
unless_if false r = refl

passes_is : (w : Wiring) (o : List Owed) (cyc : Bool) (op : Option Request) → unless_stalled w o op ≡ passes w o (driving cyc op)
passes_is w o cyc None = refl
passes_is w o cyc (Some r) = unless_if (is_stalled w o r) r

passed_is : (f : Fabric) (c : CorePort) (p : engine.PortState) (o : List Owed) (cyc : Bool) → p.depth ≡ f.depth → length p.answers + length o ≡ p.passed
    → sent_now f (with_queue c p o) ≡ passes f.wiring o (driving cyc (engine.driven p))
passed_is f c p o cyc deep count = ap (unless_stalled f.wiring o) (driven_is f c p o deep count) ∙ passes_is f.wiring o cyc (engine.driven p)

one_sent : (op : Option Request) (n : ℕ) → n + length (option_to_list op) ≡ engine.one_more (is_some op) n
one_sent None n = omega arith
one_sent (Some r) n = omega arith

one_got : (a : Option Answer) (xs : List Answer) → xs ++ option_to_list a ≡ engine.answers_with xs a
one_got None xs = append-nil xs
one_got (Some a) xs = refl

pub clocked_is : (f : Fabric) (contents : List Content) (c : CorePort) (p : engine.PortState) (o : List Owed) (cyc : Bool) → p.depth ≡ f.depth → length p.answers + length o ≡ p.passed
    → with_queue c (engine.sampled p (is_sent (row_after f.wiring o (driving cyc (engine.driven p)))) (answer_got (row_after f.wiring o (driving cyc (engine.driven p)))))
    (owed_after f.wiring contents o (passes f.wiring o (driving cyc (engine.driven p)))) ≡ clocked f contents (with_queue c p o)
clocked_is f contents c p o cyc deep count =
    let same = passed_is f c p o cyc deep count in
    let sent = ap (λ b. engine.one_more b p.passed) (is_sent-row f.wiring o cyc (engine.driven p)) ∙ ap (λ op. engine.one_more (is_some op) p.passed) (sym same) ∙ sym (one_sent (sent_now f (with_queue c p o)) p.passed) in
    let got = ap (engine.answers_with p.answers) (answer_got-row (given o) _) ∙ sym (one_got (given o) p.answers) in
    λ i. record { phase = c.phase; opened = c.opened; loaded = p.loaded; sent = sent i; got = got i; owed = owed_after f.wiring contents o (sym same i) }

pub joined-clocked : (f : Fabric) (contents : List Content) (cs : List CorePort) (ps : List engine.PortState) (os : List (List Owed)) → Matches f.depth ps os
    → joined cs (sampled_all ps (crossbar.rows_after f.wiring os (driven_rows cs ps))) (crossbar.owed_after_all f.wiring contents os (driven_rows cs ps)) ≡ map (clocked f contents) (joined cs ps os)
joined-clocked f contents [] ps os ok = refl
joined-clocked f contents (x ∷ cs) [] os ok = refl
joined-clocked f contents (x ∷ cs) (y ∷ ps) [] ok = refl
joined-clocked f contents (x ∷ cs) (y ∷ ps) (o ∷ os) ok =
    let first = clocked_is f contents x y o (is_busy_phase x.phase) ok.0 ok.1 in
    let more = joined-clocked f contents cs ps os ok.2 in
    λ i. first i ∷ more i

listed_is : (op : Option Request) → option_to_list op ≡ listed op
listed_is None = refl
listed_is (Some r) = refl

pub joined-passed : (f : Fabric) (cs : List CorePort) (ps : List engine.PortState) (os : List (List Owed)) → length cs ≡ length ps → Matches f.depth ps os
    → all_sent f (joined cs ps os) ≡ crossbar.passed f.wiring os (driven_rows cs ps)
joined-passed f [] [] [] a ok = refl
joined-passed f [] [] (o ∷ os) a ok = refl
joined-passed f [] (y ∷ ps) os a ok = absurd (omega (arith, a))
joined-passed f (x ∷ cs) [] [] a ok = refl
joined-passed f (x ∷ cs) [] (o ∷ os) a ok = refl
joined-passed f (x ∷ cs) (y ∷ ps) [] a ok = refl
joined-passed f (x ∷ cs) (y ∷ ps) (o ∷ os) a ok =
    let first = ap (λ op. option_to_list op) (passed_is f x y o (is_busy_phase x.phase) ok.0 ok.1) ∙ listed_is (passes f.wiring o (driving (is_busy_phase x.phase) (engine.driven y))) in
    let more = joined-passed f cs ps os (omega (arith, a)) ok.2 in
    λ i. first i ++ more i

-- The only history of the cycles that ran.
use Rattle.std.proofs.Common.{◌≡◌, ℕ, suc, List, [], ◌∷◌, map, refl, sym, ap, ◌∙◌, subst, arith}
use Rattle.std.specs.List.{All}
use Rattle.wb_signals.specs.Request.{Request}
use Rattle.wb_signals.specs.Content.{Content}
use Rattle.wb_signals.specs.Wiring.{Wiring}
use Rattle.wb_signals.specs.History.{Entry, requests_of, cycle, contents_after, IsLegal, Group, marked, given}
use Rattle.eb_session.specs.Replies.{replies}
use Rattle.eb_server.specs.Laws.{OneReply}

same_entry : (d e : Entry) → d.master ≡ e.master → d.cut ≡ e.cut → d.pairs ≡ e.pairs → d ≡ e
same_entry d e a b c = λ i. record { master = a i; cut = b i; pairs = c i }

All-first : {A : Type 0} (P : A → Type 0) (x : A) (xs : List A) → All P (x ∷ xs) → P x
All-first P x xs all = all 0 x (omega arith)

All-rest : {A : Type 0} (P : A → Type 0) (x : A) (xs : List A) → All P (x ∷ xs) → All P xs
All-rest P x xs all k d lt = all (suc k) d (omega (arith, lt))

-- legal histories of one master with the same cycles are one
histories_one : (w : Wiring) (c : List Content) (m : ℕ) (d e : List Entry) → map marked d ≡ map marked e → IsLegal w c d → IsLegal w c e → All (λ x. x.master ≡ m) d → All (λ x. x.master ≡ m) e → d ≡ e
histories_one w c m [] [] same ld le md me = refl
histories_one w c m [] (f ∷ e) same ld le md me = cc same
histories_one w c m (g ∷ d) [] same ld le md me = cc same
histories_one w c m (g ∷ d) (f ∷ e) same ld le md me =
    let heads : marked g ≡ marked f = cc same in
    let tails : map marked d ≡ map marked e = cc same in
    let os : requests_of g.pairs ≡ requests_of f.pairs = ap (λ (q : Group). q.ops) heads in
    let cuts : g.cut ≡ f.cut = ap (λ (q : Group). q.cut) heads in
    let pairs : g.pairs ≡ f.pairs = ld.1 ∙ ap (cycle w c) os ∙ sym le.1 in
    let masters : g.master ≡ f.master = All-first (λ (x : Entry). x.master ≡ m) g d md ∙ sym (All-first (λ (x : Entry). x.master ≡ m) f e me) in
    let le' : IsLegal w (contents_after w c (requests_of g.pairs)) e = subst (λ (l : List Request). IsLegal w (contents_after w c l) e) (sym os) le.2 in
    let rest = histories_one w (contents_after w c (requests_of g.pairs)) m d e tails ld.2 le' (All-rest (λ (x : Entry). x.master ≡ m) g d md) (All-rest (λ (x : Entry). x.master ≡ m) f e me) in
    ap (λ (x : Entry). x ∷ d) (same_entry g f masters cuts pairs) ∙ ap (λ (l : List Entry). f ∷ l) rest

pub one_reply : OneReply
one_reply w c m s items entries others fit fit' legal legal' mine mine' =
    let same = histories_one w c m entries others (fit ∙ sym fit') legal legal' mine mine' in
    (same, ap (λ (l : List Entry). replies s items (given l)) same)

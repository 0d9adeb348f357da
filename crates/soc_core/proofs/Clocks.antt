-- One clock of all ports keeps the core sound.
use Rattle.std.proofs.Common.{◌≡◌, ◌⊎◌, inl, inr, ℕ, zero, suc, List, [], ◌∷◌, ◌++◌, length, get_or, map, take, drop, None, option_to_list, refl, ap, sym, ◌∙◌, subst, arith}
use Rattle.std.proofs.lemmas.List.{length-map, take-append-drop}
use Rattle.wb_signals.specs.Request.{Request}
use Rattle.wb_signals.specs.Content.{Content}
use Rattle.wb_signals.specs.History.{requests_of}
use Rattle.soc_core.specs.Fabric.{Fabric, IsFabric, AllGoIn}
use Rattle.soc_core.specs.Core.{Phase, Idle, Wants, Holds, Leaves, CorePort, Core, port, resting_port, performed, answered, sent_now, clocked, all_sent, clocked_core}
use Rattle.soc_core.specs.Sound.{StandsIn, IsQueue, IsSoundCore}
use Rattle.soc_core.proofs.Frames.{length-after}
use Rattle.soc_core.proofs.Keeping.{IsAdvanced, advanced_sound, moved_inside, moved_outside}
use Rattle.soc_core.proofs.Queues.{passing, clocked_by, performed_on, answered_on, queue_on}

pub get-map : {A B : Type 0} (g : A → B) (xs : List A) (i : ℕ) (d : A) (e : B) → g d ≡ e → get_or (map g xs) i e ≡ g (get_or xs i d)
get-map g [] i d e same = sym same
get-map g (x ∷ xs) zero d e same = refl
get-map g (x ∷ xs) (suc i) d e same = get-map g xs i d e same

-- a port that has as many pairs and loaded operations stands as it stood
pub stands_same : (f : Fabric) (ph : Phase) (p q : CorePort) → q.opened ≡ p.opened → q.loaded ≡ p.loaded → StandsIn f ph p → StandsIn f ph q
stands_same f Idle p q o l s = (o ∙ s.0, l ∙ s.1)
stands_same f (Wants set) p q o l s = (o ∙ s.0, l ∙ s.1)
stands_same f (Holds set) p q o l s =
    (subst (λ ps. AllGoIn f set (requests_of ps)) (sym o) s.0, subst (λ rs. AllGoIn f set rs) (sym l) s.1)
stands_same f Leaves p q o l s = (o ∙ s.0, l ∙ s.1)

-- what is loaded goes where the port holds
pub loaded_goes : (f : Fabric) (ph : Phase) (p : CorePort) → StandsIn f ph p → (p.loaded ≡ []) ⊎ ((set : ℕ) × (ph ≡ Holds set) × AllGoIn f set p.loaded)
loaded_goes f Idle p s = inl s.1
loaded_goes f (Wants set) p s = inl s.1
loaded_goes f (Holds set) p s = inr (set, refl, s.1)
loaded_goes f Leaves p s = inl s.1

go_back : (f : Fabric) (set : ℕ) (xs ys : List Request) → AllGoIn f set (xs ++ ys) → AllGoIn f set ys
go_back f set [] ys go = go
go_back f set (x ∷ xs) ys go = go_back f set xs ys go.1

go_front : (f : Fabric) (set : ℕ) (xs ys : List Request) → AllGoIn f set (xs ++ ys) → AllGoIn f set xs
go_front f set [] ys go = tt
go_front f set (x ∷ xs) ys go = (go.0, go_front f set xs ys go.1)

pub go_taken : (f : Fabric) (set n : ℕ) (xs : List Request) → AllGoIn f set xs → AllGoIn f set (take n xs)
go_taken f set n xs go = go_front f set (take n xs) (drop n xs) (subst (λ t. AllGoIn f set t) (sym (take-append-drop n xs)) go)

pub go_dropped : (f : Fabric) (set n : ℕ) (xs : List Request) → AllGoIn f set xs → AllGoIn f set (drop n xs)
go_dropped f set n xs go = go_back f set (take n xs) (drop n xs) (subst (λ t. AllGoIn f set t) (sym (take-append-drop n xs)) go)

module _ (f : Fabric) where
  -- a port that has nothing loaded passes nothing
  none_loaded : (p : CorePort) → p.loaded ≡ [] → sent_now f p ≡ None
  none_loaded p none = elim (passing f p) [
    | inl same ↦ same
    | inr some ↦ absurd (let n : length p.loaded ≡ 0 = ap length none in let no : ⊥ = omega (arith, some.1.within, n) in no)
  ]

  pub clocked-idle : (c : List Content) → clocked f c resting_port ≡ resting_port
  clocked-idle c = ap (λ o. clocked_by f c resting_port o) (none_loaded resting_port refl)

  -- what passes goes where the port holds
  passed_goes : (p : CorePort) (set : ℕ) → AllGoIn f set p.loaded → AllGoIn f set (option_to_list (sent_now f p))
  passed_goes p set go = elim (passing f p) [
    | inl none ↦ subst (λ o. AllGoIn f set (option_to_list o)) (sym none) tt
    | inr some ↦
        subst (λ o. AllGoIn f set (option_to_list o)) (sym some.1.is)
        (go_back f set (take p.sent p.loaded) (some.0 ∷ []) (subst (λ t. AllGoIn f set t) some.1.taken (go_taken f set (suc p.sent) p.loaded go)))
  ]

  pub moving_by : (p : CorePort) → (p.loaded ≡ []) ⊎ ((set : ℕ) × (p.phase ≡ Holds set) × AllGoIn f set p.loaded)
      → (option_to_list (sent_now f p) ≡ []) ⊎ ((set : ℕ) × (p.phase ≡ Holds set) × AllGoIn f set (option_to_list (sent_now f p)))
  moving_by p (inl none) = inl (ap (λ o. option_to_list o) (none_loaded p none))
  moving_by p (inr go) = inr (go.0, go.1, passed_goes p go.0 go.2)

  module _ (ok : IsFabric f) (old : Core) (s : IsSoundCore f old) where
    abbrev clocked_port : CorePort → CorePort
    clocked_port = clocked f old.contents

    pub port-clocked : (m : ℕ) → port (clocked_core f old) m ≡ clocked f old.contents (port old m)
    port-clocked m = get-map (clocked f old.contents) old.ports m resting_port resting_port (clocked-idle old.contents)

    abbrev moves : CorePort → List Request
    moves p = option_to_list (sent_now f p)

    moving : (m : ℕ) → (moves (port old m) ≡ []) ⊎ ((set : ℕ) × ((port old m).phase ≡ Holds set) × AllGoIn f set (moves (port old m)))
    moving m = moving_by (port old m) (loaded_goes f (port old m).phase (port old m) (s.stand m))

    none_idle : moves resting_port ≡ []
    none_idle = ap (λ o. option_to_list o) (none_loaded resting_port refl)

    clocked_advanced : IsAdvanced f ok old (clocked_core f old) (λ m. moves (port old m))
    clocked_advanced = record {
      journal = refl;
      phases = λ m. ap (λ (p : CorePort). p.phase) (port-clocked m);
      operations = λ m. ap performed (port-clocked m) ∙ performed_on f old.contents (port old m);
      replies = λ m. ap answered (port-clocked m) ∙ answered_on f old.contents (port old m);
      moving = moving;
      inside = moved_inside f ok moves none_idle old s moving;
      outside = moved_outside f ok moves none_idle old s moving;
      stand = λ m. subst (λ p. StandsIn f p.phase p) (sym (port-clocked m)) (stands_same f (port old m).phase (port old m) (clocked f old.contents (port old m)) refl refl (s.stand m));
      queues = λ m. subst (λ p. IsQueue f p) (sym (port-clocked m)) (queue_on f old.contents (port old m) (s.queues m));
      ports = length-map old.ports (clocked f old.contents) ∙ s.ports;
      places = length-after f.wiring old.contents (all_sent f old.ports) ∙ s.places;
      first = s.first;
    }

    -- Steps 3 to 6 keep the core sound.
    pub clocked_sound : IsSoundCore f (clocked_core f old)
    clocked_sound = advanced_sound f ok old (clocked_core f old) (λ m. moves (port old m)) s clocked_advanced

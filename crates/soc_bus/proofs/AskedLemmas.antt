-- The top slaves that operations ask for.
use Rattle.std.proofs.Common.{◌≡◌, ℕ, ◌+◌, ◌<◌, ◌≤◌, List, ◌∷◌, length, get_or, drop, Option, ap, sym, ◌∙◌, arith, bit_or}
use Rattle.std.specs.Option.{ForSome}
use Rattle.std.specs.Int.Bits.{or_zero_r}
use Rattle.std.proofs.lemmas.List.{drop_more, drop_all}
use Rattle.wb_signals.specs.Request.{Request}
use Rattle.wb_signals.specs.Bus.{Child}
use Rattle.wb_crossbar.specs.Crossbar.{target_of}
use Rattle.soc_core.specs.Built.{one_slave, slaves_asked}
use Rattle.soc_core.proofs.Numbers.{target_below}
use Rattle.soc_bus.proofs.CycleLists.{or_assoc}

pub asked_more : (top : Request → Option ℕ) (ops : List Request) (i h x : ℕ) (r : Request) → i < length ops → r ≡ get_or ops i r → x ≡ one_slave (top r)
    → bit_or h (slaves_asked top (drop i ops)) ≡ slaves_asked top ops
    → bit_or (bit_or h x) (slaves_asked top (drop (i + 1) ops)) ≡ slaves_asked top ops
asked_more top ops i h x r within is one so_far =
    or_assoc h x (slaves_asked top (drop (i + 1) ops))
    ∙ ap (λ y. bit_or h (bit_or y (slaves_asked top (drop (i + 1) ops)))) one
    ∙ ap (λ rs. bit_or h (slaves_asked top rs)) (sym (drop_more ops i r within ∙ ap (λ y. y ∷ drop (i + 1) ops) (sym is)))
    ∙ so_far

pub asked_all : (top : Request → Option ℕ) (ops : List Request) (i h : ℕ) → length ops ≤ i → bit_or h (slaves_asked top (drop i ops)) ≡ slaves_asked top ops → h ≡ slaves_asked top ops
asked_all top ops i h past so_far = sym (or_zero_r h) ∙ ap (λ rs. bit_or h (slaves_asked top rs)) (sym (drop_all i ops past)) ∙ so_far

pub some_below : (children : List Child) (adr : ℕ) (o : Option ℕ) → o ≡ target_of children adr → length children ≤ 128 → ForSome o (λ k. k < 128)
some_below children adr o is few k e = let b = target_below children adr k (sym is ∙ e) in omega (arith, b, few)

-- The configuration space: a number that stands in its first half or in its second.
use Rattle.std.proofs.Common.{◌≡◌, ℕ, ◌+◌, ◌-◌, ◌<◌, ◌≤◌, ◌%◌, nat_lt, if◌then◌else◌, List, ◌++◌, length, take, drop, sym, ap, ◌∙◌, arith}
use Rattle.std.proofs.Math.Seq.{drop-append-add}
use Rattle.std.proofs.lemmas.List.{drop-append-le, take-append-le, length-drop}
use Rattle.eb_base.specs.declared.width.Width.{Width}
use Rattle.eb_base.specs.declared.width.Width.TheVariants.{W8, W16, W32, W64}
use Rattle.eb_base.specs.Width.{octets}
use Rattle.eb_base.specs.Field.{octets_of, number, number_at}
use Rattle.eb_base.proofs.FieldLemmas.{length-octets_of}
use Rattle.eb_session.specs.Configuration.{config_octets, config_at}

-- what is aligned stays within its half
room : (port : Width) (at : ℕ) → at % octets port ≡ 0 → at < 8 → at + octets port ≤ 8
room W8 at a lt = omega arith
room W16 at a lt = omega arith
room W32 at a lt = omega arith
room W64 at a lt = omega arith

chosen : (at a b : ℕ) → at < 16 → a ≡ (if nat_lt at 16 then a else b)
chosen at a b lt = grind arith

front : (port : Width) (xs ys : List ℕ) (at : ℕ) → at + octets port ≤ length xs → number_at port xs at ≡ number_at port (xs ++ ys) at
front port xs ys at le =
    let here : length (drop at xs) ≡ length xs - at = length-drop at xs in
    let cut : take (octets port) (drop at (xs ++ ys)) ≡ take (octets port) (drop at xs) =
    ap (take (octets port)) (drop-append-le at xs ys (omega arith)) ∙ take-append-le (octets port) (drop at xs) ys (omega (arith, here)) in
    ap (number port) (sym cut)

pub in_first : (port : Width) (root errors at : ℕ) → at % octets port ≡ 0 → at < 8 → number_at port (octets_of W64 errors) at ≡ config_at port root errors at
in_first port root errors at aligned lt =
    let long : length (octets_of W64 errors) ≡ 8 = length-octets_of W64 errors in
    front port (octets_of W64 errors) (octets_of W64 root) at (omega (arith, long, room port at aligned lt))
    ∙ chosen at (number_at port (config_octets root errors) at) 0 (omega arith)

pub in_second : (port : Width) (root errors at : ℕ) → 8 ≤ at → at < 16 → number_at port (octets_of W64 root) (at - 8) ≡ config_at port root errors at
in_second port root errors at ge lt =
    let first : List ℕ = octets_of W64 errors in
    let second : List ℕ = octets_of W64 root in
    let long : length first ≡ 8 = length-octets_of W64 errors in
    let place : at ≡ length first + (at - 8) = omega (arith, long) in
    let same : drop at (first ++ second) ≡ drop (at - 8) second = ap (λ (n : ℕ). drop n (first ++ second)) place ∙ drop-append-add first second (at - 8) in
    ap (λ (l : List ℕ). number port (take (octets port) l)) (sym same)
    ∙ chosen at (number_at port (config_octets root errors) at) 0 lt

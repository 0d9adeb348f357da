use Rattle.std.proofs.Common.{◌≡◌, ◌+◌, ◌-◌, List, ℕ, length, take, drop, sym, subst, arith}
use Rattle.std.proofs.lemmas.List.{take_all, length-drop}
use Rattle.eb_client.specs.Place.{IsCutAt}
use Rattle.eb_client.proofs.PlaceLemmas.{no_plain, placed}
use Rattle.eb_client.proofs.place.place_of.Goals as goal

pub returns-in-None-place_of_32 : goal.returns-in-None-place_of_32
returns-in-None-place_of_32 c = no_plain c.args.word.now c.in-None.ensures.slash c.in-None-place_of_32.ensures

pub returns-in-Some : goal.returns-in-Some
returns-in-Some c =
    let word = c.args.word.now in
    let at = c.in-Some.at in
    let rest : take (length word - (at + 1)) (drop (at + 1) word) ≡ drop (at + 1) word = take_all (length word - (at + 1)) (drop (at + 1) word) (omega (arith, length-drop (at + 1) word)) in
    placed word (take at word) (take (length word - (at + 1)) (drop (at + 1) word)) c.place_in.result (subst (λ (l : List ℕ). IsCutAt word (take at word) l) (sym rest) c.in-Some.ensures.slash) c.place_in.ensures

use Rattle.std.proofs.Common.{◌≡◌, ℕ, ◌+◌, ◌*◌, ◌%◌, List, [], ◌∷◌, ◌++◌, ap, ◌∙◌}
use Rattle.eb_load.specs.Draws.{next, drawn, state_after}
use Rattle.eb_load.specs.Stream.{write_count, write_base, read_count, after_values, after_record}
use Rattle.eb_load.proofs.SpellingLemmas.{made_record}
use Rattle.eb_load.proofs.record.put_record.Goals as goal

pub returns-clause-octets : goal.returns-clause-octets
returns-clause-octets c =
    let x = c.args.draws.now in
    let s1 : c.draw.new.self ≡ next x = c.draw.ensures.state in
    let s2 : c.draw-2.new.self ≡ next (next x) = c.draw-2.ensures.state ∙ ap next s1 in
    let s3 : c.draw-3.new.self ≡ state_after 3 x = c.draw-3.ensures.state ∙ ap next s2 in
    let w : ℕ = 1 + c.draw.result % 4 in
    let r : ℕ = 1 + c.draw-3.result % 4 in
    let w-is : w ≡ write_count x = ap (λ (n : ℕ). 1 + n % 4) c.draw.ensures.number in
    let b-is : 4 * (c.draw-2.result % 16380) ≡ write_base x = ap (λ (n : ℕ). 4 * (n % 16380)) (c.draw-2.ensures.number ∙ ap drawn s1) in
    let r-is : r ≡ read_count x = ap (λ (n : ℕ). 1 + n % 4) (c.draw-3.ensures.number ∙ ap drawn s2) in
    let t-is : c.put_values.new.draws ≡ after_values x = c.put_values.ensures.draws ∙ ap (λ (n : ℕ). state_after (2 * n) c.draw-3.new.self) w-is ∙ ap (λ (s : ℕ). state_after (2 * write_count x) s) s3 in
    let head : c.put.new.self ≡ 0x88 ∷ 0x0F ∷ w ∷ r ∷ [] = c.put.ensures.added ∙ ap (λ (l : List ℕ). l ++ (0x88 ∷ 0x0F ∷ w ∷ r ∷ [])) c.clear.ensures.none in
    made_record x w r _ _ _ _ _ _ _ _ w-is r-is b-is s3 t-is head c.put_number.ensures.items c.put_values.ensures.items c.put_number-2.ensures.items c.put_addresses.ensures.items

pub returns-clause-draws : goal.returns-clause-draws
unfolding after_record
returns-clause-draws c = cc

use Rattle.std.proofs.Common.{◌≡◌, ℕ, ◌+◌, suc, List, [], ◌∷◌, ◌++◌, take, drop, map, string_bytes, inl, inr, refl, sym, ◌∙◌, ap, subst, arith}
use Rattle.eb_run.specs.Captures.{OpenedFiles}
use Rattle.eb_run.proofs.OpenLemmas.{opened_more, front_of, taken_more, texts_parted}
use Rattle.eb_run.proofs.captures.open_all.Goals as goal

pub returns-in-Failed : goal.returns-in-Failed
returns-in-Failed g c =
    let names = c.args.names.now in
    let i = c.loop-name.name-index in
    let before = map string_bytes (take i names) in
    let behind = map string_bytes (drop (suc i) names) in
    let are : map string_bytes names ≡ before ++ c.as_str.result.now ∷ behind =
    texts_parted string_bytes names i c.name-item.result (omega arith) c.name-item.is ∙ ap (λ (t : List ℕ). before ++ t ∷ behind) (sym c.as_str.ensures.value) in
    record {
      opens = front_of g.W.File.Source.reading (g.W.World.outside c.args.world.now) (g.W.World.outside c.loop-name.world) (g.W.World.outside c.open.new.self) (map string_bytes names) before behind
          c.as_str.result.now _ are c.loop-name.invariant (inl (refl, c.in-Failed.ensures.opens));
    }

pub returns-in-NoMemory : goal.returns-in-NoMemory
returns-in-NoMemory g c =
    let names = c.args.names.now in
    let i = c.loop-name.name-index in
    let before = map string_bytes (take i names) in
    let behind = map string_bytes (drop (suc i) names) in
    let are : map string_bytes names ≡ before ++ c.as_str.result.now ∷ behind =
    texts_parted string_bytes names i c.name-item.result (omega arith) c.name-item.is ∙ ap (λ (t : List ℕ). before ++ t ∷ behind) (sym c.as_str.ensures.value) in
    record {
      opens = front_of g.W.File.Source.reading (g.W.World.outside c.args.world.now) (g.W.World.outside c.loop-name.world) (g.W.World.outside c.open.new.self) (map string_bytes names) before behind
          c.as_str.result.now _ are c.loop-name.invariant (inr (refl, c.in-NoMemory.ensures.opens));
    }

pub loop-name-preserved : goal.loop-name-preserved
loop-name-preserved g c =
    let names = c.args.names.now in
    let i = c.loop-name.name-index in
    let before = map string_bytes (take i names) in
    let reading = g.W.File.Source.reading in
    let old = g.W.World.outside c.args.world.now in
    let new = g.W.World.outside c.open.new.self in
    let next : suc i ≡ i + 1 = omega arith in
    let more = opened_more reading old (g.W.World.outside c.loop-name.world) new before c.as_str.result.now c.loop-name.invariant c.in-Done.ensures.opens in
    let texts : before ++ c.as_str.result.now ∷ [] ≡ map string_bytes (take (i + 1) names) =
    ap (λ (t : List ℕ). before ++ t ∷ []) c.as_str.ensures.value ∙ sym (taken_more string_bytes names i c.name-item.result (omega arith) c.name-item.is)
    ∙ ap (λ (n : ℕ). map string_bytes (take n names)) next in
    subst (λ (l : List (List ℕ)). OpenedFiles reading old new l) texts more

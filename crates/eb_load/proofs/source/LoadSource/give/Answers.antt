use Rattle.std.proofs.Common.{◌≡◌, ◌+◌, ◌-◌, ℕ, List, take, drop, ap, ◌∙◌, arith}
use Rattle.eb_load.specs.Stream.{load_octets, octets_of_records}
use Rattle.eb_load.proofs.GivingLemmas.{few_after, given_after, parts_after}
use Rattle.eb_load.proofs.PieceLemmas.{given_front}
use Rattle.eb_load.proofs.source.LoadSource.give.Goals as goal

pub returns-clause-octets : goal.returns-clause-octets
returns-clause-octets c =
    let items = c.args.self.now.piece in
    let at = c.args.self.now.at in
    let n = c.min-count.result in
    let count : at + n - at ≡ n = omega arith in
    let is : c.copy_from_slice.new.self ≡ take n (drop at items) = c.copy_from_slice.ensures.after ∙ ap (λ (k : ℕ). take k (drop at c.as_slice.result.now)) count ∙ ap (λ (l : List ℕ). take n (drop at l)) c.as_slice.ensures.octets in
    given_front items c.copy_from_slice.new.self (drop n c.args.room.now) (octets_of_records c.args.self.now.records c.args.self.now.draws) at n is (omega arith)

pub overflow_add-self-2 : goal.overflow_add-self-2
overflow_add-self-2 c =
    let me = c.args.self.now in
    let n = c.min-count.result in
    let count : me.at + n - me.at ≡ n = omega arith in
    let is : c.copy_from_slice.new.self ≡ take n (drop me.at me.piece) = c.copy_from_slice.ensures.after ∙ ap (λ (k : ℕ). take k (drop me.at c.as_slice.result.now)) count ∙ ap (λ (l : List ℕ). take n (drop me.at l)) c.as_slice.ensures.octets in
    omega (arith, few_after me.piece c.copy_from_slice.new.self (drop n c.args.room.now) (octets_of_records me.records me.draws) (load_octets me.start me.total) me.at n me.given is (omega arith) me.few me.parts, me.short)

pub returns-clause-given : goal.returns-clause-given
returns-clause-given c =
    let me = c.args.self.now in
    let n = c.min-count.result in
    let count : me.at + n - me.at ≡ n = omega arith in
    let is : c.copy_from_slice.new.self ≡ take n (drop me.at me.piece) = c.copy_from_slice.ensures.after ∙ ap (λ (k : ℕ). take k (drop me.at c.as_slice.result.now)) count ∙ ap (λ (l : List ℕ). take n (drop me.at l)) c.as_slice.ensures.octets in
    given_after me.piece c.copy_from_slice.new.self (drop n c.args.room.now) (octets_of_records me.records me.draws) (load_octets me.start me.total) me.at n me.given is (omega arith) me.few me.parts

pub invariant_of-self : goal.invariant_of-self
invariant_of-self c =
    let me = c.args.self.now in
    let n = c.min-count.result in
    let count : me.at + n - me.at ≡ n = omega arith in
    let is : c.copy_from_slice.new.self ≡ take n (drop me.at me.piece) = c.copy_from_slice.ensures.after ∙ ap (λ (k : ℕ). take k (drop me.at c.as_slice.result.now)) count ∙ ap (λ (l : List ℕ). take n (drop me.at l)) c.as_slice.ensures.octets in
    record {
      within = omega arith;
      short = me.short;
      few = few_after me.piece c.copy_from_slice.new.self (drop n c.args.room.now) (octets_of_records me.records me.draws) (load_octets me.start me.total) me.at n me.given is (omega arith) me.few me.parts;
      parts = parts_after me.piece c.copy_from_slice.new.self (drop n c.args.room.now) (octets_of_records me.records me.draws) (load_octets me.start me.total) me.at n me.given is (omega arith) me.few me.parts;
    }

-- Replies are no longer than what they answer.
use Rattle.std.proofs.Common.{◌≡◌, ℕ, ◌+◌, ◌≤◌, List, [], ◌∷◌, ◌++◌, length, take, drop, Option, ap, ◌∙◌, arith, length-append}
use Rattle.eb_codec.specs.declared.item.Header.{Header}
use Rattle.eb_codec.specs.Stream.{StreamItem, SpellsAll, header_after}
use Rattle.wb_signals.specs.declared.answer.Answer.{Answer}
use Rattle.eb_session.specs.declared.slave.Slave.{Slave}
use Rattle.eb_session.specs.Configuration.{register}
use Rattle.eb_session.specs.Cycles.{item_ops}
use Rattle.eb_session.specs.Replies.{sets_of, item_reply, replies_from}
use Rattle.eb_session.proofs.ShortLemmas.{is_short}

pub replies_short : (s : Slave) (header : Option Header) (errors : ℕ) (items : List StreamItem) (answers : List Answer) (octets : List ℕ)
    → SpellsAll (sets_of s.bus) header items octets → length (replies_from s header errors items answers) ≤ length octets
replies_short s header errors [] answers octets spells = omega arith
replies_short s header errors (x ∷ xs) answers octets spells =
    let a = spells.0 in
    let b = spells.1 in
    let n : ℕ = length (item_ops s.bus header x) in
    let mine = item_reply s header x (take n answers) errors in
    let others = replies_from s (header_after header x) (register errors (take n answers)) xs (drop n answers) in
    let first : length mine ≤ length a = is_short s (sets_of s.bus) header x a (take n answers) errors spells.3 in
    let rest : length others ≤ length b = replies_short s (header_after header x) (register errors (take n answers)) xs (drop n answers) b spells.4 in
    let all : length octets ≡ length a + length b = ap length spells.2 ∙ length-append a b in
    let both : length (mine ++ others) ≡ length mine + length others = length-append mine others in
    omega (arith, first, rest, all, both)

use Rattle.std.proofs.Common.{rules, ◌≡◌, ◌≤◌, ◌<◌, ◌++◌, ◌∷◌, [], length, drop, take, ℕ, List, subst, sym, arith, ap, ◌∙◌, slice_index_or, length-append}
use Rattle.std.proofs.Math.Seq.{take-append_seam}
use Rattle.eb_net.specs.Accepting.{Faults}
use Rattle.eb_net.specs.Posting.{Received, most_of_datagram}
use Rattle.eb_net.specs.MemPost.{mem_posting, cut_by}
use Rattle.eb_net.proofs.PostLemmas.{received_next, post_in}
use Rattle.eb_net.proofs.mem_post.MemPostPost.receive.Goals as goal

pub returns-clause-receives : goal.returns-clause-receives
returns-clause-receives c =
    let p = c.args.self.now in
    let octets = c.as_slice-octets.result.now in
    let at : Faults = record { reads = p.read_faults; writes = p.write_faults } in
    let some : length p.counts.items < length p.datagrams.items = search rules in
    let is : octets ≡ slice_index_or p.datagrams.items (length p.counts.items) octets = search rules in
    let chunk : c.copy_from_slice.new.self ≡ octets = search rules in
    let tail = drop (length octets) c.args.room.now in
    let front : octets ≡ take (length octets) (c.copy_from_slice.new.self ++ tail) = sym (ap (λ (l : List ℕ). take (length octets) (l ++ tail)) chunk ∙ take-append_seam octets tail) in
    let counts : c.push_reserved.new.self.items ≡ p.counts.items ++ at ∷ [] = search rules in
    let sent = cut_by p.lengths.items p.octets.items in
    let next : Received (mem_posting p) (post_in p.datagrams.items (p.counts.items ++ at ∷ []) sent at) octets = received_next p.datagrams.items p.counts.items sent octets at some is in
    let now : Received (mem_posting p) (post_in p.datagrams.items c.push_reserved.new.self.items sent at) octets
    = subst (λ (l : List Faults). Received (mem_posting p) (post_in p.datagrams.items l sent at) octets) (sym counts) next in
    let short : length octets ≤ most_of_datagram = subst (λ (l : List ℕ). length l ≤ most_of_datagram) (sym is) (p.short (length p.counts.items) octets some) in (
      omega (arith, length-append c.copy_from_slice.new.self tail, ap length chunk),
      short,
      subst (λ (l : List ℕ). Received (mem_posting p) (post_in p.datagrams.items c.push_reserved.new.self.items sent at) l) front now,
    )

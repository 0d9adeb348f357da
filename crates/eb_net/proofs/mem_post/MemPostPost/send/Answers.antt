use Rattle.std.proofs.Common.{rules, ◌≡◌, ◌++◌, ◌∷◌, [], length, ℕ, List, subst, sym, refl}
use Rattle.eb_net.specs.Accepting.{Faults}
use Rattle.eb_net.specs.Posting.{Sent}
use Rattle.eb_net.specs.MemPost.{mem_posting, cut_by}
use Rattle.eb_net.proofs.PostLemmas.{sent_next, post_in}
use Rattle.eb_net.proofs.mem_post.MemPostPost.send.Goals as goal

pub returns-clause-sends : goal.returns-clause-sends
returns-clause-sends c =
    let p = c.args.self.now in
    let piece = c.args.piece.now in
    let at : Faults = record { reads = p.read_faults; writes = p.write_faults } in
    let octets : c.extend_from_slice.new.self.items ≡ p.octets.items ++ piece = search rules in
    let lengths : c.push_reserved.new.self.items ≡ p.lengths.items ++ length piece ∷ [] = search rules in
    let datagrams = p.datagrams.items in
    let counts = p.counts.items in
    let next = sent_next datagrams counts p.lengths.items p.octets.items piece at p.parted in (
      refl,
      subst (λ (l : List ℕ). Sent (mem_posting p) (post_in datagrams counts (cut_by l c.extend_from_slice.new.self.items) at) piece) (sym lengths)
          (subst (λ (l : List ℕ). Sent (mem_posting p) (post_in datagrams counts (cut_by (p.lengths.items ++ length piece ∷ []) l) at) piece) (sym octets) next),
    )

use Rattle.std.proofs.Common.{◌≡◌, ◌∙◌, Some, ap, sym}
use Rattle.eb_io.specs.declared.link.MemLink.{MemLink}
use Rattle.eb_net.specs.Network.{Network, asking, post_at}
use Rattle.eb_net.specs.NetShelf.{network_of}
use Rattle.eb_net.specs.MemNet.{mem_network}
use Rattle.eb_net.specs.declared.mem_door.MemDoor.{MemDoor}
use Rattle.eb_net.specs.declared.mem_post.MemPost.{MemPost}
use Rattle.eb_net.specs.declared.net_shelf.NetShelf.{NetShelf}
use Rattle.eb_net.proofs.mem_net.MemNetNet.bind.Goals as goal

pub returns-clause-binds : goal.returns-clause-binds
returns-clause-binds c =
    let same : network_of c.next_post.new.self.shelf ≡ network_of c.ask_post.new.self = ap (λ (s : NetShelf MemDoor MemPost MemLink). network_of s) c.in-Some.ensures.shelf in
    let asked : network_of c.ask_post.new.self ≡ asking (mem_network c.args.self.now) (post_at c.args.port) = c.in-Ok.ensures.ok in
    record {
      post = c.in-Some.post;
      is_new = c.in-Some.ensures.is_new;
      made = c.put_post.ensures.put ∙ ap (λ (n : Network MemDoor MemPost MemLink). record n { post = Some c.in-Some.post }) (same ∙ asked);
    }

pub returns-clause-next : goal.returns-clause-next
returns-clause-next c = record {
  post = c.in-Some.post;
  given = sym c.in-Some.ensures.taken;
  stock = c.in-Some.ensures.stock;
  now = ap (λ (n : Network MemDoor MemPost MemLink). n.post) c.put_post.ensures.put;
}

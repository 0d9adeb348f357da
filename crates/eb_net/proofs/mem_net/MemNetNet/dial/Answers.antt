use Rattle.std.proofs.Common.{◌≡◌, ◌∙◌, Some, ap, sym}
use Rattle.eb_io.specs.declared.link.MemLink.{MemLink}
use Rattle.eb_net.specs.Network.{Network, asking, link_to}
use Rattle.eb_net.specs.NetShelf.{network_of}
use Rattle.eb_net.specs.MemNet.{mem_network}
use Rattle.eb_net.specs.declared.mem_door.MemDoor.{MemDoor}
use Rattle.eb_net.specs.declared.mem_post.MemPost.{MemPost}
use Rattle.eb_net.specs.declared.net_shelf.NetShelf.{NetShelf}
use Rattle.eb_net.proofs.NetLemmas.{is_new_link}
use Rattle.eb_net.proofs.mem_net.MemNetNet.dial.Goals as goal

pub returns-clause-dials : goal.returns-clause-dials
returns-clause-dials c =
    let same : network_of c.next_link.new.self.shelf ≡ network_of c.ask_link.new.self = ap (λ (s : NetShelf MemDoor MemPost MemLink). network_of s) c.in-Some.ensures.shelf in
    let asked : network_of c.ask_link.new.self ≡ asking (mem_network c.args.self.now) (link_to c.args.address.now) = c.in-Ok.ensures.ok in
    record {
      link = c.in-Some.link;
      is_new = is_new_link c.in-Some.link c.in-Some.ensures.is_new;
      made = c.put_link.ensures.put ∙ ap (λ (n : Network MemDoor MemPost MemLink). record n { link = Some c.in-Some.link }) (same ∙ asked);
    }

pub returns-clause-next : goal.returns-clause-next
returns-clause-next c = record {
  link = c.in-Some.link;
  given = sym c.in-Some.ensures.taken;
  stock = c.in-Some.ensures.stock;
  now = ap (λ (n : Network MemDoor MemPost MemLink). n.link) c.put_link.ensures.put;
}

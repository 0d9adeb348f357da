use Rattle.std.proofs.Common.{◌≡◌, ◌∙◌, ◌∷◌, ◌++◌, [], ap}
use Rattle.eb_io.specs.declared.link.MemLink.{MemLink}
use Rattle.eb_net.specs.Network.{Network, asking, door_at}
use Rattle.eb_net.specs.NetShelf.{network_of}
use Rattle.eb_net.specs.MemNet.{mem_network}
use Rattle.eb_net.specs.declared.mem_door.MemDoor.{MemDoor}
use Rattle.eb_net.specs.declared.mem_post.MemPost.{MemPost}
use Rattle.eb_net.specs.declared.net_shelf.NetShelf.{NetShelf}
use Rattle.eb_net.proofs.mem_net.MemNetNet.listen.Goals as goal

pub returns-clause-listens : goal.returns-clause-listens
returns-clause-listens c =
    let same : network_of c.next_door.new.self.shelf ≡ network_of c.ask_door.new.self = ap (λ (s : NetShelf MemDoor MemPost MemLink). network_of s) c.in-Some.ensures.shelf in
    let asked : network_of c.ask_door.new.self ≡ asking (mem_network c.args.self.now) (door_at c.args.port) = c.in-Ok.ensures.ok in
    record {
      door = c.in-Some.door;
      is_new = c.in-Some.ensures.is_new;
      made = c.add_door.ensures.added ∙ ap (λ (n : Network MemDoor MemPost MemLink). record n { doors = n.doors ++ c.in-Some.door ∷ [] }) (same ∙ asked);
    }

pub returns-clause-next : goal.returns-clause-next
returns-clause-next c =
    let same : network_of c.next_door.new.self.shelf ≡ network_of c.ask_door.new.self = ap (λ (s : NetShelf MemDoor MemPost MemLink). network_of s) c.in-Some.ensures.shelf in
    let asked : network_of c.ask_door.new.self ≡ asking (mem_network c.args.self.now) (door_at c.args.port) = c.in-Ok.ensures.ok in
    record {
      door = c.in-Some.door;
      next = c.in-Some.ensures.taken.0;
      stock = c.in-Some.ensures.taken.1;
      doors = ap (λ (n : Network MemDoor MemPost MemLink). n.doors) c.add_door.ensures.added ∙ ap (λ (n : Network MemDoor MemPost MemLink). n.doors ++ c.in-Some.door ∷ []) (same ∙ asked);
    }

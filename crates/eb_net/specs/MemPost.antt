-- A post in memory.
use Rattle.std.specs.Prelude.{ℕ, ◌-◌, ◌<◌, ◌≡◌, ◌⊎◌, List, [], ◌∷◌, Some, length, take, drop}
use Rattle.eb_io.specs.Plan.{Plan, FailsNow}
use Rattle.eb_net.specs.Accepting.{Faults}
use Rattle.eb_net.specs.Posting.{Posting, Datagram}
use Rattle.eb_net.specs.Tries.{tries_of}
use Rattle.eb_net.specs.declared.mem_post.MemPost.{MemPost}

-- datagrams, each with the counts when it was received, as far as there are counts
abbrev pub received_at : List (List ℕ) → List Faults → List Datagram
received_at [] counts = []
received_at (octets ∷ more) [] = []
received_at (octets ∷ more) (count ∷ rest) = record { octets = octets; at = count } ∷ received_at more rest

-- octets cut into parts of these lengths
abbrev pub cut_by : List ℕ → List ℕ → List (List ℕ)
cut_by [] octets = []
cut_by (n ∷ lengths) octets = take n octets ∷ cut_by lengths (drop n octets)

-- what it tells
abbrev pub mem_posting : MemPost → Posting
mem_posting p = record {
  received = Some (received_at p.datagrams.items p.counts.items);
  left = Some (drop (length p.counts.items) p.datagrams.items);
  sent = Some (cut_by p.lengths.items p.octets.items);
  faults = record { reads = p.read_faults; writes = p.write_faults };
}

-- its receives, and its sends
abbrev pub receives_of : MemPost → Plan
receives_of p = tries_of p.receives

abbrev pub sends_of : MemPost → Plan
sends_of p = tries_of p.sends

-- how many datagrams and octets it can send yet
abbrev pub sends_left : MemPost → ℕ
sends_left p = p.most_sends - length p.lengths.items

abbrev pub send_room : MemPost → ℕ
send_room p = p.room - length p.octets.items

-- The next send of so many octets fails: it is one of those that fail, or no room is left.
abbrev pub SendWillFail : MemPost → ℕ → Type 0
SendWillFail p count = FailsNow (sends_of p) ⊎ (sends_left p ≡ 0) ⊎ (send_room p < count)

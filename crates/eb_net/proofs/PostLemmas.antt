-- What a post in memory makes of its lists.
use Rattle.std.proofs.Common.{◌≡◌, ℕ, ◌+◌, ◌<◌, ◌≤◌, List, [], ◌∷◌, ◌++◌, Some, sum, length, take, drop, get_or, slice_index_or, refl, sym, ◌∙◌, ap, arith, length-append, length-drop}
use Rattle.std.proofs.lemmas.List.{drop_more, take-append-le, drop-append-le}
use Rattle.std.proofs.lemmas.List.Sums.{sum_by-cons}
use Rattle.std.proofs.Math.Seq.{take-length}
use Rattle.eb_net.specs.Accepting.{Faults}
use Rattle.eb_net.specs.Posting.{Posting, Datagram, Received, Sent}
use Rattle.eb_net.specs.MemPost.{received_at, cut_by}

-- a post of these lists, with these counts of faults
abbrev pub post_in : List (List ℕ) → List Faults → List (List ℕ) → Faults → Posting
post_in datagrams counts sent faults = record {
  received = Some (received_at datagrams counts);
  left = Some (drop (length counts) datagrams);
  sent = Some sent;
  faults = faults;
}

abbrev pub datagram : List ℕ → Faults → Datagram
datagram octets at = record { octets = octets; at = at }

none_received : (datagrams : List (List ℕ)) → received_at datagrams [] ≡ []
none_received [] = refl
none_received (octets ∷ more) = refl

received_more : (datagrams : List (List ℕ)) (counts : List Faults) (octets : List ℕ) (at : Faults) → length counts < length datagrams → octets ≡ get_or datagrams (length counts) octets
    → received_at datagrams (counts ++ at ∷ []) ≡ received_at datagrams counts ++ datagram octets at ∷ []
received_more [] counts octets at some is = absurd (omega (arith, some))
received_more (first ∷ datagrams) [] octets at some is =
    ap (λ (l : List Datagram). datagram first at ∷ l) (none_received datagrams) ∙ ap (λ (x : List ℕ). datagram x at ∷ []) (sym is)
received_more (first ∷ datagrams) (count ∷ counts) octets at some is =
    ap (λ (l : List Datagram). datagram first count ∷ l) (received_more datagrams counts octets at (omega (arith, some)) is)

-- the next datagram was received
pub received_next : (datagrams : List (List ℕ)) (counts : List Faults) (sent : List (List ℕ)) (octets : List ℕ) (at : Faults) → length counts < length datagrams → octets ≡ slice_index_or datagrams (length counts) octets
    → Received (post_in datagrams counts sent at) (post_in datagrams (counts ++ at ∷ []) sent at) octets
received_next datagrams counts sent octets at some is =
    let one : length counts + 1 ≡ length (counts ++ at ∷ []) = sym (length-append counts (at ∷ [])) in
    record {
      next = ap (λ (l : List (List ℕ)). Some l) (drop_more datagrams (length counts) octets some ∙ ap (λ (x : List ℕ). x ∷ drop (length counts + 1) datagrams) (sym is)) ∙ ap (λ (k : ℕ). Some (octets ∷ drop k datagrams)) one;
      received = ap (λ (l : List Datagram). Some l) (received_more datagrams counts octets at some is);
      sent = refl;
      faults = refl;
    }

cut_by_more : (lengths octets piece : List ℕ) → sum lengths ≡ length octets → cut_by (lengths ++ length piece ∷ []) (octets ++ piece) ≡ cut_by lengths octets ++ piece ∷ []
cut_by_more [] [] piece is = ap (λ (l : List ℕ). l ∷ []) (take-length piece)
cut_by_more [] (x ∷ octets) piece is = absurd (omega (arith, is))
cut_by_more (n ∷ lengths) octets piece is =
    let all : sum (n ∷ lengths) ≡ n + sum lengths = sum_by-cons (λ (k : ℕ). k) n lengths in
    let within : n ≤ length octets = omega (arith, is, all) in
    let rest : sum lengths ≡ length (drop n octets) = omega (arith, is, all, length-drop n octets) in
    ap (λ (l : List ℕ). l ∷ cut_by (lengths ++ length piece ∷ []) (drop n (octets ++ piece))) (take-append-le n octets piece within)
    ∙ ap (λ (l : List ℕ). take n octets ∷ cut_by (lengths ++ length piece ∷ []) l) (drop-append-le n octets piece within)
    ∙ ap (λ (l : List (List ℕ)). take n octets ∷ l) (cut_by_more lengths (drop n octets) piece rest)

-- the piece was sent
pub sent_next : (datagrams : List (List ℕ)) (counts : List Faults) (lengths octets piece : List ℕ) (at : Faults) → sum lengths ≡ length octets
    → Sent (post_in datagrams counts (cut_by lengths octets) at) (post_in datagrams counts (cut_by (lengths ++ length piece ∷ []) (octets ++ piece)) at) piece
sent_next datagrams counts lengths octets piece at is = record {
  sent = ap (λ (l : List (List ℕ)). Some l) (cut_by_more lengths octets piece is);
  received = refl;
  left = refl;
  faults = refl;
}

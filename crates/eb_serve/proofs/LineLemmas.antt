-- Lines one by one.
use Rattle.std.proofs.Common.{◌≡◌, ℕ, suc, ◌+◌, ◌<◌, List, ◌∷◌, ◌++◌, length, drop, get_or, add-one, sym, ap, ◌∙◌, subst}
use Rattle.std.proofs.Math.Seq.{drop-cons}
use Rattle.eb_io.specs.Reading.{Reading}
use Rattle.eb_io.specs.Writing.{Writing}
use Rattle.eb_io.proofs.PageLemmas.{Paging}
use Rattle.eb_server.specs.declared.ending.Ending.{Ending}
use Rattle.eb_ports.specs.Ends.{EndsState}
use Rattle.eb_serve.specs.Text.{connection_line, connection_lines, port_text, ports_text}
use Rattle.eb_serve.specs.DatagramText.{datagram_line, datagram_lines}

connections_ahead : (m : ℕ) (xs : List Ending) (i : ℕ) (x : Ending) → i < length xs → x ≡ get_or xs i x
    → connection_lines m i (drop i xs) ≡ connection_line m i x ++ connection_lines m (i + 1) (drop (i + 1) xs)
connections_ahead m xs i x lt is = rw add-one (ap (connection_lines m i) (drop-cons xs i x lt ∙ ap (λ (y : Ending). y ∷ drop (suc i) xs) (sym is)))

ports_ahead : (xs : List EndsState) (i : ℕ) (x : EndsState) → i < length xs → x ≡ get_or xs i x → ports_text i (drop i xs) ≡ port_text i x ++ ports_text (i + 1) (drop (i + 1) xs)
ports_ahead xs i x lt is = rw add-one (ap (ports_text i) (drop-cons xs i x lt ∙ ap (λ (y : EndsState). y ∷ drop (suc i) xs) (sym is)))

datagrams_ahead : (xs : List Ending) (i : ℕ) (x : Ending) → i < length xs → x ≡ get_or xs i x → datagram_lines i (drop i xs) ≡ datagram_line i x ++ datagram_lines (i + 1) (drop (i + 1) xs)
datagrams_ahead xs i x lt is = rw add-one (ap (datagram_lines i) (drop-cons xs i x lt ∙ ap (λ (y : Ending). y ∷ drop (suc i) xs) (sym is)))

module _ {S : Type 0} (writing : S → Writing) (reading : S → Reading) where
  -- the line of a connection is the next part
  pub next_connection : (old mid : S) (page held text : List ℕ) (m : ℕ) (xs : List Ending) (i : ℕ) (x : Ending) (piece : List ℕ) → i < length xs → x ≡ get_or xs i x → piece ≡ connection_line m i x
      → Paging writing reading old mid page held text (connection_lines m i (drop i xs)) → Paging writing reading old mid page held text (piece ++ connection_lines m (i + 1) (drop (i + 1) xs))
  next_connection old mid page held text m xs i x piece lt is same went =
      subst (λ (l : List ℕ). Paging writing reading old mid page held text l)
      (connections_ahead m xs i x lt is ∙ ap (λ (l : List ℕ). l ++ connection_lines m (i + 1) (drop (i + 1) xs)) (sym same)) went

  -- the text of a port is the next part
  pub next_served : (old mid : S) (page held text : List ℕ) (xs : List EndsState) (i number : ℕ) (x : EndsState) → i < length xs → x ≡ get_or xs i x → number ≡ i
      → Paging writing reading old mid page held text (ports_text i (drop i xs)) → Paging writing reading old mid page held text (port_text number x ++ ports_text (i + 1) (drop (i + 1) xs))
  next_served old mid page held text xs i number x lt is same went =
      subst (λ (l : List ℕ). Paging writing reading old mid page held text l)
      (ports_ahead xs i x lt is ∙ ap (λ (n : ℕ). port_text n x ++ ports_text (i + 1) (drop (i + 1) xs)) (sym same)) went

  -- the line of a datagram is the next part
  pub next_datagram : (old mid : S) (page held text : List ℕ) (xs : List Ending) (i : ℕ) (x : Ending) (piece : List ℕ) → i < length xs → x ≡ get_or xs i x → piece ≡ datagram_line i x
      → Paging writing reading old mid page held text (datagram_lines i (drop i xs)) → Paging writing reading old mid page held text (piece ++ datagram_lines (i + 1) (drop (i + 1) xs))
  next_datagram old mid page held text xs i x piece lt is same went =
      subst (λ (l : List ℕ). Paging writing reading old mid page held text l)
      (datagrams_ahead xs i x lt is ∙ ap (λ (l : List ℕ). l ++ datagram_lines (i + 1) (drop (i + 1) xs)) (sym same)) went

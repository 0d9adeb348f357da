-- Words that were read, and one more.
use Rattle.std.proofs.Common.{◌≡◌, ℕ, List, [], ◌∷◌, ◌++◌, sym, ap, ◌∙◌, subst}
use Rattle.eb_codec.specs.declared.item.Header.{Header}
use Rattle.eb_io.specs.Reading.{Reading}
use Rattle.eb_io.specs.Writing.{Writing}
use Rattle.sdb_walk.specs.Told.{Word}
use Rattle.sdb_walk.specs.declared.reader.Exchange.{Exchange}
use Rattle.eb_host.specs.declared.host.Host.{Host}
use Rattle.eb_host.specs.declared.op.HostFault.{HostFault}
use Rattle.eb_host.specs.Host.{HostState}
use Rattle.eb_host.specs.View.{link_of, sent_header, host_state}
use Rattle.eb_reader.specs.Reader.{reader_of, ReadsWord, ReadsAll, HasReadWords}

pub reads_more : (old mid new : HostState) (xs : List (Exchange HostFault)) (adr : ℕ) (word : Word HostFault) → ReadsAll old xs mid → ReadsWord mid new adr word
    → ReadsAll old (xs ++ record { adr = adr; word = word } ∷ []) new
reads_more old mid new [] adr word all one = (new, subst (λ (s : HostState). ReadsWord s new adr word) (sym all) one, λ i. new)
reads_more old mid new (x ∷ xs) adr word all one = (all.0, all.1, reads_more all.0 mid new xs adr word all.2 one)

module _ {L E : Type 0} (reading : L → Reading) (writing : L → Writing) (other_end : L → E) where
  -- a reader that has read one word more
  pub has_read : (began host next : Host L) (xs ys : List (Exchange HostFault)) (adr : ℕ) (word : Word HostFault) → HasReadWords reading writing other_end (reader_of began host xs)
      → ReadsWord (host_state reading writing host) (host_state reading writing next) adr word → sent_header next ≡ sent_header host
      → other_end (link_of next) ≡ other_end (link_of host) → ys ≡ xs ++ record { adr = adr; word = word } ∷ []
      → HasReadWords reading writing other_end (reader_of began next ys)
  has_read began host next xs ys adr word has one header same are = record {
    port = ap (λ (h : Header). h.port) header ∙ has.port;
    reads = subst (λ (zs : List (Exchange HostFault)). ReadsAll (host_state reading writing began) zs (host_state reading writing next)) (sym are)
        (reads_more (host_state reading writing began) (host_state reading writing host) (host_state reading writing next) xs adr word has.reads one);
    same_end = same ∙ has.same_end;
  }

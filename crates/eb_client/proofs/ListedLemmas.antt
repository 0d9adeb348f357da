-- What discovery over a link came to, by what its parts did.
use Rattle.std.proofs.Common.{◌≡◌, ℕ, List, [], Result, Ok, Err, Option, Some, inl, inr, refl, ap, ◌∙◌, subst}
use Rattle.eb_base.specs.declared.width.Width.TheVariants.{W32}
use Rattle.eb_io.specs.Reading.{Reading}
use Rattle.eb_io.specs.Writing.{Writing}
use Rattle.sdb_walk.specs.declared.reader.Exchange.{Exchange}
use Rattle.sdb_walk.specs.declared.found.Found.{Found}
use Rattle.sdb_walk.specs.declared.fault.WalkFault.{WalkFault}
use Rattle.sdb_walk.specs.declared.fault.WalkFault.TheVariants as walk
use Rattle.sdb_walk.specs.Discovery.{Discovers}
use Rattle.eb_host.specs.declared.host.Host.{Host}
use Rattle.eb_host.specs.declared.op.HostFault.{HostFault}
use Rattle.eb_host.specs.Exchange.{Duplex, duplex}
use Rattle.eb_host.specs.Host.{ReadsRoot}
use Rattle.eb_host.specs.Opening.{Opened}
use Rattle.eb_host.specs.View.{link_of, host_state}
use Rattle.eb_reader.specs.Reader.{ReaderState, ReadsAll, HasReadWords, new_reader, told_of, began_with}
use Rattle.eb_client.specs.declared.plain_link.PlainLink.{PlainLink}
use Rattle.eb_client.specs.PlainLink.{inner_link, told_inside}
use Rattle.eb_client.specs.Asking.{client_widths}
use Rattle.eb_client.specs.Listed.{WalksOver}

module _ {L : Type 0} (reading : L → Reading) (writing : L → Writing) where
  -- a link that a host gave back, without the one around it
  handed_back : (back : L) (left : PlainLink L) (host : Host (PlainLink L)) → back ≡ inner_link left → left ≡ link_of host
      → duplex (reading back) (writing back) ≡ (host_state (told_inside reading) (told_inside writing) host).link
  handed_back back left host last ends =
      ap (λ (l : L). duplex (reading l) (writing l)) last ∙ ap (λ (p : PlainLink L). duplex (told_inside reading p) (told_inside writing p)) ends

  -- the address of the root table was refused
  pub no_root : (old : Duplex) (opened rooted : Host (PlainLink L)) (left : PlainLink L) (back : L) (f : HostFault)
      → Opened (client_widths W32) old (host_state (told_inside reading) (told_inside writing) opened)
      → ReadsRoot (host_state (told_inside reading) (told_inside writing) opened) (host_state (told_inside reading) (told_inside writing) rooted) (Err f)
      → left ≡ link_of rooted → back ≡ inner_link left → WalksOver old (duplex (reading back) (writing back)) (Err (walk.Reader f))
  no_root old opened rooted left back f opens roots ends last = inr (
    f,
    refl,
    inr (record {
      opened = host_state (told_inside reading) (told_inside writing) opened;
      left = host_state (told_inside reading) (told_inside writing) rooted;
      opens = opens;
      roots = roots;
      ends = handed_back back left rooted last ends;
    }),
  )

  -- the walk ran
  pub walked : {E : Type 0} (other_end : PlainLink L → E) (old : Duplex) (opened rooted given : Host (PlainLink L)) (began reader : ReaderState (PlainLink L)) (left : PlainLink L) (back : L)
      (root : ℕ) (result : Result (List Found) (WalkFault HostFault))
      → Opened (client_widths W32) old (host_state (told_inside reading) (told_inside writing) opened)
      → ReadsRoot (host_state (told_inside reading) (told_inside writing) opened) (host_state (told_inside reading) (told_inside writing) rooted) (Ok root)
      → began ≡ new_reader rooted → began_with reader ≡ began_with began → HasReadWords (told_inside reading) (told_inside writing) other_end reader
      → Discovers (told_of began) (told_of reader) root result → given ≡ reader.host → left ≡ link_of given → back ≡ inner_link left
      → WalksOver old (duplex (reading back) (writing back)) result
  walked other_end old opened rooted given began reader left back root result opens roots new origin has discovers gives ends last =
      let from : reader.began ≡ rooted = origin ∙ ap (λ (r : ReaderState (PlainLink L)). r.began) new in
      let reads : ReadsAll (host_state (told_inside reading) (told_inside writing) rooted) reader.asked (host_state (told_inside reading) (told_inside writing) reader.host) =
      subst (λ (x : Host (PlainLink L)). ReadsAll (host_state (told_inside reading) (told_inside writing) x) reader.asked (host_state (told_inside reading) (told_inside writing) reader.host)) from has.reads in
      let told : Discovers (Some []) (Some reader.asked) root result =
      subst (λ (t : Option (List (Exchange HostFault))). Discovers t (Some reader.asked) root result) (ap (λ (r : ReaderState (PlainLink L)). told_of r) new) discovers in
      inl (record {
        opened = host_state (told_inside reading) (told_inside writing) opened;
        rooted = host_state (told_inside reading) (told_inside writing) rooted;
        left = host_state (told_inside reading) (told_inside writing) reader.host;
        root = root;
        asked = reader.asked;
        opens = opens;
        roots = roots;
        reads = reads;
        walks = told;
        ends = handed_back back left reader.host last (ends ∙ ap link_of gives);
      })

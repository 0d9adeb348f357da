-- What a net in memory hands over is new.
use Rattle.std.proofs.Common.{◌≡◌, ℕ, List, [], refl, sym, subst}
use Rattle.std.specs.Prelude.{IfSome}
use Rattle.std.specs.declared.option.Option.{Option}
use Rattle.eb_io.specs.Writing.{Told}
use Rattle.eb_io.specs.MemLink.{reading_of, writing_of}
use Rattle.eb_io.specs.declared.link.MemLink.{MemLink}
use Rattle.eb_net.specs.Accepting.{IsUnwritten}
use Rattle.eb_net.specs.DoorLink.{IsUnused}
use Rattle.eb_net.specs.Network.{IsNewLink}

pub is_new_link : (l : MemLink) → IsUnused l → IsNewLink (reading_of l) (writing_of l)
is_new_link l unused = record {
  fresh = record {
    given = subst (λ (o : Option (List ℕ)). IfSome o (λ (octets : List ℕ). octets ≡ [])) (sym unused.given) refl;
    faults = unused.reads;
  };
  blank = record {
    written = subst (λ (t : Told). IsUnwritten t) (sym unused.written) refl;
    faults = unused.writes;
  };
}

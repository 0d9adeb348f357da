-- A host as contracts see it. Its link is any, so what that tells is given by two functions.
use Rattle.eb_codec.specs.declared.item.Header.{Header}
use Rattle.eb_io.specs.Reading.{Reading}
use Rattle.eb_io.specs.Writing.{Writing}
use Rattle.eb_host.specs.declared.host.Host.{Host}
use Rattle.eb_host.specs.Exchange.{duplex}
use Rattle.eb_host.specs.Host.{HostState, header}

-- its link
abbrev pub link_of : {L : Type 0} → Host L → L
link_of host = host.link

-- the header that it sent
abbrev pub sent_header : {L : Type 0} → Host L → Header
sent_header host = header host.address host.port

abbrev pub host_state : {L : Type 0} → (L → Reading) → (L → Writing) → Host L → HostState
host_state reading writing host = record {
  link = duplex (reading host.link) (writing host.link);
  header = sent_header host;
  read = host.read;
  fault = host.fault;
}

use Rattle.soc_discovery.proofs.TheLaw.{discovered, only_discovered, reader_discovers, left_as_built}
use Rattle.soc_discovery.proofs.laws.discovery.Goals as goal

pub returns-clause-found : goal.returns-clause-found
returns-clause-found g c = discovered _

pub returns-clause-only : goal.returns-clause-only
returns-clause-only g c = only_discovered _

pub returns-clause-reader : goal.returns-clause-reader
returns-clause-reader g c = reader_discovers _

pub returns-clause-left : goal.returns-clause-left
returns-clause-left g c = left_as_built _

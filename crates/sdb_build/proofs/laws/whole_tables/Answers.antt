use Rattle.sdb_build.proofs.BusLemmas.{listed_as_itself, images_of_buses, tables_of_sound}
use Rattle.sdb_build.proofs.laws.whole_tables.Goals as goal

pub returns-clause-itself : goal.returns-clause-itself
returns-clause-itself c = listed_as_itself

pub returns-clause-images : goal.returns-clause-images
returns-clause-images c = images_of_buses

pub returns-clause-tables : goal.returns-clause-tables
returns-clause-tables c = tables_of_sound

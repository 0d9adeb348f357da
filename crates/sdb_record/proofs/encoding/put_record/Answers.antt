use Rattle.sdb_record.proofs.encoding.put_record.Goals as goal

pub returns-in-Interconnect-clause-written : goal.returns-in-Interconnect-clause-written
returns-in-Interconnect-clause-written c = rw c.in-Interconnect.is c.put_interconnect.ensures.written

use Rattle.eb_codec.proofs.DecodedLemmas.{decodes_record, decodes_header, decodes_probe}
use Rattle.eb_codec.proofs.laws.decoded_again.Goals as goal

pub returns-clause-record_ : goal.returns-clause-record_
returns-clause-record_ c = decodes_record

pub returns-clause-header : goal.returns-clause-header
returns-clause-header c = decodes_header

pub returns-clause-probe : goal.returns-clause-probe
returns-clause-probe c = decodes_probe

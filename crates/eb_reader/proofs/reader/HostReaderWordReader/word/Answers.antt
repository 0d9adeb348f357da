use Rattle.eb_reader.proofs.ReadLemmas.{has_read}
use Rattle.eb_reader.proofs.reader.HostReaderWordReader.word.Goals as goal

pub invariant_of-self : goal.invariant_of-self
invariant_of-self g c =
    has_read g.L.Source.reading g.L.Sink.writing g.L.HostLink.other_end c.self.inside.began.value c.self.inside.host c.ask-word.new.host c.self.inside.asked c.push.new.self c.args.adr c.ask-word.result
    c.self.invariant c.ask-word.ensures.reads c.ask-word.ensures.header c.ask-word.ensures.other_end c.push.ensures.items

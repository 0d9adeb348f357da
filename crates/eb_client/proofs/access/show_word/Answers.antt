use Rattle.std.proofs.Common.{Ok, Err, ◌∙◌}
use Rattle.eb_client.proofs.ShownLemmas.{shows_word}
use Rattle.eb_client.proofs.access.show_word.Goals as goal

pub returns-in-Ok : goal.returns-in-Ok
returns-in-Ok g c = record {
  shows = shows_word g.O.Sink.writing g.O.Sink.beside_writes c.args.width c.args.place c.in-Done.word c.args.answer c.args.out.now c.put_all.new.sink c.as_slice.result.now (Ok c.in-Ok.field-0) c.in-Done.is
      (c.as_slice.ensures.octets ∙ c.word_line.ensures.value) c.in-Ok.ensures.wrote;
}

pub returns-in-Err : goal.returns-in-Err
returns-in-Err g c = record {
  shows = shows_word g.O.Sink.writing g.O.Sink.beside_writes c.args.width c.args.place c.in-Done.word c.args.answer c.args.out.now c.put_all.new.sink c.as_slice.result.now (Err c.in-Err.field-0) c.in-Done.is
      (c.as_slice.ensures.octets ∙ c.word_line.ensures.value) c.in-Err.ensures.wrote;
}

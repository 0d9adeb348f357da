use Rattle.std.proofs.Common.{◌≡◌, ◌^◌, ◌<◌, List, refl, sym, ◌∙◌, ap, subst, arith}
use Rattle.wb_signals.specs.History.{Entry}
use Rattle.eb_io.specs.CountSink.{writing_of}
use Rattle.eb_server.specs.declared.ending.Ending.{Ending}
use Rattle.eb_load.specs.LoadSource.{load_reading}
use Rattle.eb_load.specs.Summary.{summary, summary_text}
use Rattle.eb_load.specs.declared.summary.Summary.{Summary}
use Rattle.eb_run.specs.Slave.{entries_of}
use Rattle.eb_run.specs.Commands.{Summed}
use Rattle.eb_run.specs.Streams.{System, ServedOn, ram_system}
use Rattle.eb_run.proofs.SlaveLemmas.{ram_is}
use Rattle.eb_run.proofs.LoadLemmas.{MayEnd, may_end, summed}
use Rattle.eb_run.proofs.load.summary_of.Goals as goal

pub returns-in-Clean : goal.returns-in-Clean
returns-in-Clean c =
    let source = load_reading c.new-source.result in
    let source' = load_reading c.serve.new.source in
    let out = writing_of c.new-replies.result in
    let out' = writing_of c.serve.new.sink in
    let entries = entries_of c.serve.new.self in
    let served = subst (λ (s : System). ServedOn s source source' out out' entries c.serve.result) (ram_is 65536 c.args.slave.now c.requires.made) c.serve.ensures.served in
    let small : c.args.cycles < 2 ^ 32 = omega arith in
    let clean = subst (λ (e : Ending). ServedOn (ram_system 65536) source source' out out' entries e) c.in-Clean.is served in
    let sum = summed c.args.start c.args.cycles source source' out out' entries small (c.new-source.ensures.tells, c.new-replies.ensures.tells) refl refl c.given.result c.count.result clean c.given.ensures.count c.count.ensures.count in
    let journal : summary entries c.given.result c.count.result ≡ c.of.result =
    ap (λ (l : List Entry). summary l c.given.result c.count.result) (sym c.recorder.ensures.entries) ∙ sym c.of.ensures.value in
    record { summed = subst (λ (s : Summary). Summed c.args.start c.args.cycles (summary_text s)) journal sum }

pub unreachable-requires : goal.unreachable-requires
unreachable-requires c =
    let source = load_reading c.new-source.result in
    let source' = load_reading c.serve.new.source in
    let out = writing_of c.new-replies.result in
    let out' = writing_of c.serve.new.sink in
    let entries = entries_of c.serve.new.self in
    let served = subst (λ (s : System). ServedOn s source source' out out' entries c.serve.result) (ram_is 65536 c.args.slave.now c.requires.made) c.serve.ensures.served in
    let small : c.args.cycles < 2 ^ 32 = omega arith in
    subst (λ (e : Ending). MayEnd e) c.in-WriteFault.is (may_end c.args.start c.args.cycles source source' out out' entries small (c.new-source.ensures.tells, c.new-replies.ensures.tells) refl refl c.serve.result served)

pub unreachable-requires-in-Truncated : goal.unreachable-requires-in-Truncated
unreachable-requires-in-Truncated c =
    let source = load_reading c.new-source.result in
    let source' = load_reading c.serve.new.source in
    let out = writing_of c.new-replies.result in
    let out' = writing_of c.serve.new.sink in
    let entries = entries_of c.serve.new.self in
    let served = subst (λ (s : System). ServedOn s source source' out out' entries c.serve.result) (ram_is 65536 c.args.slave.now c.requires.made) c.serve.ensures.served in
    let small : c.args.cycles < 2 ^ 32 = omega arith in
    subst (λ (e : Ending). MayEnd e) c.in-Truncated.is (may_end c.args.start c.args.cycles source source' out out' entries small (c.new-source.ensures.tells, c.new-replies.ensures.tells) refl refl c.serve.result served)

pub unreachable-requires-in-Malformed : goal.unreachable-requires-in-Malformed
unreachable-requires-in-Malformed c =
    let source = load_reading c.new-source.result in
    let source' = load_reading c.serve.new.source in
    let out = writing_of c.new-replies.result in
    let out' = writing_of c.serve.new.sink in
    let entries = entries_of c.serve.new.self in
    let served = subst (λ (s : System). ServedOn s source source' out out' entries c.serve.result) (ram_is 65536 c.args.slave.now c.requires.made) c.serve.ensures.served in
    let small : c.args.cycles < 2 ^ 32 = omega arith in
    subst (λ (e : Ending). MayEnd e) c.in-Malformed.is (may_end c.args.start c.args.cycles source source' out out' entries small (c.new-source.ensures.tells, c.new-replies.ensures.tells) refl refl c.serve.result served)

pub unreachable-requires-in-ReadFault : goal.unreachable-requires-in-ReadFault
unreachable-requires-in-ReadFault c =
    let source = load_reading c.new-source.result in
    let source' = load_reading c.serve.new.source in
    let out = writing_of c.new-replies.result in
    let out' = writing_of c.serve.new.sink in
    let entries = entries_of c.serve.new.self in
    let served = subst (λ (s : System). ServedOn s source source' out out' entries c.serve.result) (ram_is 65536 c.args.slave.now c.requires.made) c.serve.ensures.served in
    let small : c.args.cycles < 2 ^ 32 = omega arith in
    subst (λ (e : Ending). MayEnd e) c.in-ReadFault.is (may_end c.args.start c.args.cycles source source' out out' entries small (c.new-source.ensures.tells, c.new-replies.ensures.tells) refl refl c.serve.result served)

pub unreachable-requires-in-TooLong : goal.unreachable-requires-in-TooLong
unreachable-requires-in-TooLong c =
    let source = load_reading c.new-source.result in
    let source' = load_reading c.serve.new.source in
    let out = writing_of c.new-replies.result in
    let out' = writing_of c.serve.new.sink in
    let entries = entries_of c.serve.new.self in
    let served = subst (λ (s : System). ServedOn s source source' out out' entries c.serve.result) (ram_is 65536 c.args.slave.now c.requires.made) c.serve.ensures.served in
    let small : c.args.cycles < 2 ^ 32 = omega arith in
    subst (λ (e : Ending). MayEnd e) c.in-TooLong.is (may_end c.args.start c.args.cycles source source' out out' entries small (c.new-source.ensures.tells, c.new-replies.ensures.tells) refl refl c.serve.result served)

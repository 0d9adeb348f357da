use Rattle.eb_ports.specs.Connections.{door_told}
use Rattle.eb_serving.proofs.ServedLemmas.{unserved_last}
use Rattle.eb_serving.proofs.doors.serve_last.Goals as goal

pub returns-in_err-others : goal.returns-in_err-others
returns-in_err-others g c =
    let told = door_told g.N.Door.Link.Source.reading g.N.Door.Link.Sink.writing g.N.Door.Door.standing g.N.Door.Door.accepting in
    record {
      serves = unserved_last told c.args.description.now c.args.connections c.args.description.now.masters (g.N.Net.network c.args.net.now) (g.N.Net.network c.take_last_doors.new.net)
          c.from_residual.result c.requires.there c.in_err-others.ensures.refused c.from_residual.ensures.0;
    }

use Rattle.std.proofs.Common.{◌≡◌, ◌≤◌, length, map, string_bytes, refl, sym, arith}
use Rattle.std.proofs.lemmas.List.{length-map}
use Rattle.eb_run.specs.Run.{run_of}
use Rattle.eb_run.proofs.ReplayLemmas.{comes_replayed, comes_unopened_by, comes_unreplayed}
use Rattle.eb_run.proofs.captures.replay_captures.Goals as goal

pub returns-in_err-open_all : goal.returns-in_err-open_all
returns-in_err-open_all g c =
    let captures = c.args.captures.now in
    let out = g.O.Sink.writing c.args.out.now in
    let run = run_of g.W.File.Source.reading (g.W.World.outside c.args.world.now) (g.W.World.outside c.open_all.new.world) out out in
    let few : length (map string_bytes captures) ≤ c.in_ok-described.described.masters = omega (arith, length-map captures string_bytes) in
    record {
      comes_to = comes_unopened_by run c.args.description.now (map string_bytes captures) c.in_ok-described.described (g.W.World.outside c.read_description.new.world) c.in_ok-described.ensures.description
          c.from_residual-in_err-open_all.result _ c.from_residual-in_err-open_all.ensures.0 c.from_residual-in_err-open_all.ensures.1 few c.in_err-open_all.ensures.opens refl;
    }

pub returns-in-Ok : goal.returns-in-Ok
returns-in-Ok g c =
    let captures = c.args.captures.now in
    let out = g.O.Sink.writing c.args.out.now in
    let out' = g.O.Sink.writing c.write_replayed.new.out in
    let run = run_of g.W.File.Source.reading (g.W.World.outside c.args.world.now) (g.W.World.outside c.replay_last.new.world) out out' in
    let few : length (map string_bytes captures) ≤ c.in_ok-described.described.masters = omega (arith, length-map captures string_bytes) in
    record {
      comes_to = comes_replayed run c.args.description.now (map string_bytes captures) c.in_ok-described.described (g.W.World.outside c.read_description.new.world) c.in_ok-described.ensures.description
          (g.W.World.outside c.open_all.new.world) (length captures) (sym (length-map captures string_bytes)) few c.in_ok-open_all.ensures.opens c.in-Ok.replayed _ c.in-Ok.ensures.replays c.write_replayed.ensures.sends;
    }

pub returns : goal.returns
returns g c =
    let captures = c.args.captures.now in
    let out = g.O.Sink.writing c.args.out.now in
    let run = run_of g.W.File.Source.reading (g.W.World.outside c.args.world.now) (g.W.World.outside c.replay_last.new.world) out out in
    let few : length (map string_bytes captures) ≤ c.in_ok-described.described.masters = omega (arith, length-map captures string_bytes) in
    record {
      comes_to = comes_unreplayed run c.args.description.now (map string_bytes captures) c.in_ok-described.described (g.W.World.outside c.read_description.new.world) c.in_ok-described.ensures.description
          (g.W.World.outside c.open_all.new.world) (length captures) (sym (length-map captures string_bytes)) few c.in_ok-open_all.ensures.opens _ c.in-Err.ensures.replays refl;
    }

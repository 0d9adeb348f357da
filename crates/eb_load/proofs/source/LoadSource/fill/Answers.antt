use Rattle.std.proofs.Common.{◌-◌, ◌++◌, length, take, arith, Some, ap, sym, refl, ◌∙◌}
use Rattle.eb_io.specs.Reading.{Gave}
use Rattle.eb_load.specs.LoadSource.{load_given, load_left, load_reading}
use Rattle.eb_load.proofs.FillLemmas.{filled_none, filled_more, len_after}
use Rattle.eb_load.proofs.source.LoadSource.fill.Goals as goal

pub loop-self-init : goal.loop-self-init
loop-self-init c = record {
  gave = filled_none (load_reading c.args.self.now) (load_given c.args.self.now) (load_left c.args.self.now) c.args.count c.args.room.now refl refl c.requires.within;
  whole = c.requires.whole;
}

pub loop-self-smaller : goal.loop-self-smaller
loop-self-smaller c = omega (arith, c.advance.ensures.fewer, c.give-filled.ensures.records)

pub loop-self-preserved : goal.loop-self-preserved
loop-self-preserved c =
    let room = c.loop-self.room in
    let filled = c.loop-self.filled in
    let part = c.give-filled.new.room in
    let gave : Gave (load_reading c.loop-self.self) (load_reading c.give-filled.new.self) (take c.give-filled.result part) = record {
      next = ap Some (sym c.advance.ensures.left ∙ c.give-filled.ensures.octets);
      given = ap Some (c.give-filled.ensures.given ∙ ap (λ l. l ++ take c.give-filled.result part) c.advance.ensures.given);
      faults = refl;
    } in
    let len = len_after filled (length room - filled) room part c.loop-self.invariant.gave.within refl in
    record {
      gave = filled_more _ _ _ c.args.count filled c.give-filled.result (length room - filled) c.args.room.now room part c.loop-self.invariant.gave gave refl c.give-filled.ensures.room;
      whole = λ lt. c.give-filled.ensures.whole (omega (arith, len, lt));
    }

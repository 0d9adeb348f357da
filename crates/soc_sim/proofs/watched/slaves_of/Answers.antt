-- A set of slaves has 128 bits.
use Rattle.std.proofs.Common.{◌<◌, ◌≤◌, ◌^◌, ℕ, sym, subst, arith}
use Rattle.soc_core.specs.Built.{fabric_of}
use Rattle.soc_sim.proofs.WatchedLemmas.{few_slaves}
use Rattle.soc_sim.proofs.watched.slaves_of.Goals as goal

pub returns-clause-most : goal.returns-clause-most
returns-clause-most g c =
    let within : c.all_slaves.result.0 < 2 ^ 128 = omega (arith, c.all_slaves.type_inv) in
    subst (λ (n : ℕ). n ≤ 128) (sym c.slaves.ensures.slaves) (few_slaves (fabric_of c.args.bus.now.description).slaves c.all_slaves.result.0 c.all_slaves.ensures.all within)

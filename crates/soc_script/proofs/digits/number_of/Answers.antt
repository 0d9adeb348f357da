use Rattle.std.proofs.Common.{ℕ, ◌<◌, ◌≤◌, ◌^◌, length, arith}
use Rattle.std.proofs.Math.Nat.{pow-le-pow_right}
use Rattle.std.proofs.lemmas.Option.{IfSome_then}
use Rattle.soc_script.proofs.digits.number_of.Goals as goal

pub returns-clause-fits : goal.returns-clause-fits
returns-clause-fits c =
    let few : length c.args.word.now ≤ c.args.most = omega arith in
    let cap : 16 ^ length c.args.word.now ≤ 16 ^ c.args.most = pow-le-pow_right {n = 16} (omega arith) few in
    IfSome_then c.number_in.result c.number_in.ensures.fits (λ (n : ℕ) (l : n < 16 ^ length c.args.word.now). omega (arith, l, cap))

use Rattle.std.proofs.Common.{◌≤◌, ◌^◌, arith}
use Rattle.std.proofs.Math.Pow.{pow_mono}
use Rattle.marked_ptr.proofs.words.power.Goals as goal

pub returns-clause-most : goal.returns-clause-most
returns-clause-most c =
    let le : c.args.e ≤ 24 = c.requires in
    let p : 2 ^ c.args.e ≤ 2 ^ 24 = pow_mono le in
    omega arith

use Rattle.std.proofs.Common.{arith}
use Rattle.baggy_tool.proofs.Numbers.{number_passes}
use Rattle.baggy_tool.proofs.decimal.number_within.Goals as goal

pub returns-then-number-most : goal.returns-then-number-most
returns-then-number-most c =
    number_passes c.args.most c.loop-digit.number c.loop-digit.digit-index c.args.digits.now (omega arith) c.loop-digit.invariant.0 (omega arith)

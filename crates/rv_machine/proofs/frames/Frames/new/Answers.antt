use Rattle.std.proofs.Common.{refl, arith}
use Rattle.rv_machine.proofs.frames.Frames.new.Goals as goal

pub invariant_of-result : goal.invariant_of-result
invariant_of-result c = (rw c.in_ok-layouts.ensures c.requires, omega (arith, c.in_ok-entered.ensures.exact), rw c.in_ok-entered.ensures.items refl)

use Rattle.std.proofs.Common.{arith}
use Rattle.rv_machine.proofs.CallChain.{calls_stacked}
use Rattle.rv_machine.proofs.EventLists.{small_declines}
use Rattle.rv_machine.proofs.frames.Frames.entering.Goals as goal

pub blocks-requires : goal.blocks-requires
blocks-requires c =
    let top = c.self.inside.stack in
    let small = (calls_stacked c.self.inside.layouts c.self.invariant.0 c.self.inside.entered.items 16777216 top (omega arith) c.self.invariant.2).ordered in
    let low = c.if-stack-lt-STACK_START.false in
    let room = c.stack_under-stack.ensures.room (omega (arith, low)) in
    (small_declines 20 c.layout-exponents.result.now (omega arith) c.layout-exponents.ensures.declines, omega (arith, small, room))

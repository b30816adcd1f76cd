use Rattle.std.proofs.Common.{◌∙◌, arith}
use Rattle.rv_machine.proofs.Tables.{copies_more}
use Rattle.rv_machine.proofs.memory.write_copies.Goals as goal

pub loop-i-preserved : goal.loop-i-preserved
loop-i-preserved c =
    copies_more c.loop-i.memory c.args.at c.loop-i.i c.args.count c.args.byte (omega arith) ∙ c.loop-i.invariant

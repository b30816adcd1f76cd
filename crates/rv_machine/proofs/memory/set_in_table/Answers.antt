use Rattle.std.proofs.Common.{◌/◌, ◌^◌, arith}
use Rattle.rv_machine.proofs.Parts.{filled_part}
use Rattle.rv_machine.proofs.memory.set_in_table.Goals as goal

pub returns : goal.returns
returns c =
    let within = c.requires.block.within in
    rw c.set.ensures.exact (filled_part c.args.memory.now 2097152 2097152 (c.args.base / 16) (2 ^ c.args.exponent / 16) c.args.exponent (omega (arith, within)))

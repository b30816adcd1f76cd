use Rattle.rv_asm.proofs.Branches.{over_fits}
use Rattle.rv_asm.proofs.emit.push_branch.Goals as goal

pub push_instr-requires-2 : goal.push_instr-requires-2
push_instr-requires-2 c = rw (c.branch_of-2.ensures, c.skip_over.ensures) (over_fits c.inverse.result c.args.rs1 c.args.rs2 c.args.at c.args.to c.requires.registers.0 c.requires.registers.1)

use Rattle.std.proofs.Common.{length}
use Rattle.rv_machine.proofs.blocks.+end_all.Given as goal

abbrev pub decreases-end_all : goal.decreases-end_all
decreases-end_all l = length l.exponents.now

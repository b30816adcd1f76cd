use Rattle.std.proofs.Common.{length}
use Rattle.flat_code.proofs.recognize.+differs.Given as goal

abbrev pub decreases-differs : goal.decreases-differs
decreases-differs l = length l.ys.now

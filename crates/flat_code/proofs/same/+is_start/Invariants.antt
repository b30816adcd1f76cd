use Rattle.std.proofs.Common.{length}
use Rattle.flat_code.proofs.same.+is_start.Given as goal

abbrev pub decreases-is_start : goal.decreases-is_start
decreases-is_start l = length l.a.now

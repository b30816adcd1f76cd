use Rattle.std.proofs.Common.{length}
use Rattle.flat_verify.proofs.clean.+lies_in.Given as goal

abbrev pub decreases-lies_in : goal.decreases-lies_in
decreases-lies_in l = length l.globals.now

use Rattle.std.proofs.Common.{length}
use Rattle.flat_verify.proofs.clean.+reach_past.Given as goal

abbrev pub decreases-reach_past : goal.decreases-reach_past
decreases-reach_past l = length l.globals.now

use Rattle.std.proofs.Common.{length}
use Rattle.flat_verify.proofs.hints.+origin_at.Given as goal

abbrev pub decreases-origin_at : goal.decreases-origin_at
decreases-origin_at l = length l.origins.now

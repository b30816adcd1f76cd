use Rattle.std.proofs.Common.{◌≡◌}
use Rattle.flat_verify.proofs.Origins.{Unset}
use Rattle.flat_verify.proofs.hints.set_now.Given as goal

abbrev pub invariant-loop-k : goal.invariant-loop-k
invariant-loop-k l = (l.origins.items ≡ l.initial.origins.items) × Unset l.value l.origins.items l.k

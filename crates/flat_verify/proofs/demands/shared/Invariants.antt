use Rattle.std.proofs.Common.{◌≡◌, ◌++◌}
use Rattle.std.specs.Prelude.{drop}
use Rattle.flat_discipline.specs.Breaks.{shared}
use Rattle.flat_verify.proofs.demands.shared.Given as goal

abbrev pub invariant-loop-v : goal.invariant-loop-v
invariant-loop-v l = l.both.items ++ shared l.operands (drop l.v-index l.values) ≡ shared l.operands l.values

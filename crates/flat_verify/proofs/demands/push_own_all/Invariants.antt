use Rattle.std.proofs.Common.{◌≡◌, ◌++◌}
use Rattle.std.specs.Prelude.{map, drop}
use Rattle.flat_verify.specs.Views.{fact_of}
use Rattle.flat_verify.specs.Links.{own_all}
use Rattle.flat_verify.proofs.demands.push_own_all.Given as goal

abbrev pub invariant-loop-v : goal.invariant-loop-v
invariant-loop-v l = map fact_of l.facts.items ++ own_all (drop l.v-index l.values) ≡ map fact_of l.initial.facts.items ++ own_all l.values

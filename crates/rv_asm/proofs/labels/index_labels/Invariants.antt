use Rattle.std.specs.Ordering.{nat_cmp}
use Rattle.std.specs.BTreeMap.{get as tree_get}
use Rattle.rv_asm.specs.Resolving.{Indexes}
use Rattle.rv_asm.proofs.labels.index_labels.Given as goal

abbrev pub invariant-loop-k : goal.invariant-loop-k
invariant-loop-k l = Indexes l.parts l.k (tree_get nat_cmp l.labels)

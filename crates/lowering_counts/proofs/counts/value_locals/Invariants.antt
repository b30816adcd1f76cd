use Rattle.std.proofs.Common.{◌≡◌, ◌+◌, ◌≤◌}
use Rattle.std.specs.Prelude.{drop, map, min}
use Rattle.typed_tree.specs.TypedViews.{local_of}
use Rattle.typed_tree.specs.Counts.{value_locals}
use Rattle.lowering_counts.proofs.counts.value_locals.Given as goal

abbrev pub invariant-loop-local : goal.invariant-loop-local
invariant-loop-local l =
    (min (l.count + value_locals (map local_of (drop l.local-index l.locals))) 4294967295 ≡ min (value_locals (map local_of l.locals)) 4294967295)
    × (l.count ≤ 4294967295)

use Rattle.std.proofs.Common.{◌≡◌}
use Rattle.std.specs.Prelude.{drop, map}
use Rattle.lowering_counts.specs.Built.{are_built_locals}
use Rattle.typed_tree.specs.TypedViews.{local_of}
use Rattle.lowering_counts.proofs.built.are_built_locals.Given as goal

abbrev pub invariant-loop-local : goal.invariant-loop-local
invariant-loop-local l = are_built_locals (map local_of (drop l.local-index l.locals)) ≡ are_built_locals (map local_of l.locals)

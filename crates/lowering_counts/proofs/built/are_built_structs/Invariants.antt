use Rattle.std.proofs.Common.{◌≡◌}
use Rattle.std.specs.Prelude.{drop, map}
use Rattle.lowering_counts.specs.Built.{are_built_structs}
use Rattle.typed_tree.specs.TypedViews.{struct_of}
use Rattle.lowering_counts.proofs.built.are_built_structs.Given as goal

abbrev pub invariant-loop-found : goal.invariant-loop-found
invariant-loop-found l = are_built_structs (map struct_of (drop l.found-index l.structs)) ≡ are_built_structs (map struct_of l.structs)

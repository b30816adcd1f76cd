use Rattle.std.proofs.Common.{◌≡◌, ◌+◌, ◌≤◌, ◌++◌}
use Rattle.std.specs.Prelude.{drop, map, ◌&&◌}
use Rattle.typed_tree.specs.Counts.{nodes_of_functions}
use Rattle.typed_tree.specs.TypedViews.{function_of}
use Rattle.lowering_counts.specs.Built.{are_built_functions}
use Rattle.lowering_counts.specs.Counting.{counted_values}
use Rattle.lowering_counts.specs.Limits.{counted}
use Rattle.lowering_counts.proofs.counts.counts_of.Given as goal

abbrev pub invariant-loop-f : goal.invariant-loop-f
invariant-loop-f l = record {
  nodes : counted (l.nodes + nodes_of_functions (map function_of (drop l.f-index l.functions))) ≡ counted (nodes_of_functions (map function_of l.functions));
  few : l.nodes ≤ 4294967295;
  values : l.values ++ counted_values (map function_of (drop l.f-index l.functions)) ≡ counted_values (map function_of l.functions);
  built : (l.built && are_built_functions (map function_of (drop l.f-index l.functions))) ≡ are_built_functions (map function_of l.functions);
}

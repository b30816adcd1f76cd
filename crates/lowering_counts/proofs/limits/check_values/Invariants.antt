use Rattle.std.specs.Prelude.{◌≤◌, All, map, take}
use Rattle.typed_tree.specs.Counts.{values_of}
use Rattle.typed_tree.specs.TypedViews.{function_of}
use Rattle.lowering_counts.proofs.limits.check_values.Given as goal

abbrev pub invariant-loop-number : goal.invariant-loop-number
invariant-loop-number l = All (λ f. values_of f ≤ 250) (take l.number (map function_of l.functions))

use Rattle.std.proofs.Common.{◌≡◌, ◌++◌, map, drop}
use Rattle.flat_code.specs.CodeViews.{function_of}
use Rattle.rv_selected.specs.Selection.{functions_parts}
use Rattle.rv_select.proofs.functions.put_functions.Given as goal

abbrev pub invariant-loop-function : goal.invariant-loop-function
invariant-loop-function l =
    l.parts.items ++ functions_parts l.g l.k l.next (map function_of (drop l.function-index l.functions)) ≡ l.initial.parts.items ++ functions_parts l.g 0 l.fn.label (map function_of l.functions)

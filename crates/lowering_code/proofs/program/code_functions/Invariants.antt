use Rattle.std.proofs.Common.{◌≡◌, ◌++◌}
use Rattle.std.specs.Prelude.{drop, map}
use Rattle.typed_tree.specs.TypedViews.{struct_of, function_of}
use Rattle.mid_code.specs.Views.{function_of as mid_function}
use Rattle.lowering_code.specs.Lower.{function_code}
use Rattle.lowering_code.proofs.program.code_functions.Given as goal

abbrev pub invariant-loop-number : goal.invariant-loop-number
invariant-loop-number l =
    map mid_function l.code ++ map (function_code (map struct_of l.structs)) (map function_of (drop l.number l.functions)) ≡ map (function_code (map struct_of l.structs)) (map function_of l.functions)

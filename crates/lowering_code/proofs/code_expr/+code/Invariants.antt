use Rattle.std.proofs.Common.{◌≡◌, ◌++◌}
use Rattle.std.specs.Prelude.{drop, map}
use Rattle.typed_tree.specs.TypedViews.{struct_of, exprs_of}
use Rattle.mid_code.specs.Code.{append}
use Rattle.mid_code.specs.Views.{steps_of}
use Rattle.lowering_code.specs.Lower as lower
use Rattle.lowering_code.proofs.code_expr.+code.Given as goal

abbrev pub invariant-code_args-loop-e : goal.invariant-code_args-loop-e
invariant-code_args-loop-e l =
    (append (steps_of l.code.items) (lower.all_code (map struct_of l.structs) (exprs_of (drop l.e-index l.args)) l.at) ≡ append (steps_of l.initial.code.items) (lower.all_code (map struct_of l.structs) (exprs_of l.args) l.to))
    × (l.places.items ++ lower.places (exprs_of (drop l.e-index l.args)) l.at ≡ l.initial.places.items ++ lower.places (exprs_of l.args) l.to)

use Rattle.std.proofs.Common.{◌≡◌, drop}
use Rattle.std.specs.Prelude.{map}
use Rattle.std.specs.Vec.Iter.{into_iter_items}
use Rattle.typed_tree.specs.TypesViewed.{ty_of}
use Rattle.typed_tree.specs.TypedViews.{expr_of, exprs_of}
use Rattle.typing_operators.specs.Operators.{passed}
use Rattle.typing_expressions.proofs.Arguments.{with_front}
use Rattle.typing_expressions.proofs.calls.passed.Given as goal

abbrev pub invariant-loop-ty : goal.invariant-loop-ty
invariant-loop-ty l =
    with_front (map expr_of l.given_to.items) (passed l.line (map ty_of (drop l.ty-index l.params)) (exprs_of (into_iter_items l.rest)))
    ≡ passed l.line (map ty_of l.fn.params) (exprs_of l.fn.arguments.items)

use Rattle.std.specs.Prelude.{map}
use Rattle.typed_tree.specs.TypesViewed.{ty_of}
use Rattle.typed_tree.specs.TypedViews.{exprs_of}
use Rattle.typing_expressions.proofs.Arguments.{call_is}
use Rattle.typing_expressions.proofs.calls.call.Goals as goal

pub returns : goal.returns
returns c =
    call_is c.args.at c.args.called c.args.result_type (map ty_of c.args.params.now) (exprs_of c.args.arguments.items)
    c.in_ok-arguments.arguments c.in_ok-arguments.ensures

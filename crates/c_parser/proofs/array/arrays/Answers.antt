use Rattle.std.proofs.Common.{ap}
use Rattle.std.proofs.lemmas.Result.{err_from_is_err_and}
use Rattle.c_parser_rules.specs.Tests.{is_open_bracket}
use Rattle.c_parser_expressions.proofs.CodeSteps.{saw_yes, saw_no}
use Rattle.c_parser_expressions.proofs.Choices.{no_open_bracket}
use Rattle.c_parser_expressions.proofs.Fewer.{shorter_by, array_moves}
use Rattle.c_parser_expressions.proofs.Lists.{collected, repeat_more, repeat_failed, repeat_end}
use Rattle.c_parser.proofs.array.arrays.Goals as goal

pub arrays-init : goal.arrays-init
arrays-init c = λ res new g. collected c.new-arrays.ensures.items g

pub arrays-smaller : goal.arrays-smaller
arrays-smaller c = shorter_by (array_moves c.args.depth) c.in_ok-array.ensures

pub arrays-preserved : goal.arrays-preserved
arrays-preserved c = λ res new g. c.arrays.invariant res new
    (repeat_more is_open_bracket _ (ap is_open_bracket (saw_yes c.sees.ensures c.arrays-test.true)) c.in_ok-array.ensures c.in_ok-push.ensures.items g)

pub returns-in_err-array : goal.returns-in_err-array
returns-in_err-array c =
    let p = err_from_is_err_and c.from_residual.result c.from_residual.ensures.1 in
    rw (p.1, p.2) (c.arrays.invariant _ _ (repeat_failed is_open_bracket _ (ap is_open_bracket (saw_yes c.sees.ensures c.arrays-test.true)) c.in_err-array.ensures))

pub returns : goal.returns
returns c = c.arrays.invariant _ _ (repeat_end is_open_bracket _ (no_open_bracket _ (saw_no c.sees.ensures c.arrays-test.false)))

use Rattle.std.proofs.Common.{refl, ap, Some}
use Rattle.std.proofs.lemmas.Result.{err_from_is_err_and}
use Rattle.syntax_tree.specs.SyntaxViews.{expression_tree}
use Rattle.c_parser_rules.specs.Tests.{is_close_bracket}
use Rattle.c_parser_expressions.proofs.CodeSteps.{called, call_failed, gave, when_yes, when_no, saw_yes, saw_no}
use Rattle.c_parser_expressions.proofs.Further.{no_close_bracket}
use Rattle.c_parser.proofs.array.size.Goals as goal

pub returns-then-sees : goal.returns-then-sees
returns-then-sees c = when_yes is_close_bracket _ _ (ap is_close_bracket (saw_yes c.sees.ensures c.if-sees.true)) (gave refl)

pub returns-in_err-size : goal.returns-in_err-size
returns-in_err-size c =
    let p = err_from_is_err_and c.from_residual.result c.from_residual.ensures.1 in
    rw (p.1, p.2) (when_no is_close_bracket _ _ (no_close_bracket _ (saw_no c.sees.ensures c.if-sees.false)) (call_failed c.in_err-size.ensures))

pub returns : goal.returns
returns c = when_no is_close_bracket _ _ (no_close_bracket _ (saw_no c.sees.ensures c.if-sees.false)) (called c.in_ok-size.ensures (gave (ap (λ z. Some (expression_tree z)) c.into_expression.ensures)))

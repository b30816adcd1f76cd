use Rattle.std.proofs.Common.{add-one, ap, ◌∙◌}
use Rattle.std.proofs.lemmas.Result.{err_from_is_err_and}
use Rattle.syntax_tree.specs.SyntaxViews.{expression_tree}
use Rattle.syntax_tree.specs.Syntax.{InitializerTree}
use Rattle.c_parser_rules.specs.Tests.{is_comma, is_open_brace, is_close_brace}
use Rattle.c_parser_expressions.proofs.CodeSteps.{called, call_failed, took, take_failed, gave, when_yes, when_no, saw_yes, saw_no}
use Rattle.c_parser_expressions.proofs.Choices.{no_comma}
use Rattle.c_parser_expressions.proofs.Fewer.{comma_shorter}
use Rattle.c_parser_expressions.proofs.Lists.{goes_stop, collected, parts_more, parts_comma, parts_end}
use Rattle.c_parser_expressions.proofs.Further.{no_open_brace, no_close_brace}
use Rattle.c_parser.proofs.initializer.+initializer.Goals as goal

pub initializer-returns-in_err-value : goal.initializer-returns-in_err-value
initializer-returns-in_err-value t c =
    let p = err_from_is_err_and c.from_residual.result c.from_residual.ensures.1 in
    rw (p.1, p.2) (when_no is_open_brace _ _ (no_open_brace _ (saw_no c.sees.ensures c.if-not-sees.true)) (call_failed c.in_err-value.ensures))

pub initializer-returns-then-not-sees : goal.initializer-returns-then-not-sees
initializer-returns-then-not-sees t c = when_no is_open_brace _ _ (no_open_brace _ (saw_no c.sees.ensures c.if-not-sees.true)) (called c.in_ok-value.ensures (gave (c.single.ensures ∙ ap (λ z. InitializerTree.Expression (expression_tree z)) c.into_expression.ensures)))

pub initializer-returns-in_err-at : goal.initializer-returns-in_err-at
initializer-returns-in_err-at t c =
    let p = err_from_is_err_and c.from_residual-in_err-at.result c.from_residual-in_err-at.ensures.1 in
    rw (p.1, p.2) (when_yes is_open_brace _ _ (ap is_open_brace (saw_yes c.sees.ensures c.if-not-sees.false)) (take_failed c.in_err-at.ensures))

pub initializer-returns-in_err-parts : goal.initializer-returns-in_err-parts
initializer-returns-in_err-parts t c =
    let p = err_from_is_err_and c.from_residual-in_err-parts.result c.from_residual-in_err-parts.ensures.1 in
    rw (p.1, p.2) (when_yes is_open_brace _ _ (ap is_open_brace (saw_yes c.sees.ensures c.if-not-sees.false)) (took c.in_ok-at.ensures (call_failed (rw add-one at c.in_err-parts.ensures))))

pub initializer-returns-in_err-take_mark : goal.initializer-returns-in_err-take_mark
initializer-returns-in_err-take_mark t c =
    let p = err_from_is_err_and c.from_residual-in_err-take_mark.result c.from_residual-in_err-take_mark.ensures.1 in
    rw (p.1, p.2) (when_yes is_open_brace _ _ (ap is_open_brace (saw_yes c.sees.ensures c.if-not-sees.false)) (took c.in_ok-at.ensures (called (rw add-one at c.in_ok-parts.ensures) (take_failed c.in_err-take_mark.ensures))))

pub initializer-returns : goal.initializer-returns
initializer-returns t c = when_yes is_open_brace _ _ (ap is_open_brace (saw_yes c.sees.ensures c.if-not-sees.false)) (took c.in_ok-at.ensures (called (rw add-one at c.in_ok-parts.ensures) (took c.in_ok-take_mark.ensures (gave c.braced.ensures))))

pub parts-parts-init : goal.parts-parts-init
parts-parts-init t c = λ res new g. collected c.new-parts.ensures.items g

pub parts-parts-smaller : goal.parts-parts-smaller
parts-parts-smaller t c = comma_shorter c.in_ok-part.ensures c.in_ok-take_mark.ensures

pub parts-parts-preserved : goal.parts-parts-preserved
parts-parts-preserved t c = λ res new g. c.parts.invariant res new
    (parts_more c.in_ok-part.ensures (ap is_comma (saw_yes c.sees.ensures c.if-not-sees.false)) c.in_ok-take_mark.ensures (no_close_brace _ (saw_no c.sees-in-parts.ensures c.if-sees.false)) c.in_ok-push.ensures.items g)

pub parts-returns-in_err-part : goal.parts-returns-in_err-part
parts-returns-in_err-part t c =
    let p = err_from_is_err_and c.from_residual.result c.from_residual.ensures.1 in
    rw (p.1, p.2) (c.parts.invariant _ _ (goes_stop (call_failed c.in_err-part.ensures)))

pub parts-returns-then-not-sees : goal.parts-returns-then-not-sees
parts-returns-then-not-sees t c = c.parts.invariant _ _ (parts_end c.in_ok-part.ensures (no_comma _ (saw_no c.sees.ensures c.if-not-sees.true)) c.in_ok-push.ensures.items)

pub parts-returns-then-sees : goal.parts-returns-then-sees
parts-returns-then-sees t c = c.parts.invariant _ _ (parts_comma c.in_ok-part.ensures (ap is_comma (saw_yes c.sees.ensures c.if-not-sees.false)) c.in_ok-take_mark.ensures (ap is_close_brace (saw_yes c.sees-in-parts.ensures c.if-sees.true)) c.in_ok-push.ensures.items)

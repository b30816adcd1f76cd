use Rattle.std.proofs.Common.{ap, ◌∙◌, [], ◌∷◌, ◌++◌}
use Rattle.std.specs.Prelude.{map}
use Rattle.std.proofs.lemmas.Result.{err_from_is_err_and}
use Rattle.syntax_tree.specs.SyntaxViews.{init_declarator_tree}
use Rattle.c_parser_rules.specs.Tests.{is_comma}
use Rattle.c_parser_expressions.proofs.CodeSteps.{took, take_failed, gave, when_yes, when_no, saw_yes, saw_no}
use Rattle.c_parser_expressions.proofs.Choices.{no_comma}
use Rattle.c_parser_expressions.proofs.Lists.{first_then}
use Rattle.c_parser.proofs.unit.further.Goals as goal

pub returns-then-not-sees : goal.returns-then-not-sees
returns-then-not-sees c = when_no is_comma _ _ (no_comma _ (saw_no c.sees.ensures c.if-not-sees.true)) (gave (ap (λ z. map init_declarator_tree z) (c.in_ok-push.ensures.items ∙ ap (λ z. z ++ (c.args.first ∷ [])) c.new-declarators.ensures.items)))

pub returns-in_err-take_mark : goal.returns-in_err-take_mark
returns-in_err-take_mark c =
    let p = err_from_is_err_and c.from_residual-in_err-take_mark.result c.from_residual-in_err-take_mark.ensures.1 in
    rw (p.1, p.2) (when_yes is_comma _ _ (ap is_comma (saw_yes c.sees.ensures c.if-not-sees.false)) (take_failed c.in_err-take_mark.ensures))

pub returns : goal.returns
returns c = when_yes is_comma _ _ (ap is_comma (saw_yes c.sees.ensures c.if-not-sees.false)) (took c.in_ok-take_mark.ensures (first_then (c.in_ok-push.ensures.items ∙ ap (λ z. z ++ (c.args.first ∷ [])) c.new-declarators.ensures.items) c.init_declarators.ensures))

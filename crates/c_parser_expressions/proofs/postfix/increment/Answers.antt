use Rattle.std.proofs.Common.{Some}
use Rattle.c_words.specs.Tokens.{Token}
use Rattle.c_words.specs.declared.words.Punctuator.TheVariants as m
use Rattle.syntax_tree.specs.SyntaxViews.{expression_tree}
use Rattle.std.proofs.lemmas.Result.{err_from_is_err_and}
use Rattle.c_parser_rules.specs.Programs.{Rule}
use Rattle.c_parser_rules.specs.Bodies.{postfix_by}
use Rattle.c_parser_expressions.proofs.CodeSteps.{leads_seen, leads_took, leads_take_failed, leads_on, next_shorter}
use Rattle.c_parser_expressions.proofs.postfix.increment.Goals as goal

pub returns-in_err-at-clause-leads : goal.returns-in_err-at-clause-leads
returns-in_err-at-clause-leads c = λ d.
    let p = err_from_is_err_and c.from_residual.result c.from_residual.ensures.1 in
    rw (p.1, p.2) (leads_seen (postfix_by d (expression_tree c.args.operand)) (Some (Token.Punctuator m.PlusPlus)) c.requires (leads_take_failed c.requires (rw c.is_low.ensures at c.in_err-at.ensures)))

pub returns-clause-leads : goal.returns-clause-leads
returns-clause-leads c = λ d. leads_seen (postfix_by d (expression_tree c.args.operand)) (Some (Token.Punctuator m.PlusPlus)) c.requires (leads_took c.requires (rw c.is_low.ensures at c.in_ok-at.ensures) (leads_on (λ z. Rule.postfix_rest d z) c.in_ok-step_after.ensures))

pub returns-clause-fewer : goal.returns-clause-fewer
returns-clause-fewer c = next_shorter c.in_ok-at.ensures

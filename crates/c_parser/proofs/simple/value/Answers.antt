use Rattle.std.proofs.Common.{refl, sym, ap, ◌∙◌, true, false}
use Rattle.std.proofs.lemmas.Result.{err_from_is_err_and}
use Rattle.c_words.specs.Tokens.{Token}
use Rattle.syntax_tree.specs.SyntaxViews.{expression_tree}
use Rattle.syntax_tree.specs.Syntax.{StatementTree}
use Rattle.c_parser_rules.specs.Programs.{Rule, Program}
use Rattle.c_parser_rules.specs.Bodies.{value_statement}
use Rattle.c_parser_expressions.proofs.CodeSteps.{called, call_failed, took, take_failed, gave, refused}
use Rattle.c_parser_expressions.proofs.Further.{read_ahead, none_first}
use Rattle.c_words.specs.declared.words.Punctuator.TheVariants as m
use Rattle.c_parser.proofs.simple.value.Goals as goal

pub returns-in-None : goal.returns-in-None
returns-in-None c = rw (none_first _ (sym c.next_at.ensures ∙ c.in-None.is)) refused

pub returns-in_err-value : goal.returns-in_err-value
returns-in_err-value c =
    let p = err_from_is_err_and c.from_residual.result c.from_residual.ensures.1 in
    rw (p.1, p.2) ((read_ahead (value_statement c.args.depth) (λ from. Program.call (Rule.expression c.args.depth) (λ a. Program.take (Token.Punctuator m.Semicolon) true (λ to. Program.give (StatementTree.Expression from a, false)))) (λ t. refl) (sym c.next_at.ensures ∙ c.in-Some.is) (call_failed c.in_err-value.ensures)))

pub returns-in_err-take_mark : goal.returns-in_err-take_mark
returns-in_err-take_mark c =
    let p = err_from_is_err_and c.from_residual-in_err-take_mark.result c.from_residual-in_err-take_mark.ensures.1 in
    rw (p.1, p.2) ((read_ahead (value_statement c.args.depth) (λ from. Program.call (Rule.expression c.args.depth) (λ a. Program.take (Token.Punctuator m.Semicolon) true (λ to. Program.give (StatementTree.Expression from a, false)))) (λ t. refl) (sym c.next_at.ensures ∙ c.in-Some.is) (called c.in_ok-value.ensures (take_failed c.in_err-take_mark.ensures))))

pub returns : goal.returns
returns c = read_ahead (value_statement c.args.depth) (λ from. Program.call (Rule.expression c.args.depth) (λ a. Program.take (Token.Punctuator m.Semicolon) true (λ to. Program.give (StatementTree.Expression from a, false)))) (λ t. refl) (sym c.next_at.ensures ∙ c.in-Some.is) (called c.in_ok-value.ensures (took c.in_ok-take_mark.ensures (gave (ap (λ z. (z, false)) (c.value_statement.ensures ∙ ap (λ z. StatementTree.Expression c.in-Some.at (expression_tree z)) c.into_expression.ensures)))))

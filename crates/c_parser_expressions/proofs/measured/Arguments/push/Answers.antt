use Rattle.std.proofs.Common.{rules, arith}
use Rattle.std.proofs.lemmas.Grind.{common_steps}
use Rattle.syntax_tree.specs.SyntaxViews.{expression_tree}
use Rattle.c_parser_expressions.proofs.Heights.{added}
use Rattle.c_parser_expressions.proofs.measured.Arguments.push.Goals as goal

pub invariant_of-self-2 : goal.invariant_of-self-2
invariant_of-self-2 c =
    let h = added expression_tree c.self.inside.expressions.items c.args.argument in
    rw (c.in_ok-push.ensures.items, c.into_expression.ensures, h) (first_of (search rules, grind (arith, common_steps)))

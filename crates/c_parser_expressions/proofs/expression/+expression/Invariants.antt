use Rattle.std.proofs.Common.{List, ◌+◌, ◌*◌, ◌≤◌, Result, Vec, Global, length}
use Rattle.c_words.specs.Tokens.{Placed}
use Rattle.syntax_tree.specs.declared.syntax.expressions.Expression.{Expression}
use Rattle.syntax_tree.specs.SyntaxViews.{expression_tree, expression_trees}
use Rattle.c_parser_expressions.specs.declared.cursor.Stop.{Stop}
use Rattle.c_parser_rules.specs.Programs.{Sort, Rule}
use Rattle.c_parser_rules.specs.Bodies.{body}
use Rattle.c_parser_expressions.specs.Reads.{Reads}
use Rattle.c_parser_expressions.proofs.ExpressionSteps.{MoreArguments, MoreSizes, rest_of}
use Rattle.c_parser_expressions.proofs.expression.+expression.Given as goal

abbrev pub decreases-expression : goal.decreases-expression
decreases-expression l = 32 * length l.cursor.now + 19

abbrev pub decreases-assignment : goal.decreases-assignment
decreases-assignment l = 32 * length l.cursor.now + 18

abbrev pub decreases-conditional : goal.decreases-conditional
decreases-conditional l = 32 * length l.cursor.now + 17

abbrev pub decreases-binary : goal.decreases-binary
decreases-binary l = 32 * length l.cursor.now + (6 + l.strength)

abbrev pub decreases-cast : goal.decreases-cast
decreases-cast l = 32 * length l.cursor.now + 5

abbrev pub decreases-converted : goal.decreases-converted
decreases-converted l = 32 * length l.cursor.now + 3

abbrev pub decreases-unary : goal.decreases-unary
decreases-unary l = 32 * length l.cursor.now + 4

abbrev pub decreases-sizeof : goal.decreases-sizeof
decreases-sizeof l = 32 * length l.cursor.now + 21

abbrev pub decreases-postfix : goal.decreases-postfix
decreases-postfix l = 32 * length l.cursor.now + 3

abbrev pub decreases-postfix_rest : goal.decreases-postfix_rest
decreases-postfix_rest l = 32 * length l.cursor.now + 2

abbrev pub decreases-suffixed : goal.decreases-suffixed
decreases-suffixed l = 32 * length l.cursor.now + 1

abbrev pub decreases-index : goal.decreases-index
decreases-index l = 32 * length l.cursor.now + 0

abbrev pub decreases-call : goal.decreases-call
decreases-call l = 32 * length l.cursor.now + 0

abbrev pub decreases-primary : goal.decreases-primary
decreases-primary l = 32 * length l.cursor.now + 0

abbrev pub decreases-parenthesized : goal.decreases-parenthesized
decreases-parenthesized l = 32 * length l.cursor.now + 20

abbrev pub decreases-arguments : goal.decreases-arguments
decreases-arguments l = 32 * length l.cursor.now + 19

abbrev pub decreases-type_name : goal.decreases-type_name
decreases-type_name l = 32 * length l.cursor.now + 2

abbrev pub decreases-type_declarator : goal.decreases-type_declarator
decreases-type_declarator l = 32 * length l.cursor.now + 1

abbrev pub decreases-nested : goal.decreases-nested
decreases-nested l = 32 * length l.cursor.now + 0

abbrev pub decreases-sizes : goal.decreases-sizes
decreases-sizes l = 32 * length l.cursor.now + 0

abbrev pub invariant-expression-loop-alloc : goal.invariant-expression-loop-alloc
invariant-expression-loop-alloc l = record {
  goes : (res : Result Expression Stop) (new : List Placed) → Reads Sort.expression (body (Rule.comma_rest l.depth (expression_tree l.left))) expression_tree l.cursor res new → Reads Sort.expression (body (Rule.expression l.depth)) expression_tree l.fn.cursor res new;
  few : length l.cursor ≤ length l.fn.cursor;
}

abbrev pub decreases-expression-loop-alloc : goal.decreases-expression-loop-alloc
decreases-expression-loop-alloc l = length l.cursor

abbrev pub invariant-binary-loop-operator : goal.invariant-binary-loop-operator
invariant-binary-loop-operator l = record {
  goes : (res : Result Expression Stop) (new : List Placed) → Reads Sort.expression (rest_of l.strength l.depth (expression_tree l.left)) expression_tree l.cursor res new → Reads Sort.expression (body (Rule.binary l.strength l.depth)) expression_tree l.fn.cursor res new;
  few : length l.cursor ≤ length l.fn.cursor;
}

abbrev pub decreases-binary-loop-operator : goal.decreases-binary-loop-operator
decreases-binary-loop-operator l = length l.cursor

abbrev pub invariant-postfix_rest-loop-alloc : goal.invariant-postfix_rest-loop-alloc
invariant-postfix_rest-loop-alloc l = record {
  goes : (res : Result Expression Stop) (new : List Placed) → Reads Sort.expression (body (Rule.postfix_rest l.depth (expression_tree l.operand))) expression_tree l.cursor res new → Reads Sort.expression (body (Rule.postfix_rest l.depth (expression_tree l.fn.first_operand))) expression_tree l.fn.cursor res new;
  few : length l.cursor ≤ length l.fn.cursor;
}

abbrev pub decreases-postfix_rest-loop-alloc : goal.decreases-postfix_rest-loop-alloc
decreases-postfix_rest-loop-alloc l = length l.cursor

abbrev pub invariant-arguments-loop-alloc : goal.invariant-arguments-loop-alloc
invariant-arguments-loop-alloc l = record {
  goes : (res : Result (List Expression) Stop) (new : List Placed) → MoreArguments l.depth (λ x. x) l.arguments l.cursor res new → Reads Sort.expressions (body (Rule.arguments l.depth)) expression_trees l.fn.cursor res new;
  few : length l.cursor ≤ length l.fn.cursor;
}

abbrev pub decreases-arguments-loop-alloc : goal.decreases-arguments-loop-alloc
decreases-arguments-loop-alloc l = length l.cursor

abbrev pub invariant-sizes-loop-alloc : goal.invariant-sizes-loop-alloc
invariant-sizes-loop-alloc l = record {
  goes : (res : Result (Vec Expression Global) Stop) (new : List Placed) → MoreSizes l.depth (λ v. v.items) l.sizes.items l.cursor res new → Reads Sort.expressions (body (Rule.sizes l.depth)) (λ v. expression_trees v.items) l.fn.cursor res new;
  few : length l.cursor ≤ length l.fn.cursor;
}

abbrev pub decreases-sizes-loop-alloc : goal.decreases-sizes-loop-alloc
decreases-sizes-loop-alloc l = length l.cursor

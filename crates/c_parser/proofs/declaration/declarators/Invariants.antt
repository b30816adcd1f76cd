use Rattle.std.proofs.Common.{length, Vec, Global, Result, List}
use Rattle.std.specs.Prelude.{map}
use Rattle.c_words.specs.Tokens.{Placed}
use Rattle.syntax_tree.specs.SyntaxViews.{declarator_tree}
use Rattle.c_parser_expressions.specs.declared.cursor.Stop.{Stop}
use Rattle.c_parser_rules.specs.Programs.{Sort, Rule}
use Rattle.c_parser_rules.specs.Bodies.{body}
use Rattle.c_parser_expressions.specs.Reads.{Reads, GoesOn}
use Rattle.syntax_tree.specs.declared.syntax.declarators.Declarator.{Declarator}
use Rattle.c_parser.proofs.declaration.declarators.Given as goal

abbrev pub invariant-declarators : goal.invariant-declarators
invariant-declarators l = (res : Result (Vec Declarator Global) Stop) (new : List Placed)
    → GoesOn (Sort.many Sort.declarator) (body (Rule.commas (Rule.declarator l.fn.depth))) (map declarator_tree) (λ v. v.items) l.declarators.items l.cursor res new
    → Reads (Sort.many Sort.declarator) (body (Rule.commas (Rule.declarator l.fn.depth))) (λ v. map declarator_tree v.items) l.fn.cursor res new

abbrev pub decreases-declarators : goal.decreases-declarators
decreases-declarators l = length l.cursor

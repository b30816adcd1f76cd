use Rattle.std.proofs.Common.{length, Vec, Global, Result, List}
use Rattle.std.specs.Prelude.{map}
use Rattle.c_words.specs.Tokens.{Placed}
use Rattle.syntax_tree.specs.SyntaxViews.{parameter_tree}
use Rattle.c_parser_expressions.specs.declared.cursor.Stop.{Stop}
use Rattle.c_parser_rules.specs.Programs.{Sort, Rule}
use Rattle.c_parser_rules.specs.Bodies.{body}
use Rattle.c_parser_expressions.specs.Reads.{Reads, GoesOn}
use Rattle.syntax_tree.specs.declared.syntax.declarators.Parameter.{Parameter}
use Rattle.c_parser.proofs.parameter.listed.Given as goal

abbrev pub invariant-parameters : goal.invariant-parameters
invariant-parameters l = (res : Result (Vec Parameter Global) Stop) (new : List Placed)
    → GoesOn (Sort.many Sort.parameter) (body (Rule.commas (Rule.parameter l.fn.depth))) (map parameter_tree) (λ v. v.items) l.parameters.items l.cursor res new
    → Reads (Sort.many Sort.parameter) (body (Rule.commas (Rule.parameter l.fn.depth))) (λ v. map parameter_tree v.items) l.fn.cursor res new

abbrev pub decreases-parameters : goal.decreases-parameters
decreases-parameters l = length l.cursor

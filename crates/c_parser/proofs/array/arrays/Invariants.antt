use Rattle.std.proofs.Common.{length, Vec, Global, Result, List}
use Rattle.std.specs.Prelude.{map}
use Rattle.c_words.specs.Tokens.{Placed}
use Rattle.syntax_tree.specs.SyntaxViews.{array_tree}
use Rattle.c_parser_expressions.specs.declared.cursor.Stop.{Stop}
use Rattle.c_parser_rules.specs.Programs.{Sort, Rule}
use Rattle.c_parser_rules.specs.Tests.{is_open_bracket}
use Rattle.c_parser_rules.specs.Bodies.{body}
use Rattle.c_parser_expressions.specs.Reads.{Reads, GoesOn}
use Rattle.syntax_tree.specs.declared.syntax.declarators.Array.{Array}
use Rattle.c_parser.proofs.array.arrays.Given as goal

abbrev pub invariant-arrays : goal.invariant-arrays
invariant-arrays l = (res : Result (Vec Array Global) Stop) (new : List Placed)
    → GoesOn (Sort.many Sort.array) (body (Rule.repeat is_open_bracket (Rule.array l.fn.depth))) (map array_tree) (λ v. v.items) l.arrays.items l.cursor res new
    → Reads (Sort.many Sort.array) (body (Rule.repeat is_open_bracket (Rule.array l.fn.depth))) (λ v. map array_tree v.items) l.fn.cursor res new

abbrev pub decreases-arrays : goal.decreases-arrays
decreases-arrays l = length l.cursor

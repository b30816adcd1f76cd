use Rattle.std.proofs.Common.{length, Vec, Global, Result, List}
use Rattle.std.specs.Prelude.{map}
use Rattle.c_words.specs.Tokens.{Placed}
use Rattle.syntax_tree.specs.SyntaxViews.{suffix_tree}
use Rattle.c_parser_expressions.specs.declared.cursor.Stop.{Stop}
use Rattle.c_parser_rules.specs.Programs.{Sort, Rule}
use Rattle.c_parser_rules.specs.Tests.{begins_suffix}
use Rattle.c_parser_rules.specs.Bodies.{body}
use Rattle.c_parser_expressions.specs.Reads.{Reads, GoesOn}
use Rattle.syntax_tree.specs.declared.syntax.declarators.Suffix.{Suffix}
use Rattle.c_parser.proofs.declarator.suffixes.Given as goal

abbrev pub invariant-suffixes : goal.invariant-suffixes
invariant-suffixes l = (res : Result (Vec Suffix Global) Stop) (new : List Placed)
    → GoesOn (Sort.many Sort.suffix) (body (Rule.repeat begins_suffix (Rule.suffix l.fn.depth))) (map suffix_tree) (λ v. v.items) l.suffixes.items l.cursor res new
    → Reads (Sort.many Sort.suffix) (body (Rule.repeat begins_suffix (Rule.suffix l.fn.depth))) (λ v. map suffix_tree v.items) l.fn.cursor res new

abbrev pub decreases-suffixes : goal.decreases-suffixes
decreases-suffixes l = length l.cursor

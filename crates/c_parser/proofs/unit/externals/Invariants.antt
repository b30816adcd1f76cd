use Rattle.std.proofs.Common.{length, Vec, Global, Result, List}
use Rattle.std.specs.Prelude.{map}
use Rattle.c_words.specs.Tokens.{Placed}
use Rattle.syntax_tree.specs.SyntaxViews.{external_tree}
use Rattle.c_parser_expressions.specs.declared.cursor.Stop.{Stop}
use Rattle.c_parser_rules.specs.Programs.{Sort, Rule}
use Rattle.c_parser_rules.specs.Tests.{is_some}
use Rattle.c_parser_rules.specs.Bodies.{body}
use Rattle.c_parser_expressions.specs.Reads.{GoesOn}
use Rattle.syntax_tree.specs.declared.syntax.units.External.{External}
use Rattle.c_parser.proofs.unit.externals.Given as goal

abbrev pub invariant-externals : goal.invariant-externals
invariant-externals l = (res : Result (Vec External Global) Stop) (new : List Placed)
    → GoesOn (Sort.many Sort.external) (body (Rule.repeat is_some (Rule.external 0))) (map external_tree) (λ v. v.items) l.externals.items l.cursor res new
    → GoesOn (Sort.many Sort.external) (body (Rule.repeat is_some (Rule.external 0))) (map external_tree) (λ v. v.items) l.fn.externals.items l.fn.cursor res new

abbrev pub decreases-externals : goal.decreases-externals
decreases-externals l = length l.cursor

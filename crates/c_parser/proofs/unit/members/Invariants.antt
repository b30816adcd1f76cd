use Rattle.std.proofs.Common.{length, Vec, Global, Result, List}
use Rattle.std.specs.Prelude.{map}
use Rattle.c_words.specs.Tokens.{Placed}
use Rattle.syntax_tree.specs.SyntaxViews.{member_declaration_tree}
use Rattle.c_parser_expressions.specs.declared.cursor.Stop.{Stop}
use Rattle.c_parser_rules.specs.Programs.{Sort, Rule}
use Rattle.c_parser_rules.specs.Tests.{goes_on}
use Rattle.c_parser_rules.specs.Bodies.{body}
use Rattle.c_parser_expressions.specs.Reads.{GoesOn}
use Rattle.syntax_tree.specs.declared.syntax.declarations.MemberDeclaration.{MemberDeclaration}
use Rattle.c_parser.proofs.unit.members.Given as goal

abbrev pub invariant-members : goal.invariant-members
invariant-members l = (res : Result (Vec MemberDeclaration Global) Stop) (new : List Placed)
    → GoesOn (Sort.many Sort.member) (body (Rule.repeat goes_on (Rule.member l.fn.depth))) (map member_declaration_tree) (λ v. v.items) l.members.items l.cursor res new
    → GoesOn (Sort.many Sort.member) (body (Rule.repeat goes_on (Rule.member l.fn.depth))) (map member_declaration_tree) (λ v. v.items) l.fn.members.items l.fn.cursor res new

abbrev pub decreases-members : goal.decreases-members
decreases-members l = length l.cursor

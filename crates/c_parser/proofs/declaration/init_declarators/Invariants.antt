use Rattle.std.proofs.Common.{length, Vec, Global, Result, List}
use Rattle.std.specs.Prelude.{map}
use Rattle.c_words.specs.Tokens.{Placed}
use Rattle.syntax_tree.specs.SyntaxViews.{init_declarator_tree}
use Rattle.c_parser_expressions.specs.declared.cursor.Stop.{Stop}
use Rattle.c_parser_rules.specs.Programs.{Sort, Rule}
use Rattle.c_parser_rules.specs.Bodies.{body}
use Rattle.c_parser_expressions.specs.Reads.{GoesOn}
use Rattle.syntax_tree.specs.declared.syntax.declarations.InitDeclarator.{InitDeclarator}
use Rattle.c_parser.proofs.declaration.init_declarators.Given as goal

abbrev pub invariant-declarators : goal.invariant-declarators
invariant-declarators l = (res : Result (Vec InitDeclarator Global) Stop) (new : List Placed)
    → GoesOn (Sort.many Sort.init_declarator) (body (Rule.commas (Rule.init_declarator l.fn.depth))) (map init_declarator_tree) (λ v. v.items) l.declarators.items l.cursor res new
    → GoesOn (Sort.many Sort.init_declarator) (body (Rule.commas (Rule.init_declarator l.fn.depth))) (map init_declarator_tree) (λ v. v.items) l.fn.declarators.items l.fn.cursor res new

abbrev pub decreases-declarators : goal.decreases-declarators
decreases-declarators l = length l.cursor

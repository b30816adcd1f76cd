use Rattle.std.proofs.Common.{length, ◌-◌, ◌+◌, ◌*◌, Vec, Global, Result, List}
use Rattle.c_words.specs.Tokens.{Placed}
use Rattle.syntax_tree.specs.SyntaxViews.{initializer_trees}
use Rattle.c_parser_expressions.specs.declared.cursor.Stop.{Stop}
use Rattle.c_parser_rules.specs.Programs.{Sort, Rule}
use Rattle.c_parser_rules.specs.Bodies.{body}
use Rattle.c_parser_expressions.specs.Reads.{Reads, GoesOn}
use Rattle.syntax_tree.specs.declared.syntax.declarations.Initializer.{Initializer}
use Rattle.c_parser.proofs.initializer.+initializer.Given as goal

abbrev pub decreases-initializer : goal.decreases-initializer
decreases-initializer l = 2 * (200 - l.depth)

abbrev pub decreases-parts : goal.decreases-parts
decreases-parts l = 2 * (200 - l.depth) + 1

abbrev pub invariant-parts-parts : goal.invariant-parts-parts
invariant-parts-parts l = (res : Result (Vec Initializer Global) Stop) (new : List Placed)
    → GoesOn Sort.initializers (body (Rule.parts l.fn.depth)) (λ zs. initializer_trees zs) (λ v. v.items) l.parts.items l.cursor res new
    → Reads Sort.initializers (body (Rule.parts l.fn.depth)) (λ v. initializer_trees v.items) l.fn.cursor res new

abbrev pub decreases-parts-parts : goal.decreases-parts-parts
decreases-parts-parts l = length l.cursor

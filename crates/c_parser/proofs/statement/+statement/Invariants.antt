use Rattle.std.proofs.Common.{length, ◌-◌, ◌+◌, ◌*◌, Vec, Global, Result, List}
use Rattle.c_words.specs.Tokens.{Placed}
use Rattle.syntax_tree.specs.SyntaxViews.{block_item_trees}
use Rattle.c_parser_expressions.specs.declared.cursor.Stop.{Stop}
use Rattle.c_parser_rules.specs.Programs.{Sort, Rule}
use Rattle.c_parser_rules.specs.Bodies.{body}
use Rattle.c_parser_expressions.specs.Reads.{Reads, GoesOn}
use Rattle.syntax_tree.specs.declared.syntax.statements.BlockItem.{BlockItem}
use Rattle.c_parser.proofs.statement.+statement.Given as goal

abbrev pub decreases-statement : goal.decreases-statement
decreases-statement l = 5 * (200 - l.depth) + 2

abbrev pub decreases-inner : goal.decreases-inner
decreases-inner l = 5 * (200 - l.depth) + 3

abbrev pub decreases-if_statement : goal.decreases-if_statement
decreases-if_statement l = 5 * (200 - l.depth) + 1

abbrev pub decreases-otherwise : goal.decreases-otherwise
decreases-otherwise l = 5 * (200 - l.depth)

abbrev pub decreases-while_statement : goal.decreases-while_statement
decreases-while_statement l = 5 * (200 - l.depth)

abbrev pub decreases-do_statement : goal.decreases-do_statement
decreases-do_statement l = 5 * (200 - l.depth)

abbrev pub decreases-for_statement : goal.decreases-for_statement
decreases-for_statement l = 5 * (200 - l.depth)

abbrev pub decreases-block : goal.decreases-block
decreases-block l = 5 * (200 - l.depth) + 1

abbrev pub decreases-items : goal.decreases-items
decreases-items l = 5 * (200 - l.depth) + 4

abbrev pub decreases-item : goal.decreases-item
decreases-item l = 5 * (200 - l.depth) + 3

abbrev pub invariant-items-items : goal.invariant-items-items
invariant-items-items l = (res : Result (Vec BlockItem Global) Stop) (new : List Placed)
    → GoesOn Sort.block_items (body (Rule.items l.fn.depth)) (λ zs. block_item_trees zs) (λ v. v.items) l.items.items l.cursor res new
    → Reads Sort.block_items (body (Rule.items l.fn.depth)) (λ v. block_item_trees v.items) l.fn.cursor res new

abbrev pub decreases-items-items : goal.decreases-items-items
decreases-items-items l = length l.cursor

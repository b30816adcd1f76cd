use Rattle.std.proofs.Common.{◌≡◌}
use Rattle.std.specs.Prelude.{map}
use Rattle.std.specs.Vec.Iter.{into_iter_items}
use Rattle.typed_tree.specs.TypedViews.{declaration_of, stmt_of}
use Rattle.typing_statements.specs.StatementSteps.{with_declarations}
use Rattle.typing_statements.proofs.statement.add_declarations.Given as goal

abbrev pub invariant-loop-declaration : goal.invariant-loop-declaration
invariant-loop-declaration l = with_declarations (map stmt_of l.done.items) (map declaration_of (into_iter_items l.declaration-iterator)) ≡ with_declarations (map stmt_of l.fn.done.items) (map declaration_of l.fn.declarations.items)

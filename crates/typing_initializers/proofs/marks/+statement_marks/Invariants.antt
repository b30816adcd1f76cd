use Rattle.std.proofs.Common.{◌≡◌, drop}
use Rattle.typed_tree.specs.TypedViews.{stmts_of}
use Rattle.typed_tree.specs.Walk.{over_stmts}
use Rattle.typing_initializers.specs.Marks.{marking}
use Rattle.typing_initializers.proofs.marks.+statement_marks.Given as goal

abbrev pub invariant-mark_stmts-loop-statement : goal.invariant-mark_stmts-loop-statement
invariant-mark_stmts-loop-statement l = over_stmts marking (stmts_of (drop l.statement-index l.statements)) l.marks.items ≡ over_stmts marking (stmts_of l.fn.statements) l.fn.marks.items

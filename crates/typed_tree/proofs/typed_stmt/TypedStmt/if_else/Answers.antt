use Rattle.typed_tree.proofs.TypedViewed.{view-IfElse}
use Rattle.typed_tree.proofs.typed_stmt.TypedStmt.if_else.Goals as goal

pub returns : goal.returns
returns c = rw (← c.in_ok-body.ensures.ok, ← c.in_ok-new.ensures.ok) (view-IfElse c.args.at c.args.condition c.in_ok-body.body c.in_ok-new.field-0)

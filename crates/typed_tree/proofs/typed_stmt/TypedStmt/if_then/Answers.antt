use Rattle.typed_tree.proofs.TypedViewed.{view-If}
use Rattle.typed_tree.proofs.typed_stmt.TypedStmt.if_then.Goals as goal

pub returns : goal.returns
returns c = rw (← c.in_ok-body.ensures.ok) (view-If c.args.at c.args.condition c.in_ok-body.body)

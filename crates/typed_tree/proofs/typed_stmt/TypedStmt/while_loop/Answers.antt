use Rattle.typed_tree.proofs.TypedViewed.{view-While}
use Rattle.typed_tree.proofs.typed_stmt.TypedStmt.while_loop.Goals as goal

pub returns : goal.returns
returns c = rw (← c.in_ok-body.ensures.ok) (view-While c.args.at c.args.condition c.in_ok-body.body)

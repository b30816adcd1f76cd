use Rattle.std.proofs.Common.{◌≡◌, ◌++◌, drop}
use Rattle.typing_expressions.specs.Expressions.{joined}
use Rattle.typing_expressions.proofs.expression.joined.Given as goal

abbrev pub invariant-loop-piece : goal.invariant-loop-piece
invariant-loop-piece l = l.bytes.items ++ joined (drop l.piece-index l.pieces) ≡ joined l.pieces

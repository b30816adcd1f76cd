use Rattle.std.proofs.Common.{◌≡◌}
use Rattle.typing_expressions.specs.Parts.{parts_of}
use Rattle.typing_expressions.specs.Expressions.{pointed}
use Rattle.typing_expressions.proofs.expression.pointed.Given as goal

abbrev pub invariant-loop-star : goal.invariant-loop-star
invariant-loop-star l = parts_of l.parts.items ≡ pointed (parts_of l.fn.parts.items) l._star

-- What was typed keeps the rules, where what typing gives does.
use Rattle.std.proofs.Common.{◌≡◌}
use Rattle.std.specs.Prelude.{Result, Ok, Err, IfOk}
use Rattle.syntax_tree.specs.Syntax.{UnitTree}
use Rattle.typed_tree.specs.TypedTree.{CProgram}
use Rattle.typed_tree.specs.TypedViews.{program_of}
use Rattle.typed_tree.specs.declared.typed.Program.{Program}
use Rattle.typing_operators.specs.declared.error.TypeError.{TypeError}
use Rattle.typing_operators.specs.Rule.{Gives}
use Rattle.syntax_in_range.specs.InRange.{InRange}
use Rattle.typing_unit_keeps.specs.Units.{typed_unit}

pub answered : (P : CProgram → Type 0) → ((u : UnitTree) (p : CProgram) → InRange u → typed_unit u ≡ Ok p → P p)
    → (u : UnitTree) (r : Result Program TypeError) → Gives program_of r (typed_unit u) → InRange u → IfOk r (λ p. P (program_of p))
answered P law u (Ok p) g h = law u (program_of p) h g
answered P law u (Err e) g h = tt

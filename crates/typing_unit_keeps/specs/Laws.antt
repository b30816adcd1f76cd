-- What holds of the program of a file.
use Rattle.std.specs.Prelude.{◌≡◌, Ok}
use Rattle.syntax_tree.specs.Syntax.{UnitTree}
use Rattle.typed_tree.specs.TypedTree.{CProgram}
use Rattle.typed_tree.specs.Typed.{Typed, HasLines}
use Rattle.syntax_in_range.specs.InRange.{InRange}
use Rattle.typing_unit_keeps.specs.Units.{typed_unit}

-- The program of a file whose literals are those of their types keeps every rule of typing.
abbrev pub FilesAreTyped : Type 0
FilesAreTyped = (u : UnitTree) (p : CProgram) → InRange u → typed_unit u ≡ Ok p → Typed p

-- And where the file's places are on lines of a text, so is all of the program.
abbrev pub FilesHaveLines : Type 0
FilesHaveLines = (u : UnitTree) (p : CProgram) → InRange u → typed_unit u ≡ Ok p → HasLines p

-- What small values of the program stand for.
use Rattle.std.specs.Prelude.{ℕ}
use Rattle.typed_tree.specs.declared.types.Ty.{Ty}
use Rattle.typed_tree.specs.Types.{CType}
use Rattle.typed_tree.specs.TypesViewed.{ty_of}

-- a member's number with its type
abbrev pub numbered_type : ℕ × Ty → ℕ × CType
numbered_type m = (m.0, ty_of m.1)

-- What the program's types stand for.
use Rattle.typed_tree.specs.declared.types.Ty.{Ty, Void, Char, Int, Unsigned, Struct, Pointer', Array'}
use Rattle.typed_tree.specs.Types.{CType}

-- the type that a `Ty` stands for
abbrev pub ty_of : Ty → CType
ty_of Void = CType.Void
ty_of Char = CType.Char
ty_of Int = CType.Int
ty_of Unsigned = CType.Unsigned
ty_of (Struct k) = CType.Struct k
ty_of (Pointer' p t) = CType.Pointer (ty_of t)
ty_of (Array' p t n) = CType.Array (ty_of t) n

-- The conversions that the language makes by itself (C11 6.3), and what a type lets be done.
use Rattle.std.specs.Prelude.{ℕ, Bool, true, false, ◌&&◌, ◌||◌, if◌then◌else◌, Ok, Err, List}
use Rattle.typed_tree.specs.declared.typed_expr.Conversion.{Conversion}
use Rattle.typed_tree.specs.declared.typed_expr.Conversion.TheVariants.{ArrayToPointer, NumberToNumber, NullToPointer, PointerToPointer}
use Rattle.typing_operators.specs.declared.error.TypeError.TheVariants.{BadType}
use Rattle.typed_tree.specs.Types.{CType, same, is_number, is_pointer, is_void_pointer, promoted}
use Rattle.typed_tree.specs.TypedTree.{CExpr, CForm, CStruct, at_of, type_of}
use Rattle.typed_tree.specs.Sizes.{is_complete}
use Rattle.typed_tree.specs.TypedOperands.{is_null}
use Rattle.typing_operators.specs.Rule.{Rule}

-- an operand that is converted to a type, at its own place
abbrev pub converted : Conversion → CType → CExpr → CExpr
converted c t e = CExpr.expr (at_of e) t (CForm.Convert c e)

abbrev pub decayed_from : CType → CExpr → CExpr
decayed_from (CType.Array t n) e = converted ArrayToPointer (CType.Pointer t) e
decayed_from CType.Void e = e
decayed_from CType.Char e = e
decayed_from CType.Int e = e
decayed_from CType.Unsigned e = e
decayed_from (CType.Struct k) e = e
decayed_from (CType.Pointer t) e = e

-- 6.3.2.1 p3: an array is a pointer to its first element
unfoldable pub decayed : CExpr → CExpr
decayed e = decayed_from (type_of e) e

-- 6.3.1: a number as one of the type t
unfoldable pub as_number : CType → CExpr → CExpr
as_number t e = if same (type_of e) t then e else converted NumberToNumber t e

-- 6.3.1.1 p2
unfoldable pub as_promoted : CExpr → CExpr
as_promoted e = as_number (promoted (type_of e)) e

-- 6.3.2.3: a pointer, or a null constant, as a pointer of the type t
unfoldable pub as_pointer : CType → CExpr → CExpr
as_pointer t e =
    if same (type_of e) t then e
    else if is_null e then converted NullToPointer t e
    else converted PointerToPointer t e

-- Whether a value may be given to a pointer type: one of that type, a null constant, and a pointer where one of the two
-- is a pointer to void.
abbrev pub may_point : CType → CExpr → Bool
may_point t e =
    same (type_of e) t || is_null e || (is_pointer (type_of e) && (is_void_pointer t || is_void_pointer (type_of e)))

-- 6.5.16.1: a value that is given to a type
unfoldable pub given : ℕ → CType → CExpr → Rule CExpr
given line t e =
    let d = decayed e in
    if is_number t && is_number (type_of d) then Ok (as_number t d)
    else if is_pointer t && may_point t d then Ok (as_pointer t d)
    else Err (BadType line 10)

-- whether a type is that of pointers to a complete type
abbrev pub points_to_complete : List CStruct → CType → Bool
points_to_complete structs (CType.Pointer t) = is_complete structs t
points_to_complete structs CType.Void = false
points_to_complete structs CType.Char = false
points_to_complete structs CType.Int = false
points_to_complete structs CType.Unsigned = false
points_to_complete structs (CType.Struct k) = false
points_to_complete structs (CType.Array t n) = false

-- whether a type is void
abbrev pub is_void : CType → Bool
is_void CType.Void = true
is_void CType.Char = false
is_void CType.Int = false
is_void CType.Unsigned = false
is_void (CType.Struct k) = false
is_void (CType.Pointer t) = false
is_void (CType.Array t n) = false

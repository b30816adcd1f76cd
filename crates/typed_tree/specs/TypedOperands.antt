-- What an operand of the typed tree is: a place, a null constant, a value with the conversions that the language makes.
use Rattle.std.specs.Prelude.{◌≡◌, ◌≢◌, ℕ, Bool, true, false, not, ◌==◌, ◌&&◌, ◌||◌, IsTrue, if◌then◌else◌, Option, Some, None}
use Rattle.c_words.specs.declared.operators.UnaryOperator.{UnaryOperator}
use Rattle.c_words.specs.declared.operators.UnaryOperator.TheVariants.{Address, Dereference, Plus, Minus, Complement, Not}
use Rattle.typed_tree.specs.declared.typed_expr.Conversion.{Conversion}
use Rattle.typed_tree.specs.declared.typed_expr.Conversion.TheVariants.{ArrayToPointer, NumberToNumber, NullToPointer, PointerToPointer}
use Rattle.typed_tree.specs.Types.{CType, same, is_pointer, is_array, is_void_pointer, IsNumber, IsPointer, IsScalar, promoted}
use Rattle.typed_tree.specs.TypedTree.{CExpr, CForm, type_of}

-- whether an operator is `*`
abbrev pub is_dereference : UnaryOperator → Bool
is_dereference Dereference = true
is_dereference Address = false
is_dereference Plus = false
is_dereference Minus = false
is_dereference Complement = false
is_dereference Not = false

-- 6.3.2.1 p1: What names an object, or a part of one, is a place: a name, a string (6.5.1 p4), an element, what a pointer
-- points to, a member behind a pointer, and a member of a place (6.5.2.3 p3).
abbrev mutual
  pub is_place : CExpr → Bool
  is_place (CExpr.expr at t form) = is_place_form form

  pub is_place_form : CForm → Bool
  is_place_form (CForm.Local n) = true
  is_place_form (CForm.Global n) = true
  is_place_form (CForm.Text n) = true
  is_place_form (CForm.Index a b) = true
  is_place_form (CForm.Arrow e m) = true
  is_place_form (CForm.Member e m) = is_place e
  is_place_form (CForm.Unary op e) = is_dereference op
  is_place_form (CForm.Number n) = false
  is_place_form (CForm.Character n) = false
  is_place_form CForm.Null = false
  is_place_form CForm.Eof = false
  is_place_form (CForm.Convert c e) = false
  is_place_form (CForm.Call f es) = false
  is_place_form (CForm.StepBefore op e) = false
  is_place_form (CForm.StepAfter op e) = false
  is_place_form (CForm.Binary op a b) = false
  is_place_form (CForm.Conditional c a b) = false
  is_place_form (CForm.Assign op a b) = false
  is_place_form (CForm.Comma a b) = false
  is_place_form (CForm.Cast e) = false
  is_place_form (CForm.SizeofExpression e) = false
  is_place_form (CForm.SizeofType t) = false

-- What names an object, or a part of one, though it may be no place: a place; a comma whose right operand names one; and
-- a member of that. `(1, s).m` is no place, and yet its value is found in the object `s`.
abbrev mutual
  pub has_object : CExpr → Bool
  has_object (CExpr.expr at t form) = has_object_form form

  pub has_object_form : CForm → Bool
  has_object_form (CForm.Local n) = true
  has_object_form (CForm.Global n) = true
  has_object_form (CForm.Text n) = true
  has_object_form (CForm.Index a b) = true
  has_object_form (CForm.Arrow e m) = true
  has_object_form (CForm.Member e m) = has_object e
  has_object_form (CForm.Unary op e) = is_dereference op
  has_object_form (CForm.Comma a b) = has_object b
  has_object_form (CForm.Number n) = false
  has_object_form (CForm.Character n) = false
  has_object_form CForm.Null = false
  has_object_form CForm.Eof = false
  has_object_form (CForm.Convert c e) = false
  has_object_form (CForm.Call f es) = false
  has_object_form (CForm.StepBefore op e) = false
  has_object_form (CForm.StepAfter op e) = false
  has_object_form (CForm.Binary op a b) = false
  has_object_form (CForm.Conditional c a b) = false
  has_object_form (CForm.Assign op a b) = false
  has_object_form (CForm.Cast e) = false
  has_object_form (CForm.SizeofExpression e) = false
  has_object_form (CForm.SizeofType t) = false

-- 6.3.2.3 p3: the null constants are the number 0, however it is written, and `NULL`
abbrev pub is_null : CExpr → Bool
is_null (CExpr.expr at t (CForm.Number n)) = n == 0
is_null (CExpr.expr at t CForm.Null) = true
is_null (CExpr.expr at t _) = false

-- whether an expression is one that the language converts by itself
abbrev pub is_converted : CExpr → Bool
is_converted (CExpr.expr at t (CForm.Convert c e)) = true
is_converted (CExpr.expr at t _) = false

-- An expression as the text has it, with no conversion.
abbrev pub IsWritten : CExpr → Type 0
IsWritten e = is_converted e ≡ false

-- whether an expression is no array, and has no conversion but that of an array
abbrev pub is_plain : CExpr → Bool
is_plain (CExpr.expr at t (CForm.Convert ArrayToPointer e)) = true
is_plain (CExpr.expr at t (CForm.Convert NumberToNumber e)) = false
is_plain (CExpr.expr at t (CForm.Convert NullToPointer e)) = false
is_plain (CExpr.expr at t (CForm.Convert PointerToPointer e)) = false
is_plain (CExpr.expr at t _) = not (is_array t)

-- 6.3.2.1 p3: A value as it is: an array has become a pointer, and nothing else is converted.
abbrev pub IsPlain : CExpr → Type 0
IsPlain e = IsTrue (is_plain e)

-- an operand before it was converted to the type that it is given to
abbrev pub unconverted : CExpr → CExpr
unconverted (CExpr.expr at t (CForm.Convert NumberToNumber e)) = e
unconverted (CExpr.expr at t (CForm.Convert NullToPointer e)) = e
unconverted (CExpr.expr at t (CForm.Convert PointerToPointer e)) = e
unconverted (CExpr.expr at t form) = CExpr.expr at t form

-- its type
abbrev pub own_type : CExpr → CType
own_type e = type_of (unconverted e)

-- A conversion of an operand e to the type t. There is one only where it changes the type.
abbrev pub IsConversion : Conversion → CExpr → CType → Type 0
IsConversion ArrayToPointer e t = IsWritten e × (u : CType) × (n : ℕ) × (type_of e ≡ CType.Array u n) × (t ≡ CType.Pointer u)
IsConversion NumberToNumber e t = IsPlain e × IsNumber (type_of e) × IsNumber t × (type_of e ≢ t)
IsConversion NullToPointer e t = IsTrue (is_null e) × IsPointer t × (type_of e ≢ t)
IsConversion PointerToPointer e t =
    IsPlain e × (is_null e ≡ false) × IsPointer (type_of e) × IsPointer t
    × IsTrue (is_void_pointer (type_of e) || is_void_pointer t) × (type_of e ≢ t)

-- 6.5.16.1, 6.7.9 p11: A value may be given to a type if both are numbers; if both are one pointer type; if both are
-- pointers and one of them to void; or if it is a null constant and the type is a pointer. It is then converted to the
-- type, where it has not got it; so it has it in the tree.
abbrev pub IsGiven : CType → CExpr → Type 0
IsGiven t e = (type_of e ≡ t) × IsScalar t

-- 6.3.1.1 p2: a number that is promoted
abbrev pub IsPromoted : CExpr → Type 0
IsPromoted e = IsNumber (own_type e) × (type_of e ≡ promoted (own_type e))

-- 6.5.9 p5, 6.5.15 p6: The type at which two pointers meet, if they do: their own where it is one; the other's where one
-- is a null constant; pointer to void where one is that.
abbrev pub meeting_type : CExpr → CExpr → Option CType
meeting_type a b =
    if is_pointer (type_of a) && same (type_of a) (type_of b) then Some (type_of a)
    else if is_null b && is_pointer (type_of a) then Some (type_of a)
    else if is_null a && is_pointer (type_of b) then Some (type_of b)
    else if is_pointer (type_of a) && is_pointer (type_of b) && (is_void_pointer (type_of a) || is_void_pointer (type_of b))
    then Some (CType.Pointer CType.Void)
    else None

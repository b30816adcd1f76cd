-- The rules of typing, one definition each: what the operands of an operator and its type are (C11 6.5), what an
-- initializer fits (6.7.9), and what a function may be (6.7.6.3, 6.9.1).
use Rattle.std.specs.Prelude.{◌≡◌, ℕ, ◌≤◌, nat_lt, false, IsTrue, if◌then◌else◌}
use Rattle.std.specs.Prelude.{Option, Some, None, List, [], ◌∷◌, length, map, take, slice_get}
use Rattle.c_words.specs.declared.operators.UnaryOperator.{UnaryOperator}
use Rattle.c_words.specs.declared.operators.UnaryOperator.TheVariants as unary
use Rattle.c_words.specs.declared.operators.BinaryOperator.{BinaryOperator}
use Rattle.c_words.specs.declared.operators.BinaryOperator.TheVariants as binary
use Rattle.c_words.specs.declared.operators.AssignOperator.{AssignOperator}
use Rattle.c_words.specs.declared.operators.AssignOperator.TheVariants as assign
use Rattle.typed_tree.specs.declared.typed_expr.LibCall.{LibCall}
use Rattle.typed_tree.specs.declared.typed_expr.LibCall.TheVariants.{Putchar, Getchar, Exit, Malloc, Calloc, Free, Memcpy, Memset}
use Rattle.typed_tree.specs.declared.typed_expr.Called.{Called}
use Rattle.typed_tree.specs.declared.typed_expr.Called.TheVariants.{Defined, Library}
use Rattle.typed_tree.specs.Types.{CType, is_array, is_struct, IsNumber, IsPointer, IsScalar, common}
use Rattle.typed_tree.specs.TypedTree.{CExpr, CExprs, CStruct, CFunction, type_of}
use Rattle.typed_tree.specs.Sizes.{IsComplete, member_at}
use Rattle.typed_tree.specs.TypedOperands.{is_place, is_null, IsWritten, IsPlain, own_type, unconverted, IsGiven, IsPromoted, meeting_type}

-- the pointers to a complete type
abbrev pub IsPointerToComplete : List CStruct → CType → Type 0
IsPointerToComplete structs (CType.Pointer t) = IsComplete structs t
IsPointerToComplete structs CType.Void = ⊥
IsPointerToComplete structs CType.Char = ⊥
IsPointerToComplete structs CType.Int = ⊥
IsPointerToComplete structs CType.Unsigned = ⊥
IsPointerToComplete structs (CType.Struct k) = ⊥
IsPointerToComplete structs (CType.Array t n) = ⊥

-- 6.5.13 p2, 6.8.4.1 p1: A condition is a number or a pointer, which is compared with zero as it is.
pub record IsCondition (e : CExpr) : Type 0 where
  pub plain : IsPlain e
  pub scalar : IsScalar (type_of e)

-- 6.5.16 p2, 6.3.2.1 p1: What is assigned to is a place, and no array.
pub record IsAssignable (e : CExpr) : Type 0 where
  pub place : IsTrue (is_place e)
  pub no_array : is_array (type_of e) ≡ false

-- 6.3.1.8: Both operands are numbers, and are converted to their common type.
pub record AreCommon (a b : CExpr) (t : CType) : Type 0 where
  pub left_number : IsNumber (own_type a)
  pub right_number : IsNumber (own_type b)
  pub is_common : t ≡ common (own_type a) (own_type b)
  pub left : type_of a ≡ t
  pub right : type_of b ≡ t

-- 6.5.6 p8: A number is added to a pointer to a complete type, or taken from it. The number is promoted.
pub record IsMoved (structs : List CStruct) (pointer number : CExpr) (t : CType) : Type 0 where
  pub plain : IsPlain pointer
  pub complete : IsPointerToComplete structs (type_of pointer)
  pub distance : IsPromoted number
  pub result : t ≡ type_of pointer

-- 6.5.6 p2: the operands of `+`
pub data AreAdded (structs : List CStruct) (a b : CExpr) (t : CType) : Type 0 where
  numbers : AreCommon a b t → AreAdded structs a b t
  pointer_and_number : IsMoved structs a b t → AreAdded structs a b t
  number_and_pointer : IsMoved structs b a t → AreAdded structs a b t

-- 6.5.6 p3, p9: two pointers of one type, to a complete one, have an int as their difference
pub record AreApart (structs : List CStruct) (a b : CExpr) (t : CType) : Type 0 where
  pub left : IsPlain a
  pub right : IsPlain b
  pub one_type : type_of a ≡ type_of b
  pub complete : IsPointerToComplete structs (type_of a)
  pub result : t ≡ CType.Int

-- 6.5.6 p3: the operands of `-`
pub data AreSubtracted (structs : List CStruct) (a b : CExpr) (t : CType) : Type 0 where
  numbers : AreCommon a b t → AreSubtracted structs a b t
  pointer_and_number : IsMoved structs a b t → AreSubtracted structs a b t
  pointers : AreApart structs a b t → AreSubtracted structs a b t

-- 6.5.7: The operands of a shift are numbers, each promoted by itself. The type is that of the left one.
pub record AreShifted (a b : CExpr) (t : CType) : Type 0 where
  pub left : IsPromoted a
  pub right : IsPromoted b
  pub result : t ≡ type_of a

-- 6.5.8 p2: `<`, `>`, `<=` and `>=` are of two numbers, or of two pointers of one type.
pub data AreOrdered (a b : CExpr) : Type 0 where
  numbers : (u : CType) → AreCommon a b u → AreOrdered a b
  pointers : IsPlain a → IsPlain b → IsPointer (type_of a) → type_of a ≡ type_of b → AreOrdered a b

-- 6.5.9 p5: two pointers that meet at the type t, to which they are converted
pub record AreMeeting (a b : CExpr) (t : CType) : Type 0 where
  pub meeting : meeting_type (unconverted a) (unconverted b) ≡ Some t
  pub left : type_of a ≡ t
  pub right : type_of b ≡ t

-- 6.5.9 p2: `==` and `!=` are of two numbers, or of two pointers that meet.
pub data AreEquated (a b : CExpr) : Type 0 where
  numbers : (u : CType) → AreCommon a b u → AreEquated a b
  pointers : (u : CType) → AreMeeting a b u → AreEquated a b

-- 6.5.15 p3: The second and the third operand of `?:` are two numbers, two pointers that meet, or both void.
pub data AreAlternatives (a b : CExpr) (t : CType) : Type 0 where
  numbers : AreCommon a b t → AreAlternatives a b t
  pointers : AreMeeting a b t → AreAlternatives a b t
  voids : type_of a ≡ CType.Void → type_of b ≡ CType.Void → t ≡ CType.Void → AreAlternatives a b t

-- 6.5.3.2 p1: The operand of `&` is a place, as it is written.
pub record IsReferred (e : CExpr) (t : CType) : Type 0 where
  pub place : IsTrue (is_place e)
  pub result : t ≡ CType.Pointer (type_of e)

-- 6.5.3.2 p2: The operand of `*` is a pointer to a complete type.
pub record IsFollowed (structs : List CStruct) (e : CExpr) (t : CType) : Type 0 where
  pub plain : IsPlain e
  pub to : type_of e ≡ CType.Pointer t
  pub complete : IsComplete structs t

-- 6.5.3.3 p1: The operand of `+`, `-` and `~` is a number, which is promoted.
pub record IsSigned (e : CExpr) (t : CType) : Type 0 where
  pub operand : IsPromoted e
  pub result : t ≡ type_of e

-- 6.5.3.3 p5: `!` and a comparison have an int
abbrev pub IsUnary : List CStruct → UnaryOperator → CExpr → CType → Type 0
IsUnary structs unary.Address e t = IsReferred e t
IsUnary structs unary.Dereference e t = IsFollowed structs e t
IsUnary structs unary.Plus e t = IsSigned e t
IsUnary structs unary.Minus e t = IsSigned e t
IsUnary structs unary.Complement e t = IsSigned e t
IsUnary structs unary.Not e t = IsCondition e × (t ≡ CType.Int)

-- 6.5.5 to 6.5.14
abbrev pub IsBinary : List CStruct → BinaryOperator → CExpr → CExpr → CType → Type 0
IsBinary structs binary.Multiply a b t = AreCommon a b t
IsBinary structs binary.Divide a b t = AreCommon a b t
IsBinary structs binary.Remainder a b t = AreCommon a b t
IsBinary structs binary.Add a b t = AreAdded structs a b t
IsBinary structs binary.Subtract a b t = AreSubtracted structs a b t
IsBinary structs binary.ShiftLeft a b t = AreShifted a b t
IsBinary structs binary.ShiftRight a b t = AreShifted a b t
IsBinary structs binary.Less a b t = AreOrdered a b × (t ≡ CType.Int)
IsBinary structs binary.Greater a b t = AreOrdered a b × (t ≡ CType.Int)
IsBinary structs binary.LessEqual a b t = AreOrdered a b × (t ≡ CType.Int)
IsBinary structs binary.GreaterEqual a b t = AreOrdered a b × (t ≡ CType.Int)
IsBinary structs binary.Equal a b t = AreEquated a b × (t ≡ CType.Int)
IsBinary structs binary.NotEqual a b t = AreEquated a b × (t ≡ CType.Int)
IsBinary structs binary.BitAnd a b t = AreCommon a b t
IsBinary structs binary.BitXor a b t = AreCommon a b t
IsBinary structs binary.BitOr a b t = AreCommon a b t
IsBinary structs binary.LogicalAnd a b t = IsCondition a × IsCondition b × (t ≡ CType.Int)
IsBinary structs binary.LogicalOr a b t = IsCondition a × IsCondition b × (t ≡ CType.Int)

-- 6.5.2.1 p1: The left operand of `[]` is a pointer to a complete type, and the index a number, which is promoted.
pub record IsElement (structs : List CStruct) (base index : CExpr) (t : CType) : Type 0 where
  pub element : IsFollowed structs base t
  pub distance : IsPromoted index

-- 6.5.2.3 p1: The left operand of `.` is a struct, and has that member.
pub record IsMember (structs : List CStruct) (e : CExpr) (member : ℕ) (t : CType) : Type 0 where
  pub struct : ℕ
  pub of : type_of e ≡ CType.Struct struct
  pub found : member_at structs struct member ≡ Some t

-- 6.5.2.3 p2: The left operand of `->` is a pointer to a struct, which has that member.
pub record IsMemberBehind (structs : List CStruct) (e : CExpr) (member : ℕ) (t : CType) : Type 0 where
  pub plain : IsPlain e
  pub struct : ℕ
  pub to : type_of e ≡ CType.Pointer (CType.Struct struct)
  pub found : member_at structs struct member ≡ Some t

-- a number, or a pointer to a complete type
pub data CanStep (structs : List CStruct) (t : CType) : Type 0 where
  number : IsNumber t → CanStep structs t
  pointer : IsPointerToComplete structs t → CanStep structs t

-- 6.5.2.4 p1, 6.5.3.1 p1: The operand of `++` and `--` can be assigned to, and is a number or a pointer to a complete type.
pub record IsStepped (structs : List CStruct) (e : CExpr) (t : CType) : Type 0 where
  pub assignable : IsAssignable e
  pub steps : CanStep structs (type_of e)
  pub result : t ≡ type_of e

-- 6.5.16.1 p1: A struct is copied from a place of the same struct.
pub record IsCopied (t : CType) (e : CExpr) : Type 0 where
  pub struct : IsTrue (is_struct t)
  pub place : IsTrue (is_place e)
  pub same_struct : type_of e ≡ t

-- 6.5.16.1: `=` gives its right side to the type of the left one, and has that type. Between structs it has no value.
pub data IsSet (a b : CExpr) (t : CType) : Type 0 where
  scalar : IsAssignable a → IsGiven (type_of a) b → t ≡ type_of a → IsSet a b t
  struct : IsAssignable a → IsCopied (type_of a) b → t ≡ CType.Void → IsSet a b t

-- 6.5.16.2 p2: the left side of an arithmetic assignment is a number, the right side too, converted to their common type
pub record IsReckoned (a b : CExpr) (t : CType) : Type 0 where
  pub assignable : IsAssignable a
  pub left_number : IsNumber (type_of a)
  pub right_number : IsNumber (own_type b)
  pub right : type_of b ≡ common (type_of a) (own_type b)
  pub result : t ≡ type_of a

-- 6.5.16.2 p1: the left side of `+=` and `-=` may be a pointer to a complete type
pub data IsChanged (structs : List CStruct) (a b : CExpr) (t : CType) : Type 0 where
  numbers : IsReckoned a b t → IsChanged structs a b t
  pointer_and_number : IsAssignable a → IsMoved structs a b t → IsChanged structs a b t

-- 6.5.16.2 p2: the sides of `<<=` and `>>=` are numbers; the right one is promoted
pub record IsShiftedIn (a b : CExpr) (t : CType) : Type 0 where
  pub assignable : IsAssignable a
  pub left_number : IsNumber (type_of a)
  pub right : IsPromoted b
  pub result : t ≡ type_of a

-- 6.5.16
abbrev pub IsAssignment : List CStruct → AssignOperator → CExpr → CExpr → CType → Type 0
IsAssignment structs assign.Assign a b t = IsSet a b t
IsAssignment structs assign.Multiply a b t = IsReckoned a b t
IsAssignment structs assign.Divide a b t = IsReckoned a b t
IsAssignment structs assign.Remainder a b t = IsReckoned a b t
IsAssignment structs assign.Add a b t = IsChanged structs a b t
IsAssignment structs assign.Subtract a b t = IsChanged structs a b t
IsAssignment structs assign.ShiftLeft a b t = IsShiftedIn a b t
IsAssignment structs assign.ShiftRight a b t = IsShiftedIn a b t
IsAssignment structs assign.BitAnd a b t = IsReckoned a b t
IsAssignment structs assign.BitXor a b t = IsReckoned a b t
IsAssignment structs assign.BitOr a b t = IsReckoned a b t

-- 6.5.17 p2: The right operand of a comma gives its type. Either may be void or a struct: a comma uses no value.
pub record AreInTurn (a b : CExpr) (t : CType) : Type 0 where
  pub left : IsPlain a
  pub right : IsPlain b
  pub result : t ≡ type_of b

-- 6.5.4 p2: A cast is between numbers, between pointers, from a null constant to a pointer, or to void. What is cast is
-- not converted before, but for an array.
pub data MayCast (e : CExpr) (t : CType) : Type 0 where
  to_void : t ≡ CType.Void → MayCast e t
  numbers : IsNumber (type_of e) → IsNumber t → MayCast e t
  pointers : IsPointer (type_of e) → IsPointer t → MayCast e t
  null : IsTrue (is_null e) → IsPointer t → MayCast e t

pub record IsCast (e : CExpr) (t : CType) : Type 0 where
  pub plain : IsPlain e
  pub allowed : MayCast e t

-- 6.5.3.4 p1: The operand of `sizeof` has a complete type, and is not converted.
pub record IsMeasured (structs : List CStruct) (e : CExpr) (t : CType) : Type 0 where
  pub written : IsWritten e
  pub complete : IsComplete structs (type_of e)
  pub result : t ≡ CType.Unsigned

-- what a function gives, and what it takes
pub record Prototype : Type 0 where
  pub result : CType
  pub params : List CType

abbrev pub void_pointer : CType
void_pointer = CType.Pointer CType.Void

-- the functions of the library (7.21, 7.22, 7.24)
abbrev pub prototype_in_library : LibCall → Prototype
prototype_in_library Putchar = record { result = CType.Int; params = CType.Int ∷ [] }
prototype_in_library Getchar = record { result = CType.Int; params = [] }
prototype_in_library Exit = record { result = CType.Void; params = CType.Int ∷ [] }
prototype_in_library Malloc = record { result = void_pointer; params = CType.Unsigned ∷ [] }
prototype_in_library Calloc = record { result = void_pointer; params = CType.Unsigned ∷ CType.Unsigned ∷ [] }
prototype_in_library Free = record { result = CType.Void; params = void_pointer ∷ [] }
prototype_in_library Memcpy = record { result = void_pointer; params = void_pointer ∷ void_pointer ∷ CType.Unsigned ∷ [] }
prototype_in_library Memset = record { result = void_pointer; params = void_pointer ∷ CType.Int ∷ CType.Unsigned ∷ [] }

-- the prototype of a defined function
abbrev pub prototype_of : CFunction → Prototype
prototype_of f = record { result = f.result; params = map (λ l. l.ty) (take f.params f.locals) }

-- the prototype of what a call names, if there is such a function
abbrev pub called_prototype : List Prototype → Called → Option Prototype
called_prototype functions (Defined k) = slice_get functions k
called_prototype functions (Library f) = Some (prototype_in_library f)

-- 6.5.2.2 p2, p7: there are as many arguments as parameters, and each is given to its parameter's type
abbrev pub AreGiven : List CType → CExprs → Type 0
AreGiven [] CExprs.none = Unit {0}
AreGiven [] (CExprs.more e es) = ⊥
AreGiven (t ∷ ts) CExprs.none = ⊥
AreGiven (t ∷ ts) (CExprs.more e es) = IsGiven t e × AreGiven ts es

-- 6.5.2.2: A call names a function, has arguments for its parameters, and has the type of its result.
pub record IsCall (functions : List Prototype) (called : Called) (arguments : CExprs) (t : CType) : Type 0 where
  pub prototype : Prototype
  pub found : called_prototype functions called ≡ Some prototype
  pub given : AreGiven prototype.params arguments
  pub result : t ≡ prototype.result

-- 6.7.9 p14: A string fits an array of char that has room for its bytes without the final zero.
pub record IsFilled (t : CType) (bytes : List ℕ) : Type 0 where
  pub count : ℕ
  pub array : t ≡ CType.Array CType.Char count
  pub room : length bytes ≤ count

-- The type of part i of an array or a struct, if it has so many: element i, or member i.
abbrev pub part_type : List CStruct → CType → ℕ → Option CType
part_type structs (CType.Array t n) i = if nat_lt i n then Some t else None
part_type structs (CType.Struct k) i = member_at structs k i
part_type structs CType.Void i = None
part_type structs CType.Char i = None
part_type structs CType.Int i = None
part_type structs CType.Unsigned i = None
part_type structs (CType.Pointer t) i = None

-- 6.8.6.4 p1: `return` has a value, given to the result's type, exactly where the function is not void.
abbrev pub IsReturned : CType → Option CExpr → Type 0
IsReturned result None = result ≡ CType.Void
IsReturned result (Some e) = IsGiven result e

-- 6.7.6.3 p1, 6.9.1 p3: A function's result is void, a number or a pointer.
pub data IsResult (t : CType) : Type 0 where
  nothing : t ≡ CType.Void → IsResult t
  scalar : IsScalar t → IsResult t

-- Initializers (C11 6.7.9): the parts of an object in the order of the text. All failures have the line of the declared name.
use Rattle.std.specs.Prelude.{ℕ, suc, map, ◌-◌, ◌*◌, ◌/◌, ◌%◌, nat_lt, Bool, true, false, not, ◌&&◌, ◌||◌}
use Rattle.std.specs.Prelude.{if◌then◌else◌, Option, Some, None, Ok, Err, List, [], ◌∷◌, ◌++◌, length, replicate, slice_get, is_some}
use Rattle.c_words.specs.declared.place.At.{At}
use Rattle.c_words.specs.declared.operators.UnaryOperator.TheVariants.{Address}
use Rattle.syntax_tree.specs.Syntax.{ExpressionTree, InitializerTree, InitializerTrees}
use Rattle.typed_tree.specs.declared.typed.GlobalObject.{GlobalObject}
use Rattle.typed_tree.specs.declared.typed.GlobalObject.TheVariants as objects
use Rattle.typed_tree.specs.declared.typed.InitialByte.{InitialByte}
use Rattle.typed_tree.specs.declared.typed.InitialByte.TheVariants.{Byte, PointerPart}
use Rattle.typed_tree.specs.declared.typed_expr.Conversion.TheVariants as conversion
use Rattle.typed_tree.specs.Types.{CType, is_array, is_struct}
use Rattle.typed_tree.specs.TypedTree.{CExpr, CForm, CInitial, CInitials, CMember, CStruct, type_of}
use Rattle.typed_tree.specs.TypedViews.{initials as listed}
use Rattle.typed_tree.specs.TypedRules.{part_type}
use Rattle.typed_tree.specs.Sizes.{size_of, members_of}
use Rattle.typing_operators.specs.declared.error.TypeError.TheVariants.{BadType}
use Rattle.typing_operators.specs.Rule.{Rule, ◌>>=◌, refuse}
use Rattle.typing_operators.specs.Conversions.{decayed, given, is_void}
use Rattle.typing_operators.specs.Operators.{copied_from}
use Rattle.typing_operators.specs.Constants.{constant}
use Rattle.typing_expressions.specs.Scene.{CScene}
use Rattle.typing_expressions.specs.Expressions.{typed, joined}

-- 6.6 p9: the object whose address a constant is: a string, the name of a global array, or `&` before the name of a global
abbrev pub pointed_array : CExpr → Option GlobalObject
pointed_array (CExpr.expr at t (CForm.Text k)) = Some (objects.Text k)
pointed_array (CExpr.expr at t (CForm.Global k)) = Some (objects.Named k)
pointed_array _ = None

abbrev pub pointed_global : CExpr → Option GlobalObject
pointed_global (CExpr.expr at t (CForm.Global k)) = Some (objects.Named k)
pointed_global _ = None

abbrev pub pointed_object : CExpr → Option GlobalObject
pointed_object (CExpr.expr at t (CForm.Convert conversion.PointerToPointer e)) = pointed_object e
pointed_object (CExpr.expr at t (CForm.Convert conversion.ArrayToPointer e)) = pointed_array e
pointed_object (CExpr.expr at t (CForm.Unary Address e)) = pointed_global e
pointed_object _ = None

abbrev pub is_null_pointer : CExpr → Bool
is_null_pointer (CExpr.expr at t (CForm.Convert conversion.NullToPointer e)) = true
is_null_pointer (CExpr.expr at t CForm.Null) = true
is_null_pointer _ = false

-- the bytes of a number, the lowest first, or its lowest byte alone
abbrev pub number_bytes : CType → ℕ → List InitialByte
number_bytes CType.Char n = Byte (n % 256) ∷ []
number_bytes t n = Byte (n % 256) ∷ Byte (n / 256 % 256) ∷ Byte (n / 65536 % 256) ∷ Byte (n / 16777216 % 256) ∷ []

abbrev pub pointer_bytes : GlobalObject → List InitialByte
pointer_bytes o = PointerPart o 0 ∷ PointerPart o 1 ∷ PointerPart o 2 ∷ PointerPart o 3 ∷ []

abbrev pub bytes_by : CType → Option ℕ → Bool → Option GlobalObject → Option (List InitialByte)
bytes_by t (Some n) is_null o = Some (number_bytes t n)
bytes_by t None true o = Some []
bytes_by t None false (Some o) = Some (pointer_bytes o)
bytes_by t None false None = None

-- 6.7.9 p4: what a value gives a global object of its type, if it is constant: at most as many bytes as it has; the others
-- are zero
unfoldable pub value_bytes : List CStruct → CExpr → Option (List InitialByte)
value_bytes structs e = bytes_by (type_of e) (constant structs e) (is_null_pointer e) (pointed_object e)

-- a value in the initializer of a global, or of a local, which may be any
abbrev pub allowed : (is_global : Bool) → List CStruct → ℕ → CExpr → Rule CExpr
allowed is_global structs line e = refuse (is_global && not (is_some (value_bytes structs e))) (BadType line 21) (Ok e)

-- The expressions of an initializer whose shape does not fit, on the line. A void value is refused before the shape is.
abbrev mutual
  pub looked_at : CScene → ℕ → InitializerTree → Rule CScene
  looked_at s line (InitializerTree.Expression e) = typed s e >>= λ x. refuse (is_void (type_of x.0)) (BadType line 19) (Ok x.1)
  looked_at s line (InitializerTree.Braced at parts) = all_looked_at s line parts

  pub all_looked_at : CScene → ℕ → InitializerTrees → Rule CScene
  all_looked_at s line InitializerTrees.none = Ok s
  all_looked_at s line (InitializerTrees.more x xs) = looked_at s line x >>= λ u. all_looked_at u line xs

-- 6.7.9 p14: a string for an array of char: not in brackets
abbrev pub string_of : CType → ExpressionTree → Option (At × List ℕ)
string_of (CType.Array CType.Char n) (ExpressionTree.Text at pieces) = Some (at, joined pieces)
string_of t e = None

abbrev pub room_of : CType → ℕ
room_of (CType.Array t n) = n
room_of _ = 0

abbrev pub aggregate_from : ℕ → CExpr × CScene → Rule (CInitial × CScene)
aggregate_from line x = refuse (is_void (type_of x.0)) (BadType line 19) (Err (BadType line 20))

abbrev pub value_from : (is_global : Bool) → ℕ → CType → CExpr × CScene → Rule (CInitial × CScene)
value_from is_global line t x =
    given line t x.0 >>= λ v. allowed is_global x.1.structs line v >>= λ w. Ok (CInitial.Value w, x.1)

-- 6.7.9 p11, p14: one part, from an expression. An array takes a string alone, and a struct part takes none.
abbrev pub part_from : (is_global : Bool) → CScene → ℕ → CType → ExpressionTree → Option (At × List ℕ) → Rule (CInitial × CScene)
part_from is_global s line t e (Some text) =
    refuse (nat_lt (room_of t) (length text.1)) (BadType line 20) (Ok (CInitial.Text text.0 text.1, s))
part_from is_global s line t e None =
    typed s e >>= λ x. if is_array t || is_struct t then aggregate_from line x else value_from is_global line t x

-- a part of the type, if there is one, and then those behind it; or what is too much
abbrev pub part_or_excess : Option CType → (CType → Rule (CInitial × CScene)) → (CInitial → CScene → Rule (List CInitial × CScene))
    → Rule CScene → ℕ
    → Rule (List CInitial × CScene)
part_or_excess None part rest excess line = excess >>= λ u. Err (BadType line 20)
part_or_excess (Some u) part rest excess line = part u >>= λ y. rest y.0 y.1

abbrev mutual
  -- 6.7.9 p16 to p20
  pub initial : (is_global : Bool) → CScene → ℕ → CType → InitializerTree → Rule (CInitial × CScene)
  initial is_global s line t (InitializerTree.Expression e) = part_from is_global s line t e (string_of t e)
  initial is_global s line t (InitializerTree.Braced at parts) =
      if is_array t || is_struct t
      then (initials is_global [] s line t 0 parts >>= λ x. Ok (CInitial.Braces at (listed x.0), x.1))
      else (all_looked_at s line parts >>= λ u. Err (BadType line 20))

  -- The parts from part i on, behind those that are typed already. Those that are too many have no type.
  pub initials : (is_global : Bool) → List CInitial → CScene → ℕ → CType → ℕ → InitializerTrees → Rule (List CInitial × CScene)
  initials is_global vs s line t i InitializerTrees.none = Ok (vs, s)
  initials is_global vs s line t i (InitializerTrees.more x xs) =
      part_or_excess (part_type s.structs t i) (λ u. initial is_global s line u x)
      (λ v u. initials is_global (vs ++ v ∷ []) u line t (suc i) xs) (looked_at s line x >>= λ u. all_looked_at u line xs) line

-- 6.7.9 p13: A whole declared struct may also be copied from a place. In a global the form of the expression is looked at
-- first: a string or the name of an array is allowed there, though it is no struct.
abbrev pub copied : (is_global : Bool) → ℕ → CType → CExpr × CScene → Rule (CInitial × CScene)
copied is_global line t x =
    refuse (is_void (type_of x.0)) (BadType line 19)
    (allowed is_global x.1.structs line (decayed x.0) >>= λ v. copied_from line t x.0 >>= λ w. Ok (CInitial.Value w, x.1))

abbrev pub struct_copied : (is_global : Bool) → CScene → ℕ → CType → InitializerTree → Rule (CInitial × CScene)
struct_copied is_global s line t (InitializerTree.Expression e) = typed s e >>= λ x. copied is_global line t x
struct_copied is_global s line t (InitializerTree.Braced at parts) = initial is_global s line t (InitializerTree.Braced at parts)

-- the initializer of a declared object
abbrev pub initialized : (is_global : Bool) → CScene → ℕ → CType → InitializerTree → Rule (CInitial × CScene)
initialized is_global s line t x = if is_struct t then struct_copied is_global s line t x else initial is_global s line t x

-- The bytes of a global object, from its initializer (6.7.9 p10, p21): what is not given is zero, and zeros at its end are
-- not told.

abbrev pub bytes_or_none : Option (List InitialByte) → List InitialByte
bytes_or_none None = []
bytes_or_none (Some bytes) = bytes

abbrev pub offset_or_zero : Option CMember → ℕ
offset_or_zero None = 0
offset_or_zero (Some m) = m.offset

-- where part i of an object begins
abbrev pub part_offset : List CStruct → CType → ℕ → ℕ
part_offset structs (CType.Array t n) i = size_of structs t * i
part_offset structs (CType.Struct k) i = offset_or_zero (slice_get (members_of (slice_get structs k)) i)
part_offset structs _ i = 0

abbrev pub type_or_void : Option CType → CType
type_or_void None = CType.Void
type_or_void (Some t) = t

abbrev pub padded : List InitialByte → ℕ → List InitialByte
padded bytes n = bytes ++ replicate (n - length bytes) (Byte 0)

abbrev mutual
  pub initial_bytes : List CStruct → CType → CInitial → List InitialByte
  initial_bytes structs t (CInitial.Value e) = bytes_or_none (value_bytes structs e)
  initial_bytes structs t (CInitial.Text at bytes) = map Byte bytes
  initial_bytes structs t (CInitial.Braces at parts) = parts_bytes structs t [] 0 parts

  pub parts_bytes : List CStruct → CType → List InitialByte → ℕ → CInitials → List InitialByte
  parts_bytes structs t front i CInitials.none = front
  parts_bytes structs t front i (CInitials.more x xs) =
      parts_bytes structs t (padded front (part_offset structs t i) ++ initial_bytes structs (type_or_void (part_type structs t i)) x) (suc i) xs

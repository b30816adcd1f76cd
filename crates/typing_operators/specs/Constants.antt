-- Constant expressions and their values (C11 6.6). A number is a word, signed ones in two's complement.
use Rattle.std.specs.Prelude.{◌==◌, ℕ, ◌*◌, ◌-◌, nat_le, Bool, true, false, not, ◌&&◌}
use Rattle.std.specs.Prelude.{◌||◌, if◌then◌else◌, Option, Some, None, List, slice_get}
use Rattle.bb_words.specs.Numbers.{difference, all_ones}
use Rattle.bb_words.specs.Steps.{flag}
use Rattle.c_words.specs.declared.operators.UnaryOperator.{UnaryOperator}
use Rattle.c_words.specs.declared.operators.UnaryOperator.TheVariants as unary
use Rattle.c_words.specs.declared.operators.BinaryOperator.{BinaryOperator}
use Rattle.c_words.specs.declared.operators.BinaryOperator.TheVariants as binary
use Rattle.typed_tree.specs.declared.typed_expr.Conversion.{Conversion}
use Rattle.typed_tree.specs.declared.typed_expr.Conversion.TheVariants as conversion
use Rattle.typed_tree.specs.Types.{CType, is_number, is_unsigned}
use Rattle.typed_tree.specs.TypedTree.{CExpr, CForm, CStruct, type_of}
use Rattle.typed_tree.specs.Sizes.{largest, struct_size}
use Rattle.typed_tree.specs.Numbers.{fitted, quotient, remainder, on_numbers}

abbrev pub of_one : {A B : Type 0} → Option A → (A → Option B) → Option B
of_one None f = None
of_one (Some x) f = f x

abbrev pub at_most_largest : ℕ → Option ℕ
at_most_largest n = if nat_le n largest then Some n else None

-- the size of a type, if no array in it has too many bytes
abbrev pub measured : List CStruct → CType → Option ℕ
measured structs CType.Void = Some 0
measured structs CType.Char = Some 1
measured structs CType.Int = Some 4
measured structs CType.Unsigned = Some 4
measured structs (CType.Struct k) = Some (struct_size (slice_get structs k))
measured structs (CType.Pointer t) = Some 4
measured structs (CType.Array t n) = of_one (measured structs t) (λ size. at_most_largest (size * n))

-- 6.5.3.3: an operator on a number
abbrev pub unary_value : UnaryOperator → ℕ → Option ℕ
unary_value unary.Plus n = Some n
unary_value unary.Minus n = Some (difference 0 n)
unary_value unary.Complement n = Some (all_ones - n)
unary_value unary.Not n = Some (flag (n == 0))
unary_value unary.Address n = None
unary_value unary.Dereference n = None

-- 6.5.5 to 6.5.14: an operator on two numbers; a division by zero has no value
abbrev pub binary_value : BinaryOperator → (is_unsigned : Bool) → ℕ → ℕ → Option ℕ
binary_value binary.Divide u x y = if y == 0 then None else Some (quotient u x y)
binary_value binary.Remainder u x y = if y == 0 then None else Some (remainder u x y)
binary_value binary.LogicalAnd u x y = Some (flag (not (x == 0) && not (y == 0)))
binary_value binary.LogicalOr u x y = Some (flag (not (x == 0) || not (y == 0)))
binary_value op u x y = Some (on_numbers op u x y)

-- 6.5.4: a cast, or a conversion, to a number
abbrev pub cast_value : CType → ℕ → Option ℕ
cast_value t n = if is_number t then Some (fitted t n) else None

abbrev pub conversion_value : Conversion → CType → ℕ → Option ℕ
conversion_value conversion.NumberToNumber t n = Some (fitted t n)
conversion_value conversion.ArrayToPointer t n = None
conversion_value conversion.NullToPointer t n = None
conversion_value conversion.PointerToPointer t n = None

-- 6.6 p3, p6: The value of an expression, if it is constant. All of it is, also what would not be evaluated: nowhere does
-- it divide by zero. The operand of `sizeof` is not evaluated, and may be any expression.
abbrev mutual
  pub constant : List CStruct → CExpr → Option ℕ
  constant structs (CExpr.expr at t form) = constant_form structs t form

  pub constant_form : List CStruct → CType → CForm → Option ℕ
  constant_form structs t (CForm.Number n) = Some n
  constant_form structs t (CForm.Character n) = Some n
  constant_form structs t CForm.Eof = Some all_ones
  constant_form structs t (CForm.Convert c e) = of_one (constant structs e) (λ n. conversion_value c t n)
  constant_form structs t (CForm.Cast e) = of_one (constant structs e) (λ n. cast_value t n)
  constant_form structs t (CForm.SizeofExpression e) = measured structs (type_of e)
  constant_form structs t (CForm.SizeofType u) = measured structs u
  constant_form structs t (CForm.Unary op e) = of_one (constant structs e) (λ n. unary_value op n)
  constant_form structs t (CForm.Binary op a b) =
      of_one (constant structs a) (λ m. of_one (constant structs b) (λ n. binary_value op (is_unsigned (type_of a)) m n))
  constant_form structs t (CForm.Conditional c a b) =
      of_one (constant structs c) (λ k. of_one (constant structs a) (λ m. of_one (constant structs b) (λ n. if k == 0 then Some n else Some m)))
  constant_form structs t CForm.Null = None
  constant_form structs t (CForm.Local n) = None
  constant_form structs t (CForm.Global n) = None
  constant_form structs t (CForm.Text n) = None
  constant_form structs t (CForm.Index a b) = None
  constant_form structs t (CForm.Call f es) = None
  constant_form structs t (CForm.Member e m) = None
  constant_form structs t (CForm.Arrow e m) = None
  constant_form structs t (CForm.StepBefore op e) = None
  constant_form structs t (CForm.StepAfter op e) = None
  constant_form structs t (CForm.Assign op a b) = None
  constant_form structs t (CForm.Comma a b) = None

-- Conversions of typed operands keep the rules of typing.
use Rattle.std.proofs.Common.{◌≡◌, ◌≢◌, ℕ, Bool, true, false, ◌==◌, ◌&&◌, ◌||◌, IsTrue, List, refl, sym, ap, ◌∙◌, subst, arith}
use Rattle.std.specs.Prelude.{Ok, Err, if◌then◌else◌}
use Rattle.std.proofs.lemmas.Bool.Decides.{nat_tests}
use Rattle.c_words.specs.declared.place.At.{At}
use Rattle.typed_tree.specs.declared.typed_expr.Conversion.TheVariants as conversion
use Rattle.typing_operators.specs.declared.error.TypeError.TheVariants.{BadType}
use Rattle.typed_tree.specs.Types.{CType, same, is_number, is_pointer, is_array, is_scalar, is_unsigned, is_void_pointer, promoted, common, IsNumber, IsPointer}
use Rattle.typed_tree.specs.TypedTree.{CExpr, CForm, CStruct, type_of}
use Rattle.typed_tree.specs.Sizes.{IsType}
use Rattle.typed_tree.specs.TypedOperands.{is_null, is_plain, is_converted, unconverted, own_type, IsPlain, IsGiven, IsPromoted}
use Rattle.typed_tree.specs.TypedRules.{AreCommon}
use Rattle.typed_tree.specs.TypedBody.{Environment, IsExpr}
use Rattle.typing_operators.specs.Conversions.{decayed, converted, as_number, as_promoted, as_pointer, may_point, given}
use Rattle.typing_operators.specs.Operators.{both_numbers}
use Rattle.typing_operators.specs.Sound.{IsOperand, KeepsGiven}
use Rattle.typing_operators.proofs.Steps.{same_ok, and_left, and_right}

pub same_is : (t u : CType) → same t u ≡ true → t ≡ u
same_is CType.Void CType.Void h = refl
same_is CType.Char CType.Char h = refl
same_is CType.Int CType.Int h = refl
same_is CType.Unsigned CType.Unsigned h = refl
same_is (CType.Struct j) (CType.Struct k) h = let equal : j ≡ k = grind (arith, nat_tests, h) in ap CType.Struct equal
same_is (CType.Pointer a) (CType.Pointer b) h = ap CType.Pointer (same_is a b h)
same_is (CType.Array a m) (CType.Array b n) h =
    let element : a ≡ b = same_is a b (and_right (m == n) (same a b) h) in
    let left : m == n ≡ true = and_left (m == n) (same a b) h in
    let count : m ≡ n = grind (arith, nat_tests, left) in cc
same_is _ _ h = absurd cc

pub same_itself : (t : CType) → same t t ≡ true
same_itself CType.Void = refl
same_itself CType.Char = refl
same_itself CType.Int = refl
same_itself CType.Unsigned = refl
same_itself (CType.Struct k) = grind (arith, nat_tests)
same_itself (CType.Pointer t) = same_itself t
same_itself (CType.Array t n) = let equal : n == n ≡ true = grind (arith, nat_tests) in rw (equal, same_itself t) refl

pub differ : (t u : CType) → same t u ≡ false → t ≢ u
differ t u h is = let yes : same t u ≡ true = rw is (same_itself u) in cc

-- an operand without an array, and without any other conversion
pub record IsValue (names : Environment) (e : CExpr) : Type 0 where
  pub typed : IsExpr names e
  pub plain : IsPlain e
  pub self : unconverted e ≡ e

written_plain : (at : At) (t : CType) (form : CForm) → is_converted (CExpr.expr at t form) ≡ false → is_array t ≡ false → IsTrue (is_plain (CExpr.expr at t form))
written_plain at t (CForm.Convert c e) written no_array = absurd cc
written_plain at t _ written no_array = rw no_array refl

written_self : (at : At) (t : CType) (form : CForm) → is_converted (CExpr.expr at t form) ≡ false → unconverted (CExpr.expr at t form) ≡ CExpr.expr at t form
written_self at t (CForm.Convert c e) written = absurd cc
written_self at t _ written = refl

pub value_of_written : (names : Environment) (at : At) (t : CType) (form : CForm) → is_array t ≡ false → IsOperand names (CExpr.expr at t form) → IsValue names (CExpr.expr at t form)
value_of_written names at t form no_array operand = record {
  typed = operand.typed;
  plain = written_plain at t form operand.written no_array;
  self = written_self at t form operand.written;
}

pub decayed_value : (names : Environment) (x : CExpr) → IsOperand names x → IsValue names (decayed x)
unfolding decayed
decayed_value names (CExpr.expr at CType.Void form) operand = value_of_written names at _ form refl operand
decayed_value names (CExpr.expr at CType.Char form) operand = value_of_written names at _ form refl operand
decayed_value names (CExpr.expr at CType.Int form) operand = value_of_written names at _ form refl operand
decayed_value names (CExpr.expr at CType.Unsigned form) operand = value_of_written names at _ form refl operand
decayed_value names (CExpr.expr at (CType.Struct k) form) operand = value_of_written names at _ form refl operand
decayed_value names (CExpr.expr at (CType.Pointer t) form) operand = value_of_written names at _ form refl operand
decayed_value names (CExpr.expr at (CType.Array t n) form) operand = record {
  typed = (operand.typed.0.0, (operand.typed, (operand.written, t, n, refl, refl)));
  plain = refl;
  self = refl;
}

pub number_type : (structs : List CStruct) (t : CType) → IsNumber t → IsType structs t
number_type structs CType.Char is = tt
number_type structs CType.Int is = tt
number_type structs CType.Unsigned is = tt
number_type structs CType.Void is = absurd cc
number_type structs (CType.Struct k) is = absurd cc
number_type structs (CType.Pointer t) is = absurd cc
number_type structs (CType.Array t n) is = absurd cc

-- a number as one of another type
pub record IsNumberAs (names : Environment) (t : CType) (x e : CExpr) : Type 0 where
  pub typed : IsExpr names e
  pub has : type_of e ≡ t
  pub own : own_type e ≡ type_of x

as_number_by : (names : Environment) (t : CType) (x : CExpr) (b : Bool) → same (type_of x) t ≡ b → IsValue names x → IsNumber (type_of x) → IsNumber t
    → IsNumberAs names t x (if b then x else converted conversion.NumberToNumber t x)
as_number_by names t x true is value number to = record { typed = value.typed; has = same_is (type_of x) t is; own = ap type_of value.self }
as_number_by names t x false is value number to = record {
  typed = (number_type names.structs t to, (value.typed, (value.plain, number, to, differ (type_of x) t is)));
  has = refl;
  own = refl;
}

pub as_number_is : (names : Environment) (t : CType) (x : CExpr) → IsValue names x → IsNumber (type_of x) → IsNumber t → IsNumberAs names t x (as_number t x)
unfolding as_number
as_number_is names t x value number to = as_number_by names t x (same (type_of x) t) refl value number to

pub promoted_number : (t : CType) → IsNumber t → IsNumber (promoted t)
promoted_number CType.Char is = refl
promoted_number CType.Int is = refl
promoted_number CType.Unsigned is = refl
promoted_number CType.Void is = absurd cc
promoted_number (CType.Struct k) is = absurd cc
promoted_number (CType.Pointer t) is = absurd cc
promoted_number (CType.Array t n) is = absurd cc

pub as_promoted_is : (names : Environment) (x : CExpr) → IsValue names x → IsNumber (type_of x) → IsNumberAs names (promoted (type_of x)) x (as_promoted x)
unfolding as_promoted
as_promoted_is names x value number = as_number_is names (promoted (type_of x)) x value number (promoted_number (type_of x) number)

pub promotes : (names : Environment) (x : CExpr) → IsValue names x → IsNumber (type_of x) → IsExpr names (as_promoted x) × IsPromoted (as_promoted x)
promotes names x value number =
    let is = as_promoted_is names x value number in
    (is.typed, (rw is.own number, is.has ∙ ap promoted (sym is.own)))

common_number : (b : Bool) → IsNumber (if b then CType.Unsigned else CType.Int)
common_number true = refl
common_number false = refl

-- both numbers in their common type
pub record InCommon (names : Environment) (x y : CExpr) : Type 0 where
  pub left : IsExpr names (as_number (common (type_of x) (type_of y)) x)
  pub right : IsExpr names (as_number (common (type_of x) (type_of y)) y)
  pub are : AreCommon (as_number (common (type_of x) (type_of y)) x) (as_number (common (type_of x) (type_of y)) y) (common (type_of x) (type_of y))
  pub formed : IsType names.structs (common (type_of x) (type_of y))

pub in_common : (names : Environment) (x y : CExpr) → IsValue names x → IsValue names y → both_numbers x y ≡ true → InCommon names x y
in_common names x y left right both =
    let number = common_number (is_unsigned (type_of x) || is_unsigned (type_of y)) in
    let left_number : IsNumber (type_of x) = and_left _ _ both in
    let right_number : IsNumber (type_of y) = and_right (is_number (type_of x)) _ both in
    let a = as_number_is names (common (type_of x) (type_of y)) x left left_number number in
    let b = as_number_is names (common (type_of x) (type_of y)) y right right_number number in
    record {
      left = a.typed;
      right = b.typed;
      are = record {
        left_number = rw a.own left_number;
        right_number = rw b.own right_number;
        is_common = rw (a.own, b.own) refl;
        left = a.has;
        right = b.has;
      };
      formed = number_type names.structs _ number;
    }

-- a pointer, or a null constant, as a pointer of another type
pub record IsPointerAs (names : Environment) (t : CType) (x e : CExpr) : Type 0 where
  pub typed : IsExpr names e
  pub has : type_of e ≡ t
  pub own : unconverted e ≡ x

as_pointer_by : (names : Environment) (t : CType) (x : CExpr) (b n : Bool) → same (type_of x) t ≡ b → is_null x ≡ n → IsValue names x
    → IsPointer t → IsType names.structs t → b || n || (is_pointer (type_of x) && (is_void_pointer t || is_void_pointer (type_of x))) ≡ true
    → IsPointerAs names t x (if b then x else if n then converted conversion.NullToPointer t x else converted conversion.PointerToPointer t x)
as_pointer_by names t x true n is null value to formed may = record { typed = value.typed; has = same_is (type_of x) t is; own = value.self }
as_pointer_by names t x false true is null value to formed may = record {
  typed = (formed, (value.typed, (null, to, differ (type_of x) t is)));
  has = refl;
  own = refl;
}
as_pointer_by names t x false false is null value to formed may = record {
  typed = (formed, (value.typed, (value.plain, null, and_left _ _ may, to, swapped (is_void_pointer t) (is_void_pointer (type_of x)) (and_right (is_pointer (type_of x)) _ may), differ (type_of x) t is)));
  has = refl;
  own = refl;
}
  where
    swapped : (a b : Bool) → a || b ≡ true → b || a ≡ true
    swapped true true h = refl
    swapped true false h = refl
    swapped false true h = refl
    swapped false false h = h

pub as_pointer_is : (names : Environment) (t : CType) (x : CExpr) → IsValue names x → IsPointer t → IsType names.structs t → may_point t x ≡ true → IsPointerAs names t x (as_pointer t x)
unfolding as_pointer
as_pointer_is names t x value to formed may = as_pointer_by names t x (same (type_of x) t) (is_null x) refl refl value to formed may

pub number_scalar : (t : CType) → IsNumber t → IsTrue (is_scalar t)
number_scalar t is = rw is refl

pub pointer_scalar : (t : CType) → IsPointer t → IsTrue (is_scalar t)
pointer_scalar t is = either (is_number t) is
  where
    either : (b : Bool) → is_pointer t ≡ true → b || is_pointer t ≡ true
    either true h = refl
    either false h = h

given_by : (names : Environment) (line : ℕ) (t : CType) (d v : CExpr) → IsType names.structs t → IsValue names d
    → (b c : Bool) → is_number t && is_number (type_of d) ≡ b → is_pointer t && may_point t d ≡ c
    → (if b then Ok (as_number t d) else if c then Ok (as_pointer t d) else Err (BadType line 10)) ≡ Ok v → IsExpr names v × IsGiven t v
given_by names line t d v formed value true c numbers points is =
    let a = as_number_is names t d value (and_right (is_number t) _ numbers) (and_left _ _ numbers) in
    subst (λ e. IsExpr names e × IsGiven t e) (same_ok (as_number t d) v is) (a.typed, (a.has, number_scalar t (and_left _ _ numbers)))
given_by names line t d v formed value false true numbers points is =
    let a = as_pointer_is names t d value (and_left _ _ points) formed (and_right (is_pointer t) _ points) in
    subst (λ e. IsExpr names e × IsGiven t e) (same_ok (as_pointer t d) v is) (a.typed, (a.has, pointer_scalar t (and_left _ _ points)))
given_by names line t d v formed value false false numbers points is = absurd cc

pub given_keeps : (names : Environment) (line : ℕ) (t : CType) (x : CExpr) → IsType names.structs t → IsOperand names x → KeepsGiven names t (given line t x)
unfolding given
given_keeps names line t x formed operand v is =
    given_by names line t (decayed x) v formed (decayed_value names x operand) _ _ refl refl is

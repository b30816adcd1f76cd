-- What an operand becomes, and how the rules of the operators convert it, are the same.
use Rattle.std.proofs.Common.{◌≡◌, ◌≢◌, ℕ, Bool, true, false, ◌==◌, ◌&&◌, ◌||◌, IsTrue, refl, sym, ap, subst, arith}
use Rattle.std.specs.Prelude.{if◌then◌else◌}
use Rattle.std.proofs.lemmas.Bool.Decides.{nat_tests}
use Rattle.typed_tree.specs.declared.typed_expr.Conversion.{Conversion}
use Rattle.typed_tree.specs.declared.typed_expr.Conversion.TheVariants.{ArrayToPointer, NumberToNumber, NullToPointer, PointerToPointer}
use Rattle.typed_tree.specs.Types.{CType, same, is_number, is_pointer, is_array, is_void_pointer, IsNumber, IsPointer}
use Rattle.typed_tree.specs.TypedTree.{CExpr, CForm, type_of}
use Rattle.typed_tree.specs.TypedOperands.{is_place, is_null, unconverted, own_type, IsPlain, IsWritten, IsConversion}
use Rattle.typing_operators.specs.Conversions.{decayed, decayed_from, converted, as_number, as_pointer, may_point}
use Rattle.typing_accepted.specs.AcceptanceOperands.{Becomes}
use Rattle.typing_accepted.proofs.Steps.{and_left, and_right, both_true, or_left, or_right, swapped, not_true}

-- types

pub same_is : (t u : CType) → same t u ≡ true → t ≡ u
same_is CType.Void CType.Void h = refl
same_is CType.Char CType.Char h = refl
same_is CType.Int CType.Int h = refl
same_is CType.Unsigned CType.Unsigned h = refl
same_is (CType.Struct j) (CType.Struct k) h = let equal : j ≡ k = grind (arith, nat_tests, h) in ap CType.Struct equal
same_is (CType.Pointer a) (CType.Pointer b) h = ap CType.Pointer (same_is a b h)
same_is (CType.Array a m) (CType.Array b n) h =
    let element : a ≡ b = same_is a b (and_right (m == n) (same a b) h) in
    let left : m == n ≡ true = and_left (m == n) (same a b) h in
    let count : m ≡ n = grind (arith, nat_tests, left) in cc
same_is _ _ h = absurd cc

pub same_itself : (t : CType) → same t t ≡ true
same_itself CType.Void = refl
same_itself CType.Char = refl
same_itself CType.Int = refl
same_itself CType.Unsigned = refl
same_itself (CType.Struct k) = grind (arith, nat_tests)
same_itself (CType.Pointer t) = same_itself t
same_itself (CType.Array t n) = let equal : n == n ≡ true = grind (arith, nat_tests) in rw (equal, same_itself t) refl

pub same_of : (t u : CType) → t ≡ u → same t u ≡ true
same_of t u is = rw is (same_itself u)

pub differ : (t u : CType) → same t u ≡ false → t ≢ u
differ t u h is = let yes : same t u ≡ true = same_of t u is in cc

pub differs : (t u : CType) → t ≢ u → same t u ≡ false
differs t u other = by (same t u) refl
  where
    by : (b : Bool) → same t u ≡ b → b ≡ false
    by true h = absurd (other (same_is t u h))
    by false h = refl

pub number_flat : (t : CType) → IsNumber t → is_array t ≡ false
number_flat CType.Char h = refl
number_flat CType.Int h = refl
number_flat CType.Unsigned h = refl
number_flat CType.Void h = refl
number_flat (CType.Struct k) h = refl
number_flat (CType.Pointer t) h = refl
number_flat (CType.Array t n) h = absurd cc

pub pointer_flat : (t : CType) → IsPointer t → is_array t ≡ false
pointer_flat (CType.Pointer t) h = refl
pointer_flat CType.Char h = refl
pointer_flat CType.Int h = refl
pointer_flat CType.Unsigned h = refl
pointer_flat CType.Void h = refl
pointer_flat (CType.Struct k) h = refl
pointer_flat (CType.Array t n) h = absurd cc

pub no_number : (t : CType) → IsPointer t → is_number t ≡ false
no_number (CType.Pointer t) h = refl
no_number CType.Char h = absurd cc
no_number CType.Int h = absurd cc
no_number CType.Unsigned h = absurd cc
no_number CType.Void h = refl
no_number (CType.Struct k) h = refl
no_number (CType.Array t n) h = refl

-- operands as the text has them

-- an expression that is accepted has no conversion, and as a null constant it is no array
pub record IsRead (x : CExpr) : Type 0 where
  pub written : IsWritten x
  pub flat : is_null x ≡ true → is_array (type_of x) ≡ false

-- an operand that has become a value
pub record IsValue (x d : CExpr) : Type 0 where
  pub becomes : Becomes x d
  pub plain : IsPlain d
  pub self : unconverted d ≡ d

pub plain_of : (x : CExpr) → IsWritten x → is_array (type_of x) ≡ false → IsPlain x
plain_of (CExpr.expr at t (CForm.Convert c e)) written flat = absurd cc
plain_of (CExpr.expr at t _) written flat = rw flat refl

pub flat_of : (x : CExpr) → IsWritten x → IsPlain x → is_array (type_of x) ≡ false
flat_of (CExpr.expr at t (CForm.Convert c e)) written plain = absurd cc
flat_of (CExpr.expr at t _) written plain = not_true (is_array t) plain

pub self_of : (x : CExpr) → IsWritten x → unconverted x ≡ x
self_of (CExpr.expr at t (CForm.Convert c e)) written = absurd cc
self_of (CExpr.expr at t _) written = refl

pub decayed_array : (x : CExpr) (u : CType) (n : ℕ) → type_of x ≡ CType.Array u n → decayed x ≡ converted ArrayToPointer (CType.Pointer u) x
unfolding decayed
decayed_array x u n h = ap (λ t. decayed_from t x) h

pub decayed_flat : (x : CExpr) → is_array (type_of x) ≡ false → decayed x ≡ x
unfolding decayed
decayed_flat (CExpr.expr at CType.Void form) flat = refl
decayed_flat (CExpr.expr at CType.Char form) flat = refl
decayed_flat (CExpr.expr at CType.Int form) flat = refl
decayed_flat (CExpr.expr at CType.Unsigned form) flat = refl
decayed_flat (CExpr.expr at (CType.Struct k) form) flat = refl
decayed_flat (CExpr.expr at (CType.Pointer t) form) flat = refl
decayed_flat (CExpr.expr at (CType.Array t n) form) flat = absurd cc

-- an array, or none
array_or : (P : CExpr → Type 0) (x : CExpr) → (is_array (type_of x) ≡ false → P x) → ((u : CType) (n : ℕ) → type_of x ≡ CType.Array u n → P x) → P x
array_or P (CExpr.expr at (CType.Array t n) form) other array = array t n refl
array_or P (CExpr.expr at CType.Void form) other array = other refl
array_or P (CExpr.expr at CType.Char form) other array = other refl
array_or P (CExpr.expr at CType.Int form) other array = other refl
array_or P (CExpr.expr at CType.Unsigned form) other array = other refl
array_or P (CExpr.expr at (CType.Struct k) form) other array = other refl
array_or P (CExpr.expr at (CType.Pointer t) form) other array = other refl

-- a number is no array
pub number_self : (x : CExpr) → IsNumber (type_of (decayed x)) → decayed x ≡ x
number_self x number =
    array_or (λ e. IsNumber (type_of (decayed e)) → decayed e ≡ e) x
    (λ flat n. decayed_flat x flat)
    (λ u n is h. let no : IsNumber (CType.Pointer u) = subst (λ e. IsNumber (type_of e)) (decayed_array x u n is) h in absurd cc) number

pub flat_value : (x : CExpr) → IsWritten x → is_array (type_of x) ≡ false → IsValue x x
flat_value x written flat = record { becomes = Becomes.itself; plain = plain_of x written flat; self = self_of x written }

array_value : (x : CExpr) (u : CType) (n : ℕ) → IsWritten x → type_of x ≡ CType.Array u n → IsValue x (converted ArrayToPointer (CType.Pointer u) x)
array_value x u n written is = record {
  becomes = Becomes.further ArrayToPointer (CType.Pointer u) Becomes.itself (written, u, n, is, refl);
  plain = refl;
  self = refl;
}

pub decayed_value : (x : CExpr) → IsWritten x → IsValue x (decayed x)
decayed_value x written =
    array_or (λ e. IsWritten e → IsValue e (decayed e)) x
    (λ flat w. subst (λ d. IsValue x d) (sym (decayed_flat x flat)) (flat_value x w flat))
    (λ u n is w. subst (λ d. IsValue x d) (sym (decayed_array x u n is)) (array_value x u n w is)) written

-- what an operand can have become

data Shape (x : CExpr) : CExpr → Type 0 where
  same_one : Shape x x
  from_array : (u : CType) (n : ℕ) → type_of x ≡ CType.Array u n → Shape x (converted ArrayToPointer (CType.Pointer u) x)
  from_number : (t : CType) → IsNumber (type_of x) → IsNumber t → type_of x ≢ t → Shape x (converted NumberToNumber t x)
  from_null : (t : CType) → is_null x ≡ true → IsPointer t → type_of x ≢ t → Shape x (converted NullToPointer t x)
  from_pointer : (t : CType) (d : CExpr) → d ≡ decayed x → is_null d ≡ false → IsPointer (type_of d) → IsPointer t
      → is_void_pointer (type_of d) || is_void_pointer t ≡ true → type_of d ≢ t → Shape x (converted PointerToPointer t d)

shape_on : (x d : CExpr) (c : Conversion) (t : CType) → Shape x d → IsConversion c d t → Shape x (converted c t d)
shape_on x d ArrayToPointer t Shape.same_one is = rw is.4 (Shape.from_array is.1 is.2 is.3)
shape_on x d ArrayToPointer t (Shape.from_array u n h) is = absurd cc
shape_on x d ArrayToPointer t (Shape.from_number u a b c) is = absurd cc
shape_on x d ArrayToPointer t (Shape.from_null u a b c) is = absurd cc
shape_on x d ArrayToPointer t (Shape.from_pointer u e a b f g h i) is = absurd cc
shape_on x d NumberToNumber t Shape.same_one is = Shape.from_number t is.1 is.2 is.3
shape_on x d NumberToNumber t (Shape.from_array u n h) is = absurd cc
shape_on x d NumberToNumber t (Shape.from_number u a b c) is = absurd cc
shape_on x d NumberToNumber t (Shape.from_null u a b c) is = absurd cc
shape_on x d NumberToNumber t (Shape.from_pointer u e a b f g h i) is = absurd cc
shape_on x d NullToPointer t Shape.same_one is = Shape.from_null t is.0 is.1 is.2
shape_on x d NullToPointer t (Shape.from_array u n h) is = absurd cc
shape_on x d NullToPointer t (Shape.from_number u a b c) is = absurd cc
shape_on x d NullToPointer t (Shape.from_null u a b c) is = absurd cc
shape_on x d NullToPointer t (Shape.from_pointer u e a b f g h i) is = absurd cc
shape_on x d PointerToPointer t Shape.same_one is = Shape.from_pointer t x (sym (decayed_flat x (pointer_flat (type_of x) is.2))) is.1 is.2 is.3 is.4 is.5
shape_on x d PointerToPointer t (Shape.from_array u n h) is = Shape.from_pointer t _ (sym (decayed_array x u n h)) is.1 is.2 is.3 is.4 is.5
shape_on x d PointerToPointer t (Shape.from_number u a b c) is = absurd cc
shape_on x d PointerToPointer t (Shape.from_null u a b c) is = absurd cc
shape_on x d PointerToPointer t (Shape.from_pointer u e a b f g h i) is = absurd cc

shape : (x a : CExpr) → Becomes x a → Shape x a
shape x a Becomes.itself = Shape.same_one
shape x a (Becomes.further c t b is) = shape_on x _ c t (shape x _ b) is

-- what is a value is the operand without its array
pub plain_is : (x a : CExpr) → IsWritten x → Becomes x a → IsPlain a → a ≡ decayed x
plain_is x a written becomes plain = by a (shape x a becomes) plain
  where
    by : (a : CExpr) → Shape x a → IsPlain a → a ≡ decayed x
    by a Shape.same_one plain = sym (decayed_flat x (flat_of x written plain))
    by a (Shape.from_array u n h) plain = sym (decayed_array x u n h)
    by a (Shape.from_number u b c d) plain = absurd cc
    by a (Shape.from_null u b c d) plain = absurd cc
    by a (Shape.from_pointer u e b c f g h i) plain = absurd cc

-- a place is the operand itself
pub place_is : (x a : CExpr) → Becomes x a → IsTrue (is_place a) → a ≡ x
place_is x a becomes place = by a (shape x a becomes) place
  where
    by : (a : CExpr) → Shape x a → IsTrue (is_place a) → a ≡ x
    by a Shape.same_one w = refl
    by a (Shape.from_array u n h) w = absurd cc
    by a (Shape.from_number u b c d) w = absurd cc
    by a (Shape.from_null u b c d) w = absurd cc
    by a (Shape.from_pointer u e b c f g h i) w = absurd cc

-- what has no value is no array either
pub void_is : (x a : CExpr) → Becomes x a → type_of a ≡ CType.Void → a ≡ decayed x
void_is x a becomes void = by a (shape x a becomes) void
  where
    no_void : (t : CType) → IsPointer t → t ≡ CType.Void → ⊥
    no_void t p v = let no : is_pointer CType.Void ≡ true = subst (λ u. IsPointer u) v p in cc

    by : (a : CExpr) → Shape x a → type_of a ≡ CType.Void → a ≡ decayed x
    by a Shape.same_one v = sym (decayed_flat x (rw v refl))
    by a (Shape.from_array u n h) v = absurd (no_void _ refl v)
    by a (Shape.from_number u b c d) v = let no : is_number CType.Void ≡ true = subst (λ t. IsNumber t) v c in absurd cc
    by a (Shape.from_null u b c d) v = absurd (no_void u c v)
    by a (Shape.from_pointer u e b c f g h i) v = absurd (no_void u g v)

-- numbers

number_same : (t : CType) (x : CExpr) → type_of x ≡ t → as_number t x ≡ x
unfolding as_number
number_same t x is = rw (same_of (type_of x) t is) refl

number_other : (t : CType) (x : CExpr) → type_of x ≢ t → as_number t x ≡ converted NumberToNumber t x
unfolding as_number
number_other t x other = rw (differs (type_of x) t other) refl

-- a number that an operand has become, where d is the operand without its array
pub record IsNumberOf (d a : CExpr) : Type 0 where
  pub number : IsNumber (type_of d)
  pub is : a ≡ as_number (type_of a) d
  pub own : own_type a ≡ type_of d

pub number_is : (x a : CExpr) → IsWritten x → Becomes x a → IsNumber (type_of a) → IsNumberOf (decayed x) a
number_is x a written becomes number = by a (shape x a becomes) number
  where
    of : IsNumber (type_of x) → (a : CExpr) → IsNumberOf x a → IsNumberOf (decayed x) a
    of n a is = subst (λ d. IsNumberOf d a) (sym (decayed_flat x (number_flat (type_of x) n))) is

    by : (a : CExpr) → Shape x a → IsNumber (type_of a) → IsNumberOf (decayed x) a
    by a Shape.same_one n = of n x (record { number = n; is = sym (number_same (type_of x) x refl); own = ap type_of (self_of x written) })
    by a (Shape.from_array u m h) n = absurd cc
    by a (Shape.from_number u b c d) n = of b _ (record { number = b; is = sym (number_other u x d); own = refl })
    by a (Shape.from_null u b c d) n = let no = no_number u c in absurd cc
    by a (Shape.from_pointer u e b c f g h i) n = let no = no_number u g in absurd cc

pub number_becomes : (t : CType) (x d : CExpr) → IsValue x d → IsNumber (type_of d) → IsNumber t → Becomes x (as_number t d)
unfolding as_number
number_becomes t x d value number to = by (same (type_of d) t) refl
  where
    by : (b : Bool) → same (type_of d) t ≡ b → Becomes x (if b then d else converted NumberToNumber t d)
    by true is = value.becomes
    by false is = Becomes.further NumberToNumber t value.becomes (value.plain, number, to, differ (type_of d) t is)

pub number_type : (t : CType) (d : CExpr) → type_of (as_number t d) ≡ t
unfolding as_number
number_type t d = by (same (type_of d) t) refl
  where
    by : (b : Bool) → same (type_of d) t ≡ b → type_of (if b then d else converted NumberToNumber t d) ≡ t
    by true is = same_is (type_of d) t is
    by false is = refl

pub number_own : (t : CType) (d : CExpr) → unconverted d ≡ d → own_type (as_number t d) ≡ type_of d
unfolding as_number
number_own t d self = by (same (type_of d) t)
  where
    by : (b : Bool) → own_type (if b then d else converted NumberToNumber t d) ≡ type_of d
    by true = ap type_of self
    by false = refl

-- pointers

pointer_same : (t : CType) (d : CExpr) → type_of d ≡ t → as_pointer t d ≡ d
unfolding as_pointer
pointer_same t d is = rw (same_of (type_of d) t is) refl

pointer_null : (t : CType) (d : CExpr) → type_of d ≢ t → is_null d ≡ true → as_pointer t d ≡ converted NullToPointer t d
unfolding as_pointer
pointer_null t d other null = rw (differs (type_of d) t other, null) refl

pointer_other : (t : CType) (d : CExpr) → type_of d ≢ t → is_null d ≡ false → as_pointer t d ≡ converted PointerToPointer t d
unfolding as_pointer
pointer_other t d other null = rw (differs (type_of d) t other, null) refl

-- a pointer that an operand has become, where d is the operand without its array
pub record IsPointerOf (d a : CExpr) : Type 0 where
  pub is : a ≡ as_pointer (type_of a) d
  pub own : unconverted a ≡ d
  pub may : may_point (type_of a) d ≡ true

pub may_same : (t : CType) (d : CExpr) → type_of d ≡ t → may_point t d ≡ true
may_same t d is = or_left _ _ (or_left (same (type_of d) t) (is_null d) (same_of (type_of d) t is))

pub may_null : (t : CType) (d : CExpr) → is_null d ≡ true → may_point t d ≡ true
may_null t d null = or_left _ _ (or_right (same (type_of d) t) (is_null d) null)

pub may_void : (t : CType) (d : CExpr) → IsPointer (type_of d) → is_void_pointer (type_of d) || is_void_pointer t ≡ true → may_point t d ≡ true
may_void t d pointer void =
    or_right (same (type_of d) t || is_null d) _ (both_true (is_pointer (type_of d)) _ pointer (swapped (is_void_pointer (type_of d)) (is_void_pointer t) void))

pub pointer_is : (x a : CExpr) → IsRead x → Becomes x a → IsPointer (type_of a) → IsPointerOf (decayed x) a
pointer_is x a read becomes pointer = by a (shape x a becomes) pointer
  where
    to : (d a : CExpr) → d ≡ decayed x → IsPointerOf d a → IsPointerOf (decayed x) a
    to d a same is = subst (λ e. IsPointerOf e a) same is

    by : (a : CExpr) → Shape x a → IsPointer (type_of a) → IsPointerOf (decayed x) a
    by a Shape.same_one p = to x x (sym (decayed_flat x (pointer_flat (type_of x) p)))
        (record { is = sym (pointer_same (type_of x) x refl); own = self_of x read.written; may = may_same (type_of x) x refl })
    by a (Shape.from_array u n h) p = to _ _ (sym (decayed_array x u n h))
        (record { is = sym (pointer_same (CType.Pointer u) (converted ArrayToPointer (CType.Pointer u) x) refl); own = refl; may = may_same (CType.Pointer u) (converted ArrayToPointer (CType.Pointer u) x) refl })
    by a (Shape.from_number u b c d) p = let no = no_number u p in absurd cc
    by a (Shape.from_null u b c d) p = to x _ (sym (decayed_flat x (read.flat b)))
        (record { is = sym (pointer_null u x d b); own = refl; may = may_null u x b })
    by a (Shape.from_pointer u e b c f g h i) p = to e _ b (record { is = sym (pointer_other u e i c); own = refl; may = may_void u e f h })

pub pointer_becomes : (t : CType) (x d : CExpr) → IsValue x d → IsPointer t → may_point t d ≡ true → Becomes x (as_pointer t d)
unfolding as_pointer
pointer_becomes t x d value to may = by (same (type_of d) t) (is_null d) refl refl may
  where
    by : (b n : Bool) → same (type_of d) t ≡ b → is_null d ≡ n → b || n || (is_pointer (type_of d) && (is_void_pointer t || is_void_pointer (type_of d))) ≡ true
        → Becomes x (if b then d else if n then converted NullToPointer t d else converted PointerToPointer t d)
    by true n is null may = value.becomes
    by false true is null may = Becomes.further NullToPointer t value.becomes (null, to, differ (type_of d) t is)
    by false false is null may =
        Becomes.further PointerToPointer t value.becomes
        (value.plain, null, and_left _ _ may, to, swapped (is_void_pointer t) (is_void_pointer (type_of d)) (and_right (is_pointer (type_of d)) _ may), differ (type_of d) t is)

pub pointer_type : (t : CType) (d : CExpr) → type_of (as_pointer t d) ≡ t
unfolding as_pointer
pointer_type t d = by (same (type_of d) t) (is_null d) refl
  where
    by : (b n : Bool) → same (type_of d) t ≡ b → type_of (if b then d else if n then converted NullToPointer t d else converted PointerToPointer t d) ≡ t
    by true n is = same_is (type_of d) t is
    by false true is = refl
    by false false is = refl

pub pointer_own : (t : CType) (d : CExpr) → unconverted d ≡ d → unconverted (as_pointer t d) ≡ d
unfolding as_pointer
pointer_own t d self = by (same (type_of d) t) (is_null d)
  where
    by : (b n : Bool) → unconverted (if b then d else if n then converted NullToPointer t d else converted PointerToPointer t d) ≡ d
    by true n = self
    by false true = refl
    by false false = refl

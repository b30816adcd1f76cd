-- The operators with one operand, casts and `sizeof` keep the rules of typing.
use Rattle.std.proofs.Common.{◌≡◌, ℕ, Bool, true, false, not, ◌&&◌, ◌||◌, inl, inr, ◌⊎◌, List, refl, sym, ap, subst}
use Rattle.std.specs.Prelude.{Option, Some, None, Ok, if◌then◌else◌}
use Rattle.c_words.specs.declared.place.At.{At}
use Rattle.c_words.specs.declared.operators.UnaryOperator.{UnaryOperator}
use Rattle.c_words.specs.declared.operators.UnaryOperator.TheVariants as unary
use Rattle.c_words.specs.declared.operators.StepOperator.{StepOperator}
use Rattle.typed_tree.specs.Types.{CType, is_number, is_pointer, is_array, promoted, IsNumber}
use Rattle.typed_tree.specs.TypedTree.{CExpr, CForm, CStruct, type_of}
use Rattle.typed_tree.specs.Sizes.{IsType, IsComplete, is_complete}
use Rattle.typed_tree.specs.TypedOperands.{is_place, is_null, is_converted}
use Rattle.typed_tree.specs.TypedRules.{IsCondition, IsPointerToComplete, CanStep, IsStepped, IsUnary, MayCast}
use Rattle.typed_tree.specs.TypedBody.{Environment, IsExpr, IsForm}
use Rattle.typing_operators.specs.Rule.{Rule}
use Rattle.typing_operators.specs.Conversions.{decayed, as_promoted, points_to_complete, is_void}
use Rattle.typing_operators.specs.Operators.{referred, element_of, followed_to, followed, signed, tested, unary_rule, is_assignable, step_rule, kept_unless, steps, step_before_rule, step_after_rule, may_cast, cast_rule, measured_rule, measured_type}
use Rattle.typing_operators.specs.Sound.{IsOperand, Keeps}
use Rattle.typing_operators.proofs.Steps.{passes, bound, same_ok, not_false, and_left, and_right, or_cases}
use Rattle.typing_operators.proofs.Converted.{IsValue, value_of_written, decayed_value, number_type, promoted_number, as_promoted_is, promotes}

pub formed_type : (names : Environment) (x : CExpr) → IsExpr names x → IsType names.structs (type_of x)
formed_type names (CExpr.expr at t form) typed = typed.0

-- an expression that keeps the rules is an operand, unless it is a conversion
pub made : (names : Environment) (at : At) (t : CType) (form : CForm) → is_converted (CExpr.expr at t form) ≡ false → IsType names.structs t → IsForm names t form → IsOperand names (CExpr.expr at t form)
made names at t form written formed keeps = record { typed = (formed, keeps); written = written }

pub along : (names : Environment) (w v : CExpr) → (let r : Rule CExpr = Ok w in r) ≡ Ok v → IsOperand names w → IsOperand names v
along names w v is operand = subst (λ e. IsOperand names e) (same_ok w v is) operand

-- a number is a value as it is
pub number_value : (names : Environment) (x : CExpr) → IsOperand names x → IsNumber (type_of x) → IsValue names x
number_value names (CExpr.expr at CType.Char form) operand number = value_of_written names at _ form refl operand
number_value names (CExpr.expr at CType.Int form) operand number = value_of_written names at _ form refl operand
number_value names (CExpr.expr at CType.Unsigned form) operand number = value_of_written names at _ form refl operand
number_value names (CExpr.expr at CType.Void form) operand number = absurd cc
number_value names (CExpr.expr at (CType.Struct k) form) operand number = absurd cc
number_value names (CExpr.expr at (CType.Pointer t) form) operand number = absurd cc
number_value names (CExpr.expr at (CType.Array t n) form) operand number = absurd cc

referred_keeps : (names : Environment) (at : At) (x : CExpr) → IsOperand names x → Keeps names (referred at x)
unfolding referred
referred_keeps names at x operand v is =
    let passed = passes _ _ _ v is in
    along names _ v passed.1
    (made names at (CType.Pointer (type_of x)) (CForm.Unary unary.Address x) refl (formed_type names x operand.typed)
    (operand.typed, record { place = not_false _ passed.0; result = refl }))

-- what a pointer to a complete type points to
pub element_is : (structs : List CStruct) (t u : CType) → element_of structs t ≡ Some u → (t ≡ CType.Pointer u) × IsComplete structs u
unfolding element_of
element_is structs (CType.Pointer w) u is = by (is_complete structs w) refl is
  where
    by : (b : Bool) → is_complete structs w ≡ b → (if b then Some w else None) ≡ Some u → (CType.Pointer w ≡ CType.Pointer u) × IsComplete structs u
    by true complete is = let same : w ≡ u = cc in (ap CType.Pointer same, subst (λ x. IsComplete structs x) same complete)
    by false complete is = absurd cc
element_is structs CType.Void u is = absurd cc
element_is structs CType.Char u is = absurd cc
element_is structs CType.Int u is = absurd cc
element_is structs CType.Unsigned u is = absurd cc
element_is structs (CType.Struct k) u is = absurd cc
element_is structs (CType.Array t n) u is = absurd cc

-- the type behind a pointer may be formed where the pointer's may
pub behind : (names : Environment) (t u : CType) → t ≡ CType.Pointer u → IsType names.structs t → IsType names.structs u
behind names t u is formed = subst (λ x. IsType names.structs x) is formed

followed_by : (names : Environment) (at : At) (d v : CExpr) → IsValue names d → (o : Option CType) → element_of names.structs (type_of d) ≡ o → followed_to at d o ≡ Ok v → IsOperand names v
followed_by names at d v value None found is = absurd cc
followed_by names at d v value (Some t) found is =
    let element = element_is names.structs (type_of d) t found in
    along names _ v is
    (made names at t (CForm.Unary unary.Dereference d) refl (behind names (type_of d) t element.0 (formed_type names d value.typed))
    (value.typed, record { plain = value.plain; to = element.0; complete = element.1 }))

followed_keeps : (names : Environment) (at : At) (x : CExpr) → IsOperand names x → Keeps names (followed names.structs at x)
unfolding followed
followed_keeps names at x operand v is = followed_by names at (decayed x) v (decayed_value names x operand) _ refl is

signed_keeps : (names : Environment) (at : At) (op : UnaryOperator) (x : CExpr)
    → ((e : CExpr) (t : CType) → IsUnary names.structs unary.Plus e t → IsUnary names.structs op e t) → IsOperand names x → Keeps names (signed at op x)
unfolding signed
signed_keeps names at op x fits operand v is =
    let passed = passes _ _ _ v is in
    let number = not_false _ passed.0 in
    let value = number_value names x operand number in
    let promotes = promotes names x value number in
    along names _ v passed.1
    (made names at (promoted (type_of x)) (CForm.Unary op (as_promoted x)) refl (number_type names.structs _ (promoted_number _ number))
    (promotes.0, fits (as_promoted x) _ (record { operand = promotes.1; result = sym (as_promoted_is names x value number).has })))

-- a condition that was tested
pub record IsTested (names : Environment) (v : CExpr) : Type 0 where
  pub typed : IsExpr names v
  pub condition : IsCondition v

pub tested_is : (names : Environment) (line : ℕ) (x v : CExpr) → IsOperand names x → tested line x ≡ Ok v → IsTested names v
unfolding tested
tested_is names line x v operand is =
    let passed = passes _ _ _ v is in
    let value = decayed_value names x operand in
    subst (λ e. IsTested names e) (same_ok (decayed x) v passed.1)
    (record { typed = value.typed; condition = record { plain = value.plain; scalar = not_false _ passed.0 } })

pub unary_keeps : (names : Environment) (at : At) (op : UnaryOperator) (x : CExpr) → IsOperand names x → Keeps names (unary_rule names.structs at op x)
unary_keeps names at unary.Address x operand v is = referred_keeps names at x operand v is
unary_keeps names at unary.Dereference x operand v is = followed_keeps names at x operand v is
unary_keeps names at unary.Plus x operand v is = signed_keeps names at unary.Plus x (λ e t h. h) operand v is
unary_keeps names at unary.Minus x operand v is = signed_keeps names at unary.Minus x (λ e t h. h) operand v is
unary_keeps names at unary.Complement x operand v is = signed_keeps names at unary.Complement x (λ e t h. h) operand v is
unary_keeps names at unary.Not x operand v is =
    let c = bound (tested at.line x) _ v is in
    let tested = tested_is names at.line x c.0 operand c.1 in
    along names _ v c.2 (made names at CType.Int (CForm.Unary unary.Not c.0) refl tt (tested.typed, (tested.condition, refl)))

pub points : (structs : List CStruct) (t : CType) → points_to_complete structs t ≡ true → IsPointerToComplete structs t
points structs (CType.Pointer u) h = h
points structs CType.Void h = absurd cc
points structs CType.Char h = absurd cc
points structs CType.Int h = absurd cc
points structs CType.Unsigned h = absurd cc
points structs (CType.Struct k) h = absurd cc
points structs (CType.Array u n) h = absurd cc

-- where `++` and `--` may be applied
can_step : (structs : List CStruct) (t : CType) (line : ℕ) → kept_unless line (step_rule structs t) ≡ Ok tt → CanStep structs t
can_step structs t line is = by (is_number t) (points_to_complete structs t) refl refl is
  where
    fails : (c : Bool) → kept_unless line (if c then Some 8 else Some 7) ≡ Ok tt → ⊥
    fails true h = cc
    fails false h = cc

    by : (a b : Bool) → is_number t ≡ a → points_to_complete structs t ≡ b → kept_unless line (if a || b then None else if is_pointer t then Some 8 else Some 7) ≡ Ok tt → CanStep structs t
    by true b number pointer h = CanStep.number number
    by false true number pointer h = CanStep.pointer (points structs t pointer)
    by false false number pointer h = absurd (fails (is_pointer t) h)

steps_is : (names : Environment) (at : At) (x : CExpr) (u : Unit {0}) → steps names.structs at x ≡ Ok u → IsStepped names.structs x (type_of x)
steps_is names at x tt is =
    let passed = passes _ _ _ tt is in
    let assignable = not_false (is_assignable x) passed.0 in
    record {
      assignable = record { place = and_left _ _ assignable; no_array = not_true (is_array (type_of x)) (and_right (is_place x) _ assignable) };
      steps = can_step names.structs (type_of x) at.line passed.1;
      result = refl;
    }
  where
    not_true : (b : Bool) → not b ≡ true → b ≡ false
    not_true true h = cc
    not_true false h = refl

pub step_before_keeps : (names : Environment) (at : At) (op : StepOperator) (x : CExpr) → IsOperand names x → Keeps names (step_before_rule names.structs at op x)
step_before_keeps names at op x operand v is =
    let c = bound (steps names.structs at x) _ v is in
    along names _ v c.2 (made names at (type_of x) (CForm.StepBefore op x) refl (formed_type names x operand.typed) (operand.typed, steps_is names at x c.0 c.1))

pub step_after_keeps : (names : Environment) (at : At) (op : StepOperator) (x : CExpr) → IsOperand names x → Keeps names (step_after_rule names.structs at op x)
step_after_keeps names at op x operand v is =
    let c = bound (steps names.structs at x) _ v is in
    along names _ v c.2 (made names at (type_of x) (CForm.StepAfter op x) refl (formed_type names x operand.typed) (operand.typed, steps_is names at x c.0 c.1))

pub void_is : (t : CType) → is_void t ≡ true → t ≡ CType.Void
void_is CType.Void h = refl
void_is CType.Char h = absurd cc
void_is CType.Int h = absurd cc
void_is CType.Unsigned h = absurd cc
void_is (CType.Struct k) h = absurd cc
void_is (CType.Pointer t) h = absurd cc
void_is (CType.Array t n) h = absurd cc

cast_allowed : (t : CType) (d : CExpr) → may_cast t d ≡ true → MayCast d t
cast_allowed t d may = by (or_cases _ _ may)
  where
    pointer : (is_null d ≡ true) ⊎ (is_pointer (type_of d) ≡ true) → is_pointer t ≡ true → MayCast d t
    pointer (inl null) to = MayCast.null null to
    pointer (inr from) to = MayCast.pointers from to

    by : (is_void t || (is_number (type_of d) && is_number t) ≡ true) ⊎ (is_pointer t && (is_null d || is_pointer (type_of d)) ≡ true) → MayCast d t
    by (inr points) = pointer (or_cases _ _ (and_right (is_pointer t) _ points)) (and_left _ _ points)
    by (inl other) = inner (or_cases _ _ other)
      where
        inner : (is_void t ≡ true) ⊎ (is_number (type_of d) && is_number t ≡ true) → MayCast d t
        inner (inl void) = MayCast.to_void (void_is t void)
        inner (inr numbers) = MayCast.numbers (and_left _ _ numbers) (and_right (is_number (type_of d)) _ numbers)

pub cast_keeps : (names : Environment) (at : At) (t : CType) (x : CExpr) → IsType names.structs t → IsOperand names x → Keeps names (cast_rule at t x)
unfolding cast_rule
cast_keeps names at t x formed operand v is =
    let passed = passes _ _ _ v is in
    let value = decayed_value names x operand in
    along names _ v passed.1
    (made names at t (CForm.Cast (decayed x)) refl formed
    (value.typed, record { plain = value.plain; allowed = cast_allowed t (decayed x) (not_false (may_cast t (decayed x)) passed.0) }))

pub measured_keeps : (names : Environment) (at : At) (x : CExpr) → IsOperand names x → Keeps names (measured_rule names.structs at x)
unfolding measured_rule
measured_keeps names at x operand v is =
    let passed = passes _ _ _ v is in
    along names _ v passed.1
    (made names at CType.Unsigned (CForm.SizeofExpression x) refl tt
    (operand.typed, record { written = operand.written; complete = not_false _ passed.0; result = refl }))

pub measured_type_keeps : (names : Environment) (at : At) (t : CType) → IsType names.structs t → Keeps names (measured_type names.structs at t)
unfolding measured_type
measured_type_keeps names at t formed v is =
    let passed = passes _ _ _ v is in
    along names _ v passed.1 (made names at CType.Unsigned (CForm.SizeofType t) refl tt (formed, not_false _ passed.0, refl))

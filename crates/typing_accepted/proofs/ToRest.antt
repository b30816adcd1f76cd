-- What casts, `?:`, `,`, assignments and calls make of what their operands become is what their rules give.
use Rattle.std.proofs.Common.{◌≡◌, ℕ, true, false, ◌&&◌, ◌||◌, ◌⊎◌, inl, inr, List, [], ◌∷◌, refl, sym, ap, ◌∙◌, subst}
use Rattle.std.specs.Prelude.{Option, Some, Ok, Err, if◌then◌else◌}
use Rattle.c_words.specs.declared.place.At.{At}
use Rattle.c_words.specs.declared.operators.AssignOperator.{AssignOperator}
use Rattle.c_words.specs.declared.operators.AssignOperator.TheVariants as assign
use Rattle.typing_operators.specs.declared.error.TypeError.TheVariants.{BadType}
use Rattle.typed_tree.specs.declared.typed_expr.Called.{Called}
use Rattle.typed_tree.specs.Types.{CType, is_number, is_pointer, is_struct, common, IsNumber, IsScalar}
use Rattle.typed_tree.specs.TypedTree.{CExpr, CForm, CExprs, CStruct, type_of}
use Rattle.typed_tree.specs.TypedViews.{exprs}
use Rattle.typed_tree.specs.TypedOperands.{is_null, IsGiven, own_type}
use Rattle.typed_tree.specs.TypedRules.{IsCondition, AreAlternatives, IsCopied, IsSet, IsReckoned, IsChanged, IsShiftedIn, IsAssignable, IsAssignment, AreInTurn, MayCast, IsCast, AreGiven}
use Rattle.typing_operators.specs.Rule.{Rule}
use Rattle.typing_operators.specs.Conversions.{decayed, as_number, as_pointer, may_point, given, is_void}
use Rattle.typing_operators.specs.Operators.{both_numbers, is_move, alternatives_at, alternatives, conditional_rule, comma_rule, may_cast, cast_rule, copied_from, set_to, reckoned, shifted_in, changed, assigned_by, assign_rule, passed, call_rule}
use Rattle.typing_accepted.specs.AcceptanceOperands.{Becomes, BecomeAll}
use Rattle.typing_accepted.proofs.Steps as steps
use Rattle.typing_accepted.proofs.Steps.{onward, taken, left_out, not_of, both_true, or_left, or_right, or_cases, no_left, no_right}
use Rattle.typing_accepted.proofs.Operands.{same_of, no_number, decayed_flat, IsRead, plain_is, place_is, void_is, number_is, pointer_is}
use Rattle.typing_accepted.proofs.Values.{common_number, promoted_is, common_is, move_is, meeting_is, AreMeetingOf}
use Rattle.typing_accepted.proofs.ToUnary.{tested_to, can_assign}

-- casts

may_it : (t : CType) (d : CExpr) → MayCast d t → may_cast t d ≡ true
may_it t d (MayCast.to_void is) = or_left _ _ (or_left (is_void t) _ (rw is refl))
may_it t d (MayCast.numbers from to) = or_left _ _ (or_right (is_void t) _ (both_true _ _ from to))
may_it t d (MayCast.pointers from to) = or_right (is_void t || (is_number (type_of d) && is_number t)) _ (both_true _ _ to (or_right (is_null d) _ from))
may_it t d (MayCast.null null to) = or_right (is_void t || (is_number (type_of d) && is_number t)) _ (both_true _ _ to (or_left (is_null d) _ null))

pub cast_to : (at : At) (t : CType) (x a : CExpr) → IsRead x → Becomes x a → IsCast a t → cast_rule at t x ≡ Ok (CExpr.expr at t (CForm.Cast a))
unfolding cast_rule
cast_to at t x a read becomes is =
    let same = plain_is x a read.written becomes is.plain in
    let may = may_it t (decayed x) (subst (λ e. MayCast e t) same is.allowed) in
    steps.passed _ _ _ _ (not_of _ may) (ap (λ e. Ok (CExpr.expr at t (CForm.Cast e))) (sym same))

-- `?:`

module _ (at : At) (d x y a b : CExpr) (t : CType) (x_read : IsRead x) (y_read : IsRead y) (left : Becomes x a) (right : Becomes y b) where
  ok_choice : (u : CType) (p q : CExpr) → t ≡ u → a ≡ p → b ≡ q → (let r : Rule CExpr = Ok (CExpr.expr at u (CForm.Conditional d p q)) in r) ≡ Ok (CExpr.expr at t (CForm.Conditional d a b))
  ok_choice u p q type first second = rw (type, first, second) refl

  meet_at : (o : Option CType) → o ≡ Some t → AreMeetingOf (decayed x) (decayed y) a b t → alternatives_at at d (decayed x) (decayed y) o ≡ Ok (CExpr.expr at t (CForm.Conditional d a b))
  meet_at o is m = rw is (ok_choice t _ _ refl m.left m.right)

  alternatives_to : AreAlternatives a b t → alternatives at d (decayed x) (decayed y) ≡ Ok (CExpr.expr at t (CForm.Conditional d a b))
  unfolding alternatives
  alternatives_to (AreAlternatives.numbers are) =
      let c = common_is x y a b t x_read.written y_read.written left right are in
      taken _ _ _ _ c.both (ok_choice _ _ _ c.type c.left c.right)
  alternatives_to (AreAlternatives.pointers are) =
      let m = meeting_is x y a b t x_read y_read left right are in
      left_out _ _ _ _ m.no_numbers (left_out _ _ _ _ m.no_voids (meet_at _ m.meeting m))
  alternatives_to (AreAlternatives.voids first second result) =
      let p = void_is x a left first in
      let q = void_is y b right second in
      let m : type_of (decayed x) ≡ CType.Void = ap type_of (sym p) ∙ first in
      let n : type_of (decayed y) ≡ CType.Void = ap type_of (sym q) ∙ second in
      left_out _ _ _ _ (no_left (is_number (type_of (decayed x))) (is_number (type_of (decayed y))) (ap is_number m))
      (taken _ _ _ _ (both_true _ _ (ap is_void m) (ap is_void n)) (ok_choice CType.Void _ _ result p q))

  pub conditional_to : (c : CExpr) → IsRead c → Becomes c d → IsCondition d → AreAlternatives a b t → conditional_rule at c x y ≡ Ok (CExpr.expr at t (CForm.Conditional d a b))
  unfolding conditional_rule
  conditional_to c c_read becomes condition are = onward _ _ d _ (tested_to [] at c c_read at.line d becomes condition) (alternatives_to are)

pub comma_to : (at : At) (x y a b : CExpr) (t : CType) → IsRead x → IsRead y → Becomes x a → Becomes y b → AreInTurn a b t → comma_rule at x y ≡ CExpr.expr at t (CForm.Comma a b)
unfolding comma_rule
comma_to at x y a b t x_read y_read left right is =
    let p = plain_is x a x_read.written left is.left in
    let q = plain_is y b y_read.written right is.right in
    rw (is.result, p, q) refl

-- what is given to a type

pub given_to : (line : ℕ) (t : CType) (x v : CExpr) → IsRead x → Becomes x v → IsGiven t v → given line t x ≡ Ok v
unfolding given
given_to line t x v read becomes is = by (or_cases (is_number t) (is_pointer t) is.1)
  where
    by : (is_number t ≡ true) ⊎ (is_pointer t ≡ true)
        → (if is_number t && is_number (type_of (decayed x)) then Ok (as_number t (decayed x)) else if is_pointer t && may_point t (decayed x) then Ok (as_pointer t (decayed x)) else Err (BadType line 10)) ≡ Ok v
    by (inl number) =
        let of = number_is x v read.written becomes (rw is.0 number) in
        taken _ _ _ _ (both_true _ _ number of.number) (ap Ok (sym (of.is ∙ ap (λ u. as_number u (decayed x)) is.0)))
    by (inr pointer) =
        let of = pointer_is x v read becomes (rw is.0 pointer) in
        left_out _ _ _ _ (no_left (is_number t) (is_number (type_of (decayed x))) (no_number t pointer))
        (taken _ _ _ _ (both_true _ _ pointer (subst (λ u. may_point u (decayed x) ≡ true) is.0 of.may)) (ap Ok (sym (of.is ∙ ap (λ u. as_pointer u (decayed x)) is.0))))

-- assignments

struct_value : (u : CType) → is_struct u ≡ true → is_void u ≡ false
struct_value (CType.Struct k) h = refl
struct_value CType.Void h = absurd cc
struct_value CType.Char h = refl
struct_value CType.Int h = refl
struct_value CType.Unsigned h = refl
struct_value (CType.Pointer u) h = refl
struct_value (CType.Array u n) h = refl

pub struct_flat : (u : CType) → IsScalar u → is_struct u ≡ false
struct_flat (CType.Struct k) h = absurd cc
struct_flat CType.Void h = refl
struct_flat CType.Char h = refl
struct_flat CType.Int h = refl
struct_flat CType.Unsigned h = refl
struct_flat (CType.Pointer u) h = refl
struct_flat (CType.Array u n) h = refl

pub copied_self : (line : ℕ) (t : CType) (y : CExpr) → IsCopied t y → copied_from line t y ≡ Ok y
unfolding copied_from
copied_self line t y is =
    let void : is_void (type_of y) ≡ false = struct_value (type_of y) (subst (λ u. is_struct u ≡ true) (sym is.same_struct) is.struct) in
    steps.passed _ _ _ _ void (steps.passed _ _ _ _ (not_of _ (both_true _ _ is.place (same_of _ _ is.same_struct))) refl)

module _ (structs : List CStruct) (at : At) (x y b : CExpr) (t : CType) (x_read : IsRead x) (y_read : IsRead y) (right : Becomes y b) where
  ok_set : (op : AssignOperator) (u : CType) (q : CExpr) → t ≡ u → b ≡ q → (let r : Rule CExpr = Ok (CExpr.expr at u (CForm.Assign op x q)) in r) ≡ Ok (CExpr.expr at t (CForm.Assign op x b))
  ok_set op u q type second = rw (type, second) refl

  copied_to : IsCopied (type_of x) b → copied_from at.line (type_of x) y ≡ Ok b
  copied_to is =
      let self = place_is y b right is.place in
      copied_self at.line (type_of x) y (subst (λ e. IsCopied (type_of x) e) self is) ∙ ap Ok (sym self)

  set_to_it : IsSet x b t → set_to at x y ≡ Ok (CExpr.expr at t (CForm.Assign assign.Assign x b))
  set_to_it (IsSet.scalar assignable is result) =
      left_out _ _ _ _ (struct_flat (type_of x) is.1) (onward _ _ b _ (given_to at.line (type_of x) y b y_read right is) (ok_set assign.Assign (type_of x) b result refl))
  set_to_it (IsSet.struct assignable is result) =
      taken _ _ _ _ is.struct (onward _ _ b _ (copied_to is) (ok_set assign.Assign CType.Void b result refl))

  -- the right side in the common type
  right_is : IsReckoned x b t → (both_numbers x (decayed y) ≡ true) × (b ≡ as_number (common (type_of x) (type_of (decayed y))) (decayed y))
  right_is is =
      let number : IsNumber (type_of b) = rw is.right (common_number (type_of x) (own_type b)) in
      let of = number_is y b y_read.written right number in
      (both_true _ _ is.left_number of.number, of.is ∙ ap (λ u. as_number u (decayed y)) (is.right ∙ ap (common (type_of x)) of.own))

  reckoned_to : (op : AssignOperator) → IsReckoned x b t → reckoned at op x (decayed y) ≡ Ok (CExpr.expr at t (CForm.Assign op x b))
  unfolding reckoned
  reckoned_to op is =
      let r = right_is is in
      steps.passed _ _ _ _ (not_of _ r.0) (ok_set op (type_of x) _ is.result r.1)

  shifted_in_to : (op : AssignOperator) → IsShiftedIn x b t → shifted_in at op x (decayed y) ≡ Ok (CExpr.expr at t (CForm.Assign op x b))
  unfolding shifted_in
  shifted_in_to op is =
      let p = promoted_is y b y_read.written right is.right in
      steps.passed _ _ _ _ (not_of _ (both_true _ _ is.left_number p.number)) (ok_set op (type_of x) _ is.result p.is)

  changed_to : (op : AssignOperator) → IsChanged structs x b t → changed structs at op x (decayed y) ≡ Ok (CExpr.expr at t (CForm.Assign op x b))
  unfolding changed
  changed_to op (IsChanged.numbers is) =
      let r = right_is is in
      taken _ _ _ _ r.0 (ok_set op (type_of x) _ is.result r.1)
  changed_to op (IsChanged.pointer_and_number assignable is) =
      let flat : decayed x ≡ x = decayed_flat x assignable.no_array in
      let m = move_is structs x y x b t x_read.written y_read.written Becomes.itself right is in
      left_out _ _ _ _ (subst (λ e. both_numbers e (decayed y) ≡ false) flat m.no_numbers)
      (taken _ _ _ _ (subst (λ e. is_move structs e (decayed y) ≡ true) flat m.move) (ok_set op (type_of x) _ is.result m.number))

  assigned_to : (op : AssignOperator) → IsAssignment structs op x b t → IsAssignable x × (assigned_by structs at op x y ≡ Ok (CExpr.expr at t (CForm.Assign op x b)))
  assigned_to assign.Assign is = (by is, set_to_it is)
    where
      by : IsSet x b t → IsAssignable x
      by (IsSet.scalar assignable is result) = assignable
      by (IsSet.struct assignable is result) = assignable
  assigned_to assign.Multiply is = (is.assignable, reckoned_to assign.Multiply is)
  assigned_to assign.Divide is = (is.assignable, reckoned_to assign.Divide is)
  assigned_to assign.Remainder is = (is.assignable, reckoned_to assign.Remainder is)
  assigned_to assign.BitAnd is = (is.assignable, reckoned_to assign.BitAnd is)
  assigned_to assign.BitXor is = (is.assignable, reckoned_to assign.BitXor is)
  assigned_to assign.BitOr is = (is.assignable, reckoned_to assign.BitOr is)
  assigned_to assign.Add is = (changes is, changed_to assign.Add is)
    where
      changes : IsChanged structs x b t → IsAssignable x
      changes (IsChanged.numbers is) = is.assignable
      changes (IsChanged.pointer_and_number assignable is) = assignable
  assigned_to assign.Subtract is = (changes is, changed_to assign.Subtract is)
    where
      changes : IsChanged structs x b t → IsAssignable x
      changes (IsChanged.numbers is) = is.assignable
      changes (IsChanged.pointer_and_number assignable is) = assignable
  assigned_to assign.ShiftLeft is = (is.assignable, shifted_in_to assign.ShiftLeft is)
  assigned_to assign.ShiftRight is = (is.assignable, shifted_in_to assign.ShiftRight is)

  pub assign_to : (op : AssignOperator) → IsAssignment structs op x b t → assign_rule structs at op x y ≡ Ok (CExpr.expr at t (CForm.Assign op x b))
  unfolding assign_rule
  assign_to op is =
      let a = assigned_to op is in
      steps.passed _ _ _ _ (not_of _ (can_assign structs at x x_read a.0)) a.1

-- calls

abbrev pub AreRead : List CExpr → Type 0
AreRead [] = Unit {0}
AreRead (x ∷ xs) = IsRead x × AreRead xs

passed_to : (line : ℕ) (params : List CType) (xs : List CExpr) (vs : CExprs) → AreRead xs → BecomeAll xs vs → AreGiven params vs → passed line params (exprs xs) ≡ Ok vs
passed_to line [] xs vs read BecomeAll.none given = refl
passed_to line [] xs vs read (BecomeAll.more b bs) given = absurd given
passed_to line (t ∷ ts) xs vs read BecomeAll.none given = absurd given
passed_to line (t ∷ ts) xs vs read (BecomeAll.more b bs) given =
    onward _ _ _ _ (given_to line t _ _ read.0 b given.0) (onward _ _ _ _ (passed_to line ts _ _ read.1 bs given.1) refl)

pub call_to : (at : At) (called : Called) (result : CType) (params : List CType) (xs : List CExpr) (vs : CExprs) → AreRead xs → BecomeAll xs vs → AreGiven params vs
    → call_rule at called result params (exprs xs) ≡ Ok (CExpr.expr at result (CForm.Call called vs))
unfolding call_rule
call_to at called result params xs vs read become given = onward _ _ vs _ (passed_to at.line params xs vs read become given) refl

-- What the rules of casts, `?:`, `,`, assignments and calls give is what these operators make of what their operands
-- become.
use Rattle.std.proofs.Common.{◌≡◌, ℕ, Bool, true, false, not, ◌&&◌, ◌||◌, ◌⊎◌, inl, inr, List, [], ◌∷◌, refl, sym, subst}
use Rattle.std.specs.Prelude.{Option, Some, None, Ok, Err, if◌then◌else◌}
use Rattle.c_words.specs.declared.place.At.{At}
use Rattle.c_words.specs.declared.operators.AssignOperator.{AssignOperator}
use Rattle.c_words.specs.declared.operators.AssignOperator.TheVariants as assign
use Rattle.typing_operators.specs.declared.error.TypeError.TheVariants.{BadType}
use Rattle.typed_tree.specs.declared.typed_expr.Called.{Called}
use Rattle.typed_tree.specs.Types.{CType, same, is_number, is_pointer, is_struct, is_array, common, IsNumber}
use Rattle.typed_tree.specs.TypedTree.{CExpr, CForm, CExprs, CStruct, type_of}
use Rattle.typed_tree.specs.TypedViews.{exprs}
use Rattle.typed_tree.specs.TypedOperands.{is_place, is_null, IsWritten, IsGiven, meeting_type}
use Rattle.typed_tree.specs.TypedRules.{IsAssignable, AreAlternatives, IsSet, IsCopied, IsReckoned, IsChanged, IsShiftedIn, IsAssignment, AreInTurn, MayCast, IsCast, AreGiven}
use Rattle.typing_operators.specs.Rule.{Rule, ◌>>=◌}
use Rattle.typing_operators.specs.Conversions.{decayed, as_number, as_promoted, as_pointer, may_point, given, is_void}
use Rattle.typing_operators.specs.Operators.{both_numbers, is_move, sum_rule, tested, alternatives_at, alternatives, conditional_rule, comma_rule, may_cast, cast_rule, is_assignable, copied_from, reckoned, shifted_in, changed, assigned_by, assign_rule, passed, call_rule}
use Rattle.typing_accepted.specs.AcceptanceOperands.{Becomes, BecomeAll}
use Rattle.typing_accepted.proofs.Steps.{passes, bound, same_ok, not_false, not_true, and_left, and_right, or_cases, or_left, or_right}
use Rattle.typing_accepted.proofs.Operands.{same_is, IsValue, flat_value, decayed_value, number_becomes, number_type, number_own, pointer_becomes, pointer_type}
use Rattle.typing_accepted.proofs.Values.{promotes, common_number, in_common, moves, distance, met}
use Rattle.typing_accepted.proofs.FromBinary.{OfTwo}
use Rattle.typing_accepted.proofs.FromUnary.{OfOne, OfTested, tested_from}

pub void_type : (t : CType) → is_void t ≡ true → t ≡ CType.Void
void_type CType.Void h = refl
void_type CType.Char h = absurd cc
void_type CType.Int h = absurd cc
void_type CType.Unsigned h = absurd cc
void_type (CType.Struct k) h = absurd cc
void_type (CType.Pointer t) h = absurd cc
void_type (CType.Array t n) h = absurd cc

-- casts

cast_allowed : (t : CType) (d : CExpr) → may_cast t d ≡ true → MayCast d t
cast_allowed t d may = by (or_cases _ _ may)
  where
    pointer : (is_null d ≡ true) ⊎ (is_pointer (type_of d) ≡ true) → is_pointer t ≡ true → MayCast d t
    pointer (inl null) to = MayCast.null null to
    pointer (inr from) to = MayCast.pointers from to

    by : (is_void t || (is_number (type_of d) && is_number t) ≡ true) ⊎ (is_pointer t && (is_null d || is_pointer (type_of d)) ≡ true) → MayCast d t
    by (inr points) = pointer (or_cases _ _ (and_right (is_pointer t) _ points)) (and_left _ _ points)
    by (inl other) = inner (or_cases _ _ other)
      where
        inner : (is_void t ≡ true) ⊎ (is_number (type_of d) && is_number t ≡ true) → MayCast d t
        inner (inl void) = MayCast.to_void (void_type t void)
        inner (inr numbers) = MayCast.numbers (and_left _ _ numbers) (and_right (is_number (type_of d)) _ numbers)

-- what a cast gives
pub record OfCast (at : At) (t : CType) (x v : CExpr) : Type 0 where
  pub operand : CExpr
  pub becomes : Becomes x operand
  pub keeps : IsCast operand t
  pub is : v ≡ CExpr.expr at t (CForm.Cast operand)

pub cast_from : (at : At) (t : CType) (x v : CExpr) → IsWritten x → cast_rule at t x ≡ Ok v → OfCast at t x v
unfolding cast_rule
cast_from at t x v written is =
    let passed = passes _ _ _ v is in
    let value = decayed_value x written in
    record {
      operand = decayed x;
      becomes = value.becomes;
      keeps = record { plain = value.plain; allowed = cast_allowed t (decayed x) (not_false (may_cast t (decayed x)) passed.0) };
      is = sym (same_ok (CExpr.expr at t (CForm.Cast (decayed x))) v passed.1);
    }

-- what `?:` gives
pub record OfChoice (at : At) (c x y v : CExpr) : Type 0 where
  pub condition : CExpr
  pub tested : OfTested c condition
  pub chosen : OfTwo AreAlternatives at (CForm.Conditional condition) x y v

choice : (at : At) (c x y a b : CExpr) (t : CType) (v : CExpr) → (let r : Rule CExpr = Ok (CExpr.expr at t (CForm.Conditional c a b)) in r) ≡ Ok v
    → Becomes x a → Becomes y b → AreAlternatives a b t → OfTwo AreAlternatives at (CForm.Conditional c) x y v
choice at c x y a b t v is left right keeps =
    record { first = a; second = b; type = t; left = left; right = right; keeps = keeps; is = sym (same_ok (CExpr.expr at t (CForm.Conditional c a b)) v is) }

alternatives_by : (at : At) (c x y d e v : CExpr) → IsValue x d → IsValue y e → (n w : Bool) (o : Option CType)
    → both_numbers d e ≡ n → is_void (type_of d) && is_void (type_of e) ≡ w → meeting_type d e ≡ o
    → (if n
    then Ok (CExpr.expr at (common (type_of d) (type_of e))
    (CForm.Conditional c (as_number (common (type_of d) (type_of e)) d) (as_number (common (type_of d) (type_of e)) e)))
    else if w then Ok (CExpr.expr at CType.Void (CForm.Conditional c d e)) else alternatives_at at c d e o) ≡ Ok v → OfTwo AreAlternatives at (CForm.Conditional c) x y v
alternatives_by at c x y d e v left right true w o n_is w_is o_is is =
    let both = in_common x y d e left right n_is in
    choice at c x y _ _ _ v is both.left both.right (AreAlternatives.numbers both.are)
alternatives_by at c x y d e v left right false true o n_is w_is o_is is =
    choice at c x y _ _ _ v is left.becomes right.becomes (AreAlternatives.voids (void_type _ (and_left _ _ w_is)) (void_type _ (and_right (is_void (type_of d)) _ w_is)) refl)
alternatives_by at c x y d e v left right false false None n_is w_is o_is is = absurd cc
alternatives_by at c x y d e v left right false false (Some t) n_is w_is o_is is =
    let both = met t x y d e left right o_is in
    choice at c x y _ _ _ v is both.left both.right (AreAlternatives.pointers both.meeting)

alternatives_from : (at : At) (c x y d e v : CExpr) → IsValue x d → IsValue y e → alternatives at c d e ≡ Ok v → OfTwo AreAlternatives at (CForm.Conditional c) x y v
unfolding alternatives
alternatives_from at c x y d e v left right is = alternatives_by at c x y d e v left right _ _ _ refl refl refl is

pub conditional_from : (at : At) (c x y v : CExpr) → IsWritten c → IsWritten x → IsWritten y → conditional_rule at c x y ≡ Ok v → OfChoice at c x y v
unfolding conditional_rule
conditional_from at c x y v condition left right is =
    let d = bound (tested at.line c) _ v is in
    record {
      condition = d.0;
      tested = tested_from at.line c d.0 condition d.1;
      chosen = alternatives_from at d.0 x y (decayed x) (decayed y) v (decayed_value x left) (decayed_value y right) d.2;
    }

pub comma_from : (at : At) (x y : CExpr) → IsWritten x → IsWritten y → OfTwo AreInTurn at CForm.Comma x y (comma_rule at x y)
unfolding comma_rule
comma_from at x y left right =
    let a = decayed_value x left in
    let b = decayed_value y right in
    record {
      first = decayed x;
      second = decayed y;
      type = type_of (decayed y);
      left = a.becomes;
      right = b.becomes;
      keeps = record { left = a.plain; right = b.plain; result = refl };
      is = refl;
    }

-- what is given to a type

pub record OfGiven (t : CType) (x v : CExpr) : Type 0 where
  pub becomes : Becomes x v
  pub given : IsGiven t v

given_by : (line : ℕ) (t : CType) (x d v : CExpr) → IsValue x d → (b c : Bool) → is_number t && is_number (type_of d) ≡ b → is_pointer t && may_point t d ≡ c
    → (if b then Ok (as_number t d) else if c then Ok (as_pointer t d) else Err (BadType line 10)) ≡ Ok v → OfGiven t x v
given_by line t x d v value true c numbers points is =
    let to = and_left _ _ numbers in
    subst (λ e. OfGiven t x e) (same_ok (as_number t d) v is)
    (record { becomes = number_becomes t x d value (and_right (is_number t) _ numbers) to; given = (number_type t d, or_left _ _ to) })
given_by line t x d v value false true numbers points is =
    let to = and_left _ _ points in
    subst (λ e. OfGiven t x e) (same_ok (as_pointer t d) v is)
    (record { becomes = pointer_becomes t x d value to (and_right (is_pointer t) _ points); given = (pointer_type t d, or_right (is_number t) _ to) })
given_by line t x d v value false false numbers points is = absurd cc

pub given_from : (line : ℕ) (t : CType) (x v : CExpr) → IsWritten x → given line t x ≡ Ok v → OfGiven t x v
unfolding given
given_from line t x v written is = given_by line t x (decayed x) v (decayed_value x written) _ _ refl refl is

-- assignments

abbrev OfAssign : List CStruct → At → AssignOperator → CExpr → CExpr → CExpr → Type 0
OfAssign structs at op x y v = OfOne (IsAssignment structs op x) at (CForm.Assign op x) y v

set_one : (structs : List CStruct) (at : At) (op : AssignOperator) (x y b : CExpr) (t : CType) (v : CExpr)
    → (let r : Rule CExpr = Ok (CExpr.expr at t (CForm.Assign op x b)) in r) ≡ Ok v → Becomes y b → IsAssignment structs op x b t → OfAssign structs at op x y v
set_one structs at op x y b t v is becomes keeps =
    record { operand = b; type = t; becomes = becomes; keeps = keeps; is = sym (same_ok (CExpr.expr at t (CForm.Assign op x b)) v is) }

pub copied_is : (line : ℕ) (t : CType) (y v : CExpr) → is_struct t ≡ true → copied_from line t y ≡ Ok v → IsCopied t y × (y ≡ v)
unfolding copied_from
copied_is line t y v struct is =
    let first = passes _ _ _ v is in
    let second = passes (not (is_place y && same (type_of y) t)) (BadType line 23) _ v first.1 in
    let both : is_place y && same (type_of y) t ≡ true = not_false _ second.0 in
    (record { struct = struct; place = and_left _ _ both; same_struct = same_is _ _ (and_right (is_place y) _ both) }, same_ok y v second.1)

module _ (structs : List CStruct) (at : At) (x : CExpr) (assignable : IsAssignable x) (y : CExpr) (written : IsWritten y) where
  copied : (v : CExpr) → is_struct (type_of x) ≡ true → (copied_from at.line (type_of x) y >>= λ b. Ok (CExpr.expr at CType.Void (CForm.Assign assign.Assign x b))) ≡ Ok v → OfAssign structs at assign.Assign x y v
  copied v struct is =
      let c = bound (copied_from at.line (type_of x) y) _ v is in
      let h = copied_is at.line (type_of x) y c.0 struct c.1 in
      set_one structs at assign.Assign x y c.0 CType.Void v c.2 (subst (λ e. Becomes y e) h.1 Becomes.itself)
      (IsSet.struct assignable (subst (λ e. IsCopied (type_of x) e) h.1 h.0) refl)

  given_to_left : (v : CExpr) → (given at.line (type_of x) y >>= λ b. Ok (CExpr.expr at (type_of x) (CForm.Assign assign.Assign x b))) ≡ Ok v → OfAssign structs at assign.Assign x y v
  given_to_left v is =
      let c = bound (given at.line (type_of x) y) _ v is in
      let g = given_from at.line (type_of x) y c.0 written c.1 in
      set_one structs at assign.Assign x y c.0 (type_of x) v c.2 g.becomes (IsSet.scalar assignable g.given refl)

  set_by : (v : CExpr) (b : Bool) → is_struct (type_of x) ≡ b
      → (if b
      then (copied_from at.line (type_of x) y >>= λ v. Ok (CExpr.expr at CType.Void (CForm.Assign assign.Assign x v)))
      else (given at.line (type_of x) y >>= λ v. Ok (CExpr.expr at (type_of x) (CForm.Assign assign.Assign x v)))) ≡ Ok v → OfAssign structs at assign.Assign x y v
  set_by v true struct is = copied v struct is
  set_by v false struct is = given_to_left v is

  -- the right side in the common type
  right_number : (d : CExpr) → IsValue y d → both_numbers x d ≡ true → Becomes y (as_number (common (type_of x) (type_of d)) d) × IsReckoned x (as_number (common (type_of x) (type_of d)) d) (type_of x)
  right_number d value both =
      let t = common (type_of x) (type_of d) in
      let number : IsNumber (type_of d) = and_right (is_number (type_of x)) _ both in
      let own = number_own t d value.self in (
        number_becomes t y d value number (common_number (type_of x) (type_of d)),
        record {
          assignable = assignable;
          left_number = and_left _ _ both;
          right_number = rw own number;
          right = rw own (number_type t d);
          result = refl;
        },
      )

  reckoned_from : (op : AssignOperator) → ((b : CExpr) (t : CType) → IsReckoned x b t → IsAssignment structs op x b t) → (v : CExpr) → reckoned at op x (decayed y) ≡ Ok v → OfAssign structs at op x y v
  unfolding reckoned
  reckoned_from op fits v is =
      let passed = passes _ _ _ v is in
      let r = right_number (decayed y) (decayed_value y written) (not_false _ passed.0) in
      set_one structs at op x y _ _ v passed.1 r.0 (fits _ _ r.1)

  shifted_in_from : (op : AssignOperator) → ((b : CExpr) (t : CType) → IsShiftedIn x b t → IsAssignment structs op x b t) → (v : CExpr) → shifted_in at op x (decayed y) ≡ Ok v → OfAssign structs at op x y v
  unfolding shifted_in
  shifted_in_from op fits v is =
      let passed = passes _ _ _ v is in
      let both : both_numbers x (decayed y) ≡ true = not_false _ passed.0 in
      let p = promotes y (decayed y) (decayed_value y written) (and_right (is_number (type_of x)) _ both) in
      set_one structs at op x y _ _ v passed.1 p.0 (fits _ _ (record { assignable = assignable; left_number = and_left _ _ both; right = p.1; result = refl }))

  changed_by : (op : AssignOperator) → ((b : CExpr) (t : CType) → IsChanged structs x b t → IsAssignment structs op x b t) → (d v : CExpr) → IsValue x x → IsValue y d → (n l : Bool)
      → both_numbers x d ≡ n → is_move structs x d ≡ l
      → (if n then Ok (CExpr.expr at (type_of x) (CForm.Assign op x (as_number (common (type_of x) (type_of d)) d)))
      else if l then Ok (CExpr.expr at (type_of x) (CForm.Assign op x (as_promoted d)))
      else Err (BadType at.line (sum_rule x d))) ≡ Ok v → OfAssign structs at op x y v
  changed_by op fits d v left value true l n_is l_is is =
      let r = right_number d value n_is in
      set_one structs at op x y _ _ v is r.0 (fits _ _ (IsChanged.numbers r.1))
  changed_by op fits d v left value false true n_is l_is is =
      set_one structs at op x y _ _ v is (distance structs y x d value l_is) (fits _ _ (IsChanged.pointer_and_number assignable (moves structs x y x d left value l_is)))
  changed_by op fits d v left value false false n_is l_is is = absurd cc

  changed_from : IsValue x x → (op : AssignOperator) → ((b : CExpr) (t : CType) → IsChanged structs x b t → IsAssignment structs op x b t) → (v : CExpr) → changed structs at op x (decayed y) ≡ Ok v → OfAssign structs at op x y v
  unfolding changed
  changed_from left op fits v is = changed_by op fits (decayed y) v left (decayed_value y written) _ _ refl refl is

  assigned_from : IsValue x x → (op : AssignOperator) (v : CExpr) → assigned_by structs at op x y ≡ Ok v → OfAssign structs at op x y v
  assigned_from left assign.Assign v is = set_by v _ refl is
  assigned_from left assign.Multiply v is = reckoned_from assign.Multiply (λ b t h. h) v is
  assigned_from left assign.Divide v is = reckoned_from assign.Divide (λ b t h. h) v is
  assigned_from left assign.Remainder v is = reckoned_from assign.Remainder (λ b t h. h) v is
  assigned_from left assign.Add v is = changed_from left assign.Add (λ b t h. h) v is
  assigned_from left assign.Subtract v is = changed_from left assign.Subtract (λ b t h. h) v is
  assigned_from left assign.ShiftLeft v is = shifted_in_from assign.ShiftLeft (λ b t h. h) v is
  assigned_from left assign.ShiftRight v is = shifted_in_from assign.ShiftRight (λ b t h. h) v is
  assigned_from left assign.BitAnd v is = reckoned_from assign.BitAnd (λ b t h. h) v is
  assigned_from left assign.BitXor v is = reckoned_from assign.BitXor (λ b t h. h) v is
  assigned_from left assign.BitOr v is = reckoned_from assign.BitOr (λ b t h. h) v is

pub assign_from : (structs : List CStruct) (at : At) (op : AssignOperator) (x y v : CExpr) → IsWritten x → IsWritten y → assign_rule structs at op x y ≡ Ok v → OfAssign structs at op x y v
unfolding assign_rule
assign_from structs at op x y v x_written written is =
    let passed = passes _ _ _ v is in
    let can = not_false (is_assignable x) passed.0 in
    let flat = not_true (is_array (type_of x)) (and_right (is_place x) _ can) in
    let assignable : IsAssignable x = record { place = and_left _ _ can; no_array = flat } in
    assigned_from structs at x assignable y written (flat_value x x_written flat) op v passed.1

-- calls

pub record OfPassed (params : List CType) (xs : List CExpr) (vs : CExprs) : Type 0 where
  pub become : BecomeAll xs vs
  pub given : AreGiven params vs

-- each of these is read
abbrev pub AreWritten : List CExpr → Type 0
AreWritten [] = Unit {0}
AreWritten (x ∷ xs) = IsWritten x × AreWritten xs

passed_from : (line : ℕ) (params : List CType) (xs : List CExpr) (vs : CExprs) → AreWritten xs → passed line params (exprs xs) ≡ Ok vs → OfPassed params xs vs
passed_from line [] [] vs written is = subst (λ es. OfPassed [] [] es) (same_ok CExprs.none vs is) (record { become = BecomeAll.none; given = tt })
passed_from line [] (x ∷ xs) vs written is = absurd cc
passed_from line (t ∷ ts) [] vs written is = absurd cc
passed_from line (t ∷ ts) (x ∷ xs) vs written is =
    let v = bound (given line t x) _ vs is in
    let ws = bound (passed line ts (exprs xs)) _ vs v.2 in
    let first = given_from line t x v.0 written.0 v.1 in
    let rest = passed_from line ts xs ws.0 written.1 ws.1 in
    subst (λ es. OfPassed (t ∷ ts) (x ∷ xs) es) (same_ok (CExprs.more v.0 ws.0) vs ws.2)
    (record { become = BecomeAll.more first.becomes rest.become; given = (first.given, rest.given) })

-- what a call gives
pub record OfCall (at : At) (called : Called) (result : CType) (params : List CType) (xs : List CExpr) (v : CExpr) : Type 0 where
  pub arguments : CExprs
  pub passed : OfPassed params xs arguments
  pub is : v ≡ CExpr.expr at result (CForm.Call called arguments)

pub call_from : (at : At) (called : Called) (result : CType) (params : List CType) (xs : List CExpr) (v : CExpr) → AreWritten xs → call_rule at called result params (exprs xs) ≡ Ok v → OfCall at called result params xs v
unfolding call_rule
call_from at called result params xs v written is =
    let vs = bound (passed at.line params (exprs xs)) _ v is in
    record { arguments = vs.0; passed = passed_from at.line params xs vs.0 written vs.1; is = sym (same_ok (CExpr.expr at result (CForm.Call called vs.0)) v vs.2) }

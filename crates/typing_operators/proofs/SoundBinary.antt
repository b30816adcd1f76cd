-- The operators between two operands keep the rules of typing.
use Rattle.std.proofs.Common.{◌≡◌, Bool, true, false, ◌&&◌, ◌||◌, refl, sym, ap, ◌∙◌, subst}
use Rattle.std.specs.Prelude.{Option, Some, None, Ok, Err, if◌then◌else◌}
use Rattle.c_words.specs.declared.place.At.{At}
use Rattle.c_words.specs.declared.operators.BinaryOperator.{BinaryOperator}
use Rattle.c_words.specs.declared.operators.BinaryOperator.TheVariants as binary
use Rattle.typing_operators.specs.declared.error.TypeError.TheVariants.{BadType}
use Rattle.typed_tree.specs.Types.{CType, same, is_number, is_pointer, is_scalar, is_void_pointer, common, promoted, IsNumber, IsPointer}
use Rattle.typed_tree.specs.TypedTree.{CExpr, CForm, type_of}
use Rattle.typed_tree.specs.Sizes.{IsType}
use Rattle.typed_tree.specs.TypedOperands.{is_null, unconverted, meeting_type}
use Rattle.typed_tree.specs.TypedRules.{AreCommon, IsMoved, AreAdded, AreSubtracted, AreShifted, AreOrdered, AreEquated, AreMeeting, AreAlternatives, IsBinary}
use Rattle.typed_tree.specs.TypedBody.{Environment, IsExpr}
use Rattle.typing_operators.specs.Conversions.{decayed, as_number, as_promoted, as_pointer, may_point, points_to_complete, is_void}
use Rattle.typing_operators.specs.Operators.{both_numbers, on_numbers, product, shifted, is_move, sum_rule, added, subtracted, ordered, equated_at, equated, logical, binary_of, binary_rule, tested, alternatives_at, alternatives, conditional_rule, comma_rule}
use Rattle.typing_operators.specs.Sound.{IsOperand, Keeps}
use Rattle.typing_operators.proofs.Steps.{passes, bound, not_false, and_left, and_right, some_is}
use Rattle.typing_operators.proofs.Converted.{same_is, same_itself, IsValue, decayed_value, number_type, promoted_number, as_promoted_is, promotes, in_common, as_pointer_is}
use Rattle.typing_operators.proofs.SoundUnary.{formed_type, made, along, IsTested, tested_is, points, void_is}

-- two values under an operator whose rule they keep
abbrev Fits : Environment → BinaryOperator → CExpr → CExpr → CType → Type 0
Fits names op a b t = IsBinary names.structs op a b t

product_keeps : (names : Environment) (at : At) (op : BinaryOperator) (x y v : CExpr) → IsValue names x → IsValue names y
    → ((a b : CExpr) (t : CType) → AreCommon a b t → Fits names op a b t) → product at op x y ≡ Ok v → IsOperand names v
unfolding product
product_keeps names at op x y v left right fits is =
    let passed = passes _ _ _ v is in
    let both = in_common names x y left right (not_false (both_numbers x y) passed.0) in
    along names _ v passed.1
    (made names at (common (type_of x) (type_of y)) (CForm.Binary op (as_number (common (type_of x) (type_of y)) x) (as_number (common (type_of x) (type_of y)) y)) refl
    both.formed (both.left, both.right, fits _ _ _ both.are))

shifted_keeps : (names : Environment) (at : At) (op : BinaryOperator) (x y v : CExpr) → IsValue names x → IsValue names y
    → ((a b : CExpr) (t : CType) → AreShifted a b t → Fits names op a b t) → shifted at op x y ≡ Ok v → IsOperand names v
unfolding shifted
shifted_keeps names at op x y v left right fits is =
    let passed = passes _ _ _ v is in
    let both : both_numbers x y ≡ true = not_false _ passed.0 in
    let left_number : IsNumber (type_of x) = and_left _ _ both in
    let right_number : IsNumber (type_of y) = and_right (is_number (type_of x)) _ both in
    let a = promotes names x left left_number in
    let b = promotes names y right right_number in
    along names _ v passed.1
    (made names at (promoted (type_of x)) (CForm.Binary op (as_promoted x) (as_promoted y)) refl (number_type names.structs _ (promoted_number _ left_number))
    (a.0, b.0, fits _ _ _ (record { left = a.1; right = b.1; result = sym (as_promoted_is names x left left_number).has })))

-- a pointer that a number moves
moves : (names : Environment) (x y : CExpr) → IsValue names x → IsValue names y → is_move names.structs x y ≡ true → IsMoved names.structs x (as_promoted y) (type_of x)
moves names x y left right is = record {
  plain = left.plain;
  complete = points names.structs (type_of x) (and_left _ _ is);
  distance = (promotes names y right (and_right (points_to_complete names.structs (type_of x)) _ is)).1;
  result = refl;
}

distance : (names : Environment) (x y : CExpr) → IsValue names y → is_move names.structs x y ≡ true → IsExpr names (as_promoted y)
distance names x y right is = (promotes names y right (and_right (points_to_complete names.structs (type_of x)) _ is)).0

added_by : (names : Environment) (at : At) (x y v : CExpr) → IsValue names x → IsValue names y → (n l r : Bool)
    → both_numbers x y ≡ n → is_move names.structs x y ≡ l → is_move names.structs y x ≡ r
    → (if n then Ok (on_numbers at (common (type_of x) (type_of y)) binary.Add x y)
    else if l then Ok (CExpr.expr at (type_of x) (CForm.Binary binary.Add x (as_promoted y)))
    else if r then Ok (CExpr.expr at (type_of y) (CForm.Binary binary.Add (as_promoted x) y))
    else Err (BadType at.line (sum_rule x y))) ≡ Ok v → IsOperand names v
added_by names at x y v left right true l r n_is l_is r_is is =
    let both = in_common names x y left right n_is in
    along names _ v is (made names at _ _ refl both.formed (both.left, both.right, AreAdded.numbers both.are))
added_by names at x y v left right false true r n_is l_is r_is is =
    along names _ v is (made names at _ _ refl (formed_type names x left.typed) (left.typed, distance names x y right l_is, AreAdded.pointer_and_number (moves names x y left right l_is)))
added_by names at x y v left right false false true n_is l_is r_is is =
    along names _ v is (made names at _ _ refl (formed_type names y right.typed) (distance names y x left r_is, right.typed, AreAdded.number_and_pointer (moves names y x right left r_is)))
added_by names at x y v left right false false false n_is l_is r_is is = absurd cc

added_keeps : (names : Environment) (at : At) (x y v : CExpr) → IsValue names x → IsValue names y → added names.structs at x y ≡ Ok v → IsOperand names v
unfolding added
added_keeps names at x y v left right is = added_by names at x y v left right _ _ _ refl refl refl is

subtracted_by : (names : Environment) (at : At) (x y v : CExpr) → IsValue names x → IsValue names y → (n l r : Bool)
    → both_numbers x y ≡ n → is_move names.structs x y ≡ l → points_to_complete names.structs (type_of x) && same (type_of x) (type_of y) ≡ r
    → (if n then Ok (on_numbers at (common (type_of x) (type_of y)) binary.Subtract x y)
    else if l then Ok (CExpr.expr at (type_of x) (CForm.Binary binary.Subtract x (as_promoted y)))
    else if r then Ok (CExpr.expr at CType.Int (CForm.Binary binary.Subtract x y))
    else Err (BadType at.line (sum_rule x y))) ≡ Ok v → IsOperand names v
subtracted_by names at x y v left right true l r n_is l_is r_is is =
    let both = in_common names x y left right n_is in
    along names _ v is (made names at _ _ refl both.formed (both.left, both.right, AreSubtracted.numbers both.are))
subtracted_by names at x y v left right false true r n_is l_is r_is is =
    along names _ v is (made names at _ _ refl (formed_type names x left.typed) (left.typed, distance names x y right l_is, AreSubtracted.pointer_and_number (moves names x y left right l_is)))
subtracted_by names at x y v left right false false true n_is l_is r_is is =
    along names _ v is (made names at _ _ refl tt (
      left.typed,
      right.typed,
      AreSubtracted.pointers (record {
        left = left.plain;
        right = right.plain;
        one_type = same_is (type_of x) (type_of y) (and_right (points_to_complete names.structs (type_of x)) _ r_is);
        complete = points names.structs (type_of x) (and_left _ _ r_is);
        result = refl;
      }),
    ))
subtracted_by names at x y v left right false false false n_is l_is r_is is = absurd cc

subtracted_keeps : (names : Environment) (at : At) (x y v : CExpr) → IsValue names x → IsValue names y → subtracted names.structs at x y ≡ Ok v → IsOperand names v
unfolding subtracted
subtracted_keeps names at x y v left right is = subtracted_by names at x y v left right _ _ _ refl refl refl is

ordered_by : (names : Environment) (at : At) (op : BinaryOperator) (x y v : CExpr) → IsValue names x → IsValue names y
    → ((a b : CExpr) → AreOrdered a b → Fits names op a b CType.Int) → (n p : Bool)
    → both_numbers x y ≡ n → is_pointer (type_of x) && same (type_of x) (type_of y) ≡ p
    → (if n then Ok (on_numbers at CType.Int op x y) else if p then Ok (CExpr.expr at CType.Int (CForm.Binary op x y)) else Err (BadType at.line 9)) ≡ Ok v → IsOperand names v
ordered_by names at op x y v left right fits true p n_is p_is is =
    let both = in_common names x y left right n_is in
    along names _ v is (made names at _ _ refl tt (both.left, both.right, fits _ _ (AreOrdered.numbers _ both.are)))
ordered_by names at op x y v left right fits false true n_is p_is is =
    along names _ v is (made names at _ _ refl tt (left.typed, right.typed, fits _ _ (AreOrdered.pointers left.plain right.plain (and_left _ _ p_is) (same_is (type_of x) (type_of y) (and_right (is_pointer (type_of x)) _ p_is)))))
ordered_by names at op x y v left right fits false false n_is p_is is = absurd cc

ordered_keeps : (names : Environment) (at : At) (op : BinaryOperator) (x y v : CExpr) → IsValue names x → IsValue names y
    → ((a b : CExpr) → AreOrdered a b → Fits names op a b CType.Int) → ordered at op x y ≡ Ok v → IsOperand names v
unfolding ordered
ordered_keeps names at op x y v left right fits is = ordered_by names at op x y v left right fits _ _ refl refl is

-- how two pointers meet at a type
record Meets (names : Environment) (t : CType) (x y : CExpr) : Type 0 where
  pointer : IsPointer t
  formed : IsType names.structs t
  left : may_point t x ≡ true
  right : may_point t y ≡ true

or_first : (a b c : Bool) → a ≡ true → a || b || c ≡ true
or_first a b c h = rw h refl

or_second : (a b c : Bool) → b ≡ true → a || b || c ≡ true
or_second true b c h = refl
or_second false b c h = rw h refl

or_third : (a b c : Bool) → c ≡ true → a || b || c ≡ true
or_third true b c h = refl
or_third false true c h = refl
or_third false false c h = h

both_true : (a b : Bool) → a ≡ true → b ≡ true → a && b ≡ true
both_true a b h i = rw (h, i) refl

may_same : (t : CType) (x : CExpr) → same (type_of x) t ≡ true → may_point t x ≡ true
may_same t x h = or_first (same (type_of x) t) (is_null x) (is_pointer (type_of x) && (is_void_pointer t || is_void_pointer (type_of x))) h

may_null : (t : CType) (x : CExpr) → is_null x ≡ true → may_point t x ≡ true
may_null t x h = or_second (same (type_of x) t) (is_null x) (is_pointer (type_of x) && (is_void_pointer t || is_void_pointer (type_of x))) h

may_void : (x : CExpr) → is_pointer (type_of x) ≡ true → may_point (CType.Pointer CType.Void) x ≡ true
may_void x h = or_third (same (type_of x) (CType.Pointer CType.Void)) (is_null x) (is_pointer (type_of x) && true) (both_true (is_pointer (type_of x)) true h refl)

same_back : (t u : CType) → same t u ≡ true → same u t ≡ true
same_back t u h = let is : t ≡ u = same_is t u h in rw is (same_itself u)

meets_by : (names : Environment) (t : CType) (x y : CExpr) → IsValue names x → IsValue names y → (a b c d : Bool)
    → is_pointer (type_of x) && same (type_of x) (type_of y) ≡ a → is_null y && is_pointer (type_of x) ≡ b → is_null x && is_pointer (type_of y) ≡ c
    → is_pointer (type_of x) && is_pointer (type_of y) && (is_void_pointer (type_of x) || is_void_pointer (type_of y)) ≡ d
    → (if a then Some (type_of x) else if b then Some (type_of x) else if c then Some (type_of y) else if d then Some (CType.Pointer CType.Void) else None) ≡ Some t
    → Meets names t x y
meets_by names t x y left right true b c d a_is b_is c_is d_is is =
    subst (λ u. Meets names u x y) (some_is (type_of x) t is) (record {
      pointer = and_left _ _ a_is;
      formed = formed_type names x left.typed;
      left = may_same (type_of x) x (same_itself (type_of x));
      right = may_same (type_of x) y (same_back (type_of x) (type_of y) (and_right (is_pointer (type_of x)) _ a_is));
    })
meets_by names t x y left right false true c d a_is b_is c_is d_is is =
    subst (λ u. Meets names u x y) (some_is (type_of x) t is) (record {
      pointer = and_right (is_null y) _ b_is;
      formed = formed_type names x left.typed;
      left = may_same (type_of x) x (same_itself (type_of x));
      right = may_null (type_of x) y (and_left (is_null y) (is_pointer (type_of x)) b_is);
    })
meets_by names t x y left right false false true d a_is b_is c_is d_is is =
    subst (λ u. Meets names u x y) (some_is (type_of y) t is) (record {
      pointer = and_right (is_null x) _ c_is;
      formed = formed_type names y right.typed;
      left = may_null (type_of y) x (and_left (is_null x) (is_pointer (type_of y)) c_is);
      right = may_same (type_of y) y (same_itself (type_of y));
    })
meets_by names t x y left right false false false true a_is b_is c_is d_is is =
    subst (λ u. Meets names u x y) (some_is (CType.Pointer CType.Void) t is) (record {
      pointer = refl;
      formed = tt;
      left = may_void x (and_left (is_pointer (type_of x)) (is_pointer (type_of y)) (and_left (is_pointer (type_of x) && is_pointer (type_of y)) (is_void_pointer (type_of x) || is_void_pointer (type_of y)) d_is));
      right = may_void y (and_right (is_pointer (type_of x)) (is_pointer (type_of y)) (and_left (is_pointer (type_of x) && is_pointer (type_of y)) (is_void_pointer (type_of x) || is_void_pointer (type_of y)) d_is));
    })
meets_by names t x y left right false false false false a_is b_is c_is d_is is = absurd cc

meets : (names : Environment) (t : CType) (x y : CExpr) → IsValue names x → IsValue names y → meeting_type x y ≡ Some t → Meets names t x y
meets names t x y left right is = meets_by names t x y left right _ _ _ _ refl refl refl refl is

-- two pointers converted to where they meet
record MetAt (names : Environment) (t : CType) (x y : CExpr) : Type 0 where
  left : IsExpr names (as_pointer t x)
  right : IsExpr names (as_pointer t y)
  meeting : AreMeeting (as_pointer t x) (as_pointer t y) t
  formed : IsType names.structs t

met : (names : Environment) (t : CType) (x y : CExpr) → IsValue names x → IsValue names y → meeting_type x y ≡ Some t → MetAt names t x y
met names t x y left right is =
    let meeting = meets names t x y left right is in
    let a = as_pointer_is names t x left meeting.pointer meeting.formed meeting.left in
    let b = as_pointer_is names t y right meeting.pointer meeting.formed meeting.right in
    record {
      left = a.typed;
      right = b.typed;
      meeting = record { meeting = ap (λ e. meeting_type e (unconverted (as_pointer t y))) a.own ∙ ap (λ e. meeting_type x e) b.own ∙ is; left = a.has; right = b.has };
      formed = meeting.formed;
    }

equated_by : (names : Environment) (at : At) (op : BinaryOperator) (x y v : CExpr) → IsValue names x → IsValue names y
    → ((a b : CExpr) → AreEquated a b → Fits names op a b CType.Int) → (n : Bool) (o : Option CType) → both_numbers x y ≡ n → meeting_type x y ≡ o
    → (if n then Ok (on_numbers at CType.Int op x y) else equated_at at op x y o) ≡ Ok v → IsOperand names v
equated_by names at op x y v left right fits true o n_is o_is is =
    let both = in_common names x y left right n_is in
    along names _ v is (made names at _ _ refl tt (both.left, both.right, fits _ _ (AreEquated.numbers _ both.are)))
equated_by names at op x y v left right fits false None n_is o_is is = absurd cc
equated_by names at op x y v left right fits false (Some t) n_is o_is is =
    let at_type = met names t x y left right o_is in
    along names _ v is (made names at _ _ refl tt (at_type.left, at_type.right, fits _ _ (AreEquated.pointers t at_type.meeting)))

equated_keeps : (names : Environment) (at : At) (op : BinaryOperator) (x y v : CExpr) → IsValue names x → IsValue names y
    → ((a b : CExpr) → AreEquated a b → Fits names op a b CType.Int) → equated at op x y ≡ Ok v → IsOperand names v
unfolding equated
equated_keeps names at op x y v left right fits is = equated_by names at op x y v left right fits _ _ refl refl is

logical_keeps : (names : Environment) (at : At) (op : BinaryOperator) (x y v : CExpr) → IsValue names x → IsValue names y
    → ((a b : CExpr) → IsBinary names.structs binary.LogicalAnd a b CType.Int → Fits names op a b CType.Int) → logical at op x y ≡ Ok v → IsOperand names v
unfolding logical
logical_keeps names at op x y v left right fits is =
    let passed = passes _ _ _ v is in
    let scalars : is_scalar (type_of x) && is_scalar (type_of y) ≡ true = not_false _ passed.0 in
    along names _ v passed.1
    (made names at CType.Int (CForm.Binary op x y) refl tt
    (left.typed, right.typed, fits _ _ (record { plain = left.plain; scalar = and_left _ _ scalars }, record { plain = right.plain; scalar = and_right (is_scalar (type_of x)) _ scalars }, refl)))

-- the operands have lost their arrays
of_values : (names : Environment) (at : At) (op : BinaryOperator) (x y v : CExpr) → IsValue names x → IsValue names y → binary_of names.structs at op x y ≡ Ok v → IsOperand names v
of_values names at binary.Multiply x y v left right is = product_keeps names at binary.Multiply x y v left right (λ a b t h. h) is
of_values names at binary.Divide x y v left right is = product_keeps names at binary.Divide x y v left right (λ a b t h. h) is
of_values names at binary.Remainder x y v left right is = product_keeps names at binary.Remainder x y v left right (λ a b t h. h) is
of_values names at binary.BitAnd x y v left right is = product_keeps names at binary.BitAnd x y v left right (λ a b t h. h) is
of_values names at binary.BitXor x y v left right is = product_keeps names at binary.BitXor x y v left right (λ a b t h. h) is
of_values names at binary.BitOr x y v left right is = product_keeps names at binary.BitOr x y v left right (λ a b t h. h) is
of_values names at binary.Add x y v left right is = added_keeps names at x y v left right is
of_values names at binary.Subtract x y v left right is = subtracted_keeps names at x y v left right is
of_values names at binary.ShiftLeft x y v left right is = shifted_keeps names at binary.ShiftLeft x y v left right (λ a b t h. h) is
of_values names at binary.ShiftRight x y v left right is = shifted_keeps names at binary.ShiftRight x y v left right (λ a b t h. h) is
of_values names at binary.Less x y v left right is = ordered_keeps names at binary.Less x y v left right (λ a b h. (h, refl)) is
of_values names at binary.Greater x y v left right is = ordered_keeps names at binary.Greater x y v left right (λ a b h. (h, refl)) is
of_values names at binary.LessEqual x y v left right is = ordered_keeps names at binary.LessEqual x y v left right (λ a b h. (h, refl)) is
of_values names at binary.GreaterEqual x y v left right is = ordered_keeps names at binary.GreaterEqual x y v left right (λ a b h. (h, refl)) is
of_values names at binary.Equal x y v left right is = equated_keeps names at binary.Equal x y v left right (λ a b h. (h, refl)) is
of_values names at binary.NotEqual x y v left right is = equated_keeps names at binary.NotEqual x y v left right (λ a b h. (h, refl)) is
of_values names at binary.LogicalAnd x y v left right is = logical_keeps names at binary.LogicalAnd x y v left right (λ a b h. h) is
of_values names at binary.LogicalOr x y v left right is = logical_keeps names at binary.LogicalOr x y v left right (λ a b h. h) is

pub binary_keeps : (names : Environment) (at : At) (op : BinaryOperator) (x y : CExpr) → IsOperand names x → IsOperand names y → Keeps names (binary_rule names.structs at op x y)
unfolding binary_rule
binary_keeps names at op x y left right v is = of_values names at op (decayed x) (decayed y) v (decayed_value names x left) (decayed_value names y right) is

alternatives_by : (names : Environment) (at : At) (c x y v : CExpr) → IsTested names c → IsValue names x → IsValue names y → (n w : Bool) (o : Option CType)
    → both_numbers x y ≡ n → is_void (type_of x) && is_void (type_of y) ≡ w → meeting_type x y ≡ o
    → (if n
    then Ok (CExpr.expr at (common (type_of x) (type_of y))
    (CForm.Conditional c (as_number (common (type_of x) (type_of y)) x) (as_number (common (type_of x) (type_of y)) y)))
    else if w then Ok (CExpr.expr at CType.Void (CForm.Conditional c x y)) else alternatives_at at c x y o) ≡ Ok v → IsOperand names v
alternatives_by names at c x y v tested left right true w o n_is w_is o_is is =
    let both = in_common names x y left right n_is in
    along names _ v is (made names at _ _ refl both.formed (tested.typed, both.left, both.right, tested.condition, AreAlternatives.numbers both.are))
alternatives_by names at c x y v tested left right false true o n_is w_is o_is is =
    along names _ v is (made names at _ _ refl tt
    (tested.typed, left.typed, right.typed, tested.condition, AreAlternatives.voids (void_is _ (and_left _ _ w_is)) (void_is _ (and_right (is_void (type_of x)) _ w_is)) refl))
alternatives_by names at c x y v tested left right false false None n_is w_is o_is is = absurd cc
alternatives_by names at c x y v tested left right false false (Some t) n_is w_is o_is is =
    let at_type = met names t x y left right o_is in
    along names _ v is (made names at _ _ refl at_type.formed (tested.typed, at_type.left, at_type.right, tested.condition, AreAlternatives.pointers at_type.meeting))

alternatives_keep : (names : Environment) (at : At) (c x y v : CExpr) → IsTested names c → IsValue names x → IsValue names y → alternatives at c x y ≡ Ok v → IsOperand names v
unfolding alternatives
alternatives_keep names at c x y v tested left right is = alternatives_by names at c x y v tested left right _ _ _ refl refl refl is

pub conditional_keeps : (names : Environment) (at : At) (c x y : CExpr) → IsOperand names c → IsOperand names x → IsOperand names y → Keeps names (conditional_rule at c x y)
unfolding conditional_rule
conditional_keeps names at c x y condition left right v is =
    let d = bound (tested at.line c) _ v is in
    alternatives_keep names at d.0 (decayed x) (decayed y) v (tested_is names at.line c d.0 condition d.1) (decayed_value names x left) (decayed_value names y right) d.2

pub comma_keeps : (names : Environment) (at : At) (x y : CExpr) → IsOperand names x → IsOperand names y → IsOperand names (comma_rule at x y)
unfolding comma_rule
comma_keeps names at x y left right =
    let a = decayed_value names x left in
    let b = decayed_value names y right in
    made names at (type_of (decayed y)) (CForm.Comma (decayed x) (decayed y)) refl (formed_type names (decayed y) b.typed)
    (a.typed, b.typed, record { left = a.plain; right = b.plain; result = refl })

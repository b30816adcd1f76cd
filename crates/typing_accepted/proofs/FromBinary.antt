-- What the rules of the operators between two operands give is what the operators make of what the operands become.
use Rattle.std.proofs.Common.{◌≡◌, Bool, true, false, ◌&&◌, refl, sym}
use Rattle.std.specs.Prelude.{Option, Some, None, Ok, Err, List, if◌then◌else◌}
use Rattle.c_words.specs.declared.place.At.{At}
use Rattle.c_words.specs.declared.operators.BinaryOperator.{BinaryOperator}
use Rattle.c_words.specs.declared.operators.BinaryOperator.TheVariants as binary
use Rattle.typing_operators.specs.declared.error.TypeError.TheVariants.{BadType}
use Rattle.typed_tree.specs.Types.{CType, same, is_number, is_pointer, is_scalar, common, promoted}
use Rattle.typed_tree.specs.TypedTree.{CExpr, CForm, CStruct, type_of}
use Rattle.typed_tree.specs.TypedOperands.{IsWritten, meeting_type}
use Rattle.typed_tree.specs.TypedRules.{AreCommon, AreAdded, AreSubtracted, AreShifted, AreOrdered, AreEquated, IsBinary}
use Rattle.typing_operators.specs.Rule.{Rule}
use Rattle.typing_operators.specs.Conversions.{decayed, as_promoted, points_to_complete}
use Rattle.typing_operators.specs.Operators.{both_numbers, on_numbers, product, shifted, is_move, sum_rule, added, subtracted, ordered, equated_at, equated, logical, binary_of, binary_rule}
use Rattle.typing_accepted.specs.AcceptanceOperands.{Becomes}
use Rattle.typing_accepted.proofs.Steps.{passes, same_ok, not_false, and_left, and_right}
use Rattle.typing_accepted.proofs.Operands.{same_is, IsValue, decayed_value}
use Rattle.typing_accepted.proofs.Values.{promotes, promoted_type, in_common, points, moves, distance, met}

-- what a rule between two operands gives
pub record OfTwo (Keeps : CExpr → CExpr → CType → Type 0) (at : At) (form : CExpr → CExpr → CForm) (x y v : CExpr) : Type 0 where
  pub first : CExpr
  pub second : CExpr
  pub type : CType
  pub left : Becomes x first
  pub right : Becomes y second
  pub keeps : Keeps first second type
  pub is : v ≡ CExpr.expr at type (form first second)

abbrev pub OfBinary : List CStruct → At → BinaryOperator → CExpr → CExpr → CExpr → Type 0
OfBinary structs at op x y v = OfTwo (IsBinary structs op) at (CForm.Binary op) x y v

two : (structs : List CStruct) (at : At) (op : BinaryOperator) (x y a b : CExpr) (t : CType) (v : CExpr)
    → (let r : Rule CExpr = Ok (CExpr.expr at t (CForm.Binary op a b)) in r) ≡ Ok v
    → Becomes x a → Becomes y b → IsBinary structs op a b t → OfBinary structs at op x y v
two structs at op x y a b t v is left right keeps =
    record { first = a; second = b; type = t; left = left; right = right; keeps = keeps; is = sym (same_ok (CExpr.expr at t (CForm.Binary op a b)) v is) }

module _ (structs : List CStruct) (at : At) (x y d e : CExpr) (left : IsValue x d) (right : IsValue y e) where
  product_from : (op : BinaryOperator) → ((a b : CExpr) (t : CType) → AreCommon a b t → IsBinary structs op a b t) → (v : CExpr) → product at op d e ≡ Ok v → OfBinary structs at op x y v
  unfolding product
  product_from op fits v is =
      let passed = passes _ _ _ v is in
      let both = in_common x y d e left right (not_false (both_numbers d e) passed.0) in
      two structs at op x y _ _ (common (type_of d) (type_of e)) v passed.1 both.left both.right (fits _ _ _ both.are)

  shifted_from : (op : BinaryOperator) → ((a b : CExpr) (t : CType) → AreShifted a b t → IsBinary structs op a b t) → (v : CExpr) → shifted at op d e ≡ Ok v → OfBinary structs at op x y v
  unfolding shifted
  shifted_from op fits v is =
      let passed = passes _ _ _ v is in
      let both : both_numbers d e ≡ true = not_false _ passed.0 in
      let a = promotes x d left (and_left _ _ both) in
      let b = promotes y e right (and_right (is_number (type_of d)) _ both) in
      two structs at op x y _ _ (promoted (type_of d)) v passed.1 a.0 b.0 (fits _ _ _ (record { left = a.1; right = b.1; result = sym (promoted_type d) }))

  added_by : (v : CExpr) (n l r : Bool)
      → both_numbers d e ≡ n → is_move structs d e ≡ l → is_move structs e d ≡ r
      → (if n then Ok (on_numbers at (common (type_of d) (type_of e)) binary.Add d e)
      else if l then Ok (CExpr.expr at (type_of d) (CForm.Binary binary.Add d (as_promoted e)))
      else if r then Ok (CExpr.expr at (type_of e) (CForm.Binary binary.Add (as_promoted d) e))
      else Err (BadType at.line (sum_rule d e))) ≡ Ok v → OfBinary structs at binary.Add x y v
  added_by v true l r n_is l_is r_is is =
      let both = in_common x y d e left right n_is in
      two structs at binary.Add x y _ _ _ v is both.left both.right (AreAdded.numbers both.are)
  added_by v false true r n_is l_is r_is is =
      two structs at binary.Add x y _ _ _ v is left.becomes (distance structs y d e right l_is) (AreAdded.pointer_and_number (moves structs x y d e left right l_is))
  added_by v false false true n_is l_is r_is is =
      two structs at binary.Add x y _ _ _ v is (distance structs x e d left r_is) right.becomes (AreAdded.number_and_pointer (moves structs y x e d right left r_is))
  added_by v false false false n_is l_is r_is is = absurd cc

  added_from : (v : CExpr) → added structs at d e ≡ Ok v → OfBinary structs at binary.Add x y v
  unfolding added
  added_from v is = added_by v _ _ _ refl refl refl is

  subtracted_by : (v : CExpr) (n l r : Bool)
      → both_numbers d e ≡ n → is_move structs d e ≡ l → points_to_complete structs (type_of d) && same (type_of d) (type_of e) ≡ r
      → (if n then Ok (on_numbers at (common (type_of d) (type_of e)) binary.Subtract d e)
      else if l then Ok (CExpr.expr at (type_of d) (CForm.Binary binary.Subtract d (as_promoted e)))
      else if r then Ok (CExpr.expr at CType.Int (CForm.Binary binary.Subtract d e))
      else Err (BadType at.line (sum_rule d e))) ≡ Ok v → OfBinary structs at binary.Subtract x y v
  subtracted_by v true l r n_is l_is r_is is =
      let both = in_common x y d e left right n_is in
      two structs at binary.Subtract x y _ _ _ v is both.left both.right (AreSubtracted.numbers both.are)
  subtracted_by v false true r n_is l_is r_is is =
      two structs at binary.Subtract x y _ _ _ v is left.becomes (distance structs y d e right l_is) (AreSubtracted.pointer_and_number (moves structs x y d e left right l_is))
  subtracted_by v false false true n_is l_is r_is is =
      two structs at binary.Subtract x y _ _ _ v is left.becomes right.becomes
      (AreSubtracted.pointers (record {
        left = left.plain;
        right = right.plain;
        one_type = same_is (type_of d) (type_of e) (and_right (points_to_complete structs (type_of d)) _ r_is);
        complete = points structs (type_of d) (and_left _ _ r_is);
        result = refl;
      }))
  subtracted_by v false false false n_is l_is r_is is = absurd cc

  subtracted_from : (v : CExpr) → subtracted structs at d e ≡ Ok v → OfBinary structs at binary.Subtract x y v
  unfolding subtracted
  subtracted_from v is = subtracted_by v _ _ _ refl refl refl is

  ordered_by : (op : BinaryOperator) → ((a b : CExpr) → AreOrdered a b → IsBinary structs op a b CType.Int) → (v : CExpr) (n p : Bool)
      → both_numbers d e ≡ n → is_pointer (type_of d) && same (type_of d) (type_of e) ≡ p
      → (if n then Ok (on_numbers at CType.Int op d e) else if p then Ok (CExpr.expr at CType.Int (CForm.Binary op d e)) else Err (BadType at.line 9)) ≡ Ok v → OfBinary structs at op x y v
  ordered_by op fits v true p n_is p_is is =
      let both = in_common x y d e left right n_is in
      two structs at op x y _ _ CType.Int v is both.left both.right (fits _ _ (AreOrdered.numbers _ both.are))
  ordered_by op fits v false true n_is p_is is =
      two structs at op x y _ _ CType.Int v is left.becomes right.becomes
      (fits _ _ (AreOrdered.pointers left.plain right.plain (and_left _ _ p_is) (same_is (type_of d) (type_of e) (and_right (is_pointer (type_of d)) _ p_is))))
  ordered_by op fits v false false n_is p_is is = absurd cc

  ordered_from : (op : BinaryOperator) → ((a b : CExpr) → AreOrdered a b → IsBinary structs op a b CType.Int) → (v : CExpr) → ordered at op d e ≡ Ok v → OfBinary structs at op x y v
  unfolding ordered
  ordered_from op fits v is = ordered_by op fits v _ _ refl refl is

  equated_by : (op : BinaryOperator) → ((a b : CExpr) → AreEquated a b → IsBinary structs op a b CType.Int) → (v : CExpr) (n : Bool) (o : Option CType)
      → both_numbers d e ≡ n → meeting_type d e ≡ o
      → (if n then Ok (on_numbers at CType.Int op d e) else equated_at at op d e o) ≡ Ok v → OfBinary structs at op x y v
  equated_by op fits v true o n_is o_is is =
      let both = in_common x y d e left right n_is in
      two structs at op x y _ _ CType.Int v is both.left both.right (fits _ _ (AreEquated.numbers _ both.are))
  equated_by op fits v false None n_is o_is is = absurd cc
  equated_by op fits v false (Some t) n_is o_is is =
      let both = met t x y d e left right o_is in
      two structs at op x y _ _ CType.Int v is both.left both.right (fits _ _ (AreEquated.pointers t both.meeting))

  equated_from : (op : BinaryOperator) → ((a b : CExpr) → AreEquated a b → IsBinary structs op a b CType.Int) → (v : CExpr) → equated at op d e ≡ Ok v → OfBinary structs at op x y v
  unfolding equated
  equated_from op fits v is = equated_by op fits v _ _ refl refl is

  logical_from : (op : BinaryOperator) → ((a b : CExpr) → IsBinary structs binary.LogicalAnd a b CType.Int → IsBinary structs op a b CType.Int) → (v : CExpr) → logical at op d e ≡ Ok v → OfBinary structs at op x y v
  unfolding logical
  logical_from op fits v is =
      let passed = passes _ _ _ v is in
      let scalars : is_scalar (type_of d) && is_scalar (type_of e) ≡ true = not_false _ passed.0 in
      two structs at op x y _ _ CType.Int v passed.1 left.becomes right.becomes
      (fits _ _ (record { plain = left.plain; scalar = and_left _ _ scalars }, record { plain = right.plain; scalar = and_right (is_scalar (type_of d)) _ scalars }, refl))

  of_values : (op : BinaryOperator) (v : CExpr) → binary_of structs at op d e ≡ Ok v → OfBinary structs at op x y v
  of_values binary.Multiply v is = product_from binary.Multiply (λ a b t h. h) v is
  of_values binary.Divide v is = product_from binary.Divide (λ a b t h. h) v is
  of_values binary.Remainder v is = product_from binary.Remainder (λ a b t h. h) v is
  of_values binary.BitAnd v is = product_from binary.BitAnd (λ a b t h. h) v is
  of_values binary.BitXor v is = product_from binary.BitXor (λ a b t h. h) v is
  of_values binary.BitOr v is = product_from binary.BitOr (λ a b t h. h) v is
  of_values binary.Add v is = added_from v is
  of_values binary.Subtract v is = subtracted_from v is
  of_values binary.ShiftLeft v is = shifted_from binary.ShiftLeft (λ a b t h. h) v is
  of_values binary.ShiftRight v is = shifted_from binary.ShiftRight (λ a b t h. h) v is
  of_values binary.Less v is = ordered_from binary.Less (λ a b h. (h, refl)) v is
  of_values binary.Greater v is = ordered_from binary.Greater (λ a b h. (h, refl)) v is
  of_values binary.LessEqual v is = ordered_from binary.LessEqual (λ a b h. (h, refl)) v is
  of_values binary.GreaterEqual v is = ordered_from binary.GreaterEqual (λ a b h. (h, refl)) v is
  of_values binary.Equal v is = equated_from binary.Equal (λ a b h. (h, refl)) v is
  of_values binary.NotEqual v is = equated_from binary.NotEqual (λ a b h. (h, refl)) v is
  of_values binary.LogicalAnd v is = logical_from binary.LogicalAnd (λ a b h. h) v is
  of_values binary.LogicalOr v is = logical_from binary.LogicalOr (λ a b h. h) v is

pub binary_from : (structs : List CStruct) (at : At) (op : BinaryOperator) (x y v : CExpr) → IsWritten x → IsWritten y → binary_rule structs at op x y ≡ Ok v → OfBinary structs at op x y v
unfolding binary_rule
binary_from structs at op x y v left right is = of_values structs at x y (decayed x) (decayed y) (decayed_value x left) (decayed_value y right) op v is

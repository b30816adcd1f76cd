-- What the operators between two operands make of what the operands become is what their rules give.
use Rattle.std.proofs.Common.{◌≡◌, true, refl, sym, ap, ◌∙◌, subst}
use Rattle.std.specs.Prelude.{Option, Some, Ok, List}
use Rattle.c_words.specs.declared.place.At.{At}
use Rattle.c_words.specs.declared.operators.BinaryOperator.{BinaryOperator}
use Rattle.c_words.specs.declared.operators.BinaryOperator.TheVariants as binary
use Rattle.typed_tree.specs.Types.{CType, is_number, IsPointer, IsScalar}
use Rattle.typed_tree.specs.TypedTree.{CExpr, CForm, CStruct, type_of}
use Rattle.typed_tree.specs.TypedRules.{AreCommon, AreAdded, AreApart, AreSubtracted, AreShifted, AreOrdered, AreEquated, IsCondition, IsBinary, IsPointerToComplete}
use Rattle.typing_operators.specs.Rule.{Rule}
use Rattle.typing_operators.specs.Conversions.{decayed, points_to_complete}
use Rattle.typing_operators.specs.Operators.{on_numbers, product, shifted, added, subtracted, ordered, equated_at, equated, logical, binary_of, binary_rule}
use Rattle.typing_accepted.specs.AcceptanceOperands.{Becomes}
use Rattle.typing_accepted.proofs.Steps.{passed, taken, left_out, not_of, both_true, no_left, no_right}
use Rattle.typing_accepted.proofs.Operands.{same_of, no_number, IsRead, plain_is}
use Rattle.typing_accepted.proofs.Values.{promoted_is, common_is, AreCommonOf, does_point, points_pointer, move_is, meeting_is, AreMeetingOf}

ok_binary : (at : At) (op : BinaryOperator) (t u : CType) (a b c d : CExpr) → t ≡ u → a ≡ c → b ≡ d
    → (let r : Rule CExpr = Ok (CExpr.expr at u (CForm.Binary op c d)) in r) ≡ Ok (CExpr.expr at t (CForm.Binary op a b))
ok_binary at op t u a b c d type left right = rw (type, left, right) refl

on_common : (at : At) (op : BinaryOperator) (u : CType) (d e a b : CExpr) (t : CType) → AreCommonOf d e a b t
    → (let r : Rule CExpr = Ok (on_numbers at u op d e) in r) ≡ Ok (CExpr.expr at u (CForm.Binary op a b))
on_common at op u d e a b t is = ok_binary at op u u a b _ _ refl is.left is.right

module _ (structs : List CStruct) (at : At) (x y a b : CExpr) (t : CType) (x_read : IsRead x) (y_read : IsRead y) (left : Becomes x a) (right : Becomes y b) where
  product_to : (op : BinaryOperator) → AreCommon a b t → product at op (decayed x) (decayed y) ≡ Ok (CExpr.expr at t (CForm.Binary op a b))
  unfolding product
  product_to op are =
      let c = common_is x y a b t x_read.written y_read.written left right are in
      passed _ _ _ _ (not_of _ c.both) (ok_binary at op t _ a b _ _ c.type c.left c.right)

  shifted_to : (op : BinaryOperator) → AreShifted a b t → shifted at op (decayed x) (decayed y) ≡ Ok (CExpr.expr at t (CForm.Binary op a b))
  unfolding shifted
  shifted_to op are =
      let p = promoted_is x a x_read.written left are.left in
      let q = promoted_is y b y_read.written right are.right in
      passed _ _ _ _ (not_of _ (both_true _ _ p.number q.number)) (ok_binary at op t _ a b _ _ (are.result ∙ p.type) p.is q.is)

  added_to : AreAdded structs a b t → added structs at (decayed x) (decayed y) ≡ Ok (CExpr.expr at t (CForm.Binary binary.Add a b))
  unfolding added
  added_to (AreAdded.numbers are) =
      let c = common_is x y a b t x_read.written y_read.written left right are in
      taken _ _ _ _ c.both (ok_binary at binary.Add t _ a b _ _ c.type c.left c.right)
  added_to (AreAdded.pointer_and_number are) =
      let m = move_is structs x y a b t x_read.written y_read.written left right are in
      left_out _ _ _ _ m.no_numbers (taken _ _ _ _ m.move (ok_binary at binary.Add t _ a b _ _ m.type m.pointer m.number))
  added_to (AreAdded.number_and_pointer are) =
      let m = move_is structs y x b a t y_read.written x_read.written right left are in
      left_out _ _ _ _ m.no_numbers_back (left_out _ _ _ _ m.no_move_back (taken _ _ _ _ m.move (ok_binary at binary.Add t _ a b _ _ m.type m.number m.pointer)))

  apart_to : AreApart structs a b t → subtracted structs at (decayed x) (decayed y) ≡ Ok (CExpr.expr at t (CForm.Binary binary.Subtract a b))
  unfolding subtracted
  apart_to are =
      let p = plain_is x a x_read.written left are.left in
      let q = plain_is y b y_read.written right are.right in
      let to : points_to_complete structs (type_of (decayed x)) ≡ true = does_point structs _ (subst (λ e. IsPointerToComplete structs (type_of e)) p are.complete) in
      let one : type_of (decayed x) ≡ type_of (decayed y) = ap type_of (sym p) ∙ are.one_type ∙ ap type_of q in
      let pointer = points_pointer structs _ to in
      left_out _ _ _ _ (no_left (is_number (type_of (decayed x))) (is_number (type_of (decayed y))) (no_number _ pointer))
      (left_out _ _ _ _ (no_right (points_to_complete structs (type_of (decayed x))) (is_number (type_of (decayed y))) (no_number _ (subst (λ u. IsPointer u) one pointer)))
      (taken _ _ _ _ (both_true _ _ to (same_of _ _ one)) (ok_binary at binary.Subtract t _ a b _ _ are.result p q)))

  subtracted_to : AreSubtracted structs a b t → subtracted structs at (decayed x) (decayed y) ≡ Ok (CExpr.expr at t (CForm.Binary binary.Subtract a b))
  unfolding subtracted
  subtracted_to (AreSubtracted.numbers are) =
      let c = common_is x y a b t x_read.written y_read.written left right are in
      taken _ _ _ _ c.both (ok_binary at binary.Subtract t _ a b _ _ c.type c.left c.right)
  subtracted_to (AreSubtracted.pointer_and_number are) =
      let m = move_is structs x y a b t x_read.written y_read.written left right are in
      left_out _ _ _ _ m.no_numbers (taken _ _ _ _ m.move (ok_binary at binary.Subtract t _ a b _ _ m.type m.pointer m.number))
  subtracted_to (AreSubtracted.pointers are) = apart_to are

  ordered_to : (op : BinaryOperator) → AreOrdered a b → ordered at op (decayed x) (decayed y) ≡ Ok (CExpr.expr at CType.Int (CForm.Binary op a b))
  unfolding ordered
  ordered_to op (AreOrdered.numbers u are) =
      let c = common_is x y a b u x_read.written y_read.written left right are in
      taken _ _ _ _ c.both (on_common at op CType.Int _ _ a b u c)
  ordered_to op (AreOrdered.pointers a_plain b_plain pointer one_type) =
      let p = plain_is x a x_read.written left a_plain in
      let q = plain_is y b y_read.written right b_plain in
      let to : IsPointer (type_of (decayed x)) = subst (λ e. IsPointer (type_of e)) p pointer in
      let one : type_of (decayed x) ≡ type_of (decayed y) = ap type_of (sym p) ∙ one_type ∙ ap type_of q in
      left_out _ _ _ _ (no_left (is_number (type_of (decayed x))) (is_number (type_of (decayed y))) (no_number _ to))
      (taken _ _ _ _ (both_true _ _ to (same_of _ _ one)) (ok_binary at op CType.Int CType.Int a b _ _ refl p q))

  met_at : (op : BinaryOperator) (u : CType) (o : Option CType) → o ≡ Some u → AreMeetingOf (decayed x) (decayed y) a b u
      → equated_at at op (decayed x) (decayed y) o ≡ Ok (CExpr.expr at CType.Int (CForm.Binary op a b))
  met_at op u o is m = rw is (ok_binary at op CType.Int CType.Int a b _ _ refl m.left m.right)

  equated_to : (op : BinaryOperator) → AreEquated a b → equated at op (decayed x) (decayed y) ≡ Ok (CExpr.expr at CType.Int (CForm.Binary op a b))
  unfolding equated
  equated_to op (AreEquated.numbers u are) =
      let c = common_is x y a b u x_read.written y_read.written left right are in
      taken _ _ _ _ c.both (on_common at op CType.Int _ _ a b u c)
  equated_to op (AreEquated.pointers u are) =
      let m = meeting_is x y a b u x_read y_read left right are in
      left_out _ _ _ _ m.no_numbers (met_at op u _ m.meeting m)

  logical_to : (op : BinaryOperator) → IsCondition a → IsCondition b → logical at op (decayed x) (decayed y) ≡ Ok (CExpr.expr at CType.Int (CForm.Binary op a b))
  unfolding logical
  logical_to op first second =
      let p = plain_is x a x_read.written left first.plain in
      let q = plain_is y b y_read.written right second.plain in
      let m : IsScalar (type_of (decayed x)) = subst (λ e. IsScalar (type_of e)) p first.scalar in
      let n : IsScalar (type_of (decayed y)) = subst (λ e. IsScalar (type_of e)) q second.scalar in
      passed _ _ _ _ (not_of _ (both_true _ _ m n)) (ok_binary at op CType.Int CType.Int a b _ _ refl p q)

  -- where the type is int
  int_to : (op : BinaryOperator) (r : Rule CExpr) → t ≡ CType.Int → r ≡ Ok (CExpr.expr at CType.Int (CForm.Binary op a b)) → r ≡ Ok (CExpr.expr at t (CForm.Binary op a b))
  int_to op r type is = rw type is

  of_operands : (op : BinaryOperator) → IsBinary structs op a b t → binary_of structs at op (decayed x) (decayed y) ≡ Ok (CExpr.expr at t (CForm.Binary op a b))
  of_operands binary.Multiply is = product_to binary.Multiply is
  of_operands binary.Divide is = product_to binary.Divide is
  of_operands binary.Remainder is = product_to binary.Remainder is
  of_operands binary.BitAnd is = product_to binary.BitAnd is
  of_operands binary.BitXor is = product_to binary.BitXor is
  of_operands binary.BitOr is = product_to binary.BitOr is
  of_operands binary.Add is = added_to is
  of_operands binary.Subtract is = subtracted_to is
  of_operands binary.ShiftLeft is = shifted_to binary.ShiftLeft is
  of_operands binary.ShiftRight is = shifted_to binary.ShiftRight is
  of_operands binary.Less is = int_to binary.Less _ is.1 (ordered_to binary.Less is.0)
  of_operands binary.Greater is = int_to binary.Greater _ is.1 (ordered_to binary.Greater is.0)
  of_operands binary.LessEqual is = int_to binary.LessEqual _ is.1 (ordered_to binary.LessEqual is.0)
  of_operands binary.GreaterEqual is = int_to binary.GreaterEqual _ is.1 (ordered_to binary.GreaterEqual is.0)
  of_operands binary.Equal is = int_to binary.Equal _ is.1 (equated_to binary.Equal is.0)
  of_operands binary.NotEqual is = int_to binary.NotEqual _ is.1 (equated_to binary.NotEqual is.0)
  of_operands binary.LogicalAnd is = int_to binary.LogicalAnd _ is.2 (logical_to binary.LogicalAnd is.0 is.1)
  of_operands binary.LogicalOr is = int_to binary.LogicalOr _ is.2 (logical_to binary.LogicalOr is.0 is.1)

  pub binary_to : (op : BinaryOperator) → IsBinary structs op a b t → binary_rule structs at op x y ≡ Ok (CExpr.expr at t (CForm.Binary op a b))
  unfolding binary_rule
  binary_to op is = of_operands op is

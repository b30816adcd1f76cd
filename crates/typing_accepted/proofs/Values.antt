-- Values under operators: numbers in their common type, a pointer and a distance, pointers that meet.
use Rattle.std.proofs.Common.{◌≡◌, Bool, true, false, ◌&&◌, ◌||◌, ◌⊎◌, inl, inr, refl, sym, ap, ◌∙◌, subst}
use Rattle.std.specs.Prelude.{Some, None, List, if◌then◌else◌}
use Rattle.typed_tree.specs.Types.{CType, same, is_number, is_pointer, is_void_pointer, is_unsigned, promoted, common, IsNumber, IsPointer}
use Rattle.typed_tree.specs.TypedTree.{CExpr, CStruct, type_of}
use Rattle.typed_tree.specs.TypedOperands.{is_null, unconverted, own_type, IsPromoted, IsWritten, meeting_type}
use Rattle.typed_tree.specs.TypedRules.{AreCommon, AreMeeting, IsMoved, IsPointerToComplete}
use Rattle.typing_operators.specs.Conversions.{decayed, as_number, as_promoted, as_pointer, may_point, points_to_complete, is_void}
use Rattle.typing_operators.specs.Operators.{both_numbers, is_move}
use Rattle.typing_accepted.specs.AcceptanceOperands.{Becomes}
use Rattle.typing_accepted.proofs.Steps.{some_is, and_left, and_right, both_true, or_right, no_left, no_right}
use Rattle.typing_accepted.proofs.Operands.{may_same, may_null, may_void, same_is, no_number, IsRead, IsValue, plain_is, number_is, pointer_is, number_becomes, number_type, number_own, pointer_becomes, pointer_type, pointer_own}

pub promoted_number : (t : CType) → IsNumber t → IsNumber (promoted t)
promoted_number CType.Char is = refl
promoted_number CType.Int is = refl
promoted_number CType.Unsigned is = refl
promoted_number CType.Void is = absurd cc
promoted_number (CType.Struct k) is = absurd cc
promoted_number (CType.Pointer t) is = absurd cc
promoted_number (CType.Array t n) is = absurd cc

pub common_number : (t u : CType) → IsNumber (common t u)
common_number t u = by (is_unsigned t || is_unsigned u)
  where
    by : (b : Bool) → IsNumber (if b then CType.Unsigned else CType.Int)
    by true = refl
    by false = refl

-- a promoted number

pub promotes : (y e : CExpr) → IsValue y e → IsNumber (type_of e) → Becomes y (as_promoted e) × IsPromoted (as_promoted e)
unfolding as_promoted
promotes y e value number =
    let own = number_own (promoted (type_of e)) e value.self in (
      number_becomes (promoted (type_of e)) y e value number (promoted_number (type_of e) number),
      (rw own number, number_type (promoted (type_of e)) e ∙ ap promoted (sym own)),
    )

pub promoted_type : (e : CExpr) → type_of (as_promoted e) ≡ promoted (type_of e)
unfolding as_promoted
promoted_type e = number_type (promoted (type_of e)) e

-- the number that an operand was promoted to, where e is the operand without its array
pub record IsPromotedOf (e b : CExpr) : Type 0 where
  pub number : IsNumber (type_of e)
  pub is : b ≡ as_promoted e
  pub type : type_of b ≡ promoted (type_of e)

pub promoted_is : (y b : CExpr) → IsWritten y → Becomes y b → IsPromoted b → IsPromotedOf (decayed y) b
unfolding as_promoted
promoted_is y b written becomes is =
    let number : IsNumber (type_of b) = rw is.1 (promoted_number (own_type b) is.0) in
    let of = number_is y b written becomes number in
    let type : type_of b ≡ promoted (type_of (decayed y)) = is.1 ∙ ap promoted of.own in
    record { number = of.number; is = of.is ∙ ap (λ t. as_number t (decayed y)) type; type = type }

-- two numbers in their common type

pub record AreNumbers (x y d e : CExpr) : Type 0 where
  pub left : Becomes x (as_number (common (type_of d) (type_of e)) d)
  pub right : Becomes y (as_number (common (type_of d) (type_of e)) e)
  pub are : AreCommon (as_number (common (type_of d) (type_of e)) d) (as_number (common (type_of d) (type_of e)) e) (common (type_of d) (type_of e))

pub in_common : (x y d e : CExpr) → IsValue x d → IsValue y e → both_numbers d e ≡ true → AreNumbers x y d e
in_common x y d e left right both =
    let t = common (type_of d) (type_of e) in
    let number = common_number (type_of d) (type_of e) in
    let left_number : IsNumber (type_of d) = and_left _ _ both in
    let right_number : IsNumber (type_of e) = and_right (is_number (type_of d)) _ both in
    let a = number_own t d left.self in
    let b = number_own t e right.self in
    record {
      left = number_becomes t x d left left_number number;
      right = number_becomes t y e right right_number number;
      are = record {
        left_number = rw a left_number;
        right_number = rw b right_number;
        is_common = rw (a, b) refl;
        left = number_type t d;
        right = number_type t e;
      };
    }

-- what two operands became that are in their common type
pub record AreCommonOf (d e a b : CExpr) (t : CType) : Type 0 where
  pub both : both_numbers d e ≡ true
  pub type : t ≡ common (type_of d) (type_of e)
  pub left : a ≡ as_number (common (type_of d) (type_of e)) d
  pub right : b ≡ as_number (common (type_of d) (type_of e)) e

pub common_is : (x y a b : CExpr) (t : CType) → IsWritten x → IsWritten y → Becomes x a → Becomes y b → AreCommon a b t → AreCommonOf (decayed x) (decayed y) a b t
common_is x y a b t x_written y_written left right are =
    let number : IsNumber t = rw are.is_common (common_number (own_type a) (own_type b)) in
    let p = number_is x a x_written left (rw are.left number) in
    let q = number_is y b y_written right (rw are.right number) in
    let type : t ≡ common (type_of (decayed x)) (type_of (decayed y)) = are.is_common ∙ ap (λ u. common u (own_type b)) p.own ∙ ap (common (type_of (decayed x))) q.own in
    record {
      both = both_true _ _ p.number q.number;
      type = type;
      left = p.is ∙ ap (λ u. as_number u (decayed x)) (are.left ∙ type);
      right = q.is ∙ ap (λ u. as_number u (decayed y)) (are.right ∙ type);
    }

-- a pointer and a distance

pub points : (structs : List CStruct) (t : CType) → points_to_complete structs t ≡ true → IsPointerToComplete structs t
points structs (CType.Pointer u) h = h
points structs CType.Void h = absurd cc
points structs CType.Char h = absurd cc
points structs CType.Int h = absurd cc
points structs CType.Unsigned h = absurd cc
points structs (CType.Struct k) h = absurd cc
points structs (CType.Array u n) h = absurd cc

pub does_point : (structs : List CStruct) (t : CType) → IsPointerToComplete structs t → points_to_complete structs t ≡ true
does_point structs (CType.Pointer u) h = h
does_point structs CType.Void h = absurd h
does_point structs CType.Char h = absurd h
does_point structs CType.Int h = absurd h
does_point structs CType.Unsigned h = absurd h
does_point structs (CType.Struct k) h = absurd h
does_point structs (CType.Array u n) h = absurd h

pub points_pointer : (structs : List CStruct) (t : CType) → points_to_complete structs t ≡ true → IsPointer t
points_pointer structs (CType.Pointer u) h = refl
points_pointer structs CType.Void h = absurd cc
points_pointer structs CType.Char h = absurd cc
points_pointer structs CType.Int h = absurd cc
points_pointer structs CType.Unsigned h = absurd cc
points_pointer structs (CType.Struct k) h = absurd cc
points_pointer structs (CType.Array u n) h = absurd cc

pub number_points : (structs : List CStruct) (t : CType) → IsNumber t → points_to_complete structs t ≡ false
number_points structs CType.Char h = refl
number_points structs CType.Int h = refl
number_points structs CType.Unsigned h = refl
number_points structs CType.Void h = refl
number_points structs (CType.Struct k) h = refl
number_points structs (CType.Pointer t) h = absurd cc
number_points structs (CType.Array t n) h = refl

pub moves : (structs : List CStruct) (x y d e : CExpr) → IsValue x d → IsValue y e → is_move structs d e ≡ true → IsMoved structs d (as_promoted e) (type_of d)
moves structs x y d e left right is = record {
  plain = left.plain;
  complete = points structs (type_of d) (and_left _ _ is);
  distance = (promotes y e right (and_right (points_to_complete structs (type_of d)) _ is)).1;
  result = refl;
}

pub distance : (structs : List CStruct) (y d e : CExpr) → IsValue y e → is_move structs d e ≡ true → Becomes y (as_promoted e)
distance structs y d e right is = (promotes y e right (and_right (points_to_complete structs (type_of d)) _ is)).0

pub record IsMoveOf (structs : List CStruct) (d e a b : CExpr) (t : CType) : Type 0 where
  pub pointer : a ≡ d
  pub number : b ≡ as_promoted e
  pub type : t ≡ type_of d
  pub move : is_move structs d e ≡ true
  pub no_numbers : both_numbers d e ≡ false
  pub no_numbers_back : both_numbers e d ≡ false
  pub no_move_back : is_move structs e d ≡ false

pub move_is : (structs : List CStruct) (x y a b : CExpr) (t : CType) → IsWritten x → IsWritten y → Becomes x a → Becomes y b → IsMoved structs a b t → IsMoveOf structs (decayed x) (decayed y) a b t
move_is structs x y a b t x_written y_written left right is =
    let a_is = plain_is x a x_written left is.plain in
    let p = promoted_is y b y_written right is.distance in
    let to : points_to_complete structs (type_of (decayed x)) ≡ true = does_point structs _ (subst (λ e. IsPointerToComplete structs (type_of e)) a_is is.complete) in
    let no = no_number _ (points_pointer structs _ to) in
    record {
      pointer = a_is;
      number = p.is;
      type = is.result ∙ ap type_of a_is;
      move = both_true _ _ to p.number;
      no_numbers = no_left _ _ no;
      no_numbers_back = no_right _ _ no;
      no_move_back = no_left _ _ (number_points structs _ p.number);
    }

-- pointers that meet

record Meets (t : CType) (d e : CExpr) : Type 0 where
  pointer : IsPointer t
  left : may_point t d ≡ true
  right : may_point t e ≡ true
  one_pointer : IsPointer (type_of d) ⊎ IsPointer (type_of e)

no_numbers_in : (d e : CExpr) → IsPointer (type_of d) ⊎ IsPointer (type_of e) → both_numbers d e ≡ false
no_numbers_in d e (inl pointer) = no_left (is_number (type_of d)) (is_number (type_of e)) (no_number (type_of d) pointer)
no_numbers_in d e (inr pointer) = no_right (is_number (type_of d)) (is_number (type_of e)) (no_number (type_of e) pointer)

no_void : (t : CType) → IsPointer t → is_void t ≡ false
no_void (CType.Pointer t) h = refl
no_void CType.Void h = absurd cc
no_void CType.Char h = refl
no_void CType.Int h = refl
no_void CType.Unsigned h = refl
no_void (CType.Struct k) h = refl
no_void (CType.Array t n) h = refl

no_voids_in : (d e : CExpr) → IsPointer (type_of d) ⊎ IsPointer (type_of e) → is_void (type_of d) && is_void (type_of e) ≡ false
no_voids_in d e (inl pointer) = no_left (is_void (type_of d)) (is_void (type_of e)) (no_void (type_of d) pointer)
no_voids_in d e (inr pointer) = no_right (is_void (type_of d)) (is_void (type_of e)) (no_void (type_of e) pointer)

meets_by : (t : CType) (d e : CExpr) → (j k l m : Bool)
    → is_pointer (type_of d) && same (type_of d) (type_of e) ≡ j → is_null e && is_pointer (type_of d) ≡ k → is_null d && is_pointer (type_of e) ≡ l
    → is_pointer (type_of d) && is_pointer (type_of e) && (is_void_pointer (type_of d) || is_void_pointer (type_of e)) ≡ m
    → (if j then Some (type_of d) else if k then Some (type_of d) else if l then Some (type_of e) else if m then Some (CType.Pointer CType.Void) else None) ≡ Some t
    → Meets t d e
meets_by t d e true k l m j_is k_is l_is m_is is =
    let pointer : IsPointer (type_of d) = and_left _ _ j_is in
    subst (λ u. Meets u d e) (some_is (type_of d) t is) (record {
      pointer = pointer;
      left = may_same (type_of d) d refl;
      right = may_same (type_of d) e (sym (same_is (type_of d) (type_of e) (and_right (is_pointer (type_of d)) _ j_is)));
      one_pointer = inl pointer;
    })
meets_by t d e false true l m j_is k_is l_is m_is is =
    let pointer : IsPointer (type_of d) = and_right (is_null e) _ k_is in
    subst (λ u. Meets u d e) (some_is (type_of d) t is) (record {
      pointer = pointer;
      left = may_same (type_of d) d refl;
      right = may_null (type_of d) e (and_left (is_null e) (is_pointer (type_of d)) k_is);
      one_pointer = inl pointer;
    })
meets_by t d e false false true m j_is k_is l_is m_is is =
    let pointer : IsPointer (type_of e) = and_right (is_null d) _ l_is in
    subst (λ u. Meets u d e) (some_is (type_of e) t is) (record {
      pointer = pointer;
      left = may_null (type_of e) d (and_left (is_null d) (is_pointer (type_of e)) l_is);
      right = may_same (type_of e) e refl;
      one_pointer = inr pointer;
    })
meets_by t d e false false false true j_is k_is l_is m_is is =
    let pointers : is_pointer (type_of d) && is_pointer (type_of e) ≡ true = and_left _ (is_void_pointer (type_of d) || is_void_pointer (type_of e)) m_is in
    subst (λ u. Meets u d e) (some_is (CType.Pointer CType.Void) t is) (record {
      pointer = refl;
      left = may_void (CType.Pointer CType.Void) d (and_left _ _ pointers) (or_right (is_void_pointer (type_of d)) true refl);
      right = may_void (CType.Pointer CType.Void) e (and_right (is_pointer (type_of d)) _ pointers) (or_right (is_void_pointer (type_of e)) true refl);
      one_pointer = inl (and_left (is_pointer (type_of d)) (is_pointer (type_of e)) pointers);
    })
meets_by t d e false false false false j_is k_is l_is m_is is = absurd cc

meets : (t : CType) (d e : CExpr) → meeting_type d e ≡ Some t → Meets t d e
meets t d e is = meets_by t d e _ _ _ _ refl refl refl refl is

-- two pointers converted to where they meet
pub record HaveMet (t : CType) (x y d e : CExpr) : Type 0 where
  pub left : Becomes x (as_pointer t d)
  pub right : Becomes y (as_pointer t e)
  pub meeting : AreMeeting (as_pointer t d) (as_pointer t e) t

pub met : (t : CType) (x y d e : CExpr) → IsValue x d → IsValue y e → meeting_type d e ≡ Some t → HaveMet t x y d e
met t x y d e left right is =
    let m = meets t d e is in
    let a = pointer_own t d left.self in
    let b = pointer_own t e right.self in
    record {
      left = pointer_becomes t x d left m.pointer m.left;
      right = pointer_becomes t y e right m.pointer m.right;
      meeting = record {
        meeting = ap (λ z. meeting_type z (unconverted (as_pointer t e))) a ∙ ap (λ z. meeting_type d z) b ∙ is;
        left = pointer_type t d;
        right = pointer_type t e;
      };
    }

pub record AreMeetingOf (d e a b : CExpr) (t : CType) : Type 0 where
  pub meeting : meeting_type d e ≡ Some t
  pub no_numbers : both_numbers d e ≡ false
  pub no_voids : is_void (type_of d) && is_void (type_of e) ≡ false
  pub left : a ≡ as_pointer t d
  pub right : b ≡ as_pointer t e
  pub pointer : IsPointer t

pub meeting_is : (x y a b : CExpr) (t : CType) → IsRead x → IsRead y → Becomes x a → Becomes y b → AreMeeting a b t → AreMeetingOf (decayed x) (decayed y) a b t
meeting_is x y a b t x_read y_read left right are =
    let to = (meets t (unconverted a) (unconverted b) are.meeting).pointer in
    let p = pointer_is x a x_read left (rw are.left to) in
    let q = pointer_is y b y_read right (rw are.right to) in
    let meeting : meeting_type (decayed x) (decayed y) ≡ Some t = ap (λ z. meeting_type z (decayed y)) (sym p.own) ∙ ap (λ z. meeting_type (unconverted a) z) (sym q.own) ∙ are.meeting in
    record {
      meeting = meeting;
      no_numbers = no_numbers_in (decayed x) (decayed y) (meets t (decayed x) (decayed y) meeting).one_pointer;
      no_voids = no_voids_in (decayed x) (decayed y) (meets t (decayed x) (decayed y) meeting).one_pointer;
      left = p.is ∙ ap (λ u. as_pointer u (decayed x)) are.left;
      right = q.is ∙ ap (λ u. as_pointer u (decayed y)) are.right;
      pointer = to;
    }

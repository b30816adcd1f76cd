-- What the operators of typed operands give.
use Rattle.std.proofs.Common.{◌≡◌, ℕ, ◌*◌, Bool, true, false, List, [], ◌∷◌, Option, Some, None, refl, sym, ap, ◌∙◌, subst}
use Rattle.std.specs.Prelude.{◌==◌, ◌&&◌, ◌||◌, nat_lt, if◌then◌else◌, pos}
use Rattle.std.proofs.lemmas.Bool.{true≢false}
use Rattle.bb_words.specs.Answers.{Goes, Ends}
use Rattle.bb_words.specs.declared.steps.OrderOp.TheVariants as order
use Rattle.size_table.specs.declared.memory_map.TheConstants.{MOST_BYTES}
use Rattle.c_words.specs.declared.operators.StepOperator.{StepOperator}
use Rattle.c_words.specs.declared.operators.BinaryOperator.{BinaryOperator}
use Rattle.c_words.specs.declared.operators.BinaryOperator.TheVariants as op
use Rattle.typed_tree.specs.declared.typed_expr.LibCall.{LibCall}
use Rattle.typed_tree.specs.declared.typed_expr.LibCall.TheVariants as lib
use Rattle.typed_tree.specs.Types.{CType, same, is_number, is_pointer, is_void_pointer, is_unsigned, IsNumber, IsPointer, IsScalar, common, promoted}
use Rattle.typed_tree.specs.TypedTree.{CExpr, CStruct, type_of}
use Rattle.typed_tree.specs.TypedOperands.{IsPromoted, own_type, unconverted, meeting_type, is_null}
use Rattle.typed_tree.specs.TypedRules.{IsPointerToComplete, AreCommon, CanStep, IsBinary, prototype_in_library}
use Rattle.typed_tree.specs.TypedRules.AreAdded.{numbers as added_numbers, pointer_and_number as added_pointer, number_and_pointer as added_number}
use Rattle.typed_tree.specs.TypedRules.AreSubtracted.{numbers as taken_numbers, pointer_and_number as taken_number, pointers as taken_pointers}
use Rattle.typed_tree.specs.TypedRules.AreOrdered.{numbers as ordered_numbers, pointers as ordered_pointers}
use Rattle.typed_tree.specs.TypedRules.AreEquated.{numbers as equated_numbers, pointers as equated_pointers}
use Rattle.typed_tree.specs.TypedRules.CanStep.{number as steps_number, pointer as steps_pointer}
use Rattle.source_meaning.specs.declared.values.Pointer.{Pointer}
use Rattle.source_meaning.specs.declared.values.Pointer.TheVariants.{Null, To}
use Rattle.source_meaning.specs.declared.values.Value.{Value}
use Rattle.source_meaning.specs.declared.values.Value.TheVariants.{Num, Ptr}
use Rattle.source_meaning.specs.declared.values.OutsideCause.TheVariants.{Kind}
use Rattle.source_meaning.specs.declared.values.Ending.TheVariants.{Outside}
use Rattle.source_meaning.specs.Objects.{Object, same_int}
use Rattle.source_meaning.specs.Worlds.{World, Does, object_at, is_heap, heap_blocks}
use Rattle.source_meaning.specs.Moves.{distance}
use Rattle.source_meaning.specs.Accounts.{allocated_at, allocate, freed_in, free, get_from, get, library}
use Rattle.size_table.specs.Pads.{exponent_of}
use Rattle.buddy_heap.specs.Places.{place_of}
use Rattle.source_meaning.specs.Operators.{move_by, cast, on_two_numbers, unlike, on_binary, step, is_down}
use Rattle.meaning_kinds.specs.Kinds.{IsNum, IsPtr, HasKind, HaveKinds}
use Rattle.meaning_kinds.proofs.ValueKinds.{as_number, as_pointer, as_other, number_no_pointer, not_there, Gives, gives_value, gives_end, gives_then, gives_weaker, gives_first, gives_second}
use Rattle.meaning_kinds.proofs.Acts.{gives_branch, with_number_gives, with_pointer_gives, move_gives, same_gives, ordered_gives, elements_give, calculated_gives, copy_gives, fill_gives}
use Rattle.meaning_kinds.proofs.Places.{same_thing}

-- ---- Types

pub number_scalar : (t : CType) → IsNumber t → IsScalar t
number_scalar t h = ap (λ b. b || is_pointer t) h

pub pointer_scalar : (t : CType) → IsPointer t → IsScalar t
pointer_scalar (CType.Pointer t) h = refl
pointer_scalar CType.Char h = refl
pointer_scalar CType.Int h = refl
pointer_scalar CType.Unsigned h = refl
pointer_scalar CType.Void h = absurd (true≢false (sym h))
pointer_scalar (CType.Struct k) h = absurd (true≢false (sym h))
pointer_scalar (CType.Array t n) h = absurd (true≢false (sym h))

pub common_number : (t u : CType) → IsNumber (common t u)
common_number t u = of (is_unsigned t || is_unsigned u)
  where
    of : (b : Bool) → IsNumber (if b then CType.Unsigned else CType.Int)
    of true = refl
    of false = refl

pub promoted_number : (t : CType) → IsNumber t → IsNumber (promoted t)
promoted_number CType.Char h = refl
promoted_number CType.Int h = refl
promoted_number CType.Unsigned h = refl
promoted_number CType.Void h = h
promoted_number (CType.Struct k) h = h
promoted_number (CType.Pointer t) h = h
promoted_number (CType.Array t n) h = h

pub number_by : {t u : CType} → t ≡ u → IsNumber u → IsNumber t
number_by e h = ap is_number e ∙ h

pub pointer_by : {t u : CType} → t ≡ u → IsPointer u → IsPointer t
pointer_by e h = ap is_pointer e ∙ h

pub kind_by : {t u : CType} (v : Value) → t ≡ u → HasKind u v → HasKind t v
kind_by v e h = subst (λ z. HasKind z v) (sym e) h

pub gives_by : {t u : CType} {r : Does Value} → t ≡ u → Gives (HasKind u) r → Gives (HasKind t) r
gives_by e h = gives_weaker (λ v k. kind_by v e k) h

pub is_promoted_number : (e : CExpr) → IsPromoted e → IsNumber (type_of e)
is_promoted_number e h = number_by h.1 (promoted_number (own_type e) h.0)

pub complete_pointer : (structs : List CStruct) (t : CType) → IsPointerToComplete structs t → IsPointer t
complete_pointer structs (CType.Pointer t) h = refl
complete_pointer structs CType.Void h = absurd h
complete_pointer structs CType.Char h = absurd h
complete_pointer structs CType.Int h = absurd h
complete_pointer structs CType.Unsigned h = absurd h
complete_pointer structs (CType.Struct k) h = absurd h
complete_pointer structs (CType.Array t n) h = absurd h

-- where two pointers meet there is a pointer
pub meeting_pointer : (a b : CExpr) (t : CType) → meeting_type a b ≡ Some t → IsPointer t
meeting_pointer a b t e = one (is_pointer (type_of a)) (same (type_of a) (type_of b)) (is_null b) (is_null a) (is_pointer (type_of b)) (is_void_pointer (type_of a) || is_void_pointer (type_of b)) refl refl e
  where
    found : {u : CType} → is_pointer u ≡ true → Some u ≡ Some t → IsPointer t
    found h e = ap is_pointer (sym (same_thing e)) ∙ h

    one : (pa s nb na pb v : Bool) → is_pointer (type_of a) ≡ pa → is_pointer (type_of b) ≡ pb → (if pa && s then Some (type_of a) else if nb && pa then Some (type_of a) else if na && pb then Some (type_of b) else if pa && pb && v then Some (CType.Pointer CType.Void) else None) ≡ Some t → IsPointer t
    one true true nb na pb v ea eb e = found ea e
    one true false true na pb v ea eb e = found ea e
    one true false false true true v ea eb e = found eb e
    one true false false true false v ea eb e = absurd (not_there e)
    one true false false false true true ea eb e = found {u = CType.Pointer CType.Void} refl e
    one true false false false true false ea eb e = absurd (not_there e)
    one true false false false false v ea eb e = absurd (not_there e)
    one false s true true true v ea eb e = found eb e
    one false s true true false v ea eb e = absurd (not_there e)
    one false s true false pb v ea eb e = absurd (not_there e)
    one false s false true true v ea eb e = found eb e
    one false s false true false v ea eb e = absurd (not_there e)
    one false s false false pb v ea eb e = absurd (not_there e)

-- ---- Moves and casts

pub moved_gives : (g site line : ℕ) (down : Bool) (size : ℕ) (v x : Value) (w : World) → IsPtr v → IsNum x → Gives IsPtr (move_by g site line down size v x w)
moved_gives g site line down size v x w i j =
    with_pointer_gives v _ w i (λ q. with_number_gives x _ w j (λ n. gives_then (move_gives g site line (distance down size n) q w) (λ r u h. gives_value _ _ tt)))

-- a value of a scalar type stays one
pub cast_same : (t : CType) (v : Value) (w : World) → IsScalar t → HasKind t v → Gives (HasKind t) (cast t v w)
cast_same CType.Char (Num n) w is h = gives_value _ _ (as_number CType.Char _ refl tt)
cast_same CType.Int (Num n) w is h = gives_value _ _ h
cast_same CType.Unsigned (Num n) w is h = gives_value _ _ h
cast_same (CType.Pointer t) (Num n) w is h = absurd (h.pointer refl)
cast_same CType.Char (Ptr q) w is h = absurd (h.number refl)
cast_same CType.Int (Ptr q) w is h = absurd (h.number refl)
cast_same CType.Unsigned (Ptr q) w is h = absurd (h.number refl)
cast_same (CType.Pointer t) (Ptr q) w is h = gives_value _ _ h
cast_same CType.Void (Num n) w is h = absurd (true≢false (sym is))
cast_same (CType.Struct k) (Num n) w is h = absurd (true≢false (sym is))
cast_same (CType.Array t m) (Num n) w is h = absurd (true≢false (sym is))
cast_same CType.Void (Ptr q) w is h = absurd (true≢false (sym is))
cast_same (CType.Struct k) (Ptr q) w is h = absurd (true≢false (sym is))
cast_same (CType.Array t m) (Ptr q) w is h = absurd (true≢false (sym is))

pub cast_to_number : (t : CType) (v : Value) (w : World) → IsNumber t → IsNum v → Gives (HasKind t) (cast t v w)
cast_to_number t v w is h = cast_same t v w (number_scalar t is) (as_number t v is h)

pub cast_to_pointer : (t : CType) (v : Value) (w : World) → IsPointer t → IsPtr v → Gives (HasKind t) (cast t v w)
cast_to_pointer t v w is h = cast_same t v w (pointer_scalar t is) (as_pointer t v is h)

cast_void_gives : (v : Value) (w : World) → Gives (HasKind CType.Void) (cast CType.Void v w)
cast_void_gives (Num n) w = gives_value _ _ (as_other CType.Void _ refl refl)
cast_void_gives (Ptr q) w = gives_value _ _ (as_other CType.Void _ refl refl)

pub cast_to_void : (t : CType) (v : Value) (w : World) → t ≡ CType.Void → Gives (HasKind t) (cast t v w)
cast_to_void t v w e = subst (λ u. Gives (HasKind u) (cast u v w)) (sym e) (cast_void_gives v w)

-- the number 0, or a pointer
abbrev pub IsNullValue : Value → Type 0
IsNullValue (Num n) = (n == 0) ≡ true
IsNullValue (Ptr q) = Unit {0}

pub cast_null : (t : CType) (v : Value) (w : World) → IsPointer t → IsNullValue v → Gives (HasKind t) (cast t v w)
cast_null (CType.Pointer t) (Num n) w is h = of (n == 0) h
  where
    of : (b : Bool) → b ≡ true → Gives (HasKind (CType.Pointer t)) (if b then Goes (Ptr Null) w else Ends (Outside Kind) w)
    of true e = gives_value _ _ (as_pointer (CType.Pointer t) _ refl tt)
    of false e = absurd (true≢false (sym e))
cast_null (CType.Pointer t) (Ptr q) w is h = gives_value _ _ (as_pointer (CType.Pointer t) _ refl tt)
cast_null CType.Char v w is h = absurd (true≢false (sym is))
cast_null CType.Int v w is h = absurd (true≢false (sym is))
cast_null CType.Unsigned v w is h = absurd (true≢false (sym is))
cast_null CType.Void v w is h = absurd (true≢false (sym is))
cast_null (CType.Struct k) v w is h = absurd (true≢false (sym is))
cast_null (CType.Array t m) v w is h = absurd (true≢false (sym is))

-- ---- Operators of two operands

two_numbers_give : (o : BinaryOperator) (u : Bool) (line : ℕ) (v x : Value) (w : World) → IsNum v → IsNum x → Gives IsNum (on_two_numbers o u line v x w)
two_numbers_give o u line v x w i j = with_number_gives v _ w i (λ a. with_number_gives x _ w j (λ b. calculated_gives o u line a b w))

unlike_gives : (v x : Value) (w : World) → IsPtr v → IsPtr x → Gives IsNum (unlike v x w)
unlike_gives v x w i j = gives_then (same_gives v x w i j) (λ r u h. with_number_gives r _ u h (λ n. gives_value _ _ tt))

-- between numbers every operator gives a number
pub numbers_give : (structs : List CStruct) (g site : ℕ) (o : BinaryOperator) (s : Bool) (line : ℕ) (t u : CType) (v x : Value) (w : World) → is_pointer t ≡ false → is_pointer u ≡ false → IsNum v → IsNum x → Gives IsNum (on_binary structs g site o s line t u v x w)
numbers_give structs g site op.Add s line t u v x w nt nu i j =
    gives_second (is_pointer t) _ _ w nt (gives_second (is_pointer u) _ _ w nu (two_numbers_give op.Add s line v x w i j))
numbers_give structs g site op.Subtract s line t u v x w nt nu i j = gives_second (is_pointer t) _ _ w nt (two_numbers_give op.Subtract s line v x w i j)
numbers_give structs g site op.Less s line t u v x w nt nu i j = gives_second (is_pointer t) _ _ w nt (two_numbers_give op.Less s line v x w i j)
numbers_give structs g site op.Greater s line t u v x w nt nu i j = gives_second (is_pointer t) _ _ w nt (two_numbers_give op.Greater s line v x w i j)
numbers_give structs g site op.LessEqual s line t u v x w nt nu i j = gives_second (is_pointer t) _ _ w nt (two_numbers_give op.LessEqual s line v x w i j)
numbers_give structs g site op.GreaterEqual s line t u v x w nt nu i j = gives_second (is_pointer t) _ _ w nt (two_numbers_give op.GreaterEqual s line v x w i j)
numbers_give structs g site op.Equal s line t u v x w nt nu i j = gives_second (is_pointer t) _ _ w nt (two_numbers_give op.Equal s line v x w i j)
numbers_give structs g site op.NotEqual s line t u v x w nt nu i j = gives_second (is_pointer t) _ _ w nt (two_numbers_give op.NotEqual s line v x w i j)
numbers_give structs g site o s line t u v x w nt nu i j = two_numbers_give o s line v x w i j

-- a pointer and a number added, or taken from it
pub added_gives : (structs : List CStruct) (g site : ℕ) (s : Bool) (line : ℕ) (t u : CType) (v x : Value) (w : World) → is_pointer t ≡ true → IsPtr v → IsNum x → Gives IsPtr (on_binary structs g site op.Add s line t u v x w)
added_gives structs g site s line t u v x w pt i j = gives_first (is_pointer t) _ _ w pt (moved_gives g site line false _ v x w i j)

pub taken_gives : (structs : List CStruct) (g site : ℕ) (s : Bool) (line : ℕ) (t u : CType) (v x : Value) (w : World) → is_pointer t ≡ true → is_pointer u ≡ false → IsPtr v → IsNum x → Gives IsPtr (on_binary structs g site op.Subtract s line t u v x w)
taken_gives structs g site s line t u v x w pt nu i j =
    gives_first (is_pointer t) _ _ w pt (gives_second (is_pointer u) _ _ w nu (moved_gives g site line true _ v x w i j))

-- the operators that evaluate both operands
abbrev pub IsEager : BinaryOperator → Type 0
IsEager op.LogicalAnd = ⊥
IsEager op.LogicalOr = ⊥
IsEager o = Unit {0}

module _ (structs : List CStruct) (g site : ℕ) (s : Bool) (line : ℕ) (a b : CExpr) (t : CType) (v x : Value) (w : World) (hv : HasKind (type_of a) v) (hx : HasKind (type_of b) x) where
  common_gives : (o : BinaryOperator) (u : CType) → AreCommon a b u → Gives IsNum (on_binary structs g site o s line (type_of a) (type_of b) v x w)
  common_gives o u is =
      let n = number_by is.is_common (common_number (own_type a) (own_type b)) in
      let na = number_by is.left n in
      let nb = number_by is.right n in
      numbers_give structs g site o s line (type_of a) (type_of b) v x w (number_no_pointer (type_of a) na) (number_no_pointer (type_of b) nb) (hv.number na) (hx.number nb)

  arithmetic_gives : (o : BinaryOperator) → AreCommon a b t → Gives (HasKind t) (on_binary structs g site o s line (type_of a) (type_of b) v x w)
  arithmetic_gives o is = gives_weaker (λ y h. as_number t y (number_by is.is_common (common_number (own_type a) (own_type b))) h) (common_gives o t is)

  shifted_gives : (o : BinaryOperator) → IsPromoted a → IsPromoted b → t ≡ type_of a → Gives (HasKind t) (on_binary structs g site o s line (type_of a) (type_of b) v x w)
  shifted_gives o ia ib e =
      let na = is_promoted_number a ia in
      let nb = is_promoted_number b ib in
      gives_weaker (λ y h. as_number t y (number_by e na) h)
      (numbers_give structs g site o s line (type_of a) (type_of b) v x w (number_no_pointer (type_of a) na) (number_no_pointer (type_of b) nb) (hv.number na) (hx.number nb))

  as_int : (y : Value) → t ≡ CType.Int → IsNum y → HasKind t y
  as_int y e h = as_number t y (ap is_number e) h

  pub binary_kind : (o : BinaryOperator) → IsEager o → IsBinary structs o a b t → Gives (HasKind t) (on_binary structs g site o s line (type_of a) (type_of b) v x w)
  binary_kind op.Multiply eager is = arithmetic_gives op.Multiply is
  binary_kind op.Divide eager is = arithmetic_gives op.Divide is
  binary_kind op.Remainder eager is = arithmetic_gives op.Remainder is
  binary_kind op.BitAnd eager is = arithmetic_gives op.BitAnd is
  binary_kind op.BitXor eager is = arithmetic_gives op.BitXor is
  binary_kind op.BitOr eager is = arithmetic_gives op.BitOr is
  binary_kind op.ShiftLeft eager is = shifted_gives op.ShiftLeft is.left is.right is.result
  binary_kind op.ShiftRight eager is = shifted_gives op.ShiftRight is.left is.right is.result
  binary_kind op.Add eager (added_numbers is) = arithmetic_gives op.Add is
  binary_kind op.Add eager (added_pointer is) =
      let pa = complete_pointer structs (type_of a) is.complete in
      gives_weaker (λ y h. as_pointer t y (pointer_by is.result pa) h)
      (added_gives structs g site s line (type_of a) (type_of b) v x w pa (hv.pointer pa) (hx.number (is_promoted_number b is.distance)))
  binary_kind op.Add eager (added_number is) =
      let pb = complete_pointer structs (type_of b) is.complete in
      let na = is_promoted_number a is.distance in
      gives_weaker (λ y h. as_pointer t y (pointer_by is.result pb) h)
      (gives_second (is_pointer (type_of a)) _ _ w (number_no_pointer (type_of a) na)
      (gives_first (is_pointer (type_of b)) _ _ w pb (moved_gives g site line false _ x v w (hx.pointer pb) (hv.number na))))
  binary_kind op.Subtract eager (taken_numbers is) = arithmetic_gives op.Subtract is
  binary_kind op.Subtract eager (taken_number is) =
      let pa = complete_pointer structs (type_of a) is.complete in
      let nb = is_promoted_number b is.distance in
      gives_weaker (λ y h. as_pointer t y (pointer_by is.result pa) h)
      (taken_gives structs g site s line (type_of a) (type_of b) v x w pa (number_no_pointer (type_of b) nb) (hv.pointer pa) (hx.number nb))
  binary_kind op.Subtract eager (taken_pointers is) =
      let pa = complete_pointer structs (type_of a) is.complete in
      let pb = pointer_by (sym is.one_type) pa in
      gives_weaker (λ y h. as_int y is.result h)
      (gives_first (is_pointer (type_of a)) _ _ w pa (gives_first (is_pointer (type_of b)) _ _ w pb (elements_give _ v x w (hv.pointer pa) (hx.pointer pb))))
  binary_kind op.Less eager (ordered_numbers u is, e) = gives_weaker (λ y h. as_int y e h) (common_gives op.Less u is)
  binary_kind op.Greater eager (ordered_numbers u is, e) = gives_weaker (λ y h. as_int y e h) (common_gives op.Greater u is)
  binary_kind op.LessEqual eager (ordered_numbers u is, e) = gives_weaker (λ y h. as_int y e h) (common_gives op.LessEqual u is)
  binary_kind op.GreaterEqual eager (ordered_numbers u is, e) = gives_weaker (λ y h. as_int y e h) (common_gives op.GreaterEqual u is)
  binary_kind op.Less eager (ordered_pointers ia ib pa one, e) =
      gives_weaker (λ y h. as_int y e h) (gives_first (is_pointer (type_of a)) _ _ w pa (ordered_gives order.Below v x w (hv.pointer pa) (hx.pointer (pointer_by (sym one) pa))))
  binary_kind op.Greater eager (ordered_pointers ia ib pa one, e) =
      gives_weaker (λ y h. as_int y e h) (gives_first (is_pointer (type_of a)) _ _ w pa (ordered_gives order.Above v x w (hv.pointer pa) (hx.pointer (pointer_by (sym one) pa))))
  binary_kind op.LessEqual eager (ordered_pointers ia ib pa one, e) =
      gives_weaker (λ y h. as_int y e h) (gives_first (is_pointer (type_of a)) _ _ w pa (ordered_gives order.AtMost v x w (hv.pointer pa) (hx.pointer (pointer_by (sym one) pa))))
  binary_kind op.GreaterEqual eager (ordered_pointers ia ib pa one, e) =
      gives_weaker (λ y h. as_int y e h) (gives_first (is_pointer (type_of a)) _ _ w pa (ordered_gives order.AtLeast v x w (hv.pointer pa) (hx.pointer (pointer_by (sym one) pa))))
  binary_kind op.Equal eager (equated_numbers u is, e) = gives_weaker (λ y h. as_int y e h) (common_gives op.Equal u is)
  binary_kind op.NotEqual eager (equated_numbers u is, e) = gives_weaker (λ y h. as_int y e h) (common_gives op.NotEqual u is)
  binary_kind op.Equal eager (equated_pointers u is, e) =
      let p = meeting_pointer (unconverted a) (unconverted b) u is.meeting in
      let pa = pointer_by is.left p in
      gives_weaker (λ y h. as_int y e h) (gives_first (is_pointer (type_of a)) _ _ w pa (same_gives v x w (hv.pointer pa) (hx.pointer (pointer_by is.right p))))
  binary_kind op.NotEqual eager (equated_pointers u is, e) =
      let p = meeting_pointer (unconverted a) (unconverted b) u is.meeting in
      let pa = pointer_by is.left p in
      gives_weaker (λ y h. as_int y e h) (gives_first (is_pointer (type_of a)) _ _ w pa (unlike_gives v x w (hv.pointer pa) (hx.pointer (pointer_by is.right p))))
  binary_kind op.LogicalAnd eager is = absurd eager
  binary_kind op.LogicalOr eager is = absurd eager

-- ---- Steps

pub step_kind : (structs : List CStruct) (g site line : ℕ) (o : StepOperator) (t : CType) (v : Value) (w : World) → CanStep structs t → HasKind t v → Gives (HasKind t) (step structs g site line o t v w)
step_kind structs g site line o t v w (steps_number n) h =
    gives_weaker (λ y i. as_number t y n i) (gives_second (is_pointer t) _ _ w (number_no_pointer t n) (with_number_gives v _ w (h.number n) (λ k. gives_value {P = IsNum} _ _ tt)))
step_kind structs g site line o t v w (steps_pointer c) h =
    let p = complete_pointer structs t c in
    gives_weaker (λ y i. as_pointer t y p i) (gives_first (is_pointer t) _ _ w p (moved_gives g site line (is_down o) _ v (Num 1) w (h.pointer p) tt))

-- ---- The library

allocate_gives : (g n : ℕ) (w : World) → Gives IsPtr (allocate g n w)
allocate_gives g n w = gives_branch (nat_lt MOST_BYTES n) (gives_value _ _ tt) (found (place_of (heap_blocks w.objects) (exponent_of g n)))
  where
    found : (x : Option ℕ) → Gives IsPtr (allocated_at g n x w)
    found None = gives_value _ _ tt
    found (Some base) = gives_value _ _ tt

free_gives : (line : ℕ) (q : Pointer) (w : World) → Gives IsNum (free line q w)
free_gives line Null w = gives_value _ _ tt
free_gives line (To k z) w = found (object_at w k)
  where
    found : (x : Option Object) → Gives IsNum (freed_in line k z x w)
    found None = gives_end _ _ tt
    found (Some o) = gives_branch o.live (gives_branch (is_heap o.kind && same_int z (pos 0)) (gives_value _ _ tt) (gives_end _ _ tt)) (gives_end _ _ tt)

get_gives : (w : World) → Gives IsNum (get w)
get_gives w = from w.rest
  where
    from : (xs : List ℕ) → Gives IsNum (get_from xs w)
    from [] = gives_value _ _ tt
    from (x ∷ xs) = gives_value _ _ tt

pub library_kind : (g : ℕ) (f : LibCall) (a b line : ℕ) (vs : List Value) (w : World) → HaveKinds (prototype_in_library f).params vs → Gives (HasKind (prototype_in_library f).result) (library g f a b line vs w)
library_kind g lib.Putchar a b line (v ∷ []) w is = with_number_gives v _ w (is.0.number refl) (λ n. gives_value _ _ (as_number CType.Int _ refl tt))
library_kind g lib.Getchar a b line [] w is = gives_weaker (λ y h. as_number CType.Int y refl h) (get_gives w)
library_kind g lib.Exit a b line (v ∷ []) w is = with_number_gives v _ w (is.0.number refl) (λ n. gives_end _ _ tt)
library_kind g lib.Malloc a b line (v ∷ []) w is =
    with_number_gives v _ w (is.0.number refl) (λ n. gives_weaker (λ y h. as_pointer (CType.Pointer CType.Void) y refl h) (allocate_gives g n w))
library_kind g lib.Calloc a b line (v ∷ x ∷ []) w is =
    with_number_gives v _ w (is.0.number refl) (λ n. with_number_gives x _ w (is.1.0.number refl) (λ m. gives_weaker (λ y h. as_pointer (CType.Pointer CType.Void) y refl h) (allocate_gives g (n * m) w)))
library_kind g lib.Free a b line (v ∷ []) w is = with_pointer_gives v _ w (is.0.pointer refl) (λ q. gives_weaker (λ y h. as_other CType.Void y refl refl) (free_gives line q w))
library_kind g lib.Memcpy a b line (v ∷ x ∷ y ∷ []) w is =
    with_pointer_gives v _ w (is.0.pointer refl) (λ q. with_pointer_gives x _ w (is.1.0.pointer refl) (λ r. with_number_gives y _ w (is.1.1.0.number refl) (λ n.
    gives_then (copy_gives g a b line n q r w) (λ done u h. gives_value _ _ (as_pointer (CType.Pointer CType.Void) _ refl tt)))))
library_kind g lib.Memset a b line (v ∷ x ∷ y ∷ []) w is =
    with_pointer_gives v _ w (is.0.pointer refl) (λ q. with_number_gives x _ w (is.1.0.number refl) (λ byte. with_number_gives y _ w (is.1.1.0.number refl) (λ n.
    gives_then (fill_gives g a line n byte q w) (λ done u h. gives_value _ _ (as_pointer (CType.Pointer CType.Void) _ refl tt)))))
library_kind g lib.Putchar a b line [] w is = absurd is
library_kind g lib.Putchar a b line (v ∷ x ∷ vs) w is = absurd is.1
library_kind g lib.Getchar a b line (v ∷ vs) w is = absurd is
library_kind g lib.Exit a b line [] w is = absurd is
library_kind g lib.Exit a b line (v ∷ x ∷ vs) w is = absurd is.1
library_kind g lib.Malloc a b line [] w is = absurd is
library_kind g lib.Malloc a b line (v ∷ x ∷ vs) w is = absurd is.1
library_kind g lib.Calloc a b line [] w is = absurd is
library_kind g lib.Calloc a b line (v ∷ []) w is = absurd is.1
library_kind g lib.Calloc a b line (v ∷ x ∷ y ∷ vs) w is = absurd is.1.1
library_kind g lib.Free a b line [] w is = absurd is
library_kind g lib.Free a b line (v ∷ x ∷ vs) w is = absurd is.1
library_kind g lib.Memcpy a b line [] w is = absurd is
library_kind g lib.Memcpy a b line (v ∷ []) w is = absurd is.1
library_kind g lib.Memcpy a b line (v ∷ x ∷ []) w is = absurd is.1.1
library_kind g lib.Memcpy a b line (v ∷ x ∷ y ∷ z ∷ vs) w is = absurd is.1.1.1
library_kind g lib.Memset a b line [] w is = absurd is
library_kind g lib.Memset a b line (v ∷ []) w is = absurd is.1
library_kind g lib.Memset a b line (v ∷ x ∷ []) w is = absurd is.1.1
library_kind g lib.Memset a b line (v ∷ x ∷ y ∷ z ∷ vs) w is = absurd is.1.1.1

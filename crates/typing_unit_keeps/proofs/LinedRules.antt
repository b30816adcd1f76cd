-- What the rules of the operators give stands on lines of the text, if their operands and their place do.
use Rattle.std.proofs.Common.{◌≡◌, ℕ, Bool, true, false, not, ◌&&◌, List, [], ◌∷◌, refl}
use Rattle.std.specs.Prelude.{Option, Some, None, Ok, Err, IfOk, if◌then◌else◌}
use Rattle.std.proofs.lemmas.Bool.{and_parts}
use Rattle.c_words.specs.declared.place.At.{At}
use Rattle.c_words.specs.declared.operators.UnaryOperator.{UnaryOperator}
use Rattle.c_words.specs.declared.operators.UnaryOperator.TheVariants as unary
use Rattle.c_words.specs.declared.operators.BinaryOperator.{BinaryOperator}
use Rattle.c_words.specs.declared.operators.BinaryOperator.TheVariants as binary
use Rattle.c_words.specs.declared.operators.AssignOperator.{AssignOperator}
use Rattle.c_words.specs.declared.operators.AssignOperator.TheVariants as assign
use Rattle.c_words.specs.declared.operators.StepOperator.{StepOperator}
use Rattle.typed_tree.specs.declared.typed_expr.Called.{Called}
use Rattle.typed_tree.specs.declared.typed_expr.Conversion.{Conversion}
use Rattle.typed_tree.specs.declared.typed_expr.Conversion.TheVariants.{ArrayToPointer, NumberToNumber, NullToPointer, PointerToPointer}
use Rattle.typed_tree.specs.Types.{CType, same, is_number, is_pointer, is_struct, common}
use Rattle.typed_tree.specs.TypedTree.{CExpr, CExprs, CStruct, at_of, type_of}
use Rattle.typed_tree.specs.Walk.{all_of, every_expr, walked_all}
use Rattle.typed_tree.specs.Typed.{stands_on_line}
use Rattle.typed_tree.specs.TypedOperands.{meeting_type, is_null, is_place}
use Rattle.typing_operators.specs.declared.error.TypeError.{TypeError}
use Rattle.typing_operators.specs.declared.error.TypeError.TheVariants.{BadType}
use Rattle.typing_operators.specs.Rule.{Rule, ◌>>=◌, refuse}
use Rattle.typing_operators.specs.Conversions.{converted, decayed_from, decayed, as_number, as_promoted, as_pointer, may_point, given, points_to_complete, is_void}
use Rattle.typing_operators.specs.Operators.{both_numbers, is_move, on_numbers, product, shifted, added, subtracted, ordered, equated_at, equated, logical, binary_of, binary_rule, referred, followed_to, followed, signed, tested, unary_rule, steps, step_before_rule, step_after_rule, alternatives_at, alternatives, conditional_rule, comma_rule, cast_rule, indexed_at, index_rule, member_in, member_at_place, member_rule, arrow_at, arrow_to, arrow_rule, measured_rule, measured_type, copied_from, set_to, reckoned, shifted_in, changed, assigned_by, assign_rule, passed, call_rule}

-- ---- what rules give

-- whatever the rule gives has the property
pub record Yields {A : Type 0} (P : A → Type 0) (r : Rule A) : Type 0 where
  pub each : IfOk r P

pub gives : {A : Type 0} (P : A → Type 0) (x : A) → P x → Yields P (Ok x)
gives P x h = record { each = h }

pub fails : {A : Type 0} (P : A → Type 0) (e : TypeError) → Yields P (Err e)
fails P e = record { each = tt }

pub unless : {A : Type 0} {P : A → Type 0} (b : Bool) (e : TypeError) (go : Rule A) → Yields P go → Yields P (refuse b e go)
unless true e go h = record { each = tt }
unless false e go h = h

pub either : {A : Type 0} {P : A → Type 0} (b : Bool) (go other : Rule A) → Yields P go → Yields P other → Yields P (if b then go else other)
either true go other h k = h
either false go other h k = k

pub and_then : {A B : Type 0} {P : A → Type 0} {Q : B → Type 0} (r : Rule A) (f : A → Rule B) → Yields P r → ((x : A) → P x → Yields Q (f x)) → Yields Q (r >>= f)
and_then (Ok x) f h k = k x h.each
and_then (Err e) f h k = record { each = tt }

-- what gives only what is of no interest
pub anything : {A : Type 0} (r : Rule A) → Yields (λ x. Unit {0}) r
anything (Ok x) = record { each = tt }
anything (Err e) = record { each = tt }

-- ---- places and trees

abbrev pub OnLine : At → Type 0
OnLine at = stands_on_line at ≡ true

-- the expression and all in it stand on lines
abbrev pub Lined : CExpr → Type 0
Lined e = every_expr (λ x. stands_on_line (at_of x)) e ≡ true

abbrev pub AreLined : CExprs → Type 0
AreLined es = all_of (walked_all (λ e bs. stands_on_line (at_of e) && all_of bs) es) ≡ true

pub both : {a b : Bool} → a ≡ true → b ≡ true → a && b ≡ true
both {a = true} h k = k
both {a = false} h k = absurd cc

pub alone : {at : Bool} → at ≡ true → at && true ≡ true
alone p = both p refl

one : {at a : Bool} → at ≡ true → a ≡ true → at && (a && true) ≡ true
one p h = both p (both h refl)

two : {at a b : Bool} → at ≡ true → a ≡ true → b ≡ true → at && (a && (b && true)) ≡ true
two p h k = both p (both h (both k refl))

three : {at a b c : Bool} → at ≡ true → a ≡ true → b ≡ true → c ≡ true → at && (a && (b && (c && true))) ≡ true
three p h k l = both p (both h (both k (both l refl)))

pub place_of : (e : CExpr) → Lined e → OnLine (at_of e)
place_of (CExpr.expr at t form) h = (and_parts (stands_on_line at) _ h).0

pick : (b : Bool) (x y : CExpr) → Lined x → Lined y → Lined (if b then x else y)
pick true x y h k = h
pick false x y h k = k

-- ---- conversions

converted_lined : (c : Conversion) (t : CType) (e : CExpr) → Lined e → Lined (converted c t e)
converted_lined c t e h = one (place_of e h) h

decayed_from_lined : (t : CType) (e : CExpr) → Lined e → Lined (decayed_from t e)
decayed_from_lined (CType.Array t n) e h = converted_lined ArrayToPointer (CType.Pointer t) e h
decayed_from_lined CType.Void e h = h
decayed_from_lined CType.Char e h = h
decayed_from_lined CType.Int e h = h
decayed_from_lined CType.Unsigned e h = h
decayed_from_lined (CType.Struct k) e h = h
decayed_from_lined (CType.Pointer t) e h = h

pub decayed_lined : (e : CExpr) → Lined e → Lined (decayed e)
unfolding decayed
decayed_lined e h = decayed_from_lined (type_of e) e h

number_lined : (t : CType) (e : CExpr) → Lined e → Lined (as_number t e)
unfolding as_number
number_lined t e h = pick (same (type_of e) t) e (converted NumberToNumber t e) h (converted_lined NumberToNumber t e h)

promoted_lined : (e : CExpr) → Lined e → Lined (as_promoted e)
unfolding as_promoted
promoted_lined e h = number_lined _ e h

pointer_lined : (t : CType) (e : CExpr) → Lined e → Lined (as_pointer t e)
unfolding as_pointer
pointer_lined t e h =
    pick (same (type_of e) t) e _ h
    (pick (is_null e) (converted NullToPointer t e) (converted PointerToPointer t e) (converted_lined NullToPointer t e h) (converted_lined PointerToPointer t e h))

pub given_lined : (line : ℕ) (t : CType) (e : CExpr) → Lined e → Yields Lined (given line t e)
unfolding given
given_lined line t e h =
    either (is_number t && is_number (type_of (decayed e))) _ _ (gives Lined (as_number t (decayed e)) (number_lined t (decayed e) (decayed_lined e h)))
    (either (is_pointer t && may_point t (decayed e)) _ _ (gives Lined (as_pointer t (decayed e)) (pointer_lined t (decayed e) (decayed_lined e h)))
    (fails Lined (BadType line 10)))

-- ---- two operands

numbers_lined : (at : At) (t : CType) (op : BinaryOperator) (x y : CExpr) → OnLine at → Lined x → Lined y → Lined (on_numbers at t op x y)
numbers_lined at t op x y p h k = two p (number_lined _ x h) (number_lined _ y k)

product_lined : (at : At) (op : BinaryOperator) (x y : CExpr) → OnLine at → Lined x → Lined y → Yields Lined (product at op x y)
unfolding product
product_lined at op x y p h k = unless _ _ _ (gives Lined _ (numbers_lined at (common (type_of x) (type_of y)) op x y p h k))

shifted_lined : (at : At) (op : BinaryOperator) (x y : CExpr) → OnLine at → Lined x → Lined y → Yields Lined (shifted at op x y)
unfolding shifted
shifted_lined at op x y p h k = unless _ _ _ (gives Lined _ (two p (promoted_lined x h) (promoted_lined y k)))

added_lined : (structs : List CStruct) (at : At) (x y : CExpr) → OnLine at → Lined x → Lined y → Yields Lined (added structs at x y)
unfolding added
added_lined structs at x y p h k =
    either (both_numbers x y) _ _ (gives Lined _ (numbers_lined at (common (type_of x) (type_of y)) binary.Add x y p h k))
    (either (is_move structs x y) _ _ (gives Lined _ (two p h (promoted_lined y k)))
    (either (is_move structs y x) _ _ (gives Lined _ (two p (promoted_lined x h) k)) (fails Lined _)))

subtracted_lined : (structs : List CStruct) (at : At) (x y : CExpr) → OnLine at → Lined x → Lined y → Yields Lined (subtracted structs at x y)
unfolding subtracted
subtracted_lined structs at x y p h k =
    either (both_numbers x y) _ _ (gives Lined _ (numbers_lined at (common (type_of x) (type_of y)) binary.Subtract x y p h k))
    (either (is_move structs x y) _ _ (gives Lined _ (two p h (promoted_lined y k)))
    (either (points_to_complete structs (type_of x) && same (type_of x) (type_of y)) _ _ (gives Lined _ (two p h k)) (fails Lined _)))

ordered_lined : (at : At) (op : BinaryOperator) (x y : CExpr) → OnLine at → Lined x → Lined y → Yields Lined (ordered at op x y)
unfolding ordered
ordered_lined at op x y p h k =
    either (both_numbers x y) _ _ (gives Lined _ (numbers_lined at CType.Int op x y p h k))
    (either (is_pointer (type_of x) && same (type_of x) (type_of y)) _ _ (gives Lined _ (two p h k)) (fails Lined _))

equated_at_lined : (at : At) (op : BinaryOperator) (x y : CExpr) (o : Option CType) → OnLine at → Lined x → Lined y → Yields Lined (equated_at at op x y o)
equated_at_lined at op x y None p h k = fails Lined _
equated_at_lined at op x y (Some t) p h k = gives Lined _ (two p (pointer_lined t x h) (pointer_lined t y k))

equated_lined : (at : At) (op : BinaryOperator) (x y : CExpr) → OnLine at → Lined x → Lined y → Yields Lined (equated at op x y)
unfolding equated
equated_lined at op x y p h k =
    either (both_numbers x y) _ _ (gives Lined _ (numbers_lined at CType.Int op x y p h k)) (equated_at_lined at op x y (meeting_type x y) p h k)

logical_lined : (at : At) (op : BinaryOperator) (x y : CExpr) → OnLine at → Lined x → Lined y → Yields Lined (logical at op x y)
unfolding logical
logical_lined at op x y p h k = unless _ _ _ (gives Lined _ (two p h k))

binary_of_lined : (structs : List CStruct) (at : At) (op : BinaryOperator) (x y : CExpr) → OnLine at → Lined x → Lined y → Yields Lined (binary_of structs at op x y)
binary_of_lined structs at binary.Multiply x y p h k = product_lined at _ x y p h k
binary_of_lined structs at binary.Divide x y p h k = product_lined at _ x y p h k
binary_of_lined structs at binary.Remainder x y p h k = product_lined at _ x y p h k
binary_of_lined structs at binary.Add x y p h k = added_lined structs at x y p h k
binary_of_lined structs at binary.Subtract x y p h k = subtracted_lined structs at x y p h k
binary_of_lined structs at binary.ShiftLeft x y p h k = shifted_lined at _ x y p h k
binary_of_lined structs at binary.ShiftRight x y p h k = shifted_lined at _ x y p h k
binary_of_lined structs at binary.Less x y p h k = ordered_lined at _ x y p h k
binary_of_lined structs at binary.Greater x y p h k = ordered_lined at _ x y p h k
binary_of_lined structs at binary.LessEqual x y p h k = ordered_lined at _ x y p h k
binary_of_lined structs at binary.GreaterEqual x y p h k = ordered_lined at _ x y p h k
binary_of_lined structs at binary.Equal x y p h k = equated_lined at _ x y p h k
binary_of_lined structs at binary.NotEqual x y p h k = equated_lined at _ x y p h k
binary_of_lined structs at binary.BitAnd x y p h k = product_lined at _ x y p h k
binary_of_lined structs at binary.BitXor x y p h k = product_lined at _ x y p h k
binary_of_lined structs at binary.BitOr x y p h k = product_lined at _ x y p h k
binary_of_lined structs at binary.LogicalAnd x y p h k = logical_lined at _ x y p h k
binary_of_lined structs at binary.LogicalOr x y p h k = logical_lined at _ x y p h k

pub binary_lined : (structs : List CStruct) (at : At) (op : BinaryOperator) (x y : CExpr) → OnLine at → Lined x → Lined y → Yields Lined (binary_rule structs at op x y)
unfolding binary_rule
binary_lined structs at op x y p h k = binary_of_lined structs at op (decayed x) (decayed y) p (decayed_lined x h) (decayed_lined y k)

pub comma_lined : (at : At) (x y : CExpr) → OnLine at → Lined x → Lined y → Lined (comma_rule at x y)
unfolding comma_rule
comma_lined at x y p h k = two p (decayed_lined x h) (decayed_lined y k)

-- ---- one operand

referred_lined : (at : At) (x : CExpr) → OnLine at → Lined x → Yields Lined (referred at x)
unfolding referred
referred_lined at x p h = unless _ _ _ (gives Lined _ (one p h))

followed_to_lined : (at : At) (x : CExpr) (o : Option CType) → OnLine at → Lined x → Yields Lined (followed_to at x o)
followed_to_lined at x None p h = fails Lined _
followed_to_lined at x (Some t) p h = gives Lined _ (one p h)

followed_lined : (structs : List CStruct) (at : At) (x : CExpr) → OnLine at → Lined x → Yields Lined (followed structs at x)
unfolding followed
followed_lined structs at x p h = followed_to_lined at (decayed x) _ p (decayed_lined x h)

signed_lined : (at : At) (op : UnaryOperator) (x : CExpr) → OnLine at → Lined x → Yields Lined (signed at op x)
unfolding signed
signed_lined at op x p h = unless _ _ _ (gives Lined _ (one p (promoted_lined x h)))

pub tested_lined : (line : ℕ) (x : CExpr) → Lined x → Yields Lined (tested line x)
unfolding tested
tested_lined line x h = unless _ _ _ (gives Lined _ (decayed_lined x h))

pub unary_lined : (structs : List CStruct) (at : At) (op : UnaryOperator) (x : CExpr) → OnLine at → Lined x → Yields Lined (unary_rule structs at op x)
unary_lined structs at unary.Address x p h = referred_lined at x p h
unary_lined structs at unary.Dereference x p h = followed_lined structs at x p h
unary_lined structs at unary.Plus x p h = signed_lined at _ x p h
unary_lined structs at unary.Minus x p h = signed_lined at _ x p h
unary_lined structs at unary.Complement x p h = signed_lined at _ x p h
unary_lined structs at unary.Not x p h = and_then (tested at.line x) _ (tested_lined at.line x h) (λ c k. gives Lined _ (one p k))

pub step_before_lined : (structs : List CStruct) (at : At) (op : StepOperator) (x : CExpr) → OnLine at → Lined x → Yields Lined (step_before_rule structs at op x)
step_before_lined structs at op x p h = and_then (steps structs at x) _ (anything _) (λ u k. gives Lined _ (one p h))

pub step_after_lined : (structs : List CStruct) (at : At) (op : StepOperator) (x : CExpr) → OnLine at → Lined x → Yields Lined (step_after_rule structs at op x)
step_after_lined structs at op x p h = and_then (steps structs at x) _ (anything _) (λ u k. gives Lined _ (one p h))

pub cast_lined : (at : At) (t : CType) (x : CExpr) → OnLine at → Lined x → Yields Lined (cast_rule at t x)
unfolding cast_rule
cast_lined at t x p h = unless _ _ _ (gives Lined _ (one p (decayed_lined x h)))

pub measured_lined : (structs : List CStruct) (at : At) (x : CExpr) → OnLine at → Lined x → Yields Lined (measured_rule structs at x)
unfolding measured_rule
measured_lined structs at x p h = unless _ _ _ (gives Lined _ (one p h))

pub measured_type_lined : (structs : List CStruct) (at : At) (t : CType) → OnLine at → Yields Lined (measured_type structs at t)
unfolding measured_type
measured_type_lined structs at t p = unless _ _ _ (gives Lined _ (alone p))

-- ---- elements, members and conditionals

indexed_at_lined : (at : At) (x i : CExpr) (o : Option CType) → OnLine at → Lined x → Lined i → Yields Lined (indexed_at at x i o)
indexed_at_lined at x i None p h k = fails Lined _
indexed_at_lined at x i (Some t) p h k = unless _ _ _ (gives Lined _ (two p h (promoted_lined i k)))

pub index_lined : (structs : List CStruct) (at : At) (x i : CExpr) → OnLine at → Lined x → Lined i → Yields Lined (index_rule structs at x i)
unfolding index_rule
index_lined structs at x i p h k = indexed_at_lined at (decayed x) i _ p (decayed_lined x h) k

member_at_lined : (at : At) (x : CExpr) (o : Option (ℕ × CType)) → OnLine at → Lined x → Yields Lined (member_at_place at x o)
member_at_lined at x None p h = fails Lined _
member_at_lined at x (Some m) p h = gives Lined _ (one p h)

pub member_lined : (structs : List CStruct) (at : At) (x : CExpr) (name : List ℕ) → OnLine at → Lined x → Yields Lined (member_rule structs at x name)
unfolding member_rule
member_lined structs at x name p h = member_at_lined at x (member_in structs (type_of x) name) p h

arrow_at_lined : (at : At) (x : CExpr) (o : Option (ℕ × CType)) → OnLine at → Lined x → Yields Lined (arrow_at at x o)
arrow_at_lined at x None p h = fails Lined _
arrow_at_lined at x (Some m) p h = gives Lined _ (one p h)

arrow_to_lined : (structs : List CStruct) (at : At) (x : CExpr) (name : List ℕ) (o : Option CType) → OnLine at → Lined x → Yields Lined (arrow_to structs at x name o)
arrow_to_lined structs at x name None p h = fails Lined _
arrow_to_lined structs at x name (Some t) p h = arrow_at_lined at x (member_in structs t name) p h

pub arrow_lined : (structs : List CStruct) (at : At) (x : CExpr) (name : List ℕ) → OnLine at → Lined x → Yields Lined (arrow_rule structs at x name)
unfolding arrow_rule
arrow_lined structs at x name p h = arrow_to_lined structs at (decayed x) name _ p (decayed_lined x h)

alternatives_at_lined : (at : At) (c x y : CExpr) (o : Option CType) → OnLine at → Lined c → Lined x → Lined y → Yields Lined (alternatives_at at c x y o)
alternatives_at_lined at c x y None p g h k = fails Lined _
alternatives_at_lined at c x y (Some t) p g h k = gives Lined _ (three p g (pointer_lined t x h) (pointer_lined t y k))

alternatives_lined : (at : At) (c x y : CExpr) → OnLine at → Lined c → Lined x → Lined y → Yields Lined (alternatives at c x y)
unfolding alternatives
alternatives_lined at c x y p g h k =
    either (both_numbers x y) _ _ (gives Lined _ (three p g (number_lined (common (type_of x) (type_of y)) x h) (number_lined (common (type_of x) (type_of y)) y k)))
    (either (is_void (type_of x) && is_void (type_of y)) _ _ (gives Lined _ (three p g h k)) (alternatives_at_lined at c x y (meeting_type x y) p g h k))

pub conditional_lined : (at : At) (c x y : CExpr) → OnLine at → Lined c → Lined x → Lined y → Yields Lined (conditional_rule at c x y)
unfolding conditional_rule
conditional_lined at c x y p g h k =
    and_then (tested at.line c) _ (tested_lined at.line c g) (λ d l. alternatives_lined at d (decayed x) (decayed y) p l (decayed_lined x h) (decayed_lined y k))

-- ---- assignments and calls

pub copied_lined : (line : ℕ) (t : CType) (y : CExpr) → Lined y → Yields Lined (copied_from line t y)
unfolding copied_from
copied_lined line t y h =
    unless (is_void (type_of y)) (BadType line 19) _ (unless (not (is_place y && same (type_of y) t)) (BadType line 23) _ (gives Lined y h))

set_to_lined : (at : At) (x y : CExpr) → OnLine at → Lined x → Lined y → Yields Lined (set_to at x y)
set_to_lined at x y p h k =
    either (is_struct (type_of x)) _ _ (and_then (copied_from at.line (type_of x) y) _ (copied_lined at.line (type_of x) y k) (λ v l. gives Lined _ (two p h l)))
    (and_then (given at.line (type_of x) y) _ (given_lined at.line (type_of x) y k) (λ v l. gives Lined _ (two p h l)))

reckoned_lined : (at : At) (op : AssignOperator) (x y : CExpr) → OnLine at → Lined x → Lined y → Yields Lined (reckoned at op x y)
unfolding reckoned
reckoned_lined at op x y p h k = unless _ _ _ (gives Lined _ (two p h (number_lined _ y k)))

shifted_in_lined : (at : At) (op : AssignOperator) (x y : CExpr) → OnLine at → Lined x → Lined y → Yields Lined (shifted_in at op x y)
unfolding shifted_in
shifted_in_lined at op x y p h k = unless _ _ _ (gives Lined _ (two p h (promoted_lined y k)))

changed_lined : (structs : List CStruct) (at : At) (op : AssignOperator) (x y : CExpr) → OnLine at → Lined x → Lined y → Yields Lined (changed structs at op x y)
unfolding changed
changed_lined structs at op x y p h k =
    either (both_numbers x y) _ _ (gives Lined _ (two p h (number_lined (common (type_of x) (type_of y)) y k)))
    (either (is_move structs x y) _ _ (gives Lined _ (two p h (promoted_lined y k))) (fails Lined _))

assigned_lined : (structs : List CStruct) (at : At) (op : AssignOperator) (x y : CExpr) → OnLine at → Lined x → Lined y → Yields Lined (assigned_by structs at op x y)
assigned_lined structs at assign.Assign x y p h k = set_to_lined at x y p h k
assigned_lined structs at assign.Multiply x y p h k = reckoned_lined at _ x (decayed y) p h (decayed_lined y k)
assigned_lined structs at assign.Divide x y p h k = reckoned_lined at _ x (decayed y) p h (decayed_lined y k)
assigned_lined structs at assign.Remainder x y p h k = reckoned_lined at _ x (decayed y) p h (decayed_lined y k)
assigned_lined structs at assign.Add x y p h k = changed_lined structs at _ x (decayed y) p h (decayed_lined y k)
assigned_lined structs at assign.Subtract x y p h k = changed_lined structs at _ x (decayed y) p h (decayed_lined y k)
assigned_lined structs at assign.ShiftLeft x y p h k = shifted_in_lined at _ x (decayed y) p h (decayed_lined y k)
assigned_lined structs at assign.ShiftRight x y p h k = shifted_in_lined at _ x (decayed y) p h (decayed_lined y k)
assigned_lined structs at assign.BitAnd x y p h k = reckoned_lined at _ x (decayed y) p h (decayed_lined y k)
assigned_lined structs at assign.BitXor x y p h k = reckoned_lined at _ x (decayed y) p h (decayed_lined y k)
assigned_lined structs at assign.BitOr x y p h k = reckoned_lined at _ x (decayed y) p h (decayed_lined y k)

pub assign_lined : (structs : List CStruct) (at : At) (op : AssignOperator) (x y : CExpr) → OnLine at → Lined x → Lined y → Yields Lined (assign_rule structs at op x y)
unfolding assign_rule
assign_lined structs at op x y p h k = unless _ _ _ (assigned_lined structs at op x y p h k)

passed_lined : (line : ℕ) (ts : List CType) (es : CExprs) → AreLined es → Yields AreLined (passed line ts es)
passed_lined line [] CExprs.none h = gives AreLined _ refl
passed_lined line [] (CExprs.more e es) h = fails AreLined _
passed_lined line (t ∷ ts) CExprs.none h = fails AreLined _
passed_lined line (t ∷ ts) (CExprs.more e es) h =
    let parts = and_parts _ _ h in
    and_then (given line t e) _ (given_lined line t e parts.0)
    (λ v k. and_then (passed line ts es) _ (passed_lined line ts es parts.1) (λ vs l. gives AreLined _ (both k l)))

pub call_lined : (at : At) (called : Called) (result : CType) (params : List CType) (es : CExprs) → OnLine at → AreLined es → Yields Lined (call_rule at called result params es)
unfolding call_rule
call_lined at called result params es p h = and_then (passed at.line params es) _ (passed_lined at.line params es h) (λ vs k. gives Lined _ (both p k))

-- The rules of the operators (C11 6.5), given the operands: the typed expression, or the rule that fails.
use Rattle.std.specs.Prelude.{ℕ, suc, Bool, ◌&&◌, ◌||◌, not, if◌then◌else◌, Option, Some, None, Ok, Err, List, [], ◌∷◌, slice_get, nat_eq}
use Rattle.std.specs.Cmp.Lexicographic.{pointwise}
use Rattle.c_words.specs.declared.place.At.{At}
use Rattle.c_words.specs.declared.operators.UnaryOperator.{UnaryOperator}
use Rattle.c_words.specs.declared.operators.UnaryOperator.TheVariants as unary
use Rattle.c_words.specs.declared.operators.BinaryOperator.{BinaryOperator}
use Rattle.c_words.specs.declared.operators.BinaryOperator.TheVariants as binary
use Rattle.c_words.specs.declared.operators.AssignOperator.{AssignOperator}
use Rattle.c_words.specs.declared.operators.AssignOperator.TheVariants as assign
use Rattle.c_words.specs.declared.operators.StepOperator.{StepOperator}
use Rattle.typed_tree.specs.declared.typed_expr.Called.{Called}
use Rattle.typing_operators.specs.declared.error.TypeError.TheVariants.{BadType}
use Rattle.typed_tree.specs.Types.{CType, same, is_number, is_pointer, is_array, is_struct, is_scalar, common, promoted}
use Rattle.typed_tree.specs.TypedTree.{CExpr, CForm, CExprs, CMember, CStruct, type_of}
use Rattle.typed_tree.specs.Sizes.{is_complete, members_of}
use Rattle.typed_tree.specs.TypedOperands.{is_place, is_null, meeting_type}
use Rattle.typing_operators.specs.Rule.{Rule, ◌>>=◌, refuse}
use Rattle.typing_operators.specs.Conversions.{decayed, as_number, as_promoted, as_pointer, given, points_to_complete, is_void}

abbrev pub both_numbers : CExpr → CExpr → Bool
both_numbers x y = is_number (type_of x) && is_number (type_of y)

-- two numbers in their common type
abbrev pub on_numbers : At → CType → BinaryOperator → CExpr → CExpr → CExpr
on_numbers at t op x y =
    CExpr.expr at t (CForm.Binary op (as_number (common (type_of x) (type_of y)) x) (as_number (common (type_of x) (type_of y)) y))

-- 6.5.5, 6.5.10 to 6.5.12: both are numbers
unfoldable pub product : At → BinaryOperator → CExpr → CExpr → Rule CExpr
product at op x y =
    refuse (not (both_numbers x y)) (BadType at.line 7) (Ok (on_numbers at (common (type_of x) (type_of y)) op x y))

-- 6.5.7: both are numbers, each promoted by itself
unfoldable pub shifted : At → BinaryOperator → CExpr → CExpr → Rule CExpr
shifted at op x y =
    refuse (not (both_numbers x y)) (BadType at.line 7)
    (Ok (CExpr.expr at (promoted (type_of x)) (CForm.Binary op (as_promoted x) (as_promoted y))))

-- a pointer to a complete type, and a number
abbrev pub is_move : List CStruct → CExpr → CExpr → Bool
is_move structs x y = points_to_complete structs (type_of x) && is_number (type_of y)

-- the rule that a sum breaks: another one where a pointer is in it
abbrev pub sum_rule : CExpr → CExpr → ℕ
sum_rule x y = if is_pointer (type_of x) || is_pointer (type_of y) then 8 else 7

-- 6.5.6 p2
unfoldable pub added : List CStruct → At → CExpr → CExpr → Rule CExpr
added structs at x y =
    if both_numbers x y then Ok (on_numbers at (common (type_of x) (type_of y)) binary.Add x y)
    else if is_move structs x y then Ok (CExpr.expr at (type_of x) (CForm.Binary binary.Add x (as_promoted y)))
    else if is_move structs y x then Ok (CExpr.expr at (type_of y) (CForm.Binary binary.Add (as_promoted x) y))
    else Err (BadType at.line (sum_rule x y))

-- 6.5.6 p3
unfoldable pub subtracted : List CStruct → At → CExpr → CExpr → Rule CExpr
subtracted structs at x y =
    if both_numbers x y then Ok (on_numbers at (common (type_of x) (type_of y)) binary.Subtract x y)
    else if is_move structs x y then Ok (CExpr.expr at (type_of x) (CForm.Binary binary.Subtract x (as_promoted y)))
    else if points_to_complete structs (type_of x) && same (type_of x) (type_of y)
    then Ok (CExpr.expr at CType.Int (CForm.Binary binary.Subtract x y))
    else Err (BadType at.line (sum_rule x y))

-- 6.5.8 p2
unfoldable pub ordered : At → BinaryOperator → CExpr → CExpr → Rule CExpr
ordered at op x y =
    if both_numbers x y then Ok (on_numbers at CType.Int op x y)
    else if is_pointer (type_of x) && same (type_of x) (type_of y) then Ok (CExpr.expr at CType.Int (CForm.Binary op x y))
    else Err (BadType at.line 9)

abbrev pub equated_at : At → BinaryOperator → CExpr → CExpr → Option CType → Rule CExpr
equated_at at op x y None = Err (BadType at.line 9)
equated_at at op x y (Some t) = Ok (CExpr.expr at CType.Int (CForm.Binary op (as_pointer t x) (as_pointer t y)))

-- 6.5.9 p2
unfoldable pub equated : At → BinaryOperator → CExpr → CExpr → Rule CExpr
equated at op x y =
    if both_numbers x y then Ok (on_numbers at CType.Int op x y) else equated_at at op x y (meeting_type x y)

-- 6.5.13, 6.5.14: both are conditions
unfoldable pub logical : At → BinaryOperator → CExpr → CExpr → Rule CExpr
logical at op x y =
    refuse (not (is_scalar (type_of x) && is_scalar (type_of y))) (BadType at.line 14) (Ok (CExpr.expr at CType.Int (CForm.Binary op x y)))

-- a binary operator, its operands decayed
abbrev pub binary_of : List CStruct → At → BinaryOperator → CExpr → CExpr → Rule CExpr
binary_of structs at binary.Multiply x y = product at binary.Multiply x y
binary_of structs at binary.Divide x y = product at binary.Divide x y
binary_of structs at binary.Remainder x y = product at binary.Remainder x y
binary_of structs at binary.Add x y = added structs at x y
binary_of structs at binary.Subtract x y = subtracted structs at x y
binary_of structs at binary.ShiftLeft x y = shifted at binary.ShiftLeft x y
binary_of structs at binary.ShiftRight x y = shifted at binary.ShiftRight x y
binary_of structs at binary.Less x y = ordered at binary.Less x y
binary_of structs at binary.Greater x y = ordered at binary.Greater x y
binary_of structs at binary.LessEqual x y = ordered at binary.LessEqual x y
binary_of structs at binary.GreaterEqual x y = ordered at binary.GreaterEqual x y
binary_of structs at binary.Equal x y = equated at binary.Equal x y
binary_of structs at binary.NotEqual x y = equated at binary.NotEqual x y
binary_of structs at binary.BitAnd x y = product at binary.BitAnd x y
binary_of structs at binary.BitXor x y = product at binary.BitXor x y
binary_of structs at binary.BitOr x y = product at binary.BitOr x y
binary_of structs at binary.LogicalAnd x y = logical at binary.LogicalAnd x y
binary_of structs at binary.LogicalOr x y = logical at binary.LogicalOr x y

unfoldable pub binary_rule : List CStruct → At → BinaryOperator → CExpr → CExpr → Rule CExpr
binary_rule structs at op x y = binary_of structs at op (decayed x) (decayed y)

-- 6.5.3.2 p1
unfoldable pub referred : At → CExpr → Rule CExpr
referred at x =
    refuse (not (is_place x)) (BadType at.line 6) (Ok (CExpr.expr at (CType.Pointer (type_of x)) (CForm.Unary unary.Address x)))

-- what a pointer points to, if it is a pointer
abbrev pub target_of : CType → Option CType
target_of (CType.Pointer t) = Some t
target_of CType.Void = None
target_of CType.Char = None
target_of CType.Int = None
target_of CType.Unsigned = None
target_of (CType.Struct k) = None
target_of (CType.Array t n) = None

-- what a pointer to a complete type points to
abbrev pub complete_target : List CStruct → Option CType → Option CType
complete_target structs None = None
complete_target structs (Some t) = if is_complete structs t then Some t else None

unfoldable pub element_of : List CStruct → CType → Option CType
element_of structs t = complete_target structs (target_of t)

abbrev pub followed_to : At → CExpr → Option CType → Rule CExpr
followed_to at x None = Err (BadType at.line 12)
followed_to at x (Some t) = Ok (CExpr.expr at t (CForm.Unary unary.Dereference x))

-- 6.5.3.2 p2
unfoldable pub followed : List CStruct → At → CExpr → Rule CExpr
followed structs at x = followed_to at (decayed x) (element_of structs (type_of (decayed x)))

-- 6.5.3.3 p1
unfoldable pub signed : At → UnaryOperator → CExpr → Rule CExpr
signed at op x =
    refuse (not (is_number (type_of x))) (BadType at.line 7) (Ok (CExpr.expr at (promoted (type_of x)) (CForm.Unary op (as_promoted x))))

-- a condition (6.5.3.3 p1, 6.8.4.1 p1)
unfoldable pub tested : ℕ → CExpr → Rule CExpr
tested line x = refuse (not (is_scalar (type_of (decayed x)))) (BadType line 14) (Ok (decayed x))

abbrev pub unary_rule : List CStruct → At → UnaryOperator → CExpr → Rule CExpr
unary_rule structs at unary.Address x = referred at x
unary_rule structs at unary.Dereference x = followed structs at x
unary_rule structs at unary.Plus x = signed at unary.Plus x
unary_rule structs at unary.Minus x = signed at unary.Minus x
unary_rule structs at unary.Complement x = signed at unary.Complement x
unary_rule structs at unary.Not x = tested at.line x >>= λ c. Ok (CExpr.expr at CType.Int (CForm.Unary unary.Not c))

-- whether it can be assigned to (6.5.16 p2)
abbrev pub is_assignable : CExpr → Bool
is_assignable x = is_place x && not (is_array (type_of x))

-- the rule that `++` and `--` break
abbrev pub step_rule : List CStruct → CType → Option ℕ
step_rule structs t =
    if is_number t || points_to_complete structs t then None else if is_pointer t then Some 8 else Some 7

abbrev pub kept_unless : ℕ → Option ℕ → Rule (Unit {0})
kept_unless line None = Ok tt
kept_unless line (Some rule) = Err (BadType line rule)

-- 6.5.2.4 p1, 6.5.3.1 p1: whether `++` and `--` may be applied
abbrev pub steps : List CStruct → At → CExpr → Rule (Unit {0})
steps structs at x =
    refuse (not (is_assignable x)) (BadType at.line 6) (kept_unless at.line (step_rule structs (type_of x)))

abbrev pub step_before_rule : List CStruct → At → StepOperator → CExpr → Rule CExpr
step_before_rule structs at op x = steps structs at x >>= λ u. Ok (CExpr.expr at (type_of x) (CForm.StepBefore op x))

abbrev pub step_after_rule : List CStruct → At → StepOperator → CExpr → Rule CExpr
step_after_rule structs at op x = steps structs at x >>= λ u. Ok (CExpr.expr at (type_of x) (CForm.StepAfter op x))

-- 6.5.15 p3: the second and the third operand, decayed
abbrev pub alternatives_at : At → CExpr → CExpr → CExpr → Option CType → Rule CExpr
alternatives_at at c x y None = Err (BadType at.line 15)
alternatives_at at c x y (Some t) = Ok (CExpr.expr at t (CForm.Conditional c (as_pointer t x) (as_pointer t y)))

unfoldable pub alternatives : At → CExpr → CExpr → CExpr → Rule CExpr
alternatives at c x y =
    if both_numbers x y
    then Ok (CExpr.expr at (common (type_of x) (type_of y))
    (CForm.Conditional c (as_number (common (type_of x) (type_of y)) x) (as_number (common (type_of x) (type_of y)) y)))
    else if is_void (type_of x) && is_void (type_of y) then Ok (CExpr.expr at CType.Void (CForm.Conditional c x y))
    else alternatives_at at c x y (meeting_type x y)

unfoldable pub conditional_rule : At → CExpr → CExpr → CExpr → Rule CExpr
conditional_rule at c x y = tested at.line c >>= λ d. alternatives at d (decayed x) (decayed y)

-- 6.5.17
unfoldable pub comma_rule : At → CExpr → CExpr → CExpr
comma_rule at x y = CExpr.expr at (type_of (decayed y)) (CForm.Comma (decayed x) (decayed y))

-- 6.5.4 p2
abbrev pub may_cast : CType → CExpr → Bool
may_cast t e =
    is_void t || (is_number (type_of e) && is_number t) || (is_pointer t && (is_null e || is_pointer (type_of e)))

unfoldable pub cast_rule : At → CType → CExpr → Rule CExpr
cast_rule at t x = refuse (not (may_cast t (decayed x))) (BadType at.line 11) (Ok (CExpr.expr at t (CForm.Cast (decayed x))))

-- 6.5.2.1
abbrev pub indexed_at : At → CExpr → CExpr → Option CType → Rule CExpr
indexed_at at x i None = Err (BadType at.line 12)
indexed_at at x i (Some t) =
    refuse (not (is_number (type_of i))) (BadType at.line 12) (Ok (CExpr.expr at t (CForm.Index x (as_promoted i))))

unfoldable pub index_rule : List CStruct → At → CExpr → CExpr → Rule CExpr
index_rule structs at x i = indexed_at at (decayed x) i (element_of structs (type_of (decayed x)))

-- the number and the type of the member of a name
abbrev pub member_named : List ℕ → ℕ → List CMember → Option (ℕ × CType)
member_named name from [] = None
member_named name from (m ∷ ms) =
    if pointwise nat_eq m.name name then Some (from, m.ty) else member_named name (suc from) ms

abbrev pub member_in : List CStruct → CType → List ℕ → Option (ℕ × CType)
member_in structs (CType.Struct k) name = member_named name 0 (members_of (slice_get structs k))
member_in structs CType.Void name = None
member_in structs CType.Char name = None
member_in structs CType.Int name = None
member_in structs CType.Unsigned name = None
member_in structs (CType.Pointer t) name = None
member_in structs (CType.Array t n) name = None

abbrev pub member_at_place : At → CExpr → Option (ℕ × CType) → Rule CExpr
member_at_place at x None = Err (BadType at.line 13)
member_at_place at x (Some m) = Ok (CExpr.expr at m.1 (CForm.Member x m.0))

-- 6.5.2.3 p1
unfoldable pub member_rule : List CStruct → At → CExpr → List ℕ → Rule CExpr
member_rule structs at x name = member_at_place at x (member_in structs (type_of x) name)

abbrev pub arrow_at : At → CExpr → Option (ℕ × CType) → Rule CExpr
arrow_at at x None = Err (BadType at.line 13)
arrow_at at x (Some m) = Ok (CExpr.expr at m.1 (CForm.Arrow x m.0))

abbrev pub arrow_to : List CStruct → At → CExpr → List ℕ → Option CType → Rule CExpr
arrow_to structs at x name None = Err (BadType at.line 12)
arrow_to structs at x name (Some t) = arrow_at at x (member_in structs t name)

-- 6.5.2.3 p2
unfoldable pub arrow_rule : List CStruct → At → CExpr → List ℕ → Rule CExpr
arrow_rule structs at x name = arrow_to structs at (decayed x) name (element_of structs (type_of (decayed x)))

-- 6.5.3.4 p1
unfoldable pub measured_rule : List CStruct → At → CExpr → Rule CExpr
measured_rule structs at x =
    refuse (not (is_complete structs (type_of x))) (BadType at.line 1) (Ok (CExpr.expr at CType.Unsigned (CForm.SizeofExpression x)))

unfoldable pub measured_type : List CStruct → At → CType → Rule CExpr
measured_type structs at t =
    refuse (not (is_complete structs t)) (BadType at.line 1) (Ok (CExpr.expr at CType.Unsigned (CForm.SizeofType t)))

-- 6.5.16.1 p1: what a struct is copied from
unfoldable pub copied_from : ℕ → CType → CExpr → Rule CExpr
copied_from line t y =
    refuse (is_void (type_of y)) (BadType line 19) (refuse (not (is_place y && same (type_of y) t)) (BadType line 23) (Ok y))

-- 6.5.16.1: a struct is copied, and nothing has the value of that; anything else is given to the type of the left side
abbrev pub set_to : At → CExpr → CExpr → Rule CExpr
set_to at x y =
    if is_struct (type_of x)
    then (copied_from at.line (type_of x) y >>= λ v. Ok (CExpr.expr at CType.Void (CForm.Assign assign.Assign x v)))
    else (given at.line (type_of x) y >>= λ v. Ok (CExpr.expr at (type_of x) (CForm.Assign assign.Assign x v)))

-- 6.5.16.2 p2
unfoldable pub reckoned : At → AssignOperator → CExpr → CExpr → Rule CExpr
reckoned at op x y =
    refuse (not (both_numbers x y)) (BadType at.line 7)
    (Ok (CExpr.expr at (type_of x) (CForm.Assign op x (as_number (common (type_of x) (type_of y)) y))))

unfoldable pub shifted_in : At → AssignOperator → CExpr → CExpr → Rule CExpr
shifted_in at op x y =
    refuse (not (both_numbers x y)) (BadType at.line 7) (Ok (CExpr.expr at (type_of x) (CForm.Assign op x (as_promoted y))))

-- 6.5.16.2 p1
unfoldable pub changed : List CStruct → At → AssignOperator → CExpr → CExpr → Rule CExpr
changed structs at op x y =
    if both_numbers x y then Ok (CExpr.expr at (type_of x) (CForm.Assign op x (as_number (common (type_of x) (type_of y)) y)))
    else if is_move structs x y then Ok (CExpr.expr at (type_of x) (CForm.Assign op x (as_promoted y)))
    else Err (BadType at.line (sum_rule x y))

-- an assignment to what can be assigned to
abbrev pub assigned_by : List CStruct → At → AssignOperator → CExpr → CExpr → Rule CExpr
assigned_by structs at assign.Assign x y = set_to at x y
assigned_by structs at assign.Multiply x y = reckoned at assign.Multiply x (decayed y)
assigned_by structs at assign.Divide x y = reckoned at assign.Divide x (decayed y)
assigned_by structs at assign.Remainder x y = reckoned at assign.Remainder x (decayed y)
assigned_by structs at assign.Add x y = changed structs at assign.Add x (decayed y)
assigned_by structs at assign.Subtract x y = changed structs at assign.Subtract x (decayed y)
assigned_by structs at assign.ShiftLeft x y = shifted_in at assign.ShiftLeft x (decayed y)
assigned_by structs at assign.ShiftRight x y = shifted_in at assign.ShiftRight x (decayed y)
assigned_by structs at assign.BitAnd x y = reckoned at assign.BitAnd x (decayed y)
assigned_by structs at assign.BitXor x y = reckoned at assign.BitXor x (decayed y)
assigned_by structs at assign.BitOr x y = reckoned at assign.BitOr x (decayed y)

-- 6.5.16
unfoldable pub assign_rule : List CStruct → At → AssignOperator → CExpr → CExpr → Rule CExpr
assign_rule structs at op x y = refuse (not (is_assignable x)) (BadType at.line 6) (assigned_by structs at op x y)

-- 6.5.2.2 p2, p7: as many arguments as parameters, each given to its parameter's type
abbrev pub passed : ℕ → List CType → CExprs → Rule CExprs
passed line [] CExprs.none = Ok CExprs.none
passed line [] (CExprs.more e es) = Err (BadType line 16)
passed line (t ∷ ts) CExprs.none = Err (BadType line 16)
passed line (t ∷ ts) (CExprs.more e es) = given line t e >>= λ v. passed line ts es >>= λ vs. Ok (CExprs.more v vs)

-- 6.5.2.2
unfoldable pub call_rule : At → Called → CType → List CType → CExprs → Rule CExpr
call_rule at called result params es = passed at.line params es >>= λ vs. Ok (CExpr.expr at result (CForm.Call called vs))

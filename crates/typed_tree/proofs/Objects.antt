-- A struct or an array of the typed tree is found in an object.
use Rattle.std.proofs.Common.{◌≡◌, true, false, ◌||◌, ◌&&◌, IsTrue, Bool, List, refl, sym, ◌∙◌, subst}
use Rattle.std.specs.Prelude.{All, Option, Some, None, if◌then◌else◌}
use Rattle.c_words.specs.declared.operators.UnaryOperator.{UnaryOperator}
use Rattle.c_words.specs.declared.operators.UnaryOperator.TheVariants as unary
use Rattle.c_words.specs.declared.operators.BinaryOperator.{BinaryOperator}
use Rattle.c_words.specs.declared.operators.BinaryOperator.TheVariants as binary
use Rattle.c_words.specs.declared.operators.AssignOperator.{AssignOperator}
use Rattle.c_words.specs.declared.operators.AssignOperator.TheVariants as assign
use Rattle.typed_tree.specs.declared.typed_expr.Conversion.{Conversion}
use Rattle.typed_tree.specs.declared.typed_expr.Conversion.TheVariants as conversion
use Rattle.typed_tree.specs.declared.typed_expr.LibCall.{LibCall}
use Rattle.typed_tree.specs.declared.typed_expr.LibCall.TheVariants as library
use Rattle.typed_tree.specs.declared.typed_expr.Called.{Called}
use Rattle.typed_tree.specs.declared.typed_expr.Called.TheVariants as called
use Rattle.typed_tree.specs.Types.{CType, is_pointer, is_struct, is_array, is_unsigned, is_void_pointer, same, promoted, IsNumber, IsPointer, IsScalar}
use Rattle.typed_tree.specs.TypedTree.{CExpr, CForm, CStruct, type_of}
use Rattle.typed_tree.specs.TypedOperands.{has_object, has_object_form, own_type, unconverted, is_null, meeting_type, IsConversion, IsPromoted}
use Rattle.typed_tree.specs.TypedRules.{IsPointerToComplete, AreCommon, IsMoved, AreAdded, AreSubtracted, AreAlternatives, IsUnary, IsBinary, CanStep, IsSet, IsChanged, IsAssignment, MayCast, IsResult, Prototype, called_prototype, prototype_in_library}
use Rattle.typed_tree.specs.TypedBody.{Environment, IsLiteral, IsExpr, IsForm}
use Rattle.typed_tree.specs.TypedLaws.{AggregatesHaveObjects}
use Rattle.typed_tree.proofs.TypedLemmas.{All-slice_get}

-- a type that is no struct and no array
abbrev IsOne : CType → Type 0
IsOne t = is_struct t || is_array t ≡ false

none_is : (t : CType) {P : Type 0} → IsOne t → IsTrue (is_struct t || is_array t) → P
none_is t {P} one aggregate = let wrong : false ≡ true = sym one ∙ aggregate in absurd cc

number_is : (t : CType) → IsNumber t → IsOne t
number_is CType.Void is = absurd cc
number_is CType.Char is = refl
number_is CType.Int is = refl
number_is CType.Unsigned is = refl
number_is (CType.Struct k) is = absurd cc
number_is (CType.Pointer u) is = absurd cc
number_is (CType.Array u n) is = absurd cc

pointer_is : (t : CType) → IsPointer t → IsOne t
pointer_is CType.Void is = absurd cc
pointer_is CType.Char is = absurd cc
pointer_is CType.Int is = absurd cc
pointer_is CType.Unsigned is = absurd cc
pointer_is (CType.Struct k) is = absurd cc
pointer_is (CType.Pointer u) is = refl
pointer_is (CType.Array u n) is = absurd cc

scalar_is : (t : CType) → IsScalar t → IsOne t
scalar_is CType.Void is = absurd cc
scalar_is CType.Char is = refl
scalar_is CType.Int is = refl
scalar_is CType.Unsigned is = refl
scalar_is (CType.Struct k) is = absurd cc
scalar_is (CType.Pointer u) is = refl
scalar_is (CType.Array u n) is = absurd cc

complete_is : (structs : List CStruct) (t : CType) → IsPointerToComplete structs t → IsOne t
complete_is structs CType.Void is = absurd is
complete_is structs CType.Char is = absurd is
complete_is structs CType.Int is = absurd is
complete_is structs CType.Unsigned is = absurd is
complete_is structs (CType.Struct k) is = absurd is
complete_is structs (CType.Pointer u) is = refl
complete_is structs (CType.Array u n) is = absurd is

common_is : (b : Bool) → IsOne (if b then CType.Unsigned else CType.Int)
common_is true = refl
common_is false = refl

promoted_is : (t : CType) → IsNumber t → IsOne (promoted t)
promoted_is CType.Void is = absurd cc
promoted_is CType.Char is = refl
promoted_is CType.Int is = refl
promoted_is CType.Unsigned is = refl
promoted_is (CType.Struct k) is = absurd cc
promoted_is (CType.Pointer u) is = absurd cc
promoted_is (CType.Array u n) is = absurd cc

along : (t u : CType) → t ≡ u → IsOne u → IsOne t
along t u is one = rw is one

are_common : (a b : CExpr) (t : CType) → AreCommon a b t → IsOne t
are_common a b t are = along t _ are.is_common (common_is (is_unsigned (own_type a) || is_unsigned (own_type b)))

is_promoted : (e : CExpr) (t : CType) → IsPromoted e → t ≡ type_of e → IsOne t
is_promoted e t promotes is = along t _ (is ∙ promotes.1) (promoted_is (own_type e) promotes.0)

is_moved : (structs : List CStruct) (p n : CExpr) (t : CType) → IsMoved structs p n t → IsOne t
is_moved structs p n t moved = along t _ moved.result (complete_is structs (type_of p) moved.complete)

is_added : (structs : List CStruct) (a b : CExpr) (t : CType) → AreAdded structs a b t → IsOne t
is_added structs a b t (AreAdded.numbers are) = are_common a b t are
is_added structs a b t (AreAdded.pointer_and_number moved) = is_moved structs a b t moved
is_added structs a b t (AreAdded.number_and_pointer moved) = is_moved structs b a t moved

is_subtracted : (structs : List CStruct) (a b : CExpr) (t : CType) → AreSubtracted structs a b t → IsOne t
is_subtracted structs a b t (AreSubtracted.numbers are) = are_common a b t are
is_subtracted structs a b t (AreSubtracted.pointer_and_number moved) = is_moved structs a b t moved
is_subtracted structs a b t (AreSubtracted.pointers apart) = along t _ apart.result refl

-- one step of a choice that gives pointers
chosen : (b : Bool) (t u : CType) (o : Option CType) → (b ≡ true → IsPointer u) → (o ≡ Some t → IsPointer t) → (if b then Some u else o) ≡ Some t → IsPointer t
chosen true t u o here there is = let same : u ≡ t = cc in subst (λ x. IsPointer x) same (here refl)
chosen false t u o here there is = there is

both_left : (a b : Bool) → a && b ≡ true → a ≡ true
both_left true b is = refl
both_left false b is = is

both_right : (a b : Bool) → a && b ≡ true → b ≡ true
both_right true b is = is
both_right false b is = cc

meets : (a b : CExpr) (t : CType) → meeting_type a b ≡ Some t → IsPointer t
meets a b t is =
    chosen (is_pointer (type_of a) && same (type_of a) (type_of b)) t (type_of a) _ (both_left _ _)
    (chosen (is_null b && is_pointer (type_of a)) t (type_of a) _ (both_right _ _)
    (chosen (is_null a && is_pointer (type_of b)) t (type_of b) _ (both_right _ _)
    (chosen (is_pointer (type_of a) && is_pointer (type_of b) && (is_void_pointer (type_of a) || is_void_pointer (type_of b))) t (CType.Pointer CType.Void) None (λ h. refl)
    (λ h. absurd cc)))) is

are_alternatives : (a b : CExpr) (t : CType) → AreAlternatives a b t → IsOne t
are_alternatives a b t (AreAlternatives.numbers are) = are_common a b t are
are_alternatives a b t (AreAlternatives.pointers meeting) = pointer_is t (meets (unconverted a) (unconverted b) t meeting.meeting)
are_alternatives a b t (AreAlternatives.voids left right is) = along t _ is refl

is_converted_type : (c : Conversion) (e : CExpr) (t : CType) → IsConversion c e t → IsOne t
is_converted_type conversion.ArrayToPointer e t is = along t _ is.4 refl
is_converted_type conversion.NumberToNumber e t is = number_is t is.2
is_converted_type conversion.NullToPointer e t is = pointer_is t is.1
is_converted_type conversion.PointerToPointer e t is = pointer_is t is.3

is_binary : (structs : List CStruct) (op : BinaryOperator) (a b : CExpr) (t : CType) → IsBinary structs op a b t → IsOne t
is_binary structs binary.Multiply a b t is = are_common a b t is
is_binary structs binary.Divide a b t is = are_common a b t is
is_binary structs binary.Remainder a b t is = are_common a b t is
is_binary structs binary.BitAnd a b t is = are_common a b t is
is_binary structs binary.BitXor a b t is = are_common a b t is
is_binary structs binary.BitOr a b t is = are_common a b t is
is_binary structs binary.Add a b t is = is_added structs a b t is
is_binary structs binary.Subtract a b t is = is_subtracted structs a b t is
is_binary structs binary.ShiftLeft a b t is = is_promoted a t is.left is.result
is_binary structs binary.ShiftRight a b t is = is_promoted a t is.left is.result
is_binary structs binary.Less a b t is = along t _ is.1 refl
is_binary structs binary.Greater a b t is = along t _ is.1 refl
is_binary structs binary.LessEqual a b t is = along t _ is.1 refl
is_binary structs binary.GreaterEqual a b t is = along t _ is.1 refl
is_binary structs binary.Equal a b t is = along t _ is.1 refl
is_binary structs binary.NotEqual a b t is = along t _ is.1 refl
is_binary structs binary.LogicalAnd a b t is = along t _ is.2 refl
is_binary structs binary.LogicalOr a b t is = along t _ is.2 refl

is_set : (a b : CExpr) (t : CType) → IsSet a b t → IsOne t
is_set a b t (IsSet.scalar assignable given is) = along t _ is (scalar_is (type_of a) given.1)
is_set a b t (IsSet.struct assignable copied is) = along t _ is refl

is_changed : (structs : List CStruct) (a b : CExpr) (t : CType) → IsChanged structs a b t → IsOne t
is_changed structs a b t (IsChanged.numbers is) = along t _ is.result (number_is (type_of a) is.left_number)
is_changed structs a b t (IsChanged.pointer_and_number assignable moved) = is_moved structs a b t moved

is_assigned : (structs : List CStruct) (op : AssignOperator) (a b : CExpr) (t : CType) → IsAssignment structs op a b t → IsOne t
is_assigned structs assign.Assign a b t is = is_set a b t is
is_assigned structs assign.Multiply a b t is = along t _ is.result (number_is (type_of a) is.left_number)
is_assigned structs assign.Divide a b t is = along t _ is.result (number_is (type_of a) is.left_number)
is_assigned structs assign.Remainder a b t is = along t _ is.result (number_is (type_of a) is.left_number)
is_assigned structs assign.BitAnd a b t is = along t _ is.result (number_is (type_of a) is.left_number)
is_assigned structs assign.BitXor a b t is = along t _ is.result (number_is (type_of a) is.left_number)
is_assigned structs assign.BitOr a b t is = along t _ is.result (number_is (type_of a) is.left_number)
is_assigned structs assign.ShiftLeft a b t is = along t _ is.result (number_is (type_of a) is.left_number)
is_assigned structs assign.ShiftRight a b t is = along t _ is.result (number_is (type_of a) is.left_number)
is_assigned structs assign.Add a b t is = is_changed structs a b t is
is_assigned structs assign.Subtract a b t is = is_changed structs a b t is

steps_is : (structs : List CStruct) (t : CType) → CanStep structs t → IsOne t
steps_is structs t (CanStep.number is) = number_is t is
steps_is structs t (CanStep.pointer is) = complete_is structs t is

cast_is : (e : CExpr) (t : CType) → MayCast e t → IsOne t
cast_is e t (MayCast.to_void is) = along t _ is refl
cast_is e t (MayCast.numbers from to) = number_is t to
cast_is e t (MayCast.pointers from to) = pointer_is t to
cast_is e t (MayCast.null null to) = pointer_is t to

literal_is : (t : CType) → IsLiteral t → IsOne t
literal_is t (IsLiteral.int is) = along t _ is refl
literal_is t (IsLiteral.unsigned is) = along t _ is refl

result_is : (t : CType) → IsResult t → IsOne t
result_is t (IsResult.nothing is) = along t _ is refl
result_is t (IsResult.scalar is) = scalar_is t is

library_is : (f : LibCall) → IsOne (prototype_in_library f).result
library_is library.Putchar = refl
library_is library.Getchar = refl
library_is library.Exit = refl
library_is library.Malloc = refl
library_is library.Calloc = refl
library_is library.Free = refl
library_is library.Memcpy = refl
library_is library.Memset = refl

called_is : (fs : List Prototype) (f : Called) (p : Prototype) → All (λ f. IsResult f.result) fs → called_prototype fs f ≡ Some p → IsOne p.result
called_is fs (called.Defined k) p all found = result_is p.result (All-slice_get (λ (f : Prototype). IsResult f.result) fs k p all found)
called_is fs (called.Library f) p all found =
    let same : prototype_in_library f ≡ p = cc in subst (λ (q : Prototype). IsOne q.result) same (library_is f)

unary_is : (structs : List CStruct) (op : UnaryOperator) (e : CExpr) (t : CType) → IsUnary structs op e t → IsTrue (is_struct t || is_array t) → IsTrue (has_object_form (CForm.Unary op e))
unary_is structs unary.Address e t is aggregate = none_is t (along t _ is.result refl) aggregate
unary_is structs unary.Dereference e t is aggregate = refl
unary_is structs unary.Plus e t is aggregate = none_is t (is_promoted e t is.operand is.result) aggregate
unary_is structs unary.Minus e t is aggregate = none_is t (is_promoted e t is.operand is.result) aggregate
unary_is structs unary.Complement e t is aggregate = none_is t (is_promoted e t is.operand is.result) aggregate
unary_is structs unary.Not e t is aggregate = none_is t (along t _ is.1 refl) aggregate

module _ (names : Environment) (all : All (λ (f : Prototype). IsResult f.result) names.functions) where
  mutual
    has : (e : CExpr) → IsExpr names e → IsTrue (is_struct (type_of e) || is_array (type_of e)) → IsTrue (has_object e)
    has (CExpr.expr at t form) typed aggregate = has_form t form typed.1 aggregate

    has_form : (t : CType) (form : CForm) → IsForm names t form → IsTrue (is_struct t || is_array t) → IsTrue (has_object_form form)
    has_form t (CForm.Local n) typed aggregate = refl
    has_form t (CForm.Global n) typed aggregate = refl
    has_form t (CForm.Text n) typed aggregate = refl
    has_form t (CForm.Number n) typed aggregate = none_is t (literal_is t typed.0) aggregate
    has_form t (CForm.Character n) typed aggregate = none_is t (along t _ typed.0 refl) aggregate
    has_form t CForm.Null typed aggregate = none_is t (along t _ typed refl) aggregate
    has_form t CForm.Eof typed aggregate = none_is t (along t _ typed refl) aggregate
    has_form t (CForm.Convert c e) typed aggregate = none_is t (is_converted_type c e t typed.1) aggregate
    has_form t (CForm.Index a b) typed aggregate = refl
    has_form t (CForm.Call f es) typed aggregate = none_is t (along t _ typed.1.result (called_is names.functions f typed.1.prototype all typed.1.found)) aggregate
    has_form t (CForm.Member e m) typed aggregate = has e typed.0 (rw typed.1.of refl)
    has_form t (CForm.Arrow e m) typed aggregate = refl
    has_form t (CForm.StepBefore op e) typed aggregate = none_is t (along t _ typed.1.result (steps_is names.structs (type_of e) typed.1.steps)) aggregate
    has_form t (CForm.StepAfter op e) typed aggregate = none_is t (along t _ typed.1.result (steps_is names.structs (type_of e) typed.1.steps)) aggregate
    has_form t (CForm.Unary op e) typed aggregate = unary_is names.structs op e t typed.1 aggregate
    has_form t (CForm.Binary op a b) typed aggregate = none_is t (is_binary names.structs op a b t typed.2) aggregate
    has_form t (CForm.Conditional c a b) typed aggregate = none_is t (are_alternatives a b t typed.4) aggregate
    has_form t (CForm.Assign op a b) typed aggregate = none_is t (is_assigned names.structs op a b t typed.2) aggregate
    has_form t (CForm.Comma a b) typed aggregate = has b typed.1 (rw (← typed.2.result) aggregate)
    has_form t (CForm.Cast e) typed aggregate = none_is t (cast_is e t typed.1.allowed) aggregate
    has_form t (CForm.SizeofExpression e) typed aggregate = none_is t (along t _ typed.1.result refl) aggregate
    has_form t (CForm.SizeofType u) typed aggregate = none_is t (along t _ typed.2 refl) aggregate

pub aggregates_have_objects : AggregatesHaveObjects
aggregates_have_objects names e all typed aggregate = has names all e typed aggregate

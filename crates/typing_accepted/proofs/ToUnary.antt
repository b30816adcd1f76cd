-- What the operators with one operand make of what it becomes, and `[]`, `.` and `->`, is what their rules give.
use Rattle.std.proofs.Common.{◌≡◌, ℕ, true, List, [], ◌∷◌, refl, sym, ap, ◌∙◌, subst}
use Rattle.std.specs.Prelude.{Option, Some, None, Ok, slice_get}
use Rattle.c_words.specs.declared.place.At.{At}
use Rattle.c_words.specs.declared.operators.UnaryOperator.{UnaryOperator}
use Rattle.c_words.specs.declared.operators.UnaryOperator.TheVariants as unary
use Rattle.c_words.specs.declared.operators.StepOperator.{StepOperator}
use Rattle.typed_tree.specs.Types.{CType, is_number, promoted, IsNumber, IsScalar}
use Rattle.typed_tree.specs.TypedTree.{CExpr, CForm, CStruct, CMember, type_of}
use Rattle.typed_tree.specs.Sizes.{IsComplete, has_members, members_of}
use Rattle.typed_tree.specs.TypedOperands.{is_place}
use Rattle.typed_tree.specs.TypedRules.{IsCondition, IsReferred, IsFollowed, IsSigned, IsUnary, IsElement, IsMember, IsMemberBehind, IsAssignable, CanStep, IsStepped, IsMeasured}
use Rattle.typing_operators.specs.Rule.{Rule}
use Rattle.typing_operators.specs.Conversions.{decayed, as_promoted, points_to_complete}
use Rattle.typing_operators.specs.Operators.{referred, element_of, followed_to, followed, signed, tested, unary_rule, is_assignable, step_rule, kept_unless, steps, step_before_rule, step_after_rule, indexed_at, index_rule, member_named, member_in, member_at_place, member_rule, arrow_at, arrow_to, arrow_rule, measured_rule, measured_type}
use Rattle.typing_accepted.specs.AcceptanceOperands.{Becomes}
use Rattle.typing_accepted.specs.AcceptanceExpressions.{IsNamed}
use Rattle.typing_accepted.proofs.Steps.{passed, onward, taken, not_of, or_left, or_right}
use Rattle.typing_accepted.proofs.Operands.{IsRead, plain_is, place_is, number_self}
use Rattle.typing_accepted.proofs.Values.{promoted_is, does_point}

ok_one : (at : At) (form : CExpr → CForm) (t u : CType) (a d : CExpr) → t ≡ u → a ≡ d
    → (let r : Rule CExpr = Ok (CExpr.expr at u (form d)) in r) ≡ Ok (CExpr.expr at t (form a))
ok_one at form t u a d type is = rw (type, is) refl

pub element_to : (structs : List CStruct) (t u : CType) → t ≡ CType.Pointer u → IsComplete structs u → element_of structs t ≡ Some u
unfolding element_of
element_to structs t u is complete = rw (is, complete) refl

module _ (structs : List CStruct) (at : At) (x : CExpr) (read : IsRead x) where
  referred_to : (a : CExpr) (t : CType) → Becomes x a → IsReferred a t → referred at x ≡ Ok (CExpr.expr at t (CForm.Unary unary.Address a))
  unfolding referred
  referred_to a t becomes is =
      let same = place_is x a becomes is.place in
      let place : is_place x ≡ true = subst (λ e. is_place e ≡ true) same is.place in
      passed _ _ _ _ (not_of _ place) (ok_one at (CForm.Unary unary.Address) t (CType.Pointer (type_of x)) a x (is.result ∙ ap (λ e. CType.Pointer (type_of e)) same) same)

  follows : (a : CExpr) (t : CType) → a ≡ decayed x → (o : Option CType) → o ≡ Some t → followed_to at (decayed x) o ≡ Ok (CExpr.expr at t (CForm.Unary unary.Dereference a))
  follows a t is o found = rw (found, is) refl

  followed_it : (a : CExpr) (t : CType) → Becomes x a → IsFollowed structs a t → followed structs at x ≡ Ok (CExpr.expr at t (CForm.Unary unary.Dereference a))
  unfolding followed
  followed_it a t becomes is =
      let same = plain_is x a read.written becomes is.plain in
      follows a t same _ (element_to structs _ t (ap type_of (sym same) ∙ is.to) is.complete)

  signed_to : (op : UnaryOperator) (a : CExpr) (t : CType) → Becomes x a → IsSigned a t → signed at op x ≡ Ok (CExpr.expr at t (CForm.Unary op a))
  unfolding signed
  signed_to op a t becomes is =
      let p = promoted_is x a read.written becomes is.operand in
      let self = number_self x p.number in
      let number : IsNumber (type_of x) = subst (λ e. IsNumber (type_of e)) self p.number in
      let type : t ≡ promoted (type_of x) = is.result ∙ p.type ∙ ap (λ e. promoted (type_of e)) self in
      let operand : a ≡ as_promoted x = p.is ∙ ap as_promoted self in
      passed _ _ _ _ (not_of _ number) (ok_one at (CForm.Unary op) t _ a _ type operand)

  pub tested_to : (line : ℕ) (a : CExpr) → Becomes x a → IsCondition a → tested line x ≡ Ok a
  unfolding tested
  tested_to line a becomes is =
      let same = plain_is x a read.written becomes is.plain in
      let scalar : IsScalar (type_of (decayed x)) = subst (λ e. IsScalar (type_of e)) same is.scalar in
      passed _ _ _ _ (not_of _ scalar) (ap Ok (sym same))

  pub unary_to : (op : UnaryOperator) (a : CExpr) (t : CType) → Becomes x a → IsUnary structs op a t → unary_rule structs at op x ≡ Ok (CExpr.expr at t (CForm.Unary op a))
  unary_to unary.Address a t becomes is = referred_to a t becomes is
  unary_to unary.Dereference a t becomes is = followed_it a t becomes is
  unary_to unary.Plus a t becomes is = signed_to unary.Plus a t becomes is
  unary_to unary.Minus a t becomes is = signed_to unary.Minus a t becomes is
  unary_to unary.Complement a t becomes is = signed_to unary.Complement a t becomes is
  unary_to unary.Not a t becomes is = onward _ _ a _ (tested_to at.line a becomes is.0) (ok_one at (CForm.Unary unary.Not) t CType.Int a a is.1 refl)

  steps_rule : (t : CType) → CanStep structs t → step_rule structs t ≡ None
  steps_rule t (CanStep.number is) = taken _ _ _ _ (or_left (is_number t) (points_to_complete structs t) is) refl
  steps_rule t (CanStep.pointer is) = taken _ _ _ _ (or_right (is_number t) (points_to_complete structs t) (does_point structs t is)) refl

  pub can_assign : IsAssignable x → is_assignable x ≡ true
  can_assign is = rw (is.place, is.no_array) refl

  steps_to : (t : CType) → IsStepped structs x t → steps structs at x ≡ Ok tt
  steps_to t is = passed _ _ _ _ (not_of _ (can_assign is.assignable)) (ap (kept_unless at.line) (steps_rule (type_of x) is.steps))

  pub step_before_to : (op : StepOperator) (t : CType) → IsStepped structs x t → step_before_rule structs at op x ≡ Ok (CExpr.expr at t (CForm.StepBefore op x))
  step_before_to op t is = onward _ _ tt _ (steps_to t is) (ok_one at (CForm.StepBefore op) t (type_of x) x x is.result refl)

  pub step_after_to : (op : StepOperator) (t : CType) → IsStepped structs x t → step_after_rule structs at op x ≡ Ok (CExpr.expr at t (CForm.StepAfter op x))
  step_after_to op t is = onward _ _ tt _ (steps_to t is) (ok_one at (CForm.StepAfter op) t (type_of x) x x is.result refl)

  pub measured_to : (t : CType) → IsMeasured structs x t → measured_rule structs at x ≡ Ok (CExpr.expr at t (CForm.SizeofExpression x))
  unfolding measured_rule
  measured_to t is = passed _ _ _ _ (not_of _ is.complete) (ok_one at CForm.SizeofExpression t CType.Unsigned x x is.result refl)

  indexed_to : (i a b : CExpr) (t : CType) → a ≡ decayed x → b ≡ as_promoted i → is_number (type_of i) ≡ true → (o : Option CType) → o ≡ Some t
      → indexed_at at (decayed x) i o ≡ Ok (CExpr.expr at t (CForm.Index a b))
  indexed_to i a b t left right number o found = rw found (passed _ _ _ _ (not_of _ number) (rw (left, right) refl))

  pub index_to : (i a b : CExpr) (t : CType) → IsRead i → Becomes x a → Becomes i b → IsElement structs a b t → index_rule structs at x i ≡ Ok (CExpr.expr at t (CForm.Index a b))
  unfolding index_rule
  index_to i a b t i_read left right is =
      let same = plain_is x a read.written left is.element.plain in
      let p = promoted_is i b i_read.written right is.distance in
      let self = number_self i p.number in
      indexed_to i a b t same (p.is ∙ ap as_promoted self) (subst (λ e. IsNumber (type_of e)) self p.number) _
      (element_to structs _ t (ap type_of (sym same) ∙ is.element.to) is.element.complete)

  in_it : (t : CType) (struct : ℕ) (name : List ℕ) (m : ℕ) (u : CType) → t ≡ CType.Struct struct → IsNamed structs struct name m u → member_in structs t name ≡ Some (m, u)
  in_it t struct name m u is named = rw is named

  pub member_to : (name : List ℕ) (m : ℕ) (t : CType) → (is : IsMember structs x m t) → IsNamed structs is.struct name m t → member_rule structs at x name ≡ Ok (CExpr.expr at t (CForm.Member x m))
  unfolding member_rule
  member_to name m t is named = ap (member_at_place at x) (in_it (type_of x) is.struct name m t is.of named)

  -- a struct that has a member is complete
  has_any : (o : Option CStruct) (name : List ℕ) (m : ℕ) (t : CType) → member_named name 0 (members_of o) ≡ Some (m, t) → has_members o ≡ true
  has_any None name m t is = absurd cc
  has_any (Some s) name m t is = by s.members refl
    where
      by : (ms : List CMember) → s.members ≡ ms → has_members (Some s) ≡ true
      by [] none = let no : member_named name 0 [] ≡ Some (m, t) = subst (λ ms. member_named name 0 ms ≡ Some (m, t)) none is in absurd cc
      by (first ∷ ms) some = rw some refl

  pub arrow_to_it : (name : List ℕ) (a : CExpr) (m : ℕ) (t : CType) → Becomes x a → (is : IsMemberBehind structs a m t) → IsNamed structs is.struct name m t
      → arrow_rule structs at x name ≡ Ok (CExpr.expr at t (CForm.Arrow a m))
  unfolding arrow_rule
  arrow_to_it name a m t becomes is named =
      let same = plain_is x a read.written becomes is.plain in
      let to : type_of (decayed x) ≡ CType.Pointer (CType.Struct is.struct) = ap type_of (sym same) ∙ is.to in
      let element = element_to structs _ (CType.Struct is.struct) to (has_any (slice_get structs is.struct) name m t named) in
      ap (arrow_to structs at (decayed x) name) element ∙ ap (arrow_at at (decayed x)) named ∙ ap (λ e. Ok (CExpr.expr at t (CForm.Arrow e m))) (sym same)

pub measured_type_to : (structs : List CStruct) (at : At) (t : CType) → IsComplete structs t → measured_type structs at t ≡ Ok (CExpr.expr at CType.Unsigned (CForm.SizeofType t))
unfolding measured_type
measured_type_to structs at t complete = passed _ _ _ _ (not_of _ complete) refl

-- What keeps the rules of typing does so when more structs are known.
use Rattle.std.proofs.Common.{◌≡◌, ℕ, ◌*◌, ◌≤◌, true, List, [], ◌∷◌, ◌++◌, length, refl, sym, ◌∙◌, ap, subst, arith}
use Rattle.std.specs.Prelude.{Option, Some, None, slice_get}
use Rattle.c_words.specs.declared.operators.UnaryOperator.{UnaryOperator}
use Rattle.c_words.specs.declared.operators.UnaryOperator.TheVariants as unary
use Rattle.c_words.specs.declared.operators.BinaryOperator.{BinaryOperator}
use Rattle.c_words.specs.declared.operators.BinaryOperator.TheVariants as binary
use Rattle.c_words.specs.declared.operators.AssignOperator.{AssignOperator}
use Rattle.c_words.specs.declared.operators.AssignOperator.TheVariants as assign
use Rattle.typed_tree.specs.Types.{CType}
use Rattle.typed_tree.specs.TypedTree.{CExpr, CForm, CExprs, CMember, CStruct, type_of}
use Rattle.typed_tree.specs.Sizes.{largest, struct_size, size_of, has_members, IsComplete, IsType, member_type, members_of, member_at}
use Rattle.typed_tree.specs.TypedRules.{IsPointerToComplete, IsMoved, AreAdded, AreSubtracted, IsFollowed, IsUnary, IsBinary, IsElement, IsMember, IsMemberBehind, CanStep, IsStepped, IsChanged, IsAssignment, IsMeasured, part_type}
use Rattle.typed_tree.specs.TypedBody.{Environment, IsExpr, IsForm, AreExprs}
use Rattle.typing_operators.specs.Sound.{IsOperand}
use Rattle.typing_unit_keeps.proofs.Scenes.{at_structs, Extends, HasMoreTags}
use Rattle.typing_unit_keeps.proofs.Steps.{front_kept}

front_shorter : {A : Type 0} (xs ys : List A) → length xs ≤ length (xs ++ ys)
front_shorter [] ys = omega arith
front_shorter (x ∷ xs) ys = let shorter = front_shorter xs ys in omega arith

-- more tags are more structs
pub tags_extend : (old new : List CStruct) → HasMoreTags old new → Extends old new
tags_extend old new more = record {
  longer = subst (λ (s : List CStruct). length old ≤ length s) (sym more.structs) (front_shorter old more.tags);
  kept = λ k s found defined. ap (λ (x : List CStruct). slice_get x k) more.structs ∙ front_kept old more.tags k s found;
}

pub extends_same : (structs : List CStruct) → Extends structs structs
extends_same structs = record { longer = omega arith; kept = λ k s found defined. found }

pub extends_then : (a b c : List CStruct) → Extends a b → Extends b c → Extends a c
extends_then a b c m n =
    let shorter = m.longer in
    let longer = n.longer in
    record { longer = omega arith; kept = λ k s found defined. n.kept k s (m.kept k s found defined) defined }

module _ (old new : List CStruct) (later : Extends old new) where
  defined_later : (k : ℕ) (o : Option CStruct) → slice_get old k ≡ o → has_members o ≡ true → slice_get new k ≡ o
  defined_later k None found defined = absurd cc
  defined_later k (Some s) found defined = later.kept k s found defined

  pub struct_later : (k : ℕ) → has_members (slice_get old k) ≡ true → slice_get new k ≡ slice_get old k
  struct_later k defined = defined_later k (slice_get old k) refl defined

  pub complete_later : (t : CType) → IsComplete old t → IsComplete new t
  complete_later CType.Void h = absurd cc
  complete_later CType.Char h = refl
  complete_later CType.Int h = refl
  complete_later CType.Unsigned h = refl
  complete_later (CType.Struct k) h = ap has_members (struct_later k h) ∙ h
  complete_later (CType.Pointer t) h = refl
  complete_later (CType.Array t n) h = complete_later t h

  pub size_later : (t : CType) → IsComplete old t → size_of new t ≡ size_of old t
  size_later CType.Void h = refl
  size_later CType.Char h = refl
  size_later CType.Int h = refl
  size_later CType.Unsigned h = refl
  size_later (CType.Struct k) h = ap struct_size (struct_later k h)
  size_later (CType.Pointer t) h = refl
  size_later (CType.Array t n) h = ap (λ size. size * n) (size_later t h)

  pub type_later : (t : CType) → IsType old t → IsType new t
  type_later CType.Void h = tt
  type_later CType.Char h = tt
  type_later CType.Int h = tt
  type_later CType.Unsigned h = tt
  type_later (CType.Struct k) h = let longer = later.longer in omega arith
  type_later (CType.Pointer t) h = type_later t h
  type_later (CType.Array t n) h =
      (type_later t h.0, complete_later t h.1, h.2, subst (λ size. size * n ≤ largest) (sym (size_later t h.1)) h.3)

  member_is_defined : (o : Option CStruct) (m : ℕ) (t : CType) → member_type (slice_get (members_of o) m) ≡ Some t → has_members o ≡ true
  member_is_defined None m t h = absurd cc
  member_is_defined (Some s) m t h = some s.members h
    where
      some : (ms : List CMember) → member_type (slice_get ms m) ≡ Some t → has_members (Some (record s { members = ms })) ≡ true
      some [] h = absurd cc
      some (x ∷ ms) h = refl

  pub member_later : (k m : ℕ) (t : CType) → member_at old k m ≡ Some t → member_at new k m ≡ Some t
  member_later k m t h =
      ap (λ o. member_type (slice_get (members_of o) m)) (struct_later k (member_is_defined (slice_get old k) m t h)) ∙ h

  pub part_later : (t : CType) (i : ℕ) (u : CType) → part_type old t i ≡ Some u → part_type new t i ≡ Some u
  part_later CType.Void i u h = absurd cc
  part_later CType.Char i u h = absurd cc
  part_later CType.Int i u h = absurd cc
  part_later CType.Unsigned i u h = absurd cc
  part_later (CType.Struct k) i u h = member_later k i u h
  part_later (CType.Pointer t) i u h = absurd cc
  part_later (CType.Array t n) i u h = h

  pointer_later : (t : CType) → IsPointerToComplete old t → IsPointerToComplete new t
  pointer_later CType.Void h = absurd h
  pointer_later CType.Char h = absurd h
  pointer_later CType.Int h = absurd h
  pointer_later CType.Unsigned h = absurd h
  pointer_later (CType.Struct k) h = absurd h
  pointer_later (CType.Pointer t) h = complete_later t h
  pointer_later (CType.Array t n) h = absurd h

  moved_later : (a b : CExpr) (t : CType) → IsMoved old a b t → IsMoved new a b t
  moved_later a b t h = record { plain = h.plain; complete = pointer_later (type_of a) h.complete; distance = h.distance; result = h.result }

  added_later : (a b : CExpr) (t : CType) → AreAdded old a b t → AreAdded new a b t
  added_later a b t (AreAdded.numbers h) = AreAdded.numbers h
  added_later a b t (AreAdded.pointer_and_number h) = AreAdded.pointer_and_number (moved_later a b t h)
  added_later a b t (AreAdded.number_and_pointer h) = AreAdded.number_and_pointer (moved_later b a t h)

  subtracted_later : (a b : CExpr) (t : CType) → AreSubtracted old a b t → AreSubtracted new a b t
  subtracted_later a b t (AreSubtracted.numbers h) = AreSubtracted.numbers h
  subtracted_later a b t (AreSubtracted.pointer_and_number h) = AreSubtracted.pointer_and_number (moved_later a b t h)
  subtracted_later a b t (AreSubtracted.pointers h) =
      AreSubtracted.pointers (record { left = h.left; right = h.right; one_type = h.one_type; complete = pointer_later (type_of a) h.complete; result = h.result })

  followed_later : (e : CExpr) (t : CType) → IsFollowed old e t → IsFollowed new e t
  followed_later e t h = record { plain = h.plain; to = h.to; complete = complete_later t h.complete }

  unary_later : (op : UnaryOperator) (e : CExpr) (t : CType) → IsUnary old op e t → IsUnary new op e t
  unary_later unary.Dereference e t h = followed_later e t h
  unary_later unary.Address e t h = h
  unary_later unary.Plus e t h = h
  unary_later unary.Minus e t h = h
  unary_later unary.Complement e t h = h
  unary_later unary.Not e t h = h

  binary_later : (op : BinaryOperator) (a b : CExpr) (t : CType) → IsBinary old op a b t → IsBinary new op a b t
  binary_later binary.Add a b t h = added_later a b t h
  binary_later binary.Subtract a b t h = subtracted_later a b t h
  binary_later _ a b t h = h

  element_later : (a b : CExpr) (t : CType) → IsElement old a b t → IsElement new a b t
  element_later a b t h = record { element = followed_later a t h.element; distance = h.distance }

  is_member_later : (e : CExpr) (m : ℕ) (t : CType) → IsMember old e m t → IsMember new e m t
  is_member_later e m t h = record { struct = h.struct; of = h.of; found = member_later h.struct m t h.found }

  behind_later : (e : CExpr) (m : ℕ) (t : CType) → IsMemberBehind old e m t → IsMemberBehind new e m t
  behind_later e m t h = record { plain = h.plain; struct = h.struct; to = h.to; found = member_later h.struct m t h.found }

  step_later : (t : CType) → CanStep old t → CanStep new t
  step_later t (CanStep.number h) = CanStep.number h
  step_later t (CanStep.pointer h) = CanStep.pointer (pointer_later t h)

  stepped_later : (e : CExpr) (t : CType) → IsStepped old e t → IsStepped new e t
  stepped_later e t h = record { assignable = h.assignable; steps = step_later (type_of e) h.steps; result = h.result }

  changed_later : (a b : CExpr) (t : CType) → IsChanged old a b t → IsChanged new a b t
  changed_later a b t (IsChanged.numbers h) = IsChanged.numbers h
  changed_later a b t (IsChanged.pointer_and_number assignable h) = IsChanged.pointer_and_number assignable (moved_later a b t h)

  assignment_later : (op : AssignOperator) (a b : CExpr) (t : CType) → IsAssignment old op a b t → IsAssignment new op a b t
  assignment_later assign.Add a b t h = changed_later a b t h
  assignment_later assign.Subtract a b t h = changed_later a b t h
  assignment_later _ a b t h = h

  measured_later : (e : CExpr) (t : CType) → IsMeasured old e t → IsMeasured new e t
  measured_later e t h = record { written = h.written; complete = complete_later (type_of e) h.complete; result = h.result }

  module _ (names : Environment) where
    mutual
      pub expr_later : (e : CExpr) → IsExpr (at_structs names old) e → IsExpr (at_structs names new) e
      expr_later (CExpr.expr at t form) h = (type_later t h.0, form_later t form h.1)

      form_later : (t : CType) (form : CForm) → IsForm (at_structs names old) t form → IsForm (at_structs names new) t form
      form_later t (CForm.Local k) h = h
      form_later t (CForm.Global k) h = h
      form_later t (CForm.Text k) h = h
      form_later t (CForm.Number n) h = h
      form_later t (CForm.Character n) h = h
      form_later t CForm.Null h = h
      form_later t CForm.Eof h = h
      form_later t (CForm.Convert c e) h = (expr_later e h.0, h.1)
      form_later t (CForm.Index a b) h = (expr_later a h.0, expr_later b h.1, element_later a b t h.2)
      form_later t (CForm.Call f es) h = (exprs_later es h.0, h.1)
      form_later t (CForm.Member e m) h = (expr_later e h.0, is_member_later e m t h.1)
      form_later t (CForm.Arrow e m) h = (expr_later e h.0, behind_later e m t h.1)
      form_later t (CForm.StepBefore op e) h = (expr_later e h.0, stepped_later e t h.1)
      form_later t (CForm.StepAfter op e) h = (expr_later e h.0, stepped_later e t h.1)
      form_later t (CForm.Unary op e) h = (expr_later e h.0, unary_later op e t h.1)
      form_later t (CForm.Binary op a b) h = (expr_later a h.0, expr_later b h.1, binary_later op a b t h.2)
      form_later t (CForm.Conditional c a b) h = (expr_later c h.0, expr_later a h.1, expr_later b h.2, h.3, h.4)
      form_later t (CForm.Assign op a b) h = (expr_later a h.0, expr_later b h.1, assignment_later op a b t h.2)
      form_later t (CForm.Comma a b) h = (expr_later a h.0, expr_later b h.1, h.2)
      form_later t (CForm.Cast e) h = (expr_later e h.0, h.1)
      form_later t (CForm.SizeofExpression e) h = (expr_later e h.0, measured_later e t h.1)
      form_later t (CForm.SizeofType u) h = (type_later u h.0, complete_later u h.1, h.2)

      pub exprs_later : (es : CExprs) → AreExprs (at_structs names old) es → AreExprs (at_structs names new) es
      exprs_later CExprs.none h = tt
      exprs_later (CExprs.more e es) h = (expr_later e h.0, exprs_later es h.1)

    pub operand_later : (e : CExpr) → IsOperand (at_structs names old) e → IsOperand (at_structs names new) e
    operand_later e h = record { typed = expr_later e h.typed; written = h.written }

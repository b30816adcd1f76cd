-- What is known of a function of a typed program.
use Rattle.std.proofs.Common.{◌≡◌, ℕ, Bool, true, false, Some, refl, sym, ap, ◌∙◌}
use Rattle.std.specs.Prelude.{◌||◌, All, IsTrue, map, slice_get}
use Rattle.std.proofs.lemmas.Bool.{true≢false}
use Rattle.typed_tree.specs.Types.{CType, is_array, is_struct}
use Rattle.typed_tree.specs.TypedTree.{CExpr, CLocal, CFunction, CProgram, type_of}
use Rattle.typed_tree.specs.TypedOperands.{has_object}
use Rattle.typed_tree.specs.TypedRules.{IsResult, prototype_of}
use Rattle.typed_tree.specs.TypedBody.{IsExpr}
use Rattle.typed_tree.specs.TypedLaws.{AggregatesHaveObjects}
use Rattle.typed_tree.specs.Typed.{IsLocalObject, environment_of, stmt_refers}
use Rattle.meaning_kinds.proofs.Finding.{block_parts}

pub record Setting (p : CProgram) (f : CFunction) : Type 0 where
  pub objects : AggregatesHaveObjects
  pub results : All (λ q. IsResult q.result) (map prototype_of p.functions)
  pub locals : (k : ℕ) (l : CLocal) → slice_get f.locals k ≡ Some l → IsLocalObject p f k l

module _ (p : CProgram) (f : CFunction) (given : Setting p f) where
  -- a kept local is no array and no struct, and `&` is applied to it nowhere
  pub kept_parts : (k : ℕ) (l : CLocal) → slice_get f.locals k ≡ Some l → l.is_block ≡ false → (is_array l.ty ≡ false) × (is_struct l.ty ≡ false) × (stmt_refers k f.body ≡ false)
  kept_parts k l found kept = block_parts (is_array l.ty) (is_struct l.ty) (stmt_refers k f.body) l.is_block (given.locals k l found).is_block kept

  pub no_array : (t : CType) → is_array t ≡ true → (k : ℕ) (l : CLocal) → slice_get f.locals k ≡ Some l → l.is_block ≡ false → l.ty ≡ t → ⊥
  no_array t is k l found kept e = true≢false (sym is ∙ ap is_array (sym e) ∙ (kept_parts k l found kept).0)

  pub no_struct : (t : CType) → is_struct t ≡ true → (k : ℕ) (l : CLocal) → slice_get f.locals k ≡ Some l → l.is_block ≡ false → l.ty ≡ t → ⊥
  no_struct t is k l found kept e = true≢false (sym is ∙ ap is_struct (sym e) ∙ (kept_parts k l found kept).1)

  pub struct_has_object : (e : CExpr) → IsExpr (environment_of p f) e → is_struct (type_of e) ≡ true → IsTrue (has_object e)
  struct_has_object e ie is = given.objects (environment_of p f) e given.results ie (ap (λ b. b || is_array (type_of e)) is)

  pub array_has_object : (e : CExpr) → IsExpr (environment_of p f) e → is_array (type_of e) ≡ true → IsTrue (has_object e)
  array_has_object e ie is = given.objects (environment_of p f) e given.results ie (of (is_struct (type_of e)) (is_array (type_of e)) is)
    where
      of : (a b : Bool) → b ≡ true → a || b ≡ true
      of true b h = refl
      of false b h = h

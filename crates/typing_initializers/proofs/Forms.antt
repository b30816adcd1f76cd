-- The forms of expressions that a global may hold.
use Rattle.std.proofs.Common.{◌≡◌, ℕ, List, refl, false, sym, ◌∙◌, ap, Global}
use Rattle.std.specs.Prelude.{Box, Option, Some, None, is_some}
use Rattle.c_words.specs.declared.place.At.{At}
use Rattle.typed_tree.specs.declared.typed.GlobalObject.{GlobalObject}
use Rattle.typed_tree.specs.declared.types.Ty.{Ty}
use Rattle.typed_tree.specs.declared.types.Ty.TheVariants as types
use Rattle.typed_tree.specs.declared.typed_expr.Conversion.TheVariants.{ArrayToPointer}
use Rattle.typed_tree.specs.declared.typed_expr.TypedExpr.{TypedExpr}
use Rattle.typed_tree.specs.Types.{CType}
use Rattle.typed_tree.specs.TypesViewed.{ty_of}
use Rattle.typed_tree.specs.TypedTree.{CExpr, CForm, CStruct}
use Rattle.typed_tree.specs.TypedViews.{viewed, form_view, expr_of}
use Rattle.typing_operators.specs.Constants.{constant, of_one, conversion_value}
use Rattle.typing_operators.specs.Conversions.{decayed}
use Rattle.typing_expressions.specs.Initializers.{pointed_array, value_bytes, bytes_by}
use Rattle.typing_initializers.specs.InitializerSteps.{is_allowed}

pointed : (t : CType) (c : Option ℕ) (o : Option GlobalObject) → is_some (bytes_by (CType.Pointer t) (of_one c (λ n. conversion_value ArrayToPointer (CType.Pointer t) n)) false o) ≡ is_some o
pointed t None None = refl
pointed t None (Some x) = refl
pointed t (Some n) None = refl
pointed t (Some n) (Some x) = refl

-- an array is the address of its object
array_allowed : (structs : List CStruct) (at : At) (t : CType) (n : ℕ) (form : CForm) → is_allowed structs (CExpr.expr at (CType.Array t n) form) ≡ is_some (pointed_array (CExpr.expr at (CType.Array t n) form))
unfolding decayed value_bytes
array_allowed structs at t n form = pointed t (constant structs (CExpr.expr at (CType.Array t n) form)) (pointed_array (CExpr.expr at (CType.Array t n) form))

pub array_form : (structs : List CStruct) (e : TypedExpr) (element : Box Ty Global) (n : ℕ) → e.ty ≡ types.Array element n → is_allowed structs (expr_of e) ≡ is_some (pointed_array (expr_of e))
array_form structs e element n h =
    ap (λ (t : Ty). is_allowed structs (viewed e.at t (form_view e.form))) h
    ∙ array_allowed structs e.at (ty_of element.value) n (form_view e.form)
    ∙ sym (ap (λ (t : Ty). is_some (pointed_array (viewed e.at t (form_view e.form)))) h)

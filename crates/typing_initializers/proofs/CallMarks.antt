-- The arguments of a call are marked one after another.
use Rattle.std.proofs.Common.{◌≡◌, List, Bool, ◌∙◌, ap, Vec, Global}
use Rattle.typed_tree.specs.declared.typed_expr.Called.{Called}
use Rattle.typed_tree.specs.declared.typed_expr.TypedExpr.{TypedExpr}
use Rattle.typed_tree.specs.declared.typed_expr.TypedForm.{TypedForm}
use Rattle.typed_tree.specs.declared.typed_expr.TypedForm.TheVariants as form
use Rattle.typed_tree.specs.TypedViews.{viewed, form_view, expr_of, exprs_of}
use Rattle.typed_tree.proofs.TypedViewed.{view-Call}
use Rattle.typed_tree.specs.TypedTree.{CForm}
use Rattle.typed_tree.specs.Walk.{walked_all}
use Rattle.typing_initializers.specs.Marks.{mark_expr, mark_step, in_turn}

pub call_marked : (e : TypedExpr) (f : Called) (es : Vec TypedExpr Global) (marks : List Bool) → e.form ≡ form.Call f es
    → mark_expr (expr_of e) marks ≡ in_turn (walked_all mark_step (exprs_of es.items)) marks
call_marked e f es marks h =
    ap (λ (x : TypedForm). mark_expr (viewed e.at e.ty (form_view x)) marks) h ∙ ap (λ (y : CForm). mark_expr (viewed e.at e.ty y) marks) (view-Call f es)

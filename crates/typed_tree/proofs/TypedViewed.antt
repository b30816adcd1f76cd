-- What each variant of the typed tree stands for.
use Rattle.std.proofs.Common.{◌≡◌, ℕ, rules, Vec, Global, refl, ap}
use Rattle.std.specs.Prelude.{Box, Option, Some, None}
use Rattle.std.specs.Option.{option_map}
use Rattle.c_words.specs.declared.place.At.{At}
use Rattle.typed_tree.specs.declared.typed_expr.Called.{Called}
use Rattle.typed_tree.specs.declared.typed_expr.TypedExpr.{TypedExpr}
use Rattle.typed_tree.specs.declared.typed_expr.TypedForm.{the_lemmas as form_lemmas, Row_of-TypedExpr, end_of-TypedExpr, more_of-TypedExpr, items-the_row-TypedExpr}
use Rattle.typed_tree.specs.declared.typed_expr.TypedForm.TheVariants as form
use Rattle.typed_tree.specs.declared.typed_stmt.TypedInitial.{TypedInitial, the_lemmas as initial_lemmas}
use Rattle.typed_tree.specs.declared.typed_stmt.TypedInitial.TheVariants as initial
use Rattle.typed_tree.specs.declared.typed_stmt.TypedDeclaration.{TypedDeclaration}
use Rattle.typed_tree.specs.declared.typed_stmt.TypedStart.{TypedStart}
use Rattle.typed_tree.specs.declared.typed_stmt.TypedStmt.{TypedStmt, the_lemmas as stmt_lemmas}
use Rattle.typed_tree.specs.declared.typed_stmt.TypedStmt.TheVariants as stmt
use Rattle.typed_tree.specs.TypedTree.{CForm, CExprs, CInitial, CStmt}
use Rattle.typed_tree.specs.TypedViews.{viewed, form_view, row_view, expr_of, exprs_of, initial_of, initials_of, declaration_of, start_of, stmt_of, stmts_of}

-- a call's arguments, in the row of its `Vec` and as a list
row_is : (n : _) (r : Row_of-TypedExpr n) → row_view r ≡ exprs_of (items-the_row-TypedExpr n r)
row_is _ end_of-TypedExpr = refl
row_is n (more_of-TypedExpr at t e rest) = ap (CExprs.more (viewed at t (form_view e))) (row_is _ rest)

pub view-Call : (f : Called) (es : Vec TypedExpr Global) → form_view (form.Call f es) ≡ CForm.Call f (exprs_of es.items)
view-Call f es = search (rules, form_lemmas, row_is)

pub view-Value : (e : TypedExpr) → initial_of (initial.Value e) ≡ CInitial.Value (expr_of e)
view-Value e = search (rules, initial_lemmas)

pub view-Text : (at : At) (bytes : Vec ℕ Global) → initial_of (initial.Text at bytes) ≡ CInitial.Text at bytes.items
view-Text at bytes = search (rules, initial_lemmas)

pub view-Braces : (at : At) (parts : Vec TypedInitial Global) → initial_of (initial.Braces at parts) ≡ CInitial.Braces at (initials_of parts.items)
view-Braces at parts = search (rules, initial_lemmas)

pub view-Block : (at : At) (xs : Vec TypedStmt Global) → stmt_of (stmt.Block at xs) ≡ CStmt.Block at (stmts_of xs.items)
view-Block at xs = search (rules, stmt_lemmas)

pub view-Declare : (d : TypedDeclaration) → stmt_of (stmt.Declare d) ≡ CStmt.Declare (declaration_of d)
view-Declare d = search (rules, stmt_lemmas)

pub view-Empty : (at : At) → stmt_of (stmt.Empty at) ≡ CStmt.Empty at
view-Empty at = search (rules, stmt_lemmas)

pub view-Eval : (at : At) (e : TypedExpr) → stmt_of (stmt.Eval at e) ≡ CStmt.Eval at (expr_of e)
view-Eval at e = search (rules, stmt_lemmas)

pub view-If : (at : At) (c : TypedExpr) (x : Box TypedStmt Global) → stmt_of (stmt.If at c x None) ≡ CStmt.If at (expr_of c) (stmt_of x.value)
view-If at c x = search (rules, stmt_lemmas)

pub view-IfElse : (at : At) (c : TypedExpr) (x y : Box TypedStmt Global) → stmt_of (stmt.If at c x (Some y)) ≡ CStmt.IfElse at (expr_of c) (stmt_of x.value) (stmt_of y.value)
view-IfElse at c x y = search (rules, stmt_lemmas)

pub view-While : (at : At) (c : TypedExpr) (x : Box TypedStmt Global) → stmt_of (stmt.While at c x) ≡ CStmt.While at (expr_of c) (stmt_of x.value)
view-While at c x = search (rules, stmt_lemmas)

pub view-Do : (at : At) (x : Box TypedStmt Global) (c : TypedExpr) → stmt_of (stmt.Do at x c) ≡ CStmt.Do at (stmt_of x.value) (expr_of c)
view-Do at x c = search (rules, stmt_lemmas)

pub view-For : (at : At) (start : TypedStart) (c step : Option TypedExpr) (x : Box TypedStmt Global) → stmt_of (stmt.For at start c step x) ≡ CStmt.For at (start_of start) (option_map expr_of c) (option_map expr_of step) (stmt_of x.value)
view-For at start c step x = search (rules, stmt_lemmas)

pub view-Break : (at : At) → stmt_of (stmt.Break at) ≡ CStmt.Break at
view-Break at = search (rules, stmt_lemmas)

pub view-Continue : (at : At) → stmt_of (stmt.Continue at) ≡ CStmt.Continue at
view-Continue at = search (rules, stmt_lemmas)

pub view-Return : (at : At) (e : Option TypedExpr) → stmt_of (stmt.Return at e) ≡ CStmt.Return at (option_map expr_of e)
view-Return at e = search (rules, stmt_lemmas)

-- the views of all variants that do not compute
pub ruleset typed_views = (view-Call, view-Value, view-Text, view-Braces, view-Block, view-Declare, view-Empty, view-Eval, view-If, view-IfElse, view-While, view-Do, view-For, view-Break, view-Continue, view-Return)

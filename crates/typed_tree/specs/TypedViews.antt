-- What the trees of the program stand for: one view for each type, to the type of the same name in `TypedTree`.
use Rattle.std.specs.Prelude.{List, [], ◌∷◌, map, Some, None}
use Rattle.std.specs.Option.{option_map}
use Rattle.c_words.specs.declared.place.At.{At}
use Rattle.typed_tree.specs.declared.types.Ty.{Ty}
use Rattle.typed_tree.specs.declared.types.Member.{Member as TheMember}
use Rattle.typed_tree.specs.declared.types.StructType.{StructType}
use Rattle.typed_tree.specs.declared.typed_expr.TypedExpr.{TypedExpr}
use Rattle.typed_tree.specs.declared.typed_expr.TypedForm.{TypedForm, Local, Global, Text, Number, Character, Null, Eof, Convert', Index', Call'}
use Rattle.typed_tree.specs.declared.typed_expr.TypedForm.{Member', Arrow', StepBefore', StepAfter', Unary', Binary', Conditional', Assign', Comma'}
use Rattle.typed_tree.specs.declared.typed_expr.TypedForm.{Cast', SizeofExpression', SizeofType, end_of-TypedExpr, more_of-TypedExpr, Row_of-TypedExpr}
use Rattle.typed_tree.specs.declared.typed_stmt.TypedInitial.{TypedInitial, fold-TypedInitial}
use Rattle.typed_tree.specs.declared.typed_stmt.TypedInitial.TheOpen.{TypedInitial-F}
use Rattle.typed_tree.specs.declared.typed_stmt.TypedInitializer.{TypedInitializer}
use Rattle.typed_tree.specs.declared.typed_stmt.TypedDeclaration.{TypedDeclaration}
use Rattle.typed_tree.specs.declared.typed_stmt.TypedStart.{TypedStart}
use Rattle.typed_tree.specs.declared.typed_stmt.TypedStart.TheVariants as f
use Rattle.typed_tree.specs.declared.typed_stmt.TypedStmt.{TypedStmt, fold-TypedStmt}
use Rattle.typed_tree.specs.declared.typed_stmt.TypedStmt.TheOpen.{TypedStmt-F}
use Rattle.typed_tree.specs.declared.typed.Global.{Global as TheGlobal}
use Rattle.typed_tree.specs.declared.typed.Local.{Local as TheLocal}
use Rattle.typed_tree.specs.declared.typed.Function.{Function}
use Rattle.typed_tree.specs.declared.typed.Program.{Program}
use Rattle.typed_tree.specs.TypesViewed.{ty_of}
use Rattle.typed_tree.specs.TypedTree.{CExpr, CForm, CExprs, CInitial, CInitials, CInitializer, CDeclaration, CStart}
use Rattle.typed_tree.specs.TypedTree.{CStmt, CStmts, CMember, CStruct, CGlobal, CLocal, CFunction, CProgram}

abbrev pub viewed : At → Ty → CForm → CExpr
viewed at ty form = CExpr.expr at (ty_of ty) form

abbrev mutual
  pub form_view : TypedForm → CForm
  form_view (Local n) = CForm.Local n
  form_view (Global n) = CForm.Global n
  form_view (Text n) = CForm.Text n
  form_view (Number n) = CForm.Number n
  form_view (Character n) = CForm.Character n
  form_view Null = CForm.Null
  form_view Eof = CForm.Eof
  form_view (Convert' c p at t e) = CForm.Convert c (viewed at t (form_view e))
  form_view (Index' p at t e p' at' t' e') = CForm.Index (viewed at t (form_view e)) (viewed at' t' (form_view e'))
  form_view (Call' called shape es) = CForm.Call called (row_view es)
  form_view (Member' p at t e m) = CForm.Member (viewed at t (form_view e)) m
  form_view (Arrow' p at t e m) = CForm.Arrow (viewed at t (form_view e)) m
  form_view (StepBefore' op p at t e) = CForm.StepBefore op (viewed at t (form_view e))
  form_view (StepAfter' op p at t e) = CForm.StepAfter op (viewed at t (form_view e))
  form_view (Unary' op p at t e) = CForm.Unary op (viewed at t (form_view e))
  form_view (Binary' op p at t e p' at' t' e') = CForm.Binary op (viewed at t (form_view e)) (viewed at' t' (form_view e'))
  form_view (Conditional' p at t e p' at' t' e' p'' at'' t'' e'') =
      CForm.Conditional (viewed at t (form_view e)) (viewed at' t' (form_view e')) (viewed at'' t'' (form_view e''))
  form_view (Assign' op p at t e p' at' t' e') = CForm.Assign op (viewed at t (form_view e)) (viewed at' t' (form_view e'))
  form_view (Comma' p at t e p' at' t' e') = CForm.Comma (viewed at t (form_view e)) (viewed at' t' (form_view e'))
  form_view (Cast' p at t e) = CForm.Cast (viewed at t (form_view e))
  form_view (SizeofExpression' p at t e) = CForm.SizeofExpression (viewed at t (form_view e))
  form_view (SizeofType t) = CForm.SizeofType (ty_of t)

  pub row_view : {m : _} → Row_of-TypedExpr m → CExprs
  row_view end_of-TypedExpr = CExprs.none
  row_view (more_of-TypedExpr at t e rest) = CExprs.more (viewed at t (form_view e)) (row_view rest)

-- the expression that a `TypedExpr` stands for
abbrev pub expr_of : TypedExpr → CExpr
expr_of e = viewed e.at e.ty (form_view e.form)

abbrev pub exprs : List CExpr → CExprs
exprs [] = CExprs.none
exprs (e ∷ es) = CExprs.more e (exprs es)

abbrev pub exprs_of : List TypedExpr → CExprs
exprs_of es = exprs (map expr_of es)

abbrev pub initials : List CInitial → CInitials
initials [] = CInitials.none
initials (x ∷ xs) = CInitials.more x (initials xs)

abbrev pub initial_level : TypedInitial-F CInitial → CInitial
initial_level (TypedInitial-F.Value e) = CInitial.Value (expr_of e)
initial_level (TypedInitial-F.Text at bytes) = CInitial.Text at bytes.items
initial_level (TypedInitial-F.Braces at parts) = CInitial.Braces at (initials parts.items)

abbrev pub initial_of : TypedInitial → CInitial
initial_of = fold-TypedInitial CInitial initial_level

abbrev pub initials_of : List TypedInitial → CInitials
initials_of xs = initials (map initial_of xs)

abbrev pub initializer_of : TypedInitializer → CInitializer
initializer_of i = record { at = i.at; value = initial_of i.value }

abbrev pub declaration_of : TypedDeclaration → CDeclaration
declaration_of d = record { at = d.at; local = d.local; initializer = option_map initializer_of d.initializer }

abbrev pub start_of : TypedStart → CStart
start_of f.Nothing = CStart.Nothing
start_of (f.Eval e) = CStart.Eval (expr_of e)
start_of (f.Declare ds) = CStart.Declare (map declaration_of ds.items)

abbrev pub stmts : List CStmt → CStmts
stmts [] = CStmts.none
stmts (x ∷ xs) = CStmts.more x (stmts xs)

abbrev pub stmt_level : TypedStmt-F CStmt → CStmt
stmt_level (TypedStmt-F.Block at xs) = CStmt.Block at (stmts xs.items)
stmt_level (TypedStmt-F.Declare d) = CStmt.Declare (declaration_of d)
stmt_level (TypedStmt-F.Empty at) = CStmt.Empty at
stmt_level (TypedStmt-F.Eval at e) = CStmt.Eval at (expr_of e)
stmt_level (TypedStmt-F.If at c body None) = CStmt.If at (expr_of c) body.value
stmt_level (TypedStmt-F.If at c body (Some otherwise)) = CStmt.IfElse at (expr_of c) body.value otherwise.value
stmt_level (TypedStmt-F.While at c body) = CStmt.While at (expr_of c) body.value
stmt_level (TypedStmt-F.Do at body c) = CStmt.Do at body.value (expr_of c)
stmt_level (TypedStmt-F.For at start c step body) =
    CStmt.For at (start_of start) (option_map expr_of c) (option_map expr_of step) body.value
stmt_level (TypedStmt-F.Break at) = CStmt.Break at
stmt_level (TypedStmt-F.Continue at) = CStmt.Continue at
stmt_level (TypedStmt-F.Return at e) = CStmt.Return at (option_map expr_of e)

-- the statement that a `TypedStmt` stands for
abbrev pub stmt_of : TypedStmt → CStmt
stmt_of = fold-TypedStmt CStmt stmt_level

abbrev pub stmts_of : List TypedStmt → CStmts
stmts_of xs = stmts (map stmt_of xs)

abbrev pub member_of : TheMember → CMember
member_of m = record { name = m.name; ty = ty_of m.ty; offset = m.offset }

abbrev pub struct_of : StructType → CStruct
struct_of s = record { tag = s.tag; members = map member_of s.members; size = s.size; align = s.align }

abbrev pub global_of : TheGlobal → CGlobal
global_of g = record { name = g.name; ty = ty_of g.ty; size = g.size; initial = g.initial }

abbrev pub local_of : TheLocal → CLocal
local_of l = record { name = l.name; ty = ty_of l.ty; size = l.size; is_block = l.is_block }

abbrev pub function_of : Function → CFunction
function_of f = record { name = f.name; line = f.line; result = ty_of f.result; params = f.params; locals = map local_of f.locals; body = stmt_of f.body }

-- the program that a `Program` stands for
abbrev pub program_of : Program → CProgram
program_of p = record {
  structs = map struct_of p.structs;
  globals = map global_of p.globals;
  texts = p.texts;
  functions = map function_of p.functions;
  main =
      p.main;
}

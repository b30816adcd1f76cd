-- The code of a program is no longer than its nodes allow.
use Rattle.std.specs.Prelude.{map, sum, slice_get}
use Rattle.std.proofs.Common.{◌≡◌, ℕ, suc, ◌+◌, ◌*◌, ◌≤◌, Bool, true, false, List, [], ◌∷◌, length, Option, Some, None, refl, ap, arith}
use Rattle.std.proofs.lemmas.List.Sums.{sum_by-cons}
use Rattle.c_words.specs.declared.operators.UnaryOperator.{UnaryOperator}
use Rattle.c_words.specs.declared.operators.UnaryOperator.TheVariants as unary
use Rattle.c_words.specs.declared.operators.StepOperator.{StepOperator}
use Rattle.c_words.specs.declared.operators.BinaryOperator.{BinaryOperator}
use Rattle.c_words.specs.declared.operators.BinaryOperator.TheVariants as op
use Rattle.c_words.specs.declared.operators.AssignOperator.{AssignOperator}
use Rattle.c_words.specs.declared.operators.AssignOperator.TheVariants as assign
use Rattle.typed_tree.specs.declared.typed_expr.Called.{Called}
use Rattle.typed_tree.specs.declared.typed_expr.Called.TheVariants as called
use Rattle.typed_tree.specs.Types.{CType, is_unsigned}
use Rattle.typed_tree.specs.TypedTree.{CExpr, CForm, CExprs, CInitial, CInitializer, CDeclaration, CStart, CStmt, CStmts, CStruct, CFunction, CProgram, type_of}
use Rattle.typed_tree.specs.Counts.{nodes_of, own_nodes, nodes_of_function, nodes_of_functions, nodes_of_program}
use Rattle.typed_tree.specs.Walk.{walked_all, over_initial, over_initializer, over_declaration, over_declarations, over_start, over_expr_if_any, over_stmt, over_stmts}
use Rattle.mid_code.specs.Code.{Step, Steps, append}
use Rattle.mid_code.specs.Code.Steps.{stop, step as more}
use Rattle.mid_code.specs.Weight.{weight_of, weight_of_all, weight_of_function, weight_of_functions, weight}
use Rattle.std.specs.Prelude.{if◌then◌else◌}
use Rattle.bb_words.specs.Answers.{either}
use Rattle.source_meaning.specs.Operators.{binary_of, is_shift}
use Rattle.lowering_keeps.proofs.Fits.{is_unconverted, Fits, AllFit, FitsIfAny, InitialFits, InitializerFits, DeclarationFits, DeclarationsFit, StartFits, StmtFits, StmtsFit, gives, FunctionFits, ProgramFits}
use Rattle.lowering_counts.specs.Room as room
use Rattle.lowering_code.specs.Lower.{only, operation, fitting, casting, flagged, one_operand, stepping, compound, binary_steps, second_at, assign_steps, right_at, local_of, places, calling, code, all_code, code_if_any, leaving, test_code, initial_code, initializer_code, declaration_code, declarations_code, start_code, stmt_code, stmts_code, function_code, lowered}

weight_more : (xs ys : Steps) → weight_of_all (append xs ys) ≡ weight_of_all xs + weight_of_all ys
weight_more stop ys = omega arith
weight_more (more x xs) ys = omega (arith, weight_more xs ys)

light_operation : (o : BinaryOperator) (u : Bool) (line t a b : ℕ) → weight_of (operation o u line t a b) ≤ 72
light_operation op.Multiply u line t a b = omega arith
light_operation op.Divide u line t a b = omega arith
light_operation op.Remainder u line t a b = omega arith
light_operation op.Add u line t a b = omega arith
light_operation op.Subtract u line t a b = omega arith
light_operation op.ShiftLeft u line t a b = omega arith
light_operation op.ShiftRight u line t a b = omega arith
light_operation op.Less u line t a b = omega arith
light_operation op.Greater u line t a b = omega arith
light_operation op.LessEqual u line t a b = omega arith
light_operation op.GreaterEqual u line t a b = omega arith
light_operation op.Equal u line t a b = omega arith
light_operation op.NotEqual u line t a b = omega arith
light_operation op.BitAnd u line t a b = omega arith
light_operation op.BitXor u line t a b = omega arith
light_operation op.BitOr u line t a b = omega arith
light_operation op.LogicalAnd u line t a b = omega arith
light_operation op.LogicalOr u line t a b = omega arith

light_fitting : (u : CType) (t : ℕ) → weight_of_all (fitting u t) ≤ 40
light_fitting CType.Char t = omega arith
light_fitting CType.Void t = omega arith
light_fitting CType.Int t = omega arith
light_fitting CType.Unsigned t = omega arith
light_fitting (CType.Struct k) t = omega arith
light_fitting (CType.Pointer w) t = omega arith
light_fitting (CType.Array w n) t = omega arith

light_casting : (u : CType) (t : ℕ) → weight_of_all (casting u t) ≤ 40
light_casting CType.Char t = omega arith
light_casting CType.Void t = omega arith
light_casting CType.Int t = omega arith
light_casting CType.Unsigned t = omega arith
light_casting (CType.Struct k) t = omega arith
light_casting (CType.Pointer w) t = omega arith
light_casting (CType.Array w n) t = omega arith

light_operand : (o : UnaryOperator) (t : ℕ) → weight_of_all (one_operand o t) ≤ 64
light_operand unary.Plus t = omega arith
light_operand unary.Minus t = omega arith
light_operand unary.Complement t = omega arith
light_operand unary.Not t = omega arith
light_operand unary.Address t = omega arith
light_operand unary.Dereference t = omega arith

light_stepping : (o : StepOperator) (u : CType) (x t a : ℕ) → weight_of_all (stepping o u x t a) ≤ 200
light_stepping o u x t a = omega (arith, light_fitting u a, weight_more (fitting u a) (only (Step.Same x a)))

light_compound : (o : AssignOperator) (line : ℕ) (u w : CType) (x t : ℕ) → weight_of_all (compound o line u w x t) ≤ 200
light_compound o line u w x t = omega (arith, light_casting u t, weight_more (casting u t) (only (Step.Same x t)), light_operation (binary_of o) (is_unsigned (either (is_shift o) u w)) line t t (t + 1))

-- what an expression leaves of its nodes
abbrev margin : CExpr → ℕ
margin e = if is_unconverted e then 80 else 40

margin_least : (e : CExpr) → 40 ≤ margin e
margin_least e = of (is_unconverted e)
  where
    of : (b : Bool) → 40 ≤ (if b then 80 else 40)
    of true = omega arith
    of false = omega arith

light_binary : (o : BinaryOperator) (u : Bool) (line t : ℕ) (y : Steps) → weight_of_all (binary_steps o u line t y) ≤ weight_of_all y + 128
light_binary op.LogicalAnd u line t y = omega (arith, weight_more y (only (flagged t)))
light_binary op.LogicalOr u line t y = omega (arith, weight_more y (only (flagged t)))
light_binary op.Multiply u line t y = omega (arith, weight_more y (only (operation op.Multiply u line t t (t + 1))))
light_binary op.Divide u line t y = omega (arith, weight_more y (only (operation op.Divide u line t t (t + 1))))
light_binary op.Remainder u line t y = omega (arith, weight_more y (only (operation op.Remainder u line t t (t + 1))))
light_binary op.Add u line t y = omega (arith, weight_more y (only (operation op.Add u line t t (t + 1))))
light_binary op.Subtract u line t y = omega (arith, weight_more y (only (operation op.Subtract u line t t (t + 1))))
light_binary op.ShiftLeft u line t y = omega (arith, weight_more y (only (operation op.ShiftLeft u line t t (t + 1))))
light_binary op.ShiftRight u line t y = omega (arith, weight_more y (only (operation op.ShiftRight u line t t (t + 1))))
light_binary op.Less u line t y = omega (arith, weight_more y (only (operation op.Less u line t t (t + 1))))
light_binary op.Greater u line t y = omega (arith, weight_more y (only (operation op.Greater u line t t (t + 1))))
light_binary op.LessEqual u line t y = omega (arith, weight_more y (only (operation op.LessEqual u line t t (t + 1))))
light_binary op.GreaterEqual u line t y = omega (arith, weight_more y (only (operation op.GreaterEqual u line t t (t + 1))))
light_binary op.Equal u line t y = omega (arith, weight_more y (only (operation op.Equal u line t t (t + 1))))
light_binary op.NotEqual u line t y = omega (arith, weight_more y (only (operation op.NotEqual u line t t (t + 1))))
light_binary op.BitAnd u line t y = omega (arith, weight_more y (only (operation op.BitAnd u line t t (t + 1))))
light_binary op.BitXor u line t y = omega (arith, weight_more y (only (operation op.BitXor u line t t (t + 1))))
light_binary op.BitOr u line t y = omega (arith, weight_more y (only (operation op.BitOr u line t t (t + 1))))

light_assign : (o : AssignOperator) (line : ℕ) (u w : CType) (x t : ℕ) → weight_of_all (assign_steps o line u w x t) ≤ 200
light_assign assign.Assign line u w x t = omega arith
light_assign o line u w x t = light_compound o line u w x t

light_call : (f : Called) (line t : ℕ) (args : List ℕ) → weight_of (calling f line t args) ≤ 204
light_call (called.Defined f) line t args = omega arith
light_call (called.Library f) line t args = omega arith

module _ (structs : List CStruct) (functions : List CFunction) (k : ℕ) where
  mutual
    pub light : (e : CExpr) → Fits structs functions k e → (t : ℕ) → weight_of_all (code structs e t) + margin e ≤ 504 * nodes_of e
    light (CExpr.expr at u (CForm.Local j)) f t = omega arith
    light (CExpr.expr at u (CForm.Number n)) f t = omega arith
    light (CExpr.expr at u (CForm.Character n)) f t = omega arith
    light (CExpr.expr at u CForm.Eof) f t = omega arith
    light (CExpr.expr at u (CForm.SizeofExpression e)) f t = omega arith
    light (CExpr.expr at u (CForm.SizeofType w)) f t = omega arith
    light (CExpr.expr at u (CForm.Convert c e)) f t =
        omega (arith, light e f.1.2 t, ap {B = ℕ} (λ b. if b then 80 else 40) f.1.1, light_fitting u t, weight_more (code structs e t) (fitting u t))
    light (CExpr.expr at u (CForm.Cast e)) f t =
        omega (arith, light e f.1.1 t, light_casting u t, weight_more (code structs e t) (casting u t))
    light (CExpr.expr at u (CForm.Unary o e)) f t =
        omega (arith, light e f.1.1 t, light_operand o t, weight_more (code structs e t) (one_operand o t))
    light (CExpr.expr at u (CForm.Binary o a b)) f t =
        let y = code structs b (second_at o t) in
        let tail = binary_steps o (is_unsigned (type_of a)) at.line t y in
        omega (arith, light a f.1.0 t, light b f.1.1 (second_at o t), light_binary o (is_unsigned (type_of a)) at.line t y, weight_more (code structs a t) tail)
    light (CExpr.expr at u (CForm.Conditional q a b)) f t =
        omega (arith, light q f.1.0 t, light a f.1.1 t, light b f.1.2 t, weight_more (code structs q t) (only (Step.If t (code structs a t) (code structs b t))))
    light (CExpr.expr at u (CForm.Comma a b)) f t =
        omega (arith, light a f.1.0 t, light b f.1.1 t, weight_more (code structs a t) (code structs b t))
    light (CExpr.expr at u (CForm.Assign o a b)) f t =
        let tail = assign_steps o at.line (type_of a) (type_of b) (local_of a) t in
        omega (arith, light b f.1.1 (right_at o t), light_assign o at.line (type_of a) (type_of b) (local_of a) t, weight_more (code structs b (right_at o t)) tail)
    light (CExpr.expr at u (CForm.StepBefore o e)) f t = omega (arith, light_stepping o u (local_of e) t t)
    light (CExpr.expr at u (CForm.StepAfter o e)) f t = omega (arith, light_stepping o u (local_of e) t (t + 1))
    light (CExpr.expr at u (CForm.Call c es)) f t =
        omega (arith, all_light es f.1.1 t, light_call c at.line t (places es t), weight_more (all_code structs es t) (only (calling c at.line t (places es t))))
    light (CExpr.expr at u (CForm.Global n)) f t = absurd f.1
    light (CExpr.expr at u (CForm.Text n)) f t = absurd f.1
    light (CExpr.expr at u CForm.Null) f t = absurd f.1
    light (CExpr.expr at u (CForm.Index a b)) f t = absurd f.1
    light (CExpr.expr at u (CForm.Member e m)) f t = absurd f.1
    light (CExpr.expr at u (CForm.Arrow e m)) f t = absurd f.1

    all_light : (es : CExprs) → AllFit structs functions k es → (t : ℕ) → weight_of_all (all_code structs es t) ≤ 504 * sum (walked_all own_nodes es)
    all_light CExprs.none f t = omega arith
    all_light (CExprs.more e es) f t =
        omega (arith, light e f.0 t, margin_least e, all_light es f.1 (t + 1), sum_by-cons (λ n. n) (nodes_of e) (walked_all own_nodes es), weight_more (code structs e t) (all_code structs es (t + 1)))

  light_alone : (e : CExpr) → Fits structs functions k e → (t : ℕ) → weight_of_all (code structs e t) + 40 ≤ 504 * nodes_of e
  light_alone e f t = omega (arith, light e f t, margin_least e)

  light_if_any : (o : Option CExpr) → FitsIfAny structs functions k o → (t : ℕ) → weight_of_all (code_if_any structs o t) ≤ 504 * over_expr_if_any room.nodes o
  light_if_any None f t = omega arith
  light_if_any (Some e) f t = omega (arith, light_alone e f t)

  light_test : (o : Option CExpr) → FitsIfAny structs functions k o → (t : ℕ) → weight_of_all (test_code structs o t) ≤ 504 * over_expr_if_any room.nodes o + 48
  light_test None f t = omega arith
  light_test (Some e) f t = omega (arith, light_alone e f t, weight_more (code structs e t) (only (leaving t)))

  light_initial : (x : CInitial) → InitialFits structs functions k x → (j t : ℕ) → weight_of_all (initial_code structs x j t) ≤ 504 * over_initial room.nodes x + 8
  light_initial (CInitial.Value e) f j t = omega (arith, light_alone e f.1 t, weight_more (code structs e t) (only (Step.Same j t)))
  light_initial (CInitial.Text at bytes) f j t = absurd f
  light_initial (CInitial.Braces at parts) f j t = absurd f

  light_initializer : (x : Option CInitializer) → InitializerFits structs functions k x → (j t : ℕ) → weight_of_all (initializer_code structs x j t) ≤ 504 * over_initializer room.nodes x + 8
  light_initializer None f j t = omega arith
  light_initializer (Some i) f j t = light_initial i.value f j t

  light_declaration : (d : CDeclaration) → DeclarationFits structs functions k d → (t : ℕ) → weight_of_all (declaration_code structs d t) ≤ 504 * over_declaration room.nodes d
  light_declaration d f t = omega (arith, light_initializer d.initializer f.1 d.local t)

  light_declarations : (ds : List CDeclaration) → DeclarationsFit structs functions k ds → (t : ℕ) → weight_of_all (declarations_code structs ds t) ≤ 504 * over_declarations room.nodes ds
  light_declarations [] f t = omega arith
  light_declarations (d ∷ ds) f t = omega (arith, light_declaration d f.0 t, light_declarations ds f.1 t, weight_more (declaration_code structs d t) (declarations_code structs ds t))

  light_start : (x : CStart) → StartFits structs functions k x → (t : ℕ) → weight_of_all (start_code structs x t) ≤ 504 * over_start room.nodes x
  light_start CStart.Nothing f t = omega arith
  light_start (CStart.Eval e) f t = omega (arith, light_alone e f t)
  light_start (CStart.Declare ds) f t = light_declarations ds f t

  mutual
    pub light_stmt : (gv l : Bool) (x : CStmt) → StmtFits structs functions k gv l x → (back t : ℕ) → weight_of_all (stmt_code structs x back t) ≤ 504 * over_stmt room.nodes x
    light_stmt gv l (CStmt.Block at xs) f back t = omega (arith, light_stmts gv l xs f back t)
    light_stmt gv l (CStmt.Declare d) f back t = light_declaration d f t
    light_stmt gv l (CStmt.Empty at) f back t = omega arith
    light_stmt gv l (CStmt.Eval at e) f back t = omega (arith, light_alone e f t)
    light_stmt gv l (CStmt.If at q x) f back t =
        omega (arith, light_alone q f.0 t, light_stmt gv l x f.1 back t, weight_more (code structs q t) (only (Step.If t (stmt_code structs x back t) stop)))
    light_stmt gv l (CStmt.IfElse at q x y) f back t =
        omega (arith, light_alone q f.0 t, light_stmt gv l x f.1 back t, light_stmt gv l y f.2 back t, weight_more (code structs q t) (only (Step.If t (stmt_code structs x back t) (stmt_code structs y back t))))
    light_stmt gv l (CStmt.While at q x) f back t =
        omega (arith, light_alone q f.0 t, light_stmt gv true x f.1 (back + 2) t, weight_more (code structs q t) (more (leaving t) (only (Step.Block (stmt_code structs x (back + 2) t)))))
    light_stmt gv l (CStmt.Do at x q) f back t =
        omega (arith, light_stmt gv true x f.0 (back + 2) t, light_alone q f.1 t, weight_more (code structs q t) (only (leaving t)))
    light_stmt gv l (CStmt.For at start q step x) f back t =
        let turn = more (Step.Block (stmt_code structs x (back + 2) t)) (code_if_any structs step t) in
        omega (
          arith,
          light_start start f.0 t,
          light_test q f.1 t,
          light_if_any step f.2 t,
          light_stmt gv true x f.3 (back + 2) t,
          weight_more (test_code structs q t) turn,
          weight_more (start_code structs start t) (only (Step.Loop (append (test_code structs q t) turn))),
        )
    light_stmt gv l (CStmt.Break at) f back t = omega arith
    light_stmt gv l (CStmt.Continue at) f back t = omega arith
    light_stmt gv l (CStmt.Return at None) f back t = omega arith
    light_stmt gv l (CStmt.Return at (Some e)) f back t = omega (arith, light_alone e f.1 t, weight_more (code structs e t) (only (Step.Return t)))

    light_stmts : (gv l : Bool) (xs : CStmts) → StmtsFit structs functions k gv l xs → (back t : ℕ) → weight_of_all (stmts_code structs xs back t) ≤ 504 * over_stmts room.nodes xs
    light_stmts gv l CStmts.none f back t = omega arith
    light_stmts gv l (CStmts.more x xs) f back t =
        omega (arith, light_stmt gv l x f.0 back t, light_stmts gv l xs f.1 back t, weight_more (stmt_code structs x back t) (stmts_code structs xs back t))

-- ---- Functions and programs

light_function : (structs : List CStruct) (functions : List CFunction) (f : CFunction) → FunctionFits structs functions f → weight_of_function (function_code structs f) ≤ 504 * nodes_of_function f
light_function structs functions f fits =
    omega (arith, light_stmt structs functions (length f.locals) (gives f.result) false f.body fits.body 1 (length f.locals))

light_functions : (structs : List CStruct) (functions fs : List CFunction) → ((i : ℕ) (f : CFunction) → slice_get fs i ≡ Some f → FunctionFits structs functions f) → weight_of_functions (map (function_code structs) fs) ≤ 504 * nodes_of_functions fs
light_functions structs functions [] each = omega arith
light_functions structs functions (f ∷ fs) each =
    omega (arith, light_function structs functions f (each 0 f refl), light_functions structs functions fs (λ i g e. each (suc i) g e))

pub light_program : (p : CProgram) → ProgramFits p → weight (lowered p) ≤ 504 * nodes_of_program p
light_program p fits = light_functions p.structs p.functions p.functions fits.each

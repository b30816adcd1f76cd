-- The mid code of a program of numbers works on numbers alone.
use Rattle.std.specs.Prelude.{◌&&◌, ◌++◌, not, map, if◌then◌else◌}
use Rattle.std.proofs.Common.{◌≡◌, ℕ, suc, ◌+◌, Bool, true, false, List, [], ◌∷◌, length, Option, Some, None, refl, sym}
use Rattle.std.proofs.lemmas.Bool.{true≢false, and_parts}
use Rattle.bb_words.specs.Answers.{either}
use Rattle.block_layout.specs.Layout.{Item}
use Rattle.block_layout.specs.Objects.{block_items_from}
use Rattle.c_words.specs.declared.operators.UnaryOperator.{UnaryOperator}
use Rattle.c_words.specs.declared.operators.UnaryOperator.TheVariants as unary
use Rattle.c_words.specs.declared.operators.StepOperator.{StepOperator}
use Rattle.c_words.specs.declared.operators.BinaryOperator.{BinaryOperator}
use Rattle.c_words.specs.declared.operators.BinaryOperator.TheVariants as op
use Rattle.c_words.specs.declared.operators.AssignOperator.{AssignOperator}
use Rattle.c_words.specs.declared.operators.AssignOperator.TheVariants as assign
use Rattle.typed_tree.specs.declared.typed_expr.Called.{Called}
use Rattle.typed_tree.specs.declared.typed_expr.Called.TheVariants.{Defined, Library}
use Rattle.typed_tree.specs.Types.{CType, is_unsigned}
use Rattle.typed_tree.specs.TypedTree.{CExpr, CForm, CExprs, CInitial, CInitializer, CDeclaration, CStart, CStmt, CStmts, CStruct, CLocal, CFunction, CProgram, type_of}
use Rattle.typed_tree.specs.Walk.{walked_all, all_of, every_expr, over_initial, over_initializer, over_declarations, over_start, over_expr_if_any, over_stmt, over_stmts}
use Rattle.source_meaning.specs.Operators.{binary_of, is_shift}
use Rattle.mid_code.specs.Code.{Step, Steps, append}
use Rattle.mid_code.specs.Code.Steps.{stop, step as more}
use Rattle.lowering_counts.specs.Built as lowering
use Rattle.lowering_counts.specs.Built.{has_pointer, is_called, is_built_expr}
use Rattle.lowering_code.specs.Lower.{only, operation, fitting, casting, flagged, one_operand, stepping, compound, binary_steps, second_at, assign_steps, right_at, local_of, places, calling, code, all_code, code_if_any, leaving, test_code, initial_code, initializer_code, declarations_code, start_code, return_code, stmt_code, stmts_code, function_code, lowered}
use Rattle.lowering_counts.specs.Room as room
use Rattle.bounds_instr_code.specs.Built.{is_none}
use Rattle.number_code.proofs.OfNumbers.{both, of_numbers, all_of_numbers, functions_of_numbers, program_of_numbers}

abbrev Good : Steps → Type 0
Good xs = all_of_numbers xs ≡ true

-- what is asked of an expression's one operand, of two and of three
of_one : (a b : Bool) → (a && (b && true)) ≡ true → b ≡ true
of_one a b h = (and_parts b true (and_parts a (b && true) h).1).0

of_two : (a b c : Bool) → (a && (b && (c && true))) ≡ true → (b ≡ true) × (c ≡ true)
of_two a b c h =
    let rest = and_parts b (c && true) (and_parts a (b && (c && true)) h).1 in
    (rest.0, (and_parts c true rest.1).0)

joined : (xs ys : Steps) → Good xs → Good ys → Good (append xs ys)
joined stop ys hx hy = hy
joined (more x xs) ys hx hy =
    let p = and_parts (of_numbers x) (all_of_numbers xs) hx in
    both (of_numbers x) (all_of_numbers (append xs ys)) p.0 (joined xs ys p.1 hy)

alone : (b : Bool) → b ≡ true → (b && true) ≡ true
alone b h = both b true h refl

good_operation : (o : BinaryOperator) (u : Bool) (line t a b : ℕ) → of_numbers (operation o u line t a b) ≡ true
good_operation op.Multiply u line t a b = refl
good_operation o u line t a b = refl

good_fitting : (u : CType) (t : ℕ) → Good (fitting u t)
good_fitting CType.Char t = refl
good_fitting u t = refl

good_casting : (u : CType) (t : ℕ) → Good (casting u t)
good_casting CType.Char t = refl
good_casting u t = refl

good_operand : (o : UnaryOperator) (t : ℕ) → Good (one_operand o t)
good_operand unary.Plus t = refl
good_operand o t = refl

good_stepping : (o : StepOperator) (u : CType) (x t a : ℕ) → Good (stepping o u x t a)
good_stepping o u x t a = joined (fitting u a) (only (Step.Same x a)) (good_fitting u a) refl

good_compound : (o : AssignOperator) (line : ℕ) (u w : CType) (x t : ℕ) → Good (compound o line u w x t)
good_compound o line u w x t =
    let first = operation (binary_of o) (is_unsigned (either (is_shift o) u w)) line t t (t + 1) in
    both (of_numbers first) _ (good_operation (binary_of o) (is_unsigned (either (is_shift o) u w)) line t t (t + 1))
    (joined (casting u t) (only (Step.Same x t)) (good_casting u t) refl)

good_binary : (o : BinaryOperator) (u : Bool) (line t : ℕ) (y : Steps) → Good y → Good (binary_steps o u line t y)
good_binary op.LogicalAnd u line t y h = alone _ (alone _ (joined y (only (flagged t)) h refl))
good_binary op.LogicalOr u line t y h = alone _ (joined y (only (flagged t)) h refl)
good_binary o u line t y h = joined y (only (operation o u line t t (t + 1))) h (alone _ (good_operation o u line t t (t + 1)))

good_assign : (o : AssignOperator) (line : ℕ) (u w : CType) (x t : ℕ) → Good (assign_steps o line u w x t)
good_assign assign.Assign line u w x t = refl
good_assign o line u w x t = good_compound o line u w x t

good_calling : (f : Called) (line t : ℕ) (args : List ℕ) → is_called f ≡ true → of_numbers (calling f line t args) ≡ true
good_calling (Defined f) line t args h = refl
good_calling (Library f) line t args h = h

abbrev every : CExpr → Bool
every e = every_expr is_built_expr e

abbrev every_of : CExprs → Bool
every_of es = all_of (walked_all (λ e bs. is_built_expr e && all_of bs) es)

module _ (structs : List CStruct) where
  mutual
    good : (e : CExpr) → every e ≡ true → (t : ℕ) → Good (code structs e t)
    good (CExpr.expr at u (CForm.Convert c e)) h t =
        joined (code structs e t) (fitting u t) (good e (of_one (not (has_pointer u)) (every e) h) t) (good_fitting u t)
    good (CExpr.expr at u (CForm.Cast e)) h t =
        joined (code structs e t) (casting u t) (good e (of_one (not (has_pointer u)) (every e) h) t) (good_casting u t)
    good (CExpr.expr at u (CForm.Unary o e)) h t =
        joined (code structs e t) (one_operand o t) (good e (of_one (not (has_pointer u)) (every e) h) t) (good_operand o t)
    good (CExpr.expr at u (CForm.Binary o a b)) h t =
        let p = of_two (not (has_pointer u)) (every a) (every b) h in
        joined (code structs a t) _ (good a p.0 t) (good_binary o (is_unsigned (type_of a)) at.line t _ (good b p.1 (second_at o t)))
    good (CExpr.expr at u (CForm.Conditional q a b)) h t =
        let p = and_parts (every q) (every a && (every b && true)) (and_parts (not (has_pointer u)) _ h).1 in
        let r = and_parts (every a) (every b && true) p.1 in
        joined (code structs q t) _ (good q p.0 t)
        (alone _ (both _ _ (good a r.0 t) (good b (and_parts (every b) true r.1).0 t)))
    good (CExpr.expr at u (CForm.Comma a b)) h t =
        let p = of_two (not (has_pointer u)) (every a) (every b) h in
        joined (code structs a t) (code structs b t) (good a p.0 t) (good b p.1 t)
    good (CExpr.expr at u (CForm.Assign o a b)) h t =
        let p = of_two (not (has_pointer u)) (every a) (every b) h in
        joined (code structs b (right_at o t)) _ (good b p.1 (right_at o t)) (good_assign o at.line (type_of a) (type_of b) (local_of a) t)
    good (CExpr.expr at u (CForm.StepBefore o e)) h t = good_stepping o u (local_of e) t t
    good (CExpr.expr at u (CForm.StepAfter o e)) h t = good_stepping o u (local_of e) t (t + 1)
    good (CExpr.expr at u (CForm.Call f es)) h t =
        let p = and_parts (not (has_pointer u) && is_called f) (every_of es) h in
        joined (all_code structs es t) _ (all_good es p.1 t)
        (alone _ (good_calling f at.line t (places es t) (and_parts (not (has_pointer u)) (is_called f) p.0).1))
    good (CExpr.expr at u form) h t = refl

    all_good : (es : CExprs) → every_of es ≡ true → (t : ℕ) → Good (all_code structs es t)
    all_good CExprs.none h t = refl
    all_good (CExprs.more e es) h t =
        let p = and_parts (every e) (every_of es) h in
        joined (code structs e t) (all_code structs es (t + 1)) (good e p.0 t) (all_good es p.1 (t + 1))

  good_if_any : (e : Option CExpr) → over_expr_if_any room.built e ≡ true → (t : ℕ) → Good (code_if_any structs e t)
  good_if_any None h t = refl
  good_if_any (Some e) h t = good e h t

  good_test : (e : Option CExpr) → over_expr_if_any room.built e ≡ true → (k : ℕ) → Good (test_code structs e k)
  good_test None h k = refl
  good_test (Some e) h k = joined (code structs e k) (only (leaving k)) (good e h k) refl

  good_initial : (x : CInitial) → over_initial room.built x ≡ true → (j k : ℕ) → Good (initial_code structs x j k)
  good_initial (CInitial.Value e) h j k = joined (code structs e k) (only (Step.Same j k)) (good e h k) refl
  good_initial (CInitial.Text at bytes) h j k = refl
  good_initial (CInitial.Braces at parts) h j k = refl

  good_initializer : (i : Option CInitializer) → over_initializer room.built i ≡ true → (j k : ℕ) → Good (initializer_code structs i j k)
  good_initializer None h j k = refl
  good_initializer (Some i) h j k = good_initial i.value h j k

  good_declarations : (ds : List CDeclaration) → over_declarations room.built ds ≡ true → (k : ℕ) → Good (declarations_code structs ds k)
  good_declarations [] h k = refl
  good_declarations (d ∷ ds) h k =
      let p = and_parts (over_initializer room.built d.initializer) (over_declarations room.built ds) h in
      joined (initializer_code structs d.initializer d.local k) (declarations_code structs ds k) (good_initializer d.initializer p.0 d.local k) (good_declarations ds p.1 k)

  good_start : (s : CStart) → over_start room.built s ≡ true → (k : ℕ) → Good (start_code structs s k)
  good_start CStart.Nothing h k = refl
  good_start (CStart.Eval e) h k = good e h k
  good_start (CStart.Declare ds) h k = good_declarations ds h k

  good_return : (e : Option CExpr) → over_expr_if_any room.built e ≡ true → (back k : ℕ) → Good (return_code structs e back k)
  good_return None h back k = refl
  good_return (Some e) h back k = joined (code structs e k) (only (Step.Return k)) (good e h k) refl

  mutual
    good_stmt : (x : CStmt) → over_stmt room.built x ≡ true → (back k : ℕ) → Good (stmt_code structs x back k)
    good_stmt (CStmt.Block at xs) h back k = good_stmts xs h back k
    good_stmt (CStmt.Declare d) h back k = good_initializer d.initializer h d.local k
    good_stmt (CStmt.Empty at) h back k = refl
    good_stmt (CStmt.Eval at e) h back k = good e h k
    good_stmt (CStmt.If at q x) h back k =
        let p = and_parts (every q) (over_stmt room.built x) h in
        joined (code structs q k) _ (good q p.0 k) (alone _ (alone _ (good_stmt x p.1 back k)))
    good_stmt (CStmt.IfElse at q x y) h back k =
        let p = and_parts (every q) (over_stmt room.built x && over_stmt room.built y) h in
        let r = and_parts (over_stmt room.built x) (over_stmt room.built y) p.1 in
        joined (code structs q k) _ (good q p.0 k) (alone _ (both _ _ (good_stmt x r.0 back k) (good_stmt y r.1 back k)))
    good_stmt (CStmt.While at q x) h back k =
        let p = and_parts (every q) (over_stmt room.built x) h in
        alone _ (joined (code structs q k) _ (good q p.0 k) (alone _ (good_stmt x p.1 (back + 2) k)))
    good_stmt (CStmt.Do at x q) h back k =
        let p = and_parts (over_stmt room.built x) (every q) h in
        alone _ (both _ _ (good_stmt x p.0 (back + 2) k) (joined (code structs q k) (only (leaving k)) (good q p.1 k) refl))
    good_stmt (CStmt.For at start q step x) h back k =
        let p = and_parts (over_start room.built start) (over_expr_if_any room.built q && (over_expr_if_any room.built step && over_stmt room.built x)) h in
        let r = and_parts (over_expr_if_any room.built q) (over_expr_if_any room.built step && over_stmt room.built x) p.1 in
        let s = and_parts (over_expr_if_any room.built step) (over_stmt room.built x) r.1 in
        joined (start_code structs start k) _ (good_start start p.0 k)
        (alone _ (joined (test_code structs q k) _ (good_test q r.0 k) (both _ _ (good_stmt x s.1 (back + 2) k) (good_if_any step s.0 k))))
    good_stmt (CStmt.Break at) h back k = refl
    good_stmt (CStmt.Continue at) h back k = refl
    good_stmt (CStmt.Return at e) h back k = good_return e h back k

    good_stmts : (xs : CStmts) → over_stmts room.built xs ≡ true → (back k : ℕ) → Good (stmts_code structs xs back k)
    good_stmts CStmts.none h back k = refl
    good_stmts (CStmts.more x xs) h back k =
        let p = and_parts (over_stmt room.built x) (over_stmts room.built xs) h in
        joined (stmt_code structs x back k) (stmts_code structs xs back k) (good_stmt x p.0 back k) (good_stmts xs p.1 back k)

  left_out : (b : Bool) (x : Item) (xs : List Item) → not b ≡ true → is_none xs ≡ true → is_none (if b then x ∷ xs else xs) ≡ true
  left_out true x xs n h = absurd (true≢false (sym n))
  left_out false x xs n h = h

  no_blocks : (j : ℕ) (ls : List CLocal) → lowering.are_built_locals ls ≡ true → is_none (block_items_from j ls) ≡ true
  no_blocks j [] h = refl
  no_blocks j (l ∷ ls) h =
      let p = and_parts (not l.is_block && not (has_pointer l.ty)) (lowering.are_built_locals ls) h in
      let here = and_parts (not l.is_block) (not (has_pointer l.ty)) p.0 in
      left_out l.is_block _ (block_items_from (suc j) ls) here.0 (no_blocks (suc j) ls p.1)

  good_functions : (fs : List CFunction) → lowering.are_built_functions fs ≡ true → functions_of_numbers (map (function_code structs) fs) ≡ true
  good_functions [] h = refl
  good_functions (f ∷ fs) h =
      let p = and_parts (lowering.is_built_function f) (lowering.are_built_functions fs) h in
      let q = and_parts (not (has_pointer f.result) && lowering.are_built_locals f.locals) (lowering.is_built_stmt f.body) p.0 in
      let r = and_parts (not (has_pointer f.result)) (lowering.are_built_locals f.locals) q.0 in
      both _ _ (both _ _ (no_blocks 0 f.locals r.1) (alone _ (good_stmt f.body q.1 1 (length f.locals)))) (good_functions fs p.1)

none_of : {A B X : Type 0} (f : A → X) (g : B → X) (xs : List A) (ys : List B) → lowering.is_empty xs ≡ true → lowering.is_empty ys ≡ true → is_none (map f xs ++ map g ys) ≡ true
none_of f g [] [] hx hy = refl
none_of f g [] (y ∷ ys) hx hy = absurd (true≢false (sym hy))
none_of f g (x ∷ xs) ys hx hy = absurd (true≢false (sym hx))

pub code_numbers : (p : CProgram) → lowering.is_built p ≡ true → program_of_numbers (lowered p) ≡ true
code_numbers p h =
    let functions = and_parts (lowering.is_empty p.globals && lowering.is_empty p.texts && lowering.are_built_structs p.structs) (lowering.are_built_functions p.functions) h in
    let structs = and_parts (lowering.is_empty p.globals && lowering.is_empty p.texts) (lowering.are_built_structs p.structs) functions.0 in
    let objects = and_parts (lowering.is_empty p.globals) (lowering.is_empty p.texts) structs.0 in
    both _ _ (none_of _ _ p.globals p.texts objects.0 objects.1) (good_functions p.structs p.functions functions.1)

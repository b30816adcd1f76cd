-- The code of a program of numbers works on numbers alone, with the values below those that its function has.
use Rattle.std.specs.Prelude.{◌&&◌, IsTrue, max, nat_le, All, replicate}
use Rattle.std.proofs.Common.{◌≡◌, ℕ, suc, ◌+◌, ◌<◌, ◌≤◌, Bool, true, List, [], ◌∷◌, length, Option, Some, None, refl, sym, ap, ◌∙◌, arith}
use Rattle.std.proofs.lemmas.Bool.Decides.{nat_tests}
use Rattle.std.proofs.lemmas.Bool.{true≢false, and_parts}
use Rattle.std.proofs.lemmas.List.Elements.{All-nil, All-cons}
use Rattle.bb_words.specs.Answers.{either}
use Rattle.c_words.specs.declared.operators.UnaryOperator.{UnaryOperator}
use Rattle.c_words.specs.declared.operators.UnaryOperator.TheVariants as unary
use Rattle.c_words.specs.declared.operators.StepOperator.{StepOperator}
use Rattle.c_words.specs.declared.operators.BinaryOperator.{BinaryOperator}
use Rattle.c_words.specs.declared.operators.BinaryOperator.TheVariants as op
use Rattle.c_words.specs.declared.operators.AssignOperator.{AssignOperator}
use Rattle.c_words.specs.declared.operators.AssignOperator.TheVariants as assign
use Rattle.typed_tree.specs.declared.typed_expr.Called.{Called}
use Rattle.typed_tree.specs.declared.typed_expr.Called.TheVariants as called
use Rattle.typed_tree.specs.declared.typed_expr.LibCall.{LibCall}
use Rattle.typed_tree.specs.declared.typed_expr.LibCall.TheVariants as lib
use Rattle.typed_tree.specs.Types.{CType, is_unsigned}
use Rattle.typed_tree.specs.TypedTree.{CExpr, CForm, CExprs, CInitial, CInitializer, CDeclaration, CStart, CStmt, CStmts, CStruct, CFunction, type_of, at_of}
use Rattle.typed_tree.specs.Typed.{is_line, stands_on_line, initial_on_line, initializer_on_line, statement_on_line}
use Rattle.typed_tree.specs.Counts.{temps_of, own_temps, greatest_from}
use Rattle.typed_tree.specs.Walk.{Sum, every_expr, all_of, walked_all, over_initial, over_initializer, over_declaration, over_declarations, over_start, over_expr_if_any, over_stmt, over_stmts}
use Rattle.typed_tree.specs.TypedLaws.{TempsAtLeastFour}
use Rattle.source_meaning.specs.Operators.{binary_of, is_shift}
use Rattle.mid_code.specs.Code.{Step, Steps, Function, Program, append}
use Rattle.mid_code.specs.Code.Steps.{stop, step as more}
use Rattle.mid_code.specs.Kinds.{IsNumber, signature_of}
use Rattle.mid_code.specs.Formed.{IsLine, IsCallOf}
use Rattle.lowering_counts.specs.Built.{is_of_numbers}
use Rattle.lowering_counts.specs.Room as room
use Rattle.lowering_code.specs.Lower.{only, operation, fitting, casting, flagged, one_operand, stepping, compound, binary_steps, second_at, assign_steps, right_at, local_of, local_of_form, places, calling, code, all_code, code_if_any, leaving, test_code, initial_code, initializer_code, declaration_code, declarations_code, start_code, stmt_code, stmts_code}
use Rattle.lowering_keeps.proofs.Fits.{count_of, Takes, FitsCalled, IsVariable, Fits, AllFit, FitsIfAny, InitialFits, InitializerFits, DeclarationFits, DeclarationsFit, StartFits, StmtFits, StmtsFit}
use Rattle.lowering_counts.proofs.Counted.{temps_with_is}
use Rattle.lowering_keeps.proofs.Reckoning.{AllReckon, Reckons, reckon_append}

places_count : (es : CExprs) (t : ℕ) → length (places es t) ≡ count_of es
places_count CExprs.none t = refl
places_count (CExprs.more e es) t = ap (λ n. suc n) (places_count es (t + 1)) ∙ omega arith

was_le : (a b : ℕ) → nat_le a b ≡ true → a ≤ b
was_le a b h = grind (arith, nat_tests)

pub line_is : (n : ℕ) → is_line n ≡ true → IsLine n
line_is n h = let parts = and_parts (nat_le 1 n) (nat_le n 1048575) h in (was_le 1 n parts.0, was_le n 1048575 parts.1)

first : (a b : Bool) → (a && b) ≡ true → a ≡ true
first a b h = (and_parts a b h).0

second : (a b : Bool) → (a && b) ≡ true → b ≡ true
second a b h = (and_parts a b h).1

-- whether all that stands in a part has a line
abbrev lined : CExpr → Bool
lined e = every_expr (λ e. stands_on_line (at_of e)) e

abbrev all_lined : CExprs → Bool
all_lined es = all_of (walked_all (λ e bs. stands_on_line (at_of e) && all_of bs) es)

abbrev lines : Sum Bool
lines = record {
  nothing = true;
  both = λ a b. a && b;
  expr = every_expr (λ e. stands_on_line (at_of e));
  initial = initial_on_line;
  declaration = λ d. stands_on_line d.at && initializer_on_line d.initializer;
  statement = statement_on_line;
}

-- In function f of program p there are k locals, and calls have as many arguments as the functions have parameters.
module _ (p : Program) (f : Function) (structs : List CStruct) (functions : List CFunction) (k : ℕ) (four : TempsAtLeastFour) (within : k ≤ f.values) (calls : (i n : ℕ) (args : List ℕ) → Takes functions i n → length args ≡ n → IsCallOf p i args) where
  abbrev Good : (d : ℕ) → Steps → Type 0
  Good d xs = AllReckon p f d xs

  joined : (d : ℕ) (xs ys : Steps) → Good d xs → Good d ys → Good d (append xs ys)
  joined d xs ys hx hy = reckon_append p f d xs ys hx hy

  -- ---- Operators

  good_operation : (o : BinaryOperator) (u : Bool) (line d t a b : ℕ) → IsLine line → t < f.values → a < f.values → b < f.values → Reckons p f d (operation o u line t a b)
  good_operation op.Multiply u line d t a b l ht ha hb = (ht, ha, hb)
  good_operation op.Divide u line d t a b l ht ha hb = (ht, ha, hb, l)
  good_operation op.Remainder u line d t a b l ht ha hb = (ht, ha, hb, l)
  good_operation op.Add u line d t a b l ht ha hb = (ht, ha, hb)
  good_operation op.Subtract u line d t a b l ht ha hb = (ht, ha, hb)
  good_operation op.ShiftLeft u line d t a b l ht ha hb = (ht, ha, hb)
  good_operation op.ShiftRight u line d t a b l ht ha hb = (ht, ha, hb)
  good_operation op.Less u line d t a b l ht ha hb = (ht, ha, hb)
  good_operation op.Greater u line d t a b l ht ha hb = (ht, hb, ha)
  good_operation op.LessEqual u line d t a b l ht ha hb = (ht, ha, hb)
  good_operation op.GreaterEqual u line d t a b l ht ha hb = (ht, hb, ha)
  good_operation op.Equal u line d t a b l ht ha hb = (ht, ha, hb)
  good_operation op.NotEqual u line d t a b l ht ha hb = (ht, ha, hb)
  good_operation op.BitAnd u line d t a b l ht ha hb = (ht, ha, hb)
  good_operation op.BitXor u line d t a b l ht ha hb = (ht, ha, hb)
  good_operation op.BitOr u line d t a b l ht ha hb = (ht, ha, hb)
  good_operation op.LogicalAnd u line d t a b l ht ha hb = (ht, omega arith)
  good_operation op.LogicalOr u line d t a b l ht ha hb = (ht, omega arith)

  good_fitting : (u : CType) (d t : ℕ) → t + 1 < f.values → Good d (fitting u t)
  good_fitting CType.Char d t r = let ht : t < f.values = omega (arith, r) in ((r, omega arith), ((ht, ht, r), tt))
  good_fitting CType.Void d t r = tt
  good_fitting CType.Int d t r = tt
  good_fitting CType.Unsigned d t r = tt
  good_fitting (CType.Struct n) d t r = tt
  good_fitting (CType.Pointer w) d t r = tt
  good_fitting (CType.Array w n) d t r = tt

  good_casting : (u : CType) (d t : ℕ) → t + 1 < f.values → Good d (casting u t)
  good_casting CType.Void d t r = ((omega (arith, r), omega arith), tt)
  good_casting CType.Char d t r = good_fitting CType.Char d t r
  good_casting CType.Int d t r = tt
  good_casting CType.Unsigned d t r = tt
  good_casting (CType.Struct n) d t r = tt
  good_casting (CType.Pointer w) d t r = tt
  good_casting (CType.Array w n) d t r = tt

  -- value t becomes one number or another
  good_choice : (d t a b : ℕ) → t < f.values → a < 4294967296 → b < 4294967296 → Reckons p f d (Step.If t (only (Step.Number t a)) (only (Step.Number t b)))
  good_choice d t a b ht ha hb = (ht, ((ht, ha), tt), ((ht, hb), tt))

  good_operand : (o : UnaryOperator) (d t : ℕ) → t + 1 < f.values → Good d (one_operand o t)
  good_operand unary.Plus d t r = tt
  good_operand unary.Minus d t r = let ht : t < f.values = omega (arith, r) in ((r, omega arith), ((ht, r, ht), tt))
  good_operand unary.Complement d t r = let ht : t < f.values = omega (arith, r) in ((r, omega arith), ((ht, r, ht), tt))
  good_operand unary.Not d t r = (good_choice d t 0 1 (omega (arith, r)) (omega arith) (omega arith), tt)
  good_operand unary.Address d t r = tt
  good_operand unary.Dereference d t r = tt

  good_stepping : (o : StepOperator) (u : CType) (d x t a : ℕ) → x < f.values → t + 1 < f.values → a + 1 < f.values → Good d (stepping o u x t a)
  good_stepping o u d x t a hx r ra =
      let ht : t < f.values = omega (arith, r) in
      let ha : a < f.values = omega (arith, ra) in
      ((ht, hx), ((r, omega arith), ((ha, ht, r), joined d (fitting u a) (only (Step.Same x a)) (good_fitting u d a ra) ((hx, ha), tt))))

  good_compound : (o : AssignOperator) (line : ℕ) (u w : CType) (d x t : ℕ) → IsLine line → x < f.values → t + 1 < f.values → Good d (compound o line u w x t)
  good_compound o line u w d x t l hx r =
      let ht : t < f.values = omega (arith, r) in
      ((ht, hx), (good_operation (binary_of o) (is_unsigned (either (is_shift o) u w)) line d t t (t + 1) l ht ht r, joined d (casting u t) (only (Step.Same x t)) (good_casting u d t r) ((hx, ht), tt)))

  good_assign : (o : AssignOperator) (line : ℕ) (u w : CType) (d x t : ℕ) → IsLine line → x < f.values → t + 1 < f.values → Good d (assign_steps o line u w x t)
  good_assign assign.Assign line u w d x t l hx r = ((hx, omega (arith, r)), tt)
  good_assign o line u w d x t l hx r = good_compound o line u w d x t l hx r

  eager : (o : BinaryOperator) (u : Bool) (line d t : ℕ) (y : Steps) → IsLine line → t + 1 < f.values → Good d y → Good d (append y (only (operation o u line t t (t + 1))))
  eager o u line d t y l r hy =
      let ht : t < f.values = omega (arith, r) in
      joined d y (only (operation o u line t t (t + 1))) hy (good_operation o u line d t t (t + 1) l ht ht r, tt)

  good_binary : (o : BinaryOperator) (u : Bool) (line d t : ℕ) (y : Steps) → IsLine line → t + 1 < f.values → Good d y → Good d (binary_steps o u line t y)
  good_binary op.LogicalAnd u line d t y l r hy =
      let ht : t < f.values = omega (arith, r) in
      ((ht, joined d y (only (flagged t)) hy (good_choice d t 1 0 ht (omega arith) (omega arith), tt), ((ht, omega arith), tt)), tt)
  good_binary op.LogicalOr u line d t y l r hy =
      let ht : t < f.values = omega (arith, r) in
      ((ht, ((ht, omega arith), tt), joined d y (only (flagged t)) hy (good_choice d t 1 0 ht (omega arith) (omega arith), tt)), tt)
  good_binary o u line d t y l r hy = eager o u line d t y l r hy

  second_most : (o : BinaryOperator) (t : ℕ) → second_at o t ≤ t + 1
  second_most op.LogicalAnd t = omega arith
  second_most op.LogicalOr t = omega arith
  second_most o t = omega arith

  right_most : (o : AssignOperator) (t : ℕ) → right_at o t ≤ t + 1
  right_most assign.Assign t = omega arith
  right_most o t = omega arith

  local_within : (e : CExpr) → IsVariable structs functions k e → local_of e < f.values
  local_within (CExpr.expr at u form) v = let e : local_of_form form ≡ v.local = ap local_of_form v.form in omega (arith, e, v.within, within)

  -- ---- Calls

  good_library : (which : LibCall) (line d t : ℕ) (args : List ℕ) → IsTrue (is_of_numbers which) → length args ≡ length (signature_of which).params → IsLine line → t < f.values → All (λ v. v < f.values) args → Reckons p f d (Step.Library t which args line None None)
  good_library lib.Putchar line d t args ok count l ht hs = ((ht, hs, (refl, refl), l), record { params = ap (λ n. replicate n IsNumber) count; result = refl; first = refl; second = refl })
  good_library lib.Getchar line d t args ok count l ht hs = ((ht, hs, (refl, refl), l), record { params = ap (λ n. replicate n IsNumber) count; result = refl; first = refl; second = refl })
  good_library lib.Exit line d t args ok count l ht hs = ((ht, hs, (refl, refl), l), record { params = ap (λ n. replicate n IsNumber) count; result = refl; first = refl; second = refl })
  good_library lib.Malloc line d t args ok count l ht hs = absurd (true≢false (sym ok))
  good_library lib.Calloc line d t args ok count l ht hs = absurd (true≢false (sym ok))
  good_library lib.Free line d t args ok count l ht hs = absurd (true≢false (sym ok))
  good_library lib.Memcpy line d t args ok count l ht hs = absurd (true≢false (sym ok))
  good_library lib.Memset line d t args ok count l ht hs = absurd (true≢false (sym ok))

  good_call : (c : Called) (n line d t : ℕ) (args : List ℕ) → FitsCalled functions c n → length args ≡ n → IsLine line → t < f.values → All (λ v. v < f.values) args → Reckons p f d (calling c line t args)
  good_call (called.Defined i) n line d t args takes count l ht hs = (ht, calls i n args takes count, hs)
  good_call (called.Library which) n line d t args takes count l ht hs = good_library which line d t args takes.0 (count ∙ takes.1) l ht hs

  -- the values of arguments
  good_places : (es : CExprs) (b i t : ℕ) → t ≡ b + i → b + greatest_from i (walked_all own_temps es) ≤ f.values → All (λ v. v < f.values) (places es t)
  good_places CExprs.none b i t e r = All-nil (λ v. v < f.values)
  good_places (CExprs.more x es) b i t e r =
      All-cons (λ v. v < f.values) t (places es (t + 1)) (omega (arith, e, r, four x)) (good_places es b (suc i) (t + 1) (omega (arith, e)) (omega (arith, r)))

  -- ---- Expressions

  mutual
    pub good : (e : CExpr) → Fits structs functions k e → lined e ≡ true → (d t : ℕ) → t + temps_of e ≤ f.values → Good d (code structs e t)
    good (CExpr.expr at u (CForm.Local j)) h l d t r = ((omega (arith, r), omega (arith, h.1, within)), tt)
    good (CExpr.expr at u (CForm.Number n)) h l d t r = ((omega (arith, r), h.1), tt)
    good (CExpr.expr at u (CForm.Character n)) h l d t r = ((omega (arith, r), h.1), tt)
    good (CExpr.expr at u CForm.Eof) h l d t r = ((omega (arith, r), omega arith), tt)
    good (CExpr.expr at u (CForm.SizeofExpression e)) h l d t r = ((omega (arith, r), omega arith), tt)
    good (CExpr.expr at u (CForm.SizeofType w)) h l d t r = ((omega (arith, r), omega arith), tt)
    good (CExpr.expr at u (CForm.Convert c e)) h l d t r =
        joined d (code structs e t) (fitting u t) (good e h.1.2 (first (lined e) true (second (stands_on_line at) (lined e && true) l)) d t (omega (arith, r))) (good_fitting u d t (omega (arith, r, four e)))
    good (CExpr.expr at u (CForm.Cast e)) h l d t r =
        joined d (code structs e t) (casting u t) (good e h.1.1 (first (lined e) true (second (stands_on_line at) (lined e && true) l)) d t (omega (arith, r))) (good_casting u d t (omega (arith, r, four e)))
    good (CExpr.expr at u (CForm.Unary o e)) h l d t r =
        joined d (code structs e t) (one_operand o t) (good e h.1.1 (first (lined e) true (second (stands_on_line at) (lined e && true) l)) d t (omega (arith, r))) (good_operand o d t (omega (arith, r, four e)))
    good (CExpr.expr at u (CForm.Binary o a b)) h l d t r =
        let rest = second (stands_on_line at) (lined a && (lined b && true)) l in
        let y = code structs b (second_at o t) in
        joined d (code structs a t) (binary_steps o (is_unsigned (type_of a)) at.line t y)
        (good a h.1.0 (first (lined a) (lined b && true) rest) d t (omega (arith, r)))
        (good_binary o (is_unsigned (type_of a)) at.line d t y (line_is at.line (first (stands_on_line at) (lined a && (lined b && true)) l)) (omega (arith, r, four a))
        (good b h.1.1 (first (lined b) true (second (lined a) (lined b && true) rest)) d (second_at o t) (omega (arith, r, second_most o t))))
    good (CExpr.expr at u (CForm.Conditional q a b)) h l d t r =
        let r1 = second (stands_on_line at) (lined q && (lined a && (lined b && true))) l in
        let r2 = second (lined q) (lined a && (lined b && true)) r1 in
        let r3 = second (lined a) (lined b && true) r2 in
        joined d (code structs q t) (only (Step.If t (code structs a t) (code structs b t)))
        (good q h.1.0 (first (lined q) (lined a && (lined b && true)) r1) d t (omega (arith, r)))
        ((omega (arith, r, four q), good a h.1.1 (first (lined a) (lined b && true) r2) d t (omega (arith, r)), good b h.1.2 (first (lined b) true r3) d t (omega (arith, r))), tt)
    good (CExpr.expr at u (CForm.Comma a b)) h l d t r =
        let rest = second (stands_on_line at) (lined a && (lined b && true)) l in
        joined d (code structs a t) (code structs b t)
        (good a h.1.0 (first (lined a) (lined b && true) rest) d t (omega (arith, r)))
        (good b h.1.1 (first (lined b) true (second (lined a) (lined b && true) rest)) d t (omega (arith, r)))
    good (CExpr.expr at u (CForm.Assign o a b)) h l d t r =
        let rest = second (stands_on_line at) (lined a && (lined b && true)) l in
        joined d (code structs b (right_at o t)) (assign_steps o at.line (type_of a) (type_of b) (local_of a) t)
        (good b h.1.1 (first (lined b) true (second (lined a) (lined b && true) rest)) d (right_at o t) (omega (arith, r, right_most o t)))
        (good_assign o at.line (type_of a) (type_of b) d (local_of a) t (line_is at.line (first (stands_on_line at) (lined a && (lined b && true)) l)) (local_within a h.1.0) (omega (arith, r, four b)))
    good (CExpr.expr at u (CForm.StepBefore o e)) h l d t r =
        good_stepping o u d (local_of e) t t (local_within e h.1) (omega (arith, r, four e)) (omega (arith, r, four e))
    good (CExpr.expr at u (CForm.StepAfter o e)) h l d t r =
        good_stepping o u d (local_of e) t (t + 1) (local_within e h.1) (omega (arith, r, four e)) (omega (arith, r, four e))
    good (CExpr.expr at u (CForm.Call c es)) h l d t r =
        let most : t + max 4 (greatest_from 0 (walked_all own_temps es)) ≤ f.values = omega (arith, r, temps_with_is four es) in
        let below : t + greatest_from 0 (walked_all own_temps es) ≤ f.values = omega (arith, most) in
        let here : t ≡ t + 0 = omega arith in
        joined d (all_code structs es t) (only (calling c at.line t (places es t)))
        (all_good es h.1.1 (second (stands_on_line at) (all_lined es) l) d t 0 t here below)
        (good_call c (count_of es) at.line d t (places es t) h.1.0 (places_count es t) (line_is at.line (first (stands_on_line at) (all_lined es) l)) (omega (arith, most)) (good_places es t 0 t here below), tt)
    good (CExpr.expr at u (CForm.Global n)) h l d t r = absurd h.1
    good (CExpr.expr at u (CForm.Text n)) h l d t r = absurd h.1
    good (CExpr.expr at u CForm.Null) h l d t r = absurd h.1
    good (CExpr.expr at u (CForm.Index a b)) h l d t r = absurd h.1
    good (CExpr.expr at u (CForm.Member e m)) h l d t r = absurd h.1
    good (CExpr.expr at u (CForm.Arrow e m)) h l d t r = absurd h.1

    all_good : (es : CExprs) → AllFit structs functions k es → all_lined es ≡ true → (d b i t : ℕ) → t ≡ b + i → b + greatest_from i (walked_all own_temps es) ≤ f.values → Good d (all_code structs es t)
    all_good CExprs.none h l d b i t e r = tt
    all_good (CExprs.more x es) h l d b i t e r =
        joined d (code structs x t) (all_code structs es (t + 1)) (good x h.0 (first (lined x) (all_lined es) l) d t (omega (arith, e, r)))
        (all_good es h.1 (second (lined x) (all_lined es) l) d b (suc i) (t + 1) (omega (arith, e)) (omega (arith, r)))

  -- ---- Statements

  good_if_any : (o : Option CExpr) → FitsIfAny structs functions k o → over_expr_if_any lines o ≡ true → (d : ℕ) → k + over_expr_if_any room.temps o ≤ f.values → Good d (code_if_any structs o k)
  good_if_any None h l d r = tt
  good_if_any (Some e) h l d r = good e h l d k r

  good_leaving : (d : ℕ) → k < f.values → Reckons p f (suc d) (leaving k)
  good_leaving d hk = (hk, tt, ((omega arith, omega arith), tt))

  good_test : (o : Option CExpr) → FitsIfAny structs functions k o → over_expr_if_any lines o ≡ true → (d : ℕ) → k + over_expr_if_any room.temps o ≤ f.values → Good (suc d) (test_code structs o k)
  good_test None h l d r = tt
  good_test (Some e) h l d r = joined (suc d) (code structs e k) (only (leaving k)) (good e h l (suc d) k r) (good_leaving d (omega (arith, r, four e)), tt)

  good_initial : (x : CInitial) → InitialFits structs functions k x → over_initial lines x ≡ true → (d j : ℕ) → j < k → k + over_initial room.temps x ≤ f.values → Good d (initial_code structs x j k)
  good_initial (CInitial.Value e) h l d j hj r =
      joined d (code structs e k) (only (Step.Same j k)) (good e h.1 (second true (lined e) l) d k (omega (arith, r))) ((omega (arith, hj, within), omega (arith, r, four e)), tt)
  good_initial (CInitial.Text at bytes) h l d j hj r = absurd h
  good_initial (CInitial.Braces at parts) h l d j hj r = absurd h

  good_initializer : (x : Option CInitializer) → InitializerFits structs functions k x → over_initializer lines x ≡ true → (d j : ℕ) → j < k → k + over_initializer room.temps x ≤ f.values → Good d (initializer_code structs x j k)
  good_initializer None h l d j hj r = tt
  good_initializer (Some i) h l d j hj r = good_initial i.value h l d j hj r

  good_declaration : (x : CDeclaration) → DeclarationFits structs functions k x → over_declaration lines x ≡ true → (d : ℕ) → k + over_declaration room.temps x ≤ f.values → Good d (declaration_code structs x k)
  good_declaration x h l d r = good_initializer x.initializer h.1 (second (stands_on_line x.at && initializer_on_line x.initializer) (over_initializer lines x.initializer) l) d x.local h.0 (omega (arith, r))

  good_declarations : (xs : List CDeclaration) → DeclarationsFit structs functions k xs → over_declarations lines xs ≡ true → (d : ℕ) → k + over_declarations room.temps xs ≤ f.values → Good d (declarations_code structs xs k)
  good_declarations [] h l d r = tt
  good_declarations (x ∷ xs) h l d r =
      joined d (declaration_code structs x k) (declarations_code structs xs k)
      (good_declaration x h.0 (first (over_declaration lines x) (over_declarations lines xs) l) d (omega (arith, r)))
      (good_declarations xs h.1 (second (over_declaration lines x) (over_declarations lines xs) l) d (omega (arith, r)))

  good_start : (x : CStart) → StartFits structs functions k x → over_start lines x ≡ true → (d : ℕ) → k + over_start room.temps x ≤ f.values → Good d (start_code structs x k)
  good_start CStart.Nothing h l d r = tt
  good_start (CStart.Eval e) h l d r = good e h l d k r
  good_start (CStart.Declare ds) h l d r = good_declarations ds h l d r

  -- a statement that `return` leaves out of `back` of the `d` constructs around it
  mutual
    pub good_stmt : (gv lp : Bool) (x : CStmt) → StmtFits structs functions k gv lp x → over_stmt lines x ≡ true → (back d : ℕ) → 1 ≤ back → back ≤ d → (lp ≡ true → 2 ≤ d) → k + over_stmt room.temps x ≤ f.values → Good d (stmt_code structs x back k)
    good_stmt gv lp (CStmt.Block at xs) h l back d one le two r =
        (line_is at.line (first (stands_on_line at) (over_stmts lines xs) l), good_stmts gv lp xs h (second (stands_on_line at) (over_stmts lines xs) l) back d one le two (omega (arith, r)))
    good_stmt gv lp (CStmt.Declare x) h l back d one le two r = good_declaration x h l d r
    good_stmt gv lp (CStmt.Empty at) h l back d one le two r = (line_is at.line l, tt)
    good_stmt gv lp (CStmt.Eval at e) h l back d one le two r =
        (line_is at.line (first (stands_on_line at) (lined e) l), good e h (second (stands_on_line at) (lined e) l) d k (omega (arith, r)))
    good_stmt gv lp (CStmt.If at q x) h l back d one le two r =
        let rest = second (stands_on_line at) (lined q && over_stmt lines x) l in (
          line_is at.line (first (stands_on_line at) (lined q && over_stmt lines x) l),
          joined d (code structs q k) (only (Step.If k (stmt_code structs x back k) stop)) (good q h.0 (first (lined q) (over_stmt lines x) rest) d k (omega (arith, r)))
              ((omega (arith, r, four q), good_stmt gv lp x h.1 (second (lined q) (over_stmt lines x) rest) back d one le two (omega (arith, r)), tt), tt),
        )
    good_stmt gv lp (CStmt.IfElse at q x y) h l back d one le two r =
        let rest = second (stands_on_line at) (lined q && (over_stmt lines x && over_stmt lines y)) l in
        let both = second (lined q) (over_stmt lines x && over_stmt lines y) rest in (
          line_is at.line (first (stands_on_line at) (lined q && (over_stmt lines x && over_stmt lines y)) l),
          joined d (code structs q k) (only (Step.If k (stmt_code structs x back k) (stmt_code structs y back k))) (good q h.0 (first (lined q) (over_stmt lines x && over_stmt lines y) rest) d k (omega (arith, r))) (
            (
              omega (arith, r, four q),
              good_stmt gv lp x h.1 (first (over_stmt lines x) (over_stmt lines y) both) back d one le two (omega (arith, r)),
              good_stmt gv lp y h.2 (second (over_stmt lines x) (over_stmt lines y) both) back d one le two (omega (arith, r)),
            ),
            tt,
          ),
        )
    good_stmt gv lp (CStmt.While at q x) h l back d one le two r =
        let rest = second (stands_on_line at) (lined q && over_stmt lines x) l in
        let body = stmt_code structs x (back + 2) k in (
          line_is at.line (first (stands_on_line at) (lined q && over_stmt lines x) l),
          (
            joined (suc d) (code structs q k) (more (leaving k) (only (Step.Block body))) (good q h.0 (first (lined q) (over_stmt lines x) rest) (suc d) k (omega (arith, r)))
                (good_leaving d (omega (arith, r, four q)), (good_stmt gv true x h.1 (second (lined q) (over_stmt lines x) rest) (back + 2) (suc (suc d)) (omega arith) (omega (arith, le)) (λ e. omega arith) (omega (arith, r)), tt)),
            tt,
          ),
        )
    good_stmt gv lp (CStmt.Do at x q) h l back d one le two r =
        let rest = second (stands_on_line at) (over_stmt lines x && lined q) l in (
          line_is at.line (first (stands_on_line at) (over_stmt lines x && lined q) l),
          (
            (
              good_stmt gv true x h.0 (first (over_stmt lines x) (lined q) rest) (back + 2) (suc (suc d)) (omega arith) (omega (arith, le)) (λ e. omega arith) (omega (arith, r)),
              joined (suc d) (code structs q k) (only (leaving k)) (good q h.1 (second (over_stmt lines x) (lined q) rest) (suc d) k (omega (arith, r))) (good_leaving d (omega (arith, r, four q)), tt),
            ),
            tt,
          ),
        )
    good_stmt gv lp (CStmt.For at start q step x) h l back d one le two r =
        let r0 = second (stands_on_line at) (over_start lines start && (over_expr_if_any lines q && (over_expr_if_any lines step && over_stmt lines x))) l in
        let r1 = second (over_start lines start) (over_expr_if_any lines q && (over_expr_if_any lines step && over_stmt lines x)) r0 in
        let r2 = second (over_expr_if_any lines q) (over_expr_if_any lines step && over_stmt lines x) r1 in (
          line_is at.line (first (stands_on_line at) (over_start lines start && (over_expr_if_any lines q && (over_expr_if_any lines step && over_stmt lines x))) l),
          joined d (start_code structs start k) (only (Step.Loop (append (test_code structs q k) (more (Step.Block (stmt_code structs x (back + 2) k)) (code_if_any structs step k)))))
              (good_start start h.0 (first (over_start lines start) (over_expr_if_any lines q && (over_expr_if_any lines step && over_stmt lines x)) r0) d (omega (arith, r))) (
                joined (suc d) (test_code structs q k) (more (Step.Block (stmt_code structs x (back + 2) k)) (code_if_any structs step k))
                    (good_test q h.1 (first (over_expr_if_any lines q) (over_expr_if_any lines step && over_stmt lines x) r1) d (omega (arith, r))) (
                      good_stmt gv true x h.3 (second (over_expr_if_any lines step) (over_stmt lines x) r2) (back + 2) (suc (suc d)) (omega arith) (omega (arith, le)) (λ e. omega arith) (omega (arith, r)),
                      good_if_any step h.2 (first (over_expr_if_any lines step) (over_stmt lines x) r2) (suc d) (omega (arith, r)),
                    ),
                tt,
              ),
        )
    good_stmt gv lp (CStmt.Break at) h l back d one le two r = (line_is at.line l, ((omega arith, two h), tt))
    good_stmt gv lp (CStmt.Continue at) h l back d one le two r = (line_is at.line l, ((omega arith, omega (arith, one, le)), tt))
    good_stmt gv lp (CStmt.Return at None) h l back d one le two r = (line_is at.line (first (stands_on_line at) true l), ((one, le), tt))
    good_stmt gv lp (CStmt.Return at (Some e)) h l back d one le two r = (
      line_is at.line (first (stands_on_line at) (lined e) l),
      joined d (code structs e k) (only (Step.Return k)) (good e h.1 (second (stands_on_line at) (lined e) l) d k (omega (arith, r))) (omega (arith, r, four e), tt),
    )

    good_stmts : (gv lp : Bool) (xs : CStmts) → StmtsFit structs functions k gv lp xs → over_stmts lines xs ≡ true → (back d : ℕ) → 1 ≤ back → back ≤ d → (lp ≡ true → 2 ≤ d) → k + over_stmts room.temps xs ≤ f.values → Good d (stmts_code structs xs back k)
    good_stmts gv lp CStmts.none h l back d one le two r = tt
    good_stmts gv lp (CStmts.more x xs) h l back d one le two r =
        joined d (stmt_code structs x back k) (stmts_code structs xs back k)
        (good_stmt gv lp x h.0 (first (over_stmt lines x) (over_stmts lines xs) l) back d one le two (omega (arith, r)))
        (good_stmts gv lp xs h.1 (second (over_stmt lines x) (over_stmts lines xs) l) back d one le two (omega (arith, r)))

-- A local is marked after a walk over a statement exactly if it was marked before or `&` is applied to it there.
use Rattle.std.proofs.Common.{◌≡◌, ℕ, suc, ◌+◌, ◌<◌, List, [], ◌∷◌, length, get_or, refl, sym, ◌∙◌, ap, Bool, true, false, arith}
use Rattle.std.specs.Prelude.{◌||◌, ◌==◌, map, Option, Some, None, slice_set}
use Rattle.std.proofs.lemmas.Bool.{eqb-true, eqb-false}
use Rattle.std.proofs.lemmas.Grind.{get_or-set_at}
use Rattle.std.proofs.lemmas.List.{length-set, get_or-set_other, get_or-replicate, length-replicate, length-map}
use Rattle.c_words.specs.declared.operators.UnaryOperator.TheVariants.{Plus, Minus, Complement, Not, Address, Dereference}
use Rattle.typed_tree.specs.TypedTree.{CExpr, CForm, CExprs, CInitial, CInitials, CInitializer, CDeclaration, CStart, CStmt, CStmts, CStruct}
use Rattle.typed_tree.specs.Walk.{Sum, walked_operands, walked_all, any_of, some_expr, over_initial, over_initials, over_initializer, over_declaration, over_declarations, over_start, over_expr_if_any, over_stmt, over_stmts}
use Rattle.typed_tree.specs.Typed.{is_local, refers_to, stmt_refers}
use Rattle.typing_expressions.specs.declared.scene.Draft.{Draft}
use Rattle.typing_expressions.specs.Scene.{CDraft, draft_of}
use Rattle.typing_initializers.specs.Marks.{Marking, mark_local, mark_one, in_turn, mark_step, mark_expr, marking, mark_stmt}
use Rattle.typing_unit_keeps.specs.Units.{finished}
use Rattle.typing_unit.specs.UnitSteps.{no_marks, finished_local, finished_by}

-- afterwards those are marked that were before, and those that the test holds of
record Marks (f : Marking) (t : ℕ → Bool) : Type 0 where
  keeps : (marks : List Bool) → length (f marks) ≡ length marks
  sets : (marks : List Bool) (k : ℕ) → k < length marks → get_or (f marks) k false ≡ (get_or marks k false || t k)

or_false : (a : Bool) → a ≡ (a || false)
or_false true = refl
or_false false = refl

or_assoc : (a b c : Bool) → ((a || b) || c) ≡ (a || (b || c))
or_assoc true b c = refl
or_assoc false b c = refl

nothing : Marks (λ marks. marks) (λ k. false)
nothing = record { keeps = λ marks. refl; sets = λ marks k h. or_false (get_or marks k false) }

followed : (f g : Marking) (t u : ℕ → Bool) → Marks f t → Marks g u → Marks (λ marks. g (f marks)) (λ k. t k || u k)
followed f g t u p q = record {
  keeps = λ marks. q.keeps (f marks) ∙ p.keeps marks;
  sets = λ marks k h.
      let same = p.keeps marks in
      q.sets (f marks) k (omega (arith, same, h)) ∙ ap (λ b. b || u k) (p.sets marks k h) ∙ or_assoc (get_or marks k false) (t k) (u k);
}

or_true : (b : Bool) → true ≡ (b || true)
or_true true = refl
or_true false = refl

set_at : (marks : List Bool) (k n : ℕ) → k < length marks → get_or (slice_set marks n true) k false ≡ (get_or marks k false || (k == n))
set_at marks k n h = by (k == n) refl
  where
    by : (b : Bool) → (k == n) ≡ b → get_or (slice_set marks n true) k false ≡ (get_or marks k false || b)
    by true e = get_or-set_at marks n k true false (eqb-true k n e) (let q = eqb-true k n e in omega (arith, h, q)) ∙ or_true (get_or marks k false)
    by false e = get_or-set_other marks n k true false (eqb-false k n e) ∙ or_false (get_or marks k false)

set_one : (n : ℕ) → Marks (λ marks. slice_set marks n true) (λ k. k == n)
set_one n = record { keeps = λ marks. length-set marks n true; sets = λ marks k h. set_at marks k n h }

local_marks : (e : CExpr) → Marks (mark_local e) (λ k. is_local k e)
local_marks (CExpr.expr at t (CForm.Local n)) = set_one n
local_marks (CExpr.expr at t (CForm.Global n)) = nothing
local_marks (CExpr.expr at t (CForm.Text n)) = nothing
local_marks (CExpr.expr at t (CForm.Number n)) = nothing
local_marks (CExpr.expr at t (CForm.Character n)) = nothing
local_marks (CExpr.expr at t CForm.Null) = nothing
local_marks (CExpr.expr at t CForm.Eof) = nothing
local_marks (CExpr.expr at t (CForm.SizeofType u)) = nothing
local_marks (CExpr.expr at t (CForm.Call f es)) = nothing
local_marks (CExpr.expr at t (CForm.Conditional c a b)) = nothing
local_marks (CExpr.expr at t (CForm.Convert c e)) = nothing
local_marks (CExpr.expr at t (CForm.Member e m)) = nothing
local_marks (CExpr.expr at t (CForm.Arrow e m)) = nothing
local_marks (CExpr.expr at t (CForm.StepBefore op e)) = nothing
local_marks (CExpr.expr at t (CForm.StepAfter op e)) = nothing
local_marks (CExpr.expr at t (CForm.Unary op e)) = nothing
local_marks (CExpr.expr at t (CForm.Cast e)) = nothing
local_marks (CExpr.expr at t (CForm.SizeofExpression e)) = nothing
local_marks (CExpr.expr at t (CForm.Index a b)) = nothing
local_marks (CExpr.expr at t (CForm.Binary op a b)) = nothing
local_marks (CExpr.expr at t (CForm.Assign op a b)) = nothing
local_marks (CExpr.expr at t (CForm.Comma a b)) = nothing

one_marks : (e : CExpr) → Marks (mark_one e) (λ k. refers_to k e)
one_marks (CExpr.expr at t (CForm.Unary Address e)) = local_marks e
one_marks (CExpr.expr at t (CForm.Unary Plus e)) = nothing
one_marks (CExpr.expr at t (CForm.Unary Minus e)) = nothing
one_marks (CExpr.expr at t (CForm.Unary Complement e)) = nothing
one_marks (CExpr.expr at t (CForm.Unary Not e)) = nothing
one_marks (CExpr.expr at t (CForm.Unary Dereference e)) = nothing
one_marks (CExpr.expr at t (CForm.Local n)) = nothing
one_marks (CExpr.expr at t (CForm.Global n)) = nothing
one_marks (CExpr.expr at t (CForm.Text n)) = nothing
one_marks (CExpr.expr at t (CForm.Number n)) = nothing
one_marks (CExpr.expr at t (CForm.Character n)) = nothing
one_marks (CExpr.expr at t CForm.Null) = nothing
one_marks (CExpr.expr at t CForm.Eof) = nothing
one_marks (CExpr.expr at t (CForm.SizeofType u)) = nothing
one_marks (CExpr.expr at t (CForm.Call f es)) = nothing
one_marks (CExpr.expr at t (CForm.Conditional c a b)) = nothing
one_marks (CExpr.expr at t (CForm.Convert c e)) = nothing
one_marks (CExpr.expr at t (CForm.Member e m)) = nothing
one_marks (CExpr.expr at t (CForm.Arrow e m)) = nothing
one_marks (CExpr.expr at t (CForm.StepBefore op e)) = nothing
one_marks (CExpr.expr at t (CForm.StepAfter op e)) = nothing
one_marks (CExpr.expr at t (CForm.Cast e)) = nothing
one_marks (CExpr.expr at t (CForm.SizeofExpression e)) = nothing
one_marks (CExpr.expr at t (CForm.Index a b)) = nothing
one_marks (CExpr.expr at t (CForm.Binary op a b)) = nothing
one_marks (CExpr.expr at t (CForm.Assign op a b)) = nothing
one_marks (CExpr.expr at t (CForm.Comma a b)) = nothing

abbrev some_step : ℕ → CExpr → List Bool → Bool
some_step k e bs = refers_to k e || any_of bs

abbrev Marked : CExpr → Type 0
Marked e = Marks (mark_expr e) (λ k. some_expr (refers_to k) e)

alone : (e : CExpr) → Marked e → Marks (λ marks. mark_expr e marks) (λ k. some_expr (refers_to k) e || false)
alone e p = followed (mark_expr e) (λ marks. marks) (λ k. some_expr (refers_to k) e) (λ k. false) p nothing

both : (a b : CExpr) → Marked a → Marked b → Marks (λ marks. mark_expr b (mark_expr a marks)) (λ k. some_expr (refers_to k) a || (some_expr (refers_to k) b || false))
both a b p q = followed (mark_expr a) (λ marks. mark_expr b marks) (λ k. some_expr (refers_to k) a) (λ k. some_expr (refers_to k) b || false) p (alone b q)

three : (c a b : CExpr) → Marked c → Marked a → Marked b
    → Marks (λ marks. mark_expr b (mark_expr a (mark_expr c marks))) (λ k. some_expr (refers_to k) c || (some_expr (refers_to k) a || (some_expr (refers_to k) b || false)))
three c a b o p q = followed (mark_expr c) (λ marks. mark_expr b (mark_expr a marks)) (λ k. some_expr (refers_to k) c) (λ k. some_expr (refers_to k) a || (some_expr (refers_to k) b || false)) o (both a b p q)

mutual
  expr_marks : (e : CExpr) → Marks (mark_expr e) (λ k. some_expr (refers_to k) e)
  expr_marks (CExpr.expr at t form) =
      followed (mark_one (CExpr.expr at t form)) (in_turn (walked_operands mark_step form)) (λ k. refers_to k (CExpr.expr at t form)) (λ k. any_of (walked_operands (some_step k) form))
      (one_marks (CExpr.expr at t form)) (form_marks form)

  form_marks : (form : CForm) → Marks (in_turn (walked_operands mark_step form)) (λ k. any_of (walked_operands (some_step k) form))
  form_marks (CForm.Local n) = nothing
  form_marks (CForm.Global n) = nothing
  form_marks (CForm.Text n) = nothing
  form_marks (CForm.Number n) = nothing
  form_marks (CForm.Character n) = nothing
  form_marks CForm.Null = nothing
  form_marks CForm.Eof = nothing
  form_marks (CForm.SizeofType u) = nothing
  form_marks (CForm.Call f es) = all_marks es
  form_marks (CForm.Convert c e) = alone e (expr_marks e)
  form_marks (CForm.Member e m) = alone e (expr_marks e)
  form_marks (CForm.Arrow e m) = alone e (expr_marks e)
  form_marks (CForm.StepBefore op e) = alone e (expr_marks e)
  form_marks (CForm.StepAfter op e) = alone e (expr_marks e)
  form_marks (CForm.Unary op e) = alone e (expr_marks e)
  form_marks (CForm.Cast e) = alone e (expr_marks e)
  form_marks (CForm.SizeofExpression e) = alone e (expr_marks e)
  form_marks (CForm.Index a b) = both a b (expr_marks a) (expr_marks b)
  form_marks (CForm.Binary op a b) = both a b (expr_marks a) (expr_marks b)
  form_marks (CForm.Assign op a b) = both a b (expr_marks a) (expr_marks b)
  form_marks (CForm.Comma a b) = both a b (expr_marks a) (expr_marks b)
  form_marks (CForm.Conditional c a b) = three c a b (expr_marks c) (expr_marks a) (expr_marks b)

  all_marks : (es : CExprs) → Marks (in_turn (walked_all mark_step es)) (λ k. any_of (walked_all (some_step k) es))
  all_marks CExprs.none = nothing
  all_marks (CExprs.more e es) = followed (mark_expr e) (in_turn (walked_all mark_step es)) (λ k. some_expr (refers_to k) e) (λ k. any_of (walked_all (some_step k) es)) (expr_marks e) (all_marks es)

abbrev some_of : ℕ → Sum Bool
some_of k = record {
  nothing = false;
  both = λ a b. a || b;
  expr = some_expr (refers_to k);
  initial = λ i. false;
  declaration = λ d. false;
  statement = λ s. false;
}

mutual
  initial_marks : (i : CInitial) → Marks (over_initial marking i) (λ k. over_initial (some_of k) i)
  initial_marks (CInitial.Value e) = followed (λ marks. marks) (mark_expr e) (λ k. false) (λ k. some_expr (refers_to k) e) nothing (expr_marks e)
  initial_marks (CInitial.Text at bytes) = nothing
  initial_marks (CInitial.Braces at parts) = followed (λ marks. marks) (over_initials marking parts) (λ k. false) (λ k. over_initials (some_of k) parts) nothing (initials_marks parts)

  initials_marks : (is : CInitials) → Marks (over_initials marking is) (λ k. over_initials (some_of k) is)
  initials_marks CInitials.none = nothing
  initials_marks (CInitials.more i is) = followed (over_initial marking i) (over_initials marking is) (λ k. over_initial (some_of k) i) (λ k. over_initials (some_of k) is) (initial_marks i) (initials_marks is)

initializer_marks : (i : Option CInitializer) → Marks (over_initializer marking i) (λ k. over_initializer (some_of k) i)
initializer_marks None = nothing
initializer_marks (Some i) = initial_marks i.value

declaration_marks : (d : CDeclaration) → Marks (over_declaration marking d) (λ k. over_declaration (some_of k) d)
declaration_marks d = followed (λ marks. marks) (over_initializer marking d.initializer) (λ k. false) (λ k. over_initializer (some_of k) d.initializer) nothing (initializer_marks d.initializer)

declarations_marks : (ds : List CDeclaration) → Marks (over_declarations marking ds) (λ k. over_declarations (some_of k) ds)
declarations_marks [] = nothing
declarations_marks (d ∷ ds) = followed (over_declaration marking d) (over_declarations marking ds) (λ k. over_declaration (some_of k) d) (λ k. over_declarations (some_of k) ds) (declaration_marks d) (declarations_marks ds)

start_marks : (s : CStart) → Marks (over_start marking s) (λ k. over_start (some_of k) s)
start_marks CStart.Nothing = nothing
start_marks (CStart.Eval e) = expr_marks e
start_marks (CStart.Declare ds) = declarations_marks ds

any_marks : (e : Option CExpr) → Marks (over_expr_if_any marking e) (λ k. over_expr_if_any (some_of k) e)
any_marks None = nothing
any_marks (Some e) = expr_marks e

-- behind a statement of its own, which marks nothing
inner : (f : Marking) (t : ℕ → Bool) → Marks f t → Marks (λ marks. f marks) (λ k. false || t k)
inner f t p = followed (λ marks. marks) f (λ k. false) t nothing p

mutual
  stmt_marks : (x : CStmt) → Marks (mark_stmt x) (λ k. over_stmt (some_of k) x)
  stmt_marks (CStmt.Block at xs) = inner _ (λ k. over_stmts (some_of k) xs) (stmts_marks xs)
  stmt_marks (CStmt.Declare d) = declaration_marks d
  stmt_marks (CStmt.Empty at) = nothing
  stmt_marks (CStmt.Eval at e) = inner _ (λ k. some_expr (refers_to k) e) (expr_marks e)
  stmt_marks (CStmt.If at c x) =
      inner (λ marks. mark_stmt x (mark_expr c marks)) (λ k. some_expr (refers_to k) c || over_stmt (some_of k) x)
      (followed (mark_expr c) (mark_stmt x) (λ k. some_expr (refers_to k) c) (λ k. over_stmt (some_of k) x) (expr_marks c) (stmt_marks x))
  stmt_marks (CStmt.IfElse at c x y) =
      inner (λ marks. mark_stmt y (mark_stmt x (mark_expr c marks))) (λ k. some_expr (refers_to k) c || (over_stmt (some_of k) x || over_stmt (some_of k) y))
      (followed (mark_expr c) (λ marks. mark_stmt y (mark_stmt x marks)) (λ k. some_expr (refers_to k) c) (λ k. over_stmt (some_of k) x || over_stmt (some_of k) y) (expr_marks c)
      (followed (mark_stmt x) (mark_stmt y) (λ k. over_stmt (some_of k) x) (λ k. over_stmt (some_of k) y) (stmt_marks x) (stmt_marks y)))
  stmt_marks (CStmt.While at c x) =
      inner (λ marks. mark_stmt x (mark_expr c marks)) (λ k. some_expr (refers_to k) c || over_stmt (some_of k) x)
      (followed (mark_expr c) (mark_stmt x) (λ k. some_expr (refers_to k) c) (λ k. over_stmt (some_of k) x) (expr_marks c) (stmt_marks x))
  stmt_marks (CStmt.Do at x c) =
      inner (λ marks. mark_expr c (mark_stmt x marks)) (λ k. over_stmt (some_of k) x || some_expr (refers_to k) c)
      (followed (mark_stmt x) (mark_expr c) (λ k. over_stmt (some_of k) x) (λ k. some_expr (refers_to k) c) (stmt_marks x) (expr_marks c))
  stmt_marks (CStmt.For at s c u x) =
      inner (λ marks. mark_stmt x (over_expr_if_any marking u (over_expr_if_any marking c (over_start marking s marks))))
      (λ k. over_start (some_of k) s || (over_expr_if_any (some_of k) c || (over_expr_if_any (some_of k) u || over_stmt (some_of k) x)))
      (followed (over_start marking s) (λ marks. mark_stmt x (over_expr_if_any marking u (over_expr_if_any marking c marks)))
      (λ k. over_start (some_of k) s) (λ k. over_expr_if_any (some_of k) c || (over_expr_if_any (some_of k) u || over_stmt (some_of k) x)) (start_marks s)
      (followed (over_expr_if_any marking c) (λ marks. mark_stmt x (over_expr_if_any marking u marks))
      (λ k. over_expr_if_any (some_of k) c) (λ k. over_expr_if_any (some_of k) u || over_stmt (some_of k) x) (any_marks c)
      (followed (over_expr_if_any marking u) (mark_stmt x) (λ k. over_expr_if_any (some_of k) u) (λ k. over_stmt (some_of k) x) (any_marks u) (stmt_marks x))))
  stmt_marks (CStmt.Break at) = nothing
  stmt_marks (CStmt.Continue at) = nothing
  stmt_marks (CStmt.Return at e) = inner (over_expr_if_any marking e) (λ k. over_expr_if_any (some_of k) e) (any_marks e)

  stmts_marks : (xs : CStmts) → Marks (over_stmts marking xs) (λ k. over_stmts (some_of k) xs)
  stmts_marks CStmts.none = nothing
  stmts_marks (CStmts.more x xs) = followed (mark_stmt x) (over_stmts marking xs) (λ k. over_stmt (some_of k) x) (λ k. over_stmts (some_of k) xs) (stmt_marks x) (stmts_marks xs)

-- the marks of a body, beside its locals
marked_from : (structs : List CStruct) (body : CStmt) (from : ℕ) (marks : List Bool) (ls : List CDraft) → length marks ≡ length ls
    → ((j : ℕ) → j < length marks → get_or marks j false ≡ stmt_refers (from + j) body) → finished_by structs marks ls ≡ finished structs body from ls
marked_from structs body from [] [] n h = refl
marked_from structs body from [] (l ∷ ls) n h = absurd (omega (arith, n))
marked_from structs body from (m ∷ ms) [] n h = absurd (omega (arith, n))
marked_from structs body from (m ∷ ms) (l ∷ ls) n h =
    let zero_more : from + 0 ≡ from = omega arith in
    let here : m ≡ stmt_refers from body = h 0 (omega arith) ∙ ap (λ k. stmt_refers k body) zero_more in
    let one_more : (j : ℕ) → from + suc j ≡ from + 1 + j = λ j. omega arith in
    let same : length ms ≡ length ls = omega (arith, n) in
    ap (λ b. finished_local structs b l ∷ finished_by structs ms ls) here
    ∙ ap (λ r. finished_local structs (stmt_refers from body) l ∷ r)
    (marked_from structs body (from + 1) ms ls same (λ j less. h (suc j) (omega (arith, less)) ∙ ap (λ k. stmt_refers k body) (one_more j)))

pub finished_is : (structs : List CStruct) (body : CStmt) (ls : List CDraft) → finished_by structs (mark_stmt body (no_marks (length ls))) ls ≡ finished structs body 0 ls
finished_is structs body ls =
    let p = stmt_marks body in
    let n = length ls in
    let long : length (no_marks n) ≡ n = length-replicate n false in
    let same : length (mark_stmt body (no_marks n)) ≡ n = p.keeps (no_marks n) ∙ long in
    marked_from structs body 0 (mark_stmt body (no_marks n)) ls same
    (λ j less.
    let none_less : 0 + j ≡ j = omega arith in
    p.sets (no_marks n) j (omega (arith, less, same, long))
    ∙ ap (λ b. b || stmt_refers j body) (get_or-replicate n j false false (omega (arith, less, same)))
    ∙ ap (λ k. stmt_refers k body) (sym none_less))

pub finished_from : (structs : List CStruct) (body : CStmt) (drafts : List Draft) (n : ℕ) (before after : List Bool) → n ≡ length drafts → before ≡ no_marks n → after ≡ mark_stmt body before
    → finished_by structs after (map draft_of drafts) ≡ finished structs body 0 (map draft_of drafts)
finished_from structs body drafts n before after e b a =
    ap (λ marks. finished_by structs marks (map draft_of drafts)) (a ∙ ap (mark_stmt body) (b ∙ ap no_marks (e ∙ sym (length-map drafts draft_of))))
    ∙ finished_is structs body (map draft_of drafts)

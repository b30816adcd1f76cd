-- The typed statements of a file in range stand on lines of the text.
use Rattle.std.proofs.Common.{◌≡◌, ℕ, true, false, not, List, [], ◌∷◌, ◌++◌, length, map, refl}
use Rattle.std.specs.Prelude.{Option, Some, None, IfSome}
use Rattle.std.specs.List.{AllByRecursion}
use Rattle.c_words.specs.declared.place.At.{At}
use Rattle.syntax_tree.specs.Syntax.{ExpressionTree, DeclaratorTree, InitializerTree, InitDeclaratorTree, DeclarationTree, ForStartTree, StatementTree, BlockTree, BlockItemTree, BlockItemTrees}
use Rattle.syntax_tree.specs.GrammarDeclarations.{declarator_at}
use Rattle.typed_tree.specs.Types.{CType}
use Rattle.typed_tree.specs.TypedTree.{CExpr, CDeclaration, CStart, CStmt}
use Rattle.typed_tree.specs.TypedViews.{stmts}
use Rattle.typed_tree.specs.Walk.{over_declaration, over_declarations, over_start, over_expr_if_any, over_stmt, over_stmts}
use Rattle.typing_operators.specs.declared.error.TypeError.TheVariants.{Twice}
use Rattle.typing_operators.specs.Rule.{Rule}
use Rattle.typing_operators.specs.Conversions.{decayed, given, is_void}
use Rattle.typing_operators.specs.Operators.{tested}
use Rattle.typing_expressions.specs.Scene.{CScene}
use Rattle.typing_expressions.specs.Expressions.{typed, based}
use Rattle.typing_declarations.specs.Declarators.{opened, is_taken, declarator_steps, declared_name, completed, object_type}
use Rattle.typing_expressions.specs.Initializers.{initialized}
use Rattle.typing_statements.specs.Statements.{CAround, within_loop, with_local, initialized_local, local, locals, declaration, evaluated, condition, if_any, start_expression, start, returned, statement, block, items, item}
use Rattle.syntax_in_range.specs.InRange.{IsPlace, ExpressionInRange, DeclaratorInRange, InitializerInRange, InitDeclaratorInRange, DeclarationInRange, ForStartInRange, StatementInRange, BlockInRange, ItemInRange, ItemsInRange}
use Rattle.typing_unit_keeps.proofs.LinedRules.{Yields, gives, unless, and_then, anything, OnLine, both, decayed_lined, given_lined, tested_lined}
use Rattle.typing_unit_keeps.proofs.LinedExpressions.{on_line, behind, LinedHere, typed_lined}
use Rattle.typing_unit_keeps.proofs.LinedInitials.{lines, initialized_lined}

abbrev LinedDeclaration : CDeclaration → Type 0
LinedDeclaration d = over_declaration lines d ≡ true

-- the statement and all in it stand on lines
abbrev pub LinedStmt : CStmt → Type 0
LinedStmt x = over_stmt lines x ≡ true

abbrev LinedIfAny : Option CExpr → Type 0
LinedIfAny o = over_expr_if_any lines o ≡ true

abbrev DeclarationHere : CDeclaration × CScene → Type 0
DeclarationHere x = LinedDeclaration x.0

abbrev DeclarationsHere : List CDeclaration × CScene → Type 0
DeclarationsHere x = AllByRecursion LinedDeclaration x.0

abbrev IfAnyHere : Option CExpr × CScene → Type 0
IfAnyHere x = LinedIfAny x.0

abbrev StartHere : CStart × CScene → Type 0
StartHere x = over_start lines x.0 ≡ true

abbrev pub StmtHere : CStmt × CScene → Type 0
StmtHere x = LinedStmt x.0

abbrev StmtsHere : List CStmt × CScene → Type 0
StmtsHere x = AllByRecursion LinedStmt x.0

-- ---- declarations

pub declarator_place : (d : DeclaratorTree) → DeclaratorInRange d → IsPlace (declarator_at d)
declarator_place (DeclaratorTree.Named at n x suffixes) h = h.0
declarator_place (DeclaratorTree.Nested at n inner suffixes) h = h.0

initialized_local_lined : (s : CScene) (at : At) (k : ℕ) (t : CType) (equals : At) (o : Option InitializerTree) → OnLine at → OnLine equals → IfSome o InitializerInRange
    → Yields DeclarationHere (initialized_local s at k t equals o)
initialized_local_lined s at k t equals None p q h = gives DeclarationHere _ (both (both p refl) refl)
initialized_local_lined s at k t equals (Some i) p q h =
    and_then (initialized false s at.line t i) _ (initialized_lined false s at.line t i h) (λ v l. gives DeclarationHere _ (both (both p q) l))

local_lined : (s : CScene) (base : CType) (d : InitDeclaratorTree) → InitDeclaratorInRange d → Yields DeclarationHere (local s base d)
local_lined s base d h =
    and_then (declarator_steps [] s d.declarator) _ (anything _)
    (λ ps k. unless (is_taken ps.1 (declared_name d.declarator)) (Twice (declarator_at d.declarator).line (declared_name d.declarator)) _
    (and_then (object_type ps.1.structs (declarator_at d.declarator).line base (completed base d.initializer ps.0)) _ (anything _)
    (λ t l. initialized_local_lined (with_local ps.1 (declared_name d.declarator) t) (declarator_at d.declarator) (length ps.1.locals) t d.at d.initializer
    (on_line (declarator_at d.declarator) (declarator_place d.declarator h.1)) (on_line d.at h.0) h.2)))

locals_lined : (done : List CDeclaration) (s : CScene) (base : CType) (ds : List InitDeclaratorTree) → AllByRecursion LinedDeclaration done → AllByRecursion InitDeclaratorInRange ds
    → Yields DeclarationsHere (locals done s base ds)
locals_lined done s base [] k h = gives DeclarationsHere (done, s) k
locals_lined done s base (d ∷ ds) k h =
    and_then (local s base d) _ (local_lined s base d h.0)
    (λ x l. locals_lined (done ++ x.0 ∷ []) x.1 base ds (behind LinedDeclaration done (x.0 ∷ []) k (l, tt)) h.1)

declaration_lined : (s : CScene) (d : DeclarationTree) → DeclarationInRange d → Yields DeclarationsHere (declaration s d)
declaration_lined s d h = locals_lined [] (based s d.specifier).1 (based s d.specifier).0 d.declarators tt h.2

-- ---- expressions of statements

evaluated_lined : (s : CScene) (e : ExpressionTree) → ExpressionInRange e → Yields LinedHere (evaluated s e)
evaluated_lined s e h = and_then (typed s e) _ (typed_lined s e h) (λ x k. gives LinedHere (decayed x.0, x.1) (decayed_lined x.0 k))

condition_lined : (s : CScene) (line : ℕ) (e : ExpressionTree) → ExpressionInRange e → Yields LinedHere (condition s line e)
condition_lined s line e h =
    and_then (typed s e) _ (typed_lined s e h) (λ x k. and_then (tested line x.0) _ (tested_lined line x.0 k) (λ c l. gives LinedHere (c, x.1) l))

if_any_lined : (f : CScene → ExpressionTree → Rule (CExpr × CScene)) → ((s : CScene) (e : ExpressionTree) → ExpressionInRange e → Yields LinedHere (f s e))
    → (s : CScene) (o : Option ExpressionTree) → IfSome o ExpressionInRange → Yields IfAnyHere (if_any f s o)
if_any_lined f g s None h = gives IfAnyHere _ refl
if_any_lined f g s (Some e) h = and_then (f s e) _ (g s e h) (λ y k. gives IfAnyHere _ k)

declarations_lined : (ds : List CDeclaration) → AllByRecursion LinedDeclaration ds → over_declarations lines ds ≡ true
declarations_lined [] h = refl
declarations_lined (d ∷ ds) h = both h.0 (declarations_lined ds h.1)

start_expression_lined : (s : CScene) (o : Option ExpressionTree) → IfSome o ExpressionInRange → Yields StartHere (start_expression s o)
start_expression_lined s None h = gives StartHere _ refl
start_expression_lined s (Some e) h = and_then (evaluated s e) _ (evaluated_lined s e h) (λ x k. gives StartHere _ k)

start_lined : (s : CScene) (x : ForStartTree) → ForStartInRange x → Yields StartHere (start s x)
start_lined s (ForStartTree.Declaration d) h = and_then (declaration s d) _ (declaration_lined s d h) (λ x k. gives StartHere _ (declarations_lined x.0 k))
start_lined s (ForStartTree.Expression o) h = start_expression_lined s o h

returned_lined : (a : CAround) (s : CScene) (at : At) (o : Option ExpressionTree) → OnLine at → IfSome o ExpressionInRange → Yields StmtHere (returned a s at o)
returned_lined a s at None p h = unless (not (is_void a.result)) _ _ (gives StmtHere _ (both p refl))
returned_lined a s at (Some e) p h =
    and_then (typed s e) _ (typed_lined s e h)
    (λ x k. unless (is_void a.result) _ _ (and_then (given at.line a.result x.0) _ (given_lined at.line a.result x.0 k) (λ v l. gives StmtHere _ (both p l))))

-- ---- statements

stmts_lined : (xs : List CStmt) → AllByRecursion LinedStmt xs → over_stmts lines (stmts xs) ≡ true
stmts_lined [] h = refl
stmts_lined (x ∷ xs) h = both h.0 (stmts_lined xs h.1)

declared_lined : (ds : List CDeclaration) → AllByRecursion LinedDeclaration ds → AllByRecursion LinedStmt (map CStmt.Declare ds)
declared_lined [] h = tt
declared_lined (d ∷ ds) h = (h.0, declared_lined ds h.1)

mutual
  statement_lined : (a : CAround) (s : CScene) (x : StatementTree) → StatementInRange x → Yields StmtHere (statement a s x)
  statement_lined a s (StatementTree.Block b) h = and_then (block a (opened s) b) _ (block_lined a (opened s) b h) (λ x k. gives StmtHere _ k)
  statement_lined a s (StatementTree.Empty at) h = gives StmtHere _ (on_line at h)
  statement_lined a s (StatementTree.Expression at e) h = and_then (evaluated s e) _ (evaluated_lined s e h.1) (λ x k. gives StmtHere _ (both (on_line at h.0) k))
  statement_lined a s (StatementTree.If at e x) h =
      and_then (condition s at.line e) _ (condition_lined s at.line e h.1)
      (λ c k. and_then (statement a c.1 x) _ (statement_lined a c.1 x h.2) (λ y l. gives StmtHere _ (both (on_line at h.0) (both k l))))
  statement_lined a s (StatementTree.IfElse at e x z) h =
      and_then (condition s at.line e) _ (condition_lined s at.line e h.1)
      (λ c k. and_then (statement a c.1 x) _ (statement_lined a c.1 x h.2)
      (λ y l. and_then (statement a y.1 z) _ (statement_lined a y.1 z h.3) (λ w m. gives StmtHere _ (both (on_line at h.0) (both k (both l m))))))
  statement_lined a s (StatementTree.While at e x) h =
      and_then (condition s at.line e) _ (condition_lined s at.line e h.1)
      (λ c k. and_then (statement (within_loop a) c.1 x) _ (statement_lined (within_loop a) c.1 x h.2) (λ y l. gives StmtHere _ (both (on_line at h.0) (both k l))))
  statement_lined a s (StatementTree.DoWhile at x e) h =
      and_then (statement (within_loop a) s x) _ (statement_lined (within_loop a) s x h.1)
      (λ y k. and_then (condition y.1 at.line e) _ (condition_lined y.1 at.line e h.2) (λ c l. gives StmtHere _ (both (on_line at h.0) (both k l))))
  statement_lined a s (StatementTree.For at from e step x) h =
      and_then (start (opened s) from) _ (start_lined (opened s) from h.1)
      (λ f k. and_then (if_any (λ u. condition u at.line) f.1 e) _ (if_any_lined (λ u. condition u at.line) (λ u. condition_lined u at.line) f.1 e h.2)
      (λ c l. and_then (if_any evaluated c.1 step) _ (if_any_lined evaluated evaluated_lined c.1 step h.3)
      (λ u m. and_then (statement (within_loop a) u.1 x) _ (statement_lined (within_loop a) u.1 x h.4)
      (λ y n. gives StmtHere _ (both (on_line at h.0) (both k (both l (both m n))))))))
  statement_lined a s (StatementTree.Break at) h = unless (not a.in_loop) _ _ (gives StmtHere _ (on_line at h))
  statement_lined a s (StatementTree.Continue at) h = unless (not a.in_loop) _ _ (gives StmtHere _ (on_line at h))
  statement_lined a s (StatementTree.Return at o) h = returned_lined a s at o (on_line at h.0) h.1

  pub block_lined : (a : CAround) (s : CScene) (b : BlockTree) → BlockInRange b → Yields StmtHere (block a s b)
  block_lined a s (BlockTree.block at xs) h = and_then (items a [] s xs) _ (items_lined a [] s xs tt h.1) (λ y k. gives StmtHere _ (both (on_line at h.0) (stmts_lined y.0 k)))

  items_lined : (a : CAround) (done : List CStmt) (s : CScene) (xs : BlockItemTrees) → AllByRecursion LinedStmt done → ItemsInRange xs → Yields StmtsHere (items a done s xs)
  items_lined a done s BlockItemTrees.none k h = gives StmtsHere (done, s) k
  items_lined a done s (BlockItemTrees.more x xs) k h =
      and_then (item a done s x) _ (item_lined a done s x k h.0) (λ y l. items_lined a y.0 y.1 xs l h.1)

  item_lined : (a : CAround) (done : List CStmt) (s : CScene) (x : BlockItemTree) → AllByRecursion LinedStmt done → ItemInRange x → Yields StmtsHere (item a done s x)
  item_lined a done s (BlockItemTree.Declaration d) k h =
      and_then (declaration s d) _ (declaration_lined s d h)
      (λ x l. gives StmtsHere (done ++ map CStmt.Declare x.0, x.1) (behind LinedStmt done (map CStmt.Declare x.0) k (declared_lined x.0 l)))
  item_lined a done s (BlockItemTree.Statement x) k h =
      and_then (statement a s x) _ (statement_lined a s x h) (λ y l. gives StmtsHere (done ++ y.0 ∷ [], y.1) (behind LinedStmt done (y.0 ∷ []) k (l, tt)))

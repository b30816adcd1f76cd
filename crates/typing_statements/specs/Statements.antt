-- Statements and the declarations in them (C11 6.7, 6.8), in the order of the text.
use Rattle.std.specs.Prelude.{ℕ, Bool, true, false, not, Option, Some, None, Ok, List, [], ◌∷◌, ◌++◌, length, map}
use Rattle.c_words.specs.declared.place.At.{At}
use Rattle.syntax_tree.specs.Syntax.{ExpressionTree, InitializerTree, InitDeclaratorTree, DeclarationTree}
use Rattle.syntax_tree.specs.Syntax.{ForStartTree, StatementTree, BlockTree, BlockItemTree, BlockItemTrees}
use Rattle.syntax_tree.specs.GrammarDeclarations.{declarator_at}
use Rattle.typed_tree.specs.Types.{CType}
use Rattle.typed_tree.specs.TypedTree.{CExpr, CDeclaration, CStart, CStmt}
use Rattle.typed_tree.specs.TypedViews.{stmts}
use Rattle.typing_operators.specs.declared.error.TypeError.TheVariants.{Twice, BadType}
use Rattle.typing_operators.specs.Rule.{Rule, ◌>>=◌, refuse}
use Rattle.typing_operators.specs.Conversions.{decayed, given, is_void}
use Rattle.typing_operators.specs.Operators.{tested}
use Rattle.typing_expressions.specs.Scene.{CScene}
use Rattle.typing_expressions.specs.Expressions.{typed, based}
use Rattle.typing_declarations.specs.Declarators.{opened, closed, is_taken, named, declarator_steps, declared_name, completed, object_type}
use Rattle.typing_expressions.specs.Initializers.{initialized}

-- what is around a statement: the result of its function, and whether a loop
pub record CAround : Type 0 where
  pub result : CType
  pub in_loop : Bool

abbrev pub within_loop : CAround → CAround
within_loop a = record { result = a.result; in_loop = true }

-- one more local, whose name is free
abbrev pub with_local : CScene → List ℕ → CType → CScene
with_local s x t = record (named s x (record { number = length s.locals; ty = t })) { locals = s.locals ++ record { name = x; ty = t } ∷ [] }

-- the declaration of a local, which may be initialized by itself (6.2.1 p7)
abbrev pub initialized_local : CScene → At → ℕ → CType → At → Option InitializerTree → Rule (CDeclaration × CScene)
initialized_local s at k t equals None = Ok (record { at = at; local = k; initializer = None }, s)
initialized_local s at k t equals (Some i) =
    initialized false s at.line t i >>= λ v. Ok (record { at = at; local = k; initializer = Some (record { at = equals; value = v.0 }) }, v.1)

abbrev pub local : CScene → CType → InitDeclaratorTree → Rule (CDeclaration × CScene)
local s base d =
    let at = declarator_at d.declarator in
    let x = declared_name d.declarator in
    declarator_steps [] s d.declarator >>= λ ps.
    refuse (is_taken ps.1 x) (Twice at.line x)
    (object_type ps.1.structs at.line base (completed base d.initializer ps.0) >>= λ t.
    initialized_local (with_local ps.1 x t) at (length ps.1.locals) t d.at d.initializer)

abbrev pub locals : List CDeclaration → CScene → CType → List InitDeclaratorTree → Rule (List CDeclaration × CScene)
locals done s base [] = Ok (done, s)
locals done s base (d ∷ ds) = local s base d >>= λ x. locals (done ++ x.0 ∷ []) x.1 base ds

-- 6.7: a declaration in a block
abbrev pub declaration : CScene → DeclarationTree → Rule (List CDeclaration × CScene)
declaration s d = locals [] (based s d.specifier).1 (based s d.specifier).0 d.declarators

-- 6.8.3 p2: an expression whose value is not used
abbrev pub evaluated : CScene → ExpressionTree → Rule (CExpr × CScene)
evaluated s e = typed s e >>= λ x. Ok (decayed x.0, x.1)

-- the condition of a statement on the line
abbrev pub condition : CScene → ℕ → ExpressionTree → Rule (CExpr × CScene)
condition s line e = typed s e >>= λ x. tested line x.0 >>= λ c. Ok (c, x.1)

abbrev pub if_any : {A B : Type 0} → (CScene → A → Rule (B × CScene)) → CScene → Option A → Rule (Option B × CScene)
if_any f s None = Ok (None, s)
if_any f s (Some x) = f s x >>= λ y. Ok (Some y.0, y.1)

abbrev pub start_expression : CScene → Option ExpressionTree → Rule (CStart × CScene)
start_expression s None = Ok (CStart.Nothing, s)
start_expression s (Some e) = evaluated s e >>= λ x. Ok (CStart.Eval x.0, x.1)

abbrev pub start : CScene → ForStartTree → Rule (CStart × CScene)
start s (ForStartTree.Declaration d) = declaration s d >>= λ x. Ok (CStart.Declare x.0, x.1)
start s (ForStartTree.Expression e) = start_expression s e

-- 6.8.6.4 p1
abbrev pub returned : CAround → CScene → At → Option ExpressionTree → Rule (CStmt × CScene)
returned a s at None = refuse (not (is_void a.result)) (BadType at.line 18) (Ok (CStmt.Return at None, s))
returned a s at (Some e) =
    typed s e >>= λ x. refuse (is_void a.result) (BadType at.line 18) (given at.line a.result x.0 >>= λ v. Ok (CStmt.Return at (Some v), x.1))

abbrev mutual
  pub statement : CAround → CScene → StatementTree → Rule (CStmt × CScene)
  statement a s (StatementTree.Block b) = do
    x ← block a (opened s) b
    Ok (x.0, closed x.1)
  statement a s (StatementTree.Empty at) = Ok (CStmt.Empty at, s)
  statement a s (StatementTree.Expression at e) = do
    x ← evaluated s e
    Ok (CStmt.Eval at x.0, x.1)
  statement a s (StatementTree.If at e x) = do
    c ← condition s at.line e
    y ← statement a c.1 x
    Ok (CStmt.If at c.0 y.0, y.1)
  statement a s (StatementTree.IfElse at e x z) = do
    c ← condition s at.line e
    y ← statement a c.1 x
    w ← statement a y.1 z
    Ok (CStmt.IfElse at c.0 y.0 w.0, w.1)
  statement a s (StatementTree.While at e x) = do
    c ← condition s at.line e
    y ← statement (within_loop a) c.1 x
    Ok (CStmt.While at c.0 y.0, y.1)
  statement a s (StatementTree.DoWhile at x e) = do
    y ← statement (within_loop a) s x
    c ← condition y.1 at.line e
    Ok (CStmt.Do at y.0 c.0, c.1)
  statement a s (StatementTree.For at from e step x) = do
    f ← start (opened s) from
    c ← if_any (λ u. condition u at.line) f.1 e
    u ← if_any evaluated c.1 step
    y ← statement (within_loop a) u.1 x
    Ok (CStmt.For at f.0 c.0 u.0 y.0, closed y.1)
  statement a s (StatementTree.Break at) = refuse (not a.in_loop) (BadType at.line 17) (Ok (CStmt.Break at, s))
  statement a s (StatementTree.Continue at) = refuse (not a.in_loop) (BadType at.line 17) (Ok (CStmt.Continue at, s))
  statement a s (StatementTree.Return at e) = returned a s at e

  -- a block, in the scope that stands
  pub block : CAround → CScene → BlockTree → Rule (CStmt × CScene)
  block a s (BlockTree.block at xs) = do
    y ← items a [] s xs
    Ok (CStmt.Block at (stmts y.0), y.1)

  pub items : CAround → List CStmt → CScene → BlockItemTrees → Rule (List CStmt × CScene)
  items a done s BlockItemTrees.none = Ok (done, s)
  items a done s (BlockItemTrees.more x xs) = do
    y ← item a done s x
    items a y.0 y.1 xs

  -- a declaration is as many statements as it has declarators
  pub item : CAround → List CStmt → CScene → BlockItemTree → Rule (List CStmt × CScene)
  item a done s (BlockItemTree.Declaration d) = declaration s d >>= λ x. Ok (done ++ map CStmt.Declare x.0, x.1)
  item a done s (BlockItemTree.Statement x) = do
    y ← statement a s x
    Ok (done ++ y.0 ∷ [], y.1)

-- Which statements the language accepts, and the declarations in them (C11 6.7, 6.8): one rule a form.
use Rattle.std.specs.Prelude.{ℕ, ◌≡◌, false, IsTrue, Option, Some, None, List, [], ◌∷◌, ◌++◌, length, map}
use Rattle.c_words.specs.declared.place.At.{At}
use Rattle.syntax_tree.specs.Syntax.{ExpressionTree, InitializerTree, InitDeclaratorTree, DeclarationTree}
use Rattle.syntax_tree.specs.Syntax.{ForStartTree, StatementTree, BlockTree, BlockItemTree, BlockItemTrees}
use Rattle.syntax_tree.specs.GrammarDeclarations.{declarator_at}
use Rattle.typed_tree.specs.Types.{CType}
use Rattle.typed_tree.specs.TypedTree.{CExpr, CInitial, CDeclaration, CStart, CStmt}
use Rattle.typed_tree.specs.TypedViews.{stmts}
use Rattle.typed_tree.specs.TypedOperands.{IsPlain, IsGiven}
use Rattle.typed_tree.specs.TypedRules.{IsCondition}
use Rattle.typing_expressions.specs.Scene.{CScene}
use Rattle.typing_expressions.specs.Parts.{CPart}
use Rattle.typing_expressions.specs.Expressions.{based}
use Rattle.typing_declarations.specs.Declarators.{opened, closed, is_taken, declared_name, completed}
use Rattle.typing_statements.specs.Statements.{CAround, within_loop, with_local}
use Rattle.typing_accepted.specs.AcceptanceOperands.{Becomes}
use Rattle.typing_accepted.specs.AcceptanceExpressions.{Accepts}
use Rattle.typing_accepted.specs.AcceptanceDeclarators.{MakesObject, HasDeclarator, IsInitializedBy}

-- the initializer of the local of this number, if it has one
pub data MayInitializeLocal (s : CScene) (at : At) (number : ℕ) (t : CType) (equals : At) : Option InitializerTree → CDeclaration → (behind : CScene)
    → Type 0 where
  no_initializer : MayInitializeLocal s at number t equals None (record { at = at; local = number; initializer = None }) s
  initializer : {i : InitializerTree} {v : CInitial} {u : CScene}
      → IsInitializedBy false s t i v u
      → MayInitializeLocal s at number t equals (Some i) (record { at = at; local = number; initializer = Some (record { at = equals; value = v }) }) u

-- 6.7 p3, p7: One local. Its name is free in the scope, and it has a complete type; its initializer may name it (6.2.1 p7).
pub data DeclaresLocal (base : CType) (s : CScene) (d : InitDeclaratorTree) : CDeclaration → (behind : CScene) → Type 0 where
  local : {m u : CScene} {ps : List CPart} {t : CType} {v : CDeclaration}
      → HasDeclarator s d.declarator ps m → is_taken m (declared_name d.declarator) ≡ false
      → MakesObject m.structs base (completed base d.initializer ps) t
      → MayInitializeLocal (with_local m (declared_name d.declarator) t) (declarator_at d.declarator) (length m.locals) t d.at d.initializer v u
      → DeclaresLocal base s d v u

pub data DeclareLocals (base : CType) : (before : CScene) → List InitDeclaratorTree → List CDeclaration → (behind : CScene) → Type 0 where
  nothing : {s : CScene} → DeclareLocals base s [] [] s
  next : {s m u : CScene} {d : InitDeclaratorTree} {ds : List InitDeclaratorTree} {v : CDeclaration} {vs : List CDeclaration}
      → DeclaresLocal base s d v m → DeclareLocals base m ds vs u → DeclareLocals base s (d ∷ ds) (v ∷ vs) u

-- 6.7: a declaration in a block
abbrev pub AcceptsDeclaration : (before : CScene) → DeclarationTree → List CDeclaration → (behind : CScene) → Type 0
AcceptsDeclaration s d vs u = DeclareLocals (based s d.specifier).0 (based s d.specifier).1 d.declarators vs u

-- 6.8.3 p2: an expression whose value is not used
pub data Evaluates (s : CScene) (e : ExpressionTree) : CExpr → (behind : CScene) → Type 0 where
  evaluated : {x v : CExpr} {u : CScene} → Accepts s e x u → Becomes x v → IsPlain v → Evaluates s e v u

-- 6.8.4.1 p1, 6.8.5 p2: the condition of a statement
pub data Tests (s : CScene) (e : ExpressionTree) : CExpr → (behind : CScene) → Type 0 where
  tested : {x v : CExpr} {u : CScene} → Accepts s e x u → Becomes x v → IsCondition v → Tests s e v u

-- what may be missing
pub data IfAny {A B : Type 0} (Each : CScene → A → B → CScene → Type 0) (s : CScene) : Option A → Option B → (behind : CScene) → Type 0 where
  missing : IfAny Each s None None s
  there : {x : A} {y : B} {u : CScene} → Each s x y u → IfAny Each s (Some x) (Some y) u

-- 6.8.5.3: how a `for` begins
pub data Starts (s : CScene) : ForStartTree → CStart → (behind : CScene) → Type 0 where
  nothing : Starts s (ForStartTree.Expression None) CStart.Nothing s
  expression : {e : ExpressionTree} {v : CExpr} {u : CScene} → Evaluates s e v u → Starts s (ForStartTree.Expression (Some e)) (CStart.Eval v) u
  declaration : {d : DeclarationTree} {vs : List CDeclaration} {u : CScene} → AcceptsDeclaration s d vs u
      → Starts s (ForStartTree.Declaration d) (CStart.Declare vs) u

mutual
  -- In what is around it, and in the scene before, the statement is accepted as a typed one, and leaves the scene behind it.
  pub data AcceptsStatement : CAround → (before : CScene) → StatementTree → CStmt → (behind : CScene) → Type 0 where
    -- 6.8.2, 6.2.1 p4: a block has a scope of its own
    block : {a : CAround} {s u : CScene} {b : BlockTree} {x : CStmt}
        → AcceptsBlock a (opened s) b x u → AcceptsStatement a s (StatementTree.Block b) x (closed u)
    -- 6.8.3
    empty : {a : CAround} {s : CScene} {at : At} → AcceptsStatement a s (StatementTree.Empty at) (CStmt.Empty at) s
    expression : {a : CAround} {s u : CScene} {at : At} {e : ExpressionTree} {v : CExpr}
        → Evaluates s e v u → AcceptsStatement a s (StatementTree.Expression at e) (CStmt.Eval at v) u
    -- 6.8.4.1
    if_then : {a : CAround} {s m u : CScene} {at : At} {e : ExpressionTree} {x : StatementTree} {c : CExpr} {y : CStmt}
        → Tests s e c m → AcceptsStatement a m x y u → AcceptsStatement a s (StatementTree.If at e x) (CStmt.If at c y) u
    if_else : {a : CAround} {s l m u : CScene} {at : At} {e : ExpressionTree} {x z : StatementTree} {c : CExpr} {y w : CStmt}
        → Tests s e c l → AcceptsStatement a l x y m → AcceptsStatement a m z w u
        → AcceptsStatement a s (StatementTree.IfElse at e x z) (CStmt.IfElse at c y w) u
    -- 6.8.5
    while_loop : {a : CAround} {s m u : CScene} {at : At} {e : ExpressionTree} {x : StatementTree} {c : CExpr} {y : CStmt}
        → Tests s e c m → AcceptsStatement (within_loop a) m x y u → AcceptsStatement a s (StatementTree.While at e x) (CStmt.While at c y) u
    do_loop : {a : CAround} {s m u : CScene} {at : At} {e : ExpressionTree} {x : StatementTree} {c : CExpr} {y : CStmt}
        → AcceptsStatement (within_loop a) s x y m → Tests m e c u → AcceptsStatement a s (StatementTree.DoWhile at x e) (CStmt.Do at y c) u
    -- 6.8.5.3, 6.8.5 p5: the names that it declares have a scope of its own
    for_loop : {a : CAround} {s k l m u : CScene} {at : At} {from : ForStartTree} {e step : Option ExpressionTree} {x : StatementTree}
        {f : CStart} {c v : Option CExpr} {y : CStmt}
        → Starts (opened s) from f k → IfAny Tests k e c l → IfAny Evaluates l step v m → AcceptsStatement (within_loop a) m x y u
        → AcceptsStatement a s (StatementTree.For at from e step x) (CStmt.For at f c v y) (closed u)
    -- 6.8.6.2, 6.8.6.3
    break_loop : {a : CAround} {s : CScene} {at : At} → IsTrue a.in_loop → AcceptsStatement a s (StatementTree.Break at) (CStmt.Break at) s
    continue_loop : {a : CAround} {s : CScene} {at : At} → IsTrue a.in_loop → AcceptsStatement a s (StatementTree.Continue at) (CStmt.Continue at) s
    -- 6.8.6.4: `return` has a value exactly where the function is not void
    return_nothing : {a : CAround} {s : CScene} {at : At}
        → a.result ≡ CType.Void → AcceptsStatement a s (StatementTree.Return at None) (CStmt.Return at None) s
    return_value : {a : CAround} {s u : CScene} {at : At} {e : ExpressionTree} {x v : CExpr}
        → Accepts s e x u → Becomes x v → IsGiven a.result v → AcceptsStatement a s (StatementTree.Return at (Some e)) (CStmt.Return at (Some v)) u

  -- a block, in the scope that stands
  pub data AcceptsBlock : CAround → (before : CScene) → BlockTree → CStmt → (behind : CScene) → Type 0 where
    in_braces : {a : CAround} {s u : CScene} {at : At} {xs : BlockItemTrees} {ys : List CStmt}
        → AcceptsItems a s xs ys u → AcceptsBlock a s (BlockTree.block at xs) (CStmt.Block at (stmts ys)) u

  -- 6.8.2: What stands in a block. A declaration is as many statements as it has declarators.
  pub data AcceptsItems : CAround → (before : CScene) → BlockItemTrees → List CStmt → (behind : CScene) → Type 0 where
    no_item : {a : CAround} {s : CScene} → AcceptsItems a s BlockItemTrees.none [] s
    declaration_item : {a : CAround} {s m u : CScene} {d : DeclarationTree} {xs : BlockItemTrees} {vs : List CDeclaration} {ys : List CStmt}
        → AcceptsDeclaration s d vs m → AcceptsItems a m xs ys u
        → AcceptsItems a s (BlockItemTrees.more (BlockItemTree.Declaration d) xs) (map CStmt.Declare vs ++ ys) u
    statement_item : {a : CAround} {s m u : CScene} {x : StatementTree} {xs : BlockItemTrees} {y : CStmt} {ys : List CStmt}
        → AcceptsStatement a s x y m → AcceptsItems a m xs ys u
        → AcceptsItems a s (BlockItemTrees.more (BlockItemTree.Statement x) xs) (y ∷ ys) u

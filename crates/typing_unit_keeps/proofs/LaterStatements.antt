-- Initializers and statements keep the rules of typing when more structs are known.
use Rattle.std.specs.Prelude.{ℕ, suc, Bool, true, Option, Some, None, List, [], ◌∷◌}
use Rattle.typed_tree.specs.Types.{CType}
use Rattle.typed_tree.specs.TypedTree.{CExpr, CInitial, CInitials, CInitializer, CDeclaration, CStart, CStmt, CStmts, CStruct}
use Rattle.typed_tree.specs.TypedBody.{Environment, IsInitial, AreInitials, IsInitialized, MayInitialize, IsDeclaration, AreDeclarations, IsEvaluated, IsEvaluatedIfAny, IsTested, IsTestedIfAny, IsStart, IsExprIfAny, IsStmt, AreStmts}
use Rattle.typing_unit_keeps.proofs.Scenes.{at_structs, Extends}
use Rattle.typing_unit_keeps.proofs.Later.{part_later, expr_later}

module _ (old new : List CStruct) (later : Extends old new) (names : Environment) where
  mutual
    pub initial_later : (t : CType) (x : CInitial) → IsInitial (at_structs names old) t x → IsInitial (at_structs names new) t x
    initial_later t (CInitial.Value e) h = (expr_later old new later names e h.0, h.1)
    initial_later t (CInitial.Text at bytes) h = h
    initial_later t (CInitial.Braces at parts) h = (h.0, initials_later t 0 parts h.1)

    pub initials_later : (t : CType) (i : ℕ) (xs : CInitials) → AreInitials (at_structs names old) t i xs → AreInitials (at_structs names new) t i xs
    initials_later t i CInitials.none h = tt
    initials_later t i (CInitials.more x xs) h =
        ((h.0.0, part_later old new later t i h.0.0 h.0.1, initial_later h.0.0 x h.0.2), initials_later t (suc i) xs h.1)

  pub initialized_later : (t : CType) (x : CInitial) → IsInitialized (at_structs names old) t x → IsInitialized (at_structs names new) t x
  initialized_later t x (IsInitialized.parts h) = IsInitialized.parts (initial_later t x h)
  initialized_later t (CInitial.Value e) (IsInitialized.copy typed copied) = IsInitialized.copy (expr_later old new later names e typed) copied

  pub may_initialize_later : (t : CType) (o : Option CInitializer) → MayInitialize (at_structs names old) t o → MayInitialize (at_structs names new) t o
  may_initialize_later t None h = tt
  may_initialize_later t (Some i) h = initialized_later t i.value h

  pub declaration_later : (d : CDeclaration) → IsDeclaration (at_structs names old) d → IsDeclaration (at_structs names new) d
  declaration_later d h = record { type = h.type; found = h.found; initialized = may_initialize_later h.type d.initializer h.initialized }

  pub declarations_later : (ds : List CDeclaration) → AreDeclarations (at_structs names old) ds → AreDeclarations (at_structs names new) ds
  declarations_later [] h = tt
  declarations_later (d ∷ ds) h = (declaration_later d h.0, declarations_later ds h.1)

  pub evaluated_later : (e : CExpr) → IsEvaluated (at_structs names old) e → IsEvaluated (at_structs names new) e
  evaluated_later e h = (expr_later old new later names e h.0, h.1)

  pub tested_later : (e : CExpr) → IsTested (at_structs names old) e → IsTested (at_structs names new) e
  tested_later e h = (expr_later old new later names e h.0, h.1)

  pub evaluated_if_later : (o : Option CExpr) → IsEvaluatedIfAny (at_structs names old) o → IsEvaluatedIfAny (at_structs names new) o
  evaluated_if_later None h = tt
  evaluated_if_later (Some e) h = evaluated_later e h

  pub tested_if_later : (o : Option CExpr) → IsTestedIfAny (at_structs names old) o → IsTestedIfAny (at_structs names new) o
  tested_if_later None h = tt
  tested_if_later (Some e) h = tested_later e h

  pub start_later : (x : CStart) → IsStart (at_structs names old) x → IsStart (at_structs names new) x
  start_later CStart.Nothing h = tt
  start_later (CStart.Eval e) h = evaluated_later e h
  start_later (CStart.Declare ds) h = declarations_later ds h

  expr_if_later : (o : Option CExpr) → IsExprIfAny (at_structs names old) o → IsExprIfAny (at_structs names new) o
  expr_if_later None h = tt
  expr_if_later (Some e) h = expr_later old new later names e h

  mutual
    pub stmt_later : (in_loop : Bool) (x : CStmt) → IsStmt (at_structs names old) in_loop x → IsStmt (at_structs names new) in_loop x
    stmt_later in_loop (CStmt.Block at xs) h = stmts_later in_loop xs h
    stmt_later in_loop (CStmt.Declare d) h = declaration_later d h
    stmt_later in_loop (CStmt.Empty at) h = tt
    stmt_later in_loop (CStmt.Eval at e) h = evaluated_later e h
    stmt_later in_loop (CStmt.If at c x) h = (tested_later c h.0, stmt_later in_loop x h.1)
    stmt_later in_loop (CStmt.IfElse at c x y) h = (tested_later c h.0, stmt_later in_loop x h.1, stmt_later in_loop y h.2)
    stmt_later in_loop (CStmt.While at c x) h = (tested_later c h.0, stmt_later true x h.1)
    stmt_later in_loop (CStmt.Do at x c) h = (stmt_later true x h.0, tested_later c h.1)
    stmt_later in_loop (CStmt.For at start c step x) h =
        (start_later start h.0, tested_if_later c h.1, evaluated_if_later step h.2, stmt_later true x h.3)
    stmt_later in_loop (CStmt.Break at) h = h
    stmt_later in_loop (CStmt.Continue at) h = h
    stmt_later in_loop (CStmt.Return at e) h = (expr_if_later e h.0, h.1)

    pub stmts_later : (in_loop : Bool) (xs : CStmts) → AreStmts (at_structs names old) in_loop xs → AreStmts (at_structs names new) in_loop xs
    stmts_later in_loop CStmts.none h = tt
    stmts_later in_loop (CStmts.more x xs) h = (stmt_later in_loop x h.0, stmts_later in_loop xs h.1)

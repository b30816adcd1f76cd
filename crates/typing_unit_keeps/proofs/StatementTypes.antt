-- Statements keep the rules of typing.
use Rattle.std.proofs.Common.{◌≡◌, Bool, true, not, List, [], ◌∷◌, ◌++◌, subst}
use Rattle.std.specs.Prelude.{Ok, IsTrue, map}
use Rattle.syntax_tree.specs.Syntax.{ForStartTree, StatementTree, BlockTree, BlockItemTree, BlockItemTrees}
use Rattle.typed_tree.specs.TypedTree.{CDeclaration, CStart, CStmt}
use Rattle.typed_tree.specs.TypedViews.{stmts}
use Rattle.typed_tree.specs.TypedBody.{Environment, AreDeclarations, IsStart, IsStmt, AreStmts}
use Rattle.typed_tree.specs.Typed.{IsBlock}
use Rattle.typing_operators.specs.declared.error.TypeError.TheVariants.{BadType}
use Rattle.typing_operators.specs.Rule.{refuse}
use Rattle.typing_operators.specs.Sound.{OperatorsAreSound}
use Rattle.typing_expressions.specs.Scene.{CScene}
use Rattle.typing_declarations.specs.Declarators.{opened, closed}
use Rattle.typing_statements.specs.Statements.{CAround, within_loop, declaration, evaluated, condition, if_any, start, statement, block, items, item}
use Rattle.syntax_in_range.specs.InRange.{ForStartInRange, StatementInRange, BlockInRange, ItemInRange, ItemsInRange}
use Rattle.typing_unit_keeps.proofs.Scenes.{at_structs, Formed}
use Rattle.typing_unit_keeps.proofs.Steps.{passes, bound, same_ok, not_false}
use Rattle.typing_unit_keeps.proofs.LaterStatements.{evaluated_if_later, tested_later, tested_if_later, start_later, stmt_later, stmts_later}
use Rattle.typing_unit_keeps.proofs.Goes.{goes_same, goes_then, extended, fits_goes, opened_goes, closed_goes, Holds, holds_end, HoldsBehind, behind_same, behind_end, behind_then}
use Rattle.typing_unit_keeps.proofs.Conditions.{IsAround, around_later, evaluated_is, condition_is, test_is, step_is, start_is, returned_is}
use Rattle.typing_unit_keeps.proofs.LocalTypes.{declaration_is}

stmts_append : (names : Environment) (in_loop : Bool) (xs ys : List CStmt) → AreStmts names in_loop (stmts xs) → AreStmts names in_loop (stmts ys) → AreStmts names in_loop (stmts (xs ++ ys))
stmts_append names in_loop [] ys are also = also
stmts_append names in_loop (x ∷ xs) ys are also = (are.0, stmts_append names in_loop xs ys are.1 also)

declared_stmts : (names : Environment) (in_loop : Bool) (ds : List CDeclaration) → AreDeclarations names ds → AreStmts names in_loop (stmts (map CStmt.Declare ds))
declared_stmts names in_loop [] are = tt
declared_stmts names in_loop (d ∷ ds) are = (are.0, declared_stmts names in_loop ds are.1)

module _ (sound : OperatorsAreSound) (names : Environment) where
  abbrev HoldsStmt : Bool → CScene → CStmt × CScene → Type 0
  HoldsStmt in_loop s r = Holds names (λ E. IsStmt E in_loop) s r

  abbrev HoldsStmts : Bool → CScene → List CStmt → List CStmt × CScene → Type 0
  HoldsStmts in_loop s done r = HoldsBehind names (λ E xs. AreStmts E in_loop (stmts xs)) s done r

  starts_is : (s : CScene) (from : ForStartTree) → ForStartInRange from → Formed s → (r : CStart × CScene) → start s from ≡ Ok r → Holds names IsStart s r
  starts_is s (ForStartTree.Declaration d) range formed r h =
      let x = bound (declaration s d) _ r h in
      let holds = declaration_is sound names s d range formed.tags x.0 x.1 in
      holds_end names IsStart s x.0.1 (CStart.Declare x.0.0) r x.2 (record { goes = holds.goes; is = holds.is })
  starts_is s (ForStartTree.Expression e) range formed r h = start_is sound names s e range r h

  -- `break` and `continue` stand in a loop
  leaves : (a : CAround) (s : CScene) (x : CStmt) (line : _) (r : CStmt × CScene) → ((E : Environment) → IsTrue a.in_loop → IsStmt E a.in_loop x)
      → refuse (not a.in_loop) (BadType line 17) (Ok (x, s)) ≡ Ok r → HoldsStmt a.in_loop s r
  leaves a s x line r is h =
      let passed = passes _ _ _ r h in
      holds_end names (λ E. IsStmt E a.in_loop) s s x r passed.1 (record { goes = goes_same s; is = λ formed fits. is (at_structs names s.structs) (not_false _ passed.0) })

  -- something is done after what was tested
  one_stmt : (a : CAround) (s u : CScene) (done : List CStmt) (x : CStmt) → HoldsStmt a.in_loop s (x, u) → HoldsStmts a.in_loop s done (done ++ x ∷ [], u)
  one_stmt a s u done x holds = record {
    goes = holds.goes;
    is = λ formed before fits.
        stmts_append (at_structs names u.structs) a.in_loop done (x ∷ [])
        (stmts_later s.structs u.structs (extended s u holds.goes) names a.in_loop (stmts done) (before (fits_goes names s u holds.goes fits))) (holds.is formed fits, tt);
  }

  mutual
    pub statement_is : (a : CAround) (s : CScene) (x : StatementTree) → StatementInRange x → Formed s → IsAround names a s → (r : CStmt × CScene) → statement a s x ≡ Ok r → HoldsStmt a.in_loop s r
    statement_is a s (StatementTree.Block b) range formed around r h =
        let x = bound (block a (opened s) b) _ r h in
        let before = opened_goes s in
        let holds = block_is a (opened s) b range (before.formed formed) (around_later names a s (opened s) before around) x.0 x.1 in
        let goes = goes_then s (opened s) x.0.1 before holds.goes in
        holds_end names (λ E. IsStmt E a.in_loop) s (closed x.0.1) x.0.0 r x.2
        (record {
          goes = goes_then s x.0.1 (closed x.0.1) goes (closed_goes x.0.1);
          is = λ formed fits. holds.is (before.formed formed) (fits_goes names x.0.1 (closed x.0.1) (closed_goes x.0.1) fits);
        })
    statement_is a s (StatementTree.Empty at) range formed around r h =
        holds_end names (λ E. IsStmt E a.in_loop) s s (CStmt.Empty at) r h (record { goes = goes_same s; is = λ formed fits. tt })
    statement_is a s (StatementTree.Expression at e) range formed around r h =
        let x = bound (evaluated s e) _ r h in
        let holds = evaluated_is sound names s e range.1 x.0 x.1 in
        holds_end names (λ E. IsStmt E a.in_loop) s x.0.1 (CStmt.Eval at x.0.0) r x.2 (record { goes = holds.goes; is = holds.is })
    statement_is a s (StatementTree.If at e x) range formed around r h =
        let c = bound (condition s at.line e) _ r h in
        let y = bound (statement a c.0.1 x) _ r c.2 in
        let test = condition_is sound names s at.line e range.1 c.0 c.1 in
        let holds = statement_is a c.0.1 x range.2 (test.goes.formed formed) (around_later names a s c.0.1 test.goes around) y.0 y.1 in
        holds_end names (λ E. IsStmt E a.in_loop) s y.0.1 (CStmt.If at c.0.0 y.0.0) r y.2
        (record {
          goes = goes_then s c.0.1 y.0.1 test.goes holds.goes;
          is = λ formed fits. (
            tested_later c.0.1.structs y.0.1.structs (extended c.0.1 y.0.1 holds.goes) names c.0.0 (test.is formed (fits_goes names c.0.1 y.0.1 holds.goes fits)),
            holds.is (test.goes.formed formed) fits,
          );
        })
    statement_is a s (StatementTree.IfElse at e x z) range formed around r h =
        let c = bound (condition s at.line e) _ r h in
        let y = bound (statement a c.0.1 x) _ r c.2 in
        let w = bound (statement a y.0.1 z) _ r y.2 in
        let test = condition_is sound names s at.line e range.1 c.0 c.1 in
        let around_c = around_later names a s c.0.1 test.goes around in
        let first = statement_is a c.0.1 x range.2 (test.goes.formed formed) around_c y.0 y.1 in
        let second = statement_is a y.0.1 z range.3 (first.goes.formed (test.goes.formed formed)) (around_later names a c.0.1 y.0.1 first.goes around_c) w.0 w.1 in
        let both = goes_then c.0.1 y.0.1 w.0.1 first.goes second.goes in
        holds_end names (λ E. IsStmt E a.in_loop) s w.0.1 (CStmt.IfElse at c.0.0 y.0.0 w.0.0) r w.2
        (record {
          goes = goes_then s c.0.1 w.0.1 test.goes both;
          is = λ formed fits. (
            tested_later c.0.1.structs w.0.1.structs (extended c.0.1 w.0.1 both) names c.0.0 (test.is formed (fits_goes names c.0.1 w.0.1 both fits)),
            stmt_later y.0.1.structs w.0.1.structs (extended y.0.1 w.0.1 second.goes) names a.in_loop y.0.0
                (first.is (test.goes.formed formed) (fits_goes names y.0.1 w.0.1 second.goes fits)),
            second.is (first.goes.formed (test.goes.formed formed)) fits,
          );
        })
    statement_is a s (StatementTree.While at e x) range formed around r h =
        let c = bound (condition s at.line e) _ r h in
        let y = bound (statement (within_loop a) c.0.1 x) _ r c.2 in
        let test = condition_is sound names s at.line e range.1 c.0 c.1 in
        let later = around_later names a s c.0.1 test.goes around in
        let holds = statement_is (within_loop a) c.0.1 x range.2 (test.goes.formed formed) (record { result = later.result; type = later.type }) y.0 y.1 in
        holds_end names (λ E. IsStmt E a.in_loop) s y.0.1 (CStmt.While at c.0.0 y.0.0) r y.2
        (record {
          goes = goes_then s c.0.1 y.0.1 test.goes holds.goes;
          is = λ formed fits. (
            tested_later c.0.1.structs y.0.1.structs (extended c.0.1 y.0.1 holds.goes) names c.0.0 (test.is formed (fits_goes names c.0.1 y.0.1 holds.goes fits)),
            holds.is (test.goes.formed formed) fits,
          );
        })
    statement_is a s (StatementTree.DoWhile at x e) range formed around r h =
        let y = bound (statement (within_loop a) s x) _ r h in
        let c = bound (condition y.0.1 at.line e) _ r y.2 in
        let holds = statement_is (within_loop a) s x range.1 formed (record { result = around.result; type = around.type }) y.0 y.1 in
        let test = condition_is sound names y.0.1 at.line e range.2 c.0 c.1 in
        holds_end names (λ E. IsStmt E a.in_loop) s c.0.1 (CStmt.Do at y.0.0 c.0.0) r c.2
        (record {
          goes = goes_then s y.0.1 c.0.1 holds.goes test.goes;
          is = λ formed fits. (
            stmt_later y.0.1.structs c.0.1.structs (extended y.0.1 c.0.1 test.goes) names true y.0.0 (holds.is formed (fits_goes names y.0.1 c.0.1 test.goes fits)),
            test.is (holds.goes.formed formed) fits,
          );
        })
    statement_is a s (StatementTree.For at from e step x) range formed around r h =
        let f = bound (start (opened s) from) _ r h in
        let c = bound (if_any (λ u. condition u at.line) f.0.1 e) _ r f.2 in
        let u = bound (if_any evaluated c.0.1 step) _ r c.2 in
        let y = bound (statement (within_loop a) u.0.1 x) _ r u.2 in
        let w0 = opened s in
        let g0 = opened_goes s in
        let formed0 = g0.formed formed in
        let first = starts_is w0 from range.1 formed0 f.0 f.1 in
        let test = test_is sound names at.line f.0.1 e range.2 c.0 c.1 in
        let next = step_is sound names c.0.1 step range.3 u.0 u.1 in
        let formed3 = next.goes.formed (test.goes.formed (first.goes.formed formed0)) in
        let g1 = goes_then s w0 f.0.1 g0 first.goes in
        let g2 = goes_then s f.0.1 c.0.1 g1 test.goes in
        let g3 = goes_then s c.0.1 u.0.1 g2 next.goes in
        let later = around_later names a s u.0.1 g3 around in
        let holds = statement_is (within_loop a) u.0.1 x range.4 formed3 (record { result = later.result; type = later.type }) y.0 y.1 in
        let g4 = goes_then s u.0.1 y.0.1 g3 holds.goes in
        let end = closed y.0.1 in
        let from_c = goes_then c.0.1 u.0.1 y.0.1 next.goes holds.goes in
        let from_f = goes_then f.0.1 c.0.1 y.0.1 test.goes from_c in
        holds_end names (λ E. IsStmt E a.in_loop) s end (CStmt.For at f.0.0 c.0.0 u.0.0 y.0.0) r y.2
        (record {
          goes = goes_then s y.0.1 end g4 (closed_goes y.0.1);
          is = λ formed fits.
              let now = fits_goes names y.0.1 end (closed_goes y.0.1) fits in
              let f0 = g0.formed formed in (
                start_later f.0.1.structs y.0.1.structs (extended f.0.1 y.0.1 from_f) names f.0.0 (first.is f0 (fits_goes names f.0.1 y.0.1 from_f now)),
                tested_if_later c.0.1.structs y.0.1.structs (extended c.0.1 y.0.1 from_c) names c.0.0 (test.is (first.goes.formed f0) (fits_goes names c.0.1 y.0.1 from_c now)),
                evaluated_if_later u.0.1.structs y.0.1.structs (extended u.0.1 y.0.1 holds.goes) names u.0.0
                    (next.is (test.goes.formed (first.goes.formed f0)) (fits_goes names u.0.1 y.0.1 holds.goes now)),
                holds.is (next.goes.formed (test.goes.formed (first.goes.formed f0))) now,
              );
        })
    statement_is a s (StatementTree.Break at) range formed around r h = leaves a s (CStmt.Break at) at.line r (λ E is. is) h
    statement_is a s (StatementTree.Continue at) range formed around r h = leaves a s (CStmt.Continue at) at.line r (λ E is. is) h
    statement_is a s (StatementTree.Return at e) range formed around r h = returned_is sound names a s at e range.1 around r h

    pub block_is : (a : CAround) (s : CScene) (b : BlockTree) → BlockInRange b → Formed s → IsAround names a s → (r : CStmt × CScene) → block a s b ≡ Ok r → HoldsStmt a.in_loop s r
    block_is a s (BlockTree.block at xs) range formed around r h =
        let y = bound (items a [] s xs) _ r h in
        let are = items_are a [] s xs range.1 formed around y.0 y.1 in
        holds_end names (λ E. IsStmt E a.in_loop) s y.0.1 (CStmt.Block at (stmts y.0.0)) r y.2
        (record { goes = are.goes; is = λ formed fits. are.is formed (λ now. tt) fits })

    items_are : (a : CAround) (done : List CStmt) (s : CScene) (xs : BlockItemTrees) → ItemsInRange xs → Formed s → IsAround names a s → (r : List CStmt × CScene) → items a done s xs ≡ Ok r
        → HoldsStmts a.in_loop s done r
    items_are a done s BlockItemTrees.none range formed around r h =
        behind_end names (λ E xs. AreStmts E a.in_loop (stmts xs)) s s done done r h (behind_same names (λ E xs. AreStmts E a.in_loop (stmts xs)) s done)
    items_are a done s (BlockItemTrees.more x xs) range formed around r h =
        let y = bound (item a done s x) _ r h in
        let first = item_is a done s x range.0 formed around y.0 y.1 in
        behind_then names (λ E xs. AreStmts E a.in_loop (stmts xs)) s done y.0 r first
        (items_are a y.0.0 y.0.1 xs range.1 (first.goes.formed formed) (around_later names a s y.0.1 first.goes around) r y.2)

    item_is : (a : CAround) (done : List CStmt) (s : CScene) (x : BlockItemTree) → ItemInRange x → Formed s → IsAround names a s → (r : List CStmt × CScene) → item a done s x ≡ Ok r
        → HoldsStmts a.in_loop s done r
    item_is a done s (BlockItemTree.Declaration d) range formed around r h =
        let x = bound (declaration s d) _ r h in
        let holds = declaration_is sound names s d range formed.tags x.0 x.1 in
        behind_end names (λ E xs. AreStmts E a.in_loop (stmts xs)) s x.0.1 done (done ++ map CStmt.Declare x.0.0) r x.2
        (record {
          goes = holds.goes;
          is = λ formed before fits.
              stmts_append (at_structs names x.0.1.structs) a.in_loop done (map CStmt.Declare x.0.0)
              (stmts_later s.structs x.0.1.structs (extended s x.0.1 holds.goes) names a.in_loop (stmts done) (before (fits_goes names s x.0.1 holds.goes fits)))
              (declared_stmts (at_structs names x.0.1.structs) a.in_loop x.0.0 (holds.is formed fits));
        })
    item_is a done s (BlockItemTree.Statement x) range formed around r h =
        let y = bound (statement a s x) _ r h in
        behind_end names (λ E xs. AreStmts E a.in_loop (stmts xs)) s y.0.1 done (done ++ y.0.0 ∷ []) r y.2
        (one_stmt a s y.0.1 done y.0.0 (statement_is a s x range formed around y.0 y.1))

-- a function's body is a block
pub block_is_block : (a : CAround) (s : CScene) (b : BlockTree) (r : CStmt × CScene) → block a s b ≡ Ok r → IsBlock r.0
block_is_block a s (BlockTree.block at xs) r h =
    let y = bound (items a [] s xs) _ r h in
    subst (λ (q : CStmt × CScene). IsBlock q.0) (same_ok (CStmt.Block at (stmts y.0.0), y.0.1) r y.2) tt

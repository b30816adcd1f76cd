-- What typing gives for statements is accepted.
use Rattle.std.proofs.Common.{◌≡◌, ℕ, false, not, List, [], ◌∷◌, ◌++◌, length, sym, ◌∙◌, subst}
use Rattle.std.specs.Prelude.{Option, Some, None, Ok, map}
use Rattle.std.proofs.lemmas.List.{append-nil}
use Rattle.c_words.specs.declared.place.At.{At}
use Rattle.syntax_tree.specs.Syntax.{ExpressionTree, InitializerTree, InitDeclaratorTree, DeclarationTree, ForStartTree, StatementTree, BlockTree, BlockItemTree, BlockItemTrees}
use Rattle.syntax_tree.specs.GrammarDeclarations.{declarator_at}
use Rattle.typed_tree.specs.Types.{CType}
use Rattle.typed_tree.specs.TypedTree.{CExpr, CDeclaration, CStart, CStmt}
use Rattle.typed_tree.specs.TypedViews.{stmts}
use Rattle.typing_operators.specs.declared.error.TypeError.TheVariants.{BadType}
use Rattle.typing_operators.specs.Rule.{Rule}
use Rattle.typing_operators.specs.Conversions.{decayed, given, is_void}
use Rattle.typing_operators.specs.Operators.{tested}
use Rattle.typing_expressions.specs.Scene.{CScene}
use Rattle.typing_expressions.specs.Expressions.{typed, based}
use Rattle.typing_declarations.specs.Declarators.{opened, closed, is_taken, declarator_steps, declared_name, completed, object_type}
use Rattle.typing_expressions.specs.Initializers.{initialized}
use Rattle.typing_statements.specs.Statements.{CAround, within_loop, with_local, initialized_local, local, locals, declaration, evaluated, condition, if_any, start, returned, statement, block, items, item}
use Rattle.typing_accepted.specs.AcceptanceStatements.{MayInitializeLocal, DeclaresLocal, DeclareLocals, AcceptsDeclaration, Evaluates, Tests, IfAny, Starts, AcceptsStatement, AcceptsBlock, AcceptsItems}
use Rattle.typing_accepted.proofs.Steps.{passes, bound, same_ok, not_false}
use Rattle.typing_accepted.proofs.Operands.{decayed_value}
use Rattle.typing_accepted.proofs.FromUnary.{tested_from}
use Rattle.typing_accepted.proofs.FromRest.{void_type, given_from}
use Rattle.typing_accepted.proofs.MadeTypes.{object_is}
use Rattle.typing_accepted.proofs.ToTyped.{reads, past_one}
use Rattle.typing_accepted.proofs.FromTyped.{from_typed}
use Rattle.typing_accepted.proofs.FromDeclarators.{from_whole}
use Rattle.typing_accepted.proofs.FromInitials.{from_initialized}
use Rattle.typing_accepted.proofs.ToStatements.{past_items}

from_initialized_local : (s : CScene) (at : At) (k : ℕ) (t : CType) (equals : At) (i : Option InitializerTree) (r : CDeclaration × CScene) → initialized_local s at k t equals i ≡ Ok r → MayInitializeLocal s at k t equals i r.0 r.1
from_initialized_local s at k t equals None r is = subst (λ q. MayInitializeLocal s at k t equals None q.0 q.1) (same_ok (record { at = at; local = k; initializer = None }, s) r is) MayInitializeLocal.no_initializer
from_initialized_local s at k t equals (Some i) r is =
    let v = bound (initialized false s at.line t i) _ r is in
    subst (λ q. MayInitializeLocal s at k t equals (Some i) q.0 q.1) (same_ok (record { at = at; local = k; initializer = Some (record { at = equals; value = v.0.0 }) }, v.0.1) r v.2)
    (MayInitializeLocal.initializer (from_initialized false s at.line t i v.0 v.1))

from_local : (base : CType) (s : CScene) (d : InitDeclaratorTree) (r : CDeclaration × CScene) → local s base d ≡ Ok r → DeclaresLocal base s d r.0 r.1
from_local base s d r is =
    let ps = bound (declarator_steps [] s d.declarator) _ r is in
    let free = passes (is_taken ps.0.1 (declared_name d.declarator)) _ _ r ps.2 in
    let t = bound (object_type ps.0.1.structs (declarator_at d.declarator).line base (completed base d.initializer ps.0.0)) _ r free.1 in
    DeclaresLocal.local (from_whole s d.declarator ps.0 ps.1) free.0 (object_is ps.0.1.structs (declarator_at d.declarator).line base t.0 (completed base d.initializer ps.0.0) t.1)
    (from_initialized_local (with_local ps.0.1 (declared_name d.declarator) t.0) (declarator_at d.declarator) (length ps.0.1.locals) t.0 d.at d.initializer r t.2)

pub record LocalsAre (base : CType) (s : CScene) (ds : List InitDeclaratorTree) (done : List CDeclaration) (r : List CDeclaration × CScene) : Type 0 where
  pub these : List CDeclaration
  pub is : r.0 ≡ done ++ these
  pub declare : DeclareLocals base s ds these r.1

pub from_locals : (base : CType) (done : List CDeclaration) (s : CScene) (ds : List InitDeclaratorTree) (r : List CDeclaration × CScene) → locals done s base ds ≡ Ok r → LocalsAre base s ds done r
from_locals base done s [] r is = subst (LocalsAre base s [] done) (same_ok (done, s) r is) (record { these = []; is = sym (append-nil done); declare = DeclareLocals.nothing })
from_locals base done s (d ∷ ds) r is =
    let x = bound (local s base d) _ r is in
    let rest = from_locals base (done ++ x.0.0 ∷ []) x.0.1 ds r x.2 in
    record { these = x.0.0 ∷ rest.these; is = rest.is ∙ past_one done x.0.0 rest.these; declare = DeclareLocals.next (from_local base s d x.0 x.1) rest.declare }

from_declaration : (s : CScene) (d : DeclarationTree) (r : List CDeclaration × CScene) → declaration s d ≡ Ok r → AcceptsDeclaration s d r.0 r.1
from_declaration s d r is =
    let all = from_locals (based s d.specifier).0 [] (based s d.specifier).1 d.declarators r is in
    subst (λ l. AcceptsDeclaration s d l r.1) (sym all.is) all.declare

from_evaluated : (s : CScene) (e : ExpressionTree) (r : CExpr × CScene) → evaluated s e ≡ Ok r → Evaluates s e r.0 r.1
from_evaluated s e r is =
    let x = bound (typed s e) _ r is in
    let a = from_typed s e x.0 x.1 in
    let value = decayed_value x.0.0 (reads _ _ _ _ a).written in
    subst (λ q. Evaluates s e q.0 q.1) (same_ok (decayed x.0.0, x.0.1) r x.2) (Evaluates.evaluated a value.becomes value.plain)

from_condition : (s : CScene) (line : ℕ) (e : ExpressionTree) (r : CExpr × CScene) → condition s line e ≡ Ok r → Tests s e r.0 r.1
from_condition s line e r is =
    let x = bound (typed s e) _ r is in
    let c = bound (tested line x.0.0) _ r x.2 in
    let a = from_typed s e x.0 x.1 in
    let t = tested_from line x.0.0 c.0 (reads _ _ _ _ a).written c.1 in
    subst (λ q. Tests s e q.0 q.1) (same_ok (c.0, x.0.1) r c.2) (Tests.tested a t.becomes t.condition)

from_if_any : {A B : Type 0} (Each : CScene → A → B → CScene → Type 0) (f : CScene → A → Rule (B × CScene)) → ((s : CScene) (x : A) (r : B × CScene) → f s x ≡ Ok r → Each s x r.0 r.1)
    → (s : CScene) (o : Option A) (r : Option B × CScene) → if_any f s o ≡ Ok r → IfAny Each s o r.0 r.1
from_if_any Each f from s None r is = subst (λ q. IfAny Each s None q.0 q.1) (same_ok (None, s) r is) IfAny.missing
from_if_any Each f from s (Some x) r is =
    let y = bound (f s x) _ r is in
    subst (λ q. IfAny Each s (Some x) q.0 q.1) (same_ok (Some y.0.0, y.0.1) r y.2) (IfAny.there (from s x y.0 y.1))

from_start : (s : CScene) (f : ForStartTree) (r : CStart × CScene) → start s f ≡ Ok r → Starts s f r.0 r.1
from_start s (ForStartTree.Declaration d) r is =
    let x = bound (declaration s d) _ r is in
    subst (λ q. Starts s (ForStartTree.Declaration d) q.0 q.1) (same_ok (CStart.Declare x.0.0, x.0.1) r x.2) (Starts.declaration (from_declaration s d x.0 x.1))
from_start s (ForStartTree.Expression None) r is = subst (λ q. Starts s (ForStartTree.Expression None) q.0 q.1) (same_ok (CStart.Nothing, s) r is) Starts.nothing
from_start s (ForStartTree.Expression (Some e)) r is =
    let x = bound (evaluated s e) _ r is in
    subst (λ q. Starts s (ForStartTree.Expression (Some e)) q.0 q.1) (same_ok (CStart.Eval x.0.0, x.0.1) r x.2) (Starts.expression (from_evaluated s e x.0 x.1))

abbrev Is : CAround → CScene → StatementTree → CStmt × CScene → Type 0
Is a s x r = AcceptsStatement a s x r.0 r.1

pub record ItemsAre (a : CAround) (s : CScene) (xs : BlockItemTrees) (done : List CStmt) (r : List CStmt × CScene) : Type 0 where
  pub these : List CStmt
  pub is : r.0 ≡ done ++ these
  pub accepts : AcceptsItems a s xs these r.1

from_returned : (a : CAround) (s : CScene) (at : At) (o : Option ExpressionTree) (r : CStmt × CScene) → returned a s at o ≡ Ok r → Is a s (StatementTree.Return at o) r
from_returned a s at None r is =
    let h = passes (not (is_void a.result)) _ _ r is in
    subst (Is a s (StatementTree.Return at None)) (same_ok (CStmt.Return at None, s) r h.1) (AcceptsStatement.return_nothing (void_type a.result (not_false _ h.0)))
from_returned a s at (Some e) r is =
    let x = bound (typed s e) _ r is in
    let h = passes (is_void a.result) (BadType at.line 18) _ r x.2 in
    let v = bound (given at.line a.result x.0.0) _ r h.1 in
    let accepts = from_typed s e x.0 x.1 in
    let g = given_from at.line a.result x.0.0 v.0 (reads _ _ _ _ accepts).written v.1 in
    subst (Is a s (StatementTree.Return at (Some e))) (same_ok (CStmt.Return at (Some v.0), x.0.1) r v.2) (AcceptsStatement.return_value accepts g.becomes g.given)

mutual
  pub from_statement : (a : CAround) (s : CScene) (x : StatementTree) (r : CStmt × CScene) → statement a s x ≡ Ok r → Is a s x r
  from_statement a s (StatementTree.Block b) r is =
      let x = bound (block a (opened s) b) _ r is in
      subst (Is a s (StatementTree.Block b)) (same_ok (x.0.0, closed x.0.1) r x.2) (AcceptsStatement.block (from_block a (opened s) b x.0 x.1))
  from_statement a s (StatementTree.Empty at) r is = subst (Is a s (StatementTree.Empty at)) (same_ok (CStmt.Empty at, s) r is) AcceptsStatement.empty
  from_statement a s (StatementTree.Expression at e) r is =
      let x = bound (evaluated s e) _ r is in
      subst (Is a s (StatementTree.Expression at e)) (same_ok (CStmt.Eval at x.0.0, x.0.1) r x.2) (AcceptsStatement.expression (from_evaluated s e x.0 x.1))
  from_statement a s (StatementTree.If at e x) r is =
      let c = bound (condition s at.line e) _ r is in
      let y = bound (statement a c.0.1 x) _ r c.2 in
      subst (Is a s (StatementTree.If at e x)) (same_ok (CStmt.If at c.0.0 y.0.0, y.0.1) r y.2) (AcceptsStatement.if_then (from_condition s at.line e c.0 c.1) (from_statement a c.0.1 x y.0 y.1))
  from_statement a s (StatementTree.IfElse at e x z) r is =
      let c = bound (condition s at.line e) _ r is in
      let y = bound (statement a c.0.1 x) _ r c.2 in
      let w = bound (statement a y.0.1 z) _ r y.2 in
      subst (Is a s (StatementTree.IfElse at e x z)) (same_ok (CStmt.IfElse at c.0.0 y.0.0 w.0.0, w.0.1) r w.2)
      (AcceptsStatement.if_else (from_condition s at.line e c.0 c.1) (from_statement a c.0.1 x y.0 y.1) (from_statement a y.0.1 z w.0 w.1))
  from_statement a s (StatementTree.While at e x) r is =
      let c = bound (condition s at.line e) _ r is in
      let y = bound (statement (within_loop a) c.0.1 x) _ r c.2 in
      subst (Is a s (StatementTree.While at e x)) (same_ok (CStmt.While at c.0.0 y.0.0, y.0.1) r y.2) (AcceptsStatement.while_loop (from_condition s at.line e c.0 c.1) (from_statement (within_loop a) c.0.1 x y.0 y.1))
  from_statement a s (StatementTree.DoWhile at x e) r is =
      let y = bound (statement (within_loop a) s x) _ r is in
      let c = bound (condition y.0.1 at.line e) _ r y.2 in
      subst (Is a s (StatementTree.DoWhile at x e)) (same_ok (CStmt.Do at y.0.0 c.0.0, c.0.1) r c.2) (AcceptsStatement.do_loop (from_statement (within_loop a) s x y.0 y.1) (from_condition y.0.1 at.line e c.0 c.1))
  from_statement a s (StatementTree.For at from e step x) r is =
      let f = bound (start (opened s) from) _ r is in
      let c = bound (if_any (λ u. condition u at.line) f.0.1 e) _ r f.2 in
      let v = bound (if_any evaluated c.0.1 step) _ r c.2 in
      let y = bound (statement (within_loop a) v.0.1 x) _ r v.2 in
      subst (Is a s (StatementTree.For at from e step x)) (same_ok (CStmt.For at f.0.0 c.0.0 v.0.0 y.0.0, closed y.0.1) r y.2)
      (AcceptsStatement.for_loop (from_start (opened s) from f.0 f.1) (from_if_any Tests (λ u. condition u at.line) (λ s x r h. from_condition s at.line x r h) f.0.1 e c.0 c.1)
      (from_if_any Evaluates evaluated from_evaluated c.0.1 step v.0 v.1) (from_statement (within_loop a) v.0.1 x y.0 y.1))
  from_statement a s (StatementTree.Break at) r is =
      let h = passes (not a.in_loop) _ _ r is in
      subst (Is a s (StatementTree.Break at)) (same_ok (CStmt.Break at, s) r h.1) (AcceptsStatement.break_loop (not_false _ h.0))
  from_statement a s (StatementTree.Continue at) r is =
      let h = passes (not a.in_loop) _ _ r is in
      subst (Is a s (StatementTree.Continue at)) (same_ok (CStmt.Continue at, s) r h.1) (AcceptsStatement.continue_loop (not_false _ h.0))
  from_statement a s (StatementTree.Return at o) r is = from_returned a s at o r is

  pub from_block : (a : CAround) (s : CScene) (b : BlockTree) (r : CStmt × CScene) → block a s b ≡ Ok r → AcceptsBlock a s b r.0 r.1
  from_block a s (BlockTree.block at xs) r is =
      let y = bound (items a [] s xs) _ r is in
      let all = from_items a [] s xs y.0 y.1 in
      subst (λ q. AcceptsBlock a s (BlockTree.block at xs) q.0 q.1) (same_ok (CStmt.Block at (stmts y.0.0), y.0.1) r y.2)
      (AcceptsBlock.in_braces (subst (λ l. AcceptsItems a s xs l y.0.1) (sym all.is) all.accepts))

  pub from_items : (a : CAround) (done : List CStmt) (s : CScene) (xs : BlockItemTrees) (r : List CStmt × CScene) → items a done s xs ≡ Ok r → ItemsAre a s xs done r
  from_items a done s BlockItemTrees.none r is = subst (ItemsAre a s BlockItemTrees.none done) (same_ok (done, s) r is) (record { these = []; is = sym (append-nil done); accepts = AcceptsItems.no_item })
  from_items a done s (BlockItemTrees.more (BlockItemTree.Declaration d) xs) r is =
      let x = bound (item a done s (BlockItemTree.Declaration d)) _ r is in
      let v = bound (declaration s d) _ x.0 x.1 in
      let one : (done ++ map CStmt.Declare v.0.0, v.0.1) ≡ x.0 = same_ok (done ++ map CStmt.Declare v.0.0, v.0.1) x.0 v.2 in
      let rest = from_items a (done ++ map CStmt.Declare v.0.0) v.0.1 xs r (subst (λ q. items a q.0 q.1 xs ≡ Ok r) (sym one) x.2) in
      record {
        these = map CStmt.Declare v.0.0 ++ rest.these;
        is = rest.is ∙ past_items done (map CStmt.Declare v.0.0) rest.these;
        accepts = AcceptsItems.declaration_item (from_declaration s d v.0 v.1) rest.accepts;
      }
  from_items a done s (BlockItemTrees.more (BlockItemTree.Statement y) xs) r is =
      let x = bound (item a done s (BlockItemTree.Statement y)) _ r is in
      let v = bound (statement a s y) _ x.0 x.1 in
      let one : (done ++ v.0.0 ∷ [], v.0.1) ≡ x.0 = same_ok (done ++ v.0.0 ∷ [], v.0.1) x.0 v.2 in
      let rest = from_items a (done ++ v.0.0 ∷ []) v.0.1 xs r (subst (λ q. items a q.0 q.1 xs ≡ Ok r) (sym one) x.2) in
      record { these = v.0.0 ∷ rest.these; is = rest.is ∙ past_one done v.0.0 rest.these; accepts = AcceptsItems.statement_item (from_statement a s y v.0 v.1) rest.accepts }

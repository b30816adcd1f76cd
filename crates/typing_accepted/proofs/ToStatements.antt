-- Statements that are accepted are what typing gives.
use Rattle.std.proofs.Common.{◌≡◌, ℕ, false, List, [], ◌∷◌, ◌++◌, refl, sym, ap, ◌∙◌}
use Rattle.std.specs.Prelude.{Option, Ok, map}
use Rattle.std.proofs.lemmas.List.{append_assoc, append-nil}
use Rattle.c_words.specs.declared.place.At.{At}
use Rattle.syntax_tree.specs.Syntax.{ExpressionTree, InitializerTree, InitDeclaratorTree, DeclarationTree, ForStartTree, StatementTree, BlockTree, BlockItemTrees}
use Rattle.syntax_tree.specs.GrammarDeclarations.{declarator_at}
use Rattle.typed_tree.specs.Types.{CType, IsScalar}
use Rattle.typed_tree.specs.TypedTree.{CExpr, CDeclaration, CStart, CStmt}
use Rattle.typing_operators.specs.Rule.{Rule}
use Rattle.typing_operators.specs.Conversions.{is_void}
use Rattle.typing_expressions.specs.Scene.{CScene}
use Rattle.typing_statements.specs.Statements.{CAround, within_loop, initialized_local, local, locals, declaration, evaluated, condition, if_any, start, statement, block, items}
use Rattle.typing_accepted.specs.AcceptanceStatements.{MayInitializeLocal, DeclaresLocal, DeclareLocals, AcceptsDeclaration, Evaluates, Tests, IfAny, Starts, AcceptsStatement, AcceptsBlock, AcceptsItems}
use Rattle.typing_accepted.proofs.Steps.{onward, passed, not_of}
use Rattle.typing_accepted.proofs.Operands.{plain_is}
use Rattle.typing_accepted.proofs.ToUnary.{tested_to}
use Rattle.typing_accepted.proofs.ToRest.{given_to}
use Rattle.typing_accepted.proofs.MadeTypes.{object_to}
use Rattle.typing_accepted.proofs.ToTyped.{reads, to_typed, past_one, pair_is}
use Rattle.typing_accepted.proofs.ToDeclarators.{to_declarator}
use Rattle.typing_accepted.proofs.ToInitials.{to_initialized}

to_initialized_local : (s : CScene) (at : At) (k : ℕ) (t : CType) (equals : At) (i : Option InitializerTree) (v : CDeclaration) (u : CScene) → MayInitializeLocal s at k t equals i v u → initialized_local s at k t equals i ≡ Ok (v, u)
to_initialized_local s at k t equals i v u MayInitializeLocal.no_initializer = refl
to_initialized_local s at k t equals i v u (MayInitializeLocal.initializer is) = onward _ _ _ _ (to_initialized false s at.line t _ _ _ is) refl

to_local : (base : CType) (s : CScene) (d : InitDeclaratorTree) (v : CDeclaration) (u : CScene) → DeclaresLocal base s d v u → local s base d ≡ Ok (v, u)
to_local base s d v u (DeclaresLocal.local steps free type is) =
    onward _ _ _ _ (to_declarator _ _ _ _ [] steps) (passed _ _ _ _ free
    (onward _ _ _ _ (object_to _ (declarator_at d.declarator).line base _ _ type) (to_initialized_local _ _ _ _ _ _ _ _ is)))

pub to_locals : (base : CType) (s : CScene) (ds : List InitDeclaratorTree) (vs : List CDeclaration) (u : CScene) (done : List CDeclaration) → DeclareLocals base s ds vs u → locals done s base ds ≡ Ok (done ++ vs, u)
to_locals base s ds vs u done DeclareLocals.nothing = pair_is done (done ++ []) s (sym (append-nil done))
to_locals base s ds vs u done (DeclareLocals.next one more) = onward _ _ _ _ (to_local base _ _ _ _ one) (to_locals base _ _ _ _ (done ++ _ ∷ []) more ∙ pair_is _ _ u (past_one done _ _))

to_declaration : (s : CScene) (d : DeclarationTree) (vs : List CDeclaration) (u : CScene) → AcceptsDeclaration s d vs u → declaration s d ≡ Ok (vs, u)
to_declaration s d vs u is = to_locals _ _ _ _ _ [] is

to_evaluated : (s : CScene) (e : ExpressionTree) (v : CExpr) (u : CScene) → Evaluates s e v u → evaluated s e ≡ Ok (v, u)
to_evaluated s e v u (Evaluates.evaluated a b plain) = onward _ _ _ _ (to_typed _ _ _ _ a) (pair_is _ _ u (sym (plain_is _ _ (reads _ _ _ _ a).written b plain)))

to_condition : (s : CScene) (line : ℕ) (e : ExpressionTree) (v : CExpr) (u : CScene) → Tests s e v u → condition s line e ≡ Ok (v, u)
to_condition s line e v u (Tests.tested {x = x} a b is) = onward _ _ _ _ (to_typed _ _ _ _ a) (onward _ _ _ _ (tested_to [] (record { token = 0; line = line }) x (reads _ _ _ _ a) line _ b is) refl)

to_if_any : {A B : Type 0} (Each : CScene → A → B → CScene → Type 0) (f : CScene → A → Rule (B × CScene)) → ((s : CScene) (x : A) (y : B) (u : CScene) → Each s x y u → f s x ≡ Ok (y, u))
    → (s : CScene) (o : Option A) (p : Option B) (u : CScene) → IfAny Each s o p u → if_any f s o ≡ Ok (p, u)
to_if_any Each f to s o p u IfAny.missing = refl
to_if_any Each f to s o p u (IfAny.there is) = onward _ _ _ _ (to s _ _ u is) refl

to_start : (s : CScene) (f : ForStartTree) (v : CStart) (u : CScene) → Starts s f v u → start s f ≡ Ok (v, u)
to_start s f v u Starts.nothing = refl
to_start s f v u (Starts.expression is) = onward _ _ _ _ (to_evaluated _ _ _ _ is) refl
to_start s f v u (Starts.declaration {d = d} is) = onward _ _ _ _ (to_declaration s d _ _ is) refl

scalar_value : (t : CType) → IsScalar t → is_void t ≡ false
scalar_value CType.Char scalar = refl
scalar_value CType.Int scalar = refl
scalar_value CType.Unsigned scalar = refl
scalar_value (CType.Pointer t) scalar = refl
scalar_value CType.Void scalar = absurd cc
scalar_value (CType.Struct k) scalar = refl
scalar_value (CType.Array t n) scalar = refl

pub past_items : (done some rest : List CStmt) → (done ++ some) ++ rest ≡ done ++ (some ++ rest)
past_items done some rest = append_assoc done some rest

mutual
  pub to_statement : (a : CAround) (s : CScene) (x : StatementTree) (y : CStmt) (u : CScene) → AcceptsStatement a s x y u → statement a s x ≡ Ok (y, u)
  to_statement a s x y u (AcceptsStatement.block is) = onward _ _ _ _ (to_block a _ _ _ _ is) refl
  to_statement a s x y u AcceptsStatement.empty = refl
  to_statement a s x y u (AcceptsStatement.expression is) = onward _ _ _ _ (to_evaluated _ _ _ _ is) refl
  to_statement a s x y u (AcceptsStatement.if_then c is) = onward _ _ _ _ (to_condition _ _ _ _ _ c) (onward _ _ _ _ (to_statement a _ _ _ _ is) refl)
  to_statement a s x y u (AcceptsStatement.if_else c is or) =
      onward _ _ _ _ (to_condition _ _ _ _ _ c) (onward _ _ _ _ (to_statement a _ _ _ _ is) (onward _ _ _ _ (to_statement a _ _ _ _ or) refl))
  to_statement a s x y u (AcceptsStatement.while_loop c is) = onward _ _ _ _ (to_condition _ _ _ _ _ c) (onward _ _ _ _ (to_statement (within_loop a) _ _ _ _ is) refl)
  to_statement a s x y u (AcceptsStatement.do_loop is c) = onward _ _ _ _ (to_statement (within_loop a) _ _ _ _ is) (onward _ _ _ _ (to_condition _ _ _ _ _ c) refl)
  to_statement a s x y u (AcceptsStatement.for_loop {at = at} from c step is) =
      onward _ _ _ _ (to_start _ _ _ _ from) (onward _ _ _ _ (to_if_any Tests (λ u. condition u at.line) (λ s x y u h. to_condition s at.line x y u h) _ _ _ _ c)
      (onward _ _ _ _ (to_if_any Evaluates evaluated to_evaluated _ _ _ _ step) (onward _ _ _ _ (to_statement (within_loop a) _ _ _ _ is) refl)))
  to_statement a s x y u (AcceptsStatement.break_loop is) = passed _ _ _ _ (not_of _ is) refl
  to_statement a s x y u (AcceptsStatement.continue_loop is) = passed _ _ _ _ (not_of _ is) refl
  to_statement a s x y u (AcceptsStatement.return_nothing is) = passed _ _ _ _ (not_of (is_void a.result) (ap is_void is)) refl
  to_statement a s x y u (AcceptsStatement.return_value {at = at} e b is) =
      onward _ _ _ _ (to_typed _ _ _ _ e) (passed _ _ _ _ (scalar_value a.result is.1) (onward _ _ _ _ (given_to at.line a.result _ _ (reads _ _ _ _ e) b is) refl))

  pub to_block : (a : CAround) (s : CScene) (b : BlockTree) (y : CStmt) (u : CScene) → AcceptsBlock a s b y u → block a s b ≡ Ok (y, u)
  to_block a s b y u (AcceptsBlock.in_braces is) = onward _ _ _ _ (to_items a _ _ _ _ [] is) refl

  pub to_items : (a : CAround) (s : CScene) (xs : BlockItemTrees) (ys : List CStmt) (u : CScene) (done : List CStmt) → AcceptsItems a s xs ys u → items a done s xs ≡ Ok (done ++ ys, u)
  to_items a s xs ys u done AcceptsItems.no_item = pair_is done (done ++ []) s (sym (append-nil done))
  to_items a s xs ys u done (AcceptsItems.declaration_item {d = d} {vs = vs} is more) =
      onward _ _ (done ++ map CStmt.Declare vs, _) _ (onward _ _ _ _ (to_declaration s d vs _ is) refl) (to_items a _ _ _ _ (done ++ map CStmt.Declare vs) more ∙ pair_is _ _ u (past_items done (map CStmt.Declare vs) _))
  to_items a s xs ys u done (AcceptsItems.statement_item {y = y} is more) =
      onward _ _ (done ++ y ∷ [], _) _ (onward _ _ _ _ (to_statement a _ _ _ _ is) refl) (to_items a _ _ _ _ (done ++ y ∷ []) more ∙ pair_is _ _ u (past_one done y _))

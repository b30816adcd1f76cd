-- Expressions in statements: evaluated, tested, returned.
use Rattle.std.proofs.Common.{◌≡◌, true, refl, sym, ◌∙◌, ap, subst}
use Rattle.std.specs.Prelude.{Ok, Option, Some, None, IfSome}
use Rattle.c_words.specs.declared.place.At.{At}
use Rattle.c_words.specs.declared.operators.UnaryOperator.TheVariants as unary
use Rattle.syntax_tree.specs.Syntax.{ExpressionTree}
use Rattle.typed_tree.specs.Types.{CType}
use Rattle.typed_tree.specs.TypedTree.{CExpr, CForm, CStart, CStmt}
use Rattle.typed_tree.specs.Sizes.{IsType}
use Rattle.typed_tree.specs.TypedOperands.{IsGiven}
use Rattle.typed_tree.specs.TypedBody.{Environment, IsEvaluated, IsEvaluatedIfAny, IsTested, IsTestedIfAny, IsStart, IsStmt}
use Rattle.typing_operators.specs.Rule.{Rule, ◌>>=◌}
use Rattle.typing_operators.specs.Conversions.{decayed, given, is_void}
use Rattle.typing_operators.specs.Operators.{comma_rule, tested}
use Rattle.typing_operators.specs.Sound.{IsOperand, OperatorsAreSound}
use Rattle.typing_expressions.specs.Scene.{CScene}
use Rattle.typing_expressions.specs.Expressions.{typed}
use Rattle.typing_statements.specs.Statements.{CAround, evaluated, condition, if_any, start_expression, returned}
use Rattle.syntax_in_range.specs.InRange.{ExpressionInRange}
use Rattle.typing_unit_keeps.proofs.Scenes.{at_structs, Formed}
use Rattle.typing_unit_keeps.proofs.Steps.{passes, bound, not_false}
use Rattle.typing_unit_keeps.proofs.TypedGrows.{typed_grows}
use Rattle.typing_unit_keeps.proofs.Later.{type_later}
use Rattle.typing_unit_keeps.proofs.LaterStructs.{formed_on}
use Rattle.typing_unit_keeps.proofs.Operands.{keeps}
use Rattle.typing_unit_keeps.proofs.TypedSound.{typed_is}
use Rattle.typing_unit_keeps.proofs.Goes.{Goes, goes_same, goes_within, extended, Holds, holds_end}

void_is : (t : CType) → is_void t ≡ true → t ≡ CType.Void
void_is CType.Void h = refl
void_is CType.Char h = absurd cc
void_is CType.Int h = absurd cc
void_is CType.Unsigned h = absurd cc
void_is (CType.Struct k) h = absurd cc
void_is (CType.Pointer t) h = absurd cc
void_is (CType.Array t n) h = absurd cc

-- the result is that of the function, and may be formed
pub record IsAround (names : Environment) (a : CAround) (s : CScene) : Type 0 where
  pub result : names.result ≡ a.result
  pub type : IsType s.structs a.result

pub around_later : (names : Environment) (a : CAround) (s u : CScene) → Goes s u → IsAround names a s → IsAround names a u
around_later names a s u g is = record { result = is.result; type = type_later s.structs u.structs (extended s u g) a.result is.type }

module _ (sound : OperatorsAreSound) (names : Environment) where
  module _ (s : CScene) (formed : Formed s) (x : CExpr) (operand : IsOperand (at_structs names s.structs) x) where
    -- the operand of a comma is one whose value is not used
    decayed_is : IsEvaluated (at_structs names s.structs) (decayed x)
    unfolding comma_rule
    decayed_is =
        let comma = ((keeps sound names s formed).comma (record { token = 0; line = 0 }) x x operand operand).typed.1 in
        (comma.0, comma.2.left)

    tested_not : (c : CExpr) (at : At) → IsOperand (at_structs names s.structs) (CExpr.expr at CType.Int (CForm.Unary unary.Not c)) → IsTested (at_structs names s.structs) c
    tested_not c at is = (is.typed.1.0, is.typed.1.1.0)

    -- the operand of `!` is a condition
    tested_is : (line : _) (c : CExpr) → tested line x ≡ Ok c → IsTested (at_structs names s.structs) c
    tested_is line c h =
        let at : At = record { token = 0; line = line } in
        tested_not c at ((keeps sound names s formed).unary at unary.Not x operand _ (ap (λ (r : Rule CExpr). r >>= λ d. Ok (CExpr.expr at CType.Int (CForm.Unary unary.Not d))) h))

  pub evaluated_is : (s : CScene) (e : ExpressionTree) → ExpressionInRange e → (r : CExpr × CScene) → evaluated s e ≡ Ok r → Holds names IsEvaluated s r
  evaluated_is s e range r h =
      let x = bound (typed s e) _ r h in
      let grows = typed_grows s e range x.0 x.1 in
      holds_end names IsEvaluated s x.0.1 (decayed x.0.0) r x.2
      (record {
        goes = goes_within s x.0.1 grows;
        is = λ formed fits. decayed_is x.0.1 (formed_on s x.0.1 grows formed) x.0.0 (typed_is sound names s e range formed x.0 x.1 fits);
      })

  pub condition_is : (s : CScene) (line : _) (e : ExpressionTree) → ExpressionInRange e → (r : CExpr × CScene) → condition s line e ≡ Ok r → Holds names IsTested s r
  condition_is s line e range r h =
      let x = bound (typed s e) _ r h in
      let c = bound (tested line x.0.0) _ r x.2 in
      let grows = typed_grows s e range x.0 x.1 in
      holds_end names IsTested s x.0.1 c.0 r c.2
      (record {
        goes = goes_within s x.0.1 grows;
        is = λ formed fits. tested_is x.0.1 (formed_on s x.0.1 grows formed) x.0.0 (typed_is sound names s e range formed x.0 x.1 fits) line c.0 c.1;
      })

  -- what may be missing
  option_is : {A : Type 0} (f : CScene → ExpressionTree → Rule (A × CScene)) (P : Environment → A → Type 0) (Q : Environment → Option A → Type 0)
      → ((E : Environment) → Q E None) → ((E : Environment) (a : A) → P E a → Q E (Some a))
      → ((s : CScene) (e : ExpressionTree) → ExpressionInRange e → (r : A × CScene) → f s e ≡ Ok r → Holds names P s r)
      → (s : CScene) (o : Option ExpressionTree) → IfSome o ExpressionInRange → (r : Option A × CScene) → if_any f s o ≡ Ok r → Holds names Q s r
  option_is f P Q none some one s None range r h =
      holds_end names Q s s None r h (record { goes = goes_same s; is = λ formed fits. none (at_structs names s.structs) })
  option_is f P Q none some one s (Some e) range r h =
      let y = bound (f s e) _ r h in
      let holds = one s e range y.0 y.1 in
      holds_end names Q s y.0.1 (Some y.0.0) r y.2
      (record { goes = holds.goes; is = λ formed fits. some (at_structs names y.0.1.structs) y.0.0 (holds.is formed fits) })

  pub step_is : (s : CScene) (o : Option ExpressionTree) → IfSome o ExpressionInRange → (r : Option CExpr × CScene) → if_any evaluated s o ≡ Ok r → Holds names IsEvaluatedIfAny s r
  step_is = option_is evaluated IsEvaluated IsEvaluatedIfAny (λ E. tt) (λ E a h. h) evaluated_is

  pub test_is : (line : _) (s : CScene) (o : Option ExpressionTree) → IfSome o ExpressionInRange → (r : Option CExpr × CScene) → if_any (λ u. condition u line) s o ≡ Ok r → Holds names IsTestedIfAny s r
  test_is line = option_is (λ u. condition u line) IsTested IsTestedIfAny (λ E. tt) (λ E a h. h) (λ s. condition_is s line)

  pub start_is : (s : CScene) (o : Option ExpressionTree) → IfSome o ExpressionInRange → (r : CStart × CScene) → start_expression s o ≡ Ok r → Holds names IsStart s r
  start_is s None range r h = holds_end names IsStart s s CStart.Nothing r h (record { goes = goes_same s; is = λ formed fits. tt })
  start_is s (Some e) range r h =
      let x = bound (evaluated s e) _ r h in
      let holds = evaluated_is s e range x.0 x.1 in
      holds_end names IsStart s x.0.1 (CStart.Eval x.0.0) r x.2 (record { goes = holds.goes; is = holds.is })

  pub returned_is : (a : CAround) (s : CScene) (at : At) (o : Option ExpressionTree) → IfSome o ExpressionInRange → IsAround names a s → (r : CStmt × CScene) → returned a s at o ≡ Ok r
      → Holds names (λ E. IsStmt E a.in_loop) s r
  returned_is a s at None range around r h =
      let passed = passes _ _ _ r h in
      holds_end names (λ E. IsStmt E a.in_loop) s s (CStmt.Return at None) r passed.1
      (record { goes = goes_same s; is = λ formed fits. (tt, around.result ∙ void_is a.result (not_false _ passed.0)) })
  returned_is a s at (Some e) range around r h =
      let x = bound (typed s e) _ r h in
      let v = bound (given at.line a.result x.0.0) _ r (passes _ _ _ r x.2).1 in
      let grows = typed_grows s e range x.0 x.1 in
      let goes = goes_within s x.0.1 grows in
      let later = around_later names a s x.0.1 goes around in
      holds_end names (λ E. IsStmt E a.in_loop) s x.0.1 (CStmt.Return at (Some v.0)) r v.2
      (record {
        goes = goes;
        is = λ formed fits.
            let is = (keeps sound names x.0.1 (formed_on s x.0.1 grows formed)).given at.line a.result x.0.0 later.type (typed_is sound names s e range formed x.0 x.1 fits) v.0 v.1 in
            (is.0, subst (λ (t : CType). IsGiven t v.0) (sym around.result) is.1);
      })

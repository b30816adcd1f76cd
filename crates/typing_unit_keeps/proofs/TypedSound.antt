-- Each expression that is typed keeps the rules of typing.
use Rattle.std.proofs.Common.{◌≡◌, List, [], ◌∷◌, ◌++◌, refl, subst}
use Rattle.std.specs.Prelude.{Ok}
use Rattle.syntax_tree.specs.Syntax.{ExpressionTree, ExpressionTrees}
use Rattle.typed_tree.specs.TypedTree.{CExpr}
use Rattle.typed_tree.specs.TypedBody.{Environment}
use Rattle.typing_operators.specs.Sound.{OperatorsAreSound}
use Rattle.typing_expressions.specs.Scene.{CScene}
use Rattle.typing_expressions.specs.Expressions.{callee_of, called_first, joined, typed, typed_all, type_named}
use Rattle.syntax_in_range.specs.InRange.{ExpressionInRange, ExpressionsInRange}
use Rattle.typing_unit_keeps.proofs.Scenes.{at_structs, Formed, Fits}
use Rattle.typing_unit_keeps.proofs.Steps.{bound, same_ok}
use Rattle.typing_unit_keeps.proofs.Growth.{within_then, first_grows}
use Rattle.typing_unit_keeps.proofs.TypedGrows.{typed_grows, all_grows, type_grows}
use Rattle.typing_unit_keeps.proofs.Later.{type_later, tags_extend}
use Rattle.typing_unit_keeps.proofs.LaterStructs.{formed_on, fits_back}
use Rattle.typing_unit_keeps.proofs.TypeNames.{type_name_is}
use Rattle.typing_unit_keeps.proofs.Operands.{IsSound, kept_sound, ruled_sound, carried, AreOperands, all_carried, one_behind, name_is, number_is, text_is, keeps, called_sound}

module _ (sound : OperatorsAreSound) (names : Environment) where
  mutual
    pub typed_is : (s : CScene) (e : ExpressionTree) → ExpressionInRange e → Formed s → (r : CExpr × CScene) → typed s e ≡ Ok r → IsSound names r
    typed_is s (ExpressionTree.Name at x) range formed r h = ruled_sound names s _ r h (λ fits. name_is names s at x formed fits)
    typed_is s (ExpressionTree.Number at n u) range formed r h = kept_sound names s _ r h (λ fits. number_is (at_structs names s.structs) at n u range.1)
    typed_is s (ExpressionTree.Character at n) range formed r h = kept_sound names s _ r h (λ fits. record { typed = (tt, (refl, range.1)); written = refl })
    typed_is s (ExpressionTree.Text at pieces) range formed r h = text_is names s at (joined pieces) r h
    typed_is s (ExpressionTree.Null at) range formed r h = kept_sound names s _ r h (λ fits. record { typed = (tt, refl); written = refl })
    typed_is s (ExpressionTree.Eof at) range formed r h = kept_sound names s _ r h (λ fits. record { typed = (tt, refl); written = refl })
    typed_is s (ExpressionTree.Parenthesized at a) range formed r h = typed_is s a range.1 formed r h
    typed_is s (ExpressionTree.Index at a i) range formed r h =
        let x = bound (typed s a) _ r h in
        let y = bound (typed x.0.1 i) _ r x.2 in
        let between = formed_on s x.0.1 (typed_grows s a range.1 x.0 x.1) formed in
        let grows = typed_grows x.0.1 i range.2 y.0 y.1 in
        let whole = formed_on x.0.1 y.0.1 grows between in
        ruled_sound names y.0.1 _ r y.2
        (λ fits. (keeps sound names y.0.1 whole).index at x.0.0 y.0.0 (carried names x.0.1 y.0.1 x.0.0 grows (typed_is s a range.1 formed x.0 x.1 (fits_back names x.0.1 y.0.1 grows fits))) (typed_is x.0.1 i range.2 between y.0 y.1 fits))
    typed_is s (ExpressionTree.Call at f es) range formed r h =
        let c = bound (callee_of s f) _ r h in
        let u = bound (called_first s c.0 (typed s f)) _ r c.2 in
        let vs = bound (typed_all [] u.0 es) _ r u.2 in
        let between = formed_on s u.0 (first_grows s u.0 c.0 (typed s f) (typed_grows s f range.1) u.1) formed in
        let whole = formed_on u.0 vs.0.1 (all_grows [] u.0 es range.2 vs.0 vs.1) between in
        called_sound sound names vs.0.1 at c.0 vs.0.0 r whole (λ fits. all_are [] u.0 es range.2 between vs.0 vs.1 (λ first. tt) fits) vs.2
    typed_is s (ExpressionTree.Member at a m) range formed r h =
        let x = bound (typed s a) _ r h in
        let whole = formed_on s x.0.1 (typed_grows s a range.1 x.0 x.1) formed in
        ruled_sound names x.0.1 _ r x.2 (λ fits. (keeps sound names x.0.1 whole).member at x.0.0 m (typed_is s a range.1 formed x.0 x.1 fits))
    typed_is s (ExpressionTree.Arrow at a m) range formed r h =
        let x = bound (typed s a) _ r h in
        let whole = formed_on s x.0.1 (typed_grows s a range.1 x.0 x.1) formed in
        ruled_sound names x.0.1 _ r x.2 (λ fits. (keeps sound names x.0.1 whole).arrow at x.0.0 m (typed_is s a range.1 formed x.0 x.1 fits))
    typed_is s (ExpressionTree.StepAfter at a op) range formed r h =
        let x = bound (typed s a) _ r h in
        let whole = formed_on s x.0.1 (typed_grows s a range.1 x.0 x.1) formed in
        ruled_sound names x.0.1 _ r x.2 (λ fits. (keeps sound names x.0.1 whole).step_after at op x.0.0 (typed_is s a range.1 formed x.0 x.1 fits))
    typed_is s (ExpressionTree.StepBefore at op a) range formed r h =
        let x = bound (typed s a) _ r h in
        let whole = formed_on s x.0.1 (typed_grows s a range.1 x.0 x.1) formed in
        ruled_sound names x.0.1 _ r x.2 (λ fits. (keeps sound names x.0.1 whole).step_before at op x.0.0 (typed_is s a range.1 formed x.0 x.1 fits))
    typed_is s (ExpressionTree.Unary at op a) range formed r h =
        let x = bound (typed s a) _ r h in
        let whole = formed_on s x.0.1 (typed_grows s a range.1 x.0 x.1) formed in
        ruled_sound names x.0.1 _ r x.2 (λ fits. (keeps sound names x.0.1 whole).unary at op x.0.0 (typed_is s a range.1 formed x.0 x.1 fits))
    typed_is s (ExpressionTree.SizeofType at t) range formed r h =
        let u = bound (type_named s t) _ r h in
        let whole = formed_on s u.0.1 (type_grows s t range.1 u.0 u.1) formed in
        ruled_sound names u.0.1 _ r u.2 (λ fits. (keeps sound names u.0.1 whole).measured_type at u.0.0 (type_name_is s t range.1 formed.tags u.0 u.1))
    typed_is s (ExpressionTree.SizeofExpression at a) range formed r h =
        let x = bound (typed s a) _ r h in
        let whole = formed_on s x.0.1 (typed_grows s a range.1 x.0 x.1) formed in
        ruled_sound names x.0.1 _ r x.2 (λ fits. (keeps sound names x.0.1 whole).measured at x.0.0 (typed_is s a range.1 formed x.0 x.1 fits))
    typed_is s (ExpressionTree.Cast at t a) range formed r h =
        let u = bound (type_named s t) _ r h in
        let x = bound (typed u.0.1 a) _ r u.2 in
        let between = formed_on s u.0.1 (type_grows s t range.1 u.0 u.1) formed in
        let grows = typed_grows u.0.1 a range.2 x.0 x.1 in
        let whole = formed_on u.0.1 x.0.1 grows between in
        let type = type_later u.0.1.structs x.0.1.structs (tags_extend u.0.1.structs x.0.1.structs grows.grows.structs) u.0.0 (type_name_is s t range.1 formed.tags u.0 u.1) in
        ruled_sound names x.0.1 _ r x.2 (λ fits. (keeps sound names x.0.1 whole).cast at u.0.0 x.0.0 type (typed_is u.0.1 a range.2 between x.0 x.1 fits))
    typed_is s (ExpressionTree.Binary at a op b) range formed r h =
        let x = bound (typed s a) _ r h in
        let y = bound (typed x.0.1 b) _ r x.2 in
        let between = formed_on s x.0.1 (typed_grows s a range.1 x.0 x.1) formed in
        let grows = typed_grows x.0.1 b range.2 y.0 y.1 in
        let whole = formed_on x.0.1 y.0.1 grows between in
        ruled_sound names y.0.1 _ r y.2
        (λ fits. (keeps sound names y.0.1 whole).binary at op x.0.0 y.0.0 (carried names x.0.1 y.0.1 x.0.0 grows (typed_is s a range.1 formed x.0 x.1 (fits_back names x.0.1 y.0.1 grows fits))) (typed_is x.0.1 b range.2 between y.0 y.1 fits))
    typed_is s (ExpressionTree.Conditional at c a b) range formed r h =
        let x = bound (typed s c) _ r h in
        let y = bound (typed x.0.1 a) _ r x.2 in
        let z = bound (typed y.0.1 b) _ r y.2 in
        let first = formed_on s x.0.1 (typed_grows s c range.1 x.0 x.1) formed in
        let grows = typed_grows x.0.1 a range.2 y.0 y.1 in
        let second = formed_on x.0.1 y.0.1 grows first in
        let on = typed_grows y.0.1 b range.3 z.0 z.1 in
        let whole = formed_on y.0.1 z.0.1 on second in
        ruled_sound names z.0.1 _ r z.2
        (λ fits.
        let before = fits_back names y.0.1 z.0.1 on fits in
        (keeps sound names z.0.1 whole).conditional at x.0.0 y.0.0 z.0.0
        (carried names x.0.1 z.0.1 x.0.0 (within_then x.0.1 y.0.1 z.0.1 grows on) (typed_is s c range.1 formed x.0 x.1 (fits_back names x.0.1 y.0.1 grows before)))
        (carried names y.0.1 z.0.1 y.0.0 on (typed_is x.0.1 a range.2 first y.0 y.1 before)) (typed_is y.0.1 b range.3 second z.0 z.1 fits))
    typed_is s (ExpressionTree.Assign at a op b) range formed r h =
        let x = bound (typed s a) _ r h in
        let y = bound (typed x.0.1 b) _ r x.2 in
        let between = formed_on s x.0.1 (typed_grows s a range.1 x.0 x.1) formed in
        let grows = typed_grows x.0.1 b range.2 y.0 y.1 in
        let whole = formed_on x.0.1 y.0.1 grows between in
        ruled_sound names y.0.1 _ r y.2
        (λ fits. (keeps sound names y.0.1 whole).assign at op x.0.0 y.0.0 (carried names x.0.1 y.0.1 x.0.0 grows (typed_is s a range.1 formed x.0 x.1 (fits_back names x.0.1 y.0.1 grows fits))) (typed_is x.0.1 b range.2 between y.0 y.1 fits))
    typed_is s (ExpressionTree.Comma at a b) range formed r h =
        let x = bound (typed s a) _ r h in
        let y = bound (typed x.0.1 b) _ r x.2 in
        let between = formed_on s x.0.1 (typed_grows s a range.1 x.0 x.1) formed in
        let grows = typed_grows x.0.1 b range.2 y.0 y.1 in
        let whole = formed_on x.0.1 y.0.1 grows between in
        kept_sound names y.0.1 _ r y.2
        (λ fits. (keeps sound names y.0.1 whole).comma at x.0.0 y.0.0 (carried names x.0.1 y.0.1 x.0.0 grows (typed_is s a range.1 formed x.0 x.1 (fits_back names x.0.1 y.0.1 grows fits))) (typed_is x.0.1 b range.2 between y.0 y.1 fits))

    pub all_are : (vs : List CExpr) (s : CScene) (es : ExpressionTrees) → ExpressionsInRange es → Formed s → (r : List CExpr × CScene) → typed_all vs s es ≡ Ok r
        → (Fits names s → AreOperands (at_structs names s.structs) vs) → Fits names r.1 → AreOperands (at_structs names r.1.structs) r.0
    all_are vs s ExpressionTrees.none range formed r h before fits =
        subst (λ (q : List CExpr × CScene). Fits names q.1 → AreOperands (at_structs names q.1.structs) q.0) (same_ok (vs, s) r h) before fits
    all_are vs s (ExpressionTrees.more e es) range formed r h before fits =
        let x = bound (typed s e) _ r h in
        let grows = typed_grows s e range.0 x.0 x.1 in
        all_are (vs ++ x.0.0 ∷ []) x.0.1 es range.1 (formed_on s x.0.1 grows formed) r x.2
        (λ now. one_behind (at_structs names x.0.1.structs) vs x.0.0 (all_carried names s x.0.1 vs grows (before (fits_back names s x.0.1 grows now))) (typed_is s e range.0 formed x.0 x.1 now))
        fits

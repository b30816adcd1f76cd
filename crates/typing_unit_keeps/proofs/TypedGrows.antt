-- Each expression, and what stands in it, lets a scene grow.
use Rattle.std.proofs.Common.{◌≡◌, ℕ, List, [], ◌∷◌, ◌++◌}
use Rattle.std.specs.Prelude.{Ok, Option}
use Rattle.syntax_tree.specs.Syntax.{ExpressionTree, ExpressionTrees, TypeNameTree, TypeDeclaratorTree}
use Rattle.typed_tree.specs.TypedTree.{CExpr}
use Rattle.typed_tree.specs.Types.{CType}
use Rattle.typing_expressions.specs.Scene.{CScene}
use Rattle.typing_expressions.specs.Parts.{CPart}
use Rattle.typing_expressions.specs.Expressions.{object, callee_of, called_first, joined, based, aside, counted_by, counted, typed, typed_all, type_named, steps_of, sized}
use Rattle.syntax_in_range.specs.InRange.{ExpressionInRange, ExpressionsInRange, TypeNameInRange, TypeDeclaratorInRange}
use Rattle.typing_unit_keeps.proofs.Scenes.{GrowsWithin}
use Rattle.typing_unit_keeps.proofs.Steps.{bound}
use Rattle.typing_unit_keeps.proofs.Growth.{within_same, within_then, kept, ruled, based_grows, text_grows, joined_bytes, call_grows, first_grows, counted_grows}

mutual
  pub typed_grows : (s : CScene) (e : ExpressionTree) → ExpressionInRange e → (r : CExpr × CScene) → typed s e ≡ Ok r → GrowsWithin s r.1
  typed_grows s (ExpressionTree.Name at x) range r h = ruled s s (object s at x) (λ v. v) r (within_same s) h
  typed_grows s (ExpressionTree.Number at n u) range r h = kept s s _ r (within_same s) h
  typed_grows s (ExpressionTree.Character at n) range r h = kept s s _ r (within_same s) h
  typed_grows s (ExpressionTree.Text at pieces) range r h = text_grows s at (joined pieces) r (joined_bytes pieces range.1) h
  typed_grows s (ExpressionTree.Null at) range r h = kept s s _ r (within_same s) h
  typed_grows s (ExpressionTree.Eof at) range r h = kept s s _ r (within_same s) h
  typed_grows s (ExpressionTree.Parenthesized at a) range r h = typed_grows s a range.1 r h
  typed_grows s (ExpressionTree.Index at a i) range r h =
      let x = bound (typed s a) _ r h in
      let y = bound (typed x.0.1 i) _ r x.2 in
      ruled s y.0.1 _ (λ v. v) r (within_then s x.0.1 y.0.1 (typed_grows s a range.1 x.0 x.1) (typed_grows x.0.1 i range.2 y.0 y.1)) y.2
  typed_grows s (ExpressionTree.Call at f es) range r h =
      let c = bound (callee_of s f) _ r h in
      let u = bound (called_first s c.0 (typed s f)) _ r c.2 in
      let vs = bound (typed_all [] u.0 es) _ r u.2 in
      within_then s u.0 r.1 (first_grows s u.0 c.0 (typed s f) (typed_grows s f range.1) u.1)
      (within_then u.0 vs.0.1 r.1 (all_grows [] u.0 es range.2 vs.0 vs.1) (call_grows vs.0.1 at c.0 vs.0.0 r vs.2))
  typed_grows s (ExpressionTree.Member at a m) range r h =
      let x = bound (typed s a) _ r h in
      ruled s x.0.1 _ (λ v. v) r (typed_grows s a range.1 x.0 x.1) x.2
  typed_grows s (ExpressionTree.Arrow at a m) range r h =
      let x = bound (typed s a) _ r h in
      ruled s x.0.1 _ (λ v. v) r (typed_grows s a range.1 x.0 x.1) x.2
  typed_grows s (ExpressionTree.StepAfter at a op) range r h =
      let x = bound (typed s a) _ r h in
      ruled s x.0.1 _ (λ v. v) r (typed_grows s a range.1 x.0 x.1) x.2
  typed_grows s (ExpressionTree.StepBefore at op a) range r h =
      let x = bound (typed s a) _ r h in
      ruled s x.0.1 _ (λ v. v) r (typed_grows s a range.1 x.0 x.1) x.2
  typed_grows s (ExpressionTree.Unary at op a) range r h =
      let x = bound (typed s a) _ r h in
      ruled s x.0.1 _ (λ v. v) r (typed_grows s a range.1 x.0 x.1) x.2
  typed_grows s (ExpressionTree.SizeofType at t) range r h =
      let u = bound (type_named s t) _ r h in
      ruled s u.0.1 _ (λ v. v) r (type_grows s t range.1 u.0 u.1) u.2
  typed_grows s (ExpressionTree.SizeofExpression at a) range r h =
      let x = bound (typed s a) _ r h in
      ruled s x.0.1 _ (λ v. v) r (typed_grows s a range.1 x.0 x.1) x.2
  typed_grows s (ExpressionTree.Cast at t a) range r h =
      let u = bound (type_named s t) _ r h in
      let x = bound (typed u.0.1 a) _ r u.2 in
      ruled s x.0.1 _ (λ v. v) r (within_then s u.0.1 x.0.1 (type_grows s t range.1 u.0 u.1) (typed_grows u.0.1 a range.2 x.0 x.1)) x.2
  typed_grows s (ExpressionTree.Binary at a op b) range r h =
      let x = bound (typed s a) _ r h in
      let y = bound (typed x.0.1 b) _ r x.2 in
      ruled s y.0.1 _ (λ v. v) r (within_then s x.0.1 y.0.1 (typed_grows s a range.1 x.0 x.1) (typed_grows x.0.1 b range.2 y.0 y.1)) y.2
  typed_grows s (ExpressionTree.Conditional at c a b) range r h =
      let x = bound (typed s c) _ r h in
      let y = bound (typed x.0.1 a) _ r x.2 in
      let z = bound (typed y.0.1 b) _ r y.2 in
      ruled s z.0.1 _ (λ v. v) r
      (within_then s x.0.1 z.0.1 (typed_grows s c range.1 x.0 x.1)
      (within_then x.0.1 y.0.1 z.0.1 (typed_grows x.0.1 a range.2 y.0 y.1) (typed_grows y.0.1 b range.3 z.0 z.1))) z.2
  typed_grows s (ExpressionTree.Assign at a op b) range r h =
      let x = bound (typed s a) _ r h in
      let y = bound (typed x.0.1 b) _ r x.2 in
      ruled s y.0.1 _ (λ v. v) r (within_then s x.0.1 y.0.1 (typed_grows s a range.1 x.0 x.1) (typed_grows x.0.1 b range.2 y.0 y.1)) y.2
  typed_grows s (ExpressionTree.Comma at a b) range r h =
      let x = bound (typed s a) _ r h in
      let y = bound (typed x.0.1 b) _ r x.2 in
      kept s y.0.1 _ r (within_then s x.0.1 y.0.1 (typed_grows s a range.1 x.0 x.1) (typed_grows x.0.1 b range.2 y.0 y.1)) y.2

  pub all_grows : (vs : List CExpr) (s : CScene) (es : ExpressionTrees) → ExpressionsInRange es → (r : List CExpr × CScene) → typed_all vs s es ≡ Ok r → GrowsWithin s r.1
  all_grows vs s ExpressionTrees.none range r h = kept s s _ r (within_same s) h
  all_grows vs s (ExpressionTrees.more e es) range r h =
      let x = bound (typed s e) _ r h in
      within_then s x.0.1 r.1 (typed_grows s e range.0 x.0 x.1) (all_grows (vs ++ x.0.0 ∷ []) x.0.1 es range.1 r x.2)

  pub type_grows : (s : CScene) (t : TypeNameTree) → TypeNameInRange t → (r : CType × CScene) → type_named s t ≡ Ok r → GrowsWithin s r.1
  type_grows s (TypeNameTree.type_name at specifier declarator) range r h =
      let b = based s specifier in
      let ps = bound (steps_of [] b.1 declarator) _ r h in
      ruled s ps.0.1 _ (λ t. t) r (within_then s b.1 ps.0.1 (based_grows s specifier) (steps_grow [] b.1 declarator range.2 ps.0 ps.1)) ps.2

  pub steps_grow : (ps : List CPart) (s : CScene) (d : TypeDeclaratorTree) → TypeDeclaratorInRange d → (r : List CPart × CScene) → steps_of ps s d ≡ Ok r → GrowsWithin s r.1
  steps_grow ps s (TypeDeclaratorTree.Direct at n es) range r h =
      let x = bound (sized ps s es) _ r h in
      kept s x.0.1 _ r (sizes_grow ps s es range.1 x.0 x.1) x.2
  steps_grow ps s (TypeDeclaratorTree.Nested at n inner es) range r h =
      let x = bound (steps_of ps s inner) _ r h in
      let y = bound (sized x.0.0 x.0.1 es) _ r x.2 in
      kept s y.0.1 _ r (within_then s x.0.1 y.0.1 (steps_grow ps s inner range.1 x.0 x.1) (sizes_grow x.0.0 x.0.1 es range.2 y.0 y.1)) y.2

  pub sizes_grow : (ps : List CPart) (s : CScene) (es : ExpressionTrees) → ExpressionsInRange es → (r : List CPart × CScene) → sized ps s es ≡ Ok r → GrowsWithin s r.1
  sizes_grow ps s ExpressionTrees.none range r h = kept s s _ r (within_same s) h
  sizes_grow ps s (ExpressionTrees.more e es) range r h =
      let x = bound (counted_by s (typed (aside s) e)) _ r h in
      within_then s x.0.1 r.1 (counted_grows s (typed (aside s) e) x.0 (typed_grows (aside s) e range.0) x.1) (sizes_grow (ps ++ CPart.Array x.0.0 ∷ []) x.0.1 es range.1 r x.2)

-- the size of an array in a declarator
pub count_grows : (s : CScene) (e : ExpressionTree) → ExpressionInRange e → (r : Option ℕ × CScene) → counted s e ≡ Ok r → GrowsWithin s r.1
count_grows s e range r h = counted_grows s (typed (aside s) e) r (typed_grows (aside s) e range) h

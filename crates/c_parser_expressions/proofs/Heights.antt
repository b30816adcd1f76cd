-- The greatest height among arguments.
use Rattle.std.proofs.Common.{◌≡◌, ℕ, max, min, List, [], ◌∷◌, ◌++◌, map, arith}
use Rattle.syntax_tree.specs.declared.syntax.expressions.Expression.{Expression}
use Rattle.syntax_tree.specs.Syntax.{ExpressionTree}
use Rattle.syntax_tree.specs.SyntaxHeights.{height, highest}
use Rattle.syntax_tree.specs.SyntaxViews.{listed}

pub added : (f : Expression → ExpressionTree) (xs : List Expression) (e : Expression) → highest (listed (map f (xs ++ (e ∷ [])))) ≡ max (highest (listed (map f xs))) (height (f e))
added f [] e = omega arith
added f (x ∷ xs) e = let h = added f xs e in omega (arith, h)

pub capped : (a b n h g : ℕ) → n ≡ max a b → h ≡ min a 200 → g ≡ min b 200 → max h g ≡ min n 200
capped a b n h g i j k = omega (arith, i, j, k)

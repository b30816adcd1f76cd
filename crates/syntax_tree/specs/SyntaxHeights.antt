-- How high an expression's tree is: what `GrammarLimits` bounds beside the nesting.
use Rattle.std.specs.Prelude.{ℕ, suc, max}
use Rattle.syntax_tree.specs.Syntax.{ExpressionTree, ExpressionTrees}

-- A primary has height 1; any other expression is 1 higher than the highest of its operands. Those of a call are what
-- is called and the arguments. What stands in a type name counts for nothing.
abbrev mutual
  pub height : ExpressionTree → ℕ
  height (ExpressionTree.Name at x) = 1
  height (ExpressionTree.Number at n u) = 1
  height (ExpressionTree.Character at n) = 1
  height (ExpressionTree.Text at pieces) = 1
  height (ExpressionTree.Null at) = 1
  height (ExpressionTree.Eof at) = 1
  height (ExpressionTree.Parenthesized at a) = suc (height a)
  height (ExpressionTree.Index at a b) = suc (max (height a) (height b))
  height (ExpressionTree.Call at f arguments) = suc (max (height f) (highest arguments))
  height (ExpressionTree.Member at a m) = suc (height a)
  height (ExpressionTree.Arrow at a m) = suc (height a)
  height (ExpressionTree.StepAfter at a op) = suc (height a)
  height (ExpressionTree.StepBefore at op a) = suc (height a)
  height (ExpressionTree.Unary at op a) = suc (height a)
  height (ExpressionTree.SizeofType at t) = 1
  height (ExpressionTree.SizeofExpression at a) = suc (height a)
  height (ExpressionTree.Cast at t a) = suc (height a)
  height (ExpressionTree.Binary at a op b) = suc (max (height a) (height b))
  height (ExpressionTree.Conditional at a b c) = suc (max (height a) (max (height b) (height c)))
  height (ExpressionTree.Assign at a op b) = suc (max (height a) (height b))
  height (ExpressionTree.Comma at a b) = suc (max (height a) (height b))

  pub highest : ExpressionTrees → ℕ
  highest ExpressionTrees.none = 0
  highest (ExpressionTrees.more a rest) = max (height a) (highest rest)

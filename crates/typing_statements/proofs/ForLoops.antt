-- A `for`, whose head is typed before its body.
use Rattle.std.proofs.Common.{◌≡◌, refl, sym, ◌∙◌, ap, Global}
use Rattle.std.specs.Prelude.{Box, Option, Ok, Err}
use Rattle.std.specs.Option.{option_map}
use Rattle.c_words.specs.declared.place.At.{At}
use Rattle.syntax_tree.specs.declared.syntax.expressions.Expression.{Expression}
use Rattle.syntax_tree.specs.declared.syntax.statements.ForStart.{ForStart}
use Rattle.syntax_tree.specs.declared.syntax.statements.Statement.{Statement}
use Rattle.syntax_tree.specs.declared.syntax.statements.Statement.TheVariants as s
use Rattle.syntax_tree.specs.SyntaxViews.{expression_tree, for_start_tree, statement_tree}
use Rattle.syntax_tree.proofs.SyntaxViews.{view-statement-for}
use Rattle.typed_tree.specs.TypedTree.{CExpr, CStart, CStmt}
use Rattle.typing_operators.specs.declared.error.TypeError.{TypeError}
use Rattle.typing_operators.specs.Rule.{Rule, ◌>>=◌, Fails}
use Rattle.typing_expressions.specs.Scene.{CScene}
use Rattle.typing_declarations.specs.Declarators.{opened, closed}
use Rattle.typing_statements.specs.Statements.{CAround, within_loop, start, condition, evaluated, if_any, statement}
use Rattle.typing_statements.specs.StatementSteps.{CHead, head, with_head}
use Rattle.typing_expressions.proofs.Refusals.{goes_up}

abbrev Part : Type 0
Part = CScene → Rule (Option CExpr × CScene)

module _ (at : At) (g h : Part) (k : CScene → Rule (CStmt × CScene)) where
  abbrev last : CStart → Option CExpr → Option CExpr → CStmt × CScene → Rule (CStmt × CScene)
  last f c u y = Ok (CStmt.For at f c u y.0, closed y.1)

  abbrev closes : CHead × CScene → Rule (CStmt × CScene)
  closes p = k p.1 >>= λ y. Ok (with_head at p.0 y.0, closed y.1)

  by_step : (f : CStart) (c : Option CExpr) (r : Rule (Option CExpr × CScene))
      → (r >>= λ u. k u.1 >>= last f c u.0) ≡ ((r >>= λ u. Ok (record { start = f; condition = c; step = u.0 }, u.1)) >>= closes)
  by_step f c (Ok u) = refl
  by_step f c (Err e) = refl

  by_condition : (f : CStart) (r : Rule (Option CExpr × CScene))
      → (r >>= λ c. h c.1 >>= λ u. k u.1 >>= last f c.0 u.0) ≡ ((r >>= λ c. h c.1 >>= λ u. Ok (record { start = f; condition = c.0; step = u.0 }, u.1)) >>= closes)
  by_condition f (Ok c) = by_step f c.0 (h c.1)
  by_condition f (Err e) = refl

  joined_head : (r : Rule (CStart × CScene))
      → (r >>= λ f. g f.1 >>= λ c. h c.1 >>= λ u. k u.1 >>= last f.0 c.0 u.0) ≡ ((r >>= λ f. g f.1 >>= λ c. h c.1 >>= λ u. Ok (record { start = f.0; condition = c.0; step = u.0 }, u.1)) >>= closes)
  joined_head (Ok f) = by_condition f.0 (g f.1)
  joined_head (Err e) = refl

module _ (tree : Statement) (at : At) (from : ForStart) (e after : Option Expression) (body : Box Statement Global) (a : CAround) (u v : CScene)
    (is : tree ≡ s.For at from e after body) (begun : v ≡ opened u) where
  abbrev head_rule : Rule (CHead × CScene)
  head_rule = head v at.line (for_start_tree from) (option_map expression_tree e) (option_map expression_tree after)

  abbrev then_body : CHead × CScene → Rule (CStmt × CScene)
  then_body p = statement (within_loop a) p.1 (statement_tree body.value) >>= λ y. Ok (with_head at p.0 y.0, closed y.1)

  whole : statement a u (statement_tree tree) ≡ (head_rule >>= then_body)
  whole =
      ap (λ (t : Statement). statement a u (statement_tree t)) is ∙ ap (statement a u) (view-statement-for at from e after body)
      ∙ joined_head at (λ w. if_any (λ x. condition x at.line) w (option_map expression_tree e)) (λ w. if_any evaluated w (option_map expression_tree after))
      (λ w. statement (within_loop a) w (statement_tree body.value)) (start (opened u) (for_start_tree from))
      ∙ sym (ap (λ (w : CScene). head w at.line (for_start_tree from) (option_map expression_tree e) (option_map expression_tree after) >>= then_body) begun)

  pub head_stops : (x : TypeError) → Fails x head_rule → Fails x (statement a u (statement_tree tree))
  head_stops x = goes_up x head_rule (statement a u (statement_tree tree)) (λ y k. whole ∙ ap (λ (r : Rule (CHead × CScene)). r >>= then_body) k)

  pub body_stops : (h : CHead) (w : CScene) (inner : Statement) (x : TypeError) → inner ≡ body.value → head_rule ≡ Ok (h, w)
      → Fails x (statement (within_loop a) w (statement_tree inner)) → Fails x (statement a u (statement_tree tree))
  body_stops h w inner x same first =
      goes_up x (statement (within_loop a) w (statement_tree inner)) (statement a u (statement_tree tree))
      (λ y k.
      whole ∙ ap (λ (r : Rule (CHead × CScene)). r >>= then_body) first
      ∙ ap (λ (r : Rule (CStmt × CScene)). r >>= λ y. Ok (with_head at h y.0, closed y.1)) (sym (ap (λ (b : Statement). statement (within_loop a) w (statement_tree b)) same) ∙ k))

-- Calls and type names, whose parts are typed one after the other.
use Rattle.std.proofs.Common.{◌≡◌, ℕ, List, [], sym, ◌∙◌, ap, Vec, Global}
use Rattle.std.specs.Prelude.{Box, Ok, Err, Option, Some, None}
use Rattle.c_words.specs.declared.place.At.{At}
use Rattle.syntax_tree.specs.declared.syntax.expressions.Expression.{Expression}
use Rattle.syntax_tree.specs.declared.syntax.expressions.Expression.TheVariants as e
use Rattle.syntax_tree.specs.declared.syntax.expressions.TypeDeclarator.{TypeDeclarator}
use Rattle.syntax_tree.specs.declared.syntax.expressions.TypeDeclarator.TheVariants as t
use Rattle.syntax_tree.specs.SyntaxViews.{expression_tree, expression_trees, type_declarator_tree}
use Rattle.syntax_tree.proofs.SyntaxViews.{view-Call, view-type-nested}
use Rattle.typed_tree.specs.TypedTree.{CExpr}
use Rattle.typing_operators.specs.declared.error.TypeError.{TypeError}
use Rattle.typing_operators.specs.Rule.{Rule, ◌>>=◌, Fails}
use Rattle.typing_expressions.specs.declared.calls.Callee.{Callee}
use Rattle.typing_expressions.specs.Scene.{CScene}
use Rattle.typing_expressions.specs.Parts.{CPart}
use Rattle.typing_expressions.specs.Expressions.{typed, typed_all, callee_of, called_first, called_if_named, steps_of, sized, pointed}
use Rattle.typing_expressions.proofs.Refusals.{goes_up}

-- the arguments, and then the call
abbrev then_called : At → Option Callee → Rule (List CExpr × CScene) → Rule (CExpr × CScene)
then_called at c vs = vs >>= λ v. called_if_named v.1 at c v.0

module _ (whole f1 : Expression) (at : At) (function : Box Expression Global) (es : Vec Expression Global) (arguments : List Expression) (s : CScene)
    (is : whole ≡ e.Call at function es) (is_called : f1 ≡ function.value) (are : arguments ≡ es.items) where
  -- a call, once it is known what is called
  call_from : (c : Option Callee) → callee_of s (expression_tree f1) ≡ Ok c
      → typed s (expression_tree whole) ≡ (called_first s c (typed s (expression_tree function.value)) >>= λ u. then_called at c (typed_all [] u (expression_trees arguments)))
  call_from c h =
      ap (λ (x : Expression). typed s (expression_tree x)) is ∙ ap (typed s) (view-Call at function es)
      ∙ ap (λ (r : Rule (Option Callee)). r >>= λ c. called_first s c (typed s (expression_tree function.value)) >>= λ u. then_called at c (typed_all [] u (expression_trees es.items)))
      (ap (λ (x : Expression). callee_of s (expression_tree x)) (sym is_called) ∙ h)
      ∙ ap (λ (xs : List Expression). called_first s c (typed s (expression_tree function.value)) >>= λ u. then_called at c (typed_all [] u (expression_trees xs))) (sym are)

  pub named : (c : Callee) → callee_of s (expression_tree f1) ≡ Ok (Some c) → (vs : Rule (List CExpr × CScene)) → typed_all [] s (expression_trees arguments) ≡ vs
      → typed s (expression_tree whole) ≡ then_called at (Some c) vs
  named c h vs k = call_from (Some c) h ∙ ap (then_called at (Some c)) k

  pub named_stops : (c : Callee) → callee_of s (expression_tree f1) ≡ Ok (Some c) → (x : TypeError) → Fails x (typed_all [] s (expression_trees arguments))
      → Fails x (typed s (expression_tree whole))
  named_stops c h x = goes_up x (typed_all [] s (expression_trees arguments)) (typed s (expression_tree whole)) (λ y k. named c h (Err y) k)

  module _ (f2 : Expression) (is_operand : f2 ≡ function.value) (v : CExpr) (u : CScene) where
    pub other : callee_of s (expression_tree f1) ≡ Ok None → typed s (expression_tree f2) ≡ Ok (v, u)
        → (vs : Rule (List CExpr × CScene)) → typed_all [] u (expression_trees arguments) ≡ vs → typed s (expression_tree whole) ≡ then_called at None vs
    other h g vs k =
        call_from None h
        ∙ ap (λ (r : Rule (CExpr × CScene)). called_first s None r >>= λ u. then_called at None (typed_all [] u (expression_trees arguments)))
        (ap (λ (x : Expression). typed s (expression_tree x)) (sym is_operand) ∙ g)
        ∙ ap (then_called at None) k

    pub other_stops : callee_of s (expression_tree f1) ≡ Ok None → typed s (expression_tree f2) ≡ Ok (v, u)
        → (x : TypeError) → Fails x (typed_all [] u (expression_trees arguments)) → Fails x (typed s (expression_tree whole))
    other_stops h g x = goes_up x (typed_all [] u (expression_trees arguments)) (typed s (expression_tree whole)) (λ y k. other h g (Err y) k)

abbrev then_pointed : ℕ → Rule (List CPart × CScene) → Rule (List CPart × CScene)
then_pointed n ps = ps >>= λ y. Ok (pointed y.0 n, y.1)

module _ (whole within : TypeDeclarator) (at : At) (n : ℕ) (inner : Box TypeDeclarator Global) (sizes : Vec Expression Global) (listed : List Expression) (ps qs : List CPart) (s u : CScene)
    (is : whole ≡ t.Nested at n inner sizes) (is_within : within ≡ inner.value) (are : listed ≡ sizes.items)
    (first : steps_of ps s (type_declarator_tree within) ≡ Ok (qs, u)) where
  pub nested : (r : Rule (List CPart × CScene)) → sized qs u (expression_trees listed) ≡ r → steps_of ps s (type_declarator_tree whole) ≡ then_pointed n r
  nested r h =
      ap (λ (x : TypeDeclarator). steps_of ps s (type_declarator_tree x)) is ∙ ap (steps_of ps s) (view-type-nested at n inner sizes)
      ∙ ap (λ (o : Rule (List CPart × CScene)). o >>= λ x. then_pointed n (sized x.0 x.1 (expression_trees sizes.items)))
      (ap (λ (x : TypeDeclarator). steps_of ps s (type_declarator_tree x)) (sym is_within) ∙ first)
      ∙ ap (λ (xs : List Expression). then_pointed n (sized qs u (expression_trees xs))) (sym are)
      ∙ ap (then_pointed n) h

  pub nested_stops : (x : TypeError) → Fails x (sized qs u (expression_trees listed)) → Fails x (steps_of ps s (type_declarator_tree whole))
  nested_stops x = goes_up x (sized qs u (expression_trees listed)) (steps_of ps s (type_declarator_tree whole)) (λ y k. nested (Err y) k)

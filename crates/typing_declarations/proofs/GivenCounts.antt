-- The size that an initializer gives an array.
use Rattle.std.proofs.Common.{◌≡◌, suc, List, [], ◌∷◌, length, refl, ap, true, false}
use Rattle.std.specs.Prelude.{Some, None}
use Rattle.syntax_tree.specs.Syntax.{ExpressionTree, InitializerTree}
use Rattle.syntax_tree.specs.SyntaxViews.{initializer_trees}
use Rattle.syntax_tree.specs.declared.syntax.declarations.Initializer.{Initializer}
use Rattle.typed_tree.specs.Types.{CType}
use Rattle.typing_expressions.specs.Parts.{CPart}
use Rattle.typing_declarations.specs.Declarators.{given_count, part_count}
use Rattle.typing_declarations.specs.DeclaratorSteps.{text_count, is_text}

-- how many parts there are
pub parts_counted : (is : List Initializer) → part_count (initializer_trees is) ≡ length is
parts_counted [] = refl
parts_counted (i ∷ is) = ap suc (parts_counted is)

-- an expression gives a size if it is a string and the elements are char
pub text_given : (base : CType) (ps : List CPart) (e : ExpressionTree) → is_text base ps ≡ true → given_count base ps (Some (InitializerTree.Expression e)) ≡ text_count e
text_given CType.Char [] (ExpressionTree.Text at pieces) h = refl
text_given CType.Char [] (ExpressionTree.Name at x) h = refl
text_given CType.Char [] (ExpressionTree.Number at n u) h = refl
text_given CType.Char [] (ExpressionTree.Character at n) h = refl
text_given CType.Char [] (ExpressionTree.Null at) h = refl
text_given CType.Char [] (ExpressionTree.Eof at) h = refl
text_given CType.Char [] (ExpressionTree.Parenthesized at e) h = refl
text_given CType.Char [] (ExpressionTree.Index at a b) h = refl
text_given CType.Char [] (ExpressionTree.Call at f es) h = refl
text_given CType.Char [] (ExpressionTree.Member at a m) h = refl
text_given CType.Char [] (ExpressionTree.Arrow at a m) h = refl
text_given CType.Char [] (ExpressionTree.StepAfter at a op) h = refl
text_given CType.Char [] (ExpressionTree.StepBefore at op a) h = refl
text_given CType.Char [] (ExpressionTree.Unary at op a) h = refl
text_given CType.Char [] (ExpressionTree.SizeofType at t) h = refl
text_given CType.Char [] (ExpressionTree.SizeofExpression at a) h = refl
text_given CType.Char [] (ExpressionTree.Cast at t a) h = refl
text_given CType.Char [] (ExpressionTree.Binary at a op b) h = refl
text_given CType.Char [] (ExpressionTree.Conditional at a b c) h = refl
text_given CType.Char [] (ExpressionTree.Assign at a op b) h = refl
text_given CType.Char [] (ExpressionTree.Comma at a b) h = refl
text_given CType.Char (p ∷ ps) e h = cc
text_given CType.Void ps e h = cc
text_given CType.Int ps e h = cc
text_given CType.Unsigned ps e h = cc
text_given (CType.Struct k) ps e h = cc
text_given (CType.Pointer t) ps e h = cc
text_given (CType.Array t n) ps e h = cc

pub none_given : (base : CType) (ps : List CPart) (e : ExpressionTree) → is_text base ps ≡ false → given_count base ps (Some (InitializerTree.Expression e)) ≡ None
none_given CType.Char [] e h = cc
none_given CType.Char (p ∷ ps) e h = refl
none_given CType.Void ps e h = refl
none_given CType.Int ps e h = refl
none_given CType.Unsigned ps e h = refl
none_given (CType.Struct k) ps e h = refl
none_given (CType.Pointer t) ps e h = refl
none_given (CType.Array t n) ps e h = refl

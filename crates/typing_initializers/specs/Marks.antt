-- Which locals `&` is applied to, found in one walk over a statement: a mark for each local.
use Rattle.std.specs.Prelude.{Bool, true, List, [], ◌∷◌, slice_set}
use Rattle.c_words.specs.declared.operators.UnaryOperator.TheVariants.{Address}
use Rattle.typed_tree.specs.TypedTree.{CExpr, CForm, CStmt}
use Rattle.typed_tree.specs.Walk.{walked, Sum, over_stmt}

-- what marks become
abbrev pub Marking : Type 0
Marking = List Bool → List Bool

abbrev pub mark_local : CExpr → Marking
mark_local (CExpr.expr at t (CForm.Local k)) marks = slice_set marks k true
mark_local _ marks = marks

-- the mark of a local that the expression applies `&` to
abbrev pub mark_one : CExpr → Marking
mark_one (CExpr.expr at t (CForm.Unary Address e)) marks = mark_local e marks
mark_one _ marks = marks

-- one after the other
abbrev pub in_turn : List Marking → Marking
in_turn [] marks = marks
in_turn (f ∷ fs) marks = in_turn fs (f marks)

abbrev pub mark_step : CExpr → List Marking → Marking
mark_step e fs marks = in_turn fs (mark_one e marks)

abbrev pub mark_expr : CExpr → Marking
mark_expr e = walked mark_step e

-- the marks of all expressions in a statement
abbrev pub marking : Sum Marking
marking = record {
  nothing = λ marks. marks;
  both = λ f g marks. g (f marks);
  expr = mark_expr;
  initial = λ i marks. marks;
  declaration = λ d marks. marks;
  statement = λ x marks. marks;
}

abbrev pub mark_stmt : CStmt → Marking
mark_stmt x = over_stmt marking x

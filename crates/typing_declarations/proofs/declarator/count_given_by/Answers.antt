use Rattle.std.proofs.Common.{ℕ, sym, ◌∙◌, ap}
use Rattle.std.specs.Prelude.{Option, Ok}
use Rattle.syntax_tree.specs.SyntaxViews.{expression_tree}
use Rattle.typed_tree.specs.TypesViewed.{ty_of}
use Rattle.typing_operators.specs.Rule.{Rule}
use Rattle.typing_expressions.specs.Parts.{parts_of}
use Rattle.typing_declarations.proofs.GivenCounts.{text_given, none_given}
use Rattle.typing_declarations.proofs.declarator.count_given_by.Goals as goal

pub returns-then-is_text : goal.returns-then-is_text
returns-then-is_text c =
    rw (text_given (ty_of c.args.base.now) (parts_of c.args.rest.now) (expression_tree c.args.e.now) (sym c.is_text.ensures ∙ c.if-is_text.true)) c.text_count.ensures

pub returns-else-is_text : goal.returns-else-is_text
returns-else-is_text c =
    ap (λ (n : Option ℕ). let r : Rule (Option ℕ) = Ok n in r) (none_given (ty_of c.args.base.now) (parts_of c.args.rest.now) (expression_tree c.args.e.now) (sym c.is_text.ensures ∙ c.if-is_text.false))

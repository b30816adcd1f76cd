use Rattle.std.proofs.Common.{arith}
use Rattle.syntax_tree.proofs.SyntaxViews.{declaration_views}
use Rattle.typed_tree.proofs.TypedViewed.{typed_views}
use Rattle.std.proofs.Common.{sym, ◌∙◌, ap}
use Rattle.std.specs.Prelude.{map}
use Rattle.std.specs.Option.{option_map}
use Rattle.typed_tree.specs.TypesViewed.{ty_of}
use Rattle.typed_tree.specs.TypedViews.{initial_of}
use Rattle.typing_expressions.specs.Scene.{scene_of}
use Rattle.typing_initializers.proofs.Initials.{over_runs}
use Rattle.typing_initializers.proofs.initializer.+initializers.Goals as goal

pub initials-returns-in-None : goal.initials-returns-in-None
initials-returns-in-None t c =
    over_runs c.args.is_global (map initial_of c.loop-i.done.items) (scene_of c.loop-i.scene) c.args.line (ty_of c.args.ty.now) c.loop-i.i c.args.parts.now _ _ _ _
    c.loop-i-test.true (sym (ap (option_map ty_of) c.in-None.is) ∙ (rw c.as_slice.ensures.value at c.in_ok-own_part_type.ensures)) c.loop-i.invariant c.excess.ensures

pub initial-returns-in-Expression : goal.initial-returns-in-Expression
initial-returns-in-Expression t c = grind (arith, declaration_views, typed_views)

pub initial-returns-in_err-all_looked_at-in-Braced : goal.initial-returns-in_err-all_looked_at-in-Braced
initial-returns-in_err-all_looked_at-in-Braced t c = grind (arith, declaration_views, typed_views)

pub initial-returns-in_err-given-in-Braced : goal.initial-returns-in_err-given-in-Braced
initial-returns-in_err-given-in-Braced t c = grind (arith, declaration_views, typed_views)

pub initial-returns-in_ok-all_looked_at-in-Braced : goal.initial-returns-in_ok-all_looked_at-in-Braced
initial-returns-in_ok-all_looked_at-in-Braced t c = grind (arith, declaration_views, typed_views)

pub initial-returns-then-is_array : goal.initial-returns-then-is_array
initial-returns-then-is_array t c = grind (arith, declaration_views, typed_views)

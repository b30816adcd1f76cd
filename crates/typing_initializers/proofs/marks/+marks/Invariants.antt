use Rattle.std.proofs.Common.{◌≡◌, drop}
use Rattle.typed_tree.specs.TypedViews.{exprs_of}
use Rattle.typed_tree.specs.Walk.{walked_all}
use Rattle.typing_initializers.specs.Marks.{in_turn, mark_step}
use Rattle.typing_initializers.proofs.marks.+marks.Given as goal

abbrev pub invariant-mark_exprs-loop-e : goal.invariant-mark_exprs-loop-e
invariant-mark_exprs-loop-e l = in_turn (walked_all mark_step (exprs_of (drop l.e-index l.es))) l.marks.items ≡ in_turn (walked_all mark_step (exprs_of l.fn.es)) l.fn.marks.items

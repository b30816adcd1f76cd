use Rattle.std.proofs.Common.{◌≡◌, drop}
use Rattle.typed_tree.specs.TypedViews.{initials_of}
use Rattle.typed_tree.specs.Walk.{over_initials}
use Rattle.typing_initializers.specs.Marks.{marking}
use Rattle.typing_initializers.proofs.marks.+initial_marks.Given as goal

abbrev pub invariant-mark_initials-loop-part : goal.invariant-mark_initials-loop-part
invariant-mark_initials-loop-part l = over_initials marking (initials_of (drop l.part-index l.parts)) l.marks.items ≡ over_initials marking (initials_of l.fn.parts) l.fn.marks.items

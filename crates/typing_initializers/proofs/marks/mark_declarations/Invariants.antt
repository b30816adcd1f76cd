use Rattle.std.proofs.Common.{◌≡◌, drop}
use Rattle.std.specs.Prelude.{map}
use Rattle.typed_tree.specs.TypedViews.{declaration_of}
use Rattle.typed_tree.specs.Walk.{over_declarations}
use Rattle.typing_initializers.specs.Marks.{marking}
use Rattle.typing_initializers.proofs.marks.mark_declarations.Given as goal

abbrev pub invariant-loop-declaration : goal.invariant-loop-declaration
invariant-loop-declaration l = over_declarations marking (map declaration_of (drop l.declaration-index l.declarations)) l.marks.items ≡ over_declarations marking (map declaration_of l.fn.declarations) l.fn.marks.items

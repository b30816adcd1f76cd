use Rattle.std.proofs.Common.{◌≡◌, ◌++◌, drop}
use Rattle.std.specs.Prelude.{map}
use Rattle.typed_tree.specs.TypedViews.{struct_of, member_of}
use Rattle.typing_expressions.specs.Scene.{draft_of}
use Rattle.typing_declarations.specs.Structs.{placed}
use Rattle.typing_declarations.proofs.structs.placed.Given as goal

abbrev pub invariant-loop-member : goal.invariant-loop-member
invariant-loop-member l = map member_of l.done.items ++ placed (map struct_of l.structs) l.from (map draft_of (drop l.member-index l.members)) ≡ placed (map struct_of l.structs) 0 (map draft_of l.members)

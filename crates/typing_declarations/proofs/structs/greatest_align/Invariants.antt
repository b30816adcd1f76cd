use Rattle.std.proofs.Common.{◌≡◌, drop}
use Rattle.std.specs.Prelude.{map}
use Rattle.typed_tree.specs.TypedViews.{struct_of}
use Rattle.typing_expressions.specs.Scene.{draft_of}
use Rattle.typing_declarations.specs.StructSteps.{greatest_of_drafts}
use Rattle.typing_declarations.proofs.structs.greatest_align.Given as goal

abbrev pub invariant-loop-member : goal.invariant-loop-member
invariant-loop-member l = greatest_of_drafts (map struct_of l.structs) l.greatest (map draft_of (drop l.member-index l.members)) ≡ greatest_of_drafts (map struct_of l.structs) 1 (map draft_of l.members)

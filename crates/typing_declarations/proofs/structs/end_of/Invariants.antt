use Rattle.std.proofs.Common.{◌≡◌, drop}
use Rattle.std.specs.Prelude.{map}
use Rattle.typed_tree.specs.TypedViews.{struct_of}
use Rattle.typing_expressions.specs.Scene.{draft_of}
use Rattle.typing_declarations.specs.StructSteps.{end_of_drafts}
use Rattle.typing_declarations.proofs.structs.end_of.Given as goal

abbrev pub invariant-loop-member : goal.invariant-loop-member
invariant-loop-member l = end_of_drafts (map struct_of l.structs) l.from (map draft_of (drop l.member-index l.members)) ≡ end_of_drafts (map struct_of l.structs) 0 (map draft_of l.members)

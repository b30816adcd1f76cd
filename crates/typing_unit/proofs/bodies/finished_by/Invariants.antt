use Rattle.std.proofs.Common.{◌≡◌, ◌++◌, drop}
use Rattle.std.specs.Prelude.{map}
use Rattle.typed_tree.specs.TypedViews.{struct_of, local_of}
use Rattle.typing_expressions.specs.Scene.{draft_of}
use Rattle.typing_unit.specs.UnitSteps.{finished_by}
use Rattle.typing_unit.proofs.bodies.finished_by.Given as goal

abbrev pub invariant-loop-i : goal.invariant-loop-i
invariant-loop-i l = map local_of l.done.items ++ finished_by (map struct_of l.structs) (drop l.i l.marks) (map draft_of (drop l.i l.drafts)) ≡ finished_by (map struct_of l.structs) l.marks (map draft_of l.drafts)

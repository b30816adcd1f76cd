use Rattle.std.proofs.Common.{◌≡◌}
use Rattle.std.specs.Prelude.{drop, map}
use Rattle.lowering_counts.specs.Built.{are_built_members}
use Rattle.typed_tree.specs.TypedViews.{member_of}
use Rattle.lowering_counts.proofs.built.are_built_members.Given as goal

abbrev pub invariant-loop-member : goal.invariant-loop-member
invariant-loop-member l = are_built_members (map member_of (drop l.member-index l.members)) ≡ are_built_members (map member_of l.members)

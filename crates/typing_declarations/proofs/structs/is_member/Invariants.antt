use Rattle.std.proofs.Common.{◌≡◌, drop}
use Rattle.std.specs.Prelude.{map}
use Rattle.typing_expressions.specs.Scene.{draft_of}
use Rattle.typing_declarations.specs.Structs.{is_member}
use Rattle.typing_declarations.proofs.structs.is_member.Given as goal

abbrev pub invariant-loop-member : goal.invariant-loop-member
invariant-loop-member l = is_member (map draft_of (drop l.member-index l.members)) l.name ≡ is_member (map draft_of l.members) l.name

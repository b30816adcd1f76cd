use Rattle.std.proofs.Common.{◌≡◌}
use Rattle.typing_operators.proofs.Members.{from}
use Rattle.typing_operators.proofs.places.member_named.Given as goal

abbrev pub invariant-loop-i : goal.invariant-loop-i
invariant-loop-i l = from l.name l.members l.i ≡ from l.name l.members 0

use Rattle.std.proofs.Common.{◌≡◌, drop}
use Rattle.typing_expressions.specs.Parts.{lacks_size, parts_of}
use Rattle.typing_expressions.proofs.parts.lacks_size.Given as goal

abbrev pub invariant-loop-part : goal.invariant-loop-part
invariant-loop-part l = lacks_size (parts_of (drop l.part-index l.parts)) ≡ lacks_size (parts_of l.parts)

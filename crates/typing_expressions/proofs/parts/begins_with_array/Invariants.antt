use Rattle.std.proofs.Common.{◌≡◌, drop}
use Rattle.typing_expressions.specs.Parts.{begins_with_array, parts_of}
use Rattle.typing_expressions.proofs.parts.begins_with_array.Given as goal

abbrev pub invariant-loop-part : goal.invariant-loop-part
invariant-loop-part l = begins_with_array l.found (parts_of (drop l.part-index l.parts)) ≡ begins_with_array l.none (parts_of l.parts)

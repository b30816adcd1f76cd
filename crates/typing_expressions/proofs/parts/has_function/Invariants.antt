use Rattle.std.proofs.Common.{◌≡◌, drop}
use Rattle.typing_expressions.specs.Parts.{has_function, parts_of}
use Rattle.typing_expressions.proofs.parts.has_function.Given as goal

abbrev pub invariant-loop-part : goal.invariant-loop-part
invariant-loop-part l = has_function (parts_of (drop l.part-index l.parts)) ≡ has_function (parts_of l.parts)

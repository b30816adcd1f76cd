use Rattle.std.proofs.Common.{◌≡◌, drop}
use Rattle.typing_expressions.specs.Parts.{parts_of}
use Rattle.typing_declarations.specs.Declarators.{has_many_params}
use Rattle.typing_declarations.proofs.declarator.has_many_params.Given as goal

abbrev pub invariant-loop-part : goal.invariant-loop-part
invariant-loop-part l = has_many_params (parts_of (drop l.part-index l.parts)) ≡ has_many_params (parts_of l.parts)

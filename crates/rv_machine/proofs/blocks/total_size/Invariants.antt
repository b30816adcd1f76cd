use Rattle.std.proofs.Common.{◌≡◌, ◌+◌, drop}
use Rattle.rv_image.specs.Rules.{total_size}
use Rattle.rv_machine.proofs.blocks.total_size.Given as goal

abbrev pub invariant-loop-exponent : goal.invariant-loop-exponent
invariant-loop-exponent l = l.total + total_size (drop l.exponent-index l.exponents) ≡ total_size l.exponents

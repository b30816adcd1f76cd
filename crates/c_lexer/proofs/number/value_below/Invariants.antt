use Rattle.std.proofs.Common.{◌≡◌, ◌<◌, drop}
use Rattle.c_lexer.specs.Reading.{value_below}
use Rattle.c_lexer.proofs.number.value_below.Given as goal

abbrev pub invariant-loop-d : goal.invariant-loop-d
invariant-loop-d l = (value_below l.limit l.radix l.value (drop l.d-index l.digits) ≡ value_below l.limit l.radix 0 l.digits) × (l.value < l.limit)

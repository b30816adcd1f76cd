use Rattle.std.proofs.Common.{◌≡◌, ◌≤◌, drop}
use Rattle.baggy_tool.specs.Decimal.{number_from, number_of}
use Rattle.baggy_tool.proofs.decimal.number_within.Given as goal

abbrev pub invariant-loop-digit : goal.invariant-loop-digit
invariant-loop-digit l = (number_from l.number (drop l.digit-index l.digits) ≡ number_of l.digits) × (l.number ≤ l.most)

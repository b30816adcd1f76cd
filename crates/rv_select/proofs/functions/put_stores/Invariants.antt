use Rattle.std.proofs.Common.{◌≡◌, ◌-◌, ◌++◌}
use Rattle.rv_selected.specs.Steps.{plains}
use Rattle.rv_selected.specs.Selection as selection
use Rattle.rv_select.proofs.functions.put_stores.Given as goal

abbrev pub invariant-loop-v : goal.invariant-loop-v
invariant-loop-v l = l.parts.items ++ plains (selection.parameters (l.count - l.v) l.v) ≡ l.initial.parts.items ++ plains (selection.parameters l.count 0)

use Rattle.std.proofs.Common.{◌≡◌, ◌++◌, drop}
use Rattle.rv_machine.proofs.frames.copied.Given as goal

abbrev pub invariant-loop-layout : goal.invariant-loop-layout
invariant-loop-layout l = l.copy ++ drop l.layout-index l.layouts ≡ l.layouts

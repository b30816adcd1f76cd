use Rattle.std.proofs.Common.{◌≡◌, ◌++◌}
use Rattle.flat_verify.specs.SheetViews.{sheet_of}
use Rattle.flat_verify.specs.Reach.{rules_of, AreBelow}
use Rattle.flat_verify.specs.Sheets.{start_rules}
use Rattle.flat_verify.proofs.rules.push_start_rules.Given as goal

abbrev pub invariant-loop-i : goal.invariant-loop-i
invariant-loop-i l = (rules_of l.stretches.items ≡ rules_of l.initial.stretches.items ++ start_rules (sheet_of l.sheet) l.i) × AreBelow l.size l.stretches.items

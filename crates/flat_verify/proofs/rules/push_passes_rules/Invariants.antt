use Rattle.std.proofs.Common.{◌≡◌, ◌++◌}
use Rattle.std.specs.Prelude.{drop}
use Rattle.flat_verify.specs.SheetViews.{sheet_of}
use Rattle.flat_verify.specs.Reach.{rules_of, AreBelow}
use Rattle.flat_verify.specs.Sheets.{passes_rules}
use Rattle.flat_verify.proofs.rules.push_passes_rules.Given as goal

abbrev pub invariant-loop-k : goal.invariant-loop-k
invariant-loop-k l = (rules_of l.stretches.items ++ passes_rules (sheet_of l.from) (sheet_of l.to) l.place l.k (drop l.k l.args) ≡ rules_of l.initial.stretches.items ++ passes_rules (sheet_of l.from) (sheet_of l.to) l.place 0 l.args) × AreBelow l.size l.stretches.items

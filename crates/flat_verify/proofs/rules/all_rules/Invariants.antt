use Rattle.std.proofs.Common.{◌≡◌, ◌++◌}
use Rattle.std.specs.Prelude.{map, drop}
use Rattle.flat_verify.specs.SheetViews.{sheet_of}
use Rattle.flat_verify.specs.Reach.{rules_of, AreBelow}
use Rattle.flat_verify.specs.Sheets.{rules_after, all_rules}
use Rattle.flat_verify.proofs.rules.all_rules.Given as goal

abbrev pub invariant-loop-f : goal.invariant-loop-f
invariant-loop-f l = (rules_of l.stretches.items ++ rules_after (map sheet_of l.sheets) l.f (map sheet_of (drop l.f l.sheets)) ≡ all_rules (map sheet_of l.sheets)) × AreBelow l.size l.stretches.items

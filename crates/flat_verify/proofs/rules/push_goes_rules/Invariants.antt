use Rattle.std.proofs.Common.{◌≡◌, ◌++◌}
use Rattle.flat_verify.specs.Views.{effect_of}
use Rattle.flat_verify.specs.SheetViews.{sheet_of}
use Rattle.flat_verify.specs.Reach.{rules_of, AreBelow}
use Rattle.flat_verify.specs.Sheets.{goes_rules}
use Rattle.flat_verify.proofs.rules.push_goes_rules.Given as goal

abbrev pub invariant-loop-k : goal.invariant-loop-k
invariant-loop-k l = (rules_of l.stretches.items ≡ rules_of l.initial.stretches.items ++ goes_rules l.functions (sheet_of l.sheet) (effect_of l.effect) l.from l.to l.k) × AreBelow l.size l.stretches.items

use Rattle.std.proofs.Common.{◌≡◌, ◌++◌}
use Rattle.std.specs.Prelude.{map, drop}
use Rattle.flat_verify.specs.Views.{link_of}
use Rattle.flat_verify.specs.SheetViews.{sheet_of}
use Rattle.flat_verify.specs.Reach.{rules_of, AreBelow}
use Rattle.flat_verify.specs.Sheets.{links_rules}
use Rattle.flat_verify.proofs.rules.push_links_rules.Given as goal

abbrev pub invariant-loop-link : goal.invariant-loop-link
invariant-loop-link l = (rules_of l.stretches.items ++ links_rules (map sheet_of l.sheets) l.f (sheet_of l.sheet) (map link_of (drop l.link-index l.sheet.links.items)) ≡ rules_of l.initial.stretches.items ++ links_rules (map sheet_of l.sheets) l.f (sheet_of l.sheet) (map link_of l.sheet.links.items)) × AreBelow l.size l.stretches.items

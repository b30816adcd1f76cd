use Rattle.std.proofs.Common.{◌≡◌}
use Rattle.std.specs.Prelude.{map, drop}
use Rattle.flat_verify.specs.Views.{fact_of}
use Rattle.flat_verify.specs.SheetViews.{sheet_of}
use Rattle.flat_verify.specs.Sheets.{known}
use Rattle.flat_verify.specs.Verdict.{any_unknown}
use Rattle.flat_verify.proofs.verdict.any_unknown.Given as goal

abbrev pub invariant-loop-fact : goal.invariant-loop-fact
invariant-loop-fact l =
    any_unknown (known (map sheet_of l.sheets) l.marks l.f l.place) (map fact_of (drop l.fact-index l.facts)) ≡ any_unknown (known (map sheet_of l.sheets) l.marks l.f l.place) (map fact_of l.facts)

use Rattle.std.proofs.Common.{◌≡◌}
use Rattle.std.specs.Prelude.{map, drop, None}
use Rattle.flat_verify.specs.Views.{demand_of}
use Rattle.flat_verify.specs.SheetViews.{sheet_of}
use Rattle.flat_verify.specs.Sheets.{known}
use Rattle.flat_verify.specs.Verdict.{first_unmet}
use Rattle.flat_verify.proofs.verdict.first_unmet.Given as goal

abbrev pub invariant-loop-demand : goal.invariant-loop-demand
invariant-loop-demand l =
    first_unmet (known (map sheet_of l.sheets) l.marks l.f) l.found (map demand_of (drop l.demand-index l.demands)) ≡ first_unmet (known (map sheet_of l.sheets) l.marks l.f) None (map demand_of l.demands)

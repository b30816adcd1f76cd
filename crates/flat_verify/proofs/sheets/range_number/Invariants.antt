use Rattle.std.proofs.Common.{◌≡◌}
use Rattle.std.specs.Prelude.{map, drop}
use Rattle.flat_verify.specs.SheetViews.{range_of}
use Rattle.flat_verify.specs.Sheets.{from_number, range_number}
use Rattle.flat_verify.proofs.sheets.range_number.Given as goal

abbrev pub invariant-loop-i : goal.invariant-loop-i
invariant-loop-i l = from_number l.i (range_number (map range_of (drop l.i l.ranges)) l.pointer l.count) ≡ range_number (map range_of l.ranges) l.pointer l.count

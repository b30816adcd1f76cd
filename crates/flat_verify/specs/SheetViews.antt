-- What the program's sheets stand for.
use Rattle.std.specs.Prelude.{map}
use Rattle.flat_verify.specs.declared.sheets.Range.{Range as RangeWritten}
use Rattle.flat_verify.specs.declared.sheets.Sheet.{Sheet as SheetWritten}
use Rattle.flat_verify.specs.Views.{link_of}
use Rattle.flat_verify.specs.Sheets.{Range, Sheet}

abbrev pub range_of : RangeWritten → Range
range_of r = record { pointer = r.pointer; count = r.count }

abbrev pub sheet_of : SheetWritten → Sheet
sheet_of s = record {
  values = s.values;
  params = s.params;
  ranges = map range_of s.ranges.items;
  places = s.places;
  base = s.base;
  links =
      map link_of s.links.items;
}

-- The ranges that the links of a function ask for.
use Rattle.std.specs.Prelude.{◌≡◌, true, List, Option, Some, None}
use Rattle.flat_discipline.specs.Facts.{Fact, Source}
use Rattle.flat_verify.specs.Effects.{Effect}
use Rattle.flat_verify.specs.Links.{Link}
use Rattle.flat_verify.specs.Sheets.{Range, range_number, is_some}

abbrev pub range_in_fact : Fact → Option Range
range_in_fact (Fact.Spanned a n) = Some record { pointer = a; count = n }
range_in_fact x = None

abbrev pub range_in_source : Source → Option Range
range_in_source (Source.From x) = range_in_fact x
range_in_source o = None

abbrev pub range_in_effect : Effect → Option Range
range_in_effect (Effect.Sets to clean ends) = range_in_source clean
range_in_effect e = None

-- the range whose span a link asks for: that of an element's sum
abbrev pub range_in : Link → Option Range
range_in (Link.Goes e a b) = range_in_effect e
range_in l = None

abbrev pub HasRangeIf : List Range → Option Range → Type 0
HasRangeIf ranges None = Unit {0}
HasRangeIf ranges (Some r) = is_some (range_number ranges r.pointer r.count) ≡ true

-- it stands among these
abbrev pub HasRange : List Range → Link → Type 0
HasRange ranges l = HasRangeIf ranges (range_in l)

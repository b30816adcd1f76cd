use Rattle.std.specs.Prelude.{map}
use Rattle.flat_code.specs.CodeViews.{code_of}
use Rattle.flat_verify.specs.Sheets.{known}
use Rattle.flat_verify.specs.SheetViews.{sheet_of}
use Rattle.flat_verify.specs.Views.{block_of}
use Rattle.flat_verify.proofs.Firsts.{NoneBefore}
use Rattle.flat_verify.proofs.unchecked.first_by_marks.Given as goal

abbrev pub invariant-loop-f : goal.invariant-loop-f
invariant-loop-f l = NoneBefore l.g (map block_of l.globals) (code_of l.code) (known (map sheet_of l.sheets) l.marks) l.f

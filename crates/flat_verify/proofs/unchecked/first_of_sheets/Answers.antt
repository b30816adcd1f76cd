use Rattle.std.specs.Prelude.{map, length}
use Rattle.std.specs.Option.{option_map}
use Rattle.flat_code.specs.CodeViews.{code_of, function_of}
use Rattle.flat_verify.specs.Places.{place_of}
use Rattle.flat_verify.specs.SheetViews.{sheet_of}
use Rattle.flat_verify.specs.Views.{block_of}
use Rattle.flat_verify.proofs.FirstIn.{some_total, same_count, tells}
use Rattle.flat_verify.proofs.unchecked.first_of_sheets.Goals as goal

pub marks_of-requires : goal.marks_of-requires
marks_of-requires c = some_total (length (map sheet_of c.args.sheets.now)) (map sheet_of c.args.sheets.now) c.args.total c.requires.stands

pub first_by_marks-requires-clause-sheets : goal.first_by_marks-requires-clause-sheets
first_by_marks-requires-clause-sheets c = same_count c.args.g (map block_of c.args.globals.now) (map function_of c.args.code.now.functions) 0 c.args.code.now.functions c.args.sheets.now c.requires.are

pub returns : goal.returns
returns c =
    tells c.args.g (map block_of c.args.globals.now) (code_of c.args.code.now) (map sheet_of c.args.sheets.now) c.args.total c.in_ok-marks.marks.items c.deref.result.now c.deref.ensures.value
    c.requires.are c.requires.stands c.in_ok-marks.ensures.reached c.in_ok-marks.ensures.marked (option_map place_of c.in_ok-first.first) c.in_ok-first.ensures

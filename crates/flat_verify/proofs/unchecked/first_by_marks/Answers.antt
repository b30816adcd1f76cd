use Rattle.std.proofs.Common.{arith, refl}
use Rattle.std.specs.Prelude.{map}
use Rattle.flat_code.specs.CodeViews.{code_of}
use Rattle.flat_verify.specs.Sheets.{known}
use Rattle.flat_verify.specs.SheetViews.{sheet_of}
use Rattle.flat_verify.specs.Views.{block_of}
use Rattle.flat_verify.proofs.FirstIn.{none_yet, none_here, first_here, no_first, no_break}
use Rattle.flat_verify.proofs.unchecked.first_by_marks.Goals as goal

pub loop-f-init : goal.loop-f-init
loop-f-init c = none_yet c.args.g (map block_of c.args.globals.now) (code_of c.args.code.now) (known (map sheet_of c.args.sheets.now) c.args.marks.now) c.args.code.now.functions refl

pub loop-f-preserved : goal.loop-f-preserved
loop-f-preserved c =
    none_here c.args.g (map block_of c.args.globals.now) (code_of c.args.code.now) (known (map sheet_of c.args.sheets.now) c.args.marks.now) c.args.code.now.functions refl
    c.loop-f.f _ (omega (arith, c.loop-f-test.true, c.len-count.ensures)) c.loop-f.invariant c.in_ok-place.ensures.first c.in_default.is

pub returns-in-Some : goal.returns-in-Some
returns-in-Some c =
    first_here c.args.g (map block_of c.args.globals.now) (code_of c.args.code.now) (known (map sheet_of c.args.sheets.now) c.args.marks.now) c.args.code.now.functions refl
    c.loop-f.f c.in-Some.place _ (omega (arith, c.loop-f-test.true, c.len-count.ensures)) c.loop-f.invariant c.in_ok-place.ensures.first c.in-Some.is

pub returns-then-main-count : goal.returns-then-main-count
returns-then-main-count c =
    no_first c.args.g (map block_of c.args.globals.now) (code_of c.args.code.now) (known (map sheet_of c.args.sheets.now) c.args.marks.now) c.args.code.now.functions refl
    c.loop-f.f (omega (arith, c.loop-f-test.false, c.len-count.ensures)) (omega (arith, c.loop-f.auto.f-end, c.len-count.ensures)) c.loop-f.invariant (omega (arith, c.if-main-count.true, c.len-count.ensures))

pub returns : goal.returns
returns c =
    no_break c.args.g (map block_of c.args.globals.now) (code_of c.args.code.now) (known (map sheet_of c.args.sheets.now) c.args.marks.now) c.args.code.now.functions refl
    c.loop-f.f (omega (arith, c.loop-f-test.false, c.len-count.ensures)) (omega (arith, c.loop-f.auto.f-end, c.len-count.ensures)) c.loop-f.invariant (omega (arith, c.if-main-count.false, c.len-count.ensures))

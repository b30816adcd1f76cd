use Rattle.std.proofs.Common.{ap, sym, ◌∙◌}
use Rattle.flat_verify.specs.Views.{fact_of}
use Rattle.flat_verify.specs.Sheets.{marked_if, cell_in}
use Rattle.flat_verify.proofs.Pushed.{written_sheet}
use Rattle.flat_verify.proofs.verdict.is_lost.Goals as goal

pub returns : goal.returns
returns c =
    c.marked_if.ensures
    ∙ (ap (marked_if c.args.marks.now) c.in_ok-cell.ensures
    ∙ ap (λ o. marked_if c.args.marks.now (cell_in o c.args.place (fact_of c.args.fact))) (sym (written_sheet c.args.sheets.now c.args.f c.index-sheets-f.result c.requires c.index-sheets-f.is)))

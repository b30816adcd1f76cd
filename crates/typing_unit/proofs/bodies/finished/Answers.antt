use Rattle.std.proofs.Common.{refl, ◌∙◌, length}
use Rattle.std.specs.Prelude.{map}
use Rattle.typed_tree.specs.TypedViews.{struct_of, stmt_of}
use Rattle.typing_unit.proofs.AllMarks.{finished_from}
use Rattle.typing_unit.proofs.bodies.finished.Goals as goal

pub returns : goal.returns
returns c =
    rw (← (finished_from (map struct_of c.args.structs.now) (stmt_of c.args.body.now) c.args.drafts.now (length c.args.drafts.now) c.in_ok-marks.marks.items c.as_slice.result.now refl c.in_ok-marks.ensures
    (c.as_slice.ensures.value ∙ c.mark_stmt.ensures))) c.finished_by.ensures

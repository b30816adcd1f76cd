use Rattle.std.proofs.Common.{ap, sym, ◌∙◌}
use Rattle.block_layout.specs.declared.error.LayoutError.TheVariants.{FrameFull}
use Rattle.baggy_tool.specs.Endings.{layout_line}
use Rattle.baggy_tool.proofs.Noting.{noted_same}
use Rattle.baggy_tool.proofs.refusals.note_layout_error.Goals as goal

pub returns-in-GlobalsFull-clause-noted : goal.returns-in-GlobalsFull-clause-noted
returns-in-GlobalsFull-clause-noted g c = noted_same _ _ _ _ _ (ap layout_line c.in-GlobalsFull.is) c.put_total.ensures.noted

pub returns-in-FrameFull-clause-noted : goal.returns-in-FrameFull-clause-noted
returns-in-FrameFull-clause-noted g c = noted_same _ _ _ _ _ (ap layout_line (c.in-FrameFull.is ∙ ap (λ x. FrameFull x c.in-FrameFull.total) (sym c.as_slice-name.ensures))) c.put_named_total.ensures.noted

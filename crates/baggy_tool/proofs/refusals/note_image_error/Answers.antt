use Rattle.std.proofs.Common.{ap}
use Rattle.baggy_tool.specs.Endings.{image_line}
use Rattle.baggy_tool.proofs.Noting.{noted_same}
use Rattle.baggy_tool.proofs.refusals.note_image_error.Goals as goal

pub returns-in-BadMagic-clause-noted : goal.returns-in-BadMagic-clause-noted
returns-in-BadMagic-clause-noted g c = noted_same _ _ _ _ _ (ap image_line c.in-BadMagic.is) c.put.ensures.noted

pub returns-in-BadVersion-clause-noted : goal.returns-in-BadVersion-clause-noted
returns-in-BadVersion-clause-noted g c = noted_same _ _ _ _ _ (ap image_line c.in-BadVersion.is) c.put_numbered.ensures.noted

pub returns-in-BadField-clause-noted : goal.returns-in-BadField-clause-noted
returns-in-BadField-clause-noted g c = noted_same _ _ _ _ _ (ap image_line c.in-BadField.is) c.put_numbered-in-BadField.ensures.noted

pub returns-in-Extra-clause-noted : goal.returns-in-Extra-clause-noted
returns-in-Extra-clause-noted g c = noted_same _ _ _ _ _ (ap image_line c.in-Extra.is) c.put_numbered-in-Extra.ensures.noted

pub returns-in-Short-clause-noted : goal.returns-in-Short-clause-noted
returns-in-Short-clause-noted g c = noted_same _ _ _ _ _ (ap image_line c.in-Short.is) c.put_two.ensures.noted

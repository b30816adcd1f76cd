use Rattle.std.proofs.Common.{lit≤}
use Rattle.rv_machine.proofs.Layouts.{are_exponents, frame_at}
use Rattle.rv_machine.proofs.frames.layout.Goals as goal

pub returns-clause-exponents : goal.returns-clause-exponents
returns-clause-exponents c = are_exponents 20 c.layout_at.result.now (lit≤ tt) (frame_at c.args.layouts.now c.requires.fit c.args.at c.layout_at.result.now c.layout_at.ensures.value).0

pub returns-clause-declines : goal.returns-clause-declines
returns-clause-declines c = (frame_at c.args.layouts.now c.requires.fit c.args.at c.layout_at.result.now c.layout_at.ensures.value).0

pub returns-clause-fits : goal.returns-clause-fits
returns-clause-fits c = (frame_at c.args.layouts.now c.requires.fit c.args.at c.layout_at.result.now c.layout_at.ensures.value).1

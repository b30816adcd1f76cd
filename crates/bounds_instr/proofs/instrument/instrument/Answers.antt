use Rattle.std.proofs.Common.{sym, ◌∙◌}
use Rattle.mid_code.specs.Views.{program_of}
use Rattle.flat_code.specs.CodeViews.{code_of}
use Rattle.bounds_instr_code.proofs.Coded.{formed_has_room}
use Rattle.bounds_instr.proofs.Whole.{instruments}
use Rattle.bounds_instr.proofs.instrument.instrument.Goals as goal

pub instrumented-requires-clause-built : goal.instrumented-requires-clause-built
instrumented-requires-clause-built c = sym c.is_built.ensures ∙ c.if-not-is_built.false

pub instrumented-requires-clause-room : goal.instrumented-requires-clause-room
instrumented-requires-clause-room c = formed_has_room (program_of c.args.mid.now) c.requires.formed

pub returns : goal.returns
returns c =
    let built = sym c.is_built.ensures ∙ c.if-not-is_built.false in (
      built,
      instruments c.instrumented_keeps.ensures c.instrumented_is_disciplined.ensures c.instrumented_is_light.ensures c.args.g (program_of c.args.mid.now) c.requires.least c.requires.most c.requires.formed built (code_of c.in_ok-flat.flat) c.in_ok-flat.ensures,
    )

use Rattle.std.proofs.Common.{◌∙◌, sym, subst}
use Rattle.flat_code.specs.CodeViews.{code_of}
use Rattle.flat_verify.specs.Views.{blocks_of}
use Rattle.rv_asm.specs.Parts.{AreParts}
use Rattle.rv_selected.specs.Shape.{AreShaped}
use Rattle.rv_select.proofs.select.select.Goals as goal

pub returns-clause-resolvable : goal.returns-clause-resolvable
returns-clause-resolvable c = λ room.
    let v = c.args.verified in
    subst AreParts (sym (c.from_vec.ensures ∙ c.in_ok-parts.ensures))
    (c.parts_are_resolvable.ensures v.exponent (blocks_of v.layout.now) (code_of v.code.now) v.least v.most v.disciplined c.numbers_are_words.ensures room)

pub returns-clause-shape : goal.returns-clause-shape
returns-clause-shape c =
    let v = c.args.verified in
    subst AreShaped (sym (c.from_vec.ensures ∙ c.in_ok-parts.ensures)) (c.parts_are_shaped.ensures v.exponent (code_of v.code.now))

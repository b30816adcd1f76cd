use Rattle.std.proofs.Common.{ap}
use Rattle.baggy_tool.specs.declared.run.Outcome.{Outcome}
use Rattle.baggy_tool.proofs.Answering.{words_want, words_none, words_ask, kept_ask}
use Rattle.baggy_tool.proofs.run.answer.Goals as goal

pub returns-in-Err-clause-answers : goal.returns-in-Err-clause-answers
returns-in-Err-clause-answers g c = words_want _ _ _ _ _ (ap (λ (o : Outcome). o.image) c.without_image.ensures) (ap (λ (o : Outcome). o.ending) c.without_image.ensures)

pub returns-in-Ok-None-clause-answers : goal.returns-in-Ok-None-clause-answers
returns-in-Ok-None-clause-answers g c =
    let asked = rw c.in-Ok-None.field-0-is at c.in-Ok-None.ensures in
    words_none _ _ _ _ _ asked (ap (λ (o : Outcome). o.image) c.without_image-in-Ok-None.ensures) (ap (λ (o : Outcome). o.ending) c.without_image-in-Ok-None.ensures)

pub returns-in-Ok-Some-clause-answers : goal.returns-in-Ok-Some-clause-answers
returns-in-Ok-Some-clause-answers g c =
    let asked = rw c.in-Ok-Some.field-0-is at c.in-Ok-Some.ensures in
    words_ask _ _ _ _ _ _ _ _ asked c.answer_command.ensures.answers

pub returns-in-Ok-Some-clause-files : goal.returns-in-Ok-Some-clause-files
returns-in-Ok-Some-clause-files g c = λ other kept.
    let asked = rw c.in-Ok-Some.field-0-is at c.in-Ok-Some.ensures in
    c.answer_command.ensures.files other (kept_ask _ _ _ other asked kept)

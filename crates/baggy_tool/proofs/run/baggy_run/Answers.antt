use Rattle.baggy_tool.proofs.Answering.{not_noted_yet, kept_same}
use Rattle.baggy_tool.proofs.run.baggy_run.Goals as goal

pub finish-requires : goal.finish-requires
finish-requires g c = not_noted_yet _ _ _ _ _ _ _ c.answer-outcome.ensures.answers

pub returns : goal.returns
returns g c = record {
  ending = c.answer-outcome.result.ending;
  answers = rw c.finish.ensures.image c.answer-outcome.ensures.answers;
  noted = c.finish.ensures.noted;
  status = c.finish.ensures.status;
  files = λ name kept. c.answer-outcome.ensures.files name (kept_same _ _ _ name c.finish.ensures.image kept);
}

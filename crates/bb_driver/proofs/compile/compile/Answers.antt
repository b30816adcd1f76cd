use Rattle.bb_driver.proofs.Unique.{is_answered}
use Rattle.bb_driver.proofs.compile.compile.Goals as goal

pub returns-clause-complete : goal.returns-clause-complete
returns-clause-complete c = λ p accepted built. is_answered c.one_answer.ensures c.args.text.now p accepted built c.image_or_refusal.result c.image_or_refusal.ensures

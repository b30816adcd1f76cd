use Rattle.bb_driver.proofs.OneRefusal.{one_refusal}
use Rattle.bb_driver.proofs.Unique as unique
use Rattle.bb_driver.proofs.laws.one_answer.Goals as goal

pub returns : goal.returns
returns c =
    let refusal = one_refusal c.one_reading.ensures c.one_unit.ensures c.not_refused.ensures c.one_refusal.ensures c.accepted_is_typed.ensures c.files_fail_at_first.ensures in
    unique.one_answer c.one_reading.ensures c.one_unit.ensures c.not_refused.ensures c.accepted_is_typed.ensures c.files_fail_at_first.ensures refusal

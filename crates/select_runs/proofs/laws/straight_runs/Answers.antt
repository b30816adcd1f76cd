use Rattle.select_straight.proofs.Straight.{straight}
use Rattle.select_runs.proofs.laws.straight_runs.Goals as goal

pub returns : goal.returns
returns c = straight c.word_read_back.ensures c.others_stay.ensures c.core_stays.ensures

use Rattle.injection.proofs.Objects.{ended_keeps}
use Rattle.injection.proofs.Blocks.{live_blocks_ended}
use Rattle.injection.proofs.laws.ended_keeps.Goals as goal

pub returns : goal.returns
returns c = λ g os cs memory k o l h. record { keeps = ended_keeps g os cs memory k o l.there h; blocks = live_blocks_ended g os k o h.out l }

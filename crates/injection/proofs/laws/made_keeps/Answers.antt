use Rattle.injection.proofs.Objects.{made_keeps}
use Rattle.injection.proofs.Blocks.{live_blocks_made}
use Rattle.injection.proofs.laws.made_keeps.Goals as goal

pub returns : goal.returns
returns c = λ g os cs memory o live here free h. record { keeps = made_keeps g os cs memory o here free h; blocks = live_blocks_made os o live }

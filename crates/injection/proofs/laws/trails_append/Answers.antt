use Rattle.injection.proofs.Accounts.{named_append, image_append}
use Rattle.injection.proofs.laws.trails_append.Goals as goal

pub returns : goal.returns
returns c = record { named = named_append; image = image_append }

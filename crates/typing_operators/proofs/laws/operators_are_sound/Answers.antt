use Rattle.typing_operators.proofs.SoundPlaces.{operators_are_sound}
use Rattle.typing_operators.proofs.laws.operators_are_sound.Goals as goal

pub returns : goal.returns
returns c = operators_are_sound

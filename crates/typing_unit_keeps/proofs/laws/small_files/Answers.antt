use Rattle.typing_unit_keeps.proofs.SmallFiles.{small_files}
use Rattle.typing_unit_keeps.proofs.laws.small_files.Goals as goal

pub returns : goal.returns
returns c = small_files

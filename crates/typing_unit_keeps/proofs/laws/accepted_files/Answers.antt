use Rattle.typing_unit_keeps.proofs.SmallFiles.{accepted_files}
use Rattle.typing_unit_keeps.proofs.laws.accepted_files.Goals as goal

pub returns : goal.returns
returns c = accepted_files

use Rattle.typing_unit_keeps.proofs.LinedFiles.{has_lines}
use Rattle.typing_unit_keeps.proofs.laws.files_have_lines.Goals as goal

pub returns : goal.returns
returns c = has_lines

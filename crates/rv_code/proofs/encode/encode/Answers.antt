use Rattle.std.proofs.Common.{ap, ◌∙◌}
use Rattle.rv_code.specs.Code.{instruction_of}
use Rattle.rv_code.proofs.RoundTrip.{read_back}
use Rattle.rv_code.proofs.encode.encode.Goals as goal

pub returns-clause-inverse : goal.returns-clause-inverse
returns-clause-inverse c = ap instruction_of c.instruction_word.ensures ∙ read_back c.args.instr c.requires

use Rattle.c_parser_rules.proofs.Laws.{one_unit}
use Rattle.c_parser_rules.proofs.one_unit.Goals as goal

pub returns : goal.returns
returns c = one_unit

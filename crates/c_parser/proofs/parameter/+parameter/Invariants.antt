use Rattle.std.proofs.Common.{◌-◌, ◌+◌, ◌*◌}
use Rattle.c_parser.proofs.parameter.+parameter.Given as goal

abbrev pub decreases-parameter_declarator : goal.decreases-parameter_declarator
decreases-parameter_declarator l = 2 * (200 - l.depth) + 1

abbrev pub decreases-nested : goal.decreases-nested
decreases-nested l = 2 * (200 - l.level)

use Rattle.std.proofs.Common.{◌-◌, ◌+◌, ◌*◌}
use Rattle.c_parser.proofs.declarator.+declarator.Given as goal

abbrev pub decreases-declarator : goal.decreases-declarator
decreases-declarator l = 2 * (200 - l.depth) + 1

abbrev pub decreases-nested : goal.decreases-nested
decreases-nested l = 2 * (200 - l.level)

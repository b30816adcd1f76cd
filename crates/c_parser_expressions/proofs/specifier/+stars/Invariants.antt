use Rattle.std.proofs.Common.{◌-◌}
use Rattle.c_parser_expressions.proofs.specifier.+stars.Given as goal

abbrev pub decreases-stars : goal.decreases-stars
decreases-stars l = 200 - l.depth

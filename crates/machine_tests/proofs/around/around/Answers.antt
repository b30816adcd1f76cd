use Rattle.machine_tests.proofs.Resolvable.{are_parts}
use Rattle.machine_tests.proofs.around.around.Goals as goal

pub returns-clause-parts : goal.returns-clause-parts
returns-clause-parts c = rw (c.from_vec.ensures, c.in_ok-parts.ensures) (are_parts c.args.before c.args.first c.args.second c.args.behind c.requires.parts.0 c.requires.parts.1 c.requires.size)

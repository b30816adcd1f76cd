use Rattle.typing_unit.proofs.Wholes.{free_entry}
use Rattle.typing_unit.proofs.functions.add_function.Goals as goal

pub insert-requires : goal.insert-requires
insert-requires c = free_entry c.args.name.now c.args.scene.now.names c.requires

use Rattle.typing_unit.proofs.Wholes.{free_name}
use Rattle.typing_unit.proofs.objects.add_object.Goals as goal

pub insert-requires : goal.insert-requires
insert-requires c = free_name c.args.name.now c.args.file.now.scene.names _ c.requires

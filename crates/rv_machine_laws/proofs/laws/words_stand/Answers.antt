use Rattle.std.proofs.lemmas.List.Elements.{recursion_from_All}
use Rattle.rv_machine.specs.Formed.{IsWord}
use Rattle.rv_machine_laws.proofs.Programs.{words_stand}
use Rattle.rv_machine_laws.proofs.laws.words_stand.Goals as goal

pub returns : goal.returns
returns c = λ memory at words small fits. words_stand words memory at (recursion_from_All IsWord words small) fits

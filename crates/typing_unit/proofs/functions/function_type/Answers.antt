use Rattle.std.specs.Prelude.{map}
use Rattle.typed_tree.specs.TypesViewed.{ty_of}
use Rattle.typing_expressions.specs.Parts.{param_of, parts_of}
use Rattle.typing_unit.specs.UnitSteps.{file_of}
use Rattle.typing_unit.proofs.Wholes.{faulty, faultless}
use Rattle.typing_unit.proofs.functions.function_type.Goals as goal

pub returns-in-Some : goal.returns-in-Some
returns-in-Some c =
    faulty (file_of c.args.file.now) c.args.line c.args.name.now (ty_of c.args.base.now) (map param_of c.args.params.now) (parts_of c.args.parts.items) c.args.role.defines c.args.role.has_initializer c.in-Some.e (rw c.as_slice.ensures.value at c.in-Some.ensures)

pub returns-in_ok-base-in-None : goal.returns-in_ok-base-in-None
returns-in_ok-base-in-None c =
    rw (faultless (file_of c.args.file.now) c.args.line c.args.name.now (ty_of c.args.base.now) (map param_of c.args.params.now) (parts_of c.args.parts.items) c.args.role.defines c.args.role.has_initializer (rw c.as_slice.ensures.value at c.in-None.ensures)) (c.agreed.ensures _ (rw (c.as_slice-in-None.ensures.value, c.in_ok-base-in-None.ensures) at c.made_from-ty.ensures))

use Rattle.std.proofs.Common.{sym, ◌∙◌}
use Rattle.std.specs.Option.{option_map}
use Rattle.syntax_tree.specs.SyntaxViews.{initializer_tree}
use Rattle.typed_tree.specs.TypesViewed.{ty_of}
use Rattle.typing_expressions.specs.Parts.{parts_of}
use Rattle.typing_unit.specs.UnitSteps.{file_of}
use Rattle.typing_unit.proofs.Wholes.{object_done}
use Rattle.typing_unit.proofs.objects.declared_object.Goals as goal

pub returns : goal.returns
returns c =
    rw (← (object_done (file_of c.args.file.now) (file_of c.add_object.new.file) c.args.at c.args.name (ty_of c.args.base.now) (parts_of c.args.parts.items) (option_map initializer_tree c.args.initializer.now) (ty_of c.in_ok-ty.ty) (parts_of c.in_ok-parts.parts.items)
    (rw c.as_slice.ensures at (sym c.object_is_taken.ensures ∙ c.if-object_is_taken.false))
    c.in_ok-parts.ensures
    (rw (c.as_slice-3.ensures.value, c.in_ok-base.ensures, c.is_main-main.ensures, c.as_slice-2.ensures) at c.in_ok-ty.ensures)
    (rw c.as_slice-4.ensures at c.in_ok-add_object.ensures))) c.initialized_global.ensures

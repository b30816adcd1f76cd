use Rattle.std.proofs.Common.{◌≡◌, drop}
use Rattle.std.specs.Prelude.{map}
use Rattle.typed_tree.specs.TypesViewed.{ty_of}
use Rattle.typed_tree.specs.TypedViews.{struct_of}
use Rattle.typing_expressions.specs.Parts.{made, parts_of}
use Rattle.typing_expressions.proofs.parts.made.Given as goal

abbrev pub invariant-loop-part : goal.invariant-loop-part
invariant-loop-part l =
    made (map struct_of l.structs) l.line (ty_of l.ty) (parts_of (drop l.part-index l.parts)) ≡ made (map struct_of l.structs) l.line (ty_of l.fn.base) (parts_of l.parts)

use Rattle.std.proofs.Common.{◌≡◌, [], drop}
use Rattle.std.specs.Prelude.{map}
use Rattle.typed_tree.specs.TypesViewed.{ty_of}
use Rattle.typed_tree.specs.TypedViews.{struct_of, initials_of}
use Rattle.typing_expressions.specs.Initializers.{parts_bytes}
use Rattle.typing_initializers.proofs.initial_bytes.+initial_bytes.Given as goal

abbrev pub invariant-parts_bytes-loop-i : goal.invariant-parts_bytes-loop-i
invariant-parts_bytes-loop-i l = parts_bytes (map struct_of l.structs) (ty_of l.ty) l.bytes.items l.i (initials_of (drop l.i l.parts)) ≡ parts_bytes (map struct_of l.fn.structs) (ty_of l.fn.ty) [] 0 (initials_of l.fn.parts)

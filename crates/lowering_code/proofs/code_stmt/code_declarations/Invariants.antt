use Rattle.std.proofs.Common.{◌≡◌}
use Rattle.std.specs.Prelude.{drop, map}
use Rattle.typed_tree.specs.TypedViews.{struct_of, declaration_of}
use Rattle.mid_code.specs.Code.{append}
use Rattle.mid_code.specs.Views.{steps_of}
use Rattle.lowering_code.specs.Lower as lower
use Rattle.lowering_code.proofs.code_stmt.code_declarations.Given as goal

abbrev pub invariant-loop-x : goal.invariant-loop-x
invariant-loop-x l =
    append (steps_of l.code.items) (lower.declarations_code (map struct_of l.structs) (map declaration_of (drop l.x-index l.declarations)) l.to) ≡ append (steps_of l.initial.code.items) (lower.declarations_code (map struct_of l.structs) (map declaration_of l.declarations) l.to)

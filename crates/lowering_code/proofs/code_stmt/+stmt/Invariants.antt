use Rattle.std.proofs.Common.{◌≡◌}
use Rattle.std.specs.Prelude.{drop, map}
use Rattle.typed_tree.specs.TypedViews.{struct_of, stmts_of}
use Rattle.mid_code.specs.Code.{append}
use Rattle.mid_code.specs.Views.{steps_of}
use Rattle.lowering_code.specs.Lower as lower
use Rattle.lowering_code.proofs.code_stmt.+stmt.Given as goal

abbrev pub invariant-code_stmts-loop-x : goal.invariant-code_stmts-loop-x
invariant-code_stmts-loop-x l =
    append (steps_of l.code.items) (lower.stmts_code (map struct_of l.structs) (stmts_of (drop l.x-index l.statements)) l.back l.to) ≡ append (steps_of l.initial.code.items) (lower.stmts_code (map struct_of l.structs) (stmts_of l.statements) l.back l.to)

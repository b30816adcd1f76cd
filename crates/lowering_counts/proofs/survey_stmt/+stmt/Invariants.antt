use Rattle.std.proofs.Common.{◌≡◌, ◌+◌, ◌≤◌}
use Rattle.std.specs.Prelude.{drop, min, max, ◌&&◌}
use Rattle.typed_tree.specs.Walk.{over_stmts}
use Rattle.typed_tree.specs.TypedViews.{stmts_of}
use Rattle.lowering_counts.specs.Room as room
use Rattle.lowering_counts.proofs.survey_stmt.+stmt.Given as goal

abbrev pub invariant-survey_stmts-loop-x : goal.invariant-survey_stmts-loop-x
invariant-survey_stmts-loop-x l =
    (min (l.total.nodes + over_stmts room.nodes (stmts_of (drop l.x-index l.statements))) 4294967295 ≡ min (over_stmts room.nodes (stmts_of l.statements)) 4294967295)
    × (min (max l.total.temps (over_stmts room.temps (stmts_of (drop l.x-index l.statements)))) 4294967295 ≡ min (over_stmts room.temps (stmts_of l.statements)) 4294967295)
    × ((l.total.built && over_stmts room.built (stmts_of (drop l.x-index l.statements))) ≡ over_stmts room.built (stmts_of l.statements))
    × (l.total.nodes ≤ 4294967295)
    × (l.total.temps ≤ 4294967295)

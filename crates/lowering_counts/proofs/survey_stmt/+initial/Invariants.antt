use Rattle.std.proofs.Common.{◌≡◌, ◌+◌, ◌≤◌}
use Rattle.std.specs.Prelude.{drop, min, max, ◌&&◌}
use Rattle.typed_tree.specs.Walk.{over_initials}
use Rattle.typed_tree.specs.TypedViews.{initials_of}
use Rattle.lowering_counts.specs.Room as room
use Rattle.lowering_counts.proofs.survey_stmt.+initial.Given as goal

abbrev pub invariant-survey_initials-loop-x : goal.invariant-survey_initials-loop-x
invariant-survey_initials-loop-x l =
    (min (l.total.nodes + over_initials room.nodes (initials_of (drop l.x-index l.parts))) 4294967295 ≡ min (over_initials room.nodes (initials_of l.parts)) 4294967295)
    × (min (max l.total.temps (over_initials room.temps (initials_of (drop l.x-index l.parts)))) 4294967295 ≡ min (over_initials room.temps (initials_of l.parts)) 4294967295)
    × ((l.total.built && over_initials room.built (initials_of (drop l.x-index l.parts))) ≡ over_initials room.built (initials_of l.parts))
    × (l.total.nodes ≤ 4294967295)
    × (l.total.temps ≤ 4294967295)

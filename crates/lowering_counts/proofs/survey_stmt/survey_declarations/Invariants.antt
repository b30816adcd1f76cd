use Rattle.std.proofs.Common.{◌≡◌, ◌+◌, ◌≤◌}
use Rattle.std.specs.Prelude.{drop, min, max, ◌&&◌, map}
use Rattle.typed_tree.specs.Walk.{over_declarations}
use Rattle.typed_tree.specs.TypedViews.{declaration_of}
use Rattle.lowering_counts.specs.Room as room
use Rattle.lowering_counts.proofs.survey_stmt.survey_declarations.Given as goal

abbrev pub invariant-loop-x : goal.invariant-loop-x
invariant-loop-x l =
    (min (l.total.nodes + over_declarations room.nodes (map declaration_of (drop l.x-index l.declarations))) 4294967295 ≡ min (over_declarations room.nodes (map declaration_of l.declarations)) 4294967295)
    × (min (max l.total.temps (over_declarations room.temps (map declaration_of (drop l.x-index l.declarations)))) 4294967295 ≡ min (over_declarations room.temps (map declaration_of l.declarations)) 4294967295)
    × ((l.total.built && over_declarations room.built (map declaration_of (drop l.x-index l.declarations))) ≡ over_declarations room.built (map declaration_of l.declarations))
    × (l.total.nodes ≤ 4294967295)
    × (l.total.temps ≤ 4294967295)

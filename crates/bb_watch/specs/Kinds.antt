-- The kind of an event.
use Rattle.std.specs.Prelude.{Bool, List, [], ◌∷◌, if◌then◌else◌}
use Rattle.bb_watch.specs.declared.event.Event.{Event}
use Rattle.bb_watch.specs.declared.event.Event.TheVariants.{Move, Access, Call, Return, Made, Ended, Line}
use Rattle.bb_watch.specs.declared.event.Kinds.{Kinds}

-- whether the event is of one of the kinds
abbrev pub is_of : Kinds → Event → Bool
is_of kinds (Move pc from to) = kinds.moves
is_of kinds (Access pc at size write base) = kinds.accesses
is_of kinds (Call pc target) = kinds.calls
is_of kinds (Return pc target) = kinds.returns
is_of kinds (Made at exponent) = kinds.made
is_of kinds (Ended at exponent) = kinds.ended
is_of kinds (Line line) = kinds.lines

-- the events of these kinds, in order
abbrev pub of_kinds : Kinds → List Event → List Event
of_kinds kinds [] = []
of_kinds kinds (event ∷ events) = if is_of kinds event then event ∷ of_kinds kinds events else of_kinds kinds events

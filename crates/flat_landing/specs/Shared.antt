-- What a machine tells that flat code tells too.
use Rattle.std.specs.Prelude.{◌==◌, ◌||◌, List, [], ◌∷◌, ◌++◌, if◌then◌else◌}
use Rattle.bb_watch.specs.declared.event.Event.{Event}
use Rattle.bb_watch.specs.declared.event.Event.TheVariants as event
use Rattle.bb_watch.specs.Told as machine
use Rattle.flat_code.specs.Told as flat

-- All but calls, returns and accesses by x2 and x31: those are of the control stack and of the size table, which flat code
-- does not have. The places of instructions are left out.
abbrev pub shared_event : Event → List flat.Tell
shared_event (event.Move pc from to) = flat.Tell.Move from to ∷ []
shared_event (event.Access pc at size write base) = if (base == 2) || (base == 31) then [] else flat.Tell.Access at size write ∷ []
shared_event (event.Call pc target) = []
shared_event (event.Return pc target) = []
shared_event (event.Made at exponent) = flat.Tell.Made at exponent ∷ []
shared_event (event.Ended at exponent) = flat.Tell.Ended at exponent ∷ []
shared_event (event.Line line) = flat.Tell.Line line ∷ []

abbrev pub shared : List machine.Tell → List flat.Tell
shared [] = []
shared (machine.Output byte ∷ told) = flat.Tell.Output byte ∷ shared told
shared (machine.Happens e ∷ told) = shared_event e ++ shared told

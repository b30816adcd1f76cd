-- What an instruction tells, as it is read before the instruction is done.
use Rattle.std.specs.Prelude.{ℕ, ◌+◌, ◌-◌, ◌≤◌, Bool, true, false, List, [], ◌∷◌, Option, Some, None, map, reverse}
use Rattle.std.specs.List.{AllByRecursion}
use Rattle.bb_watch.specs.declared.event.Event.{Event}
use Rattle.rv_image.specs.Rules.{total_size}
use Rattle.rv_machine.specs.declared.events.Told.{Told}
use Rattle.rv_machine.specs.declared.events.Told.TheVariants as told
use Rattle.rv_machine.specs.Environment.{made_event, ended_event}
use Rattle.rv_machine.specs.Instruction.{Act, Goes, Traps, Asks}
use Rattle.size_table.specs.Made.{blocks_from}
use Rattle.size_table.specs.declared.memory_map.TheConstants.{MEMORY_END}

-- the events of an act by those of its instruction, but where it asks the environment
abbrev pub told_by : Act → List Event → Option (List Event)
told_by (Goes core) events = Some events
told_by (Traps kind) events = Some []
told_by Asks events = None

abbrev pub told_list : Told → Option (List Event)
told_list told.Asks = None
told_list told.Nothing = Some []
told_list (told.Happens event) = Some (event ∷ [])

-- Blocks of these exponents lie without gaps. They are made from an address on, or end, the last one first, where the
-- address is the end of the last one.
abbrev pub blocks_told : (ends : Bool) (at : ℕ) → List ℕ → List Event
blocks_told false at es = map made_event (blocks_from at es)
blocks_told true at es = map ended_event (reverse (blocks_from (at - total_size es) es))

abbrev pub events_in : Option Event → (ends : Bool) (at : ℕ) → List ℕ → List Event
events_in None ends at es = blocks_told ends at es
events_in (Some event) ends at es = event ∷ blocks_told ends at es

abbrev pub IsSmall : ℕ → Type 0
IsSmall e = e ≤ 24

abbrev pub FitIn : (ends : Bool) (at : ℕ) → List ℕ → Type 0
FitIn false at es = at + total_size es ≤ MEMORY_END
FitIn true at es = total_size es ≤ at

-- the blocks lie in memory
abbrev pub LieInMemory : (ends : Bool) (at : ℕ) → List ℕ → Type 0
LieInMemory ends at es = AllByRecursion IsSmall es × FitIn ends at es

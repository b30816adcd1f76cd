-- When the runs of an image mean what the program means: as long as the source keeps its objects, the image ends as it does,
-- with its output and its trail, in the instructions that it pays for.
use Rattle.std.specs.Prelude.{◌≡◌, ◌⊎◌, ℕ, ◌≤◌, ◌<◌, ◌%◌, pos, true, List, [], ◌∷◌, Option, Some, None, IsSome, slice_get}
use Rattle.bb_watch.specs.declared.event.Event.{Event}
use Rattle.bb_watch.specs.declared.event.Event.TheVariants as event
use Rattle.bb_watch.specs.Told.{output_of, events_of}
use Rattle.flat_code.specs.Told.{Mark, Begins}
use Rattle.flat_code.specs.Told.Mark.{Begun, Pair}
use Rattle.injection.specs.Trail.{SafeSites, image_trail}
use Rattle.source_meaning.specs.declared.values.Ending.{Ending}
use Rattle.source_meaning.specs.declared.values.Ending.TheVariants as ending
use Rattle.source_meaning.specs.declared.values.Pointer.{Pointer}
use Rattle.source_meaning.specs.declared.values.Pointer.TheVariants.{Null, To}
use Rattle.source_meaning.specs.Objects.{Object}
use Rattle.source_meaning.specs.Worlds as source
use Rattle.source_meaning.specs.Worlds.{Line, Moved}
use Rattle.source_meaning.specs.Runs.{Outcome, cost}
use Rattle.rv_machine.specs.declared.stop.Halt.{Halt}
use Rattle.rv_machine.specs.declared.stop.Halt.TheVariants as halt
use Rattle.rv_machine.specs.Environment as machine

-- ---- What a machine leaves behind

-- the lines of statements that began, and the pairs of pointer moves
abbrev pub marks_of : List Event → List Mark
marks_of [] = []
marks_of (event.Move pc from to ∷ events) = Pair from to ∷ marks_of events
marks_of (event.Access pc at size write base ∷ events) = marks_of events
marks_of (event.Call pc target ∷ events) = marks_of events
marks_of (event.Return pc target ∷ events) = marks_of events
marks_of (event.Made at exponent ∷ events) = marks_of events
marks_of (event.Ended at exponent ∷ events) = marks_of events
marks_of (event.Line line ∷ events) = Begun line ∷ marks_of events

abbrev pub output : machine.World → List ℕ
output w = output_of w.told

abbrev pub trail : machine.World → List Mark
trail w = marks_of (events_of w.told)

-- the machine has told what the source has, and maybe more
pub record TellsFrom (safe : SafeSites) (w : machine.World) (s : source.World) : Type 0 where
  pub output : Begins (output w) s.output
  pub trail : Begins (trail w) (image_trail safe s.objects s.trail)

-- the source has told what the machine has, and maybe more
pub record TellsUpTo (safe : SafeSites) (w : machine.World) (s : source.World) : Type 0 where
  pub output : Begins s.output (output w)
  pub trail : Begins (image_trail safe s.objects s.trail) (trail w)

-- they have told the same
pub record TellsAll (safe : SafeSites) (w : machine.World) (s : source.World) : Type 0 where
  pub output : output w ≡ s.output
  pub trail : trail w ≡ image_trail safe s.objects s.trail

-- ---- Endings

-- the halt of a machine for an ending of the source; an exit has the low 8 bits of its number
abbrev pub halt_of : Ending → Option Halt
halt_of (ending.Exited n) = Some (halt.Exited (n % 256))
halt_of (ending.Reported kind line) = Some (halt.Reported kind line)
halt_of (ending.Trapped kind) = Some (halt.Trapped kind)
halt_of (ending.Outside cause) = None
halt_of ending.Cut = None

-- the run left its objects
abbrev pub IsOutside : Ending → Type 0
IsOutside (ending.Exited n) = ⊥
IsOutside (ending.Reported kind line) = ⊥
IsOutside (ending.Trapped kind) = ⊥
IsOutside (ending.Outside cause) = Unit {0}
IsOutside ending.Cut = ⊥

-- the program has come to its end
abbrev pub HasEnded : Ending → Type 0
HasEnded e = IsSome (halt_of e)

-- ---- Moves that are not checked

-- a move leads from an object into the same one
abbrev pub StaysInside : List Object → (from to : Pointer) → Type 0
StaysInside os Null to = ⊥
StaysInside os (To k from) Null = ⊥
StaysInside os (To k from) (To j to) = (k ≡ j) × (o : Object) × (n : ℕ) × (slice_get os k ≡ Some o) × (to ≡ pos n) × (n < o.length)

-- so does each move of these sites
abbrev pub SafeSitesHold : SafeSites → List Object → List source.Mark → Type 0
SafeSitesHold safe os [] = Unit {0}
SafeSitesHold safe os (Line line ∷ marks) = SafeSitesHold safe os marks
SafeSitesHold safe os (Moved site from to ∷ marks) = (safe site ≡ true → StaysInside os from to) × SafeSitesHold safe os marks

-- ---- The same

-- What a machine does, by the number of instructions, beside what the program means, by the bound on turns and nested calls.
pub record Same (source : ℕ → Outcome) (safe : SafeSites) (after : ℕ → machine.World) : Type 0 where
  -- where the program has ended, the machine has halted so within its cost, and has told the same
  pub ends : (m n : ℕ) → HasEnded (source m).ending → cost (source m).state ≤ n →
      ((after n).machine.ending ≡ halt_of (source m).ending) × TellsAll safe (after n) (source m).state.world
  -- where it was cut, or left its objects, the machine has told as much within its cost
  pub goes_on : (m n : ℕ) → (HasEnded (source m).ending → ⊥) → cost (source m).state ≤ n →
      TellsFrom safe (after n) (source m).state.world
  -- as long as the program keeps its objects, the machine tells no more than it does, and halts only as it ends
  pub no_more : (n : ℕ) → (IsOutside (source n).ending → ⊥) → TellsUpTo safe (after n) (source n).state.world
  pub halts_only : (n : ℕ) → (IsOutside (source n).ending → ⊥) → IsSome (after n).machine.ending →
      ((after n).machine.ending ≡ halt_of (source n).ending) × (output (after n) ≡ (source n).state.world.output)
  -- where it leaves them, the machine has told all that was told until then, or is still on the way there
  pub outside : (n : ℕ) → IsOutside (source n).ending →
      (((after n).machine.ending ≡ None) × TellsUpTo safe (after n) (source n).state.world) ⊎ TellsFrom safe (after n) (source n).state.world
  -- and moves of the sites that are left unchecked stay in their objects
  pub inside : (m : ℕ) → SafeSitesHold safe (source m).state.world.objects (source m).state.world.trail

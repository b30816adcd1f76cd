-- What a run tells: its output and its events, in one list.
use Rattle.std.specs.Prelude.{ℕ, List, [], ◌∷◌}
use Rattle.bb_watch.specs.declared.event.Event.{Event}

-- what a run tells the outside, one thing after another: the bytes of its output, and events
pub data Tell : Type 0 where
  Output : (byte : ℕ) → Tell
  Happens : (event : Event) → Tell

-- the bytes of the output
abbrev pub output_of : List Tell → List ℕ
output_of [] = []
output_of (Output byte ∷ told) = byte ∷ output_of told
output_of (Happens event ∷ told) = output_of told

-- the events
abbrev pub events_of : List Tell → List Event
events_of [] = []
events_of (Output byte ∷ told) = events_of told
events_of (Happens event ∷ told) = event ∷ events_of told

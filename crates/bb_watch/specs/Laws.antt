-- The laws of what a run tells: what holds of a list of it holds of its parts, one after the other.
use Rattle.std.specs.Prelude.{◌≡◌, ◌↔◌, ℕ, List, ◌++◌, Option, Some, None, map}
use Rattle.bb_watch.specs.declared.event.Event.{Event}
use Rattle.bb_watch.specs.Told.{Tell, Happens, output_of, events_of}
use Rattle.bb_watch.specs.Live.{live_of, ever_of}
use Rattle.bb_watch.specs.Safety.{Each, open_after}
use Rattle.size_table.specs.Blocks.{Block}

abbrev pub OutputAppends : Type 0
OutputAppends = (xs ys : List Tell) → output_of (xs ++ ys) ≡ output_of xs ++ output_of ys

abbrev pub EventsAppend : Type 0
EventsAppend = (xs ys : List Tell) → events_of (xs ++ ys) ≡ events_of xs ++ events_of ys

-- where events alone are told, they are those
abbrev pub EventsHappen : Type 0
EventsHappen = (events : List Event) → events_of (map Happens events) ≡ events

abbrev pub LiveAppends : Type 0
LiveAppends = (live : List Block) (xs ys : List Event) → live_of live (xs ++ ys) ≡ live_of (live_of live xs) ys

abbrev pub EverAppends : Type 0
EverAppends = (ever : List Block) (xs ys : List Event) → ever_of ever (xs ++ ys) ≡ ever_of (ever_of ever xs) ys

-- each event of two lists is so exactly if each of the first is, and then each of the second, by the blocks after the first
abbrev pub EachAppends : (List Block → List Block → Event → Type 0) → Type 0
EachAppends P = (live ever : List Block) (xs ys : List Event) → Each P live ever (xs ++ ys)
    ↔ (Each P live ever xs × Each P (live_of live xs) (ever_of ever xs) ys)

-- the places that are open after further events
abbrev pub open_on : Option (List ℕ) → List Event → Option (List ℕ)
open_on None events = None
open_on (Some places) events = open_after places events

abbrev pub OpenAppends : Type 0
OpenAppends = (places : List ℕ) (xs ys : List Event) → open_after places (xs ++ ys) ≡ open_on (open_after places xs) ys

-- What holds of a list of events holds of its parts, one after the other.
use Rattle.std.proofs.Common.{◌≡◌, ℕ, Bool, true, false, cond, eqb, List, [], ◌∷◌, ◌++◌, Option, None, refl, ap}
use Rattle.bb_watch.specs.declared.event.Event.{Event}
use Rattle.bb_watch.specs.declared.event.Event.TheVariants.{Move, Access, Call, Return, Made, Ended, Line}
use Rattle.bb_watch.specs.Told.{Output, Happens}
use Rattle.bb_watch.specs.Live.{live_after, ever_after, live_of, ever_of}
use Rattle.bb_watch.specs.Safety.{Each, return_place, open_after}
use Rattle.bb_watch.specs.Laws.{OutputAppends, EventsAppend, EventsHappen, LiveAppends, EverAppends, EachAppends, OpenAppends, open_on}
use Rattle.size_table.specs.Blocks.{Block}

pub output_append : OutputAppends
output_append [] ys = refl
output_append (Output byte ∷ xs) ys = ap (λ (l : List ℕ). byte ∷ l) (output_append xs ys)
output_append (Happens e ∷ xs) ys = output_append xs ys

pub events_append : EventsAppend
events_append [] ys = refl
events_append (Output byte ∷ xs) ys = events_append xs ys
events_append (Happens e ∷ xs) ys = ap (λ (l : List Event). e ∷ l) (events_append xs ys)

pub events_happen : EventsHappen
events_happen [] = refl
events_happen (e ∷ es) = ap (λ (l : List Event). e ∷ l) (events_happen es)

pub live_append : LiveAppends
live_append live [] ys = refl
live_append live (e ∷ xs) ys = live_append (live_after e live) xs ys

pub ever_append : EverAppends
ever_append ever [] ys = refl
ever_append ever (e ∷ xs) ys = ever_append (ever_after e ever) xs ys

-- ---- Each

each_parts : (P : List Block → List Block → Event → Type 0) (live ever : List Block) (xs ys : List Event) → Each P live ever (xs ++ ys) → Each P live ever xs × Each P (live_of live xs) (ever_of ever xs) ys
each_parts P live ever [] ys h = (tt, h)
each_parts P live ever (x ∷ xs) ys h = let parts = each_parts P (live_after x live) (ever_after x ever) xs ys h.1 in ((h.0, parts.0), parts.1)

each_whole : (P : List Block → List Block → Event → Type 0) (live ever : List Block) (xs ys : List Event) → Each P live ever xs × Each P (live_of live xs) (ever_of ever xs) ys → Each P live ever (xs ++ ys)
each_whole P live ever [] ys h = h.1
each_whole P live ever (x ∷ xs) ys h = (h.0.0, each_whole P (live_after x live) (ever_after x ever) xs ys (h.0.1, h.1))

pub each_append : (P : List Block → List Block → Event → Type 0) → EachAppends P
each_append P live ever xs ys = (each_parts P live ever xs ys, each_whole P live ever xs ys)

-- ---- Calls that are open

open_if : (same : Bool) (whole first : Option (List ℕ)) (ys : List Event) → whole ≡ open_on first ys → cond same whole None ≡ open_on (cond same first None) ys
open_if true whole first ys h = h
open_if false whole first ys h = refl

pub open_append : OpenAppends
open_append places [] ys = refl
open_append [] (Move pc from to ∷ xs) ys = open_append [] xs ys
open_append (place ∷ places) (Move pc from to ∷ xs) ys = open_append (place ∷ places) xs ys
open_append [] (Access pc at size write base ∷ xs) ys = open_append [] xs ys
open_append (place ∷ places) (Access pc at size write base ∷ xs) ys = open_append (place ∷ places) xs ys
open_append places (Call pc target ∷ xs) ys = open_append (return_place pc ∷ places) xs ys
open_append [] (Return pc target ∷ xs) ys = refl
open_append (place ∷ places) (Return pc target ∷ xs) ys = open_if (eqb target place) (open_after places (xs ++ ys)) (open_after places xs) ys (open_append places xs ys)
open_append [] (Made at exponent ∷ xs) ys = open_append [] xs ys
open_append (place ∷ places) (Made at exponent ∷ xs) ys = open_append (place ∷ places) xs ys
open_append [] (Ended at exponent ∷ xs) ys = open_append [] xs ys
open_append (place ∷ places) (Ended at exponent ∷ xs) ys = open_append (place ∷ places) xs ys
open_append [] (Line line ∷ xs) ys = open_append [] xs ys
open_append (place ∷ places) (Line line ∷ xs) ys = open_append (place ∷ places) xs ys

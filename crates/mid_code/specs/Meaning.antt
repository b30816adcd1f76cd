-- The meaning of mid code. Its steps do what the operations on the world do that the meaning of C does.
use Rattle.std.specs.Prelude.{◌==◌, ℕ, zero, suc, ◌+◌, ◌-◌, ◌*◌, ◌%◌, ◌^◌, Bool, true, false, ◌&&◌}
use Rattle.std.specs.Prelude.{nat_lt, if◌then◌else◌, List, map, Option, Some, None, ℤ, pos, negsuc, ◌+ℤ◌}
use Rattle.bb_words.specs.Answers.{Answer, Goes, Ends, and_then, either}
use Rattle.bb_words.specs.Steps.{arith, divided}
use Rattle.block_layout.specs.Layout.{Placed, position_of}
use Rattle.source_meaning.specs.declared.values.Pointer.TheVariants.{Null, To}
use Rattle.source_meaning.specs.declared.values.Value.{Value}
use Rattle.source_meaning.specs.declared.values.Value.TheVariants.{Num, Ptr}
use Rattle.source_meaning.specs.declared.values.Ending.{Ending}
use Rattle.source_meaning.specs.declared.values.Ending.TheVariants.{Cut}
use Rattle.source_meaning.specs.Objects.{Object}
use Rattle.source_meaning.specs.Worlds.{World, Does, Line, noted, with_number, with_pointer, object_at}
use Rattle.source_meaning.specs.Moves.{move, distance}
use Rattle.source_meaning.specs.Accesses.{load, store}
use Rattle.source_meaning.specs.Comparisons.{same, ordered, elements_between, truth}
use Rattle.source_meaning.specs.Copies.{copy, clear, initialize}
use Rattle.source_meaning.specs.Accounts.{library}
use Rattle.source_meaning.specs.Numbers.{unless_zero}
use Rattle.mid_code.specs.declared.code.MidObject.{MidObject}
use Rattle.mid_code.specs.declared.code.MidObject.TheVariants as object
use Rattle.mid_code.specs.Code.{Step, Number, NullPtr, Same, Arith, Divide, Named, Move, MoveBy, Load, Store, Clear, Init, CopyBytes}
use Rattle.mid_code.specs.Code.{PtrSame, PtrOrder, PtrDiff, Call, Library, If, Block, Loop, Exit, Return, LineMark, Steps, stop, step}
use Rattle.mid_code.specs.Times.{charge, turn_charge, byte_charge}

-- How a run of mid code ends: as the meaning of C has it, or because a move that is watched left its object.
pub data MidEnding : Type 0 where
  Came : Ending → MidEnding
  Strayed : MidEnding

-- the world, the values of the running call, and how many instructions were counted
pub record Point : Type 0 where
  pub world : World
  pub values : ℕ → Value
  pub time : ℕ

abbrev pub Goings : Type 0 → Type 0
Goings A = Answer MidEnding Point A

-- how steps leave: at their end, out of so many Blocks and Loops, or out of the function with a value
pub data Way : Type 0 where
  On : Way
  Out : (levels : ℕ) → Way
  Back : Value → Way

abbrev pub spend : ℕ → Point → Point
spend n v = record v { time = v.time + n }

abbrev pub with_value : (ℕ → Value) → ℕ → Value → ℕ → Value
with_value f i x j = if j == i then x else f j

abbrev pub set : ℕ → Value → Point → Point
set i x v = record v { values = with_value v.values i x }

-- an operation on the world, with the time of the bytes that it counted
abbrev pub at_world : World → Point → Point
at_world w v = record { world = w; values = v.values; time = v.time + byte_charge * (w.bytes - v.world.bytes) }

abbrev pub done_at : {A : Type 0} → Point → Does A → Goings A
done_at v (Goes a w) = Goes a (at_world w v)
done_at v (Ends e w) = Ends (Came e) (at_world w v)

abbrev pub doing : {A : Type 0} → (World → Does A) → Point → Goings A
doing f v = done_at v (f v.world)

-- one whose answer a value gets
abbrev pub setting : ℕ → (World → Does Value) → Point → Goings Way
setting to f v = and_then (doing f v) (λ x u. Goes On (set to x u))

-- one that is done for its effect
abbrev pub going : (World → Does Unit) → Point → Goings Way
going f v = and_then (doing f v) (λ done. Goes On)

-- ---- Operations on values

abbrev pub on_words : (ℕ → ℕ → World → Does Value) → Value → Value → World → Does Value
on_words f x y w = with_number x (λ a. with_number y (f a)) w

abbrev pub move_by : (g site line : ℕ) → ℤ → Value → World → Does Value
move_by g site line d x w = with_pointer x (λ q w1. and_then (move g site line d q w1) (λ r. Goes (Ptr r))) w

abbrev pub move_elements : (g site line scale : ℕ) → (down : Bool) → Value → Value → World → Does Value
move_elements g site line scale down x y w = with_number y (λ n. move_by g site line (distance down scale n) x) w

abbrev pub site_in : Option ℕ → ℕ
site_in None = 0
site_in (Some site) = site

-- ---- Watching moves

-- What is watched: for a site the object in which its moves are to stay, if it is to be watched.
abbrev pub Watch : Type 0
Watch = (site : ℕ) → Option MidObject

-- nothing is watched
abbrev pub unwatched : Watch
unwatched site = None

-- where the objects that have names are, in the running call: the layout of the globals, the layout of the call's block
-- locals, and the number of the first of these
pub record Names : Type 0 where
  pub globals : List Placed
  pub locals : List Placed
  pub first : ℕ

-- the number of an object that has a name
abbrev pub object_number : Names → MidObject → ℕ
object_number names (object.Global k) = position_of k names.globals
object_number names (object.Local j) = names.first + position_of j names.locals

abbrev pub is_within_length : Option Object → ℤ → Bool
is_within_length None z = false
is_within_length (Some o) (pos i) = nat_lt i o.length
is_within_length (Some o) (negsuc i) = false

-- whether a move of a pointer begins and ends in the bytes of the object of this number
abbrev pub stays_in : (k : ℕ) → Value → ℤ → World → Bool
stays_in k (Num n) d w = false
stays_in k (Ptr Null) d w = false
stays_in k (Ptr (To j z)) d w = (j == k) && is_within_length (object_at w k) (z +ℤ d)

abbrev pub keeps : Names → Option MidObject → Value → ℤ → World → Bool
keeps names None x d w = true
keeps names (Some o) x d w = stays_in (object_number names o) x d w

-- a move ends the run where it is watched and leaves its object
abbrev pub watched : Bool → Goings Way → Point → Goings Way
watched true r v = r
watched false r v = Ends Strayed v

abbrev pub distance_of : (scale : ℕ) → (down : Bool) → Value → ℤ
distance_of scale down (Num n) = distance down scale n
distance_of scale down (Ptr q) = pos 0

-- ---- Control

abbrev pub after : Way → (Point → Goings Way) → Point → Goings Way
after On go v = go v
after (Out n) go v = Goes (Out n) v
after (Back x) go v = Goes (Back x) v

-- out of one Block or Loop
abbrev pub out_of_one : Way → Way
out_of_one On = On
out_of_one (Out zero) = On
out_of_one (Out (suc zero)) = On
out_of_one (Out (suc (suc n))) = Out (suc n)
out_of_one (Back x) = Back x

-- after a turn of a Loop
abbrev pub again : Way → (Point → Goings Way) → Point → Goings Way
again On go v = go v
again (Out n) go v = Goes (out_of_one (Out n)) v
again (Back x) go v = Goes (Back x) v

-- at most n turns; where more are needed, the run is cut at the beginning of the next one
abbrev pub rounds : ℕ → (Point → Goings Way) → Point → Goings Way
rounds zero body v = Ends (Came Cut) v
rounds (suc n) body v = and_then (body (spend turn_charge v)) (λ way. again way (rounds n body))

-- how a call of function f with these arguments answers
abbrev pub Calls : Type 0
Calls = (f : ℕ) → List Value → Point → Goings Value

-- In slots of 2 ^ g bytes, with what is watched, where each run of a Loop has at most m turns, in a call with these names.
module _ (g : ℕ) (watch : Watch) (call : Calls) (m : ℕ) (names : Names) where
  abbrev mutual
    -- what a step does, once its charge is spent
    pub act : Step → Point → Goings Way
    act (Number to n) v = Goes On (set to (Num (n % 2 ^ 32)) v)
    act (NullPtr to) v = Goes On (set to (Ptr Null) v)
    act (Same to from) v = Goes On (set to (v.values from) v)
    act (Arith to o a b) v = setting to (on_words (λ x y. Goes (Num (arith o x y))) (v.values a) (v.values b)) v
    act (Divide to o a b line) v = setting to (on_words (λ x y. unless_zero line y (divided o x y)) (v.values a) (v.values b)) v
    act (Named to o) v = Goes On (set to (Ptr (To (object_number names o) (pos 0))) v)
    act (Move site to from by scale down line) v =
        watched (keeps names (watch site) (v.values from) (distance_of scale down (v.values by)) v.world)
        (setting to (move_elements g site line scale down (v.values from) (v.values by)) v) v
    act (MoveBy site to from d line) v =
        watched (keeps names (watch site) (v.values from) d v.world) (setting to (move_by g site line d (v.values from)) v) v
    act (Load to at width line) v = setting to (with_pointer (v.values at) (load width)) v
    act (Store at from width) v = going (with_pointer (v.values at) (λ q. store width q (v.values from))) v
    act (Clear o) v = going (clear (object_number names o)) v
    act (Init o offset from width) v = going (initialize (object_number names o) offset width (v.values from)) v
    act (CopyBytes site_from site_to from to n line) v =
        going (with_pointer (v.values to) (λ q. with_pointer (v.values from) (λ r. copy g site_from site_to line n q r))) v
    act (PtrSame to a b) v = setting to (same (v.values a) (v.values b)) v
    act (PtrOrder to o a b) v = setting to (ordered o (v.values a) (v.values b)) v
    act (PtrDiff to a b size) v = setting to (elements_between size (v.values a) (v.values b)) v
    act (Call to f args) v = and_then (call f (map v.values args) v) (λ x u. Goes On (set to x u))
    act (Library to which args line a b) v = setting to (library g which (site_in a) (site_in b) line (map v.values args)) v
    act (If cond xs ys) v = and_then (doing (truth (v.values cond)) v) (λ holds. either holds (acts xs) (acts ys))
    act (Block body) v = and_then (acts body v) (λ way. Goes (out_of_one way))
    act (Loop body) v = rounds m (acts body) v
    act (Exit n) v = Goes (Out n) v
    act (Return from) v = Goes (Back (v.values from)) v
    act (LineMark line) v = Goes On (record v { world = noted (Line line) v.world })

    pub acts : Steps → Point → Goings Way
    acts stop v = Goes On v
    acts (step x xs) v = and_then (act x (spend (charge x) v)) (λ way. after way (acts xs))

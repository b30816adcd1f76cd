-- A watched run strays, or is the run.
use Rattle.std.proofs.Common.{◌≡◌, ◌⊎◌, inl, inr, ℕ, zero, suc, Bool, true, false, List, [], map, Option, Some, None, refl, sym, ap, subst}
use Rattle.std.specs.Prelude.{slice_get}
use Rattle.bb_words.specs.Answers.{Goes, Ends, and_then, either}
use Rattle.source_meaning.specs.declared.values.Value.{Value}
use Rattle.source_meaning.specs.Accounts.{enter}
use Rattle.source_meaning.specs.Comparisons.{truth}
use Rattle.mid_code.specs.Code.{Step, Number, NullPtr, Same, Arith, Divide, Named, Move, MoveBy, Load, Store, Clear, Init, CopyBytes, PtrSame, PtrOrder, PtrDiff, Call, Library, If, Block, Loop, Exit, Return, LineMark, Steps, stop, step, Function, Program}
use Rattle.mid_code.specs.Times.{charge, turn_charge, call_charge}
use Rattle.mid_code.specs.Meaning.{Point, Goings, Way, On, Out, Back, spend, set, doing, setting, move_by, move_elements, distance_of, keeps, watched, after, again, out_of_one, rounds, Watch, unwatched, Names, Calls, act, acts}
use Rattle.mid_code.specs.Runs.{call_if_any, calls, names_in, parameters, handed, return_to, exit_with, first_point}
use Rattle.mid_code.specs.Laws.{Strays, WatchedStraysOrRuns}

-- one run strays, or is the other
abbrev IsOr : {A : Type 0} → Goings A → Goings A → Type 0
IsOr r q = Strays r ⊎ (r ≡ q)

after_straying : {A B : Type 0} (r : Goings A) (f : A → Point → Goings B) → Strays r → Strays (and_then r f)
unfolding and_then
after_straying r f (v, is) = (v, ap (λ x. and_then x f) is)

going_on : {A B : Type 0} (q : Goings A) (f h : A → Point → Goings B) → ((a : A) (v : Point) → IsOr (f a v) (h a v)) → IsOr (and_then q f) (and_then q h)
unfolding and_then
going_on (Goes a v) f h next = next a v
going_on (Ends e v) f h next = inr refl

or_then : {A B : Type 0} (r q : Goings A) (f h : A → Point → Goings B) → IsOr r q → ((a : A) (v : Point) → IsOr (f a v) (h a v)) → IsOr (and_then r f) (and_then q h)
or_then r q f h (inl s) next = inl (after_straying r f s)
or_then r q f h (inr same) next = subst (λ x. IsOr (and_then x f) (and_then q h)) (sym same) (going_on q f h next)

guarded : (b : Bool) (r : Goings Way) (v : Point) → IsOr (watched b r v) r
guarded true r v = inr refl
guarded false r v = inl (v, refl)

chosen : (b : Bool) (f h k l : Point → Goings Way) → ((v : Point) → IsOr (f v) (k v)) → ((v : Point) → IsOr (h v) (l v)) → (v : Point) → IsOr (either b f h v) (either b k l v)
chosen true f h k l left right v = left v
chosen false f h k l left right v = right v

afterwards : (way : Way) (f h : Point → Goings Way) → ((v : Point) → IsOr (f v) (h v)) → (v : Point) → IsOr (after way f v) (after way h v)
afterwards On f h next v = next v
afterwards (Out n) f h next v = inr refl
afterwards (Back x) f h next v = inr refl

once_more : (way : Way) (f h : Point → Goings Way) → ((v : Point) → IsOr (f v) (h v)) → (v : Point) → IsOr (again way f v) (again way h v)
once_more On f h next v = next v
once_more (Out n) f h next v = inr refl
once_more (Back x) f h next v = inr refl

turn_by_turn : (n : ℕ) (f h : Point → Goings Way) → ((v : Point) → IsOr (f v) (h v)) → (v : Point) → IsOr (rounds n f v) (rounds n h v)
turn_by_turn zero f h turn v = inr refl
turn_by_turn (suc n) f h turn v =
    or_then (f (spend turn_charge v)) (h (spend turn_charge v)) (λ way. again way (rounds n f)) (λ way. again way (rounds n h)) (turn (spend turn_charge v))
    (λ way. once_more way (rounds n f) (rounds n h) (turn_by_turn n f h turn))

module _ (g : ℕ) (watch : Watch) (call other : Calls) (called : (f : ℕ) (xs : List Value) (v : Point) → IsOr (call f xs v) (other f xs v)) (m : ℕ) (names : Names) where
  mutual
    step_is : (x : Step) (v : Point) → IsOr (act g watch call m names x v) (act g unwatched other m names x v)
    step_is (Number to n) v = inr refl
    step_is (NullPtr to) v = inr refl
    step_is (Same to from) v = inr refl
    step_is (Arith to o a b) v = inr refl
    step_is (Divide to o a b line) v = inr refl
    step_is (Named to o) v = inr refl
    step_is (Move site to from by scale down line) v =
        guarded (keeps names (watch site) (v.values from) (distance_of scale down (v.values by)) v.world)
        (setting to (move_elements g site line scale down (v.values from) (v.values by)) v) v
    step_is (MoveBy site to from d line) v =
        guarded (keeps names (watch site) (v.values from) d v.world) (setting to (move_by g site line d (v.values from)) v) v
    step_is (Load to at w line) v = inr refl
    step_is (Store at from w) v = inr refl
    step_is (Clear o) v = inr refl
    step_is (Init o offset from w) v = inr refl
    step_is (CopyBytes a b from to n line) v = inr refl
    step_is (PtrSame to a b) v = inr refl
    step_is (PtrOrder to o a b) v = inr refl
    step_is (PtrDiff to a b size) v = inr refl
    step_is (Call to f args) v =
        or_then (call f (map v.values args) v) (other f (map v.values args) v) (λ x u. Goes On (set to x u)) (λ x u. Goes On (set to x u))
        (called f (map v.values args) v) (λ x u. inr refl)
    step_is (Library to which args line a b) v = inr refl
    step_is (If cond xs ys) v =
        going_on (doing (truth (v.values cond)) v)
        (λ holds. either holds (acts g watch call m names xs) (acts g watch call m names ys))
        (λ holds. either holds (acts g unwatched other m names xs) (acts g unwatched other m names ys))
        (λ holds. chosen holds (acts g watch call m names xs) (acts g watch call m names ys) (acts g unwatched other m names xs) (acts g unwatched other m names ys)
        (steps_are xs) (steps_are ys))
    step_is (Block body) v =
        or_then (acts g watch call m names body v) (acts g unwatched other m names body v) (λ way. Goes (out_of_one way)) (λ way. Goes (out_of_one way))
        (steps_are body v) (λ way u. inr refl)
    step_is (Loop body) v = turn_by_turn m (acts g watch call m names body) (acts g unwatched other m names body) (steps_are body) v
    step_is (Exit n) v = inr refl
    step_is (Return from) v = inr refl
    step_is (LineMark line) v = inr refl

    steps_are : (xs : Steps) (v : Point) → IsOr (acts g watch call m names xs v) (acts g unwatched other m names xs v)
    steps_are stop v = inr refl
    steps_are (step x xs) v =
        or_then (act g watch call m names x (spend (charge x) v)) (act g unwatched other m names x (spend (charge x) v))
        (λ way. after way (acts g watch call m names xs)) (λ way. after way (acts g unwatched other m names xs))
        (step_is x (spend (charge x) v)) (λ way. afterwards way (acts g watch call m names xs) (acts g unwatched other m names xs) (steps_are xs))

-- the rest of a call, once its frame is entered
abbrev within : Function → (Function → Point → Point → Goings Way) → List Value → Point → Unit {0} → Point → Goings Value
within h body xs v entered u = and_then (body h v (record u { values = parameters xs })) (λ way t. Goes (handed way) (return_to h v t))

called_if_any : (g : ℕ) (f : Option Function) (body other : Function → Point → Point → Goings Way) (xs : List Value) (v : Point)
    → ((h : Function) (caller u : Point) → IsOr (body h caller u) (other h caller u)) → IsOr (call_if_any g f body xs v) (call_if_any g f other xs v)
called_if_any g None body other xs v same = inr refl
called_if_any g (Some h) body other xs v same =
    going_on (doing (enter g h.line h.blocks) (spend (call_charge h) v)) (within h body xs v) (within h other xs v)
    (λ entered u. or_then (body h v (record u { values = parameters xs })) (other h v (record u { values = parameters xs }))
    (λ way t. Goes (handed way) (return_to h v t)) (λ way t. Goes (handed way) (return_to h v t))
    (same h v (record u { values = parameters xs })) (λ way t. inr refl))

all_calls : (g : ℕ) (watch : Watch) (p : Program) (m n : ℕ) (f : ℕ) (xs : List Value) (v : Point) → IsOr (calls g watch p m n f xs v) (calls g unwatched p m n f xs v)
all_calls g watch p m zero f xs v = inr refl
all_calls g watch p m (suc n) f xs v =
    called_if_any g (slice_get p.functions f)
    (λ h caller. acts g watch (calls g watch p m n) m (names_in g p h caller) h.body)
    (λ h caller. acts g unwatched (calls g unwatched p m n) m (names_in g p h caller) h.body) xs v
    (λ h caller u. steps_are g watch (calls g watch p m n) (calls g unwatched p m n) (all_calls g watch p m n) m (names_in g p h caller) h.body u)

pub watched_strays_or_runs : WatchedStraysOrRuns
watched_strays_or_runs g watch p input m =
    or_then (calls g watch p m m p.main [] (first_point g p input)) (calls g unwatched p m m p.main [] (first_point g p input)) exit_with exit_with
    (all_calls g watch p m m p.main [] (first_point g p input)) (λ x v. inr refl)

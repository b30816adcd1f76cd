-- The kinds of values, and what a state and an answer of a typed function hold of them. Of memory nothing is said: what is
-- read there is checked as it is read.
use Rattle.std.specs.Prelude.{◌≡◌, ℕ, Bool, true, false, ◌||◌, IsTrue, List, [], ◌∷◌, Some, slice_get}
use Rattle.bb_words.specs.Answers.{Goes, Ends}
use Rattle.typed_tree.specs.Types.{CType, IsNumber, IsPointer}
use Rattle.typed_tree.specs.TypedTree.{CExpr, CLocal, CFunction, CProgram, type_of}
use Rattle.typed_tree.specs.TypedOperands.{is_place, has_object}
use Rattle.typed_tree.specs.TypedRules.{prototype_of}
use Rattle.typed_tree.specs.Walk.{Sum, some_expr}
use Rattle.typed_tree.specs.Typed.{is_local, refers_to}
use Rattle.source_meaning.specs.declared.values.Value.{Value}
use Rattle.source_meaning.specs.declared.values.Value.TheVariants.{Num, Ptr}
use Rattle.source_meaning.specs.declared.values.Slot.{Slot}
use Rattle.source_meaning.specs.declared.values.Slot.TheVariants.{Kept, Lies}
use Rattle.source_meaning.specs.declared.values.Place.{Place}
use Rattle.source_meaning.specs.declared.values.Place.TheVariants.{Variable, Memory}
use Rattle.source_meaning.specs.declared.values.Held.{Held}
use Rattle.source_meaning.specs.declared.values.Held.TheVariants.{Of, At}
use Rattle.source_meaning.specs.declared.values.Want.{Want}
use Rattle.source_meaning.specs.declared.values.Want.TheVariants.{ItsValue, ItsPlace}
use Rattle.source_meaning.specs.declared.values.Signal.{Signal}
use Rattle.source_meaning.specs.declared.values.Signal.TheVariants.{Falls, Broke, Continued, Gave}
use Rattle.source_meaning.specs.declared.values.OutsideCause.TheVariants.{Dead, Padding, Forged, Parts, Across, Kind}
use Rattle.source_meaning.specs.declared.values.Ending.{Ending}
use Rattle.source_meaning.specs.declared.values.Ending.TheVariants.{Exited, Reported, Trapped, Outside, Cut}
use Rattle.source_meaning.specs.States.{State, Runs}
use Rattle.source_meaning.specs.Meaning.{Calls}

-- ---- Values

abbrev pub IsNum : Value → Type 0
IsNum (Num n) = Unit {0}
IsNum (Ptr q) = ⊥

abbrev pub IsPtr : Value → Type 0
IsPtr (Num n) = ⊥
IsPtr (Ptr q) = Unit {0}

-- A value of a number's type is a number, one of a pointer's type a pointer. Of other types nothing is asked.
pub record HasKind (t : CType) (v : Value) : Type 0 where
  pub number : IsNumber t → IsNum v
  pub pointer : IsPointer t → IsPtr v

-- values of these types' kinds, as many as the types
abbrev pub HaveKinds : List CType → List Value → Type 0
HaveKinds [] [] = Unit {0}
HaveKinds [] (v ∷ vs) = ⊥
HaveKinds (t ∷ ts) [] = ⊥
HaveKinds (t ∷ ts) (v ∷ vs) = HasKind t v × HaveKinds ts vs

-- ---- States

-- a local that lies in no object is kept with a value of its type's kind; one that lies in an object is a block
abbrev pub SlotFits : CLocal → Slot → Type 0
SlotFits l (Kept v) = (l.is_block ≡ false) × HasKind l.ty v
SlotFits l (Lies o) = l.is_block ≡ true

-- the slots of the running call are those of these locals
pub record Sound (ls : List CLocal) (c : State) : Type 0 where
  pub slots : (k : ℕ) (l : CLocal) → slice_get ls k ≡ Some l → SlotFits l (c.locals k)

-- ---- What parts of a run give

-- a place of a type: in memory, or a kept local of that type
abbrev pub PlaceFits : List CLocal → CType → Place → Type 0
PlaceFits ls t (Variable k) = (l : CLocal) × (slice_get ls k ≡ Some l) × (l.is_block ≡ false) × (l.ty ≡ t)
PlaceFits ls t (Memory q) = Unit {0}

-- a place that is a kept local is written as its name
abbrev pub IsNamed : CExpr → Place → Type 0
IsNamed e (Variable k) = is_place e ≡ true → is_local k e ≡ true
IsNamed e (Memory q) = Unit {0}

abbrev pub IsHeld : List CLocal → Want → CExpr → Held → Type 0
IsHeld ls ItsValue e (Of v) = HasKind (type_of e) v
IsHeld ls ItsValue e (At q) = ⊥
IsHeld ls ItsPlace e (Of v) = ⊥
IsHeld ls ItsPlace e (At q) = PlaceFits ls (type_of e) q × IsNamed e q

-- an expression gives its value, of its type's kind, or its place, as is wanted
pub record HeldFits (ls : List CLocal) (want : Want) (e : CExpr) (x : Held) : Type 0 where
  pub is : IsHeld ls want e x

-- a place is wanted only of what names an object
abbrev pub MayWant : Want → CExpr → Type 0
MayWant ItsValue e = Unit {0}
MayWant ItsPlace e = IsTrue (has_object e)

-- a statement leaves with a value of this type's kind, if with any
abbrev pub SignalFits : CType → Signal → Type 0
SignalFits t Falls = Unit {0}
SignalFits t Broke = Unit {0}
SignalFits t Continued = Unit {0}
SignalFits t (Gave v) = HasKind t v

-- an end of a run that is not for a value of the wrong kind
abbrev pub NotKind : Ending → Type 0
NotKind (Exited n) = Unit {0}
NotKind (Reported kind line) = Unit {0}
NotKind (Trapped kind) = Unit {0}
NotKind (Outside Dead) = Unit {0}
NotKind (Outside Padding) = Unit {0}
NotKind (Outside Forged) = Unit {0}
NotKind (Outside Parts) = Unit {0}
NotKind (Outside Across) = Unit {0}
NotKind (Outside Kind) = ⊥
NotKind Cut = Unit {0}

abbrev pub IsAnswer : {A : Type 0} → List CLocal → (A → Type 0) → Runs A → Type 0
IsAnswer ls P (Goes a c) = P a × Sound ls c
IsAnswer ls P (Ends e c) = NotKind e

-- A part of a run goes on with something of which P holds, and with the slots of these locals, or it ends, and not for a
-- value of the wrong kind.
pub record KeepsKinds {A : Type 0} (ls : List CLocal) (P : A → Type 0) (r : Runs A) : Type 0 where
  pub is : IsAnswer ls P r

-- ---- What is asked of a function

-- Every call of a function of the program with arguments of its parameters' kinds gives a value of its result's kind, and
-- the slots are again those of the caller's locals.
abbrev pub CallsKeepKinds : CProgram → Calls → Type 0
CallsKeepKinds p call =
    (i : ℕ) (f : CFunction) → slice_get p.functions i ≡ Some f → (vs : List Value) → HaveKinds (prototype_of f).params vs →
    (ls : List CLocal) (c : State) → Sound ls c → KeepsKinds ls (HasKind f.result) (call i vs c)

-- a test that holds of no local that lies in no object
pub record Never (ls : List CLocal) (test : ℕ → Bool) : Type 0 where
  pub none : (k : ℕ) (l : CLocal) → slice_get ls k ≡ Some l → l.is_block ≡ false → test k ≡ false

-- whether `&` is applied to local k in the parts of a statement
abbrev pub refers : ℕ → Sum Bool
refers k = record {
  nothing = false;
  both = λ a b. a || b;
  expr = some_expr (refers_to k);
  initial = λ i. false;
  declaration = λ d. false;
  statement = λ s. false;
}

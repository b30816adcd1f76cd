-- What follows from the meaning for all programs: what is told only grows, and objects stay what they are; with more turns a
-- run that was not cut is the same, and one that was cut goes on from where it was.
use Rattle.std.specs.Prelude.{◌≡◌, ℕ, ◌≤◌, false, List, [], ◌∷◌, ◌++◌, ℤ}
use Rattle.bb_words.specs.Answers.{Answer, Goes, Ends}
use Rattle.bb_words.specs.declared.steps.Width.{Width}
use Rattle.bb_words.specs.declared.steps.OrderOp.{OrderOp}
use Rattle.block_layout.specs.Layout.{Item}
use Rattle.typed_tree.specs.declared.typed_expr.LibCall.{LibCall}
use Rattle.typed_tree.specs.TypedTree.{CExpr, CStmt, CLocal, CProgram}
use Rattle.source_meaning.specs.declared.values.Want.{Want}
use Rattle.source_meaning.specs.declared.values.Pointer.{Pointer}
use Rattle.source_meaning.specs.declared.values.Value.{Value}
use Rattle.source_meaning.specs.declared.values.Ending.{Ending}
use Rattle.source_meaning.specs.declared.values.Ending.TheVariants.{Exited, Reported, Trapped, Outside, Cut}
use Rattle.source_meaning.specs.Objects.{Object}
use Rattle.source_meaning.specs.Worlds.{World, Does}
use Rattle.source_meaning.specs.Moves.{move}
use Rattle.source_meaning.specs.Accesses.{load, store}
use Rattle.source_meaning.specs.Comparisons.{same, ordered, elements_between, truth}
use Rattle.source_meaning.specs.Copies.{copy, clear, initialize}
use Rattle.source_meaning.specs.Accounts.{enter, leave, library}
use Rattle.source_meaning.specs.States.{State}
use Rattle.source_meaning.specs.Meaning.{Calls, run, execute}
use Rattle.source_meaning.specs.Runs.{Outcome, calls, first_world, outcome}

-- a list begins with another one
pub record Begins {A : Type 0} (xs ys : List A) : Type 0 where
  pub more : List A
  pub all : ys ≡ xs ++ more

-- An object stays what it is; one that has ended never lives again.
pub record IsSame (o p : Object) : Type 0 where
  pub kind : p.kind ≡ o.kind
  pub length : p.length ≡ o.length
  pub base : p.base ≡ o.base
  pub exponent : p.exponent ≡ o.exponent
  pub ended : o.live ≡ false → p.live ≡ false

-- objects are still there, and others may have come after them
abbrev pub Stay : List Object → List Object → Type 0
Stay [] ps = Unit {0}
Stay (o ∷ os) [] = ⊥
Stay (o ∷ os) (p ∷ ps) = IsSame o p × Stay os ps

-- One world comes later than another in a run: it has written and left behind at least as much, has read of the input at
-- least as much, and has the same objects and maybe more.
pub record Follows (w v : World) : Type 0 where
  pub output : Begins w.output v.output
  pub trail : Begins w.trail v.trail
  pub taken : List ℕ
  pub input : w.rest ≡ taken ++ v.rest
  pub objects : Stay w.objects v.objects

-- where a part of a run comes to
abbrev pub reached : {E S A : Type 0} → Answer E S A → S
reached (Goes a s) = s
reached (Ends e s) = s

-- an operation on the world leads to a later one
abbrev pub Grows : {A : Type 0} → (World → Does A) → Type 0
Grows f = (w : World) → Follows w (reached (f w))

-- All operations that programs and their codes share do.
pub record OperationsGrow : Type 0 where
  pub moves : (g site line : ℕ) (d : ℤ) (q : Pointer) → Grows (move g site line d q)
  pub loads : (width : Width) (q : Pointer) → Grows (load width q)
  pub stores : (width : Width) (q : Pointer) (v : Value) → Grows (store width q v)
  pub equality : (v x : Value) → Grows (same v x)
  pub order : (o : OrderOp) (v x : Value) → Grows (ordered o v x)
  pub differences : (size : ℕ) (v x : Value) → Grows (elements_between size v x)
  pub truths : (v : Value) → Grows (truth v)
  pub copies : (g site_source site_target line n : ℕ) (target source : Pointer) → Grows (copy g site_source site_target line n target source)
  pub clears : (k : ℕ) → Grows (clear k)
  pub initializers : (k i : ℕ) (width : Width) (v : Value) → Grows (initialize k i width v)
  pub libraries : (g : ℕ) (f : LibCall) (a b line : ℕ) (vs : List Value) → Grows (library g f a b line vs)
  pub entries : (g line : ℕ) (items : List Item) → Grows (enter g line items)
  pub returns : (items : List Item) (caller w : World) → Follows w (leave items caller w)

-- every call leads to a later world
abbrev pub CallsGrow : Calls → Type 0
CallsGrow call = (f : ℕ) (vs : List Value) (c : State) → Follows c.world (reached (call f vs c)).world

-- So does every expression and every statement, and the calls of a program do.
abbrev pub ExpressionsGrow : Type 0
ExpressionsGrow =
    (g : ℕ) (p : CProgram) (call : Calls) → CallsGrow call →
    (e : CExpr) (site : ℕ) (want : Want) (c : State) → Follows c.world (reached (run g p call e site want c)).world

abbrev pub StatementsGrow : Type 0
StatementsGrow =
    (g : ℕ) (p : CProgram) (call : Calls) (m : ℕ) (locals : List CLocal) → CallsGrow call →
    (x : CStmt) (site : ℕ) (c : State) → Follows c.world (reached (execute g p call m locals x site c)).world

abbrev pub ProgramsGrow : Type 0
ProgramsGrow = (g : ℕ) (p : CProgram) (m n : ℕ) → CallsGrow (calls g p m n)

-- and so does the whole run
abbrev pub RunsGrow : Type 0
RunsGrow = (g : ℕ) (p : CProgram) (input : List ℕ) (m : ℕ) → Follows (first_world g p input) (outcome g p input m).state.world

-- A run that ended in this way is the same with more turns; one that was cut goes on.
abbrev pub IsKeptBy : Ending → (shorter longer : Outcome) → Type 0
IsKeptBy (Exited n) a b = b ≡ a
IsKeptBy (Reported kind line) a b = b ≡ a
IsKeptBy (Trapped kind) a b = b ≡ a
IsKeptBy (Outside cause) a b = b ≡ a
IsKeptBy Cut a b = Follows a.state.world b.state.world

abbrev pub MoreTurnsKeep : Type 0
MoreTurnsKeep =
    (g : ℕ) (p : CProgram) (input : List ℕ) (m n : ℕ) → m ≤ n →
    IsKeptBy (outcome g p input m).ending (outcome g p input m) (outcome g p input n)

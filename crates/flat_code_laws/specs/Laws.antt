-- What holds of flat code.
use Rattle.std.specs.Prelude.{◌≡◌, ◌⊎◌, ◌↔◌, ℕ, ◌+◌, ◌-◌, ◌^◌, ◌<◌, ◌≤◌, List, ◌++◌, true, Some, None}
use Rattle.bb_words.specs.Answers.{Answer}
use Rattle.bb_words.specs.declared.kinds.ReportKind.TheVariants.{Bounds}
use Rattle.bb_words.specs.declared.kinds.TrapKind.{TrapKind}
use Rattle.bb_words.specs.declared.kinds.TrapKind.TheVariants as trap
use Rattle.bb_words.specs.declared.steps.Width.TheVariants.{Pointer}
use Rattle.marked_ptr.specs.Marked.{owner_slot, moved}
use Rattle.size_table.specs.Blocks.{Block}
use Rattle.size_table.specs.Table.{byte_of}
use Rattle.flat_code.specs.Code.{FSteps, FFunction, FCode, ◌+++◌}
use Rattle.flat_code.specs.Recognized.{Sequence, sequence_steps, is_apart, starts, sequence_at}
use Rattle.flat_code.specs.Told.{Tell, Stamped, tells, output_of, trail_of, Begins, AllBy}
use Rattle.flat_code.specs.Safety.{live_of, ever_of, AllSafe}
use Rattle.flat_code.specs.Time.{AreStraight, charges}
use Rattle.flat_code.specs.World.{Words, read, FWorld, FPoint, point, spend, Ending, Run, Way}
use Rattle.flat_code.specs.Run.{refusal, Calls, act_all, calls, flat_run}
use Rattle.flat_code.specs.Sequences.{move_sequence, MoveApart, DoesMove, move_time, load_sequence, LoadApart}
use Rattle.flat_code.specs.Sequences.{may_be_loaded, DoesLoad, span_sequence, SpanApart, span_begin, SpanKept, DoesSpan}

-- ---- What was told, in parts

abbrev pub TellsAppend : Type 0
TellsAppend = (xs ys : List Stamped) → tells (xs ++ ys) ≡ tells xs ++ tells ys

abbrev pub OutputAppends : Type 0
OutputAppends = (xs ys : List Tell) → output_of (xs ++ ys) ≡ output_of xs ++ output_of ys

abbrev pub TrailAppends : Type 0
TrailAppends = (xs ys : List Tell) → trail_of (xs ++ ys) ≡ trail_of xs ++ trail_of ys

abbrev pub LiveAppends : Type 0
LiveAppends = (live : List Block) (xs ys : List Tell) → live_of live (xs ++ ys) ≡ live_of (live_of live xs) ys

abbrev pub EverAppends : Type 0
EverAppends = (ever : List Block) (xs ys : List Tell) → ever_of ever (xs ++ ys) ≡ ever_of (ever_of ever xs) ys

-- two lists are safe one after the other exactly if the first is, and the second with the blocks after the first
abbrev pub SafeAppends : Type 0
SafeAppends = (g : ℕ) (live ever : List Block) (xs ys : List Tell) → AllSafe g live ever (xs ++ ys)
    ↔ (AllSafe g live ever xs × AllSafe g (live_of live xs) (ever_of ever xs) ys)

-- what came by a time came by every later one
abbrev pub AllByLater : Type 0
AllByLater = (a b : ℕ) (xs : List Stamped) → a ≤ b → AllBy a xs → AllBy b xs

abbrev pub AllByAppends : Type 0
AllByAppends = (t : ℕ) (xs ys : List Stamped) → AllBy t (xs ++ ys) ↔ (AllBy t xs × AllBy t ys)

-- of two fronts of one list one begins with the other
abbrev pub FrontsCompare : Type 0
FrontsCompare = (told xs ys : List Stamped) → Begins told xs → Begins told ys → Begins xs ys ⊎ Begins ys xs

-- what begins with a list also begins so in its output and its trail
abbrev pub OutputBegins : Type 0
OutputBegins = (xs ys : List Tell) → Begins xs ys → Begins (output_of xs) (output_of ys)

abbrev pub TrailBegins : Type 0
TrailBegins = (xs ys : List Tell) → Begins xs ys → Begins (trail_of xs) (trail_of ys)

abbrev pub TellsBegin : Type 0
TellsBegin = (xs ys : List Stamped) → Begins xs ys → Begins (tells xs) (tells ys)

-- ---- What a run leaves behind

-- where a run stands when it goes on or has ended
abbrev pub point_of : {A : Type 0} → Run A → FPoint
point_of (Answer.Goes a u) = u
point_of (Answer.Ends ending u) = u

-- A world comes after another: what was told stays told, the blocks that live are those of what was told since, time goes
-- on, bytes of the input were taken, and where everything told had come by the time, it still has.
pub record IsAfter (old new : FWorld) : Type 0 where
  pub told : Begins new.told old.told
  pub live : new.live ≡ live_of old.live (tells told.rest)
  pub later : old.time ≤ new.time
  pub by : AllBy old.time old.told → AllBy new.time new.told
  pub taken : List ℕ
  pub input : old.input ≡ taken ++ new.input

abbrev pub Advances : {A : Type 0} → FPoint → Run A → Type 0
Advances u r = IsAfter u.world (point_of r).world

abbrev pub CallsAdvance : Calls → Type 0
CallsAdvance call = (function : ℕ) (args : List ℕ) (u : FPoint) → Advances u (call function args u)

-- steps advance from any point, whatever advances in their calls
abbrev pub StepsAdvance : Type 0
StepsAdvance = (g : ℕ) (call : Calls) (m frame : ℕ) → CallsAdvance call → (xs : FSteps) (u : FPoint) → Advances u (act_all g call m frame xs u)

-- and so do the calls of a program
abbrev pub ProgramsAdvance : Type 0
ProgramsAdvance = (g : ℕ) (frames : List (List ℕ)) (m : ℕ) (functions : List FFunction) (n : ℕ) → CallsAdvance (calls g frames m functions n)

-- all that a run has told came by its time
abbrev pub AllCame : Type 0
AllCame = (g : ℕ) (code : FCode) (globals : List Block) (frames : List (List ℕ)) (input : List ℕ) (m : ℕ) →
    let w = (point_of (flat_run g code globals frames input m)).world in AllBy w.time w.told

-- code without loops and calls takes no longer than all its charges together
abbrev pub StraightTakes : Type 0
StraightTakes =
    (g : ℕ) (call : Calls) (m frame : ℕ) (xs : FSteps) → AreStraight xs → (u : FPoint)
    → (point_of (act_all g call m frame xs u)).world.time ≤ u.world.time + charges xs

-- ---- More turns and calls

-- One run extends to another: they are the same; or the first is cut, and the second comes after the point at which it is.
abbrev pub Extends : {A : Type 0} → (r more : Run A) → Type 0
Extends r more = (r ≡ more) ⊎ ((cut : FPoint) × (r ≡ Answer.Ends Ending.Cut cut) × IsAfter cut.world (point_of more).world)

-- With more turns for its loops and more nested calls a run that has ended is the same, and one that is cut goes on.
abbrev pub MoreTurnsExtend : Type 0
MoreTurnsExtend =
    (g : ℕ) (code : FCode) (globals : List Block) (frames : List (List ℕ)) (input : List ℕ) (m n : ℕ) → m ≤ n
    → Extends (flat_run g code globals frames input m) (flat_run g code globals frames input n)

-- ---- Traps

-- the traps of an access: in the null page, by a marked word, or at no multiple of its size
abbrev pub IsOfAccess : TrapKind → Type 0
IsOfAccess trap.Null = Unit {0}
IsOfAccess trap.Marked = Unit {0}
IsOfAccess trap.Misaligned = Unit {0}
IsOfAccess kind = ⊥

abbrev pub TrapsOfAccess : {A : Type 0} → Run A → Type 0
TrapsOfAccess (Answer.Goes a u) = Unit {0}
TrapsOfAccess (Answer.Ends (Ending.Trapped kind) u) = IsOfAccess kind
TrapsOfAccess (Answer.Ends ending u) = Unit {0}

-- flat code traps only at an access
abbrev pub TrapsAreOfAccesses : Type 0
TrapsAreOfAccesses = (g : ℕ) (code : FCode) (globals : List Block) (frames : List (List ℕ)) (input : List ℕ) (m : ℕ)
    → TrapsOfAccess (flat_run g code globals frames input m)

-- ---- Sequences

-- A move sequence does what the move of the words answers, by the table's byte at the slot that owns the pointer.
abbrev pub MoveSequenceMoves : Type 0
MoveSequenceMoves =
    (g : ℕ) → 1 ≤ g → g ≤ 24 → (call : Calls) (m frame p d q line s e : ℕ) → MoveApart p d q line s e → (u : FPoint) (slot : ℕ)
    → owner_slot g (u.words p) ≡ Some slot → slot < 2 ^ (25 - g) → byte_of g u.world.live slot ≤ 24
    → DoesMove move_time (moved g (u.words p) (u.words d) (byte_of g u.world.live slot)) p q line s e u
    (act_all g call m frame (move_sequence g p d q line s e) u)

-- A load sequence loads a word that is null or belongs to a block, and reports any other.
abbrev pub LoadSequenceLoads : Type 0
LoadSequenceLoads =
    (g : ℕ) → 1 ≤ g → (call : Calls) (m frame w at line s e : ℕ) → LoadApart w line s e → (u : FPoint) → refusal (u.words at) 4 ≡ None
    → DoesLoad (may_be_loaded g u.world.live (read Pointer u.world.memory (u.words at))) w at line s e u
    (act_all g call m frame (load_sequence g w at line s e) u)

-- A load sequence whose access ends the run ends it so.
abbrev pub LoadSequenceStops : Type 0
LoadSequenceStops =
    (g : ℕ) (call : Calls) (m frame w at line s e : ℕ) (u : FPoint) (ending : Ending) → refusal (u.words at) 4 ≡ Some ending
    → act_all g call m frame (load_sequence g w at line s e) u ≡ Answer.Ends ending (point u.words (spend 3 u.world))

-- A span sequence of n bytes, by the tests that come one after another: n is 0; n is above 16 MiB; the access to the first
-- byte ends the run; or the pointer is moved by n - 1 to the last byte.
pub record Spans (g m frame : ℕ) (call : Calls) (p n q line d s e : ℕ) (u : FPoint) (r : Run Way) : Type 0 where
  pub nothing : u.words n ≡ 0 → (words : Words) × (r ≡ Answer.Goes Way.On (point words (spend span_begin u.world))) × SpanKept q d s e u.words words
  pub too_long : 0x0100_0000 < u.words n → (words : Words) × (r ≡ Answer.Ends (Ending.Reported Bounds (u.words line)) (point words (spend 18 u.world)))
  pub not_begun : (ending : Ending) → 1 ≤ u.words n → u.words n ≤ 0x0100_0000 → refusal (u.words p) 1 ≡ Some ending
      → (words : Words) × (r ≡ Answer.Ends ending (point words (spend 23 u.world)))
  pub begun : (slot : ℕ) → 1 ≤ u.words n → u.words n ≤ 0x0100_0000 → refusal (u.words p) 1 ≡ None
      → owner_slot g (u.words p) ≡ Some slot → slot < 2 ^ (25 - g) → byte_of g u.world.live slot ≤ 24
      → DoesSpan (moved g (u.words p) (u.words n - 1) (byte_of g u.world.live slot)) p q line d s e u r

abbrev pub SpanSequenceSpans : Type 0
SpanSequenceSpans =
    (g : ℕ) → 1 ≤ g → g ≤ 24 → (call : Calls) (m frame p n q line d s e : ℕ) → SpanApart p n q line d s e → (u : FPoint)
    → Spans g m frame call p n q line d s e u (act_all g call m frame (span_sequence g p n q line d s e) u)

-- ---- Sequences among other steps

-- A sequence whose values are apart is found where it stands, whatever comes after it.
abbrev pub SequencesAreFound : Type 0
SequencesAreFound = (g : ℕ) (sequence : Sequence) (rest : FSteps) → is_apart sequence ≡ true
    → sequence_at g (sequence_steps g sequence +++ rest) ≡ Some sequence

-- What is found begins the steps, and its values are apart.
abbrev pub FoundAreSequences : Type 0
FoundAreSequences = (g : ℕ) (a : FSteps) (sequence : Sequence) → sequence_at g a ≡ Some sequence → (starts (sequence_steps g sequence) a ≡ true)
    × (is_apart sequence ≡ true)

-- The state of the running call, and what may be done with an operand.
use Rattle.std.specs.Prelude.{◌==◌, ℕ, ◌+◌, if◌then◌else◌, Option, Some, None, pos}
use Rattle.bb_words.specs.Answers.{Answer, Goes, Ends, and_then}
use Rattle.bb_words.specs.declared.steps.Width.{Width}
use Rattle.bb_words.specs.declared.steps.Width.TheVariants as width
use Rattle.typed_tree.specs.Types.{CType}
use Rattle.source_meaning.specs.declared.values.Pointer.{Pointer}
use Rattle.source_meaning.specs.declared.values.Pointer.TheVariants.{To}
use Rattle.source_meaning.specs.declared.values.Value.{Value}
use Rattle.source_meaning.specs.declared.values.Value.TheVariants.{Num, Ptr}
use Rattle.source_meaning.specs.declared.values.Slot.{Slot}
use Rattle.source_meaning.specs.declared.values.Slot.TheVariants.{Kept, Lies}
use Rattle.source_meaning.specs.declared.values.Place.{Place}
use Rattle.source_meaning.specs.declared.values.Place.TheVariants.{Variable, Memory}
use Rattle.source_meaning.specs.declared.values.Held.{Held}
use Rattle.source_meaning.specs.declared.values.Held.TheVariants.{Of, At}
use Rattle.source_meaning.specs.declared.values.Want.{Want}
use Rattle.source_meaning.specs.declared.values.Want.TheVariants.{ItsValue, ItsPlace}
use Rattle.source_meaning.specs.declared.values.OutsideCause.TheVariants.{Kind}
use Rattle.source_meaning.specs.declared.values.Ending.{Ending}
use Rattle.source_meaning.specs.declared.values.Ending.TheVariants.{Outside}
use Rattle.source_meaning.specs.Worlds.{World, Does}
use Rattle.source_meaning.specs.Accesses.{load, store}

-- the world, the locals of the running call, and how many nodes were evaluated
pub record State : Type 0 where
  pub world : World
  pub locals : ℕ → Slot
  pub nodes : ℕ

abbrev pub Runs : Type 0 → Type 0
Runs A = Answer Ending State A

abbrev pub count : ℕ → State → State
count n c = record c { nodes = c.nodes + n }

-- a node is evaluated
abbrev pub tick : State → State
tick c = count 1 c

-- an operation on the world alone
abbrev pub done_in : {A : Type 0} → State → Does A → Runs A
done_in c (Goes a w) = Goes a (record c { world = w })
done_in c (Ends e w) = Ends e (record c { world = w })

abbrev pub doing : {A : Type 0} → (World → Does A) → State → Runs A
doing f c = done_in c (f c.world)

-- one that gives a value
abbrev pub giving : (World → Does Value) → State → Runs Held
giving f c = and_then (doing f c) (λ v. Goes (Of v))

-- a value of the wrong kind: no typed program comes here
abbrev pub senseless : {A : Type 0} → State → Runs A
senseless c = Ends (Outside Kind) c

-- ---- Operands

abbrev pub using_value : {A : Type 0} → Held → (Value → State → Runs A) → State → Runs A
using_value (Of v) f c = f v c
using_value (At q) f c = senseless c

abbrev pub using_number : {A : Type 0} → Held → (ℕ → State → Runs A) → State → Runs A
using_number (Of (Num n)) f c = f n c
using_number (Of (Ptr q)) f c = senseless c
using_number (At q) f c = senseless c

abbrev pub using_pointer : {A : Type 0} → Held → (Pointer → State → Runs A) → State → Runs A
using_pointer (Of (Num n)) f c = senseless c
using_pointer (Of (Ptr q)) f c = f q c
using_pointer (At q) f c = senseless c

abbrev pub using_place : {A : Type 0} → Held → (Place → State → Runs A) → State → Runs A
using_place (Of v) f c = senseless c
using_place (At q) f c = f q c

-- a place in memory, as the pointer to it
abbrev pub using_address : {A : Type 0} → Held → (Pointer → State → Runs A) → State → Runs A
using_address (Of v) f c = senseless c
using_address (At (Variable k)) f c = senseless c
using_address (At (Memory q)) f c = f q c

-- ---- Places

abbrev pub with_slot : (ℕ → Slot) → ℕ → Slot → ℕ → Slot
with_slot f k s j = if j == k then s else f j

-- where local k is
abbrev pub place_of_slot : ℕ → Slot → Place
place_of_slot k (Kept v) = Variable k
place_of_slot k (Lies o) = Memory (To o (pos 0))

abbrev pub local_place : ℕ → State → Place
local_place k c = place_of_slot k (c.locals k)

-- how a scalar type is accessed
abbrev pub width_of : CType → Option Width
width_of CType.Char = Some width.Byte
width_of CType.Int = Some width.Word
width_of CType.Unsigned = Some width.Word
width_of (CType.Pointer t) = Some width.Pointer
width_of CType.Void = None
width_of (CType.Struct k) = None
width_of (CType.Array t n) = None

-- what stands in memory, by its type: a scalar is read; an array or a struct is only found
abbrev pub read_memory : Option Width → Pointer → State → Runs Value
read_memory None q c = Goes (Ptr q) c
read_memory (Some width) q c = doing (load width q) c

abbrev pub read_slot : Slot → State → Runs Value
read_slot (Kept v) c = Goes v c
read_slot (Lies o) c = senseless c

-- 6.3.2.1 p2: the value that a place of a type holds
abbrev pub read : CType → Place → State → Runs Value
read t (Variable k) c = read_slot (c.locals k) c
read t (Memory q) c = read_memory (width_of t) q c

abbrev pub written_memory : Option Width → Pointer → Value → State → Runs Value
written_memory None q v c = senseless c
written_memory (Some width) q v c = and_then (doing (store width q v) c) (λ done. Goes v)

-- 6.5.16.1 p2: a place of a type gets a value
abbrev pub write : CType → Place → Value → State → Runs Value
write t (Variable k) v c = Goes v (record c { locals = with_slot c.locals k (Kept v) })
write t (Memory q) v c = written_memory (width_of t) q v c

-- a place that was found, as it is or for its value
abbrev pub finish : CType → Want → Place → State → Runs Held
finish t ItsPlace q c = Goes (At q) c
finish t ItsValue q c = and_then (read t q c) (λ v. Goes (Of v))

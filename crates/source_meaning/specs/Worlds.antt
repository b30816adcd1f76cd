-- What a run holds, and how its parts answer.
use Rattle.std.specs.Prelude.{ℕ, zero, suc, Bool, true, false, ◌&&◌, if◌then◌else◌, List, [], ◌∷◌, ◌++◌, length, Option, slice_get}
use Rattle.bb_words.specs.Answers.{Answer, Ends}
use Rattle.size_table.specs.Blocks.{Block, block_at}
use Rattle.source_meaning.specs.declared.values.Pointer.{Pointer}
use Rattle.source_meaning.specs.declared.values.Pointer.TheVariants.{Null, To}
use Rattle.source_meaning.specs.declared.values.Value.{Value}
use Rattle.source_meaning.specs.declared.values.Value.TheVariants.{Num, Ptr}
use Rattle.source_meaning.specs.declared.values.ObjectKind.{ObjectKind}
use Rattle.source_meaning.specs.declared.values.ObjectKind.TheVariants.{Global, Local, Heap}
use Rattle.source_meaning.specs.declared.values.OutsideCause.{OutsideCause}
use Rattle.source_meaning.specs.declared.values.OutsideCause.TheVariants.{Kind}
use Rattle.source_meaning.specs.declared.values.Ending.{Ending}
use Rattle.source_meaning.specs.declared.values.Ending.TheVariants.{Outside}
use Rattle.source_meaning.specs.Objects.{Object, Cells, cleared, lives_in, ended_in}

-- What a run leaves behind: the line of a statement that began, or a pointer move with its number, its operand and its
-- result.
pub data Mark : Type 0 where
  Line : (line : ℕ) → Mark
  Moved : (site : ℕ) → (from to : Pointer) → Mark

-- All that a run holds beside the locals of its calls: the objects with their cells; the rest of the input, and the
-- output; how many calls are live, and the stack number; what it left behind; and how many bytes were copied, set or
-- cleared by copies of structs, `memcpy`, `memset` and initializers.
pub record World : Type 0 where
  pub objects : List Object
  pub cells : Cells
  pub rest : List ℕ
  pub output : List ℕ
  pub depth : ℕ
  pub stack : ℕ
  pub trail : List Mark
  pub bytes : ℕ

-- how an operation on the world answers
abbrev pub Does : Type 0 → Type 0
Does A = Answer Ending World A

-- the run leaves its objects
abbrev pub outside : {A : Type 0} → OutsideCause → World → Does A
outside cause w = Ends (Outside cause) w

-- goes on with the number that a value is
abbrev pub with_number : {A : Type 0} → Value → (ℕ → World → Does A) → World → Does A
with_number (Num n) f w = f n w
with_number (Ptr q) f w = outside Kind w

-- goes on with the pointer that a value is
abbrev pub with_pointer : {A : Type 0} → Value → (Pointer → World → Does A) → World → Does A
with_pointer (Num n) f w = outside Kind w
with_pointer (Ptr q) f w = f q w

abbrev pub noted : Mark → World → World
noted mark w = record w { trail = w.trail ++ mark ∷ [] }

-- the object that a pointer to object k points into, if there is one
abbrev pub object_at : World → ℕ → Option Object
object_at w k = slice_get w.objects k

-- whether a pointer is null, or points to a live object
abbrev pub is_sound : World → Pointer → Bool
is_sound w Null = true
is_sound w (To k z) = lives_in (object_at w k)

-- an object is made: all its cells are zero
abbrev pub made : Object → World → World
made o w = record w { objects = w.objects ++ o ∷ []; cells = cleared w.cells (length w.objects) }

-- an object ends, and its cells with it
abbrev pub ended : ℕ → World → World
ended k w = record w { objects = ended_in w.objects k (object_at w k); cells = cleared w.cells k }

-- n objects from number k on
abbrev pub all_ended : ℕ → ℕ → World → World
all_ended zero k w = w
all_ended (suc n) k w = all_ended n (suc k) (ended k w)

-- ---- Blocks

abbrev pub is_heap : ObjectKind → Bool
is_heap Global = false
is_heap Local = false
is_heap Heap = true

-- the padded blocks of the live objects
abbrev pub live_blocks : List Object → List Block
live_blocks [] = []
live_blocks (o ∷ os) = if o.live then block_at o.base o.exponent ∷ live_blocks os else live_blocks os

-- those of the live objects of the heap
abbrev pub heap_blocks : List Object → List Block
heap_blocks [] = []
heap_blocks (o ∷ os) = if o.live && is_heap o.kind then block_at o.base o.exponent ∷ heap_blocks os else heap_blocks os

-- What each operation on objects is on words and memory, for slots of 2 ^ g bytes.
use Rattle.std.specs.Prelude.{◌≡◌, ◌≢◌, ◌==◌, ◌⊎◌, ℕ, ◌+◌, ◌-◌, ◌^◌, ◌<◌, ◌≤◌, nat_lt, nat_le}
use Rattle.std.specs.Prelude.{Bool, true, false, not, List, [], ◌∷◌, ◌++◌, length, map, reverse, Some, None, slice_get, ℤ, pos}
use Rattle.bb_words.specs.Answers.{Goes, Ends}
use Rattle.bb_words.specs.Numbers.{signed}
use Rattle.bb_words.specs.Steps.{flag, size_of_width}
use Rattle.bb_words.specs.declared.kinds.ReportKind.TheVariants.{Bounds, BadFree}
use Rattle.bb_words.specs.declared.steps.Width.{Width}
use Rattle.bb_words.specs.declared.steps.OrderOp.{OrderOp}
use Rattle.bb_words.specs.declared.steps.OrderOp.TheVariants as order
use Rattle.bb_watch.specs.Safety.{LieIn}
use Rattle.marked_ptr.specs.Marked.{owner_slot, unmarked, difference, moved, inside, outside}
use Rattle.marked_ptr.specs.Laws.{IsInReach}
use Rattle.marked_ptr.specs.declared.answer.MoveAnswer.{MoveAnswer}
use Rattle.marked_ptr.specs.declared.answer.MoveAnswer.TheVariants.{Report}
use Rattle.size_table.specs.declared.memory_map.TheConstants.{STACK_START, HEAP_START, MOST_BYTES}
use Rattle.size_table.specs.Blocks.{block_at, without}
use Rattle.size_table.specs.Made.{blocks_from}
use Rattle.size_table.specs.Pads.{exponent_of}
use Rattle.size_table.specs.Table as table
use Rattle.buddy_heap.specs.Places.{place_of}
use Rattle.block_layout.specs.Layout.{Item, Placed, AreSmall, layout, stack_under}
use Rattle.source_meaning.specs.declared.values.Pointer.{Pointer}
use Rattle.source_meaning.specs.declared.values.Pointer.TheVariants.{Null, To}
use Rattle.source_meaning.specs.declared.values.Value.{Value}
use Rattle.source_meaning.specs.declared.values.Value.TheVariants.{Num, Ptr}
use Rattle.source_meaning.specs.declared.values.ObjectKind.TheVariants.{Local, Heap}
use Rattle.source_meaning.specs.declared.values.Cell.{Cell}
use Rattle.source_meaning.specs.declared.values.Ending.TheVariants.{Exited, Reported, Trapped, Outside, Cut}
use Rattle.source_meaning.specs.Objects.{Object, Cells, cleared, copied, all_set, ended_in}
use Rattle.source_meaning.specs.Worlds.{World, Does, Mark, Moved, noted, made, ended, all_ended, is_heap, live_blocks, heap_blocks}
use Rattle.source_meaning.specs.Moves.{move}
use Rattle.source_meaning.specs.Accesses.{access, load, store}
use Rattle.source_meaning.specs.Comparisons.{same, ordered, elements_between, truth}
use Rattle.source_meaning.specs.Accounts.{object_of, all_made, allocate, free}
use Rattle.source_meaning.specs.Copies.{span, initialize, with_bytes as counted}
use Rattle.flat_code.specs.Told.{Stamped, tells, output_of, trail_of}
use Rattle.flat_code.specs.World.{Memory, Words, FWorld, FPoint, point as at_point, put, read, with_bytes, bytes_of, zeroed}
use Rattle.flat_code.specs.World.{Ending as FlatEnding}
use Rattle.flat_code.specs.Run.{refusal}
use Rattle.flat_code.specs.Accounts as accounts
use Rattle.flat_code.specs.Accounts.{make, make_all, end_all, malloc, heap_block}
use Rattle.flat_code.specs.Sequences.{may_be_loaded}
use Rattle.injection.specs.Words.{word_of, word_of_value, byte_of}
use Rattle.injection.specs.Memory.{IsLive, IsAccount, AreLaidOut, IsFree, IsPointer, IsValue, IsCell, Injects, SameValues}
use Rattle.injection.specs.Trail.{SafeSites, image_trail, TrailIsNamed, Says}
use Rattle.injection.specs.Worlds.{Accounted, Stays, Since, Heights, InRegions}
use Rattle.injection.specs.Copies.{copied_bytes, set_bytes}

-- ---- Accounts

-- These relations compose over a run.
pub record AccountsCompose : Type 0 where
  pub accounted_same : (os : List Object) → Accounted os os
  pub accounted_then : (a b c : List Object) → Accounted a b → Accounted b c → Accounted a c
  pub stays_same : (os : List Object) → Stays os os
  pub stays_then : (a b c : List Object) → Stays a b → Stays b c → Stays a c
  pub since_same : (os : List Object) → Since os os
  pub since_then : (a b c : List Object) → Since a b → Since b c → Since a c

-- What was a pointer, a value, a cell or a trail still is one, and has the words and bytes that it had.
pub record AccountsKeep : Type 0 where
  pub pointers : (g : ℕ) (a b : List Object) (q : Pointer) → Accounted a b → IsPointer g a q → IsPointer g b q × (word_of b q ≡ word_of a q)
  pub values : (g : ℕ) (a b : List Object) (v : Value) → Accounted a b → IsValue g a v → IsValue g b v × (word_of_value b v ≡ word_of_value a v)
  pub cells : (g : ℕ) (a b : List Object) (c : Cell) → Accounted a b → IsCell g a c → IsCell g b c × (byte_of b c ≡ byte_of a c)
  pub words : (g n : ℕ) (a b : List Object) (values : ℕ → Value) (words : Words) → Accounted a b → SameValues g n a values words
      → SameValues g n b values words
  pub trails : (g : ℕ) (safe : SafeSites) (a b : List Object) (marks : List Mark) → Accounted a b → TrailIsNamed g a marks → TrailIsNamed g b marks
      × (image_trail safe b marks ≡ image_trail safe a marks)

-- The image of two trails is that of the one and then of the other.
pub record TrailsAppend : Type 0 where
  pub named : (g : ℕ) (os : List Object) (xs ys : List Mark) → TrailIsNamed g os xs → TrailIsNamed g os ys → TrailIsNamed g os (xs ++ ys)
  pub image : (safe : SafeSites) (os : List Object) (xs ys : List Mark) → image_trail safe os (xs ++ ys) ≡ image_trail safe os xs ++ image_trail safe os ys

-- What was told goes on to say what the world does, when more is told.
pub record SaysKeep : Type 0 where
  pub quiet : (safe : SafeSites) (w : World) (told more : List Stamped) → Says safe w told → output_of (tells more) ≡ []
      → trail_of (tells more) ≡ [] → Says safe w (told ++ more)
  pub written : (safe : SafeSites) (w : World) (byte : ℕ) (told more : List Stamped) → Says safe w told → output_of (tells more) ≡ byte ∷ []
      → trail_of (tells more) ≡ []
      → Says safe (record w { output = w.output ++ byte ∷ [] }) (told ++ more)
  pub marked : (safe : SafeSites) (w : World) (mark : Mark) (told more : List Stamped) → Says safe w told → output_of (tells more) ≡ []
      → trail_of (tells more) ≡ image_trail safe w.objects (mark ∷ [])
      → Says safe (noted mark w) (told ++ more)
  pub accounted : (g : ℕ) (safe : SafeSites) (w x : World) (told : List Stamped) → Accounted w.objects x.objects → TrailIsNamed g w.objects w.trail
      → x.trail ≡ w.trail → x.output ≡ w.output
      → Says safe w told → Says safe x told

-- Objects that are made come after the others; one that ends leaves its account.
pub record AccountsGrow : Type 0 where
  pub made : (os more : List Object) → Accounted os (os ++ more) × Stays os (os ++ more)
  pub made_since : (os : List Object) (o : Object) → HEAP_START ≤ o.base → Since os (os ++ o ∷ [])
  pub ended : (os : List Object) (k : ℕ) → Accounted os (ended_in os k (slice_get os k)) × Since os (ended_in os k (slice_get os k))
  pub ended_stays : (os : List Object) (k : ℕ) (o : Object) → slice_get os k ≡ Some o → HEAP_START ≤ o.base → Stays os (ended_in os k (Some o))

-- ---- Owners and moves

-- a slot of memory owns the word, and its byte in the size table is 0 or an exponent
pub record IsOwned (g : ℕ) (os : List Object) (word : ℕ) : Type 0 where
  pub slot : ℕ
  pub is : owner_slot g word ≡ Some slot
  pub small : slot < 2 ^ (25 - g)
  pub byte : table.byte_of g (live_blocks os) slot ≤ 24

-- a pointer has an owner, be its object live or not
abbrev pub PointersAreOwned : Type 0
PointersAreOwned = (g : ℕ) (os : List Object) (q : Pointer) → AreLaidOut g os → IsPointer g os q → IsOwned g os (word_of os q)

-- the byte at the owner of a pointer to a live object is the object's exponent
abbrev pub OwnersHaveExponents : Type 0
OwnersHaveExponents = (g : ℕ) (os : List Object) (k : ℕ) (o : Object) (z : ℤ) (slot : ℕ) → AreLaidOut g os → IsLive os k o
    → IsInReach g o.exponent z → owner_slot g (word_of os (To k z)) ≡ Some slot → table.byte_of g (live_blocks os) slot ≡ o.exponent

-- the move comes to a pointer, and that of words to its word
pub record Arrives (g site : ℕ) (w : World) (from to : Pointer) (x : World) (answer : MoveAnswer) : Type 0 where
  pub world : x ≡ noted (Moved site from to) w
  pub formed : IsPointer g w.objects to
  pub word : (answer ≡ inside (word_of w.objects to)) ⊎ (answer ≡ outside (word_of w.objects to))

-- a move over objects comes to a pointer, or is reported, just where that of words does; or it leaves its objects
abbrev pub MovesAlike : (g site line : ℕ) → World → Pointer → MoveAnswer → Does Pointer → Type 0
MovesAlike g site line w q answer (Goes to x) = Arrives g site w q to x answer
MovesAlike g site line w q answer (Ends (Reported kind at) x) = (x ≡ w) × (kind ≡ Bounds) × (at ≡ line) × (answer ≡ Report)
MovesAlike g site line w q answer (Ends (Outside cause) x) = x ≡ w
MovesAlike g site line w q answer (Ends (Exited n) x) = ⊥
MovesAlike g site line w q answer (Ends (Trapped kind) x) = ⊥
MovesAlike g site line w q answer (Ends Cut x) = ⊥

abbrev pub MovesAreMoved : Type 0
MovesAreMoved =
    (g site line d slot : ℕ) (q : Pointer) (w : World) → AreLaidOut g w.objects → IsPointer g w.objects q → d < 2 ^ 32
    → owner_slot g (word_of w.objects q) ≡ Some slot
    → MovesAlike g site line w q (moved g (word_of w.objects q) d (table.byte_of g (live_blocks w.objects) slot)) (move g site line (signed d) q w)

-- ---- Accesses

-- the object and the place that an access of words finds
pub record Found (os : List Object) (size at k i : ℕ) : Type 0 where
  pub object : Object
  pub live : IsLive os k object
  pub within : i + size ≤ object.length
  pub is : at ≡ object.base + i
  pub free : refusal at size ≡ None

-- an access of objects finds a place, or is trapped, just where that of words does; or it leaves its objects
abbrev pub AccessesAlike : World → Pointer → (size at : ℕ) → Does (ℕ × ℕ) → Type 0
AccessesAlike w q size at (Goes place x) = (x ≡ w) × (q ≡ To place.0 (pos place.1)) × Found w.objects size at place.0 place.1
AccessesAlike w q size at (Ends (Trapped kind) x) = (x ≡ w) × (refusal at size ≡ Some (FlatEnding.Trapped kind))
AccessesAlike w q size at (Ends (Outside cause) x) = x ≡ w
AccessesAlike w q size at (Ends (Exited n) x) = ⊥
AccessesAlike w q size at (Ends (Reported kind line) x) = ⊥
AccessesAlike w q size at (Ends Cut x) = ⊥

-- A slot has at least four bytes, so that a place is a multiple of a size just where its address is.
abbrev pub AccessesAreFound : Type 0
AccessesAreFound = (g : ℕ) (width : Width) (q : Pointer) (w : World) → 2 ≤ g → AreLaidOut g w.objects
    → AccessesAlike w q (size_of_width width) (word_of w.objects q) (access (size_of_width width) q w)

-- the bytes of an access that finds a place lie in a live block
abbrev pub FoundLieInBlocks : Type 0
FoundLieInBlocks = (g : ℕ) (os : List Object) (size at k i : ℕ) → AreLaidOut g os → Found os size at k i → LieIn at size (live_blocks os)

-- A span of bytes that goes on at a place was moved over once, to its last byte, and lies in one live object from there on.
pub record IsSpanned (site n : ℕ) (w : World) (q : Pointer) (first : ℕ × ℕ) (x : World) : Type 0 where
  pub object : Object
  pub live : IsLive w.objects first.0 object
  pub pointer : q ≡ To first.0 (pos first.1)
  pub within : first.1 + n ≤ object.length
  pub world : x ≡ noted (Moved site q (To first.0 (pos (first.1 + (n - 1))))) w

abbrev pub SpansIfAny : (site n : ℕ) → World → Pointer → Does (ℕ × ℕ) → Type 0
SpansIfAny site n w q (Goes first x) = IsSpanned site n w q first x
SpansIfAny site n w q (Ends ending x) = Unit {0}

abbrev pub SpansLieInObjects : Type 0
SpansLieInObjects = (g site line n : ℕ) (q : Pointer) (w : World) → 2 ≤ g → 1 ≤ n → AreLaidOut g w.objects
    → SpansIfAny site n w q (span g site line n q w)

-- ---- Reads and writes

-- code that reads the word of a value may go on with it: a pointer is null, or its owner's block lives
abbrev pub MayBeLoaded : (g : ℕ) → List Object → Value → Type 0
MayBeLoaded g os (Num n) = Unit {0}
MayBeLoaded g os (Ptr q) = may_be_loaded g (live_blocks os) (word_of os q) ≡ true

-- a value is read, and its word from memory
pub record Loads (g : ℕ) (width : Width) (memory : Memory) (w : World) (at : ℕ) (v : Value) : Type 0 where
  pub place : ℕ × ℕ
  pub found : Found w.objects (size_of_width width) at place.0 place.1
  pub formed : IsValue g w.objects v
  pub word : word_of_value w.objects v ≡ read width memory at
  pub passes : MayBeLoaded g w.objects v

abbrev pub LoadsAlike : (g : ℕ) → Width → Memory → World → (at : ℕ) → Does Value → Type 0
LoadsAlike g width memory w at (Goes v x) = (x ≡ w) × Loads g width memory w at v
LoadsAlike g width memory w at (Ends (Trapped kind) x) = (x ≡ w) × (refusal at (size_of_width width) ≡ Some (FlatEnding.Trapped kind))
LoadsAlike g width memory w at (Ends (Outside cause) x) = x ≡ w
LoadsAlike g width memory w at (Ends (Exited n) x) = ⊥
LoadsAlike g width memory w at (Ends (Reported kind line) x) = ⊥
LoadsAlike g width memory w at (Ends Cut x) = ⊥

abbrev pub LoadsAreReads : Type 0
LoadsAreReads = (g : ℕ) (width : Width) (q : Pointer) (memory : Memory) (w : World) → 2 ≤ g → Injects g w.objects w.cells memory
    → LoadsAlike g width memory w (word_of w.objects q) (load width q w)

-- a value is written, and its word to memory
pub record Stores (g : ℕ) (width : Width) (memory : Memory) (w : World) (at word : ℕ) (x : World) : Type 0 where
  pub place : ℕ × ℕ
  pub found : Found w.objects (size_of_width width) at place.0 place.1
  pub world : x ≡ record w { cells = x.cells }
  pub keeps : Injects g w.objects x.cells (with_bytes memory at (bytes_of (size_of_width width) word))

abbrev pub StoresAlike : (g : ℕ) → Width → Memory → World → (at word : ℕ) → Does Unit → Type 0
StoresAlike g width memory w at word (Goes done x) = Stores g width memory w at word x
StoresAlike g width memory w at word (Ends (Trapped kind) x) = (x ≡ w) × (refusal at (size_of_width width) ≡ Some (FlatEnding.Trapped kind))
StoresAlike g width memory w at word (Ends (Outside cause) x) = x ≡ w
StoresAlike g width memory w at word (Ends (Exited n) x) = ⊥
StoresAlike g width memory w at word (Ends (Reported kind line) x) = ⊥
StoresAlike g width memory w at word (Ends Cut x) = ⊥

abbrev pub StoresAreWrites : Type 0
StoresAreWrites =
    (g : ℕ) (width : Width) (q : Pointer) (v : Value) (memory : Memory) (w : World) → 2 ≤ g → Injects g w.objects w.cells memory
    → IsValue g w.objects v
    → StoresAlike g width memory w (word_of w.objects q) (word_of_value w.objects v) (store width q v w)

-- a part of an object gets a value
abbrev pub InitializesAlike : (g : ℕ) → Width → Memory → World → (at word : ℕ) → Does Unit → Type 0
InitializesAlike g width memory w at word (Goes done x) =
    (x ≡ counted (size_of_width width) x.cells w) × Injects g w.objects x.cells (with_bytes memory at (bytes_of (size_of_width width) word))
InitializesAlike g width memory w at word (Ends (Outside cause) x) = x ≡ w
InitializesAlike g width memory w at word (Ends (Trapped kind) x) = ⊥
InitializesAlike g width memory w at word (Ends (Exited n) x) = ⊥
InitializesAlike g width memory w at word (Ends (Reported kind line) x) = ⊥
InitializesAlike g width memory w at word (Ends Cut x) = ⊥

abbrev pub InitializersAreWrites : Type 0
InitializersAreWrites =
    (g k i : ℕ) (o : Object) (width : Width) (v : Value) (memory : Memory) (w : World) → IsLive w.objects k o → i + size_of_width width ≤ o.length
    → Injects g w.objects w.cells memory → IsValue g w.objects v
    → InitializesAlike g width memory w (o.base + i) (word_of_value w.objects v) (initialize k i width v w)

-- an object is cleared, and the bytes of its block from its start on, as far as it reaches or further
abbrev pub ClearsAreZeros : Type 0
ClearsAreZeros =
    (g k n : ℕ) (o : Object) (os : List Object) (cs : Cells) (memory : Memory) → IsLive os k o → o.length ≤ n → n ≤ 2 ^ o.exponent
    → Injects g os cs memory → Injects g os (cleared cs k) (zeroed memory o.base n)

-- ---- Copies

-- cells are copied, parts of pointers and places that overlap among them, as bytes are
abbrev pub CopiesAreBytes : Type 0
CopiesAreBytes =
    (g n k i j t : ℕ) (o p : Object) (os : List Object) (cs : Cells) (memory : Memory) → IsLive os k o → IsLive os j p → i + n ≤ o.length
    → t + n ≤ p.length
    → Injects g os cs memory → Injects g os (copied n cs k i j t) (copied_bytes n (o.base + i) (p.base + t) memory)

abbrev pub SetsAreBytes : Type 0
SetsAreBytes =
    (g n k i byte : ℕ) (o : Object) (os : List Object) (cs : Cells) (memory : Memory) → IsLive os k o → i + n ≤ o.length → byte < 256
    → Injects g os cs memory → Injects g os (all_set n cs k i byte) (set_bytes n (o.base + i) byte memory)

-- ---- Comparisons

-- an operation gives this, and changes nothing; or it leaves its objects
abbrev pub GivesAlike : {A : Type 0} → World → A → Does A → Type 0
GivesAlike w a (Goes b x) = (x ≡ w) × (b ≡ a)
GivesAlike w a (Ends (Outside cause) x) = x ≡ w
GivesAlike w a (Ends (Trapped kind) x) = ⊥
GivesAlike w a (Ends (Exited n) x) = ⊥
GivesAlike w a (Ends (Reported kind line) x) = ⊥
GivesAlike w a (Ends Cut x) = ⊥

-- words are ordered as their addresses are
abbrev pub is_in_order : OrderOp → (a b : ℕ) → Bool
is_in_order order.Below a b = nat_lt (unmarked a) (unmarked b)
is_in_order order.AtMost a b = nat_le (unmarked a) (unmarked b)
is_in_order order.Above a b = nat_lt (unmarked b) (unmarked a)
is_in_order order.AtLeast a b = nat_le (unmarked b) (unmarked a)

pub record ComparesAlike (w : World) (v x : Value) (a b : ℕ) : Type 0 where
  pub equality : GivesAlike w (Num (flag (a == b))) (same v x w)
  pub orders : (o : OrderOp) → GivesAlike w (Num (flag (is_in_order o a b))) (ordered o v x w)
  pub differences : (size : ℕ) → GivesAlike w (Num (difference a b size)) (elements_between size v x w)

abbrev pub ComparisonsAreOfWords : Type 0
ComparisonsAreOfWords =
    (g : ℕ) (v x : Value) (w : World) → AreLaidOut g w.objects → IsValue g w.objects v → IsValue g w.objects x
    → ComparesAlike w v x (word_of_value w.objects v) (word_of_value w.objects x)

abbrev pub TruthIsOfWords : Type 0
TruthIsOfWords = (g : ℕ) (v : Value) (w : World) → AreLaidOut g w.objects → IsValue g w.objects v
    → GivesAlike w (not (word_of_value w.objects v == 0)) (truth v w)

-- ---- Objects that come and go

-- An object is made where no live one is: its block comes last of the live ones, and its bytes are zero.
pub record MadeAlike (g : ℕ) (os : List Object) (cs : Cells) (memory : Memory) (o : Object) : Type 0 where
  pub keeps : Injects g (os ++ o ∷ []) (cleared cs (length os)) (zeroed memory o.base (2 ^ o.exponent))
  pub blocks : live_blocks (os ++ o ∷ []) ≡ live_blocks os ++ block_at o.base o.exponent ∷ []

abbrev pub MadeKeeps : Type 0
MadeKeeps =
    (g : ℕ) (os : List Object) (cs : Cells) (memory : Memory) (o : Object) → o.live ≡ true → IsAccount g o → IsFree os o → Injects g os cs memory
    → MadeAlike g os cs memory o

-- A live object ends: its block lives no more, and its bytes stay.
pub record EndedAlike (g : ℕ) (os : List Object) (cs : Cells) (memory : Memory) (k : ℕ) (o : Object) : Type 0 where
  pub keeps : Injects g (ended_in os k (Some o)) (cleared cs k) memory
  pub blocks : live_blocks (ended_in os k (Some o)) ≡ without o.base (live_blocks os)

abbrev pub EndedKeeps : Type 0
EndedKeeps = (g : ℕ) (os : List Object) (cs : Cells) (memory : Memory) (k : ℕ) (o : Object) → IsLive os k o → Injects g os cs memory
    → EndedAlike g os cs memory k o

-- heights and regions, when objects come and go
pub record PlacesKeep : Type 0 where
  pub heights_made : (os : List Object) (o : Object) (stack : ℕ) → Heights os stack → stack ≤ o.base → Heights (os ++ o ∷ []) stack
  pub heights_since : (before after : List Object) (stack : ℕ) → Heights before stack → Since before after → Heights after stack
  pub heap_made : (os : List Object) (o : Object) → InRegions os → is_heap o.kind ≡ true → HEAP_START ≤ o.base → InRegions (os ++ o ∷ [])
  pub other_made : (os : List Object) (o : Object) → InRegions os → is_heap o.kind ≡ false → o.base + 2 ^ o.exponent ≤ HEAP_START
      → InRegions (os ++ o ∷ [])
  pub regions_ended : (os : List Object) (k : ℕ) → InRegions os → InRegions (ended_in os k (slice_get os k))

-- ---- The heap

abbrev pub heap_object : (g n base : ℕ) → Object
heap_object g n base = record { kind = Heap; length = n; live = true; base = base; exponent = exponent_of g n }

-- The place of a block beside those of the heap is the place beside all blocks; and an object may be made there.
pub record HasPlace (g n : ℕ) (os : List Object) : Type 0 where
  pub same : place_of (heap_blocks os) (exponent_of g n) ≡ place_of (live_blocks os) (exponent_of g n)
  pub heap : (base : ℕ) → place_of (live_blocks os) (exponent_of g n) ≡ Some base → HEAP_START ≤ base
  pub account : (base : ℕ) → place_of (live_blocks os) (exponent_of g n) ≡ Some base → IsAccount g (heap_object g n base)
  pub free : (base : ℕ) → place_of (live_blocks os) (exponent_of g n) ≡ Some base → IsFree os (heap_object g n base)

abbrev pub PlacesAreFree : Type 0
PlacesAreFree = (g n : ℕ) (os : List Object) → 1 ≤ g → g ≤ 24 → n ≤ MOST_BYTES → InRegions os → HasPlace g n os

-- no object is made: the null pointer, and 0
pub record IsRefused (w : World) (to : ℕ) (u : FPoint) (v : Value) (x : World) (t : FPoint) : Type 0 where
  pub world : x ≡ w
  pub value : v ≡ Ptr Null
  pub point : t ≡ put to 0 u

-- an object is made, and a block: the pointer to its start, and its address
pub record IsNew (g n : ℕ) (w : World) (to : ℕ) (u : FPoint) (v : Value) (x : World) (t : FPoint) : Type 0 where
  pub base : ℕ
  pub world : x ≡ made (heap_object g n base) w
  pub value : v ≡ Ptr (To (length w.objects) (pos 0))
  pub point : t ≡ put to base (at_point u.words (make (block_at base (exponent_of g n)) u.world))
  pub word : word_of x.objects (To (length w.objects) (pos 0)) ≡ base
  pub formed : IsPointer g x.objects (To (length w.objects) (pos 0))
  pub keeps : Injects g x.objects x.cells t.world.memory
  pub blocks : t.world.live ≡ live_blocks x.objects
  pub heights : Heights x.objects w.stack
  pub regions : InRegions x.objects
  pub since : Since w.objects x.objects

abbrev pub AllocatesAlike : (g n : ℕ) → World → (to : ℕ) → FPoint → FPoint → Does Value → Type 0
AllocatesAlike g n w to u t (Goes v x) = IsRefused w to u v x t ⊎ IsNew g n w to u v x t
AllocatesAlike g n w to u t (Ends ending x) = ⊥

abbrev pub AllocationsAreOfBlocks : Type 0
AllocationsAreOfBlocks =
    (g n to : ℕ) (w : World) (u : FPoint) → 1 ≤ g → g ≤ 24 → Injects g w.objects w.cells u.world.memory → u.world.live ≡ live_blocks w.objects
    → Heights w.objects w.stack → InRegions w.objects
    → AllocatesAlike g n w to u (malloc g to n u) (allocate g n w)

-- a live object of the heap ends by the pointer to its start, whose word is the address of its block
pub record Frees (w : World) (at : ℕ) (x : World) : Type 0 where
  pub number : ℕ
  pub object : Object
  pub live : IsLive w.objects number object
  pub world : x ≡ ended number w
  pub not_null : at ≢ 0
  pub base : at ≡ object.base
  pub block : heap_block at (live_blocks w.objects) ≡ Some (block_at object.base object.exponent)

-- a pointer is freed, or that is reported, just where its word is; or the run leaves its objects
abbrev pub FreesAlike : (line : ℕ) → World → (at : ℕ) → Does Value → Type 0
FreesAlike line w at (Goes v x) = (v ≡ Num 0) × (((at ≡ 0) × (x ≡ w)) ⊎ Frees w at x)
FreesAlike line w at (Ends (Reported kind name) x) = (x ≡ w) × (kind ≡ BadFree) × (name ≡ line) × (at ≢ 0)
    × (heap_block at (live_blocks w.objects) ≡ None)
FreesAlike line w at (Ends (Outside cause) x) = x ≡ w
FreesAlike line w at (Ends (Exited n) x) = ⊥
FreesAlike line w at (Ends (Trapped kind) x) = ⊥
FreesAlike line w at (Ends Cut x) = ⊥

abbrev pub FreesAreOfBlocks : Type 0
FreesAreOfBlocks = (g line : ℕ) (q : Pointer) (w : World) → AreLaidOut g w.objects → InRegions w.objects → IsPointer g w.objects q
    → FreesAlike line w (word_of w.objects q) (free line q w)

-- ---- Frames

abbrev pub exponents : List Placed → List ℕ
exponents [] = []
exponents (placed ∷ rest) = placed.exponent ∷ exponents rest

-- the objects of a frame that begins at `start`
abbrev pub frame_objects : (start : ℕ) → List Placed → List Object
frame_objects start plan = map (object_of Local start) plan

-- The objects of a frame come from an address on without gaps, each where its padded block may stand, and end by `top`.
abbrev pub IsLaid : (g start at top : ℕ) → List Placed → Type 0
IsLaid g start at top [] = at ≤ top
IsLaid g start at top (placed ∷ rest) =
    (start + placed.offset ≡ at) × IsAccount g (object_of Local start placed) × IsLaid g start (at + 2 ^ placed.exponent) top rest

-- what holds once the objects of a frame are made, and their blocks
pub record Entered (g start : ℕ) (plan : List Placed) (w : World) (v : World) (t : FWorld) : Type 0 where
  pub keeps : Injects g v.objects v.cells t.memory
  pub blocks : t.live ≡ live_blocks v.objects
  pub objects : v.objects ≡ w.objects ++ frame_objects start plan
  pub heights : Heights v.objects start
  pub regions : InRegions v.objects

-- A frame is entered in the free part of the data stack.
abbrev pub EntriesKeep : Type 0
EntriesKeep =
    (g start : ℕ) (plan : List Placed) (w : World) (u : FWorld) (stack : ℕ) → IsLaid g start start stack plan → STACK_START ≤ start
    → start ≤ stack
    → Injects g w.objects w.cells u.memory → u.live ≡ live_blocks w.objects → Heights w.objects stack → InRegions w.objects
    → Entered g start plan w (all_made Local start plan w) (make_all (blocks_from start (exponents plan)) u)

-- what holds once the objects of a frame have ended, and their blocks, the last one first
pub record Left (g : ℕ) (caller : List Object) (v : World) (t : FWorld) : Type 0 where
  pub keeps : Injects g v.objects v.cells t.memory
  pub blocks : t.live ≡ live_blocks v.objects
  pub accounted : Accounted caller v.objects
  pub stays : Stays caller v.objects
  pub since : Since caller v.objects
  pub regions : InRegions v.objects

-- A frame is left: what lived below the heap when it was entered still does, and nothing else does there.
abbrev pub ExitsKeep : Type 0
ExitsKeep =
    (g start stack : ℕ) (plan : List Placed) (caller : List Object) (w : World) (u : FWorld) → IsLaid g start start stack plan → stack ≤ HEAP_START
    → Accounted (caller ++ frame_objects start plan) w.objects → Stays (caller ++ frame_objects start plan) w.objects
    → Since (caller ++ frame_objects start plan) w.objects
    → Injects g w.objects w.cells u.memory → u.live ≡ live_blocks w.objects → InRegions w.objects
    → Left g caller (all_ended (length plan) (length caller) w) (end_all (reverse (blocks_from start (exponents plan))) u)

-- A layout has all objects of the frame. Their stack number is that of their blocks; if it is none below the data stack,
-- they may be laid from there on.
pub record FramesAlike (g stack : ℕ) (items : List Item) : Type 0 where
  pub count : length (layout g items) ≡ length items
  pub number : accounts.stack_under g stack (exponents (layout g items)) ≡ stack_under g stack items
  pub under : STACK_START ≤ stack_under g stack items → stack_under g stack items ≤ stack
  pub laid : STACK_START ≤ stack_under g stack items → IsLaid g (stack_under g stack items) (stack_under g stack items) stack (layout g items)

abbrev pub FramesAreAlike : Type 0
FramesAreAlike = (g stack : ℕ) (items : List Item) → 1 ≤ g → g ≤ 24 → stack ≤ HEAP_START → AreSmall items → FramesAlike g stack items

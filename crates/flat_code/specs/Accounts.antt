-- The accounts of flat code: which blocks live, where new ones are made, and frames of calls.
use Rattle.std.specs.Prelude.{◌==◌, ℕ, ◌+◌, ◌-◌, ◌*◌, ◌/◌, ◌^◌, List, [], ◌∷◌}
use Rattle.std.specs.Prelude.{◌++◌, reverse, Option, Some, None, nat_le, nat_lt, if◌then◌else◌}
use Rattle.bb_words.specs.Answers.{Answer}
use Rattle.bb_words.specs.declared.kinds.ReportKind.TheVariants as report
use Rattle.size_table.specs.declared.memory_map.TheConstants.{HEAP_START, MOST_BYTES}
use Rattle.size_table.specs.Blocks.{Block, block_at, without}
use Rattle.size_table.specs.Made.{blocks_from}
use Rattle.size_table.specs.Pads.{exponent_of}
use Rattle.buddy_heap.specs.Places.{place_of, block_from}
use Rattle.flat_code.specs.Told.{Tell}
use Rattle.flat_code.specs.World.{zeroed, FWorld, FPoint, point, put, tell, choose, Ending, Run, Way}

-- ---- Blocks

-- A block is made: its bytes are zero, and it lives.
abbrev pub make : Block → FWorld → FWorld
make b w = tell (Tell.Made b.base b.exponent) (record w { memory = zeroed w.memory b.base (2 ^ b.exponent); live = w.live ++ b ∷ [] })

-- A block ends: it lives no more, and its bytes stay.
abbrev pub end : Block → FWorld → FWorld
end b w = tell (Tell.Ended b.base b.exponent) (record w { live = without b.base w.live })

abbrev pub make_all : List Block → FWorld → FWorld
make_all [] w = w
make_all (b ∷ bs) w = make_all bs (make b w)

abbrev pub end_all : List Block → FWorld → FWorld
end_all [] w = w
end_all (b ∷ bs) w = end_all bs (end b w)

-- ---- Frames

-- The blocks of a frame are given by their exponents, which decline. How many bytes they have:
abbrev pub frame_size : List ℕ → ℕ
frame_size [] = 0
frame_size (e ∷ es) = 2 ^ e + frame_size es

-- the exponent of a frame's alignment: that of its largest block, which is the first, or of a slot
abbrev pub alignment : (g : ℕ) → List ℕ → ℕ
alignment g [] = g
alignment g (e ∷ es) = e

-- The stack number of a call with this frame: the greatest multiple of the frame's alignment that leaves room for its
-- blocks below the caller's.
abbrev pub stack_under : (g stack : ℕ) → List ℕ → ℕ
stack_under g stack es = (stack - frame_size es) / 2 ^ alignment g es * 2 ^ alignment g es

-- a call is entered: its blocks are made in order
abbrev pub enter : (base : ℕ) → List ℕ → FWorld → FWorld
enter base es w = make_all (blocks_from base es) (record w { depth = w.depth + 1; stack = base })

-- a call is left: its blocks end in reverse order, and depth and stack number go back to those of its caller
abbrev pub leave : List ℕ → (caller : FWorld) → FWorld → FWorld
leave es caller w = record (end_all (reverse (blocks_from w.stack es)) w) { depth = caller.depth; stack = caller.stack }

-- ---- The heap

-- malloc, at a place (C11 7.22.3.4): a value becomes the address of a new block, or 0 where there is no place
abbrev pub allot : (to e : ℕ) → Option ℕ → FPoint → FPoint
allot to e None u = put to 0 u
allot to e (Some at) u = put to at (point u.words (make (block_at at e) u.world))

-- malloc of so many bytes; more than 16 MiB are never there
abbrev pub malloc : (g to size : ℕ) → FPoint → FPoint
malloc g to size u =
    choose (nat_lt MOST_BYTES size) (λ t. put to 0 t)
    (λ t. allot to (exponent_of g size) (place_of t.world.live (exponent_of g size)) t) u

-- a block that begins at the address, if it is one of the heap
abbrev pub heap_block : (at : ℕ) → List Block → Option Block
heap_block at blocks = if nat_le HEAP_START at then block_from at blocks else None

abbrev pub give_back : (line : ℕ) → Option Block → FPoint → Run Way
give_back line None u = Answer.Ends (Ending.Reported report.BadFree line) u
give_back line (Some b) u = Answer.Goes Way.On (point u.words (end b u.world))

-- free (C11 7.22.3.3): nothing at 0; else the block that begins at the address ends, or a report comes
abbrev pub free : (at line : ℕ) → FPoint → Run Way
free at line u = choose (at == 0) (λ t. Answer.Goes Way.On t) (λ t. give_back line (heap_block at t.world.live) t) u

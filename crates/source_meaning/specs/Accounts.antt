-- How objects come and go: the frames of calls (C11 6.2.4 p5), the heap (7.22.3), and what a program may ask of the outside.
use Rattle.std.specs.Prelude.{ℕ, suc, ◌+◌, ◌*◌, ◌%◌, nat_lt, nat_le, true, ◌&&◌, if◌then◌else◌}
use Rattle.std.specs.Prelude.{List, [], ◌∷◌, ◌++◌, length, slice_index_or, Option, Some, None, ℤ, pos}
use Rattle.bb_words.specs.Answers.{Goes, Ends, and_then}
use Rattle.bb_words.specs.declared.kinds.ReportKind.TheVariants as report
use Rattle.size_table.specs.declared.memory_map.TheConstants.{STACK_START, MOST_CALLS, MOST_BYTES}
use Rattle.size_table.specs.Pads.{exponent_of}
use Rattle.buddy_heap.specs.Places.{place_of}
use Rattle.block_layout.specs.Layout.{Item, Placed, layout, stack_under}
use Rattle.typed_tree.specs.declared.typed_expr.LibCall.{LibCall}
use Rattle.typed_tree.specs.declared.typed_expr.LibCall.TheVariants as lib
use Rattle.source_meaning.specs.declared.values.Pointer.{Pointer}
use Rattle.source_meaning.specs.declared.values.Pointer.TheVariants.{Null, To}
use Rattle.source_meaning.specs.declared.values.Value.{Value}
use Rattle.source_meaning.specs.declared.values.Value.TheVariants.{Num, Ptr}
use Rattle.source_meaning.specs.declared.values.ObjectKind.{ObjectKind}
use Rattle.source_meaning.specs.declared.values.ObjectKind.TheVariants.{Local, Heap}
use Rattle.source_meaning.specs.declared.values.OutsideCause.TheVariants.{Dead}
use Rattle.source_meaning.specs.declared.values.Ending.TheVariants.{Exited, Reported}
use Rattle.source_meaning.specs.Objects.{Object, same_int}
use Rattle.source_meaning.specs.Worlds.{World, Does, outside, with_number, with_pointer, object_at, made, ended, all_ended, is_heap, heap_blocks}
use Rattle.source_meaning.specs.Copies.{copy, fill}

-- ---- Frames

abbrev pub object_of : ObjectKind → (start : ℕ) → Placed → Object
object_of kind start placed =
    record { kind = kind; length = placed.length; live = true; base = start + placed.offset; exponent = placed.exponent }

-- the objects of a layout that begins there are made
abbrev pub all_made : ObjectKind → (start : ℕ) → List Placed → World → World
all_made kind start [] w = w
all_made kind start (placed ∷ rest) w = all_made kind start rest (made (object_of kind start placed) w)

abbrev pub entered_at : (base : ℕ) → List Placed → World → World
entered_at base plan w = all_made Local base plan (record w { depth = suc w.depth; stack = base })

-- A call is entered whose block locals are these: too many calls, or a frame that does not fit on the stack, are reported
-- with the line of the function's name.
abbrev pub enter : (g line : ℕ) → List Item → World → Does Unit
enter g line items w =
    if nat_le MOST_CALLS w.depth then Ends (Reported report.Depth line) w
    else if nat_lt (stack_under g w.stack items) STACK_START then Ends (Reported report.Stack line) w
    else Goes tt (entered_at (stack_under g w.stack items) (layout g items) w)

-- A call returns: its block locals end, and the caller's depth and stack number are there again. The caller's world, when
-- it called, had as many objects as the number of the first of them.
abbrev pub leave : List Item → (caller : World) → World → World
leave items caller w =
    record (all_ended (length items) (length caller.objects) w) { depth = caller.depth; stack = caller.stack }

-- ---- The heap

abbrev pub allocated_at : (g n : ℕ) → Option ℕ → World → Does Value
allocated_at g n None w = Goes (Ptr Null) w
allocated_at g n (Some base) w =
    Goes (Ptr (To (length w.objects) (pos 0)))
    (made (record { kind = Heap; length = n; live = true; base = base; exponent = exponent_of g n }) w)

-- 7.22.3.4, 7.22.3.2: a new object of n bytes, all zero, at the least place where its padded block fits; the null pointer
-- where n is too large or there is no place
abbrev pub allocate : (g n : ℕ) → World → Does Value
allocate g n w =
    if nat_lt MOST_BYTES n then Goes (Ptr Null) w
    else allocated_at g n (place_of (heap_blocks w.objects) (exponent_of g n)) w

abbrev pub freed_in : (line k : ℕ) → ℤ → Option Object → World → Does Value
freed_in line k z None w = outside Dead w
freed_in line k z (Some o) w =
    if o.live then
    (if is_heap o.kind && same_int z (pos 0) then Goes (Num 0) (ended k w) else Ends (Reported report.BadFree line) w)
    else outside Dead w

-- 7.22.3.3: nothing happens by the null pointer; an object of the heap ends by the pointer to its start; any other pointer
-- to a live object is reported
abbrev pub free : (line : ℕ) → Pointer → World → Does Value
free line Null w = Goes (Num 0) w
free line (To k z) w = freed_in line k z (object_at w k) w

-- ---- The outside

-- 7.21.7.8: the low 8 bits of a number are written, and given
abbrev pub put : ℕ → World → Does Value
put n w = Goes (Num (n % 256)) (record w { output = w.output ++ n % 256 ∷ [] })

-- 7.21.7.6: the next byte of the input, or -1 at its end
abbrev pub get_from : List ℕ → World → Does Value
get_from [] w = Goes (Num 4294967295) w
get_from (byte ∷ bytes) w = Goes (Num byte) (record w { rest = bytes })

abbrev pub get : World → Does Value
get w = get_from w.rest w

-- ---- The functions of the library

abbrev pub argument : List Value → ℕ → Value
argument vs i = slice_index_or vs i (Num 0)

-- A call of a function of the library, whose name stands on this line. The two numbers are those of the moves of the source
-- and of the target of `memcpy`, and the first is that of `memset`.
abbrev pub library : (g : ℕ) → LibCall → (site_a site_b line : ℕ) → List Value → World → Does Value
library g lib.Putchar a b line vs w = with_number (argument vs 0) put w
library g lib.Getchar a b line vs w = get w
library g lib.Exit a b line vs w = with_number (argument vs 0) (λ n. Ends (Exited n)) w
library g lib.Malloc a b line vs w = with_number (argument vs 0) (allocate g) w
library g lib.Calloc a b line vs w = with_number (argument vs 0) (λ n. with_number (argument vs 1) (λ m. allocate g (n * m))) w
library g lib.Free a b line vs w = with_pointer (argument vs 0) (free line) w
library g lib.Memcpy a b line vs w =
    with_pointer (argument vs 0) (λ q. with_pointer (argument vs 1) (λ r. with_number (argument vs 2) (λ n w1.
    and_then (copy g a b line n q r w1) (λ done. Goes (Ptr q))))) w
library g lib.Memset a b line vs w =
    with_pointer (argument vs 0) (λ q. with_number (argument vs 1) (λ byte. with_number (argument vs 2) (λ n w1.
    and_then (fill g a line n byte q w1) (λ done. Goes (Ptr q))))) w

-- How many machine instructions each step of mid code may take, at most. They are counted before the step is done, and
-- those of a loop at the beginning of each turn; for each byte that is copied, set or cleared come 64 more.
use Rattle.std.specs.Prelude.{ℕ, ◌+◌, ◌*◌}
use Rattle.typed_tree.specs.declared.typed_expr.LibCall.{LibCall}
use Rattle.typed_tree.specs.declared.typed_expr.LibCall.TheVariants as lib
use Rattle.mid_code.specs.Code.{Step, Number, NullPtr, Same, Arith, Divide, Named, Move, MoveBy, Load, Store, Clear, Init, CopyBytes}
use Rattle.mid_code.specs.Code.{PtrSame, PtrOrder, PtrDiff, Call, Library, If, Block, Loop, Exit, Return, LineMark, Function}

-- a call that works on a range has two spans to check
abbrev pub library_charge : LibCall → ℕ
library_charge lib.Putchar = 64
library_charge lib.Getchar = 64
library_charge lib.Exit = 64
library_charge lib.Malloc = 64
library_charge lib.Free = 64
library_charge lib.Calloc = 1024
library_charge lib.Memcpy = 1024
library_charge lib.Memset = 1024

abbrev pub charge : Step → ℕ
charge (Number to n) = 8
charge (NullPtr to) = 4
charge (Same to from) = 8
charge (Arith to o a b) = 16
charge (Divide to o a b line) = 32
charge (Named to object) = 16
charge (Move site to from by scale down line) = 256
charge (MoveBy site to from d line) = 256
charge (Load to at width line) = 128
charge (Store at from width) = 16
charge (Clear object) = 64
charge (Init object offset from width) = 32
charge (CopyBytes a b from to n line) = 1024
charge (PtrSame to a b) = 32
charge (PtrOrder to o a b) = 64
charge (PtrDiff to a b size) = 64
charge (Call to f args) = 128
charge (Library to which args line a b) = library_charge which
charge (If cond xs ys) = 16
charge (Block body) = 8
charge (Loop body) = 8
charge (Exit n) = 8
charge (Return from) = 16
charge (LineMark line) = 4

abbrev pub turn_charge : ℕ
turn_charge = 16

-- a call is entered: its values are zeroed, and its frame is made
abbrev pub call_charge : Function → ℕ
call_charge f = 128 + 3 * f.values

abbrev pub byte_charge : ℕ
byte_charge = 64

-- Copies, sets and initializers in small programs.
use Rattle.std.specs.Prelude.{[], ◌∷◌, Some, pos}
use Rattle.bb_words.specs.declared.kinds.ReportKind.TheVariants as report
use Rattle.bb_words.specs.declared.kinds.TrapKind.TheVariants as trap
use Rattle.c_words.specs.declared.operators.UnaryOperator.TheVariants as unary
use Rattle.c_words.specs.declared.operators.StepOperator.TheVariants as step
use Rattle.c_words.specs.declared.operators.BinaryOperator.TheVariants as op
use Rattle.c_words.specs.declared.operators.AssignOperator.TheVariants as assign
use Rattle.typed_tree.specs.declared.typed_expr.Called.TheVariants.{Library}
use Rattle.typed_tree.specs.declared.typed_expr.LibCall.TheVariants as lib
use Rattle.typed_tree.specs.declared.typed_expr.Conversion.TheVariants as conversion
use Rattle.typed_tree.specs.Types.CType.{Void, Char, Int, Unsigned, Struct, Pointer, Array}
use Rattle.typed_tree.specs.TypedTree.{CInitial, CStart, CProgram}
use Rattle.typed_tree.specs.TypedTree.CForm.{Local, Number, Convert, Index, Call, Member, StepAfter, Unary, Binary, Assign, Cast}
use Rattle.typed_tree.specs.TypedTree.CStmt.{Block, Declare, Eval, For, Return}
use Rattle.source_meaning.specs.declared.values.OutsideCause.TheVariants as outside
use Rattle.source_meaning.specs.declared.values.Ending.TheVariants.{Exited, Reported, Trapped, Outside}
use Rattle.source_meaning.specs.Worlds.Mark.{Line, Moved}
use Rattle.source_meaning.specs.Examples.{on, here, e_on, e, number, local, named, array, as_number, set, does, gives, declared, starts, given, parts}
use Rattle.source_meaning.specs.Examples.{declares, declares_with, block, variable, in_memory, function, member, struct, program, main_of, below, at, Runs}

-- A copy of a struct moves twice, in the source and then in the target, and takes pointers along.
--   struct s { int a; char c; int *p; }; int main(void) { int x; struct s v; struct s w = v; v.a = 5; v.p = &x; w = v;
--   *w.p = 7; return w.a + x; }
abbrev pub structs_are_copied : CProgram
structs_are_copied =
    program (struct 12 4 (member Int 0 ∷ member Char 4 ∷ member (Pointer Int) 8 ∷ []) ∷ []) [] []
    (function 1 Int 0 (in_memory Int 4 ∷ in_memory (Struct 0) 12 ∷ in_memory (Struct 0) 12 ∷ [])
    (Block here
    (block
    (declared 0
    ∷ declared 1
    ∷ starts 2 (named (Struct 0) 1)
    ∷ does (set (e Int (Member (named (Struct 0) 1) 0)) (number 5))
    ∷ does (set (e (Pointer Int) (Member (named (Struct 0) 1) 2)) (e (Pointer Int) (Unary unary.Address (local 0))))
    ∷ does (e Void (Assign assign.Assign (named (Struct 0) 2) (named (Struct 0) 1)))
    ∷ does (set (e Int (Unary unary.Dereference (e (Pointer Int) (Member (named (Struct 0) 2) 2)))) (number 7))
    ∷ gives (e Int (Binary op.Add (e Int (Member (named (Struct 0) 2) 0)) (local 0)))
    ∷ [])))
    ∷ [])
    0

abbrev pub StructsAreCopied : Type 0
StructsAreCopied = Runs 4 structs_are_copied [] 8 (record {
  ending = Exited 12;
  output = [];
  nodes = 32;
  bytes = 24;
  trail = Line 1 ∷ Moved 0 (at 1 (pos 0)) (at 1 (pos 11)) ∷ Moved 1 (at 2 (pos 0)) (at 2 (pos 11)) ∷ Line 1 ∷ Line 1
      ∷ Moved 2 (at 1 (pos 0)) (at 1 (pos 8)) ∷ Line 1
      ∷ Moved 3 (at 1 (pos 0)) (at 1 (pos 11)) ∷ Moved 4 (at 2 (pos 0)) (at 2 (pos 11)) ∷ Line 1 ∷ Moved 5 (at 2 (pos 0)) (at 2 (pos 8)) ∷ Line 1
      ∷ [];
})

-- The source is looked at first: the null pointer traps before the short target is reported.
--   struct s { int v[10]; }; int main(void) { struct s *p = 0; char c[1]; struct s *q = (struct s *)c; *q = *p; return
--   0; }
abbrev pub source_first : CProgram
source_first =
    program (struct 40 4 (member (Array Int 10) 0 ∷ []) ∷ []) [] []
    (function 1 Int 0 (variable (Pointer (Struct 0)) ∷ in_memory (Array Char 1) 1 ∷ variable (Pointer (Struct 0)) ∷ [])
    (Block here
    (block
    (starts 0 (e (Pointer (Struct 0)) (Convert conversion.NullToPointer (number 0)))
    ∷ declared 1
    ∷ starts 2 (e (Pointer (Struct 0)) (Cast (array Char 1 1)))
    ∷ does
    (e Void
    (Assign assign.Assign (e (Struct 0) (Unary unary.Dereference (named (Pointer (Struct 0)) 2)))
    (e (Struct 0) (Unary unary.Dereference (named (Pointer (Struct 0)) 0)))))
    ∷ gives (number 0)
    ∷ [])))
    ∷ [])
    0

abbrev pub SourceFirst : Type 0
SourceFirst = Runs 4 source_first [] 8 (record {
  ending = Trapped trap.Null;
  output = [];
  nodes = 14;
  bytes = 0;
  trail = Line 1 ∷ Line 1 ∷ [];
})

-- A copy past the reach of its target is reported with the line of `=`.
--   1 | struct s { int v[10]; };
--   2 | int main(void) {
--   3 |   struct s v; int x[1];
--   4 |   *(struct s *)x
--   5 |     = v;
--   6 |   return 0;
--   7 | }
abbrev pub short_target : CProgram
short_target =
    program (struct 40 4 (member (Array Int 10) 0 ∷ []) ∷ []) [] []
    (function 2 Int 0 (in_memory (Struct 0) 40 ∷ in_memory (Array Int 1) 4 ∷ [])
    (Block (on 2)
    (block
    (Declare (declares (on 3) 0)
    ∷ Declare (declares (on 3) 1)
    ∷ Eval (on 4)
    (e_on 5 Void
    (Assign assign.Assign
    (e_on 4 (Struct 0)
    (Unary unary.Dereference (e_on 4 (Pointer (Struct 0)) (Cast (e_on 4 (Pointer Int) (Convert conversion.ArrayToPointer (e_on 4 (Array Int 1) (Local 1))))))))
    (e_on 5 (Struct 0) (Local 0))))
    ∷ Return (on 6) (Some (e_on 6 Int (Number 0)))
    ∷ [])))
    ∷ [])
    0

abbrev pub ShortTarget : Type 0
ShortTarget = Runs 4 short_target [] 8 (record {
  ending = Reported report.Bounds 5;
  output = [];
  nodes = 10;
  bytes = 0;
  trail = Line 2 ∷ Line 4 ∷ Moved 0 (at 0 (pos 0)) (at 0 (pos 39)) ∷ [];
})

-- Where they overlap, bytes are copied one after another upwards.
--   int main(void) { char a[8] = "abcdefg"; int i; memcpy(a + 2, a, 5); for (i = 0; i < 7; i++) putchar(a[i]); return
--   0; }
abbrev pub upwards : CProgram
upwards =
    main_of (in_memory (Array Char 8) 8 ∷ variable Int ∷ [])
    (Declare (declares_with here 0 (CInitial.Text here (97 ∷ 98 ∷ 99 ∷ 100 ∷ 101 ∷ 102 ∷ 103 ∷ [])))
    ∷ declared 1
    ∷ does
    (e (Pointer Void)
    (Call (Library lib.Memcpy)
    (given
    (e (Pointer Void) (Convert conversion.PointerToPointer (e (Pointer Char) (Binary op.Add (array Char 8 0) (number 2))))
    ∷ e (Pointer Void) (Convert conversion.PointerToPointer (array Char 8 0))
    ∷ as_number Unsigned (number 5)
    ∷ []))))
    ∷ For here (CStart.Eval (set (local 1) (number 0))) (Some (e Int (Binary op.Less (local 1) (number 7))))
    (Some (e Int (StepAfter step.Increment (local 1))))
    (does (e Int (Call (Library lib.Putchar) (given (as_number Int (e Char (Index (array Char 8 0) (local 1))) ∷ [])))))
    ∷ gives (number 0)
    ∷ [])

abbrev pub Upwards : Type 0
Upwards = Runs 4 upwards [] 8 (record {
  ending = Exited 0;
  output = 97 ∷ 98 ∷ 97 ∷ 98 ∷ 97 ∷ 98 ∷ 97 ∷ [];
  nodes = 98;
  bytes = 20;
  trail = Line 1 ∷ Line 1 ∷ Moved 0 (at 0 (pos 0)) (at 0 (pos 2)) ∷ Moved 1 (at 0 (pos 0)) (at 0 (pos 4)) ∷ Moved 2 (at 0 (pos 2)) (at 0 (pos 6))
      ∷ Line 1 ∷ Line 1
      ∷ Moved 3 (at 0 (pos 0)) (at 0 (pos 0)) ∷ Line 1 ∷ Moved 3 (at 0 (pos 0)) (at 0 (pos 1)) ∷ Line 1 ∷ Moved 3 (at 0 (pos 0)) (at 0 (pos 2))
      ∷ Line 1 ∷ Moved 3 (at 0 (pos 0)) (at 0 (pos 3))
      ∷ Line 1 ∷ Moved 3 (at 0 (pos 0)) (at 0 (pos 4)) ∷ Line 1 ∷ Moved 3 (at 0 (pos 0)) (at 0 (pos 5)) ∷ Line 1
      ∷ Moved 3 (at 0 (pos 0)) (at 0 (pos 6)) ∷ Line 1 ∷ [];
})

-- `memset` sets low bytes and gives its pointer; no bytes look at no pointer.
--   int main(void) { char a[4]; char *p = memset(a + 1, 353, 3); memset(0, 1, 0); memcpy(0, a - 8, 0); return (p == a
--   + 1) * a[1] + a[0]; }
abbrev pub sets : CProgram
sets =
    main_of (in_memory (Array Char 4) 4 ∷ variable (Pointer Char) ∷ [])
    (declared 0
    ∷ starts 1
    (e (Pointer Char)
    (Convert conversion.PointerToPointer
    (e (Pointer Void)
    (Call (Library lib.Memset)
    (given
    (e (Pointer Void) (Convert conversion.PointerToPointer (e (Pointer Char) (Binary op.Add (array Char 4 0) (number 1))))
    ∷ number 353
    ∷ as_number Unsigned (number 3)
    ∷ []))))))
    ∷ does (e (Pointer Void) (Call (Library lib.Memset)
    (given (e (Pointer Void) (Convert conversion.NullToPointer (number 0)) ∷ number 1 ∷ as_number Unsigned (number 0) ∷ []))))
    ∷ does
    (e (Pointer Void)
    (Call (Library lib.Memcpy)
    (given
    (e (Pointer Void) (Convert conversion.NullToPointer (number 0))
    ∷ e (Pointer Void) (Convert conversion.PointerToPointer (e (Pointer Char) (Binary op.Subtract (array Char 4 0) (number 8))))
    ∷ as_number Unsigned (number 0)
    ∷ []))))
    ∷ gives
    (e Int
    (Binary op.Add
    (e Int
    (Binary op.Multiply (e Int (Binary op.Equal (named (Pointer Char) 1) (e (Pointer Char) (Binary op.Add (array Char 4 0) (number 1)))))
    (as_number Int (e Char (Index (array Char 4 0) (number 1))))))
    (as_number Int (e Char (Index (array Char 4 0) (number 0))))))
    ∷ [])

abbrev pub Sets : Type 0
Sets = Runs 4 sets [] 8 (record {
  ending = Exited 97;
  output = [];
  nodes = 36;
  bytes = 3;
  trail = Line 1 ∷ Moved 0 (at 0 (pos 0)) (at 0 (pos 1)) ∷ Moved 1 (at 0 (pos 1)) (at 0 (pos 3)) ∷ Line 1 ∷ Line 1
      ∷ Moved 3 (at 0 (pos 0)) (at 0 (below 8)) ∷ Line 1
      ∷ Moved 6 (at 0 (pos 0)) (at 0 (pos 1)) ∷ Moved 7 (at 0 (pos 0)) (at 0 (pos 1)) ∷ Moved 8 (at 0 (pos 0)) (at 0 (pos 0)) ∷ [];
})

-- The last byte of a range is touched too.
--   int main(void) { char b[40]; char p[10]; memcpy(p, b, 11); return 0; }
abbrev pub span_past_the_length : CProgram
span_past_the_length =
    main_of (in_memory (Array Char 40) 40 ∷ in_memory (Array Char 10) 10 ∷ [])
    (declared 0
    ∷ declared 1
    ∷ does
    (e (Pointer Void)
    (Call (Library lib.Memcpy)
    (given
    (e (Pointer Void) (Convert conversion.PointerToPointer (array Char 10 1))
    ∷ e (Pointer Void) (Convert conversion.PointerToPointer (array Char 40 0))
    ∷ as_number Unsigned (number 11)
    ∷ []))))
    ∷ gives (number 0)
    ∷ [])

abbrev pub SpanPastTheLength : Type 0
SpanPastTheLength = Runs 4 span_past_the_length [] 8 (record {
  ending = Outside outside.Padding;
  output = [];
  nodes = 9;
  bytes = 0;
  trail = Line 1 ∷ Line 1 ∷ Moved 0 (at 0 (pos 0)) (at 0 (pos 10)) ∷ Moved 1 (at 1 (pos 0)) (at 1 (pos 10)) ∷ [];
})

-- A range of more than 16,777,216 bytes is reported before any pointer is looked at.
--   int main(void) { memset(0, 1, 16777217); return 0; }
abbrev pub too_long : CProgram
too_long =
    main_of []
    (does (e (Pointer Void) (Call (Library lib.Memset)
    (given (e (Pointer Void) (Convert conversion.NullToPointer (number 0)) ∷ number 1 ∷ as_number Unsigned (number 16777217) ∷ []))))
    ∷ gives (number 0)
    ∷ [])

abbrev pub TooLong : Type 0
TooLong = Runs 4 too_long [] 8 (record {
  ending = Reported report.Bounds 1;
  output = [];
  nodes = 7;
  bytes = 0;
  trail = Line 1 ∷ Line 1 ∷ [];
})

-- Braces set the whole object to zero each time, and then its parts in order, which may read the ones before. Without
-- an initializer an object keeps what it holds.
--   int main(void) { int i; int s = 0; for (i = 0; i < 2; i++) { int a[3] = { i + 1, a[0] }; int b[1]; s = s * 10 +
--   a[1] + a[2] + b[0]; a[2] = 5; b[0] = 3; } return s; }
abbrev pub braces_clear : CProgram
braces_clear =
    main_of (variable Int ∷ variable Int ∷ in_memory (Array Int 3) 12 ∷ in_memory (Array Int 1) 4 ∷ [])
    (declared 0
    ∷ starts 1 (number 0)
    ∷ For here (CStart.Eval (set (local 0) (number 0))) (Some (e Int (Binary op.Less (local 0) (number 2))))
    (Some (e Int (StepAfter step.Increment (local 0))))
    (Block here
    (block
    (Declare
    (declares_with here 2
    (CInitial.Braces here (parts (CInitial.Value (e Int (Binary op.Add (local 0) (number 1))) ∷ CInitial.Value (e Int (Index (array Int 3 2) (number 0)))
    ∷ []))))
    ∷ declared 3
    ∷ does
    (set (local 1)
    (e Int
    (Binary op.Add
    (e Int
    (Binary op.Add (e Int (Binary op.Add (e Int (Binary op.Multiply (local 1) (number 10))) (e Int (Index (array Int 3 2) (number 1)))))
    (e Int (Index (array Int 3 2) (number 2)))))
    (e Int (Index (array Int 1 3) (number 0))))))
    ∷ does (set (e Int (Index (array Int 3 2) (number 2))) (number 5))
    ∷ does (set (e Int (Index (array Int 1 3) (number 0))) (number 3))
    ∷ [])))
    ∷ gives (local 1)
    ∷ [])

abbrev pub BracesClear : Type 0
BracesClear = Runs 4 braces_clear [] 8 (record {
  ending = Exited 15;
  output = [];
  nodes = 102;
  bytes = 40;
  trail = Line 1 ∷ Line 1 ∷ Line 1 ∷ Moved 0 (at 0 (pos 0)) (at 0 (pos 0)) ∷ Line 1 ∷ Moved 1 (at 0 (pos 0)) (at 0 (pos 4))
      ∷ Moved 2 (at 0 (pos 0)) (at 0 (pos 8))
      ∷ Moved 3 (at 1 (pos 0)) (at 1 (pos 0)) ∷ Line 1 ∷ Moved 4 (at 0 (pos 0)) (at 0 (pos 8)) ∷ Line 1 ∷ Moved 5 (at 1 (pos 0)) (at 1 (pos 0))
      ∷ Line 1 ∷ Moved 0 (at 0 (pos 0)) (at 0 (pos 0))
      ∷ Line 1 ∷ Moved 1 (at 0 (pos 0)) (at 0 (pos 4)) ∷ Moved 2 (at 0 (pos 0)) (at 0 (pos 8)) ∷ Moved 3 (at 1 (pos 0)) (at 1 (pos 0)) ∷ Line 1
      ∷ Moved 4 (at 0 (pos 0)) (at 0 (pos 8)) ∷ Line 1
      ∷ Moved 5 (at 1 (pos 0)) (at 1 (pos 0)) ∷ Line 1 ∷ [];
})

-- Parts lie where their types say, pointers among them.
--   struct s { char x; int *p; char n[2][2]; }; int main(void) { int z = 9; struct s v = { 1, &z, { "h" } }; return
--   v.x + *v.p + v.n[0][0] + v.n[1][0]; }
abbrev pub struct_parts : CProgram
struct_parts =
    program (struct 12 4 (member Char 0 ∷ member (Pointer Int) 4 ∷ member (Array (Array Char 2) 2) 8 ∷ []) ∷ []) [] []
    (function 1 Int 0 (in_memory Int 4 ∷ in_memory (Struct 0) 12 ∷ [])
    (Block here
    (block
    (starts 0 (number 9)
    ∷ Declare
    (declares_with here 1
    (CInitial.Braces here
    (parts
    (CInitial.Value (as_number Char (number 1))
    ∷ CInitial.Value (e (Pointer Int) (Unary unary.Address (local 0)))
    ∷ CInitial.Braces here (parts (CInitial.Text here (104 ∷ []) ∷ []))
    ∷ []))))
    ∷ gives
    (e Int
    (Binary op.Add
    (e Int
    (Binary op.Add
    (e Int
    (Binary op.Add (as_number Int (e Char (Member (named (Struct 0) 1) 0)))
    (e Int (Unary unary.Dereference (e (Pointer Int) (Member (named (Struct 0) 1) 1))))))
    (as_number Int
    (e Char
    (Index
    (e (Pointer Char)
    (Convert conversion.ArrayToPointer
    (e (Array Char 2)
    (Index (e (Pointer (Array Char 2)) (Convert conversion.ArrayToPointer (e (Array (Array Char 2) 2) (Member (named (Struct 0) 1) 2))))
    (number 0)))))
    (number 0))))))
    (as_number Int
    (e Char
    (Index
    (e (Pointer Char)
    (Convert conversion.ArrayToPointer
    (e (Array Char 2)
    (Index (e (Pointer (Array Char 2)) (Convert conversion.ArrayToPointer (e (Array (Array Char 2) 2) (Member (named (Struct 0) 1) 2)))) (number 1)))))
    (number 0))))))
    ∷ [])))
    ∷ [])
    0

abbrev pub StructParts : Type 0
StructParts = Runs 4 struct_parts [] 8 (record {
  ending = Exited 114;
  output = [];
  nodes = 31;
  bytes = 22;
  trail = Line 1 ∷ Line 1 ∷ Moved 0 (at 1 (pos 0)) (at 1 (pos 4)) ∷ Moved 1 (at 1 (pos 0)) (at 1 (pos 8)) ∷ Moved 2 (at 1 (pos 8)) (at 1 (pos 8))
      ∷ Moved 3 (at 1 (pos 8)) (at 1 (pos 8))
      ∷ Moved 4 (at 1 (pos 0)) (at 1 (pos 8)) ∷ Moved 5 (at 1 (pos 8)) (at 1 (pos 10)) ∷ Moved 6 (at 1 (pos 10)) (at 1 (pos 10)) ∷ [];
})

-- A string gives its bytes; what it does not give is zero. It counts as a node and one more for each byte.
--   int main(void) { char a[5] = "abc"; char b[2][3] = { "d", "efg" }; return a[2] + a[3] + b[0][1] + b[1][2] -
--   b[0][0]; }
abbrev pub strings : CProgram
strings =
    main_of (in_memory (Array Char 5) 5 ∷ in_memory (Array (Array Char 3) 2) 6 ∷ [])
    (Declare (declares_with here 0 (CInitial.Text here (97 ∷ 98 ∷ 99 ∷ [])))
    ∷ Declare (declares_with here 1
    (CInitial.Braces here (parts (CInitial.Text here (100 ∷ []) ∷ CInitial.Text here (101 ∷ 102 ∷ 103 ∷ []) ∷ []))))
    ∷ gives
    (e Int
    (Binary op.Subtract
    (e Int
    (Binary op.Add
    (e Int
    (Binary op.Add (e Int (Binary op.Add (as_number Int (e Char (Index (array Char 5 0) (number 2))))
    (as_number Int (e Char (Index (array Char 5 0) (number 3))))))
    (as_number Int
    (e Char (Index (e (Pointer Char) (Convert conversion.ArrayToPointer (e (Array Char 3) (Index (array (Array Char 3) 2 1) (number 0))))) (number 1))))))
    (as_number Int (e Char (Index (e (Pointer Char) (Convert conversion.ArrayToPointer (e (Array Char 3) (Index (array (Array Char 3) 2 1) (number 1)))))
    (number 2))))))
    (as_number Int (e Char (Index (e (Pointer Char) (Convert conversion.ArrayToPointer (e (Array Char 3) (Index (array (Array Char 3) 2 1) (number 0)))))
    (number 0))))))
    ∷ [])

abbrev pub Strings : Type 0
Strings = Runs 4 strings [] 8 (record {
  ending = Exited 102;
  output = [];
  nodes = 40;
  bytes = 18;
  trail = Line 1 ∷ Line 1 ∷ Moved 0 (at 0 (pos 0)) (at 0 (pos 2)) ∷ Moved 1 (at 0 (pos 0)) (at 0 (pos 3)) ∷ Moved 2 (at 1 (pos 0)) (at 1 (pos 0))
      ∷ Moved 3 (at 1 (pos 0)) (at 1 (pos 1))
      ∷ Moved 4 (at 1 (pos 0)) (at 1 (pos 3)) ∷ Moved 5 (at 1 (pos 3)) (at 1 (pos 5)) ∷ Moved 6 (at 1 (pos 0)) (at 1 (pos 0))
      ∷ Moved 7 (at 1 (pos 0)) (at 1 (pos 0)) ∷ [];
})

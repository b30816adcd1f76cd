-- What small programs read and write, and how they compare pointers.
use Rattle.std.specs.Prelude.{[], ◌∷◌, pos}
use Rattle.bb_words.specs.declared.kinds.TrapKind.TheVariants as trap
use Rattle.c_words.specs.declared.operators.UnaryOperator.TheVariants as unary
use Rattle.c_words.specs.declared.operators.BinaryOperator.TheVariants as op
use Rattle.c_words.specs.declared.operators.AssignOperator.TheVariants as assign
use Rattle.typed_tree.specs.declared.typed.InitialByte.TheVariants as initial
use Rattle.typed_tree.specs.declared.typed.GlobalObject.TheVariants as object
use Rattle.typed_tree.specs.declared.typed_expr.Called.TheVariants.{Defined, Library}
use Rattle.typed_tree.specs.declared.typed_expr.LibCall.TheVariants as lib
use Rattle.typed_tree.specs.declared.typed_expr.Conversion.TheVariants as conversion
use Rattle.typed_tree.specs.Types.CType.{Void, Char, Int, Unsigned, Pointer, Array}
use Rattle.typed_tree.specs.TypedTree.CForm.{Global, Convert, Index, Call, Unary, Binary, Assign, Cast}
use Rattle.typed_tree.specs.TypedTree.CStmt.{Block, If}
use Rattle.source_meaning.specs.declared.values.OutsideCause.TheVariants as outside
use Rattle.source_meaning.specs.declared.values.Ending.TheVariants.{Exited, Trapped, Outside}
use Rattle.source_meaning.specs.Worlds.Mark.{Line, Moved}
use Rattle.source_meaning.specs.Examples.{here, e, number, local, named, array, as_number, set, does, gives, declared, starts, given}
use Rattle.source_meaning.specs.Examples.{given_none, block, variable, in_memory, function, global, program, main_of, below, at, Runs}
use Rattle.typed_tree.specs.TypedTree.{CProgram}

-- A word has its low byte first; a char keeps the low 8 bits of what it is given.
--   int main(void) { int a[2]; char *c = (char *)a; a[0] = 0x04030201; a[1] = -2; c[5] = 300; return c[0] + c[3] * 10
--   + (a[1] == -54018); }
abbrev pub little_endian : CProgram
little_endian =
    main_of (in_memory (Array Int 2) 8 ∷ variable (Pointer Char) ∷ [])
    (declared 0
    ∷ starts 1 (e (Pointer Char) (Cast (array Int 2 0)))
    ∷ does (set (e Int (Index (array Int 2 0) (number 0))) (number 67305985))
    ∷ does (set (e Int (Index (array Int 2 0) (number 1))) (e Int (Unary unary.Minus (number 2))))
    ∷ does (set (e Char (Index (named (Pointer Char) 1) (number 5))) (as_number Char (number 300)))
    ∷ gives
    (e Int
    (Binary op.Add
    (e Int
    (Binary op.Add (as_number Int (e Char (Index (named (Pointer Char) 1) (number 0))))
    (e Int (Binary op.Multiply (as_number Int (e Char (Index (named (Pointer Char) 1) (number 3)))) (number 10)))))
    (e Int (Binary op.Equal (e Int (Index (array Int 2 0) (number 1))) (e Int (Unary unary.Minus (number 54018)))))))
    ∷ [])

abbrev pub LittleEndian : Type 0
LittleEndian = Runs 4 little_endian [] 8 (record {
  ending = Exited 42;
  output = [];
  nodes = 42;
  bytes = 0;
  trail = Line 1 ∷ Line 1 ∷ Moved 0 (at 0 (pos 0)) (at 0 (pos 0)) ∷ Line 1 ∷ Moved 1 (at 0 (pos 0)) (at 0 (pos 4)) ∷ Line 1
      ∷ Moved 2 (at 0 (pos 0)) (at 0 (pos 5)) ∷ Line 1
      ∷ Moved 3 (at 0 (pos 0)) (at 0 (pos 0)) ∷ Moved 4 (at 0 (pos 0)) (at 0 (pos 3)) ∷ Moved 5 (at 0 (pos 0)) (at 0 (pos 4)) ∷ [];
})

-- Global objects hold at first what their initializers say, and strings are objects that end with a zero.
--   int z = 258; char *s = "xy"; int *p[2] = { 0, &z }; int main(void) { *p[1] += 1; return z + s[1] + s[2] + (p[0] ==
--   0); }
abbrev pub globals : CProgram
globals =
    program []
    (global Int 4 (initial.Byte 2 ∷ initial.Byte 1 ∷ [])
    ∷ global (Pointer Char) 4
    (initial.PointerPart (object.Text 0) 0 ∷ initial.PointerPart (object.Text 0) 1 ∷ initial.PointerPart (object.Text 0) 2
    ∷ initial.PointerPart (object.Text 0) 3 ∷ [])
    ∷ global (Array (Pointer Int) 2) 8
    (initial.Byte 0 ∷ initial.Byte 0 ∷ initial.Byte 0 ∷ initial.Byte 0 ∷ initial.PointerPart (object.Named 0) 0
    ∷ initial.PointerPart (object.Named 0) 1
    ∷ initial.PointerPart (object.Named 0) 2 ∷ initial.PointerPart (object.Named 0) 3 ∷ [])
    ∷ [])
    ((120 ∷ 121 ∷ []) ∷ [])
    (function 1 Int 0 []
    (Block here
    (block
    (does
    (e Int
    (Assign assign.Add
    (e Int
    (Unary unary.Dereference
    (e (Pointer Int) (Index (e (Pointer (Pointer Int)) (Convert conversion.ArrayToPointer (e (Array (Pointer Int) 2) (Global 2)))) (number 1)))))
    (number 1)))
    ∷ gives
    (e Int
    (Binary op.Add
    (e Int
    (Binary op.Add (e Int (Binary op.Add (e Int (Global 0)) (as_number Int (e Char (Index (e (Pointer Char) (Global 1)) (number 1))))))
    (as_number Int (e Char (Index (e (Pointer Char) (Global 1)) (number 2))))))
    (e Int
    (Binary op.Equal (e (Pointer Int) (Index (e (Pointer (Pointer Int)) (Convert conversion.ArrayToPointer (e (Array (Pointer Int) 2) (Global 2)))) (number 0)))
    (e (Pointer Int) (Convert conversion.NullToPointer (number 0)))))))
    ∷ [])))
    ∷ [])
    0

abbrev pub Globals : Type 0
Globals = Runs 4 globals [] 8 (record {
  ending = Exited 381;
  output = [];
  nodes = 25;
  bytes = 0;
  trail = Line 1 ∷ Line 1 ∷ Moved 0 (at 2 (pos 0)) (at 2 (pos 4)) ∷ Line 1 ∷ Moved 1 (at 3 (pos 0)) (at 3 (pos 1))
      ∷ Moved 2 (at 3 (pos 0)) (at 3 (pos 2)) ∷ Moved 3 (at 2 (pos 0)) (at 2 (pos 0))
      ∷ [];
})

-- A pointer outside of its block traps as such, be it misaligned or not.
--   int main(void) { char c[8]; return *(int *)(c + 17); }
abbrev pub marked_before_misaligned : CProgram
marked_before_misaligned =
    main_of (in_memory (Array Char 8) 8 ∷ [])
    (declared 0 ∷ gives (e Int (Unary unary.Dereference (e (Pointer Int) (Cast (e (Pointer Char) (Binary op.Add (array Char 8 0) (number 17))))))) ∷ [])

abbrev pub MarkedBeforeMisaligned : Type 0
MarkedBeforeMisaligned = Runs 4 marked_before_misaligned [] 8 (record {
  ending = Trapped trap.Marked;
  output = [];
  nodes = 9;
  bytes = 0;
  trail = Line 1 ∷ Line 1 ∷ Moved 0 (at 0 (pos 0)) (at 0 (pos 17)) ∷ [];
})

-- So does one at the end of the padding.
--   int main(void) { char c[10]; c[9] = 1; return c[16]; }
abbrev pub marked_at_the_padding : CProgram
marked_at_the_padding =
    main_of (in_memory (Array Char 10) 10 ∷ [])
    (declared 0 ∷ does (set (e Char (Index (array Char 10 0) (number 9))) (as_number Char (number 1)))
    ∷ gives (as_number Int (e Char (Index (array Char 10 0) (number 16)))) ∷ [])

abbrev pub MarkedAtThePadding : Type 0
MarkedAtThePadding = Runs 4 marked_at_the_padding [] 8 (record {
  ending = Trapped trap.Marked;
  output = [];
  nodes = 13;
  bytes = 0;
  trail = Line 1 ∷ Line 1 ∷ Moved 0 (at 0 (pos 0)) (at 0 (pos 9)) ∷ Line 1 ∷ Moved 1 (at 0 (pos 0)) (at 0 (pos 16)) ∷ [];
})

-- A misaligned pointer traps, be there bytes of the object or not.
--   int main(void) { char c[10]; return *(int *)(c + 9); }
abbrev pub misaligned_before_padding : CProgram
misaligned_before_padding =
    main_of (in_memory (Array Char 10) 10 ∷ [])
    (declared 0 ∷ gives (e Int (Unary unary.Dereference (e (Pointer Int) (Cast (e (Pointer Char) (Binary op.Add (array Char 10 0) (number 9))))))) ∷ [])

abbrev pub MisalignedBeforePadding : Type 0
MisalignedBeforePadding = Runs 4 misaligned_before_padding [] 8 (record {
  ending = Trapped trap.Misaligned;
  output = [];
  nodes = 9;
  bytes = 0;
  trail = Line 1 ∷ Line 1 ∷ Moved 0 (at 0 (pos 0)) (at 0 (pos 9)) ∷ [];
})

-- The bytes between the end of an object and that of its block are outside.
--   int main(void) { char b[10]; b[9] = 1; b[10] = 1; return 0; }
abbrev pub padding : CProgram
padding =
    main_of (in_memory (Array Char 10) 10 ∷ [])
    (declared 0
    ∷ does (set (e Char (Index (array Char 10 0) (number 9))) (as_number Char (number 1)))
    ∷ does (set (e Char (Index (array Char 10 0) (number 10))) (as_number Char (number 1)))
    ∷ gives (number 0)
    ∷ [])

abbrev pub Padding : Type 0
Padding = Runs 4 padding [] 8 (record {
  ending = Outside outside.Padding;
  output = [];
  nodes = 15;
  bytes = 0;
  trail = Line 1 ∷ Line 1 ∷ Moved 0 (at 0 (pos 0)) (at 0 (pos 9)) ∷ Line 1 ∷ Moved 1 (at 0 (pos 0)) (at 0 (pos 10)) ∷ [];
})

-- A pointer may be copied in pieces, and is one again where all its parts stand in order.
--   int main(void) { int x; int *p[2]; p[0] = &x; memcpy(p + 1, p, 3); memcpy((char *)p + 7, (char *)p + 3, 1); *p[1]
--   = 6; return x; }
abbrev pub pointers_in_pieces : CProgram
pointers_in_pieces =
    main_of (in_memory Int 4 ∷ in_memory (Array (Pointer Int) 2) 8 ∷ [])
    (declared 0
    ∷ declared 1
    ∷ does (set (e (Pointer Int) (Index (array (Pointer Int) 2 1) (number 0))) (e (Pointer Int) (Unary unary.Address (local 0))))
    ∷ does
    (e (Pointer Void)
    (Call (Library lib.Memcpy)
    (given
    (e (Pointer Void) (Convert conversion.PointerToPointer (e (Pointer (Pointer Int)) (Binary op.Add (array (Pointer Int) 2 1) (number 1))))
    ∷ e (Pointer Void) (Convert conversion.PointerToPointer (array (Pointer Int) 2 1))
    ∷ as_number Unsigned (number 3)
    ∷ []))))
    ∷ does
    (e (Pointer Void)
    (Call (Library lib.Memcpy)
    (given
    (e (Pointer Void) (Convert conversion.PointerToPointer (e (Pointer Char) (Binary op.Add (e (Pointer Char) (Cast (array (Pointer Int) 2 1))) (number 7))))
    ∷ e (Pointer Void) (Convert conversion.PointerToPointer (e (Pointer Char) (Binary op.Add (e (Pointer Char) (Cast (array (Pointer Int) 2 1))) (number 3))))
    ∷ as_number Unsigned (number 1)
    ∷ []))))
    ∷ does (set (e Int (Unary unary.Dereference (e (Pointer Int) (Index (array (Pointer Int) 2 1) (number 1))))) (number 6))
    ∷ gives (local 0)
    ∷ [])

abbrev pub PointersInPieces : Type 0
PointersInPieces = Runs 4 pointers_in_pieces [] 8 (record {
  ending = Exited 6;
  output = [];
  nodes = 38;
  bytes = 4;
  trail = Line 1 ∷ Line 1 ∷ Moved 0 (at 1 (pos 0)) (at 1 (pos 0)) ∷ Line 1 ∷ Moved 1 (at 1 (pos 0)) (at 1 (pos 4))
      ∷ Moved 2 (at 1 (pos 0)) (at 1 (pos 2)) ∷ Moved 3 (at 1 (pos 4)) (at 1 (pos 6))
      ∷ Line 1 ∷ Moved 4 (at 1 (pos 0)) (at 1 (pos 7)) ∷ Moved 5 (at 1 (pos 0)) (at 1 (pos 3)) ∷ Moved 6 (at 1 (pos 3)) (at 1 (pos 3))
      ∷ Moved 7 (at 1 (pos 7)) (at 1 (pos 7)) ∷ Line 1
      ∷ Moved 8 (at 1 (pos 0)) (at 1 (pos 4)) ∷ Line 1 ∷ [];
})

-- Out of order they make none.
--   int main(void) { int x; int *p[2]; p[0] = &x; memcpy(p + 1, p, 4); memcpy((char *)p + 4, (char *)p + 5, 1); return
--   p[1] == 0; }
abbrev pub parts_out_of_order : CProgram
parts_out_of_order =
    main_of (in_memory Int 4 ∷ in_memory (Array (Pointer Int) 2) 8 ∷ [])
    (declared 0
    ∷ declared 1
    ∷ does (set (e (Pointer Int) (Index (array (Pointer Int) 2 1) (number 0))) (e (Pointer Int) (Unary unary.Address (local 0))))
    ∷ does
    (e (Pointer Void)
    (Call (Library lib.Memcpy)
    (given
    (e (Pointer Void) (Convert conversion.PointerToPointer (e (Pointer (Pointer Int)) (Binary op.Add (array (Pointer Int) 2 1) (number 1))))
    ∷ e (Pointer Void) (Convert conversion.PointerToPointer (array (Pointer Int) 2 1))
    ∷ as_number Unsigned (number 4)
    ∷ []))))
    ∷ does
    (e (Pointer Void)
    (Call (Library lib.Memcpy)
    (given
    (e (Pointer Void) (Convert conversion.PointerToPointer (e (Pointer Char) (Binary op.Add (e (Pointer Char) (Cast (array (Pointer Int) 2 1))) (number 4))))
    ∷ e (Pointer Void) (Convert conversion.PointerToPointer (e (Pointer Char) (Binary op.Add (e (Pointer Char) (Cast (array (Pointer Int) 2 1))) (number 5))))
    ∷ as_number Unsigned (number 1)
    ∷ []))))
    ∷ gives (e Int (Binary op.Equal (e (Pointer Int) (Index (array (Pointer Int) 2 1) (number 1)))
    (e (Pointer Int) (Convert conversion.NullToPointer (number 0)))))
    ∷ [])

abbrev pub PartsOutOfOrder : Type 0
PartsOutOfOrder = Runs 4 parts_out_of_order [] 8 (record {
  ending = Outside outside.Forged;
  output = [];
  nodes = 34;
  bytes = 5;
  trail = Line 1 ∷ Line 1 ∷ Moved 0 (at 1 (pos 0)) (at 1 (pos 0)) ∷ Line 1 ∷ Moved 1 (at 1 (pos 0)) (at 1 (pos 4))
      ∷ Moved 2 (at 1 (pos 0)) (at 1 (pos 3)) ∷ Moved 3 (at 1 (pos 4)) (at 1 (pos 7))
      ∷ Line 1 ∷ Moved 4 (at 1 (pos 0)) (at 1 (pos 4)) ∷ Moved 5 (at 1 (pos 0)) (at 1 (pos 5)) ∷ Moved 6 (at 1 (pos 5)) (at 1 (pos 5))
      ∷ Moved 7 (at 1 (pos 4)) (at 1 (pos 4)) ∷ Line 1
      ∷ Moved 8 (at 1 (pos 0)) (at 1 (pos 4)) ∷ [];
})

-- A part of another pointer, or a number but 0, makes none.
--   int main(void) { int x = 0; int **q = (int **)&x; int n = *q == 0; x = 4096; return *q == 0; }
abbrev pub forged : CProgram
forged =
    main_of (in_memory Int 4 ∷ variable (Pointer (Pointer Int)) ∷ variable Int ∷ [])
    (starts 0 (number 0)
    ∷ starts 1 (e (Pointer (Pointer Int)) (Cast (e (Pointer Int) (Unary unary.Address (local 0)))))
    ∷ starts 2 (e Int (Binary op.Equal (e (Pointer Int) (Unary unary.Dereference (named (Pointer (Pointer Int)) 1)))
    (e (Pointer Int) (Convert conversion.NullToPointer (number 0)))))
    ∷ does (set (local 0) (number 4096))
    ∷ gives (e Int (Binary op.Equal (e (Pointer Int) (Unary unary.Dereference (named (Pointer (Pointer Int)) 1)))
    (e (Pointer Int) (Convert conversion.NullToPointer (number 0)))))
    ∷ [])

abbrev pub Forged : Type 0
Forged = Runs 4 forged [] 8 (record {
  ending = Outside outside.Forged;
  output = [];
  nodes = 21;
  bytes = 4;
  trail = Line 1 ∷ Line 1 ∷ Line 1 ∷ [];
})

-- Nor is a part of a pointer a number.
--   int main(void) { int x; int *p = &x; return *(char *)&p; }
abbrev pub parts_are_no_numbers : CProgram
parts_are_no_numbers =
    main_of (in_memory Int 4 ∷ in_memory (Pointer Int) 4 ∷ [])
    (declared 0
    ∷ starts 1 (e (Pointer Int) (Unary unary.Address (local 0)))
    ∷ gives (as_number Int (e Char
    (Unary unary.Dereference (e (Pointer Char) (Cast (e (Pointer (Pointer Int)) (Unary unary.Address (named (Pointer Int) 1))))))))
    ∷ [])

abbrev pub PartsAreNoNumbers : Type 0
PartsAreNoNumbers = Runs 4 parts_are_no_numbers [] 8 (record {
  ending = Outside outside.Parts;
  output = [];
  nodes = 11;
  bytes = 4;
  trail = Line 1 ∷ Line 1 ∷ [];
})

-- A pointer to an object that has ended may be kept, given on, and followed to no access.
--   char *f(void) { char x; return &x; } int main(void) { char *p = f(); char *q = p; (void)p; q = &*p; memcpy(q, p,
--   0); return 3; }
abbrev pub dead_may_be_kept : CProgram
dead_may_be_kept =
    program [] [] []
    (function 1 (Pointer Char) 0 (in_memory Char 1 ∷ [])
    (Block here (block (declared 0 ∷ gives (e (Pointer Char) (Unary unary.Address (named Char 0))) ∷ [])))
    ∷ function 1 Int 0 (variable (Pointer Char) ∷ variable (Pointer Char) ∷ [])
    (Block here
    (block
    (starts 0 (e (Pointer Char) (Call (Defined 0) given_none))
    ∷ starts 1 (named (Pointer Char) 0)
    ∷ does (e Void (Cast (named (Pointer Char) 0)))
    ∷ does (set (named (Pointer Char) 1) (e (Pointer Char) (Unary unary.Address (e Char (Unary unary.Dereference (named (Pointer Char) 0))))))
    ∷ does
    (e (Pointer Void)
    (Call (Library lib.Memcpy)
    (given
    (e (Pointer Void) (Convert conversion.PointerToPointer (named (Pointer Char) 1))
    ∷ e (Pointer Void) (Convert conversion.PointerToPointer (named (Pointer Char) 0))
    ∷ as_number Unsigned (number 0)
    ∷ []))))
    ∷ gives (number 3)
    ∷ [])))
    ∷ [])
    1

abbrev pub DeadMayBeKept : Type 0
DeadMayBeKept = Runs 4 dead_may_be_kept [] 8 (record {
  ending = Exited 3;
  output = [];
  nodes = 28;
  bytes = 0;
  trail = Line 1 ∷ Line 1 ∷ Line 1 ∷ Line 1 ∷ Line 1 ∷ Line 1 ∷ Line 1 ∷ [];
})

-- It may not be compared, not even with itself.
--   char *f(void) { char x; return &x; } int main(void) { char *p = f(); return p == p; }
abbrev pub dead_is_not_compared : CProgram
dead_is_not_compared =
    program [] [] []
    (function 1 (Pointer Char) 0 (in_memory Char 1 ∷ [])
    (Block here (block (declared 0 ∷ gives (e (Pointer Char) (Unary unary.Address (named Char 0))) ∷ [])))
    ∷ function 1 Int 0 (variable (Pointer Char) ∷ [])
    (Block here (block (starts 0 (e (Pointer Char) (Call (Defined 0) given_none))
    ∷ gives (e Int (Binary op.Equal (named (Pointer Char) 0) (named (Pointer Char) 0))) ∷ [])))
    ∷ [])
    1

abbrev pub DeadIsNotCompared : Type 0
DeadIsNotCompared = Runs 4 dead_is_not_compared [] 8 (record {
  ending = Outside outside.Dead;
  output = [];
  nodes = 14;
  bytes = 0;
  trail = Line 1 ∷ Line 1 ∷ Line 1 ∷ Line 1 ∷ [];
})

-- Nor tested.
--   char *f(void) { char x; return &x; } int main(void) { char *p = f(); if (p) return 1; return 2; }
abbrev pub dead_is_not_tested : CProgram
dead_is_not_tested =
    program [] [] []
    (function 1 (Pointer Char) 0 (in_memory Char 1 ∷ [])
    (Block here (block (declared 0 ∷ gives (e (Pointer Char) (Unary unary.Address (named Char 0))) ∷ [])))
    ∷ function 1 Int 0 (variable (Pointer Char) ∷ [])
    (Block here (block (starts 0 (e (Pointer Char) (Call (Defined 0) given_none)) ∷ If here (named (Pointer Char) 0) (gives (number 1)) ∷ gives (number 2)
    ∷ [])))
    ∷ [])
    1

abbrev pub DeadIsNotTested : Type 0
DeadIsNotTested = Runs 4 dead_is_not_tested [] 8 (record {
  ending = Outside outside.Dead;
  output = [];
  nodes = 12;
  bytes = 0;
  trail = Line 1 ∷ Line 1 ∷ Line 1 ∷ Line 1 ∷ [];
})

-- Nor ordered; that comes before the question of one object.
--   char *f(void) { char x; return &x; } int main(void) { char *p = f(); return p < (char *)0; }
abbrev pub dead_before_across : CProgram
dead_before_across =
    program [] [] []
    (function 1 (Pointer Char) 0 (in_memory Char 1 ∷ [])
    (Block here (block (declared 0 ∷ gives (e (Pointer Char) (Unary unary.Address (named Char 0))) ∷ [])))
    ∷ function 1 Int 0 (variable (Pointer Char) ∷ [])
    (Block here (block (starts 0 (e (Pointer Char) (Call (Defined 0) given_none))
    ∷ gives (e Int (Binary op.Less (named (Pointer Char) 0) (e (Pointer Char) (Cast (number 0))))) ∷ [])))
    ∷ [])
    1

abbrev pub DeadBeforeAcross : Type 0
DeadBeforeAcross = Runs 4 dead_before_across [] 8 (record {
  ending = Outside outside.Dead;
  output = [];
  nodes = 15;
  bytes = 0;
  trail = Line 1 ∷ Line 1 ∷ Line 1 ∷ Line 1 ∷ [];
})

-- Pointers to two objects are unequal, even where one points past the end and the other to the start.
--   char x[16], y[16]; int main(void) { return (x + 16 == y) + 2 * (x != y) + 4 * (x - 1 < x) + 8 * (x + 17 >= x +
--   17); }
abbrev pub apart : CProgram
apart =
    program [] (global (Array Char 16) 16 [] ∷ global (Array Char 16) 16 [] ∷ []) []
    (function 1 Int 0 []
    (Block here
    (block
    (gives
    (e Int
    (Binary op.Add
    (e Int
    (Binary op.Add
    (e Int
    (Binary op.Add
    (e Int
    (Binary op.Equal (e (Pointer Char) (Binary op.Add (e (Pointer Char) (Convert conversion.ArrayToPointer (e (Array Char 16) (Global 0)))) (number 16)))
    (e (Pointer Char) (Convert conversion.ArrayToPointer (e (Array Char 16) (Global 1))))))
    (e Int
    (Binary op.Multiply (number 2)
    (e Int
    (Binary op.NotEqual (e (Pointer Char) (Convert conversion.ArrayToPointer (e (Array Char 16) (Global 0))))
    (e (Pointer Char) (Convert conversion.ArrayToPointer (e (Array Char 16) (Global 1))))))))))
    (e Int
    (Binary op.Multiply (number 4)
    (e Int
    (Binary op.Less
    (e (Pointer Char) (Binary op.Subtract (e (Pointer Char) (Convert conversion.ArrayToPointer (e (Array Char 16) (Global 0)))) (number 1)))
    (e (Pointer Char) (Convert conversion.ArrayToPointer (e (Array Char 16) (Global 0))))))))))
    (e Int
    (Binary op.Multiply (number 8)
    (e Int
    (Binary op.GreaterEqual (e (Pointer Char) (Binary op.Add (e (Pointer Char) (Convert conversion.ArrayToPointer (e (Array Char 16) (Global 0)))) (number 17)))
    (e (Pointer Char) (Binary op.Add (e (Pointer Char) (Convert conversion.ArrayToPointer (e (Array Char 16) (Global 0)))) (number 17)))))))))
    ∷ [])))
    ∷ [])
    0

abbrev pub Apart : Type 0
Apart = Runs 4 apart [] 8 (record {
  ending = Exited 14;
  output = [];
  nodes = 32;
  bytes = 0;
  trail = Line 1 ∷ Line 1 ∷ Moved 0 (at 0 (pos 0)) (at 0 (pos 16)) ∷ Moved 1 (at 0 (pos 0)) (at 0 (below 1)) ∷ Moved 2 (at 0 (pos 0)) (at 0 (pos 17))
      ∷ Moved 3 (at 0 (pos 0)) (at 0 (pos 17)) ∷ [];
})

-- They are not ordered.
--   char x[16], y[16]; int main(void) { return x < y; }
abbrev pub across : CProgram
across =
    program [] (global (Array Char 16) 16 [] ∷ global (Array Char 16) 16 [] ∷ []) []
    (function 1 Int 0 []
    (Block here
    (block
    (gives
    (e Int
    (Binary op.Less (e (Pointer Char) (Convert conversion.ArrayToPointer (e (Array Char 16) (Global 0))))
    (e (Pointer Char) (Convert conversion.ArrayToPointer (e (Array Char 16) (Global 1))))))
    ∷ [])))
    ∷ [])
    0

abbrev pub Across : Type 0
Across = Runs 4 across [] 8 (record {
  ending = Outside outside.Across;
  output = [];
  nodes = 6;
  bytes = 0;
  trail = Line 1 ∷ Line 1 ∷ [];
})

-- A difference is rounded toward zero: 7 bytes are one int, and -7 bytes are -1.
--   int main(void) { char a[16]; int *p = (int *)(a + 7); int *q = (int *)a; return (p - q) * 10 + (q - p) + 1; }
abbrev pub difference : CProgram
difference =
    main_of (in_memory (Array Char 16) 16 ∷ variable (Pointer Int) ∷ variable (Pointer Int) ∷ [])
    (declared 0
    ∷ starts 1 (e (Pointer Int) (Cast (e (Pointer Char) (Binary op.Add (array Char 16 0) (number 7)))))
    ∷ starts 2 (e (Pointer Int) (Cast (array Char 16 0)))
    ∷ gives
    (e Int
    (Binary op.Add
    (e Int
    (Binary op.Add (e Int (Binary op.Multiply (e Int (Binary op.Subtract (named (Pointer Int) 1) (named (Pointer Int) 2))) (number 10)))
    (e Int (Binary op.Subtract (named (Pointer Int) 2) (named (Pointer Int) 1)))))
    (number 1)))
    ∷ [])

abbrev pub Difference : Type 0
Difference = Runs 4 difference [] 8 (record {
  ending = Exited 10;
  output = [];
  nodes = 23;
  bytes = 0;
  trail = Line 1 ∷ Moved 0 (at 0 (pos 0)) (at 0 (pos 7)) ∷ Line 1 ∷ [];
})

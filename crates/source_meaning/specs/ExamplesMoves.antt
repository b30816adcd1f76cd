-- How pointers are moved in small programs: to the last place that they may reach, and one further.
use Rattle.std.specs.Prelude.{[], ◌∷◌, Some, pos}
use Rattle.bb_words.specs.declared.kinds.ReportKind.TheVariants as report
use Rattle.c_words.specs.declared.operators.UnaryOperator.TheVariants as unary
use Rattle.c_words.specs.declared.operators.StepOperator.TheVariants as step
use Rattle.c_words.specs.declared.operators.BinaryOperator.TheVariants as op
use Rattle.c_words.specs.declared.operators.AssignOperator.TheVariants as assign
use Rattle.typed_tree.specs.declared.typed_expr.Called.TheVariants.{Defined}
use Rattle.typed_tree.specs.declared.typed_expr.Conversion.TheVariants as conversion
use Rattle.typed_tree.specs.Types.CType.{Char, Int, Unsigned, Struct, Pointer, Array}
use Rattle.typed_tree.specs.TypedTree.{CInitial, CStart, CProgram}
use Rattle.typed_tree.specs.TypedTree.CForm.{Local, Number, Convert, Index, Call, Member, Arrow, StepBefore}
use Rattle.typed_tree.specs.TypedTree.CForm.{StepAfter, Unary, Binary, Conditional, Assign, Comma, SizeofExpression}
use Rattle.typed_tree.specs.TypedTree.CStmt.{Block, Declare, Eval, If, IfElse, While, Do, For, Return}
use Rattle.source_meaning.specs.declared.values.Ending.TheVariants.{Exited, Reported}
use Rattle.source_meaning.specs.Worlds.Mark.{Line, Moved}
use Rattle.source_meaning.specs.Examples.{on, here, e_on, e, number, local, named, array, as_number, set, does, gives, declared, starts, given, parts}
use Rattle.source_meaning.specs.Examples.{declares, declares_with, block, variable, in_memory, function, member, struct, program, main_of, below, at, Runs}

-- The last places on both sides of 16 bytes are 23 and -8; an index, `+`, `+=` and `--` lead there.
--   int main(void) { char a[16]; char *p; p = a + 23; p = &a[-8]; p += 31; p--; return p - a; }
abbrev pub within_reach : CProgram
within_reach =
    main_of (in_memory (Array Char 16) 16 ∷ variable (Pointer Char) ∷ [])
    (declared 0
    ∷ declared 1
    ∷ does (set (named (Pointer Char) 1) (e (Pointer Char) (Binary op.Add (array Char 16 0) (number 23))))
    ∷ does (set (named (Pointer Char) 1) (e (Pointer Char) (Unary unary.Address (e Char (Index (array Char 16 0) (e Int (Unary unary.Minus (number 8))))))))
    ∷ does (e (Pointer Char) (Assign assign.Add (named (Pointer Char) 1) (number 31)))
    ∷ does (e (Pointer Char) (StepAfter step.Decrement (named (Pointer Char) 1)))
    ∷ gives (e Int (Binary op.Subtract (named (Pointer Char) 1) (array Char 16 0)))
    ∷ [])

abbrev pub WithinReach : Type 0
WithinReach = Runs 4 within_reach [] 8 (record {
  ending = Exited 22;
  output = [];
  nodes = 29;
  bytes = 0;
  trail = Line 1 ∷ Line 1 ∷ Moved 0 (at 0 (pos 0)) (at 0 (pos 23)) ∷ Line 1 ∷ Moved 1 (at 0 (pos 0)) (at 0 (below 8)) ∷ Line 1
      ∷ Moved 2 (at 0 (below 8)) (at 0 (pos 23)) ∷ Line 1
      ∷ Moved 3 (at 0 (pos 23)) (at 0 (pos 22)) ∷ Line 1 ∷ [];
})

-- One byte further is reported, with the line of the operator.
--   1 | int main(void) {
--   2 |   char a[16];
--   3 |   char *p;
--   4 |   p = a
--   5 |     + 24;
--   6 |   return 0;
--   7 | }
abbrev pub past_the_end : CProgram
past_the_end =
    main_of (in_memory (Array Char 16) 16 ∷ variable (Pointer Char) ∷ [])
    (Declare (declares (on 2) 0)
    ∷ Declare (declares (on 3) 1)
    ∷ Eval (on 4)
    (e_on 4 (Pointer Char)
    (Assign assign.Assign (e_on 4 (Pointer Char) (Local 1))
    (e_on 5 (Pointer Char) (Binary op.Add (e_on 4 (Pointer Char) (Convert conversion.ArrayToPointer (e_on 4 (Array Char 16) (Local 0))))
    (e_on 5 Int (Number 24))))))
    ∷ Return (on 6) (Some (e_on 6 Int (Number 0)))
    ∷ [])

abbrev pub PastTheEnd : Type 0
PastTheEnd = Runs 4 past_the_end [] 8 (record {
  ending = Reported report.Bounds 5;
  output = [];
  nodes = 10;
  bytes = 0;
  trail = Line 1 ∷ Line 4 ∷ [];
})

-- So is one byte further below.
--   int main(void) { char a[16]; char *p = &a[-9]; return 0; }
abbrev pub below_the_start : CProgram
below_the_start =
    main_of (in_memory (Array Char 16) 16 ∷ variable (Pointer Char) ∷ [])
    (declared 0 ∷ starts 1 (e (Pointer Char) (Unary unary.Address (e Char (Index (array Char 16 0) (e Int (Unary unary.Minus (number 9)))))))
    ∷ gives (number 0) ∷ [])

abbrev pub BelowTheStart : Type 0
BelowTheStart = Runs 4 below_the_start [] 8 (record {
  ending = Reported report.Bounds 1;
  output = [];
  nodes = 9;
  bytes = 0;
  trail = Line 1 ∷ [];
})

-- With slots of 32 bytes an int array of 16 bytes is padded to 32, and half a slot is 16: `a + 11` is the last place
-- above.
--   int main(void) { int a[4]; int *p = a + 11; ++p; return 0; }
abbrev pub wide_slots_above : CProgram
wide_slots_above =
    main_of (in_memory (Array Int 4) 16 ∷ variable (Pointer Int) ∷ [])
    (declared 0
    ∷ starts 1 (e (Pointer Int) (Binary op.Add (array Int 4 0) (number 11)))
    ∷ does (e (Pointer Int) (StepBefore step.Increment (named (Pointer Int) 1)))
    ∷ gives (number 0)
    ∷ [])

abbrev pub WideSlotsAbove : Type 0
WideSlotsAbove = Runs 5 wide_slots_above [] 8 (record {
  ending = Reported report.Bounds 1;
  output = [];
  nodes = 10;
  bytes = 0;
  trail = Line 1 ∷ Moved 0 (at 0 (pos 0)) (at 0 (pos 44)) ∷ Line 1 ∷ [];
})

-- And `a - 4` is the last one below.
--   int main(void) { int a[4]; int *p = a - 4; p -= 1; return 0; }
abbrev pub wide_slots_below : CProgram
wide_slots_below =
    main_of (in_memory (Array Int 4) 16 ∷ variable (Pointer Int) ∷ [])
    (declared 0
    ∷ starts 1 (e (Pointer Int) (Binary op.Subtract (array Int 4 0) (number 4)))
    ∷ does (e (Pointer Int) (Assign assign.Subtract (named (Pointer Int) 1) (number 1)))
    ∷ gives (number 0)
    ∷ [])

abbrev pub WideSlotsBelow : Type 0
WideSlotsBelow = Runs 5 wide_slots_below [] 8 (record {
  ending = Reported report.Bounds 1;
  output = [];
  nodes = 11;
  bytes = 0;
  trail = Line 1 ∷ Moved 0 (at 0 (pos 0)) (at 0 (below 16)) ∷ Line 1 ∷ [];
})

-- A member is reached by a move, but not the one that lies at offset 0. The moves of the first function have the first
-- numbers.
--   struct s { int a; int b; char c[6]; }; int g(char *q) { return q[2]; } int main(void) { struct s v; struct s *p =
--   &v; v.b = 3; p->a = 4; p->c[2] = v.b + p->a; return g(v.c); }
abbrev pub members : CProgram
members =
    program (struct 16 4 (member Int 0 ∷ member Int 4 ∷ member (Array Char 6) 8 ∷ []) ∷ []) [] []
    (function 1 Int 1 (variable (Pointer Char) ∷ []) (Block here (block (gives (as_number Int (e Char (Index (named (Pointer Char) 0) (number 2)))) ∷ [])))
    ∷ function 1 Int 0 (in_memory (Struct 0) 16 ∷ variable (Pointer (Struct 0)) ∷ [])
    (Block here
    (block
    (declared 0
    ∷ starts 1 (e (Pointer (Struct 0)) (Unary unary.Address (named (Struct 0) 0)))
    ∷ does (set (e Int (Member (named (Struct 0) 0) 1)) (number 3))
    ∷ does (set (e Int (Arrow (named (Pointer (Struct 0)) 1) 0)) (number 4))
    ∷ does
    (set (e Char (Index (e (Pointer Char) (Convert conversion.ArrayToPointer (e (Array Char 6) (Arrow (named (Pointer (Struct 0)) 1) 2)))) (number 2)))
    (as_number Char (e Int (Binary op.Add (e Int (Member (named (Struct 0) 0) 1)) (e Int (Arrow (named (Pointer (Struct 0)) 1) 0))))))
    ∷ gives (e Int (Call (Defined 0)
    (given (e (Pointer Char) (Convert conversion.ArrayToPointer (e (Array Char 6) (Member (named (Struct 0) 0) 2))) ∷ []))))
    ∷ [])))
    ∷ [])
    1

abbrev pub Members : Type 0
Members = Runs 4 members [] 8 (record {
  ending = Exited 7;
  output = [];
  nodes = 38;
  bytes = 0;
  trail = Line 1 ∷ Line 1 ∷ Moved 1 (at 0 (pos 0)) (at 0 (pos 4)) ∷ Line 1 ∷ Line 1 ∷ Moved 2 (at 0 (pos 0)) (at 0 (pos 8))
      ∷ Moved 3 (at 0 (pos 8)) (at 0 (pos 10))
      ∷ Moved 4 (at 0 (pos 0)) (at 0 (pos 4)) ∷ Line 1 ∷ Moved 5 (at 0 (pos 0)) (at 0 (pos 8)) ∷ Line 1 ∷ Line 1
      ∷ Moved 0 (at 0 (pos 8)) (at 0 (pos 10)) ∷ [];
})

-- The distance of an index wraps: 0x40000000 ints are no bytes at all.
--   int main(void) { int a[1]; a[0x40000000] = 5; return a[0]; }
abbrev pub wrapped_distance : CProgram
wrapped_distance =
    main_of (in_memory (Array Int 1) 4 ∷ [])
    (declared 0 ∷ does (set (e Int (Index (array Int 1 0) (number 1073741824))) (number 5)) ∷ gives (e Int (Index (array Int 1 0) (number 0))) ∷ [])

abbrev pub WrappedDistance : Type 0
WrappedDistance = Runs 4 wrapped_distance [] 8 (record {
  ending = Exited 5;
  output = [];
  nodes = 13;
  bytes = 0;
  trail = Line 1 ∷ Line 1 ∷ Moved 0 (at 0 (pos 0)) (at 0 (pos 0)) ∷ Line 1 ∷ Moved 1 (at 0 (pos 0)) (at 0 (pos 0)) ∷ [];
})

-- The null pointer does not move, not even by 0.
--   int main(void) { int *p = 0; return p + 0 == p; }
abbrev pub null_does_not_move : CProgram
null_does_not_move =
    main_of (variable (Pointer Int) ∷ [])
    (starts 0 (e (Pointer Int) (Convert conversion.NullToPointer (number 0)))
    ∷ gives (e Int (Binary op.Equal (e (Pointer Int) (Binary op.Add (named (Pointer Int) 0) (number 0))) (named (Pointer Int) 0)))
    ∷ [])

abbrev pub NullDoesNotMove : Type 0
NullDoesNotMove = Runs 4 null_does_not_move [] 8 (record {
  ending = Reported report.Bounds 1;
  output = [];
  nodes = 9;
  bytes = 0;
  trail = Line 1 ∷ Line 1 ∷ [];
})

-- The parts of expressions, statements and initializers have theirs in order, be they evaluated or not.
--   int h(int x, int y) { return x + y; } int main(void) { int a[4] = { 1 }; int b[2] = { a[0], a[1] }; int x = (a[1]
--   ? a[2] : a[3]) + (a[0] ? a[1] : a[2]); if (a[0]) b[1] = 2; if (a[1]) a[2] = 5; else a[a[3]] = a[0]; while (b[0] <
--   2) b[0]++; return (h(a[0], b[0]), b[1] && a[1] || a[2]) + x; }
abbrev pub sites_of_parts : CProgram
sites_of_parts =
    program [] [] []
    (function 1 Int 2 (variable Int ∷ variable Int ∷ []) (Block here (block (gives (e Int (Binary op.Add (local 0) (local 1))) ∷ [])))
    ∷ function 1 Int 0 (in_memory (Array Int 4) 16 ∷ in_memory (Array Int 2) 8 ∷ variable Int ∷ [])
    (Block here
    (block
    (Declare (declares_with here 0 (CInitial.Braces here (parts (CInitial.Value (number 1) ∷ []))))
    ∷ Declare
    (declares_with here 1
    (CInitial.Braces here (parts (CInitial.Value (e Int (Index (array Int 4 0) (number 0))) ∷ CInitial.Value (e Int (Index (array Int 4 0) (number 1)))
    ∷ []))))
    ∷ starts 2
    (e Int
    (Binary op.Add (e Int (Conditional (e Int (Index (array Int 4 0) (number 1))) (e Int (Index (array Int 4 0) (number 2)))
    (e Int (Index (array Int 4 0) (number 3)))))
    (e Int (Conditional (e Int (Index (array Int 4 0) (number 0))) (e Int (Index (array Int 4 0) (number 1))) (e Int (Index (array Int 4 0) (number 2)))))))
    ∷ If here (e Int (Index (array Int 4 0) (number 0))) (does (set (e Int (Index (array Int 2 1) (number 1))) (number 2)))
    ∷ IfElse here (e Int (Index (array Int 4 0) (number 1))) (does (set (e Int (Index (array Int 4 0) (number 2))) (number 5)))
    (does (set (e Int (Index (array Int 4 0) (e Int (Index (array Int 4 0) (number 3))))) (e Int (Index (array Int 4 0) (number 0)))))
    ∷ While here (e Int (Binary op.Less (e Int (Index (array Int 2 1) (number 0))) (number 2)))
    (does (e Int (StepAfter step.Increment (e Int (Index (array Int 2 1) (number 0))))))
    ∷ gives
    (e Int
    (Binary op.Add
    (e Int
    (Comma (e Int (Call (Defined 0) (given (e Int (Index (array Int 4 0) (number 0)) ∷ e Int (Index (array Int 2 1) (number 0)) ∷ []))))
    (e Int
    (Binary op.LogicalOr (e Int (Binary op.LogicalAnd (e Int (Index (array Int 2 1) (number 1))) (e Int (Index (array Int 4 0) (number 1)))))
    (e Int (Index (array Int 4 0) (number 2)))))))
    (local 2)))
    ∷ [])))
    ∷ [])
    1

abbrev pub SitesOfParts : Type 0
SitesOfParts = Runs 4 sites_of_parts [] 8 (record {
  ending = Exited 0;
  output = [];
  nodes = 97;
  bytes = 36;
  trail = Line 1 ∷ Moved 0 (at 0 (pos 0)) (at 0 (pos 0)) ∷ Moved 1 (at 0 (pos 0)) (at 0 (pos 4)) ∷ Moved 2 (at 0 (pos 0)) (at 0 (pos 4))
      ∷ Moved 4 (at 0 (pos 0)) (at 0 (pos 12))
      ∷ Moved 5 (at 0 (pos 0)) (at 0 (pos 0)) ∷ Moved 6 (at 0 (pos 0)) (at 0 (pos 4)) ∷ Line 1 ∷ Moved 8 (at 0 (pos 0)) (at 0 (pos 0)) ∷ Line 1
      ∷ Moved 9 (at 1 (pos 0)) (at 1 (pos 4)) ∷ Line 1
      ∷ Moved 10 (at 0 (pos 0)) (at 0 (pos 4)) ∷ Line 1 ∷ Moved 12 (at 0 (pos 0)) (at 0 (pos 12)) ∷ Moved 13 (at 0 (pos 0)) (at 0 (pos 0))
      ∷ Moved 14 (at 0 (pos 0)) (at 0 (pos 0)) ∷ Line 1
      ∷ Moved 15 (at 1 (pos 0)) (at 1 (pos 0)) ∷ Line 1 ∷ Moved 16 (at 1 (pos 0)) (at 1 (pos 0)) ∷ Moved 15 (at 1 (pos 0)) (at 1 (pos 0)) ∷ Line 1
      ∷ Moved 17 (at 0 (pos 0)) (at 0 (pos 0))
      ∷ Moved 18 (at 1 (pos 0)) (at 1 (pos 0)) ∷ Line 1 ∷ Line 1 ∷ Moved 19 (at 1 (pos 0)) (at 1 (pos 4)) ∷ Moved 20 (at 0 (pos 0)) (at 0 (pos 4))
      ∷ Moved 21 (at 0 (pos 0)) (at 0 (pos 8)) ∷ [];
})

-- The numbers of moves follow the text: in `for` the step comes before the body, in `do` the body before the condition;
-- what `sizeof` measures has none.
--   int main(void) { int a[9]; int i; int *p = a; for (i = 0; a[i] == 0 && i < 1; a[i + 1] = i++) a[i + 4] = 5; do
--   *p++ = 1; while (p[1]); return sizeof a[1] + *(a + 4); }
abbrev pub sites_in_order : CProgram
sites_in_order =
    main_of (in_memory (Array Int 9) 36 ∷ variable Int ∷ variable (Pointer Int) ∷ [])
    (declared 0
    ∷ declared 1
    ∷ starts 2 (array Int 9 0)
    ∷ For here (CStart.Eval (set (local 1) (number 0)))
    (Some (e Int (Binary op.LogicalAnd (e Int (Binary op.Equal (e Int (Index (array Int 9 0) (local 1))) (number 0)))
    (e Int (Binary op.Less (local 1) (number 1))))))
    (Some (set (e Int (Index (array Int 9 0) (e Int (Binary op.Add (local 1) (number 1))))) (e Int (StepAfter step.Increment (local 1)))))
    (does (set (e Int (Index (array Int 9 0) (e Int (Binary op.Add (local 1) (number 4))))) (number 5)))
    ∷ Do here (does (set (e Int (Unary unary.Dereference (e (Pointer Int) (StepAfter step.Increment (named (Pointer Int) 2))))) (number 1)))
    (e Int (Index (named (Pointer Int) 2) (number 1)))
    ∷ gives
    (as_number Int
    (e Unsigned
    (Binary op.Add (e Unsigned (SizeofExpression (e Int (Index (array Int 9 0) (number 1)))))
    (as_number Unsigned (e Int (Unary unary.Dereference (e (Pointer Int) (Binary op.Add (array Int 9 0) (number 4)))))))))
    ∷ [])

abbrev pub SitesInOrder : Type 0
SitesInOrder = Runs 4 sites_in_order [] 8 (record {
  ending = Exited 9;
  output = [];
  nodes = 61;
  bytes = 0;
  trail = Line 1 ∷ Line 1 ∷ Moved 0 (at 0 (pos 0)) (at 0 (pos 0)) ∷ Line 1 ∷ Moved 2 (at 0 (pos 0)) (at 0 (pos 16))
      ∷ Moved 1 (at 0 (pos 0)) (at 0 (pos 4)) ∷ Moved 0 (at 0 (pos 0)) (at 0 (pos 4))
      ∷ Line 1 ∷ Line 1 ∷ Moved 3 (at 0 (pos 0)) (at 0 (pos 4)) ∷ Moved 4 (at 0 (pos 4)) (at 0 (pos 8)) ∷ Line 1
      ∷ Moved 5 (at 0 (pos 0)) (at 0 (pos 16)) ∷ [];
})

-- Numbers, loops, calls, the heap and the outside in small programs, and where runs are cut.
use Rattle.std.specs.Prelude.{[], ◌∷◌, Some, pos}
use Rattle.bb_words.specs.declared.kinds.ReportKind.TheVariants as report
use Rattle.c_words.specs.declared.operators.UnaryOperator.TheVariants as unary
use Rattle.c_words.specs.declared.operators.StepOperator.TheVariants as step
use Rattle.c_words.specs.declared.operators.BinaryOperator.TheVariants as op
use Rattle.c_words.specs.declared.operators.AssignOperator.TheVariants as assign
use Rattle.typed_tree.specs.declared.typed_expr.Called.TheVariants.{Defined, Library}
use Rattle.typed_tree.specs.declared.typed_expr.LibCall.TheVariants as lib
use Rattle.typed_tree.specs.declared.typed_expr.Conversion.TheVariants as conversion
use Rattle.typed_tree.specs.Types.CType.{Void, Char, Int, Unsigned, Pointer, Array}
use Rattle.typed_tree.specs.TypedTree.{CStart, CStmts, CProgram}
use Rattle.typed_tree.specs.TypedTree.CForm.{Local, Global, Number, Convert, Index, Call, StepBefore, StepAfter, Unary, Binary, Conditional, Assign, Comma}
use Rattle.typed_tree.specs.TypedTree.CStmt.{Block, Declare, Eval, If, While, Do, For, Break, Continue, Return}
use Rattle.source_meaning.specs.declared.values.OutsideCause.TheVariants as outside
use Rattle.source_meaning.specs.declared.values.Ending.TheVariants.{Exited, Reported, Outside, Cut}
use Rattle.source_meaning.specs.Worlds.Mark.{Line, Moved}
use Rattle.source_meaning.specs.Examples.{on, here, e_on, e, number, local, named, array, as_number, set, does, gives, declared, starts, given, given_none}
use Rattle.source_meaning.specs.Examples.{declares, block, variable, small_variable, in_memory, function, global, program, main_of, at, Runs}

-- A char takes 8 bits and becomes an int; an int beside an unsigned becomes one; shift counts are taken modulo 32.
--   int main(void) { char c = 300; unsigned u = 0; return (c == 44) + 2 * (u - 1 > 0) + 4 * (-1 < u) + 8 * ((1 << 33)
--   + (-8 >> 1) == -2) + 16 * (~c == -45); }
abbrev pub conversions : CProgram
conversions =
    main_of (small_variable ∷ variable Unsigned ∷ [])
    (starts 0 (as_number Char (number 300))
    ∷ starts 1 (as_number Unsigned (number 0))
    ∷ gives
    (e Int
    (Binary op.Add
    (e Int
    (Binary op.Add
    (e Int
    (Binary op.Add
    (e Int
    (Binary op.Add (e Int (Binary op.Equal (as_number Int (named Char 0)) (number 44)))
    (e Int
    (Binary op.Multiply (number 2)
    (e Int (Binary op.Greater (e Unsigned (Binary op.Subtract (named Unsigned 1) (as_number Unsigned (number 1)))) (as_number Unsigned (number 0))))))))
    (e Int (Binary op.Multiply (number 4) (e Int (Binary op.Less (as_number Unsigned (e Int (Unary unary.Minus (number 1)))) (named Unsigned 1)))))))
    (e Int
    (Binary op.Multiply (number 8)
    (e Int
    (Binary op.Equal
    (e Int
    (Binary op.Add (e Int (Binary op.ShiftLeft (number 1) (number 33))) (e Int (Binary op.ShiftRight (e Int (Unary unary.Minus (number 8))) (number 1)))))
    (e Int (Unary unary.Minus (number 2)))))))))
    (e Int (Binary op.Multiply (number 16)
    (e Int (Binary op.Equal (e Int (Unary unary.Complement (as_number Int (named Char 0)))) (e Int (Unary unary.Minus (number 45)))))))))
    ∷ [])

abbrev pub Conversions : Type 0
Conversions = Runs 4 conversions [] 8 (record {
  ending = Exited 27;
  output = [];
  nodes = 47;
  bytes = 0;
  trail = Line 1 ∷ Line 1 ∷ [];
})

-- Quotients are rounded toward zero, and the one that does not fit wraps. An assignment divides in the common type of
-- both sides, and shifts in that of the left one.
--   int main(void) { int m = -2147483647 - 1; int d = -1; int n = (m / d == m && m % d == 0) + 2 * (-7 / 2 == -3) + 4
--   * (-7 % 2 == -1); m /= 2u; d >>= 33u; return n + 8 * (m == 1073741824) + 16 * (d == -1); }
abbrev pub quotients : CProgram
quotients =
    main_of (variable Int ∷ variable Int ∷ variable Int ∷ [])
    (starts 0 (e Int (Binary op.Subtract (e Int (Unary unary.Minus (number 2147483647))) (number 1)))
    ∷ starts 1 (e Int (Unary unary.Minus (number 1)))
    ∷ starts 2
    (e Int
    (Binary op.Add
    (e Int
    (Binary op.Add
    (e Int
    (Binary op.LogicalAnd (e Int (Binary op.Equal (e Int (Binary op.Divide (local 0) (local 1))) (local 0)))
    (e Int (Binary op.Equal (e Int (Binary op.Remainder (local 0) (local 1))) (number 0)))))
    (e Int
    (Binary op.Multiply (number 2)
    (e Int (Binary op.Equal (e Int (Binary op.Divide (e Int (Unary unary.Minus (number 7))) (number 2))) (e Int (Unary unary.Minus (number 3)))))))))
    (e Int
    (Binary op.Multiply (number 4)
    (e Int (Binary op.Equal (e Int (Binary op.Remainder (e Int (Unary unary.Minus (number 7))) (number 2))) (e Int (Unary unary.Minus (number 1)))))))))
    ∷ does (e Int (Assign assign.Divide (local 0) (e Unsigned (Number 2))))
    ∷ does (e Int (Assign assign.ShiftRight (local 1) (e Unsigned (Number 33))))
    ∷ gives
    (e Int
    (Binary op.Add (e Int (Binary op.Add (local 2) (e Int (Binary op.Multiply (number 8) (e Int (Binary op.Equal (local 0) (number 1073741824)))))))
    (e Int (Binary op.Multiply (number 16) (e Int (Binary op.Equal (local 1) (e Int (Unary unary.Minus (number 1)))))))))
    ∷ [])

abbrev pub Quotients : Type 0
Quotients = Runs 4 quotients [] 8 (record {
  ending = Exited 31;
  output = [];
  nodes = 65;
  bytes = 0;
  trail = Line 1 ∷ Line 1 ∷ Line 1 ∷ Line 1 ∷ [];
})

-- A division by zero is reported with the line of its operator.
--   1 | int z;
--   2 | int main(void) {
--   3 |   return 7
--   4 |     % z;
--   5 | }
abbrev pub division_by_zero : CProgram
division_by_zero =
    program [] (global Int 4 [] ∷ []) []
    (function 2 Int 0 [] (Block (on 2)
    (block (Return (on 3) (Some (e_on 4 Int (Binary op.Remainder (e_on 3 Int (Number 7)) (e_on 4 Int (Global 0))))) ∷ []))) ∷ [])
    0

abbrev pub DivisionByZero : Type 0
DivisionByZero = Runs 4 division_by_zero [] 8 (record {
  ending = Reported report.DivZero 4;
  output = [];
  nodes = 6;
  bytes = 0;
  trail = Line 2 ∷ Line 3 ∷ [];
})

-- A compound assignment reads its place after its right operand; steps give the value before or after.
--   int main(void) { int x = 5; char c = 255; x += x++; return x * 10 + ++c + c--; }
abbrev pub place_is_read_last : CProgram
place_is_read_last =
    main_of (variable Int ∷ small_variable ∷ [])
    (starts 0 (number 5)
    ∷ starts 1 (as_number Char (number 255))
    ∷ does (e Int (Assign assign.Add (local 0) (e Int (StepAfter step.Increment (local 0)))))
    ∷ gives
    (e Int
    (Binary op.Add (e Int (Binary op.Add (e Int (Binary op.Multiply (local 0) (number 10)))
    (as_number Int (e Char (StepBefore step.Increment (named Char 1))))))
    (as_number Int (e Char (StepAfter step.Decrement (named Char 1))))))
    ∷ [])

abbrev pub PlaceIsReadLast : Type 0
PlaceIsReadLast = Runs 4 place_is_read_last [] 8 (record {
  ending = Exited 110;
  output = [];
  nodes = 21;
  bytes = 0;
  trail = Line 1 ∷ Line 1 ∷ Line 1 ∷ [];
})

-- `&&`, `||`, `?:` and the comma leave out what is not selected, and all operands go from left to right.
--   int g(int c) { putchar(c); return c; } int h(int a, int b) { return a * 10 + b; } int main(void) { int a[2];
--   a[g(0)] = g(1); g(0) && g(9) || g(3) && g(0); g(2) || g(9); g(0) ? g(9) : g(5); return g(6), h(g(7), g(8)); }
abbrev pub choices : CProgram
choices =
    program [] [] []
    (function 1 Int 1 (variable Int ∷ []) (Block here (block (does (e Int (Call (Library lib.Putchar) (given (local 0 ∷ [])))) ∷ gives (local 0) ∷ [])))
    ∷ function 1 Int 2 (variable Int ∷ variable Int ∷ [])
    (Block here (block (gives (e Int (Binary op.Add (e Int (Binary op.Multiply (local 0) (number 10))) (local 1))) ∷ [])))
    ∷ function 1 Int 0 (in_memory (Array Int 2) 8 ∷ [])
    (Block here
    (block
    (declared 0
    ∷ does (set (e Int (Index (array Int 2 0) (e Int (Call (Defined 0) (given (number 0 ∷ [])))))) (e Int (Call (Defined 0) (given (number 1 ∷ [])))))
    ∷ does
    (e Int
    (Binary op.LogicalOr (e Int (Binary op.LogicalAnd (e Int (Call (Defined 0) (given (number 0 ∷ []))))
    (e Int (Call (Defined 0) (given (number 9 ∷ []))))))
    (e Int (Binary op.LogicalAnd (e Int (Call (Defined 0) (given (number 3 ∷ [])))) (e Int (Call (Defined 0) (given (number 0 ∷ []))))))))
    ∷ does (e Int (Binary op.LogicalOr (e Int (Call (Defined 0) (given (number 2 ∷ [])))) (e Int (Call (Defined 0) (given (number 9 ∷ []))))))
    ∷ does
    (e Int
    (Conditional (e Int (Call (Defined 0) (given (number 0 ∷ [])))) (e Int (Call (Defined 0) (given (number 9 ∷ []))))
    (e Int (Call (Defined 0) (given (number 5 ∷ []))))))
    ∷ gives
    (e Int
    (Comma (e Int (Call (Defined 0) (given (number 6 ∷ []))))
    (e Int (Call (Defined 1) (given (e Int (Call (Defined 0) (given (number 7 ∷ []))) ∷ e Int (Call (Defined 0) (given (number 8 ∷ []))) ∷ []))))))
    ∷ [])))
    ∷ [])
    2

abbrev pub Choices : Type 0
Choices = Runs 4 choices [] 8 (record {
  ending = Exited 78;
  output = 0 ∷ 1 ∷ 0 ∷ 3 ∷ 0 ∷ 2 ∷ 0 ∷ 5 ∷ 6 ∷ 7 ∷ 8 ∷ [];
  nodes = 138;
  bytes = 0;
  trail = Line 1 ∷ Line 1 ∷ Line 1 ∷ Line 1 ∷ Line 1 ∷ Moved 0 (at 0 (pos 0)) (at 0 (pos 0)) ∷ Line 1 ∷ Line 1 ∷ Line 1 ∷ Line 1 ∷ Line 1
      ∷ Line 1 ∷ Line 1 ∷ Line 1 ∷ Line 1 ∷ Line 1 ∷ Line 1
      ∷ Line 1 ∷ Line 1 ∷ Line 1 ∷ Line 1 ∷ Line 1 ∷ Line 1 ∷ Line 1 ∷ Line 1 ∷ Line 1 ∷ Line 1 ∷ Line 1 ∷ Line 1 ∷ Line 1
      ∷ Line 1 ∷ Line 1 ∷ Line 1 ∷ Line 1 ∷ Line 1 ∷ Line 1 ∷ Line 1
      ∷ Line 1 ∷ Line 1 ∷ Line 1 ∷ Line 1 ∷ Line 1 ∷ [];
})

-- `continue` goes to the step of `for`, and to the condition of `do`; `break` and `return` leave.
--   int f(int n) { while (1) { if (n > 2) return n; n++; } } int main(void) { int i; int s = 0; for (i = 0; i < 9;
--   i++) { if (i == 1) continue; if (i == 3) break; s += i; } do { if (s == 3) continue; s += 10; } while (s++ < 3);
--   return s * 10 + f(1); }
abbrev pub jumps : CProgram
jumps =
    program [] [] []
    (function 1 Int 1 (variable Int ∷ [])
    (Block here
    (block
    (While here (number 1)
    (Block here (block (If here (e Int (Binary op.Greater (local 0) (number 2))) (gives (local 0)) ∷ does (e Int (StepAfter step.Increment (local 0)))
    ∷ [])))
    ∷ [])))
    ∷ function 1 Int 0 (variable Int ∷ variable Int ∷ [])
    (Block here
    (block
    (declared 0
    ∷ starts 1 (number 0)
    ∷ For here (CStart.Eval (set (local 0) (number 0))) (Some (e Int (Binary op.Less (local 0) (number 9))))
    (Some (e Int (StepAfter step.Increment (local 0))))
    (Block here
    (block
    (If here (e Int (Binary op.Equal (local 0) (number 1))) (Continue here)
    ∷ If here (e Int (Binary op.Equal (local 0) (number 3))) (Break here)
    ∷ does (e Int (Assign assign.Add (local 1) (local 0)))
    ∷ [])))
    ∷ Do here (Block here (block
    (If here (e Int (Binary op.Equal (local 1) (number 3))) (Continue here) ∷ does (e Int (Assign assign.Add (local 1) (number 10))) ∷ [])))
    (e Int (Binary op.Less (e Int (StepAfter step.Increment (local 1))) (number 3)))
    ∷ gives (e Int (Binary op.Add (e Int (Binary op.Multiply (local 1) (number 10))) (e Int (Call (Defined 0) (given (number 1 ∷ []))))))
    ∷ [])))
    ∷ [])
    1

abbrev pub Jumps : Type 0
Jumps = Runs 4 jumps [] 8 (record {
  ending = Exited 133;
  output = [];
  nodes = 120;
  bytes = 0;
  trail = Line 1 ∷ Line 1 ∷ Line 1 ∷ Line 1 ∷ Line 1 ∷ Line 1 ∷ Line 1 ∷ Line 1 ∷ Line 1 ∷ Line 1 ∷ Line 1 ∷ Line 1 ∷ Line 1
      ∷ Line 1 ∷ Line 1 ∷ Line 1 ∷ Line 1 ∷ Line 1 ∷ Line 1 ∷ Line 1 ∷ Line 1
      ∷ Line 1 ∷ Line 1 ∷ Line 1 ∷ Line 1 ∷ Line 1 ∷ Line 1 ∷ Line 1 ∷ Line 1 ∷ Line 1 ∷ Line 1 ∷ Line 1 ∷ Line 1 ∷ [];
})

-- A function that ends without `return` gives 0 or the null pointer.
--   int f(void) { } int *p(void) { } int main(void) { int x = 7; x = f(); return x + (p() == 0); }
abbrev pub nothing_returned : CProgram
nothing_returned =
    program [] [] []
    (function 1 Int 0 [] (Block here CStmts.none)
    ∷ function 1 (Pointer Int) 0 [] (Block here CStmts.none)
    ∷ function 1 Int 0 (variable Int ∷ [])
    (Block here
    (block
    (starts 0 (number 7)
    ∷ does (set (local 0) (e Int (Call (Defined 0) given_none)))
    ∷ gives
    (e Int
    (Binary op.Add (local 0) (e Int
    (Binary op.Equal (e (Pointer Int) (Call (Defined 1) given_none)) (e (Pointer Int) (Convert conversion.NullToPointer (number 0)))))))
    ∷ [])))
    ∷ [])
    2

abbrev pub NothingReturned : Type 0
NothingReturned = Runs 4 nothing_returned [] 8 (record {
  ending = Exited 1;
  output = [];
  nodes = 18;
  bytes = 0;
  trail = Line 1 ∷ Line 1 ∷ Line 1 ∷ Line 1 ∷ Line 1 ∷ [];
})

-- The test that ends a `while` or a `for` is a turn too: three more turns need a fourth.
--   int main(void) { int i = 0; while (i < 3) i++; return i; }
abbrev pub while_is_cut : CProgram
while_is_cut =
    main_of (variable Int ∷ []) (starts 0 (number 0)
    ∷ While here (e Int (Binary op.Less (local 0) (number 3))) (does (e Int (StepAfter step.Increment (local 0)))) ∷ gives (local 0) ∷ [])

abbrev pub WhileIsCut : Type 0
WhileIsCut = Runs 4 while_is_cut [] 3 (record {
  ending = Cut;
  output = [];
  nodes = 23;
  bytes = 0;
  trail = Line 1 ∷ Line 1 ∷ Line 1 ∷ Line 1 ∷ Line 1 ∷ [];
})

-- A turn of `do` begins with its body, so here three are enough.
--   int main(void) { int i = 0; do i++; while (i < 3); return i; }
abbrev pub do_is_not_cut : CProgram
do_is_not_cut =
    main_of (variable Int ∷ []) (starts 0 (number 0)
    ∷ Do here (does (e Int (StepAfter step.Increment (local 0)))) (e Int (Binary op.Less (local 0) (number 3))) ∷ gives (local 0) ∷ [])

abbrev pub DoIsNotCut : Type 0
DoIsNotCut = Runs 4 do_is_not_cut [] 3 (record {
  ending = Exited 3;
  output = [];
  nodes = 25;
  bytes = 0;
  trail = Line 1 ∷ Line 1 ∷ Line 1 ∷ Line 1 ∷ Line 1 ∷ Line 1 ∷ [];
})

-- Two are not, and the third is cut before its body.
--   int main(void) { int i = 0; do i++; while (i < 3); return i; }
abbrev pub do_is_cut : CProgram
do_is_cut =
    main_of (variable Int ∷ []) (starts 0 (number 0)
    ∷ Do here (does (e Int (StepAfter step.Increment (local 0)))) (e Int (Binary op.Less (local 0) (number 3))) ∷ gives (local 0) ∷ [])

abbrev pub DoIsCut : Type 0
DoIsCut = Runs 4 do_is_cut [] 2 (record {
  ending = Cut;
  output = [];
  nodes = 17;
  bytes = 0;
  trail = Line 1 ∷ Line 1 ∷ Line 1 ∷ Line 1 ∷ [];
})

-- A call past the bound is cut once its arguments are evaluated; `main` is one of the nested calls.
--   int f(int n) { putchar(n); return n ? f(n - 1) : 7; } int main(void) { return f(2); }
abbrev pub call_is_cut : CProgram
call_is_cut =
    program [] [] []
    (function 1 Int 1 (variable Int ∷ [])
    (Block here
    (block
    (does (e Int (Call (Library lib.Putchar) (given (local 0 ∷ []))))
    ∷ gives (e Int (Conditional (local 0) (e Int (Call (Defined 0) (given (e Int (Binary op.Subtract (local 0) (number 1)) ∷ [])))) (number 7)))
    ∷ [])))
    ∷ function 1 Int 0 [] (Block here (block (gives (e Int (Call (Defined 0) (given (number 2 ∷ [])))) ∷ [])))
    ∷ [])
    1

abbrev pub CallIsCut : Type 0
CallIsCut = Runs 4 call_is_cut [] 3 (record {
  ending = Cut;
  output = 2 ∷ 1 ∷ [];
  nodes = 31;
  bytes = 0;
  trail = Line 1 ∷ Line 1 ∷ Line 1 ∷ Line 1 ∷ Line 1 ∷ Line 1 ∷ Line 1 ∷ Line 1 ∷ [];
})

-- It is cut before its frame is looked at.
--   void f(int n) { char b[1048576]; if (n) f(n - 1); } int main(void) { f(4); return 0; }
abbrev pub cut_before_stack : CProgram
cut_before_stack =
    program [] [] []
    (function 1 Void 1 (variable Int ∷ in_memory (Array Char 1048576) 1048576 ∷ [])
    (Block here (block (declared 1 ∷ If here (local 0) (does (e Void (Call (Defined 0) (given (e Int (Binary op.Subtract (local 0) (number 1)) ∷ [])))))
    ∷ [])))
    ∷ function 1 Int 0 [] (Block here (block (does (e Void (Call (Defined 0) (given (number 4 ∷ [])))) ∷ gives (number 0) ∷ [])))
    ∷ [])
    1

abbrev pub CutBeforeStack : Type 0
CutBeforeStack = Runs 4 cut_before_stack [] 5 (record {
  ending = Cut;
  output = [];
  nodes = 49;
  bytes = 0;
  trail = Line 1 ∷ Line 1 ∷ Line 1 ∷ Line 1 ∷ Line 1 ∷ Line 1 ∷ Line 1 ∷ Line 1 ∷ Line 1 ∷ Line 1 ∷ Line 1 ∷ Line 1 ∷ Line 1
      ∷ Line 1 ∷ [];
})

-- The fifth frame of 1 MiB does not fit on the stack, which is reported with the line of the function.
--   1 | void
--   2 | f(int n) { char b[1048576]; if (n) f(n - 1); }
--   3 | int main(void) { f(4); return 0; }
abbrev pub stack_is_full : CProgram
stack_is_full =
    program [] [] []
    (function 2 Void 1 (variable Int ∷ in_memory (Array Char 1048576) 1048576 ∷ [])
    (Block (on 2)
    (block
    (Declare (declares (on 2) 1)
    ∷ If (on 2) (e_on 2 Int (Local 0))
    (Eval (on 2) (e_on 2 Void (Call (Defined 0) (given (e_on 2 Int (Binary op.Subtract (e_on 2 Int (Local 0)) (e_on 2 Int (Number 1))) ∷ [])))))
    ∷ [])))
    ∷ function 3 Int 0 [] (Block (on 3)
    (block (Eval (on 3) (e_on 3 Void (Call (Defined 0) (given (e_on 3 Int (Number 4) ∷ [])))) ∷ Return (on 3) (Some (e_on 3 Int (Number 0))) ∷ [])))
    ∷ [])
    1

abbrev pub StackIsFull : Type 0
StackIsFull = Runs 4 stack_is_full [] 6 (record {
  ending = Reported report.Stack 2;
  output = [];
  nodes = 51;
  bytes = 0;
  trail = Line 3 ∷ Line 3 ∷ Line 2 ∷ Line 2 ∷ Line 2 ∷ Line 2 ∷ Line 2 ∷ Line 2 ∷ Line 2 ∷ Line 2 ∷ Line 2 ∷ Line 2 ∷ Line 2
      ∷ Line 2 ∷ [];
})

-- Input ends with -1; output takes the low 8 bits, and `exit` ends the run within a call.
--   void f(void) { exit(putchar(321) - getchar()); } int main(void) { int c; while ((c = getchar()) != 10) putchar(c);
--   f(); return 1; }
abbrev pub echo : CProgram
echo =
    program [] [] []
    (function 1 Void 0 []
    (Block here
    (block
    (does
    (e Void
    (Call (Library lib.Exit)
    (given (e Int (Binary op.Subtract (e Int (Call (Library lib.Putchar) (given (number 321 ∷ [])))) (e Int (Call (Library lib.Getchar) given_none)))
    ∷ []))))
    ∷ [])))
    ∷ function 1 Int 0 (variable Int ∷ [])
    (Block here
    (block
    (declared 0
    ∷ While here (e Int (Binary op.NotEqual (set (local 0) (e Int (Call (Library lib.Getchar) given_none))) (number 10)))
    (does (e Int (Call (Library lib.Putchar) (given (local 0 ∷ [])))))
    ∷ does (e Void (Call (Defined 0) given_none))
    ∷ gives (number 1)
    ∷ [])))
    ∷ [])
    1

abbrev pub Echo : Type 0
Echo = Runs 4 echo (0 ∷ 255 ∷ 10 ∷ []) 8 (record {
  ending = Exited 66;
  output = 0 ∷ 255 ∷ 65 ∷ [];
  nodes = 35;
  bytes = 0;
  trail = Line 1 ∷ Line 1 ∷ Line 1 ∷ Line 1 ∷ Line 1 ∷ Line 1 ∷ Line 1 ∷ [];
})

-- The heap gives the least place that is free, zeroed; 16 MiB are all that there is.
--   int main(void) { char *a = malloc(0x800000); char *b = malloc(0x400000); char *c = malloc(0x400000); char *d =
--   malloc(0x100000); int n = (c != 0) + 2 * (d == 0); *b = 1; free(b); d = calloc(3, 0x100000); return n + 4 * (d !=
--   0) + 8 * *d + 16 * (calloc(65536, 65536) == 0); }
abbrev pub heap_is_reused : CProgram
heap_is_reused =
    main_of (variable (Pointer Char) ∷ variable (Pointer Char) ∷ variable (Pointer Char) ∷ variable (Pointer Char) ∷ variable Int ∷ [])
    (starts 0 (e (Pointer Char) (Convert conversion.PointerToPointer
    (e (Pointer Void) (Call (Library lib.Malloc) (given (as_number Unsigned (number 8388608) ∷ []))))))
    ∷ starts 1 (e (Pointer Char)
    (Convert conversion.PointerToPointer (e (Pointer Void) (Call (Library lib.Malloc) (given (as_number Unsigned (number 4194304) ∷ []))))))
    ∷ starts 2 (e (Pointer Char)
    (Convert conversion.PointerToPointer (e (Pointer Void) (Call (Library lib.Malloc) (given (as_number Unsigned (number 4194304) ∷ []))))))
    ∷ starts 3 (e (Pointer Char)
    (Convert conversion.PointerToPointer (e (Pointer Void) (Call (Library lib.Malloc) (given (as_number Unsigned (number 1048576) ∷ []))))))
    ∷ starts 4
    (e Int
    (Binary op.Add (e Int (Binary op.NotEqual (named (Pointer Char) 2) (e (Pointer Char) (Convert conversion.NullToPointer (number 0)))))
    (e Int (Binary op.Multiply (number 2)
    (e Int (Binary op.Equal (named (Pointer Char) 3) (e (Pointer Char) (Convert conversion.NullToPointer (number 0)))))))))
    ∷ does (set (e Char (Unary unary.Dereference (named (Pointer Char) 1))) (as_number Char (number 1)))
    ∷ does (e Void (Call (Library lib.Free) (given (e (Pointer Void) (Convert conversion.PointerToPointer (named (Pointer Char) 1)) ∷ []))))
    ∷ does
    (set (named (Pointer Char) 3)
    (e (Pointer Char)
    (Convert conversion.PointerToPointer
    (e (Pointer Void) (Call (Library lib.Calloc) (given (as_number Unsigned (number 3) ∷ as_number Unsigned (number 1048576) ∷ [])))))))
    ∷ gives
    (e Int
    (Binary op.Add
    (e Int
    (Binary op.Add
    (e Int
    (Binary op.Add (local 4)
    (e Int (Binary op.Multiply (number 4)
    (e Int (Binary op.NotEqual (named (Pointer Char) 3) (e (Pointer Char) (Convert conversion.NullToPointer (number 0)))))))))
    (e Int (Binary op.Multiply (number 8) (as_number Int (e Char (Unary unary.Dereference (named (Pointer Char) 3))))))))
    (e Int
    (Binary op.Multiply (number 16)
    (e Int
    (Binary op.Equal (e (Pointer Void) (Call (Library lib.Calloc) (given (as_number Unsigned (number 65536) ∷ as_number Unsigned (number 65536) ∷ []))))
    (e (Pointer Void) (Convert conversion.NullToPointer (number 0)))))))))
    ∷ [])

abbrev pub HeapIsReused : Type 0
HeapIsReused = Runs 4 heap_is_reused [] 8 (record {
  ending = Exited 23;
  output = [];
  nodes = 59;
  bytes = 0;
  trail = Line 1 ∷ Line 1 ∷ Line 1 ∷ Line 1 ∷ Line 1 ∷ [];
})

-- Only the start of an object of the heap may be freed, and the null pointer.
--   int main(void) { char *p = malloc(0x800000); free(0); free(p + 1); return 0; }
abbrev pub bad_free : CProgram
bad_free =
    main_of (variable (Pointer Char) ∷ [])
    (starts 0 (e (Pointer Char) (Convert conversion.PointerToPointer
    (e (Pointer Void) (Call (Library lib.Malloc) (given (as_number Unsigned (number 8388608) ∷ []))))))
    ∷ does (e Void (Call (Library lib.Free) (given (e (Pointer Void) (Convert conversion.NullToPointer (number 0)) ∷ []))))
    ∷ does (e Void (Call (Library lib.Free)
    (given (e (Pointer Void) (Convert conversion.PointerToPointer (e (Pointer Char) (Binary op.Add (named (Pointer Char) 0) (number 1)))) ∷ []))))
    ∷ gives (number 0)
    ∷ [])

abbrev pub BadFree : Type 0
BadFree = Runs 4 bad_free [] 8 (record {
  ending = Reported report.BadFree 1;
  output = [];
  nodes = 13;
  bytes = 0;
  trail = Line 1 ∷ Line 1 ∷ Line 1 ∷ Moved 0 (at 0 (pos 0)) (at 0 (pos 1)) ∷ [];
})

-- An object that was freed may not be freed again.
--   int main(void) { char *p = malloc(0x800000); free(p); free(p); return 0; }
abbrev pub freed_twice : CProgram
freed_twice =
    main_of (variable (Pointer Char) ∷ [])
    (starts 0 (e (Pointer Char) (Convert conversion.PointerToPointer
    (e (Pointer Void) (Call (Library lib.Malloc) (given (as_number Unsigned (number 8388608) ∷ []))))))
    ∷ does (e Void (Call (Library lib.Free) (given (e (Pointer Void) (Convert conversion.PointerToPointer (named (Pointer Char) 0)) ∷ []))))
    ∷ does (e Void (Call (Library lib.Free) (given (e (Pointer Void) (Convert conversion.PointerToPointer (named (Pointer Char) 0)) ∷ []))))
    ∷ gives (number 0)
    ∷ [])

abbrev pub FreedTwice : Type 0
FreedTwice = Runs 4 freed_twice [] 8 (record {
  ending = Outside outside.Dead;
  output = [];
  nodes = 11;
  bytes = 0;
  trail = Line 1 ∷ Line 1 ∷ Line 1 ∷ [];
})

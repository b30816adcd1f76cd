-- Small programs of numbers, and what their mid code and their flat code come to; programs as large as the limits allow,
-- and larger by one. The C text of each program stands above it; all of it is line 1, but where its lines are numbered.
use Rattle.std.specs.Prelude.{◌≡◌, ℕ, zero, suc, true, List, [], ◌∷◌, Some, codes}
use Rattle.bb_words.specs.declared.kinds.ReportKind.TheVariants.{DivZero}
use Rattle.c_words.specs.declared.operators.StepOperator.TheVariants.{Increment, Decrement}
use Rattle.c_words.specs.declared.operators.BinaryOperator.TheVariants as op
use Rattle.c_words.specs.declared.operators.UnaryOperator.TheVariants.{Not}
use Rattle.c_words.specs.declared.operators.AssignOperator.TheVariants as assign
use Rattle.typed_tree.specs.declared.typed_expr.Called.TheVariants.{Defined, Library}
use Rattle.typed_tree.specs.declared.typed_expr.LibCall.TheVariants.{Putchar}
use Rattle.typed_tree.specs.Counts.{nodes_of_program}
use Rattle.typed_tree.specs.Types.CType.{Char, Int}
use Rattle.typed_tree.specs.TypedTree.{CExpr, CInitial, CStmt, CProgram}
use Rattle.typed_tree.specs.TypedTree.CForm.{Local, Number, Call, StepBefore, StepAfter, Unary, Binary, Conditional, Assign, Comma}
use Rattle.typed_tree.specs.TypedTree.CStmt.{Block, Declare, Empty, Return}
use Rattle.typed_tree.specs.TypedLaws.{forty_two, many_locals}
use Rattle.source_meaning.specs.declared.values.Ending.{Ending}
use Rattle.source_meaning.specs.declared.values.Ending.TheVariants as source
use Rattle.source_meaning.specs.Examples.{on, here, e_on, e, number, local, named, as_number, does, gives, declared, declares_with}
use Rattle.source_meaning.specs.Examples.{starts, given, block, variable, small_variable, function, program, main_of}
use Rattle.source_meaning.specs.ExamplesCalls.{conversions, quotients, jumps, do_is_cut, call_is_cut, echo}
use Rattle.mid_code.specs.Code.{Program}
use Rattle.mid_code.specs.Meaning.{MidEnding, Came}
use Rattle.mid_code.specs.Runs as mid
use Rattle.flat_code.specs.World as flat
use Rattle.flat_code_laws.specs.Examples.{shown}
use Rattle.flat_code.specs.Run.{flat_run}
use Rattle.flat_code.specs.Told.{output_of}
use Rattle.lowering_counts.specs.Built as lowering
use Rattle.lowering_code.specs.Lower.{lowered}
use Rattle.lowering_counts.specs.Limits.{IsFirstFull}
use Rattle.bounds_instr_code.specs.Built as instr
use Rattle.bounds_instr_code.specs.Code.{instrumented, global_blocks, frames_of}

-- ---- Runs

-- what is told of a run: how it ended, and what it wrote
abbrev pub told : mid.Outcome → MidEnding × List ℕ
told o = (o.ending, o.point.world.output)

abbrev pub flat_told : {A : Type 0} → flat.Run A → flat.Ending × List ℕ
flat_told r = ((shown r).ending, output_of (shown r).told)

-- the run of a program's flat code, for slots of 2 ^ g bytes
abbrev pub flat_outcome : (g : ℕ) → Program → (input : List ℕ) → (m : ℕ) → flat.Run (Unit {0})
flat_outcome g p input m = flat_run g (instrumented g p) (global_blocks g p) (frames_of g p) input m

-- A program has mid code and flat code, and on the input, with slots of 16 bytes and at most m turns and m nested calls,
-- both end so, having written the output.
pub record ComesTo (p : CProgram) (input : List ℕ) (m : ℕ) (ending : Ending) (same : flat.Ending) (output : List ℕ) : Type 0 where
  pub lowers : lowering.is_built p ≡ true
  pub code : told (mid.outcome 4 (lowered p) input m) ≡ (Came ending, output)
  pub instruments : instr.is_built (lowered p) ≡ true
  pub flat_code : flat_told (flat_outcome 4 (lowered p) input m) ≡ (same, output)

abbrev pub Exits : CProgram → (input : List ℕ) → (m word : ℕ) → (output : List ℕ) → Type 0
Exits p input m word output = ComesTo p input m (source.Exited word) (flat.Ending.Exited word) output

abbrev pub IsCut : CProgram → (m : ℕ) → (output : List ℕ) → Type 0
IsCut p m output = ComesTo p [] m source.Cut flat.Ending.Cut output

-- Calls are nested, as arguments and by recursion.
--   int f(int n) { return n < 2 ? 1 : n * f(n - 1); } int g(int a, int b) { return a * 10 + b; } int main(void) {
--   return g(g(1, 2), f(3)); }
abbrev pub nested : CProgram
nested =
    program [] [] []
    (function 1 Int 1 (variable Int ∷ [])
    (Block here
    (block
    (gives
    (e Int
    (Conditional (e Int (Binary op.Less (local 0) (number 2))) (number 1)
    (e Int (Binary op.Multiply (local 0) (e Int (Call (Defined 0) (given (e Int (Binary op.Subtract (local 0) (number 1)) ∷ []))))))))
    ∷ [])))
    ∷ function 1 Int 2 (variable Int ∷ variable Int ∷ [])
    (Block here (block (gives (e Int (Binary op.Add (e Int (Binary op.Multiply (local 0) (number 10))) (local 1))) ∷ [])))
    ∷ function 1 Int 0 []
    (Block here
    (block
    (gives
    (e Int
    (Call (Defined 1)
    (given (e Int (Call (Defined 1) (given (number 1 ∷ number 2 ∷ []))) ∷ e Int (Call (Defined 0) (given (number 3 ∷ []))) ∷ []))))
    ∷ [])))
    ∷ [])
    2

-- Function 0 of a program writes its argument and gives it back.
abbrev pub written : ℕ → CExpr
written n = e Int (Call (Defined 0) (given (number n ∷ [])))

abbrev pub both : CExpr → CExpr → CExpr
both a b = e Int (Binary op.LogicalAnd a b)

abbrev pub one_of : CExpr → CExpr → CExpr
one_of a b = e Int (Binary op.LogicalOr a b)

-- `&&`, `||`, `?:` and the comma leave out what is not selected; `&&`, `||` and `!` give 0 or 1.
--   int p(int c) { putchar(c); return c; } int main(void) { p(0) && p(9) || p(3) && p(0); p(2) || p(9); p(0) ? p(9)
--   : p(5); return p(6), p(7) + 10 * (p(8) && 5) + 100 * !(0 || p(0)); }
abbrev pub selected : CProgram
selected =
    program [] [] []
    (function 1 Int 1 (variable Int ∷ []) (Block here (block (does (e Int (Call (Library Putchar) (given (local 0 ∷ [])))) ∷ gives (local 0) ∷ [])))
    ∷ function 1 Int 0 []
    (Block here
    (block
    (does (one_of (both (written 0) (written 9)) (both (written 3) (written 0)))
    ∷ does (one_of (written 2) (written 9))
    ∷ does (e Int (Conditional (written 0) (written 9) (written 5)))
    ∷ gives
    (e Int
    (Comma (written 6)
    (e Int
    (Binary op.Add (e Int (Binary op.Add (written 7) (e Int (Binary op.Multiply (number 10) (both (written 8) (number 5))))))
    (e Int (Binary op.Multiply (number 100) (e Int (Unary Not (one_of (number 0) (written 0)))))))))
    )
    ∷ [])))
    ∷ [])
    1

-- A char keeps the low 8 bits of what it is given, by an initializer, `+=`, `-=`, `++` and `--`.
--   int main(void) { char c = 250; int x = c++; int y; c += 10; y = c--; c -= 5; x -= c; y += ++c; return x + 2 * y; }
abbrev pub narrow : CProgram
narrow =
    main_of (small_variable ∷ variable Int ∷ variable Int ∷ [])
    (starts 0 (as_number Char (number 250))
    ∷ starts 1 (as_number Int (e Char (StepAfter Increment (named Char 0))))
    ∷ declared 2
    ∷ does (e Char (Assign assign.Add (named Char 0) (number 10)))
    ∷ does (e Int (Assign assign.Assign (local 2) (as_number Int (e Char (StepAfter Decrement (named Char 0))))))
    ∷ does (e Char (Assign assign.Subtract (named Char 0) (number 5)))
    ∷ does (e Int (Assign assign.Subtract (local 1) (as_number Int (named Char 0))))
    ∷ does (e Int (Assign assign.Add (local 2) (as_number Int (e Char (StepBefore Increment (named Char 0))))))
    ∷ gives (e Int (Binary op.Add (local 1) (e Int (Binary op.Multiply (number 2) (local 2)))))
    ∷ [])

-- A division by zero is reported with the line of its operator, once its operands are evaluated.
--   1 | int main(void) {
--   2 |   int z = 0;
--   3 |   return putchar(65)
--   4 |     / z;
--   5 | }
abbrev pub divides : CProgram
divides =
    program [] [] []
    (function 1 Int 0 (variable Int ∷ [])
    (Block (on 1)
    (block
    (Declare (declares_with (on 2) 0 (CInitial.Value (e_on 2 Int (Number 0))))
    ∷ Return (on 3)
    (Some
    (e_on 4 Int
    (Binary op.Divide (e_on 3 Int (Call (Library Putchar) (given (e_on 3 Int (Number 65) ∷ [])))) (e_on 4 Int (Local 0)))))
    ∷ [])))
    ∷ [])
    0

-- What they come to: `jumps` has loops with `break` and `continue`, `echo` reads and writes until a line ends and calls
-- `exit` within a call.
pub record Examples : Type 0 where
  pub forty_two_exits : Exits forty_two [] 1 42 []
  pub jumps_run : Exits jumps [] 8 133 []
  pub nested_runs : Exits nested [] 4 126 []
  pub selected_runs : Exits selected [] 2 117 (0 ∷ 3 ∷ 0 ∷ 2 ∷ 0 ∷ 5 ∷ 6 ∷ 7 ∷ 8 ∷ 0 ∷ [])
  pub narrow_runs : Exits narrow [] 1 5 []
  pub conversions_run : Exits conversions [] 8 27 []
  pub quotients_run : Exits quotients [] 8 31 []
  pub divides_by_zero : ComesTo divides [] 1 (source.Reported DivZero 4) (flat.Ending.Reported DivZero 4) (65 ∷ [])
  pub echo_runs : Exits echo (0 ∷ 255 ∷ 10 ∷ []) 8 66 (0 ∷ 255 ∷ 65 ∷ [])
  pub loop_is_cut : IsCut do_is_cut 2 []
  pub call_is_cut : IsCut call_is_cut 3 (2 ∷ 1 ∷ [])

-- ---- Limits

-- an expression of 2 ^ (k + 1) - 1 nodes
abbrev pub sum_of : ℕ → CExpr
sum_of zero = number 1
sum_of (suc k) = e Int (Binary op.Add (sum_of k) (sum_of k))

-- `x;` for such an x, which has 2 ^ (k + 1) nodes, for each k below n: 2 ^ (n + 1) - 2 in all
abbrev pub sums : ℕ → List CStmt
sums zero = []
sums (suc k) = does (sum_of k) ∷ sums k

-- A `main` of 4,096 nodes has its code, one more is too many. A function of 250 values has its code, and of two functions
-- with one more the first is the one that is refused.
pub record Limits : Type 0 where
  pub most_nodes : nodes_of_program (main_of [] (sums 11)) ≡ 4096
  pub one_node_more : nodes_of_program (main_of [] (Empty here ∷ sums 11)) ≡ 4097
  pub values : IsFirstFull (many_locals 246 ∷ many_locals 247 ∷ many_locals 247 ∷ []) (codes "main") 251

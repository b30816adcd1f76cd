-- Where objects lie, and how deep calls go.
use Rattle.std.specs.Prelude.{◌≡◌, ℕ, true, false, [], ◌∷◌}
use Rattle.bb_words.specs.declared.kinds.ReportKind.TheVariants as report
use Rattle.typed_tree.specs.declared.typed_expr.Called.TheVariants.{Defined, Library}
use Rattle.typed_tree.specs.declared.typed_expr.LibCall.TheVariants as lib
use Rattle.typed_tree.specs.TypedTree.{CProgram}
use Rattle.typed_tree.specs.Types.CType.{Void, Char, Int, Array}
use Rattle.typed_tree.specs.TypedTree.CForm.{Call}
use Rattle.typed_tree.specs.TypedTree.CStmt.{Block}
use Rattle.source_meaning.specs.declared.values.Ending.TheVariants.{Reported, Cut}
use Rattle.source_meaning.specs.Examples.{Told, told, here, e, number, local, does, gives, declared, given, given_none}
use Rattle.source_meaning.specs.Examples.{block, variable, in_memory, function, global, program, main_of, accounts}
use Rattle.source_meaning.specs.Runs.{outcome, outcome_of, calls, first_state, first_world}
use Rattle.source_meaning.specs.declared.values.Value.TheVariants.{Num}
use Rattle.source_meaning.specs.States.{State}

--   char c; int a[5]; char b[40]; int f(void) { int x[5]; char y[3]; return 0; } int main(void) { char z[3]; f();
--   exit(1); }
abbrev pub globals_and_frames : CProgram
globals_and_frames =
    program [] (global Char 1 [] ∷ global (Array Int 5) 20 [] ∷ global (Array Char 40) 40 [] ∷ []) []
    (function 1 Int 0 (in_memory (Array Int 5) 20 ∷ in_memory (Array Char 3) 3 ∷ [])
    (Block here (block (declared 0 ∷ declared 1 ∷ gives (number 0) ∷ [])))
    ∷ function 1 Int 0 (in_memory (Array Char 3) 3 ∷ [])
    (Block here (block (declared 0 ∷ does (e Int (Call (Defined 0) given_none)) ∷ does (e Void (Call (Library lib.Exit) (given (number 1 ∷ []))))
    ∷ [])))
    ∷ [])
    1

-- At its end the run holds the globals, of 64, 32 and 16 bytes with their padding, from 0xA00000 on, and the block
-- locals of `main` and of `f`, which has returned, below 0x1000000.
abbrev pub Layout : Type 0
Layout = accounts (outcome 4 globals_and_frames [] 8) ≡ (
  [],
  1,
  16777200,
  (true, 10485760, 6, 40)
      ∷ (true, 10485824, 5, 20)
      ∷ (true, 10485856, 4, 1)
      ∷ (true, 16777200, 4, 3)
      ∷ (false, 16777152, 5, 20)
      ∷ (false, 16777184, 4, 3)
      ∷ [],
)

-- With slots of 32 bytes each object has at least so many.
abbrev pub WideLayout : Type 0
WideLayout = accounts (outcome 5 globals_and_frames [] 8) ≡ (
  [],
  1,
  16777184,
  (true, 10485760, 6, 40)
      ∷ (true, 10485824, 5, 1)
      ∷ (true, 10485856, 5, 20)
      ∷ (true, 16777184, 5, 3)
      ∷ (false, 16777120, 5, 20)
      ∷ (false, 16777152, 5, 3)
      ∷ [],
)

--   int main(void) { int a[5]; char b[3]; exit(1); }
abbrev pub one_frame : CProgram
one_frame =
    main_of (in_memory (Array Int 5) 20 ∷ in_memory (Array Char 3) 3 ∷ [])
    (declared 0 ∷ declared 1 ∷ does (e Void (Call (Library lib.Exit) (given (number 1 ∷ [])))) ∷ [])

-- A frame of 48 bytes begins at a multiple of 32: not at 0xFFFFD0, but at 0xFFFFC0.
abbrev pub RoundedFrame : Type 0
RoundedFrame = accounts (outcome 4 one_frame [] 8) ≡ (
  [],
  1,
  16777152,
  (true, 16777152, 5, 20)
      ∷ (true, 16777184, 4, 3)
      ∷ [],
)

-- `int f(int n) { return n; } int main(void) { return f(1); }`
abbrev pub two_functions : CProgram
two_functions =
    program [] [] []
    (function 1 Int 1 (variable Int ∷ []) (Block here (block (gives (local 0) ∷ [])))
    ∷ function 1 Int 0 [] (Block here (block (gives (e Int (Call (Defined 0) (given (number 1 ∷ [])))) ∷ [])))
    ∷ [])
    1

-- a state in which so many calls are live
abbrev pub deep : ℕ → State
deep n = record (first_state 4 two_functions []) { world = record (first_world 4 two_functions []) { depth = n } }

-- how a call of `f` from there answers, if so many more calls may be nested
abbrev pub deep_call : (depth nested : ℕ) → Told
deep_call depth nested = told (outcome_of (calls 4 two_functions 8 nested 0 (Num 7 ∷ []) (deep depth)))

-- With 4,096 live calls one more is reported, be it cut otherwise or not: after its definition and its parameter have been
-- counted. With one less it is cut, and nothing is counted.
pub record DepthIsReported : Type 0 where
  pub reported : deep_call 4096 1 ≡ record { ending = Reported report.Depth 1; output = []; nodes = 2; bytes = 0; trail = [] }
  pub past_the_bound : deep_call 4096 0 ≡ record { ending = Reported report.Depth 1; output = []; nodes = 2; bytes = 0; trail = [] }
  pub cut : deep_call 4095 0 ≡ record { ending = Cut; output = []; nodes = 0; bytes = 0; trail = [] }

-- Small programs of mid code, and what their runs come to.
use Rattle.std.specs.Prelude.{◌≡◌, ℕ, false, List, [], ◌∷◌, Some, None}
use Rattle.bb_words.specs.declared.kinds.ReportKind.TheVariants as report
use Rattle.bb_words.specs.declared.kinds.TrapKind.TheVariants as trap
use Rattle.bb_words.specs.declared.steps.ArithOp.TheVariants as op
use Rattle.bb_words.specs.declared.steps.DivideOp.TheVariants as divide
use Rattle.bb_words.specs.declared.steps.Width.TheVariants as width
use Rattle.block_layout.specs.Layout.{Item}
use Rattle.typed_tree.specs.declared.typed_expr.LibCall.TheVariants as lib
use Rattle.source_meaning.specs.declared.values.Ending.TheVariants.{Exited, Reported, Trapped, Outside, Cut}
use Rattle.source_meaning.specs.declared.values.OutsideCause.TheVariants as cause
use Rattle.mid_code.specs.declared.code.MidObject.TheVariants as object
use Rattle.mid_code.specs.Code.{Step, Number, Arith, Divide, Named, Move, Load, Clear, Init, CopyBytes}
use Rattle.mid_code.specs.Code.{Call, Library, If, Block, Loop, Exit, Return, stop, Function, Program}
use Rattle.mid_code.specs.Meaning.{MidEnding, Came, Strayed, Watch, unwatched}
use Rattle.mid_code.specs.Runs.{Outcome, outcome_of, mid}
use Rattle.mid_code.specs.Views.{steps}

-- a function of so many values, with block locals of these lengths
abbrev pub function : (values params : ℕ) → List Item → List Step → Function
function values params blocks body = record { line = 1; values = values; params = params; blocks = blocks; body = steps body }

abbrev pub program : List Function → Program
program fs = record { named = 0; globals = []; functions = fs; main = 0 }

abbrev pub block : (local length : ℕ) → Item
block j n = record { number = j; length = n }

-- the ending, the output, and how many bytes were counted
abbrev pub tells : Outcome → MidEnding × List ℕ × ℕ
tells o = (o.ending, o.point.world.output, o.point.world.bytes)

abbrev pub runs_to : Program → (input : List ℕ) → (m : ℕ) → MidEnding × List ℕ × ℕ
runs_to p input m = tells (outcome_of (mid 4 unwatched p input m))

-- 1 + 2 + .. + 10, by a loop that an exit of two levels leaves
abbrev pub sum_of_ten : Program
sum_of_ten = program (function 4 0 [] (
    Number 2 10 ∷ Number 3 1
    ∷ Loop (steps (
    If 2 stop (steps (Exit 1 ∷ []))
    ∷ Block (steps (Arith 0 op.Add 0 2 ∷ Arith 2 op.Sub 2 3 ∷ Exit 1 ∷ []))
    ∷ []))
    ∷ Return 0 ∷ []) ∷ [])

-- a function that writes its argument and gives it back plus one is called twice
abbrev pub two_calls : Program
two_calls = program (
    function 2 0 [] (Number 0 104 ∷ Call 0 1 (0 ∷ []) ∷ Call 0 1 (0 ∷ []) ∷ Return 0 ∷ [])
    ∷ function 2 1 [] (Library 1 lib.Putchar (0 ∷ []) 1 None None ∷ Number 1 1 ∷ Arith 0 op.Add 0 1 ∷ Return 0 ∷ [])
    ∷ [])

-- a division by zero on line 7
abbrev pub division : Program
division = program (function 3 0 [] (Number 0 5 ∷ Divide 2 divide.Div 0 1 7 ∷ Return 2 ∷ []) ∷ [])

-- a pointer to an object of 20 bytes, padded to 32, is moved by a distance, and what is there is read
abbrev pub reads_at : (distance : ℕ) → Program
reads_at n = program (function 4 0 (block 0 20 ∷ []) (
    Clear (object.Local 0)
    ∷ Number 3 258 ∷ Init (object.Local 0) 4 3 width.Word
    ∷ Named 0 (object.Local 0) ∷ Number 1 n ∷ Move 0 2 0 1 1 false 3 ∷ Load 3 2 width.Byte 3 ∷ Return 3 ∷ []) ∷ [])

-- the same, where the move is watched to stay in the object
abbrev pub watches_first : Watch
watches_first site = Some (object.Local 0)

-- memory is freed and then read
abbrev pub use_after_free : Program
use_after_free = program (function 3 0 [] (
    Number 0 10 ∷ Library 1 lib.Malloc (0 ∷ []) 1 None None ∷ Library 2 lib.Free (1 ∷ []) 1 None None ∷ Load 2 1 width.Byte 1 ∷ Return 2 ∷ [])
    ∷ [])

-- 16 bytes are copied to an object of 10 bytes
abbrev pub long_copy : Program
long_copy = program (function 3 0 (block 0 10 ∷ block 1 16 ∷ []) (
    Named 0 (object.Local 0) ∷ Named 1 (object.Local 1) ∷ CopyBytes 0 1 1 0 16 9 ∷ Return 2 ∷ []) ∷ [])

-- What these runs come to.
pub record Examples : Type 0 where
  pub sums : runs_to sum_of_ten [] 11 ≡ (Came (Exited 55), [], 0)
  pub is_cut : runs_to sum_of_ten [] 10 ≡ (Came Cut, [], 0)
  pub calls_twice : runs_to two_calls [] 2 ≡ (Came (Exited 106), 104 ∷ 105 ∷ [], 0)
  pub calls_no_deeper : runs_to two_calls [] 1 ≡ (Came Cut, [], 0)
  pub divides_by_zero : runs_to division [] 1 ≡ (Came (Reported report.DivZero 7), [], 0)
  pub reads_inside : runs_to (reads_at 5) [] 1 ≡ (Came (Exited 1), [], 24)
  pub reads_padding : runs_to (reads_at 20) [] 1 ≡ (Came (Outside cause.Padding), [], 24)
  pub reads_past_padding : runs_to (reads_at 39) [] 1 ≡ (Came (Trapped trap.Marked), [], 24)
  pub moves_too_far : runs_to (reads_at 40) [] 1 ≡ (Came (Reported report.Bounds 3), [], 24)
  pub moves_below : runs_to (reads_at 4294967288) [] 1 ≡ (Came (Trapped trap.Marked), [], 24)
  pub moves_too_far_below : runs_to (reads_at 4294967287) [] 1 ≡ (Came (Reported report.Bounds 3), [], 24)
  pub stays : tells (outcome_of (mid 4 watches_first (reads_at 19) [] 1)) ≡ (Came (Exited 0), [], 24)
  pub strays : tells (outcome_of (mid 4 watches_first (reads_at 20) [] 1)) ≡ (Strayed, [], 24)
  pub reads_freed : runs_to use_after_free [] 1 ≡ (Came (Outside cause.Dead), [], 0)
  pub copies_past_the_end : runs_to long_copy [] 1 ≡ (Came (Outside cause.Padding), [], 0)

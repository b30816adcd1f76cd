-- How many bytes of machine code each step of mid code may come to, at most, with branches and jumps in their long form.
--
-- The numbers are what instrumented code weighs, or a little more. A checked move is 240 bytes, to which come its line and
-- its distance as values and the copy of its result; a load of a pointer is 160, to which comes its line; a call is 192
-- whatever its arguments; a division has a test and a report besides itself.
use Rattle.std.specs.Prelude.{ℕ, ◌+◌, List, [], ◌∷◌}
use Rattle.bb_words.specs.declared.steps.Width.{Width}
use Rattle.bb_words.specs.declared.steps.Width.TheVariants as width
use Rattle.mid_code.specs.Code.{Step, Number, NullPtr, Same, Arith, Divide, Named, Move, MoveBy, Load, Store, Clear, Init, CopyBytes, PtrSame}
use Rattle.mid_code.specs.Code.{PtrOrder, PtrDiff, Call, Library, If, Block, Loop, Exit, Return, LineMark, Steps, stop, step, Function, Program}

-- the load of a number has no check
abbrev pub weight_of_load : Width → ℕ
weight_of_load width.Pointer = 172
weight_of_load w = 12

abbrev mutual
  pub weight_of : Step → ℕ
  weight_of (Number to n) = 16
  weight_of (NullPtr to) = 12
  weight_of (Same to from) = 8
  weight_of (Arith to o a b) = 24
  weight_of (Divide to o a b line) = 72
  weight_of (Named to o) = 24
  weight_of (Move site to from by scale down line) = 292
  weight_of (MoveBy site to from d line) = 272
  weight_of (Load to at w line) = weight_of_load w
  weight_of (Store at from w) = 20
  weight_of (Clear o) = 200
  weight_of (Init o offset from w) = 40
  weight_of (CopyBytes a b from to n line) = 216
  weight_of (PtrSame to a b) = 24
  weight_of (PtrOrder to o a b) = 60
  weight_of (PtrDiff to a b size) = 104
  weight_of (Call to f args) = 192
  weight_of (Library to which args line a b) = 204
  weight_of (If cond xs ys) = 32 + weight_of_all xs + weight_of_all ys
  weight_of (Block body) = weight_of_all body
  weight_of (Loop body) = 16 + weight_of_all body
  weight_of (Exit n) = 16
  weight_of (Return from) = 24
  weight_of (LineMark line) = 4

  pub weight_of_all : Steps → ℕ
  weight_of_all stop = 0
  weight_of_all (step x xs) = weight_of x + weight_of_all xs

-- a function enters its frame, zeroes its values, and leaves
abbrev pub weight_of_function : Function → ℕ
weight_of_function f = 384 + weight_of_all f.body

abbrev pub weight_of_functions : List Function → ℕ
weight_of_functions [] = 0
weight_of_functions (f ∷ fs) = weight_of_function f + weight_of_functions fs

abbrev pub weight : Program → ℕ
weight p = weight_of_functions p.functions

-- Which programs are built: those whose objects are all of the heap.
use Rattle.std.specs.Prelude.{◌≡◌, Bool, true, false, ◌&&◌, List, [], ◌∷◌, All}
use Rattle.typed_tree.specs.declared.typed_expr.LibCall.{LibCall}
use Rattle.typed_tree.specs.declared.typed_expr.LibCall.TheVariants as lib
use Rattle.mid_code.specs.Code.{Step, Steps, Function, Program}
use Rattle.block_layout.specs.Layout.{AreSmall}

-- the functions of the library that the environment does
abbrev pub is_of_environment : LibCall → Bool
is_of_environment lib.Putchar = true
is_of_environment lib.Getchar = true
is_of_environment lib.Exit = true
is_of_environment lib.Malloc = true
is_of_environment lib.Calloc = true
is_of_environment lib.Free = true
is_of_environment lib.Memcpy = false
is_of_environment lib.Memset = false

abbrev mutual
  -- steps that name no object, and copy none
  pub is_built_step : Step → Bool
  is_built_step (Step.Number to value) = true
  is_built_step (Step.NullPtr to) = true
  is_built_step (Step.Same to from) = true
  is_built_step (Step.Arith to o a b) = true
  is_built_step (Step.Divide to o a b line) = true
  is_built_step (Step.PtrSame to a b) = true
  is_built_step (Step.PtrOrder to o a b) = true
  is_built_step (Step.PtrDiff to a b size) = true
  is_built_step (Step.Move site to from by scale down line) = true
  is_built_step (Step.MoveBy site to from d line) = true
  is_built_step (Step.Load to at width line) = true
  is_built_step (Step.Store at from width) = true
  is_built_step (Step.Call to f args) = true
  is_built_step (Step.Library to which args line a b) = is_of_environment which
  is_built_step (Step.If cond xs ys) = are_built_steps xs && are_built_steps ys
  is_built_step (Step.Block body) = are_built_steps body
  is_built_step (Step.Loop body) = are_built_steps body
  is_built_step (Step.Exit levels) = true
  is_built_step (Step.Return from) = true
  is_built_step (Step.LineMark line) = true
  is_built_step x = false

  pub are_built_steps : Steps → Bool
  are_built_steps Steps.stop = true
  are_built_steps (Steps.step x xs) = is_built_step x && are_built_steps xs

-- no block local of a function has more than 16 MiB
pub record IsBuiltFunction (f : Function) : Type 0 where
  pub body : are_built_steps f.body ≡ true
  pub blocks : AreSmall f.blocks

pub record IsBuilt (p : Program) : Type 0 where
  pub globals : p.globals ≡ []
  pub functions : All IsBuiltFunction p.functions

-- ---- What the code can tell: that a program is built, and that no function has block locals

abbrev pub is_none : {X : Type 0} → List X → Bool
is_none [] = true
is_none (x ∷ xs) = false

abbrev pub is_built_function : Function → Bool
is_built_function f = is_none f.blocks && are_built_steps f.body

abbrev pub are_built_functions : List Function → Bool
are_built_functions [] = true
are_built_functions (f ∷ fs) = is_built_function f && are_built_functions fs

abbrev pub is_built : Program → Bool
is_built p = is_none p.globals && are_built_functions p.functions

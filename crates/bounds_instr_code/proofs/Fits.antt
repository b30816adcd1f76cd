-- What the theorem takes of mid code that is well formed and built: by recursion on the steps, with only what each wants.
use Rattle.std.proofs.Common.{◌∙◌, ◌≡◌, ℕ, zero, suc, ◌<◌, ◌≤◌, Bool, true, false, ◌&&◌, List, [], ◌∷◌, All, Some, slice_get, map, refl, sym, ap, subst, arith, ◌+◌, length}
use Rattle.std.proofs.lemmas.Bool.{true≢false}
use Rattle.std.proofs.lemmas.Option.{none-some, same_Some, slice_get_within, get_or_from_slice_get}
use Rattle.typed_tree.specs.declared.typed_expr.LibCall.{LibCall}
use Rattle.typed_tree.specs.declared.typed_expr.LibCall.TheVariants as lib
use Rattle.mid_code.specs.Code.{Step, Steps, Function, Program}
use Rattle.mid_code.specs.Kinds.{Kind, Kinds, Signature, ArePassed, signature_of, IsKind, AreKinds}
use Rattle.mid_code.specs.Formed.{IsLine, IsDistance, IsCallOf, IsInRange, AreInRange, first_kinds, IsFunction, AreFunctions, Formed}
use Rattle.block_layout.specs.Layout.{Placed, AreSmall, layout}
use Rattle.flat_code.specs.Accounts.{frame_size}
use Rattle.injection.specs.Laws.{FramesAreAlike, exponents}
use Rattle.std.proofs.lemmas.List.Elements.{All-nil, All-cons, All-head, All-tail}
use Rattle.bounds_instr_code.specs.Built.{is_of_environment, is_built_step, are_built_steps, IsBuiltFunction, IsBuilt, is_none, is_built_function, are_built_functions, is_built}
use Rattle.bounds_instr_code.specs.declared.program.TheConstants.{TEMPORARIES}
use Rattle.bounds_instr_code.specs.Code.{code, frameless_code, function_code}

-- the arguments of a call of the library
abbrev pub HasArguments : (values : ℕ) → LibCall → List ℕ → Type 0
HasArguments n lib.Putchar args = (a : ℕ) × (args ≡ a ∷ []) × (a < n)
HasArguments n lib.Exit args = (a : ℕ) × (args ≡ a ∷ []) × (a < n)
HasArguments n lib.Getchar args = Unit {0}
HasArguments n lib.Malloc args = (a : ℕ) × (args ≡ a ∷ []) × (a < n)
HasArguments n lib.Calloc args = (a : ℕ) × (b : ℕ) × (args ≡ a ∷ b ∷ []) × (a < n) × (b < n)
HasArguments n lib.Free args = (a : ℕ) × (args ≡ a ∷ []) × (a < n)
HasArguments n lib.Memcpy args = ⊥
HasArguments n lib.Memset args = ⊥

-- in a function with so many values
module _ (p : Program) (n : ℕ) where
  abbrev mutual
    -- a step inside so many Blocks and Loops
    pub Fits : (levels : ℕ) → Step → Type 0
    Fits d (Step.Number to value) = (to < n) × (value < 4294967296)
    Fits d (Step.NullPtr to) = to < n
    Fits d (Step.Same to from) = (to < n) × (from < n)
    Fits d (Step.Arith to o a b) = (to < n) × (a < n) × (b < n)
    Fits d (Step.Divide to o a b line) = (to < n) × (a < n) × (b < n)
    Fits d (Step.PtrSame to a b) = (to < n) × (a < n) × (b < n)
    Fits d (Step.Call to f args) = (to < n) × IsCallOf p f args × All (λ a. a < n) args
    Fits d (Step.Library to which args line a b) = (to < n) × HasArguments n which args × IsLine line
    Fits d (Step.If cond xs ys) = (cond < n) × AllFit d xs × AllFit d ys
    Fits d (Step.Block body) = AllFit (suc d) body
    Fits d (Step.Loop body) = AllFit (suc d) body
    Fits d (Step.Exit k) = (1 ≤ k) × (k ≤ d)
    Fits d (Step.Return from) = from < n
    Fits d (Step.LineMark line) = IsLine line
    Fits d (Step.PtrOrder to o a b) = (to < n) × (a < n) × (b < n)
    Fits d (Step.PtrDiff to a b size) = (to < n) × (a < n) × (b < n) × (1 ≤ size) × (size ≤ 1048576)
    Fits d (Step.Move site to from by scale down line) = (to < n) × (from < n) × (by < n) × (scale < 4294967296) × IsLine line
    Fits d (Step.MoveBy site to from z line) = (to < n) × (from < n) × IsDistance z × IsLine line
    Fits d (Step.Load to at width line) = (to < n) × (at < n) × IsLine line
    Fits d (Step.Store at from width) = (at < n) × (from < n)
    Fits d x = ⊥

    pub AllFit : (levels : ℕ) → Steps → Type 0
    AllFit d Steps.stop = Unit {0}
    AllFit d (Steps.step x xs) = Fits d x × AllFit d xs

one_argument : (k : Kinds) (kind : Kind) (n : ℕ) (args : List ℕ) → map k args ≡ kind ∷ [] → All (λ a. a < n) args → (a : ℕ) × (args ≡ a ∷ []) × (a < n)
one_argument k kind n [] e h = absurd (true≢false (ap (λ xs. is_empty xs) e))
  where
    is_empty : List Kind → Bool
    is_empty [] = true
    is_empty (x ∷ xs) = false
one_argument k kind n (a ∷ []) e h = (a, refl, h 0 a (omega arith))
one_argument k kind n (a ∷ b ∷ args) e h = absurd (true≢false (ap (λ xs. has_two xs) e))
  where
    has_two : List Kind → Bool
    has_two [] = false
    has_two (x ∷ []) = false
    has_two (x ∷ y ∷ xs) = true

two_arguments : (k : Kinds) (first second : Kind) (n : ℕ) (args : List ℕ) → map k args ≡ first ∷ second ∷ [] → All (λ a. a < n) args → (a : ℕ) × (b : ℕ) × (args ≡ a ∷ b ∷ []) × (a < n) × (b < n)
two_arguments k first second n [] e h = absurd (true≢false (ap (λ xs. is_empty xs) e))
  where
    is_empty : List Kind → Bool
    is_empty [] = true
    is_empty (x ∷ xs) = false
two_arguments k first second n (a ∷ []) e h = absurd (true≢false (ap (λ xs. is_single xs) e))
  where
    is_single : List Kind → Bool
    is_single [] = false
    is_single (x ∷ []) = true
    is_single (x ∷ y ∷ xs) = false
two_arguments k first second n (a ∷ b ∷ []) e h = (a, b, refl, h 0 a (omega arith), h 1 b (omega arith))
two_arguments k first second n (a ∷ b ∷ c ∷ args) e h = absurd (true≢false (ap (λ xs. has_three xs) e))
  where
    has_three : List Kind → Bool
    has_three [] = false
    has_three (x ∷ []) = false
    has_three (x ∷ y ∷ []) = false
    has_three (x ∷ y ∷ z ∷ xs) = true

arguments_fit : (n : ℕ) (k : Kinds) (which : LibCall) (args : List ℕ) → is_of_environment which ≡ true → ArePassed k args (signature_of which).params → All (λ a. a < n) args → HasArguments n which args
arguments_fit n k lib.Putchar args b e h = one_argument k _ n args e h
arguments_fit n k lib.Exit args b e h = one_argument k _ n args e h
arguments_fit n k lib.Getchar args b e h = tt
arguments_fit n k lib.Malloc args b e h = one_argument k _ n args e h
arguments_fit n k lib.Calloc args b e h = two_arguments k _ _ n args e h
arguments_fit n k lib.Free args b e h = one_argument k _ n args e h
arguments_fit n k lib.Memcpy args b e h = absurd (true≢false (sym b))
arguments_fit n k lib.Memset args b e h = absurd (true≢false (sym b))

pub first_is : (a b : Bool) → a && b ≡ true → a ≡ true
first_is true b h = refl
first_is false b h = h

pub second_is : (a b : Bool) → a && b ≡ true → b ≡ true
second_is true b h = h
second_is false b h = absurd (true≢false (sym h))

module _ (p : Program) (f : Function) (signatures : List Signature) (result : Kind) where
  mutual
    step_fits : (x : Step) (d : ℕ) (k l : Kinds) (es : List Kinds) → is_built_step x ≡ true → IsInRange p f d x → IsKind signatures result x k l es → Fits p f.values d x
    step_fits (Step.Number to value) d k l es b r h = r
    step_fits (Step.NullPtr to) d k l es b r h = r
    step_fits (Step.Same to from) d k l es b r h = r
    step_fits (Step.Arith to o x y) d k l es b r h = r
    step_fits (Step.Divide to o x y line) d k l es b r h = (r.0, r.1, r.2)
    step_fits (Step.PtrSame to x y) d k l es b r h = r
    step_fits (Step.Call to c args) d k l es b r h = r
    step_fits (Step.Library to which args line x y) d k l es b r h = (r.0, arguments_fit f.values k which args b h.0 r.1, r.3)
    step_fits (Step.If cond xs ys) d k l es b r h =
        (r.0, steps_fit xs d k l es (first_is (are_built_steps xs) (are_built_steps ys) b) r.1 h.1, steps_fit ys d k l es (second_is (are_built_steps xs) (are_built_steps ys) b) r.2 h.2)
    step_fits (Step.Block body) d k l es b r h = steps_fit body (suc d) k l (l ∷ es) b r h
    step_fits (Step.Loop body) d k l es b r h = steps_fit body (suc d) h.0 h.0 (l ∷ es) b r h.2
    step_fits (Step.Exit m) d k l es b r h = r
    step_fits (Step.Return from) d k l es b r h = r
    step_fits (Step.LineMark line) d k l es b r h = r
    step_fits (Step.Named to o) d k l es b r h = absurd (true≢false (sym b))
    step_fits (Step.Move site to from by scale down line) d k l es b r h = r
    step_fits (Step.MoveBy site to from z line) d k l es b r h = r
    step_fits (Step.Load to at width line) d k l es b r h = r
    step_fits (Step.Store at from width) d k l es b r h = r
    step_fits (Step.Clear o) d k l es b r h = absurd (true≢false (sym b))
    step_fits (Step.Init o offset from width) d k l es b r h = absurd (true≢false (sym b))
    step_fits (Step.CopyBytes x y from to m line) d k l es b r h = absurd (true≢false (sym b))
    step_fits (Step.PtrOrder to o x y) d k l es b r h = r
    step_fits (Step.PtrDiff to x y size) d k l es b r h = r

    pub steps_fit : (xs : Steps) (d : ℕ) (k l : Kinds) (es : List Kinds) → are_built_steps xs ≡ true → AreInRange p f d xs → AreKinds signatures result xs k l es → AllFit p f.values d xs
    steps_fit Steps.stop d k l es b r h = tt
    steps_fit (Steps.step x xs) d k l es b r h =
        (step_fits x d k h.0 es (first_is (is_built_step x) (are_built_steps xs) b) r.0 h.1, steps_fit xs d h.0 l es (second_is (is_built_step x) (are_built_steps xs) b) r.1 h.2)

-- ---- Functions

-- what the theorem takes of each function
pub record FunctionFits (p : Program) (f : Function) : Type 0 where
  pub line : 1 ≤ f.line
  pub blocks : AreSmall f.blocks
  pub body : AllFit p f.values 0 f.body

pub signature_is : (p : Program) (all : List Signature) (fs : List Function) (ss : List Signature) (i : ℕ) (f : Function) → AreFunctions p all fs ss → slice_get fs i ≡ Some f → (s : Signature) × (slice_get ss i ≡ Some s) × IsFunction p all f s
signature_is p all [] ss i f h e = absurd (none-some f e)
signature_is p all (x ∷ fs) [] i f h e = absurd h
signature_is p all (x ∷ fs) (s ∷ ss) zero f h e = (s, refl, subst (λ y. IsFunction p all y s) (same_Some x f e) h.0)
signature_is p all (x ∷ fs) (s ∷ ss) (suc i) f h e = signature_is p all fs ss i f h.1 e

pub functions_fit : (p : Program) → Formed p → IsBuilt p → (i : ℕ) (f : Function) → slice_get p.functions i ≡ Some f → FunctionFits p f
functions_fit p formed built i f found =
    let is = signature_is p formed.signatures p.functions formed.signatures i f formed.functions found in
    let b = all_get IsBuiltFunction p.functions i f built.functions found in
    record {
      line = is.2.line.0;
      blocks = b.blocks;
      body = steps_fit p f formed.signatures is.0.result f.body 0 (first_kinds is.0) is.2.last [] b.body is.2.ranges is.2.kinds;
    }
  where
    all_get : {X : Type 0} (P : X → Type 0) (xs : List X) (k : ℕ) (x : X) → All P xs → slice_get xs k ≡ Some x → P x
    all_get P xs k x all found = subst P (get_or_from_slice_get xs k x x found) (all k x (slice_get_within xs k x found))

-- ---- What the code can tell

none_is : {X : Type 0} (xs : List X) → is_none xs ≡ true → xs ≡ []
none_is [] e = refl
none_is (x ∷ xs) e = absurd (true≢false (sym e))

functions_built : (fs : List Function) → are_built_functions fs ≡ true → All IsBuiltFunction fs × All (λ f. f.blocks ≡ []) fs
functions_built [] e = (All-nil IsBuiltFunction, All-nil (λ (f : Function). f.blocks ≡ []))
functions_built (f ∷ fs) e =
    let one = first_is (is_built_function f) (are_built_functions fs) e in
    let rest = functions_built fs (second_is (is_built_function f) (are_built_functions fs) e) in
    let empty = none_is f.blocks (first_is (is_none f.blocks) (are_built_steps f.body) one) in (
      All-cons IsBuiltFunction f fs (record { body = second_is (is_none f.blocks) (are_built_steps f.body) one; blocks = subst AreSmall (sym empty) tt }) rest.0,
      All-cons (λ (h : Function). h.blocks ≡ []) f fs empty rest.1,
    )

pub is_built_is : (p : Program) → is_built p ≡ true → IsBuilt p × All (λ f. f.blocks ≡ []) p.functions
is_built_is p e =
    let fs = functions_built p.functions (second_is (is_none p.globals) (are_built_functions p.functions) e) in
    (record { globals = none_is p.globals (first_is (is_none p.globals) (are_built_functions p.functions) e); functions = fs.0 }, fs.1)

-- the code of functions without block locals is the same for slots of every size
pub frameless : FramesAreAlike → (g : ℕ) → 1 ≤ g → g ≤ 24 → (fs : List Function) → All (λ f. f.blocks ≡ []) fs → map (frameless_code g) fs ≡ map (function_code g) fs
frameless frames g big small [] h = refl
frameless frames g big small (f ∷ fs) h =
    ap (λ n. record { values = f.values + TEMPORARIES; params = f.params; frame = n; line = f.line; body = code g f.values f.body } ∷ map (frameless_code g) fs) (sym (ap (λ bs. frame_size (exponents (layout g bs))) (All-head (λ (h : Function). h.blocks ≡ []) f fs h) ∙ ap (λ plan. frame_size (exponents plan)) (no_plan (layout g []) (frames g 0 [] big small (omega arith) tt).count)))
    ∙ ap (λ z. function_code g f ∷ z) (frameless frames g big small fs (All-tail (λ (h : Function). h.blocks ≡ []) f fs h))
  where
    no_plan : (plan : List Placed) → length plan ≡ 0 → plan ≡ []
    no_plan [] e = refl
    no_plan (x ∷ plan) e = absurd (omega (arith, e))

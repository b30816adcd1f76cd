-- The flat code of mid code keeps the discipline: what is a pointer in mid code is untainted, the temporaries of sequences
-- are read nowhere else, and a value that is used as an address is a pointer.
use Rattle.std.specs.Prelude.{◌==◌, nat_lt, nat_le, option_map, not, ◌&&◌, if◌then◌else◌, slice_index_or}
use Rattle.std.proofs.Common.{◌≡◌, ◌≢◌, lt-ltb, le-leb, eq-eqb, ne_eqb, eqb-true, ◌||◌, ℕ, zero, suc, ◌+◌, ◌<◌, ◌≤◌, Bool, true, false, List, [], ◌∷◌, length, map, All, Option, Some, None, slice_get, refl, sym, ap, ◌∙◌, subst, arith, ⊎_elim}
use Rattle.std.proofs.lemmas.Bool.{true≢false}
use Rattle.std.proofs.lemmas.Bool.Decides.{nat_tests}
use Rattle.std.proofs.lemmas.List.Elements.{All-head, All-tail}
use Rattle.std.proofs.lemmas.Option.{none-some, same_Some, slice_get-map}
use Rattle.bb_words.specs.Numbers.{word_of}
use Rattle.bb_words.specs.declared.kinds.ReportKind.TheVariants.{DivZero, Pointer}
use Rattle.bb_words.specs.declared.steps.ArithOp.{ArithOp}
use Rattle.bb_words.specs.declared.steps.ArithOp.TheVariants as op
use Rattle.bb_words.specs.declared.steps.OrderOp.{OrderOp}
use Rattle.bb_words.specs.declared.steps.OrderOp.TheVariants as order
use Rattle.bb_words.specs.declared.steps.Width.{Width}
use Rattle.bb_words.specs.declared.steps.Width.TheVariants as width
use Rattle.typed_tree.specs.declared.typed_expr.LibCall.{LibCall}
use Rattle.typed_tree.specs.declared.typed_expr.LibCall.TheVariants as lib
use Rattle.size_table.specs.Blocks.{Block as Region}
use Rattle.mid_code.specs.Code.{Step, Steps, Function, Program}
use Rattle.mid_code.specs.Kinds.{Kind, Kinds, Signature, with_kind, Forgets, signature_of, kind_of_width, IsCalled, IsKind, AreKinds}
use Rattle.mid_code.specs.Formed.{IsCallOf, first_kinds, Formed}
use Rattle.flat_code.specs.Code.{FStep, FSteps, none, more, ◌+++◌, steps, FFunction}
use Rattle.flat_code.specs.Sequences.{report, address_steps, outside_steps, owned_steps}
use Rattle.flat_code.specs.Recognized.{Sequence, sequence_steps, is_apart, is_none_of}
use Rattle.flat_discipline.specs.Items.{Item, Items, item_steps, all_steps, items_of}
use Rattle.flat_discipline.specs.Items.Items.{end, next}
use Rattle.flat_discipline.specs.Facts.{Fact, Source, Setting, Here, untold, branch, here_after, held_if, gone_if, set_by, sets, clean_of, is_among}
use Rattle.flat_discipline.specs.Chains.{Leading, leading, leads}
use Rattle.flat_discipline.specs.Breaks.{fits, is_plain, address, reads, all_below, is_count}
use Rattle.flat_discipline.specs.Closed.{Known, Covers, holds, known_after}
use Rattle.flat_discipline.specs.Discipline.{setting_in, params_in, library_fits, main_fits, IsDisciplined}
use Rattle.flat_discipline.specs.Derivations.{Signs, address_known, all_own, implied, passes_known, hands, Fit, Ready, Leads, Good, Goods, at_start, GoodFunction, GoodProgram}
use Rattle.flat_discipline.specs.Laws.{PlainItemsAreRead, DerivationsAreAccepted, ArePlainly}
use Rattle.bounds_instr_code.specs.Built.{IsBuilt}
use Rattle.bounds_instr_code.specs.Code.{quotient, order_step, factor, library_code, first_of, second_of, step_code, code, function_code, instrumented}
use Rattle.bounds_instr_code.proofs.Fits.{HasArguments, Fits, AllFit, signature_is, functions_fit, first_is, second_is}

-- ---- The items of code

abbrev pub joined : Items → Items → Items
joined end b = b
joined (next i a) b = next i (joined a b)

abbrev one : FStep → Items
one s = next (Item.Plain s) end

abbrev pub allocation_items : (t to count size : ℕ) → Items
allocation_items t to a b = next (Item.Plain (FStep.Arith t op.Mulhu a b)) (next (Item.If t (one (FStep.Number t 0xffff_ffff)) (one (FStep.Arith t op.Mul a b))) (one (FStep.Env to 4 t t)))

abbrev pub library_items : (t : ℕ) → LibCall → (to line : ℕ) → (args : List ℕ) → Items
library_items t lib.Putchar to line args = one (FStep.Env to 3 (first_of args) (first_of args))
library_items t lib.Getchar to line args = one (FStep.Env to 2 to to)
library_items t lib.Exit to line args = one (FStep.Env to 1 (first_of args) (first_of args))
library_items t lib.Malloc to line args = one (FStep.Env to 4 (first_of args) (first_of args))
library_items t lib.Calloc to line args = allocation_items t to (first_of args) (second_of args)
library_items t lib.Free to line args = next (Item.Plain (FStep.Number t line)) (next (Item.Plain (FStep.Env to 5 (first_of args) t)) (one (FStep.Number to 0)))
library_items t lib.Memcpy to line args = end
library_items t lib.Memset to line args = end

abbrev pub order_items : (t to : ℕ) → OrderOp → (left right : ℕ) → Items
order_items t to o a b = next (Item.Plain (FStep.Arith t op.Add a a)) (next (Item.Plain (FStep.Arith (t + 1) op.Add b b)) (one (order_step o to t (t + 1))))

abbrev pub subtraction_items : (t to left right size : ℕ) → Items
subtraction_items t to a b size =
    next (Item.Plain (FStep.Number t 0x7fff_ffff)) (next (Item.Plain (FStep.Arith (t + 1) op.And b t)) (next (Item.Plain (FStep.Arith t op.And a t))
    (next (Item.Plain (FStep.Arith t op.Sub t (t + 1))) (next (Item.Plain (FStep.Number (t + 1) size)) (one (FStep.Arith to op.Div t (t + 1)))))))

abbrev pub load_items : (t to at : ℕ) → Width → (line : ℕ) → Items
load_items t to at width.Pointer line = next (Item.Plain (FStep.Number t line)) (next (Item.Checks (Sequence.Load to at t (t + 1) (t + 2))) end)
load_items t to at w line = one (FStep.Load to at w)

abbrev pub moved_items : (t to from : ℕ) → Items
moved_items t to from = next (Item.Checks (Sequence.Move from t (t + 2) (t + 1) (t + 3) (t + 4))) (one (FStep.Same to (t + 2)))

abbrev pub move_items : (t to from by scale : ℕ) → (down : Bool) → (line : ℕ) → Items
move_items t to from by scale down line =
    next (Item.Plain (FStep.Number (t + 1) line)) (next (Item.Plain (FStep.Number t (factor scale down))) (next (Item.Plain (FStep.Arith t op.Mul by t)) (moved_items t to from)))

abbrev pub move_by_items : (t to from distance line : ℕ) → Items
move_by_items t to from distance line = next (Item.Plain (FStep.Number (t + 1) line)) (next (Item.Plain (FStep.Number t distance)) (moved_items t to from))

module _ (n : ℕ) where
  abbrev mutual
    pub step_items : Step → Items
    step_items (Step.Number to value) = one (FStep.Number to value)
    step_items (Step.NullPtr to) = one (FStep.Number to 0)
    step_items (Step.Same to from) = one (FStep.Same to from)
    step_items (Step.Arith to o a b) = one (FStep.Arith to o a b)
    step_items (Step.Divide to o a b line) =
        next (Item.If b end (next (Item.Plain (FStep.Number n line)) (one (FStep.Report DivZero n)))) (one (FStep.Arith to (quotient o) a b))
    step_items (Step.PtrSame to a b) = one (FStep.Arith to op.Equal a b)
    step_items (Step.Call to f args) = one (FStep.Call to f args)
    step_items (Step.Library to which args line a b) = library_items n which to line args
    step_items (Step.If cond xs ys) = next (Item.If cond (items xs) (items ys)) end
    step_items (Step.Block body) = next (Item.Block (items body)) end
    step_items (Step.Loop body) = next (Item.Loop (items body)) end
    step_items (Step.Exit levels) = one (FStep.Exit levels)
    step_items (Step.Return from) = one (FStep.Return from)
    step_items (Step.LineMark line) = one (FStep.LineMark line)
    step_items (Step.PtrOrder to o a b) = order_items n to o a b
    step_items (Step.PtrDiff to a b size) = subtraction_items n to a b size
    step_items (Step.Move site to from by scale down line) = move_items n to from by scale down line
    step_items (Step.MoveBy site to from z line) = move_by_items n to from (word_of z) line
    step_items (Step.Load to at width line) = load_items n to at width line
    step_items (Step.Store at from width) = one (FStep.Store at from width)
    step_items x = end

    pub items : Steps → Items
    items Steps.stop = end
    items (Steps.step x xs) = joined (step_items x) (items xs)

appended : (a b c : FSteps) → (a +++ b) +++ c ≡ a +++ (b +++ c)
appended none b c = refl
appended (more x a) b c = ap (more x) (appended a b c)

appended_none : (a : FSteps) → a +++ none ≡ a
appended_none none = refl
appended_none (more x a) = ap (more x) (appended_none a)

joined_steps : (g : ℕ) (a b : Items) → all_steps g (joined a b) ≡ all_steps g a +++ all_steps g b
joined_steps g end b = refl
joined_steps g (next i a) b = ap (λ z. item_steps g i +++ z) (joined_steps g a b) ∙ sym (appended (item_steps g i) (all_steps g a) (all_steps g b))

library_steps : (g t : ℕ) (which : LibCall) (to line : ℕ) (args : List ℕ) → all_steps g (library_items t which to line args) ≡ library_code t which to line args
library_steps g t lib.Putchar to line args = refl
library_steps g t lib.Getchar to line args = refl
library_steps g t lib.Exit to line args = refl
library_steps g t lib.Malloc to line args = refl
library_steps g t lib.Calloc to line args = refl
library_steps g t lib.Free to line args = refl
library_steps g t lib.Memcpy to line args = refl
library_steps g t lib.Memset to line args = refl

module _ (g n : ℕ) where
  mutual
    steps_of_step : (x : Step) → all_steps g (step_items n x) ≡ step_code g n x
    steps_of_step (Step.Number to value) = refl
    steps_of_step (Step.NullPtr to) = refl
    steps_of_step (Step.Same to from) = refl
    steps_of_step (Step.Arith to o a b) = refl
    steps_of_step (Step.Divide to o a b line) = refl
    steps_of_step (Step.PtrSame to a b) = refl
    steps_of_step (Step.Call to f args) = refl
    steps_of_step (Step.Library to which args line a b) = library_steps g n which to line args
    steps_of_step (Step.If cond xs ys) = ap (λ z. more (FStep.If cond z (all_steps g (items n ys))) none) (steps_of_items xs) ∙ ap (λ z. more (FStep.If cond (code g n xs) z) none) (steps_of_items ys)
    steps_of_step (Step.Block body) = ap (λ z. more (FStep.Block z) none) (steps_of_items body)
    steps_of_step (Step.Loop body) = ap (λ z. more (FStep.Loop z) none) (steps_of_items body)
    steps_of_step (Step.Exit levels) = refl
    steps_of_step (Step.Return from) = refl
    steps_of_step (Step.LineMark line) = refl
    steps_of_step (Step.Named to o) = refl
    steps_of_step (Step.Move site to from by scale down line) = refl
    steps_of_step (Step.MoveBy site to from z line) = refl
    steps_of_step (Step.Load to at width.Byte line) = refl
    steps_of_step (Step.Load to at width.Half line) = refl
    steps_of_step (Step.Load to at width.SignedHalf line) = refl
    steps_of_step (Step.Load to at width.Word line) = refl
    steps_of_step (Step.Load to at width.Pointer line) = ap (more (FStep.Number n line)) (appended_none _)
    steps_of_step (Step.Store at from width) = refl
    steps_of_step (Step.Clear o) = refl
    steps_of_step (Step.Init o offset from width) = refl
    steps_of_step (Step.CopyBytes a b from to m line) = refl
    steps_of_step (Step.PtrOrder to o a b) = refl
    steps_of_step (Step.PtrDiff to a b size) = refl

    pub steps_of_items : (xs : Steps) → all_steps g (items n xs) ≡ code g n xs
    steps_of_items Steps.stop = refl
    steps_of_items (Steps.step x xs) =
        joined_steps g (step_items n x) (items n xs) ∙ ap (λ z. z +++ all_steps g (items n xs)) (steps_of_step x) ∙ ap (λ z. step_code g n x +++ z) (steps_of_items xs)

-- ---- None begins a sequence

joined_plainly : (a b : Items) → ArePlainly a → ArePlainly b → ArePlainly (joined a b)
joined_plainly end b h k = k
joined_plainly (next i a) b h k = (h.0, joined_plainly a b h.1 k)

library_plainly : (t : ℕ) (which : LibCall) (to line : ℕ) (args : List ℕ) → ArePlainly (library_items t which to line args)
library_plainly t lib.Putchar to line args = ((refl, refl), tt)
library_plainly t lib.Getchar to line args = ((refl, refl), tt)
library_plainly t lib.Exit to line args = ((refl, refl), tt)
library_plainly t lib.Malloc to line args = ((refl, refl), tt)
library_plainly t lib.Free to line args = ((refl, refl), ((refl, refl), ((refl, refl), tt)))
library_plainly t lib.Calloc to line args = ((refl, refl), ((((refl, refl), tt), ((refl, refl), tt)), ((refl, refl), tt)))
library_plainly t lib.Memcpy to line args = tt
library_plainly t lib.Memset to line args = tt

order_plainly : (t to : ℕ) (o : OrderOp) (a b : ℕ) → ArePlainly (order_items t to o a b)
order_plainly t to order.Below a b = ((refl, refl), ((refl, refl), ((refl, refl), tt)))
order_plainly t to order.AtMost a b = ((refl, refl), ((refl, refl), ((refl, refl), tt)))
order_plainly t to order.Above a b = ((refl, refl), ((refl, refl), ((refl, refl), tt)))
order_plainly t to order.AtLeast a b = ((refl, refl), ((refl, refl), ((refl, refl), tt)))

both : (a b : Bool) → a ≡ true → b ≡ true → a && b ≡ true
both a b e f = ap (λ z. z && b) e ∙ f

none_of : (x y : ℕ) (ys : List ℕ) → x ≢ y → is_none_of x ys ≡ true → is_none_of x (y ∷ ys) ≡ true
none_of x y ys ne h = both (not (x == y)) (is_none_of x ys) (ap not (ne_eqb x y ne)) h

load_apart : (n to at : ℕ) → to < n → is_apart (Sequence.Load to at n (n + 1) (n + 2)) ≡ true
load_apart n to at lt =
    both _ _ (none_of to n [] (λ e. omega (arith, lt, e)) refl)
    (both _ _ (none_of (n + 1) to (n ∷ []) (λ e. omega (arith, lt, e)) (none_of (n + 1) n [] (λ e. omega (arith, e)) refl))
    (none_of (n + 2) to (n ∷ (n + 1) ∷ []) (λ e. omega (arith, lt, e)) (none_of (n + 2) n ((n + 1) ∷ []) (λ e. omega (arith, e)) (none_of (n + 2) (n + 1) [] (λ e. omega (arith, e)) refl))))

move_apart : (n from : ℕ) → from < n → is_apart (Sequence.Move from n (n + 2) (n + 1) (n + 3) (n + 4)) ≡ true
move_apart n from lt =
    both _ _ (none_of (n + 2) from (n ∷ (n + 1) ∷ []) (λ e. omega (arith, lt, e)) (none_of (n + 2) n ((n + 1) ∷ []) (λ e. omega (arith, e)) (none_of (n + 2) (n + 1) [] (λ e. omega (arith, e)) refl)))
    (both _ _
    (none_of (n + 3) from (n ∷ (n + 1) ∷ (n + 2) ∷ []) (λ e. omega (arith, lt, e)) (none_of (n + 3) n ((n + 1) ∷ (n + 2) ∷ []) (λ e. omega (arith, e)) (none_of (n + 3) (n + 1) ((n + 2) ∷ []) (λ e. omega (arith, e)) (none_of (n + 3) (n + 2) [] (λ e. omega (arith, e)) refl))))
    (none_of (n + 4) from (n ∷ (n + 1) ∷ (n + 2) ∷ (n + 3) ∷ []) (λ e. omega (arith, lt, e)) (none_of (n + 4) n ((n + 1) ∷ (n + 2) ∷ (n + 3) ∷ []) (λ e. omega (arith, e)) (none_of (n + 4) (n + 1) ((n + 2) ∷ (n + 3) ∷ []) (λ e. omega (arith, e)) (none_of (n + 4) (n + 2) ((n + 3) ∷ []) (λ e. omega (arith, e)) (none_of (n + 4) (n + 3) [] (λ e. omega (arith, e)) refl))))))

module _ (p : Program) (n : ℕ) where
  mutual
    step_plainly : (x : Step) (d : ℕ) → Fits p n d x → ArePlainly (step_items n x)
    step_plainly (Step.Number to value) d f = ((refl, refl), tt)
    step_plainly (Step.NullPtr to) d f = ((refl, refl), tt)
    step_plainly (Step.Same to from) d f = ((refl, refl), tt)
    step_plainly (Step.Arith to o a b) d f = ((refl, refl), tt)
    step_plainly (Step.Divide to o a b line) d f = ((tt, ((refl, refl), ((refl, refl), tt))), ((refl, refl), tt))
    step_plainly (Step.PtrSame to a b) d f = ((refl, refl), tt)
    step_plainly (Step.Call to c args) d f = ((refl, refl), tt)
    step_plainly (Step.Library to which args line a b) d f = library_plainly n which to line args
    step_plainly (Step.If cond xs ys) d f = ((plainly xs d f.1, plainly ys d f.2), tt)
    step_plainly (Step.Block body) d f = (plainly body (suc d) f, tt)
    step_plainly (Step.Loop body) d f = (plainly body (suc d) f, tt)
    step_plainly (Step.Exit levels) d f = ((refl, refl), tt)
    step_plainly (Step.Return from) d f = ((refl, refl), tt)
    step_plainly (Step.LineMark line) d f = ((refl, refl), tt)
    step_plainly (Step.PtrOrder to o a b) d f = order_plainly n to o a b
    step_plainly (Step.PtrDiff to a b size) d f = ((refl, refl), ((refl, refl), ((refl, refl), ((refl, refl), ((refl, refl), ((refl, refl), tt))))))
    step_plainly (Step.Move site to from by scale down line) d f = ((refl, refl), ((refl, refl), ((refl, refl), (move_apart n from f.1, ((refl, refl), tt)))))
    step_plainly (Step.MoveBy site to from z line) d f = ((refl, refl), ((refl, refl), (move_apart n from f.1, ((refl, refl), tt))))
    step_plainly (Step.Load to at width.Byte line) d f = ((refl, refl), tt)
    step_plainly (Step.Load to at width.Half line) d f = ((refl, refl), tt)
    step_plainly (Step.Load to at width.SignedHalf line) d f = ((refl, refl), tt)
    step_plainly (Step.Load to at width.Word line) d f = ((refl, refl), tt)
    step_plainly (Step.Load to at width.Pointer line) d f = ((refl, refl), (load_apart n to at f.0, tt))
    step_plainly (Step.Store at from width) d f = ((refl, refl), tt)
    step_plainly (Step.Named to o) d f = tt
    step_plainly (Step.Clear o) d f = tt
    step_plainly (Step.Init o offset from width) d f = tt
    step_plainly (Step.CopyBytes a b from to m line) d f = tt

    pub plainly : (xs : Steps) (d : ℕ) → AllFit p n d xs → ArePlainly (items n xs)
    plainly Steps.stop d f = tt
    plainly (Steps.step x xs) d f = joined_plainly (step_items n x) (items n xs) (step_plainly x d f.0) (plainly xs d f.1)

-- ---- What is known

abbrev is_pointer : Kind → Bool
is_pointer Kind.IsPointer = true
is_pointer Kind.IsNumber = false
is_pointer Kind.Unknown = false

-- In a function with n values: that pointers are untainted, and that its values, and these temporaries, were not last set
-- inside a sequence.
abbrev known : (n : ℕ) → (ts : List ℕ) → Kinds → Known
known n ts k (Fact.Clean v) = nat_lt v n && is_pointer (k v)
known n ts k (Fact.Own v) = nat_lt v n || is_among v ts
known n ts k (Fact.Spanned x m) = false

-- after a move, whose result is another temporary
abbrev known_moved : (n : ℕ) → Kinds → Known
known_moved n k (Fact.Clean v) = (nat_lt v n && is_pointer (k v)) || (v == n + 2)
known_moved n k (Fact.Own v) = nat_lt v n || (v == n + 2)
known_moved n k (Fact.Spanned x m) = false

-- what each exit wants to be known
abbrev exits : (n : ℕ) → List Kinds → List Known
exits n es = map (known n []) es

abbrev kind_in : Option Signature → (parameter : ℕ) → Kind
kind_in None j = Kind.Unknown
kind_in (Some s) j = slice_index_or s.params j Kind.IsNumber

abbrev result_in : Option Signature → Kind
result_in None = Kind.Unknown
result_in (Some s) = s.result

-- the parameters and results that are pointers
abbrev signs : List Signature → Signs
signs ss = record { takes = λ f j. is_pointer (kind_in (slice_get ss f) j); gives = λ f. is_pointer (result_in (slice_get ss f)) }

or_left : (a b : Bool) → a ≡ true → a || b ≡ true
or_left a b e = ap (λ z. z || b) e

or_right : (a b : Bool) → b ≡ true → a || b ≡ true
or_right true b e = refl
or_right false b e = e

or_only : (a : Bool) → a || false ≡ true → a ≡ true
or_only true e = refl
or_only false e = e

or_false : (a b : Bool) → a || false ≡ true → a || b ≡ true
or_false true b e = refl
or_false false b e = absurd (true≢false (sym e))

below : (a b : ℕ) → a < b → nat_lt a b ≡ true
below a b lt = lt-ltb a b lt

upto : (a b : ℕ) → a ≤ b → nat_le a b ≡ true
upto a b le = le-leb a b le

is_below : (a b : ℕ) → nat_lt a b ≡ true → a < b
is_below a b e = grind (arith, nat_tests)

covers_same : (K : Known) → Covers K K
covers_same K x h = h

covers_then : (K L M : Known) → Covers K L → Covers L M → Covers K M
covers_then K L M a b x h = b x (a x h)

among_here : (t : ℕ) (ts : List ℕ) → is_among t (t ∷ ts) ≡ true
among_here t ts = or_left (t == t) (is_among t ts) (eq-eqb t t refl)

among_there : (t u : ℕ) (ts : List ℕ) → is_among t ts ≡ true → is_among t (u ∷ ts) ≡ true
among_there t u ts h = or_right (t == u) (is_among t ts) h

not_among : (v t u : ℕ) → v ≢ t → v ≢ u → is_among v (t ∷ u ∷ []) ≡ false
not_among v t u a b = ap (λ z. z || ((v == u) || false)) (ne_eqb v t a) ∙ ap (λ z. z || false) (ne_eqb v u b)

-- ---- More that is known before

module _ (gives : ℕ → Bool) (K L : Known) (more_known : Covers K L) where
  holds_still : (x : Source) → holds gives K x ≡ true → holds gives L x ≡ true
  holds_still Source.Held h = refl
  holds_still Source.Gone h = h
  holds_still (Source.From x) h = more_known x h
  holds_still (Source.FromCall f) h = h

  address_still : (o : Option ℕ) → address_known K o ≡ true → address_known L o ≡ true
  address_still None h = refl
  address_still (Some v) h = more_known (Fact.Clean v) h

  own_still : (vs : List ℕ) → all_own K vs ≡ true → all_own L vs ≡ true
  own_still [] h = refl
  own_still (v ∷ vs) h = both (L (Fact.Own v)) (all_own L vs) (more_known (Fact.Own v) (first_is (K (Fact.Own v)) (all_own K vs) h)) (own_still vs (second_is (K (Fact.Own v)) (all_own K vs) h))

  implied_still : (b : Bool) (x : Fact) → implied b (K x) ≡ true → implied b (L x) ≡ true
  implied_still true x h = more_known x h
  implied_still false x h = refl

  passes_still : (takes : ℕ → Bool) (j : ℕ) (vs : List ℕ) → passes_known takes K j vs ≡ true → passes_known takes L j vs ≡ true
  passes_still takes j [] h = refl
  passes_still takes j (v ∷ vs) h =
      both (implied (takes j) (L (Fact.Clean v))) (passes_known takes L (suc j) vs)
      (implied_still (takes j) (Fact.Clean v) (first_is (implied (takes j) (K (Fact.Clean v))) (passes_known takes K (suc j) vs) h))
      (passes_still takes (suc j) vs (second_is (implied (takes j) (K (Fact.Clean v))) (passes_known takes K (suc j) vs) h))

  hands_still : (sg : Signs) (b : Bool) (x : FStep) → hands sg b K x ≡ true → hands sg b L x ≡ true
  hands_still sg b (FStep.Number to value) h = refl
  hands_still sg b (FStep.Same to from) h = refl
  hands_still sg b (FStep.Arith to o a z) h = refl
  hands_still sg b (FStep.If c x y) h = refl
  hands_still sg b (FStep.Block x) h = refl
  hands_still sg b (FStep.Loop x) h = refl
  hands_still sg b (FStep.Inner x) h = refl
  hands_still sg b (FStep.Exit e) h = refl
  hands_still sg b (FStep.Slot to from) h = refl
  hands_still sg b (FStep.Look to slot) h = refl
  hands_still sg b (FStep.FrameAt to offset) h = refl
  hands_still sg b (FStep.Load to at w) h = refl
  hands_still sg b (FStep.Store at from w) h = refl
  hands_still sg b (FStep.Checked from to) h = refl
  hands_still sg b (FStep.LineMark line) h = refl
  hands_still sg b (FStep.Report kind line) h = refl
  hands_still sg b (FStep.Env to c a z) h = refl
  hands_still sg b (FStep.Call to f args) h = passes_still (sg.takes f) 0 args h
  hands_still sg b (FStep.Return from) h = implied_still b (Fact.Clean from) h

module _ (g : ℕ) (s : Setting) (sg : Signs) (gives : Bool) where
  leads_still : (o : Option Known) (h : Here) (i : Item) (K L : Known) → Covers K L → Leads o (known_after s sg.gives h i K) → Leads o (known_after s sg.gives h i L)
  leads_still None h i K L c k = tt
  leads_still (Some X) h i K L c k = λ x e. holds_still sg.gives K L c _ (k x e)

  mutual
    item_still : (E : List Known) (h : Here) (i : Item) (K L M : Known) → Covers K L → Good g s sg gives E h K i M → Good g s sg gives E h L i M
    item_still E h (Item.Plain x) K L M c k = (
      record {
        in_range = k.0.in_range;
        clean = address_still sg.gives K L c (address x) k.0.clean;
        own = own_still sg.gives K L c (reads x) k.0.own;
        handed = hands_still sg.gives K L c sg gives x k.0.handed;
      },
      leads_still (leads (leading x) M E) h (Item.Plain x) K L c k.1,
    )
    item_still E h (Item.Checks q) K L M c k =
        (k.0, c _ k.1, own_still sg.gives K L c _ k.2, λ x e. holds_still sg.gives K L c _ (k.3 x e))
    item_still E h (Item.If t x y) K L M c k = (k.0, c _ k.1, items_still E (branch h t) x K L M c k.2, items_still E untold y K L M c k.3)
    item_still E h (Item.Block x) K L M c k = items_still (M ∷ E) untold x K L M c k
    item_still E h (Item.Loop x) K L M c k = (k.0, covers_then k.0 K L k.1 c, k.2)
    item_still E h (Item.Inner x) K L M c k = (k.0, covers_then k.0 K L k.1 c, k.2)

    items_still : (E : List Known) (h : Here) (is : Items) (K L M : Known) → Covers K L → Goods g s sg gives E h K is M → Goods g s sg gives E h L is M
    items_still E h end K L M c k = covers_then M K L k c
    items_still E h (next i rest) K L M c k = (k.0, item_still E h i K L k.0 c k.1, k.2)

  joined_goods : (E : List Known) (h : Here) (a b : Items) (K M N : Known) → Goods g s sg gives E h K a M → ((h : Here) → Goods g s sg gives E h M b N) → Goods g s sg gives E h K (joined a b) N
  joined_goods E h end b K M N k l = items_still E h b M K N k (l h)
  joined_goods E h (next i a) b K M N k l = (k.0, k.1, joined_goods E (here_after i h) a b k.0 M N k.2 l)

  -- ---- Plain steps, in a function with n values and the temporaries

  module _ (n : ℕ) (values : s.values ≡ n + 5) where
    clean_below : (v : ℕ) (b : Bool) → nat_lt v n && b ≡ true → v < n
    clean_below v b e = is_below v n (first_is (nat_lt v n) b e)

    value : (a : ℕ) → a < n → nat_lt a s.values ≡ true
    value a lt = below a s.values (omega (arith, lt, values))

    own_value : (ts : List ℕ) (k : Kinds) (v : ℕ) → v < n → known n ts k (Fact.Own v) ≡ true
    own_value ts k v lt = or_left (nat_lt v n) (is_among v ts) (below v n lt)

    own_temporary : (ts : List ℕ) (k : Kinds) (t : ℕ) → is_among t ts ≡ true → known n ts k (Fact.Own t) ≡ true
    own_temporary ts k t e = or_right (nat_lt t n) (is_among t ts) e

    -- temporaries are forgotten
    without_temporaries : (ts : List ℕ) (k : Kinds) → Covers (known n [] k) (known n ts k)
    without_temporaries ts k (Fact.Clean v) e = e
    without_temporaries ts k (Fact.Own v) e = or_false (nat_lt v n) (is_among v ts) e
    without_temporaries ts k (Fact.Spanned x m) e = absurd (true≢false (sym e))

    forgets : (less most : Kinds) → Forgets less most → Covers (known n [] less) (known n [] most)
    forgets less most f (Fact.Clean v) e = ⊎_elim (λ u. absurd (true≢false (sym (sym (ap is_pointer u) ∙ second_is (nat_lt v n) (is_pointer (less v)) e)))) (λ u. ap (λ z. nat_lt v n && is_pointer z) (sym u) ∙ e) (f v)
    forgets less most f (Fact.Own v) e = e
    forgets less most f (Fact.Spanned x m) e = absurd (true≢false (sym e))

    -- a value is set
    covers_set : (K : Known) (k : Kinds) (h : Here) (x : FStep) (to : ℕ) (kind : Kind) → Covers (known n [] k) K → sets x ≡ Some to → (is_pointer kind ≡ true → holds sg.gives K (clean_of s h x) ≡ true) → Covers (known n [] (with_kind to kind k)) (known_after s sg.gives h (Item.Plain x) K)
    covers_set K k h x to kind base e c (Fact.Clean v) q = of (v == to) (ap (λ o. set_by o v) e) q
      where
        of : (b : Bool) → set_by (sets x) v ≡ b → nat_lt v n && is_pointer (if b then kind else k v) ≡ true → holds sg.gives K (if set_by (sets x) v then clean_of s h x else Source.From (Fact.Clean v)) ≡ true
        of true e q = ap (λ b. holds sg.gives K (if b then clean_of s h x else Source.From (Fact.Clean v))) e ∙ c (second_is (nat_lt v n) (is_pointer kind) q)
        of false e q = ap (λ b. holds sg.gives K (if b then clean_of s h x else Source.From (Fact.Clean v))) e ∙ base (Fact.Clean v) q
    covers_set K k h x to kind base e c (Fact.Own v) q = of (set_by (sets x) v)
      where
        of : (b : Bool) → holds sg.gives K (held_if b (Source.From (Fact.Own v))) ≡ true
        of true = refl
        of false = base (Fact.Own v) q
    covers_set K k h x to kind base e c (Fact.Spanned a m) q = absurd (true≢false (sym q))

    -- a temporary is set
    covers_temporary : (ts : List ℕ) (k : Kinds) (h : Here) (x : FStep) (t : ℕ) → n ≤ t → sets x ≡ Some t → Covers (known n (t ∷ ts) k) (known_after s sg.gives h (Item.Plain x) (known n ts k))
    covers_temporary ts k h x t at e (Fact.Clean v) q =
        ap (λ b. holds sg.gives (known n ts k) (if b then clean_of s h x else Source.From (Fact.Clean v))) (ap (λ o. set_by o v) e ∙ ne_eqb v t (λ u. omega (arith, at, u, clean_below v (is_pointer (k v)) q))) ∙ q
    covers_temporary ts k h x t at e (Fact.Own v) q = of (v == t) (ap (λ o. set_by o v) e) q
      where
        of : (b : Bool) → set_by (sets x) v ≡ b → nat_lt v n || (b || is_among v ts) ≡ true → holds sg.gives (known n ts k) (held_if (set_by (sets x) v) (Source.From (Fact.Own v))) ≡ true
        of true e q = ap (λ b. holds sg.gives (known n ts k) (held_if b (Source.From (Fact.Own v)))) e
        of false e q = ap (λ b. holds sg.gives (known n ts k) (held_if b (Source.From (Fact.Own v)))) e ∙ q
    covers_temporary ts k h x t at e (Fact.Spanned a m) q = absurd (true≢false (sym q))

    -- nothing is set
    covers_none : (k : Kinds) (h : Here) (x : FStep) → sets x ≡ None → Covers (known n [] k) (known_after s sg.gives h (Item.Plain x) (known n [] k))
    covers_none k h x e (Fact.Clean v) q = ap (λ o. holds sg.gives (known n [] k) (if set_by o v then clean_of s h x else Source.From (Fact.Clean v))) e ∙ q
    covers_none k h x e (Fact.Own v) q = ap (λ o. holds sg.gives (known n [] k) (held_if (set_by o v) (Source.From (Fact.Own v)))) e ∙ q
    covers_none k h x e (Fact.Spanned a m) q = absurd (true≢false (sym q))

    -- what a step wants, if it hands nothing to other functions
    ready : (E : List Known) (K : Known) (x : FStep) → fits s (length E) x && is_plain x ≡ true → address_known K (address x) ≡ true → all_own K (reads x) ≡ true → hands sg gives K x ≡ true → Ready s sg gives (length E) K x
    ready E K x fit at owns handed = record { in_range = fit; clean = at; own = owns; handed = handed }

    plain_set : (E : List Known) (K : Known) (k : Kinds) (h : Here) (x : FStep) (to : ℕ) (kind : Kind) → Covers (known n [] k) K → sets x ≡ Some to → leading x ≡ Leading.Falls → (is_pointer kind ≡ true → holds sg.gives K (clean_of s h x) ≡ true) → Ready s sg gives (length E) K x → Good g s sg gives E h K (Item.Plain x) (known n [] (with_kind to kind k))
    plain_set E K k h x to kind base e fall c r =
        (r, subst (λ l. Leads (leads l (known n [] (with_kind to kind k)) E) (known_after s sg.gives h (Item.Plain x) K)) (sym fall) (covers_set K k h x to kind base e c))

    plain_temporary : (E : List Known) (ts : List ℕ) (k : Kinds) (h : Here) (x : FStep) (t : ℕ) → n ≤ t → sets x ≡ Some t → leading x ≡ Leading.Falls → Ready s sg gives (length E) (known n ts k) x → Good g s sg gives E h (known n ts k) (Item.Plain x) (known n (t ∷ ts) k)
    plain_temporary E ts k h x t at e fall r =
        (r, subst (λ l. Leads (leads l (known n (t ∷ ts) k) E) (known_after s sg.gives h (Item.Plain x) (known n ts k))) (sym fall) (covers_temporary ts k h x t at e))

    plain_none : (E : List Known) (k : Kinds) (h : Here) (x : FStep) → sets x ≡ None → leading x ≡ Leading.Falls → Ready s sg gives (length E) (known n [] k) x → Good g s sg gives E h (known n [] k) (Item.Plain x) (known n [] k)
    plain_none E k h x e fall r =
        (r, subst (λ l. Leads (leads l (known n [] k) E) (known_after s sg.gives h (Item.Plain x) (known n [] k))) (sym fall) (covers_none k h x e))

    -- no pointer comes of it
    no_pointer : (K : Known) (x : Source) → is_pointer Kind.IsNumber ≡ true → holds sg.gives K x ≡ true
    no_pointer K x e = absurd (true≢false (sym e))

    -- one step that sets a number, from values
    number_set : (E : List Known) (k : Kinds) (h : Here) (x : FStep) (to : ℕ) → sets x ≡ Some to → leading x ≡ Leading.Falls → Ready s sg gives (length E) (known n [] k) x → Goods g s sg gives E h (known n [] k) (next (Item.Plain x) end) (known n [] (with_kind to Kind.IsNumber k))
    number_set E k h x to e fall r =
        (known n [] (with_kind to Kind.IsNumber k), plain_set E (known n [] k) k h x to Kind.IsNumber (covers_same (known n [] k)) e fall (no_pointer (known n [] k) (clean_of s h x)) r, covers_same (known n [] (with_kind to Kind.IsNumber k)))

    -- the same over temporaries
    number_after : (E : List Known) (ts : List ℕ) (k : Kinds) (h : Here) (x : FStep) (to : ℕ) → sets x ≡ Some to → leading x ≡ Leading.Falls → Ready s sg gives (length E) (known n ts k) x → Goods g s sg gives E h (known n ts k) (next (Item.Plain x) end) (known n [] (with_kind to Kind.IsNumber k))
    number_after E ts k h x to e fall r =
        (known n [] (with_kind to Kind.IsNumber k), plain_set E (known n ts k) k h x to Kind.IsNumber (without_temporaries ts k) e fall (no_pointer (known n ts k) (clean_of s h x)) r, covers_same (known n [] (with_kind to Kind.IsNumber k)))

    plain : (b : Bool) → b ≡ true → b && true ≡ true
    plain b e = both b true e refl

    two : (a b : Bool) → a ≡ true → b ≡ true → a && b ≡ true
    two a b e f = both a b e f

    three : (a b c : Bool) → a ≡ true → b ≡ true → c ≡ true → a && (b && c) ≡ true
    three a b c e f i = both a (b && c) e (both b c f i)

    own_one : (K : Known) (v : ℕ) → K (Fact.Own v) ≡ true → all_own K (v ∷ []) ≡ true
    own_one K v e = both (K (Fact.Own v)) true e refl

    own_two : (K : Known) (v x : ℕ) → K (Fact.Own v) ≡ true → K (Fact.Own x) ≡ true → all_own K (v ∷ x ∷ []) ≡ true
    own_two K v x e f = both (K (Fact.Own v)) (K (Fact.Own x) && true) e (own_one K x f)

    own_three : (K : Known) (v x y : ℕ) → K (Fact.Own v) ≡ true → K (Fact.Own x) ≡ true → K (Fact.Own y) ≡ true → all_own K (v ∷ x ∷ y ∷ []) ≡ true
    own_three K v x y e f i = both (K (Fact.Own v)) (all_own K (x ∷ y ∷ [])) e (own_two K x y f i)

    pointer_known : (ts : List ℕ) (k : Kinds) (v : ℕ) → v < n → k v ≡ Kind.IsPointer → known n ts k (Fact.Clean v) ≡ true
    pointer_known ts k v lt e = both (nat_lt v n) (is_pointer (k v)) (below v n lt) (ap is_pointer e)

    -- an operation on two values, or temporaries, that are set
    arith_ready : (E : List Known) (ts : List ℕ) (k : Kinds) (to : ℕ) (o : ArithOp) (a b : ℕ) → nat_lt to s.values ≡ true → nat_lt a s.values ≡ true → nat_lt b s.values ≡ true → known n ts k (Fact.Own a) ≡ true → known n ts k (Fact.Own b) ≡ true → Ready s sg gives (length E) (known n ts k) (FStep.Arith to o a b)
    arith_ready E ts k to o a b lt la lb oa ob =
        ready E (known n ts k) (FStep.Arith to o a b) (plain _ (three _ _ _ lt la lb)) refl (own_two (known n ts k) a b oa ob) refl

    number_ready : (E : List Known) (ts : List ℕ) (k : Kinds) (to x : ℕ) → nat_lt to s.values ≡ true → Ready s sg gives (length E) (known n ts k) (FStep.Number to x)
    number_ready E ts k to x lt = ready E (known n ts k) (FStep.Number to x) (plain _ lt) refl refl refl

    temporary : (i : ℕ) → i < 5 → nat_lt (n + i) s.values ≡ true
    temporary i lt = below (n + i) s.values (omega (arith, lt, values))

    first_temporary : nat_lt n s.values ≡ true
    first_temporary = below n s.values (omega (arith, values))

    -- what a list tells after a plain step
    abbrev past : FStep → Here → Here
    past x h = here_after (Item.Plain x) h

    -- ---- Orders and differences

    order_good : (E : List Known) (k : Kinds) (h : Here) (to : ℕ) (o : OrderOp) (a b : ℕ) → to < n → a < n → b < n → Goods g s sg gives E h (known n [] k) (order_items n to o a b) (known n [] (with_kind to Kind.IsNumber k))
    order_good E k h to o a b lt la lb = (
      known n (n ∷ []) k,
      plain_temporary E [] k h (FStep.Arith n op.Add a a) n (omega arith) refl refl (arith_ready E [] k n op.Add a a first_temporary (value a la) (value a la) (own_value [] k a la) (own_value [] k a la)),
      (
        known n ((n + 1) ∷ n ∷ []) k,
        plain_temporary E (n ∷ []) k (past (FStep.Arith n op.Add a a) h) (FStep.Arith (n + 1) op.Add b b) (n + 1) (omega arith) refl refl (arith_ready E (n ∷ []) k (n + 1) op.Add b b (temporary 1 (omega arith)) (value b lb) (value b lb) (own_value (n ∷ []) k b lb) (own_value (n ∷ []) k b lb)),
        of (past (FStep.Arith (n + 1) op.Add b b) (past (FStep.Arith n op.Add a a) h)) o,
      ),
    )
      where
        own_first : known n ((n + 1) ∷ n ∷ []) k (Fact.Own n) ≡ true
        own_first = own_temporary ((n + 1) ∷ n ∷ []) k n (among_there n (n + 1) (n ∷ []) (among_here n []))

        own_second : known n ((n + 1) ∷ n ∷ []) k (Fact.Own (n + 1)) ≡ true
        own_second = own_temporary ((n + 1) ∷ n ∷ []) k (n + 1) (among_here (n + 1) (n ∷ []))

        of : (h : Here) (o : OrderOp) → Goods g s sg gives E h (known n ((n + 1) ∷ n ∷ []) k) (one (order_step o to n (n + 1))) (known n [] (with_kind to Kind.IsNumber k))
        of h order.Below = number_after E ((n + 1) ∷ n ∷ []) k h (FStep.Arith to op.Ltu n (n + 1)) to refl refl (arith_ready E ((n + 1) ∷ n ∷ []) k to op.Ltu n (n + 1) (value to lt) first_temporary (temporary 1 (omega arith)) own_first own_second)
        of h order.AtMost = number_after E ((n + 1) ∷ n ∷ []) k h (FStep.Arith to op.AtMostUnsigned n (n + 1)) to refl refl (arith_ready E ((n + 1) ∷ n ∷ []) k to op.AtMostUnsigned n (n + 1) (value to lt) first_temporary (temporary 1 (omega arith)) own_first own_second)
        of h order.Above = number_after E ((n + 1) ∷ n ∷ []) k h (FStep.Arith to op.Ltu (n + 1) n) to refl refl (arith_ready E ((n + 1) ∷ n ∷ []) k to op.Ltu (n + 1) n (value to lt) (temporary 1 (omega arith)) first_temporary own_second own_first)
        of h order.AtLeast = number_after E ((n + 1) ∷ n ∷ []) k h (FStep.Arith to op.AtMostUnsigned (n + 1) n) to refl refl (arith_ready E ((n + 1) ∷ n ∷ []) k to op.AtMostUnsigned (n + 1) n (value to lt) (temporary 1 (omega arith)) first_temporary own_second own_first)

    subtraction_good : (E : List Known) (k : Kinds) (h : Here) (to a b size : ℕ) → to < n → a < n → b < n → Goods g s sg gives E h (known n [] k) (subtraction_items n to a b size) (known n [] (with_kind to Kind.IsNumber k))
    subtraction_good E k h to a b size lt la lb = (
      known n (n ∷ []) k,
      plain_temporary E [] k h (FStep.Number n 0x7fff_ffff) n (omega arith) refl refl (number_ready E [] k n 0x7fff_ffff first_temporary),
      (
        known n t2 k,
        plain_temporary E (n ∷ []) k h1 (FStep.Arith (n + 1) op.And b n) (n + 1) (omega arith) refl refl (arith_ready E (n ∷ []) k (n + 1) op.And b n (temporary 1 (omega arith)) (value b lb) first_temporary (own_value (n ∷ []) k b lb) (own_temporary (n ∷ []) k n (among_here n []))),
        (
          known n t3 k,
          plain_temporary E t2 k h2 (FStep.Arith n op.And a n) n (omega arith) refl refl (arith_ready E t2 k n op.And a n first_temporary (value a la) first_temporary (own_value t2 k a la) (own_temporary t2 k n (among_there n (n + 1) (n ∷ []) (among_here n [])))),
          (
            known n t4 k,
            plain_temporary E t3 k h3 (FStep.Arith n op.Sub n (n + 1)) n (omega arith) refl refl (arith_ready E t3 k n op.Sub n (n + 1) first_temporary first_temporary (temporary 1 (omega arith)) (own_temporary t3 k n (among_here n t2)) (own_temporary t3 k (n + 1) (among_there (n + 1) n t2 (among_here (n + 1) (n ∷ []))))),
            (
              known n t5 k,
              plain_temporary E t4 k h4 (FStep.Number (n + 1) size) (n + 1) (omega arith) refl refl (number_ready E t4 k (n + 1) size (temporary 1 (omega arith))),
              number_after E t5 k h5 (FStep.Arith to op.Div n (n + 1)) to refl refl (arith_ready E t5 k to op.Div n (n + 1) (value to lt) first_temporary (temporary 1 (omega arith)) (own_temporary t5 k n (among_there n (n + 1) t4 (among_here n t3))) (own_temporary t5 k (n + 1) (among_here (n + 1) t4))),
            ),
          ),
        ),
      ),
    )
      where
        h1 : Here
        h1 = past (FStep.Number n 0x7fff_ffff) h

        h2 : Here
        h2 = past (FStep.Arith (n + 1) op.And b n) h1

        h3 : Here
        h3 = past (FStep.Arith n op.And a n) h2

        h4 : Here
        h4 = past (FStep.Arith n op.Sub n (n + 1)) h3

        h5 : Here
        h5 = past (FStep.Number (n + 1) size) h4

        t2 : List ℕ
        t2 = (n + 1) ∷ n ∷ []

        t3 : List ℕ
        t3 = n ∷ (n + 1) ∷ n ∷ []

        t4 : List ℕ
        t4 = n ∷ n ∷ (n + 1) ∷ n ∷ []

        t5 : List ℕ
        t5 = (n + 1) ∷ n ∷ n ∷ (n + 1) ∷ n ∷ []

    -- ---- Loads

    load_fits : (d w at line e f : ℕ) → nat_lt w s.values ≡ true → nat_lt at s.values ≡ true → nat_lt line s.values ≡ true → nat_lt e s.values ≡ true → nat_lt f s.values ≡ true → Fit s d (sequence_steps g (Sequence.Load w at line e f))
    load_fits d w at line e f hw ha hl he hf =
        (two _ _ hw ha, ((hw, owned, tt), tt))
      where
        looked : Fit s d (steps (FStep.Look f e ∷ FStep.If f none (report Pointer line) ∷ []))
        looked = (two _ _ hf he, ((hf, tt, (hl, tt)), tt))

        owned : Fit s d (owned_steps g w line e f)
        owned = (two _ _ he hw, (hf, (three _ _ _ hf he hf, ((hf, looked, (hl, tt)), tt))))

    load_good : (E : List Known) (k : Kinds) (h : Here) (to at line : ℕ) → to < n → at < n → k at ≡ Kind.IsPointer → Goods g s sg gives E h (known n [] k) (load_items n to at width.Pointer line) (known n [] (with_kind to Kind.IsPointer k))
    load_good E k h to at line lt la is = (
      known n (n ∷ []) k,
      plain_temporary E [] k h (FStep.Number n line) n (omega arith) refl refl (number_ready E [] k n line first_temporary),
      (
        known n [] (with_kind to Kind.IsPointer k),
        (
          load_fits (length E) to at n (n + 1) (n + 2) (value to lt) (value at la) first_temporary (temporary 1 (omega arith)) (temporary 2 (omega arith)),
          pointer_known (n ∷ []) k at la is,
          own_two (known n (n ∷ []) k) at n (own_value (n ∷ []) k at la) (own_temporary (n ∷ []) k n (among_here n [])),
          covers,
        ),
        covers_same (known n [] (with_kind to Kind.IsPointer k)),
      ),
    )
      where
        K : Known
        K = known n (n ∷ []) k

        kept : (v : ℕ) (f : Fact) → v < n → K f ≡ true → holds sg.gives K (gone_if (is_among v ((n + 1) ∷ (n + 2) ∷ [])) (Source.From f)) ≡ true
        kept v f lv q = ap (λ b. holds sg.gives K (gone_if b (Source.From f))) (not_among v (n + 1) (n + 2) (λ u. omega (arith, lv, u)) (λ u. omega (arith, lv, u))) ∙ q

        clean_kept : (v : ℕ) (b : Bool) → nat_lt v n && is_pointer (if b then Kind.IsPointer else k v) ≡ true → holds sg.gives K (held_if b (gone_if (is_among v ((n + 1) ∷ (n + 2) ∷ [])) (Source.From (Fact.Clean v)))) ≡ true
        clean_kept v true q = refl
        clean_kept v false q = kept v (Fact.Clean v) (clean_below v (is_pointer (k v)) q) q

        own_kept : (v : ℕ) (b : Bool) → nat_lt v n || false ≡ true → holds sg.gives K (held_if b (gone_if (is_among v ((n + 1) ∷ (n + 2) ∷ [])) (Source.From (Fact.Own v)))) ≡ true
        own_kept v true q = refl
        own_kept v false q = kept v (Fact.Own v) (is_below v n (or_only (nat_lt v n) q)) (or_false (nat_lt v n) (is_among v (n ∷ [])) q)

        covers : Covers (known n [] (with_kind to Kind.IsPointer k)) (known_after s sg.gives untold (Item.Checks (Sequence.Load to at n (n + 1) (n + 2))) K)
        covers (Fact.Clean v) q = clean_kept v (v == to) q
        covers (Fact.Own v) q = own_kept v (v == to) q
        covers (Fact.Spanned a m) q = absurd (true≢false (sym q))

    -- ---- Moves

    move_fits : (d p q r line e f : ℕ) → nat_lt p s.values ≡ true → nat_lt q s.values ≡ true → nat_lt r s.values ≡ true → nat_lt line s.values ≡ true → nat_lt e s.values ≡ true → nat_lt f s.values ≡ true → Fit s d (sequence_steps g (Sequence.Move p q r line e f))
    move_fits d p q r line e f hp hq hr hl he hf = (
      two _ _ he hp,
      (
        two _ _ hf he,
        (
          (hf, tt, (hl, tt)),
          (
            hr,
            (
              three _ _ _ he he hr,
              (
                three _ _ _ he he hf,
                (
                  three _ _ _ he he hf,
                  (
                    hr,
                    (
                      three _ _ _ hf hr hf,
                      (hr, (three _ _ _ hr hp hr, (three _ _ _ hr hr hq, (three _ _ _ he hr he, (three _ _ _ hr he hf, ((hr, address, outside), (two _ _ hp hr, tt))))))),
                    ),
                  ),
                ),
              ),
            ),
          ),
        ),
      ),
    )
      where
        address : Fit s d (address_steps p q r)
        address = (hr, (three _ _ _ hr hp hr, (three _ _ _ hr hr hq, tt)))

        outside : Fit s d (outside_steps g p q r line e f)
        outside = (hr, (three _ _ _ he he hr, (hr, (three _ _ _ hf hf hr, (three _ _ _ hr he hf, ((hr, (hr, (three _ _ _ hr hp hr, (three _ _ _ hr hr hq, (he, (three _ _ _ hr hr he, tt))))), (hl, tt)), tt))))))

    -- the temporaries hold the distance and the line
    moved_good : (E : List Known) (ts : List ℕ) (k : Kinds) (h : Here) (to from : ℕ) → to < n → from < n → k from ≡ Kind.IsPointer → is_among n ts ≡ true → is_among (n + 1) ts ≡ true → Goods g s sg gives E h (known n ts k) (moved_items n to from) (known n [] (with_kind to Kind.IsPointer k))
    moved_good E ts k h to from lt lf is dist name = (
      known_moved n k,
      (
        move_fits (length E) from n (n + 2) (n + 1) (n + 3) (n + 4) (value from lf) first_temporary (temporary 2 (omega arith)) (temporary 1 (omega arith)) (temporary 3 (omega arith)) (temporary 4 (omega arith)),
        pointer_known ts k from lf is,
        own_three (known n ts k) from n (n + 1) (own_value ts k from lf) (own_temporary ts k n dist) (own_temporary ts k (n + 1) name),
        covers,
      ),
      (
        known n [] (with_kind to Kind.IsPointer k),
        plain_set E (known_moved n k) k untold (FStep.Same to (n + 2)) to Kind.IsPointer before refl refl (λ e. or_right (nat_lt (n + 2) n && is_pointer (k (n + 2))) (n + 2 == n + 2) (eq-eqb (n + 2) (n + 2) refl))
            (ready E (known_moved n k) (FStep.Same to (n + 2)) (plain _ (two _ _ (value to lt) (temporary 2 (omega arith)))) refl (own_one (known_moved n k) (n + 2) (or_right (nat_lt (n + 2) n) (n + 2 == n + 2) (eq-eqb (n + 2) (n + 2) refl))) refl),
        covers_same (known n [] (with_kind to Kind.IsPointer k)),
      ),
    )
      where
        K : Known
        K = known n ts k

        kept : (v : ℕ) (f : Fact) → v < n → K f ≡ true → holds sg.gives K (gone_if (is_among v ((n + 3) ∷ (n + 4) ∷ [])) (Source.From f)) ≡ true
        kept v f lv q = ap (λ b. holds sg.gives K (gone_if b (Source.From f))) (not_among v (n + 3) (n + 4) (λ u. omega (arith, lv, u)) (λ u. omega (arith, lv, u))) ∙ q

        clean_kept : (v : ℕ) (b : Bool) → (nat_lt v n && is_pointer (k v)) || b ≡ true → holds sg.gives K (held_if b (gone_if (is_among v ((n + 3) ∷ (n + 4) ∷ [])) (Source.From (Fact.Clean v)))) ≡ true
        clean_kept v true q = refl
        clean_kept v false q = kept v (Fact.Clean v) (clean_below v (is_pointer (k v)) (or_only _ q)) (or_only _ q)

        own_kept : (v : ℕ) (b : Bool) → nat_lt v n || b ≡ true → holds sg.gives K (held_if b (gone_if (is_among v ((n + 3) ∷ (n + 4) ∷ [])) (Source.From (Fact.Own v)))) ≡ true
        own_kept v true q = refl
        own_kept v false q = kept v (Fact.Own v) (is_below v n (or_only (nat_lt v n) q)) (or_false (nat_lt v n) (is_among v ts) q)

        covers : Covers (known_moved n k) (known_after s sg.gives h (Item.Checks (Sequence.Move from n (n + 2) (n + 1) (n + 3) (n + 4))) K)
        covers (Fact.Clean v) q = clean_kept v (v == n + 2) q
        covers (Fact.Own v) q = own_kept v (v == n + 2) q
        covers (Fact.Spanned a m) q = absurd (true≢false (sym q))

        before : Covers (known n [] k) (known_moved n k)
        before (Fact.Clean v) q = or_left _ (v == n + 2) q
        before (Fact.Own v) q = or_false (nat_lt v n) (v == n + 2) q
        before (Fact.Spanned a m) q = absurd (true≢false (sym q))

    move_good : (E : List Known) (k : Kinds) (h : Here) (to from by scale : ℕ) (down : Bool) (line : ℕ) → to < n → from < n → by < n → k from ≡ Kind.IsPointer → Goods g s sg gives E h (known n [] k) (move_items n to from by scale down line) (known n [] (with_kind to Kind.IsPointer k))
    move_good E k h to from by scale down line lt lf lb is = (
      known n ((n + 1) ∷ []) k,
      plain_temporary E [] k h (FStep.Number (n + 1) line) (n + 1) (omega arith) refl refl (number_ready E [] k (n + 1) line (temporary 1 (omega arith))),
      (
        known n (n ∷ (n + 1) ∷ []) k,
        plain_temporary E ((n + 1) ∷ []) k (past (FStep.Number (n + 1) line) h) (FStep.Number n (factor scale down)) n (omega arith) refl refl (number_ready E ((n + 1) ∷ []) k n (factor scale down) first_temporary),
        (
          known n (n ∷ n ∷ (n + 1) ∷ []) k,
          plain_temporary E (n ∷ (n + 1) ∷ []) k (past (FStep.Number n (factor scale down)) (past (FStep.Number (n + 1) line) h)) (FStep.Arith n op.Mul by n) n (omega arith) refl refl (arith_ready E (n ∷ (n + 1) ∷ []) k n op.Mul by n first_temporary (value by lb) first_temporary (own_value (n ∷ (n + 1) ∷ []) k by lb) (own_temporary (n ∷ (n + 1) ∷ []) k n (among_here n ((n + 1) ∷ [])))),
          moved_good E (n ∷ n ∷ (n + 1) ∷ []) k (past (FStep.Arith n op.Mul by n) (past (FStep.Number n (factor scale down)) (past (FStep.Number (n + 1) line) h))) to from lt lf is (among_here n (n ∷ (n + 1) ∷ [])) (among_there (n + 1) n (n ∷ (n + 1) ∷ []) (among_there (n + 1) n ((n + 1) ∷ []) (among_here (n + 1) []))),
        ),
      ),
    )

    move_by_good : (E : List Known) (k : Kinds) (h : Here) (to from distance line : ℕ) → to < n → from < n → k from ≡ Kind.IsPointer → Goods g s sg gives E h (known n [] k) (move_by_items n to from distance line) (known n [] (with_kind to Kind.IsPointer k))
    move_by_good E k h to from distance line lt lf is = (
      known n ((n + 1) ∷ []) k,
      plain_temporary E [] k h (FStep.Number (n + 1) line) (n + 1) (omega arith) refl refl (number_ready E [] k (n + 1) line (temporary 1 (omega arith))),
      (
        known n (n ∷ (n + 1) ∷ []) k,
        plain_temporary E ((n + 1) ∷ []) k (past (FStep.Number (n + 1) line) h) (FStep.Number n distance) n (omega arith) refl refl (number_ready E ((n + 1) ∷ []) k n distance first_temporary),
        moved_good E (n ∷ (n + 1) ∷ []) k (past (FStep.Number n distance) (past (FStep.Number (n + 1) line) h)) to from lt lf is (among_here n ((n + 1) ∷ [])) (among_there (n + 1) n ((n + 1) ∷ []) (among_here (n + 1) [])),
      ),
    )

    -- ---- The library

    -- a value is set twice to a number
    twice : (to : ℕ) (k : Kinds) → Covers (known n [] (with_kind to Kind.IsNumber k)) (known n [] (with_kind to Kind.IsNumber (with_kind to Kind.IsNumber k)))
    twice to k (Fact.Clean v) q = of (v == to) q
      where
        of : (b : Bool) → nat_lt v n && is_pointer (if b then Kind.IsNumber else k v) ≡ true → nat_lt v n && is_pointer (if b then Kind.IsNumber else (if b then Kind.IsNumber else k v)) ≡ true
        of true q = q
        of false q = q
    twice to k (Fact.Own v) q = q
    twice to k (Fact.Spanned a m) q = absurd (true≢false (sym q))

    call_ready : (E : List Known) (ts : List ℕ) (k : Kinds) (to call a b : ℕ) → nat_lt to s.values ≡ true → nat_lt a s.values ≡ true → nat_lt b s.values ≡ true → known n ts k (Fact.Own a) ≡ true → known n ts k (Fact.Own b) ≡ true → nat_lt 0 call && nat_lt call 6 ≡ true → Ready s sg gives (length E) (known n ts k) (FStep.Env to call a b)
    call_ready E ts k to call a b lt la lb oa ob e =
        ready E (known n ts k) (FStep.Env to call a b) (plain _ (both (nat_lt to s.values) _ lt (three _ _ _ la lb e))) refl (own_two (known n ts k) a b oa ob) refl

    free_good : (E : List Known) (k : Kinds) (h : Here) (to line a : ℕ) → to < n → a < n → Goods g s sg gives E h (known n [] k) (library_items n lib.Free to line (a ∷ [])) (known n [] (with_kind to Kind.IsNumber k))
    free_good E k h to line a lt la = (
      known n (n ∷ []) k,
      plain_temporary E [] k h (FStep.Number n line) n (omega arith) refl refl (number_ready E [] k n line first_temporary),
      (
        known n [] (with_kind to Kind.IsNumber k),
        plain_set E (known n (n ∷ []) k) k (past (FStep.Number n line) h) (FStep.Env to 5 a n) to Kind.IsNumber (without_temporaries (n ∷ []) k) refl refl (no_pointer (known n (n ∷ []) k) Source.Gone)
            (call_ready E (n ∷ []) k to 5 a n (value to lt) (value a la) first_temporary (own_value (n ∷ []) k a la) (own_temporary (n ∷ []) k n (among_here n [])) refl),
        (
          known n [] (with_kind to Kind.IsNumber k),
          zeroing (past (FStep.Env to 5 a n) (past (FStep.Number n line) h)),
          covers_same (known n [] (with_kind to Kind.IsNumber k)),
        ),
      ),
    )
      where
        M : Known
        M = known n [] (with_kind to Kind.IsNumber k)

        zeroing : (h : Here) → Good g s sg gives E h (known n [] (with_kind to Kind.IsNumber k)) (Item.Plain (FStep.Number to 0)) (known n [] (with_kind to Kind.IsNumber k))
        zeroing h = (
          number_ready E [] (with_kind to Kind.IsNumber k) to 0 (value to lt),
          covers_then M (known n [] (with_kind to Kind.IsNumber (with_kind to Kind.IsNumber k))) (known_after s sg.gives h (Item.Plain (FStep.Number to 0)) M) (twice to k)
              (covers_set M (with_kind to Kind.IsNumber k) h (FStep.Number to 0) to Kind.IsNumber (covers_same M) refl (no_pointer M (clean_of s h (FStep.Number to 0)))),
        )

    allocation_good : (E : List Known) (k : Kinds) (h : Here) (to a b : ℕ) → to < n → a < n → b < n → Goods g s sg gives E h (known n [] k) (allocation_items n to a b) (known n [] (with_kind to Kind.IsPointer k))
    allocation_good E k h to a b lt la lb = (
      known n (n ∷ []) k,
      plain_temporary E [] k h (FStep.Arith n op.Mulhu a b) n (omega arith) refl refl (arith_ready E [] k n op.Mulhu a b first_temporary (value a la) (value b lb) (own_value [] k a la) (own_value [] k b lb)),
      (
        known n (n ∷ n ∷ []) k,
        (
          first_temporary,
          own_temporary (n ∷ []) k n (among_here n []),
          (known n (n ∷ n ∷ []) k, plain_temporary E (n ∷ []) k (branch (past (FStep.Arith n op.Mulhu a b) h) n) (FStep.Number n 0xffff_ffff) n (omega arith) refl refl (number_ready E (n ∷ []) k n 0xffff_ffff first_temporary), covers_same (known n (n ∷ n ∷ []) k)),
          (known n (n ∷ n ∷ []) k, plain_temporary E (n ∷ []) k untold (FStep.Arith n op.Mul a b) n (omega arith) refl refl (arith_ready E (n ∷ []) k n op.Mul a b first_temporary (value a la) (value b lb) (own_value (n ∷ []) k a la) (own_value (n ∷ []) k b lb)), covers_same (known n (n ∷ n ∷ []) k)),
        ),
        (
          known n [] (with_kind to Kind.IsPointer k),
          plain_set E (known n (n ∷ n ∷ []) k) k untold (FStep.Env to 4 n n) to Kind.IsPointer (without_temporaries (n ∷ n ∷ []) k) refl refl (λ e. refl)
              (call_ready E (n ∷ n ∷ []) k to 4 n n (value to lt) first_temporary first_temporary (own_temporary (n ∷ n ∷ []) k n (among_here n (n ∷ []))) (own_temporary (n ∷ n ∷ []) k n (among_here n (n ∷ []))) refl),
          covers_same (known n [] (with_kind to Kind.IsPointer k)),
        ),
      ),
    )

    library_good : (E : List Known) (k : Kinds) (h : Here) (which : LibCall) (to line : ℕ) (args : List ℕ) → to < n → HasArguments n which args → Goods g s sg gives E h (known n [] k) (library_items n which to line args) (known n [] (with_kind to (signature_of which).result k))
    library_good E k h lib.Putchar to line args lt f =
        subst (λ z. Goods g s sg gives E h (known n [] k) (library_items n lib.Putchar to line z) (known n [] (with_kind to Kind.IsNumber k))) (sym f.1)
        (number_set E k h (FStep.Env to 3 f.0 f.0) to refl refl (call_ready E [] k to 3 f.0 f.0 (value to lt) (value f.0 f.2) (value f.0 f.2) (own_value [] k f.0 f.2) (own_value [] k f.0 f.2) refl))
    library_good E k h lib.Getchar to line args lt f =
        number_set E k h (FStep.Env to 2 to to) to refl refl (call_ready E [] k to 2 to to (value to lt) (value to lt) (value to lt) (own_value [] k to lt) (own_value [] k to lt) refl)
    library_good E k h lib.Exit to line args lt f =
        subst (λ z. Goods g s sg gives E h (known n [] k) (library_items n lib.Exit to line z) (known n [] (with_kind to Kind.IsNumber k))) (sym f.1)
        (number_set E k h (FStep.Env to 1 f.0 f.0) to refl refl (call_ready E [] k to 1 f.0 f.0 (value to lt) (value f.0 f.2) (value f.0 f.2) (own_value [] k f.0 f.2) (own_value [] k f.0 f.2) refl))
    library_good E k h lib.Malloc to line args lt f =
        subst (λ z. Goods g s sg gives E h (known n [] k) (library_items n lib.Malloc to line z) (known n [] (with_kind to Kind.IsPointer k))) (sym f.1) (
          known n [] (with_kind to Kind.IsPointer k),
          plain_set E (known n [] k) k h (FStep.Env to 4 f.0 f.0) to Kind.IsPointer (covers_same (known n [] k)) refl refl (λ e. refl)
              (call_ready E [] k to 4 f.0 f.0 (value to lt) (value f.0 f.2) (value f.0 f.2) (own_value [] k f.0 f.2) (own_value [] k f.0 f.2) refl),
          covers_same (known n [] (with_kind to Kind.IsPointer k)),
        )
    library_good E k h lib.Free to line args lt f =
        subst (λ z. Goods g s sg gives E h (known n [] k) (library_items n lib.Free to line z) (known n [] (with_kind to Kind.IsNumber k))) (sym f.1) (free_good E k h to line f.0 lt f.2)
    library_good E k h lib.Calloc to line args lt f =
        subst (λ z. Goods g s sg gives E h (known n [] k) (library_items n lib.Calloc to line z) (known n [] (with_kind to Kind.IsPointer k))) (sym f.2) (allocation_good E k h to f.0 f.1 lt f.3 f.4)
    library_good E k h lib.Memcpy to line args lt f = absurd f
    library_good E k h lib.Memset to line args lt f = absurd f

    -- ---- Calls

    values_below : (args : List ℕ) → All (λ a. a < n) args → all_below s.values args ≡ true
    values_below [] h = refl
    values_below (a ∷ args) h = both (nat_lt a s.values) (all_below s.values args) (value a (All-head (λ i. i < n) a args h)) (values_below args (All-tail (λ i. i < n) a args h))

    values_own : (k : Kinds) (args : List ℕ) → All (λ a. a < n) args → all_own (known n [] k) args ≡ true
    values_own k [] h = refl
    values_own k (a ∷ args) h = both (known n [] k (Fact.Own a)) (all_own (known n [] k) args) (own_value [] k a (All-head (λ i. i < n) a args h)) (values_own k args (All-tail (λ i. i < n) a args h))

    -- arguments are untainted where they are pointers
    passed : (takes : ℕ → Bool) (k : Kinds) (j : ℕ) (args : List ℕ) → All (λ a. a < n) args → ((i : ℕ) → takes (j + i) ≡ is_pointer (slice_index_or (map k args) i Kind.IsNumber)) → passes_known takes (known n [] k) j args ≡ true
    passed takes k j [] h e = refl
    passed takes k j (v ∷ args) h e =
        both (implied (takes j) (known n [] k (Fact.Clean v))) (passes_known takes (known n [] k) (suc j) args)
        (ap (λ b. implied b (known n [] k (Fact.Clean v))) (ap takes (let q : j ≡ j + 0 = omega arith in q) ∙ e 0) ∙ of (is_pointer (k v)))
        (passed takes k (suc j) args (All-tail (λ i. i < n) v args h) (λ i. ap takes (let q : suc j + i ≡ j + suc i = omega arith in q) ∙ e (suc i)))
      where
        of : (b : Bool) → implied b (nat_lt v n && b) ≡ true
        of true = both (nat_lt v n) true (below v n (All-head (λ i. i < n) v args h)) refl
        of false = refl

-- ---- Code

module _ (g : ℕ) (s : Setting) (p : Program) (ss : List Signature) (result : Kind) (n : ℕ) (values : s.values ≡ n + 5) (lined : (s.line == 0) ≡ false) (counts : (k : ℕ) (args : List ℕ) → IsCallOf p k args → is_count (s.params_of k) (length args) ≡ true) where
  abbrev GoodCode : (es : List Kinds) → Here → Kinds → Items → Kinds → Type 0
  GoodCode es h k is l = Goods g s (signs ss) (is_pointer result) (exits n es) h (known n [] k) is (known n [] l)

  abbrev V : (a : ℕ) → a < n → nat_lt a s.values ≡ true
  V a lt = value g s (signs ss) (is_pointer result) n values a lt

  abbrev O : (k : Kinds) (a : ℕ) → a < n → known n [] k (Fact.Own a) ≡ true
  O k a lt = own_value g s (signs ss) (is_pointer result) n values [] k a lt

  one_set : (es : List Kinds) (h : Here) (k : Kinds) (x : FStep) (to : ℕ) (kind : Kind) → sets x ≡ Some to → leading x ≡ Leading.Falls → (is_pointer kind ≡ true → holds (signs ss).gives (known n [] k) (clean_of s h x) ≡ true) → Ready s (signs ss) (is_pointer result) (length (exits n es)) (known n [] k) x → GoodCode es h k (one x) (with_kind to kind k)
  one_set es h k x to kind e fall c r =
      (known n [] (with_kind to kind k), plain_set g s (signs ss) (is_pointer result) n values (exits n es) (known n [] k) k h x to kind (covers_same (known n [] k)) e fall c r, covers_same (known n [] (with_kind to kind k)))

  one_none : (es : List Kinds) (h : Here) (k : Kinds) (x : FStep) → sets x ≡ None → leading x ≡ Leading.Falls → Ready s (signs ss) (is_pointer result) (length (exits n es)) (known n [] k) x → GoodCode es h k (one x) k
  one_none es h k x e fall r = (known n [] k, plain_none g s (signs ss) (is_pointer result) n values (exits n es) k h x e fall r, covers_same (known n [] k))

  R : (es : List Kinds) (k : Kinds) (x : FStep) → fits s (length (exits n es)) x && is_plain x ≡ true → address_known (known n [] k) (address x) ≡ true → all_own (known n [] k) (reads x) ≡ true → hands (signs ss) (is_pointer result) (known n [] k) x ≡ true → Ready s (signs ss) (is_pointer result) (length (exits n es)) (known n [] k) x
  R es k x fit at owns handed = ready g s (signs ss) (is_pointer result) n values (exits n es) (known n [] k) x fit at owns handed

  number_load : (es : List Kinds) (h : Here) (k : Kinds) (to at : ℕ) (w : Width) → kind_of_width w ≡ Kind.IsNumber → to < n → at < n → k at ≡ Kind.IsPointer → GoodCode es h k (one (FStep.Load to at w)) (with_kind to Kind.IsNumber k)
  number_load es h k to at w e lt la is =
      one_set es h k (FStep.Load to at w) to Kind.IsNumber refl refl (λ q. absurd (true≢false (sym q)))
      (R es k (FStep.Load to at w) (both _ true (both _ _ (V to lt) (V at la)) refl) (both (nat_lt at n) (is_pointer (k at)) (below at n la) (ap is_pointer is)) (both _ true (O k at la) refl) refl)

  called_good : (es : List Kinds) (h : Here) (k : Kinds) (to f : ℕ) (args : List ℕ) (r : Kind) → to < n → IsCallOf p f args → All (λ a. a < n) args → IsCalled ss k f args r → GoodCode es h k (one (FStep.Call to f args)) (with_kind to r k)
  called_good es h k to f args r lt of_program below_n called =
      one_set es h k (FStep.Call to f args) to r refl refl (λ e. ap (λ o. is_pointer (result_in o)) called.1 ∙ ap is_pointer called.3 ∙ e)
      (R es k (FStep.Call to f args)
      (both _ true (both (nat_lt to s.values) _ (V to lt) (both (all_below s.values args) _ (values_below g s (signs ss) (is_pointer result) n values args below_n) (both (is_count (s.params_of f) (length args)) (not (s.line == 0)) (counts f args of_program) (ap not lined)))) refl)
      refl (values_own g s (signs ss) (is_pointer result) n values k args below_n)
      (passed g s (signs ss) (is_pointer result) n values ((signs ss).takes f) k 0 args below_n (λ i. ap ((signs ss).takes f) (let q : 0 + i ≡ i = omega arith in q) ∙ ap (λ o. is_pointer (kind_in o i)) called.1 ∙ ap (λ ks. is_pointer (slice_index_or ks i Kind.IsNumber)) (sym called.2))))

  arith_good : (es : List Kinds) (h : Here) (k : Kinds) (to : ℕ) (o : ArithOp) (a b : ℕ) → to < n → a < n → b < n → GoodCode es h k (one (FStep.Arith to o a b)) (with_kind to Kind.IsNumber k)
  arith_good es h k to o a b lt la lb =
      one_set es h k (FStep.Arith to o a b) to Kind.IsNumber refl refl (λ q. absurd (true≢false (sym q))) (R es k (FStep.Arith to o a b) (both _ true (both _ _ (V to lt) (both _ _ (V a la) (V b lb))) refl) refl (both _ _ (O k a la) (both _ true (O k b lb) refl)) refl)

  mutual
    step_good : (x : Step) (d : ℕ) (es : List Kinds) (h : Here) (k l : Kinds) → length (exits n es) ≡ d → Fits p n d x → IsKind ss result x k l es → GoodCode es h k (step_items n x) l
    step_good (Step.Number to v) d es h k l len f e =
        subst (λ z. GoodCode es h k (one (FStep.Number to v)) z) (sym e) (one_set es h k (FStep.Number to v) to Kind.IsNumber refl refl (λ q. absurd (true≢false (sym q))) (R es k (FStep.Number to v) (both _ true (V to f.0) refl) refl refl refl))
    step_good (Step.NullPtr to) d es h k l len f e =
        subst (λ z. GoodCode es h k (one (FStep.Number to 0)) z) (sym e) (one_set es h k (FStep.Number to 0) to Kind.IsPointer refl refl (λ q. refl) (R es k (FStep.Number to 0) (both _ true (V to f) refl) refl refl refl))
    step_good (Step.Same to from) d es h k l len f e =
        subst (λ z. GoodCode es h k (one (FStep.Same to from)) z) (sym e)
        (one_set es h k (FStep.Same to from) to (k from) refl refl (λ q. both (nat_lt from n) (is_pointer (k from)) (below from n f.1) q) (R es k (FStep.Same to from) (both _ true (both _ _ (V to f.0) (V from f.1)) refl) refl (both _ true (O k from f.1) refl) refl))
    step_good (Step.Arith to o a b) d es h k l len f e =
        subst (λ z. GoodCode es h k (one (FStep.Arith to o a b)) z) (sym e.2) (arith_good es h k to o a b f.0 f.1 f.2)
    step_good (Step.Divide to o a b line) d es h k l len f e =
        subst (λ z. GoodCode es h k (step_items n (Step.Divide to o a b line)) z) (sym e.2) (
          known n [] k,
          (V b f.2, O k b f.2, covers_same (known n [] k), reporting),
          arith_good es untold k to (quotient o) a b f.0 f.1 f.2,
        )
      where
        report_keeps : (h : Here) (y : Fact) → known n (n ∷ []) k y ≡ true → known_after s (signs ss).gives h (Item.Plain (FStep.Report DivZero n)) (known n (n ∷ []) k) y ≡ true
        report_keeps h (Fact.Clean v) q = q
        report_keeps h (Fact.Own v) q = q
        report_keeps h (Fact.Spanned a m) q = absurd (true≢false (sym q))

        reporting : Goods g s (signs ss) (is_pointer result) (exits n es) untold (known n [] k) (next (Item.Plain (FStep.Number n line)) (one (FStep.Report DivZero n))) (known n [] k)
        reporting = (
          known n (n ∷ []) k,
          plain_temporary g s (signs ss) (is_pointer result) n values (exits n es) [] k untold (FStep.Number n line) n (omega arith) refl refl (number_ready g s (signs ss) (is_pointer result) n values (exits n es) [] k n line (first_temporary g s (signs ss) (is_pointer result) n values)),
          (
            known n (n ∷ []) k,
            (ready g s (signs ss) (is_pointer result) n values (exits n es) (known n (n ∷ []) k) (FStep.Report DivZero n) (both _ true (first_temporary g s (signs ss) (is_pointer result) n values) refl) refl (both _ true (own_temporary g s (signs ss) (is_pointer result) n values (n ∷ []) k n (among_here n [])) refl) refl, λ y q. report_keeps (here_after (Item.Plain (FStep.Number n line)) untold) y q),
            without_temporaries g s (signs ss) (is_pointer result) n values (n ∷ []) k,
          ),
        )
    step_good (Step.PtrSame to a b) d es h k l len f e =
        subst (λ z. GoodCode es h k (one (FStep.Arith to op.Equal a b)) z) (sym e.2) (arith_good es h k to op.Equal a b f.0 f.1 f.2)
    step_good (Step.PtrOrder to o a b) d es h k l len f e =
        subst (λ z. GoodCode es h k (order_items n to o a b) z) (sym e.2) (order_good g s (signs ss) (is_pointer result) n values (exits n es) k h to o a b f.0 f.1 f.2)
    step_good (Step.PtrDiff to a b size) d es h k l len f e =
        subst (λ z. GoodCode es h k (subtraction_items n to a b size) z) (sym e.2) (subtraction_good g s (signs ss) (is_pointer result) n values (exits n es) k h to a b size f.0 f.1 f.2)
    step_good (Step.Move site to from by scale down line) d es h k l len f e =
        subst (λ z. GoodCode es h k (move_items n to from by scale down line) z) (sym e.2) (move_good g s (signs ss) (is_pointer result) n values (exits n es) k h to from by scale down line f.0 f.1 f.2 e.0)
    step_good (Step.MoveBy site to from z line) d es h k l len f e =
        subst (λ y. GoodCode es h k (move_by_items n to from (word_of z) line) y) (sym e.1) (move_by_good g s (signs ss) (is_pointer result) n values (exits n es) k h to from (word_of z) line f.0 f.1 e.0)
    step_good (Step.Load to at width.Byte line) d es h k l len f e = subst (λ z. GoodCode es h k (one (FStep.Load to at width.Byte)) z) (sym e.1) (number_load es h k to at width.Byte refl f.0 f.1 e.0)
    step_good (Step.Load to at width.Half line) d es h k l len f e = subst (λ z. GoodCode es h k (one (FStep.Load to at width.Half)) z) (sym e.1) (number_load es h k to at width.Half refl f.0 f.1 e.0)
    step_good (Step.Load to at width.SignedHalf line) d es h k l len f e = subst (λ z. GoodCode es h k (one (FStep.Load to at width.SignedHalf)) z) (sym e.1) (number_load es h k to at width.SignedHalf refl f.0 f.1 e.0)
    step_good (Step.Load to at width.Word line) d es h k l len f e = subst (λ z. GoodCode es h k (one (FStep.Load to at width.Word)) z) (sym e.1) (number_load es h k to at width.Word refl f.0 f.1 e.0)
    step_good (Step.Load to at width.Pointer line) d es h k l len f e =
        subst (λ z. GoodCode es h k (load_items n to at width.Pointer line) z) (sym e.1) (load_good g s (signs ss) (is_pointer result) n values (exits n es) k h to at line f.0 f.1 e.0)
    step_good (Step.Store at from w) d es h k l len f e =
        subst (λ z. GoodCode es h k (one (FStep.Store at from w)) z) (sym e.2)
        (one_none es h k (FStep.Store at from w) refl refl
        (R es k (FStep.Store at from w) (both _ true (both _ _ (V at f.0) (V from f.1)) refl) (both (nat_lt at n) (is_pointer (k at)) (below at n f.0) (ap is_pointer e.0)) (both _ _ (O k at f.0) (both _ true (O k from f.1) refl)) refl))
    step_good (Step.Call to c args) d es h k l len f e =
        subst (λ z. GoodCode es h k (one (FStep.Call to c args)) z) (sym e.2) (called_good es h k to c args e.0 f.0 f.1 f.2 e.1)
    step_good (Step.Library to which args line a b) d es h k l len f e =
        subst (λ z. GoodCode es h k (library_items n which to line args) z) (sym e.1) (library_good g s (signs ss) (is_pointer result) n values (exits n es) k h which to line args f.0 f.1)
    step_good (Step.If cond xs ys) d es h k l len f e =
        (known n [] l, (V cond f.0, O k cond f.0, good xs d es (branch h cond) k l len f.1 e.1, good ys d es untold k l len f.2 e.2), covers_same (known n [] l))
    step_good (Step.Block body) d es h k l len f e =
        (known n [] l, good body (suc d) (l ∷ es) untold k l (ap suc len) f e, covers_same (known n [] l))
    step_good (Step.Loop body) d es h k l len f e =
        (known n [] l, (known n [] e.0, forgets g s (signs ss) (is_pointer result) n values e.0 k e.1, good body (suc d) (l ∷ es) untold e.0 e.0 (ap suc len) f e.2), covers_same (known n [] l))
    step_good (Step.Exit zero) d es h k l len f e = absurd (omega (arith, f.0))
    step_good (Step.Exit (suc m)) d es h k l len f e = (
      known n [] l,
      (
        R es k (FStep.Exit (suc m)) (both _ true (both (nat_lt 0 (suc m)) _ (below 0 (suc m) (omega arith)) (upto (suc m) (length (exits n es)) (omega (arith, f.1, len)))) refl) refl refl refl,
        subst (λ o. Leads o (known_after s (signs ss).gives h (Item.Plain (FStep.Exit (suc m))) (known n [] k))) (sym (slice_get-map (known n []) es m ∙ ap (option_map (known n [])) e.1))
            (covers_then (known n [] e.0) (known n [] k) _ (forgets g s (signs ss) (is_pointer result) n values e.0 k e.2) (covers_none g s (signs ss) (is_pointer result) n values k h (FStep.Exit (suc m)) refl)),
      ),
      covers_same (known n [] l),
    )
    step_good (Step.Return from) d es h k l len f e = (
      known n [] l,
      (R es k (FStep.Return from) (both _ true (V from f) refl) refl (both _ true (O k from f) refl) (returned (is_pointer (k from)) (ap is_pointer e)), tt),
      covers_same (known n [] l),
    )
      where
        returned : (b : Bool) → b ≡ is_pointer result → implied (is_pointer result) (nat_lt from n && b) ≡ true
        returned b q = ap (λ z. implied z (nat_lt from n && b)) (sym q) ∙ of b
          where
            of : (b : Bool) → implied b (nat_lt from n && b) ≡ true
            of true = both (nat_lt from n) true (below from n f) refl
            of false = refl
    step_good (Step.LineMark line) d es h k l len f e =
        subst (λ z. GoodCode es h k (one (FStep.LineMark line)) z) (sym e) (one_none es h k (FStep.LineMark line) refl refl (R es k (FStep.LineMark line) (both _ true (upto line 1048575 f.1) refl) refl refl refl))
    step_good (Step.Named to o) d es h k l len f e = absurd f
    step_good (Step.Clear o) d es h k l len f e = absurd f
    step_good (Step.Init o offset from w) d es h k l len f e = absurd f
    step_good (Step.CopyBytes a b from to m line) d es h k l len f e = absurd f

    good : (xs : Steps) (d : ℕ) (es : List Kinds) (h : Here) (k l : Kinds) → length (exits n es) ≡ d → AllFit p n d xs → AreKinds ss result xs k l es → GoodCode es h k (items n xs) l
    good Steps.stop d es h k l len f e = forgets g s (signs ss) (is_pointer result) n values l k e
    good (Steps.step x xs) d es h k l len f e =
        joined_goods g s (signs ss) (is_pointer result) (exits n es) h (step_items n x) (items n xs) (known n [] k) (known n [] e.0) (known n [] l) (step_good x d es h k e.0 len f.0 e.1) (λ h2. good xs d es h2 e.0 l len f.1 e.2)

-- ---- Functions and programs

module _ (g : ℕ) (p : Program) (globals : List Region) (formed : Formed p) (built : IsBuilt p) where
  abbrev functions : List FFunction
  functions = map (function_code g) p.functions

  found_in : (k : ℕ) (h : Function) → slice_get p.functions k ≡ Some h → slice_get (map (function_code g) p.functions) k ≡ Some (function_code g h)
  found_in k h e = slice_get-map (function_code g) p.functions k ∙ ap (option_map (function_code g)) e

  counts_in : (f : Option FFunction) (k : ℕ) (args : List ℕ) → IsCallOf p k args → is_count ((setting_in globals (map (function_code g) p.functions) f).params_of k) (length args) ≡ true
  counts_in f k args (h, found, e) = ap (λ o. is_count (params_in o) (length args)) (found_in k h found) ∙ eq-eqb h.params (length args) (sym e)

  is_main_or : (k : ℕ) (f : Function) → slice_get p.functions k ≡ Some f → (b : Bool) → (k == p.main) ≡ b → not b || (f.params == 0) ≡ true
  is_main_or k f found false e = refl
  is_main_or k f found true e =
      let same : k ≡ p.main = eqb-true k p.main e in
      let main : formed.main ≡ f = same_Some formed.main f (sym formed.main_found ∙ ap (λ i. slice_get p.functions i) (sym same) ∙ found) in
      eq-eqb f.params 0 (ap (λ (h : Function). h.params) (sym main) ∙ formed.main_params)

  -- what is known of parameters, at a function's start
  begins : (k : ℕ) (sig : Signature) (f : Function) → slice_get formed.signatures k ≡ Some sig → Covers (known f.values [] (first_kinds sig)) (at_start ((signs formed.signatures).takes k) f.params)
  begins k sig f at (Fact.Clean v) q = of (nat_lt v f.params) (second_is (nat_lt v f.values) (is_pointer (first_kinds sig v)) q)
    where
      of : (b : Bool) → is_pointer (first_kinds sig v) ≡ true → implied b (is_pointer (kind_in (slice_get formed.signatures k) v)) ≡ true
      of true e = ap (λ o. is_pointer (kind_in o v)) at ∙ e
      of false e = refl
  begins k sig f at (Fact.Own v) q = refl
  begins k sig f at (Fact.Spanned a m) q = absurd (true≢false (sym q))

  function_good : (k : ℕ) (f : Function) → slice_get p.functions k ≡ Some f → PlainItemsAreRead → GoodFunction g globals (signs formed.signatures) (instrumented g p) k (function_code g f)
  function_good k f found read =
      let is = signature_is p formed.signatures p.functions formed.signatures k f formed.functions found in
      let fit = functions_fit p formed built k f found in
      let lined : (f.line == 0) ≡ false = ne_eqb f.line 0 (λ e. omega (arith, fit.line, e)) in
      let here = setting_in globals (map (function_code g) p.functions) (Some (function_code g f)) in
      record {
        items = items f.values f.body;
        read = ap (items_of g) (sym (steps_of_items g f.values f.body)) ∙ read g (items f.values f.body) (plainly p f.values f.body 0 fit.body);
        in_range =
            both _ _ (both (nat_le (f.values + 5) 255) (nat_le f.params 8) (upto (f.values + 5) 255 (omega (arith, is.2.values))) (upto f.params 8 is.2.params))
            (both _ _ (upto f.params (f.values + 5) (omega (arith, is.2.params_are_values)))
            (both (library_fits (function_code g f)) (main_fits p.main k (function_code g f)) (ap (λ b. not b || ((function_code g f).frame == 0 && nat_le (f.values + 5) 12)) lined) (is_main_or k f found (k == p.main) refl)));
        known = known f.values [] (first_kinds is.0);
        begins = begins k is.0 f is.1;
        last = known f.values [] is.2.last;
        good = subst (λ s. Goods g s (signs formed.signatures) ((signs formed.signatures).gives k) [] untold (known f.values [] (first_kinds is.0)) (items f.values f.body) (known f.values [] is.2.last)) (ap (setting_in globals (map (function_code g) p.functions)) (sym (found_in k f found)))
            (subst (λ b. Goods g here (signs formed.signatures) b [] untold (known f.values [] (first_kinds is.0)) (items f.values f.body) (known f.values [] is.2.last)) (sym (ap (λ o. is_pointer (result_in o)) is.1))
            (good g here p formed.signatures is.0.result f.values refl lined (counts_in (Some (function_code g f))) f.body 0 [] untold (first_kinds is.0) is.2.last refl fit.body is.2.kinds));
      }

  good_program : PlainItemsAreRead → GoodProgram g globals (signs formed.signatures) (instrumented g p)
  good_program read = record {
    main = function_code g formed.main;
    is_main = found_in p.main formed.main formed.main_found;
    each = λ k fn e. of k fn (slice_get p.functions k) refl (sym (slice_get-map (function_code g) p.functions k) ∙ e);
  }
    where
      of : (k : ℕ) (fn : FFunction) (o : Option Function) → slice_get p.functions k ≡ o → option_map (function_code g) o ≡ Some fn → GoodFunction g globals (signs formed.signatures) (instrumented g p) k fn
      of k fn None e h = absurd (none-some fn h)
      of k fn (Some f) e h = subst (λ z. GoodFunction g globals (signs formed.signatures) (instrumented g p) k z) (same_Some (function_code g f) fn h) (function_good k f e read)

pub accepted : PlainItemsAreRead → DerivationsAreAccepted → (g : ℕ) (globals : List Region) (p : Program) → Formed p → IsBuilt p → IsDisciplined g globals (instrumented g p)
accepted read derived g globals p formed built = derived g globals (signs formed.signatures) (instrumented g p) (good_program g p globals formed built read)

-- The code of an expression follows the expression.
use Rattle.std.specs.Prelude.{min, ◌==◌, if◌then◌else◌, not, map, slice_index_or}
use Rattle.std.proofs.Common.{◌≡◌, ℕ, suc, ◌+◌, ◌<◌, ◌≤◌, Bool, true, false, List, [], ◌∷◌, length, None, refl, sym, ap, ◌∙◌, subst, arith}
use Rattle.std.proofs.lemmas.Bool.{true≢false}
use Rattle.bb_words.specs.Answers.{Goes, and_then, either}
use Rattle.bb_words.specs.Numbers.{difference}
use Rattle.bb_words.specs.Steps.{flag, arith as worked}
use Rattle.bb_words.specs.declared.steps.ArithOp.TheVariants as arith_op
use Rattle.c_words.specs.declared.place.At.{At as Spot}
use Rattle.c_words.specs.declared.operators.UnaryOperator.{UnaryOperator}
use Rattle.c_words.specs.declared.operators.UnaryOperator.TheVariants as unary
use Rattle.c_words.specs.declared.operators.StepOperator.{StepOperator}
use Rattle.c_words.specs.declared.operators.StepOperator.TheVariants.{Increment, Decrement}
use Rattle.c_words.specs.declared.operators.BinaryOperator.{BinaryOperator}
use Rattle.c_words.specs.declared.operators.BinaryOperator.TheVariants as op
use Rattle.c_words.specs.declared.operators.AssignOperator.{AssignOperator}
use Rattle.c_words.specs.declared.operators.AssignOperator.TheVariants as assign
use Rattle.typed_tree.specs.declared.typed_expr.Conversion.TheVariants as conversion
use Rattle.typed_tree.specs.declared.typed_expr.Called.{Called}
use Rattle.typed_tree.specs.declared.typed_expr.Called.TheVariants as named
use Rattle.typed_tree.specs.declared.typed_expr.LibCall.{LibCall}
use Rattle.typed_tree.specs.declared.typed_expr.LibCall.TheVariants as lib
use Rattle.typed_tree.specs.Types.{CType, is_pointer, is_struct, is_number, is_unsigned}
use Rattle.typed_tree.specs.TypedTree.{CExpr, CForm, CExprs, CFunction, CProgram, CStruct, type_of, form_of}
use Rattle.source_meaning.specs.declared.values.Value.{Value}
use Rattle.source_meaning.specs.declared.values.Value.TheVariants.{Num}
use Rattle.source_meaning.specs.declared.values.Slot.TheVariants.{Kept}
use Rattle.source_meaning.specs.declared.values.Place.{Place}
use Rattle.source_meaning.specs.declared.values.Place.TheVariants.{Variable}
use Rattle.source_meaning.specs.declared.values.Held.{Held}
use Rattle.source_meaning.specs.declared.values.Held.TheVariants.{Of, At}
use Rattle.source_meaning.specs.declared.values.Want.{Want}
use Rattle.source_meaning.specs.declared.values.Want.TheVariants.{ItsValue, ItsPlace}
use Rattle.source_meaning.specs.Worlds.{World, Does, with_number}
use Rattle.source_meaning.specs.Accounts.{library, argument, put, get_from}
use Rattle.typed_tree.specs.Numbers.{fitted}
use Rattle.source_meaning.specs.Numbers.{calculated}
use Rattle.source_meaning.specs.Operators.{on_binary, step as one_step_of, stepped_number, cast, run_binary, decided_by, binary_of, is_shift, on_assign, on_compound, run_assign, assign_scalar, assign_struct, on_step, move_by, is_down}
use Rattle.source_meaning.specs.Sites.{sites_of, sites_of_all, pointee}
use Rattle.source_meaning.specs.States.{State, Runs, tick, done_in, doing as does, giving, using_value, using_place, finish, local_place, place_of_slot, read, read_slot, write}
use Rattle.source_meaning.specs.Meaning.{Calls as SourceCalls, run, run_form, run_all}
use Rattle.source_meaning.specs.Runs.{cost}
use Rattle.typed_tree.specs.Sizes.{size_of}
use Rattle.mid_code.specs.Code.{Step, Steps, append}
use Rattle.mid_code.specs.Code.Steps.{stop, step as more}
use Rattle.mid_code.specs.Times.{charge}
use Rattle.mid_code.specs.Meaning.{Point, Goings, Way, On, spend, set, setting, Watch, Names, Calls, after, acts}
use Rattle.lowering_counts.specs.Built.{is_of_numbers}
use Rattle.lowering_code.specs.Lower.{only, operation, fitting, casting, flagged, one_operand, one_step, stepping, compound, local_of, local_of_form, places, code, form_code, all_code}
use Rattle.lowering_keeps.proofs.Sim.{Sim, goes, sim_then, sim_left, sim_weaker, from_equal, to_equal}
use Rattle.lowering_keeps.proofs.Meets.{there, Meets, Rests, Holds, Lands, lands, less, ticked, spent, holds_set, held_assigned, with_local, IsNumeral}
use Rattle.lowering_keeps.proofs.Fits.{is_reckoned, is_unconverted, is_for_numbers, count_of, Takes, FitsCalled, IsVariable, Fits, AllFit}
use Rattle.lowering_keeps.proofs.Operators.{is_eager, not_pointer, on_binary_numbers, calculated_numeral, operation_acts, operation_charge}
use Rattle.lowering_keeps.proofs.Steps.{append_stop, cast_value, cast_is, truth_then, pure_then, goes_then, acts_append, only_acts, same_acts, number_then, same_then, setting_then, arith_then, if_only, fit_then, cast_then}

-- a call has returned: the same number, the same world, the locals of the caller
pub record Returned (s : ℕ) (c0 : State) (v0 : Point) (x : Value) (c : State) (y : Value) (v : Point) : Type 0 where
  pub number : ℕ
  pub value : x ≡ Num number
  pub result : y ≡ Num number
  pub world : v.world ≡ c.world
  pub locals : c.locals ≡ c0.locals
  pub unset : v.values ≡ v0.values
  pub paid : v.time + s ≤ cost c

-- the calls of the code follow those of the typed tree
abbrev pub Matches : List CFunction → SourceCalls → Calls → Type 0
Matches functions call calling =
    (f : ℕ) (ns : List ℕ) (s : ℕ) (c : State) (v : Point) → Takes functions f (length ns) → v.world ≡ c.world → v.time + s ≤ cost c
    → Sim (Returned s c v) (call f (map Num ns) c) (calling f (map Num ns) v)

-- a conversion has no node of its own to pay from
abbrev pub left : CExpr → ℕ
left e = if is_unconverted e then 600 else 512

pub left_at_least : (e : CExpr) → 512 ≤ left e
left_at_least e = of (is_unconverted e)
  where
    of : (b : Bool) → 512 ≤ (if b then 600 else 512)
    of true = omega arith
    of false = omega arith

pub left_of_unconverted : (e : CExpr) → is_unconverted e ≡ true → left e ≡ 600
left_of_unconverted e h = ap (λ b. if b then 600 else 512) h

abbrev answered : ℕ → State → Runs Held
answered n c = Goes (Of (Num n)) c

flag_is : (b : Bool) (c : State) → answered (flag b) c ≡ either b (Goes (Of (Num 1))) (Goes (Of (Num 0))) c
flag_is true c = refl
flag_is false c = refl

not_flag_is : (b : Bool) (c : State) → answered (flag (not b)) c ≡ either b (Goes (Of (Num 0))) (Goes (Of (Num 1))) c
not_flag_is true c = refl
not_flag_is false c = refl

number_not_struct : (t : CType) → is_number t ≡ true → is_struct t ≡ false
number_not_struct CType.Void h = refl
number_not_struct CType.Char h = refl
number_not_struct CType.Int h = refl
number_not_struct CType.Unsigned h = refl
number_not_struct (CType.Struct k) h = absurd (true≢false (sym h))
number_not_struct (CType.Pointer t) h = refl
number_not_struct (CType.Array t n) h = refl

number_is_reckoned : (t : CType) → is_number t ≡ true → is_reckoned t ≡ true
number_is_reckoned CType.Void h = refl
number_is_reckoned CType.Char h = refl
number_is_reckoned CType.Int h = refl
number_is_reckoned CType.Unsigned h = refl
number_is_reckoned (CType.Struct k) h = absurd (true≢false (sym h))
number_is_reckoned (CType.Pointer t) h = absurd (true≢false (sym h))
number_is_reckoned (CType.Array t n) h = absurd (true≢false (sym h))

-- ---- Locals

finish_local : (t : CType) (j n : ℕ) (c : State) → c.locals j ≡ Kept (Num n) → finish t ItsValue (local_place j c) c ≡ Goes (Of (Num n)) c
unfolding and_then
finish_local t j n c e =
    ap (λ z. finish t ItsValue (place_of_slot j z) c) e ∙ ap (λ z. and_then (read_slot z c) (λ v. Goes (Of v))) e

read_then : {A : Type 0} (t : CType) (j n : ℕ) (c : State) (f : Value → State → Runs A) → c.locals j ≡ Kept (Num n) → and_then (read t (Variable j) c) f ≡ f (Num n) c
unfolding and_then
read_then t j n c f e = ap (λ z. and_then (read_slot z c) f) e

write_then : {A : Type 0} (t : CType) (j n : ℕ) (c : State) (f : Value → State → Runs A) → and_then (write t (Variable j) (Num n) c) f ≡ f (Num n) (with_local j n c)
unfolding and_then
write_then t j n c f = refl

-- ---- Operators, all but `&&` and `||` in one form

abbrev pub both_then : List CStruct → (g site : ℕ) → BinaryOperator → (line : ℕ) → (t u : CType) → (a b : State → Runs Held) → State → Runs Held
both_then structs g site o line t u a b c =
    and_then (a c) (λ x c1. and_then (b c1) (λ y. using_value x (λ v. using_value y (λ z. giving (on_binary structs g site o (is_unsigned t) line t u v z)))))

run_binary_is : (structs : List CStruct) (g site : ℕ) (o : BinaryOperator) (line : ℕ) (t u : CType) (a b : State → Runs Held) (c : State) → is_eager o ≡ true → run_binary structs g site o line t u a b c ≡ both_then structs g site o line t u a b c
run_binary_is structs g site op.LogicalAnd line t u a b c h = absurd (true≢false (sym h))
run_binary_is structs g site op.LogicalOr line t u a b c h = absurd (true≢false (sym h))
run_binary_is structs g site o line t u a b c h = refl

code_binary_is : (structs : List CStruct) (o : BinaryOperator) (a b : CExpr) (line : ℕ) (u : CType) (t : ℕ) → is_eager o ≡ true → form_code structs (CForm.Binary o a b) line u t ≡ append (code structs a t) (append (code structs b (t + 1)) (only (operation o (is_unsigned (type_of a)) line t t (t + 1))))
code_binary_is structs op.LogicalAnd a b line u t h = absurd (true≢false (sym h))
code_binary_is structs op.LogicalOr a b line u t h = absurd (true≢false (sym h))
code_binary_is structs o a b line u t h = refl

abbrev pub is_compound : AssignOperator → Bool
is_compound assign.Assign = false
is_compound o = true

compound_is_eager : (o : AssignOperator) → is_compound o ≡ true → is_eager (binary_of o) ≡ true
compound_is_eager assign.Assign h = refl
compound_is_eager o h = refl

on_assign_is : (structs : List CStruct) (g site line : ℕ) (o : AssignOperator) (t u : CType) (q : Place) (x : Value) (c : State) → is_compound o ≡ true → on_assign structs g site line o t u q x c ≡ on_compound structs g site line o t u q x c
on_assign_is structs g site line assign.Assign t u q x c h = absurd (true≢false (sym h))
on_assign_is structs g site line o t u q x c h = refl

code_assign_is : (structs : List CStruct) (o : AssignOperator) (a b : CExpr) (line : ℕ) (u : CType) (t : ℕ) → is_compound o ≡ true → form_code structs (CForm.Assign o a b) line u t ≡ append (code structs b (t + 1)) (compound o line (type_of a) (type_of b) (local_of a) t)
code_assign_is structs assign.Assign a b line u t h = absurd (true≢false (sym h))
code_assign_is structs o a b line u t h = refl

giving_equal : (F G : World → Does Value) (c : State) → F c.world ≡ G c.world → giving F c ≡ giving G c
giving_equal F G c e = ap (λ r. and_then (done_in c r) (λ v. Goes (Of v))) e

step_is : (structs : List CStruct) (g site line : ℕ) (o : StepOperator) (t : CType) (n : ℕ) (w : World) → is_pointer t ≡ false → one_step_of structs g site line o t (Num n) w ≡ Goes (Num (stepped_number o t n)) w
step_is structs g site line o t n w e =
    ap (λ b. either b (move_by g site line (is_down o) (size_of structs (pointee t)) (Num n) (Num 1)) (with_number (Num n) (λ n. Goes (Num (stepped_number o t n)))) w) e

stepped_is : (o : StepOperator) (t : CType) (n : ℕ) → stepped_number o t n ≡ fitted t (worked (one_step o) n 1)
stepped_is Increment t n = refl
stepped_is Decrement t n = refl

module _ (g : ℕ) (p : CProgram) (call : SourceCalls) (watch : Watch) (calling : Calls) (m : ℕ) (names : Names) (k : ℕ) (match : Matches p.functions call calling) where
  abbrev run_of : Steps → Point → Goings Way
  run_of xs = acts g watch calling m names xs

  abbrev value_of : CExpr → (site : ℕ) → State → Runs Held
  value_of e site c = run g p call e site ItsValue c

  abbrev code_of : CExpr → ℕ → Steps
  code_of e t = code p.structs e t

  -- The code of an expression does what the expression does, sets value t, and pays from the expression's nodes.
  abbrev pub Right : CExpr → Type 0
  Right e = (site t s : ℕ) (c : State) (v : Point) → k ≤ t → Meets k s c v → Sim (Lands k t (s + left e) v) (run g p call e site ItsValue c) (acts g watch calling m names (code p.structs e t) v)

  -- an expression, and then more
  pub one : {A : Type 0} (R : A → State → Way → Point → Type 0) (e : CExpr) (site t s : ℕ) (c : State) (v : Point) (f : Held → State → Runs A) (ys : Steps) → Right e → k ≤ t → Meets k s c v → ((n : ℕ) (c1 : State) (v1 : Point) → Holds k t (s + left e) v n c1 v1 → Sim R (f (Of (Num n)) c1) (acts g watch calling m names ys v1)) → Sim R (and_then (run g p call e site ItsValue c) f) (acts g watch calling m names (append (code p.structs e t) ys) v)
  one R e site t s c v f ys r le h go =
      to_equal R (and_then (value_of e site c) f) _ _ (acts_append g watch calling m names (code_of e t) ys v)
      (sim_then (Lands k t (s + left e) v) R (value_of e site c) (run_of (code_of e t) v) f (λ w. after w (run_of ys)) (r site t s c v le h)
      (λ x c1 w v1 l. subst (λ z. Sim R (f z c1) (after w (run_of ys) v1)) (sym l.value) (subst (λ z. Sim R (f (Of (Num l.number)) c1) (after z (run_of ys) v1)) (sym l.on) (go l.number c1 v1 l.holds))))

  landed : (t s n : ℕ) (v0 : Point) (c : State) (v : Point) → Holds k t s v0 n c v → Sim (Lands k t s v0) (Goes (Of (Num n)) c) (run_of stop v)
  landed t s n v0 c v h = goes (Lands k t s v0) (Of (Num n)) c On v (lands k t s v0 n c v h)

  lighter : (t s s' n : ℕ) (v0 : Point) (c : State) (v : Point) → s' ≤ s → Holds k t s v0 n c v → Holds k t s' v0 n c v
  lighter t s s' n v0 c v le h = record { holds = h.holds; rests = h.rests; meets = less k s s' c v le h.meets }

  -- from a later point
  relanded : (t s s' : ℕ) (v0 v1 : Point) (r : Runs Held) (q : Goings Way) → s' ≤ s → Rests k t v0 v1 → Sim (Lands k t s v1) r q → Sim (Lands k t s' v0) r q
  relanded t s s' v0 v1 r q le rests h =
      sim_weaker (Lands k t s v1) (Lands k t s' v0) r q h
      (λ x c w v l. record {
        on = l.on;
        number = l.number;
        value = l.value;
        holds = record {
          holds = l.holds.holds;
          rests = λ i lo hi. l.holds.rests i lo hi ∙ rests i lo hi;
          meets = less k s s' c v le l.holds.meets;
        };
      })

  constant : (t n s : ℕ) (v0 : Point) (c : State) (v : Point) → n < 4294967296 → k ≤ t → Rests k t v0 v → Meets k (s + 8) c v → Sim (Lands k t s v0) (Goes (Of (Num n)) c) (run_of (only (Step.Number t n)) v)
  constant t n s v0 c v lt le rests h =
      number_then g watch calling m names (Lands k t s v0) k (Goes (Of (Num n)) c) t n s stop v0 c v lt le rests h (λ v1 e1 h1. landed t s n v0 c v1 h1)

  fit_end : (u : CType) (n t s : ℕ) (v0 : Point) (c : State) (v : Point) → k ≤ t → Holds k t (s + 24) v0 n c v → Sim (Lands k t s v0) (Goes (Of (Num (fitted u n))) c) (run_of (fitting u t) v)
  fit_end u n t s v0 c v le h =
      to_equal (Lands k t s v0) (Goes (Of (Num (fitted u n))) c) _ _ (ap (λ xs. run_of xs v) (sym (append_stop (fitting u t))))
      (fit_then g watch calling m names (Lands k t s v0) k (Goes (Of (Num (fitted u n))) c) u n t s stop v0 c v le h (λ v1 h1. landed t s (fitted u n) v0 c v1 h1))

  cast_end : (u : CType) (n t s : ℕ) (v0 : Point) (c : State) (v : Point) → k ≤ t → Holds k t (s + 24) v0 n c v → Sim (Lands k t s v0) (Goes (Of (Num (cast_value u n))) c) (run_of (casting u t) v)
  cast_end u n t s v0 c v le h =
      to_equal (Lands k t s v0) (Goes (Of (Num (cast_value u n))) c) _ _ (ap (λ xs. run_of xs v) (sym (append_stop (casting u t))))
      (cast_then g watch calling m names (Lands k t s v0) k (Goes (Of (Num (cast_value u n))) c) u n t s stop v0 c v le h (λ v1 h1. landed t s (cast_value u n) v0 c v1 h1))

  -- after a choice nothing has changed
  rests_on : (t : ℕ) (v0 v v1 : Point) → v1.values ≡ v.values → Rests k t v0 v → Rests k t v0 v1
  rests_on t v0 v v1 e rests i lo hi = ap (λ f. f i) e ∙ rests i lo hi

  -- 1 where it is not 0
  flagged_runs : (n t s : ℕ) (v0 : Point) (c : State) (v : Point) → k ≤ t → Holds k t (s + 24) v0 n c v → Sim (Lands k t s v0) (Goes (Of (Num (flag (not (n == 0))))) c) (run_of (only (flagged t)) v)
  flagged_runs n t s v0 c v le h =
      from_equal (Lands k t s v0) _ _ (run_of (only (flagged t)) v) (flag_is (not (n == 0)) c)
      (if_only g watch calling m names (Lands k t s v0) k (Goes (Of (Num 1))) (Goes (Of (Num 0))) n t (s + 8) (only (Step.Number t 1)) (only (Step.Number t 0)) c v h.holds (less k (s + 24) (s + 8 + 16) c v (omega arith) h.meets)
      (λ v1 e1 h1. constant t 1 s v0 c v1 (omega arith) le (rests_on t v0 v v1 e1 h.rests) h1)
      (λ v1 e1 h1. constant t 0 s v0 c v1 (omega arith) le (rests_on t v0 v v1 e1 h.rests) h1))

  -- value a comes to be a local
  store_end : (t s j a n d : ℕ) (v0 : Point) (c : State) (v : Point) → j < k → k ≤ t → v.values a ≡ Num d → Holds k t (s + 8) v0 n c v → Sim (Lands k t s v0) (Goes (Of (Num n)) (with_local j d c)) (run_of (only (Step.Same j a)) v)
  store_end t s j a n d v0 c v lt le e h =
      to_equal (Lands k t s v0) (Goes (Of (Num n)) (with_local j d c)) _ _ (same_acts g watch calling m names j a d stop v e)
      (landed t s n v0 (with_local j d c) (set j (Num d) (spend 8 v))
      (held_assigned k t s j n d v0 c (spend 8 v) lt le (record { holds = h.holds; rests = h.rests; meets = spent 8 k s c v h.meets })))

  -- ---- The place of a local

  run_place : (e : CExpr) (j site : ℕ) (c : State) → form_of e ≡ CForm.Local j → run g p call e site ItsPlace c ≡ Goes (At (local_place j (tick c))) (tick c)
  run_place (CExpr.expr at u form) j site c e = ap (λ f. run_form g p call f site at.line u ItsPlace c) e

  local_of_is : (e : CExpr) (j : ℕ) → form_of e ≡ CForm.Local j → local_of e ≡ j
  local_of_is (CExpr.expr at u form) j e = ap local_of_form e

  place_then : {A : Type 0} (e : CExpr) (j n site : ℕ) (c : State) (f : Held → State → Runs A) → form_of e ≡ CForm.Local j → c.locals j ≡ Kept (Num n) → and_then (run g p call e site ItsPlace c) f ≡ f (At (Variable j)) (tick c)
  place_then e j n site c f ef es =
      ap (λ r. and_then r f) (run_place e j site c ef)
      ∙ goes_then (At (local_place j (tick c))) (tick c) f
      ∙ ap (λ z. f (At (place_of_slot j z)) (tick c)) es

  -- ---- Two operands

  pub eager_right : (o : BinaryOperator) → is_eager o ≡ true → (at : Spot) (u : CType) (a b : CExpr) → is_pointer (type_of a) ≡ false → is_pointer (type_of b) ≡ false → Right a → Right b → Right (CExpr.expr at u (CForm.Binary o a b))
  eager_right o eager at u a b ta tb ra rb site t s c v le h =
      let R = Lands k t (s + 600) v in
      let sb = site + sites_of p.structs a in
      let here = site + sites_of p.structs a + sites_of p.structs b in
      let unsigned = is_unsigned (type_of a) in
      let the_step = operation o unsigned at.line t t (t + 1) in
      from_equal R _ _ (run_of (code_of (CExpr.expr at u (CForm.Binary o a b)) t) v) (run_binary_is p.structs g here o at.line (type_of a) (type_of b) (value_of a site) (value_of b sb) (tick c) eager)
      (to_equal R _ _ _ (ap (λ xs. run_of xs v) (code_binary_is p.structs o a b at.line u t eager))
      (one R a site t (s + 1024) (tick c) v _ (append (code_of b (t + 1)) (only the_step)) ra le (ticked k s c v h)
      (λ x c1 v1 h1.
      one R b sb (t + 1) (s + 1024 + left a) c1 v1 _ (only the_step) rb (omega arith) h1.meets
      (λ y c2 v2 h2.
      let ex : v2.values t ≡ Num x = h2.rests t le (omega arith) ∙ h1.holds in
      from_equal R _ _ (run_of (only the_step) v2) (giving_equal (on_binary p.structs g here o unsigned at.line (type_of a) (type_of b) (Num x) (Num y)) (calculated o unsigned at.line x y) c2
      (on_binary_numbers p.structs g here o unsigned at.line (type_of a) (type_of b) x y ta tb c2.world))
      (setting_then g watch calling m names R k (calculated o unsigned at.line x y) (λ z. Goes (Of z)) the_step t (s + 600) stop v c2 v2
      (operation_acts g watch calling m names o unsigned at.line t t (t + 1) x y (spend (charge the_step) v2) eager ex h2.holds)
      (calculated_numeral o unsigned at.line x y c2.world) le
      (λ i lo hi. h2.rests i lo (omega (arith, hi)) ∙ h1.rests i lo hi)
      (less k (s + 1024 + left a + left b) (s + 600 + charge the_step) c2 v2 (omega (arith, operation_charge o unsigned at.line t t (t + 1), left_at_least a)) h2.meets)
      (λ n c3 v3 h3. landed t (s + 600) n v c3 v3 h3))))))

  pub and_right : (at : Spot) (u : CType) (a b : CExpr) → Right a → Right b → Right (CExpr.expr at u (CForm.Binary op.LogicalAnd a b))
  and_right at u a b ra rb site t s c v le h =
      let R = Lands k t (s + 600) v in
      let sb = site + sites_of p.structs a in
      let second = append (code_of b t) (only (flagged t)) in
      one R a site t (s + 1024) (tick c) v _ (only (Step.If t second (only (Step.Number t 0)))) ra le (ticked k s c v h)
      (λ x c1 v1 h1.
      from_equal R _ _ (run_of (only (Step.If t second (only (Step.Number t 0)))) v1) (truth_then x c1 (λ b'. either b' (decided_by (value_of b sb)) (Goes (Of (Num 0)))))
      (if_only g watch calling m names R k (decided_by (value_of b sb)) (Goes (Of (Num 0))) x t (s + 1000) second (only (Step.Number t 0)) c1 v1 h1.holds (less k (s + 1024 + left a) (s + 1000 + 16) c1 v1 (omega arith) h1.meets)
      (λ v2 e2 h2.
      one R b sb t (s + 1000) c1 v2 _ (only (flagged t)) rb le h2
      (λ y c3 v3 h3.
      from_equal R _ _ (run_of (only (flagged t)) v3) (truth_then y c3 (λ b'. Goes (Of (Num (flag b')))))
      (flagged_runs y t (s + 600) v c3 v3 le (record { holds = h3.holds; rests = λ i lo hi. h3.rests i lo hi ∙ rests_on t v v1 v2 e2 h1.rests i lo hi; meets = less k (s + 1000 + left b) (s + 600 + 24) c3 v3 (omega arith) h3.meets }))))
      (λ v2 e2 h2. constant t 0 (s + 600) v c1 v2 (omega arith) le (rests_on t v v1 v2 e2 h1.rests) (less k (s + 1000) (s + 600 + 8) c1 v2 (omega arith) h2))))

  pub or_right : (at : Spot) (u : CType) (a b : CExpr) → Right a → Right b → Right (CExpr.expr at u (CForm.Binary op.LogicalOr a b))
  or_right at u a b ra rb site t s c v le h =
      let R = Lands k t (s + 600) v in
      let sb = site + sites_of p.structs a in
      let second = append (code_of b t) (only (flagged t)) in
      one R a site t (s + 1024) (tick c) v _ (only (Step.If t (only (Step.Number t 1)) second)) ra le (ticked k s c v h)
      (λ x c1 v1 h1.
      from_equal R _ _ (run_of (only (Step.If t (only (Step.Number t 1)) second)) v1) (truth_then x c1 (λ b'. either b' (Goes (Of (Num 1))) (decided_by (value_of b sb))))
      (if_only g watch calling m names R k (Goes (Of (Num 1))) (decided_by (value_of b sb)) x t (s + 1000) (only (Step.Number t 1)) second c1 v1 h1.holds (less k (s + 1024 + left a) (s + 1000 + 16) c1 v1 (omega arith) h1.meets)
      (λ v2 e2 h2. constant t 1 (s + 600) v c1 v2 (omega arith) le (rests_on t v v1 v2 e2 h1.rests) (less k (s + 1000) (s + 600 + 8) c1 v2 (omega arith) h2))
      (λ v2 e2 h2.
      one R b sb t (s + 1000) c1 v2 _ (only (flagged t)) rb le h2
      (λ y c3 v3 h3.
      from_equal R _ _ (run_of (only (flagged t)) v3) (truth_then y c3 (λ b'. Goes (Of (Num (flag b')))))
      (flagged_runs y t (s + 600) v c3 v3 le (record { holds = h3.holds; rests = λ i lo hi. h3.rests i lo hi ∙ rests_on t v v1 v2 e2 h1.rests i lo hi; meets = less k (s + 1000 + left b) (s + 600 + 24) c3 v3 (omega arith) h3.meets }))))))

  -- ---- One operand

  pub convert_right : (at : Spot) (u : CType) (e : CExpr) → is_unconverted e ≡ true → Right e → Right (CExpr.expr at u (CForm.Convert conversion.NumberToNumber e))
  convert_right at u e plain re site t s c v le h =
      one (Lands k t (s + 512) v) e site t s c v _ (fitting u t) re le h
      (λ n c1 v1 h1. fit_end u n t (s + 512) v c1 v1 le (lighter t (s + left e) (s + 512 + 24) n v c1 v1 (omega (arith, left_of_unconverted e plain)) h1))

  pub cast_right : (at : Spot) (u : CType) (e : CExpr) → is_reckoned u ≡ true → Right e → Right (CExpr.expr at u (CForm.Cast e))
  cast_right at u e tu re site t s c v le h =
      let R = Lands k t (s + 600) v in
      one R e site t (s + 1024) (tick c) v _ (casting u t) re le (ticked k s c v h)
      (λ n c1 v1 h1.
      from_equal R _ _ (run_of (casting u t) v1) (pure_then (cast_value u n) (cast u (Num n)) c1 (λ z. Goes (Of z)) (cast_is u n c1.world tu))
      (cast_end u n t (s + 600) v c1 v1 le (lighter t (s + 1024 + left e) (s + 600 + 24) n v c1 v1 (omega arith) h1)))

  -- taken from a constant
  from_constant : (d n t s : ℕ) (v0 : Point) (c : State) (v : Point) → d < 4294967296 → k ≤ t → Holds k t (s + 24) v0 n c v → Sim (Lands k t s v0) (Goes (Of (Num (difference d n))) c) (run_of (more (Step.Number (t + 1) d) (only (Step.Arith t arith_op.Sub (t + 1) t))) v)
  from_constant d n t s v0 c v lt le h =
      let R = Lands k t s v0 in
      let r : Runs Held = Goes (Of (Num (difference d n))) c in
      number_then g watch calling m names R k r (t + 1) d (s + 16) (only (Step.Arith t arith_op.Sub (t + 1) t)) v c v lt (omega arith) (λ i lo hi. refl) (less k (s + 24) (s + 16 + 8) c v (omega arith) h.meets)
      (λ v1 e1 h1.
      arith_then g watch calling m names R k r arith_op.Sub t (t + 1) t d n (difference d n) s stop v0 c v1 h1.holds (h1.rests t le (omega arith) ∙ h.holds) refl le
      (λ i lo hi. h1.rests i lo (omega (arith, hi)) ∙ h.rests i lo hi) h1.meets (λ v2 e2 h2. landed t s (difference d n) v0 c v2 h2))

  pub unary_right : (o : UnaryOperator) → is_for_numbers o ≡ true → (at : Spot) (u : CType) (e : CExpr) → Right e → Right (CExpr.expr at u (CForm.Unary o e))
  unary_right unary.Address f at u e re site t s c v le h = absurd (true≢false (sym f))
  unary_right unary.Dereference f at u e re site t s c v le h = absurd (true≢false (sym f))
  unary_right unary.Plus f at u e re site t s c v le h =
      one (Lands k t (s + 600) v) e site t (s + 1024) (tick c) v _ stop re le (ticked k s c v h)
      (λ n c1 v1 h1. landed t (s + 600) n v c1 v1 (lighter t (s + 1024 + left e) (s + 600) n v c1 v1 (omega arith) h1))
  unary_right unary.Minus f at u e re site t s c v le h =
      one (Lands k t (s + 600) v) e site t (s + 1024) (tick c) v _ (one_operand unary.Minus t) re le (ticked k s c v h)
      (λ n c1 v1 h1. from_constant 0 n t (s + 600) v c1 v1 (omega arith) le (lighter t (s + 1024 + left e) (s + 600 + 24) n v c1 v1 (omega arith) h1))
  unary_right unary.Complement f at u e re site t s c v le h =
      one (Lands k t (s + 600) v) e site t (s + 1024) (tick c) v _ (one_operand unary.Complement t) re le (ticked k s c v h)
      (λ n c1 v1 h1. from_constant 4294967295 n t (s + 600) v c1 v1 (omega arith) le (lighter t (s + 1024 + left e) (s + 600 + 24) n v c1 v1 (omega arith) h1))
  unary_right unary.Not f at u e re site t s c v le h =
      let R = Lands k t (s + 600) v in
      one R e site t (s + 1024) (tick c) v _ (one_operand unary.Not t) re le (ticked k s c v h)
      (λ n c1 v1 h1.
      from_equal R _ _ (run_of (one_operand unary.Not t) v1) (truth_then n c1 (λ b. Goes (Of (Num (flag (not b))))) ∙ not_flag_is (not (n == 0)) c1)
      (if_only g watch calling m names R k (Goes (Of (Num 0))) (Goes (Of (Num 1))) n t (s + 608) (only (Step.Number t 0)) (only (Step.Number t 1)) c1 v1 h1.holds (less k (s + 1024 + left e) (s + 608 + 16) c1 v1 (omega arith) h1.meets)
      (λ v2 e2 h2. constant t 0 (s + 600) v c1 v2 (omega arith) le (rests_on t v v1 v2 e2 h1.rests) (less k (s + 608) (s + 600 + 8) c1 v2 (omega arith) h2))
      (λ v2 e2 h2. constant t 1 (s + 600) v c1 v2 (omega arith) le (rests_on t v v1 v2 e2 h1.rests) (less k (s + 608) (s + 600 + 8) c1 v2 (omega arith) h2))))

  -- ---- One of two, and one after another

  pub conditional_right : (at : Spot) (u : CType) (q a b : CExpr) → Right q → Right a → Right b → Right (CExpr.expr at u (CForm.Conditional q a b))
  conditional_right at u q a b rq ra rb site t s c v le h =
      let R = Lands k t (s + 600) v in
      let sa = site + sites_of p.structs q in
      let sb = site + sites_of p.structs q + sites_of p.structs a in
      one R q site t (s + 1024) (tick c) v _ (only (Step.If t (code_of a t) (code_of b t))) rq le (ticked k s c v h)
      (λ n c1 v1 h1.
      from_equal R _ _ (run_of (only (Step.If t (code_of a t) (code_of b t))) v1) (truth_then n c1 (λ z. either z (value_of a sa) (value_of b sb)))
      (if_only g watch calling m names R k (value_of a sa) (value_of b sb) n t (s + 1000) (code_of a t) (code_of b t) c1 v1 h1.holds (less k (s + 1024 + left q) (s + 1000 + 16) c1 v1 (omega arith) h1.meets)
      (λ v2 e2 h2. relanded t (s + 1000 + left a) (s + 600) v v2 (value_of a sa c1) (run_of (code_of a t) v2) (omega arith) (rests_on t v v1 v2 e2 h1.rests) (ra sa t (s + 1000) c1 v2 le h2))
      (λ v2 e2 h2. relanded t (s + 1000 + left b) (s + 600) v v2 (value_of b sb c1) (run_of (code_of b t) v2) (omega arith) (rests_on t v v1 v2 e2 h1.rests) (rb sb t (s + 1000) c1 v2 le h2))))

  pub comma_right : (at : Spot) (u : CType) (a b : CExpr) → Right a → Right b → Right (CExpr.expr at u (CForm.Comma a b))
  comma_right at u a b ra rb site t s c v le h =
      let sb = site + sites_of p.structs a in
      one (Lands k t (s + 600) v) a site t (s + 1024) (tick c) v _ (code_of b t) ra le (ticked k s c v h)
      (λ n c1 v1 h1. relanded t (s + 1024 + left a + left b) (s + 600) v v1 (value_of b sb c1) (run_of (code_of b t) v1) (omega arith) h1.rests (rb sb t (s + 1024 + left a) c1 v1 le h1.meets))

  -- ---- Assignments

  abbrev sited : ℕ → CExpr → CExpr → ℕ
  sited site a b = site + sites_of p.structs a + sites_of p.structs b

  -- an assignment to a local
  assigning : (o : AssignOperator) (line site j n : ℕ) (a b : CExpr) (c : State) → form_of a ≡ CForm.Local j → is_struct (type_of a) ≡ false → c.locals j ≡ Kept (Num n) → and_then (run g p call a site ItsPlace c) (λ x. run_assign p.structs g (sited site a b) line o (type_of a) (type_of b) x (run g p call b (site + sites_of p.structs a))) ≡ and_then (value_of b (site + sites_of p.structs a) (tick c)) (λ y. using_value y (on_assign p.structs g (sited site a b) line o (type_of a) (type_of b) (Variable j)))
  assigning o line site j n a b c ef es el =
      let B : Want → State → Runs Held = run g p call b (site + sites_of p.structs a) in
      place_then a j n site c (λ x. run_assign p.structs g (sited site a b) line o (type_of a) (type_of b) x B) ef el
      ∙ ap (λ z. either z (assign_struct g (sited site a b) line (size_of p.structs (type_of a)) (At (Variable j)) B) (assign_scalar p.structs g (sited site a b) line o (type_of a) (type_of b) (At (Variable j)) B) (tick c)) es

  twice : (s : ℕ) (c : State) (v : Point) → Meets k s c v → Meets k (s + 2048) (tick (tick c)) v
  twice s c v h = less k (s + 1024 + 1024) (s + 2048) (tick (tick c)) v (omega arith) (ticked k (s + 1024) (tick c) v (ticked k s c v h))

  pub assign_right : (at : Spot) (u : CType) (a b : CExpr) → IsVariable p.structs p.functions k a → Right b → Right (CExpr.expr at u (CForm.Assign assign.Assign a b))
  assign_right at u a b var rb site t s c v le h =
      let R = Lands k t (s + 600) v in
      let j = var.local in
      let now = h.locals j var.within in
      let sb = site + sites_of p.structs a in
      from_equal R _ _ (run_of (append (code_of b t) (only (Step.Same (local_of a) t))) v) (assigning assign.Assign at.line site j now.number a b (tick c) var.form (number_not_struct (type_of a) var.number) now.slot)
      (to_equal R _ _ _ (ap (λ i. run_of (append (code_of b t) (only (Step.Same i t))) v) (local_of_is a j var.form))
      (one R b sb t (s + 2048) (tick (tick c)) v _ (only (Step.Same j t)) rb le (twice s c v h)
      (λ n c1 v1 h1.
      from_equal R _ _ (run_of (only (Step.Same j t)) v1) (write_then (type_of a) j n c1 (λ r. Goes (Of r)))
      (store_end t (s + 600) j t n n v c1 v1 var.within le h1.holds (lighter t (s + 2048 + left b) (s + 600 + 8) n v c1 v1 (omega arith) h1)))))

  pub compound_right : (o : AssignOperator) → is_compound o ≡ true → (at : Spot) (u : CType) (a b : CExpr) → IsVariable p.structs p.functions k a → is_pointer (type_of b) ≡ false → Right b → Right (CExpr.expr at u (CForm.Assign o a b))
  compound_right o comp at u a b var tb rb site t s c v le h =
      let R = Lands k t (s + 600) v in
      let j = var.local in
      let now = h.locals j var.within in
      let sb = site + sites_of p.structs a in
      let ta = type_of a in
      let reckoned = number_is_reckoned ta var.number in
      let unsigned = is_unsigned (either (is_shift o) ta (type_of b)) in
      let bo = binary_of o in
      let the_step = operation bo unsigned at.line t t (t + 1) in
      let write_back : Value → State → Runs Held = λ z c3. and_then (write ta (Variable j) z c3) (λ r. Goes (Of r)) in
      let cast_back : Value → State → Runs Held = λ y c2. and_then (does (cast ta y) c2) write_back in
      from_equal R _ _ (run_of (code_of (CExpr.expr at u (CForm.Assign o a b)) t) v) (assigning o at.line site j now.number a b (tick c) var.form (number_not_struct ta var.number) now.slot)
      (to_equal R _ _ _ (ap (λ xs. run_of xs v) (code_assign_is p.structs o a b at.line u t comp) ∙ ap (λ i. run_of (append (code_of b (t + 1)) (compound o at.line ta (type_of b) i t)) v) (local_of_is a j var.form))
      (one R b sb (t + 1) (s + 2048) (tick (tick c)) v _ (compound o at.line ta (type_of b) j t) rb (omega arith) (twice s c v h)
      (λ y c1 v1 h1.
      let read_now = h1.meets.locals j var.within in
      let l = read_now.number in
      let F : World → Does Value = calculated bo unsigned at.line l y in
      from_equal R _ _ (run_of (compound o at.line ta (type_of b) j t) v1)
      (on_assign_is p.structs g (sited site a b) at.line o ta (type_of b) (Variable j) (Num y) c1 comp
      ∙ read_then ta j l c1 (λ x c2. and_then (does (on_binary p.structs g (sited site a b) bo unsigned at.line ta (type_of b) x (Num y)) c2) cast_back) read_now.slot
      ∙ ap (λ r. and_then (done_in c1 r) cast_back) (on_binary_numbers p.structs g (sited site a b) bo unsigned at.line ta (type_of b) l y (not_pointer ta reckoned) tb c1.world))
      (same_then g watch calling m names R k (and_then (does F c1) cast_back) t j l (s + 2000) (more the_step (append (casting ta t) (only (Step.Same j t)))) v c1 v1 read_now.value le
      (λ i lo hi. h1.rests i lo (omega (arith, hi))) (less k (s + 2048 + left b) (s + 2000 + 8) c1 v1 (omega arith) h1.meets)
      (λ v2 e2 h2.
      let ey : v2.values (t + 1) ≡ Num y = ap (λ q. q.values (t + 1)) e2 ∙ there v1.values t (t + 1) (Num l) (λ e. omega arith) ∙ h1.holds in
      setting_then g watch calling m names R k F cast_back the_step t (s + 1000) (append (casting ta t) (only (Step.Same j t))) v c1 v2
      (operation_acts g watch calling m names bo unsigned at.line t t (t + 1) l y (spend (charge the_step) v2) (compound_is_eager o comp) h2.holds ey)
      (calculated_numeral bo unsigned at.line l y c1.world) le h2.rests
      (less k (s + 2000) (s + 1000 + charge the_step) c1 v2 (omega (arith, operation_charge bo unsigned at.line t t (t + 1))) h2.meets)
      (λ z c3 v3 h3.
      let d = cast_value ta z in
      from_equal R _ _ (run_of (append (casting ta t) (only (Step.Same j t))) v3) (pure_then d (cast ta (Num z)) c3 write_back (cast_is ta z c3.world reckoned) ∙ write_then ta j d c3 (λ r. Goes (Of r)))
      (cast_then g watch calling m names R k (Goes (Of (Num d)) (with_local j d c3)) ta z t (s + 600 + 8) (only (Step.Same j t)) v c3 v3 le (lighter t (s + 1000) (s + 600 + 8 + 24) z v c3 v3 (omega arith) h3)
      (λ v4 h4. store_end t (s + 600) j t d d v c3 v4 var.within le h4.holds h4))))))))

  -- a local is stepped
  stepping_local : (after : Bool) (o : StepOperator) (line site j l : ℕ) (u : CType) (e : CExpr) (c : State) → is_pointer u ≡ false → form_of e ≡ CForm.Local j → c.locals j ≡ Kept (Num l) → and_then (run g p call e site ItsPlace c) (λ x. using_place x (on_step p.structs g (site + sites_of p.structs e) line after o u)) ≡ Goes (Of (either after (Num (fitted u (worked (one_step o) l 1))) (Num l))) (with_local j (fitted u (worked (one_step o) l 1)) (tick c))
  stepping_local after o line site j l u e c eu ef el =
      let S = site + sites_of p.structs e in
      place_then e j l site c (λ x. using_place x (on_step p.structs g S line after o u)) ef el
      ∙ read_then u j l (tick c) (λ v c1. and_then (does (one_step_of p.structs g S line o u v) c1) (λ x c2. and_then (write u (Variable j) x c2) (λ y. Goes (Of (either after y v))))) el
      ∙ pure_then (stepped_number o u l) (one_step_of p.structs g S line o u (Num l)) (tick c) (λ x c2. and_then (write u (Variable j) x c2) (λ y. Goes (Of (either after y (Num l))))) (step_is p.structs g S line o u l c.world eu)
      ∙ write_then u j (stepped_number o u l) (tick c) (λ y. Goes (Of (either after y (Num l))))
      ∙ ap (λ z. let r : Runs Held = Goes (Of (either after (Num z) (Num l))) (with_local j z (tick c)) in r) (stepped_is o u l)

  pub before_right : (o : StepOperator) (at : Spot) (u : CType) (e : CExpr) → is_pointer u ≡ false → IsVariable p.structs p.functions k e → Right (CExpr.expr at u (CForm.StepBefore o e))
  before_right o at u e tu var site t s c v le h =
      let R = Lands k t (s + 600) v in
      let j = var.local in
      let now = h.locals j var.within in
      let l = now.number in
      let w = worked (one_step o) l 1 in
      let d = fitted u w in
      let cc = tick (tick c) in
      let r : Runs Held = Goes (Of (Num d)) (with_local j d cc) in
      let hh = twice s c v h in
      let rest = more (Step.Arith t (one_step o) t (t + 1)) (append (fitting u t) (only (Step.Same j t))) in
      from_equal R _ _ (run_of (stepping o u (local_of e) t t) v) (stepping_local true o at.line site j l u e (tick c) tu var.form now.slot)
      (to_equal R r _ _ (ap (λ i. run_of (stepping o u i t t) v) (local_of_is e j var.form))
      (same_then g watch calling m names R k r t j l (s + 1000) (more (Step.Number (t + 1) 1) rest) v cc v now.value le (λ i lo hi. refl) (less k (s + 2048) (s + 1000 + 8) cc v (omega arith) hh)
      (λ v1 e1 h1. number_then g watch calling m names R k r (t + 1) 1 (s + 900) rest v1 cc v1 (omega arith) (omega arith) (λ i lo hi. refl) (less k (s + 1000) (s + 900 + 8) cc v1 (omega arith) h1.meets)
      (λ v2 e2 h2. arith_then g watch calling m names R k r (one_step o) t t (t + 1) l 1 w (s + 800) (append (fitting u t) (only (Step.Same j t))) v cc v2 (h2.rests t le (omega arith) ∙ h1.holds) h2.holds refl le (λ i lo hi. h2.rests i lo (omega (arith, hi)) ∙ h1.rests i lo hi) (less k (s + 900) (s + 800 + 16) cc v2 (omega arith) h2.meets)
      (λ v3 e3 h3. fit_then g watch calling m names R k r u w t (s + 600 + 8) (only (Step.Same j t)) v cc v3 le (lighter t (s + 800) (s + 600 + 8 + 24) w v cc v3 (omega arith) h3)
      (λ v4 h4. store_end t (s + 600) j t d d v cc v4 var.within le h4.holds h4))))))

  pub after_right : (o : StepOperator) (at : Spot) (u : CType) (e : CExpr) → is_pointer u ≡ false → IsVariable p.structs p.functions k e → Right (CExpr.expr at u (CForm.StepAfter o e))
  after_right o at u e tu var site t s c v le h =
      let R = Lands k t (s + 600) v in
      let j = var.local in
      let now = h.locals j var.within in
      let l = now.number in
      let w = worked (one_step o) l 1 in
      let d = fitted u w in
      let cc = tick (tick c) in
      let r : Runs Held = Goes (Of (Num l)) (with_local j d cc) in
      let hh = twice s c v h in
      let rest = more (Step.Arith (t + 1) (one_step o) t (t + 1)) (append (fitting u (t + 1)) (only (Step.Same j (t + 1)))) in
      from_equal R _ _ (run_of (stepping o u (local_of e) t (t + 1)) v) (stepping_local false o at.line site j l u e (tick c) tu var.form now.slot)
      (to_equal R r _ _ (ap (λ i. run_of (stepping o u i t (t + 1)) v) (local_of_is e j var.form))
      (same_then g watch calling m names R k r t j l (s + 1000) (more (Step.Number (t + 1) 1) rest) v cc v now.value le (λ i lo hi. refl) (less k (s + 2048) (s + 1000 + 8) cc v (omega arith) hh)
      (λ v1 e1 h1. number_then g watch calling m names R k r (t + 1) 1 (s + 900) rest v1 cc v1 (omega arith) (omega arith) (λ i lo hi. refl) (less k (s + 1000) (s + 900 + 8) cc v1 (omega arith) h1.meets)
      (λ v2 e2 h2. arith_then g watch calling m names R k r (one_step o) (t + 1) t (t + 1) l 1 w (s + 800) (append (fitting u (t + 1)) (only (Step.Same j (t + 1)))) v1 cc v2 (h2.rests t le (omega arith) ∙ h1.holds) h2.holds refl (omega arith) h2.rests (less k (s + 900) (s + 800 + 16) cc v2 (omega arith) h2.meets)
      (λ v3 e3 h3. fit_then g watch calling m names R k r u w (t + 1) (s + 600 + 8) (only (Step.Same j (t + 1))) v1 cc v3 (omega arith) (record { holds = h3.holds; rests = h3.rests; meets = less k (s + 800) (s + 600 + 8 + 24) cc v3 (omega arith) h3.meets })
      (λ v4 h4. store_end t (s + 600) j (t + 1) l d v cc v4 var.within le h4.holds (record {
        holds = h4.rests t le (omega arith) ∙ h1.holds;
        rests = λ i lo hi. h4.rests i lo (omega (arith, hi)) ∙ h1.rests i lo hi;
        meets = h4.meets;
      })))))))

  -- ---- Calls

  -- the values of arguments are there
  pub record AllHold (t s : ℕ) (es : CExprs) (v0 : Point) (xs : List Value) (c : State) (w : Way) (v : Point) : Type 0 where
    pub on : w ≡ On
    pub numbers : List ℕ
    pub given : xs ≡ map Num numbers
    pub count : length numbers ≡ count_of es
    pub holds : map v.values (places es t) ≡ map Num numbers
    pub rests : Rests k t v0 v
    pub meets : Meets k s c v

  abbrev AllRight : CExprs → Type 0
  AllRight es = (site t s : ℕ) (c : State) (v : Point) → k ≤ t → Meets k s c v → Sim (AllHold t s es v) (run_all g p call es site c) (run_of (all_code p.structs es t) v)

  none_right : AllRight CExprs.none
  none_right site t s c v le h =
      goes (AllHold t s CExprs.none v) [] c On v (record { on = refl; numbers = []; given = refl; count = refl; holds = refl; rests = λ i lo hi. refl; meets = h })

  more_right : (e : CExpr) (es : CExprs) → Right e → AllRight es → AllRight (CExprs.more e es)
  more_right e es re res site t s c v le h =
      let R = AllHold t s (CExprs.more e es) v in
      one R e site t s c v _ (all_code p.structs es (t + 1)) re le h
      (λ n c1 v1 h1.
      let rest = run_all g p call es (site + sites_of p.structs e) c1 in
      sim_left (AllHold (t + 1) (s + left e) es v1) R rest (run_of (all_code p.structs es (t + 1)) v1) (λ vs. Goes (Num n ∷ vs)) (res (site + sites_of p.structs e) (t + 1) (s + left e) c1 v1 (omega arith) h1.meets)
      (λ vs c2 w v2 l.
      subst (λ z. Sim R (Goes (Num n ∷ vs) c2) (Goes z v2)) (sym l.on)
      (goes R (Num n ∷ vs) c2 On v2 (record {
        on = refl;
        numbers = n ∷ l.numbers;
        given = ap (λ zs. Num n ∷ zs) l.given;
        count = ap (λ z. suc z) l.count ∙ omega arith;
        holds = ap (λ z. z ∷ map v2.values (places es (t + 1))) (l.rests t le (omega arith) ∙ h1.holds) ∙ ap (λ zs. Num n ∷ zs) l.holds;
        rests = λ i lo hi. l.rests i lo (omega (arith, hi)) ∙ h1.rests i lo hi;
        meets = less k (s + left e) s c2 v2 (omega arith) l.meets;
      }))))

  -- the arguments, and then more
  all_then : {A : Type 0} (R : A → State → Way → Point → Type 0) (es : CExprs) (site t s : ℕ) (c : State) (v : Point) (f : List Value → State → Runs A) (ys : Steps) → AllRight es → k ≤ t → Meets k s c v → ((ns : List ℕ) (c1 : State) (v1 : Point) → length ns ≡ count_of es → map v1.values (places es t) ≡ map Num ns → Rests k t v v1 → Meets k s c1 v1 → Sim R (f (map Num ns) c1) (run_of ys v1)) → Sim R (and_then (run_all g p call es site c) f) (run_of (append (all_code p.structs es t) ys) v)
  all_then R es site t s c v f ys r le h go =
      to_equal R (and_then (run_all g p call es site c) f) _ _ (acts_append g watch calling m names (all_code p.structs es t) ys v)
      (sim_then (AllHold t s es v) R (run_all g p call es site c) (run_of (all_code p.structs es t) v) f (λ w. after w (run_of ys)) (r site t s c v le h)
      (λ xs c1 w v1 l. subst (λ z. Sim R (f z c1) (after w (run_of ys) v1)) (sym l.given) (subst (λ z. Sim R (f (map Num l.numbers) c1) (after z (run_of ys) v1)) (sym l.on) (go l.numbers c1 v1 l.count l.holds l.rests l.meets))))

  -- a call of a function of the program
  defined_right : (f : ℕ) (at : Spot) (u : CType) (es : CExprs) → Takes p.functions f (count_of es) → AllRight es → Right (CExpr.expr at u (CForm.Call (named.Defined f) es))
  defined_right f at u es takes res site t s c v le h =
      let R = Lands k t (s + 600) v in
      all_then R es site t (s + 1024) (tick c) v _ (only (Step.Call t f (places es t))) res le (ticked k s c v h)
      (λ ns c1 v1 count holds rests h1.
      to_equal R _ _ _ (only_acts g watch calling m names (Step.Call t f (places es t)) v1)
      (to_equal R _ _ _ (ap (λ xs. and_then (calling f xs (spend 128 v1)) (λ x q. Goes On (set t x q))) holds)
      (sim_then (Returned (s + 896) c1 (spend 128 v1)) R (call f (map Num ns) c1) (calling f (map Num ns) (spend 128 v1)) (λ z. Goes (Of z)) (λ x q. Goes On (set t x q))
      (match f ns (s + 896) c1 (spend 128 v1) (takes.0, takes.1, count ∙ takes.2) h1.world (omega (arith, h1.paid)))
      (λ x c2 y v2 l.
      subst (λ z. Sim R (Goes (Of z) c2) (Goes On (set t y v2))) (sym l.value) (subst (λ z. Sim R (Goes (Of (Num l.number)) c2) (Goes On (set t z v2))) (sym l.result)
      (landed t (s + 600) l.number v c2 (set t (Num l.number) v2) (holds_set k t (s + 600) l.number v c2 v2 le
      (λ i lo hi. ap (λ q. q i) l.unset ∙ rests i lo hi)
      (record {
        world = l.world;
        locals = λ j lt. let a = h1.locals j lt in record { number = a.number; slot = ap (λ q. q j) l.locals ∙ a.slot; value = ap (λ q. q j) l.unset ∙ a.value };
        paid = omega (arith, l.paid);
      }))))))))

  -- what the functions of the library that work on numbers do with any sites
  library_sites : (which : LibCall) (a b line : ℕ) (xs : List Value) (w : World) → is_of_numbers which ≡ true → library g which a b line xs w ≡ library g which 0 0 line xs w
  library_sites lib.Putchar a b line xs w h = refl
  library_sites lib.Getchar a b line xs w h = refl
  library_sites lib.Exit a b line xs w h = refl
  library_sites lib.Malloc a b line xs w h = absurd (true≢false (sym h))
  library_sites lib.Calloc a b line xs w h = absurd (true≢false (sym h))
  library_sites lib.Free a b line xs w h = absurd (true≢false (sym h))
  library_sites lib.Memcpy a b line xs w h = absurd (true≢false (sym h))
  library_sites lib.Memset a b line xs w h = absurd (true≢false (sym h))

  argument_is : (ns : List ℕ) → argument (map Num ns) 0 ≡ Num (slice_index_or ns 0 0)
  argument_is [] = refl
  argument_is (n ∷ ns) = refl

  get_numeral : (w : World) (bytes : List ℕ) → IsNumeral w (get_from bytes w)
  get_numeral w [] = omega arith
  get_numeral w (b ∷ bs) = omega arith

  library_numeral : (which : LibCall) (line : ℕ) (ns : List ℕ) (w : World) → is_of_numbers which ≡ true → IsNumeral w (library g which 0 0 line (map Num ns) w)
  library_numeral lib.Putchar line ns w h = subst (λ z. IsNumeral w (with_number z put w)) (sym (argument_is ns)) (omega arith)
  library_numeral lib.Getchar line ns w h = get_numeral w w.rest
  library_numeral lib.Exit line ns w h = subst (λ z. IsNumeral w (library g lib.Exit 0 0 line (z ∷ []) w)) (sym (argument_is ns)) (omega arith)
  library_numeral lib.Malloc line ns w h = absurd (true≢false (sym h))
  library_numeral lib.Calloc line ns w h = absurd (true≢false (sym h))
  library_numeral lib.Free line ns w h = absurd (true≢false (sym h))
  library_numeral lib.Memcpy line ns w h = absurd (true≢false (sym h))
  library_numeral lib.Memset line ns w h = absurd (true≢false (sym h))

  library_charge_is : (which : LibCall) (t line : ℕ) (args : List ℕ) → is_of_numbers which ≡ true → charge (Step.Library t which args line None None) ≡ 64
  library_charge_is lib.Putchar t line args h = refl
  library_charge_is lib.Getchar t line args h = refl
  library_charge_is lib.Exit t line args h = refl
  library_charge_is lib.Malloc t line args h = refl
  library_charge_is lib.Calloc t line args h = absurd (true≢false (sym h))
  library_charge_is lib.Free t line args h = refl
  library_charge_is lib.Memcpy t line args h = absurd (true≢false (sym h))
  library_charge_is lib.Memset t line args h = absurd (true≢false (sym h))

  library_right : (which : LibCall) → is_of_numbers which ≡ true → (at : Spot) (u : CType) (es : CExprs) → AllRight es → Right (CExpr.expr at u (CForm.Call (named.Library which) es))
  library_right which ok at u es res site t s c v le h =
      let R = Lands k t (s + 600) v in
      let S = site + sites_of_all p.structs es in
      let the_step = Step.Library t which (places es t) at.line None None in
      all_then R es site t (s + 1024) (tick c) v _ (only the_step) res le (ticked k s c v h)
      (λ ns c1 v1 count holds rests h1.
      let F : World → Does Value = library g which 0 0 at.line (map Num ns) in
      from_equal R _ _ (run_of (only the_step) v1) (giving_equal (library g which S (S + 1) at.line (map Num ns)) F c1 (library_sites which S (S + 1) at.line (map Num ns) c1.world ok))
      (setting_then g watch calling m names R k F (λ z. Goes (Of z)) the_step t (s + 600) stop v c1 v1
      (ap (λ xs. setting t (library g which 0 0 at.line xs) (spend (charge the_step) v1)) holds)
      (library_numeral which at.line ns c1.world ok) le rests
      (less k (s + 1024) (s + 600 + charge the_step) c1 v1 (omega (arith, library_charge_is which t at.line (places es t) ok)) h1)
      (λ n c2 v2 h2. landed t (s + 600) n v c2 v2 h2)))

  call_right : (f : Called) (at : Spot) (u : CType) (es : CExprs) → FitsCalled p.functions f (count_of es) → AllRight es → Right (CExpr.expr at u (CForm.Call f es))
  call_right (named.Defined f) at u es fits res = defined_right f at u es fits res
  call_right (named.Library which) at u es fits res = library_right which fits.0 at u es res

  fits_type : (e : CExpr) → Fits p.structs p.functions k e → is_pointer (type_of e) ≡ false
  fits_type (CExpr.expr at u form) fits = fits.0

  binary_right : (o : BinaryOperator) (at : Spot) (u : CType) (a b : CExpr) → is_pointer (type_of a) ≡ false → is_pointer (type_of b) ≡ false → Right a → Right b → Right (CExpr.expr at u (CForm.Binary o a b))
  binary_right op.LogicalAnd at u a b ta tb ra rb = and_right at u a b ra rb
  binary_right op.LogicalOr at u a b ta tb ra rb = or_right at u a b ra rb
  binary_right o at u a b ta tb ra rb = eager_right o refl at u a b ta tb ra rb

  any_assign_right : (o : AssignOperator) (at : Spot) (u : CType) (a b : CExpr) → IsVariable p.structs p.functions k a → is_pointer (type_of b) ≡ false → Right b → Right (CExpr.expr at u (CForm.Assign o a b))
  any_assign_right assign.Assign at u a b var tb rb = assign_right at u a b var rb
  any_assign_right o at u a b var tb rb = compound_right o refl at u a b var tb rb

  mutual
    pub right : (e : CExpr) → Fits p.structs p.functions k e → Right e
    right (CExpr.expr at u (CForm.Local j)) fits site t s c v le h =
        let a = h.locals j fits.1 in
        from_equal (Lands k t (s + 600) v) _ _ (run_of (only (Step.Same t j)) v) (finish_local u j a.number (tick c) a.slot)
        (same_then g watch calling m names (Lands k t (s + 600) v) k (Goes (Of (Num a.number)) (tick c)) t j a.number (s + 600) stop v (tick c) v a.value le (λ i lo hi. refl) (less k (s + 1024) (s + 600 + 8) (tick c) v (omega arith) (ticked k s c v h))
        (λ v1 e1 h1. landed t (s + 600) a.number v (tick c) v1 h1))
    right (CExpr.expr at u (CForm.Number n)) fits site t s c v le h = constant t n (s + 600) v (tick c) v fits.1 le (λ i lo hi. refl) (less k (s + 1024) (s + 600 + 8) (tick c) v (omega arith) (ticked k s c v h))
    right (CExpr.expr at u (CForm.Character n)) fits site t s c v le h = constant t n (s + 600) v (tick c) v fits.1 le (λ i lo hi. refl) (less k (s + 1024) (s + 600 + 8) (tick c) v (omega arith) (ticked k s c v h))
    right (CExpr.expr at u CForm.Eof) fits site t s c v le h = constant t 4294967295 (s + 600) v (tick c) v (omega arith) le (λ i lo hi. refl) (less k (s + 1024) (s + 600 + 8) (tick c) v (omega arith) (ticked k s c v h))
    right (CExpr.expr at u (CForm.SizeofExpression e)) fits site t s c v le h =
        let n = size_of p.structs (type_of e) in
        let e : min n 4294967295 ≡ n = omega (arith, fits.1) in
        to_equal (Lands k t (s + 600) v) (Goes (Of (Num n)) (tick c)) _ _ (ap (λ z. run_of (only (Step.Number t z)) v) e)
        (constant t n (s + 600) v (tick c) v fits.1 le (λ i lo hi. refl) (less k (s + 1024) (s + 600 + 8) (tick c) v (omega arith) (ticked k s c v h)))
    right (CExpr.expr at u (CForm.SizeofType w)) fits site t s c v le h =
        let n = size_of p.structs w in
        let e : min n 4294967295 ≡ n = omega (arith, fits.1) in
        to_equal (Lands k t (s + 600) v) (Goes (Of (Num n)) (tick c)) _ _ (ap (λ z. run_of (only (Step.Number t z)) v) e)
        (constant t n (s + 600) v (tick c) v fits.1 le (λ i lo hi. refl) (less k (s + 1024) (s + 600 + 8) (tick c) v (omega arith) (ticked k s c v h)))
    right (CExpr.expr at u (CForm.Convert conversion.NumberToNumber e)) fits site t s c v le h = convert_right at u e fits.1.1 (right e fits.1.2) site t s c v le h
    right (CExpr.expr at u (CForm.Convert conversion.ArrayToPointer e)) fits site t s c v le h = absurd (true≢false (sym fits.1.0))
    right (CExpr.expr at u (CForm.Convert conversion.NullToPointer e)) fits site t s c v le h = absurd (true≢false (sym fits.1.0))
    right (CExpr.expr at u (CForm.Convert conversion.PointerToPointer e)) fits site t s c v le h = absurd (true≢false (sym fits.1.0))
    right (CExpr.expr at u (CForm.Cast e)) fits site t s c v le h = cast_right at u e fits.1.0 (right e fits.1.1) site t s c v le h
    right (CExpr.expr at u (CForm.Unary o e)) fits site t s c v le h = unary_right o fits.1.0 at u e (right e fits.1.1) site t s c v le h
    right (CExpr.expr at u (CForm.Binary o a b)) fits site t s c v le h = binary_right o at u a b (fits_type a fits.1.0) (fits_type b fits.1.1) (right a fits.1.0) (right b fits.1.1) site t s c v le h
    right (CExpr.expr at u (CForm.Conditional q a b)) fits site t s c v le h = conditional_right at u q a b (right q fits.1.0) (right a fits.1.1) (right b fits.1.2) site t s c v le h
    right (CExpr.expr at u (CForm.Comma a b)) fits site t s c v le h = comma_right at u a b (right a fits.1.0) (right b fits.1.1) site t s c v le h
    right (CExpr.expr at u (CForm.Assign o a b)) fits site t s c v le h = any_assign_right o at u a b fits.1.0 (fits_type b fits.1.1) (right b fits.1.1) site t s c v le h
    right (CExpr.expr at u (CForm.StepBefore o e)) fits site t s c v le h = before_right o at u e fits.0 fits.1 site t s c v le h
    right (CExpr.expr at u (CForm.StepAfter o e)) fits site t s c v le h = after_right o at u e fits.0 fits.1 site t s c v le h
    right (CExpr.expr at u (CForm.Call f es)) fits site t s c v le h = call_right f at u es fits.1.0 (all_right es fits.1.1) site t s c v le h
    right (CExpr.expr at u (CForm.Global n)) fits site t s c v le h = absurd fits.1
    right (CExpr.expr at u (CForm.Text n)) fits site t s c v le h = absurd fits.1
    right (CExpr.expr at u CForm.Null) fits site t s c v le h = absurd fits.1
    right (CExpr.expr at u (CForm.Index a b)) fits site t s c v le h = absurd fits.1
    right (CExpr.expr at u (CForm.Member e x)) fits site t s c v le h = absurd fits.1
    right (CExpr.expr at u (CForm.Arrow e x)) fits site t s c v le h = absurd fits.1

    all_right : (es : CExprs) → AllFit p.structs p.functions k es → AllRight es
    all_right CExprs.none fits site t s c v le h = none_right site t s c v le h
    all_right (CExprs.more e es) fits site t s c v le h = more_right e es (right e fits.0) (all_right es fits.1) site t s c v le h

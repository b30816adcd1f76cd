-- How single steps of mid code run beside the typed tree's run.
use Rattle.std.specs.Prelude.{◌==◌, not, ◌%◌}
use Rattle.std.proofs.Common.{◌≡◌, ℕ, ◌+◌, ◌<◌, ◌≤◌, Bool, true, false, refl, sym, ap, ◌∙◌, subst, arith}
use Rattle.std.proofs.lemmas.Nat.{and_mask}
use Rattle.bb_words.specs.Answers.{Goes, Ends, and_then, either}
use Rattle.bb_words.specs.Steps.{arith as worked}
use Rattle.bb_words.specs.declared.steps.ArithOp.{ArithOp}
use Rattle.bb_words.specs.declared.steps.ArithOp.TheVariants as arith_op
use Rattle.typed_tree.specs.Types.{CType}
use Rattle.source_meaning.specs.declared.values.Value.{Value}
use Rattle.source_meaning.specs.declared.values.Value.TheVariants.{Num, Ptr}
use Rattle.source_meaning.specs.Worlds.{World, Does}
use Rattle.source_meaning.specs.Comparisons.{truth}
use Rattle.typed_tree.specs.Numbers.{fitted}
use Rattle.source_meaning.specs.States.{State, Runs, done_in, doing as does}
use Rattle.std.proofs.lemmas.Bool.{true≢false}
use Rattle.source_meaning.specs.Operators.{cast}
use Rattle.mid_code.specs.Code.{Step, Steps, append}
use Rattle.mid_code.specs.Code.Steps.{stop, step as more}
use Rattle.mid_code.specs.Times.{charge}
use Rattle.mid_code.specs.Meaning.{Point, Goings, Way, On, Out, Back, spend, set, with_value, at_world, done_at, doing, setting, Watch, Names, Calls, after, act, acts}
use Rattle.lowering_code.specs.Lower.{only, fitting, casting}
use Rattle.lowering_keeps.proofs.Sim.{Sim, ends, to_equal}
use Rattle.lowering_keeps.proofs.Meets.{at_world_meets, unchanged_meets, Meets, Rests, Holds, less, spent, holds_set, overs, IsNumeral}
use Rattle.lowering_keeps.proofs.Fits.{is_reckoned}
use Rattle.lowering_keeps.proofs.Operators.{words}

pub append_stop : (xs : Steps) → append xs stop ≡ xs
append_stop stop = refl
append_stop (more x xs) = ap (more x) (append_stop xs)

-- what a value is after a cast
abbrev pub cast_value : CType → ℕ → ℕ
cast_value CType.Void n = 0
cast_value t n = fitted t n

pub cast_is : (t : CType) (n : ℕ) (w : World) → is_reckoned t ≡ true → cast t (Num n) w ≡ Goes (Num (cast_value t n)) w
cast_is CType.Void n w h = refl
cast_is CType.Char n w h = refl
cast_is CType.Int n w h = refl
cast_is CType.Unsigned n w h = refl
cast_is (CType.Struct k) n w h = absurd (true≢false (sym h))
cast_is (CType.Pointer t) n w h = absurd (true≢false (sym h))
cast_is (CType.Array t m) n w h = absurd (true≢false (sym h))

-- an answer that goes on in the same world
pub truth_then : {A : Type 0} (n : ℕ) (c : State) (f : Bool → State → Runs A) → and_then (does (truth (Num n)) c) f ≡ f (not (n == 0)) c
unfolding and_then
truth_then n c f = refl

pub pure_then : {A : Type 0} (n : ℕ) (F : World → Does Value) (c : State) (f : Value → State → Runs A) → F c.world ≡ Goes (Num n) c.world → and_then (does F c) f ≡ f (Num n) c
unfolding and_then
pure_then n F c f e = ap (λ z. and_then (done_in c z) f) e

pub goes_then : {A B : Type 0} (a : A) (c : State) (f : A → State → Runs B) → and_then (Goes a c) f ≡ f a c
unfolding and_then
goes_then a c f = refl

module _ (g : ℕ) (watch : Watch) (calling : Calls) (m : ℕ) (names : Names) where
  abbrev run_of : Steps → Point → Goings Way
  run_of xs = acts g watch calling m names xs

  pub acts_append : (xs ys : Steps) (v : Point) → acts g watch calling m names (append xs ys) v ≡ and_then (acts g watch calling m names xs v) (λ w. after w (acts g watch calling m names ys))
  unfolding and_then
  acts_append stop ys v = refl
  acts_append (more x xs) ys v = from (λ u. acts_append xs ys u) (act g watch calling m names x (spend (charge x) v))
    where
      go : ((u : Point) → run_of (append xs ys) u ≡ and_then (run_of xs u) (λ w. after w (run_of ys))) → (w : Way) (u : Point) → after w (run_of (append xs ys)) u ≡ and_then (after w (run_of xs) u) (λ w2. after w2 (run_of ys))
      go rec On u = rec u
      go rec (Out n) u = refl
      go rec (Back x') u = refl

      from : ((u : Point) → run_of (append xs ys) u ≡ and_then (run_of xs u) (λ w. after w (run_of ys))) → (q : Goings Way) → and_then q (λ w. after w (run_of (append xs ys))) ≡ and_then (and_then q (λ w. after w (run_of xs))) (λ w. after w (run_of ys))
      from rec (Goes w u) = go rec w u
      from rec (Ends e u) = refl

  -- nothing comes after
  pub at_end : (q : Goings Way) → and_then q (λ w. after w (acts g watch calling m names stop)) ≡ q
  unfolding and_then
  at_end (Ends e v) = refl
  at_end (Goes On v) = refl
  at_end (Goes (Out n) v) = refl
  at_end (Goes (Back x) v) = refl

  pub only_acts : (x : Step) (v : Point) → acts g watch calling m names (only x) v ≡ act g watch calling m names x (spend (charge x) v)
  only_acts x v = at_end (act g watch calling m names x (spend (charge x) v))

  number_acts : (t n : ℕ) (xs : Steps) (v : Point) → n < 4294967296 → acts g watch calling m names (more (Step.Number t n) xs) v ≡ acts g watch calling m names xs (set t (Num n) (spend 8 v))
  unfolding and_then
  number_acts t n xs v lt =
      let e : n % 4294967296 ≡ n = omega (arith, lt) in
      ap (λ z. run_of xs (set t (Num z) (spend 8 v))) e

  pub same_acts : (t j n : ℕ) (xs : Steps) (v : Point) → v.values j ≡ Num n → acts g watch calling m names (more (Step.Same t j) xs) v ≡ acts g watch calling m names xs (set t (Num n) (spend 8 v))
  unfolding and_then
  same_acts t j n xs v e = ap (λ z. run_of xs (set t z (spend 8 v))) e

  module _ {A : Type 0} (R : A → State → Way → Point → Type 0) (k : ℕ) where
    pub number_then : (r : Runs A) (t n s : ℕ) (xs : Steps) (v0 : Point) (c : State) (v : Point) → n < 4294967296 → k ≤ t → Rests k t v0 v → Meets k (s + 8) c v → ((v1 : Point) → v1 ≡ set t (Num n) (spend 8 v) → Holds k t s v0 n c v1 → Sim R r (acts g watch calling m names xs v1)) → Sim R r (acts g watch calling m names (more (Step.Number t n) xs) v)
    number_then r t n s xs v0 c v lt le rests h go =
        to_equal R r _ _ (number_acts t n xs v lt)
        (go (set t (Num n) (spend 8 v)) refl (holds_set k t s n v0 c (spend 8 v) le rests (spent 8 k s c v h)))

    pub same_then : (r : Runs A) (t j n s : ℕ) (xs : Steps) (v0 : Point) (c : State) (v : Point) → v.values j ≡ Num n → k ≤ t → Rests k t v0 v → Meets k (s + 8) c v → ((v1 : Point) → v1 ≡ set t (Num n) (spend 8 v) → Holds k t s v0 n c v1 → Sim R r (acts g watch calling m names xs v1)) → Sim R r (acts g watch calling m names (more (Step.Same t j) xs) v)
    same_then r t j n s xs v0 c v e le rests h go =
        to_equal R r _ _ (same_acts t j n xs v e)
        (go (set t (Num n) (spend 8 v)) refl (holds_set k t s n v0 c (spend 8 v) le rests (spent 8 k s c v h)))

    numeral_case : (f : Value → State → Runs A) (t s : ℕ) (xs : Steps) (v0 : Point) (c : State) (u : Point) → k ≤ t → Rests k t v0 u → Meets k s c u → (r : Does Value) → IsNumeral c.world r → ((n : ℕ) (c1 : State) (v1 : Point) → Holds k t s v0 n c1 v1 → Sim R (f (Num n) c1) (acts g watch calling m names xs v1)) → Sim R (and_then (done_in c r) f) (and_then (and_then (done_at u r) (λ y z. Goes On (set t y z))) (λ w. after w (acts g watch calling m names xs)))
    unfolding and_then
    numeral_case f t s xs v0 c u le rests hu (Goes (Num n) w) grows go =
        go n (record c { world = w }) (set t (Num n) (at_world w u)) (holds_set k t s n v0 (record c { world = w }) (at_world w u) le rests (at_world_meets k s c u w hu grows))
    numeral_case f t s xs v0 c u le rests hu (Goes (Ptr q) w) grows go = absurd grows
    numeral_case f t s xs v0 c u le rests hu (Ends e w) grows go =
        ends R e (record c { world = w }) (at_world w u) (overs k s (record c { world = w }) (at_world w u) (at_world_meets k s c u w hu grows))

    -- an operation on the world whose answer value t gets
    pub setting_then : (F : World → Does Value) (f : Value → State → Runs A) (x : Step) (t s : ℕ) (xs : Steps) (v0 : Point) (c : State) (v : Point) → act g watch calling m names x (spend (charge x) v) ≡ setting t F (spend (charge x) v) → IsNumeral c.world (F c.world) → k ≤ t → Rests k t v0 v → Meets k (s + charge x) c v → ((n : ℕ) (c1 : State) (v1 : Point) → Holds k t s v0 n c1 v1 → Sim R (f (Num n) c1) (acts g watch calling m names xs v1)) → Sim R (and_then (does F c) f) (acts g watch calling m names (more x xs) v)
    setting_then F f x t s xs v0 c v e numeral le rests h go =
        let u : Point = spend (charge x) v in
        let hu : Meets k s c u = spent (charge x) k s c v h in
        let same : F u.world ≡ F c.world = ap F hu.world in
        to_equal R (and_then (does F c) f) _ _ (ap (λ q. and_then q (λ w. after w (run_of xs))) e)
        (subst (λ q. Sim R (and_then (does F c) f) (and_then (and_then (done_at u q) (λ y z. Goes On (set t y z))) (λ w. after w (run_of xs)))) (sym same)
        (numeral_case f t s xs v0 c u le rests hu (F c.world) numeral go))

    -- one that answers at once
    pub pure_step : (r : Runs A) (x : Step) (n t s : ℕ) (xs : Steps) (v0 : Point) (c : State) (v : Point) → act g watch calling m names x (spend (charge x) v) ≡ setting t (λ w. Goes (Num n) w) (spend (charge x) v) → k ≤ t → Rests k t v0 v → Meets k (s + charge x) c v → ((v1 : Point) → v1.values ≡ with_value v.values t (Num n) → Holds k t s v0 n c v1 → Sim R r (acts g watch calling m names xs v1)) → Sim R r (acts g watch calling m names (more x xs) v)
    unfolding and_then
    pure_step r x n t s xs v0 c v e le rests h go =
        let u : Point = spend (charge x) v in
        to_equal R r _ _ (ap (λ q. and_then q (λ w. after w (run_of xs))) e)
        (go (set t (Num n) (at_world u.world u)) refl (holds_set k t s n v0 c (at_world u.world u) le rests (unchanged_meets k s c u (spent (charge x) k s c v h))))

    -- a choice
    pub if_then : (r1 r2 : State → Runs A) (n t s : ℕ) (xs ys zs : Steps) (c : State) (v : Point) → v.values t ≡ Num n → Meets k (s + 16) c v → ((b : Bool) (v1 : Point) → v1.values ≡ v.values → Meets k s c v1 → Sim R (either b r1 r2 c) (and_then (either b (acts g watch calling m names xs) (acts g watch calling m names ys) v1) (λ w. after w (acts g watch calling m names zs)))) → Sim R (either (not (n == 0)) r1 r2 c) (acts g watch calling m names (more (Step.If t xs ys) zs) v)
    unfolding and_then
    if_then r1 r2 n t s xs ys zs c v e h go =
        let u : Point = spend 16 v in
        to_equal R (either (not (n == 0)) r1 r2 c) _ _ (ap (λ z. and_then (and_then (doing (truth z) u) (λ b. either b (run_of xs) (run_of ys))) (λ w. after w (run_of zs))) e)
        (go (not (n == 0)) (at_world u.world u) refl (unchanged_meets k s c u (spent 16 k s c v h)))

    -- the same with nothing behind it
    pub if_only : (r1 r2 : State → Runs A) (n t s : ℕ) (xs ys : Steps) (c : State) (v : Point) → v.values t ≡ Num n → Meets k (s + 16) c v → ((v1 : Point) → v1.values ≡ v.values → Meets k s c v1 → Sim R (r1 c) (acts g watch calling m names xs v1)) → ((v1 : Point) → v1.values ≡ v.values → Meets k s c v1 → Sim R (r2 c) (acts g watch calling m names ys v1)) → Sim R (either (not (n == 0)) r1 r2 c) (acts g watch calling m names (only (Step.If t xs ys)) v)
    if_only r1 r2 n t s xs ys c v e h when_true when_false =
        if_then r1 r2 n t s xs ys stop c v e h (λ b v1 ev h1. to_equal R (either b r1 r2 c) _ _ (at_end (either b (run_of xs) (run_of ys) v1)) (of b v1 ev h1))
      where
        of : (b : Bool) (v1 : Point) → v1.values ≡ v.values → Meets k s c v1 → Sim R (either b r1 r2 c) (either b (run_of xs) (run_of ys) v1)
        of true v1 ev h1 = when_true v1 ev h1
        of false v1 ev h1 = when_false v1 ev h1

    -- an operation on two numbers
    pub arith_then : (r : Runs A) (o : ArithOp) (t a b x y n s : ℕ) (xs : Steps) (v0 : Point) (c : State) (v : Point) → v.values a ≡ Num x → v.values b ≡ Num y → worked o x y ≡ n → k ≤ t → Rests k t v0 v → Meets k (s + 16) c v → ((v1 : Point) → v1.values ≡ with_value v.values t (Num n) → Holds k t s v0 n c v1 → Sim R r (acts g watch calling m names xs v1)) → Sim R r (acts g watch calling m names (more (Step.Arith t o a b) xs) v)
    arith_then r o t a b x y n s xs v0 c v ea eb en le rests h go =
        pure_step r (Step.Arith t o a b) n t s xs v0 c v
        (words (λ i j. Goes (Num (worked o i j))) (v.values a) (v.values b) x y t (spend 16 v) ea eb ∙ ap (λ z. setting t (λ w. Goes (Num z) w) (spend 16 v)) en)
        le rests h go

    lighter : (n t s : ℕ) (v0 : Point) (c : State) (v : Point) → Holds k t (s + 24) v0 n c v → Holds k t s v0 n c v
    lighter n t s v0 c v h = record { holds = h.holds; rests = h.rests; meets = less k (s + 24) s c v (omega arith) h.meets }

    -- a value is given to a type
    pub fit_then : (r : Runs A) (u : CType) (n t s : ℕ) (xs : Steps) (v0 : Point) (c : State) (v : Point) → k ≤ t → Holds k t (s + 24) v0 n c v → ((v1 : Point) → Holds k t s v0 (fitted u n) c v1 → Sim R r (acts g watch calling m names xs v1)) → Sim R r (acts g watch calling m names (append (fitting u t) xs) v)
    fit_then r CType.Void n t s xs v0 c v le h go = go v (lighter n t s v0 c v h)
    fit_then r CType.Int n t s xs v0 c v le h go = go v (lighter n t s v0 c v h)
    fit_then r CType.Unsigned n t s xs v0 c v le h go = go v (lighter n t s v0 c v h)
    fit_then r (CType.Struct j) n t s xs v0 c v le h go = go v (lighter n t s v0 c v h)
    fit_then r (CType.Pointer w) n t s xs v0 c v le h go = go v (lighter n t s v0 c v h)
    fit_then r (CType.Array w j) n t s xs v0 c v le h go = go v (lighter n t s v0 c v h)
    fit_then r CType.Char n t s xs v0 c v le h go =
        number_then r (t + 1) 255 (s + 16) (more (Step.Arith t arith_op.And t (t + 1)) xs) v c v (omega arith) (omega arith) (λ i lo hi. refl) (less k (s + 24) (s + 16 + 8) c v (omega arith) h.meets)
        (λ v1 e1 h1. arith_then r arith_op.And t t (t + 1) n 255 (n % 256) s xs v0 c v1 (h1.rests t le (omega arith) ∙ h.holds) h1.holds (and_mask n 8) le
        (λ i lo hi. h1.rests i lo (omega (arith, hi)) ∙ h.rests i lo hi) h1.meets (λ v2 e2 h2. go v2 h2))

    -- a value is cast
    pub cast_then : (r : Runs A) (u : CType) (n t s : ℕ) (xs : Steps) (v0 : Point) (c : State) (v : Point) → k ≤ t → Holds k t (s + 24) v0 n c v → ((v1 : Point) → Holds k t s v0 (cast_value u n) c v1 → Sim R r (acts g watch calling m names xs v1)) → Sim R r (acts g watch calling m names (append (casting u t) xs) v)
    cast_then r CType.Void n t s xs v0 c v le h go =
        number_then r t 0 s xs v0 c v (omega arith) le h.rests (less k (s + 24) (s + 8) c v (omega arith) h.meets) (λ v1 e1 h1. go v1 h1)
    cast_then r CType.Char n t s xs v0 c v le h go = fit_then r CType.Char n t s xs v0 c v le h go
    cast_then r CType.Int n t s xs v0 c v le h go = fit_then r CType.Int n t s xs v0 c v le h go
    cast_then r CType.Unsigned n t s xs v0 c v le h go = fit_then r CType.Unsigned n t s xs v0 c v le h go
    cast_then r (CType.Struct j) n t s xs v0 c v le h go = fit_then r (CType.Struct j) n t s xs v0 c v le h go
    cast_then r (CType.Pointer w) n t s xs v0 c v le h go = fit_then r (CType.Pointer w) n t s xs v0 c v le h go
    cast_then r (CType.Array w j) n t s xs v0 c v le h go = fit_then r (CType.Array w j) n t s xs v0 c v le h go

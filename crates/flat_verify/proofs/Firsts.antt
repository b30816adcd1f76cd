-- The first demand that is not met is the first break.
use Rattle.std.proofs.Common.{◌≡◌, ◌<◌, ◌≤◌, ◌⊎◌, ℕ, suc, List, [], ◌∷◌, inl, inr, Option, Some, None, Bool, true, false, not, refl, sym, ap, ◌∙◌, subst, cond, arith, length, nat_lt, true≢false}
use Rattle.std.specs.Prelude.{slice_get, ◌||◌}
use Rattle.std.proofs.lemmas.Option.{slice_get_past}
use Rattle.std.proofs.lemmas.Bool.Decides.{nat_tests}
use Rattle.size_table.specs.Blocks.{Block}
use Rattle.flat_code.specs.Code.{FFunction, FCode}
use Rattle.flat_discipline.specs.Items.{items_of}
use Rattle.flat_discipline.specs.Facts.{Fact, Setting}
use Rattle.flat_discipline.specs.Closed.{Known}
use Rattle.flat_verify.specs.Links.{Demand, AnyLost, IsUnmet, UnmetAt}
use Rattle.flat_discipline.specs.Discipline.{StepIndex, Before, FirstBad, BreaksBy, setting}
use Rattle.flat_discipline.specs.Laws.{BreaksByTable}
use Rattle.flat_verify.specs.Verdict.{function_demands, any_unknown, is_unmet, lower, first_unmet, FirstOf}
use Rattle.flat_verify.proofs.Links.{breaks_unmet, unmet_breaks}

-- ---- Firsts

pub first_map : (B C : ℕ → Type 0) (o : Option ℕ) → ((q : ℕ) → B q → C q) → ((q : ℕ) → C q → B q) → FirstOf B o → FirstOf C o
first_map B C None to from f = λ q c. f q (from q c)
first_map B C (Some a) to from f = (to a f.0, λ q l c. f.1 q l (from q c))

-- one more number that is bad
first_lower : (B : ℕ → Type 0) (found : Option ℕ) (p : ℕ) → FirstOf B found → FirstOf (λ q. B q ⊎ (q ≡ p)) (lower found p)
first_lower B None p f = (inr refl, λ q l. by q l)
  where
    by : (q : ℕ) → q < p → B q ⊎ (q ≡ p) → ⊥
    by q l (inl b) = f q b
    by q l (inr e) = omega (arith, l, e)
first_lower B (Some a) p f = by (nat_lt p a) refl
  where
    before : (q : ℕ) → q < p → q < a → B q ⊎ (q ≡ p) → ⊥
    before q l m (inl b) = f.1 q m b
    before q l m (inr e) = omega (arith, l, e)

    below : p < a → FirstOf (λ q. B q ⊎ (q ≡ p)) (Some p)
    below l = (inr refl, λ q m. before q m (omega (arith, l, m)))

    from : nat_lt p a ≡ true → p < a
    from e = grind (arith, nat_tests)

    from_no : nat_lt p a ≡ false → a ≤ p
    from_no e = grind (arith, nat_tests)

    by : (b : Bool) → nat_lt p a ≡ b → FirstOf (λ q. B q ⊎ (q ≡ p)) (cond b (Some p) (Some a))
    by true e = below (from e)
    by false e = (inl f.0, λ q l. before q (omega (arith, l, from_no e)) l)

module _ (T : ℕ → Known) where
  abbrev pub LostBy : ℕ → Fact → Type 0
  LostBy p x = T p x ≡ false

  lost_any : (at : ℕ) (xs : List Fact) → any_unknown (T at) xs ≡ true → AnyLost LostBy at xs
  lost_any at [] e = absurd (true≢false (sym e))
  lost_any at (x ∷ xs) e = by (T at x) refl e (lost_any at xs)
    where
      by : (b : Bool) → T at x ≡ b → (not b || any_unknown (T at) xs) ≡ true → (any_unknown (T at) xs ≡ true → AnyLost LostBy at xs) → AnyLost LostBy at (x ∷ xs)
      by true k e more = inr (more e)
      by false k e more = inl k

  any_lost : (at : ℕ) (xs : List Fact) → AnyLost LostBy at xs → any_unknown (T at) xs ≡ true
  any_lost at [] l = absurd l
  any_lost at (x ∷ xs) (inl l) = ap (λ b. not b || any_unknown (T at) xs) l
  any_lost at (x ∷ xs) (inr l) = by (not (T at x)) (any_lost at xs l)
    where
      by : (b : Bool) → any_unknown (T at) xs ≡ true → (b || any_unknown (T at) xs) ≡ true
      by true e = refl
      by false e = e

  unmet_is : (d : Demand) → is_unmet T d ≡ true → IsUnmet LostBy d
  unmet_is d e = by d.fits refl e
    where
      by : (b : Bool) → d.fits ≡ b → (not b || any_unknown (T d.at) d.facts) ≡ true → IsUnmet LostBy d
      by true k e = inr (lost_any d.at d.facts e)
      by false k e = inl k

  is_unmet_by : (d : Demand) → IsUnmet LostBy d → is_unmet T d ≡ true
  is_unmet_by d (inl e) = ap (λ b. not b || any_unknown (T d.at) d.facts) e
  is_unmet_by d (inr l) = by (not d.fits)
    where
      by : (b : Bool) → (b || any_unknown (T d.at) d.facts) ≡ true
      by true = refl
      by false = any_lost d.at d.facts l

  -- the answer of one pass over the demands
  pub first_of : (B : ℕ → Type 0) (found : Option ℕ) (ds : List Demand) → FirstOf B found → FirstOf (λ q. B q ⊎ UnmetAt LostBy ds q) (first_unmet T found ds)
  first_of B found [] f = first_map B (λ q. B q ⊎ ⊥) found (λ q b. inl b) (λ q c. none q c) f
    where
      none : (q : ℕ) → B q ⊎ ⊥ → B q
      none q (inl b) = b
      none q (inr e) = absurd e
  first_of B found (d ∷ ds) f = by (is_unmet T d) refl (first_of (λ q. B q ⊎ (q ≡ d.place)) (lower found d.place) ds) (first_of B found ds)
    where
      Both : ℕ → Type 0
      Both = λ q. B q ⊎ (((q ≡ d.place) × IsUnmet LostBy d) ⊎ UnmetAt LostBy ds q)

      to : (q : ℕ) → is_unmet T d ≡ true → (B q ⊎ (q ≡ d.place)) ⊎ UnmetAt LostBy ds q → B q ⊎ (((q ≡ d.place) × IsUnmet LostBy d) ⊎ UnmetAt LostBy ds q)
      to q e (inl (inl b)) = inl b
      to q e (inl (inr p)) = inr (inl (p, unmet_is d e))
      to q e (inr u) = inr (inr u)

      from : (q : ℕ) → B q ⊎ (((q ≡ d.place) × IsUnmet LostBy d) ⊎ UnmetAt LostBy ds q) → (B q ⊎ (q ≡ d.place)) ⊎ UnmetAt LostBy ds q
      from q (inl b) = inl (inl b)
      from q (inr (inl p)) = inl (inr p.0)
      from q (inr (inr u)) = inr u

      met : (q : ℕ) → is_unmet T d ≡ false → B q ⊎ (((q ≡ d.place) × IsUnmet LostBy d) ⊎ UnmetAt LostBy ds q) → B q ⊎ UnmetAt LostBy ds q
      met q e (inl b) = inl b
      met q e (inr (inl p)) = absurd (true≢false (sym (is_unmet_by d p.1) ∙ e))
      met q e (inr (inr u)) = inr u

      back : (q : ℕ) → B q ⊎ UnmetAt LostBy ds q → B q ⊎ (((q ≡ d.place) × IsUnmet LostBy d) ⊎ UnmetAt LostBy ds q)
      back q (inl b) = inl b
      back q (inr u) = inr (inr u)

      by : (b : Bool) → is_unmet T d ≡ b → (FirstOf (λ q. B q ⊎ (q ≡ d.place)) (lower found d.place) → FirstOf (λ q. (B q ⊎ (q ≡ d.place)) ⊎ UnmetAt LostBy ds q) (first_unmet T (lower found d.place) ds)) → (FirstOf B found → FirstOf (λ q. B q ⊎ UnmetAt LostBy ds q) (first_unmet T found ds))
          → FirstOf (λ q. B q ⊎ (((q ≡ d.place) × IsUnmet LostBy d) ⊎ UnmetAt LostBy ds q)) (first_unmet T (cond b (lower found d.place) found) ds)
      by true e yes_ no_ = first_map (λ q. (B q ⊎ (q ≡ d.place)) ⊎ UnmetAt LostBy ds q) (λ q. B q ⊎ (((q ≡ d.place) × IsUnmet LostBy d) ⊎ UnmetAt LostBy ds q)) (first_unmet T (lower found d.place) ds) (λ q. to q e) from (yes_ (first_lower B found d.place f))
      by false e yes_ no_ = first_map (λ q. B q ⊎ UnmetAt LostBy ds q) (λ q. B q ⊎ (((q ≡ d.place) × IsUnmet LostBy d) ⊎ UnmetAt LostBy ds q)) (first_unmet T found ds) back (λ q. met q e) (no_ f)

-- ---- Functions

module _ (g : ℕ) (globals : List Block) (code : FCode) (T : ℕ → ℕ → Known) where
  abbrev S : ℕ → Setting
  S = setting g globals code.functions

  -- the first break of a function
  pub function_first : (f : ℕ) (fn : FFunction) → slice_get code.functions f ≡ Some fn → FirstOf (BreaksByTable g globals code T f) (first_unmet (T f) None (function_demands g (S f) code.main f fn))
  function_first f fn at =
      first_map (λ q. ⊥ ⊎ UnmetAt (LostBy (T f)) (function_demands g (S f) code.main f fn) q) (BreaksByTable g globals code T f) (first_unmet (T f) None (function_demands g (S f) code.main f fn))
      (λ q u. subst (λ o. BreaksBy g (S f) (LostBy (T f)) code.main f o q) (sym at) (to q u)) (λ q b. inr (from q (subst (λ o. BreaksBy g (S f) (LostBy (T f)) code.main f o q) at b)))
      (first_of (T f) (λ q. ⊥) None (function_demands g (S f) code.main f fn) (λ q b. b))
    where
      to : (q : ℕ) → ⊥ ⊎ UnmetAt (LostBy (T f)) (function_demands g (S f) code.main f fn) q → BreaksBy g (S f) (LostBy (T f)) code.main f (Some fn) q
      to q (inl e) = absurd e
      to q (inr (inl (p, inl e))) = inl (p, e)
      to q (inr (inl (p, inr e))) = absurd e
      to q (inr (inr u)) = inr (unmet_breaks (LostBy (T f)) (S f) g 0 (items_of g fn.body) 0 q u)

      from : (q : ℕ) → BreaksBy g (S f) (LostBy (T f)) code.main f (Some fn) q → UnmetAt (LostBy (T f)) (function_demands g (S f) code.main f fn) q
      from q (inl (p, e)) = inl (p, inl e)
      from q (inr b) = inr (breaks_unmet (LostBy (T f)) (S f) g 0 (items_of g fn.body) 0 q b)

  -- the functions before n have no break
  abbrev pub NoneBefore : ℕ → Type 0
  NoneBefore n = (f q : ℕ) → f < n → BreaksByTable g globals code T f q → ⊥

  pub one_further : (n : ℕ) (fn : FFunction) → NoneBefore n → slice_get code.functions n ≡ Some fn → first_unmet (T n) None (function_demands g (S n) code.main n fn) ≡ None → NoneBefore (suc n)
  one_further n fn none at is f q l b = by (last f n l)
    where
      last : (f n : ℕ) → f < suc n → (f < n) ⊎ (f ≡ n)
      last f n l = grind arith

      by : (f < n) ⊎ (f ≡ n) → ⊥
      by (inl m) = none f q m b
      by (inr e) = subst (FirstOf (BreaksByTable g globals code T n)) is (function_first n fn at) q (subst (λ i. BreaksByTable g globals code T i q) e b)

  pub found_first : (n a : ℕ) (fn : FFunction) → NoneBefore n → slice_get code.functions n ≡ Some fn → first_unmet (T n) None (function_demands g (S n) code.main n fn) ≡ Some a → FirstBad (BreaksByTable g globals code T) (Some record { function = n; place = a })
  found_first n a fn none at is =
      let first = subst (FirstOf (BreaksByTable g globals code T n)) is (function_first n fn at) in
      (first.0, λ b before bad. by b before bad first.1)
    where
      by : (b : StepIndex) → Before b record { function = n; place = a } → BreaksByTable g globals code T b.function b.place → ((q : ℕ) → q < a → BreaksByTable g globals code T n q → ⊥) → ⊥
      by b (inl l) bad more = none b.function b.place l bad
      by b (inr (e, l)) bad more = more b.place l (subst (λ i. BreaksByTable g globals code T i b.place) e bad)

  no_function : (f : ℕ) → length code.functions ≤ f → slice_get code.functions f ≡ None
  no_function f l = slice_get_past code.functions f l

  -- past the functions only a missing first function breaks it
  past_is : (f q : ℕ) → length code.functions ≤ f → BreaksByTable g globals code T f q → (f ≡ code.main) × (q ≡ 0)
  past_is f q l b = subst (λ o. BreaksBy g (S f) (LostBy (T f)) code.main f o q) (no_function f l) b

  pub no_main : NoneBefore (length code.functions) → length code.functions ≤ code.main → FirstBad (BreaksByTable g globals code T) (Some record { function = code.main; place = 0 })
  no_main none l = (subst (λ o. BreaksBy g (S code.main) (LostBy (T code.main)) code.main code.main o 0) (sym (no_function code.main l)) (refl, refl), λ b before bad. by b before bad (side b.function (length code.functions)))
    where
      side : (f n : ℕ) → (f < n) ⊎ (n ≤ f)
      side f n = grind arith

      by : (b : StepIndex) → Before b record { function = code.main; place = 0 } → BreaksByTable g globals code T b.function b.place → (b.function < length code.functions) ⊎ (length code.functions ≤ b.function) → ⊥
      by b before bad (inl m) = none b.function b.place m bad
      by b (inl less) bad (inr m) = omega (arith, less, (past_is b.function b.place m bad).0)
      by b (inr (e, less)) bad (inr m) = omega (arith, less)

  pub none_bad : NoneBefore (length code.functions) → code.main < length code.functions → FirstBad (BreaksByTable g globals code T) None
  none_bad none l f q bad = by (side f (length code.functions))
    where
      side : (f n : ℕ) → (f < n) ⊎ (n ≤ f)
      side f n = grind arith

      by : (f < length code.functions) ⊎ (length code.functions ≤ f) → ⊥
      by (inl m) = none f q m bad
      by (inr m) = omega (arith, (past_is f q m bad).0, m, l)

-- The table of what a derivation knows at each place, and that it is closed.
use Rattle.std.proofs.Common.{◌≡◌, ℕ, zero, suc, ◌+◌, ◌<◌, ◌≤◌, List, [], ◌∷◌, Option, Some, None, Bool, true, false, refl, sym, ap, ◌∙◌, subst, cond, arith, nat_lt, true≢false}
use Rattle.std.specs.Prelude.{slice_get, ◌==◌, ◌&&◌}
use Rattle.std.proofs.lemmas.Bool.Decides.{nat_tests}
use Rattle.flat_code.specs.Code.{FStep}
use Rattle.flat_code.specs.Recognized.{Sequence}
use Rattle.flat_discipline.specs.Items.{Item, Items, places, all_places, first_place}
use Rattle.flat_discipline.specs.Facts.{Fact, Setting, Here, untold, branch, here_after}
use Rattle.flat_discipline.specs.Chains.{Leading, leading, leads}
use Rattle.flat_discipline.specs.Closed.{Known, Covers, known_after, Each, EachAll}
use Rattle.flat_discipline.specs.Derivations.{Signs, implied, passes_known, hands, Leads, Good, Goods, at_start}

-- ---- Edges of a closed table

-- what is known at a next place is known
abbrev pub LeadsTo : (ℕ → Known) → Option ℕ → Known → Type 0
LeadsTo T None K = Unit {0}
LeadsTo T (Some q) K = Covers (T q) K

-- what is known of parameters and results is known of arguments and returned values
abbrev pub HandsOver : Setting → (gives : Bool) → (starts : ℕ → Known) → FStep → Known → Type 0
HandsOver s gives starts (FStep.Call to g args) K =
    (k v params : ℕ) → slice_get args k ≡ Some v → s.params_of g ≡ Some params → k < params → starts g (Fact.Clean k) ≡ true → K (Fact.Clean v) ≡ true
HandsOver s gives starts (FStep.Return from) K = gives ≡ true → K (Fact.Clean from) ≡ true
HandsOver s gives starts x K = Unit {0}

abbrev pub ItemHands : Setting → (gives : Bool) → (starts : ℕ → Known) → Item → Known → Type 0
ItemHands s gives starts (Item.Plain x) K = HandsOver s gives starts x K
ItemHands s gives starts i K = Unit {0}

pub record Passes (s : Setting) (gives : ℕ → Bool) (f : ℕ) (starts : ℕ → Known) (T : ℕ → Known) (h : Here) (i : Item) (a : ℕ) (b : Option ℕ) : Type 0 where
  pub covers : LeadsTo T b (known_after s gives h i (T a))
  pub handed : ItemHands s (gives f) starts i (T a)

abbrev pub nothing : Known
nothing x = false

-- ---- Tests

pub yes_lt : (a b : ℕ) → a < b → nat_lt a b ≡ true
yes_lt a b h = grind (arith, nat_tests)

pub no_lt : (a b : ℕ) → b ≤ a → nat_lt a b ≡ false
no_lt a b h = grind (arith, nat_tests)

pub yes_eq : (a b : ℕ) → a ≡ b → (a == b) ≡ true
yes_eq a b h = grind (arith, nat_tests)

pub no_eq : (a b : ℕ) → b < a → (a == b) ≡ false
no_eq a b h = grind (arith, nat_tests)

pub some_places : (gg : ℕ) (i : Item) → 1 ≤ places gg i
some_places gg (Item.Plain s) = omega arith
some_places gg (Item.Checks (Sequence.Move p d q line s e)) = omega arith
some_places gg (Item.Checks (Sequence.Load w at line s e)) = omega arith
some_places gg (Item.Checks (Sequence.Span p n q line d s e)) = omega arith
some_places gg (Item.If c a b) = omega arith
some_places gg (Item.Block a) = omega arith
some_places gg (Item.Loop a) = omega arith
some_places gg (Item.Inner a) = omega arith

module _ (gg : ℕ) (s : Setting) (sg : Signs) (gives : Bool) where
  -- what is known at an item: at a loop, what is known at its head
  abbrev pub head : (E : List Known) (h : Here) (K : Known) (i : Item) (N : Known) → Good gg s sg gives E h K i N → Known
  head E h K (Item.Plain x) N d = K
  head E h K (Item.Checks x) N d = K
  head E h K (Item.If c a b) N d = K
  head E h K (Item.Block a) N d = K
  head E h K (Item.Loop a) N d = d.0
  head E h K (Item.Inner a) N d = d.0

  -- a table is that of a derivation
  abbrev mutual
    pub FitsIn : (T : ℕ → Known) (i : Item) (E : List Known) (h : Here) (K N : Known) → Good gg s sg gives E h K i N → ℕ → Type 0
    FitsIn T (Item.Plain x) E h K N d p = Unit {0}
    FitsIn T (Item.Checks x) E h K N d p = Unit {0}
    FitsIn T (Item.If c a b) E h K N d p = FitsAll T a E (branch h c) K N d.2 (p + 1) × FitsAll T b E untold K N d.3 (p + 1 + all_places gg a)
    FitsIn T (Item.Block a) E h K N d p = FitsAll T a (N ∷ E) untold K N d (p + 1)
    FitsIn T (Item.Loop a) E h K N d p = FitsAll T a (N ∷ E) untold d.0 d.0 d.2 (p + 1)
    FitsIn T (Item.Inner a) E h K N d p = FitsAll T a (N ∷ E) untold d.0 d.0 d.2 (p + 1)

    pub FitsAll : (T : ℕ → Known) (is : Items) (E : List Known) (h : Here) (K M : Known) → Goods gg s sg gives E h K is M → ℕ → Type 0
    FitsAll T Items.end E h K M d p = Unit {0}
    FitsAll T (Items.next i rest) E h K M d p = (T p ≡ head E h K i d.0 d.1) × FitsIn T i E h K d.0 d.1 p × FitsAll T rest E (here_after i h) d.0 M d.2 (p + places gg i)

  -- tables that agree at the items' places
  mutual
    pub agree_in : (T T' : ℕ → Known) (i : Item) (E : List Known) (h : Here) (K N : Known) (d : Good gg s sg gives E h K i N) (p : ℕ) → ((q : ℕ) → p < q → q < p + places gg i → T' q ≡ T q) → FitsIn T i E h K N d p → FitsIn T' i E h K N d p
    agree_in T T' (Item.Plain x) E h K N d p same f = tt
    agree_in T T' (Item.Checks x) E h K N d p same f = tt
    agree_in T T' (Item.If c a b) E h K N d p same f = (
      agree_all T T' a E (branch h c) K N d.2 (p + 1) (λ q lo hi. same q (omega (arith, lo)) (omega (arith, hi))) f.0,
      agree_all T T' b E untold K N d.3 (p + 1 + all_places gg a) (λ q lo hi. same q (omega (arith, lo)) (omega (arith, hi))) f.1,
    )
    agree_in T T' (Item.Block a) E h K N d p same f = agree_all T T' a (N ∷ E) untold K N d (p + 1) (λ q lo hi. same q (omega (arith, lo)) (omega (arith, hi))) f
    agree_in T T' (Item.Loop a) E h K N d p same f = agree_all T T' a (N ∷ E) untold d.0 d.0 d.2 (p + 1) (λ q lo hi. same q (omega (arith, lo)) (omega (arith, hi))) f
    agree_in T T' (Item.Inner a) E h K N d p same f = agree_all T T' a (N ∷ E) untold d.0 d.0 d.2 (p + 1) (λ q lo hi. same q (omega (arith, lo)) (omega (arith, hi))) f

    pub agree_all : (T T' : ℕ → Known) (is : Items) (E : List Known) (h : Here) (K M : Known) (d : Goods gg s sg gives E h K is M) (p : ℕ) → ((q : ℕ) → p ≤ q → q < p + all_places gg is → T' q ≡ T q) → FitsAll T is E h K M d p → FitsAll T' is E h K M d p
    agree_all T T' Items.end E h K M d p same f = tt
    agree_all T T' (Items.next i rest) E h K M d p same f =
        let some : 1 ≤ places gg i = some_places gg i in (
          same p (omega arith) (omega (arith, some)) ∙ f.0,
          agree_in T T' i E h K d.0 d.1 p (λ q lo hi. same q (omega (arith, lo)) (omega (arith, hi))) f.1,
          agree_all T T' rest E (here_after i h) d.0 M d.2 (p + places gg i) (λ q lo hi. same q (omega (arith, lo)) (omega (arith, hi))) f.2,
        )

  -- the table
  abbrev mutual
    pub table_in : (i : Item) (E : List Known) (h : Here) (K N : Known) → Good gg s sg gives E h K i N → ℕ → ℕ → Known
    table_in (Item.Plain x) E h K N d p q = nothing
    table_in (Item.Checks x) E h K N d p q = nothing
    table_in (Item.If c a b) E h K N d p q = cond (nat_lt q (p + 1 + all_places gg a)) (table a E (branch h c) K N d.2 (p + 1) q) (table b E untold K N d.3 (p + 1 + all_places gg a) q)
    table_in (Item.Block a) E h K N d p q = table a (N ∷ E) untold K N d (p + 1) q
    table_in (Item.Loop a) E h K N d p q = table a (N ∷ E) untold d.0 d.0 d.2 (p + 1) q
    table_in (Item.Inner a) E h K N d p q = table a (N ∷ E) untold d.0 d.0 d.2 (p + 1) q

    pub table : (is : Items) (E : List Known) (h : Here) (K M : Known) → Goods gg s sg gives E h K is M → ℕ → ℕ → Known
    table Items.end E h K M d p q = nothing
    table (Items.next i rest) E h K M d p q = cond (q == p) (head E h K i d.0 d.1) (cond (nat_lt q (p + places gg i)) (table_in i E h K d.0 d.1 p q) (table rest E (here_after i h) d.0 M d.2 (p + places gg i) q))

  mutual
    pub fits_in : (i : Item) (E : List Known) (h : Here) (K N : Known) (d : Good gg s sg gives E h K i N) (p : ℕ) → FitsIn (table_in i E h K N d p) i E h K N d p
    fits_in (Item.Plain x) E h K N d p = tt
    fits_in (Item.Checks x) E h K N d p = tt
    fits_in (Item.If c a b) E h K N d p =
        let one : ℕ → Known = table a E (branch h c) K N d.2 (p + 1) in
        let two : ℕ → Known = table b E untold K N d.3 (p + 1 + all_places gg a) in (
          agree_all one (table_in (Item.If c a b) E h K N d p) a E (branch h c) K N d.2 (p + 1) (λ q lo hi. ap (λ t. cond t (one q) (two q)) (yes_lt q (p + 1 + all_places gg a) hi)) (fits_all a E (branch h c) K N d.2 (p + 1)),
          agree_all two (table_in (Item.If c a b) E h K N d p) b E untold K N d.3 (p + 1 + all_places gg a) (λ q lo hi. ap (λ t. cond t (one q) (two q)) (no_lt q (p + 1 + all_places gg a) lo)) (fits_all b E untold K N d.3 (p + 1 + all_places gg a)),
        )
    fits_in (Item.Block a) E h K N d p = fits_all a (N ∷ E) untold K N d (p + 1)
    fits_in (Item.Loop a) E h K N d p = fits_all a (N ∷ E) untold d.0 d.0 d.2 (p + 1)
    fits_in (Item.Inner a) E h K N d p = fits_all a (N ∷ E) untold d.0 d.0 d.2 (p + 1)

    pub fits_all : (is : Items) (E : List Known) (h : Here) (K M : Known) (d : Goods gg s sg gives E h K is M) (p : ℕ) → FitsAll (table is E h K M d p) is E h K M d p
    fits_all Items.end E h K M d p = tt
    fits_all (Items.next i rest) E h K M d p =
        let some : 1 ≤ places gg i = some_places gg i in
        let top : Known = head E h K i d.0 d.1 in
        let one : ℕ → Known = table_in i E h K d.0 d.1 p in
        let two : ℕ → Known = table rest E (here_after i h) d.0 M d.2 (p + places gg i) in
        let all : ℕ → Known = table (Items.next i rest) E h K M d p in (
          ap (λ t. cond t top (cond (nat_lt p (p + places gg i)) (one p) (two p))) (yes_eq p p refl),
          agree_in one all i E h K d.0 d.1 p (λ q lo hi. ap (λ t. cond t top (cond (nat_lt q (p + places gg i)) (one q) (two q))) (no_eq q p lo) ∙ ap (λ t. cond t (one q) (two q)) (yes_lt q (p + places gg i) hi)) (fits_in i E h K d.0 d.1 p),
          agree_all two all rest E (here_after i h) d.0 M d.2 (p + places gg i) (λ q lo hi. ap (λ t. cond t top (cond (nat_lt q (p + places gg i)) (one q) (two q))) (no_eq q p (omega (arith, lo, some))) ∙ ap (λ t. cond t (one q) (two q)) (no_lt q (p + places gg i) lo)) (fits_all rest E (here_after i h) d.0 M d.2 (p + places gg i)),
        )

  -- ---- closed

  -- the exits' places know what the derivation asks there
  abbrev pub Paired : (ℕ → Known) → List ℕ → List Known → Type 0
  Paired T [] [] = Unit {0}
  Paired T [] (X ∷ Xs) = ⊥
  Paired T (q ∷ qs) [] = ⊥
  Paired T (q ∷ qs) (X ∷ Xs) = Covers (T q) X × Paired T qs Xs

  exit_leads : (T : ℕ → Known) (qs : List ℕ) (Xs : List Known) (n : ℕ) (K : Known) → Paired T qs Xs → Leads (slice_get Xs n) K → LeadsTo T (slice_get qs n) K
  exit_leads T [] [] n K e l = tt
  exit_leads T [] (X ∷ Xs) n K e l = absurd e
  exit_leads T (q ∷ qs) [] n K e l = absurd e
  exit_leads T (q ∷ qs) (X ∷ Xs) zero K e l = λ f k. l f (e.0 f k)
  exit_leads T (q ∷ qs) (X ∷ Xs) (suc n) K e l = exit_leads T qs Xs n K e.1 l

  leads_by : (w : Leading) (T : ℕ → Known) (after : ℕ) (exits : List ℕ) (M : Known) (E : List Known) (K : Known) → Covers (T after) M → Paired T exits E → Leads (leads w M E) K → LeadsTo T (leads w after exits) K
  leads_by Leading.Falls T after exits M E K c e l = λ f k. l f (c f k)
  leads_by (Leading.Leaves zero) T after exits M E K c e l = tt
  leads_by (Leading.Leaves (suc n)) T after exits M E K c e l = exit_leads T exits E n K e l
  leads_by Leading.Stops T after exits M E K c e l = tt

  head_covers : (E : List Known) (h : Here) (K : Known) (i : Item) (N : Known) (d : Good gg s sg gives E h K i N) → Covers (head E h K i N d) K
  head_covers E h K (Item.Plain x) N d = λ f k. k
  head_covers E h K (Item.Checks x) N d = λ f k. k
  head_covers E h K (Item.If c a b) N d = λ f k. k
  head_covers E h K (Item.Block a) N d = λ f k. k
  head_covers E h K (Item.Loop a) N d = d.1
  head_covers E h K (Item.Inner a) N d = d.1

  pub start_covers : (is : Items) (T : ℕ → Known) (E : List Known) (h : Here) (K M : Known) (d : Goods gg s sg gives E h K is M) (p after : ℕ) → FitsAll T is E h K M d p → Covers (T after) M → Covers (T (first_place is p after)) K
  start_covers Items.end T E h K M d p after f c = λ x k. d x (c x k)
  start_covers (Items.next i rest) T E h K M d p after f c = subst (λ X. Covers X K) (sym f.0) (head_covers E h K i d.0 d.1)

-- parameters are at the start as the signs say
module _ (s : Setting) (sg : Signs) (gives : Bool) (starts : ℕ → Known) (started : (g params : ℕ) → s.params_of g ≡ Some params → Covers (starts g) (at_start (sg.takes g) params)) where
  both : (a b : Bool) → (a && b) ≡ true → (a ≡ true) × (b ≡ true)
  both true b h = (refl, h)
  both false b h = absurd (true≢false (sym h))

  by_sign : (a b : Bool) → implied a b ≡ true → a ≡ true → b ≡ true
  by_sign true b h e = h
  by_sign false b h e = absurd (true≢false (sym e))

  passing : (takes : ℕ → Bool) (K : Known) (args : List ℕ) (j k u : ℕ) → passes_known takes K j args ≡ true → slice_get args k ≡ Some u → takes (j + k) ≡ true → K (Fact.Clean u) ≡ true
  passing takes K [] j k u h at t = absurd (let z : ⊥ = cc in z)
  passing takes K (a ∷ as') j zero u h at t =
      let e : a ≡ u = cc in
      subst (λ z. K (Fact.Clean z) ≡ true) e (by_sign (takes j) (K (Fact.Clean a)) (both (implied (takes j) (K (Fact.Clean a))) (passes_known takes K (suc j) as') h).0 (subst (λ n. takes n ≡ true) (let z : j + 0 ≡ j = omega arith in z) t))
  passing takes K (a ∷ as') j (suc k) u h at t =
      passing takes K as' (suc j) k u (both (implied (takes j) (K (Fact.Clean a))) (passes_known takes K (suc j) as') h).1 at (subst (λ n. takes n ≡ true) (let z : j + suc k ≡ suc j + k = omega arith in z) t)

  taken : (takes : ℕ → Bool) (k params : ℕ) → k < params → at_start takes params (Fact.Clean k) ≡ true → takes k ≡ true
  taken takes k params lt h = by_sign (nat_lt k params) (takes k) h (yes_lt k params lt)

  pub step_hands : (x : FStep) (K : Known) → hands sg gives K x ≡ true → HandsOver s gives starts x K
  step_hands (FStep.Call to g args) K h = λ k u params at is lt z. passing (sg.takes g) K args 0 k u h at (subst (λ n. sg.takes g n ≡ true) (let e : k ≡ 0 + k = omega arith in e) (taken (sg.takes g) k params lt (started g params is (Fact.Clean k) z)))
  step_hands (FStep.Return from) K h = by_sign gives (K (Fact.Clean from)) h
  step_hands (FStep.Number a b) K h = tt
  step_hands (FStep.Same a b) K h = tt
  step_hands (FStep.Arith a o b c) K h = tt
  step_hands (FStep.If a b c) K h = tt
  step_hands (FStep.Block a) K h = tt
  step_hands (FStep.Loop a) K h = tt
  step_hands (FStep.Inner a) K h = tt
  step_hands (FStep.Exit a) K h = tt
  step_hands (FStep.Slot a b) K h = tt
  step_hands (FStep.Look a b) K h = tt
  step_hands (FStep.Checked a b) K h = tt
  step_hands (FStep.Load a b c) K h = tt
  step_hands (FStep.Store a b c) K h = tt
  step_hands (FStep.Report a b) K h = tt
  step_hands (FStep.Env a b c d) K h = tt
  step_hands (FStep.FrameAt a b) K h = tt
  step_hands (FStep.LineMark a) K h = tt

module _ (gg : ℕ) (s : Setting) (sg : Signs) (g : ℕ) (starts : ℕ → Known) (started : (k params : ℕ) → s.params_of k ≡ Some params → Covers (starts k) (at_start (sg.takes k) params)) (T : ℕ → Known) where
  abbrev P : Here → Item → ℕ → Option ℕ → Type 0
  P = Passes s sg.gives g starts T

  -- the item leads on with what was known at its own place
  stays : (h : Here) (i : Item) (K : Known) (p q : ℕ) → T p ≡ K → Covers (T q) (known_after s sg.gives h i K) → Covers (T q) (known_after s sg.gives h i (T p))
  stays h i K p q e c = subst (λ X. Covers (T q) (known_after s sg.gives h i X)) (sym e) c

  mutual
    pub closed_in : (i : Item) (E : List Known) (h : Here) (K N : Known) (d : Good gg s sg (sg.gives g) E h K i N) (p after : ℕ) (exits : List ℕ) → T p ≡ head gg s sg (sg.gives g) E h K i N d → FitsIn gg s sg (sg.gives g) T i E h K N d p → Covers (T after) N → Paired gg s sg (sg.gives g) T exits E → Each gg P h i p after exits
    closed_in (Item.Plain x) E h K N d p after exits e f c pair = record {
      covers = leads_by gg s sg (sg.gives g) (leading x) T after exits N E (known_after s sg.gives h (Item.Plain x) (T p)) c pair (subst (λ X. Leads (leads (leading x) N E) (known_after s sg.gives h (Item.Plain x) X)) (sym e) d.1);
      handed = subst (λ X. HandsOver s (sg.gives g) starts x X) (sym e) (step_hands s sg (sg.gives g) starts started x K d.0.handed);
    }
    closed_in (Item.Checks x) E h K N d p after exits e f c pair = record {
      covers = stays h (Item.Checks x) K p after e (λ y k. d.3 y (c y k));
      handed = tt;
    }
    closed_in (Item.If k a b) E h K N d p after exits e f c pair = (
      record { covers = stays h (Item.If k a b) K p (first_place a (p + 1) after) e (start_covers gg s sg (sg.gives g) a T E (branch h k) K N d.2 (p + 1) after f.0 c); handed = tt },
      record { covers = stays h (Item.If k a b) K p (first_place b (p + 1 + all_places gg a) after) e (start_covers gg s sg (sg.gives g) b T E untold K N d.3 (p + 1 + all_places gg a) after f.1 c); handed = tt },
      closed_all a E (branch h k) K N d.2 (p + 1) after exits f.0 c pair,
      closed_all b E untold K N d.3 (p + 1 + all_places gg a) after exits f.1 c pair,
    )
    closed_in (Item.Block a) E h K N d p after exits e f c pair = (
      record { covers = stays h (Item.Block a) K p (first_place a (p + 1) after) e (start_covers gg s sg (sg.gives g) a T (N ∷ E) untold K N d (p + 1) after f c); handed = tt },
      closed_all a (N ∷ E) untold K N d (p + 1) after (after ∷ exits) f c (c, pair),
    )
    closed_in (Item.Loop a) E h K N d p after exits e f c pair =
        let back : Covers (T p) d.0 = subst (λ X. Covers (T p) X) e (λ y k. k) in (
          record { covers = stays h (Item.Loop a) d.0 p (first_place a (p + 1) p) e (start_covers gg s sg (sg.gives g) a T (N ∷ E) untold d.0 d.0 d.2 (p + 1) p f back); handed = tt },
          closed_all a (N ∷ E) untold d.0 d.0 d.2 (p + 1) p (after ∷ exits) f back (c, pair),
        )
    closed_in (Item.Inner a) E h K N d p after exits e f c pair =
        let back : Covers (T p) d.0 = subst (λ X. Covers (T p) X) e (λ y k. k) in (
          record { covers = stays h (Item.Inner a) d.0 p (first_place a (p + 1) p) e (start_covers gg s sg (sg.gives g) a T (N ∷ E) untold d.0 d.0 d.2 (p + 1) p f back); handed = tt },
          closed_all a (N ∷ E) untold d.0 d.0 d.2 (p + 1) p (after ∷ exits) f back (c, pair),
        )

    pub closed_all : (is : Items) (E : List Known) (h : Here) (K M : Known) (d : Goods gg s sg (sg.gives g) E h K is M) (p after : ℕ) (exits : List ℕ) → FitsAll gg s sg (sg.gives g) T is E h K M d p → Covers (T after) M → Paired gg s sg (sg.gives g) T exits E → EachAll gg P h is p after exits
    closed_all Items.end E h K M d p after exits f c pair = tt
    closed_all (Items.next i rest) E h K M d p after exits f c pair = (
      closed_in i E h K d.0 d.1 p (first_place rest (p + places gg i) after) exits f.0 f.1 (start_covers gg s sg (sg.gives g) rest T E (here_after i h) d.0 M d.2 (p + places gg i) after f.2 c) pair,
      closed_all rest E (here_after i h) d.0 M d.2 (p + places gg i) after exits f.2 c pair,
    )

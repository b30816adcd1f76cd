-- A program with derivations keeps the discipline.
use Rattle.std.proofs.Common.{◌≡◌, ℕ, suc, ◌+◌, ◌<◌, List, [], ◌∷◌, length, inl, inr, Option, Some, None, Bool, true, false, refl, sym, ap, ◌∙◌, subst, cond, arith, nat_lt, true≢false}
use Rattle.std.specs.Prelude.{slice_get, ◌==◌, ◌&&◌, ◌||◌}
use Rattle.std.proofs.lemmas.Bool.{eqb-true}
use Rattle.size_table.specs.Blocks.{Block}
use Rattle.flat_code.specs.Code.{FStep, FSteps, FFunction, FCode}
use Rattle.flat_code.specs.Recognized.{sequence_steps}
use Rattle.flat_discipline.specs.Items.{Item, Items, items_of, step_places, steps_places, places, all_places, first_place}
use Rattle.flat_discipline.specs.Facts.{Fact, Setting, Here, untold, branch, here_after, is_among}
use Rattle.flat_discipline.specs.Chains.{Spot}
use Rattle.flat_discipline.specs.Breaks.{fits, is_plain, address, reads, operands, pointer, shared, AddressLost, ReadLost, BreaksInside, InsideStep, Inside, Breaks, BreaksAll}
use Rattle.flat_discipline.specs.Closed.{Known, Covers, ClosedOn}
use Rattle.flat_discipline.specs.Discipline.{params_in, setting, edges_in, edges, LostAt, function_fits, BreaksBy}
use Rattle.flat_discipline.specs.Derivations.{Signs, address_known, all_own, FitStep, Fit, Good, Goods, at_start, GoodFunction}
use Rattle.flat_discipline.specs.Laws.{DerivationsAreAccepted}
use Rattle.flat_discipline.proofs.Least.{every_edge, least}
use Rattle.flat_discipline.proofs.Tables.{Passes, nothing, yes_lt, no_lt, head, FitsIn, FitsAll, table, fits_all, agree_all, start_covers, closed_all}

clash : (b : Bool) → b ≡ true → b ≡ false → ⊥
clash b t f = true≢false (sym t ∙ f)

both : (a b : Bool) → (a && b) ≡ true → (a ≡ true) × (b ≡ true)
both true b h = (refl, h)
both false b h = absurd (true≢false (sym h))

unless : (x : Bool) → (x ≡ true → false ≡ true) → x ≡ false
unless true h = absurd (true≢false (sym (h refl)))
unless false h = refl

-- ---- Where a derivation holds, nothing breaks

module _ (s : Setting) (L : ℕ → Fact → Type 0) (T : ℕ → Known) (sound : (p : ℕ) (x : Fact) → L p x → T p x ≡ false) where
  no_address : (p : ℕ) (o : Option ℕ) → address_known (T p) o ≡ true → AddressLost (L p) o → ⊥
  no_address p None h l = l
  no_address p (Some v) h l = clash (T p (Fact.Clean v)) h (sound p (Fact.Clean v) l)

  no_read : (p : ℕ) (vs : List ℕ) → all_own (T p) vs ≡ true → ReadLost (L p) vs → ⊥
  no_read p [] h l = l
  no_read p (v ∷ vs) h (inl l) = clash (T p (Fact.Own v)) (both (T p (Fact.Own v)) (all_own (T p) vs) h).0 (sound p (Fact.Own v) l)
  no_read p (v ∷ vs) h (inr l) = no_read p vs (both (T p (Fact.Own v)) (all_own (T p) vs) h).1 l

  own_among : (p v : ℕ) (vs : List ℕ) → all_own (T p) vs ≡ true → is_among v vs ≡ true → T p (Fact.Own v) ≡ true
  own_among p v [] h k = absurd (true≢false (sym k))
  own_among p v (x ∷ xs) h k = by (v == x) refl k (λ z. own_among p v xs (both (T p (Fact.Own x)) (all_own (T p) xs) h).1 z)
    where
      by : (t : Bool) → (v == x) ≡ t → (t || is_among v xs) ≡ true → (is_among v xs ≡ true → T p (Fact.Own v) ≡ true) → T p (Fact.Own v) ≡ true
      by true e k more = subst (λ z. T p (Fact.Own z) ≡ true) (sym (eqb-true v x e)) (both (T p (Fact.Own x)) (all_own (T p) xs) h).0
      by false e k more = more k

  module _ (at : ℕ) (ops : List ℕ) (own : all_own (T at) ops ≡ true) where
    no_shared : (vs : List ℕ) → ReadLost (L at) (shared ops vs) → ⊥
    no_shared [] l = l
    no_shared (v ∷ vs) l = by (is_among v ops) refl l (λ z. no_shared vs z)
      where
        by : (t : Bool) → is_among v ops ≡ t → ReadLost (L at) (cond t (v ∷ shared ops vs) (shared ops vs)) → (ReadLost (L at) (shared ops vs) → ⊥) → ⊥
        by true e (inl l) more = clash (T at (Fact.Own v)) (own_among at v ops own e) (sound at (Fact.Own v) l)
        by true e (inr l) more = more l
        by false e l more = more l

    no_in : (l : ℕ) (x : FStep) → fits s l x ≡ true → BreaksInside s (L at) ops l x → ⊥
    no_in l x f (inl b) = clash (fits s l x) f b
    no_in l x f (inr b) = no_shared (reads x) b

    mutual
      no_step : (l : ℕ) (x : FStep) (p q : ℕ) → FitStep s l x → InsideStep s (L at) ops l x p q → ⊥
      no_step l (FStep.If c a b) p q f (inl u) = no_in l (FStep.If c a b) f.0 u.1
      no_step l (FStep.If c a b) p q f (inr (inl u)) = no_inside l a (p + 1) q f.1 u
      no_step l (FStep.If c a b) p q f (inr (inr u)) = no_inside l b (p + 1 + steps_places a) q f.2 u
      no_step l (FStep.Block a) p q f u = no_inside (suc l) a (p + 1) q f u
      no_step l (FStep.Loop a) p q f u = no_inside (suc l) a (p + 1) q f u
      no_step l (FStep.Inner a) p q f u = no_inside (suc l) a (p + 1) q f u
      no_step l (FStep.Number a b) p q f u = no_in l (FStep.Number a b) f u.1
      no_step l (FStep.Same a b) p q f u = no_in l (FStep.Same a b) f u.1
      no_step l (FStep.Arith a o b c) p q f u = no_in l (FStep.Arith a o b c) f u.1
      no_step l (FStep.Exit a) p q f u = no_in l (FStep.Exit a) f u.1
      no_step l (FStep.Call a b c) p q f u = no_in l (FStep.Call a b c) f u.1
      no_step l (FStep.Return a) p q f u = no_in l (FStep.Return a) f u.1
      no_step l (FStep.Slot a b) p q f u = no_in l (FStep.Slot a b) f u.1
      no_step l (FStep.Look a b) p q f u = no_in l (FStep.Look a b) f u.1
      no_step l (FStep.FrameAt a b) p q f u = no_in l (FStep.FrameAt a b) f u.1
      no_step l (FStep.Load a b c) p q f u = no_in l (FStep.Load a b c) f u.1
      no_step l (FStep.Store a b c) p q f u = no_in l (FStep.Store a b c) f u.1
      no_step l (FStep.Checked a b) p q f u = no_in l (FStep.Checked a b) f u.1
      no_step l (FStep.LineMark a) p q f u = no_in l (FStep.LineMark a) f u.1
      no_step l (FStep.Report a b) p q f u = no_in l (FStep.Report a b) f u.1
      no_step l (FStep.Env a b c d) p q f u = no_in l (FStep.Env a b c d) f u.1

      no_inside : (l : ℕ) (xs : FSteps) (p q : ℕ) → Fit s l xs → Inside s (L at) ops l xs p q → ⊥
      no_inside l FSteps.none p q f u = u
      no_inside l (FSteps.more x xs) p q f (inl u) = no_step l x p q f.0 u
      no_inside l (FSteps.more x xs) p q f (inr u) = no_inside l xs (p + step_places x) q f.1 u

  module _ (g : ℕ) (sg : Signs) (gives : Bool) where
    mutual
      no_break : (i : Item) (E : List Known) (h : Here) (K N : Known) (d : Good g s sg gives E h K i N) (p q : ℕ) → T p ≡ head g s sg gives E h K i N d → FitsIn g s sg gives T i E h K N d p → Breaks g s L (length E) i p q → ⊥
      no_break (Item.Plain x) E h K N d p q e f (at, inl b) = clash (fits s (length E) x && is_plain x) d.0.in_range b
      no_break (Item.Plain x) E h K N d p q e f (at, inr (inl b)) = no_address p (address x) (subst (λ X. address_known X (address x) ≡ true) (sym e) d.0.clean) b
      no_break (Item.Plain x) E h K N d p q e f (at, inr (inr b)) = no_read p (reads x) (subst (λ X. all_own X (reads x) ≡ true) (sym e) d.0.own) b
      no_break (Item.Checks x) E h K N d p q e f (inl b) = clash (T p (Fact.Clean (pointer x))) (subst (λ (X : Known). X (Fact.Clean (pointer x)) ≡ true) (sym e) d.1) (sound p (Fact.Clean (pointer x)) b.1)
      no_break (Item.Checks x) E h K N d p q e f (inr b) = no_inside p (operands x) (subst (λ X. all_own X (operands x) ≡ true) (sym e) d.2) (length E) (sequence_steps g x) p q d.0 b
      no_break (Item.If c a b) E h K N d p q e f (inl (at, inl x)) = clash (nat_lt c s.values) d.0 x
      no_break (Item.If c a b) E h K N d p q e f (inl (at, inr x)) = clash (T p (Fact.Own c)) (subst (λ (X : Known). X (Fact.Own c) ≡ true) (sym e) d.1) (sound p (Fact.Own c) x)
      no_break (Item.If c a b) E h K N d p q e f (inr (inl x)) = no_breaks a E (branch h c) K N d.2 (p + 1) q f.0 x
      no_break (Item.If c a b) E h K N d p q e f (inr (inr x)) = no_breaks b E untold K N d.3 (p + 1 + all_places g a) q f.1 x
      no_break (Item.Block a) E h K N d p q e f x = no_breaks a (N ∷ E) untold K N d (p + 1) q f x
      no_break (Item.Loop a) E h K N d p q e f x = no_breaks a (N ∷ E) untold d.0 d.0 d.2 (p + 1) q f x
      no_break (Item.Inner a) E h K N d p q e f x = no_breaks a (N ∷ E) untold d.0 d.0 d.2 (p + 1) q f x

      no_breaks : (is : Items) (E : List Known) (h : Here) (K M : Known) (d : Goods g s sg gives E h K is M) (p q : ℕ) → FitsAll g s sg gives T is E h K M d p → BreaksAll g s L (length E) is p q → ⊥
      no_breaks Items.end E h K M d p q f x = x
      no_breaks (Items.next i rest) E h K M d p q f (inl x) = no_break i E h K d.0 d.1 p q f.0 f.1 x
      no_breaks (Items.next i rest) E h K M d p q f (inr x) = no_breaks rest E (here_after i h) d.0 M d.2 (p + places g i) q f.2 x

-- ---- Programs

module _ (g : ℕ) (globals : List Block) (sg : Signs) (code : FCode) where
  abbrev fs : List FFunction
  fs = code.functions

  abbrev S : ℕ → Setting
  S = setting g globals fs

  abbrev G : ℕ → FFunction → Type 0
  G f fn = GoodFunction g globals sg code f fn

  derived : (f : ℕ) (fn : FFunction) (d : G f fn) → Goods g (S f) sg (sg.gives f) [] untold d.known (items_of g fn.body) d.last
  derived f fn d = subst (λ is. Goods g (S f) sg (sg.gives f) [] untold d.known is d.last) (sym d.read) d.good

  abbrev table_of : (f : ℕ) (fn : FFunction) → G f fn → ℕ → Known
  table_of f fn d q = cond (nat_lt q (all_places g (items_of g fn.body))) (table g (S f) sg (sg.gives f) (items_of g fn.body) [] untold d.known d.last (derived f fn d) 0 q) nothing

  fits_table : (f : ℕ) (fn : FFunction) (d : G f fn) → FitsAll g (S f) sg (sg.gives f) (table_of f fn d) (items_of g fn.body) [] untold d.known d.last (derived f fn d) 0
  fits_table f fn d =
      let is : Items = items_of g fn.body in
      let inner : ℕ → Known = table g (S f) sg (sg.gives f) is [] untold d.known d.last (derived f fn d) 0 in
      agree_all g (S f) sg (sg.gives f) inner (table_of f fn d) is [] untold d.known d.last (derived f fn d) 0
      (λ q lo hi. ap (λ t. cond t (inner q) nothing) (yes_lt q (all_places g is) (let z : q < all_places g is = omega (arith, hi) in z)))
      (fits_all g (S f) sg (sg.gives f) is [] untold d.known d.last (derived f fn d) 0)

  ends : (f : ℕ) (fn : FFunction) (d : G f fn) → Covers (table_of f fn d (all_places g (items_of g fn.body))) d.last
  ends f fn d =
      let n : ℕ = all_places g (items_of g fn.body) in
      subst (λ X. Covers X d.last) (sym (ap (λ t. cond t (table g (S f) sg (sg.gives f) (items_of g fn.body) [] untold d.known d.last (derived f fn d) 0 n) nothing) (no_lt n n (omega arith)))) (λ x k. absurd (true≢false (sym k)))

  first : (is : Items) → first_place is 0 (all_places g is) ≡ 0
  first Items.end = refl
  first (Items.next i rest) = refl

  begun : (f : ℕ) (fn : FFunction) (d : G f fn) → Covers (table_of f fn d 0) (at_start (sg.takes f) fn.params)
  begun f fn d = λ x k. d.begins x (subst (λ p. Covers (table_of f fn d p) d.known) (first (items_of g fn.body)) (start_covers g (S f) sg (sg.gives f) (items_of g fn.body) (table_of f fn d) [] untold d.known d.last (derived f fn d) 0 (all_places g (items_of g fn.body)) (fits_table f fn d) (ends f fn d)) x k)

  module _ (each : (f : ℕ) (fn : FFunction) → slice_get fs f ≡ Some fn → G f fn) where
    abbrev at_function : (f : ℕ) (o : Option FFunction) → slice_get fs f ≡ o → ℕ → Known
    at_function f None e q = nothing
    at_function f (Some fn) e q = table_of f fn (each f fn e) q

    abbrev T : ℕ → ℕ → Known
    T f = at_function f (slice_get fs f) refl

    started_at : (f : ℕ) (o : Option FFunction) (e : slice_get fs f ≡ o) (params : ℕ) → params_in o ≡ Some params → Covers (at_function f o e 0) (at_start (sg.takes f) params)
    started_at f None e params h = λ x k. absurd (true≢false (sym k))
    started_at f (Some fn) e params h = subst (λ n. Covers (table_of f fn (each f fn e) 0) (at_start (sg.takes f) n)) (let z : fn.params ≡ params = cc in z) (begun f fn (each f fn e))

    unspanned_at : (f : ℕ) (o : Option FFunction) (e : slice_get fs f ≡ o) (x n : ℕ) → at_function f o e 0 (Fact.Spanned x n) ≡ false
    unspanned_at f None e x n = refl
    unspanned_at f (Some fn) e x n = unless (table_of f fn (each f fn e) 0 (Fact.Spanned x n)) (λ k. begun f fn (each f fn e) (Fact.Spanned x n) k)

    passes_at : (f : ℕ) (o : Option FFunction) (e : slice_get fs f ≡ o) (h : Here) (i : Item) (a : ℕ) (b : Option ℕ) → edges_in g o h i a b → Passes (S f) sg.gives f (λ k. T k 0) (at_function f o e) h i a b
    passes_at f None e h i a b x = absurd x
    passes_at f (Some fn) e h i a b x =
        let is : Items = items_of g fn.body in
        let d : G f fn = each f fn e in
        every_edge g (Passes (S f) sg.gives f (λ k. T k 0) (table_of f fn d)) is untold 0 (all_places g is) []
        (closed_all g (S f) sg f (λ k. T k 0) (λ k params is_. started_at k (slice_get fs k) refl params is_) (table_of f fn d) is [] untold d.known d.last (derived f fn d) 0 (all_places g is) [] (fits_table f fn d) (ends f fn d) tt)
        h i a b x

    passing : (f : ℕ) (h : Here) (i : Item) (a : ℕ) (b : Option ℕ) → edges g globals fs f h i a b → Passes (S f) sg.gives f (λ k. T k 0) (T f) h i a b
    passing f h i a b e = passes_at f (slice_get fs f) refl h i a b e

    closed : ClosedOn S (edges g globals fs) (λ f x. true) sg.gives T
    closed = record {
      cleans = λ f v m. refl;
      owns = λ f v m. refl;
      sources = λ f h i a b x y e ask is m. refl;
      start = λ f x n ask. unspanned_at f (slice_get fs f) refl x n;
      covers = λ f h i a b x e ask k. (passing f h i a (Some b) e).covers x k;
      returns = λ k from h a b e. (passing k h (Item.Plain (FStep.Return from)) a b e).handed;
      passes = λ f to k args h a b e j v params at is lt ask z. (passing f h (Item.Plain (FStep.Call to k args)) a b e).handed j v params at is lt z;
    }

    sound : (f p : ℕ) (x : Fact) → LostAt g globals fs f p x → T f p x ≡ false
    sound f p x l = least S (edges g globals fs) (λ k y. true) sg.gives T closed (Spot.At f p x) l refl

    no_break_at : (f : ℕ) (o : Option FFunction) (e : slice_get fs f ≡ o) (q : ℕ) → (main : FFunction) → slice_get fs code.main ≡ Some main → ((p : ℕ) (x : Fact) → LostAt g globals fs f p x → at_function f o e p x ≡ false) → BreaksBy g (S f) (LostAt g globals fs f) code.main f o q → ⊥
    no_break_at f None e q main is sound_ b = let z : None ≡ Some main = sym e ∙ ap (slice_get fs) b.0 ∙ is in let n : ⊥ = cc in n
    no_break_at f (Some fn) e q main is sound_ (inl b) = clash (function_fits code.main f fn) (each f fn e).in_range b.1
    no_break_at f (Some fn) e q main is sound_ (inr b) =
        let d : G f fn = each f fn e in
        no_breaks (S f) (LostAt g globals fs f) (table_of f fn d) sound_ g sg (sg.gives f) (items_of g fn.body) [] untold d.known d.last (derived f fn d) 0 q (fits_table f fn d) b

pub derivations_are_accepted : DerivationsAreAccepted
derivations_are_accepted g globals sg code p f q b =
    no_break_at g globals sg code p.each f (slice_get code.functions f) refl q p.main p.is_main (λ k x l. sound g globals sg code p.each f k x l) b

-- What breaks the discipline by an exact table breaks it by chains, and the first place that is bad is one.
use Rattle.std.proofs.Common.{◌≡◌, ◌<◌, ◌⊎◌, ℕ, suc, ◌+◌, List, [], ◌∷◌, inl, inr, Option, Some, None, Bool, false, refl, sym, ap, ◌∙◌, arith}
use Rattle.std.specs.Prelude.{slice_get}
use Rattle.size_table.specs.Blocks.{Block}
use Rattle.flat_code.specs.Code.{FStep, FSteps, FFunction, FCode}
use Rattle.flat_code.specs.Recognized.{sequence_steps}
use Rattle.flat_discipline.specs.Items.{Item, Items, items_of, step_places, steps_places, places, all_places}
use Rattle.flat_discipline.specs.Facts.{Fact, Setting}
use Rattle.flat_discipline.specs.Chains.{Spot}
use Rattle.flat_discipline.specs.Closed.{Known, Exact}
use Rattle.flat_discipline.specs.Breaks.{address, reads, operands, pointer, shared, AddressLost, ReadLost, BreaksInside, InsideStep, Inside, Breaks, BreaksAll}
use Rattle.flat_discipline.specs.Discipline.{setting, edges, LostAt, BreaksBy, BreaksAt, StepIndex, FirstBad, FirstBreak}
use Rattle.flat_discipline.specs.Laws.{BreaksByTable, ClosedTablesKnow, FirstIsOne, ExactTablesTell}
use Rattle.flat_discipline.proofs.Least.{lost_in, least}

-- ---- Breaks follow the facts that are lost

-- what is lost by P is lost by Q, of the facts of values
module _ (P Q : ℕ → Fact → Type 0) (clean : (p v : ℕ) → P p (Fact.Clean v) → Q p (Fact.Clean v)) (own : (p v : ℕ) → P p (Fact.Own v) → Q p (Fact.Own v)) where
  map_address : (p : ℕ) (o : Option ℕ) → AddressLost (P p) o → AddressLost (Q p) o
  map_address p None l = l
  map_address p (Some v) l = clean p v l

  map_read : (p : ℕ) (vs : List ℕ) → ReadLost (P p) vs → ReadLost (Q p) vs
  map_read p [] l = l
  map_read p (v ∷ vs) (inl l) = inl (own p v l)
  map_read p (v ∷ vs) (inr l) = inr (map_read p vs l)

  module _ (s : Setting) where
    module _ (at : ℕ) (ops : List ℕ) where
      map_in : (l : ℕ) (x : FStep) → BreaksInside s (P at) ops l x → BreaksInside s (Q at) ops l x
      map_in l x (inl h) = inl h
      map_in l x (inr h) = inr (map_read at (shared ops (reads x)) h)

      mutual
        map_step : (l : ℕ) (x : FStep) (p q : ℕ) → InsideStep s (P at) ops l x p q → InsideStep s (Q at) ops l x p q
        map_step l (FStep.If c a b) p q (inl h) = inl (h.0, map_in l (FStep.If c a b) h.1)
        map_step l (FStep.If c a b) p q (inr (inl h)) = inr (inl (map_inside l a (p + 1) q h))
        map_step l (FStep.If c a b) p q (inr (inr h)) = inr (inr (map_inside l b (p + 1 + steps_places a) q h))
        map_step l (FStep.Block a) p q h = map_inside (suc l) a (p + 1) q h
        map_step l (FStep.Loop a) p q h = map_inside (suc l) a (p + 1) q h
        map_step l (FStep.Inner a) p q h = map_inside (suc l) a (p + 1) q h
        map_step l (FStep.Number a x) p q h = (h.0, map_in l (FStep.Number a x) h.1)
        map_step l (FStep.Same a x) p q h = (h.0, map_in l (FStep.Same a x) h.1)
        map_step l (FStep.Arith a f x y) p q h = (h.0, map_in l (FStep.Arith a f x y) h.1)
        map_step l (FStep.Exit n) p q h = (h.0, map_in l (FStep.Exit n) h.1)
        map_step l (FStep.Call a f xs) p q h = (h.0, map_in l (FStep.Call a f xs) h.1)
        map_step l (FStep.Return a) p q h = (h.0, map_in l (FStep.Return a) h.1)
        map_step l (FStep.Slot a x) p q h = (h.0, map_in l (FStep.Slot a x) h.1)
        map_step l (FStep.Look a x) p q h = (h.0, map_in l (FStep.Look a x) h.1)
        map_step l (FStep.FrameAt a x) p q h = (h.0, map_in l (FStep.FrameAt a x) h.1)
        map_step l (FStep.Load a x w) p q h = (h.0, map_in l (FStep.Load a x w) h.1)
        map_step l (FStep.Store a x w) p q h = (h.0, map_in l (FStep.Store a x w) h.1)
        map_step l (FStep.Checked a x) p q h = (h.0, map_in l (FStep.Checked a x) h.1)
        map_step l (FStep.LineMark n) p q h = (h.0, map_in l (FStep.LineMark n) h.1)
        map_step l (FStep.Report k n) p q h = (h.0, map_in l (FStep.Report k n) h.1)
        map_step l (FStep.Env a n x y) p q h = (h.0, map_in l (FStep.Env a n x y) h.1)

        map_inside : (l : ℕ) (xs : FSteps) (p q : ℕ) → Inside s (P at) ops l xs p q → Inside s (Q at) ops l xs p q
        map_inside l FSteps.none p q h = h
        map_inside l (FSteps.more x rest) p q (inl h) = inl (map_step l x p q h)
        map_inside l (FSteps.more x rest) p q (inr h) = inr (map_inside l rest (p + step_places x) q h)

    module _ (g : ℕ) where
      mutual
        map_break : (l : ℕ) (i : Item) (p q : ℕ) → Breaks g s P l i p q → Breaks g s Q l i p q
        map_break l (Item.Plain x) p q (at, inl b) = (at, inl b)
        map_break l (Item.Plain x) p q (at, inr (inl b)) = (at, inr (inl (map_address p (address x) b)))
        map_break l (Item.Plain x) p q (at, inr (inr b)) = (at, inr (inr (map_read p (reads x) b)))
        map_break l (Item.Checks x) p q (inl b) = inl (b.0, clean p (pointer x) b.1)
        map_break l (Item.Checks x) p q (inr b) = inr (map_inside p (operands x) l (sequence_steps g x) p q b)
        map_break l (Item.If c a b) p q (inl (at, inl x)) = inl (at, inl x)
        map_break l (Item.If c a b) p q (inl (at, inr x)) = inl (at, inr (own p c x))
        map_break l (Item.If c a b) p q (inr (inl x)) = inr (inl (map_breaks l a (p + 1) q x))
        map_break l (Item.If c a b) p q (inr (inr x)) = inr (inr (map_breaks l b (p + 1 + all_places g a) q x))
        map_break l (Item.Block a) p q x = map_breaks (suc l) a (p + 1) q x
        map_break l (Item.Loop a) p q x = map_breaks (suc l) a (p + 1) q x
        map_break l (Item.Inner a) p q x = map_breaks (suc l) a (p + 1) q x

        map_breaks : (l : ℕ) (is : Items) (p q : ℕ) → BreaksAll g s P l is p q → BreaksAll g s Q l is p q
        map_breaks l Items.end p q x = x
        map_breaks l (Items.next i rest) p q (inl x) = inl (map_break l i p q x)
        map_breaks l (Items.next i rest) p q (inr x) = inr (map_breaks l rest (p + places g i) q x)

      map_by : (main number : ℕ) (o : Option FFunction) (q : ℕ) → BreaksBy g s P main number o q → BreaksBy g s Q main number o q
      map_by main number None q x = x
      map_by main number (Some f) q (inl x) = inl x
      map_by main number (Some f) q (inr x) = inr (map_breaks 0 (items_of g f.body) 0 q x)

-- ---- Closed and exact tables

pub closed_tables_know : ClosedTablesKnow
closed_tables_know g globals functions A gives T closed f p x ask l = least (setting g globals functions) (edges g globals functions) A gives T closed (Spot.At f p x) l ask

module _ (g : ℕ) (globals : List Block) (code : FCode) (A : ℕ → Fact → Bool) (gives : ℕ → Bool) (T : ℕ → ℕ → Known) (exact : Exact (setting g globals code.functions) (edges g globals code.functions) A gives T) where
  to_chains : (f q : ℕ) → BreaksByTable g globals code T f q → BreaksAt g globals code f q
  to_chains f q b = map_by (λ p x. T f p x ≡ false) (LostAt g globals code.functions f)
      (λ p v m. exact.marks f p (Fact.Clean v) m) (λ p v m. exact.marks f p (Fact.Own v) m)
      (setting g globals code.functions f) g code.main f (slice_get code.functions f) q b

  from_chains : (f q : ℕ) → BreaksAt g globals code f q → BreaksByTable g globals code T f q
  from_chains f q b =
      let S = setting g globals code.functions in
      let E = edges g globals code.functions in
      map_by (LostAt g globals code.functions f) (λ p x. T f p x ≡ false)
      (λ p v l. least S E A gives T exact.closed (Spot.At f p (Fact.Clean v)) l (exact.closed.cleans f v (lost_in S E (Spot.At f p (Fact.Clean v)) l)))
      (λ p v l. least S E A gives T exact.closed (Spot.At f p (Fact.Own v)) l (exact.closed.owns f v (lost_in S E (Spot.At f p (Fact.Own v)) l)))
      (S f) g code.main f (slice_get code.functions f) q b

  same_first : (answer : Option StepIndex) → FirstBad (BreaksByTable g globals code T) answer → FirstBreak g globals code answer
  same_first None h = λ f q b. h f q (from_chains f q b)
  same_first (Some a) h = (to_chains a.function a.place h.0, λ b before bad. h.1 b before (from_chains b.function b.place bad))

pub exact_tables_tell : ExactTablesTell
exact_tables_tell g globals code A gives T exact answer h = same_first g globals code A gives T exact answer h

-- ---- The first place is one

compared : (a b : ℕ) → (a < b) ⊎ ((a ≡ b) ⊎ (b < a))
compared a b = grind arith

one_first : (Bad : ℕ → ℕ → Type 0) (a b : Option StepIndex) → FirstBad Bad a → FirstBad Bad b → a ≡ b
one_first Bad None None h k = refl
one_first Bad None (Some b) h k = absurd (h b.function b.place k.0)
one_first Bad (Some a) None h k = absurd (k a.function a.place h.0)
one_first Bad (Some a) (Some b) h k = by (compared a.function b.function) (compared a.place b.place)
  where
    by : ((a.function < b.function) ⊎ ((a.function ≡ b.function) ⊎ (b.function < a.function))) → ((a.place < b.place) ⊎ ((a.place ≡ b.place) ⊎ (b.place < a.place))) → Some a ≡ Some b
    by (inl lt) o = absurd (k.1 a (inl lt) h.0)
    by (inr (inr lt)) o = absurd (h.1 b (inl lt) k.0)
    by (inr (inl same)) (inl lt) = absurd (k.1 a (inr (same, lt)) h.0)
    by (inr (inl same)) (inr (inr lt)) = absurd (h.1 b (inr (sym same, lt)) k.0)
    by (inr (inl same)) (inr (inl at)) = ap (λ f. Some (record { function = f; place = a.place })) same ∙ ap (λ q. Some (record { function = b.function; place = q })) at

pub first_is_one : FirstIsOne
first_is_one g globals code a b h k = one_first (BreaksAt g globals code) a b h k

-- Where items begin, and claims of steps that are made stronger.
use Rattle.std.proofs.Common.{◌≡◌, ◌⊎◌, ℕ, zero, suc, ◌+◌, ◌<◌, ◌≤◌, List, Bool, true, false, inl, inr, arith}
use Rattle.std.specs.Prelude.{◌==◌}
use Rattle.bb_words.specs.Answers.{Answer, either}
use Rattle.flat_code.specs.Code.{FStep, FSteps}
use Rattle.flat_code.specs.World.{FPoint, point, spend, Run, Way}
use Rattle.flat_code.specs.Time.{charge, turn_charge}
use Rattle.flat_code.specs.Run.{Calls, act, act_all, inner_turns}
use Rattle.flat_code.specs.Recognized.{Sequence, sequence_steps}
use Rattle.flat_discipline.specs.Items.{Item, Items, step_places, steps_places, places, all_places, Begins, BeginsAll}
use Rattle.flat_discipline.specs.Comes.{Claim, IfOn, InTurns, InStep, InSteps}

-- ---- Places of items

module _ (g : ℕ) where
  some_places : (q : Sequence) → 0 < steps_places (sequence_steps g q)
  some_places (Sequence.Move p d q line s e) = omega arith
  some_places (Sequence.Load w at line s e) = omega arith
  some_places (Sequence.Span p n q line d s e) = omega arith

  abbrev Between : (p n q : ℕ) → Type 0
  Between p n q = (p ≤ q) × (q < p + n)

  mutual
    pub begins_between : (i : Item) (p q : ℕ) → Begins g i p q → Between p (places g i) q
    begins_between (Item.Plain s) p q h = (omega (arith, h), omega (arith, h))
    begins_between (Item.Checks x) p q h = let z = some_places x in (omega (arith, h), omega (arith, h, z))
    begins_between (Item.If c x y) p q (inl h) = (omega (arith, h), omega (arith, h))
    begins_between (Item.If c x y) p q (inr (inl h)) = let z = all_between x (p + 1) q h in (omega (arith, z.0), omega (arith, z.1))
    begins_between (Item.If c x y) p q (inr (inr h)) = let z = all_between y (p + 1 + all_places g x) q h in (omega (arith, z.0), omega (arith, z.1))
    begins_between (Item.Block x) p q (inl h) = (omega (arith, h), omega (arith, h))
    begins_between (Item.Block x) p q (inr h) = let z = all_between x (p + 1) q h in (omega (arith, z.0), omega (arith, z.1))
    begins_between (Item.Loop x) p q (inl h) = (omega (arith, h), omega (arith, h))
    begins_between (Item.Loop x) p q (inr h) = let z = all_between x (p + 1) q h in (omega (arith, z.0), omega (arith, z.1))
    begins_between (Item.Inner x) p q (inl h) = (omega (arith, h), omega (arith, h))
    begins_between (Item.Inner x) p q (inr h) = let z = all_between x (p + 1) q h in (omega (arith, z.0), omega (arith, z.1))

    pub all_between : (is : Items) (p q : ℕ) → BeginsAll g is p q → Between p (all_places g is) q
    all_between Items.end p q h = absurd h
    all_between (Items.next i rest) p q (inl h) = let z = begins_between i p q h in (z.0, omega (arith, z.1))
    all_between (Items.next i rest) p q (inr h) = let z = all_between rest (p + places g i) q h in (omega (arith, z.0), omega (arith, z.1))

  -- no other item of W begins among those of an item
  abbrev pub Only : (W : ℕ → Type 0) → Item → (p : ℕ) → Type 0
  Only W i p = (q : ℕ) → p ≤ q → q < p + places g i → W q → Begins g i p q

  abbrev pub OnlyAll : (W : ℕ → Type 0) → Items → (p : ℕ) → Type 0
  OnlyAll W is p = (q : ℕ) → p ≤ q → q < p + all_places g is → W q → BeginsAll g is p q

  module _ (W : ℕ → Type 0) where
    pub only_head : (i : Item) (rest : Items) (p : ℕ) → OnlyAll W (Items.next i rest) p → Only W i p
    only_head i rest p h q low high w = by (h q low (omega (arith, high)) w)
      where
        by : (Begins g i p q ⊎ BeginsAll g rest (p + places g i) q) → Begins g i p q
        by (inl b) = b
        by (inr b) = absurd (let z = all_between rest (p + places g i) q b in let n : ⊥ = omega (arith, z.0, high) in n)

    pub only_tail : (i : Item) (rest : Items) (p : ℕ) → OnlyAll W (Items.next i rest) p → OnlyAll W rest (p + places g i)
    only_tail i rest p h q low high w = by (h q (omega (arith, low)) (omega (arith, high)) w)
      where
        by : (Begins g i p q ⊎ BeginsAll g rest (p + places g i) q) → BeginsAll g rest (p + places g i) q
        by (inl b) = absurd (let z = begins_between i p q b in let n : ⊥ = omega (arith, z.1, low) in n)
        by (inr b) = b

    inner : (x : Items) (p q : ℕ) → p + 1 ≤ q → ((q ≡ p) ⊎ BeginsAll g x (p + 1) q) → BeginsAll g x (p + 1) q
    inner x p q low (inl z) = absurd (let n : ⊥ = omega (arith, z, low) in n)
    inner x p q low (inr b) = b

    pub only_block : (x : Items) (p : ℕ) → Only W (Item.Block x) p → OnlyAll W x (p + 1)
    only_block x p h q low high w = inner x p q low (h q (omega (arith, low)) (omega (arith, high)) w)

    pub only_loop : (x : Items) (p : ℕ) → Only W (Item.Loop x) p → OnlyAll W x (p + 1)
    only_loop x p h q low high w = inner x p q low (h q (omega (arith, low)) (omega (arith, high)) w)

    pub only_inner : (x : Items) (p : ℕ) → Only W (Item.Inner x) p → OnlyAll W x (p + 1)
    only_inner x p h q low high w = inner x p q low (h q (omega (arith, low)) (omega (arith, high)) w)

    pub only_first : (c : ℕ) (x y : Items) (p : ℕ) → Only W (Item.If c x y) p → OnlyAll W x (p + 1)
    only_first c x y p h q low high w = by (h q (omega (arith, low)) (omega (arith, high)) w)
      where
        by : ((q ≡ p) ⊎ (BeginsAll g x (p + 1) q ⊎ BeginsAll g y (p + 1 + all_places g x) q)) → BeginsAll g x (p + 1) q
        by (inl z) = absurd (let n : ⊥ = omega (arith, z, low) in n)
        by (inr (inl b)) = b
        by (inr (inr b)) = absurd (let z = all_between y (p + 1 + all_places g x) q b in let n : ⊥ = omega (arith, z.0, high) in n)

    pub only_second : (c : ℕ) (x y : Items) (p : ℕ) → Only W (Item.If c x y) p → OnlyAll W y (p + 1 + all_places g x)
    only_second c x y p h q low high w = by (h q (omega (arith, low)) (omega (arith, high)) w)
      where
        by : ((q ≡ p) ⊎ (BeginsAll g x (p + 1) q ⊎ BeginsAll g y (p + 1 + all_places g x) q)) → BeginsAll g y (p + 1 + all_places g x) q
        by (inl z) = absurd (let n : ⊥ = omega (arith, z, low) in n)
        by (inr (inl b)) = absurd (let z = all_between x (p + 1) q b in let n : ⊥ = omega (arith, z.1, low) in n)
        by (inr (inr b)) = b

-- ---- Claims

one_place : (s : FStep) → 0 < step_places s
one_place (FStep.If c a b) = omega arith
one_place (FStep.Block a) = omega arith
one_place (FStep.Loop a) = omega arith
one_place (FStep.Inner a) = omega arith
one_place s = omega arith

pub if_on_map : (r : Run Way) (P Q : FPoint → Type 0) → ((t : FPoint) → P t → Q t) → IfOn r P → IfOn r Q
if_on_map (Answer.Goes Way.On t) P Q f h = f t h
if_on_map (Answer.Goes (Way.Out n) t) P Q f h = h
if_on_map (Answer.Goes (Way.Back n) t) P Q f h = h
if_on_map (Answer.Ends e t) P Q f h = h

turns_map : (n : ℕ) (body : FPoint → Run Way) (P Q : FPoint → Type 0) → ((t : FPoint) → P t → Q t) → (u : FPoint) → InTurns n body P u → InTurns n body Q u
turns_map zero body P Q f u h = tt
turns_map (suc n) body P Q f u h = (
  f (point u.words (spend turn_charge u.world)) h.0,
  if_on_map (body (point u.words (spend turn_charge u.world))) (InTurns n body P) (InTurns n body Q) (λ t k. turns_map n body P Q f t k) h.1,
)

either_map : (b : Bool) (A B A' B' : FPoint → Type 0) (u : FPoint) → (A u → A' u) → (B u → B' u) → either b A B u → either b A' B' u
either_map true A B A' B' u f k h = f h
either_map false A B A' B' u f k h = k h

module _ (g : ℕ) (call : Calls) (m frame : ℕ) (inside : (function : ℕ) → (args : List ℕ) → FPoint → Type 0) (C D : Claim) where
  abbrev MapsBetween : (p n : ℕ) → Type 0
  MapsBetween p n = (q : ℕ) (x : FStep) (t : FPoint) → p ≤ q → q < p + n → C q x t → D q x t

  mutual
    map_step : (s : FStep) (p : ℕ) (u : FPoint) → ((q : ℕ) (x : FStep) (t : FPoint) → p < q → q < p + step_places s → C q x t → D q x t) → InStep g call m frame inside C s p u → InStep g call m frame inside D s p u
    map_step (FStep.If c a b) p u f h = either_map (u.words c == 0) (InSteps g call m frame inside C b (p + 1 + steps_places a)) (InSteps g call m frame inside C a (p + 1)) (InSteps g call m frame inside D b (p + 1 + steps_places a)) (InSteps g call m frame inside D a (p + 1)) u
        (λ k. map_steps b (p + 1 + steps_places a) u (λ q x t low high. f q x t (omega (arith, low)) (omega (arith, high))) k)
        (λ k. map_steps a (p + 1) u (λ q x t low high. f q x t (omega (arith, low)) (omega (arith, high))) k) h
    map_step (FStep.Block a) p u f h = map_steps a (p + 1) u (λ q x t low high. f q x t (omega (arith, low)) (omega (arith, high))) h
    map_step (FStep.Loop a) p u f h = turns_map m (act_all g call m frame a) (InSteps g call m frame inside C a (p + 1)) (InSteps g call m frame inside D a (p + 1)) (λ t k. map_steps a (p + 1) t (λ q x v low high. f q x v (omega (arith, low)) (omega (arith, high))) k) u h
    map_step (FStep.Inner a) p u f h = turns_map (inner_turns m) (act_all g call m frame a) (InSteps g call m frame inside C a (p + 1)) (InSteps g call m frame inside D a (p + 1)) (λ t k. map_steps a (p + 1) t (λ q x v low high. f q x v (omega (arith, low)) (omega (arith, high))) k) u h
    map_step (FStep.Call a b c) p u f h = h
    map_step (FStep.Number a b) p u f h = tt
    map_step (FStep.Same a b) p u f h = tt
    map_step (FStep.Arith a b c d) p u f h = tt
    map_step (FStep.Exit a) p u f h = tt
    map_step (FStep.Return a) p u f h = tt
    map_step (FStep.Slot a b) p u f h = tt
    map_step (FStep.Look a b) p u f h = tt
    map_step (FStep.FrameAt a b) p u f h = tt
    map_step (FStep.Load a b c) p u f h = tt
    map_step (FStep.Store a b c) p u f h = tt
    map_step (FStep.Checked a b) p u f h = tt
    map_step (FStep.LineMark a) p u f h = tt
    map_step (FStep.Report a b) p u f h = tt
    map_step (FStep.Env a b c d) p u f h = tt

    map_steps : (xs : FSteps) (p : ℕ) (u : FPoint) → MapsBetween p (steps_places xs) → InSteps g call m frame inside C xs p u → InSteps g call m frame inside D xs p u
    map_steps FSteps.none p u f h = tt
    map_steps (FSteps.more s rest) p u f h = (
      f p s u (omega arith) (let z = one_place s in omega (arith, z)) h.0,
      map_step s p (point u.words (spend (charge s) u.world)) (λ q x t low high. f q x t (omega (arith, low)) (omega (arith, high))) h.1,
      if_on_map (act g call m frame s (point u.words (spend (charge s) u.world))) (InSteps g call m frame inside C rest (p + step_places s)) (InSteps g call m frame inside D rest (p + step_places s))
          (λ t k. map_steps rest (p + step_places s) t (λ q x v low high. f q x v (omega (arith, low)) (omega (arith, high))) k) h.2,
    )

  -- the claim of the first step, and those of the others
  pub strengthen : (xs : FSteps) (p : ℕ) (u : FPoint) → ((s : FStep) → C p s u → D p s u) → ((q : ℕ) (x : FStep) (t : FPoint) → p < q → q < p + steps_places xs → C q x t → D q x t) → InSteps g call m frame inside C xs p u → InSteps g call m frame inside D xs p u
  strengthen FSteps.none p u first f h = tt
  strengthen (FSteps.more s rest) p u first f h = (
    first s h.0,
    map_step s p (point u.words (spend (charge s) u.world)) (λ q x t low high. f q x t low (omega (arith, high))) h.1,
    if_on_map (act g call m frame s (point u.words (spend (charge s) u.world))) (InSteps g call m frame inside C rest (p + step_places s)) (InSteps g call m frame inside D rest (p + step_places s))
        (λ t k. map_steps rest (p + step_places s) t (λ q x v low high. f q x v (let z = one_place s in omega (arith, z, low)) (omega (arith, high))) k) h.2,
  )

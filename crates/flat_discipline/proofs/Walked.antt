-- The items of steps that are gone over one after another.
use Rattle.std.proofs.Common.{◌≡◌, ℕ, zero, suc, ◌+◌, ◌-◌, ◌<◌, ◌≤◌, List, [], ◌∷◌, ◌++◌, length, length-drop, get_or, take, drop, Option, Some, None, refl, sym, ap, ◌∙◌, arith, append_assoc}
use Rattle.std.proofs.lemmas.List.{at_drop_more, drop_all, take_all, append-nil}
use Rattle.flat_code.specs.declared.code.FlatStep.{FlatStep}
use Rattle.flat_code.specs.Code.{FStep, FSteps}
use Rattle.flat_code.specs.CodeViews.{step_of, steps_of}
use Rattle.flat_code.specs.Recognized.{Sequence, sequence_steps, sequence_at, count, further}
use Rattle.flat_discipline.specs.Items.{Item, Items, item_or, item_of, items_from, items_of, step_places, steps_places, places, all_places, first_place}
use Rattle.flat_discipline.proofs.Lands.{places_append}
use Rattle.flat_discipline.proofs.Recognized.{drop_steps, began, IsAt, sequence_is_at, long}

next_in : {X Y : Type 0} (G : List X → Y) (xs : List X) (i : ℕ) (x : X) → i < length xs → x ≡ get_or xs i x → G (drop i xs) ≡ G (x ∷ drop (i + 1) xs)
next_in G xs i x lt is = at_drop_more G xs i x lt ∙ ap (λ z. G (z ∷ drop (i + 1) xs)) (sym is)

end_in : {X Y : Type 0} (G : List X → Y) (xs : List X) (i : ℕ) → length xs ≤ i → G (drop i xs) ≡ G []
end_in G xs i le = ap G (drop_all i xs le)

skipped : (g k : ℕ) (s : FStep) (rest : FSteps) → 0 < k → items_from g k (FSteps.more s rest) ≡ items_from g (k - 1) rest
skipped g zero s rest lt = absurd (let q : ⊥ = omega (arith, lt) in q)
skipped g (suc k) s rest lt = ap (λ n. items_from g n rest) (let e : k ≡ suc k - 1 = omega arith in e)

nothing_left : (g skip : ℕ) → items_from g skip FSteps.none ≡ Items.end
nothing_left g zero = refl
nothing_left g (suc skip) = refl

pub whole_rest : (xs : List FlatStep) (i : ℕ) → take (length xs - i) (drop i xs) ≡ drop i xs
whole_rest xs i = take_all (length xs - i) (drop i xs) (omega (arith, length-drop i xs))

-- ---- Loops over items

-- Of each item comes `one`, by the state before it and the items behind it; `go` is the state after it.
module _ {X State : Type 0} (g : ℕ) (one : State → Item → Items → List X) (all : State → Items → List X) (go : State → Item → State)
    (none_is : (st : State) → all st Items.end ≡ []) (more_is : (st : State) (i : Item) (rest : Items) → all st (Items.next i rest) ≡ one st i rest ++ all (go st i) rest) where
  pub skip_in : (st : State) (skip : ℕ) (xs : List FlatStep) (i : ℕ) (x : FlatStep) (done total : List X) → i < length xs → x ≡ get_or xs i x → 0 < skip
      → done ++ all st (items_from g skip (steps_of (drop i xs))) ≡ total → done ++ all st (items_from g (skip - 1) (steps_of (drop (i + 1) xs))) ≡ total
  skip_in st skip xs i x done total lt is pos left =
      ap (λ z. done ++ all st z) (sym (next_in (λ z. items_from g skip (steps_of z)) xs i x lt is ∙ skipped g skip (step_of x) (steps_of (drop (i + 1) xs)) pos)) ∙ left

  pub one_in : (st after : State) (skip behind : ℕ) (xs : List FlatStep) (i : ℕ) (x : FlatStep) (o : Option Sequence) (done new total : List X)
      → i < length xs → x ≡ get_or xs i x → skip ≡ 0 → sequence_at g (steps_of (drop i xs)) ≡ o → behind ≡ further g o → after ≡ go st (item_or o (item_of g (step_of x)))
      → new ≡ done ++ one st (item_or o (item_of g (step_of x))) (items_from g behind (steps_of (drop (i + 1) xs)))
      → done ++ all st (items_from g skip (steps_of (drop i xs))) ≡ total → new ++ all after (items_from g behind (steps_of (drop (i + 1) xs))) ≡ total
  one_in st after skip behind xs i x o done new total lt is none_left found far goes made left =
      let rest = steps_of (drop (i + 1) xs) in
      let item = item_or o (item_of g (step_of x)) in
      let tail = items_from g behind rest in
      let here : sequence_at g (FSteps.more (step_of x) rest) ≡ o = sym (next_in (λ z. sequence_at g (steps_of z)) xs i x lt is) ∙ found in
      let begun : items_from g skip (steps_of (drop i xs)) ≡ Items.next item tail =
      ap (λ k. items_from g k (steps_of (drop i xs))) none_left ∙ next_in (λ z. items_from g 0 (steps_of z)) xs i x lt is
      ∙ ap (λ z. Items.next (item_or z (item_of g (step_of x))) (items_from g (further g z) rest)) here
      ∙ ap (λ n. Items.next item (items_from g n rest)) (sym far) in
      ap (λ z. new ++ all z tail) goes ∙ ap (λ p. p ++ all (go st item) tail) made ∙ append_assoc done (one st item tail) (all (go st item) tail)
      ∙ ap (λ p. done ++ p) (sym (more_is st item tail)) ∙ ap (λ z. done ++ all st z) (sym begun) ∙ left

  pub ended : (st : State) (skip : ℕ) (xs : List FlatStep) (i : ℕ) (done total : List X) → length xs ≤ i → done ++ all st (items_from g skip (steps_of (drop i xs))) ≡ total → done ≡ total
  ended st skip xs i done total le left =
      sym (append-nil done) ∙ ap (λ z. done ++ z) (sym (none_is st)) ∙ ap (λ z. done ++ all st z) (sym (end_in (λ z. items_from g skip (steps_of z)) xs i le ∙ nothing_left g skip)) ∙ left

pub both_same : {X Y : Type 0} (x z : X) (y w : Y) → x ≡ z → y ≡ w → ◌≡◌ {A = X × Y} (x, y) (z, w)
both_same {X} {Y} x z y w e f =
    let first : ◌≡◌ {A = X × Y} (x, y) (z, y) = ap (λ (u : X). (u, y)) e in
    let second : ◌≡◌ {A = X × Y} (z, y) (z, w) = ap (λ (u : Y). (z, u)) f in
    first ∙ second

-- ---- Places

module _ (g : ℕ) where
  of_front : (o : Option Sequence) (s : FStep) (rest : FSteps) (n : ℕ) → IsAt g o (FSteps.more s rest) → n ≡ steps_places (drop_steps (further g o) rest) → places g (item_of g s) ≡ step_places s → places g (item_or o (item_of g s)) + n ≡ step_places s + steps_places rest
  of_front None s rest n at e is = omega (arith, e, is)
  of_front (Some q) s rest n at e is =
      let tail = drop_steps (count (sequence_steps g q)) (FSteps.more s rest) in
      let whole : step_places s + steps_places rest ≡ steps_places (sequence_steps g q) + steps_places tail = ap steps_places (began (sequence_steps g q) (FSteps.more s rest) at.0) ∙ places_append (sequence_steps g q) tail in
      let same : steps_places tail ≡ n = ap (λ k. steps_places (drop_steps k (FSteps.more s rest))) (long g q) ∙ sym e in
      omega (arith, whole, same)

  mutual
    pub item_size : (s : FStep) → places g (item_of g s) ≡ step_places s
    item_size (FStep.If c a b) = ap (λ n. 1 + n + all_places g (items_from g 0 b)) (items_size 0 a) ∙ ap (λ n. 1 + steps_places a + n) (items_size 0 b)
    item_size (FStep.Block a) = ap (λ n. 1 + n) (items_size 0 a)
    item_size (FStep.Loop a) = ap (λ n. 1 + n) (items_size 0 a)
    item_size (FStep.Inner a) = ap (λ n. 1 + n) (items_size 0 a)
    item_size (FStep.Number a x) = refl
    item_size (FStep.Same a x) = refl
    item_size (FStep.Arith a f x y) = refl
    item_size (FStep.Exit a) = refl
    item_size (FStep.Call a f x) = refl
    item_size (FStep.Return a) = refl
    item_size (FStep.Slot a x) = refl
    item_size (FStep.Look a x) = refl
    item_size (FStep.FrameAt a x) = refl
    item_size (FStep.Load a x n) = refl
    item_size (FStep.Store a x n) = refl
    item_size (FStep.Checked a x) = refl
    item_size (FStep.LineMark a) = refl
    item_size (FStep.Report a x) = refl
    item_size (FStep.Env a x y z) = refl

    items_size : (k : ℕ) (a : FSteps) → all_places g (items_from g k a) ≡ steps_places (drop_steps k a)
    items_size zero FSteps.none = refl
    items_size (suc k) FSteps.none = refl
    items_size (suc k) (FSteps.more s rest) = items_size k rest
    items_size zero (FSteps.more s rest) =
        let o = sequence_at g (FSteps.more s rest) in
        of_front o s rest (all_places g (items_from g (further g o) rest)) (sequence_is_at g (FSteps.more s rest)) (items_size (further g o) rest) (item_size s)

  -- the items of steps have the places of the steps
  pub body_size : (a : FSteps) → all_places g (items_of g a) ≡ steps_places a
  body_size a = items_size 0 a

  -- which place comes next: that of the first item that is left
  pub first_left : (k p after : ℕ) (xs : List FlatStep) → k < length xs → first_place (items_from g k (steps_of xs)) p after ≡ p
  first_left k p after [] l = absurd (let z : ⊥ = omega (arith, l) in z)
  first_left zero p after (x ∷ xs) l = refl
  first_left (suc k) p after (x ∷ xs) l = first_left k p after xs (omega (arith, l))

  pub none_left : (k p after : ℕ) (xs : List FlatStep) → length xs ≤ k → first_place (items_from g k (steps_of xs)) p after ≡ after
  none_left zero p after [] l = refl
  none_left (suc k) p after [] l = refl
  none_left zero p after (x ∷ xs) l = absurd (let z : ⊥ = omega (arith, l) in z)
  none_left (suc k) p after (x ∷ xs) l = none_left k p after xs (omega (arith, l))

-- Code as items: plain steps, sequences where they stand, and constructs of further items. Each step has a place in its
-- function: its number in the order in which the steps stand, a construct before the steps inside it.
use Rattle.std.specs.Prelude.{◌≡◌, ◌⊎◌, ℕ, zero, suc, ◌+◌, Option, Some, None}
use Rattle.flat_code.specs.Code.{FStep, FSteps, ◌+++◌}
use Rattle.flat_code.specs.Recognized.{Sequence, sequence_steps, sequence_at, further}

mutual
  pub data Item : Type 0 where
    Plain : (s : FStep) → Item
    Checks : (q : Sequence) → Item
    If : (cond : ℕ) → (first second : Items) → Item
    Block : (body : Items) → Item
    Loop : (body : Items) → Item
    Inner : (body : Items) → Item

  pub data Items : Type 0 where
    end : Items
    next : (i : Item) → (rest : Items) → Items

-- ---- The steps of items

abbrev mutual
  pub item_steps : (g : ℕ) → Item → FSteps
  item_steps g (Item.Plain s) = FSteps.more s FSteps.none
  item_steps g (Item.Checks q) = sequence_steps g q
  item_steps g (Item.If cond first second) = FSteps.more (FStep.If cond (all_steps g first) (all_steps g second)) FSteps.none
  item_steps g (Item.Block body) = FSteps.more (FStep.Block (all_steps g body)) FSteps.none
  item_steps g (Item.Loop body) = FSteps.more (FStep.Loop (all_steps g body)) FSteps.none
  item_steps g (Item.Inner body) = FSteps.more (FStep.Inner (all_steps g body)) FSteps.none

  pub all_steps : (g : ℕ) → Items → FSteps
  all_steps g Items.end = FSteps.none
  all_steps g (Items.next i rest) = item_steps g i +++ all_steps g rest

-- ---- The items of steps

abbrev pub item_or : Option Sequence → Item → Item
item_or None i = i
item_or (Some q) i = Item.Checks q

-- the items of the steps after the first n
abbrev mutual
  pub item_of : (g : ℕ) → FStep → Item
  item_of g (FStep.If cond first second) = Item.If cond (items_from g 0 first) (items_from g 0 second)
  item_of g (FStep.Block body) = Item.Block (items_from g 0 body)
  item_of g (FStep.Loop body) = Item.Loop (items_from g 0 body)
  item_of g (FStep.Inner body) = Item.Inner (items_from g 0 body)
  item_of g s = Item.Plain s

  pub items_from : (g n : ℕ) → FSteps → Items
  items_from g n FSteps.none = Items.end
  items_from g (suc n) (FSteps.more s rest) = items_from g n rest
  items_from g zero (FSteps.more s rest) =
      let found = sequence_at g (FSteps.more s rest) in
      Items.next (item_or found (item_of g s)) (items_from g (further g found) rest)

abbrev pub items_of : (g : ℕ) → FSteps → Items
items_of g steps = items_from g 0 steps

-- ---- Places

-- how many places a step has: its own, and those of the steps inside it
abbrev mutual
  pub step_places : FStep → ℕ
  step_places (FStep.If cond first second) = 1 + steps_places first + steps_places second
  step_places (FStep.Block body) = 1 + steps_places body
  step_places (FStep.Loop body) = 1 + steps_places body
  step_places (FStep.Inner body) = 1 + steps_places body
  step_places s = 1

  pub steps_places : FSteps → ℕ
  steps_places FSteps.none = 0
  steps_places (FSteps.more s rest) = step_places s + steps_places rest

abbrev mutual
  pub places : (g : ℕ) → Item → ℕ
  places g (Item.Plain s) = 1
  places g (Item.Checks q) = steps_places (sequence_steps g q)
  places g (Item.If cond first second) = 1 + all_places g first + all_places g second
  places g (Item.Block body) = 1 + all_places g body
  places g (Item.Loop body) = 1 + all_places g body
  places g (Item.Inner body) = 1 + all_places g body

  pub all_places : (g : ℕ) → Items → ℕ
  all_places g Items.end = 0
  all_places g (Items.next i rest) = places g i + all_places g rest

-- the place of the first of these items, which stand from a place on; or the place after them
abbrev pub first_place : Items → (place after : ℕ) → ℕ
first_place Items.end place after = after
first_place (Items.next i rest) place after = place

-- an item begins at place q, of those that stand from place p on: a step outside of sequences, or the first step of one
module _ (g : ℕ) where
  abbrev mutual
    pub Begins : Item → (p q : ℕ) → Type 0
    Begins (Item.Plain s) p q = q ≡ p
    Begins (Item.Checks x) p q = q ≡ p
    Begins (Item.If cond first second) p q = (q ≡ p) ⊎ (BeginsAll first (p + 1) q ⊎ BeginsAll second (p + 1 + all_places g first) q)
    Begins (Item.Block body) p q = (q ≡ p) ⊎ BeginsAll body (p + 1) q
    Begins (Item.Loop body) p q = (q ≡ p) ⊎ BeginsAll body (p + 1) q
    Begins (Item.Inner body) p q = (q ≡ p) ⊎ BeginsAll body (p + 1) q

    pub BeginsAll : Items → (p q : ℕ) → Type 0
    BeginsAll Items.end p q = ⊥
    BeginsAll (Items.next i rest) p q = Begins i p q ⊎ BeginsAll rest (p + places g i) q

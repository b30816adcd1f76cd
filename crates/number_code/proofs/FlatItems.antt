-- Flat code without sequences, item by item.
use Rattle.std.proofs.Common.{◌≡◌, ℕ, refl, ap, ◌∙◌, sym}
use Rattle.flat_code.specs.Code.{FStep, FSteps, none, more, ◌+++◌}
use Rattle.flat_discipline.specs.Items.{Item, Items, item_steps, all_steps, items_of}
use Rattle.flat_discipline.specs.Laws.{PlainItemsAreRead, ArePlainly}

abbrev mutual
  -- each step is an item
  pub plain_item : FStep → Item
  plain_item (FStep.If cond xs ys) = Item.If cond (plain_items xs) (plain_items ys)
  plain_item (FStep.Block body) = Item.Block (plain_items body)
  plain_item (FStep.Loop body) = Item.Loop (plain_items body)
  plain_item (FStep.Inner body) = Item.Inner (plain_items body)
  plain_item s = Item.Plain s

  pub plain_items : FSteps → Items
  plain_items none = Items.end
  plain_items (more s rest) = Items.next (plain_item s) (plain_items rest)

module _ (g : ℕ) where
  mutual
    item_is_step : (s : FStep) → item_steps g (plain_item s) ≡ more s none
    item_is_step (FStep.If cond xs ys) = ap (λ z. more (FStep.If cond z (all_steps g (plain_items ys))) none) (items_are_steps xs) ∙ ap (λ z. more (FStep.If cond xs z) none) (items_are_steps ys)
    item_is_step (FStep.Block body) = ap (λ z. more (FStep.Block z) none) (items_are_steps body)
    item_is_step (FStep.Loop body) = ap (λ z. more (FStep.Loop z) none) (items_are_steps body)
    item_is_step (FStep.Inner body) = ap (λ z. more (FStep.Inner z) none) (items_are_steps body)
    item_is_step s = refl

    items_are_steps : (xs : FSteps) → all_steps g (plain_items xs) ≡ xs
    items_are_steps none = refl
    items_are_steps (more s rest) = ap (λ z. z +++ all_steps g (plain_items rest)) (item_is_step s) ∙ ap (more s) (items_are_steps rest)

  -- where none begins a sequence, these are the items of the code
  pub plain_is_read : PlainItemsAreRead → (xs : FSteps) → ArePlainly (plain_items xs) → items_of g xs ≡ plain_items xs
  plain_is_read read xs plainly = ap (items_of g) (sym (items_are_steps xs)) ∙ read g (plain_items xs) plainly

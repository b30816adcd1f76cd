use Rattle.std.proofs.Common.{◌≡◌, ◌+◌, ℕ}
use Rattle.std.specs.Prelude.{drop}
use Rattle.flat_discipline.specs.Items.{all_places}
use Rattle.flat_verify.specs.ItemViews.{as_items}
use Rattle.flat_verify.proofs.items.+places.Given as goal

abbrev pub invariant-all_places-loop-item : goal.invariant-all_places-loop-item
invariant-all_places-loop-item l = (g : ℕ) → l.n + all_places g (as_items (drop l.item-index l.items)) ≡ all_places g (as_items l.items)

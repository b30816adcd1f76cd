-- What the items of the program stand for.
use Rattle.std.specs.Prelude.{ℕ, List, [], ◌∷◌, map, Vec}
use Rattle.std.specs.Global.{Global}
use Rattle.flat_code.specs.Code.{FFunction}
use Rattle.flat_code.specs.CodeViews.{step_of}
use Rattle.flat_code.specs.SequenceViews.{sequence_of}
use Rattle.flat_verify.specs.declared.items.FlatItem.{FlatItem, fold-FlatItem}
use Rattle.flat_verify.specs.declared.items.FlatItem.TheOpen.{FlatItem-F}
use Rattle.flat_discipline.specs.Items.{Item, Items, items_of}

-- the items of a list
abbrev pub items : List Item → Items
items [] = Items.end
items (i ∷ is) = Items.next i (items is)

abbrev pub item_level : FlatItem-F Item → Item
item_level (FlatItem-F.Plain step) = Item.Plain (step_of step.now)
item_level (FlatItem-F.Checks sequence) = Item.Checks (sequence_of sequence)
item_level (FlatItem-F.If cond first second) = Item.If cond (items first.items) (items second.items)
item_level (FlatItem-F.Block body) = Item.Block (items body.items)
item_level (FlatItem-F.Loop body) = Item.Loop (items body.items)
item_level (FlatItem-F.Inner body) = Item.Inner (items body.items)

-- the item that a `FlatItem` stands for
abbrev pub as_item : FlatItem → Item
as_item = fold-FlatItem Item item_level

abbrev pub as_items : List FlatItem → Items
as_items xs = items (map as_item xs)

-- the bodies of functions
abbrev pub as_bodies : List (Vec FlatItem Global) → List Items
as_bodies bodies = map (λ b. as_items b.items) bodies

abbrev pub bodies_of : (g : ℕ) → List FFunction → List Items
bodies_of g functions = map (λ f. items_of g f.body) functions

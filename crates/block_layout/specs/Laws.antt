-- What follows for every layout.
use Rattle.std.specs.Prelude.{◌≡◌, ℕ, ◌+◌, ◌%◌, ◌^◌, ◌≤◌, All, List, [], ◌∷◌, length}
use Rattle.size_table.specs.Pads.{IsExponentOf}
use Rattle.typed_tree.specs.TypedTree.{CProgram}
use Rattle.typed_tree.specs.Typed.{Typed}
use Rattle.block_layout.specs.Layout.{Item, Placed, AreSmall, layout, total_of}
use Rattle.block_layout.specs.Objects.{global_items, block_items}

-- each begins where the one before ends, the first at `from`, and the last ends at `to`
abbrev pub FollowEachOther : (from to : ℕ) → List Placed → Type 0
FollowEachOther from to [] = from ≡ to
FollowEachOther from to (p ∷ ps) = (p.offset ≡ from) × FollowEachOther (from + 2 ^ p.exponent) to ps

-- It is padded to the least power of two that serves, and begins at a multiple of it.
pub record IsAligned (g : ℕ) (p : Placed) : Type 0 where
  pub exponent : IsExponentOf g p.length p.exponent
  pub aligned : p.offset % 2 ^ p.exponent ≡ 0

-- the largest ones come first
abbrev pub Decline : (most : ℕ) → List Placed → Type 0
Decline most [] = Unit {0}
Decline most (p ∷ ps) = (p.exponent ≤ most) × Decline p.exponent ps

-- The blocks of a layout are aligned to their sizes, meet nowhere and leave no gaps, the largest first.
pub record LiesWell (g : ℕ) (items : List Item) (ps : List Placed) : Type 0 where
  pub count : length ps ≡ length items
  pub follow : FollowEachOther 0 (total_of g items) ps
  pub aligned : All (IsAligned g) ps
  pub decline : Decline 24 ps

abbrev pub LayoutsLieWell : Type 0
LayoutsLieWell = (g : ℕ) (items : List Item) → g ≤ 24 → AreSmall items → LiesWell g items (layout g items)

-- The objects of a typed program have at most 1,048,576 bytes each.
pub record HasSmallObjects (p : CProgram) : Type 0 where
  pub globals : AreSmall (global_items p)
  pub frames : All (λ f. AreSmall (block_items f)) p.functions

abbrev pub TypedHasSmallObjects : Type 0
TypedHasSmallObjects = (p : CProgram) → Typed p → HasSmallObjects p

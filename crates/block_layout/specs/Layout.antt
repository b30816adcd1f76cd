-- How objects are padded and laid out (Akritidis et al., Baggy Bounds Checking, section 3): each object is padded to a
-- power of two of at least a slot, and objects lie one after another by declining padded size, so that each begins at a
-- multiple of its own. A slot has 2 ^ g bytes.
use Rattle.std.specs.Prelude.{◌==◌, ◌≤◌, ℕ, zero, suc, ◌+◌, ◌-◌, ◌*◌}
use Rattle.std.specs.Prelude.{◌/◌, ◌^◌, List, [], ◌∷◌, ◌++◌, if◌then◌else◌}
use Rattle.size_table.specs.declared.memory_map.TheConstants.{MOST_BYTES}
use Rattle.size_table.specs.Pads.{exponent_of}

-- an object that is to be laid out: its number, and how many bytes it has
pub record Item : Type 0 where
  pub number : ℕ
  pub length : ℕ

-- an object that is laid out, so many bytes from the start, and padded to 2 ^ exponent bytes
pub record Placed : Type 0 where
  pub number : ℕ
  pub offset : ℕ
  pub exponent : ℕ
  pub length : ℕ

abbrev pub pad : ℕ → Item → ℕ
pad g item = 2 ^ exponent_of g item.length

-- the items that are padded to 2 ^ e bytes, in their own order
abbrev pub padded_to : (g e : ℕ) → List Item → List Item
padded_to g e [] = []
padded_to g e (item ∷ items) = if exponent_of g item.length == e then item ∷ padded_to g e items else padded_to g e items

-- the items of the n least padded sizes by declining size, those of one size in their own order
abbrev pub declining : (g n : ℕ) → List Item → List Item
declining g zero items = []
declining g (suc n) items = padded_to g (g + n) items ++ declining g n items

-- one after another, without gaps
abbrev pub placed_from : (g offset : ℕ) → List Item → List Placed
placed_from g offset [] = []
placed_from g offset (item ∷ items) =
    record { number = item.number; offset = offset; exponent = exponent_of g item.length; length = item.length }
    ∷ placed_from g (offset + pad g item) items

-- the layout of objects of at most 2 ^ 24 bytes
unfoldable pub layout : ℕ → List Item → List Placed
layout g items = placed_from g 0 (declining g (25 - g) items)

-- none has more bytes than an object may have
abbrev pub AreSmall : List Item → Type 0
AreSmall [] = Unit {0}
AreSmall (item ∷ items) = (item.length ≤ MOST_BYTES) × AreSmall items

-- how many bytes the objects have with their padding
abbrev pub total_of : ℕ → List Item → ℕ
total_of g [] = 0
total_of g (item ∷ items) = pad g item + total_of g items

-- the exponent of a layout's alignment: that of its largest object, which is the first, or of a slot
abbrev pub alignment_of : ℕ → List Placed → ℕ
alignment_of g [] = g
alignment_of g (placed ∷ rest) = placed.exponent

-- The stack number of a call whose frame holds the objects: the greatest multiple of the frame's alignment that leaves
-- room for them below the caller's.
abbrev pub stack_under : (g stack : ℕ) → List Item → ℕ
stack_under g stack items =
    let unit = 2 ^ alignment_of g (layout g items) in
    (stack - total_of g items) / unit * unit

-- where the object of a number stands in a layout; past its end, if nowhere
abbrev pub position_of : ℕ → List Placed → ℕ
position_of number [] = 0
position_of number (placed ∷ rest) = if placed.number == number then 0 else suc (position_of number rest)

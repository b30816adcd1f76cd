-- What objects in the code stand for.
use Rattle.std.specs.Prelude.{ℕ}
use Rattle.block_layout.specs.Layout.{Item, Placed}
use Rattle.block_layout.specs.Answers.{object_at}
use Rattle.block_layout.specs.declared.globals.Placed as globals
use Rattle.block_layout.specs.declared.frame.FrameBlock.{FrameBlock}
use Rattle.block_layout.specs.declared.object.Object.{Object}
use Rattle.block_layout.specs.declared.object.Spot.{Spot}

abbrev pub item_of : Object → Item
item_of o = record { number = o.number; length = o.length }

abbrev pub placed_of : Spot → Placed
placed_of o = record { number = o.number; offset = o.at; exponent = o.exponent; length = o.length }

-- a global object at the address of a spot, where so many have names
abbrev pub global_of_spot : (named : ℕ) → Spot → globals.Placed
global_of_spot named o = record { object = object_at named o.number; base = o.at; exponent = o.exponent; length = o.length }

-- a block local at a spot
abbrev pub block_of_spot : Spot → FrameBlock
block_of_spot o = record { local = o.number; offset = o.at; exponent = o.exponent; length = o.length }

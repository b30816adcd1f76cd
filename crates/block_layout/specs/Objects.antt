-- The objects of a program that lie in memory: its global objects, and the block locals of each function.
use Rattle.std.specs.Prelude.{ℕ, suc, ◌+◌, List, [], ◌∷◌, ◌++◌, length, map, if◌then◌else◌}
use Rattle.typed_tree.specs.declared.typed.GlobalObject.{GlobalObject}
use Rattle.typed_tree.specs.declared.typed.GlobalObject.TheVariants.{Named, Text}
use Rattle.typed_tree.specs.declared.typed.InitialByte.{InitialByte}
use Rattle.typed_tree.specs.declared.typed.InitialByte.TheVariants.{Byte}
use Rattle.typed_tree.specs.TypedTree.{CGlobal, CLocal, CFunction, CProgram}
use Rattle.block_layout.specs.Layout.{Item}

-- objects of these lengths, numbered one after another
abbrev pub numbered : ℕ → List ℕ → List Item
numbered k [] = []
numbered k (n ∷ ns) = record { number = k; length = n } ∷ numbered (suc k) ns

-- A global object: its length, and what its first bytes hold at the start; all others are zero.
pub record Stored : Type 0 where
  pub length : ℕ
  pub initial : List InitialByte

-- as they are to be laid out
abbrev pub items_of : List Stored → List Item
items_of os = numbered 0 (map (λ o. o.length) os)

abbrev pub stored_global : CGlobal → Stored
stored_global o = record { length = o.size; initial = o.initial }

-- a string with its zero (C11 6.4.5 p6)
abbrev pub stored_text : List ℕ → Stored
stored_text bytes = record { length = length bytes + 1; initial = map Byte bytes }

-- The global objects of a program are its named ones in the order of declaration, and then its strings in the order of the
-- text.
abbrev pub globals_of : CProgram → List Stored
globals_of p = map stored_global p.globals ++ map stored_text p.texts

abbrev pub global_items : CProgram → List Item
global_items p = items_of (globals_of p)

-- the number of a global object in that order, where so many have names
abbrev pub global_number : (named : ℕ) → GlobalObject → ℕ
global_number named (Named k) = k
global_number named (Text k) = named + k

-- the block locals among these, numbered as locals
abbrev pub block_items_from : ℕ → List CLocal → List Item
block_items_from k [] = []
block_items_from k (l ∷ ls) =
    if l.is_block then record { number = k; length = l.size } ∷ block_items_from (suc k) ls else block_items_from (suc k) ls

-- The block locals of a function are those of its locals that lie in memory, in the order of the locals.
abbrev pub block_items : CFunction → List Item
block_items f = block_items_from 0 f.locals

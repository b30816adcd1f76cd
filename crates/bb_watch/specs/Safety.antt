-- Which events are safe, by the blocks that are live: bounds of pointers and accesses, and calls and returns.
use Rattle.std.specs.Prelude.{◌≡◌, ◌≢◌, ◌==◌, ◌⊎◌, ℕ, ◌+◌, ◌-◌, ◌/◌, ◌^◌, ◌<◌}
use Rattle.std.specs.Prelude.{◌≤◌, false, List, [], ◌∷◌, Option, Some, None, IsSome, if◌then◌else◌}
use Rattle.bb_watch.specs.declared.event.Event.{Event}
use Rattle.bb_watch.specs.declared.event.Event.TheVariants.{Move, Access, Call, Return}
use Rattle.bb_watch.specs.Live.{live_after, ever_after, holder, owner}
use Rattle.marked_ptr.specs.Marked.{unmarked}
use Rattle.size_table.specs.declared.memory_map.TheConstants.{TABLE_START, TABLE_END, CONTROL_START, GLOBALS_START}
use Rattle.size_table.specs.Blocks.{Block, end_of}

-- ---- Moves

-- an address in the block
abbrev pub IsInside : Block → ℕ → Type 0
IsInside b word = (word < 2 ^ 31) × (b.base ≤ word) × (word < end_of b)

-- a marked address at most half a slot below the block, or less than half a slot past its end
abbrev pub IsNear : ℕ → Block → ℕ → Type 0
IsNear g b word =
    (2 ^ 31 ≤ word)
    × (((unmarked word < b.base) × (b.base ≤ unmarked word + 2 ^ (g - 1)))
    ⊎ ((end_of b ≤ unmarked word) × (unmarked word < end_of b + 2 ^ (g - 1))))

-- a checked move of a word leads into the live block that owns it, or near it
abbrev pub IsMoveSafe : ℕ → (live ever : List Block) → Event → Type 0
IsMoveSafe g live ever (Move pc from to) = (b : Block) × (owner g from live ≡ Some b) × (IsInside b to ⊎ IsNear g b to)
IsMoveSafe g live ever event = Unit {0}

-- ---- Accesses

-- all bytes lie in one of the blocks
abbrev pub LieIn : (at size : ℕ) → List Block → Type 0
LieIn at size [] = ⊥
LieIn at size (b ∷ bs) = ((b.base ≤ at) × (at + size ≤ end_of b)) ⊎ LieIn at size bs

-- no live block has the slot, and one had it
abbrev pub WasFreed : ℕ → (live ever : List Block) → ℕ → Type 0
WasFreed g live ever slot = (holder g slot live ≡ None) × IsSome (holder g slot ever)

-- Data is accessed by all registers but x2 and x31: in a live block, or by a pointer whose block has ended.
abbrev pub IsAccessSafe : ℕ → (live ever : List Block) → Event → Type 0
IsAccessSafe g live ever (Access pc at size write base) = base ≢ 2 → base ≢ 31 → LieIn at size live ⊎ WasFreed g live ever (at / 2 ^ g)
IsAccessSafe g live ever event = Unit {0}

-- by x2 the control stack is accessed, and by x31 a byte of the size table is read
abbrev pub IsControlSafe : (live ever : List Block) → Event → Type 0
IsControlSafe live ever (Access pc at size write base) =
    (base ≡ 2 → (CONTROL_START ≤ at) × (at + size ≤ GLOBALS_START))
    × (base ≡ 31 → (write ≡ false) × (size ≡ 1) × (TABLE_START ≤ at) × (at < TABLE_END))
IsControlSafe live ever event = Unit {0}

-- each event is so, by the blocks that are live when it comes, and those that were until then
abbrev pub Each : ((live ever : List Block) → Event → Type 0) → (live ever : List Block) → List Event → Type 0
Each P live ever [] = Unit {0}
Each P live ever (event ∷ events) = P live ever event × Each P (live_after event live) (ever_after event ever) events

-- ---- Returns

-- where a call returns to
abbrev pub return_place : ℕ → ℕ
return_place pc = pc + 4

-- The places to which the calls return that have not returned, the last one first. There are none after a return that
-- goes elsewhere than the last of them.
abbrev pub open_after : List ℕ → List Event → Option (List ℕ)
open_after places [] = Some places
open_after places (Call pc target ∷ events) = open_after (return_place pc ∷ places) events
open_after [] (Return pc target ∷ events) = None
open_after (place ∷ places) (Return pc target ∷ events) = if target == place then open_after places events else None
open_after places (event ∷ events) = open_after places events

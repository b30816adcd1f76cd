-- Frames that are entered and left.
use Rattle.std.specs.Prelude.{◌≡◌, ◌==◌, ℕ, ◌-◌, ◌*◌, ◌/◌, ◌^◌, ◌≤◌, List, [], ◌∷◌}
use Rattle.std.specs.Prelude.{◌++◌, reverse, Option, Some, None, length, take, nat_lt, nat_le, if◌then◌else◌, slice_get}
use Rattle.size_table.specs.declared.memory_map.TheConstants.{STACK_START, MOST_CALLS}
use Rattle.size_table.specs.Blocks.{Block}
use Rattle.rv_image.specs.Rules.{total_size}
use Rattle.rv_machine.specs.declared.frames.Entered.{Entered}
use Rattle.rv_machine.specs.declared.frames.Entry.{Entry}
use Rattle.rv_machine.specs.declared.frames.Entry.TheVariants.{NoFrame, TooDeep, NoRoom, Enters}
use Rattle.size_table.specs.Made.{all_made, all_ended, blocks_from}
use Rattle.rv_machine.specs.State.{Core, Frames}

-- the exponent of a frame's alignment: that of its largest block, which is the first, or of a slot
abbrev pub alignment : List ℕ → ℕ
alignment [] = 4
alignment (e ∷ es) = e

-- the stack number under which a frame is entered: the greatest multiple of its alignment that is at most the old
-- number less the bytes of its blocks
abbrev pub stack_under : ℕ → List ℕ → ℕ
stack_under stack es = (stack - total_size es) / 2 ^ alignment es * 2 ^ alignment es

-- what comes of entering a frame: the answer, the frames and the memory, and the blocks that were made
pub record Entering : Type 0 where
  pub answer : Entry
  pub frames : Frames
  pub memory : List ℕ
  pub blocks : List Block

abbrev pub refused : Entry → Frames → List ℕ → Entering
refused answer frames memory = record { answer = answer; frames = frames; memory = memory; blocks = [] }

abbrev pub entered_at : ℕ → ℕ → List ℕ → Frames → List ℕ → Entering
entered_at base k es frames memory = record {
  answer = Enters base;
  frames = record frames { entered = frames.entered ++ (record { frame = k; back = frames.stack } ∷ []); stack = base };
  memory = all_made (blocks_from base es) memory;
  blocks = blocks_from base es;
}

-- Frame k is entered, if there is one. There are at most so many calls, and the data stack goes down to its start.
unfoldable pub enter : Option (List ℕ) → ℕ → Frames → List ℕ → Entering
enter None k frames memory = refused NoFrame frames memory
enter (Some es) k frames memory =
    if nat_le MOST_CALLS (length frames.entered) then refused TooDeep frames memory
    else if nat_lt (stack_under frames.stack es) STACK_START then refused NoRoom frames memory
    else entered_at (stack_under frames.stack es) k es frames memory

-- a frame that is not entered changes nothing
abbrev pub KeepsUnlessEntered : Entry → (old new : Frames) → (old_core new_core : Core) → Type 0
KeepsUnlessEntered (Enters base) old new old_core new_core = Unit {0}
KeepsUnlessEntered NoFrame old new old_core new_core = (new ≡ old) × (new_core ≡ old_core)
KeepsUnlessEntered TooDeep old new old_core new_core = (new ≡ old) × (new_core ≡ old_core)
KeepsUnlessEntered NoRoom old new old_core new_core = (new ≡ old) × (new_core ≡ old_core)

-- what comes of leaving a frame: the stack number that it goes back to, unless it is not left
pub record Leaving : Type 0 where
  pub answer : Option ℕ
  pub frames : Frames
  pub memory : List ℕ
  pub blocks : List Block

abbrev pub not_left : Frames → List ℕ → Leaving
not_left frames memory = record { answer = None; frames = frames; memory = memory; blocks = [] }

-- the blocks that end, the last one first
abbrev pub left_to : ℕ → List ℕ → Frames → List ℕ → Leaving
left_to back es frames memory = record {
  answer = Some back;
  frames = record frames { entered = take (length frames.entered - 1) frames.entered; stack = back };
  memory = all_ended (blocks_from frames.stack es) memory;
  blocks = reverse (blocks_from frames.stack es);
}

-- the last call that was entered and not left
abbrev pub last_entered : Frames → Option Entered
last_entered frames = slice_get frames.entered (length frames.entered - 1)

-- frame k is left, if the last call is of it
unfoldable pub leave : Option Entered → Option (List ℕ) → ℕ → Frames → List ℕ → Leaving
leave (Some call) (Some es) k frames memory = if call.frame == k then left_to call.back es frames memory else not_left frames memory
leave (Some call) None k frames memory = not_left frames memory
leave None layout k frames memory = not_left frames memory

-- ---- Calls that were entered

-- a call was entered when the stack number was `top`, and led to the stack number `base`
pub record IsCall (layouts : List (List ℕ)) (top base : ℕ) (call : Entered) : Type 0 where
  pub exponents : List ℕ
  pub layout : slice_get layouts call.frame ≡ Some exponents
  pub back : call.back ≡ top
  pub under : base ≡ stack_under top exponents
  pub room : STACK_START ≤ base

-- calls were entered one after another, the first when the stack number was `top`, and the last led to `stack`
abbrev pub AreCalls : (layouts : List (List ℕ)) → (top : ℕ) → List Entered → (stack : ℕ) → Type 0
AreCalls layouts top [] stack = top ≡ stack
AreCalls layouts top (call ∷ calls) stack = (base : ℕ) × IsCall layouts top base call × AreCalls layouts base calls stack

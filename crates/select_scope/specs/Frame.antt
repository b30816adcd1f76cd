-- When a machine holds what straight code works on, and what it does at straight code.
use Rattle.std.specs.Prelude.{◌≡◌, ◌⊎◌, ℕ, ◌+◌, ◌*◌, ◌%◌, ◌<◌, ◌≤◌, List, [], ◌∷◌, Bool, length, slice_index}
use Rattle.bb_watch.specs.declared.event.Event.{Event}
use Rattle.bb_watch.specs.declared.event.Event.TheVariants.{Access}
use Rattle.size_table.specs.Memory.{word_at}
use Rattle.size_table.specs.declared.memory_map.TheConstants.{CONTROL_START, GLOBALS_START}
use Rattle.rv_code.specs.declared.instr.Instr.{Instr}
use Rattle.rv_machine.specs.State.{Core, register_of}
use Rattle.rv_machine.specs.Environment.{World}
use Rattle.rv_machine.specs.Machine.{steps}
use Rattle.rv_asm.specs.declared.parts.Part.{Part}
use Rattle.rv_asm.specs.Runs.{IsCoreAt, IsAt, PartsAt, gone}
use Rattle.rv_selected.specs.Steps.{plains}
use Rattle.rv_selected.specs.Straight.{Held, does_all, AreStraight}

-- a control frame of so many words lies in the control stack
pub record IsFrameAt (sp words : ℕ) : Type 0 where
  pub low : CONTROL_START ≤ sp
  pub high : sp + 4 * words ≤ GLOBALS_START
  pub aligned : sp % 4 ≡ 0

-- the core has these registers, and these words in its control frame
pub record HoldsAt (sp words : ℕ) (h : Held) (c : Core) : Type 0 where
  pub registers : (r : ℕ) → r < 32 → register_of c r ≡ h.register r
  pub frame : (v : ℕ) → v < words → word_at c.memory (sp + 4 * v) ≡ h.word (4 * v)
  pub base : h.register 2 ≡ sp

-- bytes beside the control frame stay
abbrev pub StaysBeside : (sp words : ℕ) → (old new : Core) → Type 0
StaysBeside sp words old new = (at : ℕ) → (at < sp) ⊎ (sp + 4 * words ≤ at) → slice_index new.memory at ≡ slice_index old.memory at

-- a word of the control frame is accessed by x2
pub record IsOfFrame (sp words : ℕ) (event : Event) : Type 0 where
  pub pc : ℕ
  pub at : ℕ
  pub write : Bool
  pub is : event ≡ Access pc at 4 write 2
  pub low : sp ≤ at
  pub high : at + 4 ≤ sp + 4 * words

abbrev pub AreOfFrame : (sp words : ℕ) → List Event → Type 0
AreOfFrame sp words [] = Unit {0}
AreOfFrame sp words (event ∷ events) = IsOfFrame sp words event × AreOfFrame sp words events

-- the machine has done straight code, and goes on behind it
pub record DidStraight (text : List ℕ) (behind sp words : ℕ) (code : List Instr) (h : Held) (w : World) : Type 0 where
  pub core : Core
  pub events : List Event
  pub comes : steps (length code) w ≡ gone events core w
  pub place : IsCoreAt text behind core
  pub holds : HoldsAt sp words (does_all code h) core
  pub beside : StaysBeside sp words w.machine.core core
  pub each : AreOfFrame sp words events

-- Straight code that stands in a text is done in as many steps as it has instructions. It tells accesses to the control
-- frame alone, and changes nothing but registers and that frame.
abbrev pub StraightRuns : Type 0
StraightRuns =
    (text : List ℕ) (all : List Part) (labels : ℕ → ℕ) (at behind sp words : ℕ) (code : List Instr) (h : Held) (w : World)
    → 4 * length text ≤ 2093056 → IsFrameAt sp words → PartsAt text all labels at (plains code) behind → IsAt text at w
    → HoldsAt sp words h w.machine.core → AreStraight words code → DidStraight text behind sp words code h w

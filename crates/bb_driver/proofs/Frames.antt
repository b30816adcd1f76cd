-- The functions whose block locals have room, one after another.
use Rattle.std.specs.Prelude.{All, take, slice_get, Some, Err}
use Rattle.std.proofs.Common.{◌≡◌, ℕ, ◌≤◌}
use Rattle.typed_tree.specs.TypedTree.{CFunction, CProgram}
use Rattle.block_layout.specs.Answers.{global_bytes, most_global_bytes, frame_bytes, most_frame_bytes, IsGlobals, IsFrame}
use Rattle.block_layout.specs.declared.error.LayoutError.{LayoutError}
use Rattle.block_layout.specs.declared.error.LayoutError.TheVariants as layout
use Rattle.bb_driver.specs.Sources.{LaysOut, of_layout}

pub globals_refuse : (p : CProgram) (e : LayoutError) → IsGlobals p (Err e) → LaysOut p (Err (of_layout e))
globals_refuse p (layout.GlobalsFull total) h = h
globals_refuse p (layout.FrameFull name total) h = absurd h
globals_refuse p layout.Memory h = tt

pub frame_refuses : (p : CProgram) (k : ℕ) (f : CFunction) (e : LayoutError) → global_bytes p ≤ most_global_bytes → slice_get p.functions k ≡ Some f → All (λ f. frame_bytes f ≤ most_frame_bytes) (take k p.functions) → IsFrame f (Err e) → LaysOut p (Err (of_layout e))
frame_refuses p k f (layout.GlobalsFull total) fit found before h = absurd h
frame_refuses p k f (layout.FrameFull name total) fit found before h = (fit, record { number = k; function = f; found = found; full = h.0; before = before; named = h.1; counts = h.2 })
frame_refuses p k f layout.Memory fit found before h = tt

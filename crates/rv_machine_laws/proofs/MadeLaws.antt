-- The bytes of a block that was made are zero.
use Rattle.std.proofs.Common.{◌≡◌, ℕ, ◌+◌, ◌%◌, ◌≤◌, List, [], ◌∷◌, ◌++◌, get_or, Option, Some, None, refl, sym, ap, subst, ◌∙◌, inl, inr, arith, append-nil}
use Rattle.std.proofs.lemmas.List.{append_cancel_left}
use Rattle.std.proofs.lemmas.List.Elements.{All-nil, All-cons}
use Rattle.std.specs.Prelude.{map, slice_get}
use Rattle.bb_watch.specs.declared.event.Event.{Event}
use Rattle.rv_image.specs.declared.image.Image.{Image}
use Rattle.rv_image.specs.Rules.{IsImage, total_size}
use Rattle.rv_machine.specs.declared.frames.Entry.TheVariants.{NoFrame, TooDeep, NoRoom}
use Rattle.size_table.specs.Made.{blocks_from}
use Rattle.rv_machine.specs.Changes.{IsMadeIn}
use Rattle.rv_machine.specs.Environment.{World, with_machine, telling, calls, gets, puts, kind_of, reports, enters, enter_events, leaving, leaves, leave_events, made_event, ended_event, new_in, mallocs, malloc_events, frees, free_events, freed_blocks, freeing}
use Rattle.bb_watch.specs.Told.{Tell, Output, Happens, events_of}
use Rattle.rv_machine.specs.Formed.{IsFormed}
use Rattle.rv_machine.specs.Frames.{Entering, entered_at, refused, stack_under}
use Rattle.rv_machine.specs.Instruction.{core_events}
use Rattle.rv_machine.specs.Tells.{tells_of}
use Rattle.rv_machine.specs.Machine.{step}
use Rattle.rv_machine.specs.State.{register_of}
use Rattle.rv_machine.proofs.BlockLists.{LieBetween, from_between}
use Rattle.rv_machine.proofs.BlockMemory.{all_made_zero}
use Rattle.rv_machine_laws.proofs.Cases.{by_step, by_call, by_entering}
use Rattle.rv_machine.proofs.Changes.{step_keeps}
use Rattle.rv_machine_laws.proofs.Forms.{is_entered, is_new, entered_world, malloc_world, core_memory}
use Rattle.rv_machine_laws.proofs.HeapLaws.{HeapLaws}
use Rattle.rv_machine_laws.proofs.Tells.{gets_told, step_told}
use Rattle.size_table.specs.Blocks.{Block, IsBlock}
use Rattle.rv_machine_laws.proofs.MemoryLaws.{events_more, reports_told}

MadeZero : World → World → Type 0
MadeZero w v = (more : List Tell) → v.told ≡ w.told ++ more → (at : ℕ) → IsMadeIn (events_of more) at → get_or v.machine.core.memory at 0 ≡ 0

-- nothing is made
none_made : (w v : World) (events : List Event) → v.told ≡ w.told ++ map Happens events → ((at : ℕ) → IsMadeIn events at → ⊥) → MadeZero w v
unfolding MadeZero
none_made w v events told none more e at made =
    absurd (none at (subst (λ (l : List Event). IsMadeIn l at) (events_more w.told more events (sym told ∙ e)) made))

quiet_made : (w v : World) → v.told ≡ w.told → MadeZero w v
quiet_made w v told = none_made w v [] (told ∙ sym (append-nil w.told)) (λ at m. m)

puts_made : (w : World) → MadeZero w (puts w)
unfolding MadeZero
puts_made w more e at made =
    let byte : List Tell = Output (register_of w.machine.core 10 % 256) ∷ [] in
    absurd (subst (λ (l : List Event). IsMadeIn l at) (ap events_of (sym (append_cancel_left w.told byte more e))) made)

ended_made : (bs : List Block) (at : ℕ) → IsMadeIn (map ended_event bs) at → ⊥
ended_made [] at m = m
ended_made (b ∷ bs) at m = ended_made bs at m

-- blocks that are made lie above the size table
made_high : (low high : ℕ) (bs : List Block) (at : ℕ) → 4194304 ≤ low → LieBetween low high bs → IsMadeIn (map made_event bs) at → 4194304 ≤ at
made_high low high [] at l p m = absurd m
made_high low high (b ∷ bs) at l p (inl o) = omega (arith, l, p.0.0, o.0)
made_high low high (b ∷ bs) at l p (inr m) = made_high low high bs at l p.1 m

enters_made : (image : Image) (w : World) → IsImage image → IsFormed image w → MadeZero w (telling enter_events enters w)
unfolding MadeZero
enters_made image w h f =
    let s = w.machine in
    let k = register_of s.core 10 in
    by_entering (λ (e : Entering). MadeZero w (entered_world w e)) (slice_get s.frames.layouts k) k s.frames s.core.memory (record {
      no_frame = none_made w (entered_world w (refused NoFrame s.frames s.core.memory)) [] refl (λ at m. m);
      too_deep = none_made w (entered_world w (refused TooDeep s.frames s.core.memory)) [] refl (λ at m. m);
      no_room = none_made w (entered_world w (refused NoRoom s.frames s.core.memory)) [] refl (λ at m. m);
      enters = λ es layout few room. blocks_made image w k es h f layout room;
    })
  where
    blocks_made : (image : Image) (w : World) (k : ℕ) (es : List ℕ) → IsImage image → IsFormed image w → slice_get w.machine.frames.layouts k ≡ Some es → 12582912 ≤ stack_under w.machine.frames.stack es → MadeZero w (entered_world w (entered_at (stack_under w.machine.frames.stack es) k es w.machine.frames w.machine.core.memory))
    blocks_made image w k es h f layout room more e at made =
        let s = w.machine in
        let base = stack_under s.frames.stack es in
        let bs = blocks_from base es in
        let facts = is_entered image w k es h f layout room in
        let its = subst (λ (l : List Event). IsMadeIn l at) (events_more w.told more (map made_event bs) e) made in
        all_made_zero bs s.core.memory at facts.placed.blocks (core_memory s.core f.core) (made_high base (base + total_size es) bs at (omega (arith, room)) (from_between base es) its) its

leaves_made : (w : World) → MadeZero w (telling leave_events leaves w)
leaves_made w = none_made w (telling leave_events leaves w) (leave_events w.machine) refl (λ at m. ended_made (leaving w.machine).blocks at m)

mallocs_made : HeapLaws → (image : Image) (w : World) → IsImage image → IsFormed image w → MadeZero w (telling malloc_events mallocs w)
unfolding MadeZero
mallocs_made laws image w h f = by (new_in w.machine) refl
  where
    by : (o : Option Block) → new_in w.machine ≡ o → MadeZero w (malloc_world w o)
    by None e = none_made w (malloc_world w None) [] refl (λ at m. m)
    by (Some b) e = λ more e2 at made.
        let s = w.machine in
        let n = is_new laws image w b h f e in
        let its = subst (λ (l : List Event). IsMadeIn l at) (events_more w.told more (made_event b ∷ []) e2) made in
        all_made_zero (b ∷ []) s.core.memory at (All-cons (IsBlock 4) b [] n.block (All-nil (IsBlock 4))) (core_memory s.core f.core) (made_high 16777216 33554432 (b ∷ []) at (omega arith) (n.within, tt) its) its

frees_made : (w : World) → MadeZero w (telling free_events frees w)
frees_made w = none_made w (telling free_events frees w) (free_events w.machine) refl (λ at m. ended_made (freed_blocks (freeing w.machine)) at m)

calls_made : HeapLaws → (image : Image) (w : World) → IsImage image → IsFormed image w → MadeZero w (calls w)
calls_made laws image w h f = by_call (MadeZero w) w (record {
  exit = quiet_made w _ refl;
  getchar = quiet_made w (gets w) (gets_told w.left w);
  putchar = puts_made w;
  malloc = mallocs_made laws image w h f;
  free = frees_made w;
  report = quiet_made w (with_machine reports w) (reports_told w (kind_of (register_of w.machine.core 10)));
  enter = enters_made image w h f;
  leave = leaves_made w;
  other = quiet_made w _ refl;
})

steps_made : HeapLaws → (image : Image) (w : World) → IsImage image → IsFormed image w → MadeZero w (step w)
steps_made laws image w h f = by_step (MadeZero w) w (record {
  ended = quiet_made w w refl;
  goes = λ core g. none_made w _ (core_events w.machine.core) refl (step_keeps w.machine.core core g).blocks.made;
  traps = λ kind. quiet_made w _ refl;
  asks = λ e. calls_made laws image w h f;
})

pub made_is_zero : HeapLaws → (image : Image) (w : World) (at : ℕ) → IsImage image → IsFormed image w → IsMadeIn (events_of (tells_of w.machine)) at → get_or (step w).machine.core.memory at 0 ≡ 0
unfolding MadeZero
made_is_zero laws image w at h f made = steps_made laws image w h f (tells_of w.machine) (step_told w) at made

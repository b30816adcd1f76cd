-- A byte of the memory changes only where an event says so.
use Rattle.std.proofs.Common.{◌≡◌, ℕ, List, [], ◌∷◌, ◌++◌, get_or, Option, Some, None, refl, sym, ap, subst, ◌∙◌}
use Rattle.std.proofs.lemmas.List.{append_cancel_left}
use Rattle.std.proofs.lemmas.List.Elements.{All-nil, All-cons}
use Rattle.std.specs.Prelude.{map, reverse, slice_get}
use Rattle.bb_words.specs.declared.kinds.ReportKind.{ReportKind}
use Rattle.bb_watch.specs.declared.event.Event.{Event}
use Rattle.rv_image.specs.declared.image.Image.{Image}
use Rattle.rv_image.specs.Rules.{IsImage}
use Rattle.size_table.specs.Made.{blocks_from}
use Rattle.rv_machine.specs.Changes.{NoneChanges}
use Rattle.rv_machine.specs.Environment.{World, with_machine, telling, calls, gets, gets_from, kind_of, reports, reported_if, enters, enter_events, leaves, leave_events, made_event, ended_event, new_in, mallocs, malloc_events, Freeing, frees, free_events}
use Rattle.bb_watch.specs.Told.{Tell, Happens, events_of}
use Rattle.rv_machine.specs.Formed.{IsFormed}
use Rattle.rv_machine.specs.Frames.{Entering, Leaving, last_entered, stack_under}
use Rattle.rv_machine.specs.Instruction.{Goes, core_step, core_events}
use Rattle.rv_machine.specs.Tells.{tells_of}
use Rattle.rv_machine.specs.Machine.{step}
use Rattle.rv_machine.specs.State.{Core, register_of, with_core}
use Rattle.rv_machine.proofs.BlockMemory.{all_made_other, all_ended_other}
use Rattle.rv_machine_laws.proofs.Cases.{by_step, by_call, by_entering, by_leaving}
use Rattle.rv_machine.proofs.Changes.{step_keeps}
use Rattle.rv_machine_laws.proofs.Forms.{is_entered, is_left, is_new, is_freed, by_freeing, entered_world, left_world, malloc_world, free_world, core_memory}
use Rattle.rv_machine_laws.proofs.LiveLists.{events_happen}
use Rattle.rv_machine_laws.proofs.HeapLaws.{HeapLaws}
use Rattle.rv_machine_laws.proofs.Tells.{step_told}
use Rattle.size_table.specs.Blocks.{Block, IsBlock}

-- the events of what was told beside what was told before
pub events_more : (told more : List Tell) (events : List Event) → told ++ map Happens events ≡ told ++ more → events_of more ≡ events
events_more told more events e = ap events_of (sym (append_cancel_left told (map Happens events) more e)) ∙ events_happen events

AsTold : World → World → Type 0
AsTold w v = (more : List Tell) → v.told ≡ w.told ++ more → (at : ℕ) → NoneChanges (events_of more) at → get_or v.machine.core.memory at 0 ≡ get_or w.machine.core.memory at 0

unchanged : (w v : World) → v.machine.core.memory ≡ w.machine.core.memory → AsTold w v
unfolding AsTold
unchanged w v same more e at n = ap (λ (m : List ℕ). get_or m at 0) same

pub gets_memory : (w : World) (left : List ℕ) → (gets_from left w).machine.core.memory ≡ w.machine.core.memory
gets_memory w [] = refl
gets_memory w (byte ∷ bytes) = refl

pub reports_told : (w : World) (kind : Option ReportKind) → (with_machine (reported_if kind) w).told ≡ w.told
reports_told w None = refl
reports_told w (Some kind) = refl

pub reports_memory : (w : World) (kind : Option ReportKind) → (with_machine (reported_if kind) w).machine.core.memory ≡ w.machine.core.memory
reports_memory w None = refl
reports_memory w (Some kind) = refl

enters_told : (image : Image) (w : World) → IsImage image → IsFormed image w → AsTold w (telling enter_events enters w)
unfolding AsTold
enters_told image w h f =
    let s = w.machine in
    let k = register_of s.core 10 in
    by_entering (λ (e : Entering). AsTold w (entered_world w e)) (slice_get s.frames.layouts k) k s.frames s.core.memory (record {
      no_frame = λ more e at n. refl;
      too_deep = λ more e at n. refl;
      no_room = λ more e at n. refl;
      enters = λ es layout few room more e at n.
          let bs = blocks_from (stack_under s.frames.stack es) es in
          let facts = is_entered image w k es h f layout room in
          let none = subst (λ (l : List Event). NoneChanges l at) (events_more w.told more (map made_event bs) e) n in
          all_made_other bs s.core.memory at facts.placed.blocks (core_memory s.core f.core) none;
    })

leaves_told : (image : Image) (w : World) → IsImage image → IsFormed image w → AsTold w (telling leave_events leaves w)
unfolding AsTold
leaves_told image w h f =
    let s = w.machine in
    let k = register_of s.core 10 in
    by_leaving (λ (l : Leaving). AsTold w (left_world w l)) (last_entered s.frames) (slice_get s.frames.layouts k) k s.frames s.core.memory (record {
      stays = λ more e at n. refl;
      leaves = λ call es last layout frame more e at n.
          let bs = blocks_from s.frames.stack es in
          let facts = is_left image w k call es h f last layout frame in
          let none = subst (λ (l : List Event). NoneChanges l at) (events_more w.told more (map ended_event (reverse bs)) e) n in
          all_ended_other bs s.core.memory at facts.placed.blocks (core_memory s.core f.core) none;
    })

mallocs_told : HeapLaws → (image : Image) (w : World) → IsImage image → IsFormed image w → AsTold w (telling malloc_events mallocs w)
unfolding AsTold
mallocs_told laws image w h f = by (new_in w.machine) refl
  where
    by : (o : Option Block) → new_in w.machine ≡ o → AsTold w (malloc_world w o)
    by None e = λ more e2 at n. refl
    by (Some b) e = λ more e2 at none.
        let s = w.machine in
        let n = is_new laws image w b h f e in
        all_made_other (b ∷ []) s.core.memory at (All-cons (IsBlock 4) b [] n.block (All-nil (IsBlock 4))) (core_memory s.core f.core) (subst (λ (l : List Event). NoneChanges l at) (events_more w.told more (made_event b ∷ []) e2) none)

frees_told : (image : Image) (w : World) → IsImage image → IsFormed image w → AsTold w (telling free_events frees w)
unfolding AsTold
frees_told image w h f = by_freeing (λ (o : Freeing). AsTold w (free_world w o)) w.machine (record {
  nothing = λ more e at n. refl;
  no_block = λ more e at n. refl;
  ends = λ b among more e at none.
      let s = w.machine in
      let n = is_freed image w b h f among in
      all_ended_other (b ∷ []) s.core.memory at (All-cons (IsBlock 4) b [] n.block (All-nil (IsBlock 4))) (core_memory s.core f.core) (subst (λ (l : List Event). NoneChanges l at) (events_more w.told more (ended_event b ∷ []) e) none);
})

goes_told : (w : World) (core : Core) → core_step w.machine.core ≡ Goes core → AsTold w (telling (λ s. core_events s.core) (with_core core) w)
unfolding AsTold
goes_told w core g more e at n =
    let keeps = step_keeps w.machine.core core g in
    keeps.told at (subst (λ (l : List Event). NoneChanges l at) (events_more w.told more (core_events w.machine.core) e) n)

calls_told : HeapLaws → (image : Image) (w : World) → IsImage image → IsFormed image w → AsTold w (calls w)
calls_told laws image w h f = by_call (AsTold w) w (record {
  exit = unchanged w _ refl;
  getchar = unchanged w (gets w) (gets_memory w w.left);
  putchar = unchanged w _ refl;
  malloc = mallocs_told laws image w h f;
  free = frees_told image w h f;
  report = unchanged w (with_machine reports w) (reports_memory w (kind_of (register_of w.machine.core 10)));
  enter = enters_told image w h f;
  leave = leaves_told image w h f;
  other = unchanged w _ refl;
})

steps_as_told : HeapLaws → (image : Image) (w : World) → IsImage image → IsFormed image w → AsTold w (step w)
steps_as_told laws image w h f = by_step (AsTold w) w (record {
  ended = unchanged w w refl;
  goes = goes_told w;
  traps = λ kind. unchanged w _ refl;
  asks = λ e. calls_told laws image w h f;
})

pub only_told_change : HeapLaws → (image : Image) (w : World) (at : ℕ) → IsImage image → IsFormed image w → NoneChanges (events_of (tells_of w.machine)) at → get_or (step w).machine.core.memory at 0 ≡ get_or w.machine.core.memory at 0
unfolding AsTold
only_told_change laws image w at h f n = steps_as_told laws image w h f (tells_of w.machine) (step_told w) at n

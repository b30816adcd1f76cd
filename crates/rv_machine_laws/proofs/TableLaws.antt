-- The size table follows the blocks.
use Rattle.std.proofs.Common.{◌≡◌, ℕ, zero, suc, ◌+◌, ◌%◌, List, [], ◌∷◌, ◌++◌, Option, Some, None, refl, sym, ap, subst, ◌∙◌, arith, append-nil}
use Rattle.std.specs.Prelude.{map, reverse, slice_get}
use Rattle.bb_watch.specs.declared.event.Event.{Event}
use Rattle.rv_image.specs.declared.image.Image.{Image}
use Rattle.rv_image.specs.Rules.{IsImage, total_size}
use Rattle.rv_machine.specs.declared.frames.Entry.TheVariants.{NoFrame, TooDeep, NoRoom}
use Rattle.size_table.specs.Made.{blocks_from, all_made, all_ended, made, ended}
use Rattle.rv_machine.specs.Changes.{AreOffTable}
use Rattle.rv_machine.specs.Environment.{World, with_machine, telling, calls, gets, puts, kind_of, reports, enters, enter_events, leaves, leave_events, made_event, ended_event, new_in, mallocs, malloc_events, Freeing, Nothing, NoBlock, frees, free_events}
use Rattle.bb_watch.specs.Told.{Tell, Output, Happens, events_of}
use Rattle.rv_machine.specs.Formed.{IsFormed, live_in}
use Rattle.rv_machine.specs.Frames.{Entering, Leaving, last_entered, not_left, refused, stack_under}
use Rattle.rv_machine.specs.Instruction.{Goes, core_step, core_events}
use Rattle.rv_machine.specs.Tells.{tells_of}
use Rattle.bb_watch.specs.Live.{live_of}
use Rattle.rv_machine.specs.Live.{global_blocks}
use Rattle.rv_machine.specs.Machine.{step, steps}
use Rattle.rv_machine.specs.State.{Core, register_of, with_core}
use Rattle.rv_machine.proofs.BlockLists.{from_between}
use Rattle.rv_machine_laws.proofs.Cases.{by_step, by_call, by_entering, by_leaving}
use Rattle.rv_machine.proofs.Changes.{step_keeps}
use Rattle.rv_machine_laws.proofs.Cores.{step_core}
use Rattle.rv_machine_laws.proofs.Forms.{is_entered, is_left, is_new, is_freed, by_freeing, entered_world, left_world, malloc_world, free_world, core_memory, steps_formed}
use Rattle.rv_machine_laws.proofs.LiveLists.{live_append, events_append, events_happen, live_made}
use Rattle.rv_machine_laws.proofs.TableMemory.{LawsBelow, made_table, ended_table, all_made_table, all_ended_table, table_stays}
use Rattle.rv_machine_laws.proofs.Tells.{gets_told, step_told}
use Rattle.size_table.specs.Blocks.{Block}
use Rattle.size_table.specs.Table.{IsTableOf, table_in}
use Rattle.rv_machine_laws.proofs.MemoryLaws.{events_more, gets_memory, reports_memory, reports_told}

HasTable : Image → World → Type 0
HasTable image w = IsTableOf 4 (live_in image w) (table_in w.machine.core.memory)

KeepsTable : Image → World → World → Type 0
KeepsTable image w v = (more : List Tell) → v.told ≡ w.told ++ more → AreOffTable (events_of more) → HasTable image w → HasTable image v

-- the same memory, and no event
table_unchanged : (image : Image) (w v : World) → v.machine.core.memory ≡ w.machine.core.memory → events_of v.told ≡ events_of w.told → KeepsTable image w v
unfolding KeepsTable HasTable
table_unchanged image w v memory told more e off t =
    subst (λ (m : List ℕ). IsTableOf 4 (live_in image v) (table_in m)) (sym memory)
    (subst (λ (es : List Event). IsTableOf 4 (live_of (global_blocks image) es) (table_in w.machine.core.memory)) (sym told) t)

nothing : (told : List Tell) → events_of (told ++ []) ≡ events_of told
nothing told = ap events_of (append-nil told)

events_then : (image : Image) (w : World) (events : List Event) → live_of (global_blocks image) (events_of (w.told ++ map Happens events)) ≡ live_of (live_in image w) events
events_then image w events =
    ap (live_of (global_blocks image)) (events_append w.told (map Happens events) ∙ ap (λ (l : List Event). events_of w.told ++ l) (events_happen events))
    ∙ live_append (global_blocks image) (events_of w.told) events

puts_told : (w : World) → events_of (puts w).told ≡ events_of w.told
puts_told w = events_append w.told (Output (register_of w.machine.core 10 % 256) ∷ []) ∙ append-nil (events_of w.told)

goes_table : LawsBelow → (image : Image) (w : World) (core : Core) → IsFormed image w → core_step w.machine.core ≡ Goes core → KeepsTable image w (telling (λ s. core_events s.core) (with_core core) w)
unfolding KeepsTable HasTable
goes_table below image w core f g more e off t =
    let events = core_events w.machine.core in
    let keeps = step_keeps w.machine.core core g in
    let live = events_then image w events ∙ keeps.blocks.live (live_in image w) in
    let quiet = subst AreOffTable (events_more w.told more events e) off in
    let stays = table_stays (live_in image w) w.machine.core.memory core.memory (core_memory core (step_core below.reads w.machine.core core f.core g)).size (keeps.table quiet) t in
    subst (λ (bs : List Block). IsTableOf 4 bs (table_in core.memory)) (sym live) stays

enters_table : (below : LawsBelow) (image : Image) (w : World) → IsImage image → IsFormed image w → KeepsTable image w (telling enter_events enters w)
unfolding KeepsTable HasTable
enters_table below image w h f =
    let s = w.machine in
    let k = register_of s.core 10 in
    by_entering (λ (e : Entering). KeepsTable image w (entered_world w e)) (slice_get s.frames.layouts k) k s.frames s.core.memory (record {
      no_frame = table_unchanged image w (entered_world w (refused NoFrame s.frames s.core.memory)) refl (nothing w.told);
      too_deep = table_unchanged image w (entered_world w (refused TooDeep s.frames s.core.memory)) refl (nothing w.told);
      no_room = table_unchanged image w (entered_world w (refused NoRoom s.frames s.core.memory)) refl (nothing w.told);
      enters = λ es layout few room more e off t.
          let base = stack_under s.frames.stack es in
          let bs = blocks_from base es in
          let facts = is_entered image w k es h f layout room in
          let live = events_then image w (map made_event bs) ∙ live_made (live_in image w) bs in
          subst (λ (l : List Block). IsTableOf 4 l (table_in (all_made bs s.core.memory))) (sym live)
          (all_made_table below bs (live_in image w) base (base + total_size es) s.core.memory (omega (arith, room)) (from_between base es) facts.placed.blocks (core_memory s.core f.core) facts.laid_out.disjoint t);
    })

leaves_table : (below : LawsBelow) (image : Image) (w : World) → IsImage image → IsFormed image w → KeepsTable image w (telling leave_events leaves w)
unfolding KeepsTable HasTable
leaves_table below image w h f =
    let s = w.machine in
    let k = register_of s.core 10 in
    by_leaving (λ (l : Leaving). KeepsTable image w (left_world w l)) (last_entered s.frames) (slice_get s.frames.layouts k) k s.frames s.core.memory (record {
      stays = table_unchanged image w (left_world w (not_left s.frames s.core.memory)) refl (nothing w.told);
      leaves = λ call es last layout frame more e off t.
          let bs = blocks_from s.frames.stack es in
          let facts = is_left image w k call es h f last layout frame in
          subst (λ (l : List Block). IsTableOf 4 l (table_in (all_ended bs s.core.memory))) (sym (events_then image w (map ended_event (reverse bs))))
          (all_ended_table below bs (live_in image w) s.core.memory facts.placed.blocks (core_memory s.core f.core) facts.disjoint facts.among t);
    })

mallocs_table : (below : LawsBelow) (image : Image) (w : World) → IsImage image → IsFormed image w → KeepsTable image w (telling malloc_events mallocs w)
unfolding KeepsTable HasTable
mallocs_table below image w h f = by (new_in w.machine) refl
  where
    by : (o : Option Block) → new_in w.machine ≡ o → KeepsTable image w (malloc_world w o)
    by None e = table_unchanged image w (malloc_world w None) refl (nothing w.told)
    by (Some b) e = λ more e2 off t.
        let s = w.machine in
        let n = is_new below.heap image w b h f e in
        let low = n.within in
        subst (λ (l : List Block). IsTableOf 4 l (table_in (made b s.core.memory))) (sym (events_then image w (made_event b ∷ [])))
        (made_table below (live_in image w) b s.core.memory n.block (omega (arith, low.0)) (core_memory s.core f.core) n.laid_out.disjoint t)

frees_table : (below : LawsBelow) (image : Image) (w : World) → IsImage image → IsFormed image w → KeepsTable image w (telling free_events frees w)
unfolding KeepsTable HasTable
frees_table below image w h f = by_freeing (λ (o : Freeing). KeepsTable image w (free_world w o)) w.machine (record {
  nothing = table_unchanged image w (free_world w Nothing) refl (nothing w.told);
  no_block = table_unchanged image w (free_world w NoBlock) refl (nothing w.told);
  ends = λ b among more e off t.
      let s = w.machine in
      let n = is_freed image w b h f among in
      subst (λ (l : List Block). IsTableOf 4 l (table_in (ended b s.core.memory))) (sym (events_then image w (ended_event b ∷ [])))
      (ended_table below (live_in image w) b s.core.memory n.block (core_memory s.core f.core) n.disjoint n.among t);
})

calls_table : (below : LawsBelow) (image : Image) (w : World) → IsImage image → IsFormed image w → KeepsTable image w (calls w)
calls_table below image w h f = by_call (KeepsTable image w) w (record {
  exit = table_unchanged image w _ refl refl;
  getchar = table_unchanged image w (gets w) (gets_memory w w.left) (ap events_of (gets_told w.left w));
  putchar = table_unchanged image w (puts w) refl (puts_told w);
  malloc = mallocs_table below image w h f;
  free = frees_table below image w h f;
  report = table_unchanged image w (with_machine reports w) (reports_memory w (kind_of (register_of w.machine.core 10))) (ap events_of (reports_told w (kind_of (register_of w.machine.core 10))));
  enter = enters_table below image w h f;
  leave = leaves_table below image w h f;
  other = table_unchanged image w _ refl refl;
})

step_table : (below : LawsBelow) (image : Image) (w : World) → IsImage image → IsFormed image w → KeepsTable image w (step w)
step_table below image w h f = by_step (KeepsTable image w) w (record {
  ended = table_unchanged image w w refl refl;
  goes = λ core. goes_table below image w core f;
  traps = λ kind. table_unchanged image w _ refl refl;
  asks = λ e. calls_table below image w h f;
})

pub table_follows : (below : LawsBelow) (image : Image) (w : World) → IsImage image → IsFormed image w → AreOffTable (events_of (tells_of w.machine)) → IsTableOf 4 (live_in image w) (table_in w.machine.core.memory) → IsTableOf 4 (live_in image (step w)) (table_in (step w).machine.core.memory)
unfolding KeepsTable HasTable
table_follows below image w h f = step_table below image w h f (tells_of w.machine) (step_told w)

pub off_first : (xs ys : List Event) → AreOffTable (xs ++ ys) → AreOffTable xs
off_first [] ys off = tt
off_first (x ∷ xs) ys off = (off.0, off_first xs ys off.1)

off_last : (xs ys : List Event) → AreOffTable (xs ++ ys) → AreOffTable ys
off_last [] ys off = off
off_last (x ∷ xs) ys off = off_last xs ys off.1

pub steps_table : (n : ℕ) (below : LawsBelow) (image : Image) (w : World) → IsImage image → IsFormed image w → IsTableOf 4 (live_in image w) (table_in w.machine.core.memory) → AreOffTable (events_of (steps n w).told) → IsTableOf 4 (live_in image (steps n w)) (table_in (steps n w).machine.core.memory)
unfolding steps
steps_table zero below image w h f t off = t
steps_table (suc n) below image w h f t off =
    let v = steps n w in
    let all : events_of (step v).told ≡ events_of v.told ++ events_of (tells_of v.machine) = ap events_of (step_told v) ∙ events_append v.told (tells_of v.machine) in
    let parts = subst AreOffTable all off in
    let before = off_first (events_of v.told) (events_of (tells_of v.machine)) parts in
    let last = off_last (events_of v.told) (events_of (tells_of v.machine)) parts in
    table_follows below image v h (steps_formed below.reads below.heap n image w h f) last (steps_table n below image w h f t before)

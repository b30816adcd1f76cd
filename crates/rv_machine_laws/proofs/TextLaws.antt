-- The text stays as it is.
use Rattle.std.proofs.Common.{◌≡◌, ℕ, zero, suc, ◌+◌, ◌<◌, ◌≤◌, ◌⊎◌, List, [], ◌∷◌, ◌++◌, get_or, Option, Some, None, refl, sym, ap, subst, ◌∙◌, inl, inr, arith}
use Rattle.std.proofs.lemmas.List.Elements.{All-nil, All-cons}
use Rattle.std.specs.Prelude.{map, reverse, slice_get}
use Rattle.bb_watch.specs.declared.event.Event.{Event}
use Rattle.rv_code.specs.Laws.{ReadsOnly}
use Rattle.rv_image.specs.declared.image.Image.{Image}
use Rattle.rv_image.specs.Rules.{IsImage, total_size}
use Rattle.size_table.specs.Made.{blocks_from}
use Rattle.rv_machine.specs.Changes.{IsOfBlock, IsOfEntry, NoneChanges}
use Rattle.rv_machine.specs.Environment.{World, with_machine, telling, calls, gets, kind_of, reports, enters, enter_events, leaves, leave_events, made_event, ended_event, new_in, mallocs, malloc_events, Freeing, frees, free_events}
use Rattle.rv_machine.specs.Formed.{IsFormed}
use Rattle.rv_machine.specs.Frames.{Entering, Leaving, last_entered, stack_under}
use Rattle.rv_machine.specs.Instruction.{Goes, core_step, core_events}
use Rattle.rv_machine.specs.Machine.{step, steps}
use Rattle.rv_machine.specs.State.{Core, register_of, with_core}
use Rattle.rv_machine.proofs.BlockLists.{LieBetween, from_between}
use Rattle.rv_machine.proofs.BlockMemory.{all_made_other, all_ended_other, ended_split}
use Rattle.rv_machine_laws.proofs.Cases.{by_step, by_call, by_entering, by_leaving}
use Rattle.rv_machine.proofs.Changes.{step_keeps}
use Rattle.rv_machine_laws.proofs.Forms.{is_entered, is_left, is_new, is_freed, by_freeing, entered_world, left_world, malloc_world, free_world, core_memory, steps_formed}
use Rattle.rv_machine_laws.proofs.HeapLaws.{HeapLaws}
use Rattle.size_table.specs.Blocks.{Block, IsBlock}
use Rattle.rv_machine_laws.proofs.MemoryLaws.{gets_memory, reports_memory}

KeepsText : World → World → Type 0
KeepsText w v = (at : ℕ) → at < 2097152 → get_or v.machine.core.memory at 0 ≡ get_or w.machine.core.memory at 0

text_unchanged : (w v : World) → v.machine.core.memory ≡ w.machine.core.memory → KeepsText w v
unfolding KeepsText
text_unchanged w v same at l = ap (λ (m : List ℕ). get_or m at 0) same

-- blocks above the text, and their entries in the size table
made_above : (low high : ℕ) (bs : List Block) (at : ℕ) → 4194304 ≤ low → LieBetween low high bs → at < 2097152 → NoneChanges (map made_event bs) at
made_above low high [] at l p t = tt
made_above low high (b ∷ bs) at l p t = (made_not low b at l p.0.0 t, made_above low high bs at l p.1 t)
  where
    made_not : (low : ℕ) (b : Block) (at : ℕ) → 4194304 ≤ low → low ≤ b.base → at < 2097152 → IsOfBlock b at ⊎ IsOfEntry b at → ⊥
    made_not low b at l from t (inl h) = omega (arith, l, from, t, h.0)
    made_not low b at l from t (inr h) = omega (arith, l, from, t, h.0)

none_append : (xs ys : List Event) (at : ℕ) → NoneChanges xs at → NoneChanges ys at → NoneChanges (xs ++ ys) at
none_append [] ys at p q = q
none_append (x ∷ xs) ys at p q = (p.0, none_append xs ys at p.1 q)

entry_above : (b : Block) (at : ℕ) → at < 2097152 → IsOfEntry b at → ⊥
entry_above b at t h = omega (arith, t, h.0)

ended_above : (bs : List Block) (at : ℕ) → at < 2097152 → NoneChanges (map ended_event (reverse bs)) at
ended_above [] at t = tt
ended_above (b ∷ bs) at t =
    subst (λ (l : List Event). NoneChanges l at) (sym (ended_split b bs))
    (none_append (map ended_event (reverse bs)) (ended_event b ∷ []) at (ended_above bs at t) (entry_above b at t, tt))

enters_text : (image : Image) (w : World) → IsImage image → IsFormed image w → KeepsText w (telling enter_events enters w)
unfolding KeepsText
enters_text image w h f =
    let s = w.machine in
    let k = register_of s.core 10 in
    by_entering (λ (e : Entering). KeepsText w (entered_world w e)) (slice_get s.frames.layouts k) k s.frames s.core.memory (record {
      no_frame = λ at t. refl;
      too_deep = λ at t. refl;
      no_room = λ at t. refl;
      enters = λ es layout few room at t.
          let base = stack_under s.frames.stack es in
          let facts = is_entered image w k es h f layout room in
          all_made_other (blocks_from base es) s.core.memory at facts.placed.blocks (core_memory s.core f.core)
          (made_above base (base + total_size es) (blocks_from base es) at (omega (arith, room)) (from_between base es) t);
    })

leaves_text : (image : Image) (w : World) → IsImage image → IsFormed image w → KeepsText w (telling leave_events leaves w)
unfolding KeepsText
leaves_text image w h f =
    let s = w.machine in
    let k = register_of s.core 10 in
    by_leaving (λ (l : Leaving). KeepsText w (left_world w l)) (last_entered s.frames) (slice_get s.frames.layouts k) k s.frames s.core.memory (record {
      stays = λ at t. refl;
      leaves = λ call es last layout frame at t.
          let bs = blocks_from s.frames.stack es in
          let facts = is_left image w k call es h f last layout frame in
          all_ended_other bs s.core.memory at facts.placed.blocks (core_memory s.core f.core) (ended_above bs at t);
    })

mallocs_text : HeapLaws → (image : Image) (w : World) → IsImage image → IsFormed image w → KeepsText w (telling malloc_events mallocs w)
unfolding KeepsText
mallocs_text laws image w h f = by (new_in w.machine) refl
  where
    by : (o : Option Block) → new_in w.machine ≡ o → KeepsText w (malloc_world w o)
    by None e = λ at t. refl
    by (Some b) e = λ at t.
        let s = w.machine in
        let n = is_new laws image w b h f e in
        all_made_other (b ∷ []) s.core.memory at (All-cons (IsBlock 4) b [] n.block (All-nil (IsBlock 4))) (core_memory s.core f.core) (made_above 16777216 33554432 (b ∷ []) at (omega arith) (n.within, tt) t)

frees_text : (image : Image) (w : World) → IsImage image → IsFormed image w → KeepsText w (telling free_events frees w)
unfolding KeepsText
frees_text image w h f = by_freeing (λ (o : Freeing). KeepsText w (free_world w o)) w.machine (record {
  nothing = λ at t. refl;
  no_block = λ at t. refl;
  ends = λ b among at t.
      let s = w.machine in
      let n = is_freed image w b h f among in
      all_ended_other (b ∷ []) s.core.memory at (All-cons (IsBlock 4) b [] n.block (All-nil (IsBlock 4))) (core_memory s.core f.core) (ended_above (b ∷ []) at t);
})

goes_text : (w : World) (core : Core) → core_step w.machine.core ≡ Goes core → KeepsText w (telling (λ s. core_events s.core) (with_core core) w)
unfolding KeepsText
goes_text w core g = (step_keeps w.machine.core core g).text

calls_text : HeapLaws → (image : Image) (w : World) → IsImage image → IsFormed image w → KeepsText w (calls w)
calls_text laws image w h f = by_call (KeepsText w) w (record {
  exit = text_unchanged w _ refl;
  getchar = text_unchanged w (gets w) (gets_memory w w.left);
  putchar = text_unchanged w _ refl;
  malloc = mallocs_text laws image w h f;
  free = frees_text image w h f;
  report = text_unchanged w (with_machine reports w) (reports_memory w (kind_of (register_of w.machine.core 10)));
  enter = enters_text image w h f;
  leave = leaves_text image w h f;
  other = text_unchanged w _ refl;
})

step_text : HeapLaws → (image : Image) (w : World) → IsImage image → IsFormed image w → KeepsText w (step w)
step_text laws image w h f = by_step (KeepsText w) w (record {
  ended = text_unchanged w w refl;
  goes = goes_text w;
  traps = λ kind. text_unchanged w _ refl;
  asks = λ e. calls_text laws image w h f;
})

pub steps_text : ReadsOnly → HeapLaws → (n : ℕ) (image : Image) (w : World) (at : ℕ) → IsImage image → IsFormed image w → at < 2097152 → get_or (steps n w).machine.core.memory at 0 ≡ get_or w.machine.core.memory at 0
unfolding steps KeepsText
steps_text only laws zero image w at h f t = refl
steps_text only laws (suc n) image w at h f t = step_text laws image (steps n w) h (steps_formed only laws n image w h f) at t ∙ steps_text only laws n image w at h f t

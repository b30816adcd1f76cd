-- What holds of every machine of an image stays so.
use Rattle.std.proofs.Common.{◌≡◌, ℕ, zero, suc, ◌+◌, ◌-◌, ◌%◌, ◌<◌, ◌≤◌, List, [], ◌∷◌, ◌++◌, length, take, Option, Some, None, Bool, true, false, cond, eqb, ltb, refl, sym, ap, subst, ◌∙◌, inl, inr, arith, lit<, lit≤, append-nil, length-append}
use Rattle.std.specs.Prelude.{All, map, reverse, slice_get}
use Rattle.std.proofs.lemmas.Bool.{ltb-false}
use Rattle.std.proofs.lemmas.Nat.{pow_pos}
use Rattle.std.proofs.lemmas.Option.{same_Some, none-some}
use Rattle.std.proofs.lemmas.List.{length-take}
use Rattle.std.proofs.lemmas.List.Elements.{All-cons, All-head, All-tail, All-append}
use Rattle.bb_words.specs.declared.kinds.ReportKind.{ReportKind}
use Rattle.bb_words.specs.declared.kinds.TrapKind.TheVariants.{Call}
use Rattle.bb_watch.specs.declared.event.Event.{Event}
use Rattle.rv_code.specs.Laws.{ReadsOnly}
use Rattle.rv_image.specs.declared.image.Image.{Image}
use Rattle.rv_image.specs.Rules.{IsImage, total_size}
use Rattle.rv_machine.specs.declared.frames.Entered.{Entered}
use Rattle.rv_machine.specs.declared.stop.Halt.{Halt}
use Rattle.rv_machine.specs.declared.stop.Halt.TheVariants.{Trapped}
use Rattle.size_table.specs.Made.{blocks_from, all_made, all_ended, made, ended}
use Rattle.rv_machine.specs.Environment.{World, with_machine, exits, gets, gets_from, puts, kind_of, reported, reported_if, reports, enters, enters_by, enter_events, leaves, leaves_by, leave_events, made_event, ended_event, calls, telling, new_block, block_of, new_in, blocks_if, mallocs_by, mallocs, malloc_events, Freeing, Nothing, NoBlock, Ends, freeing_if, freeing, frees_by, frees, freed_blocks, free_events}
use Rattle.bb_watch.specs.Told.{Tell, Output, Happens, events_of}
use Rattle.rv_machine.specs.Formed.{IsByte, IsCore, AreLaidOut, IsInRegion, IsFormed, live_in, IsInHeap, IsHeap}
use Rattle.size_table.specs.Pads.{exponent_of}
use Rattle.buddy_heap.specs.Places.{IsRoom, IsPlaceOf, place_of, with_block, block_from}
use Rattle.rv_machine.specs.Frames.{Entering, Leaving, last_entered, stack_under, IsCall, AreCalls}
use Rattle.rv_machine.specs.Instruction.{Goes, core_step, core_events}
use Rattle.bb_watch.specs.Live.{live_of}
use Rattle.rv_machine.specs.Live.{global_blocks, call_blocks}
use Rattle.rv_machine.specs.Machine.{step, steps}
use Rattle.rv_machine.specs.State.{Core, Frames, State, register_of, gives, with_memory, with_core, halted}
use Rattle.rv_machine.proofs.BlockLists.{LieBetween, between_append, between_all, between_wider, disjoint_up, from_between, from_disjoint}
use Rattle.rv_machine.proofs.BlockMemory.{IsMemory, size_is, made_memory, ended_memory, all_made_memory, all_ended_memory}
use Rattle.rv_machine.proofs.CallChain.{IsPlaced, AreStacked, call_placed, calls_stacked, one_call, one_under_other, call_entered, blocks_append, blocks_of_call, is_last}
use Rattle.rv_machine_laws.proofs.Cases.{by_step, by_call, by_entering, by_leaving}
use Rattle.rv_machine.proofs.Changes.{step_keeps}
use Rattle.rv_machine_laws.proofs.Cores.{next_core, gives_core, step_core, asks_in_text}
use Rattle.rv_machine_laws.proofs.LiveLists.{live_append, events_append, events_happen, live_made}
use Rattle.rv_machine_laws.proofs.HeapLaws.{HeapLaws}
use Rattle.rv_machine_laws.proofs.EndedLists.{AreAmong, all_ended_blocks}
use Rattle.rv_machine_laws.proofs.SameBlocks.{all_of, each_of, same_all, same_disjoint, count_append, count_with, count_without, without_disjoint, found_in}
use Rattle.rv_machine_laws.proofs.Starts.{globals_aligned}
use Rattle.size_table.specs.Blocks.{Block, block_at, IsBlock, AreDisjoint, end_of, without, count_in, SameBlocks}

-- ---- The blocks that live

stack_high : (layouts : List (List ℕ)) (calls : List Entered) (top stack : ℕ) → 12582912 ≤ top → AreCalls layouts top calls stack → 12582912 ≤ stack
stack_high layouts [] top stack high h = omega (arith, high, h)
stack_high layouts (call ∷ calls) top stack high h = stack_high layouts calls h.0 stack h.1.room h.2

in_globals : (b : Block) → 10485760 ≤ b.base → end_of b ≤ 12582912 → IsInRegion b
in_globals b low high = inl (low, high)

on_stack : (b : Block) → 12582912 ≤ b.base → end_of b ≤ 16777216 → IsInRegion b
on_stack b low high = inr (inl (low, high))

in_heap : (b : Block) → IsInHeap b → IsInRegion b
in_heap b h = inr (inr h)

all_then : (P Q : Block → Type 0) → ((b : Block) → P b → Q b) → (bs : List Block) → All P bs → All Q bs
all_then P Q f bs h = all_of Q bs (λ b l. f b (each_of P bs h b l))

between_heap : (bs : List Block) → All IsInHeap bs → LieBetween 16777216 33554432 bs
between_heap [] h = tt
between_heap (b ∷ bs) h = (All-head IsInHeap b bs h, between_heap bs (All-tail IsInHeap b bs h))

-- the globals, blocks on the data stack, and blocks in the heap
pub laid_out : (image : Image) → IsImage image → (low : ℕ) (bs heap : List Block) → 12582912 ≤ low → AreStacked low 16777216 bs → IsHeap 4 heap → AreLaidOut 4 (global_blocks image ++ (bs ++ heap))
laid_out image h low bs heap high s i =
    let globals = from_between 10485760 image.globals in
    let within = between_wider 10485760 (10485760 + total_size image.globals) 10485760 12582912 (global_blocks image) (omega arith) (let fits = h.globals_fit in omega (arith, fits)) globals in
    let stacked = between_wider low 16777216 12582912 16777216 bs high (omega arith) s.between in
    let heaped = between_heap heap i.within in
    let above = between_append 12582912 33554432 bs heap (between_wider 12582912 16777216 12582912 33554432 bs (omega arith) (omega arith) stacked) (between_wider 16777216 33554432 12582912 33554432 heap (omega arith) (omega arith) heaped) in
    record {
      each = All-append (IsBlock 4) (global_blocks image) (bs ++ heap) (globals_aligned image h) (All-append (IsBlock 4) bs heap s.each i.each);
      regions =
          All-append IsInRegion (global_blocks image) (bs ++ heap) (between_all IsInRegion 10485760 12582912 in_globals (global_blocks image) within)
          (All-append IsInRegion bs heap (between_all IsInRegion 12582912 16777216 on_stack bs stacked) (all_then IsInHeap IsInRegion in_heap heap i.within));
      disjoint =
          disjoint_up 10485760 12582912 33554432 (global_blocks image) (bs ++ heap) within above (from_disjoint 10485760 image.globals)
          (disjoint_up 12582912 16777216 33554432 bs heap stacked heaped s.disjoint i.disjoint);
    }

pub laid_out_same : (xs ys : List Block) → SameBlocks xs ys → AreLaidOut 4 ys → AreLaidOut 4 xs
laid_out_same xs ys s l = record { each = same_all (IsBlock 4) xs ys s l.each; regions = same_all IsInRegion xs ys s l.regions; disjoint = same_disjoint xs ys s l.disjoint }

heap_same : (xs ys : List Block) → SameBlocks xs ys → IsHeap 4 ys → IsHeap 4 xs
heap_same xs ys s h = record { each = same_all (IsBlock 4) xs ys s h.each; within = same_all IsInHeap xs ys s h.within; disjoint = same_disjoint xs ys s h.disjoint }

-- how often a block stands among the globals, others and those of the heap
pub count_parts : (b : Block) (gs xs hs : List Block) → count_in b (gs ++ (xs ++ hs)) ≡ count_in b gs + (count_in b xs + count_in b hs)
count_parts b gs xs hs = let first = count_append b gs (xs ++ hs) in let second = count_append b xs hs in omega (arith, first, second)

pub formed_laid_out : (image : Image) (w : World) → IsImage image → IsFormed image w → AreLaidOut 4 (live_in image w)
formed_laid_out image w h f =
    let stack = w.machine.frames.stack in
    let calls = w.machine.frames.entered in
    let stacked = calls_stacked image.frames h.frames_fit calls 16777216 stack (omega arith) f.calls in
    laid_out_same (live_in image w) (global_blocks image ++ (call_blocks image.frames calls ++ w.machine.heap)) f.live
    (laid_out image h stack (call_blocks image.frames calls) w.machine.heap (stack_high image.frames calls 16777216 stack (lit≤ tt) f.calls) stacked f.heap)

-- ---- Memory of a core

pub core_memory : (c : Core) → IsCore c → IsMemory c.memory
core_memory c h = record { size = h.memory ∙ size_is; bytes = h.bytes }

with_memory_core : (c : Core) (m : List ℕ) → IsCore c → IsMemory m → IsCore (with_memory m c)
with_memory_core c m h i = record { pc = h.pc; registers = h.registers; words = h.words; zero = h.zero; memory = i.size ∙ sym size_is; bytes = i.bytes }

-- ---- A machine with the same frames

nothing_told : (told : List Tell) → events_of (told ++ []) ≡ events_of told
nothing_told told = ap events_of (append-nil told)

same_frames : (image : Image) (w v : World) → IsFormed image w → v.machine.frames ≡ w.machine.frames → v.machine.heap ≡ w.machine.heap → events_of v.told ≡ events_of w.told → All IsByte v.left → IsCore v.machine.core → IsFormed image v
same_frames image w v h frames heap told left core = record {
  core = core;
  input = left;
  layouts = ap (λ (f : Frames). f.layouts) frames ∙ h.layouts;
  calls = subst (λ (f : Frames). AreCalls image.frames 16777216 f.entered f.stack) (sym frames) h.calls;
  few = subst (λ (f : Frames). length f.entered ≤ 4096) (sym frames) h.few;
  heap = subst (IsHeap 4) (sym heap) h.heap;
  live = λ b.
      ap (λ (es : List Event). count_in b (live_of (global_blocks image) es)) told
      ∙ h.live b
      ∙ ap (λ (f : Frames). count_in b (global_blocks image ++ (call_blocks image.frames f.entered ++ w.machine.heap))) (sym frames)
      ∙ ap (λ (hs : List Block). count_in b (global_blocks image ++ (call_blocks image.frames v.machine.frames.entered ++ hs))) (sym heap);
}

halted_formed : (image : Image) (w : World) (halt : Halt) → IsFormed image w → IsFormed image (with_machine (halted halt) w)
halted_formed image w halt h = same_frames image w (with_machine (halted halt) w) h refl refl refl h.input h.core

reported_formed : (image : Image) (w : World) (kind : ReportKind) → w.machine.core.pc < 2097152 → IsFormed image w → IsFormed image (with_machine (reported kind) w)
reported_formed image w kind t h = same_frames image w (with_machine (reported kind) w) h refl refl refl h.input (next_core w.machine.core h.core t)

exits_formed : (image : Image) (w : World) → w.machine.core.pc < 2097152 → IsFormed image w → IsFormed image (with_machine exits w)
exits_formed image w t h = same_frames image w (with_machine exits w) h refl refl refl h.input (next_core w.machine.core h.core t)

reports_formed : (image : Image) (w : World) → w.machine.core.pc < 2097152 → IsFormed image w → IsFormed image (with_machine reports w)
reports_formed image w t h = by (kind_of (register_of w.machine.core 10))
  where
    by : (kind : Option ReportKind) → IsFormed image (with_machine (reported_if kind) w)
    by None = halted_formed image w (Trapped Call) h
    by (Some kind) = reported_formed image w kind t h

gets_formed : (image : Image) (w : World) → w.machine.core.pc < 2097152 → IsFormed image w → IsFormed image (gets w)
gets_formed image w t h = by w.left h.input
  where
    by : (left : List ℕ) → All IsByte left → IsFormed image (gets_from left w)
    by [] p = same_frames image w (gets_from [] w) h refl refl refl h.input (gives_core 10 4294967295 w.machine.core h.core t (lit< tt))
    by (byte ∷ bytes) p =
        let small : byte < 256 = All-head IsByte byte bytes p in
        same_frames image w (gets_from (byte ∷ bytes) w) h refl refl refl (All-tail IsByte byte bytes p) (gives_core 10 byte w.machine.core h.core t (omega (arith, small)))

puts_formed : (image : Image) (w : World) → w.machine.core.pc < 2097152 → IsFormed image w → IsFormed image (puts w)
puts_formed image w t h =
    let byte = register_of w.machine.core 10 % 256 in
    same_frames image w (puts w) h refl refl (events_append w.told (Output byte ∷ []) ∙ append-nil (events_of w.told)) h.input (gives_core 10 byte w.machine.core h.core t (omega arith))

-- ---- A frame is entered

pub stack_small : (image : Image) → IsImage image → (w : World) → IsFormed image w → w.machine.frames.stack ≤ 16777216
stack_small image h w f = (calls_stacked image.frames h.frames_fit w.machine.frames.entered 16777216 w.machine.frames.stack (omega arith) f.calls).ordered

-- the blocks of a frame more
entered_same : (image : Image) (w : World) (calls : List Entered) (bs : List Block) → SameBlocks (live_in image w) (global_blocks image ++ (call_blocks image.frames calls ++ w.machine.heap)) → SameBlocks (live_in image w ++ bs) (global_blocks image ++ ((call_blocks image.frames calls ++ bs) ++ w.machine.heap))
entered_same image w calls bs s = λ b.
    let one = count_append b (live_in image w) bs in
    let two = count_parts b (global_blocks image) (call_blocks image.frames calls) w.machine.heap in
    let three = count_parts b (global_blocks image) (call_blocks image.frames calls ++ bs) w.machine.heap in
    let four = count_append b (call_blocks image.frames calls) bs in
    let same = s b in
    omega (arith, one, two, three, four, same)

-- what is known where the blocks of a frame are made
pub record IsEntered (image : Image) (w : World) (k base : ℕ) (es : List ℕ) : Type 0 where
  pub call : IsCall image.frames w.machine.frames.stack base (record { frame = k; back = w.machine.frames.stack })
  pub placed : IsPlaced w.machine.frames.stack base es
  pub laid_out : AreLaidOut 4 (live_in image w ++ blocks_from base es)
  pub blocks : call_blocks image.frames (w.machine.frames.entered ++ (record { frame = k; back = w.machine.frames.stack } ∷ [])) ≡ call_blocks image.frames w.machine.frames.entered ++ blocks_from base es

pub is_entered : (image : Image) (w : World) (k : ℕ) (es : List ℕ) → IsImage image → IsFormed image w → slice_get w.machine.frames.layouts k ≡ Some es → 12582912 ≤ stack_under w.machine.frames.stack es → IsEntered image w k (stack_under w.machine.frames.stack es) es
is_entered image w k es h f layout room =
    let stack = w.machine.frames.stack in
    let calls = w.machine.frames.entered in
    let base = stack_under stack es in
    let entry : Entered = record { frame = k; back = stack } in
    let at : slice_get image.frames k ≡ Some es = ap (λ (l : List (List ℕ)). slice_get l k) (sym f.layouts) ∙ layout in
    let call : IsCall image.frames stack base entry = record { exponents = es; layout = at; back = refl; under = refl; room = room } in
    let place = call_placed image.frames h.frames_fit stack base entry (stack_small image h w f) call in
    let before = calls_stacked image.frames h.frames_fit calls 16777216 stack (omega arith) f.calls in
    let stacked = one_under_other base stack 16777216 (call_blocks image.frames calls) (blocks_from base es) before (one_call stack base es place) in
    let bs = blocks_from base es in
    let same : SameBlocks (live_in image w ++ bs) (global_blocks image ++ ((call_blocks image.frames calls ++ bs) ++ w.machine.heap)) = entered_same image w calls bs f.live in
    record {
      call = call;
      placed = place;
      laid_out = laid_out_same (live_in image w ++ bs) (global_blocks image ++ ((call_blocks image.frames calls ++ bs) ++ w.machine.heap)) same (laid_out image h base (call_blocks image.frames calls ++ bs) w.machine.heap room stacked f.heap);
      blocks = blocks_append image.frames calls entry ∙ ap (λ (l : List Block). call_blocks image.frames calls ++ l) (blocks_of_call image.frames stack base entry call);
    }

-- what the world is where a frame is entered so
abbrev pub entered_world : World → Entering → World
entered_world w e = record { machine = enters_by e.answer e w.machine; left = w.left; told = w.told ++ map Happens (map made_event e.blocks) }

enters_core : (image : Image) (w : World) (k base : ℕ) (es : List ℕ) → IsFormed image w → w.machine.core.pc < 2097152 → 12582912 ≤ base → w.machine.frames.stack ≤ 16777216 → IsPlaced w.machine.frames.stack base es → IsCore (gives 10 base (with_memory (all_made (blocks_from base es) w.machine.core.memory) w.machine.core))
enters_core image w k base es f t room small p =
    let c = w.machine.core in
    let m = all_made (blocks_from base es) c.memory in
    gives_core 10 base (with_memory m c) (with_memory_core c m f.core (all_made_memory (blocks_from base es) c.memory p.blocks (core_memory c f.core))) t (let below = p.below in omega (arith, below, small))

enters_formed : (image : Image) (w : World) → IsImage image → w.machine.core.pc < 2097152 → IsFormed image w → IsFormed image (telling enter_events enters w)
enters_formed image w h t f =
    let s = w.machine in
    let k = register_of s.core 10 in
    by_entering (λ (e : Entering). IsFormed image (entered_world w e)) (slice_get s.frames.layouts k) k s.frames s.core.memory (record {
      no_frame = same_frames image w _ f refl refl (nothing_told w.told) f.input f.core;
      too_deep = same_frames image w _ f refl refl (nothing_told w.told) f.input (next_core s.core f.core t);
      no_room = same_frames image w _ f refl refl (nothing_told w.told) f.input (next_core s.core f.core t);
      enters = λ es layout few room.
          let base = stack_under s.frames.stack es in
          let facts = is_entered image w k es h f layout room in
          let entry : Entered = record { frame = k; back = s.frames.stack } in
          let bs = blocks_from base es in
          let told : events_of (w.told ++ map Happens (map made_event bs)) ≡ events_of w.told ++ map made_event bs =
          events_append w.told (map Happens (map made_event bs)) ∙ ap (λ (l : List Event). events_of w.told ++ l) (events_happen (map made_event bs)) in
          record {
            core = enters_core image w k base es f t room (stack_small image h w f) facts.placed;
            input = f.input;
            layouts = f.layouts;
            calls = call_entered image.frames s.frames.entered 16777216 s.frames.stack base entry f.calls facts.call;
            few = (let long = length-append s.frames.entered (entry ∷ []) in omega (arith, long, few));
            heap = f.heap;
            live = λ b.
                ap (count_in b) (ap (live_of (global_blocks image)) told
                ∙ live_append (global_blocks image) (events_of w.told) (map made_event bs)
                ∙ live_made (live_in image w) bs)
                ∙ entered_same image w s.frames.entered bs f.live b
                ∙ ap (λ (l : List Block). count_in b (global_blocks image ++ (l ++ s.heap))) (sym facts.blocks);
          };
    })

-- ---- A frame is left

-- the last blocks of the calls are among those that live
among_parts : (image : Image) (w : World) (others : List Entered) (bs : List Block) → SameBlocks (live_in image w) (global_blocks image ++ ((call_blocks image.frames others ++ bs) ++ w.machine.heap)) → AreAmong bs (live_in image w)
among_parts image w others bs s = λ b.
    let three = count_parts b (global_blocks image) (call_blocks image.frames others ++ bs) w.machine.heap in
    let four = count_append b (call_blocks image.frames others) bs in
    let same = s b in
    omega (arith, three, four, same)

left_same : (image : Image) (w : World) (others : List Entered) (bs : List Block) → SameBlocks (live_in image w) (global_blocks image ++ ((call_blocks image.frames others ++ bs) ++ w.machine.heap)) → AreDisjoint (live_in image w) → AreAmong bs (live_in image w) → SameBlocks (live_of (live_in image w) (map ended_event (reverse bs))) (global_blocks image ++ (call_blocks image.frames others ++ w.machine.heap))
left_same image w others bs s d a = λ b.
    let two = count_parts b (global_blocks image) (call_blocks image.frames others) w.machine.heap in
    let three = count_parts b (global_blocks image) (call_blocks image.frames others ++ bs) w.machine.heap in
    let four = count_append b (call_blocks image.frames others) bs in
    let less = (all_ended_blocks bs (live_in image w) d a).count b in
    let same = s b in
    omega (arith, two, three, four, less, same)

-- what is known where the last call is left, of which this are the others
pub record IsLeft (image : Image) (w : World) (others : List Entered) (back : ℕ) (es : List ℕ) : Type 0 where
  pub calls : AreCalls image.frames 16777216 others back
  pub placed : IsPlaced back w.machine.frames.stack es
  pub blocks : SameBlocks (live_in image w) (global_blocks image ++ ((call_blocks image.frames others ++ blocks_from w.machine.frames.stack es) ++ w.machine.heap))
  pub among : AreAmong (blocks_from w.machine.frames.stack es) (live_in image w)
  pub disjoint : AreDisjoint (live_in image w)
  pub small : back ≤ 16777216

pub is_left : (image : Image) (w : World) (k : ℕ) (call : Entered) (es : List ℕ) → IsImage image → IsFormed image w → last_entered w.machine.frames ≡ Some call → slice_get w.machine.frames.layouts k ≡ Some es → call.frame ≡ k → IsLeft image w (take (length w.machine.frames.entered - 1) w.machine.frames.entered) call.back es
is_left image w k call es h f last layout frame =
    let stack = w.machine.frames.stack in
    let calls = w.machine.frames.entered in
    let others = take (length calls - 1) calls in
    let at : slice_get image.frames call.frame ≡ Some es = ap (λ (l : List (List ℕ)). slice_get l call.frame) (sym f.layouts) ∙ ap (slice_get w.machine.frames.layouts) frame ∙ layout in
    let is = is_last image.frames calls stack call es h.frames_fit f.calls last at in
    let bs = blocks_from stack es in
    let blocks : SameBlocks (live_in image w) (global_blocks image ++ ((call_blocks image.frames others ++ bs) ++ w.machine.heap)) =
    λ b. f.live b ∙ ap (λ (l : List Block). count_in b (global_blocks image ++ (l ++ w.machine.heap))) is.blocks in
    record {
      calls = is.others;
      placed = is.placed;
      blocks = blocks;
      among = among_parts image w others bs blocks;
      disjoint = (formed_laid_out image w h f).disjoint;
      small = is.small;
    }

abbrev pub left_world : World → Leaving → World
left_world w l = record { machine = leaves_by l.answer l w.machine; left = w.left; told = w.told ++ map Happens (map ended_event l.blocks) }

leaves_core : (image : Image) (w : World) (others : List Entered) (back : ℕ) (es : List ℕ) → IsFormed image w → w.machine.core.pc < 2097152 → IsLeft image w others back es → IsCore (gives 10 back (with_memory (all_ended (blocks_from w.machine.frames.stack es) w.machine.core.memory) w.machine.core))
leaves_core image w others back es f t l =
    let c = w.machine.core in
    let bs = blocks_from w.machine.frames.stack es in
    let m = all_ended bs c.memory in
    gives_core 10 back (with_memory m c) (with_memory_core c m f.core (all_ended_memory bs c.memory l.placed.blocks (core_memory c f.core))) t (let small = l.small in omega (arith, small))

leaves_formed : (image : Image) (w : World) → IsImage image → w.machine.core.pc < 2097152 → IsFormed image w → IsFormed image (telling leave_events leaves w)
leaves_formed image w h t f =
    let s = w.machine in
    let k = register_of s.core 10 in
    by_leaving (λ (l : Leaving). IsFormed image (left_world w l)) (last_entered s.frames) (slice_get s.frames.layouts k) k s.frames s.core.memory (record {
      stays = same_frames image w _ f refl refl (nothing_told w.told) f.input f.core;
      leaves = λ call es last layout frame.
          let others = take (length s.frames.entered - 1) s.frames.entered in
          let facts = is_left image w k call es h f last layout frame in
          let bs = blocks_from s.frames.stack es in
          let ends = map ended_event (reverse bs) in
          let told : events_of (w.told ++ map Happens ends) ≡ events_of w.told ++ ends =
          events_append w.told (map Happens ends) ∙ ap (λ (l : List Event). events_of w.told ++ l) (events_happen ends) in
          record {
            core = leaves_core image w others call.back es f t facts;
            input = f.input;
            layouts = f.layouts;
            calls = facts.calls;
            few = (let few = f.few in let long = length-take (length s.frames.entered - 1) s.frames.entered in omega (arith, long, few));
            heap = f.heap;
            live = λ b.
                ap (count_in b) (ap (live_of (global_blocks image)) told ∙ live_append (global_blocks image) (events_of w.told) ends)
                ∙ left_same image w others bs facts.blocks facts.disjoint facts.among b;
          };
    })

-- ---- A block of the heap is made

-- what is known of a block that is made in the heap
pub record IsNew (image : Image) (w : World) (b : Block) : Type 0 where
  pub block : IsBlock 4 b
  pub within : IsInHeap b
  pub heap : IsHeap 4 (with_block b w.machine.heap)
  pub same : SameBlocks (live_in image w ++ b ∷ []) (global_blocks image ++ (call_blocks image.frames w.machine.frames.entered ++ with_block b w.machine.heap))
  pub laid_out : AreLaidOut 4 (live_in image w ++ b ∷ [])

-- there is room in the heap where a block is made
pub new_room : HeapLaws → (size : ℕ) (heap : List Block) (b : Block) → new_block size heap ≡ Some b → (4 ≤ b.exponent) × (b.exponent ≤ 24) × IsRoom heap b.exponent b.base
unfolding new_block
new_room laws size heap b e = by (ltb 16777216 size) refl e
  where
    placed : size ≤ 16777216 → (p : Option ℕ) → place_of heap (exponent_of 4 size) ≡ p → block_of (exponent_of 4 size) p ≡ Some b → (4 ≤ b.exponent) × (b.exponent ≤ 24) × IsRoom heap b.exponent b.base
    placed l None p e = absurd (none-some _ e)
    placed l (Some at) p e =
        let fits = laws.exponent 4 size (omega arith) l in
        let most = fits.least 24 (omega arith) l in
        let least = subst (IsPlaceOf heap (exponent_of 4 size)) p (laws.place heap (exponent_of 4 size) most) in
        subst (λ (c : Block). (4 ≤ c.exponent) × (c.exponent ≤ 24) × IsRoom heap c.exponent c.base) (same_Some (block_at at (exponent_of 4 size)) b e) (fits.slot, most, least.0)

    by : (t : Bool) → ltb 16777216 size ≡ t → cond t None (block_of (exponent_of 4 size) (place_of heap (exponent_of 4 size))) ≡ Some b → (4 ≤ b.exponent) × (b.exponent ≤ 24) × IsRoom heap b.exponent b.base
    by true t e = absurd (none-some _ e)
    by false t e = placed (ltb-false 16777216 size t) (place_of heap (exponent_of 4 size)) refl e

pub is_new : HeapLaws → (image : Image) (w : World) (b : Block) → IsImage image → IsFormed image w → new_in w.machine ≡ Some b → IsNew image w b
is_new laws image w b h f e =
    let s = w.machine in
    let calls = s.frames.entered in
    let room = new_room laws (register_of s.core 10) s.heap b e in
    let r = room.2 in
    let block : IsBlock 4 b = record { least = room.0; most = room.1; aligned = r.aligned; within = r.high } in
    let within : IsInHeap b = (r.low, r.high) in
    let one : IsHeap 4 (b ∷ s.heap) = record { each = All-cons (IsBlock 4) b s.heap block f.heap.each; within = All-cons IsInHeap b s.heap within f.heap.within; disjoint = (r.clear, f.heap.disjoint) } in
    let heap : IsHeap 4 (with_block b s.heap) = heap_same (with_block b s.heap) (b ∷ s.heap) (λ c. let n = count_with b c s.heap in omega (arith, n)) one in
    let stacked = calls_stacked image.frames h.frames_fit calls 16777216 s.frames.stack (omega arith) f.calls in
    let parts = laid_out image h s.frames.stack (call_blocks image.frames calls) (with_block b s.heap) (stack_high image.frames calls 16777216 s.frames.stack (lit≤ tt) f.calls) stacked heap in
    let same : SameBlocks (live_in image w ++ b ∷ []) (global_blocks image ++ (call_blocks image.frames calls ++ with_block b s.heap)) =
    λ c.
    let one = count_append c (live_in image w) (b ∷ []) in
    let two = count_parts c (global_blocks image) (call_blocks image.frames calls) s.heap in
    let three = count_parts c (global_blocks image) (call_blocks image.frames calls) (with_block b s.heap) in
    let four = count_with b c s.heap in
    let all = f.live c in
    omega (arith, one, two, three, four, all) in
    record { block = block; within = within; heap = heap; same = same; laid_out = laid_out_same _ _ same parts }

-- what the world is where a block is made so
abbrev pub malloc_world : World → Option Block → World
malloc_world w o = record { machine = mallocs_by o w.machine; left = w.left; told = w.told ++ map Happens (map made_event (blocks_if o)) }

mallocs_formed : HeapLaws → (image : Image) (w : World) → IsImage image → w.machine.core.pc < 2097152 → IsFormed image w → IsFormed image (telling malloc_events mallocs w)
mallocs_formed laws image w h t f = by (new_in w.machine) refl
  where
    by : (o : Option Block) → new_in w.machine ≡ o → IsFormed image (malloc_world w o)
    by None e = same_frames image w _ f refl refl (nothing_told w.told) f.input (gives_core 10 0 w.machine.core f.core t (omega arith))
    by (Some b) e =
        let s = w.machine in
        let n = is_new laws image w b h f e in
        let m = made b s.core.memory in
        let low = n.within in
        record {
          core = gives_core 10 b.base (with_memory m s.core) (with_memory_core s.core m f.core (made_memory b s.core.memory n.block (core_memory s.core f.core))) t (let high = pow_pos b.exponent in omega (arith, low.1, high));
          input = f.input;
          layouts = f.layouts;
          calls = f.calls;
          few = f.few;
          heap = n.heap;
          live = λ c. ap (count_in c) (ap (live_of (global_blocks image)) (events_append w.told (Happens (made_event b) ∷ [])) ∙ live_append (global_blocks image) (events_of w.told) (made_event b ∷ [])) ∙ n.same c;
        }

-- ---- A block of the heap ends

-- what is known of a block of the heap that ends
pub record IsFreed (image : Image) (w : World) (b : Block) : Type 0 where
  pub block : IsBlock 4 b
  pub heap : IsHeap 4 (without b.base w.machine.heap)
  pub among : 1 ≤ count_in b (live_in image w)
  pub disjoint : AreDisjoint (live_in image w)
  pub same : SameBlocks (without b.base (live_in image w)) (global_blocks image ++ (call_blocks image.frames w.machine.frames.entered ++ without b.base w.machine.heap))

pub is_freed : (image : Image) (w : World) (b : Block) → IsImage image → IsFormed image w → 1 ≤ count_in b w.machine.heap → IsFreed image w b
is_freed image w b h f among =
    let s = w.machine in
    let calls = call_blocks image.frames s.frames.entered in
    let disjoint = (formed_laid_out image w h f).disjoint in
    let within : 1 ≤ count_in b (live_in image w) = (let all = f.live b in let parts = count_parts b (global_blocks image) calls s.heap in omega (arith, among, all, parts)) in
    let less = count_without b s.heap f.heap.disjoint among in
    let some = λ (P : Block → Type 0) (each : All P s.heap). all_of P (without b.base s.heap) (λ c l. each_of P s.heap each c (let e = less c in omega (arith, e, l))) in
    record {
      block = each_of (IsBlock 4) s.heap f.heap.each b among;
      heap = record { each = some (IsBlock 4) f.heap.each; within = some IsInHeap f.heap.within; disjoint = without_disjoint b s.heap f.heap.disjoint among };
      among = within;
      disjoint = disjoint;
      same = λ c.
          let one = count_without b (live_in image w) disjoint within c in
          let two = count_parts c (global_blocks image) calls s.heap in
          let three = count_parts c (global_blocks image) calls (without b.base s.heap) in
          let four = less c in
          let all = f.live c in
          omega (arith, one, two, three, four, all);
    }

abbrev pub free_world : World → Freeing → World
free_world w o = record { machine = frees_by o w.machine; left = w.left; told = w.told ++ map Happens (map ended_event (freed_blocks o)) }

pub record InFreeing (P : Freeing → Type 0) (s : State) : Type 0 where
  pub nothing : P Nothing
  pub no_block : P NoBlock
  pub ends : (b : Block) → 1 ≤ count_in b s.heap → P (Ends b)

pub by_freeing : (P : Freeing → Type 0) (s : State) → InFreeing P s → P (freeing s)
by_freeing P s c = by (eqb (register_of s.core 10) 0) (block_from (register_of s.core 10) s.heap) refl
  where
    by : (t : Bool) (o : Option Block) → block_from (register_of s.core 10) s.heap ≡ o → P (cond t Nothing (freeing_if o))
    by true o e = c.nothing
    by false None e = c.no_block
    by false (Some b) e = c.ends b (found_in (register_of s.core 10) s.heap b e).0

frees_formed : (image : Image) (w : World) → IsImage image → w.machine.core.pc < 2097152 → IsFormed image w → IsFormed image (telling free_events frees w)
frees_formed image w h t f = by_freeing (λ (o : Freeing). IsFormed image (free_world w o)) w.machine (record {
  nothing = same_frames image w (free_world w Nothing) f refl refl (nothing_told w.told) f.input (next_core w.machine.core f.core t);
  no_block = same_frames image w (free_world w NoBlock) f refl refl (nothing_told w.told) f.input (next_core w.machine.core f.core t);
  ends = λ b among.
      let s = w.machine in
      let n = is_freed image w b h f among in
      let m = ended b s.core.memory in
      record {
        core = next_core (with_memory m s.core) (with_memory_core s.core m f.core (ended_memory b s.core.memory n.block (core_memory s.core f.core))) t;
        input = f.input;
        layouts = f.layouts;
        calls = f.calls;
        few = f.few;
        heap = n.heap;
        live = λ c. ap (count_in c) (ap (live_of (global_blocks image)) (events_append w.told (Happens (ended_event b) ∷ [])) ∙ live_append (global_blocks image) (events_of w.told) (ended_event b ∷ [])) ∙ n.same c;
      };
})

-- ---- Each instruction

goes_formed : ReadsOnly → (image : Image) (w : World) (core : Core) → core_step w.machine.core ≡ Goes core → IsFormed image w → IsFormed image (telling (λ s. core_events s.core) (with_core core) w)
goes_formed only image w core e f =
    let events = core_events w.machine.core in
    let keeps = step_keeps w.machine.core core e in
    record {
      core = step_core only w.machine.core core f.core e;
      input = f.input;
      layouts = f.layouts;
      calls = f.calls;
      few = f.few;
      heap = f.heap;
      live = λ b.
          ap (count_in b) (ap (live_of (global_blocks image)) (events_append w.told (map Happens events) ∙ ap (λ (l : List Event). events_of w.told ++ l) (events_happen events))
          ∙ live_append (global_blocks image) (events_of w.told) events
          ∙ keeps.blocks.live (live_in image w))
          ∙ f.live b;
    }

calls_formed : HeapLaws → (image : Image) (w : World) → IsImage image → w.machine.core.pc < 2097152 → IsFormed image w → IsFormed image (calls w)
calls_formed laws image w h t f = by_call (IsFormed image) w (record {
  exit = exits_formed image w t f;
  getchar = gets_formed image w t f;
  putchar = puts_formed image w t f;
  malloc = mallocs_formed laws image w h t f;
  free = frees_formed image w h t f;
  report = reports_formed image w t f;
  enter = enters_formed image w h t f;
  leave = leaves_formed image w h t f;
  other = halted_formed image w (Trapped Call) f;
})

pub step_formed : ReadsOnly → HeapLaws → (image : Image) (w : World) → IsImage image → IsFormed image w → IsFormed image (step w)
step_formed only laws image w h f = by_step (IsFormed image) w (record {
  ended = f;
  goes = λ core e. goes_formed only image w core e f;
  traps = λ kind. halted_formed image w (Trapped kind) f;
  asks = λ e. calls_formed laws image w h (asks_in_text w.machine.core e) f;
})

pub steps_formed : ReadsOnly → HeapLaws → (n : ℕ) (image : Image) (w : World) → IsImage image → IsFormed image w → IsFormed image (steps n w)
unfolding steps
steps_formed only laws zero image w h f = f
steps_formed only laws (suc n) image w h f = step_formed only laws image (steps n w) h (steps_formed only laws n image w h f)

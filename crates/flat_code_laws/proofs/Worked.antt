-- The examples, by evaluation.
use Rattle.std.proofs.Common.{◌≡◌, ℕ, suc, Some, refl, ap, [], ◌∷◌}
use Rattle.bb_words.specs.Answers.{and_then}
use Rattle.bb_words.specs.declared.kinds.ReportKind.TheVariants as report
use Rattle.size_table.specs.Blocks.{block_at}
use Rattle.size_table.specs.Pads.{exponent_of}
use Rattle.buddy_heap.specs.Places.{first_of, place_of}
use Rattle.flat_code.specs.Told.Tell.{Made, Ended}
use Rattle.flat_code.specs.World.{Ending, FPoint, point, put, spend}
use Rattle.flat_code.specs.Accounts.{allot}
use Rattle.flat_code.specs.Run.{inner_turns, act_all, no_calls, start}
use Rattle.flat_code_laws.specs.Examples.{seen, shown, does, allocating, freeing, ExamplesRun, ExamplesWeigh}

-- beside the one global block the first place of the heap is free
first_place : (n : ℕ) → first_of (suc n) 0x1000000 5 (block_at 0xA00000 4 ∷ []) ≡ Some 0x1000000
unfolding first_of
first_place n = refl

place : place_of (block_at 0xA00000 4 ∷ []) 5 ≡ Some 0x1000000
unfolding place_of
place = first_place 524287

heap_runs : does allocating ≡ seen (Ending.Reported report.BadFree 9) (Made 0x1000000 5 ∷ Ended 0x1000000 5 ∷ [])
unfolding and_then exponent_of
heap_runs =
    let u : FPoint = start [] (block_at 0xA00000 4 ∷ []) [] in
    let t : FPoint = put 0 20 (point u.words (spend 3 u.world)) in
    ap (λ o. shown (act_all 4 no_calls 1 0 freeing (allot 1 5 o (point t.words (spend 5 t.world))))) place

pub examples_run : ExamplesRun
unfolding and_then exponent_of inner_turns
examples_run = record {
  loop = refl;
  loop_is_cut = refl;
  call = refl;
  call_is_cut = refl;
  move_inside = refl;
  move_marked = refl;
  move_out = refl;
  wide_marked = refl;
  wide_out = refl;
  heap = heap_runs;
  input = refl;
  frame = refl;
  pointer = refl;
  forged = refl;
}

pub examples_weigh : ExamplesWeigh
examples_weigh = record { apart = refl; other_slot = refl; span = refl; not_apart = refl }

-- The run of an image that uses a frame.
use Rattle.std.proofs.Common.{◌≡◌, ℕ, true, false, List, [], ◌∷◌, ◌++◌, set, refl, sym, ap, subst, ◌∙◌, inl, inr, arith, lit<, lit≤}
use Rattle.std.specs.Prelude.{All, IsSome}
use Rattle.std.specs.Int.{to_le_bytes, w32}
use Rattle.std.proofs.lemmas.List.Elements.{All-nil, All-from_recursion}
use Rattle.bb_watch.specs.declared.event.Event.{Event}
use Rattle.bb_watch.specs.declared.event.Event.TheVariants.{Access, Made, Ended}
use Rattle.rv_code.specs.Laws.{ReadsBack}
use Rattle.rv_code.specs.declared.instr.Instr.TheVariants.{Lw, Sw, Addi}
use Rattle.rv_image.specs.Rules.{IsImage}
use Rattle.size_table.specs.Made.{made, ended}
use Rattle.rv_machine.specs.Environment.{World, with_machine, calls, exits}
use Rattle.bb_watch.specs.Told.{Tell, Happens, events_of}
use Rattle.rv_machine_laws.specs.Examples.{uses_frame, UsesFrame}
use Rattle.rv_machine.specs.Formed.{IsByte, IsWord}
use Rattle.rv_machine.specs.Frames.{enter, leave}
use Rattle.rv_machine_laws.specs.Laws.{TextStands}
use Rattle.rv_machine.specs.Live.{global_blocks}
use Rattle.rv_machine.specs.Machine.{step, steps, machine_after}
use Rattle.size_table.specs.Memory.{Stand, word_at, written_at}
use Rattle.bb_watch.specs.Safety.{Each, IsMoveSafe, IsAccessSafe, IsControlSafe, open_after}
use Rattle.rv_machine_laws.specs.Safety.{IsSafe, IsSafeEnding, SafeRun}
use Rattle.rv_machine.specs.Start.{start, start_memory, start_registers, start_frames}
use Rattle.rv_machine.specs.State.{Frames}
use Rattle.rv_machine_laws.proofs.ExampleRuns.{asked, goes, standing_in}
use Rattle.rv_machine_laws.proofs.SafeRuns.{safe_ever_after, table_is_kept}
use Rattle.rv_machine_laws.proofs.TableMemory.{LawsBelow}
use Rattle.size_table.specs.Blocks.{Block, block_at}

abbrev text : List ℕ
text = 0x0070_0893 ∷ 0x0000_0073 ∷ 0x0005_0293 ∷ 0x0002_A023 ∷ 0x0000_0513 ∷ 0x0080_0893 ∷ 0x0000_0073 ∷ 0x0002_A303 ∷ 0x0010_0893 ∷ 0x0000_0073 ∷ []

-- ---- The frames, the registers, the memory and what is told, as the run goes on

abbrev outside : Frames
outside = start_frames ((4 ∷ []) ∷ [])

abbrev inside : Frames
inside = record { layouts = (4 ∷ []) ∷ []; entered = record { frame = 0; back = 16777216 } ∷ []; stack = 16777200 }

abbrev block : Block
block = block_at 16777200 4

abbrev to_enter : List ℕ
to_enter = set start_registers 17 7

abbrev in_frame : List ℕ
in_frame = set to_enter 10 16777200

abbrev set_5 : List ℕ
set_5 = set in_frame 5 16777200

abbrev set_10 : List ℕ
set_10 = set set_5 10 0

abbrev to_leave : List ℕ
to_leave = set set_10 17 8

abbrev left : List ℕ
left = set to_leave 10 16777216

abbrev set_6 : List ℕ → List ℕ
set_6 m = set left 6 (word_at m 16777200)

abbrev to_exit : List ℕ → List ℕ
to_exit m = set (set_6 m) 17 1

abbrev written : List ℕ → List ℕ
written m = written_at m 16777200 (to_le_bytes w32 0)

abbrev entered_told : List Tell
entered_told = Happens (Made 16777200 4) ∷ []

abbrev wrote : List Tell
wrote = entered_told ++ Happens (Access 4108 16777200 4 true 5) ∷ []

abbrev left_told : List Tell
left_told = wrote ++ Happens (Ended 16777200 4) ∷ []

abbrev read : List Tell
read = left_told ++ Happens (Access 4124 16777200 4 false 5) ∷ []

-- ---- Each instruction

step_1 : ReadsBack → (m input : List ℕ) → Stand m 4096 text → step (standing_in outside 4096 start_registers m input []) ≡ standing_in outside 4100 to_enter m input []
step_1 back m input s = goes back outside (Addi 17 0 7) 4096 start_registers m input [] (record { pc = 4100; registers = to_enter; memory = m }) (lit≤ tt) (lit< tt) ((lit< tt, lit< tt), lit< tt, lit< tt) s.0 refl

step_2 : ReadsBack → (m input : List ℕ) → Stand m 4096 text → step (standing_in outside 4100 to_enter m input []) ≡ standing_in inside 4104 in_frame (made block m) input entered_told
unfolding calls enter
step_2 back m input s = asked back (standing_in outside 4100 to_enter m input []) (record { running = refl; low = lit≤ tt; high = lit< tt; fits = (lit< tt, lit< tt, lit< tt); word = s.1.0 })

step_3 : ReadsBack → (m input : List ℕ) → Stand m 4096 text → step (standing_in inside 4104 in_frame m input entered_told) ≡ standing_in inside 4108 set_5 m input entered_told
step_3 back m input s = goes back inside (Addi 5 10 0) 4104 in_frame m input entered_told (record { pc = 4108; registers = set_5; memory = m }) (lit≤ tt) (lit< tt) ((lit< tt, lit< tt), lit< tt, lit< tt) s.1.1.0 refl

step_4 : ReadsBack → (m input : List ℕ) → Stand m 4096 text → step (standing_in inside 4108 set_5 m input entered_told) ≡ standing_in inside 4112 set_5 (written m) input wrote
step_4 back m input s = goes back inside (Sw 5 0 0) 4108 set_5 m input entered_told (record { pc = 4112; registers = set_5; memory = written m }) (lit≤ tt) (lit< tt) ((lit< tt, lit< tt), lit< tt, lit< tt) s.1.1.1.0 refl

step_5 : ReadsBack → (m input : List ℕ) → Stand m 4096 text → step (standing_in inside 4112 set_5 m input wrote) ≡ standing_in inside 4116 set_10 m input wrote
step_5 back m input s = goes back inside (Addi 10 0 0) 4112 set_5 m input wrote (record { pc = 4116; registers = set_10; memory = m }) (lit≤ tt) (lit< tt) ((lit< tt, lit< tt), lit< tt, lit< tt) s.1.1.1.1.0 refl

step_6 : ReadsBack → (m input : List ℕ) → Stand m 4096 text → step (standing_in inside 4116 set_10 m input wrote) ≡ standing_in inside 4120 to_leave m input wrote
step_6 back m input s = goes back inside (Addi 17 0 8) 4116 set_10 m input wrote (record { pc = 4120; registers = to_leave; memory = m }) (lit≤ tt) (lit< tt) ((lit< tt, lit< tt), lit< tt, lit< tt) s.1.1.1.1.1.0 refl

step_7 : ReadsBack → (m input : List ℕ) → Stand m 4096 text → step (standing_in inside 4120 to_leave m input wrote) ≡ standing_in outside 4124 left (ended block m) input left_told
unfolding calls leave
step_7 back m input s = asked back (standing_in inside 4120 to_leave m input wrote) (record { running = refl; low = lit≤ tt; high = lit< tt; fits = (lit< tt, lit< tt, lit< tt); word = s.1.1.1.1.1.1.0 })

step_8 : ReadsBack → (m input : List ℕ) → Stand m 4096 text → step (standing_in outside 4124 left m input left_told) ≡ standing_in outside 4128 (set_6 m) m input read
step_8 back m input s = goes back outside (Lw 6 5 0) 4124 left m input left_told (record { pc = 4128; registers = set_6 m; memory = m }) (lit≤ tt) (lit< tt) ((lit< tt, lit< tt), lit< tt, lit< tt) s.1.1.1.1.1.1.1.0 refl

step_9 : ReadsBack → (m input : List ℕ) → Stand m 4096 text → step (standing_in outside 4128 (set_6 m) m input read) ≡ standing_in outside 4132 (to_exit m) m input read
step_9 back m input s = goes back outside (Addi 17 0 1) 4128 (set_6 m) m input read (record { pc = 4132; registers = to_exit m; memory = m }) (lit≤ tt) (lit< tt) ((lit< tt, lit< tt), lit< tt, lit< tt) s.1.1.1.1.1.1.1.1.0 refl

abbrev exited : List ℕ → List ℕ → World
exited m input = with_machine exits (standing_in outside 4132 (to_exit m) m input read)

step_10 : ReadsBack → (m input : List ℕ) → Stand m 4096 text → step (standing_in outside 4132 (to_exit m) m input read) ≡ exited m input
unfolding calls
step_10 back m input s = asked back (standing_in outside 4132 (to_exit m) m input read) (record { running = refl; low = lit≤ tt; high = lit< tt; fits = (lit< tt, lit< tt, lit< tt); word = s.1.1.1.1.1.1.1.1.1.0 })

-- ---- The run

is_image : IsImage uses_frame
is_image = record {
  version = refl;
  entry_aligned = refl;
  entry_low = lit≤ tt;
  entry_high = lit< tt;
  globals_few = lit≤ tt;
  globals_decline = tt;
  globals_fit = lit≤ tt;
  frames_few = lit≤ tt;
  blocks_few = lit≤ tt;
  frames_fit = ((lit≤ tt, lit≤ tt, tt), lit≤ tt, tt);
  initial_fits = lit≤ tt;
  initial_ends = tt;
  text_some = lit≤ tt;
  text_fits = lit≤ tt;
  entry_within = lit< tt;
}

-- the text stands in the memory of the machine after so many instructions
stands : TextStands → (input m : List ℕ) (n : ℕ) (w : World) → All IsByte input → machine_after uses_frame input n ≡ w → w.machine.core.memory ≡ m → Stand m 4096 text
stands law input m n w bytes e f =
    let words = All-from_recursion IsWord text (lit< tt, (lit< tt, (lit< tt, (lit< tt, (lit< tt, (lit< tt, (lit< tt, (lit< tt, (lit< tt, (lit< tt, tt)))))))))) in
    subst (λ (l : List ℕ). Stand l 4096 text) (ap (λ (v : World). v.machine.core.memory) e ∙ f) (law uses_frame input n is_image (All-nil IsByte) bytes words)

abbrev first : List ℕ
first = start_memory uses_frame

abbrev last : List ℕ
last = ended block (written (made block first))

run_2 : ReadsBack → TextStands → (input : List ℕ) → All IsByte input → machine_after uses_frame input 2 ≡ standing_in inside 4104 in_frame (made block first) input entered_told
unfolding start steps
run_2 back law input bytes =
    let m = first in
    let s = stands law input m 0 (standing_in outside 4096 start_registers m input []) bytes refl refl in
    ap step (step_1 back m input s) ∙ step_2 back m input s

run_4 : ReadsBack → TextStands → (input : List ℕ) → All IsByte input → machine_after uses_frame input 4 ≡ standing_in inside 4112 set_5 (written (made block first)) input wrote
unfolding steps
run_4 back law input bytes =
    let m = made block first in
    let before = run_2 back law input bytes in
    let s = stands law input m 2 _ bytes before refl in
    ap (λ (w : World). step (step w)) before ∙ ap step (step_3 back m input s) ∙ step_4 back m input s

run_7 : ReadsBack → TextStands → (input : List ℕ) → All IsByte input → machine_after uses_frame input 7 ≡ standing_in outside 4124 left last input left_told
unfolding steps
run_7 back law input bytes =
    let m = written (made block first) in
    let before = run_4 back law input bytes in
    let s = stands law input m 4 _ bytes before refl in
    ap (λ (w : World). step (step (step w))) before ∙ ap (λ (w : World). step (step w)) (step_5 back m input s) ∙ ap step (step_6 back m input s) ∙ step_7 back m input s

run_10 : ReadsBack → TextStands → (input : List ℕ) → All IsByte input → machine_after uses_frame input 10 ≡ exited last input
unfolding steps
run_10 back law input bytes =
    let m = last in
    let before = run_7 back law input bytes in
    let s = stands law input m 7 _ bytes before refl in
    ap (λ (w : World). step (step (step w))) before ∙ ap (λ (w : World). step (step w)) (step_8 back m input s) ∙ ap step (step_9 back m input s) ∙ step_10 back m input s

pub frame_is_used : ReadsBack → TextStands → (input : List ℕ) → All IsByte input → UsesFrame (machine_after uses_frame input 10)
frame_is_used back law input bytes =
    let run = run_10 back law input bytes in
    record { events = ap (λ (w : World). events_of w.told) run; ending = ap (λ (w : World). w.machine.ending) run }

-- ---- It is safe

abbrev told : List Event
told = Made 16777200 4 ∷ Access 4108 16777200 4 true 5 ∷ Ended 16777200 4 ∷ Access 4124 16777200 4 false 5 ∷ []

moves_safe : Each (IsMoveSafe 4) [] [] told
moves_safe = (tt, (tt, (tt, (tt, tt))))

accesses_safe : Each (IsAccessSafe 4) [] [] told
accesses_safe = (tt, (λ two table. inl (inl (lit≤ tt, lit≤ tt)), (tt, (λ two table. inr (refl, refl), tt))))

control_safe : Each IsControlSafe [] [] told
control_safe = (
  tt,
  (
    (λ e. absurd (omega (arith, e)), λ e. absurd (omega (arith, e))),
    (tt, ((λ e. absurd (omega (arith, e)), λ e. absurd (omega (arith, e))), tt)),
  ),
)

end_safe : ReadsBack → LawsBelow → TextStands → (input : List ℕ) → All IsByte input → IsSafe 4 (global_blocks uses_frame) (machine_after uses_frame input 10)
end_safe back below law input bytes =
    let used = frame_is_used back law input bytes in
    let events = sym used.events in
    let accesses_end = subst (Each (IsAccessSafe 4) [] []) events accesses_safe in
    let control_end = subst (Each IsControlSafe [] []) events control_safe in record {
      contained = record {
        moves = subst (Each (IsMoveSafe 4) [] []) events moves_safe;
        accesses = accesses_end;
        control = control_end;
        table = table_is_kept below uses_frame input 10 is_image (All-nil IsByte) bytes accesses_end control_end;
        returns = subst (λ (l : List Event). IsSome (open_after [] l)) events refl;
      };
      traps = subst IsSafeEnding (sym used.ending) tt;
    }

pub frame_is_used_safely : ReadsBack → LawsBelow → TextStands → (input : List ℕ) (n : ℕ) → All IsByte input → SafeRun 4 uses_frame input n
frame_is_used_safely back below law input n bytes =
    let ended = subst IsSome (sym (frame_is_used back law input bytes).ending) refl in
    safe_ever_after below uses_frame input 10 n is_image (All-nil IsByte) bytes ended (end_safe back below law input bytes)

-- The run of an image that uses its block.
use Rattle.std.proofs.Common.{◌≡◌, ℕ, ◌≤◌, true, false, List, [], ◌∷◌, ◌++◌, get_or, set, refl, sym, ap, subst, ◌∙◌, inl, arith, lit<, lit≤}
use Rattle.std.specs.Prelude.{All, IsSome}
use Rattle.std.specs.Int.{to_le_bytes, w32}
use Rattle.std.proofs.lemmas.List.Elements.{All-nil, All-from_recursion}
use Rattle.bb_watch.specs.declared.event.Event.{Event}
use Rattle.bb_watch.specs.declared.event.Event.TheVariants.{Move, Access, Call, Return}
use Rattle.rv_code.specs.Laws.{ReadsBack}
use Rattle.rv_code.specs.declared.instr.Instr.TheVariants.{Lui, Jal, Jalr, Lbu, Sw, Addi, Add}
use Rattle.rv_image.specs.Rules.{IsImage}
use Rattle.rv_machine.specs.Environment.{World, with_machine, calls, exits}
use Rattle.bb_watch.specs.Told.{Tell, Happens, events_of}
use Rattle.rv_machine_laws.specs.Examples.{uses_block, UsesBlock}
use Rattle.rv_machine.specs.Formed.{IsByte, IsWord}
use Rattle.rv_machine.specs.Live.{global_blocks}
use Rattle.rv_machine.specs.Machine.{step, steps, machine_after}
use Rattle.size_table.specs.Memory.{Stand, written_at}
use Rattle.bb_watch.specs.Safety.{Each, IsMoveSafe, IsAccessSafe, IsControlSafe, open_after}
use Rattle.rv_machine_laws.specs.Safety.{IsSafe, IsSafeEnding, SafeRun}
use Rattle.rv_machine.specs.Start.{start, start_frames, start_memory, start_registers}
use Rattle.rv_machine.proofs.Tables.{written_other}
use Rattle.rv_machine_laws.proofs.ExampleRuns.{asked, goes, standing}
use Rattle.rv_machine_laws.proofs.SafeRuns.{safe_ever_after, table_is_kept}
use Rattle.rv_machine_laws.proofs.Starts.{start_stands, stand_same}
use Rattle.rv_machine_laws.proofs.TableMemory.{LawsBelow}
use Rattle.size_table.specs.Blocks.{Block, block_at}

abbrev text : List ℕ
text = 0x00A0_02B7 ∷ 0x0042_8313 ∷ 0x0062_8033 ∷ 0x0053_2023 ∷ 0x0080_00EF ∷ 0x0000_0073 ∷ 0xFE11_2E23 ∷ 0x000F_C383 ∷ 0x0010_0893 ∷ 0x0000_8067 ∷ []

-- ---- The registers, the memory and what is told, as the run goes on

abbrev set_5 : List ℕ
set_5 = set start_registers 5 10485760

abbrev set_6 : List ℕ
set_6 = set set_5 6 10485764

abbrev set_1 : List ℕ
set_1 = set set_6 1 4116

abbrev set_7 : List ℕ → List ℕ
set_7 m = set set_1 7 (get_or m 2097152 0)

abbrev set_17 : List ℕ → List ℕ
set_17 m = set (set_7 m) 17 1

abbrev block_written : List ℕ → List ℕ
block_written m = written_at m 10485764 (to_le_bytes w32 10485760)

abbrev stack_written : List ℕ → List ℕ
stack_written m = written_at m 10485756 (to_le_bytes w32 4116)

abbrev moved : List Tell
moved = Happens (Move 4104 10485760 10485764) ∷ []

abbrev wrote : List Tell
wrote = moved ++ Happens (Access 4108 10485764 4 true 6) ∷ []

abbrev called : List Tell
called = wrote ++ Happens (Call 4112 4120) ∷ []

abbrev stored : List Tell
stored = called ++ Happens (Access 4120 10485756 4 true 2) ∷ []

abbrev read : List Tell
read = stored ++ Happens (Access 4124 2097152 1 false 31) ∷ []

abbrev returned : List Tell
returned = read ++ Happens (Return 4132 4116) ∷ []

-- ---- Each instruction

step_1 : ReadsBack → (m input : List ℕ) → Stand m 4096 text → step (standing 4096 start_registers m input []) ≡ standing 4100 set_5 m input []
step_1 back m input s = goes back (start_frames []) (Lui 5 10485760) 4096 start_registers m input [] (record { pc = 4100; registers = set_5; memory = m }) (lit≤ tt) (lit< tt) (lit< tt, refl, lit< tt) s.0 refl

step_2 : ReadsBack → (m input : List ℕ) → Stand m 4096 text → step (standing 4100 set_5 m input []) ≡ standing 4104 set_6 m input []
step_2 back m input s = goes back (start_frames []) (Addi 6 5 4) 4100 set_5 m input [] (record { pc = 4104; registers = set_6; memory = m }) (lit≤ tt) (lit< tt) ((lit< tt, lit< tt), lit< tt, lit< tt) s.1.0 refl

step_3 : ReadsBack → (m input : List ℕ) → Stand m 4096 text → step (standing 4104 set_6 m input []) ≡ standing 4108 set_6 m input moved
step_3 back m input s = goes back (start_frames []) (Add 0 5 6) 4104 set_6 m input [] (record { pc = 4108; registers = set_6; memory = m }) (lit≤ tt) (lit< tt) (lit< tt, lit< tt, lit< tt) s.1.1.0 refl

step_4 : ReadsBack → (m input : List ℕ) → Stand m 4096 text → step (standing 4108 set_6 m input moved) ≡ standing 4112 set_6 (block_written m) input wrote
step_4 back m input s = goes back (start_frames []) (Sw 6 5 0) 4108 set_6 m input moved (record { pc = 4112; registers = set_6; memory = block_written m }) (lit≤ tt) (lit< tt) ((lit< tt, lit< tt), lit< tt, lit< tt) s.1.1.1.0 refl

step_5 : ReadsBack → (m input : List ℕ) → Stand m 4096 text → step (standing 4112 set_6 m input wrote) ≡ standing 4120 set_1 m input called
step_5 back m input s = goes back (start_frames []) (Jal 1 8) 4112 set_6 m input wrote (record { pc = 4120; registers = set_1; memory = m }) (lit≤ tt) (lit< tt) ((lit< tt, lit< tt), refl, lit< tt) s.1.1.1.1.0 refl

step_6 : ReadsBack → (m input : List ℕ) → Stand m 4096 text → step (standing 4120 set_1 m input called) ≡ standing 4124 set_1 (stack_written m) input stored
step_6 back m input s = goes back (start_frames []) (Sw 2 1 4294967292) 4120 set_1 m input called (record { pc = 4124; registers = set_1; memory = stack_written m }) (lit≤ tt) (lit< tt) ((lit< tt, lit< tt), lit< tt, lit< tt) s.1.1.1.1.1.1.0 refl

step_7 : ReadsBack → (m input : List ℕ) → Stand m 4096 text → step (standing 4124 set_1 m input stored) ≡ standing 4128 (set_7 m) m input read
step_7 back m input s = goes back (start_frames []) (Lbu 7 31 0) 4124 set_1 m input stored (record { pc = 4128; registers = set_7 m; memory = m }) (lit≤ tt) (lit< tt) ((lit< tt, lit< tt), lit< tt, lit< tt) s.1.1.1.1.1.1.1.0 refl

step_8 : ReadsBack → (m input : List ℕ) → Stand m 4096 text → step (standing 4128 (set_7 m) m input read) ≡ standing 4132 (set_17 m) m input read
step_8 back m input s = goes back (start_frames []) (Addi 17 0 1) 4128 (set_7 m) m input read (record { pc = 4132; registers = set_17 m; memory = m }) (lit≤ tt) (lit< tt) ((lit< tt, lit< tt), lit< tt, lit< tt) s.1.1.1.1.1.1.1.1.0 refl

step_9 : ReadsBack → (m input : List ℕ) → Stand m 4096 text → step (standing 4132 (set_17 m) m input read) ≡ standing 4116 (set_17 m) m input returned
step_9 back m input s = goes back (start_frames []) (Jalr 0 1 0) 4132 (set_17 m) m input read (record { pc = 4116; registers = set_17 m; memory = m }) (lit≤ tt) (lit< tt) ((lit< tt, lit< tt), lit< tt, lit< tt) s.1.1.1.1.1.1.1.1.1.0 refl

abbrev exited : List ℕ → List ℕ → World
exited m input = with_machine exits (standing 4116 (set_17 m) m input returned)

step_10 : ReadsBack → (m input : List ℕ) → Stand m 4096 text → step (standing 4116 (set_17 m) m input returned) ≡ exited m input
unfolding calls
step_10 back m input s = asked back (standing 4116 (set_17 m) m input returned) (record { running = refl; low = lit≤ tt; high = lit< tt; fits = (lit< tt, lit< tt, lit< tt); word = s.1.1.1.1.1.0 })

-- ---- The run

is_image : IsImage uses_block
is_image = record {
  version = refl;
  entry_aligned = refl;
  entry_low = lit≤ tt;
  entry_high = lit< tt;
  globals_few = lit≤ tt;
  globals_decline = (lit≤ tt, lit≤ tt, tt);
  globals_fit = lit≤ tt;
  frames_few = lit≤ tt;
  blocks_few = lit≤ tt;
  frames_fit = tt;
  initial_fits = lit≤ tt;
  initial_ends = tt;
  text_some = lit≤ tt;
  text_fits = lit≤ tt;
  entry_within = lit< tt;
}

stands : Stand (start_memory uses_block) 4096 text
stands = start_stands uses_block is_image (All-from_recursion IsWord text (lit< tt, (lit< tt, (lit< tt, (lit< tt, (lit< tt, (lit< tt, (lit< tt, (lit< tt, (lit< tt, (lit< tt, tt)))))))))))

-- what is written above the text leaves it
text_left : (m : List ℕ) (at : ℕ) (bytes : List ℕ) → 2097152 ≤ at → Stand m 4096 text → Stand (written_at m at bytes) 4096 text
text_left m at bytes above s = stand_same text m (written_at m at bytes) 4096 (λ i l. written_other m at bytes i (inl (omega (arith, l, above)))) s

last_memory : List ℕ
last_memory = stack_written (block_written (start_memory uses_block))

run_is : ReadsBack → (input : List ℕ) → machine_after uses_block input 10 ≡ exited last_memory input
unfolding start steps last_memory
run_is back input =
    let m = start_memory uses_block in
    let s = stands in
    let n = block_written m in
    let t = text_left m 10485764 (to_le_bytes w32 10485760) (lit≤ tt) s in
    let o = stack_written n in
    let u = text_left n 10485756 (to_le_bytes w32 4116) (lit≤ tt) t in
    let two = ap step (step_1 back m input s) ∙ step_2 back m input s in
    let four = ap (λ (w : World). step (step w)) two ∙ ap step (step_3 back m input s) ∙ step_4 back m input s in
    let six = ap (λ (w : World). step (step w)) four ∙ ap step (step_5 back n input t) ∙ step_6 back n input t in
    let eight = ap (λ (w : World). step (step w)) six ∙ ap step (step_7 back o input u) ∙ step_8 back o input u in
    ap (λ (w : World). step (step w)) eight ∙ ap step (step_9 back o input u) ∙ step_10 back o input u

pub block_is_used : ReadsBack → (input : List ℕ) → UsesBlock (machine_after uses_block input 10)
block_is_used back input = record {
  events = ap (λ (w : World). events_of w.told) (run_is back input);
  ending = ap (λ (w : World). w.machine.ending) (run_is back input);
}

-- ---- It is safe

abbrev told : List Event
told = Move 4104 10485760 10485764 ∷ Access 4108 10485764 4 true 6 ∷ Call 4112 4120 ∷ Access 4120 10485756 4 true 2 ∷ Access 4124 2097152 1 false 31 ∷ Return 4132 4116 ∷ []

abbrev block : List Block
block = block_at 10485760 4 ∷ []

moves_safe : Each (IsMoveSafe 4) block block told
moves_safe = ((block_at 10485760 4, refl, inl (lit< tt, lit≤ tt, lit< tt)), (tt, (tt, (tt, (tt, (tt, tt))))))

accesses_safe : Each (IsAccessSafe 4) block block told
accesses_safe = (tt, (λ two table. inl (inl (lit≤ tt, lit≤ tt)), (tt, (λ two table. absurd (two refl), (λ two table. absurd (table refl), (tt, tt))))))

control_safe : Each IsControlSafe block block told
control_safe = (
  tt,
  (
    (λ e. absurd (omega (arith, e)), λ e. absurd (omega (arith, e))),
    (
      tt,
      (
        (λ e. (lit≤ tt, lit≤ tt), λ e. absurd (omega (arith, e))),
        ((λ e. absurd (omega (arith, e)), λ e. (refl, refl, lit≤ tt, lit< tt)), (tt, tt)),
      ),
    ),
  ),
)

end_safe : ReadsBack → LawsBelow → (input : List ℕ) → All IsByte input → IsSafe 4 (global_blocks uses_block) (machine_after uses_block input 10)
end_safe back below input bytes =
    let used = block_is_used back input in
    let events = sym used.events in
    let accesses_end = subst (Each (IsAccessSafe 4) block block) events accesses_safe in
    let control_end = subst (Each IsControlSafe block block) events control_safe in record {
      contained = record {
        moves = subst (Each (IsMoveSafe 4) block block) events moves_safe;
        accesses = accesses_end;
        control = control_end;
        table = table_is_kept below uses_block input 10 is_image (All-nil IsByte) bytes accesses_end control_end;
        returns = subst (λ (l : List Event). IsSome (open_after [] l)) events refl;
      };
      traps = subst IsSafeEnding (sym used.ending) tt;
    }

pub block_is_used_safely : ReadsBack → LawsBelow → (input : List ℕ) (n : ℕ) → All IsByte input → SafeRun 4 uses_block input n
block_is_used_safely back below input n bytes =
    let ended = subst IsSome (sym (block_is_used back input).ending) refl in
    safe_ever_after below uses_block input 10 n is_image (All-nil IsByte) bytes ended (end_safe back below input bytes)

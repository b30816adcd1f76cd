-- Runs of small images.
use Rattle.std.proofs.Common.{◌≡◌, ◌≢◌, ◌+◌, get_or, get_or-set_other, length-set, ℕ, zero, suc, ◌<◌, ◌≤◌, ◌*◌, ◌^◌, ◌⊎◌, true, false, List, [], ◌∷◌, ◌++◌, length, set, Some, None, refl, sym, ap, subst, ◌∙◌, inl, inr, arith, get_or-set_same, lit<, lit≤}
use Rattle.std.specs.Prelude.{All, IsSome, map}
use Rattle.std.proofs.lemmas.Bool.{cases_eq}
use Rattle.std.proofs.lemmas.List.Elements.{All-nil, All-from_recursion}
use Rattle.bb_words.specs.declared.kinds.TrapKind.{TrapKind}
use Rattle.bb_words.specs.declared.kinds.TrapKind.TheVariants.{Break}
use Rattle.bb_watch.specs.declared.event.Event.{Event}
use Rattle.bb_watch.specs.declared.event.Event.TheVariants.{Move, Access, Return}
use Rattle.rv_code.specs.Code.{Fits, word_of}
use Rattle.rv_code.specs.Laws.{ReadsBack}
use Rattle.rv_code.specs.declared.instr.Instr.{Instr}
use Rattle.rv_code.specs.declared.instr.Instr.TheVariants.{Lui, Jalr, Lw, Sb, Sw, Addi, Add, Ecall, Ebreak}
use Rattle.rv_image.specs.declared.image.Image.{Image}
use Rattle.rv_image.specs.Rules.{IsImage}
use Rattle.rv_machine.specs.declared.stop.Halt.TheVariants.{Exited, Trapped}
use Rattle.rv_machine.specs.Environment.{World, with_machine, calls, exits}
use Rattle.bb_watch.specs.Told.{Tell, Happens, events_of}
use Rattle.rv_machine_laws.specs.Examples.{image_with, forty_two, moves_unowned, reads_unowned, writes_table, changes_table, returns_nowhere, breaks, Clause, OnMoves, OnAccesses, OnControl, OnTable, OnReturns, OnTraps, Holds, BreaksAlone, ClausesRefuse, UnsafeExamples}
use Rattle.rv_machine.specs.Formed.{IsByte, IsWord}
use Rattle.rv_machine.specs.Instruction.{Goes, Traps, Asks, effect, event_of}
use Rattle.bb_watch.specs.Live.{live_of}
use Rattle.rv_machine.specs.Live.{global_blocks}
use Rattle.rv_machine.specs.Machine.{step, steps, machine_after}
use Rattle.bb_watch.specs.Safety.{Each, IsMoveSafe, IsAccessSafe, IsControlSafe, LieIn, WasFreed, open_after}
use Rattle.size_table.specs.Memory.{Stand, word_at, written_at}
use Rattle.rv_machine_laws.specs.Safety.{IsSafe, IsSafeEnding, SafeRun}
use Rattle.rv_machine.specs.Start.{start, start_memory, start_registers, start_frames}
use Rattle.rv_machine.specs.State.{Core, Frames, with_core, halted}
use Rattle.rv_machine_laws.proofs.Programs.{does_instr, tells_instr}
use Rattle.rv_machine_laws.proofs.Starts.{start_stands, start_table, start_whole}
use Rattle.rv_machine.proofs.Steps.{step_acts, steps_stay}
use Rattle.rv_machine_laws.proofs.TableMemory.{LawsBelow, table_at, table_long}
use Rattle.size_table.specs.Table.{IsTableOf, table_in}

-- ---- One instruction

-- the machine is at this instruction
pub record IsAt (i : Instr) (w : World) : Type 0 where
  pub running : w.machine.ending ≡ None
  pub low : 4096 ≤ w.machine.core.pc
  pub high : w.machine.core.pc < 2097152
  pub fits : Fits i
  pub word : word_at w.machine.core.memory w.machine.core.pc ≡ word_of i

pub went : ReadsBack → (i : Instr) (d : Core) (w : World) → IsAt i w → effect i w.machine.core ≡ Goes d
    → step w ≡ record { machine = with_core d w.machine; left = w.left; told = w.told ++ map Happens (event_of i w.machine.core) }
went back i d w at e =
    let c = w.machine.core in
    step_acts w (Goes d) at.running (does_instr back c i at.low at.high at.fits at.word ∙ e)
    ∙ ap (λ (events : List Event). record { machine = with_core d w.machine; left = w.left; told = w.told ++ map Happens events }) (tells_instr back c i at.fits at.word)

trapped : ReadsBack → (i : Instr) (kind : TrapKind) (w : World) → IsAt i w → effect i w.machine.core ≡ Traps kind → step w ≡ with_machine (halted (Trapped kind)) w
trapped back i kind w at e = step_acts w (Traps kind) at.running (does_instr back w.machine.core i at.low at.high at.fits at.word ∙ e)

pub asked : ReadsBack → (w : World) → IsAt Ecall w → step w ≡ calls w
asked back w at = step_acts w Asks at.running (does_instr back w.machine.core Ecall at.low at.high at.fits at.word)

-- ---- The first machine

-- a machine with these frames, that has not ended
abbrev pub standing_in : Frames → (pc : ℕ) → (registers memory input : List ℕ) → List Tell → World
standing_in frames pc registers memory input told = record {
  machine = record { core = record { pc = pc; registers = registers; memory = memory }; frames = frames; heap = []; ending = None };
  left = input;
  told = told;
}

-- one of an image without frames
abbrev pub standing : (pc : ℕ) → (registers memory input : List ℕ) → List Tell → World
standing = standing_in (start_frames [])

-- one instruction at a place of the text
pub goes : ReadsBack → (frames : Frames) (i : Instr) (pc : ℕ) (registers m input : List ℕ) (told : List Tell) (d : Core) → 4096 ≤ pc → pc < 2097152 → Fits i → word_at m pc ≡ word_of i
    → effect i (record { pc = pc; registers = registers; memory = m }) ≡ Goes d
    → step (standing_in frames pc registers m input told) ≡ standing_in frames d.pc d.registers d.memory input (told ++ map Happens (event_of i (record { pc = pc; registers = registers; memory = m })))
goes back frames i pc registers m input told d low high fits word e = went back i d (standing_in frames pc registers m input told) (record { running = refl; low = low; high = high; fits = fits; word = word }) e

first_is : (words input : List ℕ) → machine_after (image_with words) input 0 ≡ standing 4096 start_registers (start_memory (image_with words)) input []
unfolding start steps
first_is words input = refl

plain_image : (words : List ℕ) → 1 ≤ length words → 4 * length words ≤ 2093056 → IsImage (image_with words)
plain_image words some few = record {
  version = refl;
  entry_aligned = refl;
  entry_low = lit≤ tt;
  entry_high = lit< tt;
  globals_few = lit≤ tt;
  globals_decline = tt;
  globals_fit = lit≤ tt;
  frames_few = lit≤ tt;
  blocks_few = lit≤ tt;
  frames_fit = tt;
  initial_fits = lit≤ tt;
  initial_ends = tt;
  text_some = some;
  text_fits = few;
  entry_within = omega (arith, some);
}

-- the words of an image stand in its memory
stand : (words : List ℕ) → 1 ≤ length words → 4 * length words ≤ 2093056 → All IsWord words → Stand (start_memory (image_with words)) 4096 words
stand words some few are = start_stands (image_with words) (plain_image words some few) are

-- ---- The image that exits with 42

abbrev text : List ℕ
text = 0x02A0_0513 ∷ 0x0010_0893 ∷ 0x0000_0073 ∷ []

exit_first : ReadsBack → (m input : List ℕ) → Stand m 4096 text → step (standing 4096 start_registers m input []) ≡ standing 4100 (set start_registers 10 42) m input []
exit_first back m input s =
    went back (Addi 10 0 42) (record { pc = 4100; registers = set start_registers 10 42; memory = m }) (standing 4096 start_registers m input [])
    (record { running = refl; low = lit≤ tt; high = lit< tt; fits = ((lit< tt, lit< tt), lit< tt, lit< tt); word = s.0 }) refl

exit_second : ReadsBack → (m input : List ℕ) → Stand m 4096 text → step (standing 4100 (set start_registers 10 42) m input []) ≡ standing 4104 (set (set start_registers 10 42) 17 1) m input []
exit_second back m input s =
    went back (Addi 17 0 1) (record { pc = 4104; registers = set (set start_registers 10 42) 17 1; memory = m }) (standing 4100 (set start_registers 10 42) m input [])
    (record { running = refl; low = lit≤ tt; high = lit< tt; fits = ((lit< tt, lit< tt), lit< tt, lit< tt); word = s.1.0 }) refl

abbrev exited : List ℕ → List ℕ → World
exited m input = with_machine exits (standing 4104 (set (set start_registers 10 42) 17 1) m input [])

exit_third : ReadsBack → (m input : List ℕ) → Stand m 4096 text → step (standing 4104 (set (set start_registers 10 42) 17 1) m input []) ≡ exited m input
unfolding calls
exit_third back m input s =
    asked back (standing 4104 (set (set start_registers 10 42) 17 1) m input [])
    (record { running = refl; low = lit≤ tt; high = lit< tt; fits = (lit< tt, lit< tt, lit< tt); word = s.1.1.0 })

exit_stands : Stand (start_memory forty_two) 4096 text
exit_stands = stand text (lit≤ tt) (lit≤ tt) (All-from_recursion IsWord text (lit< tt, (lit< tt, (lit< tt, tt))))

exit_one : ReadsBack → (input : List ℕ) → machine_after forty_two input 1 ≡ standing 4100 (set start_registers 10 42) (start_memory forty_two) input []
unfolding start steps
exit_one back input = exit_first back (start_memory forty_two) input exit_stands

exit_two : ReadsBack → (input : List ℕ) → machine_after forty_two input 2 ≡ standing 4104 (set (set start_registers 10 42) 17 1) (start_memory forty_two) input []
unfolding start steps
exit_two back input = ap step (exit_one back input) ∙ exit_second back (start_memory forty_two) input exit_stands

pub exit_three : ReadsBack → (input : List ℕ) → machine_after forty_two input 3 ≡ exited (start_memory forty_two) input
unfolding start steps
exit_three back input = ap step (exit_two back input) ∙ exit_third back (start_memory forty_two) input exit_stands

pub example_exits : ReadsBack → (input : List ℕ) → ((machine_after forty_two input 3).machine.ending ≡ Some (Exited 42)) × ((machine_after forty_two input 3).told ≡ [])
example_exits back input =
    let e = exit_three back input in
    (ap (λ (w : World). w.machine.ending) e, ap (λ (w : World). w.told) e)

-- ---- It is safe

-- what a run has come to where it has told nothing and has the memory of the start
record IsQuiet (image : Image) (w : World) : Type 0 where
  told : w.told ≡ []
  memory : w.machine.core.memory ≡ start_memory image
  ending : IsSafeEnding w.machine.ending

quiet_safe : LawsBelow → (image : Image) (w : World) → IsImage image → All IsByte image.initial → IsQuiet image w → IsSafe 4 (global_blocks image) w
unfolding start
quiet_safe below image w h initial q =
    let globals = global_blocks image in
    let none = sym q.told in record {
      contained = record {
        moves = subst (λ (l : List Tell). Each (IsMoveSafe 4) globals globals (events_of l)) none tt;
        accesses = subst (λ (l : List Tell). Each (IsAccessSafe 4) globals globals (events_of l)) none tt;
        control = subst (λ (l : List Tell). Each IsControlSafe globals globals (events_of l)) none tt;
        table = subst (λ (l : List Tell). IsTableOf 4 (live_of globals (events_of l)) (table_in w.machine.core.memory)) none
            (subst (λ (m : List ℕ). IsTableOf 4 globals (table_in m)) (sym q.memory) (start_table below image h initial));
        returns = subst (λ (l : List Tell). IsSome (open_after [] (events_of l))) none refl;
      };
      traps = q.ending;
    }

quiet_at : (w v : World) → w ≡ v → IsQuiet forty_two v → IsQuiet forty_two w
quiet_at w v e q = subst (IsQuiet forty_two) (sym e) q

exit_quiet : ReadsBack → (input : List ℕ) (k : ℕ) → IsQuiet forty_two (machine_after forty_two input k)
exit_quiet back input zero = quiet_at _ _ (first_is text input) (record { told = refl; memory = refl; ending = tt })
exit_quiet back input (suc zero) = quiet_at _ _ (exit_one back input) (record { told = refl; memory = refl; ending = tt })
exit_quiet back input (suc (suc zero)) = quiet_at _ _ (exit_two back input) (record { told = refl; memory = refl; ending = tt })
exit_quiet back input (suc (suc (suc k))) =
    let three = exit_three back input in
    let ended = subst (λ (w : World). IsSome w.machine.ending) (sym three) refl in
    quiet_at _ _ (steps_stay (suc (suc (suc k))) 3 (record { machine = start forty_two; left = input; told = [] }) ended (omega arith) ∙ three)
    (record { told = refl; memory = refl; ending = tt })

pub example_is_safe : ReadsBack → LawsBelow → (input : List ℕ) (n : ℕ) → SafeRun 4 forty_two input n
example_is_safe back below input n k le =
    quiet_safe below forty_two (machine_after forty_two input k) (plain_image text (lit≤ tt) (lit≤ tt)) (All-nil IsByte) (exit_quiet back input k)

-- ---- Images that break a clause

-- a machine is at the first instruction, whose word stands there
at_first : (i : Instr) (m input : List ℕ) → Fits i → word_at m 4096 ≡ word_of i → IsAt i (standing 4096 start_registers m input [])
at_first i m input fits word = record { running = refl; low = lit≤ tt; high = lit< tt; fits = fits; word = word }

one_stands : (word : ℕ) → word < 2 ^ 32 → word_at (start_memory (image_with (word ∷ []))) 4096 ≡ word
one_stands word small = (stand (word ∷ []) (lit≤ tt) (lit≤ tt) (All-from_recursion IsWord (word ∷ []) (small, tt))).0

-- one instruction of an image with this one alone
one_goes : ReadsBack → (i : Instr) (pc : ℕ) (registers memory input : List ℕ) → Fits i → word_of i < 2 ^ 32
    → effect i (record { pc = 4096; registers = start_registers; memory = start_memory (image_with (word_of i ∷ [])) }) ≡ Goes (record { pc = pc; registers = registers; memory = memory })
    → machine_after (image_with (word_of i ∷ [])) input 1 ≡ standing pc registers memory input (map Happens (event_of i (record { pc = 4096; registers = start_registers; memory = start_memory (image_with (word_of i ∷ [])) })))
unfolding start steps
one_goes back i pc registers memory input fits small goes =
    let m = start_memory (image_with (word_of i ∷ [])) in
    went back i (record { pc = pc; registers = registers; memory = memory }) (standing 4096 start_registers m input []) (at_first i m input fits (one_stands (word_of i) small)) goes

moves_one : ReadsBack → (input : List ℕ) → machine_after moves_unowned input 1 ≡ standing 4100 start_registers (start_memory moves_unowned) input (Happens (Move 4096 0 0) ∷ [])
moves_one back input = one_goes back (Add 0 5 6) 4100 start_registers (start_memory moves_unowned) input (lit< tt, lit< tt, lit< tt) (lit< tt) refl

moves_refused : Each (IsMoveSafe 4) [] [] (Move 4096 0 0 ∷ []) → ⊥
moves_refused h = let none = h.0.1 in cc

writes_one : ReadsBack → (input : List ℕ) → machine_after writes_table input 1 ≡ standing 4100 start_registers (written_at (start_memory writes_table) 2097152 (0 ∷ 0 ∷ 0 ∷ 0 ∷ [])) input (Happens (Access 4096 2097152 4 true 31) ∷ [])
writes_one back input = one_goes back (Sw 31 0 0) 4100 start_registers (written_at (start_memory writes_table) 2097152 (0 ∷ 0 ∷ 0 ∷ 0 ∷ [])) input ((lit< tt, lit< tt), lit< tt, lit< tt) (lit< tt) refl

writes_refused : Each IsControlSafe [] [] (Access 4096 2097152 4 true 31 ∷ []) → ⊥
writes_refused h = let reads = (h.0.1 refl).0 in cc

returns_one : ReadsBack → (input : List ℕ) → machine_after returns_nowhere input 1 ≡ standing 0 start_registers (start_memory returns_nowhere) input (Happens (Return 4096 0) ∷ [])
returns_one back input = one_goes back (Jalr 0 1 0) 0 start_registers (start_memory returns_nowhere) input ((lit< tt, lit< tt), lit< tt, lit< tt) (lit< tt) refl

returns_refused : IsSome (open_after [] (Return 4096 0 ∷ [])) → ⊥
returns_refused h = cc

breaks_one : ReadsBack → (input : List ℕ) → machine_after breaks input 1 ≡ with_machine (halted (Trapped Break)) (standing 4096 start_registers (start_memory breaks) input [])
unfolding start steps
breaks_one back input =
    trapped back Ebreak Break (standing 4096 start_registers (start_memory breaks) input [])
    (at_first Ebreak (start_memory breaks) input (lit< tt, lit< tt, lit< tt) (one_stands 0x0010_0073 (lit< tt))) refl

-- ---- Images of two instructions

two_stand : (first second : ℕ) → first < 2 ^ 32 → second < 2 ^ 32 → Stand (start_memory (image_with (first ∷ second ∷ []))) 4096 (first ∷ second ∷ [])
two_stand first second a b = stand (first ∷ second ∷ []) (lit≤ tt) (lit≤ tt) (All-from_recursion IsWord (first ∷ second ∷ []) (a, (b, tt)))

at_second : (i : Instr) (registers m input : List ℕ) → Fits i → word_at m 4100 ≡ word_of i → IsAt i (standing 4100 registers m input [])
at_second i registers m input fits word = record { running = refl; low = lit≤ tt; high = lit< tt; fits = fits; word = word }

reads_first : ReadsBack → (m input : List ℕ) → Stand m 4096 (0x00C0_02B7 ∷ 0x0002_A303 ∷ []) → step (standing 4096 start_registers m input []) ≡ standing 4100 (set start_registers 5 12582912) m input []
reads_first back m input s =
    went back (Lui 5 12582912) (record { pc = 4100; registers = set start_registers 5 12582912; memory = m }) (standing 4096 start_registers m input [])
    (at_first (Lui 5 12582912) m input (lit< tt, refl, lit< tt) s.0) refl

reads_second : ReadsBack → (m input : List ℕ) → Stand m 4096 (0x00C0_02B7 ∷ 0x0002_A303 ∷ [])
    → step (standing 4100 (set start_registers 5 12582912) m input []) ≡ standing 4104 (set (set start_registers 5 12582912) 6 (word_at m 12582912)) m input (Happens (Access 4100 12582912 4 false 5) ∷ [])
reads_second back m input s =
    went back (Lw 6 5 0) (record { pc = 4104; registers = set (set start_registers 5 12582912) 6 (word_at m 12582912); memory = m }) (standing 4100 (set start_registers 5 12582912) m input [])
    (at_second (Lw 6 5 0) (set start_registers 5 12582912) m input ((lit< tt, lit< tt), lit< tt, lit< tt) s.1.0) refl

abbrev reads_last : List ℕ → World
reads_last input =
    let m = start_memory reads_unowned in
    standing 4104 (set (set start_registers 5 12582912) 6 (word_at m 12582912)) m input (Happens (Access 4100 12582912 4 false 5) ∷ [])

reads_two : ReadsBack → (input : List ℕ) → machine_after reads_unowned input 2 ≡ reads_last input
unfolding start steps
reads_two back input =
    let m = start_memory reads_unowned in
    let s = two_stand 0x00C0_02B7 0x0002_A303 (lit< tt) (lit< tt) in
    ap step (reads_first back m input s) ∙ reads_second back m input s

lies_nowhere : LieIn 12582912 4 [] ⊎ WasFreed 4 [] [] 786432 → ⊥
lies_nowhere (inl h) = h
lies_nowhere (inr h) = let none = h.1 in cc

reads_refused : Each (IsAccessSafe 4) [] [] (Access 4100 12582912 4 false 5 ∷ []) → ⊥
reads_refused h = lies_nowhere (h.0 (λ e. omega (arith, e)) (λ e. omega (arith, e)))

changes_first : ReadsBack → (m input : List ℕ) → Stand m 4096 (0x0010_0313 ∷ 0x006F_8023 ∷ []) → step (standing 4096 start_registers m input []) ≡ standing 4100 (set start_registers 6 1) m input []
changes_first back m input s =
    went back (Addi 6 0 1) (record { pc = 4100; registers = set start_registers 6 1; memory = m }) (standing 4096 start_registers m input [])
    (at_first (Addi 6 0 1) m input ((lit< tt, lit< tt), lit< tt, lit< tt) s.0) refl

changes_second : ReadsBack → (m input : List ℕ) → Stand m 4096 (0x0010_0313 ∷ 0x006F_8023 ∷ [])
    → step (standing 4100 (set start_registers 6 1) m input []) ≡ standing 4104 (set start_registers 6 1) (set m 2097152 1) input (Happens (Access 4100 2097152 1 true 31) ∷ [])
changes_second back m input s =
    went back (Sb 31 6 0) (record { pc = 4104; registers = set start_registers 6 1; memory = set m 2097152 1 }) (standing 4100 (set start_registers 6 1) m input [])
    (at_second (Sb 31 6 0) (set start_registers 6 1) m input ((lit< tt, lit< tt), lit< tt, lit< tt) s.1.0) refl

changes_two : ReadsBack → (input : List ℕ) → machine_after changes_table input 2 ≡ standing 4104 (set start_registers 6 1) (set (start_memory changes_table) 2097152 1) input (Happens (Access 4100 2097152 1 true 31) ∷ [])
unfolding start steps
changes_two back input =
    let m = start_memory changes_table in
    let s = two_stand 0x0010_0313 0x006F_8023 (lit< tt) (lit< tt) in
    ap step (changes_first back m input s) ∙ changes_second back m input s

-- a byte of the size table that is 1 is not that of a slot without a block
table_refused : (m : List ℕ) → length m ≡ 33554432 → IsTableOf 4 [] (table_in (set m 2097152 1)) → ⊥
table_refused m size t =
    let zero_there = sym (table_at (set m 2097152 1) 0 (lit< tt)) ∙ t.bytes 0 (lit< tt) in
    let one_there = get_or-set_same m 2097152 1 0 (omega (arith, size)) in
    omega (arith, zero_there, one_there)

-- ---- No other clause is broken

-- the image's table stands in the memory of its start
plain_table : LawsBelow → (words : List ℕ) → 1 ≤ length words → 4 * length words ≤ 2093056 → IsTableOf 4 [] (table_in (start_memory (image_with words)))
plain_table below words some few = start_table below (image_with words) (plain_image words some few) (All-nil IsByte)

-- a zero that is written over a zero
zero_set : (m : List ℕ) (at i : ℕ) → at < length m → get_or m i 0 ≡ 0 → get_or (set m at 0) i 0 ≡ 0
zero_set m at i within is = elim (cases_eq i at) [
  | inl e ↦ subst (λ (k : ℕ). get_or (set m at 0) k 0 ≡ 0) (sym e) (get_or-set_same m at 0 0 within)
  | inr ne ↦ get_or-set_other m at i 0 0 ne ∙ is
]

zeros_written : (m : List ℕ) → length m ≡ 33554432 → IsTableOf 4 [] (table_in m) → IsTableOf 4 [] (table_in (written_at m 2097152 (0 ∷ 0 ∷ 0 ∷ 0 ∷ [])))
zeros_written m size t =
    let a = set m 2097152 0 in
    let b = set a 2097153 0 in
    let c = set b 2097154 0 in
    let a_size = length-set m 2097152 0 ∙ size in
    let b_size = length-set a 2097153 0 ∙ a_size in
    let c_size = length-set b 2097154 0 ∙ b_size in
    let d_size = length-set c 2097155 0 ∙ c_size in record {
      size = table_long (set c 2097155 0) d_size;
      bytes = λ slot l.
          let at = 2097152 + slot in
          let is = sym (table_at m slot l) ∙ t.bytes slot l in
          table_at (set c 2097155 0) slot l
          ∙ zero_set c 2097155 at (omega (arith, c_size)) (zero_set b 2097154 at (omega (arith, b_size)) (zero_set a 2097153 at (omega (arith, a_size)) (zero_set m 2097152 at (omega (arith, size)) is)));
    }

abbrev OtherHold : Clause → Image → World → Type 0
OtherHold clause image w = (other : Clause) → (other ≡ clause) ⊎ Holds other image w

moves_others : LawsBelow → (input : List ℕ) → OtherHold OnMoves moves_unowned (standing 4100 start_registers (start_memory moves_unowned) input (Happens (Move 4096 0 0) ∷ []))
moves_others below input OnMoves = inl refl
moves_others below input OnAccesses = inr (tt, tt)
moves_others below input OnControl = inr (tt, tt)
moves_others below input OnTable = inr (plain_table below (0x0062_8033 ∷ []) (lit≤ tt) (lit≤ tt))
moves_others below input OnReturns = inr refl
moves_others below input OnTraps = inr tt

reads_others : LawsBelow → (input : List ℕ) → OtherHold OnAccesses reads_unowned (reads_last input)
reads_others below input OnMoves = inr (tt, tt)
reads_others below input OnAccesses = inl refl
reads_others below input OnControl = inr ((λ e. absurd (omega (arith, e)), λ e. absurd (omega (arith, e))), tt)
reads_others below input OnTable = inr (plain_table below (0x00C0_02B7 ∷ 0x0002_A303 ∷ []) (lit≤ tt) (lit≤ tt))
reads_others below input OnReturns = inr refl
reads_others below input OnTraps = inr tt

writes_others : LawsBelow → (input : List ℕ) → OtherHold OnControl writes_table (standing 4100 start_registers (written_at (start_memory writes_table) 2097152 (0 ∷ 0 ∷ 0 ∷ 0 ∷ [])) input (Happens (Access 4096 2097152 4 true 31) ∷ []))
writes_others below input OnMoves = inr (tt, tt)
writes_others below input OnAccesses = inr (λ two table. absurd (table refl), tt)
writes_others below input OnControl = inl refl
writes_others below input OnTable =
    let words = 0x000F_A023 ∷ [] in
    inr (zeros_written (start_memory writes_table) (start_whole writes_table (plain_image words (lit≤ tt) (lit≤ tt)) (All-nil IsByte)).size (plain_table below words (lit≤ tt) (lit≤ tt)))
writes_others below input OnReturns = inr refl
writes_others below input OnTraps = inr tt

returns_others : LawsBelow → (input : List ℕ) → OtherHold OnReturns returns_nowhere (standing 0 start_registers (start_memory returns_nowhere) input (Happens (Return 4096 0) ∷ []))
returns_others below input OnMoves = inr (tt, tt)
returns_others below input OnAccesses = inr (tt, tt)
returns_others below input OnControl = inr (tt, tt)
returns_others below input OnTable = inr (plain_table below (0x0000_8067 ∷ []) (lit≤ tt) (lit≤ tt))
returns_others below input OnReturns = inl refl
returns_others below input OnTraps = inr tt

breaks_others : LawsBelow → (input : List ℕ) → OtherHold OnTraps breaks (with_machine (halted (Trapped Break)) (standing 4096 start_registers (start_memory breaks) input []))
breaks_others below input OnMoves = inr tt
breaks_others below input OnAccesses = inr tt
breaks_others below input OnControl = inr tt
breaks_others below input OnTable = inr (plain_table below (0x0010_0073 ∷ []) (lit≤ tt) (lit≤ tt))
breaks_others below input OnReturns = inr refl
breaks_others below input OnTraps = inl refl

unless_same : (clause other : Clause) (image : Image) (w : World) → (other ≡ clause) ⊎ Holds other image w → other ≢ clause → Holds other image w
unless_same clause other image w (inl same) ne = absurd (ne same)
unless_same clause other image w (inr holds) ne = holds

breaks_alone : (clause : Clause) (image : Image) (n : ℕ) (last : List ℕ → World) → ((input : List ℕ) → machine_after image input n ≡ last input) → ((input : List ℕ) → Holds clause image (last input) → ⊥) → ((input : List ℕ) → OtherHold clause image (last input)) → BreaksAlone clause image n
breaks_alone clause image n last run refused others = (
  λ input h. refused input (subst (Holds clause image) (run input) h),
  λ input other ne. subst (Holds other image) (sym (run input)) (unless_same clause other image (last input) (others input other) ne),
)

-- ---- The laws

pub clauses_refuse : ReadsBack → LawsBelow → ClausesRefuse
clauses_refuse back below = record {
  moves = breaks_alone OnMoves moves_unowned 1 _ (moves_one back) (λ input. moves_refused) (moves_others below);
  accesses = breaks_alone OnAccesses reads_unowned 2 reads_last (reads_two back) (λ input. reads_refused) (reads_others below);
  control = breaks_alone OnControl writes_table 1 _ (writes_one back) (λ input. writes_refused) (writes_others below);
  table = λ input h.
      let long = (start_whole changes_table (plain_image (0x0010_0313 ∷ 0x006F_8023 ∷ []) (lit≤ tt) (lit≤ tt)) (All-nil IsByte)).size in
      table_refused (start_memory changes_table) long (subst (Holds OnTable changes_table) (changes_two back input) h);
  returns = breaks_alone OnReturns returns_nowhere 1 _ (returns_one back) (λ input. returns_refused) (returns_others below);
  traps = breaks_alone OnTraps breaks 1 _ (breaks_one back) (λ input h. h) (breaks_others below);
}

pub unsafe_examples : ClausesRefuse → UnsafeExamples
unsafe_examples refuse = record {
  moves = λ input safe. refuse.moves.0 input (safe 1 (lit≤ tt)).contained.moves;
  accesses = λ input safe. refuse.accesses.0 input (safe 2 (lit≤ tt)).contained.accesses;
  control = λ input safe. refuse.control.0 input (safe 1 (lit≤ tt)).contained.control;
  table = λ input safe. refuse.table input (safe 2 (lit≤ tt)).contained.table;
  returns = λ input safe. refuse.returns.0 input (safe 1 (lit≤ tt)).contained.returns;
  traps = λ input safe. refuse.traps.0 input (safe 1 (lit≤ tt)).traps;
}

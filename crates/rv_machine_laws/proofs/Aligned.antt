-- The program counter stays a multiple of 4, and what leads on was fetched from the text.
use Rattle.std.proofs.Common.{◌≡◌, ℕ, zero, suc, ◌+◌, ◌%◌, Bool, true, false, cond, eqb, ltb, leb, ◌||◌, List, [], ◌∷◌, Option, Some, None, refl, subst, arith, eqb-true}
use Rattle.bb_words.specs.Numbers.{sum}
use Rattle.bb_words.specs.declared.kinds.ReportKind.{ReportKind}
use Rattle.bb_words.specs.declared.kinds.TrapKind.{TrapKind}
use Rattle.bb_words.specs.declared.kinds.TrapKind.TheVariants.{Fetch}
use Rattle.rv_code.specs.declared.instr.Instr.{Instr}
use Rattle.rv_code.specs.declared.instr.Instr.TheVariants.{Jal, Jalr, Beq, Bne, Blt, Bge, Bltu, Bgeu, Lb, Lh, Lw, Lbu, Lhu, Sb, Sh, Sw, Ecall, Ebreak}
use Rattle.rv_image.specs.declared.image.Image.{Image}
use Rattle.rv_image.specs.Rules.{IsImage}
use Rattle.rv_machine.specs.declared.frames.Entry.TheVariants.{NoFrame, TooDeep, NoRoom, Enters}
use Rattle.rv_machine.specs.Environment.{World, calls, gets_from, kind_of, reported_if, mallocs_by, new_in, Freeing, Nothing, NoBlock, Ends, freeing, frees_by, entering, enters_by, leaving, leaves_by}
use Rattle.rv_machine.specs.declared.frames.Entry.{Entry}
use Rattle.rv_machine.specs.Frames.{Entering, Leaving}
use Rattle.rv_machine.specs.Instruction.{Act, Goes, Traps, Asks, access_trap, unless_trap, jumps, branches, address, even, effect, effect_of, instruction_at, core_step}
use Rattle.rv_machine.specs.Machine.{step, steps, machine_after}
use Rattle.rv_machine.specs.Start.{start}
use Rattle.rv_machine.specs.State.{Core, State, register_of, set_register}
use Rattle.rv_machine_laws.proofs.Cases.{by_step, by_call}
use Rattle.size_table.specs.Blocks.{Block}

IsAligned : ℕ → Type 0
IsAligned pc = pc % 4 ≡ 0

IfAligned : Act → Type 0
IfAligned (Goes c) = IsAligned c.pc
IfAligned (Traps kind) = Unit {0}
IfAligned Asks = Unit {0}

next_aligned : (pc : ℕ) → IsAligned pc → IsAligned (pc + 4)
unfolding IsAligned
next_aligned pc h = omega (arith, h)

trap_aligned : (trap : Option TrapKind) (c : Core) → IsAligned c.pc → IfAligned (unless_trap trap c)
unfolding IfAligned
trap_aligned None c h = h
trap_aligned (Some kind) c h = tt

jump_aligned : (to : ℕ) (c : Core) → IfAligned (jumps to c)
unfolding IfAligned IsAligned
jump_aligned to c = by (eqb (to % 4) 0) refl
  where
    by : (b : Bool) → eqb (to % 4) 0 ≡ b → IfAligned (cond b (Goes (record c { pc = to })) (Traps Fetch))
    by true e = eqb-true (to % 4) 0 e
    by false e = tt

branch_aligned : (taken : Bool) (imm : ℕ) (c : Core) → IsAligned c.pc → IfAligned (branches taken imm c)
unfolding IfAligned
branch_aligned true imm c h = jump_aligned (sum c.pc imm) c
branch_aligned false imm c h = next_aligned c.pc h

effect_aligned : (i : Instr) (c : Core) → IsAligned c.pc → IfAligned (effect i c)
unfolding IfAligned
effect_aligned (Jal rd imm) c h = jump_aligned (sum c.pc imm) (set_register rd (c.pc + 4) c)
effect_aligned (Jalr rd rs1 imm) c h = jump_aligned (even (address c rs1 imm)) (set_register rd (c.pc + 4) c)
effect_aligned (Beq rs1 rs2 imm) c h = branch_aligned _ imm c h
effect_aligned (Bne rs1 rs2 imm) c h = branch_aligned _ imm c h
effect_aligned (Blt rs1 rs2 imm) c h = branch_aligned _ imm c h
effect_aligned (Bge rs1 rs2 imm) c h = branch_aligned _ imm c h
effect_aligned (Bltu rs1 rs2 imm) c h = branch_aligned _ imm c h
effect_aligned (Bgeu rs1 rs2 imm) c h = branch_aligned _ imm c h
effect_aligned (Lb rd rs1 imm) c h = trap_aligned (access_trap (address c rs1 imm) 1) _ (next_aligned c.pc h)
effect_aligned (Lh rd rs1 imm) c h = trap_aligned (access_trap (address c rs1 imm) 2) _ (next_aligned c.pc h)
effect_aligned (Lw rd rs1 imm) c h = trap_aligned (access_trap (address c rs1 imm) 4) _ (next_aligned c.pc h)
effect_aligned (Lbu rd rs1 imm) c h = trap_aligned (access_trap (address c rs1 imm) 1) _ (next_aligned c.pc h)
effect_aligned (Lhu rd rs1 imm) c h = trap_aligned (access_trap (address c rs1 imm) 2) _ (next_aligned c.pc h)
effect_aligned (Sb rs1 rs2 imm) c h = trap_aligned (access_trap (address c rs1 imm) 1) _ (next_aligned c.pc h)
effect_aligned (Sh rs1 rs2 imm) c h = trap_aligned (access_trap (address c rs1 imm) 2) _ (next_aligned c.pc h)
effect_aligned (Sw rs1 rs2 imm) c h = trap_aligned (access_trap (address c rs1 imm) 4) _ (next_aligned c.pc h)
effect_aligned Ecall c h = tt
effect_aligned Ebreak c h = tt
effect_aligned i c h = next_aligned c.pc h

of_aligned : (o : Option Instr) (c : Core) → IsAligned c.pc → IfAligned (effect_of o c)
unfolding IfAligned
of_aligned None c h = tt
of_aligned (Some i) c h = effect_aligned i c h

core_aligned : (c : Core) → IsAligned c.pc → IfAligned (core_step c)
unfolding core_step IfAligned
core_aligned c h = by (ltb c.pc 4096 || leb 2097152 c.pc)
  where
    by : (b : Bool) → IfAligned (cond b (Traps Fetch) (effect_of (instruction_at c) c))
    by true = tt
    by false = of_aligned (instruction_at c) c h

-- ---- Whole machines

AtAligned : World → Type 0
AtAligned w = IsAligned w.machine.core.pc

gets_aligned : (left : List ℕ) (w : World) → AtAligned w → AtAligned (gets_from left w)
unfolding AtAligned
gets_aligned [] w h = next_aligned w.machine.core.pc h
gets_aligned (byte ∷ bytes) w h = next_aligned w.machine.core.pc h

reports_aligned : (kind : Option ReportKind) (s : State) → IsAligned s.core.pc → IsAligned (reported_if kind s).core.pc
reports_aligned None s h = h
reports_aligned (Some kind) s h = next_aligned s.core.pc h

mallocs_aligned : (o : Option Block) (s : State) → IsAligned s.core.pc → IsAligned (mallocs_by o s).core.pc
mallocs_aligned None s h = next_aligned s.core.pc h
mallocs_aligned (Some b) s h = next_aligned s.core.pc h

frees_aligned : (o : Freeing) (s : State) → IsAligned s.core.pc → IsAligned (frees_by o s).core.pc
frees_aligned Nothing s h = next_aligned s.core.pc h
frees_aligned NoBlock s h = next_aligned s.core.pc h
frees_aligned (Ends b) s h = next_aligned s.core.pc h

enters_aligned : (e : Entry) (x : Entering) (s : State) → IsAligned s.core.pc → IsAligned (enters_by e x s).core.pc
enters_aligned NoFrame x s h = h
enters_aligned TooDeep x s h = next_aligned s.core.pc h
enters_aligned NoRoom x s h = next_aligned s.core.pc h
enters_aligned (Enters base) x s h = next_aligned s.core.pc h

leaves_aligned : (o : Option ℕ) (x : Leaving) (s : State) → IsAligned s.core.pc → IsAligned (leaves_by o x s).core.pc
leaves_aligned None x s h = h
leaves_aligned (Some back) x s h = next_aligned s.core.pc h

calls_aligned : (w : World) → AtAligned w → AtAligned (calls w)
unfolding AtAligned
calls_aligned w h =
    let s = w.machine in
    by_call AtAligned w (record {
      exit = next_aligned s.core.pc h;
      getchar = gets_aligned w.left w h;
      putchar = next_aligned s.core.pc h;
      malloc = mallocs_aligned (new_in s) s h;
      free = frees_aligned (freeing s) s h;
      report = reports_aligned (kind_of (register_of s.core 10)) s h;
      enter = enters_aligned (entering s).answer (entering s) s h;
      leave = leaves_aligned (leaving s).answer (leaving s) s h;
      other = h;
    })

step_aligned : (w : World) → AtAligned w → AtAligned (step w)
unfolding AtAligned IfAligned
step_aligned w h = by_step AtAligned w (record {
  ended = h;
  goes = λ core e. subst IfAligned e (core_aligned w.machine.core h);
  traps = λ kind. h;
  asks = λ e. calls_aligned w h;
})

pub steps_aligned : (n : ℕ) (w : World) → w.machine.core.pc % 4 ≡ 0 → (steps n w).machine.core.pc % 4 ≡ 0
unfolding steps AtAligned IsAligned
steps_aligned zero w h = h
steps_aligned (suc n) w h = step_aligned (steps n w) (steps_aligned n w h)

pub runs_aligned : (image : Image) (input : List ℕ) (n : ℕ) → IsImage image → (machine_after image input n).machine.core.pc % 4 ≡ 0
unfolding start
runs_aligned image input n h = steps_aligned n (record { machine = start image; left = input; told = [] }) h.entry_aligned

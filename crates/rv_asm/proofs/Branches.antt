-- Branches in their three forms do what the parts say.
use Rattle.std.proofs.Common.{◌≡◌, ℕ, suc, ◌+◌, ◌*◌, ◌%◌, ◌^◌, ◌<◌, ◌≤◌, Bool, true, false, cond, List, [], ◌∷◌, ◌⊎◌, length, refl, sym, ap, ◌∙◌, arith}
use Rattle.std.specs.Prelude.{not}
use Rattle.bb_words.specs.Numbers.{sum}
use Rattle.rv_code.specs.Code.{Fits}
use Rattle.rv_code.specs.declared.instr.Instr.{Instr}
use Rattle.rv_machine.specs.State.{Core, register_of, set_register}
use Rattle.rv_machine.specs.Instruction.{Goes, jumps, branches, effect, event_of}
use Rattle.rv_machine.specs.Environment.{World}
use Rattle.rv_machine_laws.specs.Laws.{InstructionDone}
use Rattle.rv_machine.specs.Machine.{step}
use Rattle.rv_asm.specs.declared.parts.BranchOp.{BranchOp}
use Rattle.rv_asm.specs.declared.parts.BranchOp.TheVariants as op
use Rattle.rv_asm.specs.Runs.{IsAt, Takes, Branches, at_place, gone, is_taken}
use Rattle.rv_asm.specs.Text.{distance, in_reach, inverse, branch_of, jump_code, skip_over}
use Rattle.rv_asm.specs.Resolving.{IsPlace}
use Rattle.rv_asm.proofs.Machine.{Has, has_rest, is_done, goes, one_step}
use Rattle.rv_asm.proofs.Jumps.{distance_leads, distance_fits, distance_even, jumps_goes, keep_scratch, scratch_word, jump_takes, after_quiet}

abbrev taken : BranchOp → (rs1 rs2 : ℕ) → Core → Bool
taken op rs1 rs2 c = is_taken op (register_of c rs1) (register_of c rs2)

branch_goes : (op : BranchOp) (rs1 rs2 imm : ℕ) (c : Core) → effect (branch_of op rs1 rs2 imm) c ≡ branches (taken op rs1 rs2 c) imm c
branch_goes op.Beq rs1 rs2 imm c = refl
branch_goes op.Bne rs1 rs2 imm c = refl
branch_goes op.Blt rs1 rs2 imm c = refl
branch_goes op.Bge rs1 rs2 imm c = refl
branch_goes op.Bltu rs1 rs2 imm c = refl
branch_goes op.Bgeu rs1 rs2 imm c = refl

branch_quiet : (op : BranchOp) (rs1 rs2 imm : ℕ) (c : Core) → event_of (branch_of op rs1 rs2 imm) c ≡ []
branch_quiet op.Beq rs1 rs2 imm c = refl
branch_quiet op.Bne rs1 rs2 imm c = refl
branch_quiet op.Blt rs1 rs2 imm c = refl
branch_quiet op.Bge rs1 rs2 imm c = refl
branch_quiet op.Bltu rs1 rs2 imm c = refl
branch_quiet op.Bgeu rs1 rs2 imm c = refl

branch_fits : (op : BranchOp) (rs1 rs2 imm : ℕ) → imm < 2 ^ 32 → (imm + 4096) % 2 ^ 32 < 8192 → imm % 2 ≡ 0 → rs1 < 32 → rs2 < 32 → Fits (branch_of op rs1 rs2 imm)
branch_fits op.Beq rs1 rs2 imm a b e r s = ((a, b), e, s, r)
branch_fits op.Bne rs1 rs2 imm a b e r s = ((a, b), e, s, r)
branch_fits op.Blt rs1 rs2 imm a b e r s = ((a, b), e, s, r)
branch_fits op.Bge rs1 rs2 imm a b e r s = ((a, b), e, s, r)
branch_fits op.Bltu rs1 rs2 imm a b e r s = ((a, b), e, s, r)
branch_fits op.Bgeu rs1 rs2 imm a b e r s = ((a, b), e, s, r)

twice : (b : Bool) → b ≡ not (not b)
twice true = refl
twice false = refl

inverse_taken : (op : BranchOp) (rs1 rs2 : ℕ) (c : Core) → taken (inverse op) rs1 rs2 c ≡ not (taken op rs1 rs2 c)
inverse_taken op.Beq rs1 rs2 c = refl
inverse_taken op.Bne rs1 rs2 c = twice _
inverse_taken op.Blt rs1 rs2 c = refl
inverse_taken op.Bge rs1 rs2 c = twice _
inverse_taken op.Bltu rs1 rs2 c = refl
inverse_taken op.Bgeu rs1 rs2 c = twice _

module _ (done : InstructionDone) (text : List ℕ) where
  -- a branch that is one instruction, at its place
  goes_if : (op : BranchOp) (rs1 rs2 imm at to : ℕ) (code : List Instr) (w : World) → IsPlace at → at < 2097152 → to % 4 ≡ 0 → sum at imm ≡ to → imm < 2 ^ 32 → (imm + 4096) % 2 ^ 32 < 8192 → imm % 2 ≡ 0 → rs1 < 32 → rs2 < 32 → Has text at (branch_of op rs1 rs2 imm ∷ code) → IsAt text at w →
      (t : Bool) → taken op rs1 rs2 w.machine.core ≡ t → step w ≡ gone [] (at_place (cond t to (at + 4)) w.machine.core) w
  goes_if op rs1 rs2 imm at to code w a room t4 leads small fits even r s has is t e =
      let i = is_done done text at (branch_of op rs1 rs2 imm) code has (branch_fits op rs1 rs2 imm small fits even r s) a.low room in
      goes text at (branch_of op rs1 rs2 imm) w (at_place (cond t to (at + 4)) w.machine.core) [] i is (branch_goes op rs1 rs2 imm w.machine.core ∙ ap (λ (b : Bool). branches b imm w.machine.core) e ∙ by t) (branch_quiet op rs1 rs2 imm w.machine.core)
    where
      by : (b : Bool) → branches b imm w.machine.core ≡ Goes (at_place (cond b to (at + 4)) w.machine.core)
      by true = ap (λ (p : ℕ). jumps p w.machine.core) (ap (λ (p : ℕ). sum p imm) is.core.here ∙ leads) ∙ jumps_goes to w.machine.core t4
      by false = ap (λ (p : ℕ). Goes (at_place (p + 4) w.machine.core)) is.core.here

  -- the branch itself
  pub short_branches : (op : BranchOp) (rs1 rs2 at to : ℕ) (w : World) → IsPlace at → at < 2097152 → IsPlace to → rs1 < 32 → rs2 < 32 → in_reach 4096 at to ≡ true → Has text at (branch_of op rs1 rs2 (distance at to) ∷ []) → IsAt text at w →
      (t : Bool) → taken op rs1 rs2 w.machine.core ≡ t → Branches t w to (at + 4)
  short_branches op rs1 rs2 at to w a room t r s near has is b e =
      let fits = distance_fits 4096 at to a.high t.high (omega arith) near in
      let go : step w ≡ gone [] (at_place (cond b to (at + 4)) w.machine.core) w = goes_if op rs1 rs2 (distance at to) at to [] w a room t.aligned (distance_leads at to a t) fits.0 fits.1 (distance_even at to a t) r s has is b e in
      by b go
    where
      by : (b : Bool) → step w ≡ gone [] (at_place (cond b to (at + 4)) w.machine.core) w → Branches b w to (at + 4)
      by true go = record {
        count = 1;
        some = omega arith;
        few = omega arith;
        scratch = register_of w.machine.core 5;
        is_word = scratch_word 0 0 w.machine.core is.core.form (omega arith) true refl;
        comes = one_step w ∙ go ∙ ap (λ (d : Core). gone [] (at_place to d) w) (sym (keep_scratch w.machine.core));
      }
      by false go = go

  -- the inverse branch over a jump
  pub over_branches : (op : BranchOp) (rs1 rs2 skip at to behind : ℕ) (w : World) → IsPlace at → IsPlace to → rs1 < 32 → rs2 < 32 → (skip ≡ 8) ⊎ (skip ≡ 12) → behind ≡ at + skip → behind ≡ at + 4 + 4 * length (jump_code 0 (at + 4) to) → behind ≤ 2097152 → Has text at (branch_of (inverse op) rs1 rs2 skip ∷ jump_code 0 (at + 4) to) → IsAt text at w →
      (t : Bool) → taken op rs1 rs2 w.machine.core ≡ t → Branches t w to behind
  over_branches op rs1 rs2 skip at to behind w a t r s k eb ej high has is b e =
      let room : at + 4 < 2097152 = grind (arith, k, eb, high) in
      let aligned : behind % 4 ≡ 0 = grind (arith, k, eb, a.aligned) in
      let leads : sum at skip ≡ behind = grind (arith, k, eb, a.high) in
      let small : skip < 2 ^ 32 = grind (arith, k) in
      let fits : (skip + 4096) % 2 ^ 32 < 8192 = grind (arith, k) in
      let even : skip % 2 ≡ 0 = grind (arith, k) in
      let go : step w ≡ gone [] (at_place (cond (not b) behind (at + 4)) w.machine.core) w =
      goes_if (inverse op) rs1 rs2 skip at behind (jump_code 0 (at + 4) to) w a (omega (arith, room)) aligned leads small fits even r s has is (not b) (inverse_taken op rs1 rs2 w.machine.core ∙ ap not e) in
      by room b go
    where
      by : at + 4 < 2097152 → (b : Bool) → step w ≡ gone [] (at_place (cond (not b) behind (at + 4)) w.machine.core) w → Branches b w to behind
      by room false go = go
      by room true go =
          let c = w.machine.core in
          let c1 : Core = at_place (at + 4) c in
          let w1 : World = gone [] c1 w in
          let a1 : IsPlace (at + 4) = record { low = omega (arith, a.low); high = omega (arith, room); aligned = omega (arith, a.aligned) } in
          let is1 : IsAt text (at + 4) w1 = record {
            core = record { here = refl; stands = is.core.stands; form = record { pc = omega (arith, room); registers = is.core.form.registers; words = is.core.form.words; zero = is.core.form.zero; memory = is.core.form.memory; bytes = is.core.form.bytes } };
            running = is.running;
          } in
          let j : Takes 2 w1 to [] c1 = jump_takes done text 0 (at + 4) to behind w1 a1 t ej high (omega arith) (has_rest text at (branch_of (inverse op) rs1 rs2 skip) (jump_code 0 (at + 4) to) has) is1 in
          again j go
        where
          again : Takes 2 (gone [] (at_place (at + 4) w.machine.core) w) to [] (at_place (at + 4) w.machine.core) → step w ≡ gone [] (at_place (at + 4) w.machine.core) w → Takes 3 w to [] w.machine.core
          again j go = record {
            count = suc j.count;
            some = omega arith;
            few = omega (arith, j.few);
            scratch = j.scratch;
            is_word = j.is_word;
            comes = after_quiet j.count w (at_place (at + 4) w.machine.core) (at_place to (set_register 5 j.scratch w.machine.core)) [] go j.comes;
          }

-- the branch over a jump can be encoded
pub over_fits : (op : BranchOp) (rs1 rs2 at to : ℕ) → rs1 < 32 → rs2 < 32 → Fits (branch_of op rs1 rs2 (skip_over at to))
over_fits op rs1 rs2 at to r s = by (in_reach 1048576 (at + 4) to) refl
  where
    by : (b : Bool) → in_reach 1048576 (at + 4) to ≡ b → Fits (branch_of op rs1 rs2 (skip_over at to))
    by true e = rw e (branch_fits op rs1 rs2 8 (omega arith) (omega arith) refl r s)
    by false e = rw e (branch_fits op rs1 rs2 12 (omega arith) (omega arith) refl r s)

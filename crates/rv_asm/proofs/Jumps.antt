-- Jumps in their two forms do what the parts say.
use Rattle.std.proofs.Common.{◌≡◌, ◌≢◌, ℕ, suc, ◌+◌, ◌-◌, ◌*◌, ◌%◌, ◌^◌, ◌<◌, ◌≤◌, Bool, true, false, cond, eqb, List, [], ◌∷◌, ◌++◌, length, set, map, refl, sym, ap, subst, ◌∙◌, arith, append-nil, length-set, get_or-set_same, get_or-set_other, eqb-true}
use Rattle.std.proofs.lemmas.Bool.Decides.{nat_tests}
use Rattle.std.proofs.lemmas.List.{set-get_or, set-set, set_comm}
use Rattle.std.proofs.lemmas.List.Elements.{All-get_or, All-set}
use Rattle.bb_words.specs.Numbers.{sum}
use Rattle.bb_watch.specs.declared.event.Event.{Event}
use Rattle.bb_watch.specs.Told.{Tell, Happens}
use Rattle.rv_code.specs.Bits.{IsSigned}
use Rattle.rv_code.specs.declared.instr.Instr.{Instr}
use Rattle.rv_code.specs.declared.instr.Instr.TheVariants.{Jal, Jalr, Auipc}
use Rattle.rv_machine.specs.State.{Core, register_of, set_register, gives, with_core}
use Rattle.rv_machine.specs.Instruction.{Goes, even, jumps, effect, event_of}
use Rattle.rv_machine.specs.Environment.{World}
use Rattle.rv_machine.specs.Formed.{IsCore, IsWord}
use Rattle.rv_machine_laws.specs.Laws.{InstructionDone}
use Rattle.rv_machine.specs.Machine.{step, steps}
use Rattle.rv_asm.specs.Runs.{IsAt, Takes, at_place, gone, calls_if}
use Rattle.rv_asm.specs.Text.{distance, upper_part, lower_part, in_reach, long_jump, jump_code}
use Rattle.rv_asm.specs.Resolving.{IsPlace}
use Rattle.rv_asm.proofs.Machine.{Has, has_rest, is_done, goes, one_step, step_first}

-- ---- Distances

pub distance_leads : (at to : ℕ) → IsPlace at → IsPlace to → sum at (distance at to) ≡ to
distance_leads at to a t = omega (arith, a.high, t.high)

pub distance_fits : (half at to : ℕ) → at ≤ 2097152 → to ≤ 2097152 → half < 2 ^ 30 → in_reach half at to ≡ true → (distance at to < 2 ^ 32) × ((distance at to + half) % 2 ^ 32 < 2 * half)
distance_fits half at to a t h r = grind (arith, nat_tests)

pub distance_even : (at to : ℕ) → IsPlace at → IsPlace to → distance at to % 2 ≡ 0
distance_even at to a t = omega (arith, a.aligned, t.aligned, a.high)

-- ---- A jump in one instruction

-- a place that is a multiple of 4 is jumped to
pub jumps_goes : (to : ℕ) (c : Core) → to % 4 ≡ 0 → jumps to c ≡ Goes (at_place to c)
jumps_goes to c h =
    let e : eqb (to % 4) 0 ≡ true = grind (arith, nat_tests) in
    rw e refl

-- a register that gets its own word stays
pub keep_scratch : (c : Core) → set_register 5 (register_of c 5) c ≡ c
keep_scratch c = ap (λ (r : List ℕ). record c { registers = r }) (set-get_or c.registers 5 0)

linked_length : (rd n : ℕ) (c : Core) → (b : Bool) → eqb rd 0 ≡ b → length (set_register rd n c).registers ≡ length c.registers
linked_length rd n c true e = rw e refl
linked_length rd n c false e = rw e (length-set c.registers rd n)

-- the core after a jump that links: x5 is as it is
scratch_of : (rd behind to : ℕ) (c : Core) → IsCore c → at_place to (set_register 5 (register_of (set_register rd behind c) 5) (set_register rd behind c)) ≡ at_place to (set_register rd behind c)
scratch_of rd behind to c form = ap (at_place to) (keep_scratch (set_register rd behind c))

pub scratch_word : (rd behind : ℕ) (c : Core) → IsCore c → IsWord behind → (b : Bool) → eqb rd 0 ≡ b → IsWord (register_of (set_register rd behind c) 5)
scratch_word rd behind c form word true e = rw e (All-get_or IsWord c.registers 5 0 (omega (arith, form.registers)) form.words)
scratch_word rd behind c form word false e = rw e (All-get_or IsWord (set c.registers rd behind) 5 0 (omega (arith, form.registers, length-set c.registers rd behind)) (All-set IsWord c.registers rd behind word form.words))

jal_tells : (rd imm behind to : ℕ) (c : Core) → c.pc ≡ behind - 4 → sum c.pc imm ≡ to → event_of (Jal rd imm) c ≡ calls_if rd behind to
jal_tells rd imm behind to c pc s = rw (s, pc) refl

module _ (done : InstructionDone) (text : List ℕ) where
  -- jal rd, to
  short_takes : (rd at to : ℕ) (w : World) → IsPlace at → at < 2097152 → IsPlace to → rd < 32 → in_reach 1048576 at to ≡ true → Has text at (Jal rd (distance at to) ∷ []) → IsAt text at w → Takes 2 w to (calls_if rd (at + 4) to) (set_register rd (at + 4) w.machine.core)
  short_takes rd at to w a room t r near has is =
      let c = w.machine.core in
      let fits = distance_fits 1048576 at to (omega (arith, a.high)) (omega (arith, t.high)) (omega arith) near in
      let leads : sum c.pc (distance at to) ≡ to = ap (λ (p : ℕ). sum p (distance at to)) is.core.here ∙ distance_leads at to a t in
      let i = is_done done text at (Jal rd (distance at to)) [] has ((fits.0, fits.1), distance_even at to a t, r) a.low room in
      let goes_to : effect (Jal rd (distance at to)) c ≡ Goes (at_place to (set_register rd (at + 4) c)) =
      ap (λ (p : ℕ). jumps p (set_register rd (c.pc + 4) c)) leads ∙ ap (λ (p : ℕ). jumps to (set_register rd (p + 4) c)) is.core.here ∙ jumps_goes to (set_register rd (at + 4) c) t.aligned in
      let tells : event_of (Jal rd (distance at to)) c ≡ calls_if rd (at + 4) to = jal_tells rd (distance at to) (at + 4) to c (omega (arith, is.core.here)) leads in
      record {
        count = 1;
        some = omega arith;
        few = omega arith;
        scratch = register_of (set_register rd (at + 4) c) 5;
        is_word = scratch_word rd (at + 4) c is.core.form (omega (arith, room)) (eqb rd 0) refl;
        comes = one_step w ∙ goes text at (Jal rd (distance at to)) w (at_place to (set_register rd (at + 4) c)) (calls_if rd (at + 4) to) i is goes_to tells
            ∙ ap (λ (d : Core). gone (calls_if rd (at + 4) to) d w) (sym (scratch_of rd (at + 4) to c is.core.form));
      }

-- ---- A jump in two instructions

upper_fits : (n : ℕ) → (upper_part n < 2 ^ 32) × (upper_part n % 2 ^ 12 ≡ 0)
upper_fits n = (omega arith, omega arith)

lower_fits : (n : ℕ) → IsSigned 12 (lower_part n)
lower_fits n = grind (arith, nat_tests)

parts_lead : (at d to : ℕ) → at ≤ 2097152 → d < 2 ^ 32 → to ≤ 2097152 → sum at d ≡ to → sum (sum at (upper_part d)) (lower_part d) ≡ to
parts_lead at d to a h t e = grind (arith, nat_tests)

even_same : (n : ℕ) → n % 4 ≡ 0 → even n ≡ n
even_same n h = omega arith

-- the registers after both
long_registers : (rd behind v : ℕ) (registers : List ℕ) → (b b' : Bool) → eqb rd 0 ≡ b → eqb rd 5 ≡ b' →
    cond (eqb rd 0) (set registers 5 v) (set (set registers 5 v) rd behind) ≡ set (cond (eqb rd 0) registers (set registers rd behind)) 5 (cond (eqb rd 5) behind v)
long_registers rd behind v registers true true e e' = absurd (omega (arith, eqb-true rd 0 e, eqb-true rd 5 e'))
long_registers rd behind v registers true false e e' = rw (e, e') refl
long_registers rd behind v registers false true e e' =
    let same : rd ≡ 5 = eqb-true rd 5 e' in
    rw (e, e', same) (set-set registers 5 v behind ∙ sym (set-set registers 5 behind behind))
long_registers rd behind v registers false false e e' =
    let apart : 5 ≢ rd = grind (arith, nat_tests) in
    rw (e, e') (set_comm registers 5 rd v behind apart)

-- a core whose x5 has another word
scratched : (place v : ℕ) (c : Core) → IsCore c → IsWord place → IsWord v → IsCore (at_place place (set_register 5 v c))
scratched place v c form p word = record {
  pc = p;
  registers = length-set c.registers 5 v ∙ form.registers;
  words = All-set IsWord c.registers 5 v word form.words;
  zero = get_or-set_other c.registers 5 0 v 0 (omega arith) ∙ form.zero;
  memory = form.memory;
  bytes = form.bytes;
}

-- a step that tells nothing, and what comes after it
pub after_quiet : (n : ℕ) (w : World) (c d : Core) (events : List Event) → step w ≡ gone [] c w → steps n (gone [] c w) ≡ gone events d (gone [] c w) → steps (suc n) w ≡ gone events d w
after_quiet n w c d events first rest =
    step_first n w ∙ ap (steps n) first ∙ rest
    ∙ ap (λ (told : List Tell). record { machine = with_core d w.machine; left = w.left; told = told ++ map Happens events }) (append-nil w.told)

jalr_tells : (rd imm behind to : ℕ) (c : Core) → c.pc ≡ behind - 4 → even (sum (register_of c 5) imm) ≡ to → event_of (Jalr rd 5 imm) c ≡ calls_if rd behind to
jalr_tells rd imm behind to c pc s = by (eqb rd 0) refl
  where
    by : (b : Bool) → eqb rd 0 ≡ b → event_of (Jalr rd 5 imm) c ≡ calls_if rd behind to
    by true e = rw (s, pc, e) refl
    by false e = rw (s, pc, e) refl

module _ (done : InstructionDone) (text : List ℕ) where
  -- auipc x5, upper; jalr rd, lower(x5)
  long_takes : (rd at to : ℕ) (w : World) → IsPlace at → at + 4 < 2097152 → IsPlace to → rd < 32 → Has text at (long_jump rd at to) → IsAt text at w → Takes 2 w to (calls_if rd (at + 8) to) (set_register rd (at + 8) w.machine.core)
  long_takes rd at to w a room t r has is =
      let c = w.machine.core in
      let d = distance at to in
      let v = sum c.pc (upper_part d) in
      let word : IsWord v = omega arith in
      let c1 : Core = gives 5 v c in
      let w1 : World = gone [] c1 w in
      let high : at < 2097152 = omega (arith, room) in
      let i1 = is_done done text at (Auipc 5 (upper_part d)) (Jalr rd 5 (lower_part d) ∷ []) has ((upper_fits d).0, (upper_fits d).1, omega arith) a.low high in
      let first : step w ≡ w1 = goes text at (Auipc 5 (upper_part d)) w c1 [] i1 is refl refl in
      let pc1 : c1.pc ≡ at + 4 = ap (λ (p : ℕ). p + 4) is.core.here in
      let is1 : IsAt text (at + 4) w1 = record {
        core = record { here = pc1; stands = is.core.stands; form = scratched (c.pc + 4) v c is.core.form (omega (arith, is.core.here, room)) word };
        running = is.running;
      } in
      let i2 = is_done done text (at + 4) (Jalr rd 5 (lower_part d)) [] (has_rest text at (Auipc 5 (upper_part d)) (Jalr rd 5 (lower_part d) ∷ []) has) (lower_fits d, omega arith, r) (omega (arith, a.low)) room in
      let read : register_of c1 5 ≡ v = get_or-set_same c.registers 5 v 0 (omega (arith, is.core.form.registers)) in
      let small : d < 2 ^ 32 = omega arith in
      let leads : even (sum (register_of c1 5) (lower_part d)) ≡ to =
      ap (λ (x : ℕ). even (sum x (lower_part d))) (read ∙ ap (λ (p : ℕ). sum p (upper_part d)) is.core.here)
      ∙ ap even (parts_lead at d to a.high small t.high (distance_leads at to a t))
      ∙ even_same to t.aligned in
      let back : c1.pc + 4 ≡ at + 8 = omega (arith, pc1) in
      let c2 : Core = at_place to (set_register rd (at + 8) c1) in
      let goes_to : effect (Jalr rd 5 (lower_part d)) c1 ≡ Goes c2 =
      ap (λ (p : ℕ). jumps p (set_register rd (c1.pc + 4) c1)) leads ∙ ap (λ (p : ℕ). jumps to (set_register rd p c1)) back ∙ jumps_goes to (set_register rd (at + 8) c1) t.aligned in
      let tells : event_of (Jalr rd 5 (lower_part d)) c1 ≡ calls_if rd (at + 8) to = jalr_tells rd (lower_part d) (at + 8) to c1 (omega (arith, pc1)) leads in
      let second : step w1 ≡ gone (calls_if rd (at + 8) to) c2 w1 = goes text (at + 4) (Jalr rd 5 (lower_part d)) w1 c2 (calls_if rd (at + 8) to) i2 is1 goes_to tells in
      record {
        count = 2;
        some = omega arith;
        few = omega arith;
        scratch = cond (eqb rd 5) (at + 8) v;
        is_word = cond_word (eqb rd 5) (at + 8) v (omega (arith, room)) word;
        comes = after_quiet 1 w c1 c2 (calls_if rd (at + 8) to) first (one_step w1 ∙ second)
            ∙ ap (λ (rs : List ℕ). gone (calls_if rd (at + 8) to) (record { pc = to; registers = rs; memory = c.memory }) w) (long_registers rd (at + 8) v c.registers (eqb rd 0) (eqb rd 5) refl refl);
      }
    where
      cond_word : (b : Bool) (x y : ℕ) → IsWord x → IsWord y → IsWord (cond b x y)
      cond_word true x y p q = p
      cond_word false x y p q = q

  -- a jump in the shortest form that reaches
  pub jump_takes : (rd at to behind : ℕ) (w : World) → IsPlace at → IsPlace to → behind ≡ at + 4 * length (jump_code rd at to) → behind ≤ 2097152 → rd < 32 → Has text at (jump_code rd at to) → IsAt text at w → Takes 2 w to (calls_if rd behind to) (set_register rd behind w.machine.core)
  jump_takes rd at to behind w a t b high r has is = by (in_reach 1048576 at to) refl
    where
      by : (near : Bool) → in_reach 1048576 at to ≡ near → Takes 2 w to (calls_if rd behind to) (set_register rd behind w.machine.core)
      by true e =
          let code : jump_code rd at to ≡ Jal rd (distance at to) ∷ [] = rw e refl in
          let end : behind ≡ at + 4 = b ∙ ap (λ (is : List Instr). at + 4 * length is) code in
          rw end (short_takes done text rd at to w a (omega (arith, end, high)) t r e (subst (Has text at) code has) is)
      by false e =
          let code : jump_code rd at to ≡ long_jump rd at to = rw e refl in
          let end : behind ≡ at + 8 = b ∙ ap (λ (is : List Instr). at + 4 * length is) code in
          rw end (long_takes rd at to w a (omega (arith, end, high)) t r (subst (Has text at) code has) is)

-- An instruction keeps what holds of the core of every machine.
use Rattle.std.proofs.Common.{◌≡◌, ◌≢◌, ℕ, ◌+◌, ◌%◌, ◌^◌, ◌<◌, ◌≤◌, Bool, true, false, cond, eqb, ltb, leb, List, [], ◌∷◌, length, get_or, set, Option, Some, None, refl, sym, subst, ◌∙◌, arith, lit<, get_or-set_other, length-set}
use Rattle.std.specs.Prelude.{◌||◌, IfSome}
use Rattle.std.specs.List.{AllByRecursion}
use Rattle.std.specs.Int.{to_le_bytes, w16, w32}
use Rattle.std.proofs.Math.ListN.{get_or-eq_default}
use Rattle.std.proofs.lemmas.Bool.Decides.{nat_tests}
use Rattle.std.proofs.lemmas.List.Elements.{All-set, All-from_recursion}
use Rattle.bb_words.specs.Numbers.{sum}
use Rattle.bb_words.specs.declared.kinds.TrapKind.{TrapKind}
use Rattle.bb_words.specs.declared.kinds.TrapKind.TheVariants.{Fetch}
use Rattle.rv_code.specs.Bits.{extended}
use Rattle.rv_code.specs.Code.{Fits, instruction_of}
use Rattle.rv_code.specs.declared.instr.Instr.{Instr}
use Rattle.rv_code.specs.declared.instr.Instr.TheVariants.{Lui, Auipc, Jal, Jalr, Beq, Bne, Blt, Bge, Bltu, Bgeu, Lb, Lh, Lw, Lbu, Lhu, Sb, Sh, Sw, Addi, Slti, Sltiu, Xori, Ori, Andi, Slli, Srli, Srai, Add, Sub, Sll, Slt, Sltu, Xor, Srl, Sra, Or, And, Mul, Mulh, Mulhsu, Mulhu, Div, Divu, Rem, Remu, Fence, Ecall, Ebreak}
use Rattle.rv_code.specs.Laws.{ReadsOnly}
use Rattle.rv_machine.specs.Formed.{IsWord, IsByte, IsCore}
use Rattle.rv_machine.specs.Instruction.{Act, Goes, Traps, Asks, access_trap, unless_trap, loads, stores, jumps, links, branches, address, even, effect, effect_of, core_step}
use Rattle.size_table.specs.Memory.{half_at, word_at, written_at}
use Rattle.rv_machine.specs.State.{Core, register_of, set_register, next, gives, with_memory}
use Rattle.rv_machine_laws.proofs.Bounds as bounds
use Rattle.rv_machine.proofs.Tables.{written_long, written_bytes}

abbrev IfGoes : (Core → Type 0) → Act → Type 0
IfGoes P (Goes c) = P c
IfGoes P (Traps kind) = Unit {0}
IfGoes P Asks = Unit {0}

set_if : (b : Bool) (rd v : ℕ) (c : Core) → IsCore c → IsWord v → eqb rd 0 ≡ b → IsCore (record c { registers = cond b c.registers (set c.registers rd v) })
set_if true rd v c h p e = h
set_if false rd v c h p e =
    let other : 0 ≢ rd = grind (arith, nat_tests) in
    record {
      pc = h.pc;
      registers = length-set c.registers rd v ∙ h.registers;
      words = All-set IsWord c.registers rd v p h.words;
      zero = get_or-set_other c.registers rd 0 v 0 other ∙ h.zero;
      memory = h.memory;
      bytes = h.bytes;
    }

set_core : (rd v : ℕ) (c : Core) → IsCore c → IsWord v → IsCore (set_register rd v c)
set_core rd v c h p = set_if (eqb rd 0) rd v c h p refl

at_pc : (pc : ℕ) (c : Core) → IsCore c → IsWord pc → IsCore (record c { pc = pc })
at_pc pc c h p = record { pc = p; registers = h.registers; words = h.words; zero = h.zero; memory = h.memory; bytes = h.bytes }

-- in the text's region
pub next_core : (c : Core) → IsCore c → c.pc < 2097152 → IsCore (next c)
next_core c h t = at_pc (c.pc + 4) c h (omega (arith, t))

pub gives_core : (rd v : ℕ) (c : Core) → IsCore c → c.pc < 2097152 → IsWord v → IsCore (gives rd v c)
gives_core rd v c h t p = at_pc (c.pc + 4) (set_register rd v c) (set_core rd v c h p) (omega (arith, t))

unless_core : (trap : Option TrapKind) (c : Core) → IsCore c → IfGoes IsCore (unless_trap trap c)
unless_core None c h = h
unless_core (Some kind) c h = tt

loads_core : (rd at size v : ℕ) (c : Core) → IsCore c → c.pc < 2097152 → IsWord v → IfGoes IsCore (loads rd at size v c)
loads_core rd at size v c h t p = unless_core (access_trap at size) (gives rd v c) (gives_core rd v c h t p)

stores_core : (at size : ℕ) (bs : List ℕ) (c : Core) → IsCore c → c.pc < 2097152 → AllByRecursion IsByte bs → IfGoes IsCore (stores at size bs c)
stores_core at size bs c h t p = unless_core (access_trap at size) (next (with_memory (written_at c.memory at bs) c)) (record {
  pc = omega (arith, t);
  registers = h.registers;
  words = h.words;
  zero = h.zero;
  memory = written_long c.memory at bs ∙ h.memory;
  bytes = written_bytes c.memory at bs h.bytes (All-from_recursion IsByte bs p);
})

jump_if : (b : Bool) (kind : TrapKind) (c : Core) → IsCore c → IfGoes IsCore (cond b (Goes c) (Traps kind))
jump_if true kind c h = h
jump_if false kind c h = tt

jumps_core : (to : ℕ) (c : Core) → IsCore c → IsWord to → IfGoes IsCore (jumps to c)
jumps_core to c h p = jump_if (eqb (to % 4) 0) Fetch (record c { pc = to }) (at_pc to c h p)

links_core : (rd to : ℕ) (c : Core) → IsCore c → c.pc < 2097152 → IsWord to → IfGoes IsCore (links rd to c)
links_core rd to c h t p = jumps_core to (set_register rd (c.pc + 4) c) (set_core rd (c.pc + 4) c h (omega (arith, t))) p

branches_core : (taken : Bool) (imm : ℕ) (c : Core) → IsCore c → c.pc < 2097152 → IfGoes IsCore (branches taken imm c)
branches_core true imm c h t = jumps_core (sum c.pc imm) c h (bounds.sum_fits c.pc imm)
branches_core false imm c h t = next_core c h t

reg : (c : Core) (r : ℕ) → IsCore c → r < 32 → IsWord (register_of c r)
reg c r h l = h.words r 0 (omega (arith, l, h.registers))

-- a byte of memory, or 0 past its end
byte : (c : Core) (at : ℕ) → IsCore c → get_or c.memory at 0 < 256
byte c at h = by (ltb at (length c.memory)) refl
  where
    by : (b : Bool) → ltb at (length c.memory) ≡ b → get_or c.memory at 0 < 256
    by true e = let l : at < length c.memory = grind (arith, nat_tests) in h.bytes at 0 l
    by false e = let l : length c.memory ≤ at = grind (arith, nat_tests) in subst (λ (n : ℕ). n < 256) (sym (get_or-eq_default c.memory 0 l)) (lit< tt)

half : (c : Core) (at : ℕ) → IsCore c → half_at c.memory at < 65536
half c at h = let a = byte c at h in let b = byte c (at + 1) h in omega (arith, a, b)

whole : (c : Core) (at : ℕ) → IsCore c → IsWord (word_at c.memory at)
whole c at h = let a = byte c at h in let b = byte c (at + 1) h in let d = byte c (at + 2) h in let e = byte c (at + 3) h in omega (arith, a, b, d, e)

extended_8 : (n : ℕ) → n < 256 → IsWord (extended 8 n)
extended_8 n h = bounds.either (ltb n 128) n (n + 4294967040) (omega (arith, h)) (omega (arith, h))

extended_16 : (n : ℕ) → n < 65536 → IsWord (extended 16 n)
extended_16 n h = bounds.either (ltb n 32768) n (n + 4294901760) (omega (arith, h)) (omega (arith, h))

byte_fits : (n : ℕ) → n < 256 → IsWord n
byte_fits n h = omega (arith, h)

half_fits : (n : ℕ) → n < 65536 → IsWord n
half_fits n h = omega (arith, h)

even_fits : (n : ℕ) → IsWord n → IsWord (even n)
even_fits n h = omega (arith, h)

half_bytes : (v : ℕ) → AllByRecursion IsByte (to_le_bytes w16 (v % 65536))
half_bytes v = (omega arith, (omega arith, tt))

word_bytes : (v : ℕ) → AllByRecursion IsByte (to_le_bytes w32 v)
word_bytes v = (omega arith, (omega arith, (omega arith, (omega arith, tt))))

one_byte : (v : ℕ) → AllByRecursion IsByte (v % 256 ∷ [])
one_byte v = (omega arith, tt)

effect_core : (i : Instr) → Fits i → (c : Core) → IsCore c → c.pc < 2097152 → IfGoes IsCore (effect i c)
effect_core (Lui rd imm) f c h t = gives_core rd imm c h t f.0
effect_core (Auipc rd imm) f c h t = gives_core rd _ c h t (bounds.sum_fits c.pc imm)
effect_core (Jal rd imm) f c h t = links_core rd _ c h t (bounds.sum_fits c.pc imm)
effect_core (Jalr rd rs1 imm) f c h t = links_core rd _ c h t (even_fits (address c rs1 imm) (bounds.sum_fits (register_of c rs1) imm))
effect_core (Beq rs1 rs2 imm) f c h t = branches_core _ imm c h t
effect_core (Bne rs1 rs2 imm) f c h t = branches_core _ imm c h t
effect_core (Blt rs1 rs2 imm) f c h t = branches_core _ imm c h t
effect_core (Bge rs1 rs2 imm) f c h t = branches_core _ imm c h t
effect_core (Bltu rs1 rs2 imm) f c h t = branches_core _ imm c h t
effect_core (Bgeu rs1 rs2 imm) f c h t = branches_core _ imm c h t
effect_core (Lb rd rs1 imm) f c h t = loads_core rd (address c rs1 imm) 1 _ c h t (extended_8 _ (byte c (address c rs1 imm) h))
effect_core (Lh rd rs1 imm) f c h t = loads_core rd (address c rs1 imm) 2 _ c h t (extended_16 _ (half c (address c rs1 imm) h))
effect_core (Lw rd rs1 imm) f c h t = loads_core rd (address c rs1 imm) 4 _ c h t (whole c (address c rs1 imm) h)
effect_core (Lbu rd rs1 imm) f c h t = loads_core rd (address c rs1 imm) 1 (get_or c.memory (address c rs1 imm) 0) c h t (byte_fits _ (byte c (address c rs1 imm) h))
effect_core (Lhu rd rs1 imm) f c h t = loads_core rd (address c rs1 imm) 2 (half_at c.memory (address c rs1 imm)) c h t (half_fits _ (half c (address c rs1 imm) h))
effect_core (Sb rs1 rs2 imm) f c h t = stores_core (address c rs1 imm) 1 (register_of c rs2 % 256 ∷ []) c h t (one_byte (register_of c rs2))
effect_core (Sh rs1 rs2 imm) f c h t = stores_core (address c rs1 imm) 2 (to_le_bytes w16 (register_of c rs2 % 65536)) c h t (half_bytes (register_of c rs2))
effect_core (Sw rs1 rs2 imm) f c h t = stores_core (address c rs1 imm) 4 (to_le_bytes w32 (register_of c rs2)) c h t (word_bytes (register_of c rs2))
effect_core (Addi rd rs1 imm) f c h t = gives_core rd _ c h t (bounds.sum_fits (register_of c rs1) imm)
effect_core (Slti rd rs1 imm) f c h t = gives_core rd _ c h t (bounds.signed_below_fits (register_of c rs1) imm)
effect_core (Sltiu rd rs1 imm) f c h t = gives_core rd _ c h t (bounds.unsigned_below_fits (register_of c rs1) imm)
effect_core (Xori rd rs1 imm) f c h t = gives_core rd _ c h t (bounds.xor_fits (register_of c rs1) imm (reg c rs1 h f.1) f.0.0)
effect_core (Ori rd rs1 imm) f c h t = gives_core rd _ c h t (bounds.or_fits (register_of c rs1) imm (reg c rs1 h f.1) f.0.0)
effect_core (Andi rd rs1 imm) f c h t = gives_core rd _ c h t (bounds.and_fits (register_of c rs1) imm (reg c rs1 h f.1) f.0.0)
effect_core (Slli rd rs1 imm) f c h t = gives_core rd _ c h t (bounds.left_shift_fits (register_of c rs1) imm)
effect_core (Srli rd rs1 imm) f c h t = gives_core rd _ c h t (bounds.right_shift_fits (register_of c rs1) imm (reg c rs1 h f.1))
effect_core (Srai rd rs1 imm) f c h t = gives_core rd _ c h t (bounds.signed_right_shift_fits (register_of c rs1) imm (reg c rs1 h f.1))
effect_core (Add rd rs1 rs2) f c h t = gives_core rd _ c h t (bounds.sum_fits (register_of c rs1) (register_of c rs2))
effect_core (Sub rd rs1 rs2) f c h t = gives_core rd _ c h t (bounds.difference_fits (register_of c rs1) (register_of c rs2))
effect_core (Sll rd rs1 rs2) f c h t = gives_core rd _ c h t (bounds.left_shift_fits (register_of c rs1) (register_of c rs2))
effect_core (Slt rd rs1 rs2) f c h t = gives_core rd _ c h t (bounds.signed_below_fits (register_of c rs1) (register_of c rs2))
effect_core (Sltu rd rs1 rs2) f c h t = gives_core rd _ c h t (bounds.unsigned_below_fits (register_of c rs1) (register_of c rs2))
effect_core (Xor rd rs1 rs2) f c h t = gives_core rd _ c h t (bounds.xor_fits (register_of c rs1) (register_of c rs2) (reg c rs1 h f.1) (reg c rs2 h f.0))
effect_core (Srl rd rs1 rs2) f c h t = gives_core rd _ c h t (bounds.right_shift_fits (register_of c rs1) (register_of c rs2) (reg c rs1 h f.1))
effect_core (Sra rd rs1 rs2) f c h t = gives_core rd _ c h t (bounds.signed_right_shift_fits (register_of c rs1) (register_of c rs2) (reg c rs1 h f.1))
effect_core (Or rd rs1 rs2) f c h t = gives_core rd _ c h t (bounds.or_fits (register_of c rs1) (register_of c rs2) (reg c rs1 h f.1) (reg c rs2 h f.0))
effect_core (And rd rs1 rs2) f c h t = gives_core rd _ c h t (bounds.and_fits (register_of c rs1) (register_of c rs2) (reg c rs1 h f.1) (reg c rs2 h f.0))
effect_core (Mul rd rs1 rs2) f c h t = gives_core rd _ c h t (bounds.product_fits (register_of c rs1) (register_of c rs2))
effect_core (Mulh rd rs1 rs2) f c h t = gives_core rd _ c h t (bounds.signed_high_fits (register_of c rs1) (register_of c rs2) (reg c rs1 h f.1) (reg c rs2 h f.0))
effect_core (Mulhsu rd rs1 rs2) f c h t = gives_core rd _ c h t (bounds.mixed_high_fits (register_of c rs1) (register_of c rs2) (reg c rs1 h f.1) (reg c rs2 h f.0))
effect_core (Mulhu rd rs1 rs2) f c h t = gives_core rd _ c h t (bounds.unsigned_high_fits (register_of c rs1) (register_of c rs2) (reg c rs1 h f.1) (reg c rs2 h f.0))
effect_core (Div rd rs1 rs2) f c h t = gives_core rd _ c h t (bounds.signed_quotient_fits (register_of c rs1) (register_of c rs2) (reg c rs1 h f.1))
effect_core (Divu rd rs1 rs2) f c h t = gives_core rd _ c h t (bounds.unsigned_quotient_fits (register_of c rs1) (register_of c rs2) (reg c rs1 h f.1))
effect_core (Rem rd rs1 rs2) f c h t = gives_core rd _ c h t (bounds.signed_remainder_fits (register_of c rs1) (register_of c rs2) (reg c rs1 h f.1))
effect_core (Remu rd rs1 rs2) f c h t = gives_core rd _ c h t (bounds.unsigned_remainder_fits (register_of c rs1) (register_of c rs2) (reg c rs1 h f.1))
effect_core (Fence rd rs1 imm) f c h t = next_core c h t
effect_core Ecall f c h t = tt
effect_core Ebreak f c h t = tt

fetched_core : (o : Option Instr) → IfSome o Fits → (c : Core) → IsCore c → c.pc < 2097152 → IfGoes IsCore (effect_of o c)
fetched_core None f c h t = tt
fetched_core (Some i) f c h t = effect_core i f c h t

fits_if : ReadsOnly → (word : ℕ) → word < 2 ^ 32 → (o : Option Instr) → instruction_of word ≡ o → IfSome o Fits
fits_if only word small None e = tt
fits_if only word small (Some i) e = (only word i small e).0

step_if : ReadsOnly → (b : Bool) (c : Core) → IsCore c → ltb c.pc 4096 || leb 2097152 c.pc ≡ b → IfGoes IsCore (cond b (Traps Fetch) (effect_of (instruction_of (word_at c.memory c.pc)) c))
step_if only true c h e = tt
step_if only false c h e =
    let t : c.pc < 2097152 = grind (arith, nat_tests) in
    let o = instruction_of (word_at c.memory c.pc) in
    fetched_core o (fits_if only (word_at c.memory c.pc) (whole c c.pc h) o refl) c h t

pub step_core : ReadsOnly → (c d : Core) → IsCore c → core_step c ≡ Goes d → IsCore d
unfolding core_step
step_core only c d h e = subst (IfGoes IsCore) e (step_if only (ltb c.pc 4096 || leb 2097152 c.pc) c h refl)

in_text_if : (b : Bool) (c : Core) (act : Act) → ltb c.pc 4096 || leb 2097152 c.pc ≡ b → cond b (Traps Fetch) act ≡ Asks → c.pc < 2097152
in_text_if true c act e h = cc
in_text_if false c act e h = grind (arith, nat_tests)

-- the environment is asked by an instruction in the text
pub asks_in_text : (c : Core) → core_step c ≡ Asks → c.pc < 2097152
unfolding core_step
asks_in_text c h = in_text_if (ltb c.pc 4096 || leb 2097152 c.pc) c (effect_of (instruction_of (word_at c.memory c.pc)) c) refl h

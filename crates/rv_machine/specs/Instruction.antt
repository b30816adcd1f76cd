-- What an instruction does to the registers, the program counter and the memory (RISC-V unprivileged manual, chapters
-- RV32I and M).
use Rattle.std.specs.Prelude.{◌≡◌, ◌==◌, ℕ, ◌+◌, ◌*◌, ◌/◌, ◌%◌, ◌^◌, ◌||◌, Bool, true, false, not, nat_eq, nat_lt}
use Rattle.std.specs.Prelude.{nat_le, int_lt, bit_and, bit_or, bit_xor, slice_index, if◌then◌else◌, List, [], ◌∷◌, Option, Some, None}
use Rattle.std.specs.Int.{to_le_bytes, w16, w32}
use Rattle.bb_words.specs.Numbers.{signed, sum, difference, product, signed_high_product, mixed_high_product}
use Rattle.bb_words.specs.Numbers.{unsigned_high_product, signed_quotient, unsigned_quotient, signed_remainder}
use Rattle.bb_words.specs.Numbers.{unsigned_remainder, left_shift, right_shift, signed_right_shift, signed_below, unsigned_below}
use Rattle.bb_words.specs.declared.kinds.TrapKind.{TrapKind}
use Rattle.bb_words.specs.declared.kinds.TrapKind.TheVariants.{Null, Marked, Unmapped, Text, Misaligned, Fetch, Illegal, Break}
use Rattle.bb_watch.specs.declared.event.Event.{Event}
use Rattle.bb_watch.specs.declared.event.Event.TheVariants.{Move, Access, Call, Return, Line}
use Rattle.rv_code.specs.Bits.{extended}
use Rattle.rv_code.specs.Code.{instruction_of}
use Rattle.rv_code.specs.declared.instr.Instr.{Instr}
use Rattle.rv_code.specs.declared.instr.Instr.TheVariants.{Lui, Auipc, Jal, Jalr, Beq, Bne, Blt, Bge, Bltu, Bgeu, Lb, Lh, Lw, Lbu, Lhu, Sb, Sh, Sw}
use Rattle.rv_code.specs.declared.instr.Instr.TheVariants.{Addi, Slti, Sltiu, Xori, Ori, Andi, Slli, Srli, Srai, Add, Sub, Sll, Slt, Sltu, Xor, Srl}
use Rattle.rv_code.specs.declared.instr.Instr.TheVariants.{Sra, Or, And, Mul, Mulh, Mulhsu, Mulhu, Div, Divu, Rem, Remu, Fence, Ecall, Ebreak}
use Rattle.rv_machine.specs.declared.stop.Effect.{Effect}
use Rattle.rv_machine.specs.declared.stop.Effect.TheVariants.{Went, Trapped, Asked}
use Rattle.size_table.specs.declared.memory_map.TheConstants.{TEXT_START, TABLE_START, MEMORY_END}
use Rattle.size_table.specs.Memory.{half_at, word_at, written_at}
use Rattle.rv_machine.specs.State.{Core, register_of, set_register, next, gives, with_memory}

-- what an instruction leads to: a core, a trap, or a question to the environment
pub data Act : Type 0 where
  Goes : (core : Core) → Act
  Traps : (kind : TrapKind) → Act
  Asks : Act

-- ---- Accesses

-- the trap of an access to so many bytes, if there is one: the first of these that holds
abbrev pub access_trap : (at size : ℕ) → Option TrapKind
access_trap at size =
    if nat_lt at TEXT_START then Some Null
    else if nat_le (2 ^ 31) at then Some Marked
    else if nat_le MEMORY_END at then Some Unmapped
    else if nat_lt at TABLE_START then Some Text
    else if at % size == 0 then None
    else Some Misaligned

abbrev pub unless_trap : Option TrapKind → Core → Act
unless_trap None core = Goes core
unless_trap (Some kind) core = Traps kind

-- the address of an access, or of a jump to a register: a register plus an immediate
abbrev pub address : Core → (rs1 imm : ℕ) → ℕ
address c rs1 imm = sum (register_of c rs1) imm

-- a register gets a value that was read
abbrev pub loads : (rd at size value : ℕ) → Core → Act
loads rd at size value c = unless_trap (access_trap at size) (gives rd value c)

-- bytes are written
abbrev pub stores : (at size : ℕ) → List ℕ → Core → Act
stores at size bytes c = unless_trap (access_trap at size) (next (with_memory (written_at c.memory at bytes) c))

-- ---- Jumps

-- an instruction begins at a multiple of 4
abbrev pub jumps : ℕ → Core → Act
jumps to c = if to % 4 == 0 then Goes (record c { pc = to }) else Traps Fetch

-- a register gets the address of the next instruction
abbrev pub links : (rd to : ℕ) → Core → Act
links rd to c = jumps to (set_register rd (c.pc + 4) c)

abbrev pub branches : Bool → ℕ → Core → Act
branches taken imm c = if taken then jumps (sum c.pc imm) c else Goes (next c)

-- bit 0 is cleared
abbrev pub even : ℕ → ℕ
even n = 2 * (n / 2)

-- ---- The instructions

-- one row for each instruction
abbrev pub effect : Instr → Core → Act
effect (Lui rd imm) c = Goes (gives rd imm c)
effect (Auipc rd imm) c = Goes (gives rd (sum c.pc imm) c)
effect (Jal rd imm) c = links rd (sum c.pc imm) c
effect (Jalr rd rs1 imm) c = links rd (even (address c rs1 imm)) c
effect (Beq rs1 rs2 imm) c = branches (nat_eq (register_of c rs1) (register_of c rs2)) imm c
effect (Bne rs1 rs2 imm) c = branches (not (nat_eq (register_of c rs1) (register_of c rs2))) imm c
effect (Blt rs1 rs2 imm) c = branches (int_lt (signed (register_of c rs1)) (signed (register_of c rs2))) imm c
effect (Bge rs1 rs2 imm) c = branches (not (int_lt (signed (register_of c rs1)) (signed (register_of c rs2)))) imm c
effect (Bltu rs1 rs2 imm) c = branches (nat_lt (register_of c rs1) (register_of c rs2)) imm c
effect (Bgeu rs1 rs2 imm) c = branches (not (nat_lt (register_of c rs1) (register_of c rs2))) imm c
effect (Lb rd rs1 imm) c = loads rd (address c rs1 imm) 1 (extended 8 (slice_index c.memory (address c rs1 imm))) c
effect (Lh rd rs1 imm) c = loads rd (address c rs1 imm) 2 (extended 16 (half_at c.memory (address c rs1 imm))) c
effect (Lw rd rs1 imm) c = loads rd (address c rs1 imm) 4 (word_at c.memory (address c rs1 imm)) c
effect (Lbu rd rs1 imm) c = loads rd (address c rs1 imm) 1 (slice_index c.memory (address c rs1 imm)) c
effect (Lhu rd rs1 imm) c = loads rd (address c rs1 imm) 2 (half_at c.memory (address c rs1 imm)) c
effect (Sb rs1 rs2 imm) c = stores (address c rs1 imm) 1 (register_of c rs2 % 256 ∷ []) c
effect (Sh rs1 rs2 imm) c = stores (address c rs1 imm) 2 (to_le_bytes w16 (register_of c rs2 % 65536)) c
effect (Sw rs1 rs2 imm) c = stores (address c rs1 imm) 4 (to_le_bytes w32 (register_of c rs2)) c
effect (Addi rd rs1 imm) c = Goes (gives rd (sum (register_of c rs1) imm) c)
effect (Slti rd rs1 imm) c = Goes (gives rd (signed_below (register_of c rs1) imm) c)
effect (Sltiu rd rs1 imm) c = Goes (gives rd (unsigned_below (register_of c rs1) imm) c)
effect (Xori rd rs1 imm) c = Goes (gives rd (bit_xor (register_of c rs1) imm) c)
effect (Ori rd rs1 imm) c = Goes (gives rd (bit_or (register_of c rs1) imm) c)
effect (Andi rd rs1 imm) c = Goes (gives rd (bit_and (register_of c rs1) imm) c)
effect (Slli rd rs1 imm) c = Goes (gives rd (left_shift (register_of c rs1) imm) c)
effect (Srli rd rs1 imm) c = Goes (gives rd (right_shift (register_of c rs1) imm) c)
effect (Srai rd rs1 imm) c = Goes (gives rd (signed_right_shift (register_of c rs1) imm) c)
effect (Add rd rs1 rs2) c = Goes (gives rd (sum (register_of c rs1) (register_of c rs2)) c)
effect (Sub rd rs1 rs2) c = Goes (gives rd (difference (register_of c rs1) (register_of c rs2)) c)
effect (Sll rd rs1 rs2) c = Goes (gives rd (left_shift (register_of c rs1) (register_of c rs2)) c)
effect (Slt rd rs1 rs2) c = Goes (gives rd (signed_below (register_of c rs1) (register_of c rs2)) c)
effect (Sltu rd rs1 rs2) c = Goes (gives rd (unsigned_below (register_of c rs1) (register_of c rs2)) c)
effect (Xor rd rs1 rs2) c = Goes (gives rd (bit_xor (register_of c rs1) (register_of c rs2)) c)
effect (Srl rd rs1 rs2) c = Goes (gives rd (right_shift (register_of c rs1) (register_of c rs2)) c)
effect (Sra rd rs1 rs2) c = Goes (gives rd (signed_right_shift (register_of c rs1) (register_of c rs2)) c)
effect (Or rd rs1 rs2) c = Goes (gives rd (bit_or (register_of c rs1) (register_of c rs2)) c)
effect (And rd rs1 rs2) c = Goes (gives rd (bit_and (register_of c rs1) (register_of c rs2)) c)
effect (Mul rd rs1 rs2) c = Goes (gives rd (product (register_of c rs1) (register_of c rs2)) c)
effect (Mulh rd rs1 rs2) c = Goes (gives rd (signed_high_product (register_of c rs1) (register_of c rs2)) c)
effect (Mulhsu rd rs1 rs2) c = Goes (gives rd (mixed_high_product (register_of c rs1) (register_of c rs2)) c)
effect (Mulhu rd rs1 rs2) c = Goes (gives rd (unsigned_high_product (register_of c rs1) (register_of c rs2)) c)
effect (Div rd rs1 rs2) c = Goes (gives rd (signed_quotient (register_of c rs1) (register_of c rs2)) c)
effect (Divu rd rs1 rs2) c = Goes (gives rd (unsigned_quotient (register_of c rs1) (register_of c rs2)) c)
effect (Rem rd rs1 rs2) c = Goes (gives rd (signed_remainder (register_of c rs1) (register_of c rs2)) c)
effect (Remu rd rs1 rs2) c = Goes (gives rd (unsigned_remainder (register_of c rs1) (register_of c rs2)) c)
effect (Fence rd rs1 imm) c = Goes (next c)
effect Ecall c = Asks
effect Ebreak c = Traps Break

-- a word that is no instruction traps
abbrev pub effect_of : Option Instr → Core → Act
effect_of None c = Traps Illegal
effect_of (Some i) c = effect i c

-- the word that is fetched, as an instruction
abbrev pub instruction_at : Core → Option Instr
instruction_at c = instruction_of (word_at c.memory c.pc)

-- the next instruction: it is fetched from the text's region, decoded and executed
unfoldable pub core_step : Core → Act
core_step c = if nat_lt c.pc TEXT_START || nat_le TABLE_START c.pc then Traps Fetch else effect_of (instruction_at c) c

-- ---- What an instruction tells

-- What an instruction that was executed tells of the core before it. Two instructions that have no effect, since they
-- write to register 0, stand for a checked move and for a line of the source. Register 1 is the return address.
abbrev pub event_of : Instr → Core → List Event
event_of (Add rd rs1 rs2) c = if rd == 0 then Move c.pc (register_of c rs1) (register_of c rs2) ∷ [] else []
event_of (Lui rd imm) c = if rd == 0 then Line (imm / 4096) ∷ [] else []
event_of (Lb rd rs1 imm) c = Access c.pc (address c rs1 imm) 1 false rs1 ∷ []
event_of (Lh rd rs1 imm) c = Access c.pc (address c rs1 imm) 2 false rs1 ∷ []
event_of (Lw rd rs1 imm) c = Access c.pc (address c rs1 imm) 4 false rs1 ∷ []
event_of (Lbu rd rs1 imm) c = Access c.pc (address c rs1 imm) 1 false rs1 ∷ []
event_of (Lhu rd rs1 imm) c = Access c.pc (address c rs1 imm) 2 false rs1 ∷ []
event_of (Sb rs1 rs2 imm) c = Access c.pc (address c rs1 imm) 1 true rs1 ∷ []
event_of (Sh rs1 rs2 imm) c = Access c.pc (address c rs1 imm) 2 true rs1 ∷ []
event_of (Sw rs1 rs2 imm) c = Access c.pc (address c rs1 imm) 4 true rs1 ∷ []
event_of (Jal rd imm) c = if rd == 1 then Call c.pc (sum c.pc imm) ∷ [] else []
event_of (Jalr rd rs1 imm) c =
    if rd == 1 then Call c.pc (even (address c rs1 imm)) ∷ []
    else if rd == 0 then (if rs1 == 1 then Return c.pc (even (address c rs1 imm)) ∷ [] else [])
    else []
event_of i c = []

abbrev pub event_if : Option Instr → Core → List Event
event_if None c = []
event_if (Some i) c = event_of i c

-- what the next instruction tells, if it is executed
unfoldable pub core_events : Core → List Event
core_events c = event_if (instruction_at c) c

-- the core was changed as the act says, and stays at a trap and at a question
abbrev pub Does : Core → Core → Effect → Act → Type 0
Does old new Went act = act ≡ Goes new
Does old new (Trapped kind) act = (act ≡ Traps kind) × (new ≡ old)
Does old new Asked act = (act ≡ Asks) × (new ≡ old)

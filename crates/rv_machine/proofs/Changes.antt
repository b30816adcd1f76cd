-- What an instruction does to the memory, and to the live blocks, by what it tells.
use Rattle.std.proofs.Common.{◌≡◌, ℕ, ◌+◌, ◌/◌, ◌%◌, ◌<◌, ◌≤◌, Bool, true, false, cond, eqb, ltb, leb, List, [], ◌∷◌, length, get_or, Option, Some, None, refl, sym, inl, inr, ◌⊎◌, arith, subst}
use Rattle.std.specs.Prelude.{◌||◌}
use Rattle.std.specs.Int.{to_le_bytes, w16, w32}
use Rattle.std.proofs.lemmas.Bool.{cases_lt}
use Rattle.std.proofs.lemmas.Bool.Decides.{nat_tests}
use Rattle.bb_words.specs.Numbers.{sum}
use Rattle.bb_words.specs.declared.kinds.TrapKind.{TrapKind}
use Rattle.bb_words.specs.declared.kinds.TrapKind.TheVariants.{Fetch}
use Rattle.bb_watch.specs.declared.event.Event.{Event}
use Rattle.bb_watch.specs.declared.event.Event.TheVariants.{Move, Access, Call, Return, Line}
use Rattle.rv_code.specs.declared.instr.Instr.{Instr}
use Rattle.rv_code.specs.declared.instr.Instr.TheVariants.{Lui, Auipc, Jal, Jalr, Beq, Bne, Blt, Bge, Bltu, Bgeu, Lb, Lh, Lw, Lbu, Lhu, Sb, Sh, Sw, Addi, Slti, Sltiu, Xori, Ori, Andi, Slli, Srli, Srai, Add, Sub, Sll, Slt, Sltu, Xor, Srl, Sra, Or, And, Mul, Mulh, Mulhsu, Mulhu, Div, Divu, Rem, Remu, Fence, Ecall, Ebreak}
use Rattle.rv_machine.specs.Changes.{NoneChanges, IsMadeIn, AreOffTable}
use Rattle.rv_machine.specs.Instruction.{Act, Goes, Traps, Asks, access_trap, unless_trap, stores, jumps, branches, address, even, effect, effect_of, event_of, event_if, instruction_at, core_step, core_events}
use Rattle.bb_watch.specs.Live.{live_of}
use Rattle.size_table.specs.Memory.{written_at}
use Rattle.rv_machine.specs.State.{Core, register_of, set_register, next, with_memory}
use Rattle.rv_machine.proofs.Tables.{written_other}
use Rattle.size_table.specs.Blocks.{Block}

-- the events tell of no block that is made or ends
pub record TellsNoBlock (events : List Event) : Type 0 where
  pub live : (blocks : List Block) → live_of blocks events ≡ blocks
  pub made : (at : ℕ) → IsMadeIn events at → ⊥

-- A byte changes only where the events say so, not in the text, and not in the size table if the events are off it; and
-- the events tell of no blocks.
pub record Keeps (events : List Event) (old new : List ℕ) : Type 0 where
  pub told : (at : ℕ) → NoneChanges events at → get_or new at 0 ≡ get_or old at 0
  pub text : (at : ℕ) → at < 2097152 → get_or new at 0 ≡ get_or old at 0
  pub table : AreOffTable events → (at : ℕ) → 2097152 ≤ at → at < 4194304 → get_or new at 0 ≡ get_or old at 0
  pub blocks : TellsNoBlock events

-- what is so of the core that an act leads to
abbrev IfKept : List Event → Core → Act → Type 0
IfKept events c (Goes d) = Keeps events c.memory d.memory
IfKept events c (Traps kind) = Unit {0}
IfKept events c Asks = Unit {0}

-- ---- Instructions that do not write

silent : (events : List Event) (m : List ℕ) → TellsNoBlock events → Keeps events m m
silent events m blocks = record { told = λ at h. refl; text = λ at h. refl; table = λ off at low high. refl; blocks = blocks }

-- an event that is told on a condition
none : TellsNoBlock []
none = record { live = λ blocks. refl; made = λ at m. m }

told_if : (b : Bool) (events others : List Event) → TellsNoBlock events → TellsNoBlock others → TellsNoBlock (cond b events others)
told_if true events others p q = p
told_if false events others p q = q

move : (pc from to : ℕ) → TellsNoBlock (Move pc from to ∷ [])
move pc from to = record { live = λ blocks. refl; made = λ at m. m }

line : (n : ℕ) → TellsNoBlock (Line n ∷ [])
line n = record { live = λ blocks. refl; made = λ at m. m }

call : (pc to : ℕ) → TellsNoBlock (Call pc to ∷ [])
call pc to = record { live = λ blocks. refl; made = λ at m. m }

return : (pc to : ℕ) → TellsNoBlock (Return pc to ∷ [])
return pc to = record { live = λ blocks. refl; made = λ at m. m }

access : (pc at size : ℕ) (write : Bool) (base : ℕ) → TellsNoBlock (Access pc at size write base ∷ [])
access pc at size write base = record { live = λ blocks. refl; made = λ at m. m }

kept_unless : (events : List Event) (c d : Core) (trap : Option TrapKind) → Keeps events c.memory d.memory → IfKept events c (unless_trap trap d)
kept_unless events c d None k = k
kept_unless events c d (Some kind) k = tt

kept_jump : (events : List Event) (to : ℕ) (c d : Core) → Keeps events c.memory d.memory → IfKept events c (jumps to d)
kept_jump events to c d k = by (eqb (to % 4) 0)
  where
    by : (b : Bool) → IfKept events c (cond b (Goes (record d { pc = to })) (Traps Fetch))
    by true = k
    by false = tt

kept_branch : (taken : Bool) (imm : ℕ) (c : Core) → IfKept [] c (branches taken imm c)
kept_branch true imm c = kept_jump [] (sum c.pc imm) c c (silent [] c.memory none)
kept_branch false imm c = silent [] c.memory none

-- ---- Stores

-- an access that does not trap lies above the text
above_text : (at size : ℕ) → access_trap at size ≡ None → 2097152 ≤ at
above_text at size h = by (ltb at 2097152) refl
  where
    by : (b : Bool) → ltb at 2097152 ≡ b → 2097152 ≤ at
    by true e = absurd (grind (arith, nat_tests))
    by false e = grind (arith, nat_tests)

pub outside : (low high i : ℕ) → ((low ≤ i) × (i < high) → ⊥) → (i < low) ⊎ (high ≤ i)
outside low high i f = elim (cases_lt i low) [
  | inl below ↦ inl below
  | inr from ↦ elim (cases_lt i high) [
    | inl to ↦ absurd (f (from, to))
    | inr past ↦ inr past
  ]
]

-- a store that is off the table leaves out each address in it
off_store : (at size : ℕ) (bs : List ℕ) → length bs ≡ size → (at + size ≤ 2097152) ⊎ (4194304 ≤ at) → (at + length bs ≤ 2097152) ⊎ (4194304 ≤ at)
off_store at size bs long (inl below) = inl (omega (arith, long, below))
off_store at size bs long (inr above) = inr above

beside : (low high i : ℕ) → 2097152 ≤ i → i < 4194304 → (high ≤ 2097152) ⊎ (4194304 ≤ low) → (i < low) ⊎ (high ≤ i)
beside low high i from to (inl below) = inr (omega (arith, from, below))
beside low high i from to (inr above) = inl (omega (arith, to, above))

kept_store : (pc at size base : ℕ) (bs : List ℕ) (c : Core) → length bs ≡ size → IfKept (Access pc at size true base ∷ []) c (stores at size bs c)
kept_store pc at size base bs c long = by (access_trap at size) refl
  where
    by : (trap : Option TrapKind) → access_trap at size ≡ trap → IfKept (Access pc at size true base ∷ []) c (unless_trap trap (next (with_memory (written_at c.memory at bs) c)))
    by None e =
        let high = above_text at size e in
        record {
          told = λ i h. written_other c.memory at bs i (outside at (at + length bs) i (λ p. h.0 (p.0, omega (arith, p.1, long))));
          text = λ i l. written_other c.memory at bs i (inl (omega (arith, high, l)));
          table = λ off i low above. written_other c.memory at bs i (beside at (at + length bs) i low above (off_store at size bs long off.0));
          blocks = access pc at size true base;
        }
    by (Some kind) e = tt

-- ---- Each instruction

quiet : (c : Core) → Keeps [] c.memory c.memory
quiet c = silent [] c.memory none

kept_load : (pc at size base : ℕ) (c d : Core) → d.memory ≡ c.memory → IfKept (Access pc at size false base ∷ []) c (unless_trap (access_trap at size) d)
kept_load pc at size base c d same =
    let events = Access pc at size false base ∷ [] in
    kept_unless events c d (access_trap at size) (subst (Keeps events c.memory) (sym same) (silent events c.memory (access pc at size false base)))

effect_keeps : (i : Instr) (c : Core) → IfKept (event_of i c) c (effect i c)
effect_keeps (Lui rd imm) c = silent _ c.memory (told_if (eqb rd 0) _ _ (line (imm / 4096)) none)
effect_keeps (Auipc rd imm) c = quiet c
effect_keeps (Jal rd imm) c = kept_jump _ (sum c.pc imm) c (set_register rd (c.pc + 4) c) (silent _ c.memory (told_if (eqb rd 1) _ _ (call c.pc (sum c.pc imm)) none))
effect_keeps (Jalr rd rs1 imm) c =
    let to = even (address c rs1 imm) in
    kept_jump _ to c (set_register rd (c.pc + 4) c) (silent _ c.memory
    (told_if (eqb rd 1) _ _ (call c.pc to) (told_if (eqb rd 0) _ _ (told_if (eqb rs1 1) _ _ (return c.pc to) none) none)))
effect_keeps (Beq rs1 rs2 imm) c = kept_branch _ imm c
effect_keeps (Bne rs1 rs2 imm) c = kept_branch _ imm c
effect_keeps (Blt rs1 rs2 imm) c = kept_branch _ imm c
effect_keeps (Bge rs1 rs2 imm) c = kept_branch _ imm c
effect_keeps (Bltu rs1 rs2 imm) c = kept_branch _ imm c
effect_keeps (Bgeu rs1 rs2 imm) c = kept_branch _ imm c
effect_keeps (Lb rd rs1 imm) c = kept_load c.pc (address c rs1 imm) 1 rs1 c _ refl
effect_keeps (Lh rd rs1 imm) c = kept_load c.pc (address c rs1 imm) 2 rs1 c _ refl
effect_keeps (Lw rd rs1 imm) c = kept_load c.pc (address c rs1 imm) 4 rs1 c _ refl
effect_keeps (Lbu rd rs1 imm) c = kept_load c.pc (address c rs1 imm) 1 rs1 c _ refl
effect_keeps (Lhu rd rs1 imm) c = kept_load c.pc (address c rs1 imm) 2 rs1 c _ refl
effect_keeps (Sb rs1 rs2 imm) c = kept_store c.pc (address c rs1 imm) 1 rs1 (register_of c rs2 % 256 ∷ []) c refl
effect_keeps (Sh rs1 rs2 imm) c = kept_store c.pc (address c rs1 imm) 2 rs1 (to_le_bytes w16 (register_of c rs2 % 65536)) c refl
effect_keeps (Sw rs1 rs2 imm) c = kept_store c.pc (address c rs1 imm) 4 rs1 (to_le_bytes w32 (register_of c rs2)) c refl
effect_keeps (Addi rd rs1 imm) c = quiet c
effect_keeps (Slti rd rs1 imm) c = quiet c
effect_keeps (Sltiu rd rs1 imm) c = quiet c
effect_keeps (Xori rd rs1 imm) c = quiet c
effect_keeps (Ori rd rs1 imm) c = quiet c
effect_keeps (Andi rd rs1 imm) c = quiet c
effect_keeps (Slli rd rs1 imm) c = quiet c
effect_keeps (Srli rd rs1 imm) c = quiet c
effect_keeps (Srai rd rs1 imm) c = quiet c
effect_keeps (Add rd rs1 rs2) c = silent _ c.memory (told_if (eqb rd 0) _ _ (move c.pc (register_of c rs1) (register_of c rs2)) none)
effect_keeps (Sub rd rs1 rs2) c = quiet c
effect_keeps (Sll rd rs1 rs2) c = quiet c
effect_keeps (Slt rd rs1 rs2) c = quiet c
effect_keeps (Sltu rd rs1 rs2) c = quiet c
effect_keeps (Xor rd rs1 rs2) c = quiet c
effect_keeps (Srl rd rs1 rs2) c = quiet c
effect_keeps (Sra rd rs1 rs2) c = quiet c
effect_keeps (Or rd rs1 rs2) c = quiet c
effect_keeps (And rd rs1 rs2) c = quiet c
effect_keeps (Mul rd rs1 rs2) c = quiet c
effect_keeps (Mulh rd rs1 rs2) c = quiet c
effect_keeps (Mulhsu rd rs1 rs2) c = quiet c
effect_keeps (Mulhu rd rs1 rs2) c = quiet c
effect_keeps (Div rd rs1 rs2) c = quiet c
effect_keeps (Divu rd rs1 rs2) c = quiet c
effect_keeps (Rem rd rs1 rs2) c = quiet c
effect_keeps (Remu rd rs1 rs2) c = quiet c
effect_keeps (Fence rd rs1 imm) c = quiet c
effect_keeps Ecall c = tt
effect_keeps Ebreak c = tt

fetched_keeps : (o : Option Instr) (c : Core) → IfKept (event_if o c) c (effect_of o c)
fetched_keeps None c = tt
fetched_keeps (Some i) c = effect_keeps i c

pub step_keeps : (c d : Core) → core_step c ≡ Goes d → Keeps (core_events c) c.memory d.memory
unfolding core_step core_events
step_keeps c d h = subst (IfKept (core_events c) c) h (by (ltb c.pc 4096 || leb 2097152 c.pc))
  where
    by : (b : Bool) → IfKept (core_events c) c (cond b (Traps Fetch) (effect_of (instruction_at c) c))
    by true = tt
    by false = fetched_keeps (instruction_at c) c

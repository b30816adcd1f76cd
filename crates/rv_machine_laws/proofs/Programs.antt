-- Words that stand in memory, and what the machine does at one.
use Rattle.std.proofs.Common.{◌≡◌, ℕ, zero, suc, ◌+◌, ◌*◌, ◌/◌, ◌%◌, ◌^◌, ◌<◌, ◌≤◌, ltb, leb, false, List, [], ◌∷◌, length, get_or, set, Option, Some, refl, sym, ap, subst, inl, ◌∙◌, arith, lit<, lit≤, get_or-set_other, get_or-set_same, length-set}
use Rattle.std.specs.Int.{to_le_bytes, w16}
use Rattle.std.specs.List.{AllByRecursion}
use Rattle.std.proofs.lemmas.Bool.Decides.{nat_tests}
use Rattle.std.proofs.lemmas.Nat.{from_le_bytes-to_le_bytes_2, from_le_bytes-to_le_bytes_4}
use Rattle.rv_code.specs.Code.{Fits, word_of, instruction_of}
use Rattle.rv_code.specs.Laws.{ReadsBack}
use Rattle.rv_code.specs.declared.instr.Instr.{Instr}
use Rattle.rv_machine.specs.State.{Core}
use Rattle.size_table.specs.Memory.{half_at, word_at, written_at, bytes_of_words, Stand}
use Rattle.rv_machine.specs.Formed.{IsWord}
use Rattle.rv_machine.specs.Instruction.{effect, core_step, core_events, event_of, event_if}
use Rattle.rv_machine.proofs.Tables.{written_other}

-- ---- Words that stand in memory

-- four bytes that are written
abbrev four : List ℕ → ℕ → ℕ → ℕ → ℕ → ℕ → List ℕ
four m at a b c d = set (set (set (set m at a) (at + 1) b) (at + 1 + 1) c) (at + 1 + 1 + 1) d

four_stand : (m : List ℕ) (at a b c d : ℕ) → at + 4 ≤ length m → (get_or (four m at a b c d) at 0 ≡ a) × (get_or (four m at a b c d) (at + 1) 0 ≡ b) × (get_or (four m at a b c d) (at + 2) 0 ≡ c) × (get_or (four m at a b c d) (at + 3) 0 ≡ d)
four_stand m at a b c d h =
    (grind (arith, lit<, lit≤, get_or-set_other, get_or-set_same, length-set), grind (arith, lit<, lit≤, get_or-set_other, get_or-set_same, length-set), grind (arith, lit<, lit≤, get_or-set_other, get_or-set_same, length-set), grind (arith, lit<, lit≤, get_or-set_other, get_or-set_same, length-set))

four_long : (m : List ℕ) (at a b c d : ℕ) → length (four m at a b c d) ≡ length m
four_long m at a b c d = simp length-set

pub words_stand : (ws : List ℕ) (m : List ℕ) (at : ℕ) → AllByRecursion IsWord ws → at + 4 * length ws ≤ length m → Stand (written_at m at (bytes_of_words ws)) at ws
words_stand [] m at s h = tt
words_stand (w ∷ ws) m at s h =
    let a = w % 256 in
    let b = w / 256 % 256 in
    let c = w / 65536 % 256 in
    let d = w / 16777216 % 256 in
    let m4 = four m at a b c d in
    let f = four_stand m at a b c d (omega arith) in
    let e : at + 1 + 1 + 1 + 1 ≡ at + 4 = omega arith in
    let l = four_long m at a b c d in
    let bs = bytes_of_words ws in
    let low : (k : ℕ) → k < at + 4 → get_or (written_at m4 (at + 1 + 1 + 1 + 1) bs) k 0 ≡ get_or m4 k 0 = λ k g. written_other m4 (at + 1 + 1 + 1 + 1) bs k (inl (omega arith)) in
    (rw (low at (omega arith) ∙ f.0, low (at + 1) (omega arith) ∙ f.1, low (at + 2) (omega arith) ∙ f.2, low (at + 3) (omega arith) ∙ f.3) (from_le_bytes-to_le_bytes_4 w s.0), subst (λ (n : ℕ). Stand (written_at m4 n bs) (at + 4) ws) (sym e) (words_stand ws m4 (at + 4) s.1 (omega arith)))

-- of words that stand, each stands at its index
pub word_at_index : (words memory : List ℕ) (at i : ℕ) → Stand memory at words → i < length words → word_at memory (at + 4 * i) ≡ get_or words i 0
word_at_index [] memory at i s l = absurd (omega (arith, l))
word_at_index (word ∷ words) memory at zero s l = let e : at + 4 * 0 ≡ at = omega arith in ap (word_at memory) e ∙ s.0
word_at_index (word ∷ words) memory at (suc i) s l =
    let e : at + 4 * suc i ≡ at + 4 + 4 * i = omega arith in
    ap (word_at memory) e ∙ word_at_index words memory (at + 4) i s.1 (omega (arith, l))

-- a byte and a half that are written are read back
pub byte_back : (memory : List ℕ) (at byte : ℕ) → at < length memory → get_or (set memory at byte) at 0 ≡ byte
byte_back memory at byte l = get_or-set_same memory at byte 0 l

pub half_back : (memory : List ℕ) (at half : ℕ) → at + 2 ≤ length memory → half < 2 ^ 16 → half_at (written_at memory at (to_le_bytes w16 half)) at ≡ half
half_back memory at half l small =
    let a = half % 256 in
    let b = half / 256 % 256 in
    let low : get_or (set (set memory at a) (at + 1) b) at 0 ≡ a = grind (arith, lit<, lit≤, get_or-set_other, get_or-set_same, length-set) in
    let high : get_or (set (set memory at a) (at + 1) b) (at + 1) 0 ≡ b = grind (arith, lit<, lit≤, get_or-set_other, get_or-set_same, length-set) in
    rw (low, high) (from_le_bytes-to_le_bytes_2 half small)

-- ---- One instruction

fetches : (c : Core) (i : Instr) → 4096 ≤ c.pc → c.pc < 2097152 → instruction_of (word_at c.memory c.pc) ≡ Some i → core_step c ≡ effect i c
unfolding core_step
fetches c i low high d =
    let a : ltb c.pc 4096 ≡ false = grind (arith, nat_tests) in
    let b : leb 2097152 c.pc ≡ false = grind (arith, nat_tests) in
    rw (a, b, d) refl

-- the instruction whose word stands at the program counter is the one that is done
pub does_instr : ReadsBack → (c : Core) (i : Instr) → 4096 ≤ c.pc → c.pc < 2097152 → Fits i → word_at c.memory c.pc ≡ word_of i → core_step c ≡ effect i c
does_instr back c i low high fits w = fetches c i low high (ap instruction_of w ∙ back i fits)

-- and what it tells
pub tells_instr : ReadsBack → (c : Core) (i : Instr) → Fits i → word_at c.memory c.pc ≡ word_of i → core_events c ≡ event_of i c
unfolding core_events
tells_instr back c i fits w = ap (λ (o : Option Instr). event_if o c) (ap instruction_of w ∙ back i fits)

-- The instructions that are decoded stay those of the text.
use Rattle.std.proofs.Common.{◌≡◌, ℕ, ◌+◌, ◌*◌, ◌/◌, ◌-◌, ◌^◌, ◌<◌, ◌≤◌, false, cond, ltb, leb, Bool, List, [], ◌∷◌, ◌++◌, length, take, drop, get_or, Option, Some, refl, sym, ap, subst, ◌∙◌, inl, inr, arith}
use Rattle.std.specs.Prelude.{◌||◌}
use Rattle.std.proofs.lemmas.Bool.Decides.{nat_tests}
use Rattle.std.proofs.lemmas.Bool.{cases_lt}
use Rattle.std.proofs.lemmas.List.{get_or_append_left, get_or-append_right, length-append, take_all, drop_all, append-nil}
use Rattle.bb_words.specs.declared.kinds.TrapKind.TheVariants.{Fetch}
use Rattle.rv_code.specs.Code.{Fits, Encodes, instruction_of}
use Rattle.rv_code.specs.declared.instr.Instr.{Instr}
use Rattle.rv_code.specs.declared.instr.Instr.TheVariants.{Ebreak}
use Rattle.rv_machine.specs.Decoded.{IsDecoded, AreDecoded}
use Rattle.rv_machine.specs.Instruction.{Goes, Traps, effect, effect_of, core_step}
use Rattle.rv_machine.specs.State.{Core}
use Rattle.rv_machine.proofs.BlockMemory.{filled_other}
use Rattle.rv_machine.proofs.Tables.{written_other}
use Rattle.size_table.specs.Blocks.{Block, IsBlock}
use Rattle.size_table.specs.Made.{tabled}
use Rattle.size_table.specs.Memory.{word_at, written_at}
use Rattle.size_table.specs.Table.{filled}

pub decoded_some : (word : ℕ) (i : Instr) → instruction_of word ≡ Some i → Encodes word i → IsDecoded word i
decoded_some word i e h = record {
  fits = h.0;
  does = λ c d goes. ap (λ (o : Option Instr). effect_of o c) e ∙ goes;
}

pub decoded_none : (word : ℕ) → Fits Ebreak → IsDecoded word Ebreak
decoded_none word f = record {
  fits = f;
  does = λ c d goes. cc;
}

pub none_decoded : (memory : List ℕ) → AreDecoded [] memory
none_decoded memory = record {
  within = omega arith;
  each = λ k other l. absurd (omega (arith, l));
}

pub decoded_more : (text : List Instr) (i : Instr) (memory : List ℕ) → AreDecoded text memory → 4 * (length text + 1) ≤ 2093056 → IsDecoded (word_at memory (4096 + 4 * length text)) i → AreDecoded (text ++ i ∷ []) memory
decoded_more text i memory h room one = record {
  within = let long : length (text ++ i ∷ []) ≡ length text + 1 = length-append text (i ∷ []) in omega (arith, long, room);
  each = λ k other l. elim (cases_lt k (length text)) [
    | inl below ↦ subst (IsDecoded (word_at memory (4096 + 4 * k))) (sym (get_or_append_left text (i ∷ []) other k below)) (h.each k other below)
    | inr from ↦
        let long : length (text ++ i ∷ []) ≡ length text + 1 = length-append text (i ∷ []) in
        let last : k ≡ length text = omega (arith, from, l, long) in
        subst (λ (n : ℕ). IsDecoded (word_at memory (4096 + 4 * n)) (get_or (text ++ i ∷ []) n other)) (sym last)
        (subst (IsDecoded (word_at memory (4096 + 4 * length text))) (sym (get_or-append_right text (i ∷ []) (length text) (length text) other refl (omega arith) ∙ ap (λ (n : ℕ). get_or (i ∷ []) n other) zero_is)) one)
  ];
}
  where
    zero_is : length text - length text ≡ 0
    zero_is = omega arith

-- the bytes of the text are the same
pub KeepsWords : List ℕ → List ℕ → Type 0
KeepsWords old new = (at : ℕ) → at < 2097152 → get_or new at 0 ≡ get_or old at 0

word_same : (old new : List ℕ) (at : ℕ) → at + 3 < 2097152 → KeepsWords old new → word_at old at ≡ word_at new at
unfolding KeepsWords
word_same old new at l h =
    let a = h at (omega (arith, l)) in
    let b = h (at + 1) (omega (arith, l)) in
    let c = h (at + 2) (omega (arith, l)) in
    let d = h (at + 3) (omega (arith, l)) in
    rw (a, b, c, d) refl

pub decoded_kept : (text : List Instr) (old new : List ℕ) → KeepsWords old new → AreDecoded text old → AreDecoded text new
decoded_kept text old new same h = record {
  within = h.within;
  each = λ k other l. subst (λ (w : ℕ). IsDecoded w (get_or text k other)) (word_same old new (4096 + 4 * k) (omega (arith, l, h.within)) same) (h.each k other l);
}

pub written_keeps : (m : List ℕ) (at : ℕ) (bs : List ℕ) → 2097152 ≤ at → KeepsWords m (written_at m at bs)
unfolding KeepsWords
written_keeps m at bs h = λ i l. written_other m at bs i (inl (omega (arith, h, l)))

pub filled_keeps : (m : List ℕ) (at count byte : ℕ) → at + count ≤ length m → 2097152 ≤ at → KeepsWords m (filled m at count byte)
unfolding KeepsWords
filled_keeps m at count byte le h = λ i l. filled_other m at count byte i le (inl (omega (arith, h, l)))

pub tabled_keeps : (m : List ℕ) (byte : ℕ) (b : Block) → IsBlock 4 b → length m ≡ 33554432 → KeepsWords m (tabled byte b m)
tabled_keeps m byte b h long = filled_keeps m (2097152 + b.base / 16) (2 ^ b.exponent / 16) byte (omega (arith, h.within, long)) (omega arith)

-- a memory that was lent whole and came back
lent : (n : ℕ) (old new : List ℕ) → length new ≡ n → length old ≡ n → take n (new ++ drop (length new) old) ≡ new
lent n old new a b =
    ap (λ (t : List ℕ). take n (new ++ t)) (drop_all (length new) old (omega (arith, a, b))) ∙ ap (λ (t : List ℕ). take n t) (append-nil new) ∙ take_all n new (omega (arith, a))

pub decoded_lent : (text : List Instr) (n : ℕ) (old new : List ℕ) → length new ≡ n → length old ≡ n → KeepsWords old new → AreDecoded text old → AreDecoded text (take n (new ++ drop (length new) old))
decoded_lent text n old new a b same h = subst (AreDecoded text) (sym (lent n old new a b)) (decoded_kept text old new same h)

-- what a decoded instruction does, the next step does
pub decoded_step : (c d : Core) (i : Instr) → 4096 ≤ c.pc → c.pc < 2097152 → IsDecoded (word_at c.memory c.pc) i → effect i c ≡ Goes d → core_step c ≡ Goes d
unfolding core_step
decoded_step c d i low high h goes =
    let fetched : ltb c.pc 4096 || leb 2097152 c.pc ≡ false = grind (arith, nat_tests, low, high) in
    ap (λ (b : Bool). cond b (Traps Fetch) (effect_of (instruction_of (word_at c.memory c.pc)) c)) fetched ∙ h.does c d goes

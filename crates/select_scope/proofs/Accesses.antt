-- Accesses of flat code beside those of the machine: both trap alike, and read the same.
use Rattle.std.proofs.Common.{◌≡◌, ◌≢◌, ◌==◌, ℕ, ◌+◌, ◌%◌, ◌^◌, ◌<◌, ◌≤◌, ◌⊎◌, inl, inr, Bool, true, false, if◌then◌else◌, List, [], ◌∷◌, Option, Some, None, refl, sym, ap, ◌∙◌, arith}
use Rattle.std.specs.Prelude.{nat_lt, nat_le, slice_index}
use Rattle.std.proofs.lemmas.Bool.{le-leb, ne_eqb, cases_eq, cases_lt}
use Rattle.bb_words.specs.Numbers.{sum}
use Rattle.bb_words.specs.Steps.{size_of_width}
use Rattle.bb_words.specs.declared.kinds.TrapKind.{TrapKind}
use Rattle.bb_words.specs.declared.kinds.TrapKind.TheVariants as trap
use Rattle.bb_words.specs.declared.steps.Width.{Width}
use Rattle.bb_words.specs.declared.steps.Width.TheVariants as width
use Rattle.bb_watch.specs.declared.event.Event.TheVariants.{Access}
use Rattle.size_table.specs.Memory.{half_at, word_at}
use Rattle.size_table.specs.declared.memory_map.TheConstants.{TEXT_START, TABLE_START, MEMORY_END}
use Rattle.flat_code.specs.World.{Memory, read, Ending}
use Rattle.flat_code.specs.Run.{refusal}
use Rattle.rv_code.specs.Bits.{extended}
use Rattle.rv_machine.specs.State.{Core, register_of, gives}
use Rattle.rv_machine.specs.Instruction.{access_trap, unless_trap, effect, event_of}
use Rattle.rv_selected.specs.Steps.{read_code}

-- ---- Traps

-- The access is made in flat code and in the machine, or traps in both.
abbrev pub Alike : Option Ending → Option TrapKind → Type 0
Alike flat machine = ((flat ≡ None) × (machine ≡ None)) ⊎ ((kind : TrapKind) × (flat ≡ Some (Ending.Trapped kind)) × (machine ≡ Some kind))

pub traps_alike : (at size : ℕ) → refusal at size ≢ Some Ending.Cut → Alike (refusal at size) (access_trap at size)
traps_alike at size mapped = by_tests (nat_lt at TEXT_START) (nat_le (2 ^ 31) at) (nat_le MEMORY_END at) (nat_lt at TABLE_START) (at % size == 0) mapped
  where
    by_tests : (null marked past text even : Bool)
        → (if null then Some (Ending.Trapped trap.Null) else if marked then Some (Ending.Trapped trap.Marked) else if past then Some Ending.Cut else if text then Some Ending.Cut else if even then None else Some (Ending.Trapped trap.Misaligned)) ≢ Some Ending.Cut
        → Alike (if null then Some (Ending.Trapped trap.Null) else if marked then Some (Ending.Trapped trap.Marked) else if past then Some Ending.Cut else if text then Some Ending.Cut else if even then None else Some (Ending.Trapped trap.Misaligned))
        (if null then Some trap.Null else if marked then Some trap.Marked else if past then Some trap.Unmapped else if text then Some trap.Text else if even then None else Some trap.Misaligned)
    by_tests true marked past text even m = inr (trap.Null, refl, refl)
    by_tests false true past text even m = inr (trap.Marked, refl, refl)
    by_tests false false true text even m = absurd (m refl)
    by_tests false false false true even m = absurd (m refl)
    by_tests false false false false true m = inl (refl, refl)
    by_tests false false false false false m = inr (trap.Misaligned, refl, refl)

-- an access that is made lies in the memory, at a multiple of its size
pub made_within : (at size : ℕ) → refusal at size ≡ None → (at < MEMORY_END) × (at % size ≡ 0)
made_within at size made =
    let tests = by_tests (nat_lt at TEXT_START) (nat_le (2 ^ 31) at) (nat_le MEMORY_END at) (nat_lt at TABLE_START) (at % size == 0) made in
    (below tests.0 (cases_lt at MEMORY_END), even tests.1 (cases_eq (at % size) 0))
  where
    by_tests : (null marked past text even : Bool)
        → (if null then Some (Ending.Trapped trap.Null) else if marked then Some (Ending.Trapped trap.Marked) else if past then Some Ending.Cut else if text then Some Ending.Cut else if even then None else Some (Ending.Trapped trap.Misaligned)) ≡ None
        → (past ≡ false) × (even ≡ true)
    by_tests true marked past text even m = absurd (let q : ⊥ = cc in q)
    by_tests false true past text even m = absurd (let q : ⊥ = cc in q)
    by_tests false false true text even m = absurd (let q : ⊥ = cc in q)
    by_tests false false false true even m = absurd (let q : ⊥ = cc in q)
    by_tests false false false false true m = (refl, refl)
    by_tests false false false false false m = absurd (let q : ⊥ = cc in q)

    below : nat_le MEMORY_END at ≡ false → (at < MEMORY_END) ⊎ (MEMORY_END ≤ at) → at < MEMORY_END
    below test (inl lt) = lt
    below test (inr le) = absurd (let e : true ≡ false = sym (le-leb MEMORY_END at le) ∙ test in let q : ⊥ = cc in q)

    even : (at % size == 0) ≡ true → (at % size ≡ 0) ⊎ (at % size ≡ 0 → ⊥) → at % size ≡ 0
    even test (inl is) = is
    even test (inr ne) = absurd (let e : false ≡ true = sym (ne_eqb (at % size) 0 ne) ∙ test in let q : ⊥ = cc in q)

-- so all its bytes do
pub all_within : (w : Width) (at : ℕ) → at < MEMORY_END → at % size_of_width w ≡ 0 → at + size_of_width w ≤ MEMORY_END
all_within width.Byte at lt even = omega (arith, lt)
all_within width.Half at lt even = omega (arith, lt, even)
all_within width.SignedHalf at lt even = omega (arith, lt, even)
all_within width.Word at lt even = omega (arith, lt, even)
all_within width.Pointer at lt even = omega (arith, lt, even)

-- ---- Reads

-- the word that a load puts into a register
abbrev pub machine_reads : Width → List ℕ → (at : ℕ) → ℕ
machine_reads width.Byte memory at = slice_index memory at
machine_reads width.Half memory at = half_at memory at
machine_reads width.SignedHalf memory at = extended 16 (half_at memory at)
machine_reads width.Word memory at = word_at memory at
machine_reads width.Pointer memory at = word_at memory at

pub read_effect : (w : Width) (c : Core)
    → effect (read_code w 5 5) c ≡ unless_trap (access_trap (sum (register_of c 5) 0) (size_of_width w)) (gives 5 (machine_reads w c.memory (sum (register_of c 5) 0)) c)
read_effect width.Byte c = refl
read_effect width.Half c = refl
read_effect width.SignedHalf c = refl
read_effect width.Word c = refl
read_effect width.Pointer c = refl

pub read_event : (w : Width) (c : Core) → event_of (read_code w 5 5) c ≡ Access c.pc (sum (register_of c 5) 0) (size_of_width w) false 5 ∷ []
read_event width.Byte c = refl
read_event width.Half c = refl
read_event width.SignedHalf c = refl
read_event width.Word c = refl
read_event width.Pointer c = refl

same_half : (bytes : List ℕ) (memory : Memory) (at : ℕ) → ((a : ℕ) → at ≤ a → a < at + 2 → slice_index bytes a ≡ memory a) → half_at bytes at ≡ read width.Half memory at
same_half bytes memory at same =
    let a = same at (omega arith) (omega arith) in
    let b = same (at + 1) (omega arith) (omega arith) in
    omega (arith, a, b)

same_word : (bytes : List ℕ) (memory : Memory) (at : ℕ) → ((a : ℕ) → at ≤ a → a < at + 4 → slice_index bytes a ≡ memory a) → word_at bytes at ≡ read width.Word memory at
same_word bytes memory at same =
    let a = same at (omega arith) (omega arith) in
    let b = same (at + 1) (omega arith) (omega arith) in
    let e : at + 2 ≡ at + 1 + 1 = omega arith in
    let g : at + 3 ≡ at + 1 + 1 + 1 = omega arith in
    let c : slice_index bytes (at + 2) ≡ memory (at + 1 + 1) = same (at + 2) (omega arith) (omega arith) ∙ ap memory e in
    let d : slice_index bytes (at + 3) ≡ memory (at + 1 + 1 + 1) = same (at + 3) (omega arith) (omega arith) ∙ ap memory g in
    omega (arith, a, b, c, d)

-- the same bytes are read as the same word
pub same_read : (w : Width) (bytes : List ℕ) (memory : Memory) (at : ℕ) → ((a : ℕ) → at ≤ a → a < at + size_of_width w → slice_index bytes a ≡ memory a)
    → machine_reads w bytes at ≡ read w memory at
same_read width.Byte bytes memory at same = let a = same at (omega arith) (omega arith) in omega (arith, a)
same_read width.Half bytes memory at same = same_half bytes memory at same
same_read width.SignedHalf bytes memory at same = ap (extended 16) (same_half bytes memory at same)
same_read width.Word bytes memory at same = same_word bytes memory at same
same_read width.Pointer bytes memory at same = same_word bytes memory at same

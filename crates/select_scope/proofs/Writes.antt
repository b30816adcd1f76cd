-- Bytes that flat code writes beside those that the machine does.
use Rattle.std.proofs.Common.{◌≡◌, ℕ, ◌+◌, ◌%◌, ◌<◌, ◌≤◌, ◌⊎◌, inl, inr, true, if◌then◌else◌, List, [], ◌∷◌, length, refl, sym, ap, ◌∙◌, arith}
use Rattle.std.specs.Prelude.{slice_index, slice_set}
use Rattle.std.specs.Int.{to_le_bytes, w16, w32}
use Rattle.std.proofs.lemmas.Bool.{eq-eqb, ne_eqb, cases_eq}
use Rattle.std.proofs.lemmas.List.{length-set, get_or-set_same, get_or-set_other}
use Rattle.bb_words.specs.Numbers.{sum}
use Rattle.bb_words.specs.Steps.{size_of_width}
use Rattle.bb_words.specs.declared.steps.Width.{Width}
use Rattle.bb_words.specs.declared.steps.Width.TheVariants as width
use Rattle.bb_watch.specs.declared.event.Event.TheVariants.{Access}
use Rattle.size_table.specs.Memory.{written_at}
use Rattle.flat_code.specs.World.{Memory, with_byte, with_bytes, bytes_of}
use Rattle.rv_machine.specs.State.{Core, register_of, next, with_memory}
use Rattle.rv_machine.specs.Instruction.{access_trap, unless_trap, effect, event_of}
use Rattle.rv_selected.specs.Steps.{write_code}

-- a memory holds the bytes that another has below an end, from an address on
abbrev pub Same : (low high : ℕ) → List ℕ → Memory → Type 0
Same low high bytes memory = (q : ℕ) → low ≤ q → q < high → slice_index bytes q ≡ memory q

set_same : (bytes : List ℕ) (memory : Memory) (low high at byte : ℕ) → at < length bytes → Same low high bytes memory → Same low high (slice_set bytes at byte) (with_byte memory at byte)
set_same bytes memory low high at byte lt same = λ q from to. by_cases q from to (cases_eq q at)
  where
    by_cases : (q : ℕ) → low ≤ q → q < high → (q ≡ at) ⊎ (q ≡ at → ⊥) → slice_index (slice_set bytes at byte) q ≡ with_byte memory at byte q
    by_cases q from to (inl is) =
        ap (slice_index (slice_set bytes at byte)) is ∙ get_or-set_same bytes at byte 0 lt ∙ sym (ap (λ b. if b then byte else memory q) (eq-eqb q at is))
    by_cases q from to (inr ne) = get_or-set_other bytes at q byte 0 ne ∙ same q from to ∙ sym (ap (λ b. if b then byte else memory q) (ne_eqb q at ne))

-- the same bytes are written
pub written_same : (new : List ℕ) (bytes : List ℕ) (memory : Memory) (low high at : ℕ) → at + length new ≤ length bytes → Same low high bytes memory → Same low high (written_at bytes at new) (with_bytes memory at new)
written_same [] bytes memory low high at le same = same
written_same (byte ∷ new) bytes memory low high at le same =
    written_same new (slice_set bytes at byte) (with_byte memory at byte) low high (at + 1) (let size = length-set bytes at byte in omega (arith, size, le))
    (set_same bytes memory low high at byte (omega (arith, le)) same)

-- ---- Stores

-- the bytes that a store writes
abbrev pub machine_writes : Width → (word : ℕ) → List ℕ
machine_writes width.Byte word = word % 256 ∷ []
machine_writes width.Half word = to_le_bytes w16 (word % 65536)
machine_writes width.SignedHalf word = to_le_bytes w16 (word % 65536)
machine_writes width.Word word = to_le_bytes w32 word
machine_writes width.Pointer word = to_le_bytes w32 word

pub write_effect : (w : Width) (c : Core)
    → effect (write_code w 6 5) c
    ≡ unless_trap (access_trap (sum (register_of c 5) 0) (size_of_width w)) (next (with_memory (written_at c.memory (sum (register_of c 5) 0) (machine_writes w (register_of c 6))) c))
write_effect width.Byte c = refl
write_effect width.Half c = refl
write_effect width.SignedHalf c = refl
write_effect width.Word c = refl
write_effect width.Pointer c = refl

pub write_event : (w : Width) (c : Core) → event_of (write_code w 6 5) c ≡ Access c.pc (sum (register_of c 5) 0) (size_of_width w) true 5 ∷ []
write_event width.Byte c = refl
write_event width.Half c = refl
write_event width.SignedHalf c = refl
write_event width.Word c = refl
write_event width.Pointer c = refl

two_bytes : (a b x y : ℕ) → a ≡ x → b ≡ y → ◌≡◌ {A = List ℕ} (a ∷ b ∷ []) (x ∷ y ∷ [])
two_bytes a b x y e g = ap (λ z. z ∷ b ∷ []) e ∙ ap (λ z. x ∷ z ∷ []) g

four_bytes : (a b c d x y z w : ℕ) → a ≡ x → b ≡ y → c ≡ z → d ≡ w → ◌≡◌ {A = List ℕ} (a ∷ b ∷ c ∷ d ∷ []) (x ∷ y ∷ z ∷ w ∷ [])
four_bytes a b c d x y z w e g h k = ap (λ n. n ∷ b ∷ c ∷ d ∷ []) e ∙ ap (λ n. x ∷ n ∷ c ∷ d ∷ []) g ∙ ap (λ n. x ∷ y ∷ n ∷ d ∷ []) h ∙ ap (λ n. x ∷ y ∷ z ∷ n ∷ []) k

half_bytes : (word : ℕ) → to_le_bytes w16 (word % 65536) ≡ bytes_of 2 word
half_bytes word = two_bytes _ _ _ _ (omega arith) (omega arith)

word_bytes : (word : ℕ) → to_le_bytes w32 word ≡ bytes_of 4 word
word_bytes word = four_bytes _ _ _ _ _ _ _ _ (omega arith) (omega arith) (omega arith) (omega arith)

-- they are those that flat code writes
pub same_bytes : (w : Width) (word : ℕ) → machine_writes w word ≡ bytes_of (size_of_width w) word
same_bytes width.Byte word = refl
same_bytes width.Half word = half_bytes word
same_bytes width.SignedHalf word = half_bytes word
same_bytes width.Word word = word_bytes word
same_bytes width.Pointer word = word_bytes word

pub how_many : (w : Width) (word : ℕ) → length (bytes_of (size_of_width w) word) ≡ size_of_width w
how_many width.Byte word = refl
how_many width.Half word = refl
how_many width.SignedHalf word = refl
how_many width.Word word = refl
how_many width.Pointer word = refl

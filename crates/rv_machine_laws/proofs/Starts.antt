-- The machine of an image before its first instruction.
use Rattle.std.proofs.Common.{◌≡◌, ℕ, zero, suc, ◌+◌, ◌-◌, ◌*◌, ◌/◌, ◌%◌, ◌^◌, ◌<◌, ◌≤◌, ◌⊎◌, List, [], ◌∷◌, ◌++◌, length, get_or, set, refl, sym, ap, subst, ◌∙◌, inl, inr, arith, lit<, lit≤, append-nil, append_assoc, get_or-set_same, get_or-set_other, length-set}
use Rattle.std.specs.Prelude.{All, replicate}
use Rattle.std.specs.Int.{to_le_bytes, w32}
use Rattle.std.proofs.lemmas.Bool.{cases_lt, cases_eq}
use Rattle.std.proofs.lemmas.List.{places, same_lists, length-replicate, get_or-replicate, get_or_past}
use Rattle.std.proofs.lemmas.List.Elements.{All-nil, All-from_recursion, recursion_from_All, All-head, All-tail, All-append, All-set, All-replicate}
use Rattle.std.proofs.lemmas.Nat.{pow-add}
use Rattle.rv_image.specs.declared.image.Image.{Image}
use Rattle.rv_image.specs.Rules.{IsImage, Decline}
use Rattle.size_table.specs.Made.{tabled, blocks_from}
use Rattle.rv_machine.specs.Formed.{IsWord, IsByte, IsCore, IsFormed, live_in, IsInHeap}
use Rattle.rv_machine_laws.specs.Laws.{MemoryStarts}
use Rattle.rv_machine.specs.Live.{global_blocks}
use Rattle.size_table.specs.Memory.{word_at, written_at, bytes_of_words, table_bytes, Stand}
use Rattle.rv_machine.specs.Start.{start, start_memory, start_registers}
use Rattle.rv_machine.specs.State.{memory_size}
use Rattle.rv_machine.proofs.BlockLists.{from_aligned, from_disjoint}
use Rattle.rv_machine.proofs.BlockMemory.{IsMemory, size_is, tabled_memory}
use Rattle.rv_machine_laws.proofs.Programs.{words_stand}
use Rattle.rv_machine_laws.proofs.TableMemory.{LawsBelow, added, tabled_marks, first_disjoint, table_at, table_long, table_stays}
use Rattle.rv_machine.proofs.Tables.{written_append, written_long, written_bytes, written_other, table_length}
use Rattle.size_table.specs.Blocks.{Block, block_at, IsBlock, AreDisjoint, count_in}
use Rattle.size_table.specs.Table.{IsTableOf, filled, table_in}

-- ---- Bytes that are written

written_memory : (m : List ℕ) (at : ℕ) (bs : List ℕ) → IsMemory m → All IsByte bs → IsMemory (written_at m at bs)
written_memory m at bs i p = record { size = written_long m at bs ∙ i.size; bytes = written_bytes m at bs i.bytes p }

word_bytes : (word : ℕ) → All IsByte (to_le_bytes w32 word)
word_bytes word =
    let a : word % 256 < 256 = omega arith in
    let b : word / 256 % 256 < 256 = omega arith in
    let c : word / 65536 % 256 < 256 = omega arith in
    let d : word / 16777216 % 256 < 256 = omega arith in
    All-from_recursion IsByte (to_le_bytes w32 word) (a, (b, (c, (d, tt))))

words_bytes : (words : List ℕ) → All IsByte (bytes_of_words words)
words_bytes [] = All-nil IsByte
words_bytes (word ∷ words) = All-append IsByte (to_le_bytes w32 word) (bytes_of_words words) (word_bytes word) (words_bytes words)

words_long : (words : List ℕ) → length (bytes_of_words words) ≡ 4 * length words
words_long [] = refl
words_long (word ∷ words) = let l = words_long words in omega (arith, l)

entries_bytes : (most : ℕ) (es : List ℕ) → most < 256 → Decline most es → All IsByte (table_bytes es)
entries_bytes most [] l d = All-nil IsByte
entries_bytes most (e ∷ es) l d =
    let small : e < 256 = omega (arith, l, d.1) in
    All-append IsByte (replicate (2 ^ (e - 4)) e) (table_bytes es) (All-replicate IsByte (2 ^ (e - 4)) e small) (entries_bytes e es small d.2)

-- copies of a byte that are written are filled in
written_copies : (count : ℕ) (m : List ℕ) (at byte : ℕ) → at + count ≤ length m → written_at m at (replicate count byte) ≡ filled m at count byte
unfolding filled
written_copies zero m at byte le = same_lists _ _ (search (arith, places)) (λ k d h. grind (arith, places))
written_copies (suc count) m at byte le =
    written_copies count (set m at byte) (at + 1) byte (omega (arith, le, length-set m at byte))
    ∙ same_lists _ _ (search (arith, places, length-set)) (λ k d h. let c = cases_eq k at in grind (arith, places, get_or-set_same, get_or-set_other, length-set, c))

-- ---- The size table

-- the table's bytes of a block are written
entry_written : (e base : ℕ) (m : List ℕ) → IsBlock 4 (block_at base e) → length m ≡ 33554432 → written_at m (2097152 + base / 16) (replicate (2 ^ (e - 4)) e) ≡ tabled e (block_at base e) m
entry_written e base m h s =
    let k : e - 4 + 4 ≡ e = omega (arith, h.least) in
    let power = sym (pow-add 2 (e - 4) 4) ∙ ap (λ (n : ℕ). 2 ^ n) k in
    let count : 2 ^ (e - 4) ≡ 2 ^ e / 16 = omega (arith, power) in
    let fits : 2097152 + base / 16 + 2 ^ (e - 4) ≤ length m = omega (arith, h.within, power, s) in
    written_copies (2 ^ (e - 4)) m (2097152 + base / 16) e fits ∙ ap (λ (n : ℕ). filled m (2097152 + base / 16) n e) count

next_entry : (e base : ℕ) → IsBlock 4 (block_at base e) → (base + 2 ^ e) / 16 ≡ base / 16 + 2 ^ (e - 4)
next_entry e base h =
    let k : e - 4 + 4 ≡ e = omega (arith, h.least) in
    let power = sym (pow-add 2 (e - 4) 4) ∙ ap (λ (n : ℕ). 2 ^ n) k in
    omega (arith, power)

entries_table : (below : LawsBelow) (es : List ℕ) (live : List Block) (base : ℕ) (m : List ℕ) → All (IsBlock 4) (blocks_from base es) → AreDisjoint (live ++ blocks_from base es) → IsMemory m → IsTableOf 4 live (table_in m) → IsTableOf 4 (live ++ blocks_from base es) (table_in (written_at m (2097152 + base / 16) (table_bytes es)))
entries_table below [] live base m h d i t = subst (λ (l : List Block). IsTableOf 4 l (table_in m)) (sym (append-nil live)) t
entries_table below (e ∷ es) live base m h d i t =
    let b = block_at base e in
    let block = All-head (IsBlock 4) b (blocks_from (base + 2 ^ e) es) h in
    let at = 2097152 + base / 16 in
    let count = 2 ^ (e - 4) in
    let first = written_at m at (replicate count e) in
    let is = entry_written e base m block i.size in
    let push = append_assoc live (b ∷ []) (blocks_from (base + 2 ^ e) es) in
    let apart = subst AreDisjoint (sym push) d in
    let memory : IsMemory first = subst IsMemory (sym is) (tabled_memory e b m (omega (arith, block.most)) block i) in
    let one = subst (λ (x : List ℕ). IsTableOf 4 (live ++ b ∷ []) (table_in x)) (sym is) (added below live b (table_in m) (table_in (tabled e b m)) (tabled_marks below e b m block i.size) (first_disjoint (live ++ b ∷ []) (blocks_from (base + 2 ^ e) es) apart) t) in
    let place : 2097152 + (base + 2 ^ e) / 16 ≡ at + length (replicate count e) = (let n = next_entry e base block in let l = length-replicate count e in omega (arith, n, l)) in
    let whole = ap (λ (n : ℕ). written_at first n (table_bytes es)) place ∙ sym (written_append m at (replicate count e) (table_bytes es)) in
    subst (λ (x : List ℕ). IsTableOf 4 (live ++ b ∷ blocks_from (base + 2 ^ e) es) (table_in x)) whole
    (subst (λ (l : List Block). IsTableOf 4 l (table_in (written_at first (2097152 + (base + 2 ^ e) / 16) (table_bytes es)))) push
    (entries_table below es (live ++ b ∷ []) (base + 2 ^ e) first (All-tail (IsBlock 4) b (blocks_from (base + 2 ^ e) es) h) apart memory one))

-- ---- The start

zero_at : (n i : ℕ) → get_or {A = ℕ} (replicate n 0) i 0 ≡ 0
zero_at n i = elim (cases_lt i n) [
  | inl within ↦ get_or-replicate n i 0 0 within
  | inr past ↦ get_or_past (replicate n 0) i 0 (let z : ℕ = 0 in let l = length-replicate n z in omega (arith, past, l))
]

zeros : List ℕ
zeros = replicate memory_size 0

with_text : Image → List ℕ
with_text image = written_at zeros 4096 (bytes_of_words image.text)

with_table : Image → List ℕ
with_table image = written_at (with_text image) 2752512 (table_bytes image.globals)

text_memory : (image : Image) → IsMemory (with_text image)
unfolding with_text zeros
text_memory image =
    let zeroed : IsMemory (replicate memory_size 0) = record { size = length-replicate memory_size 0 ∙ size_is; bytes = All-replicate IsByte memory_size 0 (lit< tt) } in
    written_memory (replicate memory_size 0) 4096 (bytes_of_words image.text) zeroed (words_bytes image.text)

-- no block is live before the globals are
text_table : (image : Image) → IsImage image → IsTableOf 4 [] (table_in (with_text image))
unfolding with_text zeros
text_table image h =
    let memory = text_memory image in
    let long = words_long image.text in
    record {
      size = table_long (with_text image) memory.size;
      bytes = λ slot l.
          table_at (with_text image) slot l
          ∙ written_other (replicate memory_size 0) 4096 (bytes_of_words image.text) (2097152 + slot) (inr (let fits = h.text_fits in omega (arith, fits, long)))
          ∙ zero_at memory_size (2097152 + slot);
    }

table_memory : (image : Image) → IsImage image → IsMemory (with_table image)
unfolding with_table
table_memory image h = written_memory (with_text image) 2752512 (table_bytes image.globals) (text_memory image) (entries_bytes 20 image.globals (lit< tt) h.globals_decline)

pub globals_aligned : (image : Image) → IsImage image → All (IsBlock 4) (global_blocks image)
globals_aligned image h = from_aligned 20 10485760 image.globals (lit≤ tt) refl h.globals_decline (let fits = h.globals_fit in omega (arith, fits))

globals_table : (below : LawsBelow) (image : Image) → IsImage image → IsTableOf 4 (global_blocks image) (table_in (with_table image))
unfolding with_table
globals_table below image h =
    entries_table below image.globals [] 10485760 (with_text image) (globals_aligned image h) (from_disjoint 10485760 image.globals) (text_memory image) (text_table image h)

pub start_table : (below : LawsBelow) (image : Image) → IsImage image → All IsByte image.initial → IsTableOf 4 (global_blocks image) (table_in (start_memory image))
unfolding start_memory with_table with_text zeros
start_table below image h b =
    table_stays (global_blocks image) (with_table image) (start_memory image) (written_memory (with_table image) 10485760 image.initial (table_memory image h) b).size
    (λ at low high. written_other (with_table image) 10485760 image.initial at (inl (omega (arith, high)))) (globals_table below image h)

pub start_whole : (image : Image) → IsImage image → All IsByte image.initial → IsMemory (start_memory image)
unfolding start_memory with_table with_text zeros
start_whole image h b = written_memory (with_table image) 10485760 image.initial (table_memory image h) b

start_words : All IsWord start_registers
start_words =
    let zeroed = All-replicate IsWord 32 0 (lit< tt) in
    All-set IsWord (set (replicate 32 0) 2 10485760) 31 2097152 (lit< tt) (All-set IsWord (replicate 32 0) 2 10485760 (lit< tt) zeroed)

pub start_core : (image : Image) → IsImage image → All IsByte image.initial → IsCore (start image).core
unfolding start
start_core image h b =
    let memory = start_whole image h b in
    record {
      pc = (let high = h.entry_high in omega (arith, high));
      registers = refl;
      words = start_words;
      zero = refl;
      memory = memory.size ∙ sym size_is;
      bytes = memory.bytes;
    }

pub start_formed : (image : Image) (input : List ℕ) → IsImage image → All IsByte image.initial → All IsByte input → IsFormed image (record { machine = start image; left = input; told = [] })
unfolding start
start_formed image input h b i = record {
  core = start_core image h b;
  input = i;
  layouts = refl;
  calls = refl;
  few = omega arith;
  heap = record { each = All-nil (IsBlock 4); within = All-nil IsInHeap; disjoint = tt };
  live = λ b. ap (count_in b) (sym (append-nil (global_blocks image)));
}

pub start_byte : (image : Image) (at : ℕ) → get_or (start image).core.memory at 0 ≡ get_or (start_memory image) at 0
unfolding start
start_byte image at = refl

pub start_has_table : (below : LawsBelow) (image : Image) (input : List ℕ) → IsImage image → All IsByte image.initial → IsTableOf 4 (live_in image (record { machine = start image; left = input; told = [] })) (table_in (start image).core.memory)
unfolding start
start_has_table below image input h b = start_table below image h b

-- ---- The text

-- words stand in another memory with the same bytes
word_same : (old new : List ℕ) (at : ℕ) → ((i : ℕ) → i < at + 4 → get_or new i 0 ≡ get_or old i 0) → word_at new at ≡ word_at old at
word_same old new at same = rw (same at (omega arith), same (at + 1) (omega arith), same (at + 2) (omega arith), same (at + 3) (omega arith)) refl

pub stand_same : (words : List ℕ) (old new : List ℕ) (at : ℕ) → ((i : ℕ) → i < at + 4 * length words → get_or new i 0 ≡ get_or old i 0) → Stand old at words → Stand new at words
stand_same [] old new at same s = tt
stand_same (word ∷ words) old new at same s = (
  word_same old new at (λ i l. same i (omega (arith, l))) ∙ s.0,
  stand_same words old new (at + 4) (λ i l. same i (omega (arith, l))) s.1,
)

pub start_stands : (image : Image) → IsImage image → All IsWord image.text → Stand (start_memory image) 4096 image.text
unfolding start_memory with_table with_text zeros
start_stands image h w =
    let words = image.text in
    let fits = h.text_fits in
    let size : length {A = ℕ} (replicate memory_size 0) ≡ 33554432 = length-replicate memory_size 0 ∙ size_is in
    let written = words_stand words (replicate memory_size 0) 4096 (recursion_from_All IsWord words w) (omega (arith, size, fits)) in
    stand_same words (with_text image) (start_memory image) 4096
    (λ i l.
    written_other (with_table image) 10485760 image.initial i (inl (omega (arith, l, fits)))
    ∙ written_other (with_text image) 2752512 (table_bytes image.globals) i (inl (omega (arith, l, fits))))
    written

-- ---- All bytes

-- of bytes that are written, each stands at its index
written_same : (m : List ℕ) (at : ℕ) (bs : List ℕ) (i : ℕ) → i < length bs → at + length bs ≤ length m → get_or (written_at m at bs) (at + i) 0 ≡ get_or bs i 0
written_same m at [] i l h = absurd (omega (arith, l))
written_same m at (b ∷ bs) zero l h =
    let e : at + 0 ≡ at = omega arith in
    ap (λ (k : ℕ). get_or (written_at (set m at b) (at + 1) bs) k 0) e
    ∙ written_other (set m at b) (at + 1) bs at (inl (omega arith))
    ∙ get_or-set_same m at b 0 (omega (arith, h))
written_same m at (b ∷ bs) (suc i) l h =
    let e : at + suc i ≡ at + 1 + i = omega arith in
    ap (λ (k : ℕ). get_or (written_at (set m at b) (at + 1) bs) k 0) e
    ∙ written_same (set m at b) (at + 1) bs i (omega (arith, l)) (omega (arith, h, length-set m at b))

-- the bytes of the global blocks' entries lie in the size table
entries_end : (image : Image) → IsImage image → 2752512 + length (table_bytes image.globals) ≤ 4194304
entries_end image h =
    let long = table_length 20 image.globals h.globals_decline in
    let fits = h.globals_fit in
    omega (arith, long, fits)

start_zero : (image : Image) → IsImage image → (at : ℕ) → (at < 4096) ⊎ (4096 + 4 * length image.text ≤ at) → (at < 2097152) ⊎ (4194304 ≤ at) → (at < 10485760) ⊎ (10485760 + length image.initial ≤ at) → get_or (start_memory image) at 0 ≡ 0
unfolding start_memory with_table with_text zeros
start_zero image h at text table initial =
    let long = words_long image.text in
    let end = entries_end image h in
    written_other (with_table image) 10485760 image.initial at initial
    ∙ written_other (with_text image) 2752512 (table_bytes image.globals) at (by_table end table)
    ∙ written_other (replicate memory_size 0) 4096 (bytes_of_words image.text) at (by_text long text)
    ∙ zero_at memory_size at
  where
    by_table : 2752512 + length (table_bytes image.globals) ≤ 4194304 → (at < 2097152) ⊎ (4194304 ≤ at) → (at < 2752512) ⊎ (2752512 + length (table_bytes image.globals) ≤ at)
    by_table end (inl low) = inl (omega (arith, low))
    by_table end (inr high) = inr (omega (arith, end, high))

    by_text : length (bytes_of_words image.text) ≡ 4 * length image.text → (at < 4096) ⊎ (4096 + 4 * length image.text ≤ at) → (at < 4096) ⊎ (4096 + length (bytes_of_words image.text) ≤ at)
    by_text long (inl low) = inl low
    by_text long (inr high) = inr (omega (arith, long, high))

start_initial : (image : Image) → IsImage image → (i : ℕ) → i < length image.initial → get_or (start_memory image) (10485760 + i) 0 ≡ get_or image.initial i 0
unfolding start_memory with_table with_text zeros
start_initial image h i l =
    let size = (table_memory image h).size in
    let fits = h.initial_fits in
    let most = h.globals_fit in
    written_same (with_table image) 10485760 image.initial i l (omega (arith, size, fits, most))

pub memory_starts : LawsBelow → MemoryStarts
memory_starts below image h bytes words = record {
  text = start_stands image h words;
  table = start_table below image h bytes;
  initial = start_initial image h;
  zero = start_zero image h;
}

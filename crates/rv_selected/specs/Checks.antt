-- The instructions of the three sequences that check pointers. Each is selected as one whole: its temporaries stand in
-- registers, and are not stored, since nothing reads them afterwards.
use Rattle.std.specs.Prelude.{ℕ, ◌+◌, ◌-◌, ◌^◌, List, [], ◌∷◌, ◌++◌}
use Rattle.bb_words.specs.declared.kinds.ReportKind.{ReportKind}
use Rattle.bb_words.specs.declared.kinds.ReportKind.TheVariants.{Bounds, Pointer}
use Rattle.flat_code.specs.Recognized.{Sequence}
use Rattle.marked_ptr.specs.Marked.{half_slot}
use Rattle.rv_asm.specs.declared.parts.BranchOp.{BranchOp}
use Rattle.rv_asm.specs.declared.parts.BranchOp.TheVariants as branch
use Rattle.rv_asm.specs.declared.parts.Part.{Part}
use Rattle.rv_asm.specs.declared.parts.Part.TheVariants.{Label, Branch}
use Rattle.rv_code.specs.declared.instr.Instr.{Instr}
use Rattle.rv_code.specs.declared.instr.Instr.TheVariants.{Lui, Addi, Slli, Srli, Add, Sub, Sll, Srl, Or, Lw, Lbu}
use Rattle.rv_selected.specs.Registers.{load, store, constant}
use Rattle.rv_selected.specs.Steps.{plains, owner_code, look_code, report_code}

-- x7 becomes the slot that owns the word p, and x13 the exponent of its block
abbrev pub find_block : (g p : ℕ) → List Instr
find_block g p = load 5 p ∷ [] ++ owner_code g ++ look_code 13 7

-- x7 becomes the base of the block, x14 its size, and x16 the word p without bit 31
abbrev pub find_base : (g p : ℕ) → List Instr
find_base g p =
    Slli 7 7 g ∷ Srl 7 7 13 ∷ Sll 7 7 13 ∷ Addi 14 0 1 ∷ Sll 14 14 13 ∷ load 5 p ∷ Slli 16 5 1 ∷ Srli 16 16 1 ∷ []

-- then x16 becomes its sum with the distance, and x15 the offset of that
abbrev pub find_offset : (g p : ℕ) → (distance : List Instr) → List Instr
find_offset g p distance = find_base g p ++ distance ++ Add 16 16 6 ∷ Sub 15 16 7 ∷ []

-- half a slot is added to the offset, and a slot to the size
abbrev pub widen : (g : ℕ) → List Instr
widen g = constant 6 (half_slot g) ++ Add 15 15 6 ∷ [] ++ constant 6 (2 ^ g) ++ Add 14 14 6 ∷ []

-- x16 gets bit 31
abbrev pub mark_code : List Instr
mark_code = Lui 6 0x8000_0000 ∷ Or 16 16 6 ∷ []

-- the run ends by a report, unless two registers compare so
abbrev pub unless_parts : BranchOp → (rs1 rs2 n : ℕ) → ReportKind → (line : ℕ) → List Part
unless_parts op rs1 rs2 n kind line = Branch op rs1 rs2 n ∷ [] ++ plains (report_code kind line) ++ Label n ∷ []

-- the move is told, and its result stored
abbrev pub move_end : (p q : ℕ) → List Instr
move_end p q = load 5 p ∷ Add 0 5 16 ∷ store 16 q ∷ []

-- The word p is moved to x16 by the distance that these instructions load into x6. It has the labels n to n + 2.
unfoldable pub move_parts : (g n p : ℕ) → (distance : List Instr) → (q line : ℕ) → List Part
move_parts g n p distance q line =
    plains (find_block g p) ++ unless_parts branch.Bne 13 0 n Bounds line ++ plains (find_offset g p distance)
    ++ Branch branch.Bltu 15 14 (n + 2) ∷ [] ++ plains (widen g) ++ unless_parts branch.Bltu 15 14 (n + 1) Bounds line
    ++ plains mark_code ++ Label (n + 2) ∷ [] ++ plains (move_end p q)

abbrev pub load_begin : (at w : ℕ) → List Instr
load_begin at w = load 5 at ∷ Lw 5 5 0 ∷ store 5 w ∷ []

abbrev pub load_owner : (g w : ℕ) → List Instr
load_owner g w = load 5 w ∷ [] ++ owner_code g ++ constant 6 (2 ^ (25 - g))

-- A pointer is loaded, and is null or has an owner that lies in a block. It has the labels n and n + 1.
unfoldable pub load_parts : (g n w at line : ℕ) → List Part
load_parts g n w at line =
    plains (load_begin at w) ++ Branch branch.Beq 5 0 (n + 1) ∷ [] ++ plains (load_owner g w)
    ++ unless_parts branch.Bltu 7 6 n Pointer line ++ plains (look_code 13 7)
    ++ unless_parts branch.Bne 13 0 (n + 1) Pointer line

abbrev pub count_code : (count : ℕ) → List Instr
count_code count = load 6 count ∷ [] ++ constant 7 0x0100_0001

-- the first byte is touched
abbrev pub touch_code : (p : ℕ) → List Instr
touch_code p = load 5 p ∷ Lbu 5 5 0 ∷ []

abbrev pub last_distance : (count : ℕ) → List Instr
last_distance count = load 6 count ∷ Addi 6 6 0xffff_ffff ∷ []

-- The first and the last of the bytes are touched, unless there are none. It has the labels n to n + 4.
unfoldable pub span_parts : (g n p count q line : ℕ) → List Part
span_parts g n p count q line =
    plains (count_code count) ++ unless_parts branch.Bltu 6 7 n Bounds line ++ Branch branch.Beq 6 0 (n + 1) ∷ []
    ++ plains (touch_code p) ++ move_parts g (n + 2) p (last_distance count) q line ++ plains (Lbu 5 16 0 ∷ []) ++ Label (n + 1) ∷ []

-- A sequence has the labels from n on.
abbrev pub sequence_parts : (g n : ℕ) → Sequence → List Part
sequence_parts g n (Sequence.Move p d q line s e) = move_parts g n p (load 6 d ∷ []) q line
sequence_parts g n (Sequence.Load w at line s e) = load_parts g n w at line
sequence_parts g n (Sequence.Span p count q line d s e) = span_parts g n p count q line

-- how many labels it has
abbrev pub sequence_labels : Sequence → ℕ
sequence_labels (Sequence.Move p d q line s e) = 3
sequence_labels (Sequence.Load w at line s e) = 2
sequence_labels (Sequence.Span p count q line d s e) = 5

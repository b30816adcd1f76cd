-- The instructions of steps.
use Rattle.std.specs.Prelude.{◌==◌, ℕ, ◌+◌, ◌-◌, nat_lt, if◌then◌else◌, List, [], ◌∷◌, ◌++◌, map, slice_index, Option, Some, None}
use Rattle.bb_words.specs.Numbers.{product}
use Rattle.bb_words.specs.declared.kinds.ReportKind.{ReportKind}
use Rattle.bb_words.specs.declared.kinds.ReportKind.TheVariants as report
use Rattle.bb_words.specs.declared.steps.ArithOp.{ArithOp}
use Rattle.bb_words.specs.declared.steps.ArithOp.TheVariants as op
use Rattle.bb_words.specs.declared.steps.Width.{Width}
use Rattle.bb_words.specs.declared.steps.Width.TheVariants as width
use Rattle.flat_code.specs.Code.{FStep}
use Rattle.rv_asm.specs.declared.parts.Part.{Part}
use Rattle.rv_asm.specs.declared.parts.Part.TheVariants.{Plain, Jump}
use Rattle.rv_code.specs.declared.instr.Instr.{Instr}
use Rattle.rv_code.specs.declared.instr.Instr.TheVariants.{Lui, Addi, Xori, Andi, Sltiu, Slli, Srli, Add, Sub, Mul, Mulh, Mulhsu, Mulhu, Div, Divu}
use Rattle.rv_code.specs.declared.instr.Instr.TheVariants.{Rem, Remu, Sll, Srl, Sra, Slt, Sltu, And, Or, Xor, Lw, Lh, Lhu, Lbu, Sw, Sh, Sb, Ecall}
use Rattle.rv_selected.specs.Registers.{load, store, constant, is_short}

-- instructions as parts
abbrev pub plains : List Instr → List Part
plains is = map Plain is

-- ---- Operands

-- A value in x5; nothing is loaded where x5 is known to hold it.
abbrev pub fetch : (known : Option ℕ) → (v : ℕ) → List Instr
fetch None v = load 5 v ∷ []
fetch (Some held) v = if held == v then [] else load 5 v ∷ []

-- which value x5 holds after a step, by what it held before
abbrev pub held_after : (known : Option ℕ) → FStep → Option ℕ
held_after known (FStep.Number to value) = if value == 0 then None else Some to
held_after known (FStep.Same to from) = Some to
held_after known (FStep.Arith to f left right) = Some to
held_after known (FStep.Look to slot) = Some to
held_after known (FStep.FrameAt to offset) = Some to
held_after known (FStep.Load to at w) = Some to
held_after known (FStep.LineMark line) = known
held_after known s = None

-- ---- Operations

-- x5 becomes what an operation on x5 and x6 gives
abbrev pub operation : ArithOp → List Instr
operation op.Add = Add 5 5 6 ∷ []
operation op.Sub = Sub 5 5 6 ∷ []
operation op.Mul = Mul 5 5 6 ∷ []
operation op.Mulh = Mulh 5 5 6 ∷ []
operation op.Mulhsu = Mulhsu 5 5 6 ∷ []
operation op.Mulhu = Mulhu 5 5 6 ∷ []
operation op.Div = Div 5 5 6 ∷ []
operation op.Divu = Divu 5 5 6 ∷ []
operation op.Rem = Rem 5 5 6 ∷ []
operation op.Remu = Remu 5 5 6 ∷ []
operation op.Shl = Sll 5 5 6 ∷ []
operation op.Shr = Srl 5 5 6 ∷ []
operation op.Sar = Sra 5 5 6 ∷ []
operation op.Lts = Slt 5 5 6 ∷ []
operation op.Ltu = Sltu 5 5 6 ∷ []
operation op.And = And 5 5 6 ∷ []
operation op.Or = Or 5 5 6 ∷ []
operation op.Xor = Xor 5 5 6 ∷ []
operation op.Equal = Sub 5 5 6 ∷ Sltiu 5 5 1 ∷ []
operation op.Unequal = Sub 5 5 6 ∷ Sltu 5 0 5 ∷ []
operation op.AtMostSigned = Slt 5 6 5 ∷ Xori 5 5 1 ∷ []
operation op.AtMostUnsigned = Sltu 5 6 5 ∷ Xori 5 5 1 ∷ []

-- ---- Slots and the table

-- x7 becomes the slot that owns the word in x5: that of the word without bit 31, and one less or one more where bit 31 is
-- set, by the bit of half a slot
abbrev pub owner_code : (g : ℕ) → List Instr
owner_code g =
    Srli 6 5 31 ∷ Sub 6 0 6 ∷ Slli 7 5 1 ∷ Srli 7 7 1
    ∷ Srli 12 7 (g - 2) ∷ Andi 12 12 2 ∷ Addi 12 12 0xffff_ffff ∷ And 12 12 6
    ∷ Srli 7 7 g ∷ Add 7 7 12 ∷ []

-- a register becomes the byte of the table that a slot in another has
abbrev pub look_code : (register slot : ℕ) → List Instr
look_code register slot = Add 31 26 slot ∷ Lbu register 31 0 ∷ []

-- ---- Accesses

-- a register becomes what stands at an address in another
abbrev pub read_code : Width → (register address : ℕ) → Instr
read_code width.Byte register address = Lbu register address 0
read_code width.Half register address = Lhu register address 0
read_code width.SignedHalf register address = Lh register address 0
read_code width.Word register address = Lw register address 0
read_code width.Pointer register address = Lw register address 0

abbrev pub write_code : Width → (register address : ℕ) → Instr
write_code width.Byte register address = Sb address register 0
write_code width.Half register address = Sh address register 0
write_code width.SignedHalf register address = Sh address register 0
write_code width.Word register address = Sw address register 0
write_code width.Pointer register address = Sw address register 0

-- ---- The environment

-- the number of a kind of report
abbrev pub kind_number : ReportKind → ℕ
kind_number report.Bounds = 1
kind_number report.Pointer = 2
kind_number report.DivZero = 3
kind_number report.BadFree = 4
kind_number report.Depth = 5
kind_number report.Stack = 6

abbrev pub call_code : (number : ℕ) → List Instr
call_code number = Addi 17 0 number ∷ Ecall ∷ []

-- the run ends by a report, with the line in a value
abbrev pub report_code : ReportKind → (line : ℕ) → List Instr
report_code kind line = load 11 line ∷ Addi 10 0 (kind_number kind) ∷ call_code 6

-- the arguments that a call has: getchar (2) has none, free (5) has a line beside the address
abbrev pub environment_arguments : (call a b : ℕ) → List Instr
environment_arguments call a b =
    if call == 2 then [] else if call == 5 then load 10 a ∷ load 11 b ∷ [] else load 10 a ∷ []

-- ---- Steps

abbrev pub number_code : (to value : ℕ) → List Instr
number_code to value = if value == 0 then store 0 to ∷ [] else constant 5 value ++ store 5 to ∷ []

abbrev pub same_code : (known : Option ℕ) → (to from : ℕ) → List Instr
same_code known to from = fetch known from ++ store 5 to ∷ []

abbrev pub arith_code : (known : Option ℕ) → (to : ℕ) → ArithOp → (left right : ℕ) → List Instr
arith_code known to f left right = fetch known left ++ load 6 right ∷ [] ++ operation f ++ store 5 to ∷ []

abbrev pub slot_code : (g : ℕ) → (known : Option ℕ) → (to from : ℕ) → List Instr
slot_code g known to from = fetch known from ++ owner_code g ++ store 7 to ∷ []

abbrev pub looked_code : (known : Option ℕ) → (to slot : ℕ) → List Instr
looked_code known to slot = fetch known slot ++ look_code 5 5 ++ store 5 to ∷ []

abbrev pub frame_code : (to offset : ℕ) → List Instr
frame_code to offset =
    if is_short offset then Addi 5 8 offset ∷ store 5 to ∷ [] else constant 5 offset ++ Add 5 8 5 ∷ store 5 to ∷ []

abbrev pub loading_code : (known : Option ℕ) → (to at : ℕ) → Width → List Instr
loading_code known to at w = fetch known at ++ read_code w 5 5 ∷ store 5 to ∷ []

abbrev pub storing_code : (known : Option ℕ) → (at from : ℕ) → Width → List Instr
storing_code known at from w = fetch known at ++ load 6 from ∷ write_code w 6 5 ∷ []

abbrev pub checked_code : (known : Option ℕ) → (from to : ℕ) → List Instr
checked_code known from to = fetch known from ++ load 6 to ∷ Add 0 5 6 ∷ []

abbrev pub line_code : (line : ℕ) → Instr
line_code line = Lui 0 (product 4096 line)

abbrev pub environment_code : (to call a b : ℕ) → List Instr
environment_code to call a b = environment_arguments call a b ++ call_code call ++ store 10 to ∷ []

-- the arguments of a call, the first eight, in registers from one on
abbrev pub arguments_code : (register : ℕ) → List ℕ → List Instr
arguments_code register [] = []
arguments_code register (v ∷ vs) = if nat_lt register 26 then load register v ∷ arguments_code (register + 1) vs else []

abbrev pub call_parts : (to function : ℕ) → List ℕ → List Part
call_parts to function args = plains (arguments_code 18 args) ++ Jump 1 function ∷ [] ++ Plain (store 9 to) ∷ []

-- A step without branches. `known` is the value that x5 holds before it.
abbrev pub step_code : (g : ℕ) → (known : Option ℕ) → FStep → List Instr
step_code g known (FStep.Number to value) = number_code to value
step_code g known (FStep.Same to from) = same_code known to from
step_code g known (FStep.Arith to f left right) = arith_code known to f left right
step_code g known (FStep.Slot to from) = slot_code g known to from
step_code g known (FStep.Look to slot) = looked_code known to slot
step_code g known (FStep.FrameAt to offset) = frame_code to offset
step_code g known (FStep.Load to at w) = loading_code known to at w
step_code g known (FStep.Store at from w) = storing_code known at from w
step_code g known (FStep.Checked from to) = checked_code known from to
step_code g known (FStep.LineMark line) = line_code line ∷ []
step_code g known (FStep.Report kind line) = report_code kind line
step_code g known (FStep.Env to call a b) = environment_code to call a b
step_code g known s = []

-- where an Exit goes, by the labels behind the Blocks, Loops and Inners around it, the innermost first
abbrev pub label_out : (exits : List ℕ) → (levels : ℕ) → ℕ
label_out exits levels = slice_index exits (levels - 1)

-- The parts of a step that has no steps in it; `back` is the label of the function's end.
abbrev pub step_parts : (g back : ℕ) → (known : Option ℕ) → (exits : List ℕ) → FStep → List Part
step_parts g back known exits (FStep.Exit levels) = Jump 0 (label_out exits levels) ∷ []
step_parts g back known exits (FStep.Call to function args) = call_parts to function args
step_parts g back known exits (FStep.Return from) = Plain (load 9 from) ∷ Jump 0 back ∷ []
step_parts g back known exits s = plains (step_code g known s)

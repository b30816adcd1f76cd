-- The fields of the instructions that are selected fit, where the numbers of values are below 256 and other numbers are words.
use Rattle.std.proofs.Common.{◌≡◌, ◌==◌, ℕ, ◌+◌, ◌-◌, ◌%◌, ◌^◌, ◌<◌, ◌≤◌, Bool, true, false, ◌&&◌, ◌||◌, if◌then◌else◌, List, [], ◌∷◌, ◌++◌, Option, None, Some, refl, arith, lit<, eqb-true, ltb-true}
use Rattle.std.specs.Prelude.{nat_lt, nat_le}
use Rattle.std.specs.List.{AllByRecursion}
use Rattle.std.proofs.lemmas.Bool.Decides.{nat_tests}
use Rattle.bb_words.specs.declared.kinds.ReportKind.{ReportKind}
use Rattle.bb_words.specs.declared.kinds.ReportKind.TheVariants as report
use Rattle.bb_words.specs.declared.steps.ArithOp.{ArithOp}
use Rattle.bb_words.specs.declared.steps.ArithOp.TheVariants as op
use Rattle.bb_words.specs.declared.steps.Width.{Width}
use Rattle.bb_words.specs.declared.steps.Width.TheVariants as width
use Rattle.rv_asm.specs.Text.{upper_part, lower_part}
use Rattle.rv_code.specs.Bits.{IsSigned}
use Rattle.rv_code.specs.Formats.{Format, RType, IType, SType, BType, UType, JType, PlainType, FitsFormat}
use Rattle.rv_code.specs.Code.{Fits, format_of}
use Rattle.rv_code.specs.declared.instr.Instr.{Instr}
use Rattle.rv_code.specs.declared.instr.Instr.TheVariants.{Lui, Addi, Andi, Slli, Srli, Add, Sub, And, Lbu, Ecall}
use Rattle.rv_selected.specs.Registers.{cell, load, store, constant, is_short}
use Rattle.rv_selected.specs.Steps.{fetch, operation, owner_code, look_code, read_code, write_code, kind_number, call_code, report_code, environment_arguments, number_code, same_code, arith_code, slot_code, looked_code, frame_code, loading_code, storing_code, checked_code, line_code, environment_code, arguments_code}

-- ---- Lists of instructions

pub record AllFit (is : List Instr) : Type 0 where
  pub each : AllByRecursion Fits is

pub none_fits : AllFit []
none_fits = record { each = tt }

pub one_fits : (i : Instr) → Fits i → AllFit (i ∷ [])
one_fits i f = record { each = (f, tt) }

fit_append : (a b : List Instr) → AllByRecursion Fits a → AllByRecursion Fits b → AllByRecursion Fits (a ++ b)
fit_append [] b x y = y
fit_append (i ∷ a) b x y = (x.0, fit_append a b x.1 y)

pub fit_join : {a b : List Instr} → AllFit a → AllFit b → AllFit (a ++ b)
fit_join {a} {b} x y = record { each = fit_append a b x.each y.each }

pub both : (a b : Bool) → (a && b) ≡ true → (a ≡ true) × (b ≡ true)
both true b e = (refl, e)
both false b e = absurd (let q : false ≡ true = e in cc)

-- whether the numbers of a format fit
abbrev pub signed_test : ℕ → Bool
signed_test n = nat_lt n (2 ^ 32) && nat_lt ((n + 2048) % 2 ^ 32) 4096

abbrev pub format_test : Format → Bool
format_test (RType funct7 rs2 rs1 funct3 rd opcode) = nat_lt rs2 32 && (nat_lt rs1 32 && nat_lt rd 32)
format_test (IType imm rs1 funct3 rd opcode) = signed_test imm && (nat_lt rs1 32 && nat_lt rd 32)
format_test (SType imm rs2 rs1 funct3 opcode) = signed_test imm && (nat_lt rs2 32 && nat_lt rs1 32)
format_test (BType imm rs2 rs1 funct3 opcode) = false
format_test (UType imm rd opcode) = nat_lt imm (2 ^ 32) && ((imm % 4096 == 0) && nat_lt rd 32)
format_test (JType imm rd opcode) = false
format_test (PlainType funct12 rs1 funct3 rd opcode) = nat_lt funct12 4096 && (nat_lt rs1 32 && nat_lt rd 32)

signed_fits : (n : ℕ) → signed_test n ≡ true → IsSigned 12 n
signed_fits n e = let t = both (nat_lt n (2 ^ 32)) (nat_lt ((n + 2048) % 2 ^ 32) 4096) e in (ltb-true n (2 ^ 32) t.0, ltb-true ((n + 2048) % 2 ^ 32) 4096 t.1)

two_below : (a b n : ℕ) → (nat_lt a n && nat_lt b n) ≡ true → (a < n) × (b < n)
two_below a b n e = let t = both (nat_lt a n) (nat_lt b n) e in (ltb-true a n t.0, ltb-true b n t.1)

format_fits : (f : Format) → format_test f ≡ true → FitsFormat f
format_fits (RType funct7 rs2 rs1 funct3 rd opcode) e =
    let t = both (nat_lt rs2 32) (nat_lt rs1 32 && nat_lt rd 32) e in
    let r = two_below rs1 rd 32 t.1 in
    (ltb-true rs2 32 t.0, r.0, r.1)
format_fits (IType imm rs1 funct3 rd opcode) e =
    let t = both (signed_test imm) (nat_lt rs1 32 && nat_lt rd 32) e in
    let r = two_below rs1 rd 32 t.1 in
    (signed_fits imm t.0, r.0, r.1)
format_fits (SType imm rs2 rs1 funct3 opcode) e =
    let t = both (signed_test imm) (nat_lt rs2 32 && nat_lt rs1 32) e in
    let r = two_below rs2 rs1 32 t.1 in
    (signed_fits imm t.0, r.0, r.1)
format_fits (BType imm rs2 rs1 funct3 opcode) e = absurd (let q : false ≡ true = e in cc)
format_fits (UType imm rd opcode) e =
    let t = both (nat_lt imm (2 ^ 32)) ((imm % 4096 == 0) && nat_lt rd 32) e in
    let r = both (imm % 4096 == 0) (nat_lt rd 32) t.1 in
    (ltb-true imm (2 ^ 32) t.0, eqb-true (imm % 4096) 0 r.0, ltb-true rd 32 r.1)
format_fits (JType imm rd opcode) e = absurd (let q : false ≡ true = e in cc)
format_fits (PlainType funct12 rs1 funct3 rd opcode) e =
    let t = both (nat_lt funct12 4096) (nat_lt rs1 32 && nat_lt rd 32) e in
    let r = two_below rs1 rd 32 t.1 in
    (ltb-true funct12 4096 t.0, r.0, r.1)

abbrev pub all_test : List Instr → Bool
all_test [] = true
all_test (i ∷ is) = format_test (format_of i) && all_test is

-- instructions whose numbers are known
tests_hold : (is : List Instr) → all_test is ≡ true → AllByRecursion Fits is
tests_hold [] e = tt
tests_hold (i ∷ is) e = let t = both (format_test (format_of i)) (all_test is) e in (format_fits (format_of i) t.0, tests_hold is t.1)

pub tested : (is : List Instr) → all_test is ≡ true → AllFit is
tested is e = record { each = tests_hold is e }

-- ---- Pieces

low_signed : (n : ℕ) → n < 2048 → IsSigned 12 n
low_signed n h = (omega (arith, h), omega (arith, h))

pub load_fits : (r v : ℕ) → r < 32 → v ≤ 255 → Fits (load r v)
load_fits r v h few = (low_signed (cell v) (omega (arith, few)), lit< tt, h)

pub store_fits : (r v : ℕ) → r < 32 → v ≤ 255 → Fits (store r v)
store_fits r v h few = (low_signed (cell v) (omega (arith, few)), h, lit< tt)

pub fetch_fits : (known : Option ℕ) (v : ℕ) → v ≤ 255 → AllFit (fetch known v)
fetch_fits None v few = one_fits (load 5 v) (load_fits 5 v (lit< tt) few)
fetch_fits (Some held) v few = by_test (held == v)
  where
    by_test : (b : Bool) → AllFit (if b then [] else load 5 v ∷ [])
    by_test true = none_fits
    by_test false = one_fits (load 5 v) (load_fits 5 v (lit< tt) few)

short_signed : (n : ℕ) → n < 2 ^ 32 → is_short n ≡ true → IsSigned 12 n
short_signed n h e = by (nat_lt n 2048) (nat_le (2 ^ 32 - 2048) n) refl refl e
  where
    by : (a b : Bool) → nat_lt n 2048 ≡ a → nat_le (2 ^ 32 - 2048) n ≡ b → (a || b) ≡ true → IsSigned 12 n
    by true b p q t = low_signed n (ltb-true n 2048 p)
    by false true p q t = let l : 2 ^ 32 - 2048 ≤ n = grind (arith, nat_tests) in (h, omega (arith, h, l))
    by false false p q t = absurd (let z : false ≡ true = t in cc)

pub lower_fits : (n : ℕ) → IsSigned 12 (lower_part n)
lower_fits n = by (nat_lt (n % 4096) 2048) refl
  where
    by : (b : Bool) → nat_lt (n % 4096) 2048 ≡ b → IsSigned 12 (if b then n % 4096 else n % 4096 + (2 ^ 32 - 2 ^ 12))
    by true e = low_signed (n % 4096) (ltb-true (n % 4096) 2048 e)
    by false e =
        let l : 2048 ≤ n % 4096 = grind (arith, nat_tests) in
        (omega arith, omega (arith, l))

pub constant_fits : (r n : ℕ) → r < 32 → n < 2 ^ 32 → AllFit (constant r n)
constant_fits r n h lt = by (is_short n) (n % 4096 == 0) refl refl
  where
    by : (a b : Bool) → is_short n ≡ a → (n % 4096 == 0) ≡ b → AllFit (if a then Addi r 0 n ∷ [] else if b then Lui r n ∷ [] else Lui r (upper_part n) ∷ Addi r r (lower_part n) ∷ [])
    by true b e f = one_fits (Addi r 0 n) (short_signed n lt e, lit< tt, h)
    by false true e f = one_fits (Lui r n) (lt, eqb-true (n % 4096) 0 f, h)
    by false false e f = fit_join (one_fits (Lui r (upper_part n)) (omega arith, omega arith, h)) (one_fits (Addi r r (lower_part n)) (lower_fits n, h, h))

operation_fits : (f : ArithOp) → AllFit (operation f)
operation_fits op.Add = tested (operation op.Add) refl
operation_fits op.Sub = tested (operation op.Sub) refl
operation_fits op.Mul = tested (operation op.Mul) refl
operation_fits op.Mulh = tested (operation op.Mulh) refl
operation_fits op.Mulhsu = tested (operation op.Mulhsu) refl
operation_fits op.Mulhu = tested (operation op.Mulhu) refl
operation_fits op.Div = tested (operation op.Div) refl
operation_fits op.Divu = tested (operation op.Divu) refl
operation_fits op.Rem = tested (operation op.Rem) refl
operation_fits op.Remu = tested (operation op.Remu) refl
operation_fits op.Shl = tested (operation op.Shl) refl
operation_fits op.Shr = tested (operation op.Shr) refl
operation_fits op.Sar = tested (operation op.Sar) refl
operation_fits op.Lts = tested (operation op.Lts) refl
operation_fits op.Ltu = tested (operation op.Ltu) refl
operation_fits op.And = tested (operation op.And) refl
operation_fits op.Or = tested (operation op.Or) refl
operation_fits op.Xor = tested (operation op.Xor) refl
operation_fits op.Equal = tested (operation op.Equal) refl
operation_fits op.Unequal = tested (operation op.Unequal) refl
operation_fits op.AtMostSigned = tested (operation op.AtMostSigned) refl
operation_fits op.AtMostUnsigned = tested (operation op.AtMostUnsigned) refl

pub owner_fits : (g : ℕ) → g ≤ 24 → AllFit (owner_code g)
owner_fits g most =
    fit_join (tested (Srli 6 5 31 ∷ Sub 6 0 6 ∷ Slli 7 5 1 ∷ Srli 7 7 1 ∷ []) refl)
    (fit_join (one_fits (Srli 12 7 (g - 2)) (omega (arith, most), lit< tt, lit< tt))
    (fit_join (tested (Andi 12 12 2 ∷ Addi 12 12 0xffff_ffff ∷ And 12 12 6 ∷ []) refl)
    (fit_join (one_fits (Srli 7 7 g) (omega (arith, most), lit< tt, lit< tt)) (tested (Add 7 7 12 ∷ []) refl))))

pub look_fits : (r slot : ℕ) → r < 32 → slot < 32 → AllFit (look_code r slot)
look_fits r slot a b = fit_join (one_fits (Add 31 26 slot) (b, lit< tt, lit< tt)) (one_fits (Lbu r 31 0) (low_signed 0 (lit< tt), lit< tt, a))

read_fits : (w : Width) → Fits (read_code w 5 5)
read_fits width.Byte = (low_signed 0 (lit< tt), lit< tt, lit< tt)
read_fits width.Half = (low_signed 0 (lit< tt), lit< tt, lit< tt)
read_fits width.SignedHalf = (low_signed 0 (lit< tt), lit< tt, lit< tt)
read_fits width.Word = (low_signed 0 (lit< tt), lit< tt, lit< tt)
read_fits width.Pointer = (low_signed 0 (lit< tt), lit< tt, lit< tt)

write_fits : (w : Width) → Fits (write_code w 6 5)
write_fits width.Byte = (low_signed 0 (lit< tt), lit< tt, lit< tt)
write_fits width.Half = (low_signed 0 (lit< tt), lit< tt, lit< tt)
write_fits width.SignedHalf = (low_signed 0 (lit< tt), lit< tt, lit< tt)
write_fits width.Word = (low_signed 0 (lit< tt), lit< tt, lit< tt)
write_fits width.Pointer = (low_signed 0 (lit< tt), lit< tt, lit< tt)

pub call_fits : (number : ℕ) → number < 2048 → AllFit (call_code number)
call_fits number h = fit_join (one_fits (Addi 17 0 number) (low_signed number h, lit< tt, lit< tt)) (tested (Ecall ∷ []) refl)

kind_fits : (kind : ReportKind) → kind_number kind < 2048
kind_fits report.Bounds = lit< tt
kind_fits report.Pointer = lit< tt
kind_fits report.DivZero = lit< tt
kind_fits report.BadFree = lit< tt
kind_fits report.Depth = lit< tt
kind_fits report.Stack = lit< tt

pub loaded : (r v : ℕ) → r < 32 → v ≤ 255 → AllFit (load r v ∷ [])
loaded r v h few = one_fits (load r v) (load_fits r v h few)

pub stored : (r v : ℕ) → r < 32 → v ≤ 255 → AllFit (store r v ∷ [])
stored r v h few = one_fits (store r v) (store_fits r v h few)

pub added : (rd rs1 rs2 : ℕ) → rd < 32 → rs1 < 32 → rs2 < 32 → AllFit (Add rd rs1 rs2 ∷ [])
added rd rs1 rs2 a b c = one_fits (Add rd rs1 rs2) (c, b, a)

pub report_fits : (kind : ReportKind) (line : ℕ) → line ≤ 255 → AllFit (report_code kind line)
report_fits kind line few =
    fit_join (loaded 11 line (lit< tt) few) (fit_join (one_fits (Addi 10 0 (kind_number kind)) (low_signed (kind_number kind) (kind_fits kind), lit< tt, lit< tt)) (call_fits 6 (lit< tt)))

arguments_fit : (call a b : ℕ) → a ≤ 255 → b ≤ 255 → AllFit (environment_arguments call a b)
arguments_fit call a b p q = by (call == 2) (call == 5)
  where
    by : (x y : Bool) → AllFit (if x then [] else if y then load 10 a ∷ load 11 b ∷ [] else load 10 a ∷ [])
    by true y = none_fits
    by false true = fit_join (loaded 10 a (lit< tt) p) (loaded 11 b (lit< tt) q)
    by false false = loaded 10 a (lit< tt) p

-- ---- Steps

pub number_fits : (to value : ℕ) → to ≤ 255 → value < 2 ^ 32 → AllFit (number_code to value)
number_fits to value t v = by (value == 0)
  where
    by : (b : Bool) → AllFit (if b then store 0 to ∷ [] else constant 5 value ++ store 5 to ∷ [])
    by true = stored 0 to (lit< tt) t
    by false = fit_join (constant_fits 5 value (lit< tt) v) (stored 5 to (lit< tt) t)

pub same_fits : (known : Option ℕ) (to from : ℕ) → to ≤ 255 → from ≤ 255 → AllFit (same_code known to from)
same_fits known to from t f = fit_join (fetch_fits known from f) (stored 5 to (lit< tt) t)

pub arith_fits : (known : Option ℕ) (to : ℕ) (f : ArithOp) (left right : ℕ) → to ≤ 255 → left ≤ 255 → right ≤ 255 → AllFit (arith_code known to f left right)
arith_fits known to f left right t l r =
    fit_join (fit_join (fit_join (fetch_fits known left l) (loaded 6 right (lit< tt) r)) (operation_fits f)) (stored 5 to (lit< tt) t)

pub slot_fits : (g : ℕ) (known : Option ℕ) (to from : ℕ) → g ≤ 24 → to ≤ 255 → from ≤ 255 → AllFit (slot_code g known to from)
slot_fits g known to from most t f = fit_join (fit_join (fetch_fits known from f) (owner_fits g most)) (stored 7 to (lit< tt) t)

pub looked_fits : (known : Option ℕ) (to slot : ℕ) → to ≤ 255 → slot ≤ 255 → AllFit (looked_code known to slot)
looked_fits known to slot t s = fit_join (fit_join (fetch_fits known slot s) (look_fits 5 5 (lit< tt) (lit< tt))) (stored 5 to (lit< tt) t)

pub frame_fits : (to offset : ℕ) → to ≤ 255 → offset < 2 ^ 32 → AllFit (frame_code to offset)
frame_fits to offset t o = by (is_short offset) refl
  where
    by : (b : Bool) → is_short offset ≡ b → AllFit (if b then Addi 5 8 offset ∷ store 5 to ∷ [] else constant 5 offset ++ Add 5 8 5 ∷ store 5 to ∷ [])
    by true e = fit_join (one_fits (Addi 5 8 offset) (short_signed offset o e, lit< tt, lit< tt)) (stored 5 to (lit< tt) t)
    by false e = fit_join (constant_fits 5 offset (lit< tt) o) (fit_join (added 5 8 5 (lit< tt) (lit< tt) (lit< tt)) (stored 5 to (lit< tt) t))

pub loading_fits : (known : Option ℕ) (to at : ℕ) (w : Width) → to ≤ 255 → at ≤ 255 → AllFit (loading_code known to at w)
loading_fits known to at w t a = fit_join (fetch_fits known at a) (fit_join (one_fits (read_code w 5 5) (read_fits w)) (stored 5 to (lit< tt) t))

pub storing_fits : (known : Option ℕ) (at from : ℕ) (w : Width) → at ≤ 255 → from ≤ 255 → AllFit (storing_code known at from w)
storing_fits known at from w a f = fit_join (fetch_fits known at a) (fit_join (loaded 6 from (lit< tt) f) (one_fits (write_code w 6 5) (write_fits w)))

pub checked_fits : (known : Option ℕ) (from to : ℕ) → from ≤ 255 → to ≤ 255 → AllFit (checked_code known from to)
checked_fits known from to f t = fit_join (fetch_fits known from f) (fit_join (loaded 6 to (lit< tt) t) (added 0 5 6 (lit< tt) (lit< tt) (lit< tt)))

pub line_fits : (line : ℕ) → Fits (line_code line)
line_fits line = (omega arith, omega arith, lit< tt)

pub environment_fits : (to call a b : ℕ) → to ≤ 255 → call < 2048 → a ≤ 255 → b ≤ 255 → AllFit (environment_code to call a b)
environment_fits to call a b t c p q = fit_join (fit_join (arguments_fit call a b p q) (call_fits call c)) (stored 10 to (lit< tt) t)

-- the arguments of a call
abbrev pub AreFew : List ℕ → Type 0
AreFew = AllByRecursion (λ v. v ≤ 255)

pub call_arguments_fit : (vs : List ℕ) (r : ℕ) → AreFew vs → AllFit (arguments_code r vs)
call_arguments_fit [] r h = none_fits
call_arguments_fit (v ∷ vs) r h = by (nat_lt r 26) refl (call_arguments_fit vs (r + 1) h.1)
  where
    by : (b : Bool) → nat_lt r 26 ≡ b → AllFit (arguments_code (r + 1) vs) → AllFit (if b then load r v ∷ arguments_code (r + 1) vs else [])
    by true e rest = let low : r < 32 = omega (arith, ltb-true r 26 e) in fit_join (loaded r v low h.0) rest
    by false e rest = none_fits

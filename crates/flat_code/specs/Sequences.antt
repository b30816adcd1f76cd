-- The three sequences of steps that check pointers: a move, a load of a pointer, and the span of a range. Code that keeps
-- the discipline looks into the size table in these alone. Each has, beside the values that it is about, temporaries of
-- its own, which nothing reads afterwards.
use Rattle.std.specs.Prelude.{◌≡◌, ◌≢◌, ◌==◌, ℕ, ◌-◌, ◌^◌, ◌≤◌, ◌&&◌}
use Rattle.std.specs.Prelude.{◌||◌, not, Bool, true, false, List, [], ◌∷◌, Option, Some, None, nat_lt}
use Rattle.bb_words.specs.Answers.{Answer}
use Rattle.bb_words.specs.declared.kinds.ReportKind.{ReportKind}
use Rattle.bb_words.specs.declared.kinds.ReportKind.TheVariants.{Bounds, Pointer}
use Rattle.bb_words.specs.declared.steps.ArithOp.TheVariants as op
use Rattle.bb_words.specs.declared.steps.Width.TheVariants as width
use Rattle.marked_ptr.specs.Marked.{half_slot, owner_slot}
use Rattle.size_table.specs.Blocks.{Block}
use Rattle.size_table.specs.Table.{byte_of}
use Rattle.marked_ptr.specs.declared.answer.MoveAnswer.{MoveAnswer}
use Rattle.marked_ptr.specs.declared.answer.MoveAnswer.TheVariants as answer
use Rattle.flat_code.specs.Code.{FSteps, none, ◌+++◌, steps}
use Rattle.flat_code.specs.Code.FStep.{Number, Arith, If, Slot, Look, Load, Checked, Report}
use Rattle.flat_code.specs.Told.{Tell}
use Rattle.flat_code.specs.World.{Words, read, FWorld, FPoint, point, spend, tell, Ending, Run, Way}
use Rattle.flat_code.specs.Run.{refusal}

-- a report, with the line in a value
abbrev pub report : ReportKind → (line : ℕ) → FSteps
report kind line = steps (Report kind line ∷ [])

-- ---- The move sequence

-- q becomes the word p without bit 31, plus d
abbrev pub address_steps : (p d q : ℕ) → FSteps
address_steps p d q = steps (Number q 0x7fff_ffff ∷ Arith q op.And p q ∷ Arith q op.Add q d ∷ [])

-- q gets bit 31
abbrev pub mark_steps : (q s : ℕ) → FSteps
mark_steps q s = steps (Number s 0x8000_0000 ∷ Arith q op.Or q s ∷ [])

-- the offset s is at least the block's size e: with half a slot more it is below the size and a slot, or it is reported
abbrev pub outside_steps : (g p d q line s e : ℕ) → FSteps
outside_steps g p d q line s e =
    steps (Number q (half_slot g) ∷ Arith s op.Add s q ∷ Number q (2 ^ g) ∷ Arith e op.Add e q ∷ Arith q op.Ltu s e
    ∷ If q (address_steps p d q +++ mark_steps q s) (report Bounds line) ∷ [])

-- The word p is moved by d to q, over the temporaries s and e. In s stand the slot that owns p, the base of its block, and
-- the offset of the sum from it; in e the block's exponent, and its size.
abbrev pub move_sequence : (g p d q line s e : ℕ) → FSteps
move_sequence g p d q line s e =
    steps (Slot s p ∷ Look e s ∷ If e none (report Bounds line)
    ∷ Number q g ∷ Arith s op.Shl s q ∷ Arith s op.Shr s e ∷ Arith s op.Shl s e
    ∷ Number q 1 ∷ Arith e op.Shl q e
    ∷ Number q 0x7fff_ffff ∷ Arith q op.And p q ∷ Arith q op.Add q d
    ∷ Arith s op.Sub q s ∷ Arith q op.Ltu s e ∷ If q (address_steps p d q) (outside_steps g p d q line s e)
    ∷ Checked p q ∷ [])

-- ---- The load sequence

-- the slot s that owns the word w is none of memory's, or no block holds it: it is reported
abbrev pub owned_steps : (g w line s e : ℕ) → FSteps
owned_steps g w line s e =
    steps (Slot s w ∷ Number e (2 ^ (25 - g)) ∷ Arith e op.Ltu s e
    ∷ If e (steps (Look e s ∷ If e none (report Pointer line) ∷ [])) (report Pointer line) ∷ [])

-- a pointer is loaded from `at` into w, over the temporaries s and e; it is null or belongs to a block
abbrev pub load_sequence : (g w at line s e : ℕ) → FSteps
load_sequence g w at line s e = steps (Load w at width.Pointer ∷ If w (owned_steps g w line s e) none ∷ [])

-- ---- The span sequence

-- the first and the last of n bytes at p are touched
abbrev pub touch_steps : (g p n q line d s e : ℕ) → FSteps
touch_steps g p n q line d s e =
    steps (Load d p width.Byte ∷ Number d 0xffff_ffff ∷ Arith d op.Add n d ∷ [])
    +++ (move_sequence g p d q line s e +++ steps (Load d q width.Byte ∷ []))

-- The n bytes at p lie in one block, and q becomes the address of the last, over the temporaries d, s and e. Nothing is
-- looked at where n is 0.
abbrev pub span_sequence : (g p n q line d s e : ℕ) → FSteps
span_sequence g p n q line d s e =
    steps (Number d 0x0100_0001 ∷ Arith d op.Ltu n d ∷ If d none (report Bounds line) ∷ If n (touch_steps g p n q line d s e) none ∷ [])

-- ---- Values that are apart

-- what a move sets differs from what it reads, and each from the others
pub record MoveApart (p d q line s e : ℕ) : Type 0 where
  pub qp : q ≢ p
  pub qd : q ≢ d
  pub ql : q ≢ line
  pub sp : s ≢ p
  pub sd : s ≢ d
  pub sl : s ≢ line
  pub sq : s ≢ q
  pub ep : e ≢ p
  pub ed : e ≢ d
  pub el : e ≢ line
  pub eq : e ≢ q
  pub es : e ≢ s

pub record LoadApart (w line s e : ℕ) : Type 0 where
  pub wl : w ≢ line
  pub sw : s ≢ w
  pub sl : s ≢ line
  pub ew : e ≢ w
  pub el : e ≢ line
  pub es : e ≢ s

pub record SpanApart (p n q line d s e : ℕ) : Type 0 where
  pub move : MoveApart p d q line s e
  pub np : n ≢ d
  pub nq : n ≢ q
  pub ns : n ≢ s
  pub ne : n ≢ e
  pub dp : d ≢ p
  pub dl : d ≢ line

-- ---- What the sequences do

-- how many instructions a move takes at most: it has 27 steps on its longest way
abbrev pub move_time : ℕ
move_time = 128

-- no value but these three has changed
abbrev pub KeptBut : (q s e : ℕ) → (old new : Words) → Type 0
KeptBut q s e old new = (v : ℕ) → v ≢ q → v ≢ s → v ≢ e → new v ≡ old v

-- The run went on within so much time: q has the word, the move was told, and nothing else has changed but s and e.
pub record WentOn (limit p q s e word : ℕ) (u : FPoint) (r : Run Way) : Type 0 where
  pub words : Words
  pub took : ℕ
  pub within : took ≤ limit
  pub is : r ≡ Answer.Goes Way.On (point words (tell (Tell.Move (u.words p) word) (spend took u.world)))
  pub value : words q ≡ word
  pub kept : KeptBut q s e u.words words

-- The run ended by a report within so much time, and nothing was told.
pub record WasReported (limit line : ℕ) (kind : ReportKind) (u : FPoint) (r : Run Way) : Type 0 where
  pub words : Words
  pub took : ℕ
  pub within : took ≤ limit
  pub is : r ≡ Answer.Ends (Ending.Reported kind (u.words line)) (point words (spend took u.world))

-- the run does what the answer of a move says
abbrev pub DoesMove : (limit : ℕ) → MoveAnswer → (p q line s e : ℕ) → FPoint → Run Way → Type 0
DoesMove limit (answer.Inside word) p q line s e u r = WentOn limit p q s e word.0 u r
DoesMove limit (answer.Marked word) p q line s e u r = WentOn limit p q s e word.0 u r
DoesMove limit answer.Report p q line s e u r = WasReported limit line Bounds u r

-- how many instructions a load of a pointer takes at most, after the access
abbrev pub load_time : ℕ
load_time = 46

-- The word is null, or the slot that owns it is one of memory's and lies in a block.
abbrev pub is_held : (g : ℕ) → List Block → Option ℕ → Bool
is_held g blocks None = false
is_held g blocks (Some slot) = nat_lt slot (2 ^ (25 - g)) && not (byte_of g blocks slot == 0)

abbrev pub may_be_loaded : (g : ℕ) → List Block → (word : ℕ) → Bool
may_be_loaded g blocks word = (word == 0) || is_held g blocks (owner_slot g word)

-- after an access to so many bytes, which took 3 instructions
abbrev pub accessed : (at size : ℕ) → FWorld → FWorld
accessed at size w = tell (Tell.Access at size false) (spend 3 w)

-- The word was loaded into w, within so much time.
pub record WasLoaded (limit w at s e : ℕ) (u : FPoint) (r : Run Way) : Type 0 where
  pub words : Words
  pub took : ℕ
  pub within : took ≤ limit
  pub is : r ≡ Answer.Goes Way.On (point words (spend took (accessed (u.words at) 4 u.world)))
  pub value : words w ≡ read width.Pointer u.world.memory (u.words at)
  pub kept : KeptBut w s e u.words words

-- The access was made, and then the run ended by a report.
pub record WasRefused (limit at line : ℕ) (u : FPoint) (r : Run Way) : Type 0 where
  pub words : Words
  pub took : ℕ
  pub within : took ≤ limit
  pub is : r ≡ Answer.Ends (Ending.Reported Pointer (u.words line)) (point words (spend took (accessed (u.words at) 4 u.world)))

abbrev pub DoesLoad : (accepted : Bool) → (w at line s e : ℕ) → FPoint → Run Way → Type 0
DoesLoad true w at line s e u r = WasLoaded load_time w at s e u r
DoesLoad false w at line s e u r = WasRefused load_time at line u r

-- ---- What a span does

-- how many instructions the part of a span that is tested before any byte is touched takes
abbrev pub span_begin : ℕ
span_begin = 20

-- and how many come between the touch of the first byte and that of the last, at most
abbrev pub span_time : ℕ
span_time = 136

-- no value but these four has changed
abbrev pub SpanKept : (q d s e : ℕ) → (old new : Words) → Type 0
SpanKept q d s e old new = (v : ℕ) → v ≢ q → v ≢ d → v ≢ s → v ≢ e → new v ≡ old v

-- the world after the first byte was touched
abbrev pub first_touched : (p : ℕ) → FPoint → FWorld
first_touched p u = accessed (u.words p) 1 (spend span_begin u.world)

-- Both bytes were touched, and the pointer was moved from the one to the other.
pub record SpanWent (p q d s e word : ℕ) (u : FPoint) (r : Run Way) : Type 0 where
  pub words : Words
  pub took : ℕ
  pub within : took ≤ span_time
  pub is : r ≡ Answer.Goes Way.On (point words (accessed word 1 (tell (Tell.Move (u.words p) word) (spend took (first_touched p u)))))
  pub value : words q ≡ word
  pub kept : SpanKept q d s e u.words words

-- The pointer was moved, and the access to the last byte ended the run.
pub record SpanStopped (ending : Ending) (p word : ℕ) (u : FPoint) (r : Run Way) : Type 0 where
  pub words : Words
  pub took : ℕ
  pub within : took ≤ span_time
  pub is : r ≡ Answer.Ends ending (point words (spend 3 (tell (Tell.Move (u.words p) word) (spend took (first_touched p u)))))

-- The first byte was touched, and the move was reported.
pub record SpanReported (p line : ℕ) (u : FPoint) (r : Run Way) : Type 0 where
  pub words : Words
  pub took : ℕ
  pub within : took ≤ span_time
  pub is : r ≡ Answer.Ends (Ending.Reported Bounds (u.words line)) (point words (spend took (first_touched p u)))

abbrev pub LastTouched : Option Ending → (p q d s e word : ℕ) → FPoint → Run Way → Type 0
LastTouched None p q d s e word u r = SpanWent p q d s e word u r
LastTouched (Some ending) p q d s e word u r = SpanStopped ending p word u r

-- the run does what the answer of the move from the first byte to the last says
abbrev pub DoesSpan : MoveAnswer → (p q line d s e : ℕ) → FPoint → Run Way → Type 0
DoesSpan (answer.Inside word) p q line d s e u r = LastTouched (refusal word.0 1) p q d s e word.0 u r
DoesSpan (answer.Marked word) p q line d s e u r = LastTouched (refusal word.0 1) p q d s e word.0 u r
DoesSpan answer.Report p q line d s e u r = SpanReported p line u r

-- What may be known before an item, as facts about values, and where each fact after an item comes from.
--
-- The taint of values, the rule on temporaries and the spans of ranges are facts of one kind, so that one definition of
-- chains serves all three.
use Rattle.std.specs.Prelude.{◌==◌, ℕ, ◌+◌, Bool, true, false, not, ◌&&◌, ◌||◌, List}
use Rattle.std.specs.Prelude.{[], ◌∷◌, Option, Some, None, nat_lt, nat_le, if◌then◌else◌}
use Rattle.bb_words.specs.declared.steps.ArithOp.{ArithOp}
use Rattle.bb_words.specs.declared.steps.ArithOp.TheVariants as op
use Rattle.size_table.specs.Blocks.{Block, end_of}
use Rattle.flat_code.specs.Code.{FStep}
use Rattle.flat_code.specs.Recognized.{Sequence}
use Rattle.flat_discipline.specs.Items.{Item}

pub data Fact : Type 0 where
  -- The value is untainted: it is null, or a block holds the slot that owns it, or has held it.
  Clean : (v : ℕ) → Fact
  -- It was not last set inside a sequence, unless as that sequence's result.
  Own : (v : ℕ) → Fact
  -- On every path a span sequence of x and n stands before, and neither was set since, nor may a block have ended.
  Spanned : (x n : ℕ) → Fact

-- whether a fact holds after an item
pub data Source : Type 0 where
  Held : Source
  Gone : Source
  From : Fact → Source
  FromCall : (function : ℕ) → Source

-- what is asked of the program around a function's steps
pub record Setting : Type 0 where
  -- the blocks of the global objects
  pub globals : List Block
  -- of the function: how many values it has, how many bytes its frame, and its line
  pub values : ℕ
  pub frame : ℕ
  pub line : ℕ
  -- how many parameters a function has, if there is one of that number
  pub params_of : ℕ → Option ℕ

-- ---- What a list of steps tells by itself

-- the steps of a list that run only where the value i is below n
pub data Guard : Type 0 where
  Free : Guard
  Under : (i n : ℕ) → Guard

-- what just set a value
pub data Origin : Type 0 where
  Other : Origin
  InFrame : (offset : ℕ) → Origin
  Constant : (x : ℕ) → Origin
  AtMost : (m : ℕ) → Origin

pub record Here : Type 0 where
  -- in the leading Ariths of a list that runs only where i is below n
  pub guard : Guard
  -- the value was set by the step before, by testing this
  pub test : ℕ → Guard
  -- the value was last set by this in the same list, and only plain steps stand between
  pub origin : ℕ → Origin

-- at the begin of a list, and after constructs and sequences
abbrev pub untold : Here
untold = record { guard = Guard.Free; test = λ c. Guard.Free; origin = λ v. Origin.Other }

-- at the begin of the steps that an If does where its value is not 0
abbrev pub branch : Here → (cond : ℕ) → Here
branch h cond = record { guard = h.test cond; test = λ c. Guard.Free; origin = λ v. Origin.Other }

-- ---- What a step sets

abbrev pub sets : FStep → Option ℕ
sets (FStep.Number to value) = Some to
sets (FStep.Same to from) = Some to
sets (FStep.Arith to f left right) = Some to
sets (FStep.Call to function args) = Some to
sets (FStep.Slot to from) = Some to
sets (FStep.Look to slot) = Some to
sets (FStep.FrameAt to offset) = Some to
sets (FStep.Load to at width) = Some to
sets (FStep.Env to call a b) = Some to
sets s = None

abbrev pub set_by : Option ℕ → ℕ → Bool
set_by None v = false
set_by (Some to) v = v == to

-- ---- What is told after a step

abbrev pub masked_by : Origin → Origin
masked_by (Origin.Constant m) = Origin.AtMost m
masked_by o = Origin.Other

abbrev pub masked_if : ArithOp → Origin → Origin
masked_if op.And o = masked_by o
masked_if f o = Origin.Other

abbrev pub origin_of : Here → FStep → Origin
origin_of h (FStep.FrameAt to offset) = Origin.InFrame offset
origin_of h (FStep.Number to value) = Origin.Constant value
origin_of h (FStep.Arith to f left right) = masked_if f (h.origin right)
origin_of h s = Origin.Other

abbrev pub kept_unless : Bool → Guard → Guard
kept_unless true guard = Guard.Free
kept_unless false guard = guard

abbrev pub guard_past : Guard → (to : ℕ) → Guard
guard_past Guard.Free to = Guard.Free
guard_past (Guard.Under i n) to = kept_unless ((i == to) || (n == to)) (Guard.Under i n)

abbrev pub guard_after : Guard → FStep → Guard
guard_after guard (FStep.Arith to f left right) = guard_past guard to
guard_after guard s = Guard.Free

abbrev pub test_if : ArithOp → Bool → (i n : ℕ) → Guard
test_if op.Ltu true i n = Guard.Under i n
test_if f t i n = Guard.Free

abbrev pub test_after : FStep → ℕ → Guard
test_after (FStep.Arith to f i n) c = test_if f ((c == to) && (not (i == to) && not (n == to))) i n
test_after s c = Guard.Free

abbrev pub tell : Here → FStep → Here
tell h s = record { guard = guard_after h.guard s; test = test_after s; origin = λ v. if set_by (sets s) v then origin_of h s else h.origin v }

abbrev pub here_after : Item → Here → Here
here_after (Item.Plain s) h = tell h s
here_after i h = untold

-- ---- Taint

-- an address in one of the blocks
abbrev pub lies_in : List Block → ℕ → Bool
lies_in [] x = false
lies_in (b ∷ bs) x = (nat_le b.base x && nat_lt x (end_of b)) || lies_in bs x

-- some block reaches past the address
abbrev pub reach_past : List Block → ℕ → Bool
reach_past [] x = false
reach_past (b ∷ bs) x = nat_lt x (end_of b) || reach_past bs x

-- A masked sum: the base of an object in the frame or among the globals, and a number of at most m. It stays in the frame, or
-- below the end of the global objects.
abbrev pub is_masked : Setting → (base mask : Origin) → Bool
is_masked s (Origin.InFrame o) (Origin.AtMost m) = nat_lt (o + m) s.frame
is_masked s (Origin.Constant b) (Origin.AtMost m) = lies_in s.globals b && reach_past s.globals (b + m)
is_masked s base mask = false

abbrev pub held_if : Bool → Source → Source
held_if true other = Source.Held
held_if false other = other

abbrev pub gone_if : Bool → Source → Source
gone_if true other = Source.Gone
gone_if false other = other

-- An element p + i, where i is below n: it is untainted if the n bytes at p are spanned.
abbrev pub element : Guard → (p i : ℕ) → Source
element Guard.Free p i = Source.Gone
element (Guard.Under j n) p i = if i == j then Source.From (Fact.Spanned p n) else Source.Gone

abbrev pub sum_of : Setting → Here → ArithOp → (left right : ℕ) → Source
sum_of s h op.Add left right = held_if (is_masked s (h.origin left) (h.origin right)) (element h.guard left right)
sum_of s h f left right = Source.Gone

-- is the value that the step sets untainted
abbrev pub clean_of : Setting → Here → FStep → Source
clean_of s h (FStep.Number to value) = held_if ((value == 0) || lies_in s.globals value) Source.Gone
clean_of s h (FStep.Same to from) = Source.From (Fact.Clean from)
clean_of s h (FStep.Arith to f left right) = sum_of s h f left right
clean_of s h (FStep.FrameAt to offset) = Source.Held
clean_of s h (FStep.Call to function args) = Source.FromCall function
clean_of s h (FStep.Env to call a b) = held_if (call == 4) Source.Gone
clean_of s h step = Source.Gone

-- a block may end
abbrev pub may_end : FStep → Bool
may_end (FStep.Call to function args) = true
may_end (FStep.Env to call a b) = true
may_end s = false

-- ---- Facts after an item

abbrev pub plain_source : Setting → Here → FStep → Fact → Source
plain_source s h x (Fact.Clean v) = if set_by (sets x) v then clean_of s h x else Source.From (Fact.Clean v)
plain_source s h x (Fact.Own v) = held_if (set_by (sets x) v) (Source.From (Fact.Own v))
plain_source s h x (Fact.Spanned a n) = gone_if (may_end x || (set_by (sets x) a || set_by (sets x) n)) (Source.From (Fact.Spanned a n))

abbrev pub is_among : ℕ → List ℕ → Bool
is_among v [] = false
is_among v (x ∷ xs) = (v == x) || is_among v xs

-- the temporaries of a sequence, and its result, if it sets that on every path to a word that is null or owned
abbrev pub temporaries : Sequence → List ℕ
temporaries (Sequence.Move p d q line s e) = s ∷ e ∷ []
temporaries (Sequence.Load w at line s e) = s ∷ e ∷ []
temporaries (Sequence.Span p n q line d s e) = d ∷ s ∷ e ∷ []

abbrev pub result : Sequence → ℕ
result (Sequence.Move p d q line s e) = q
result (Sequence.Load w at line s e) = w
result (Sequence.Span p n q line d s e) = q

-- A span may set its result or not, so it says nothing new of it.
abbrev pub gives : Sequence → ℕ → Bool
gives (Sequence.Move p d q line s e) v = v == q
gives (Sequence.Load w at line s e) v = v == w
gives (Sequence.Span p n q line d s e) v = false

abbrev pub spans : Sequence → (x m : ℕ) → Bool
spans (Sequence.Span p n q line d s e) x m = (x == p) && (m == n)
spans q x m = false

abbrev pub may_set : Sequence → ℕ → Bool
may_set q v = (v == result q) || is_among v (temporaries q)

abbrev pub sequence_source : Sequence → Fact → Source
sequence_source q (Fact.Clean v) = held_if (gives q v) (gone_if (is_among v (temporaries q)) (Source.From (Fact.Clean v)))
sequence_source q (Fact.Own v) = held_if (gives q v) (gone_if (is_among v (temporaries q)) (Source.From (Fact.Own v)))
sequence_source q (Fact.Spanned x n) = held_if (spans q x n) (gone_if (may_set q x || may_set q n) (Source.From (Fact.Spanned x n)))

abbrev pub source : Setting → Here → Item → Fact → Source
source s h (Item.Plain x) fact = plain_source s h x fact
source s h (Item.Checks q) fact = sequence_source q fact
source s h i fact = Source.From fact
